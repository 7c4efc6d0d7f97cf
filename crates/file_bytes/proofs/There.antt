-- Lists that are there, with more behind them and without it.
use Rattle.std.proofs.Common.{◌≡◌, ℕ, zero, suc, ◌*◌, ◌≤◌, inl, inr, List, ◌++◌, length, drop, sym, refl, ap, ◌∙◌, below_more, arith, length-drop, length-append}
use Rattle.std.proofs.lemmas.List.{get_or_append_left, drop-append-le}
use Rattle.condition.specs.declared.Refusal.{Refusal}
use Rattle.condition.specs.declared.Refusal.TheVariants.{NoMemory}
use Rattle.file_bytes.specs.Numbers.{number_at}
use Rattle.file_bytes.specs.Listing.{list_long, lists_long, behind_lists, ListThere, AllThere, ListsThere, ListsTold}
use Rattle.file_bytes.proofs.Reading.{lists_none, lists_next}

pub number_front : (ys ds : List ℕ) → 4 ≤ length ys → number_at (ys ++ ds) ≡ number_at ys
number_front ys ds l =
    omega (arith, get_or_append_left ys ds 0 0 (omega arith), get_or_append_left ys ds 0 1 (omega arith), get_or_append_left ys ds 0 2 (omega arith), get_or_append_left ys ds 0 3 (omega arith))

second_front : (ys ds : List ℕ) → 8 ≤ length ys → number_at (drop 4 (ys ++ ds)) ≡ number_at (drop 4 ys)
second_front ys ds l = rw (drop-append-le 4 ys ds (omega arith)) (number_front (drop 4 ys) ds (omega (arith, length-drop 4 ys)))

list_front : (ys ds : List ℕ) → 8 ≤ length ys → list_long (ys ++ ds) ≡ list_long ys
list_front ys ds l = rw (number_front ys ds (omega arith), second_front ys ds l) refl

there_more : (most : ℕ) (ys ds : List ℕ) → ListThere most ys → ListThere most (ys ++ ds)
there_more most ys ds h =
    let n = number_front ys ds (omega arith) in
    let s = second_front ys ds h.0 in
    let f = list_front ys ds h.0 in
    let z = length-append ys ds in
    (omega (arith, z), omega (arith, n), omega (arith, s), omega (arith, s), omega (arith, f, z))

there_less : (most : ℕ) (ys ds : List ℕ) → ListThere most (ys ++ ds) → 4 * list_long (ys ++ ds) ≤ length ys → ListThere most ys
there_less most ys ds h l =
    let z : 8 ≤ length ys = omega arith in
    let n = number_front ys ds (omega arith) in
    let s = second_front ys ds z in
    let f = list_front ys ds z in
    (z, omega (arith, n), omega (arith, s), omega (arith, s), omega (arith, f))

behind_front : (k : ℕ) (xs ds : List ℕ) → lists_long k (xs ++ ds) ≡ lists_long k xs → 4 * lists_long k xs ≤ length xs → behind_lists k (xs ++ ds) ≡ behind_lists k xs ++ ds
behind_front k xs ds e l = rw e (drop-append-le (4 * lists_long k xs) xs ds l)

all_next : (most k : ℕ) (bs : List ℕ) → AllThere most k bs → ListThere most (behind_lists k bs) → AllThere most (suc k) bs
all_next most k bs h t = λ j l. below_more (λ (i : ℕ). ListThere most (behind_lists i bs)) k h t j (omega arith)

pub all_more : (most k : ℕ) (xs ds : List ℕ) → AllThere most k xs → AllThere most k (xs ++ ds) × (lists_long k (xs ++ ds) ≡ lists_long k xs) × (4 * lists_long k xs ≤ length xs)
all_more most zero xs ds h = (λ j l. absurd (omega arith), lists_none (xs ++ ds) ∙ sym (lists_none xs), omega (arith, lists_none xs))
all_more most (suc k) xs ds h =
    let ih = all_more most k xs ds (λ j l. h j (omega arith)) in
    let t = h k (omega arith) in
    let e = behind_front k xs ds ih.1 ih.2 in
    let a : ListThere most (behind_lists k (xs ++ ds)) = rw e (there_more most (behind_lists k xs) ds t) in
    let f : list_long (behind_lists k (xs ++ ds)) ≡ list_long (behind_lists k xs) = rw e (list_front (behind_lists k xs) ds t.0) in (
      all_next most k (xs ++ ds) ih.0 a,
      omega (arith, lists_next k (xs ++ ds), lists_next k xs, ih.1, f),
      omega (arith, lists_next k xs, t.4, length-drop (4 * lists_long k xs) xs),
    )

pub all_less : (most k : ℕ) (xs ds : List ℕ) → AllThere most k (xs ++ ds) → 4 * lists_long k (xs ++ ds) ≤ length xs → AllThere most k xs × (lists_long k xs ≡ lists_long k (xs ++ ds))
all_less most zero xs ds h l = (λ j m. absurd (omega arith), lists_none xs ∙ sym (lists_none (xs ++ ds)))
all_less most (suc k) xs ds h l =
    let n = lists_next k (xs ++ ds) in
    let ih = all_less most k xs ds (λ j m. h j (omega arith)) (omega arith) in
    let t = h k (omega arith) in
    let e = behind_front k xs ds (sym ih.1) (omega (arith, ih.1)) in
    let f = ap list_long e in
    let t₁ = rw e at t in
    let b = there_less most (behind_lists k xs) ds t₁ (omega (arith, ih.1, f, length-drop (4 * lists_long k xs) xs)) in
    let g = list_front (behind_lists k xs) ds b.0 in
    (all_next most k xs ih.0 b, omega (arith, lists_next k xs, ih.1, f, g))

-- of lists that are there only want of memory is told
pub told_there : (most : ℕ) (bs : List ℕ) (e : Refusal) → ListsThere most bs → ListsTold most bs e → e ≡ NoMemory
told_there most bs e h (inl (inl (_, inl l))) = absurd (omega arith)
told_there most bs e h (inl (inl (_, inr l))) = absurd (omega arith)
told_there most bs e h (inl (inr (_, l))) = absurd (omega arith)
told_there most bs e h (inr (inl m)) = m
told_there most bs e h (inr (inr (j, (_, c)))) = absurd (c.2 (h.3 j c.0))
