-- An answer whose lines name the tidy conditions in the place of their own.
use Rattle.std.proofs.Common.{◌≡◌, ℕ, zero, suc, ◌+◌, ◌*◌, ◌/◌, ◌<◌, ◌≤◌, Bool, true, false, cond as if, ◌||◌, eqb, leb, Some, None, ◌≢◌, ◌-◌, List, [], ◌∷◌, length, get_or, set, drop, sym, refl, ap, ◌∙◌, subst, inl, inr, suc-mul, zero-mul, arith, length-drop, get_or-set_other, get_or-set_same}
use Rattle.std.proofs.lemmas.Bool.{both_ways, cases_lt, cases_eq, lt-ltb, ltb-true, and_from, or_left, or_right, ne_eqb, leb-true}
use Rattle.std.proofs.lemmas.List.{get_or-drop, length-set}
use Rattle.std.proofs.Math.Nat.{le-div_iff_mul-le}
use Rattle.condition.specs.Cond.{Cond, always, never, equal, not_so, both, either}
use Rattle.condition.specs.Store.{count, cond_at, store_told, room_told}
use Rattle.condition.proofs.Lists.{eqb_self}
use Rattle.condition.proofs.Growing.{grown_cond}
use Rattle.evaluate.specs.Filling.{Filling, holds}
use Rattle.list.specs.Layout.{line_size, lines_in, lines_fit, lines_named}
use Rattle.list.specs.Lists.{Line, filled, stands}
use Rattle.list.proofs.Reading.{lines_named_at}
use Rattle.answer.proofs.Steps.{row}
use Rattle.decide.specs.Reaching.{marked}
use Rattle.decide.specs.Standing.{whole_lines}
use Rattle.learn.specs.Dropping.{is_never, without_never, Dropped}
use Rattle.learn.specs.Copying.{Renamed, TidiedAll}
use Rattle.learn.proofs.Meaning.{cells_same, fits_same}
use Rattle.learn.specs.Tidying.{Tidier, reached_count, lines_name, lines_told, Lined, tidy_answer_told, TidiedLines, TidiedAnswer}

-- the nodes that lines name
or_assoc : (a b c : Bool) → (a || (b || c)) ≡ ((a || b) || c)
or_assoc true b c = refl
or_assoc false b c = refl

pub lines_name_none : (w : ℕ) (xs : List ℕ) (j : ℕ) → lines_name 0 w xs j ≡ false
unfolding lines_name
lines_name_none w xs j = refl

name_last : (i w : ℕ) (xs : List ℕ) (j : ℕ) → lines_name (suc i) w xs j ≡ (lines_name i w xs j || eqb (get_or xs (i * line_size w) 0) j)
unfolding lines_name
name_last zero w xs j = rw (zero-mul (line_size w)) (go (eqb (get_or xs 0 0) j))
  where
    go : (b : Bool) → (b || false) ≡ b
    go true = refl
    go false = refl
name_last (suc i) w xs j =
    let e : line_size w + i * line_size w ≡ suc i * line_size w = omega (arith, suc-mul i (line_size w)) in
    ap (λ t. eqb (get_or xs 0 0) j || t) (name_last i w (drop (line_size w) xs) j ∙ rw (get_or-drop (line_size w) xs (i * line_size w) 0, e) refl)
    ∙ or_assoc (eqb (get_or xs 0 0) j) (lines_name i w (drop (line_size w) xs) j) (eqb (get_or xs (suc i * line_size w) 0) j)

pub lines_name_more : (i w : ℕ) (xs : List ℕ) (j : ℕ) → lines_name (i + 1) w xs j ≡ (lines_name i w xs j || eqb (get_or xs (i * line_size w) 0) j)
lines_name_more i w xs j = let e : i + 1 ≡ suc i = omega arith in rw e (name_last i w xs j)

pub lines_name_at : (n w i : ℕ) (xs : List ℕ) → i < n → lines_name n w xs (get_or xs (i * line_size w) 0) ≡ true
lines_name_at zero w i xs l = absurd (omega arith)
lines_name_at (suc n) w i xs l = name_last n w xs (get_or xs (i * line_size w) 0) ∙ elim (cases_lt i n) [
  | inl p ↦ or_left (lines_name n w xs (get_or xs (i * line_size w) 0)) _ (lines_name_at n w i xs p)
  | inr p ↦ let q : i ≡ n = omega arith in or_right (lines_name n w xs (get_or xs (i * line_size w) 0)) _ (rw q (eqb_self (get_or xs (n * line_size w) 0)))
]

-- one line more is renamed
pub renamed_none : (f : ℕ → ℕ) (w : ℕ) (xs : List ℕ) → Renamed f 0 w xs xs
renamed_none f w xs = record { long = refl; head = λ i l. absurd (omega arith); body = λ i t l b. absurd (omega arith); past = λ k l. refl }

pub renamed_more : (f : ℕ → ℕ) (w n at v : ℕ) (xs ys : List ℕ) → Renamed f n w xs ys → at ≡ n * line_size w → at < length ys → v ≡ f (get_or ys at 0) → Renamed f (n + 1) w xs (set ys at v)
renamed_more f w n at v xs ys r e long is = record {
  long = length-set ys at v ∙ r.long;
  head = λ i l. elim (cases_lt i n) [
    | inl p ↦ let k = row i n (line_size w) p in let ne : i * line_size w ≢ at = omega arith in get_or-set_other ys at (i * line_size w) v 0 ne ∙ r.head i p
    | inr p ↦
        let q : i ≡ n = omega arith in
        rw (q, ← e) (get_or-set_same ys at v 0 long ∙ (is ∙ ap f (r.past at (omega arith))))
  ];
  body = λ i t l b. elim (cases_lt i n) [
    | inl p ↦ let k = row i n (line_size w) p in let ne : i * line_size w + 1 + t ≢ at = omega arith in get_or-set_other ys at (i * line_size w + 1 + t) v 0 ne ∙ r.body i t p b
    | inr p ↦
        let q : i ≡ n = omega arith in
        rw (q, ← e) (let ne : at + 1 + t ≢ at = omega arith in get_or-set_other ys at (at + 1 + t) v 0 ne ∙ r.past (at + 1 + t) (omega arith))
  ];
  past = λ k l.
      let m = suc-mul n (line_size w) in let o : n + 1 ≡ suc n = omega arith in let l₁ : suc n * line_size w ≤ k = rw o at l in
      let ne : k ≢ at = omega arith in get_or-set_other ys at k v 0 ne ∙ r.past k (omega arith);
}

renamed_tail : (f : ℕ → ℕ) (n w : ℕ) (xs ys : List ℕ) → Renamed f (suc n) w xs ys → Renamed f n w (drop (line_size w) xs) (drop (line_size w) ys)
renamed_tail f n w xs ys r =
    let m : (i : ℕ) → line_size w + i * line_size w ≡ suc i * line_size w = λ i. omega (arith, suc-mul i (line_size w)) in
    record {
      long = length-drop (line_size w) ys ∙ (ap (λ t. t - line_size w) r.long ∙ sym (length-drop (line_size w) xs));
      head = λ i l. rw (get_or-drop (line_size w) ys (i * line_size w) 0, get_or-drop (line_size w) xs (i * line_size w) 0, m i) (r.head (suc i) (omega arith));
      body = λ i t l b.
          let e : line_size w + (i * line_size w + 1 + t) ≡ suc i * line_size w + 1 + t = omega (arith, m i) in
          rw (get_or-drop (line_size w) ys (i * line_size w + 1 + t) 0, get_or-drop (line_size w) xs (i * line_size w + 1 + t) 0, e) (r.body (suc i) t (omega arith) b);
      past = λ k l. rw (get_or-drop (line_size w) ys k 0, get_or-drop (line_size w) xs k 0) (r.past (line_size w + k) (omega (arith, m n)));
    }

-- lines are tidied where their nodes are
pub lines_tidied : (nodes nodes₁ : List ℕ) (f : ℕ → ℕ) (n w : ℕ) (xs ys : List ℕ) → Renamed f n w xs ys →
    ((i : ℕ) → i < n → Tidier (cond_at nodes (get_or xs (i * line_size w) 0)) (cond_at nodes₁ (f (get_or xs (i * line_size w) 0)))) → TidiedLines (lines_in nodes n w xs) (lines_in nodes₁ n w ys)
unfolding lines_in TidiedLines
lines_tidied nodes nodes₁ f zero w xs ys r h = tt
lines_tidied nodes nodes₁ f (suc n) w xs ys r h =
    let z = zero-mul (line_size w) in
    let m : (i : ℕ) → line_size w + i * line_size w ≡ suc i * line_size w = λ i. omega (arith, suc-mul i (line_size w)) in (
      record {
        cells = cells_same w (drop 1 xs) (drop 1 ys) (λ t l. rw (get_or-drop 1 ys t 0, get_or-drop 1 xs t 0) (rw z at (r.body 0 t (omega arith) l)));
        tidier = subst (λ (k : ℕ). Tidier (cond_at nodes (get_or xs 0 0)) (cond_at nodes₁ k)) (sym (rw z at (r.head 0 (omega arith)))) (rw z at (h 0 (omega arith)));
      },
      lines_tidied nodes nodes₁ f n w (drop (line_size w) xs) (drop (line_size w) ys) (renamed_tail f n w xs ys r)
          (λ i l. rw (get_or-drop (line_size w) xs (i * line_size w) 0, m i) (h (suc i) (omega arith))),
    )

-- and their cells are cells as before
pub renamed_fit : (f : ℕ → ℕ) (n w : ℕ) (xs ys : List ℕ) → Renamed f n w xs ys → lines_fit n w ys ≡ lines_fit n w xs
unfolding lines_fit
renamed_fit f zero w xs ys r = refl
renamed_fit f (suc n) w xs ys r =
    let z = zero-mul (line_size w) in
    rw (
      fits_same w (drop 1 xs) (drop 1 ys) (λ t l. rw (get_or-drop 1 ys t 0, get_or-drop 1 xs t 0) (rw z at (r.body 0 t (omega arith) l))),
      renamed_fit f n w (drop (line_size w) xs) (drop (line_size w) ys) (renamed_tail f n w xs ys r),
    ) refl

-- lines name what stands where each does
pub lines_named_from : (c n w : ℕ) (ys : List ℕ) → ((i : ℕ) → i < n → get_or ys (i * line_size w) 0 < c) → lines_named c n w ys ≡ true
unfolding lines_named
lines_named_from c zero w ys h = refl
lines_named_from c (suc n) w ys h =
    let z = zero-mul (line_size w) in
    let m : (i : ℕ) → line_size w + i * line_size w ≡ suc i * line_size w = λ i. omega (arith, suc-mul i (line_size w)) in
    and_from _ _ (lt-ltb (get_or ys 0 0) c (rw z at (h 0 (omega arith))))
    (lines_named_from c n w (drop (line_size w) ys) (λ i l. rw (get_or-drop (line_size w) ys (i * line_size w) 0, m i) (h (suc i) (omega arith))))

-- tidied lines have the same rows under every filling
pub tidied_filled : (v : Filling) (ls ms : List Line) → TidiedLines ls ms → filled v ms ≡ filled v ls
unfolding filled TidiedLines
tidied_filled v [] [] t = refl
tidied_filled v [] (m ∷ ms) t = absurd t
tidied_filled v (l ∷ ls) [] t = absurd t
tidied_filled v (l ∷ ls) (m ∷ ms) t = rw (t.0.tidier.same v, t.0.cells, tidied_filled v ls ms t.1) refl

-- lines under never have no rows
never_holds : (v : Filling) (c : Cond) → is_never c ≡ true → holds v c ≡ false
unfolding holds
never_holds v always h = absurd (both_ways false refl h)
never_holds v never h = refl
never_holds v (equal a b) h = absurd (both_ways false refl h)
never_holds v (not_so c) h = absurd (both_ways false refl h)
never_holds v (both c d) h = absurd (both_ways false refl h)
never_holds v (either c d) h = absurd (both_ways false refl h)

pub without_filled : (v : Filling) (ls : List Line) → filled v (without_never ls) ≡ filled v ls
unfolding filled without_never
without_filled v [] = refl
without_filled v (l ∷ ls) = go (is_never l.if_so) refl (without_filled v ls)
  where
    go : (b : Bool) → is_never l.if_so ≡ b → filled v (without_never ls) ≡ filled v ls → filled v (if b (without_never ls) (l ∷ without_never ls)) ≡ filled v (l ∷ ls)
    go true e ih = rw (never_holds v l.if_so e) ih
    go false e ih = rw ih refl

pub mark_more : (ms : List Bool) (at j : ℕ) → at < length ms → marked (set ms at true) j ≡ (marked ms j || eqb at j)
mark_more ms at j l = elim (cases_eq j at) [
  | inl e ↦ rw (e, get_or-set_same ms at true false l, eqb_self at) (sym (or_right (marked ms at) true refl))
  | inr ne ↦ rw (ne_eqb at j (λ e. ne (sym e))) (get_or-set_other ms at j true false ne ∙ last (marked ms j))
]
  where
    last : (b : Bool) → b ≡ (b || false)
    last true = refl
    last false = refl

-- where fewer lines lie whole in the slice, number 7 is told
pub told_seven : (nodes answer : List ℕ) (n w k : ℕ) → None ≡ store_told nodes → k ≡ whole_lines n w answer → lines_named (count nodes) k w answer ≡ true → (k ≡ n → ⊥) →
    Some (7, length answer) ≡ lines_told nodes answer n w
told_seven nodes answer n w k e is named ne = go (leb (n * line_size w) (length answer)) refl
  where
    go : (b : Bool) → leb (n * line_size w) (length answer) ≡ b → Some (7, length answer) ≡ lines_told nodes answer n w
    go true t =
        let l : n ≤ length answer / line_size w = (le-div_iff_mul-le {k = line_size w} {x = n} {y = length answer} (omega arith)).1 (leb-true (n * line_size w) (length answer) t) in
        absurd (ne (omega (arith, is)))
    go false f = rw (sym e, sym is, named, f) refl

pub told_lined : (nodes answer : List ℕ) (n w : ℕ) → None ≡ lines_told nodes answer n w → tidy_answer_told nodes answer n w ≡ room_told nodes (reached_count nodes (lines_name n w answer))
told_lined nodes answer n w e = rw (sym e) refl

-- the place of the node of each line, in a store and an answer that are checked
module _ (nodes answer : List ℕ) (n w : ℕ) (l : Lined nodes answer n w) where
  pub line_stands : (i : ℕ) → i < n → get_or answer (i * line_size w) 0 < count nodes
  line_stands i b = ltb-true (get_or answer (i * line_size w) 0) (count nodes) (lines_named_at (count nodes) n w i answer b l.named)

  -- the lines that were renamed name what stands
  pub renamed_named : (nodes₁ ps cs answer₁ : List ℕ) → TidiedAll nodes (lines_name n w answer) nodes₁ ps cs → Renamed (λ j. get_or cs (get_or ps j 0) 0) n w answer answer₁ →
      lines_named (count nodes₁) n w answer₁ ≡ true
  renamed_named nodes₁ ps cs answer₁ t r =
      lines_named_from (count nodes₁) n w answer₁ (λ i b. rw (r.head i b) (t.stand (get_or answer (i * line_size w) 0) (line_stands i b) (lines_name_at n w i answer b)))

  pub answer_tidied : (nodes₁ ps cs answer₁ : List ℕ) → TidiedAll nodes (lines_name n w answer) nodes₁ ps cs → Renamed (λ j. get_or cs (get_or ps j 0) 0) n w answer answer₁ →
      (m : ℕ) (answer₂ : List ℕ) → Dropped nodes₁ n w answer₁ m answer₂ → TidiedAnswer nodes answer n w m nodes₁ answer₂
  answer_tidied nodes₁ ps cs answer₁ t r m answer₂ d =
      let f : ℕ → ℕ = λ j. get_or cs (get_or ps j 0) 0 in
      let named : (i : ℕ) → i < n → lines_name n w answer (get_or answer (i * line_size w) 0) ≡ true = λ i b. lines_name_at n w i answer b in
      let lines : TidiedLines (lines_in nodes n w answer) (lines_in nodes₁ n w answer₁) =
      lines_tidied nodes nodes₁ f n w answer answer₁ r (λ i b. t.tidier (get_or answer (i * line_size w) 0) (line_stands i b) (named i b)) in
      record {
        lines = (lines_in nodes₁ n w answer₁, lines, d.lines);
        left = d.few;
        named = lines_named_from (count nodes₁) m w answer₂ (λ j b.
            let k = d.heads j b in rw k.2 (ltb-true _ (count nodes₁) (lines_named_at (count nodes₁) n w k.0 answer₁ k.1 (renamed_named nodes₁ ps cs answer₁ t r))));
        fit = λ h. d.cells (renamed_fit f n w answer answer₁ r ∙ h);
        long = d.long ∙ r.long;
        past = λ k l. d.past k l ∙ r.past k l;
        answers = λ what ts q a v h row.
            ap (stands row) (ap (filled v) d.lines ∙ (without_filled v (lines_in nodes₁ n w answer₁) ∙ tidied_filled v (lines_in nodes n w answer) (lines_in nodes₁ n w answer₁) lines)) ∙ a v h row;
        grown = t.grown;
        few = t.few;
        store = t.store;
        conditions = grown_cond nodes nodes₁ t.grown;
      }
