-- Reading a question into parts: one law for each kind of sign.
use Rattle.std.proofs.Common.{◌≡◌, ℕ, zero, suc, ◌+◌, ◌-◌, ◌*◌, ◌<◌, ◌≤◌, true, false, ◌&&◌, leb, ◌⊎◌, List, length, get_or, drop, set, sym, refl, ap, ◌∙◌, inl, inr, arith, length-drop}
use Rattle.std.proofs.lemmas.List.{drop-drop, get_or-drop, get_or_read, get_or-set_same, get_or-set_other, drop-set-lt, length-set}
use Rattle.std.proofs.lemmas.Bool.{le-leb, lt-leb, lt-ltb, le-ltb, eq-eqb, ne_eqb}
use Rattle.query.specs.Reading.{Sized, of_list, of_test, of_columns, of_join, of_union, of_without, test_fits, all_below, a_list, a_test, some_columns, a_join, a_union, a_without, no_sign, read, bad, reads, by_sign, sign_in}
use Rattle.query.specs.Reading.{Sign as ReadingSign}
use Rattle.query.specs.Ask.{Query}
use Rattle.query.specs.Shapes.{no_part, part_at, test_of, columns_of, query_by, query_of}
use Rattle.query.specs.declared.Test.{Test}
use Rattle.query.specs.Parts.{sized_by, sized_of, Numbers, FitsBy, NeedsBy, Parted, Reads}
use Rattle.query.specs.declared.Sign.{Sign}
use Rattle.query.specs.declared.Sign.TheVariants.{Rows, Keep, Columns, Join, Union, Without}
use Rattle.query.specs.declared.Part.{Part}
use Rattle.query.specs.declared.columns.Columns as chosen

-- What a sign says of the questions that it needs carries over to others that are alike.
abbrev Carried : Sign → ℕ → List (ℕ × ℕ) → (f g : ℕ → Sized) → (ℕ → ℕ → Type 0) → Type 0
Carried sign u ss f g Q = (sized_by sign ss g ≡ sized_by sign ss f) × (FitsBy sign ss f → FitsBy sign ss g) × NeedsBy sign u Q

module _ (u : ℕ) (ss : List (ℕ × ℕ)) (f g : ℕ → Sized) (P Q : ℕ → ℕ → Type 0) (same : (i v : ℕ) → i + v ≤ u → P i v → Q i v × (g i ≡ f i)) where
  carry_one : (1 < u) × P 1 (u - 1) → (Q 1 (u - 1)) × (g 1 ≡ f 1)
  carry_one n = same 1 (u - 1) (omega (arith, n.0)) n.1

  carry_first : (second : ℕ) → 1 < second → second < u → P 1 (second - 1) → Q 1 (second - 1) × (g 1 ≡ f 1)
  carry_first second a b p = same 1 (second - 1) (omega arith) p

  carry_second : (second : ℕ) → second < u → P second (u - second) → Q second (u - second) × (g second ≡ f second)
  carry_second second b p = same second (u - second) (omega arith) p

  carry : (sign : Sign) → NeedsBy sign u P → Carried sign u ss f g Q
  carry (Rows t) n = (refl, λ x. x, n)
  carry (Keep t) n = let e = carry_one n in (rw e.1, λ x. rw e.1 x, (n.0, e.0))
  carry (Columns c) n = let e = carry_one n in (rw e.1, λ x. rw e.1 x, (n.0, e.0))
  carry (Join k) n = let a = carry_first k n.0 n.1 n.2 in let b = carry_second k n.1 n.3 in (rw (a.1, b.1), λ x. rw (a.1, b.1) x, (n.0, n.1, a.0, b.0))
  carry (Union k) n = let a = carry_first k n.0 n.1 n.2 in let b = carry_second k n.1 n.3 in (rw (a.1, b.1), λ x. rw (a.1, b.1) x, (n.0, n.1, a.0, b.0))
  carry (Without k) n = let a = carry_first k n.0 n.1 n.2 in let b = carry_second k n.1 n.3 in (rw (a.1, b.1), λ x. rw (a.1, b.1) x, (n.0, n.1, a.0, b.0))

some_parts : (sign : Sign) (u : ℕ) (P : ℕ → ℕ → Type 0) → NeedsBy sign u P → 0 < u
some_parts (Rows t) u P n = omega arith
some_parts (Keep t) u P n = omega (arith, n.0)
some_parts (Columns c) u P n = omega (arith, n.0)
some_parts (Join k) u P n = omega (arith, n.1)
some_parts (Union k) u P n = omega (arith, n.1)
some_parts (Without k) u P n = omega (arith, n.1)

part_drop : (ps : List Part) (i j : ℕ) → part_at (drop i ps) j ≡ part_at ps (i + j)
part_drop ps i j = get_or-drop i ps j no_part

-- a part that was read
pub part_read : (ps : List Part) (i : ℕ) (p : Part) → i < length ps → p ≡ get_or ps i p → p ≡ part_at ps i
part_read ps i p l e = get_or_read ps i p l e no_part

-- Parts that agree where a question stands have that question too.
pub parted_same : (n : ℕ) (ss : List (ℕ × ℕ)) (u : ℕ) (ps qs : List Part) → Parted n ss u ps → u ≤ length qs → ((i : ℕ) → i < u → part_at qs i ≡ part_at ps i) →
    Parted n ss u qs × (sized_of n ss qs ≡ sized_of n ss ps)
unfolding sized_of Parted
parted_same zero ss u ps qs p l h = absurd p
parted_same (suc n) ss u ps qs p l h =
    let e : part_at qs 0 ≡ part_at ps 0 = h 0 (some_parts (part_at ps 0).sign u (λ i v. Parted n ss v (drop i ps)) p.3) in
    let c : Carried (part_at ps 0).sign u ss (λ i. sized_of n ss (drop i ps)) (λ i. sized_of n ss (drop i qs)) (λ i v. Parted n ss v (drop i qs)) =
    carry u ss (λ i. sized_of n ss (drop i ps)) (λ i. sized_of n ss (drop i qs)) (λ i v. Parted n ss v (drop i ps)) (λ i v. Parted n ss v (drop i qs))
    (λ i v m q. parted_same n ss v (drop i ps) (drop i qs) q (simp length-drop (omega arith)) (λ j k. part_drop qs i j ∙ (h (i + j) (omega arith) ∙ sym (part_drop ps i j))))
    (part_at ps 0).sign p.3 in
    rw e ((l, rw c.0 p.1, c.1 p.2, c.2), c.0)

-- The question itself, without its sizes.
query_by_same : (sign : Sign) (ss : List (ℕ × ℕ)) (f : ℕ → Sized) (g : ℕ → Query) → ((i : ℕ) → (f i).query ≡ g i) → (sized_by sign ss f).query ≡ query_by sign g
query_by_same (Rows t) ss f g h = refl
query_by_same (Keep t) ss f g h = rw (h 1) refl
query_by_same (Columns c) ss f g h = rw (h 1) refl
query_by_same (Join k) ss f g h = rw (h 1, h k) refl
query_by_same (Union k) ss f g h = rw (h 1, h k) refl
query_by_same (Without k) ss f g h = rw (h 1, h k) refl

pub query_sized : (n : ℕ) (ss : List (ℕ × ℕ)) (ps : List Part) → (sized_of n ss ps).query ≡ query_of n ps
unfolding sized_of query_of
query_sized zero ss ps = refl
query_sized (suc n) ss ps =
    query_by_same (part_at ps 0).sign ss (λ i. sized_of n ss (drop i ps)) (λ i. query_of n (drop i ps)) (λ i. query_sized n ss (drop i ps))

-- one sign, and what is read behind it
pub reads_step : (n : ℕ) (ss : List (ℕ × ℕ)) (at : ℕ) (xs : List ℕ) → 6 ≤ length xs →
    reads (suc n) ss at xs ≡ by_sign (sign_in (get_or xs 0 0) (drop 1 xs)) ss at (drop 6 xs) (λ i ys. reads n ss i ys)
unfolding reads
reads_step n ss at xs l = rw (le-leb 6 (length xs) l) refl

pub reads_short : (n : ℕ) (ss : List (ℕ × ℕ)) (at : ℕ) (xs : List ℕ) → (n ≡ 0) ⊎ ((n ≡ 0 → ⊥) × (length xs < 6)) → reads n ss at xs ≡ bad at
unfolding reads
reads_short zero ss at xs h = refl
reads_short (suc n) ss at xs (inl e) = absurd (omega arith)
reads_short (suc n) ss at xs (inr h) = rw (lt-leb 6 (length xs) h.1) refl

-- A part written in front of the questions that it needs.
module _ (n : ℕ) (ss : List (ℕ × ℕ)) (at : ℕ) (mid : List Part) (p : Part) (within : at < length mid) where
  abbrev written : List Part
  written = drop at (set mid at p)

  written_first : part_at written 0 ≡ p
  written_first = part_drop (set mid at p) at 0 ∙ (ap (λ (i : ℕ). part_at (set mid at p) i) (omega arith) ∙ get_or-set_same mid at p no_part within)

  written_later : (i : ℕ) → 0 < i → drop i written ≡ drop (at + i) mid
  written_later i l = drop-drop i at (set mid at p) ∙ drop-set-lt (at + i) mid at p (omega arith)

  laid : (xs : List ℕ) (before : List Part) (next : ℕ) (s : Sized) (rest : List ℕ) → reads (suc n) ss at xs ≡ read s next rest → at < next → next ≤ length mid →
      length mid ≡ length before → ((i : ℕ) → (i < at) ⊎ (next ≤ i) → part_at mid i ≡ part_at before i) →
      Numbers p s → sized_by p.sign ss (λ i. sized_of n ss (drop i written)) ≡ s →
      FitsBy p.sign ss (λ i. sized_of n ss (drop i written)) → NeedsBy p.sign (next - at) (λ i v. Parted n ss v (drop i written)) →
      Reads (suc n) ss at xs before (set mid at p) next rest
  unfolding sized_of Parted
  laid xs before next s rest is ahead fits long kept numbers sizes inside needs =
      record {
        question = s;
        is = is;
        ahead = ahead;
        parts = rw written_first (simp (length-drop, length-set) (omega arith), rw sizes numbers, inside, needs);
        sizes = rw written_first sizes;
        long = length-set mid at p ∙ long;
        kept = λ i h. get_or-set_other mid at i p no_part (omega arith) ∙ kept i h;
      }

parted_numbers : (n : ℕ) (ss : List (ℕ × ℕ)) (u : ℕ) (ps : List Part) → Parted n ss u ps → Numbers (part_at ps 0) (sized_of n ss ps)
unfolding Parted
parted_numbers zero ss u ps p = absurd p
parted_numbers (suc n) ss u ps p = p.1

parted_within : (n : ℕ) (ss : List (ℕ × ℕ)) (u : ℕ) (ps : List Part) → Parted n ss u ps → u ≤ length ps
unfolding Parted
parted_within zero ss u ps p = absurd p
parted_within (suc n) ss u ps p = p.0

-- the part at which a question that was read begins
pub first_part : (n : ℕ) (ss : List (ℕ × ℕ)) (at : ℕ) (xs : List ℕ) (before after : List Part) (next : ℕ) (rest : List ℕ) → (r : Reads n ss at xs before after next rest) →
    Numbers (part_at after at) r.question
first_part n ss at xs before after next rest r =
    let z : at + 0 ≡ at = omega arith in
    let e : part_at (drop at after) 0 ≡ part_at after at = part_drop after at 0 ∙ ap (λ (i : ℕ). part_at after i) z in
    rw (← e, ← r.sizes) (parted_numbers n ss (next - at) (drop at after) r.parts)

pub ends_within : (n : ℕ) (ss : List (ℕ × ℕ)) (at : ℕ) (xs : List ℕ) (before after : List Part) (next : ℕ) (rest : List ℕ) → at ≤ length after → Reads n ss at xs before after next rest → next ≤ length after
ends_within n ss at xs before after next rest l r =
    let p : next - at ≤ length (drop at after) = parted_within n ss (next - at) (drop at after) r.parts in
    omega (arith, r.ahead, length-drop at after)

-- a sign that needs a question; that needs two
abbrev pub Wants : ReadingSign → Type 0
Wants (a_list t) = ⊥
Wants (a_test t) = Unit {0}
Wants (some_columns k ps) = Unit {0}
Wants a_join = Unit {0}
Wants a_union = Unit {0}
Wants a_without = Unit {0}
Wants no_sign = ⊥

abbrev pub Pairs : ReadingSign → Type 0
Pairs (a_list t) = ⊥
Pairs (a_test t) = ⊥
Pairs (some_columns k ps) = ⊥
Pairs a_join = Unit {0}
Pairs a_union = Unit {0}
Pairs a_without = Unit {0}
Pairs no_sign = ⊥

-- the reading of a sign, by kind
module _ (n : ℕ) (ss : List (ℕ × ℕ)) (at : ℕ) (xs : List ℕ) (six : 6 ≤ length xs) where
  abbrev sign : ReadingSign
  sign = sign_in (get_or xs 0 0) (drop 1 xs)

  step : (k : ReadingSign) → sign ≡ k → reads (suc n) ss at xs ≡ by_sign k ss at (drop 6 xs) (λ i ys. reads n ss i ys)
  step k e = reads_step n ss at xs six ∙ ap (λ (k : ReadingSign). by_sign k ss at (drop 6 xs) (λ i ys. reads n ss i ys)) e

  -- a list
  pub list_bad : (t : ℕ) → sign ≡ a_list t → length ss ≤ t → reads (suc n) ss at xs ≡ bad at
  list_bad t e l = step (a_list t) e ∙ rw (le-ltb t (length ss) l) refl

  list_read : (t : ℕ) → sign ≡ a_list t → t < length ss → reads (suc n) ss at xs ≡ read (of_list t (get_or ss t (0, 0))) (suc at) (drop 6 xs)
  list_read t e l = step (a_list t) e ∙ rw (lt-ltb t (length ss) l) refl

  pub none_bad : sign ≡ no_sign → reads (suc n) ss at xs ≡ bad at
  none_bad e = step no_sign e

  pub list_part : (t lines width : ℕ) (before : List Part) → at < length before → sign ≡ a_list t → t < length ss → get_or ss t (0, 0) ≡ (lines, width) →
      Reads (suc n) ss at xs before (set before at (record { sign = Rows t; lines = lines; width = width; cost = 0 })) (at + 1) (drop 6 xs)
  list_part t lines width before within e l shape =
      let one : at + 1 - at ≡ 1 = omega arith in
      laid n ss at before (record { sign = Rows t; lines = lines; width = width; cost = 0 }) within xs before (at + 1) (of_list t (get_or ss t (0, 0))) (drop 6 xs)
      (list_read t e l ∙ ap (λ (i : ℕ). read (of_list t (get_or ss t (0, 0))) i (drop 6 xs)) (omega arith)) (omega arith) (omega arith) refl (λ i h. refl)
      (rw shape (record { lines = refl; width = refl; cost = refl })) refl l one

  -- a sign with one question behind it
  module _ (before mid : List Part) (next : ℕ) (rest : List ℕ) (long : at < length before) (r : Reads n ss (at + 1) (drop 6 xs) before mid next rest) where
    inner : reads n ss (suc at) (drop 6 xs) ≡ read r.question next rest
    inner = let e : suc at ≡ at + 1 = omega arith in ap (λ (i : ℕ). reads n ss i (drop 6 xs)) e ∙ r.is

    within : at < length mid
    within = omega (arith, r.long)

    ends : next ≤ length mid
    ends = ends_within n ss (at + 1) (drop 6 xs) before mid next rest (omega (arith, r.long)) r

    pub sub_numbers : Numbers (part_at mid (at + 1)) r.question
    sub_numbers = first_part n ss (at + 1) (drop 6 xs) before mid next rest r

    wider : (i : ℕ) → (i < at) ⊎ (next ≤ i) → (i < at + 1) ⊎ (next ≤ i)
    wider i (inl l) = inl (omega arith)
    wider i (inr l) = inr l

    -- what the question behind it says once the part is written
    sub_sized : (p : Part) → sized_of n ss (drop 1 (drop at (set mid at p))) ≡ r.question
    sub_sized p = ap (sized_of n ss) (written_later n ss at mid p within 1 (omega arith)) ∙ r.sizes

    sub_parted : (p : Part) → Parted n ss (next - at - 1) (drop 1 (drop at (set mid at p)))
    sub_parted p = let e : next - at - 1 ≡ next - (at + 1) = omega arith in rw (e, written_later n ss at mid p within 1 (omega arith)) r.parts

    pub test_part : (t : Test) → sign ≡ a_test (test_of t) → test_fits (test_of t) r.question.width ≡ true → (cost : ℕ) → cost ≡ r.question.cost + 3 * r.question.lines →
        Reads (suc n) ss at xs before (set mid at (record { sign = Keep t; lines = (part_at mid (at + 1)).lines; width = (part_at mid (at + 1)).width; cost = cost })) next rest
    test_part t e fits cost c =
        let p : Part = record { sign = Keep t; lines = (part_at mid (at + 1)).lines; width = (part_at mid (at + 1)).width; cost = cost } in
        laid n ss at mid p within xs before next (of_test (test_of t) r.question) rest
        (step (a_test (test_of t)) e ∙ rw (inner, fits) refl) (omega (arith, r.ahead)) ends r.long (λ i h. r.kept i (wider i h))
        (record { lines = sub_numbers.lines; width = sub_numbers.width; cost = c }) (ap (of_test (test_of t)) (sub_sized p))
        (rw (sub_sized p) fits) (omega (arith, r.ahead), sub_parted p)

    pub test_bad : (t : Test) → sign ≡ a_test (test_of t) → test_fits (test_of t) r.question.width ≡ false → reads (suc n) ss at xs ≡ bad at
    test_bad t e off = step (a_test (test_of t)) e ∙ rw (inner, off) refl

    pub columns_part : (k : ℕ) (c : chosen.Columns) (ps : List ℕ) → sign ≡ some_columns k ps → c.count ≡ k → columns_of c ≡ ps → all_below r.question.width ps ≡ true →
        Reads (suc n) ss at xs before (set mid at (record { sign = Columns c; lines = (part_at mid (at + 1)).lines; width = c.count; cost = (part_at mid (at + 1)).cost })) next rest
    columns_part k c ps e many same below =
        let p : Part = record { sign = Columns c; lines = (part_at mid (at + 1)).lines; width = c.count; cost = (part_at mid (at + 1)).cost } in
        let low : leb 1 k ≡ true = le-leb 1 k (omega (arith, c.some)) in let high : leb k 4 ≡ true = le-leb k 4 (omega (arith, c.few)) in
        laid n ss at mid p within xs before next (of_columns k ps r.question) rest
        (step (some_columns k ps) e ∙ rw (inner, low, high, below) refl) (omega (arith, r.ahead)) ends r.long (λ i h. r.kept i (wider i h))
        (record { lines = sub_numbers.lines; width = many; cost = sub_numbers.cost }) (rw (sub_sized p, same, many) refl)
        (rw (sub_sized p, same) below) (omega (arith, r.ahead), sub_parted p)

    pub columns_bad : (k : ℕ) (ps : List ℕ) → sign ≡ some_columns k ps → (leb 1 k && (leb k 4 && all_below r.question.width ps)) ≡ false → reads (suc n) ss at xs ≡ bad at
    columns_bad k ps e off = step (some_columns k ps) e ∙ rw (inner, off) refl

    -- a sign with two questions behind it
    module _ (after : List Part) (end : ℕ) (last : List ℕ) (q : Reads n ss next rest mid after end last) where
      within_after : at < length after
      within_after = omega (arith, q.long, within)

      end_after : end ≤ length after
      end_after = ends_within n ss next rest mid after end last (omega (arith, q.long, ends)) q

      -- the first question stands as it stood before the second was read
      first_after : Parted n ss (next - (at + 1)) (drop (at + 1) after) × (sized_of n ss (drop (at + 1) after) ≡ sized_of n ss (drop (at + 1) mid))
      first_after =
          parted_same n ss (next - (at + 1)) (drop (at + 1) mid) (drop (at + 1) after) r.parts (simp length-drop (omega (arith, q.long, ends)))
          (λ i l. part_drop after (at + 1) i ∙ (q.kept (at + 1 + i) (inl (omega arith)) ∙ sym (part_drop mid (at + 1) i)))

      pub first_numbers : Numbers (part_at after (at + 1)) r.question
      first_numbers = let a : at + 1 < next = r.ahead in rw (q.kept (at + 1) (inl a)) sub_numbers

      pub second_numbers : Numbers (part_at after next) q.question
      second_numbers = first_part n ss next rest mid after end last q

      one_sized : (p : Part) → sized_of n ss (drop 1 (drop at (set after at p))) ≡ r.question
      one_sized p = ap (sized_of n ss) (written_later n ss at after p within_after 1 (omega arith)) ∙ (first_after.1 ∙ r.sizes)

      one_parted : (p : Part) → Parted n ss (next - at - 1) (drop 1 (drop at (set after at p)))
      one_parted p = let e : next - at - 1 ≡ next - (at + 1) = omega arith in rw (e, written_later n ss at after p within_after 1 (omega arith)) first_after.0

      gap : at + (next - at) ≡ next
      gap = omega (arith, r.ahead)

      two_sized : (p : Part) → sized_of n ss (drop (next - at) (drop at (set after at p))) ≡ q.question
      two_sized p = ap (sized_of n ss) (written_later n ss at after p within_after (next - at) (omega (arith, r.ahead)) ∙ ap (λ (i : ℕ). drop i after) gap) ∙ q.sizes

      two_parted : (p : Part) → Parted n ss (end - at - (next - at)) (drop (next - at) (drop at (set after at p)))
      two_parted p =
          let e : end - at - (next - at) ≡ end - next = omega (arith, r.ahead, q.ahead) in
          rw (e, written_later n ss at after p within_after (next - at) (omega (arith, r.ahead)), gap) q.parts

      kept_after : (i : ℕ) → (i < at) ⊎ (end ≤ i) → part_at after i ≡ part_at before i
      kept_after i h = q.kept i (outer h) ∙ r.kept i (inner_side h)
        where
          outer : (i < at) ⊎ (end ≤ i) → (i < next) ⊎ (end ≤ i)
          outer (inl l) = inl (omega (arith, r.ahead))
          outer (inr l) = inr l

          inner_side : (i < at) ⊎ (end ≤ i) → (i < at + 1) ⊎ (next ≤ i)
          inner_side (inl l) = inl (omega arith)
          inner_side (inr l) = inr (omega (arith, q.ahead))

      abbrev Pair : Part → Sized → Type 0
      Pair p s =
          reads (suc n) ss at xs ≡ read s end last → Numbers p s → sized_by p.sign ss (λ i. sized_of n ss (drop i (drop at (set after at p)))) ≡ s →
          FitsBy p.sign ss (λ i. sized_of n ss (drop i (drop at (set after at p)))) →
          NeedsBy p.sign (end - at) (λ i v. Parted n ss v (drop i (drop at (set after at p)))) → Reads (suc n) ss at xs before (set after at p) end last

      pair : (p : Part) (s : Sized) → Pair p s
      pair p s is numbers sizes fits needs =
          laid n ss at after p within_after xs before end s last is (omega (arith, r.ahead, q.ahead)) end_after (q.long ∙ r.long) kept_after numbers sizes fits needs

      pub join_part : (lines width cost : ℕ) → sign ≡ a_join → r.question.width + q.question.width ≤ 8 → Numbers (record { sign = Join (next - at); lines = lines; width = width; cost = cost }) (of_join r.question q.question) →
          Reads (suc n) ss at xs before (set after at (record { sign = Join (next - at); lines = lines; width = width; cost = cost })) end last
      join_part lines width cost e fits numbers =
          let p : Part = record { sign = Join (next - at); lines = lines; width = width; cost = cost } in
          pair p (of_join r.question q.question) (step a_join e ∙ rw (inner, q.is, le-leb (r.question.width + q.question.width) 8 fits) refl) numbers
          (rw (one_sized p, two_sized p) refl) (rw (one_sized p, two_sized p) fits) (omega (arith, r.ahead), omega (arith, r.ahead, q.ahead), one_parted p, two_parted p)

      pub union_part : (lines width cost : ℕ) → sign ≡ a_union → r.question.width ≡ q.question.width → Numbers (record { sign = Union (next - at); lines = lines; width = width; cost = cost }) (of_union r.question q.question) →
          Reads (suc n) ss at xs before (set after at (record { sign = Union (next - at); lines = lines; width = width; cost = cost })) end last
      union_part lines width cost e same numbers =
          let p : Part = record { sign = Union (next - at); lines = lines; width = width; cost = cost } in
          pair p (of_union r.question q.question) (step a_union e ∙ rw (inner, q.is, eq-eqb r.question.width q.question.width same) refl) numbers
          (rw (one_sized p, two_sized p) refl) (rw (one_sized p, two_sized p) same) (omega (arith, r.ahead), omega (arith, r.ahead, q.ahead), one_parted p, two_parted p)

      pub without_part : (lines width cost : ℕ) → sign ≡ a_without → r.question.width ≡ q.question.width → Numbers (record { sign = Without (next - at); lines = lines; width = width; cost = cost }) (of_without r.question q.question) →
          Reads (suc n) ss at xs before (set after at (record { sign = Without (next - at); lines = lines; width = width; cost = cost })) end last
      without_part lines width cost e same numbers =
          let p : Part = record { sign = Without (next - at); lines = lines; width = width; cost = cost } in
          pair p (of_without r.question q.question) (step a_without e ∙ rw (inner, q.is, eq-eqb r.question.width q.question.width same) refl) numbers
          (rw (one_sized p, two_sized p) refl) (rw (one_sized p, two_sized p) same) (omega (arith, r.ahead), omega (arith, r.ahead, q.ahead), one_parted p, two_parted p)

      pub join_bad : sign ≡ a_join → 8 < r.question.width + q.question.width → reads (suc n) ss at xs ≡ bad at
      join_bad e off = step a_join e ∙ rw (inner, q.is, lt-leb (r.question.width + q.question.width) 8 off) refl

      pub union_bad : sign ≡ a_union → (r.question.width ≡ q.question.width → ⊥) → reads (suc n) ss at xs ≡ bad at
      union_bad e off = step a_union e ∙ rw (inner, q.is, ne_eqb r.question.width q.question.width off) refl

      pub without_bad : sign ≡ a_without → (r.question.width ≡ q.question.width → ⊥) → reads (suc n) ss at xs ≡ bad at
      without_bad e off = step a_without e ∙ rw (inner, q.is, ne_eqb r.question.width q.question.width off) refl

    -- the second question can't be read
    pub second_bad : (k : ReadingSign) → Pairs k → sign ≡ k → (off : ℕ) → reads n ss next rest ≡ bad off → reads (suc n) ss at xs ≡ bad off
    second_bad a_join h e off b = step a_join e ∙ rw (inner, b) refl
    second_bad a_union h e off b = step a_union e ∙ rw (inner, b) refl
    second_bad a_without h e off b = step a_without e ∙ rw (inner, b) refl
    second_bad (a_list t) h e off b = absurd h
    second_bad (a_test t) h e off b = absurd h
    second_bad (some_columns k ps) h e off b = absurd h
    second_bad no_sign h e off b = absurd h

  -- the first question behind a sign can't be read
  pub first_bad : (k : ReadingSign) → Wants k → sign ≡ k → (off : ℕ) → reads n ss (at + 1) (drop 6 xs) ≡ bad off → reads (suc n) ss at xs ≡ bad off
  first_bad k h e off b = step k e ∙ go k h
    where
      behind : reads n ss (suc at) (drop 6 xs) ≡ bad off
      behind = let z : suc at ≡ at + 1 = omega arith in ap (λ (i : ℕ). reads n ss i (drop 6 xs)) z ∙ b

      go : (k : ReadingSign) → Wants k → by_sign k ss at (drop 6 xs) (λ i ys. reads n ss i ys) ≡ bad off
      go (a_list t) h = absurd h
      go (a_test t) h = rw behind refl
      go (some_columns j ps) h = rw behind refl
      go a_join h = rw behind refl
      go a_union h = rw behind refl
      go a_without h = rw behind refl
      go no_sign h = absurd h
