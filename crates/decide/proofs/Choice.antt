-- Numbers that are picked in order tell the chosen filling, and there is one chosen filling at most.
use Rattle.std.proofs.Common.{◌≡◌, ℕ, zero, suc, ◌+◌, ◌-◌, ◌^◌, ◌<◌, ◌≤◌, true, false, eqb, ◌⊎◌, List, length, get_or, Some, None, Option, sym, refl, ap, ◌∙◌, inl, inr, arith}
use Rattle.std.specs.List.{position_or_len}
use Rattle.std.specs.Option.{option_map_or}
use Rattle.std.proofs.lemmas.Bool.{both_ways, eqb-true, eqb-false, ne_eqb, lt-ltb, le-ltb, cases_lt, cases_eq, cases_order, cases_Bool}
use Rattle.std.proofs.lemmas.List.{get_or_default}
use Rattle.std.proofs.lemmas.List.Sums.{fails_before_first, passes_at_first}
use Rattle.condition.specs.Cond.{Cond, numbers, gaps, has, Within}
use Rattle.condition.proofs.Lists.{eqb_self, has_apart}
use Rattle.evaluate.specs.Filling.{Filling, holds}
use Rattle.evaluate.proofs.Holding.{own_gaps}
use Rattle.evaluate.proofs.Renaming.{holds_rename}
use Rattle.decide.specs.Rows.{place}
use Rattle.decide.specs.Choice.{nowhere, turn, Chosen, owner, stand_in, number_of, Begins, LeadsNowhere, PickedBefore, New, Picked, OneChosen}
use Rattle.decide.proofs.Listing.{Distinct, found_at, place_back, place_at}
use Rattle.decide.proofs.Steps.{swap, swap_a, swap_other, swap_apart}

-- when a gap tries a number
turn_low : (k n : ℕ) → n < 2 ^ 64 → turn k n ≡ k + 1 + n
turn_low k n l = rw (lt-ltb n (2 ^ 64) l) refl

turn_high : (k n : ℕ) → 2 ^ 64 ≤ n → turn k n ≡ nowhere k - n
turn_high k n l = rw (le-ltb n (2 ^ 64) l) refl

-- no two numbers have the same turn
turn_apart : (k m n : ℕ) → m ≤ nowhere k → n ≤ nowhere k → turn k m ≡ turn k n → m ≡ n
turn_apart k m n a b e = go (cases_lt m (2 ^ 64)) (cases_lt n (2 ^ 64))
  where
    go : (m < 2 ^ 64) ⊎ (2 ^ 64 ≤ m) → (n < 2 ^ 64) ⊎ (2 ^ 64 ≤ n) → m ≡ n
    go (inl p) (inl q) = omega (arith, turn_low k m p, turn_low k n q)
    go (inl p) (inr q) = omega (arith, turn_low k m p, turn_high k n q)
    go (inr p) (inl q) = omega (arith, turn_high k m p, turn_low k n q)
    go (inr p) (inr q) = omega (arith, turn_high k m p, turn_high k n q)

-- the first gap at which two chosen fillings differ would have tried one of the two numbers before the other
pub one_chosen : OneChosen
one_chosen c v w a b k = below (k + 1) k (omega arith)
  where
    next : (k : ℕ) → ((j : ℕ) → j < k → v j ≡ w j) → (turn k (v k) ≡ turn k (w k)) ⊎ ((turn k (v k) < turn k (w k)) ⊎ (turn k (w k) < turn k (v k))) → v k ≡ w k
    next k same (inl e) = turn_apart k (v k) (w k) (a.own k) (b.own k) e
    next k same (inr (inl l)) = absurd (both_ways (holds v c) (b.first k (v k) (a.own k) l v same refl) a.fits)
    next k same (inr (inr l)) = absurd (both_ways (holds w c) (a.first k (w k) (b.own k) l w (λ j i. sym (same j i)) refl) b.fits)

    below : (n k : ℕ) → k < n → v k ≡ w k
    below zero k l = absurd (omega arith)
    below (suc n) k l = next k (λ j i. below n j (omega arith)) (cases_order (turn k (v k)) (turn k (w k)))

-- whether f has the number n at one of the first p places
seek : (f : ℕ → ℕ) (n p : ℕ) → ((q : ℕ) × (q < p) × (f q ≡ n)) ⊎ ((q : ℕ) → q < p → f q ≡ n → ⊥)
seek f n zero = inr (λ q l e. omega arith)
seek f n (suc p) = elim (cases_eq (f p) n) [
  | inl e ↦ inl (p, omega arith, e)
  | inr d ↦ elim (seek f n p) [
    | inl s ↦ inl (s.0, omega (arith, s.1), s.2)
    | inr u ↦ inr (λ q l e. elim (cases_lt q p) [ inl m ↦ u q m e | inr m ↦ (let i : p ≡ q = omega arith in d (ap f i ∙ e)) ])
  ]
]

-- the first place that has the number at place p, or the length
abbrev first_with : List ℕ → ℕ → ℕ
first_with xs p = position_or_len (λ n. eqb n (get_or xs p 0)) xs

-- it is the owner
module _ (xs : List ℕ) (p : ℕ) (inside : p < length xs) where
  first_low : first_with xs p ≤ p
  first_low = elim (cases_lt p (first_with xs p)) [
    | inl l ↦ absurd (both_ways _ (fails_before_first (λ n. eqb n (get_or xs p 0)) xs p 0 l) (eqb_self (get_or xs p 0)))
    | inr l ↦ l
  ]

  owner_is : owner xs p ≡ first_with xs p
  owner_is = let l : first_with xs p < length xs = omega (arith, first_low) in rw (lt-ltb (first_with xs p) (length xs) l) refl

  pub owner_low : owner xs p ≤ p
  owner_low = rw owner_is first_low

  owner_same : get_or xs (owner xs p) 0 ≡ get_or xs p 0
  owner_same =
      ap (λ i. get_or xs i 0) owner_is
      ∙ eqb-true (get_or xs (first_with xs p) 0) (get_or xs p 0) (passes_at_first (λ n. eqb n (get_or xs p 0)) xs 0 (omega (arith, first_low)))

  owner_first : (q : ℕ) → q < owner xs p → get_or xs q 0 ≡ get_or xs p 0 → ⊥
  owner_first q l = eqb-false (get_or xs q 0) (get_or xs p 0) (fails_before_first (λ n. eqb n (get_or xs p 0)) xs q 0 (rw owner_is at l))

-- places with the same number have the same owner
owner_alike : (xs : List ℕ) (p q : ℕ) → p < length xs → q < length xs → get_or xs p 0 ≡ get_or xs q 0 → owner xs p ≡ owner xs q
owner_alike xs p q a b e = elim (cases_order (owner xs p) (owner xs q)) [
  | inl i ↦ i
  | inr (inl l) ↦ absurd (owner_first xs q b (owner xs p) l (owner_same xs p a ∙ e))
  | inr (inr l) ↦ absurd (owner_first xs p a (owner xs q) l (owner_same xs q b ∙ sym e))
]

-- ψ, but x is what it makes of n
instead : (ℕ → ℕ) → ℕ → ℕ → ℕ → ℕ
instead ψ n x a = swap (ψ n) x (ψ a)

module _ (ψ : ℕ → ℕ) (apart : (a b : ℕ) → ψ a ≡ ψ b → a ≡ b) (n x : ℕ) where
  instead_apart : (a b : ℕ) → instead ψ n x a ≡ instead ψ n x b → a ≡ b
  unfolding instead
  instead_apart a b e = apart a b (swap_apart (ψ n) x (ψ a) (ψ b) e)

  instead_it : instead ψ n x n ≡ x
  unfolding instead
  instead_it = swap_a (ψ n) x

  instead_other : (a m : ℕ) → ψ a ≡ m → (a ≡ n → ⊥) → (m ≡ x → ⊥) → instead ψ n x a ≡ m
  unfolding instead
  instead_other a m e d u = ap (swap (ψ n) x) e ∙ swap_other (ψ n) x m (ne_eqb m (ψ n) (λ i. d (apart a n (e ∙ i)))) (ne_eqb m x u)

-- the filling that numbers tell
given : (gs ns xs : List ℕ) → Filling
given gs ns xs = number_of gs ns xs

-- a renaming that makes no two numbers equal, leaves those of ns, and carries what the first p gaps are given to what was picked for them
record Carries (gs ns xs : List ℕ) (p : ℕ) (ψ : ℕ → ℕ) : Type 0 where
  apart : (a b : ℕ) → ψ a ≡ ψ b → a ≡ b
  fixed : (n : ℕ) → has ns n ≡ true → ψ n ≡ n
  sends : (q : ℕ) → q < p → ψ (given gs ns xs (get_or gs q 0)) ≡ get_or xs q 0

module _ (c : Cond) (gs ns xs : List ℕ)
    (rising : (p q : ℕ) → p < q → q < length gs → get_or gs p 0 < get_or gs q 0)
    (held : Within (gaps c) gs) (named : Within (numbers c) ns) (low : (n : ℕ) → has ns n ≡ true → n < 2 ^ 64) (room : length gs ≤ length xs)
    (picked : Picked c gs ns xs) where
  at_most : (p q : ℕ) → p ≤ q → q < length gs → get_or gs p 0 ≤ get_or gs q 0
  at_most p q l m = elim (cases_lt p q) [
    | inl i ↦ omega (arith, rising p q i m)
    | inr i ↦ let e : p ≡ q = omega arith in rw e (omega arith)
  ]

  once : Distinct gs
  once i j d l m e = omega (arith, rising i j l m, get_or_default gs i d 0 (omega arith), get_or_default gs j d 0 m)

  -- a gap that is none of gs has its own number that stands nowhere
  given_rest : (k : ℕ) → place gs k ≡ None → given gs ns xs k ≡ nowhere k
  unfolding given
  given_rest k e = ap (λ o. option_map_or (stand_in gs ns xs) o (nowhere k)) e

  -- the gap at a place, of which the number there is one of ns, or picked before, or new
  module _ (p : ℕ) (inside : p < length gs) where
    given_at : given gs ns xs (get_or gs p 0) ≡ stand_in gs ns xs p
    unfolding given
    given_at = ap (λ o. option_map_or (stand_in gs ns xs) o (nowhere (get_or gs p 0))) (place_at gs once p inside)

    given_named : has ns (get_or xs p 0) ≡ true → given gs ns xs (get_or gs p 0) ≡ get_or xs p 0
    given_named h = given_at ∙ rw h refl

    given_other : has ns (get_or xs p 0) ≡ false → given gs ns xs (get_or gs p 0) ≡ nowhere (get_or gs (owner xs p) 0)
    given_other h = given_at ∙ rw h refl

    owner_before : get_or gs (owner xs p) 0 ≤ get_or gs p 0
    owner_before = at_most (owner xs p) p (owner_low xs p (omega arith)) inside

    given_new : New ns xs p (get_or xs p 0) → given gs ns xs (get_or gs p 0) ≡ nowhere (get_or gs p 0)
    given_new n = elim (cases_lt (owner xs p) p) [
      | inl m ↦ absurd (n.unused (owner xs p) m (owner_same xs p (omega arith)))
      | inr m ↦ let e : owner xs p ≡ p = omega (arith, owner_low xs p (omega arith)) in given_other n.other ∙ ap (λ o. nowhere (get_or gs o 0)) e
    ]

    own_at : given gs ns xs (get_or gs p 0) ≤ nowhere (get_or gs p 0)
    own_at = elim (cases_Bool (has ns (get_or xs p 0))) [
      | inl h ↦ omega (arith, given_named h, low (get_or xs p 0) h)
      | inr h ↦ omega (arith, given_other h, owner_before)
    ]

    new_or_not : ((has ns (get_or xs p 0) ≡ true) ⊎ PickedBefore xs p (get_or xs p 0)) ⊎ New ns xs p (get_or xs p 0)
    new_or_not = elim (cases_Bool (has ns (get_or xs p 0))) [
      | inl h ↦ inl (inl h)
      | inr h ↦ elim (seek (λ q. get_or xs q 0) (get_or xs p 0) p) [ inl s ↦ inl (inr s) | inr u ↦ inr (record { other = h; unused = u }) ]
    ]

  given_again : (p q : ℕ) → p < length gs → q < length gs → has ns (get_or xs p 0) ≡ false → get_or xs q 0 ≡ get_or xs p 0 →
      given gs ns xs (get_or gs p 0) ≡ given gs ns xs (get_or gs q 0)
  given_again p q l m h e =
      given_other p l h
      ∙ (ap (λ o. nowhere (get_or gs o 0)) (owner_alike xs p q (omega arith) (omega arith) (sym e)) ∙ sym (given_other q m (ap (has ns) e ∙ h)))

  own_all : (k : ℕ) → given gs ns xs k ≤ nowhere k
  own_all k = go (place gs k) refl
    where
      go : (o : Option ℕ) → place gs k ≡ o → given gs ns xs k ≤ nowhere k
      go None e = omega (arith, given_rest k e)
      go (Some p) e = let b = place_back gs k p e in rw b.1 at (own_at p b.0)

  -- a number that is neither one of ns nor given before may be carried to a new one
  carries_instead : (p : ℕ) (ψ : ℕ → ℕ) → Carries gs ns xs p ψ → (n x : ℕ) → has ns n ≡ false →
      ((q : ℕ) → q < p → given gs ns xs (get_or gs q 0) ≡ n → ⊥) → New ns xs p x → Carries gs ns xs p (instead ψ n x)
  carries_instead p ψ r n x other unused new = record {
    apart = instead_apart ψ r.apart n x;
    fixed = λ m h. instead_other ψ r.apart n x m m (r.fixed m h) (has_apart ns m n h other) (has_apart ns m x h new.other);
    sends = λ q l. instead_other ψ r.apart n x (given gs ns xs (get_or gs q 0)) (get_or xs q 0) (r.sends q l) (unused q l) (new.unused q l);
  }

  carries_more : (p : ℕ) (ψ : ℕ → ℕ) → Carries gs ns xs p ψ → ψ (given gs ns xs (get_or gs p 0)) ≡ get_or xs p 0 → Carries gs ns xs (suc p) ψ
  carries_more p ψ r e = record {
    apart = r.apart;
    fixed = r.fixed;
    sends = λ q l. elim (cases_lt q p) [ inl m ↦ r.sends q m | inr m ↦ (let i : q ≡ p = omega arith in rw i e) ];
  }

  -- one place more: only a new number there asks for another renaming, which carries to it what stands nowhere
  carries_next : (p : ℕ) → p < length gs → (ψ : ℕ → ℕ) → Carries gs ns xs p ψ → (φ : ℕ → ℕ) × Carries gs ns xs (suc p) φ
  carries_next p l ψ r = elim (cases_Bool (has ns (get_or xs p 0))) [
    | inl h ↦ (ψ, carries_more p ψ r (ap ψ (given_named p l h) ∙ r.fixed (get_or xs p 0) h))
    | inr h ↦ elim (new_or_not p l) [
      | inl (inl i) ↦ absurd (both_ways _ h i)
      | inl (inr b) ↦ (ψ, carries_more p ψ r (ap ψ (given_again p b.0 l (omega (arith, b.1)) h b.2) ∙ (r.sends b.0 b.1 ∙ b.2)))
      | inr n ↦ (instead ψ (nowhere (get_or gs p 0)) (get_or xs p 0), new n)
    ]
  ]
    where
      other : has ns (nowhere (get_or gs p 0)) ≡ false
      other = elim (cases_Bool (has ns (nowhere (get_or gs p 0)))) [ inl h ↦ absurd (omega (arith, low (nowhere (get_or gs p 0)) h)) | inr h ↦ h ]

      unused : (q : ℕ) → q < p → given gs ns xs (get_or gs q 0) ≡ nowhere (get_or gs p 0) → ⊥
      unused q m e = omega (arith, own_at q (omega arith), rising q p m l)

      new : New ns xs p (get_or xs p 0) → Carries gs ns xs (suc p) (instead ψ (nowhere (get_or gs p 0)) (get_or xs p 0))
      new n =
          carries_more p (instead ψ (nowhere (get_or gs p 0)) (get_or xs p 0)) (carries_instead p ψ r (nowhere (get_or gs p 0)) (get_or xs p 0) other unused n)
          (ap (instead ψ (nowhere (get_or gs p 0)) (get_or xs p 0)) (given_new p l n) ∙ instead_it ψ r.apart (nowhere (get_or gs p 0)) (get_or xs p 0))

  carried : (p : ℕ) → p ≤ length gs → (ψ : ℕ → ℕ) × Carries gs ns xs p ψ
  carried zero l = (λ x. x, record { apart = λ a b e. e; fixed = λ n h. refl; sends = λ q m. absurd (omega arith) })
  carried (suc p) l = let s : (ψ : ℕ → ℕ) × Carries gs ns xs p ψ = carried p (omega arith) in carries_next p (omega arith) s.0 s.1

  -- the condition is as it was
  renamed : (p : ℕ) (ψ : ℕ → ℕ) → Carries gs ns xs p ψ → (u : Filling) → holds (λ k. ψ (u k)) c ≡ holds u c
  unfolding Within
  renamed p ψ r u = holds_rename (λ _. Unit {0}) ψ u (λ a b _ _ e. r.apart a b e) c (λ n i. (tt, r.fixed n (named n i))) (λ _ _. tt)

  fits_all : (w : Filling) → Begins gs xs (length gs) w → holds w c ≡ true → holds (given gs ns xs) c ≡ true
  unfolding Within
  fits_all w begins fits =
      let s : (ψ : ℕ → ℕ) × Carries gs ns xs (length gs) ψ = carried (length gs) (omega arith) in
      let same : (k : ℕ) → has (gaps c) k ≡ true → s.0 (given gs ns xs k) ≡ w k =
      λ k h. let f = found_at gs k (held k h) in rw f.2 at (s.1.sends f.0 f.1 ∙ sym (begins f.0 f.1)) in
      sym (renamed (length gs) s.0 s.1 (given gs ns xs)) ∙ (own_gaps c (λ k. s.0 (given gs ns xs k)) w same ∙ fits)

  -- a number that the gap at place p tries before what it is given
  module _ (p : ℕ) (inside : p < length gs) (n : ℕ) (sooner : turn (get_or gs p 0) n < turn (get_or gs p 0) (given gs ns xs (get_or gs p 0))) where
    -- there is none where it is given its own that stands nowhere
    not_new : New ns xs p (get_or xs p 0) → ⊥
    not_new i =
        let e : given gs ns xs (get_or gs p 0) ≡ nowhere (get_or gs p 0) = given_new p inside i in
        omega (arith, turn_high (get_or gs p 0) (given gs ns xs (get_or gs p 0)) (omega arith))

    -- one of ns comes only before a greater one of them
    only_named : has ns n ≡ true → (has ns (get_or xs p 0) ≡ true) × (n < get_or xs p 0)
    only_named h = elim (cases_Bool (has ns (get_or xs p 0))) [
      | inl i ↦
          let e : given gs ns xs (get_or gs p 0) ≡ get_or xs p 0 = given_named p inside i in
          let m : get_or xs p 0 < 2 ^ 64 = low (get_or xs p 0) i in
          (i, omega (arith, turn_low (get_or gs p 0) n (low n h), turn_low (get_or gs p 0) (given gs ns xs (get_or gs p 0)) (omega arith)))
      | inr i ↦
          let e : given gs ns xs (get_or gs p 0) ≡ nowhere (get_or gs (owner xs p) 0) = given_other p inside i in
          absurd (omega (arith, turn_low (get_or gs p 0) n (low n h), turn_high (get_or gs p 0) (given gs ns xs (get_or gs p 0)) (omega arith)))
    ]

    -- and what an owner tells, only before one of ns or what an owner before it tells
    only_used : (q : ℕ) → q < p → has ns (get_or xs q 0) ≡ false → given gs ns xs (get_or gs q 0) ≡ n →
        (has ns (get_or xs p 0) ≡ true) ⊎ (owner xs p < owner xs q)
    only_used q l i e = elim (cases_Bool (has ns (get_or xs p 0))) [
      | inl h ↦ inl h
      | inr h ↦ elim (cases_lt (owner xs p) (owner xs q)) [
        | inl m ↦ inr m
        | inr m ↦
            let u : given gs ns xs (get_or gs p 0) ≡ nowhere (get_or gs (owner xs p) 0) = given_other p inside h in
            let v : given gs ns xs (get_or gs q 0) ≡ nowhere (get_or gs (owner xs q) 0) = given_other q (omega arith) i in
            let a : owner xs p < length gs = omega (arith, owner_low xs p (omega arith)) in
            let b : get_or gs (owner xs q) 0 ≤ get_or gs (owner xs p) 0 = at_most (owner xs q) (owner xs p) m a in
            let d : get_or gs (owner xs p) 0 ≤ get_or gs p 0 = owner_before p inside in
            absurd (omega (arith, turn_high (get_or gs p 0) n (omega arith), turn_high (get_or gs p 0) (given gs ns xs (get_or gs p 0)) (omega arith)))
      ]
    ]

    -- it can't be continued
    module _ (w : Filling) (same : (j : ℕ) → j < get_or gs p 0 → w j ≡ given gs ns xs j) (here : w (get_or gs p 0) ≡ n) where
      -- since what it is carried to leads nowhere
      carried_dead : (ψ : ℕ → ℕ) → Carries gs ns xs p ψ → (m : ℕ) → ψ n ≡ m → LeadsNowhere c gs xs p m → holds w c ≡ false
      carried_dead ψ r m e dead =
          sym (renamed p ψ r w) ∙ dead (λ k. ψ (w k)) (λ q l. ap ψ (same (get_or gs q 0) (rising q p l inside)) ∙ r.sends q l) (ap ψ here ∙ e)

      -- be it one of ns, or given before, or neither and carried to a new one
      sooner_dead : (ψ : ℕ → ℕ) → Carries gs ns xs p ψ → (has ns (get_or xs p 0) ≡ true) ⊎ PickedBefore xs p (get_or xs p 0) → holds w c ≡ false
      sooner_dead ψ r old = elim (cases_Bool (has ns n)) [
        | inl h ↦ carried_dead ψ r n (r.fixed n h) (picked.named p n inside (only_named h).0 h (only_named h).1)
        | inr h ↦ elim (seek (λ q. given gs ns xs (get_or gs q 0)) n p) [
          | inl s ↦ elim (cases_Bool (has ns (get_or xs s.0 0))) [
            | inl i ↦ absurd (has_apart ns (get_or xs s.0 0) n i h (sym (given_named s.0 (omega (arith, s.1)) i) ∙ s.2))
            | inr i ↦ carried_dead ψ r (get_or xs s.0 0) (ap ψ (sym s.2) ∙ r.sends s.0 s.1) (picked.used p s.0 inside s.1 i (only_used s.0 s.1 i s.2))
          ]
          | inr u ↦
              let f = picked.new p inside old in
              carried_dead (instead ψ n f.0) (carries_instead p ψ r n f.0 h u f.1) f.0 (instead_it ψ r.apart n f.0) f.2
        ]
      ]

      sooner_nowhere : holds w c ≡ false
      sooner_nowhere = elim (new_or_not p inside) [
        | inl old ↦ let s : (ψ : ℕ → ℕ) × Carries gs ns xs p ψ = carried p (omega arith) in sooner_dead s.0 s.1 old
        | inr i ↦ absurd (not_new i)
      ]

  first_all : (k n : ℕ) → turn k n < turn k (given gs ns xs k) → (w : Filling) → ((j : ℕ) → j < k → w j ≡ given gs ns xs j) → w k ≡ n → holds w c ≡ false
  first_all k n t w same here = go (place gs k) refl
    where
      go : (o : Option ℕ) → place gs k ≡ o → holds w c ≡ false
      go None e =
          let i : given gs ns xs k ≡ nowhere k = given_rest k e in
          absurd (omega (arith, turn_high k (given gs ns xs k) (omega arith)))
      go (Some p) e =
          let b = place_back gs k p e in
          sooner_nowhere p b.0 n (rw (← b.1) at t) w (rw (← b.1) at same) (ap w b.1 ∙ here)

  -- so the numbers, if they fit what is known, tell the chosen filling
  pub chosen : (w : Filling) → Begins gs xs (length gs) w → holds w c ≡ true → Chosen c (number_of gs ns xs)
  unfolding given
  chosen w begins fits = record { fits = fits_all w begins fits; own = own_all; first = λ k n _ t. first_all k n t }
