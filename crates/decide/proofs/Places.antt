-- A walk over the numbers that pass a test, and over the marked places.
use Rattle.std.proofs.Common.{◌≡◌, ℕ, zero, suc, ◌+◌, ◌-◌, ◌<◌, ◌≤◌, Bool, true, false, cond as if, List, [], ◌∷◌, filter, length, get_or, Some, Option, sym, refl, ap, ◌∙◌, inl, inr, arith}
use Rattle.std.specs.List.{range_with_len}
use Rattle.std.specs.Iterator.{Yields, YieldsFirst}
use Rattle.std.proofs.lemmas.Bool.{cases_Bool, cases_lt}
use Rattle.std.proofs.lemmas.List.{get_or_default}
use Rattle.std.proofs.lemmas.Iterator.Consumers.{YieldsList-from_first, YieldsList-turn}
use Rattle.condition.specs.Cond.{has}
use Rattle.condition.proofs.Lists.{has_at}
use Rattle.decide.specs.Marked.{places_left}
use Rattle.decide.specs.Reaching.{marked, marked_places}
use Rattle.decide.specs.declared.marked.Places.{Places}
use Rattle.decide.proofs.Passing.{passing_low}

pub left_none : (p : ℕ → Bool) (at n : ℕ) → n ≤ at → filter p (range_with_len at (n - at)) ≡ []
left_none p at n l = let e : n - at ≡ 0 = omega arith in rw e refl

left_step : (p : ℕ → Bool) (at n : ℕ) (b : Bool) → at < n → p at ≡ b →
    filter p (range_with_len at (n - at)) ≡ if b (at ∷ filter p (range_with_len (at + 1) (n - (at + 1)))) (filter p (range_with_len (at + 1) (n - (at + 1))))
left_step p at n b l h = let e : n - at ≡ suc (n - (at + 1)) = omega arith in rw (e, h) refl

pub left_yes : (p : ℕ → Bool) (at n : ℕ) → at < n → p at ≡ true → filter p (range_with_len at (n - at)) ≡ at ∷ filter p (range_with_len (at + 1) (n - (at + 1)))
left_yes p at n l h = left_step p at n true l h

pub left_no : (p : ℕ → Bool) (at n : ℕ) → at < n → p at ≡ false → filter p (range_with_len at (n - at)) ≡ filter p (range_with_len (at + 1) (n - (at + 1)))
left_no p at n l h = left_step p at n false l h

-- up to the first that passes, or to the end
left_gap : (p : ℕ → Bool) (at d n : ℕ) → at + d ≤ n → ((k : ℕ) → at ≤ k → k < at + d → p k ≡ false) →
    filter p (range_with_len at (n - at)) ≡ filter p (range_with_len (at + d) (n - (at + d)))
left_gap p at zero n l h = let e : at + 0 ≡ at = omega arith in rw e refl
left_gap p at (suc d) n l h =
    let e : at + 1 + d ≡ at + suc d = omega arith in
    left_no p at n (omega arith) (h at (omega arith) (omega arith)) ∙ rw e at (left_gap p (at + 1) d n (omega arith) (λ k a b. h k (omega arith) (omega arith)))

pub left_all : (p : ℕ → Bool) (at n : ℕ) → ((k : ℕ) → at ≤ k → k < n → p k ≡ false) → filter p (range_with_len at (n - at)) ≡ []
left_all p at n h = elim (cases_lt at n) [
  | inl l ↦
      let e : at + (n - at) ≡ n = omega arith in
      rw e at (left_gap p at (n - at) n (omega arith) (λ k a b. h k a (omega arith))) ∙ left_none p n n (omega arith)
  | inr l ↦ left_none p at n l
]

pub left_first : (p : ℕ → Bool) (at place n : ℕ) → at ≤ place → place < n → p place ≡ true → ((k : ℕ) → at ≤ k → k < place → p k ≡ false) →
    filter p (range_with_len at (n - at)) ≡ place ∷ filter p (range_with_len (place + 1) (n - (place + 1)))
left_first p at place n a l y h =
    let e : at + (place - at) ≡ place = omega arith in
    rw e at (left_gap p at (place - at) n (omega arith) (λ k b i. h k b (omega arith))) ∙ left_yes p place n l y

-- where the walk goes on: the first that passes, none before it, and those that are left behind it
pub record GoesOnAt (p : ℕ → Bool) (at n place : ℕ) (rest : List ℕ) : Type 0 where
  pub from : at ≤ place
  pub inside : place < n
  pub passes : p place ≡ true
  pub gap : (k : ℕ) → at ≤ k → k < place → p k ≡ false
  pub left : rest ≡ filter p (range_with_len (place + 1) (n - (place + 1)))

pub left_next : (p : ℕ → Bool) (at n place : ℕ) (rest : List ℕ) → filter p (range_with_len at (n - at)) ≡ place ∷ rest → GoesOnAt p at n place rest
left_next p at n place rest h = elim (cases_lt at n) [
  | inl l ↦ go (n - at) at (omega arith) h
  | inr l ↦ let z = left_none p at n l in absurd (cc)
]
  where
    go : (d at : ℕ) → n - at ≡ d → filter p (range_with_len at (n - at)) ≡ place ∷ rest → GoesOnAt p at n place rest
    go zero at e h = let z = left_none p at n (omega arith) in absurd (cc)
    go (suc d) at e h = elim (cases_Bool (p at)) [
      | inl t ↦
          let s = left_yes p at n (omega arith) t in let q : at ≡ place = cc in
          record {
            from = omega arith;
            inside = omega arith;
            passes = rw q at t;
            gap = λ k a b. absurd (omega arith);
            left = let r : rest ≡ filter p (range_with_len (at + 1) (n - (at + 1))) = cc in rw q at r;
          }
      | inr f ↦
          let g = go d (at + 1) (omega arith) (sym (left_no p at n (omega arith) f) ∙ h) in
          record {
            from = omega (arith, g.from);
            inside = g.inside;
            passes = g.passes;
            gap = λ k a b. elim (cases_lt at k) [ inl l ↦ g.gap k (omega arith) b | inr l ↦ let q : k ≡ at = omega arith in rw q f ];
            left = g.left;
          }
    ]

-- where nothing is left, none passes
pub left_over : (p : ℕ → Bool) (at n : ℕ) → filter p (range_with_len at (n - at)) ≡ [] → (k : ℕ) → at ≤ k → k < n → p k ≡ false
left_over p at n h k a b = go (k - at) at (omega arith) a h
  where
    go : (d at : ℕ) → k - at ≡ d → at ≤ k → filter p (range_with_len at (n - at)) ≡ [] → p k ≡ false
    go zero at e a h = let q : at ≡ k = omega arith in elim (cases_Bool (p at)) [
      | inl t ↦ let s = left_yes p at n (omega arith) t in absurd (cc)
      | inr f ↦ rw q at f
    ]
    go (suc d) at e a h = elim (cases_Bool (p at)) [
      | inl t ↦ let s = left_yes p at n (omega arith) t in absurd (cc)
      | inr f ↦ go d (at + 1) (omega arith) (omega arith) (sym (left_no p at n (omega arith) f) ∙ h)
    ]

-- a marked place that the walk comes to lies inside
pub place_inside : (ms : List Bool) (n : ℕ) (s t u : Places) (xs : List ℕ) (r : Option ℕ) (i : ℕ) → places_left s ≡ marked_places ms n →
    Yields (YieldsFirst places_left) s xs t → r ≡ Some i → YieldsFirst places_left t r u → i < n
place_inside ms n s t u xs r i e y o h =
    let k : (length xs < length (marked_places ms n)) × (i ≡ get_or (marked_places ms n) (length xs) i) =
    YieldsList-turn (YieldsList-from_first (λ x. x) places_left (marked_places ms n) e) xs t y r u i o h in
    passing_low n (marked ms) i (has_item (marked_places ms n) (length xs) i k.0 k.1)
  where
    has_item : (is : List ℕ) (k i : ℕ) → k < length is → i ≡ get_or is k i → has is i ≡ true
    has_item is k i l e = ap (has is) (e ∙ get_or_default is k i 0 l) ∙ has_at is k l
