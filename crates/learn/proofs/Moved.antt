-- Laws of marking the places that nodes have in a cone, and of what is reached from there.
use Rattle.std.proofs.Common.{◌≡◌, ℕ, zero, suc, ◌+◌, ◌<◌, ◌≤◌, Bool, true, false, ◌&&◌, ◌||◌, eqb, ◌⊎◌, List, [], ◌∷◌, map, replicate, length, get_or, set, sym, ap, ◌∙◌, subst, inl, inr, ⊎_elim, arith, get_or-set_other, get_or-set_same}
use Rattle.std.proofs.lemmas.Bool.{both_ways, cases_lt, cases_eq, and_parts, or_cases, eqb-true}
use Rattle.std.proofs.lemmas.List.{length-map, length-replicate, get_or-replicate, get_or_past}
use Rattle.condition.specs.Cond.{has}
use Rattle.condition.specs.Store.{count}
use Rattle.condition.specs.Nodes.{decoded}
use Rattle.condition.proofs.Lists.{has_none, has_cons, has_head, has_tail}
use Rattle.decide.specs.Counting.{counted, passing_below}
use Rattle.decide.specs.Folding.{PlaceOf}
use Rattle.decide.specs.Reaching.{marked, names, reached}
use Rattle.decide.proofs.Counted.{counted_listed}
use Rattle.decide.proofs.Passing.{length-passing_below, passing_has}
use Rattle.learn.specs.Copying.{Simplified}
use Rattle.learn.proofs.Plain.{cone_high}

-- the places of the marked ones of the first i nodes are marked, and no others but those that were
pub record Placed (roots : List Bool) (i : ℕ) (ps : List ℕ) (ms₀ ms : List Bool) : Type 0 where
  pub marks : (k : ℕ) → k < i → marked roots k ≡ true → marked ms (get_or ps k 0) ≡ true
  pub only : (j : ℕ) → marked ms j ≡ true → (marked ms₀ j ≡ true) ⊎ PlaceOf i roots ps j

pub placed_none : (roots : List Bool) (ps : List ℕ) (ms : List Bool) → Placed roots 0 ps ms ms
placed_none roots ps ms = record { marks = λ k l h. absurd (omega arith); only = λ j h. inl h }

module _ (roots : List Bool) (i : ℕ) (ps : List ℕ) (ms₀ ms : List Bool) (p : Placed roots i ps ms₀ ms) where
  wider : (j : ℕ) → (marked ms₀ j ≡ true) ⊎ PlaceOf i roots ps j → (marked ms₀ j ≡ true) ⊎ PlaceOf (i + 1) roots ps j
  wider j (inl h) = inl h
  wider j (inr o) = inr (o.0, omega (arith, o.1), o.2, o.3)

  pub placed_past : marked roots i ≡ false → Placed roots (i + 1) ps ms₀ ms
  placed_past f = record {
    marks = λ k l h. elim (cases_lt k i) [
      | inl q ↦ p.marks k q h
      | inr q ↦ let e : k ≡ i = omega arith in absurd (both_ways (marked roots i) f (rw e at h))
    ];
    only = λ j h. wider j (p.only j h);
  }

  pub placed_more : marked roots i ≡ true → get_or ps i 0 < length ms → Placed roots (i + 1) ps ms₀ (set ms (get_or ps i 0) true)
  placed_more t long = record {
    marks = λ k l h. elim (cases_eq (get_or ps k 0) (get_or ps i 0)) [
      | inl e ↦ rw e (get_or-set_same ms (get_or ps i 0) true false long)
      | inr ne ↦ get_or-set_other ms (get_or ps i 0) (get_or ps k 0) true false ne ∙ p.marks k (elim (cases_lt k i) [
        | inl q ↦ q
        | inr q ↦ let e : k ≡ i = omega arith in absurd (ne (ap (λ t. get_or ps t 0) e))
      ]) h
    ];
    only = λ j h. elim (cases_eq j (get_or ps i 0)) [
      | inl e ↦ inr (i, omega arith, t, sym e)
      | inr ne ↦ wider j (p.only j (sym (get_or-set_other ms (get_or ps i 0) j true false ne) ∙ h))
    ];
  }

-- no mark is set in cleared marks
pub cleared : (ms : List Bool) (n : ℕ) → ms ≡ replicate n false → (j : ℕ) → marked ms j ≡ false
cleared ms n e j = rw e (elim (cases_lt j n) [
  | inl l ↦ get_or-replicate n j false false l
  | inr l ↦ get_or_past (replicate n false) j false (omega (arith, length-replicate n false))
])

-- what is reached has all that the first ones have and that nodes hand on to those that they name
pub reached_least : (nodes : List ℕ) (n : ℕ) (Q : ℕ → Type 0) (p : ℕ → Bool) → ((j : ℕ) → p j ≡ true → Q j) → ((i j : ℕ) → i < n → Q i → names i (decoded nodes i) j ≡ true → Q j) →
    (j : ℕ) → reached nodes n p j ≡ true → Q j
unfolding reached
reached_least nodes zero Q p h on j r = h j r
reached_least nodes (suc n) Q p h on j r =
    reached_least nodes n Q (λ k. p k || (p n && names n (decoded nodes n) k))
    (λ k t. ⊎_elim (h k) (λ o. let a = and_parts (p n) (names n (decoded nodes n) k) o in on n k (omega arith) (h n a.0) a.1) (or_cases (p k) (p n && names n (decoded nodes n) k) t))
    (λ i k l. on i k (omega arith)) j r

has_map : (f : ℕ → ℕ) (xs : List ℕ) (i : ℕ) → has xs i ≡ true → has (map f xs) (f i) ≡ true
has_map f [] i h = absurd (has_none i h)
has_map f (x ∷ xs) i h = ⊎_elim
    (λ e. let q : x ≡ i = eqb-true x i e in rw q (has_head (f i) (map f xs)))
    (λ o. has_tail (f x) (map f xs) (f i) (has_map f xs i o))
    (or_cases (eqb x i) (has xs i) (sym (has_cons x xs i) ∙ h))

-- places of marked nodes are no more than the marked nodes
pub counted_places : (n m : ℕ) (roots : List Bool) (ps : List ℕ) (q : ℕ → Bool) → ((j : ℕ) → q j ≡ true → PlaceOf n roots ps j) → counted m q ≤ counted n (marked roots)
counted_places n m roots ps q h =
    let xs = map (λ i. get_or ps i 0) (passing_below n (marked roots)) in
    let e : length xs ≡ counted n (marked roots) = length-map (passing_below n (marked roots)) (λ i. get_or ps i 0) ∙ length-passing_below n (marked roots) in
    omega (
      arith,
      counted_listed m q xs (λ k t.
          let o : PlaceOf n roots ps k = h k t in
          subst (λ z. has xs z ≡ true) o.3 (has_map (λ i. get_or ps i 0) (passing_below n (marked roots)) o.0 (passing_has n (marked roots) o.0 o.1 o.2))),
    )

-- from the places of what is to be tidied a cone reaches only places of what was folded
module _ (nodes : List ℕ) (n : ℕ) (ms : List Bool) (cone ps : List ℕ) (simplified : Simplified nodes n ms cone ps) (roots first : List Bool)
    (within : (i : ℕ) → i < n → marked roots i ≡ true → marked ms i ≡ true) (placed : (j : ℕ) → marked first j ≡ true → PlaceOf n roots ps j) where
  reached_places : (j : ℕ) → reached cone (count cone) (marked first) j ≡ true → PlaceOf n ms ps j
  reached_places = reached_least cone (count cone) (PlaceOf n ms ps) (marked first)
      (λ j h. let o : PlaceOf n roots ps j = placed j h in (o.0, o.1, within o.0 o.1 o.2, o.3))
      (λ i j l o h. let k = cone_high cone simplified.begun simplified.tidy i j l h in simplified.onto j k.0 (omega (arith, k.1)))

  -- so no more of its nodes are copied than were folded
  pub copied_few : (kept : List Bool) → ((j : ℕ) → marked kept j ≡ reached cone (count cone) (marked first) j) → counted (count cone) (marked kept) ≤ counted n (marked ms)
  copied_few kept exact = counted_places n (count cone) ms ps (marked kept) (λ j h. reached_places j (sym (exact j) ∙ h))

-- places that are marked where no mark was set
pub placed_alone : (n : ℕ) (roots clear first : List Bool) (ps : List ℕ) → ((j : ℕ) → marked clear j ≡ false) →
    ((j : ℕ) → marked first j ≡ true → (marked clear j ≡ true) ⊎ PlaceOf n roots ps j) → (j : ℕ) → marked first j ≡ true → PlaceOf n roots ps j
placed_alone n roots clear first ps none only j h = ⊎_elim (λ t. absurd (both_ways (marked clear j) (none j) t)) (λ o. o) (only j h)
