-- The worked example, by cases on the three gaps.
use Rattle.std.proofs.Common.{◌≡◌, ℕ, Bool, true, false, cond as if, not, ◌&&◌, ◌||◌, eqb, ◌⊎◌, List, [], ◌∷◌, sym, refl, ap, ◌∙◌, inl, inr, ⊎_elim, arith}
use Rattle.std.proofs.lemmas.Bool.Decides.{nat_tests}
use Rattle.std.proofs.lemmas.Bool.{false≢true, both_ways, not-true, eqb-true, eqb-false, ne_eqb, and_parts, or_cases, or_parts}
use Rattle.condition.specs.Cond.{Cond, known, gap, equal, both}
use Rattle.condition.proofs.Lists.{eqb_self}
use Rattle.list.proofs.Filling.{same_row_is}
use Rattle.evaluate.specs.Filling.{Filling, holds}
use Rattle.list.specs.Lists.{Row, fill_cells, filled, all_filled, same_row, stands}
use Rattle.query.specs.Ask.{Query, without, passes, kept, at_columns, cut_to, beside, joined, less, ask}
use Rattle.answer.specs.Answer.{answer, tested, test_of, cut_lines, some_cells, lines_joined, line_beside}
use Rattle.answer.specs.Promise.{Sure, Possible}
use Rattle.answer.specs.Baptisms.{books, fathers, Decided, mothers, unmarried, children_of, childless, one, two, Table, all_under, FalseAnswers}

-- the books once filled
abbrev rows : (x y z : ℕ) → List (List Row)
rows x y z = (two 1 10 ∷ (two 2 x ∷ (two 3 y ∷ []))) ∷ ((two 10 20 ∷ (two 11 z ∷ [])) ∷ [])

mothers_shows : (x y z : ℕ) (r : Row) →
    stands r (ask mothers (rows x y z))
    ≡ (same_row r (two 1 20) || ((eqb x 10 && same_row r (two 2 20)) || ((eqb x 11 && same_row r (two 2 z))
    || ((eqb y 10 && same_row r (two 3 20)) || (eqb y 11 && same_row r (two 3 z))))))
unfolding stands ask kept passes at_columns cut_to beside joined
mothers_shows x y z r = grind arith

unmarried_shows : (x y z : ℕ) (r : Row) →
    stands r (ask unmarried (rows x y z))
    ≡ ((not (eqb x 10 || eqb x 11) && same_row r (one x)) || (not (eqb y 10 || eqb y 11) && same_row r (one y)))
unfolding stands ask at_columns cut_to less same_row
unmarried_shows x y z r = grind arith

children_shows : (x y z : ℕ) (r : Row) →
    stands r (ask (children_of 10) (rows x y z)) ≡ (same_row r (one 1) || ((eqb x 10 && same_row r (one 2)) || (eqb y 10 && same_row r (one 3))))
unfolding stands ask kept passes at_columns cut_to
children_shows x y z r = grind arith

children_less_shows : (x y z : ℕ) (r : Row) →
    stands r (ask (without (children_of 10) (children_of 11)) (rows x y z)) ≡ (same_row r (one 1) || ((eqb x 10 && same_row r (one 2)) || (eqb y 10 && same_row r (one 3))))
unfolding stands ask kept passes at_columns cut_to less same_row
children_less_shows x y z r = grind (arith, nat_tests)

childless_shows : (x y z : ℕ) (r : Row) →
    stands r (ask childless (rows x y z)) ≡ (not (eqb x 11 || eqb y 11) && same_row r (one 11))
unfolding stands ask at_columns cut_to less same_row
childless_shows x y z r = grind (arith, nat_tests)

-- The three gaps' numbers as a filling.
abbrev numbers : (x y z : ℕ) → Filling
numbers x y z k = if (eqb k 0) x (if (eqb k 1) y z)

-- a row that is this one, where a test passes
abbrev There : Bool → Row → Row → Type 0
There b r s = (b ≡ true) × (r ≡ s)

there : (b : Bool) (r s : Row) → (b && same_row r s) ≡ true → There b r s
there b r s e = let p : (b ≡ true) × (same_row r s ≡ true) = and_parts b (same_row r s) e in (p.0, same_row_is r s p.1)

-- the row and not its equal
shown : (q : Query) (ts : List (List Row)) (r s : Row) → r ≡ s → stands s (ask q ts) ≡ true → stands r (ask q ts) ≡ true
shown q ts r s e h = rw e h

mothers_cases : (x y z : ℕ) (r : Row) → stands r (ask mothers (rows x y z)) ≡ true →
    (r ≡ two 1 20) ⊎ ((There (eqb x 10) r (two 2 20) ⊎ There (eqb x 11) r (two 2 z)) ⊎ (There (eqb y 10) r (two 3 20) ⊎ There (eqb y 11) r (two 3 z)))
mothers_cases x y z r e =
    ⊎_elim (λ h. inl (same_row_is r (two 1 20) h))
    (λ h. ⊎_elim (λ k. inr (inl (inl (there (eqb x 10) r (two 2 20) k))))
    (λ k. ⊎_elim (λ l. inr (inl (inr (there (eqb x 11) r (two 2 z) l))))
    (λ l. inr (inr (⊎_elim (λ m. inl (there (eqb y 10) r (two 3 20) m)) (λ m. inr (there (eqb y 11) r (two 3 z) m)) (or_cases _ _ l))))
    (or_cases _ _ k)) (or_cases _ _ h)) (or_cases _ _ (sym (mothers_shows x y z r) ∙ e))

mothers_now : Decided fathers mothers (λ r. r ≡ two 1 20) (λ r. (r ≡ two 1 20) ⊎ ((n : ℕ) × ((r ≡ two 2 n) ⊎ (r ≡ two 3 n))))
unfolding all_filled filled fill_cells holds stands ask kept passes at_columns cut_to beside joined same_row
mothers_now r = ((sure_only, λ e v h. shown mothers (all_filled v books) r (two 1 20) e refl), (possible_only, possible))
  where
    sure_only : Sure fathers books mothers r → r ≡ two 1 20
    sure_only s = elim (mothers_cases 10 5 0 r (s (numbers 10 5 0) refl)) [
      | inl e ↦ e
      | inr (inl (inl t)) ↦ absurd (false≢true (rw t.1 at (s (numbers 11 5 0) refl)))
      | inr (inl (inr t)) ↦ absurd (false≢true t.0)
      | inr (inr (inl t)) ↦ absurd (false≢true t.0)
      | inr (inr (inr t)) ↦ absurd (false≢true t.0)
    ]

    possible_only : Possible fathers books mothers r → (r ≡ two 1 20) ⊎ ((n : ℕ) × ((r ≡ two 2 n) ⊎ (r ≡ two 3 n)))
    possible_only p = elim (mothers_cases (p.0 0) (p.0 1) (p.0 2) r p.2) [
      | inl e ↦ inl e
      | inr (inl (inl t)) ↦ inr (20, inl t.1)
      | inr (inl (inr t)) ↦ inr (p.0 2, inl t.1)
      | inr (inr (inl t)) ↦ inr (20, inr t.1)
      | inr (inr (inr t)) ↦ inr (p.0 2, inr t.1)
    ]

    possible : (r ≡ two 1 20) ⊎ ((n : ℕ) × ((r ≡ two 2 n) ⊎ (r ≡ two 3 n))) → Possible fathers books mothers r
    possible (inl e) = (numbers 10 5 0, refl, shown mothers (rows 10 5 0) r (two 1 20) e refl)
    possible (inr (n, inl e)) = (numbers 11 5 n, refl, shown mothers (rows 11 5 n) r (two 2 n) e (rw (eqb_self n) refl))
    possible (inr (n, inr e)) = (numbers 10 11 n, refl, shown mothers (rows 10 11 n) r (two 3 n) e (rw (eqb_self n) refl))

-- what is known says of the numbers of the gaps
fathers_say : (v : Filling) → holds v fathers ≡ true → (eqb (v 0) 10 || eqb (v 0) 11) ≡ true
unfolding holds
fathers_say v h = (and_parts (eqb (v 0) 10 || eqb (v 0) 11) (not (eqb (v 0) (v 1))) h).0

more_says : (v : Filling) (k n : ℕ) → holds v (both fathers (equal (gap k) (known n))) ≡ true → (holds v fathers ≡ true) × (v k ≡ n)
unfolding holds
more_says v k n h = let p : (holds v fathers ≡ true) × (eqb (v k) n ≡ true) = and_parts (holds v fathers) (eqb (v k) n) h in (p.0, eqb-true (v k) n p.1)

mothers_then :
    Decided (both fathers (equal (gap 2) (known 20))) mothers (λ r. (r ≡ two 1 20) ⊎ (r ≡ two 2 20))
    (λ r. (r ≡ two 1 20) ⊎ ((r ≡ two 2 20) ⊎ (r ≡ two 3 20)))
unfolding all_filled filled fill_cells holds stands ask kept passes at_columns cut_to beside joined same_row
mothers_then r = ((sure_only, sure), (possible_only, possible))
  where
    what : Cond
    what = both fathers (equal (gap 2) (known 20))

    sure_only : Sure what books mothers r → (r ≡ two 1 20) ⊎ (r ≡ two 2 20)
    sure_only s = elim (mothers_cases 10 5 20 r (s (numbers 10 5 20) refl)) [
      | inl e ↦ inl e
      | inr (inl (inl t)) ↦ inr t.1
      | inr (inl (inr t)) ↦ absurd (false≢true t.0)
      | inr (inr (inl t)) ↦ absurd (false≢true t.0)
      | inr (inr (inr t)) ↦ absurd (false≢true t.0)
    ]

    sure : (r ≡ two 1 20) ⊎ (r ≡ two 2 20) → Sure what books mothers r
    sure (inl e) v h = shown mothers (all_filled v books) r (two 1 20) e refl
    sure (inr e) v h =
        let k : (holds v fathers ≡ true) × (v 2 ≡ 20) = more_says v 2 20 h in
        let f = fathers_say v k.0 in
        shown mothers (all_filled v books) r (two 2 20) e (mothers_shows (v 0) (v 1) (v 2) (two 2 20) ∙ grind (arith, nat_tests))

    twenty : (v : Filling) (n : ℕ) → holds v what ≡ true → r ≡ two n (v 2) → r ≡ two n 20
    twenty v n h e = e ∙ ap (two n) (more_says v 2 20 h).1

    possible_only : Possible what books mothers r → (r ≡ two 1 20) ⊎ ((r ≡ two 2 20) ⊎ (r ≡ two 3 20))
    possible_only p = elim (mothers_cases (p.0 0) (p.0 1) (p.0 2) r p.2) [
      | inl e ↦ inl e
      | inr (inl (inl t)) ↦ inr (inl t.1)
      | inr (inl (inr t)) ↦ inr (inl (twenty p.0 2 p.1 t.1))
      | inr (inr (inl t)) ↦ inr (inr t.1)
      | inr (inr (inr t)) ↦ inr (inr (twenty p.0 3 p.1 t.1))
    ]

    possible : (r ≡ two 1 20) ⊎ ((r ≡ two 2 20) ⊎ (r ≡ two 3 20)) → Possible what books mothers r
    possible (inl e) = (numbers 10 5 20, refl, shown mothers (rows 10 5 20) r (two 1 20) e refl)
    possible (inr (inl e)) = (numbers 10 5 20, refl, shown mothers (rows 10 5 20) r (two 2 20) e refl)
    possible (inr (inr e)) = (numbers 11 10 20, refl, shown mothers (rows 11 10 20) r (two 3 20) e refl)

-- an unmarried father can only be g1, and is neither 10 nor 11
unmarried_only : (v : Filling) (r : Row) → holds v fathers ≡ true → stands r (ask unmarried (all_filled v books)) ≡ true → There (not (eqb (v 1) 10 || eqb (v 1) 11)) r (one (v 1))
unfolding all_filled filled fill_cells holds
unmarried_only v r h e =
    ⊎_elim (λ k. absurd (both_ways _ (not-true _ (there _ r (one (v 0)) k).0) (fathers_say v h))) (λ k. there _ r (one (v 1)) k)
    (or_cases _ _ (sym (unmarried_shows (v 0) (v 1) (v 2) r) ∙ e))

unmarried_now : Decided fathers unmarried (λ r. ⊥) (λ r. (n : ℕ) × (r ≡ one n) × (n ≡ 10 → ⊥) × (n ≡ 11 → ⊥))
unfolding all_filled filled fill_cells holds stands ask at_columns cut_to less same_row
unmarried_now r = ((λ s. false≢true (s (numbers 10 11 0) refl), λ n. absurd n), (possible_only, possible))
  where
    possible_only : Possible fathers books unmarried r → (n : ℕ) × (r ≡ one n) × (n ≡ 10 → ⊥) × (n ≡ 11 → ⊥)
    possible_only p =
        let t : There (not (eqb (p.0 1) 10 || eqb (p.0 1) 11)) r (one (p.0 1)) = unmarried_only p.0 r p.1 p.2 in
        let k : (eqb (p.0 1) 10 ≡ false) × (eqb (p.0 1) 11 ≡ false) = or_parts (eqb (p.0 1) 10) (eqb (p.0 1) 11) (not-true (eqb (p.0 1) 10 || eqb (p.0 1) 11) t.0) in
        (p.0 1, t.1, eqb-false (p.0 1) 10 k.0, eqb-false (p.0 1) 11 k.1)

    possible : ((n : ℕ) × (r ≡ one n) × (n ≡ 10 → ⊥) × (n ≡ 11 → ⊥)) → Possible fathers books unmarried r
    possible (n, e, not10, not11) = (
      numbers 10 n 0,
      rw (ne_eqb 10 n (λ p. not10 (sym p))) refl,
      shown unmarried (rows 10 n 0) r (one n) e (unmarried_shows 10 n 0 (one n) ∙ rw (ne_eqb n 10 not10, ne_eqb n 11 not11, eqb_self n) refl),
    )

unmarried_then : Decided (both fathers (equal (gap 1) (known 11))) unmarried (λ r. ⊥) (λ r. ⊥)
unfolding all_filled filled fill_cells holds stands ask at_columns cut_to less same_row
unmarried_then r = ((λ s. false≢true (s (numbers 10 11 0) refl), λ n. absurd n), (possible_only, λ n. absurd n))
  where
    possible_only : Possible (both fathers (equal (gap 1) (known 11))) books unmarried r → ⊥
    possible_only p =
        let k : (holds p.0 fathers ≡ true) × (p.0 1 ≡ 11) = more_says p.0 1 11 p.1 in
        let t : There (not (eqb (p.0 1) 10 || eqb (p.0 1) 11)) r (one (p.0 1)) = unmarried_only p.0 r k.0 p.2 in
        false≢true (rw k.1 at t.0)

children : Decided fathers (children_of 10) (λ r. r ≡ one 1) (λ r. (r ≡ one 1) ⊎ ((r ≡ one 2) ⊎ (r ≡ one 3)))
unfolding all_filled filled fill_cells holds stands ask kept passes at_columns cut_to same_row
children r = ((sure_only, λ e v h. shown (children_of 10) (all_filled v books) r (one 1) e refl), (possible_only, possible))
  where
    cases : (x y z : ℕ) → stands r (ask (children_of 10) (rows x y z)) ≡ true → (r ≡ one 1) ⊎ (There (eqb x 10) r (one 2) ⊎ There (eqb y 10) r (one 3))
    cases x y z e =
        ⊎_elim (λ h. inl (same_row_is r (one 1) h))
        (λ h. inr (⊎_elim (λ k. inl (there (eqb x 10) r (one 2) k)) (λ k. inr (there (eqb y 10) r (one 3) k)) (or_cases _ _ h)))
        (or_cases _ _ (sym (children_shows x y z r) ∙ e))

    sure_only : Sure fathers books (children_of 10) r → r ≡ one 1
    sure_only s = elim (cases 11 5 0 (s (numbers 11 5 0) refl)) [ inl e ↦ e | inr (inl t) ↦ absurd (false≢true t.0) | inr (inr t) ↦ absurd (false≢true t.0) ]

    possible_only : Possible fathers books (children_of 10) r → (r ≡ one 1) ⊎ ((r ≡ one 2) ⊎ (r ≡ one 3))
    possible_only p = elim (cases (p.0 0) (p.0 1) (p.0 2) p.2) [ inl e ↦ inl e | inr (inl t) ↦ inr (inl t.1) | inr (inr t) ↦ inr (inr t.1) ]

    possible : (r ≡ one 1) ⊎ ((r ≡ one 2) ⊎ (r ≡ one 3)) → Possible fathers books (children_of 10) r
    possible (inl e) = (numbers 10 5 0, refl, shown (children_of 10) (rows 10 5 0) r (one 1) e refl)
    possible (inr (inl e)) = (numbers 10 5 0, refl, shown (children_of 10) (rows 10 5 0) r (one 2) e refl)
    possible (inr (inr e)) = (numbers 11 10 0, refl, shown (children_of 10) (rows 11 10 0) r (one 3) e refl)

-- a child of 10 is no child of 11 in these books, so the third question has the rows of the second
children_less : Decided fathers (without (children_of 10) (children_of 11)) (λ r. r ≡ one 1) (λ r. (r ≡ one 1) ⊎ ((r ≡ one 2) ⊎ (r ≡ one 3)))
unfolding all_filled filled fill_cells holds
children_less r = (
  (λ s. (children r).0.0 (λ v h. sym (alike_rows v) ∙ s v h), λ e v h. alike_rows v ∙ (children r).0.1 e v h),
  (λ p. (children r).1.0 (p.0, p.1, sym (alike_rows p.0) ∙ p.2), back),
)
  where
    alike_rows : (v : Filling) → stands r (ask (without (children_of 10) (children_of 11)) (all_filled v books)) ≡ stands r (ask (children_of 10) (all_filled v books))
    alike_rows v = children_less_shows (v 0) (v 1) (v 2) r ∙ sym (children_shows (v 0) (v 1) (v 2) r)

    back : (r ≡ one 1) ⊎ ((r ≡ one 2) ⊎ (r ≡ one 3)) → Possible fathers books (without (children_of 10) (children_of 11)) r
    back d = let p : Possible fathers books (children_of 10) r = (children r).1.1 d in (p.0, p.1, alike_rows p.0 ∙ p.2)

childless_men : Decided fathers childless (λ r. ⊥) (λ r. r ≡ one 11)
unfolding all_filled filled fill_cells holds stands ask at_columns cut_to less same_row
childless_men r = (
  (λ s. false≢true (s (numbers 11 5 0) refl), λ n. absurd n),
  (
    λ p. (there _ r (one 11) (sym (childless_shows (p.0 0) (p.0 1) (p.0 2) r) ∙ p.2)).1,
    λ e. (numbers 10 5 0, refl, shown childless (rows 10 5 0) r (one 11) e refl),
  ),
)

pub table_stands : Table
table_stands =
    record {
      mothers_now = mothers_now;
      mothers_then = mothers_then;
      unmarried_now = unmarried_now;
      unmarried_then = unmarried_then;
      children = children;
      children_less = children_less;
      childless_men = childless_men;
    }

pub false_answers_stand : FalseAnswers
unfolding all_filled filled fill_cells holds stands ask kept passes at_columns cut_to beside joined same_row answer tested test_of cut_lines some_cells lines_joined line_beside all_under
false_answers_stand =
    record {
      empty = λ a. false≢true (a (numbers 10 5 0) refl (two 1 20));
      nothing = λ a. false≢true (a (numbers 10 5 0) refl (two 1 20));
      everything = λ a. false≢true (sym (a (numbers 11 5 0) refl (two 2 20)));
    }
