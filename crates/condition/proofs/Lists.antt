-- Laws of `has`: which numbers stand in a list.
use Rattle.std.proofs.Common.{◌≡◌, ℕ, zero, suc, ◌<◌, Bool, true, false, ◌||◌, eqb, List, [], ◌∷◌, ◌++◌, length, get_or, sym, refl, ap, ◌∙◌, arith}
use Rattle.std.proofs.lemmas.Bool.{both_ways, eqb-true, eqb-false, eq-eqb, ne_eqb, or_left, or_right, or_parts}
use Rattle.condition.specs.Cond.{has, Within}

pub eqb_self : (a : ℕ) → eqb a a ≡ true
eqb_self a = eq-eqb a a refl

pub eqb_sym : (a b : ℕ) → eqb a b ≡ eqb b a
eqb_sym a b = go (eqb a b) refl
  where
    go : (t : Bool) → eqb a b ≡ t → eqb a b ≡ eqb b a
    go true e = e ∙ sym (eq-eqb b a (sym (eqb-true a b e)))
    go false e = e ∙ sym (ne_eqb b a (λ p. eqb-false a b e (sym p)))

pub has_none : (n : ℕ) → has [] n ≡ true → ⊥
unfolding has
has_none n h = both_ways false refl h

pub has_cons : (m : ℕ) (ms : List ℕ) (n : ℕ) → has (m ∷ ms) n ≡ (eqb m n || has ms n)
unfolding has
has_cons m ms n = refl

pub has_head : (n : ℕ) (ns : List ℕ) → has (n ∷ ns) n ≡ true
unfolding has
has_head n ns = or_left (eqb n n) (has ns n) (eqb_self n)

pub has_tail : (m : ℕ) (ms : List ℕ) (n : ℕ) → has ms n ≡ true → has (m ∷ ms) n ≡ true
unfolding has
has_tail m ms n h = or_right (eqb m n) (has ms n) h

pub has_app : (xs ys : List ℕ) (n : ℕ) → has (xs ++ ys) n ≡ (has xs n || has ys n)
unfolding has
has_app [] ys n = refl
has_app (x ∷ xs) ys n = rw (has_app xs ys n) (turn (eqb x n))
  where
    turn : (b : Bool) → (b || (has xs n || has ys n)) ≡ ((b || has xs n) || has ys n)
    turn true = refl
    turn false = refl

pub has_left : (xs ys : List ℕ) (n : ℕ) → has xs n ≡ true → has (xs ++ ys) n ≡ true
has_left xs ys n h = has_app xs ys n ∙ or_left (has xs n) (has ys n) h

pub has_right : (xs ys : List ℕ) (n : ℕ) → has ys n ≡ true → has (xs ++ ys) n ≡ true
has_right xs ys n h = has_app xs ys n ∙ or_right (has xs n) (has ys n) h

pub lacks_parts : (xs ys : List ℕ) (n : ℕ) → has (xs ++ ys) n ≡ false → (has xs n ≡ false) × (has ys n ≡ false)
lacks_parts xs ys n h = or_parts (has xs n) (has ys n) (sym (has_app xs ys n) ∙ h)

-- what one of two lists lacks and another has are two numbers
pub has_apart : (xs : List ℕ) (m n : ℕ) → has xs m ≡ true → has xs n ≡ false → m ≡ n → ⊥
has_apart xs m n h l e = both_ways (has xs m) (ap (has xs) e ∙ l) h

pub has_at : (xs : List ℕ) (i : ℕ) → i < length xs → has xs (get_or xs i 0) ≡ true
has_at [] i h = absurd (omega arith)
has_at (x ∷ xs) zero h = has_head x xs
has_at (x ∷ xs) (suc i) h = has_tail x xs (get_or xs i 0) (has_at xs i (omega arith))

pub within_self : (xs : List ℕ) → Within xs xs
unfolding Within
within_self xs n h = h
