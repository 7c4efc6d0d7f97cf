-- Fresh numbers are there, below the count of those to avoid and of those wanted: of the numbers below that count, one is struck
-- for each number to avoid.
use Rattle.std.proofs.Common.{◌≡◌, ℕ, zero, suc, ◌+◌, ◌<◌, Bool, true, false, cond as if, eqb, ◌⊎◌, List, [], ◌∷◌, length, get_or, sym, refl, ap, ◌∙◌, inl, inr, ⊎_elim, arith}
use Rattle.std.proofs.lemmas.Bool.{both_ways, eqb-true, or_cases, or_parts, cases_Bool}
use Rattle.condition.specs.Cond.{has}
use Rattle.condition.proofs.Lists.{has_none, has_cons, has_at, has_apart}
use Rattle.evaluate.specs.Enough.{FreshSmall}

-- the numbers below n, the highest first
down : ℕ → List ℕ
down zero = []
down (suc n) = n ∷ down n

-- all different
abbrev Apart : List ℕ → Type 0
Apart [] = Unit {0}
Apart (x ∷ xs) = (has xs x ≡ false) × Apart xs

-- one less: m, or if m is not there the last
strike : ℕ → List ℕ → List ℕ
strike m [] = []
strike m (x ∷ []) = []
strike m (x ∷ (y ∷ ys)) = if (eqb x m) (y ∷ ys) (x ∷ strike m (y ∷ ys))

-- the numbers below n and the length of ms, with one struck for each of ms
clear : List ℕ → ℕ → List ℕ
clear [] n = down n
clear (m ∷ ms) n = strike m (clear ms (suc n))

-- what a list lacks, it lacks when struck
struck_lacks : (m : ℕ) (xs : List ℕ) (n : ℕ) → has xs n ≡ false → has (strike m xs) n ≡ false
unfolding strike has
struck_lacks m [] n h = h
struck_lacks m (x ∷ []) n h = refl
struck_lacks m (x ∷ (y ∷ ys)) n h =
    let p : (eqb x n ≡ false) × (has (y ∷ ys) n ≡ false) = or_parts (eqb x n) (has (y ∷ ys) n) h in
    go p.0 p.1 (struck_lacks m (y ∷ ys) n p.1) (eqb x m)
  where
    go : eqb x n ≡ false → has (y ∷ ys) n ≡ false → has (strike m (y ∷ ys)) n ≡ false → (b : Bool) → has (if b (y ∷ ys) (x ∷ strike m (y ∷ ys))) n ≡ false
    go e u ih true = u
    go e u ih false = rw e ih

struck_length : (m n : ℕ) (xs : List ℕ) → length xs ≡ suc n → length (strike m xs) ≡ n
unfolding strike
struck_length m n [] e = omega arith
struck_length m n (x ∷ []) e = omega arith
struck_length m zero (x ∷ (y ∷ ys)) e = absurd (omega arith)
struck_length m (suc n) (x ∷ (y ∷ ys)) e = go (struck_length m n (y ∷ ys) (omega arith)) (eqb x m)
  where
    go : length (strike m (y ∷ ys)) ≡ n → (b : Bool) → length (if b (y ∷ ys) (x ∷ strike m (y ∷ ys))) ≡ suc n
    go ih true = omega arith
    go ih false = omega arith

struck_apart : (m : ℕ) (xs : List ℕ) → Apart xs → Apart (strike m xs)
unfolding strike
struck_apart m [] a = tt
struck_apart m (x ∷ []) a = tt
struck_apart m (x ∷ (y ∷ ys)) a = go (struck_apart m (y ∷ ys) a.1) (eqb x m)
  where
    go : Apart (strike m (y ∷ ys)) → (b : Bool) → Apart (if b (y ∷ ys) (x ∷ strike m (y ∷ ys)))
    go ih true = a.1
    go ih false = (struck_lacks m (y ∷ ys) x a.0, ih)

struck_gone : (m : ℕ) (xs : List ℕ) → Apart xs → has (strike m xs) m ≡ false
unfolding strike has
struck_gone m [] a = refl
struck_gone m (x ∷ []) a = refl
struck_gone m (x ∷ (y ∷ ys)) a = go (struck_gone m (y ∷ ys) a.1) (eqb x m) refl
  where
    go : has (strike m (y ∷ ys)) m ≡ false → (b : Bool) → eqb x m ≡ b → has (if b (y ∷ ys) (x ∷ strike m (y ∷ ys))) m ≡ false
    go ih true e = ap (has (y ∷ ys)) (sym (eqb-true x m e)) ∙ a.0
    go ih false e = rw e ih

-- each number that the list has is below b
abbrev AllBelow : ℕ → List ℕ → Type 0
AllBelow b xs = (n : ℕ) → has xs n ≡ true → n < b

struck_below : (b m : ℕ) (xs : List ℕ) → AllBelow b xs → AllBelow b (strike m xs)
struck_below b m xs u n h = ⊎_elim (λ e. u n e) (λ e. absurd (both_ways (has (strike m xs) n) (struck_lacks m xs n e) h)) (cases_Bool (has xs n))

down_below : (n : ℕ) → AllBelow n (down n)
unfolding down
down_below zero k h = absurd (has_none k h)
down_below (suc n) k h = ⊎_elim (λ e. omega (arith, eqb-true n k e)) (λ u. omega (arith, down_below n k u)) (or_cases (eqb n k) (has (down n) k) (sym (has_cons n (down n) k) ∙ h))

down_apart : (n : ℕ) → Apart (down n)
unfolding down
down_apart zero = tt
down_apart (suc n) = (⊎_elim (λ e. absurd (omega (arith, down_below n n e))) (λ e. e) (cases_Bool (has (down n) n)), down_apart n)

down_length : (n : ℕ) → length (down n) ≡ n
unfolding down
down_length zero = refl
down_length (suc n) = ap suc (down_length n)

clear_length : (ms : List ℕ) (n : ℕ) → length (clear ms n) ≡ n
unfolding clear
clear_length [] n = down_length n
clear_length (m ∷ ms) n = struck_length m n (clear ms (suc n)) (clear_length ms (suc n))

clear_apart : (ms : List ℕ) (n : ℕ) → Apart (clear ms n)
unfolding clear
clear_apart [] n = down_apart n
clear_apart (m ∷ ms) n = struck_apart m (clear ms (suc n)) (clear_apart ms (suc n))

clear_below : (ms : List ℕ) (n : ℕ) → AllBelow (length ms + n) (clear ms n)
unfolding clear
clear_below [] n k h = omega (arith, down_below n k h)
clear_below (m ∷ ms) n k h = omega (arith, struck_below (length ms + suc n) m (clear ms (suc n)) (clear_below ms (suc n)) k h)

clear_new : (ms : List ℕ) (n k : ℕ) → has ms k ≡ true → has (clear ms n) k ≡ false
unfolding clear
clear_new [] n k h = absurd (has_none k h)
clear_new (m ∷ ms) n k h =
    ⊎_elim (λ e. ap (has (strike m (clear ms (suc n)))) (sym (eqb-true m k e)) ∙ struck_gone m (clear ms (suc n)) (clear_apart ms (suc n)))
    (λ u. struck_lacks m (clear ms (suc n)) k (clear_new ms (suc n) k u))
    (or_cases (eqb m k) (has ms k) (sym (has_cons m ms k) ∙ h))

at_apart : (xs : List ℕ) → Apart xs → (i j : ℕ) → i < length xs → j < length xs → get_or xs i 0 ≡ get_or xs j 0 → i ≡ j
at_apart [] a i j p q e = absurd (omega arith)
at_apart (x ∷ xs) a zero zero p q e = refl
at_apart (x ∷ xs) a zero (suc j) p q e = absurd (has_apart xs (get_or xs j 0) x (has_at xs j (omega arith)) a.0 (sym e))
at_apart (x ∷ xs) a (suc i) zero p q e = absurd (has_apart xs (get_or xs i 0) x (has_at xs i (omega arith)) a.0 e)
at_apart (x ∷ xs) a (suc i) (suc j) p q e = ap suc (at_apart xs a.1 i j (omega arith) (omega arith) e)

pub fresh_small : FreshSmall
fresh_small ms n = (
  clear ms n,
  record { many = clear_length ms n; new = λ i h. new i h (cases_Bool (has ms (get_or (clear ms n) i 0))); different = at_apart (clear ms n) (clear_apart ms n) },
  λ i h. clear_below ms n (get_or (clear ms n) i 0) (has_at (clear ms n) i h),
)
  where
    new : (i : ℕ) → i < length (clear ms n) → (has ms (get_or (clear ms n) i 0) ≡ true) ⊎ (has ms (get_or (clear ms n) i 0) ≡ false) → has ms (get_or (clear ms n) i 0) ≡ false
    new i h (inl e) = absurd (both_ways (has (clear ms n) (get_or (clear ms n) i 0)) (clear_new ms n (get_or (clear ms n) i 0) e) (has_at (clear ms n) i h))
    new i h (inr e) = e
