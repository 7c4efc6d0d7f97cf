-- Which numbers pass a test, and how many.
--
--   counted n p         how many of the numbers below n pass the test p
--   passing_below n p   those numbers, in rising order
--   LeastAt xs low x    x is the least one of the numbers xs that is not below low
--   Least xs low r      r is that number, or None if all of xs are below low
use Rattle.std.specs.Prelude.{◌≡◌, ℕ, zero, suc, ◌+◌, ◌<◌, ◌≤◌, Bool, true, false, cond as if, List, filter, Some, None, Option}
use Rattle.std.specs.List.{range_with_len}
use Rattle.condition.specs.Cond.{has}

unfoldable pub counted : ℕ → (ℕ → Bool) → ℕ
counted zero p = 0
counted (suc n) p = counted n p + if (p n) 1 0

unfoldable pub passing_below : ℕ → (ℕ → Bool) → List ℕ
passing_below n p = filter p (range_with_len 0 n)

pub record LeastAt (xs : List ℕ) (low x : ℕ) : Type 0 where
  pub one : has xs x ≡ true
  pub from : low ≤ x
  pub before : (k : ℕ) → low ≤ k → k < x → has xs k ≡ false

unfoldable pub Least : List ℕ → ℕ → Option ℕ → Type 0
Least xs low None = (k : ℕ) → low ≤ k → has xs k ≡ false
Least xs low (Some x) = LeastAt xs low x
