use Rattle.std.proofs.Common.{◌≡◌, ℕ, ◌+◌, ◌<◌, ◌≤◌, length, get_or, take}
use Rattle.decide.specs.Trying.{LeastOther}
use Rattle.decide.proofs.pool.pool.Given as goal

-- the numbers that are given, and so many fresh ones
abbrev pub invariant-loop : goal.invariant-loop
invariant-loop l = record {
  many : length l.pool.items ≡ length l.numbers + l.counter;
  given : take (length l.numbers) l.pool.items ≡ l.numbers;
  fresh : (p : ℕ) → length l.numbers ≤ p → p < length l.pool.items → LeastOther (take p l.pool.items) (get_or l.pool.items p 0);
}
