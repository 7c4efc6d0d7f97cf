use Rattle.std.proofs.Common.{ℕ, ◌+◌, ◌<◌, ◌≤◌, get_or}
use Rattle.std.specs.Fn.{FnReturnsAt}
use Rattle.decide.specs.Bit.{bit}
use Rattle.decide.proofs.words.passing_bits.Given as goal

-- the bits say whether the items from l on pass
abbrev pub invariant-loop-l : goal.invariant-loop-l
invariant-loop-l g l = record {
  low : l.from ≤ l.initial.l → l.from ≤ l.l;
  seen : (k : ℕ) (d : _) → k < 64 → l.l + k < l.initial.l → FnReturnsAt g.F.Fn l.test (get_or l.items (l.l + k) d) (bit k l.bits);
}
