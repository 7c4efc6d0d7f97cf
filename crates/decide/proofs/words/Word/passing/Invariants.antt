use Rattle.std.proofs.Common.{◌≡◌, ℕ, ◌*◌, ◌/◌, ◌%◌, ◌<◌, length, get_or}
use Rattle.std.specs.Fn.{FnReturnsAt}
use Rattle.decide.specs.Bit.{bit}
use Rattle.decide.proofs.words.Word.passing.Given as goal

-- the lanes of the first numbers say whether their item passes
abbrev pub invariant-loop-i : goal.invariant-loop-i
invariant-loop-i g l = record {
  four : length l.bits ≡ 4;
  seen : (k : ℕ) (d : _) → k < 64 * l.i → k < length l.items → FnReturnsAt g.F.Fn l.test (get_or l.items k d) (bit (k % 64) (get_or l.bits (k / 64) 0));
}
