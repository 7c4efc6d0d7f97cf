use Rattle.std.proofs.Common.{◌≡◌, ℕ, length}
use Rattle.decide.specs.Reaching.{marked}
use Rattle.learn.specs.Tidying.{lines_name}
use Rattle.learn.proofs.tidying_lines.mark_lines.Given as goal

abbrev pub invariant-loop-i : goal.invariant-loop-i
invariant-loop-i l = record { long : length l.marks ≡ 131072; named : (j : ℕ) → marked l.marks j ≡ lines_name l.i l.w l.answer j }
