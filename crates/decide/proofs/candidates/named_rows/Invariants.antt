use Rattle.std.proofs.Common.{◌≡◌, length, take}
use Rattle.list.specs.Lists.{filled}
use Rattle.list.specs.Shapes.{rows_of}
use Rattle.decide.specs.Shapes.{chosen_of, out_of}
use Rattle.decide.specs.SureSteps.{named_rows}
use Rattle.decide.proofs.candidates.named_rows.Given as goal

abbrev pub invariant-loop-line : goal.invariant-loop-line
invariant-loop-line l = rows_of l.rows ≡ named_rows (filled (chosen_of l.chosen) (take (length l.yielded) (out_of l.answered)))
