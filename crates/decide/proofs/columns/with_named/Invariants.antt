use Rattle.std.proofs.Common.{take}
use Rattle.decide.specs.Columns.{Named}
use Rattle.decide.proofs.columns.with_named.Given as goal

abbrev pub invariant-loop-number : goal.invariant-loop-number
invariant-loop-number l = Named l.rows l.place (take l.number-index l.named) l.words.items
