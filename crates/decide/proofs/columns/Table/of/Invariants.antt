use Rattle.std.proofs.Common.{◌≡◌, length}
use Rattle.decide.specs.Columns.{Filled}
use Rattle.decide.proofs.columns.Table.of.Given as goal

abbrev pub invariant-loop-place : goal.invariant-loop-place
invariant-loop-place l = record { many : length l.columns.items ≡ l.place; filled : Filled l.rows l.named l.columns.items }
