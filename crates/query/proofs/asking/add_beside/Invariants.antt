-- What was made and what is left to make are all.
use Rattle.std.proofs.Common.{◌≡◌, ◌++◌, drop}
use Rattle.list.specs.Shapes.{rows_of}
use Rattle.query.specs.Ask.{beside}
use Rattle.query.specs.Rows.{rows_in}
use Rattle.query.proofs.asking.add_beside.Given as goal

abbrev pub invariant-loop-other : goal.invariant-loop-other
invariant-loop-other l = rows_of l.out ++ beside l.row (rows_in (drop l.other-index l.others)) ≡ rows_of l.initial.out ++ beside l.row (rows_in l.others)
