use Rattle.std.proofs.Common.{◌++◌}
use Rattle.condition.specs.Cond.{numbers_in}
use Rattle.decide.specs.Reaching.{cells_among}
use Rattle.decide.specs.Counting.{Least}
use Rattle.decide.proofs.counting.least_number.Given as goal

abbrev pub invariant-loop-i : goal.invariant-loop-i
invariant-loop-i l = Least (numbers_in (cells_among l.marked.nodes.now l.yielded) ++ l.row) l.low l.best
