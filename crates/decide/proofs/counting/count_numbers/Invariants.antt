use Rattle.std.proofs.Common.{◌≡◌, ◌-◌, ◌^◌, ◌<◌, ◌++◌}
use Rattle.condition.specs.Cond.{numbers_in, has}
use Rattle.decide.specs.Marked.{cells_marked}
use Rattle.decide.specs.Counting.{counted}
use Rattle.decide.proofs.counting.count_numbers.Given as goal

abbrev pub invariant-loop-number : goal.invariant-loop-number
invariant-loop-number l = (l.low < 2 ^ 64) × (l.many ≡ counted l.low (has (numbers_in (cells_marked l.marked) ++ l.row)))

abbrev pub decreases-loop-number : goal.decreases-loop-number
decreases-loop-number l = 2 ^ 64 - l.low
