use Rattle.std.proofs.Common.{◌-◌, ◌+◌, ◌≤◌, length}
use Rattle.decide.specs.Search.{at_once}
use Rattle.decide.proofs.Gathering.{Gathered}
use Rattle.decide.proofs.search.+search.Given as goal

abbrev pub decreases-search : goal.decreases-search
decreases-search l = length l.task.now.gaps.names.items - l.depth

-- the list of `next`, its first field, is lent by itself
abbrev pub invariant-loop-l : goal.invariant-loop-l
invariant-loop-l l = record { few : length l.next.0.items ≤ at_once l.task (l.depth + 1); gathered : Gathered l.task l.depth l.rows.list.items l.fn.met l.l l.next.0.items l.met }
