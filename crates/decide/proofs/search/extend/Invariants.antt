use Rattle.std.proofs.Common.{◌+◌}
use Rattle.decide.proofs.Spreading.{Spread}
use Rattle.decide.proofs.search.extend.Given as goal

abbrev pub invariant-loop-number : goal.invariant-loop-number
invariant-loop-number l = Spread l.task.pool.items l.row l.depth (l.task.named + l.row.used) l.fn.next.items l.number-index l.next.items
