use Rattle.std.proofs.Common.{ℕ, ◌<◌, slice_index}
use Rattle.decide.specs.Picking.{Opens, NoneWith}
use Rattle.decide.proofs.picking.pick_next.Given as goal

abbrev pub invariant-loop-number : goal.invariant-loop-number
invariant-loop-number l = (i k : ℕ) → i < l.number-index → Opens l.task l.row (slice_index l.order i) k → NoneWith l.task l.depth l.row (slice_index l.order i)
