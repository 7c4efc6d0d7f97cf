use Rattle.decide.proofs.Picks.{PickedTo}
use Rattle.decide.proofs.picking.pick_first.Given as goal

abbrev pub invariant-loop-depth : goal.invariant-loop-depth
invariant-loop-depth l = PickedTo l.task l.order l.depth l.row
