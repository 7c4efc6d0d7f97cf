use Rattle.learn.proofs.Moved.{Placed}
use Rattle.learn.proofs.tidying.mark_places.Given as goal

abbrev pub invariant-loop-i : goal.invariant-loop-i
invariant-loop-i l = Placed l.roots l.i l.places l.initial.marks l.marks
