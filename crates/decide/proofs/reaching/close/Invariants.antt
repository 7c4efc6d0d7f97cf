use Rattle.decide.proofs.Reached.{Closing}
use Rattle.decide.proofs.reaching.close.Given as goal

abbrev pub invariant-loop-i : goal.invariant-loop-i
invariant-loop-i l = Closing l.nodes l.n l.i l.initial.marks l.marks
