use Rattle.learn.specs.Copying.{Copies}
use Rattle.learn.proofs.copying.copy.Given as goal

abbrev pub invariant-loop-i : goal.invariant-loop-i
invariant-loop-i l = Copies l.cone l.i l.marks l.initial.nodes l.nodes l.places
