use Rattle.learn.specs.Places.{OverNodes}
use Rattle.learn.proofs.places.over_nodes.Given as goal

abbrev pub invariant-loop-i : goal.invariant-loop-i
invariant-loop-i l = OverNodes l.gap l.number l.i l.fn.nodes l.nodes
