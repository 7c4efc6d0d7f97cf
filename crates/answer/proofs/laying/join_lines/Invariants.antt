use Rattle.answer.specs.Laid.{Added, joined}
use Rattle.answer.proofs.laying.join_lines.Given as goal

abbrev pub invariant-loop-i : goal.invariant-loop-i
invariant-loop-i l = Added (joined l.initial.nodes l.p l.q) 1 l.i l.initial.nodes l.nodes
