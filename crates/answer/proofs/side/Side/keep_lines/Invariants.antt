use Rattle.query.specs.Shapes.{test_of}
use Rattle.answer.specs.Laid.{Added, kept}
use Rattle.answer.proofs.side.Side.keep_lines.Given as goal

abbrev pub invariant-loop-i : goal.invariant-loop-i
invariant-loop-i l = Added (kept l.initial.nodes l.self (test_of l.test)) 3 l.i l.initial.nodes l.nodes
