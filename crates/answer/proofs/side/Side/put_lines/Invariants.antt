use Rattle.answer.specs.Plan.{wide}
use Rattle.answer.specs.Sides.{plan, node, cells}
use Rattle.answer.specs.Written.{Written}
use Rattle.answer.proofs.side.Side.put_lines.Given as goal

abbrev pub invariant-loop-i : goal.invariant-loop-i
invariant-loop-i l = Written (node l.self) (cells l.self) (wide (plan l.self)) l.i l.initial.out l.out
