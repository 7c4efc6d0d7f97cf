use Rattle.answer.specs.Sides.{node, cells}
use Rattle.answer.specs.Written.{Put}
use Rattle.answer.proofs.side.Side.put_line.Given as goal

abbrev pub invariant-loop-a : goal.invariant-loop-a
invariant-loop-a l = Put (node l.self l.i) (cells l.self l.i) l.a l.line
