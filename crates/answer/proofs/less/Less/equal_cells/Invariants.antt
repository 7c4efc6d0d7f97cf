use Rattle.std.proofs.Common.{◌-◌, ◌*◌}
use Rattle.answer.specs.Plan.{wide, equals}
use Rattle.answer.specs.Sides.{plan, cells}
use Rattle.answer.specs.Laid.{New}
use Rattle.answer.proofs.less.Less.equal_cells.Given as goal

abbrev pub invariant-loop-a : goal.invariant-loop-a
invariant-loop-a l = New (2 * (wide (plan l.self.p) - l.a)) l.e (equals (wide (plan l.self.p) - l.a) l.a (cells l.self.p l.i) (cells l.self.q l.j)) l.initial.nodes l.nodes
