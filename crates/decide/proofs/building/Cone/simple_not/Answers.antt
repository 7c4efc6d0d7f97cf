use Rattle.std.proofs.Common.{arith}
use Rattle.decide.proofs.Simpler.{not_always, not_never, not_negated}
use Rattle.decide.proofs.building.Cone.simple_not.Goals as goal

pub returns-in-0 : goal.returns-in-0
returns-in-0 c = not_always c.args.self.now.nodes.now c.args.self.now.begun c.args.a c.in-0.is

pub returns-in-1 : goal.returns-in-1
returns-in-1 c = not_never c.args.self.now.nodes.now c.args.self.now.begun c.args.a c.in-1.is

pub returns-in-Some : goal.returns-in-Some
returns-in-Some c =
    let e = c.in-Some.ensures in
    not_negated c.args.self.now.nodes.now c.args.a c.in-Some.b (omega (arith, e.before, c.requires)) e.value e.cells
