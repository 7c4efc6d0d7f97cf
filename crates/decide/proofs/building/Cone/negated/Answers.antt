use Rattle.decide.proofs.Simpler.{negation, negation_cells}
use Rattle.decide.proofs.building.Cone.negated.Goals as goal

pub returns-in-Not-clause-value : goal.returns-in-Not-clause-value
returns-in-Not-clause-value c = negation c.args.self.now.nodes.now c.args.self.now.tidy c.args.a c.in-Not.b c.requires.0 c.requires.1 c.in-Not.ensures.read

pub returns-in-Not-clause-cells : goal.returns-in-Not-clause-cells
returns-in-Not-clause-cells c = negation_cells c.args.self.now.nodes.now c.args.self.now.tidy c.args.a c.in-Not.b c.requires.0 c.requires.1 c.in-Not.ensures.read
