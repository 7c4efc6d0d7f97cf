use Rattle.decide.proofs.Added.{built_for}
use Rattle.decide.proofs.building.Cone.build.Goals as goal

pub returns-in-New-clause-built : goal.returns-in-New-clause-built
returns-in-New-clause-built c =
    built_for c.args.self.now.nodes.now c.intern.new.self.nodes.now c.args.node c.in-New.simple c.intern.result c.in-New.ensures c.intern.ensures.built
