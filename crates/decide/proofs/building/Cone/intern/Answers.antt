use Rattle.decide.proofs.Added.{begun_interned, tidy_interned, built_interned, interned_says}
use Rattle.decide.proofs.building.Cone.intern.Goals as goal

pub invariant_of-self-clause-begun : goal.invariant_of-self-clause-begun
invariant_of-self-clause-begun c =
    begun_interned c.args.self.now.nodes.now c.intern.new.nodes c.args.node c.intern.result c.args.self.now.begun c.intern.ensures

pub invariant_of-self-clause-tidy : goal.invariant_of-self-clause-tidy
invariant_of-self-clause-tidy c =
    tidy_interned c.args.self.now.nodes.now c.intern.new.nodes c.args.node c.intern.result c.args.self.now.tidy c.requires.neat c.requires.named c.intern.ensures

pub returns-clause-built : goal.returns-clause-built
returns-clause-built c =
    built_interned c.args.self.now.nodes.now c.intern.new.nodes c.args.node c.intern.result c.args.self.now.begun c.requires.neat c.requires.named c.intern.ensures

pub returns-clause-says : goal.returns-clause-says
returns-clause-says c = interned_says c.args.self.now.nodes.now c.intern.new.nodes c.args.node c.intern.result c.intern.ensures
