use Rattle.std.proofs.Common.{refl}
use Rattle.decide.proofs.Simpler.{says_always, says_never}
use Rattle.decide.proofs.building.Cone.simplify.Goals as goal

pub returns-in-Always : goal.returns-in-Always
returns-in-Always c = says_always c.args.self.now.nodes.now c.args.self.now.begun c.args.node (λ v. rw c.in-Always.is refl)

pub returns-in-Never : goal.returns-in-Never
returns-in-Never c = says_never c.args.self.now.nodes.now c.args.self.now.begun c.args.node (λ v. rw c.in-Never.is refl)
