use Rattle.std.proofs.Common.{sym, ◌∙◌}
use Rattle.decide.proofs.Simpler.{join_vanishing, join_settling, join_negated}
use Rattle.decide.proofs.building.Cone.ordered_join.Goals as goal
use Rattle.decide.proofs.building.Cone.ordered_join.Goals.{then-a-settling, else-a-settling}

pub returns-then-a-vanishing : goal.returns-then-a-vanishing
returns-then-a-vanishing c =
    join_vanishing c.args.self.now.nodes.now c.args.self.now.begun c.args.join c.args.a c.args.b (c.if-a-vanishing.true ∙ c.vanishing.ensures) c.requires.1

pub returns-then-negates : goal.returns-then-negates
returns-then-negates c =
    let xs = c.args.self.now.nodes.now in let j = c.args.join in let a = c.args.a in let b = c.args.b in
    rw c.settling-then-negates.ensures (elim c.if-a-settling.branch [
      | then-a-settling w ↦ join_settling xs c.args.self.now.begun j a b (w.if-a-settling.true ∙ c.settling.ensures)
      | else-a-settling w ↦ join_negated xs c.args.self.now.begun j a b (w.negates.ensures (sym w.value-is ∙ c.if-negates.true))
    ])
