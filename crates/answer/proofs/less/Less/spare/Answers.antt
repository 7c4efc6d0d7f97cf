use Rattle.std.proofs.Common.{refl, arith}
use Rattle.answer.specs.Plan.{wide}
use Rattle.answer.specs.Sides.{plan}
use Rattle.answer.proofs.Steps.{spare_turn, new_one}
use Rattle.answer.proofs.less.Less.spare.Goals as goal

pub returns : goal.returns
returns c = record {
  new =
      spare_turn (wide (plan c.args.self.now.p)) c.args.c c.place-d.result c.equal_cells-e.result c.add-f.result c.add-g.result c.add.result _ _
      c.args.nodes.now c.equal_cells-e.new.nodes c.add-f.new.nodes c.add-g.new.nodes c.add.new.nodes
      c.requires.stands (omega (arith, c.place-d.ensures, c.requires.ready.second c.args.j c.requires.lines.1)) (rw c.place-d.ensures refl) c.equal_cells-e.ensures
      (new_one _ _ _ _ c.add-f.ensures.place c.add-f.ensures.count c.add-f.ensures.grown c.add-f.ensures.new)
      (new_one _ _ _ _ c.add-g.ensures.place c.add-g.ensures.count c.add-g.ensures.grown c.add-g.ensures.new)
      (new_one _ _ _ _ c.add.ensures.place c.add.ensures.count c.add.ensures.grown c.add.ensures.new);
  last = omega (arith, c.add.ensures.count);
}
