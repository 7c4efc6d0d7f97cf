use Rattle.std.proofs.Common.{◌<◌, inl, inr, refl}
use Rattle.answer.specs.Plan.{wide}
use Rattle.answer.specs.Sides.{plan}
use Rattle.answer.proofs.Views.{named}
use Rattle.answer.proofs.side.Side.compared.Goals as goal

pub returns-in-Is-clause-named : goal.returns-in-Is-clause-named
returns-in-Is-clause-named c =
    let l : c.in-Is.a < wide (plan c.args.self.now) = elim c.in-Is.is [ inl e ↦ rw e at c.requires.inside | inr e ↦ rw e at c.requires.inside ] in
    (rw c.cell.ensures (named c.args.self.now c.args.i c.in-Is.a c.requires.line l), refl)

pub returns-in-Same-clause-named : goal.returns-in-Same-clause-named
returns-in-Same-clause-named c =
    let l : (c.in-Same.a < wide (plan c.args.self.now)) × (c.in-Same.b < wide (plan c.args.self.now)) = elim c.in-Same.is [ inl e ↦ rw e at c.requires.inside | inr e ↦ rw e at c.requires.inside ] in
    (rw c.cell-in-Same.ensures (named c.args.self.now c.args.i c.in-Same.a c.requires.line l.0), rw c.cell-in-Same-2.ensures (named c.args.self.now c.args.i c.in-Same.b c.requires.line l.1))
