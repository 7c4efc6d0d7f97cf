use Rattle.std.proofs.Common.{◌≡◌, ◌-◌, ◌∙◌, arith}
use Rattle.condition.proofs.Growing.{grown_self}
use Rattle.answer.specs.Plan.{wide, equals}
use Rattle.answer.specs.Sides.{plan, cells}
use Rattle.answer.proofs.Steps.{equals_turn, new_one, compared_is}
use Rattle.answer.proofs.Views.{named}
use Rattle.answer.proofs.less.Less.equal_cells.Goals as goal

pub loop-a-init : goal.loop-a-init
unfolding equals
loop-a-init c =
    let z : wide (plan c.args.self.now.p) - c.width-a.result ≡ 0 = omega arith in
    rw z (record { grown = grown_self c.args.nodes.now (omega arith); more = omega arith; within = c.requires.based.low; is = c.requires.based.always })

pub loop-a-preserved : goal.loop-a-preserved
loop-a-preserved c =
    let p = c.args.self.now.p in let q = c.args.self.now.q in let a = c.loop-a.a - 1 in
    let x = named p c.args.i a c.requires.lines.0 (omega arith) in
    let y = named q c.args.j a c.requires.lines.1 (omega (arith, c.args.self.now.even)) in
    equals_turn (cells p c.args.i) (cells q c.args.j) (wide (plan p) - c.loop-a.a) (wide (plan p) - (c.loop-a.a - 1)) a c.loop-a.a c.loop-a.e c.add-s.result c.add-e.result
    c.args.nodes.now c.loop-a.nodes c.add-s.new.nodes c.add-e.new.nodes (omega arith) (omega arith) c.loop-a.invariant
    (new_one _ _ _ _ c.add-s.ensures.place c.add-s.ensures.count c.add-s.ensures.grown (c.add-s.ensures.new ∙ rw (c.cell.ensures, c.cell-in-loop-a.ensures) (compared_is (cells p c.args.i a) (cells q c.args.j a) x y)))
    (new_one _ _ _ _ c.add-e.ensures.place c.add-e.ensures.count c.add-e.ensures.grown c.add-e.ensures.new)
