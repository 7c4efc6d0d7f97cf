use Rattle.std.proofs.Common.{◌/◌, ◌%◌, refl, arith}
use Rattle.condition.proofs.Growing.{grown_cond}
use Rattle.answer.proofs.Steps.{added_more, last_one, pair_in}
use Rattle.answer.proofs.laying.join_lines.Goals as goal

pub loop-i-preserved : goal.loop-i-preserved
loop-i-preserved c =
    let h = pair_in c.loop-i.i c.lines.result c.lines-lines.result c.loop-i-test.true in
    let x = grown_cond c.args.nodes.now c.loop-i.nodes c.loop-i.invariant.grown _ (c.requires.first (c.loop-i.i / c.lines-lines.result) (omega arith)) in
    let y = grown_cond c.args.nodes.now c.loop-i.nodes c.loop-i.invariant.grown _ (c.requires.second (c.loop-i.i % c.lines-lines.result) (omega arith)) in
    added_more c.loop-i.invariant (last_one _ _ _ _ c.add.ensures.place c.add.ensures.count c.add.ensures.grown c.add.ensures.new)
    (rw (c.place-c.ensures, c.place-d.ensures, x, y, c.lines-lines.ensures) refl)
