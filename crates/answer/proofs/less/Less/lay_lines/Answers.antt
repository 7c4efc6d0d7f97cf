use Rattle.std.proofs.Common.{◌<◌, arith}
use Rattle.answer.specs.Plan.{many}
use Rattle.answer.specs.Sides.{plan}
use Rattle.answer.specs.Laid.{each}
use Rattle.answer.proofs.Steps.{added_more, less_same, ready_grown, row}
use Rattle.answer.proofs.less.Less.lay_lines.Goals as goal

pub lay_line-requires : goal.lay_line-requires
lay_line-requires c =
    let l : c.loop-i.i < many (plan c.args.self.now.p) = omega arith in
    let g = c.loop-i.invariant.grown in
    let r = row c.loop-i.i (many (plan c.args.self.now.p)) (each c.args.self.now) l in
    record { ready = ready_grown c.args.self.now g c.requires.ready; line = l; room = omega (arith, c.loop-i.invariant.more, g.long) }

pub loop-i-preserved : goal.loop-i-preserved
loop-i-preserved c = added_more c.loop-i.invariant c.lay_line.ensures (less_same c.args.self.now c.loop-i.i c.args.nodes.now c.loop-i.nodes c.loop-i.invariant.grown c.requires.ready (omega arith))
