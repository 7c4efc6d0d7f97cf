use Rattle.std.proofs.Common.{refl, arith}
use Rattle.condition.proofs.Growing.{grown_cond}
use Rattle.answer.proofs.Steps.{added_more}
use Rattle.answer.proofs.side.Side.keep_lines.Goals as goal

pub loop-i-preserved : goal.loop-i-preserved
loop-i-preserved c =
    let g = grown_cond c.args.nodes.now c.loop-i.nodes c.loop-i.invariant.grown _ (c.requires.stand c.loop-i.i (omega arith)) in
    added_more c.loop-i.invariant c.keep_line.ensures (rw g refl)
