use Rattle.std.proofs.Common.{◌+◌, ◌*◌, ◌<◌, arith}
use Rattle.answer.specs.Plan.{many, wide}
use Rattle.answer.specs.Sides.{plan}
use Rattle.answer.proofs.Steps.{less_none, less_more, ready_grown, row}
use Rattle.answer.proofs.less.Less.lay_line.Goals as goal

pub loop-j-init : goal.loop-j-init
loop-j-init c = (less_none c.args.self.now c.args.i c.place-c.result c.args.nodes.now (omega arith) c.place-c.ensures (c.requires.ready.first c.args.i c.requires.line), λ l. absurd (omega arith))

pub spare-c-requires : goal.spare-c-requires
spare-c-requires c =
    let l : c.loop-j.j < many (plan c.args.self.now.q) = omega arith in
    let g = c.loop-j.invariant.0.grown in
    let r = row c.loop-j.j (many (plan c.args.self.now.q)) (2 * wide (plan c.args.self.now.p) + 3) l in
    record {
      ready = ready_grown c.args.self.now g c.requires.ready;
      lines = (c.requires.line, l);
      stands = c.loop-j.invariant.0.within;
      room = omega (arith, c.loop-j.invariant.0.more, g.long);
    }

pub loop-j-preserved : goal.loop-j-preserved
loop-j-preserved c = (
  less_more c.args.self.now c.args.i c.loop-j.j c.loop-j.c c.spare-c.result c.args.nodes.now c.loop-j.nodes c.spare-c.new.nodes
      (c.requires.ready.second c.loop-j.j (omega arith)) c.loop-j.invariant.0 c.spare-c.ensures.new,
  λ z. c.spare-c.ensures.last,
)
