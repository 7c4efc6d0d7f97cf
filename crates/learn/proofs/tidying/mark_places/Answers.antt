use Rattle.std.proofs.Common.{arith}
use Rattle.learn.proofs.Moved.{placed_none, placed_past, placed_more}
use Rattle.learn.proofs.tidying.mark_places.Goals as goal
use Rattle.learn.proofs.tidying.mark_places.Goals.{then-roots-i, else-roots-i}

pub loop-i-init : goal.loop-i-init
loop-i-init c = placed_none c.args.roots.now c.args.places.now c.args.marks.now

pub loop-i-preserved : goal.loop-i-preserved
loop-i-preserved c = elim c.if-roots-i.branch [
  | then-roots-i w ↦ rw w.marks-is (placed_more c.args.roots.now c.loop-i.i c.args.places.now c.args.marks.now c.loop-i.marks c.loop-i.invariant w.if-roots-i.true
      (omega (arith, c.requires.inside c.loop-i.i c.loop-i-test.true w.if-roots-i.true)))
  | else-roots-i w ↦ rw w.marks-is (placed_past c.args.roots.now c.loop-i.i c.args.places.now c.args.marks.now c.loop-i.marks c.loop-i.invariant w.if-roots-i.false)
]
