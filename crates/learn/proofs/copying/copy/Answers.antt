use Rattle.std.proofs.Common.{◌≡◌, ◌+◌, subst, arith}
use Rattle.condition.specs.Nodes.{decoded}
use Rattle.condition.specs.declared.Node.{Node}
use Rattle.decide.specs.Building.{Interned}
use Rattle.decide.specs.Folding.{place_in, renamed}
use Rattle.decide.specs.Reaching.{marked}
use Rattle.decide.proofs.Counted.{counted_yes, counted_more}
use Rattle.learn.specs.Copying.{sorted}
use Rattle.learn.proofs.Copied.{copies_past, copies_more}
use Rattle.learn.proofs.copying.copy.Goals as goal
use Rattle.learn.proofs.copying.copy.Goals.{then-marks-i, else-marks-i}

pub intern-requires-clause-room : goal.intern-requires-clause-room
intern-requires-clause-room c =
    let i = c.loop-i.i in let marks = c.args.marks.now in let k = c.loop-i.invariant in
    omega (arith, k.few, k.grown.long, c.requires.room, counted_yes i (marked marks) c.if-marks-i.true, counted_more (i + 1) c.args.n (marked marks) (omega arith))

pub loop-i-preserved : goal.loop-i-preserved
loop-i-preserved c =
    let i = c.loop-i.i in let marks = c.args.marks.now in let cone = c.args.cone.now in let xs = c.args.nodes.now in
    let ys = c.loop-i.nodes in let ps = c.loop-i.places in
    elim c.if-marks-i.branch [
      | then-marks-i w ↦
          let e : w.sorted-node.result ≡ sorted (renamed (place_in i ps) (decoded cone i)) = rw (w.renamed.ensures, w.nth_node.ensures.read) at w.sorted-node.ensures in
          let is : Interned ys w.intern.new.nodes (sorted (renamed (place_in i ps) (decoded cone i))) w.intern.result =
          subst (λ (k : Node). Interned ys w.intern.new.nodes k w.intern.result) e w.intern.ensures in
          rw (w.nodes-is, w.places-is) (copies_more cone i c.args.n marks xs ys ps c.loop-i.invariant (omega (arith, c.requires.cone.0)) c.loop-i-test.true c.requires.closed
          (c.requires.behind i c.loop-i-test.true) w.if-marks-i.true w.intern.new.nodes w.intern.result is (omega (arith, c.requires.places)))
      | else-marks-i w ↦ rw (w.nodes-is, w.places-is) (copies_past cone i c.args.n marks xs ys ps c.loop-i.invariant w.if-marks-i.false)
    ]
