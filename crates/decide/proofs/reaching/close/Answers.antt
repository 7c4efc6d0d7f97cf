use Rattle.std.proofs.Common.{◌≡◌, ◌+◌, ◌-◌, true, arith}
use Rattle.condition.specs.Nodes.{decoded}
use Rattle.decide.specs.Reaching.{marked, reached}
use Rattle.decide.proofs.Reached.{each_place, closing_begins, closing_past, closing_more}
use Rattle.decide.proofs.reaching.close.Goals as goal

pub loop-i-init : goal.loop-i-init
loop-i-init c = closing_begins c.args.nodes.now c.args.n c.args.marks.now

pub loop-i-preserved : goal.loop-i-preserved
loop-i-preserved c =
    let e : c.loop-i.i - 1 + 1 ≡ c.loop-i.i = omega arith in
    closing_past c.args.nodes.now c.args.n (c.loop-i.i - 1) c.args.marks.now c.loop-i.marks c.if-marks-i.false (rw e c.loop-i.invariant)

pub loop-i-preserved-then-marks-i : goal.loop-i-preserved-then-marks-i
loop-i-preserved-then-marks-i c =
    let e : c.loop-i.i - 1 + 1 ≡ c.loop-i.i = omega arith in
    closing_more c.args.nodes.now c.args.n (c.loop-i.i - 1) c.args.marks.now c.loop-i.marks c.mark_named.new.marks
    (omega arith) c.requires.stands.0 c.if-marks-i.true (λ j. rw c.nth_node.ensures.read at (c.mark_named.ensures j)) (rw e c.loop-i.invariant)

pub returns-clause-closed : goal.returns-clause-closed
returns-clause-closed c = λ k l h.
    each_place (decoded c.args.nodes.now k) k (λ j. marked c.loop-i.marks j ≡ true) (λ j q. c.loop-i.invariant.closed k j (omega arith) l q h)

pub returns-clause-exact : goal.returns-clause-exact
unfolding reached
returns-clause-exact c = λ j. let z : c.loop-i.i ≡ 0 = omega arith in rw z at (c.loop-i.invariant.exact j)
