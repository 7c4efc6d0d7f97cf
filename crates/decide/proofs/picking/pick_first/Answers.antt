use Rattle.std.proofs.Common.{◌≡◌, length, arith}
use Rattle.decide.specs.Search.{tried}
use Rattle.decide.proofs.Picks.{none_settled, none_met, not_both, none_picked, one_picked}
use Rattle.decide.proofs.picking.pick_first.Goals as goal

pub can_meet-requires-clause-begun : goal.can_meet-requires-clause-begun
can_meet-requires-clause-begun c = none_settled c.args.task.now c.default-row.result c.default-row.ensures.1

pub returns-then-not-can_meet : goal.returns-then-not-can_meet
returns-then-not-can_meet c = none_met c.args.task.now c.default-row.result (rw c.if-not-can_meet.true at c.can_meet.ensures)

pub loop-depth-init : goal.loop-depth-init
loop-depth-init c = none_picked c.args.task.now c.args.order.now c.default-row.result c.default-row.ensures.1 (rw c.if-not-can_meet.false at c.can_meet.ensures)

pub pick_next-requires-clause-begun : goal.pick_next-requires-clause-begun
pick_next-requires-clause-begun c = c.loop-depth.invariant.begun

pub returns-in_err-row : goal.returns-in_err-row
returns-in_err-row c = absurd (not_both c.args.task.now c.loop-depth.depth c.loop-depth.row c.loop-depth.invariant.alive c.in_err-row.ensures)

pub loop-depth-preserved : goal.loop-depth-preserved
loop-depth-preserved c =
    one_picked c.args.task.now c.args.order.now c.loop-depth.depth (omega (arith, c.len-depth-end.ensures.value, c.loop-depth-test.true)) c.loop-depth.row c.in_ok-row.row c.loop-depth.invariant c.in_ok-row.ensures

pub returns : goal.returns
returns c =
    let e : c.loop-depth.depth ≡ length (tried c.args.task.now) = omega (arith, c.loop-depth-test.false, c.len-depth-end.ensures.value, c.loop-depth.auto.depth-end) in
    rw (← e) (c.loop-depth.invariant.picking, c.loop-depth.invariant.alive)
