use Rattle.std.proofs.Common.{arith}
use Rattle.decide.proofs.Picks.{opened_begun, opened_dead, number_more, none_opened}
use Rattle.decide.proofs.picking.pick_next.Goals as goal
use Rattle.decide.proofs.picking.pick_next.Goals.{in-Some+else-can_meet, in_default}

pub can_meet-requires-clause-begun : goal.can_meet-requires-clause-begun
can_meet-requires-clause-begun c = opened_begun c.args.task.now c.args.depth c.requires.deep c.args.row c.requires.begun _ c.in-Some.next c.in-Some.ensures

pub loop-number-preserved : goal.loop-number-preserved
loop-number-preserved c =
    let task = c.args.task.now in
    number_more task c.args.depth c.requires.deep c.args.row c.requires.begun c.args.order.now c.loop-number.number-index c.loop-number.invariant (elim c.match-open_with.branch [
      | in-Some+else-can_meet w ↦ λ k o. opened_dead task c.args.depth c.requires.deep c.args.row c.requires.begun _ w.in-Some.next w.in-Some.ensures (rw w.if-can_meet.false at w.can_meet.ensures)
      | in_default w ↦ λ k o. absurd (w.in_default.ensures k o)
    ])

pub returns : goal.returns
returns c = none_opened c.args.task.now c.args.depth c.requires.deep c.args.row c.requires.begun c.args.order.now c.requires.all (λ i k h. c.loop-number.invariant i k (omega (arith, c.loop-number-test.false)))
