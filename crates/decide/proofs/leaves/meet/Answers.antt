use Rattle.std.proofs.Common.{arith}
use Rattle.decide.specs.Search.{tried, goal as goal_at}
use Rattle.decide.specs.Sides.{side}
use Rattle.decide.proofs.Halved.{halved}
use Rattle.decide.proofs.leaves.meet.Goals as goal

pub returns : goal.returns
returns c l h t =
    let rows = c.args.rows.now.list.items in let both = c.come_to.ensures t in
    let parts = rw (c.table.ensures.rows, c.split_at.ensures.front, c.table-2.ensures.rows, c.split_at.ensures.back, c.deref.ensures.0) at both in
    halved (tried c.args.task.now) rows c.min.result (side t c.come_to.result) (goal_at c.args.task.now t) (omega arith) (omega arith) (λ m. omega arith) parts.0 parts.1 l h
