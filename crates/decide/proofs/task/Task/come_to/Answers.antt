use Rattle.std.proofs.Common.{true, false}
use Rattle.condition.specs.Store.{cond_at}
use Rattle.evaluate.proofs.Worked.{earlier_all}
use Rattle.decide.proofs.task.Task.come_to.Goals as goal

pub returns : goal.returns
returns g c true =
    let xs = c.args.self.now.cone.now in let k = c.args.self.now.goal.known in let s = c.args.self.now.goal.shows in
    let known = rw (earlier_all xs k) at (c.before-known.ensures (cond_at xs) c.work_out.ensures.values) in
    let shows = rw (earlier_all xs s) at (c.before-shows.ensures (cond_at xs) c.work_out.ensures.values) in
    c.both.ensures (cond_at xs k) (cond_at xs s) known shows
returns g c false =
    let xs = c.args.self.now.cone.now in let k = c.args.self.now.goal.known in let s = c.args.self.now.goal.shows in
    let known = rw (earlier_all xs k) at (c.before-known.ensures (cond_at xs) c.work_out.ensures.values) in
    let shows = rw (earlier_all xs s) at (c.before-shows.ensures (cond_at xs) c.work_out.ensures.values) in
    c.both-2.ensures (cond_at xs k) _ known (c.not.ensures (cond_at xs s) shows)
