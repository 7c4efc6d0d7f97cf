use Rattle.std.proofs.Common.{◌<◌, ◌≢◌, length, arith, get_or-set_other, get_or-set_same, below_more}
use Rattle.condition.specs.Store.{count, cond_at}
use Rattle.evaluate.proofs.Worked.{says_itself}
use Rattle.evaluate.proofs.sense.work_out.Goals as goal

pub loop-i-preserved : goal.loop-i-preserved
loop-i-preserved g c =
    let i = c.loop-i.i in let nodes = c.args.nodes.now in let node = c.nth_node-node in
    let stands : i < count nodes = omega (arith, c.requires.stands.0) in (
      below_more _ _
          (λ k h x. let ne : k ≢ c.loop-i.i = omega arith in rw get_or-set_other (c.loop-i.invariant.0 k h x))
          (λ x. let lt : c.loop-i.i < length c.loop-i.values = omega arith in
          rw (get_or-set_same, ← says_itself nodes i node.result stands node.ensures.read) (c.value-here.ensures (cond_at nodes) c.loop-i.invariant.0)),
      λ k h x. let ne : k ≢ c.loop-i.i = omega arith in rw get_or-set_other (c.loop-i.invariant.1 k (omega arith) x),
    )
