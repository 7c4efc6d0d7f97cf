use Rattle.std.proofs.Common.{arith}
use Rattle.decide.proofs.Pools.{set_up}
use Rattle.decide.proofs.task.Task.of.Goals as goal

pub invariant_of-result-clause-set_up : goal.invariant_of-result-clause-set_up
invariant_of-result-clause-set_up c =
    set_up c.args.cone.now c.args.goal c.args.gaps.now c.args.numbers.now c.listed-gaps.result.names.items c.pool-pool.result.items c.requires.few.1 c.requires.named c.listed-gaps.ensures.all
    (omega arith) c.pool-pool.ensures.given c.pool-pool.ensures.fresh
