use Rattle.std.proofs.Common.{length}
use Rattle.trials.proofs.plain.+holds.Given as goal

abbrev pub decreases-holds : goal.decreases-holds
decreases-holds l = length l.nodes.now
