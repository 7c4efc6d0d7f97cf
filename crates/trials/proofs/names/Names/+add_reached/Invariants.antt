use Rattle.std.proofs.Common.{length}
use Rattle.trials.proofs.names.Names.+add_reached.Given as goal

abbrev pub decreases-add_reached : goal.decreases-add_reached
decreases-add_reached l = length l.nodes.now
