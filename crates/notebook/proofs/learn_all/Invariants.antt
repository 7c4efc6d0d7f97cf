use Rattle.std.proofs.Common.{length}
use Rattle.notebook.proofs.learn_all.Given as goal

abbrev pub decreases-loop-input : goal.decreases-loop-input
decreases-loop-input l = length l.input.rest.now
