use Rattle.std.proofs.Common.{length}
use Rattle.ask_file.proofs.answer_all.Given as goal

abbrev pub decreases-loop-heap : goal.decreases-loop-heap
decreases-loop-heap g l = length l.input.rest.now
