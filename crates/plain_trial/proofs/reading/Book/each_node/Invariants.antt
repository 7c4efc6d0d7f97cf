use Rattle.std.proofs.Common.{◌≡◌, vec_len}
use Rattle.plain_trial.proofs.reading.Book.each_node.Given as goal

abbrev pub invariant-loop-node : goal.invariant-loop-node
invariant-loop-node g l = vec_len l.earlier ≡ l.node-index
