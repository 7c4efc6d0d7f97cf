use Rattle.std.proofs.Common.{◌≡◌, map}
use Rattle.decide.proofs.choosing.others_first.Given as goal

abbrev pub invariant-loop-number : goal.invariant-loop-number
invariant-loop-number l = l.order.items ≡ map (λ y. y.now) l.yielded
