use Rattle.learn.specs.Dropping.{Moved}
use Rattle.learn.proofs.dropping.move_down.Given as goal

abbrev pub invariant-loop-t : goal.invariant-loop-t
invariant-loop-t l = Moved l.from l.to l.t l.initial.numbers l.numbers
