use Rattle.std.proofs.Common.{◌≡◌, length}
use Rattle.decide_file.specs.Numbers.{numbers}
use Rattle.decide_file.proofs.text.Text.end.Given as goal

abbrev pub invariant-loop-self : goal.invariant-loop-self
invariant-loop-self l = numbers l.self ≡ numbers l.fn.self

abbrev pub decreases-loop-self : goal.decreases-loop-self
decreases-loop-self l = length l.self
