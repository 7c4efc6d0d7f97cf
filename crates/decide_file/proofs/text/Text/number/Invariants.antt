use Rattle.std.proofs.Common.{◌≡◌, length, Some}
use Rattle.decide_file.specs.Numbers.{numbers, scan}
use Rattle.decide_file.proofs.text.Text.number.Given as goal

abbrev pub invariant-loop-digit : goal.invariant-loop-digit
invariant-loop-digit l = scan (Some l.number) l.self ≡ numbers l.fn.self

abbrev pub decreases-loop-digit : goal.decreases-loop-digit
decreases-loop-digit l = length l.self
