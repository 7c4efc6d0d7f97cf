use Rattle.std.proofs.Common.{◌≡◌, ◌≤◌, length}
use Rattle.decide_file.specs.Numbers.{numbers}
use Rattle.decide_file.proofs.text.Text.skip_blanks.Given as goal

abbrev pub invariant-loop-self : goal.invariant-loop-self
invariant-loop-self l =
    (numbers l.self-inside.rest.now ≡ numbers l.initial.self-inside.rest.now)
    × (length l.self-inside.rest.now ≤ length l.initial.self-inside.rest.now)

abbrev pub decreases-loop-self : goal.decreases-loop-self
decreases-loop-self l = length l.self-inside.rest.now
