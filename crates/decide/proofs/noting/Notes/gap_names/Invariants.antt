use Rattle.std.proofs.Common.{◌≡◌}
use Rattle.decide.specs.Counting.{passing_below}
use Rattle.decide.specs.Noting.{gap_noted}
use Rattle.decide.proofs.noting.Notes.gap_names.Given as goal

abbrev pub invariant-loop-gap : goal.invariant-loop-gap
invariant-loop-gap l = l.names.items ≡ passing_below l.gap (gap_noted l.self)
