use Rattle.std.proofs.Common.{◌-◌, length}
use Rattle.decide.specs.Matching.{Matched}
use Rattle.decide.proofs.sought.Sought.mark_lines.Given as goal

abbrev pub invariant-loop-line : goal.invariant-loop-line
invariant-loop-line l = Matched l.self (l.self.lines - length l.yielded) l.initial.marks l.marks l.initial.notes l.notes
