use Rattle.std.proofs.Common.{◌-◌, length}
use Rattle.decide.specs.Building.{Same}
use Rattle.decide.proofs.Meaning.{Showing}
use Rattle.decide.proofs.building.Cone.show_row.Given as goal

abbrev pub invariant-loop-line : goal.invariant-loop-line
invariant-loop-line l = record { same : Same l.initial.self l.self; showing : Showing l.initial.self.nodes.now l.self.nodes.now l.sought l.places (l.sought.lines - length l.yielded) l.shown }
