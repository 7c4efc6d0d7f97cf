use Rattle.decide.specs.Building.{Same}
use Rattle.decide.proofs.Meaning.{Giving}
use Rattle.decide.proofs.building.Cone.give_row.Given as goal

abbrev pub invariant-loop-a : goal.invariant-loop-a
invariant-loop-a l = record { same : Same l.initial.self l.self; giving : Giving l.initial.self.nodes.now l.self.nodes.now l.line.numbers.now l.row l.a l.given }
