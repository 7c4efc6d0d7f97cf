use Rattle.std.proofs.Common.{map, reverse}
use Rattle.condition.specs.Cond.{known}
use Rattle.decide.specs.Noting.{NotesMore}
use Rattle.decide.proofs.noting.Notes.note_row.Given as goal

abbrev pub invariant-loop-number : goal.invariant-loop-number
invariant-loop-number l = NotesMore (map known (reverse (map (λ y. y.now) l.yielded))) l.initial.self l.self
