use Rattle.std.proofs.Common.{drop}
use Rattle.list.specs.Layout.{cells_in}
use Rattle.decide.specs.Noting.{NotesMore}
use Rattle.decide.proofs.noting.Notes.note_line.Given as goal

abbrev pub invariant-loop-a : goal.invariant-loop-a
invariant-loop-a l = NotesMore (drop l.a (cells_in l.line.width (drop 1 l.line.numbers.now))) l.initial.self l.self
