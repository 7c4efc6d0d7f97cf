use Rattle.decide.specs.Reaching.{cells_among}
use Rattle.decide.specs.Noting.{NotesMore}
use Rattle.decide.proofs.noting.Notes.note_marked.Given as goal

abbrev pub invariant-loop-i : goal.invariant-loop-i
invariant-loop-i l = NotesMore (cells_among l.marked.nodes.now l.yielded) l.initial.self l.self
