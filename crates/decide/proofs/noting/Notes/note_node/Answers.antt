use Rattle.std.proofs.Common.{[], ◌∷◌}
use Rattle.condition.specs.Shapes.{cell_of}
use Rattle.decide.proofs.Noted.{own_equal, own_other, notes_before}
use Rattle.decide.proofs.noting.Notes.note_node.Goals as goal

pub returns-in-Equal : goal.returns-in-Equal
returns-in-Equal c =
    rw (c.in-Equal.is, own_equal c.in-Equal.a c.in-Equal.b (rw c.in-Equal.is at c.requires))
    (notes_before (cell_of c.in-Equal.a ∷ []) (cell_of c.in-Equal.b ∷ []) c.args.self.now c.note.new.self c.note-in-Equal.new.self c.note.ensures c.note-in-Equal.ensures)

pub returns-in_default : goal.returns-in_default
returns-in_default c = λ ds h. rw (own_other c.args.node c.in_default.not-Equal) h
