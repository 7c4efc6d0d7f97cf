use Rattle.std.proofs.Common.{[], ◌∷◌, ◌++◌, append_assoc}
use Rattle.condition.specs.Cond.{numbers_in}
use Rattle.condition.specs.Shapes.{cell_of}
use Rattle.condition.proofs.Named.{numbers_app}
use Rattle.decide.proofs.Noted.{own_equal, own_other}
use Rattle.decide.proofs.counting.lower_by_node.Goals as goal

pub returns-in-Equal : goal.returns-in-Equal
returns-in-Equal c = λ xs h.
    rw (c.in-Equal.is, own_equal c.in-Equal.a c.in-Equal.b (rw c.in-Equal.is at c.requires.named), numbers_app (cell_of c.in-Equal.a ∷ []) (cell_of c.in-Equal.b ∷ []), append_assoc)
    (c.lower_by_cell-in-Equal.ensures (numbers_in (cell_of c.in-Equal.b ∷ []) ++ xs) (c.lower_by_cell.ensures xs h))

pub returns-in_default : goal.returns-in_default
unfolding numbers_in
returns-in_default c = λ xs h. rw (own_other c.args.node c.in_default.not-Equal) h
