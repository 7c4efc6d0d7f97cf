-- Nodes of a store, some of them marked.
--
--   places_left p    the places that are left, in rising order
--   cells_marked m   the cells that the marked nodes compare
use Rattle.std.specs.Prelude.{ℕ, ◌-◌, List, filter}
use Rattle.std.specs.List.{range_with_len}
use Rattle.condition.specs.Cond.{Cell}
use Rattle.decide.specs.Reaching.{marked, marked_cells}
use Rattle.decide.specs.declared.marked.Marked.{Marked}
use Rattle.decide.specs.declared.marked.Places.{Places}

unfoldable pub places_left : Places → List ℕ
places_left p = filter (marked p.marks.now) (range_with_len p.at (p.n - p.at))

abbrev pub cells_marked : Marked → List Cell
cells_marked m = marked_cells m.nodes.now m.marks.now m.n
