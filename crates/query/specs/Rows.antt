-- Filled lists as the code keeps them.
--
--   rows_in rs         the rows in a slice of rows
--   tables_in ts       the lists of rows in a slice of lists
use Rattle.std.specs.Prelude.{ℕ, List, map, vec_items, Vec}
use Rattle.list.specs.Lists.{Row}
use Rattle.list.specs.Shapes.{rows_of}

module _ {Z : Type 0} where
  abbrev pub rows_in : List (Vec ℕ Z) → List Row
  rows_in rs = map vec_items rs

  abbrev pub tables_in : List (Vec (Vec ℕ Z) Z) → List (List Row)
  tables_in ts = map rows_of ts
