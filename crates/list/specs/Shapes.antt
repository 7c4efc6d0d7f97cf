-- What the code's types stand for.
--
--   rows_of v             the rows in a vector of vectors
--   shape_of ss t         the shape of list t
--   Shaped lists t s      s is the shape of list t, and says where its lines stand
--   AllShaped lists ss   ss has the shape of each list
use Rattle.std.specs.Prelude.{◌≡◌, ℕ, ◌+◌, ◌*◌, ◌<◌, ◌≤◌, true, List, [], map, length, get_or, drop, None, vec_items, Vec, slice_index, slice_index_or}
use Rattle.list.specs.Layout.{line_size, lines_in, all_in, lines_fit, lines_named, named_below}
use Rattle.list.specs.Layout as layout
use Rattle.list.specs.Bounds.{no_shape}
use Rattle.list.specs.Lists.{Row}
use Rattle.list.specs.declared.shape.Shape.{Shape}
use Rattle.list.specs.declared.shapes.Shapes.{Shapes}

module _ {Z : Type 0} where
  abbrev pub rows_of : Vec (Vec ℕ Z) Z → List Row
  rows_of v = map vec_items (vec_items v)

abbrev pub shape_of : Shapes → ℕ → Shape
shape_of ss t = slice_index_or ss.shapes t no_shape

pub record Shaped (lists : List ℕ) (t : ℕ) (s : Shape) : Type 0 where
  -- its lines and columns
  pub is : get_or (layout.shapes lists) t (0, 0) ≡ (s.lines, s.width)
  pub few : s.lines ≤ 64
  pub wide : 1 ≤ s.width
  pub narrow : s.width ≤ 4
  -- its lines lie in the slice
  pub whole : s.at + s.lines * line_size s.width ≤ length lists
  -- they are the list's, over every store
  pub says : (nodes : List ℕ) → slice_index_or (all_in nodes lists) t [] ≡ lines_in nodes s.lines s.width (drop s.at lists)
  -- they name only nodes that stand, where the lists do
  pub named : (c : ℕ) → named_below lists c ≡ None → lines_named c s.lines s.width (drop s.at lists) ≡ true
  -- and their cells are cells
  pub cells : lines_fit s.lines s.width (drop s.at lists) ≡ true

pub record AllShaped (lists : List ℕ) (ss : Shapes) : Type 0 where
  pub count : ss.count ≡ slice_index lists 0
  pub some : 1 ≤ ss.count
  pub few : ss.count ≤ 8
  pub each : (t : ℕ) → t < ss.count → Shaped lists t (shape_of ss t)
