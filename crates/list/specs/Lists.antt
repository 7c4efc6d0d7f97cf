-- Lists with gaps, and what they are once the gaps are filled.
--
--   Line               cells, and the condition under which the line is there
--   Row                numbers
--   filled v ls        the rows of the list ls under the filling v
--   all_filled v ts    the same of several lists
--   stands r rs        whether the row r is one of rs
--   alike rs ss        the same rows, however often and in whatever order
use Rattle.std.specs.Prelude.{◌≡◌, ℕ, ◌<◌, Bool, true, false, cond as if, ◌&&◌, ◌||◌, List, [], ◌∷◌, length, ◌==◌, slice_index_or}
use Rattle.condition.specs.Cond.{Cell, Cond}
use Rattle.evaluate.specs.Filling.{Filling, fill_cell, holds}

pub record Line : Type 0 where
  pub cells : List Cell
  pub if_so : Cond

abbrev pub Row : Type 0
Row = List ℕ

unfoldable pub fill_cells : Filling → List Cell → Row
fill_cells v [] = []
fill_cells v (c ∷ cs) = fill_cell v c ∷ fill_cells v cs

-- the rows of those lines whose condition holds, their gaps filled
unfoldable pub filled : Filling → List Line → List Row
filled v [] = []
filled v (l ∷ ls) = if (holds v l.if_so) (fill_cells v l.cells ∷ filled v ls) (filled v ls)

unfoldable pub all_filled : Filling → List (List Line) → List (List Row)
all_filled v [] = []
all_filled v (t ∷ ts) = filled v t ∷ all_filled v ts

unfoldable pub same_row : Row → Row → Bool
same_row [] [] = true
same_row [] (y ∷ ys) = false
same_row (x ∷ xs) [] = false
same_row (x ∷ xs) (y ∷ ys) = x == y && same_row xs ys

unfoldable pub stands : Row → List Row → Bool
stands r [] = false
stands r (s ∷ ss) = same_row r s || stands r ss

abbrev pub Alike : List Row → List Row → Type 0
Alike rs ss = (r : Row) → stands r rs ≡ stands r ss

-- Any few lists of rows can be meant at once: there is one list with gaps that is each of them under some filling, and nothing
-- else under any.
abbrev pub AllAtOnce : Type 0
AllAtOnce =
    (ws : List (List Row)) → 0 < length ws →
    (l : List Line) × ((i : ℕ) → i < length ws → (v : Filling) × Alike (filled v l) (slice_index_or ws i []))
    × ((v : Filling) → (i : ℕ) × (i < length ws) × Alike (filled v l) (slice_index_or ws i []))
