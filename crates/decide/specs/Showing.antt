-- Conditions built in a cone, over what stood there.
--
--   Means xs ys most cs c r      ys is the cone xs with at most so many nodes more; the condition at place r holds where c does, and no
--                                other numbers and gaps are named than there were and those in the cells cs
--   Placed xs q places           for the lines that decide the row, the cone xs has at its places the conditions that the store has at
--                                the lines' nodes
--   row_cells ls row             the cells that the condition for a row compares, over the lines ls
--   nodes_for w ls               how many nodes that condition takes at most
use Rattle.std.specs.Prelude.{◌≡◌, ℕ, ◌+◌, ◌*◌, ◌<◌, ◌≤◌, true, List, ◌++◌, map, length, slice_index}
use Rattle.condition.specs.Cond.{Cell, known, Cond}
use Rattle.condition.specs.Store.{count, cond_at, Grown}
use Rattle.evaluate.specs.Filling.{Filling, holds}
use Rattle.list.specs.Lists.{Line, Row}
use Rattle.decide.specs.Deciding.{agrees, cells_in_lines}
use Rattle.decide.specs.Matching.{cells_at, node_at}
use Rattle.decide.specs.Folding.{Covered}
use Rattle.decide.specs.Reaching.{Covers}
use Rattle.decide.specs.declared.sought.Sought.{Sought}

pub record Means (xs ys : List ℕ) (most : ℕ) (cs : List Cell) (c : Cond) (r : ℕ) : Type 0 where
  pub grown : Grown xs ys
  pub few : count ys ≤ count xs + most
  pub stands : r < count ys
  pub value : (v : Filling) → holds v (cond_at ys r) ≡ holds v c
  pub covered : (ns gs : List ℕ) → Covered xs ns gs → Covers ns gs cs → Covered ys ns gs

abbrev pub row_cells : List Line → Row → List Cell
row_cells ls row = cells_in_lines ls ++ map known row

abbrev pub nodes_for : ℕ → List Line → ℕ
nodes_for w ls = length ls * (2 * w + 2)

abbrev pub Placed : List ℕ → Sought → List ℕ → Type 0
Placed xs q places =
    (k : ℕ) → k < q.lines → agrees (cells_at (length q.row.now) q.answer.now k) q.row.now ≡ true →
    (v : Filling) → holds v (cond_at xs (slice_index places (node_at (length q.row.now) q.answer.now k))) ≡ holds v (cond_at q.nodes.now (node_at (length q.row.now) q.answer.now k))
