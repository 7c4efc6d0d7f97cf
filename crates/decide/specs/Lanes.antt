-- What conditions might still be under each of up to 256 rows, one in each lane, all with the same gaps settled.
--
--   depth_of table                how many gaps are settled in the rows of a table
--   MightBe gs depth rows r c     r says in each lane what the condition c might be under the row there: true, and false
--   Tells lanes r c               the same for the rows of some lanes
--   Meets .. nodes goal r         r says in each lane whether the two goals might be met
use Rattle.std.specs.Prelude.{◌≡◌, ℕ, ◌<◌, Bool, true, List, length}
use Rattle.condition.specs.Cond.{Cond}
use Rattle.decide.specs.Bit.{lane, half}
use Rattle.decide.specs.Might.{might}
use Rattle.decide.specs.Sides.{side}
use Rattle.decide.specs.Rows.{on_of, row}
use Rattle.decide.specs.Goals.{goal_of}
use Rattle.decide.specs.declared.columns.Table.{Table}
use Rattle.decide.specs.declared.lanes.Lanes.{Lanes}
use Rattle.decide.specs.declared.rows.Row.{Row}
use Rattle.decide.specs.declared.sides.Sides.{Sides}
use Rattle.decide.specs.declared.task.Goal.{Goal}
use Rattle.decide.specs.declared.words.Pair.{Pair}
use Rattle.decide.specs.declared.words.Word.{Word}

abbrev pub depth_of : Table → ℕ
depth_of table = length table.columns.items

abbrev pub MightBe : List ℕ → ℕ → List Row → Pair → Cond → Type 0
MightBe gs depth rows r c = (l : ℕ) → l < length rows → (t : Bool) → lane l (half t r) ≡ might (on_of gs depth) (row gs rows l) t c

abbrev pub Tells : Lanes → Pair → Cond → Type 0
Tells lanes r c = MightBe lanes.gaps.now.names.items (depth_of lanes.table) lanes.table.rows.now r c

abbrev pub Meets : List ℕ → ℕ → List Row → List ℕ → Goal → Sides Word → Type 0
Meets gs depth rows nodes goal r = (l : ℕ) → l < length rows → (t : Bool) → lane l (side t r) ≡ might (on_of gs depth) (row gs rows l) true (goal_of nodes goal t)
