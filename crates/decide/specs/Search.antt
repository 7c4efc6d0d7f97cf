-- The search over rows of one depth.
--
--   tried task                 the gaps that are tried
--   goal task t                one of the two goals
--   at_once task depth         how many rows of a depth are tried at once
--   Begun task depth r         the row's numbers are of the pool: of the named ones, and of the first fresh ones, those in use
--   Sound task t o             a row that was found meets its goal
--   NoneFrom task depth t r    no filling that goes on from the row r meets the goal
--   GoFrom task on v r         the row r goes on from v, where the gaps of on are settled
--   Each P o                   P of what an option holds, if anything
--   Searched .. before after   what was found, before a search and after it
--   wanted m lanes l           whether a goal that has no row yet might be met in lane l
--   First lanes rows o         the first row whose lane says yes; OrFirst s lanes rows o: unless there is one already
--   Extended .. next next₁     the rows that go on from one row at the next gap, put behind others
use Rattle.std.specs.Prelude.{◌≡◌, ℕ, ◌+◌, ◌<◌, ◌≤◌, Bool, true, false, cond as if, not, ◌&&◌, ◌||◌, List, ◌++◌, All, length, take, is_some, Some, None, Option, ◌==◌, nat_lt, slice_index, slice_index_or}
use Rattle.condition.specs.Cond.{Cond, has}
use Rattle.evaluate.specs.Filling.{Filling, holds}
use Rattle.decide.specs.Bit.{lane, wide}
use Rattle.decide.specs.Might.{Extends, Dead}
use Rattle.decide.specs.Sides.{side}
use Rattle.decide.specs.Rows.{on_of, GoesOn, filling_of, blank}
use Rattle.decide.specs.Goals.{goal_of}
use Rattle.decide.specs.declared.rows.Row.{Row}
use Rattle.decide.specs.declared.sides.Sides.{Sides}
use Rattle.decide.specs.declared.words.Pair.{Pair}
use Rattle.decide.specs.declared.words.Word.{Word}
use Rattle.decide.specs.declared.task.Task.{Task}

abbrev pub tried : Task → List ℕ
tried task = task.gaps.names.items

abbrev pub goal : Task → Bool → Cond
goal task t = goal_of task.cone.now task.goal t

abbrev pub at_once : Task → ℕ → ℕ
at_once task depth = if (depth == length (tried task)) 512 256

pub record Begun (task : Task) (depth : ℕ) (r : Row) : Type 0 where
  pub few : r.used ≤ depth
  pub drawn : (k : ℕ) → on_of (tried task) depth k ≡ true → has (take (task.named + r.used) task.pool.items) (filling_of (tried task) r k) ≡ true

abbrev pub Met : Type 0
Met = Sides (Option Row)

abbrev pub Sound : Task → Bool → Option Row → Type 0
Sound task t (Some r) = holds (filling_of (tried task) r) (goal task t) ≡ true
Sound task t None = Unit {0}

abbrev pub NoneFrom : Task → ℕ → Bool → Row → Type 0
NoneFrom task depth t r = Dead (on_of (tried task) depth) (filling_of (tried task) r) (goal task t)

abbrev pub GoFrom : Task → (ℕ → Bool) → Filling → Row → Type 0
GoFrom task on v r = Extends on v (filling_of (tried task) r)

abbrev pub Each : (Row → Type 0) → Option Row → Type 0
Each P (Some r) = P r
Each P None = Unit {0}

pub record Searched (task : Task) (depth : ℕ) (rows : List Row) (before after : Met) : Type 0 where
  pub sound : (t : Bool) → Sound task t (side t after)
  -- what is found goes on from where the rows do
  pub from : (on : ℕ → Bool) (v : Filling) → ((k : ℕ) → on k ≡ true → on_of (tried task) depth k ≡ true) → All (GoFrom task on v) rows →
      (t : Bool) → Each (GoFrom task on v) (side t before) → Each (GoFrom task on v) (side t after)
  pub kept : (t : Bool) → is_some (side t after) ≡ false → is_some (side t before) ≡ false
  pub dead : (t : Bool) → is_some (side t after) ≡ false → All (NoneFrom task depth t) rows

abbrev pub wanted : Met → Sides Word → ℕ → Bool
wanted m lanes l = (not (is_some m.yes) && lane l lanes.yes) || (not (is_some m.no) && lane l lanes.no)

abbrev pub First : Pair → List Row → Option Row → Type 0
First lanes rows (Some r) = (l : ℕ) × (l < length rows) × (wide lanes l ≡ true) × (r ≡ slice_index_or rows l blank)
First lanes rows None = (l : ℕ) → l < length rows → wide lanes l ≡ false

abbrev pub OrFirst : Option Row → Pair → List Row → Option Row → Type 0
OrFirst (Some s) lanes rows o = o ≡ Some s
OrFirst None lanes rows o = First lanes rows o

-- one for each number that is named or in use, and one for the next, which is fresh
pub record Extended (task : Task) (depth : ℕ) (r : Row) (next next₁ : List Row) : Type 0 where
  pub added : List Row
  pub behind : next₁ ≡ next ++ added
  pub many : length added ≡ task.named + r.used + 1
  pub each : (k : ℕ) → k < length added → GoesOn r depth (slice_index task.pool.items k) (if (nat_lt k (task.named + r.used)) r.used (r.used + 1)) (slice_index_or added k blank)
