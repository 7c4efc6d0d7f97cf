-- Up to 512 rows with all gaps settled: the first 256 in the lanes of one word, the others in those of a second.
--
--   Holds gs rows w c             w says in each lane whether the condition c holds under the row there
--   MeetIn gs rows nodes goal r   r says in each lane whether the two goals are met
use Rattle.std.specs.Prelude.{◌≡◌, ℕ, ◌<◌, Bool, List, length}
use Rattle.condition.specs.Cond.{Cond}
use Rattle.evaluate.specs.Filling.{holds}
use Rattle.decide.specs.Bit.{lane, wide}
use Rattle.decide.specs.Sides.{side}
use Rattle.decide.specs.Rows.{row}
use Rattle.decide.specs.Goals.{goal_of}
use Rattle.decide.specs.declared.rows.Row.{Row}
use Rattle.decide.specs.declared.sides.Sides.{Sides}
use Rattle.decide.specs.declared.task.Goal.{Goal}
use Rattle.decide.specs.declared.words.Pair.{Pair}
use Rattle.decide.specs.declared.words.Word.{Word}

abbrev pub Holds : List ℕ → List Row → Word → Cond → Type 0
Holds gs rows w c = (l : ℕ) → l < length rows → lane l w ≡ holds (row gs rows l) c

abbrev pub MeetIn : List ℕ → List Row → List ℕ → Goal → Sides Pair → Type 0
MeetIn gs rows nodes goal r = (l : ℕ) → l < length rows → (t : Bool) → wide (side t r) l ≡ holds (row gs rows l) (goal_of nodes goal t)
