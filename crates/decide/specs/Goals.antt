-- What is looked for: what is known with what is shown, or with its contrary; and over which gaps and numbers.
--
--   goal_of ns goal t           in the store ns, what is known with what is shown, or for false with its contrary
--   Pool ns m pool              of the numbers to try the first m have all of ns, and each later one is none of those before it
--   SetUp ns goal gs pool m     the gaps gs are all that the goals name, and the numbers are such a pool, with a fresh one for each gap
use Rattle.std.specs.Prelude.{◌≡◌, ℕ, ◌+◌, ◌<◌, ◌≤◌, Bool, true, false, cond as if, List, length, take, slice_index}
use Rattle.condition.specs.Cond.{Cond, both, not_so, numbers, gaps, has}
use Rattle.condition.specs.Store.{cond_at}
use Rattle.decide.specs.declared.task.Goal.{Goal}

abbrev pub goal_of : List ℕ → Goal → Bool → Cond
goal_of nodes goal t = both (cond_at nodes goal.known) (if t (cond_at nodes goal.shows) (not_so (cond_at nodes goal.shows)))

pub record Pool (ns : List ℕ) (m : ℕ) (pool : List ℕ) : Type 0 where
  pub named : (n : ℕ) → has ns n ≡ true → has (take m pool) n ≡ true
  pub fresh : (p : ℕ) → m ≤ p → p < length pool → has (take p pool) (slice_index pool p) ≡ false

-- both goals name the same numbers and gaps
pub record SetUp (nodes : List ℕ) (goal : Goal) (gs pool : List ℕ) (m : ℕ) : Type 0 where
  pub held : (k : ℕ) → has (gaps (goal_of nodes goal true)) k ≡ true → has gs k ≡ true
  pub small : m ≤ 8
  pub many : length pool ≡ m + length gs
  pub numbers : Pool (numbers (goal_of nodes goal true)) m pool
