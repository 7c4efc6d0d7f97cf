-- The first filling that meets a goal: gap by gap, the first number of a given order that can be continued.
--
--   Opens task r n k              the number n may be tried next in the row r: it is number k of the pool, and named, in use, or the next
--                                 fresh one
--   Alive task depth r            some filling that goes on from r meets what is known with what is shown
--   Lives task depth r b          b says so of r, or that none does
--   NoneWith task depth r n       none does that gives the next gap the number n
--   Opened task depth r n o       o is r with the number n for the next gap; or none, and then n may not be tried
--   Picks task order depth r s    s goes on from r with the first number of the order that may be tried and can be continued
--   PickedNext .. r o             o is that; or none, and then no number can be continued
--   Picking task order depth r    the numbers of r for the first gaps are picked so, one after the other
--   PickedFirst task order o      o has the numbers picked so for all gaps; or none, and then no filling meets the goal
--   Ahead task order P            of two numbers of the pool at places of which P holds, the order has the first before the second
--   OthersFirst task order        the order has the fresh numbers first, the last of them first, and then the named ones as they rise
--   Rising task order             the order has all numbers as they rise
--   FirstMet task r               the least filling: none that meets the goal gives the gaps, one after the other, earlier numbers
use Rattle.std.specs.Prelude.{◌≡◌, ℕ, zero, suc, ◌+◌, ◌<◌, ◌≤◌, Bool, true, false, cond as if, ◌⊎◌, List, length, take, Some, None, Option, ◌==◌, slice_index}
use Rattle.evaluate.specs.Filling.{Filling, put, holds}
use Rattle.decide.specs.Might.{Extends, Dead, put_on, NoLater}
use Rattle.decide.specs.Rows.{on_of, GoesOn, filling_of}
use Rattle.decide.specs.Search.{tried, goal, NoneFrom}
use Rattle.decide.specs.Trying.{LeastOther}
use Rattle.decide.specs.declared.rows.Row.{Row}
use Rattle.decide.specs.declared.task.Task.{Task}

pub record Opens (task : Task) (r : Row) (n k : ℕ) : Type 0 where
  pub low : k ≤ task.named + r.used
  pub is : slice_index task.pool.items k ≡ n

abbrev pub Alive : Task → ℕ → Row → Type 0
Alive task depth r = (w : Filling) × Extends (on_of (tried task) depth) (filling_of (tried task) r) w × (holds w (goal task true) ≡ true)

abbrev pub NoneWith : Task → ℕ → Row → ℕ → Type 0
NoneWith task depth r n =
    let g = slice_index (tried task) depth in Dead (put_on (on_of (tried task) depth) g) (put (filling_of (tried task) r) g n) (goal task true)

abbrev pub Lives : Task → ℕ → Row → Bool → Type 0
Lives task depth r true = Alive task depth r
Lives task depth r false = NoneFrom task depth true r

pub record OpenedWith (task : Task) (depth : ℕ) (r : Row) (n : ℕ) (s : Row) : Type 0 where
  pub place : ℕ
  pub opens : Opens task r n place
  pub goes : GoesOn r depth n (if (place == task.named + r.used) (r.used + 1) r.used) s

abbrev pub Opened : Task → ℕ → Row → ℕ → Option Row → Type 0
Opened task depth r n (Some s) = OpenedWith task depth r n s
Opened task depth r n None = (k : ℕ) → Opens task r n k → ⊥

pub record Picks (task : Task) (order : List ℕ) (depth : ℕ) (r s : Row) : Type 0 where
  pub at : ℕ
  pub inside : at < length order
  pub opened : OpenedWith task depth r (slice_index order at) s
  pub alive : Alive task (depth + 1) s
  pub sooner : (i k : ℕ) → i < at → Opens task r (slice_index order i) k → NoneWith task depth r (slice_index order i)

abbrev pub PickedNext : Task → List ℕ → ℕ → Row → Option Row → Type 0
PickedNext task order depth r (Some s) = Picks task order depth r s
PickedNext task order depth r None = NoneFrom task depth true r

unfoldable pub Picking : Task → List ℕ → ℕ → Row → Type 0
Picking task order zero r = r.used ≡ 0
Picking task order (suc depth) s = (r : Row) × Picking task order depth r × Picks task order depth r s

abbrev pub PickedFirst : Task → List ℕ → Option Row → Type 0
PickedFirst task order (Some r) = Picking task order (length (tried task)) r × Alive task (length (tried task)) r
PickedFirst task order None = (v : Filling) → holds v (goal task true) ≡ false

abbrev pub Ahead : Task → List ℕ → (ℕ → ℕ → Type 0) → Type 0
Ahead task order P =
    (a b at : ℕ) → a < length task.pool.items → b < length task.pool.items → P a b → at < length order → slice_index order at ≡ slice_index task.pool.items b →
    (i : ℕ) × (i < at) × (slice_index order i ≡ slice_index task.pool.items a)

abbrev pub OthersFirst : Task → List ℕ → Type 0
OthersFirst task order =
    Ahead task order (λ a b. ((task.named ≤ a) × (b < a)) ⊎ ((a < task.named) × (b < task.named) × (slice_index task.pool.items a < slice_index task.pool.items b)))

abbrev pub Rising : Task → List ℕ → Type 0
Rising task order = Ahead task order (λ a b. slice_index task.pool.items a < slice_index task.pool.items b)

abbrev pub FirstMet : Task → Row → Type 0
FirstMet task r = (u : Filling) → holds u (goal task true) ≡ true → NoLater (tried task) (filling_of (tried task) r) u

-- where each fresh number is the least that is none of those before it, the first filling in rising order is the least
abbrev pub LeastFirst : Type 0
LeastFirst =
    (task : Task) (order : List ℕ) → Rising task order →
    ((p : ℕ) → task.named ≤ p → p < length task.pool.items → LeastOther (take p task.pool.items) (slice_index task.pool.items p)) →
    (r : Row) → Picking task order (length (tried task)) r → FirstMet task r
