-- A question with the lists that it is asked of, and the questions below it.
--
--   plan s          the plan of the question s
--   node s i        where the node of line i stands
--   cells s i       the cells of line i
--   below s k       the plan of the question that begins k parts further on
--   Begins s k b    one does, and its nodes may begin at b
--   Splits s t      t is the sign of s with the questions below it
use Rattle.std.specs.Prelude.{◌≡◌, ℕ, ◌+◌, ◌-◌, ◌<◌, ◌≤◌, drop}
use Rattle.condition.specs.Cond.{Cell}
use Rattle.query.specs.Shapes.{test_of}
use Rattle.answer.specs.declared.side.Side.{Side}
use Rattle.answer.specs.declared.split.Split.{Split}
use Rattle.answer.specs.declared.split.Split.TheVariants.{Rows, Keep, Columns, Join, Union, Without}
use Rattle.answer.specs.Plan.{Plan, list, keep, columns, join, union, without, size, place, cell}
use Rattle.answer.specs.Planned.{plan_of, Sound}

abbrev pub plan : Side → Plan
plan s = plan_of s.left s.asked.shapes.now s.parts.now

abbrev pub node : Side → ℕ → ℕ
node s i = place s.asked.lists.now (plan s) s.base i

abbrev pub cells : Side → ℕ → ℕ → Cell
cells s i = cell s.asked.lists.now (plan s) i

abbrev pub below : Side → ℕ → Plan
below s k = plan_of (s.left - 1) s.asked.shapes.now (drop k s.parts.now)

pub record Begins (s : Side) (k b : ℕ) : Type 0 where
  pub sound : Sound (s.left - 1) s.asked.shapes.now (drop k s.parts.now) s.asked.lists.now s.asked.first
  pub low : b + size (below s k) ≤ 1000000

-- p is asked of the lists of s, has fewer parts left, and its nodes begin at b
pub record Under (s p : Side) (b : ℕ) : Type 0 where
  pub asked : p.asked ≡ s.asked
  pub fewer : p.left < s.left
  pub base : p.base ≡ b

-- the plan of s is up, over p alone
pub record One (s : Side) (up : Plan) (p : Side) : Type 0 where
  pub is : plan s ≡ up
  pub first : Under s p s.base

-- the plan of s is up, over p and over q, whose nodes stand behind those of p
pub record Two (s : Side) (up : Plan) (p q : Side) : Type 0 where
  pub is : plan s ≡ up
  pub first : Under s p s.base
  pub second : Under s q (s.base + size (plan p))

abbrev pub Splits : Side → Split → Type 0
Splits s (Rows shape) = plan s ≡ list shape.at shape.lines shape.width
Splits s (Keep t p) = One s (keep (test_of t) (plan p)) p
Splits s (Columns cs p) = One s (columns cs.now (plan p)) p
Splits s (Join p q) = Two s (join (plan p) (plan q)) p q
Splits s (Union p q) = Two s (union (plan p) (plan q)) p q
Splits s (Without p q) = Two s (without (plan p) (plan q)) p q
