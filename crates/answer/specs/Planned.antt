-- The plan of a question that was read into parts.
--
--   plan_of n sh ps         the plan of the question at the front of the parts ps, over lists of the shapes sh
--   Counted n sh ps         the parts lie in ps and say what the lines, widths and nodes of their plans are
--   Sound n sh ps ls c      and the plan fits the lists ls over c nodes
use Rattle.std.specs.Prelude.{◌≡◌, ℕ, zero, suc, ◌<◌, ◌≤◌, List, length, drop}
use Rattle.list.specs.Shapes.{shape_of}
use Rattle.list.specs.declared.shapes.Shapes.{Shapes}
use Rattle.query.specs.Shapes.{test_of, columns_of, part_at}
use Rattle.query.specs.declared.Sign.{Sign}
use Rattle.query.specs.declared.Sign.TheVariants.{Rows, Keep, Columns, Join, Union, Without}
use Rattle.query.specs.declared.Part.{Part}
use Rattle.answer.specs.Plan.{Plan, list, keep, columns, join, union, without, many, wide, size, Fits}

-- the plan of a sign, where go i gives the plan of the question that begins i parts further on
abbrev pub plan_by : Sign → Shapes → (ℕ → Plan) → Plan
plan_by (Rows t) sh go = list (shape_of sh t).at (shape_of sh t).lines (shape_of sh t).width
plan_by (Keep t) sh go = keep (test_of t) (go 1)
plan_by (Columns c) sh go = columns (columns_of c) (go 1)
plan_by (Join second) sh go = join (go 1) (go second)
plan_by (Union second) sh go = union (go 1) (go second)
plan_by (Without second) sh go = without (go 1) (go second)

unfoldable pub plan_of : ℕ → Shapes → List Part → Plan
plan_of zero sh ps = list 0 0 0
plan_of (suc n) sh ps = plan_by (part_at ps 0).sign sh (λ i. plan_of n sh (drop i ps))

-- a part has the numbers of its plan
pub record Numbers (part : Part) (p : Plan) : Type 0 where
  pub lines : part.lines ≡ many p
  pub width : part.width ≡ wide p
  pub cost : part.cost ≡ size p
  pub narrow : wide p ≤ 8
  pub cheap : size p ≤ 65536

abbrev pub BelowBy : Sign → Shapes → (ℕ → Type 0) → Type 0
BelowBy (Rows t) sh go = (t < sh.count) × (sh.count ≤ 8)
BelowBy (Keep t) sh go = go 1
BelowBy (Columns c) sh go = go 1
BelowBy (Join second) sh go = go 1 × go second
BelowBy (Union second) sh go = go 1 × go second
BelowBy (Without second) sh go = go 1 × go second

unfoldable pub Counted : ℕ → Shapes → List Part → Type 0
Counted zero sh ps = ⊥
Counted (suc n) sh ps = (0 < length ps) × Numbers (part_at ps 0) (plan_of (suc n) sh ps) × BelowBy (part_at ps 0).sign sh (λ i. Counted n sh (drop i ps))

pub record Sound (n : ℕ) (sh : Shapes) (ps : List Part) (ls : List ℕ) (c : ℕ) : Type 0 where
  pub counted : Counted n sh ps
  pub fits : Fits ls c (plan_of n sh ps)
