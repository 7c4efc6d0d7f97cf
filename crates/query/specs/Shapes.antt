-- A question as the code keeps it: its signs in reading order, each with the lines, the width and the cost of the question that it
-- begins.
--
--   test_of t          the test
--   columns_of c       the columns
--   pairs_of ss        the lines and columns of each list, by the shapes of the lists
--   query_of n ps      the question that begins with the first of the parts ps, read at most n parts deep
use Rattle.std.specs.Prelude.{ℕ, zero, suc, List, map, take, drop, slice_index_or}
use Rattle.std.specs.List.{range_with_len}
use Rattle.list.specs.Shapes.{shape_of}
use Rattle.list.specs.declared.shapes.Shapes.{Shapes}
use Rattle.query.specs.Ask.{same, differ, is, is_not, Query, table, keep, columns, join, union, without}
use Rattle.query.specs.Ask as asking
use Rattle.query.specs.declared.Test.{Test}
use Rattle.query.specs.declared.Test.TheVariants.{Same, Differ, Is, IsNot}
use Rattle.query.specs.declared.Sign.{Sign}
use Rattle.query.specs.declared.Sign.TheVariants.{Rows, Keep, Columns, Join, Union, Without}
use Rattle.query.specs.declared.Part.{Part}
use Rattle.query.specs.declared.columns.Columns as chosen

abbrev pub test_of : Test → asking.Test
test_of (Same a b) = same a b
test_of (Differ a b) = differ a b
test_of (Is a n) = is a n
test_of (IsNot a n) = is_not a n

abbrev pub columns_of : chosen.Columns → List ℕ
columns_of c = take c.count c.places

-- what stands past the end of the parts
abbrev pub no_part : Part
no_part = record { sign = Rows 0; lines = 0; width = 0; cost = 0 }

abbrev pub part_at : List Part → ℕ → Part
part_at ps k = slice_index_or ps k no_part

-- the question of a sign, where go i gives the question that begins i parts further on
abbrev pub query_by : Sign → (ℕ → Query) → Query
query_by (Rows t) go = table t
query_by (Keep t) go = keep (test_of t) (go 1)
query_by (Columns c) go = columns (columns_of c) (go 1)
query_by (Join second) go = join (go 1) (go second)
query_by (Union second) go = union (go 1) (go second)
query_by (Without second) go = without (go 1) (go second)

unfoldable pub query_of : ℕ → List Part → Query
query_of zero ps = table 0
query_of (suc n) ps = query_by (part_at ps 0).sign (λ i. query_of n (drop i ps))

-- lines and columns of each list
abbrev pub pairs_of : Shapes → List (ℕ × ℕ)
pairs_of ss = map (λ t. ((shape_of ss t).lines, (shape_of ss t).width)) (range_with_len 0 ss.count)
