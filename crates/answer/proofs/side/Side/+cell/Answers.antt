-- Each sign by its plan, with the cells of the questions below it.
use Rattle.std.proofs.Common.{◌<◌, ◌≤◌, ◌∙◌, arith}
use Rattle.std.proofs.lemmas.Bool.{lt-ltb, le-ltb}
use Rattle.answer.specs.Plan.{many, wide, cell}
use Rattle.answer.specs.Sides.{plan}
use Rattle.answer.proofs.Splitting.{numbers}
use Rattle.answer.proofs.Views.{rows_sums, keep_sums, columns_sums, join_sums, union_sums, without_sums, rows_listed, columns_inside, union_even, pair_at, cells_under, cell_at_line}
use Rattle.answer.proofs.side.Side.+cell.Goals as goal

pub line-requires : goal.line-requires
line-requires t c = let v = rows_sums c.args.self.now c.in-Rows.ensures in record { inside = omega (arith, v.lines); whole = (rows_listed c.args.self.now c.in-Rows.ensures).whole }

pub cell-requires : goal.cell-requires
cell-requires t c = let v = rows_sums c.args.self.now c.in-Rows.ensures in omega (arith, v.width, c.line.ensures.width)

pub cell-requires-in-Keep : goal.cell-requires-in-Keep
cell-requires-in-Keep t c = let v = keep_sums c.in-Keep.ensures in (omega (arith, c.in-Keep.ensures.first.fewer), (omega (arith, v.lines), omega (arith, v.width)))

pub bounds-columns-a : goal.bounds-columns-a
bounds-columns-a t c = let v = columns_sums c.in-Columns.ensures in omega (arith, v.width)

pub offset_bounds-columns-a : goal.offset_bounds-columns-a
offset_bounds-columns-a t c = let n = numbers c.args.self.now in omega (arith, n.narrow)

pub cell-requires-in-Columns : goal.cell-requires-in-Columns
cell-requires-in-Columns t c =
    let v = columns_sums c.in-Columns.ensures in
    (omega (arith, c.in-Columns.ensures.first.fewer), (omega (arith, v.lines), columns_inside c.in-Columns.ensures c.args.a (omega (arith, v.width))))

pub nonzero_div-i : goal.nonzero_div-i
nonzero_div-i t c = (pair_at c.in-Join.ensures c.args.i c.lines-lines.result c.requires.line c.lines-lines.ensures).0

pub nonzero_rem-i : goal.nonzero_rem-i
nonzero_rem-i t c = (pair_at c.in-Join.ensures c.args.i c.lines-lines.result c.requires.line c.lines-lines.ensures).0

pub cell-requires-then-a-width : goal.cell-requires-then-a-width
cell-requires-then-a-width t c = (omega (arith, c.in-Join.ensures.first.fewer), ((pair_at c.in-Join.ensures c.args.i c.lines-lines.result c.requires.line c.lines-lines.ensures).1, omega arith))

pub cell-requires-else-a-width : goal.cell-requires-else-a-width
cell-requires-else-a-width t c =
    let v = join_sums c.in-Join.ensures in
    (omega (arith, c.in-Join.ensures.second.fewer), ((pair_at c.in-Join.ensures c.args.i c.lines-lines.result c.requires.line c.lines-lines.ensures).2, omega (arith, v.width)))

pub cell-requires-then-i-lines : goal.cell-requires-then-i-lines
cell-requires-then-i-lines t c = let v = union_sums c.in-Union.ensures in (omega (arith, c.in-Union.ensures.first.fewer), (omega arith, omega (arith, v.width)))

pub cell-requires-else-i-lines : goal.cell-requires-else-i-lines
cell-requires-else-i-lines t c =
    let v = union_sums c.in-Union.ensures in (omega (arith, c.in-Union.ensures.second.fewer), (omega (arith, v.lines), omega (arith, v.width, union_even c.in-Union.ensures)))

pub cell-requires-in-Without : goal.cell-requires-in-Without
cell-requires-in-Without t c = let v = without_sums c.in-Without.ensures in (omega (arith, c.in-Without.ensures.first.fewer), (omega (arith, v.lines), omega (arith, v.width)))

pub returns-in-Rows : goal.returns-in-Rows
unfolding cell
returns-in-Rows t c = rw c.in-Rows.ensures (c.cell.ensures ∙ cell_at_line c.line.result.numbers.now c.args.self.now.asked.lists.now _ c.args.a c.line.ensures.is)

pub returns-in-Keep : goal.returns-in-Keep
unfolding cell
returns-in-Keep t c = rw c.in-Keep.ensures.is (c.cell-in-Keep.ensures ∙ cells_under c.in-Keep.ensures.first _ _)

pub returns-in-Columns : goal.returns-in-Columns
unfolding cell
returns-in-Columns t c = rw c.in-Columns.ensures.is (c.cell-in-Columns.ensures ∙ cells_under c.in-Columns.ensures.first _ _)

pub returns-then-a-width : goal.returns-then-a-width
unfolding cell
returns-then-a-width t c =
    let l : c.args.a < wide (plan c.in-Join.p) = omega arith in
    rw (c.in-Join.ensures.is, lt-ltb _ _ l) (c.cell-then-a-width.ensures ∙ rw c.lines-lines.ensures (cells_under c.in-Join.ensures.first _ _))

pub returns-else-a-width : goal.returns-else-a-width
unfolding cell
returns-else-a-width t c =
    let l : wide (plan c.in-Join.p) ≤ c.args.a = omega arith in
    rw (c.in-Join.ensures.is, le-ltb _ _ l) (c.cell-else-a-width.ensures ∙ rw (c.lines-lines.ensures, c.width-width.ensures.is) (cells_under c.in-Join.ensures.second _ _))

pub returns-then-i-lines : goal.returns-then-i-lines
unfolding cell
returns-then-i-lines t c =
    let l : c.args.i < many (plan c.in-Union.p) = omega arith in
    rw (c.in-Union.ensures.is, lt-ltb _ _ l) (c.cell-then-i-lines.ensures ∙ cells_under c.in-Union.ensures.first _ _)

pub returns-else-i-lines : goal.returns-else-i-lines
unfolding cell
returns-else-i-lines t c =
    let l : many (plan c.in-Union.p) ≤ c.args.i = omega arith in
    rw (c.in-Union.ensures.is, le-ltb _ _ l) (c.cell-else-i-lines.ensures ∙ rw c.lines-lines-in-Union.ensures (cells_under c.in-Union.ensures.second _ _))

pub returns-in-Without : goal.returns-in-Without
unfolding cell
returns-in-Without t c = rw c.in-Without.ensures.is (c.cell-in-Without.ensures ∙ cells_under c.in-Without.ensures.first _ _)
