-- Each sign by its plan, with where the nodes of the questions below it stand.
use Rattle.std.proofs.Common.{◌≡◌, ◌<◌, ◌≤◌, ◌∙◌, arith}
use Rattle.std.proofs.lemmas.Bool.{lt-ltb, le-ltb, ne_eqb}
use Rattle.answer.specs.Plan.{many, place}
use Rattle.answer.specs.Sides.{plan}
use Rattle.answer.proofs.Views.{rows_sums, keep_sums, columns_sums, join_sums, union_sums, without_sums, rows_listed, less_low, node_under, node_at}
use Rattle.answer.proofs.side.Side.+place.Goals as goal

pub line-requires : goal.line-requires
line-requires t c = let v = rows_sums c.args.self.now c.in-Rows.ensures in record { inside = omega (arith, v.lines); whole = (rows_listed c.args.self.now c.in-Rows.ensures).whole }

pub last-requires-clause-room : goal.last-requires-clause-room
last-requires-clause-room t c = let v = keep_sums c.in-Keep.ensures in omega (arith, v.lines, v.size)

pub place-requires : goal.place-requires
place-requires t c = let v = columns_sums c.in-Columns.ensures in (omega (arith, c.in-Columns.ensures.first.fewer), omega (arith, v.lines))

pub last-requires-in-Join-clause-room : goal.last-requires-in-Join-clause-room
last-requires-in-Join-clause-room t c = let v = join_sums c.in-Join.ensures in omega (arith, v.lines, v.size)

pub place-requires-else-i-lines : goal.place-requires-else-i-lines
place-requires-else-i-lines t c = let v = union_sums c.in-Union.ensures in (omega (arith, c.in-Union.ensures.second.fewer), omega (arith, v.lines))

pub place-requires-then-others-eq0 : goal.place-requires-then-others-eq0
place-requires-then-others-eq0 t c = let v = without_sums c.in-Without.ensures in (omega (arith, c.in-Without.ensures.first.fewer), omega (arith, v.lines))

pub overflow_mul-others : goal.overflow_mul-others
overflow_mul-others t c = let l = less_low c.in-Without.ensures c.args.i c.requires in rw (c.lines-others.ensures, c.width.ensures.is) (omega arith)

pub last-requires-else-others-eq0-clause-room : goal.last-requires-else-others-eq0-clause-room
last-requires-else-others-eq0-clause-room t c = let v = without_sums c.in-Without.ensures in rw (v.lines, v.size, c.lines-others.ensures, c.width.ensures.is) (omega arith)

pub returns-in-Rows : goal.returns-in-Rows
unfolding place
returns-in-Rows t c = rw c.in-Rows.ensures (c.node.ensures ∙ node_at c.line.result.numbers.now c.args.self.now.asked.lists.now _ c.line.ensures.is)

pub returns-in-Keep : goal.returns-in-Keep
unfolding place
returns-in-Keep t c = let v = keep_sums c.in-Keep.ensures in rw c.in-Keep.ensures.is (omega (arith, c.last.ensures, v.lines, v.size))

pub returns-in-Columns : goal.returns-in-Columns
unfolding place
returns-in-Columns t c = rw c.in-Columns.ensures.is (c.place.ensures ∙ node_under c.in-Columns.ensures.first c.args.i)

pub returns-in-Join : goal.returns-in-Join
unfolding place
returns-in-Join t c = let v = join_sums c.in-Join.ensures in rw c.in-Join.ensures.is (omega (arith, c.last-in-Join.ensures, v.lines, v.size))

pub returns-then-i-lines : goal.returns-then-i-lines
unfolding place
returns-then-i-lines t c =
    let l : c.args.i < many (plan c.in-Union.p) = omega (arith, c.lines-lines.ensures) in
    rw (c.in-Union.ensures.is, lt-ltb _ _ l) (c.place-then-i-lines.ensures ∙ node_under c.in-Union.ensures.first c.args.i)

pub returns-else-i-lines : goal.returns-else-i-lines
unfolding place
returns-else-i-lines t c =
    let l : many (plan c.in-Union.p) ≤ c.args.i = omega (arith, c.lines-lines.ensures) in
    rw (c.in-Union.ensures.is, le-ltb _ _ l) (c.place-else-i-lines.ensures ∙ rw c.lines-lines.ensures (node_under c.in-Union.ensures.second _))

pub returns-then-others-eq0 : goal.returns-then-others-eq0
unfolding place
returns-then-others-eq0 t c =
    let z : many (plan c.in-Without.q) ≡ 0 = omega (arith, c.lines-others.ensures) in
    rw (c.in-Without.ensures.is, z) (c.place-then-others-eq0.ensures ∙ node_under c.in-Without.ensures.first c.args.i)

pub returns-else-others-eq0 : goal.returns-else-others-eq0
unfolding place
returns-else-others-eq0 t c =
    let v = without_sums c.in-Without.ensures in
    let e = rw (v.lines, v.size, c.lines-others.ensures, c.width.ensures.is) at c.last-else-others-eq0.ensures in
    rw (c.in-Without.ensures.is, ne_eqb _ 0 (λ z. c.if-others-eq0.false (c.lines-others.ensures ∙ z))) (omega (arith, e))
