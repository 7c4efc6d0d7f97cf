-- Each sign by its plan, with the nodes laid for the questions below it.
use Rattle.std.proofs.Common.{◌∙◌, arith}
use Rattle.answer.proofs.Steps.{based_grown}
use Rattle.answer.proofs.Views.{keep_sums, columns_sums, join_sums, union_sums, without_sums, keep_inside, without_even}
use Rattle.answer.proofs.Whole.{based_under, laid_rows, laid_columns, laid_keep, laid_union, laid_join, laid_none, laid_less}
use Rattle.answer.proofs.side.Side.+lay.Goals as goal

pub returns-in-Rows : goal.returns-in-Rows
returns-in-Rows t c = laid_rows c.args.self.now c.in-Rows.ensures c.requires.based (omega arith)

pub lay-requires : goal.lay-requires
lay-requires t c =
    let o = c.in-Keep.ensures in let v = keep_sums o in
    (omega (arith, o.first.fewer), (based_under o.first c.requires.based, (o.first.base ∙ c.requires.base, omega (arith, v.size))))

pub keep_lines-requires-clause-inside : goal.keep_lines-requires-clause-inside
keep_lines-requires-clause-inside t c = keep_inside c.in-Keep.ensures

pub keep_lines-requires-clause-room : goal.keep_lines-requires-clause-room
keep_lines-requires-clause-room t c = let v = keep_sums c.in-Keep.ensures in omega (arith, v.size, c.lay.ensures.more, c.lay.ensures.grown.long)

pub returns-in-Keep : goal.returns-in-Keep
returns-in-Keep t c = laid_keep c.in-Keep.ensures c.requires.base c.lay.ensures c.keep_lines.ensures

pub lay-requires-in-Columns : goal.lay-requires-in-Columns
lay-requires-in-Columns t c =
    let o = c.in-Columns.ensures in let v = columns_sums o in
    (omega (arith, o.first.fewer), (based_under o.first c.requires.based, (o.first.base ∙ c.requires.base, omega (arith, v.size))))

pub returns-in-Columns : goal.returns-in-Columns
returns-in-Columns t c = laid_columns c.in-Columns.ensures c.lay-in-Columns.ensures

pub lay-requires-in-Join : goal.lay-requires-in-Join
lay-requires-in-Join t c =
    let o = c.in-Join.ensures in let v = join_sums o in
    (omega (arith, o.first.fewer), (based_under o.first c.requires.based, (o.first.base ∙ c.requires.base, omega (arith, v.size))))

pub lay-requires-in-Join-2 : goal.lay-requires-in-Join-2
lay-requires-in-Join-2 t c =
    let o = c.in-Join.ensures in let v = join_sums o in let a = c.lay-in-Join.ensures in
    (omega (arith, o.second.fewer), (based_under o.second (based_grown _ _ _ a.grown c.requires.based), (omega (arith, o.second.base, a.more, c.requires.base), omega (arith, v.size, a.more, a.grown.long))))

pub join_lines-requires-clause-room : goal.join_lines-requires-clause-room
join_lines-requires-clause-room t c =
    let v = join_sums c.in-Join.ensures in let a = c.lay-in-Join.ensures in let b = c.lay-in-Join-2.ensures in omega (arith, v.size, a.more, a.grown.long, b.more, b.grown.long)

pub returns-in-Join : goal.returns-in-Join
returns-in-Join t c = laid_join c.in-Join.ensures c.requires.base (omega (arith, c.requires.based.low)) c.lay-in-Join.ensures c.lay-in-Join-2.ensures c.join_lines.ensures

pub lay-requires-in-Union : goal.lay-requires-in-Union
lay-requires-in-Union t c =
    let o = c.in-Union.ensures in let v = union_sums o in
    (omega (arith, o.first.fewer), (based_under o.first c.requires.based, (o.first.base ∙ c.requires.base, omega (arith, v.size))))

pub lay-requires-in-Union-2 : goal.lay-requires-in-Union-2
lay-requires-in-Union-2 t c =
    let o = c.in-Union.ensures in let v = union_sums o in let a = c.lay-in-Union.ensures in
    (omega (arith, o.second.fewer), (based_under o.second (based_grown _ _ _ a.grown c.requires.based), (omega (arith, o.second.base, a.more, c.requires.base), omega (arith, v.size, a.more, a.grown.long))))

pub returns-in-Union : goal.returns-in-Union
returns-in-Union t c = laid_union c.in-Union.ensures c.requires.base (omega (arith, c.requires.based.low)) c.lay-in-Union.ensures c.lay-in-Union-2.ensures

pub lay-requires-in-Without : goal.lay-requires-in-Without
lay-requires-in-Without t c =
    let o = c.in-Without.ensures in let v = without_sums o in
    (omega (arith, o.first.fewer), (based_under o.first c.requires.based, (o.first.base ∙ c.requires.base, omega (arith, v.size))))

pub lay-requires-in-Without-2 : goal.lay-requires-in-Without-2
lay-requires-in-Without-2 t c =
    let o = c.in-Without.ensures in let v = without_sums o in let a = c.lay-in-Without.ensures in
    (omega (arith, o.second.fewer), (based_under o.second (based_grown _ _ _ a.grown c.requires.based), (omega (arith, o.second.base, a.more, c.requires.base), omega (arith, v.size, a.more, a.grown.long))))

pub invariant_of-lay_lines : goal.invariant_of-lay_lines
invariant_of-lay_lines t c = record { even = without_even c.in-Without.ensures; some = omega arith }

pub lay_lines-requires-clause-ready : goal.lay_lines-requires-clause-ready
lay_lines-requires-clause-ready t c =
    let a = c.lay-in-Without.ensures in let b = c.lay-in-Without-2.ensures in
    record {
      based = based_under c.in-Without.ensures.first (based_grown _ _ _ b.grown (based_grown _ _ _ a.grown c.requires.based));
      first = λ i l. omega (arith, a.within i l, b.more);
      second = b.within;
    }

pub lay_lines-requires-clause-room : goal.lay_lines-requires-clause-room
lay_lines-requires-clause-room t c =
    let v = without_sums c.in-Without.ensures in let a = c.lay-in-Without.ensures in let b = c.lay-in-Without-2.ensures in omega (arith, v.size, a.more, a.grown.long, b.more, b.grown.long)

pub returns-then-lines-gt0 : goal.returns-then-lines-gt0
returns-then-lines-gt0 t c =
    let o = c.in-Without.ensures in
    laid_less (record { p = c.in-Without.p; q = c.in-Without.q; even = without_even o; some = omega arith }) o c.requires.base (omega (arith, c.requires.based.low)) c.lay-in-Without.ensures c.lay-in-Without-2.ensures c.lay_lines.ensures

pub returns-else-lines-gt0 : goal.returns-else-lines-gt0
returns-else-lines-gt0 t c = laid_none c.in-Without.ensures c.requires.base (omega (arith, c.requires.based.low)) c.lay-in-Without.ensures c.lay-in-Without-2.ensures (omega arith)
