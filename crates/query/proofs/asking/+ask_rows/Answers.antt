-- Each sign by its lemma, with what the questions behind it gave.
use Rattle.std.proofs.Common.{[], get_or, sym, arith}
use Rattle.std.proofs.lemmas.List.{take_rest}
use Rattle.query.specs.Rows.{tables_in}
use Rattle.query.proofs.Questions.{ask_nothing, ask_table, ask_keep, ask_columns, ask_join, ask_union, ask_without, sign_read, sub_rows}
use Rattle.query.proofs.Told.{made_as}
use Rattle.query.proofs.asking.+ask_rows.Goals as goal

pub returns-then-left-eq0 : goal.returns-then-left-eq0
returns-then-left-eq0 t c =
    let e = ask_nothing c.args.left c.args.parts.now (tables_in c.args.tables.now) (λ h. omega (arith, c.then-left-eq0.either)) in
    made_as c.table.result c.table.ensures (sym e)

pub returns-in-Rows : goal.returns-in-Rows
returns-in-Rows t c =
    let e = ask_table c.args.left c.args.parts.now (tables_in c.args.tables.now) (omega arith) c.in-Rows.t (sign_read c.args.parts.now _ _ (omega arith) c.in-Rows.is) in
    made_as {xs = get_or (tables_in c.args.tables.now) c.in-Rows.t []} c.table-in-Rows.result c.table-in-Rows.ensures (sym e)

pub returns-in_ok-rows-in-Keep : goal.returns-in_ok-rows-in-Keep
returns-in_ok-rows-in-Keep t c =
    let e = ask_keep c.args.left c.args.parts.now (tables_in c.args.tables.now) (omega arith) c.in-Keep.test (sign_read c.args.parts.now _ _ (omega arith) c.in-Keep.is) in
    let p = sub_rows _ c.args.parts.now _ _ 1 c.in_ok-rows-in-Keep.rows _ c.in_ok-rows-in-Keep.ensures (take_rest c.args.parts.now 1) c.as_slice.ensures.value in
    made_as c.kept.result c.kept.ensures (cc)

pub returns-in_ok-rows-in-Columns : goal.returns-in_ok-rows-in-Columns
returns-in_ok-rows-in-Columns t c =
    let e = ask_columns c.args.left c.args.parts.now (tables_in c.args.tables.now) (omega arith) c.in-Columns.columns (sign_read c.args.parts.now _ _ (omega arith) c.in-Columns.is) in
    let p = sub_rows _ c.args.parts.now _ _ 1 c.in_ok-rows-in-Columns.rows _ c.in_ok-rows-in-Columns.ensures (take_rest c.args.parts.now 1) c.as_slice-in-Columns-2.ensures.value in
    let k = c.as_slice-in-Columns.ensures in
    made_as c.cut_to.result c.cut_to.ensures (cc)

pub returns-in_ok-others-in-Join : goal.returns-in_ok-others-in-Join
returns-in_ok-others-in-Join t c =
    let e = ask_join c.args.left c.args.parts.now (tables_in c.args.tables.now) (omega arith) c.in-Join.second (sign_read c.args.parts.now _ _ (omega arith) c.in-Join.is) in
    let p = sub_rows _ c.args.parts.now _ _ 1 c.in_ok-rows-in-Join.rows _ c.in_ok-rows-in-Join.ensures (take_rest c.args.parts.now 1) c.as_slice-in-Join.ensures.value in
    let q = sub_rows _ c.args.parts.now _ _ c.in-Join.second c.in_ok-others-in-Join.others _ c.in_ok-others-in-Join.ensures c.behind.ensures c.as_slice-in-Join-2.ensures.value in
    made_as c.joined.result c.joined.ensures (cc)

pub returns-in_ok-others-in-Union : goal.returns-in_ok-others-in-Union
returns-in_ok-others-in-Union t c =
    let e = ask_union c.args.left c.args.parts.now (tables_in c.args.tables.now) (omega arith) c.in-Union.second (sign_read c.args.parts.now _ _ (omega arith) c.in-Union.is) in
    let p = sub_rows _ c.args.parts.now _ _ 1 c.in_ok-rows-in-Union.rows _ c.in_ok-rows-in-Union.ensures (take_rest c.args.parts.now 1) c.as_slice-in-Union.ensures.value in
    let q = sub_rows _ c.args.parts.now _ _ c.in-Union.second c.in_ok-others-in-Union.others _ c.in_ok-others-in-Union.ensures c.behind-in-Union.ensures c.as_slice-in-Union-2.ensures.value in
    made_as c.united.result c.united.ensures (cc)

pub returns-in_ok-others-in-Without : goal.returns-in_ok-others-in-Without
returns-in_ok-others-in-Without t c =
    let e = ask_without c.args.left c.args.parts.now (tables_in c.args.tables.now) (omega arith) c.in-Without.second (sign_read c.args.parts.now _ _ (omega arith) c.in-Without.is) in
    let p = sub_rows _ c.args.parts.now _ _ 1 c.in_ok-rows-in-Without.rows _ c.in_ok-rows-in-Without.ensures (take_rest c.args.parts.now 1) c.as_slice-in-Without.ensures.value in
    let q = sub_rows _ c.args.parts.now _ _ c.in-Without.second c.in_ok-others-in-Without.others _ c.in_ok-others-in-Without.ensures c.behind-in-Without.ensures c.as_slice-in-Without-2.ensures.value in
    made_as c.less.result c.less.ensures (cc)
