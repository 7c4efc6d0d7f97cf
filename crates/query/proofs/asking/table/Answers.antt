use Rattle.std.proofs.Common.{vec_items, sym, refl, ap, rules}
use Rattle.std.proofs.lemmas.Bool.{ltb-true, ltb-false}
use Rattle.std.proofs.lemmas.List.Elements.{same_from_all_zip}
use Rattle.query.specs.Rows.{rows_in}
use Rattle.query.proofs.Left.{table_at, table_past}
use Rattle.query.proofs.Told.{made_as, copied}
use Rattle.query.proofs.asking.table.Goals as goal

pub returns-in-Some : goal.returns-in-Some
returns-in-Some c =
    let l = c.in-Some.ensures.lookup in let v = c.in-Some.rows.now in
    made_as c.clone.result (copied _ (λ x y k. search (rules, same_from_all_zip)) v _ c.clone.result c.clone.ensures.cases)
    (table_at c.args.tables.now c.args.t v (vec_items v) (ltb-true _ _ (sym l.0)) l.1 refl)

pub returns-in-None : goal.returns-in-None
returns-in-None c =
    let e = table_past c.args.tables.now c.args.t (ltb-false _ _ (sym c.in-None.ensures.lookup.0)) in let n = ap rows_in c.new.ensures.items in cc
