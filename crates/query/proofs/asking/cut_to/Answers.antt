use Rattle.std.proofs.Common.{vec_items, rules, tests}
use Rattle.std.proofs.lemmas.Iterator.{YieldsList-from_slice}
use Rattle.query.specs.Ask.{at_columns}
use Rattle.query.proofs.Collected.{rows_from_try_collect}
use Rattle.query.proofs.Filtered.{map_cut}
use Rattle.query.proofs.Told.{made_as}
use Rattle.query.proofs.asking.cut_to.Goals as goal

pub returns : goal.returns
returns c =
    let ps = c.args.columns.now in
    made_as c.try_collect.result
    (rows_from_try_collect _ (λ w. at_columns ps (vec_items w)) c.try_collect.result c.try_collect.ensures.ran (YieldsList-from_slice c.args.rows.now (rw c.map.ensures.source c.iter.ensures.rest)) c.map.ensures.closure
    (λ x r q k. search (rules, tests)))
    (map_cut ps c.args.rows.now)
