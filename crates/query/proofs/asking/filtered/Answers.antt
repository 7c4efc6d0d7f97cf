use Rattle.std.proofs.Common.{vec_items, rules, tests}
use Rattle.std.proofs.lemmas.Iterator.{YieldsList-from_slice}
use Rattle.std.proofs.lemmas.Iterator.Consumers.{YieldsList-from_filter, YieldsList-at}
use Rattle.std.specs.List.{each_same}
use Rattle.query.proofs.Collected.{rows_from_try_collect}
use Rattle.query.proofs.Filtered.{filter_rows}
use Rattle.query.proofs.Told.{made_as}
use Rattle.query.proofs.asking.filtered.Goals as goal

pub returns : goal.returns
returns g c test h =
    made_as c.try_collect.result
    (rows_from_try_collect _ vec_items c.try_collect.result c.try_collect.ensures.ran
    (YieldsList-at c.map.ensures.source
    (YieldsList-from_filter _ (λ v. test (vec_items v)) (YieldsList-from_slice c.args.rows.now (rw c.filter.ensures.source c.iter.ensures.rest)) c.filter.ensures.closure (λ x b q k. search (rules, tests))))
    c.map.ensures.closure (λ x r q k. search (rules, tests, each_same)))
    (filter_rows test c.args.rows.now)
