use Rattle.std.proofs.Common.{vec_items, rules, tests}
use Rattle.std.proofs.lemmas.Iterator.{YieldsList-from_slice}
use Rattle.std.proofs.lemmas.Iterator.Consumers.{YieldsList-from_chain, YieldsList-at}
use Rattle.std.proofs.lemmas.List.{map-append}
use Rattle.std.specs.List.{each_same}
use Rattle.query.proofs.Collected.{rows_from_try_collect}
use Rattle.query.proofs.Told.{made_as}
use Rattle.query.proofs.asking.united.Goals as goal

pub returns : goal.returns
returns c =
    made_as c.try_collect.result
    (rows_from_try_collect _ vec_items c.try_collect.result c.try_collect.ensures.ran
    (YieldsList-at c.map.ensures.source
    (YieldsList-from_chain (YieldsList-from_slice c.args.rows.now (rw c.chain.ensures.first c.iter.ensures.rest)) (YieldsList-from_slice c.args.others.now (rw c.chain.ensures.second c.iter-2.ensures.rest))
    c.chain.ensures.first_done c.chain.ensures.second_done))
    c.map.ensures.closure (λ x r q k. search (rules, tests, each_same)))
    (map-append vec_items c.args.rows.now c.args.others.now)
