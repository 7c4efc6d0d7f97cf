use Rattle.std.proofs.Common.{◌≡◌, map, get_or, vec_items, ◌∙◌, rules, tests}
use Rattle.std.proofs.lemmas.Iterator.{YieldsList-from_slice, YieldsList-from_map, items_from_collect}
use Rattle.std.proofs.lemmas.Result.{IfOk-weaker}
use Rattle.query.specs.Ask.{at_columns}
use Rattle.query.proofs.Filtered.{map_columns}
use Rattle.query.proofs.asking.at_columns.Goals as goal

pub returns : goal.returns
returns c =
    let row = c.args.row.now in let cs = c.args.columns.now in
    let m = items_from_collect c.collect.result c.collect.ensures.ran
    (YieldsList-from_map _ (λ a. get_or row a 0) (YieldsList-from_slice cs (rw c.map.ensures.source c.iter.ensures.rest)) c.map.ensures.closure
    (λ x r q k. search (rules, tests))) in
    IfOk-weaker c.collect.result (λ w. vec_items w ≡ map (λ a. get_or row a 0) cs) (λ w. vec_items w ≡ at_columns cs row) (λ w h. h ∙ map_columns row cs) m
