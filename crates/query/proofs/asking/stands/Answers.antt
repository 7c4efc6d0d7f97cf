use Rattle.std.proofs.Common.{vec_items, ◌∙◌, rules, tests}
use Rattle.std.proofs.lemmas.Iterator.{YieldsList-from_slice}
use Rattle.std.proofs.lemmas.Iterator.Search.{any_from_yields_List}
use Rattle.list.specs.Lists.{same_row}
use Rattle.query.proofs.Filtered.{any_stands}
use Rattle.query.proofs.asking.stands.Goals as goal

pub returns : goal.returns
returns c =
    let row = c.args.row.now in
    any_from_yields_List (λ v. same_row row (vec_items v)) _ _ _ c.any.ensures.ran (YieldsList-from_slice _ c.iter.ensures.rest) (λ x b q k. search (rules, tests))
    ∙ any_stands row _
