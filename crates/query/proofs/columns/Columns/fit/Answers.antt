use Rattle.std.proofs.Common.{ltb, ap, ◌∙◌, rules, tests}
use Rattle.std.proofs.lemmas.Iterator.{YieldsList-from_slice}
use Rattle.std.proofs.lemmas.Iterator.Search.{all_from_yields_List}
use Rattle.query.specs.Reading.{all_below}
use Rattle.query.proofs.Below.{each_below}
use Rattle.query.proofs.columns.Columns.fit.Goals as goal

pub returns : goal.returns
returns c =
    let w = c.args.w in
    all_from_yields_List (λ a. ltb a w) _ _ _ c.all.ensures.ran (YieldsList-from_slice _ c.iter.ensures.rest) (λ x b q k. search (rules, tests))
    ∙ (each_below w _ ∙ ap (all_below w) c.as_slice.ensures)
