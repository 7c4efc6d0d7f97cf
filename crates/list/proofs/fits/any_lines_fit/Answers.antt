use Rattle.std.proofs.Common.{drop, ◌∙◌, rules, tests}
use Rattle.std.proofs.lemmas.Iterator.Consumers.{YieldsList-from_first}
use Rattle.std.proofs.lemmas.Iterator.Search.{all_from_yields_List}
use Rattle.list.specs.Layout.{cells_fit}
use Rattle.list.specs.Lines.{starts, shown, lines_left}
use Rattle.list.proofs.Lined.{starts_fit}
use Rattle.list.proofs.fits.any_lines_fit.Goals as goal

pub returns : goal.returns
returns c =
    let xs = c.args.xs.now in let n = c.args.n in let w = c.args.w in
    all_from_yields_List (λ p. cells_fit p.0 (drop 1 p.1)) c.all.new.self _ _ c.all.ensures.ran
    (YieldsList-from_first shown lines_left (starts n w xs) c.of.ensures) (λ x b q k. search (rules, tests))
    ∙ starts_fit n w xs
