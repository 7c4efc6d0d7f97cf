use Rattle.std.proofs.Common.{ltb, get_or, ◌∙◌, rules, tests}
use Rattle.std.proofs.lemmas.Iterator.Consumers.{YieldsList-from_first}
use Rattle.std.proofs.lemmas.Iterator.Search.{all_from_yields_List}
use Rattle.list.specs.Lines.{starts, shown, lines_left}
use Rattle.list.proofs.Lined.{starts_named}
use Rattle.list.proofs.named.any_lines_named.Goals as goal

pub returns : goal.returns
returns c =
    let xs = c.args.xs.now in let n = c.args.n in let w = c.args.w in
    all_from_yields_List (λ p. ltb (get_or p.1 0 0) c.args.count) c.all.new.self _ _ c.all.ensures.ran
    (YieldsList-from_first shown lines_left (starts n w xs) c.of.ensures) (λ x b q k. search (rules, tests))
    ∙ starts_named c.args.count n w xs
