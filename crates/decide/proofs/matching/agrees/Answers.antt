use Rattle.std.proofs.Common.{◌∙◌, rules}
use borrow.Author.Tests.{tests}
use Rattle.std.proofs.lemmas.Iterator.{YieldsList-from_slice}
use Rattle.std.proofs.lemmas.Iterator.Consumers.{YieldsList-from_enumerate}
use Rattle.std.proofs.lemmas.Iterator.Search.{all_from_yields_List}
use Rattle.decide.proofs.Agreeing.{agrees_at, agrees_all}
use Rattle.decide.proofs.matching.agrees.Goals as goal

pub returns : goal.returns
returns c =
    all_from_yields_List (agrees_at c.args.line.now.numbers.now) _ _ c.all.result c.all.ensures.ran (YieldsList-from_enumerate (YieldsList-from_slice c.args.row.now (cc)) (cc)) (λ x b q k. search (rules, tests))
    ∙ agrees_all c.args.line.now.numbers.now c.args.row.now
