use Rattle.std.proofs.Common.{leb, sym, ◌∙◌, rules}
use borrow.Author.Tests.{tests}
use Rattle.std.proofs.lemmas.Iterator.{YieldsList-from_slice}
use Rattle.std.proofs.lemmas.Iterator.Adapters.{option_map_id}
use Rattle.std.proofs.lemmas.Iterator.Consumers.{YieldsList-from_copied, YieldsList-from_filter, YieldsList-at, min_from_yields_List}
use Rattle.decide.proofs.Least.{least_row}
use Rattle.decide.proofs.counting.least_in_row.Goals as goal

pub returns : goal.returns
returns c =
    let e = min_from_yields_List c.filter.result c.min.result c.min.ensures.ran
    (YieldsList-from_filter _ (leb c.args.low) (YieldsList-at c.filter.ensures.source (YieldsList-from_copied (YieldsList-from_slice c.args.row.now (cc)))) c.filter.ensures.closure (λ x b q k. search (rules, tests))) in
    rw (sym (option_map_id c.min.result) ∙ e) (least_row c.args.low c.args.row.now)
