use Rattle.std.proofs.Common.{not, rules, tests}
use Rattle.list.specs.Lists.{stands}
use Rattle.query.specs.Rows.{rows_in}
use Rattle.query.proofs.Filtered.{filter_less}
use Rattle.query.proofs.Told.{made_as}
use Rattle.query.proofs.asking.less.Goals as goal

pub returns : goal.returns
returns c =
    let others = rows_in c.args.others.now in
    made_as c.filtered.result (c.filtered.ensures (λ r. not (stands r others)) (λ row b p. search (rules, tests))) (filter_less others (rows_in c.args.rows.now))
