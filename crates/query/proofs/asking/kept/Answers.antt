use Rattle.std.proofs.Common.{rules, tests}
use Rattle.query.specs.Ask.{passes}
use Rattle.query.specs.Rows.{rows_in}
use Rattle.query.specs.Shapes.{test_of}
use Rattle.query.proofs.Filtered.{filter_kept}
use Rattle.query.proofs.Told.{made_as}
use Rattle.query.proofs.asking.kept.Goals as goal

pub returns : goal.returns
returns c =
    made_as c.filtered.result (c.filtered.ensures (passes (test_of c.args.test)) (λ row b p. search (rules, tests))) (filter_kept (test_of c.args.test) (rows_in c.args.rows.now))
