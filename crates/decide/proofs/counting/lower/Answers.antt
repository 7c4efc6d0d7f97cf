use Rattle.decide.proofs.Least.{least_below, least_with}
use Rattle.decide.proofs.counting.lower.Goals as goal

pub returns-then-number-low : goal.returns-then-number-low
returns-then-number-low c = λ xs h. least_below xs c.args.low c.args.number c.args.best c.if-number-low.true h

pub returns : goal.returns
returns c = λ xs h. least_with xs c.args.low c.args.number c.args.best c.unwrap_or.result c.min.result c.if-number-low.false c.unwrap_or.ensures c.min.ensures h
