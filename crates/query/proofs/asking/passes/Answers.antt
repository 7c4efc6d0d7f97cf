-- Each kind of test is the comparison that its clause of `passes` makes.
use Rattle.query.specs.Ask.{passes}
use Rattle.query.proofs.asking.passes.Goals as goal

pub returns-in-Same : goal.returns-in-Same
unfolding passes
returns-in-Same c = cc

pub returns-in-Differ : goal.returns-in-Differ
unfolding passes
returns-in-Differ c = cc

pub returns-in-Is : goal.returns-in-Is
unfolding passes
returns-in-Is c = cc

pub returns-in-IsNot : goal.returns-in-IsNot
unfolding passes
returns-in-IsNot c = cc
