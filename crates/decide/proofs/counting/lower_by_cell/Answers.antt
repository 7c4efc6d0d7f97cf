use Rattle.condition.specs.Cond.{numbers_in}
use Rattle.decide.proofs.counting.lower_by_cell.Goals as goal

pub returns-in-Number : goal.returns-in-Number
unfolding numbers_in
returns-in-Number c = λ xs h. rw c.in-Number.is (c.lower.ensures xs h)

pub returns-in-Gap : goal.returns-in-Gap
unfolding numbers_in
returns-in-Gap c = λ xs h. rw c.in-Gap.is h
