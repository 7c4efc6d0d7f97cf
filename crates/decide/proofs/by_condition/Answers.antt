use Rattle.decide.proofs.by_condition.Goals as goal
use Rattle.decide.proofs.Shown as proved

pub returns : goal.returns
returns c = proved.by_condition
