use Rattle.decide.proofs.least_all.Goals as goal
use Rattle.decide.proofs.Steps as proved

pub returns : goal.returns
returns c = proved.least_all
