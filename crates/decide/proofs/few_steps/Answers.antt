use Rattle.decide.proofs.few_steps.Goals as goal
use Rattle.decide.proofs.Steps as proved

pub returns : goal.returns
returns c = proved.few_steps
