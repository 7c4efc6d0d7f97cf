use Rattle.decide.proofs.one_chosen.Goals as goal
use Rattle.decide.proofs.Choice as proved

pub returns : goal.returns
returns c = proved.one_chosen
