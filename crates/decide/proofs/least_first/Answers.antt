use Rattle.decide.proofs.Picked as proved
use Rattle.decide.proofs.least_first.Goals as goal

pub returns : goal.returns
returns c = proved.least
