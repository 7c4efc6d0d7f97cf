use Rattle.decide.proofs.deciding_enough.Goals as goal
use Rattle.decide.proofs.Shown as proved

pub returns : goal.returns
returns c = proved.deciding_enough
