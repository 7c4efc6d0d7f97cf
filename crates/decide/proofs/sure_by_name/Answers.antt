use Rattle.decide.proofs.sure_by_name.Goals as goal
use Rattle.decide.proofs.Named as proved

pub returns : goal.returns
returns c = proved.sure_by_name
