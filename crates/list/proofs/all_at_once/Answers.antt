use Rattle.list.proofs.all_at_once.Goals as goal
use Rattle.list.proofs.Atonce as proved

pub returns : goal.returns
returns c = proved.all_at_once
