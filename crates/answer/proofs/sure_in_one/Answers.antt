use Rattle.answer.proofs.sure_in_one.Goals as goal
use Rattle.answer.proofs.Known as proved

pub returns : goal.returns
returns c = proved.sure_in_one
