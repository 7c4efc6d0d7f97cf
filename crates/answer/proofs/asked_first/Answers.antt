use Rattle.answer.proofs.asked_first.Goals as goal
use Rattle.answer.proofs.Known as proved

pub returns : goal.returns
returns c = proved.asked_first
