use Rattle.answer.proofs.nothing_left.Goals as goal
use Rattle.answer.proofs.Known as proved

pub returns : goal.returns
returns c = proved.nothing_left
