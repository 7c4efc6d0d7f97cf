use Rattle.answer.proofs.more_known.Goals as goal
use Rattle.answer.proofs.Known as proved

pub returns : goal.returns
returns c = proved.more_known
