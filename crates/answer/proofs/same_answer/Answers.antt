use Rattle.answer.proofs.same_answer.Goals as goal
use Rattle.answer.proofs.Known as proved

pub returns : goal.returns
returns c = proved.same_answer
