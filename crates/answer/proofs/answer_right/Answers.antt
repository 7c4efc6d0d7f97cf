use Rattle.answer.proofs.answer_right.Goals as goal
use Rattle.answer.proofs.Right as proved

pub returns : goal.returns
returns c = proved.answer_right
