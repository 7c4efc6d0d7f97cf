use Rattle.answer.proofs.same_number.Goals as goal
use Rattle.answer.proofs.Numbers as proved

pub returns : goal.returns
returns c = proved.same_number
