use Rattle.answer.proofs.false_answers.Goals as goal
use Rattle.answer.proofs.Baptisms as proved

pub returns : goal.returns
returns c = proved.false_answers_stand
