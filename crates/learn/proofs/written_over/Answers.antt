use Rattle.learn.proofs.written_over.Goals as goal
use Rattle.learn.proofs.Writing as proved

pub returns : goal.returns
returns c = proved.written_over
