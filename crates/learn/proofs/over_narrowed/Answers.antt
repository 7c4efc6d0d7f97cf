use Rattle.learn.proofs.over_narrowed.Goals as goal
use Rattle.learn.proofs.Writing as proved

pub returns : goal.returns
returns c = proved.over_narrowed
