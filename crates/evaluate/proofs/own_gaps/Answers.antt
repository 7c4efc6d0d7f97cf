use Rattle.evaluate.proofs.own_gaps.Goals as goal
use Rattle.evaluate.proofs.Holding as proved

pub returns : goal.returns
returns c = proved.own_gaps
