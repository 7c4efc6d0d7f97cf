use Rattle.evaluate.proofs.fresh_small.Goals as goal
use Rattle.evaluate.proofs.Freshness as proved

pub returns : goal.returns
returns c = proved.fresh_small
