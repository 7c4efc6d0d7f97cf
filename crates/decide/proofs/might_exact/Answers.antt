use Rattle.decide.proofs.might_exact.Goals as goal
use Rattle.decide.proofs.Mights as proved

pub returns : goal.returns
returns c = proved.might_exact
