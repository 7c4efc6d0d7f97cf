use Rattle.evaluate.proofs.Numbers.{zeros_at}
use Rattle.evaluate.proofs.Filling.zeros.Goals as goal

pub returns : goal.returns
returns c k = zeros_at 64 k
