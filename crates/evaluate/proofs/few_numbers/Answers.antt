use Rattle.evaluate.proofs.few_numbers.Goals as goal
use Rattle.evaluate.proofs.Few as proved

pub returns : goal.returns
returns c = proved.few_numbers
