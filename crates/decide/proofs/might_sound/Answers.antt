use Rattle.decide.proofs.might_sound.Goals as goal
use Rattle.decide.proofs.Mights as proved

pub returns : goal.returns
returns c = proved.might_sound
