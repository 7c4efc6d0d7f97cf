-- A cone that is built in stays in its slices.
use Rattle.std.proofs.Common.{refl, ◌∙◌}
use Rattle.decide.specs.declared.building.Cone.{Cone}
use Rattle.decide.specs.Building.{Same}

pub same_self : (c : Cone) → Same c c
same_self c = record { nodes = refl; index = refl; long = refl }

pub same_on : {c d e : Cone} → Same c d → Same d e → Same c e
same_on p q = record { nodes = q.nodes ∙ p.nodes; index = q.index ∙ p.index; long = q.long ∙ p.long }
