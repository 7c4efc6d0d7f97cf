-- Pairs of one thing for yes and one for no.
--
--   side t p     the one for t
use Rattle.std.specs.Prelude.{Bool, true, false}
use Rattle.decide.specs.declared.sides.Sides.{Sides}

abbrev pub side : {T : Type 0} → Bool → Sides T → T
side true p = p.yes
side false p = p.no
