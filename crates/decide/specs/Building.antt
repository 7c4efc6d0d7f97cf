-- Stores and cones that are built in.
--
--   Same c d             the cone d is in the slices that the cone c is in
--   Interned xs ys n r   the node n stands at place r of the store ys: ys is the store xs, where it stood, or that store with n added
use Rattle.std.specs.Prelude.{◌≡◌, ℕ, ◌⊎◌, List, length}
use Rattle.condition.specs.Nodes.{StandsAs, Added}
use Rattle.condition.specs.declared.Node.{Node}
use Rattle.decide.specs.declared.building.Cone.{Cone}

pub record Same (c d : Cone) : Type 0 where
  pub nodes : d.nodes.ghost_name ≡ c.nodes.ghost_name
  pub index : d.index.ghost_name ≡ c.index.ghost_name
  pub long : length d.index.now ≡ length c.index.now

abbrev pub Interned : List ℕ → List ℕ → Node → ℕ → Type 0
Interned xs ys n r = ((ys ≡ xs) × StandsAs xs r n) ⊎ Added xs ys n r
