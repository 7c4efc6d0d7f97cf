-- A question that was read, by its parts.
--
--   Parses ss r ps n     the parts ps hold the question of the reading r, of n signs
--   Stands ss r ps n     and it is within the bounds of an answer
use Rattle.std.specs.Prelude.{◌≡◌, ℕ, ◌≤◌, List, length}
use Rattle.query.specs.Reading.{Read, sized}
use Rattle.query.specs.Parts.{sized_of, Parted, Numbers}
use Rattle.query.specs.Shapes.{part_at, query_of}
use Rattle.query.specs.declared.Part.{Part}

pub record Parses (ss : List (ℕ × ℕ)) (r : Read) (ps : List Part) (n : ℕ) : Type 0 where
  pub long : length ps ≡ 16
  pub parts : Parted 16 ss n ps
  pub sizes : sized_of 16 ss ps ≡ sized r
  pub query : query_of 16 ps ≡ (sized r).query
  pub first : Numbers (part_at ps 0) (sized r)

pub record Stands (ss : List (ℕ × ℕ)) (r : Read) (ps : List Part) (n : ℕ) : Type 0 where
  pub long : length ps ≡ 16
  pub parts : Parted 16 ss n ps
  pub sizes : sized_of 16 ss ps ≡ sized r
  pub query : query_of 16 ps ≡ (sized r).query
  pub first : Numbers (part_at ps 0) (sized r)
  pub lines : (sized r).lines ≤ 4096
  pub cost : (sized r).cost ≤ 65536
