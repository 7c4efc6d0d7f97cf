-- How large a list may be.
--
--   Small s             at most 64 lines and 4 columns
--   AllSmall shapes n   so is each of the first n shapes
use Rattle.std.specs.Prelude.{ℕ, ◌<◌, ◌≤◌, List, slice_index_or}
use Rattle.list.specs.declared.shape.Shape.{Shape}

-- what stands past the end of the shapes
abbrev pub no_shape : Shape
no_shape = record { at = 0; lines = 0; width = 0 }

pub record Small (s : Shape) : Type 0 where
  pub lines : s.lines ≤ 64
  pub width : s.width ≤ 4

abbrev pub AllSmall : List Shape → ℕ → Type 0
AllSmall shapes n = (t : ℕ) → t < n → Small (slice_index_or shapes t no_shape)
