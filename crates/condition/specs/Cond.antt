-- Gaps, and what may be known about them.
--
--   Cell                       a number, or a gap by its name
--   Cond                       a condition on the numbers that the gaps stand for
--   cells_of c                 the cells that a condition compares
--   numbers c, gaps c          the numbers and the gaps that a condition names
--   each_cell f c              the condition with f applied to each of its cells
--   has ns n                   whether n is one of ns
--   Within xs ys               each number of xs is one of ys
use Rattle.std.specs.Prelude.{◌≡◌, ℕ, Bool, true, false, ◌||◌, List, [], ◌∷◌, ◌++◌, ◌==◌}

-- a gap with one name is the same unknown number wherever it stands
pub data Cell : Type 0 where
  known : ℕ → Cell
  gap : ℕ → Cell
  deriving IsSet as Cell_set

pub data Cond : Type 0 where
  always : Cond
  never : Cond
  equal : Cell → Cell → Cond
  not_so : Cond → Cond
  both : Cond → Cond → Cond
  either : Cond → Cond → Cond
  deriving IsSet as Cond_set

unfoldable pub cells_of : Cond → List Cell
cells_of always = []
cells_of never = []
cells_of (equal a b) = a ∷ (b ∷ [])
cells_of (not_so c) = cells_of c
cells_of (both c d) = cells_of c ++ cells_of d
cells_of (either c d) = cells_of c ++ cells_of d

-- the numbers that stand in cells
unfoldable pub numbers_in : List Cell → List ℕ
numbers_in [] = []
numbers_in (known n ∷ cs) = n ∷ numbers_in cs
numbers_in (gap k ∷ cs) = numbers_in cs

-- the gaps that stand in cells
unfoldable pub gaps_in : List Cell → List ℕ
gaps_in [] = []
gaps_in (known n ∷ cs) = gaps_in cs
gaps_in (gap k ∷ cs) = k ∷ gaps_in cs

abbrev pub numbers : Cond → List ℕ
numbers c = numbers_in (cells_of c)

abbrev pub gaps : Cond → List ℕ
gaps c = gaps_in (cells_of c)

unfoldable pub each_cell : (Cell → Cell) → Cond → Cond
each_cell f always = always
each_cell f never = never
each_cell f (equal a b) = equal (f a) (f b)
each_cell f (not_so c) = not_so (each_cell f c)
each_cell f (both c d) = both (each_cell f c) (each_cell f d)
each_cell f (either c d) = either (each_cell f c) (each_cell f d)

unfoldable pub has : List ℕ → ℕ → Bool
has [] n = false
has (m ∷ ms) n = m == n || has ms n

unfoldable pub Within : List ℕ → List ℕ → Type 0
Within xs ys = (n : ℕ) → has xs n ≡ true → has ys n ≡ true
