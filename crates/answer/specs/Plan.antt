-- A question with its lists found: how many lines and columns its answer has, how many nodes are laid for it and where, and what
-- they say. A question's nodes stand in a row: first those of its first subquestion, then those of its second, then its own.
--
--   Plan                    a question with its lists found
--   many, wide, size        its lines, its columns and its nodes
--   place ls p b i          where the node of line i stands, if the nodes of the question begin at b
--   cell ls p i a           the cell in column a of line i
--   says ns ls p i          the condition of line i, by the nodes ns that the lists name
--   Fits ls c p             its lists lie in ls and name only the first c nodes; columns are within, and widths agree
use Rattle.std.specs.Prelude.{◌≡◌, ℕ, zero, suc, ◌+◌, ◌-◌, ◌*◌, ◌/◌, ◌%◌, ◌<◌, ◌≤◌, Bool, true, false, cond as if, List, length, ◌==◌, nat_lt, slice_index}
use Rattle.condition.specs.Cond.{Cell, known, Cond, always, equal, not_so, both}
use Rattle.condition.specs.Store.{cell_in, cond_at, has_name}
use Rattle.list.specs.Layout.{line_size}
use Rattle.query.specs.Ask.{Test, same, differ, is, is_not}

pub data Plan : Type 0 where
  -- a list, by where its lines begin, how many there are, and how wide they are
  list : (at n w : ℕ) → Plan
  keep : Test → Plan → Plan
  columns : List ℕ → Plan → Plan
  join : Plan → Plan → Plan
  union : Plan → Plan → Plan
  without : Plan → Plan → Plan

unfoldable pub many : Plan → ℕ
many (list at n w) = n
many (keep t p) = many p
many (columns cs p) = many p
many (join p q) = many p * many q
many (union p q) = many p + many q
many (without p q) = many p

unfoldable pub wide : Plan → ℕ
wide (list at n w) = w
wide (keep t p) = wide p
wide (columns cs p) = length cs
wide (join p q) = wide p + wide q
wide (union p q) = wide p
wide (without p q) = wide p

-- the nodes of a line, w cells wide, less m others
abbrev pub less_size : ℕ → ℕ → ℕ
less_size w m = m * (2 * w + 3)

-- three nodes for a test of a line: that the cells are equal, that they are not, and the line's condition with one of the two
unfoldable pub size : Plan → ℕ
size (list at n w) = 0
size (keep t p) = size p + 3 * many p
size (columns cs p) = size p
size (join p q) = size p + size q + many p * many q
size (union p q) = size p + size q
size (without p q) = size p + size q + many p * less_size (wide p) (many q)

unfoldable pub place : List ℕ → Plan → ℕ → ℕ → ℕ
place ls (list at n w) b i = slice_index ls (at + i * line_size w)
place ls (keep t p) b i = b + size p + i * 3 + 3 - 1
place ls (columns cs p) b i = place ls p b i
place ls (join p q) b i = b + size p + size q + i
place ls (union p q) b i = if (nat_lt i (many p)) (place ls p b i) (place ls q (b + size p) (i - many p))
place ls (without p q) b i =
    if (many q == 0) (place ls p b i) (b + size p + size q + i * less_size (wide p) (many q) + less_size (wide p) (many q) - 1)

-- cell a of the line whose node stands at a place
abbrev pub cell_from : List ℕ → ℕ → ℕ → Cell
cell_from ls at a = cell_in (slice_index ls (at + (1 + 2 * a))) (slice_index ls (at + (2 + 2 * a)))

unfoldable pub cell : List ℕ → Plan → ℕ → ℕ → Cell
cell ls (list at n w) i a = cell_from ls (at + i * line_size w) a
cell ls (keep t p) i a = cell ls p i a
cell ls (columns cs p) i a = cell ls p i (slice_index cs a)
cell ls (join p q) i a = if (nat_lt a (wide p)) (cell ls p (i / many q) a) (cell ls q (i % many q) (a - wide p))
cell ls (union p q) i a = if (nat_lt i (many p)) (cell ls p i a) (cell ls q (i - many p) a)
cell ls (without p q) i a = cell ls p i a

-- that a line with these cells passes a test
abbrev pub tests : Test → (ℕ → Cell) → Cond
tests (same a b) f = equal (f a) (f b)
tests (differ a b) f = not_so (equal (f a) (f b))
tests (is a n) f = equal (f a) (known n)
tests (is_not a n) f = not_so (equal (f a) (known n))

-- the two cells that a test compares
abbrev pub compared : Test → (ℕ → Cell) → Cell × Cell
compared (same a b) f = (f a, f b)
compared (differ a b) f = (f a, f b)
compared (is a n) f = (f a, known n)
compared (is_not a n) f = (f a, known n)

-- whether it wants them equal
abbrev pub alike : Test → Bool
alike (same a b) = true
alike (differ a b) = false
alike (is a n) = true
alike (is_not a n) = false

-- r cells from a on are equal one by one
unfoldable pub equals : ℕ → ℕ → (ℕ → Cell) → (ℕ → Cell) → Cond
equals zero a f g = always
equals (suc r) a f g = both (equal (f a) (g a)) (equals r (a + 1) f g)

-- c, and none of the first m lines, there if d and with the cells g, is there and has the cells f
unfoldable pub rid : ℕ → ℕ → (ℕ → Cell) → (ℕ → Cond) → (ℕ → ℕ → Cell) → Cond → Cond
rid zero w f d g c = c
rid (suc m) w f d g c = both (rid m w f d g c) (not_so (both (d m) (equals w 0 f (g m))))

unfoldable pub says : List ℕ → List ℕ → Plan → ℕ → Cond
says ns ls (list at n w) i = cond_at ns (slice_index ls (at + i * line_size w))
says ns ls (keep t p) i = both (says ns ls p i) (tests t (cell ls p i))
says ns ls (columns cs p) i = says ns ls p i
says ns ls (join p q) i = both (says ns ls p (i / many q)) (says ns ls q (i % many q))
says ns ls (union p q) i = if (nat_lt i (many p)) (says ns ls p i) (says ns ls q (i - many p))
says ns ls (without p q) i = rid (many q) (wide p) (cell ls p i) (says ns ls q) (cell ls q) (says ns ls p i)

-- the columns of a test are columns
abbrev pub Inside : Test → ℕ → Type 0
Inside (same a b) w = (a < w) × (b < w)
Inside (differ a b) w = (a < w) × (b < w)
Inside (is a n) w = a < w
Inside (is_not a n) w = a < w

-- n lines, w cells wide, from at on
pub record Listed (ls : List ℕ) (c at n w : ℕ) : Type 0 where
  pub whole : at + n * line_size w ≤ length ls
  pub narrow : w ≤ 4
  -- their nodes are among the first c
  pub stand : (i : ℕ) → i < n → slice_index ls (at + i * line_size w) < c
  -- and their cells are cells
  pub named : (i a : ℕ) → i < n → a < w → has_name (cell_from ls (at + i * line_size w) a) ≡ true

unfoldable pub Fits : List ℕ → ℕ → Plan → Type 0
Fits ls c (list at n w) = Listed ls c at n w
Fits ls c (keep t p) = Inside t (wide p) × Fits ls c p
Fits ls c (columns cs p) = ((a : ℕ) → a < length cs → slice_index cs a < wide p) × Fits ls c p
Fits ls c (join p q) = Fits ls c p × Fits ls c q
Fits ls c (union p q) = (wide p ≡ wide q) × Fits ls c p × Fits ls c q
Fits ls c (without p q) = (wide p ≡ wide q) × Fits ls c p × Fits ls c q
