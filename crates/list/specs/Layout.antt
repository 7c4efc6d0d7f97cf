-- Lists as numbers in memory.
--
--   cells_in w xs              the w cells at the front of xs, two numbers a cell
--   lines_in nodes n w xs      the n lines at the front of xs, w cells wide: the node of the condition, and the cells
--   lists_in nodes k xs        the k lists at the front of xs: lines, columns, and the lines
--   known_in nodes lists       what is known: the condition on everything
--   all_in nodes lists         the lists, behind their count and the node of what is known
--   shapes_in k xs             lines and columns of each
--   list_fits xs, Fits xs      the list at the front of xs has at most 64 lines and 1 to 4 columns, is whole, and its cells are cells
--   AtEach P k xs              P of each of the k lists at the front of xs
--   lists_told lists           number 1 with its place
--   named_below lists c        number 3 with its place, over a store of c nodes
--   named_told lists nodes     the same over a store
--   check_told lists nodes     the first of numbers 1, 2 and 3
use Rattle.std.specs.Prelude.{◌≡◌, ℕ, zero, suc, ◌+◌, ◌*◌, ◌≤◌, Bool, true, cond as if, ◌&&◌, ◌||◌, List, [], ◌∷◌, length, drop, ◌==◌, nat_le, nat_lt, slice_index}
use Rattle.condition.specs.Cond.{Cell, Cond}
use Rattle.condition.specs.Refusals.{Told, unless, first}
use Rattle.condition.specs.Store.{cell_in, cond_at, count, store_told}
use Rattle.list.specs.Lists.{Line}

unfoldable pub cells_in : ℕ → List ℕ → List Cell
cells_in zero xs = []
cells_in (suc w) xs = cell_in (slice_index xs 0) (slice_index xs 1) ∷ cells_in w (drop 2 xs)

-- how many numbers a line takes
abbrev pub line_size : ℕ → ℕ
line_size w = 1 + 2 * w

unfoldable pub lines_in : List ℕ → ℕ → ℕ → List ℕ → List Line
lines_in nodes zero w xs = []
lines_in nodes (suc n) w xs = record { cells = cells_in w (drop 1 xs); if_so = cond_at nodes (slice_index xs 0) } ∷ lines_in nodes n w (drop (line_size w) xs)

-- lines and columns of the list at the front of xs
abbrev pub lines_at : List ℕ → ℕ
lines_at xs = slice_index xs 0

abbrev pub columns_at : List ℕ → ℕ
columns_at xs = slice_index xs 1

-- how many numbers the list at the front of xs takes
abbrev pub list_size : List ℕ → ℕ
list_size xs = 2 + lines_at xs * line_size (columns_at xs)

unfoldable pub lists_in : List ℕ → ℕ → List ℕ → List (List Line)
lists_in nodes zero xs = []
lists_in nodes (suc k) xs = lines_in nodes (lines_at xs) (columns_at xs) (drop 2 xs) ∷ lists_in nodes k (drop (list_size xs) xs)

unfoldable pub shapes_in : ℕ → List ℕ → List (ℕ × ℕ)
shapes_in zero xs = []
shapes_in (suc k) xs = (lines_at xs, columns_at xs) ∷ shapes_in k (drop (list_size xs) xs)

abbrev pub known_in : (nodes lists : List ℕ) → Cond
known_in nodes lists = cond_at nodes (slice_index lists 1)

abbrev pub all_in : (nodes lists : List ℕ) → List (List Line)
all_in nodes lists = lists_in nodes (slice_index lists 0) (drop 2 lists)

abbrev pub shapes : List ℕ → List (ℕ × ℕ)
shapes lists = shapes_in (slice_index lists 0) (drop 2 lists)

-- a number, or one of the 64 gaps
abbrev pub cell_fits : ℕ → ℕ → Bool
cell_fits t n = t == 0 || (t == 1 && nat_lt n 64)

unfoldable pub cells_fit : ℕ → List ℕ → Bool
cells_fit zero xs = true
cells_fit (suc w) xs = cell_fits (slice_index xs 0) (slice_index xs 1) && cells_fit w (drop 2 xs)

unfoldable pub lines_fit : ℕ → ℕ → List ℕ → Bool
lines_fit zero w xs = true
lines_fit (suc n) w xs = cells_fit w (drop 1 xs) && lines_fit n w (drop (line_size w) xs)

-- the list at the front of xs: at most 64 lines, 1 to 4 columns, not cut short, and its cells are cells
unfoldable pub list_fits : List ℕ → Bool
list_fits xs =
    nat_le 2 (length xs) && (nat_le (lines_at xs) 64 && (nat_le 1 (columns_at xs) && (nat_le (columns_at xs) 4
    && (nat_le (list_size xs) (length xs) && lines_fit (lines_at xs) (columns_at xs) (drop 2 xs)))))

-- the same as bounds
pub record Fits (xs : List ℕ) : Type 0 where
  pub some : 2 ≤ length xs
  pub lines : lines_at xs ≤ 64
  pub wide : 1 ≤ columns_at xs
  pub narrow : columns_at xs ≤ 4
  pub whole : list_size xs ≤ length xs
  pub cells : lines_fit (lines_at xs) (columns_at xs) (drop 2 xs) ≡ true

-- each line's node stands in a store of c nodes
unfoldable pub lines_named : ℕ → ℕ → ℕ → List ℕ → Bool
lines_named c zero w xs = true
lines_named c (suc n) w xs = nat_lt (slice_index xs 0) c && lines_named c n w (drop (line_size w) xs)

unfoldable pub list_named : ℕ → List ℕ → Bool
list_named c xs = lines_named c (lines_at xs) (columns_at xs) (drop 2 xs)

-- of the k lists at the front of xs, how many pass a test before the first that fails it
unfoldable pub passing : (List ℕ → Bool) → ℕ → List ℕ → ℕ
passing ok zero xs = 0
passing ok (suc k) xs = if (ok xs) (suc (passing ok k (drop (list_size xs) xs))) 0

-- a list is taken with all that stands behind it
unfoldable pub AtEach : (List ℕ → Type 0) → ℕ → List ℕ → Type 0
AtEach P zero xs = Unit {0}
AtEach P (suc k) xs = P xs × AtEach P k (drop (list_size xs) xs)

-- the first of the lists that fails a test is the place
unfoldable pub all_pass : (List ℕ → Bool) → List ℕ → ℕ → Told
all_pass ok lists number =
    let n = passing ok (slice_index lists 0) (drop 2 lists) in unless (n == slice_index lists 0) number n

-- number 1: no lists at place 0, more than eight at place 8, else the first that does not fit
abbrev pub lists_told : List ℕ → Told
lists_told lists =
    first (unless (nat_le 1 (slice_index lists 0)) 1 0)
    (first (unless (nat_le (slice_index lists 0) 8) 1 8)
    (all_pass list_fits lists 1))

-- number 3, over a store of c nodes: the first list with a line whose node does not stand, else 8 for what is known
abbrev pub named_below : List ℕ → ℕ → Told
named_below lists c =
    first (all_pass (list_named c) lists 3)
    (unless (nat_lt (slice_index lists 1) c) 3 8)

abbrev pub named_told : (lists nodes : List ℕ) → Told
named_told lists nodes = named_below lists (count nodes)

-- what is told of lists and a store together: the first of 1, 2 and 3
abbrev pub check_told : (lists nodes : List ℕ) → Told
check_told lists nodes = first (lists_told lists) (first (store_told nodes) (named_told lists nodes))
