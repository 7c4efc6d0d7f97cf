-- Writing over, on numbers in memory: a number in the place of a gap, from one place on.
--
--   put_number k n c             the cell c, or n where it is the gap k
--   over_cell k n at xs          xs with n over k in the cell at a place
--   over_cells k n w at xs       in the w cells from there on
--   over_lines k n m w at xs     in the cells of m lines, w cells wide
--   over_lists k n c at xs       in those of c lists
--   over_node k n m              in the cells of the node m
--   OverNodes k n c xs ys        ys is xs with n over k in the first c nodes
use Rattle.std.specs.Prelude.{◌≡◌, ℕ, zero, suc, ◌+◌, ◌*◌, ◌<◌, ◌≤◌, Bool, false, cond as if, List, ◌==◌, slice_index, slice_set, drop}
use Rattle.condition.specs.Cond as conditions
use Rattle.condition.specs.Store.{cell_in, count}
use Rattle.condition.specs.Nodes.{decoded}
use Rattle.condition.specs.declared.Cell.{Cell}
use Rattle.condition.specs.declared.Cell.TheVariants.{Number, Gap}
use Rattle.condition.specs.declared.Node.{Node}
use Rattle.condition.specs.declared.Node.TheVariants.{Always, Never, Equal, Not, Both, Either}
use Rattle.list.specs.Layout.{line_size, list_size, lines_at, columns_at}

abbrev pub put_number : ℕ → ℕ → Cell → Cell
put_number k n (Number m) = Number m
put_number k n (Gap j) = if (j == k) (Number n) (Gap j)

abbrev pub is_gap : ℕ → conditions.Cell → Bool
is_gap k (conditions.known m) = false
is_gap k (conditions.gap j) = j == k

abbrev pub over_cell : ℕ → ℕ → ℕ → List ℕ → List ℕ
over_cell k n at xs = if (is_gap k (cell_in (slice_index xs at) (slice_index xs (at + 1)))) (slice_set (slice_set xs at 0) (at + 1) n) xs

unfoldable pub over_cells : ℕ → ℕ → ℕ → ℕ → List ℕ → List ℕ
over_cells k n zero at xs = xs
over_cells k n (suc w) at xs = over_cells k n w (at + 2) (over_cell k n at xs)

unfoldable pub over_lines : ℕ → ℕ → ℕ → ℕ → ℕ → List ℕ → List ℕ
over_lines k n zero w at xs = xs
over_lines k n (suc m) w at xs = over_lines k n m w (at + line_size w) (over_cells k n w (at + 1) xs)

unfoldable pub over_lists : ℕ → ℕ → ℕ → ℕ → List ℕ → List ℕ
over_lists k n zero at xs = xs
over_lists k n (suc c) at xs =
    over_lists k n c (at + list_size (drop at xs)) (over_lines k n (lines_at (drop at xs)) (columns_at (drop at xs)) (at + 2) xs)

abbrev pub over_node : ℕ → ℕ → Node → Node
over_node k n Always = Always
over_node k n Never = Never
over_node k n (Equal a b) = Equal (put_number k n a) (put_number k n b)
over_node k n (Not a) = Not a
over_node k n (Both a b) = Both a b
over_node k n (Either a b) = Either a b

pub record OverNodes (k n c : ℕ) (xs ys : List ℕ) : Type 0 where
  pub many : count ys ≡ count xs
  pub written : (j : ℕ) → j < c → decoded ys j ≡ over_node k n (decoded xs j)
  pub others : (j : ℕ) → c ≤ j → decoded ys j ≡ decoded xs j
  -- what lies behind the store is as it was
  pub past : (j : ℕ) → 1 + 5 * count xs ≤ j → slice_index ys j ≡ slice_index xs j
