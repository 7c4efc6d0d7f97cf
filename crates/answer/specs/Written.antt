-- Lines written into memory.
--
--   Put node cells w xs               xs begins with a line: its node, and its w cells
--   Written nodes cells w n xs ys     ys is xs with n lines of w cells written from the front on
use Rattle.std.specs.Prelude.{◌≡◌, ℕ, ◌+◌, ◌*◌, ◌<◌, ◌≤◌, List, length, slice_index}
use Rattle.condition.specs.Cond.{Cell}
use Rattle.condition.specs.Store.{cell_in}
use Rattle.list.specs.Layout.{line_size}

pub record Put (node : ℕ) (cells : ℕ → Cell) (w : ℕ) (xs : List ℕ) : Type 0 where
  pub head : slice_index xs 0 ≡ node
  pub body : (a : ℕ) → a < w → cell_in (slice_index xs (1 + 2 * a)) (slice_index xs (1 + 2 * a + 1)) ≡ cells a

pub record Written (node : ℕ → ℕ) (cells : ℕ → ℕ → Cell) (w n : ℕ) (xs ys : List ℕ) : Type 0 where
  pub long : length ys ≡ length xs
  pub head : (i : ℕ) → i < n → slice_index ys (i * line_size w) ≡ node i
  pub body : (i : ℕ) → i < n → (a : ℕ) → a < w → cell_in (slice_index ys (i * line_size w + 1 + 2 * a)) (slice_index ys (i * line_size w + 1 + 2 * a + 1)) ≡ cells i a
  pub past : (k : ℕ) → n * line_size w ≤ k → slice_index ys k ≡ slice_index xs k
