-- Lines under never left out of an answer.
--
--   is_never c                 whether the condition c is never
--   without_never ls           the lines ls without those under never
--   Moved from to n xs ys      ys is xs with the n numbers at one place moved to another
--   Dropped nodes n w xs m ys  of n lines at the front of xs, w cells wide, the m lines at the front of ys are those not under never
use Rattle.std.specs.Prelude.{◌≡◌, ℕ, ◌+◌, ◌*◌, ◌<◌, ◌≤◌, Bool, true, false, cond as if, List, [], ◌∷◌, length, slice_index}
use Rattle.condition.specs.Cond.{Cond, always, never, equal, not_so, both, either}
use Rattle.list.specs.Lists.{Line}
use Rattle.list.specs.Layout.{line_size, lines_in, lines_fit}

abbrev pub is_never : Cond → Bool
is_never always = false
is_never never = true
is_never (equal a b) = false
is_never (not_so c) = false
is_never (both c d) = false
is_never (either c d) = false

unfoldable pub without_never : List Line → List Line
without_never [] = []
without_never (l ∷ ls) = if (is_never l.if_so) (without_never ls) (l ∷ without_never ls)

pub record Moved (from to n : ℕ) (xs ys : List ℕ) : Type 0 where
  pub long : length ys ≡ length xs
  pub moved : (t : ℕ) → t < n → slice_index ys (to + t) ≡ slice_index xs (from + t)
  pub before : (k : ℕ) → k < to → slice_index ys k ≡ slice_index xs k
  pub past : (k : ℕ) → to + n ≤ k → slice_index ys k ≡ slice_index xs k

pub record Dropped (nodes : List ℕ) (n w : ℕ) (xs : List ℕ) (m : ℕ) (ys : List ℕ) : Type 0 where
  pub few : m ≤ n
  pub long : length ys ≡ length xs
  pub lines : lines_in nodes m w ys ≡ without_never (lines_in nodes n w xs)
  -- cells that were cells still are
  pub cells : lines_fit n w xs ≡ true → lines_fit m w ys ≡ true
  -- each names a node that one of those named
  pub heads : (j : ℕ) → j < m → (i : ℕ) × (i < n) × (slice_index ys (j * line_size w) ≡ slice_index xs (i * line_size w))
  pub past : (k : ℕ) → n * line_size w ≤ k → slice_index ys k ≡ slice_index xs k
