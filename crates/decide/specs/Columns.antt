-- Up to 256 rows at once, one in each lane, and words that say of each row whether two numbers are equal.
--
--   Having rows p n w            in each lane of w, whether the row there has the number n at place p
--   Alike rows p q w             in each lane of w, whether the row there has the same number at p and at q
--   Same rows a b w              in each lane of w, whether two cells have the same number in the row there
--   Earlier rows p ws            ws has a word for each earlier place than p, and it says so for p and that place
--   Named rows p ns ws           ws has a word for each of the numbers ns, and it says whether a row has that number at p
--   ColumnOf rows p ns c         the column c says so for p and each earlier place, and for each of the numbers ns
--   Filled rows ns cs            the columns cs are those of the first places
use Rattle.std.specs.Prelude.{◌≡◌, ℕ, ◌<◌, List, [], length, ◌==◌, slice_index, slice_index_or}
use Rattle.decide.specs.Bit.{lane}
use Rattle.decide.specs.Rows.{number_at, number_in, blank}
use Rattle.decide.specs.declared.rows.Row.{Row}
use Rattle.decide.specs.declared.rows.Spot.{Spot}
use Rattle.decide.specs.declared.words.Word.{Word}
use Rattle.decide.specs.declared.columns.Column.{Column}

abbrev pub Having : List Row → ℕ → ℕ → Word → Type 0
Having rows p n w = (l : ℕ) → l < length rows → lane l w ≡ (number_at (slice_index_or rows l blank) p == n)

abbrev pub Alike : List Row → ℕ → ℕ → Word → Type 0
Alike rows p q w = (l : ℕ) → l < length rows → lane l w ≡ (number_at (slice_index_or rows l blank) p == number_at (slice_index_or rows l blank) q)

abbrev pub Same : List Row → Spot → Spot → Word → Type 0
Same rows a b w = (l : ℕ) → l < length rows → lane l w ≡ (number_in (slice_index_or rows l blank) a == number_in (slice_index_or rows l blank) b)

abbrev pub no_word : Word
no_word = record { bits = [] }

pub record Earlier (rows : List Row) (p : ℕ) (ws : List Word) : Type 0 where
  pub many : length ws ≡ p
  pub each : (q : ℕ) → q < p → Alike rows p q (slice_index_or ws q no_word)

pub record Named (rows : List Row) (p : ℕ) (ns : List ℕ) (ws : List Word) : Type 0 where
  pub many : length ws ≡ length ns
  pub each : (j : ℕ) → j < length ns → Having rows p (slice_index ns j) (slice_index_or ws j no_word)

pub record ColumnOf (rows : List Row) (p : ℕ) (ns : List ℕ) (c : Column) : Type 0 where
  pub earlier : Earlier rows p c.earlier.items
  pub named : Named rows p ns c.named.items

abbrev pub no_column : Column
no_column = record { earlier = record { items = [] }; named = record { items = [] } }

abbrev pub Filled : List Row → List ℕ → List Column → Type 0
Filled rows ns cs = (p : ℕ) → p < length cs → ColumnOf rows p ns (slice_index_or cs p no_column)
