-- The gaps and the numbers that cells name, noted one cell after the other.
--
--   gap_noted s k        whether the gap k was noted
--   gaps_noted s         the gaps that were noted, in rising order
--   numbers_noted s      the numbers that were noted
--   Noted cs s           s has noted the cells cs: all their gaps, and their numbers up to the ninth, each once
--   NotesMore cs s t     t has noted the cells cs, and those before that s has noted
use Rattle.std.specs.Prelude.{◌≡◌, ℕ, ◌^◌, ◌<◌, Bool, true, false, List, ◌++◌, length, nat_eq, slice_index_or}
use Rattle.std.specs.List.{IsDistinct}
use Rattle.condition.specs.Cond.{Cell, numbers_in, gaps_in, has, Within}
use Rattle.decide.specs.Counting.{passing_below}
use Rattle.decide.specs.declared.noting.Notes.{Notes}

abbrev pub gap_noted : Notes → ℕ → Bool
gap_noted s k = slice_index_or s.gaps k false

abbrev pub gaps_noted : Notes → List ℕ
gaps_noted s = passing_below 64 (gap_noted s)

abbrev pub numbers_noted : Notes → List ℕ
numbers_noted s = s.numbers.items

pub record Noted (cs : List Cell) (s : Notes) : Type 0 where
  pub long : length s.gaps ≡ 64
  pub gaps : (k : ℕ) → gap_noted s k ≡ has (gaps_in cs) k
  pub apart : IsDistinct nat_eq (numbers_noted s)
  pub only : Within (numbers_noted s) (numbers_in cs)
  pub low : (n : ℕ) → has (numbers_noted s) n ≡ true → n < 2 ^ 64
  -- below the ninth none is left out
  pub all : length (numbers_noted s) < 9 → Within (numbers_in cs) (numbers_noted s)

abbrev pub NotesMore : List Cell → Notes → Notes → Type 0
NotesMore cs s t = (ds : List Cell) → Noted ds s → Noted (cs ++ ds) t
