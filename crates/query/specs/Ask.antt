-- Questions, asked of filled lists.
--
--   Test               what a row may be tested for
--   Query              a question
--   passes t r         whether the row r passes the test t
--   ask q ts           the rows that the question q gives on the lists of rows ts
use Rattle.std.specs.Prelude.{ℕ, Bool, cond as if, not, List, [], ◌∷◌, ◌++◌, ◌==◌, slice_index, slice_index_or}
use Rattle.list.specs.Lists.{Row, stands}

pub data Test : Type 0 where
  -- two columns are equal; are not
  same : ℕ → ℕ → Test
  differ : ℕ → ℕ → Test
  -- a column is a number; is not
  is : ℕ → ℕ → Test
  is_not : ℕ → ℕ → Test

pub data Query : Type 0 where
  -- the rows of a list
  table : ℕ → Query
  -- the rows that pass a test
  keep : Test → Query → Query
  -- of each row these columns
  columns : List ℕ → Query → Query
  -- each row of the first followed by each of the second
  join : Query → Query → Query
  -- the rows of both
  union : Query → Query → Query
  -- the rows of the first that are none of the second
  without : Query → Query → Query

unfoldable pub passes : Test → Row → Bool
passes (same a b) r = slice_index r a == slice_index r b
passes (differ a b) r = not (slice_index r a == slice_index r b)
passes (is a n) r = slice_index r a == n
passes (is_not a n) r = not (slice_index r a == n)

unfoldable pub kept : Test → List Row → List Row
kept t [] = []
kept t (r ∷ rs) = if (passes t r) (r ∷ kept t rs) (kept t rs)

unfoldable pub at_columns : List ℕ → Row → Row
at_columns [] r = []
at_columns (a ∷ ps) r = slice_index r a ∷ at_columns ps r

unfoldable pub cut_to : List ℕ → List Row → List Row
cut_to ps [] = []
cut_to ps (r ∷ rs) = at_columns ps r ∷ cut_to ps rs

unfoldable pub beside : Row → List Row → List Row
beside r [] = []
beside r (s ∷ ss) = (r ++ s) ∷ beside r ss

unfoldable pub joined : List Row → List Row → List Row
joined [] ss = []
joined (r ∷ rs) ss = beside r ss ++ joined rs ss

unfoldable pub less : List Row → List Row → List Row
less [] ss = []
less (r ∷ rs) ss = if (stands r ss) (less rs ss) (r ∷ less rs ss)

unfoldable pub ask : Query → List (List Row) → List Row
ask (table t) ts = slice_index_or ts t []
ask (keep t q) ts = kept t (ask q ts)
ask (columns ps q) ts = cut_to ps (ask q ts)
ask (join p q) ts = joined (ask p ts) (ask q ts)
ask (union p q) ts = ask p ts ++ ask q ts
ask (without p q) ts = less (ask p ts) (ask q ts)
