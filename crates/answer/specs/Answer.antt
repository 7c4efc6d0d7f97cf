-- A question answered with gaps: lines and conditions put together from the lists' own.
--
--   test_of t cs       the condition that a line with these cells passes a test
--   cells_same cs ds   the condition that cells are equal one by one
--   spared cs ms c     the condition c, and that none of the lines ms is there and has these cells
--   answer q ts        the answer to q on the lists ts
use Rattle.std.specs.Prelude.{ℕ, List, [], ◌∷◌, ◌++◌, slice_index_or}
use Rattle.condition.specs.Cond.{Cell, known, Cond, always, never, equal, not_so, both}
use Rattle.list.specs.Lists.{Line}
use Rattle.query.specs.Ask.{Test, same, differ, is, is_not, Query, table, keep, columns, join, union, without}

abbrev pub at : List Cell → ℕ → Cell
at cs a = slice_index_or cs a (known 0)

unfoldable pub test_of : Test → List Cell → Cond
test_of (same a b) cs = equal (at cs a) (at cs b)
test_of (differ a b) cs = not_so (equal (at cs a) (at cs b))
test_of (is a n) cs = equal (at cs a) (known n)
test_of (is_not a n) cs = not_so (equal (at cs a) (known n))

unfoldable pub tested : Test → List Line → List Line
tested t [] = []
tested t (l ∷ ls) = record { cells = l.cells; if_so = both l.if_so (test_of t l.cells) } ∷ tested t ls

unfoldable pub some_cells : List ℕ → List Cell → List Cell
some_cells [] cs = []
some_cells (a ∷ ps) cs = at cs a ∷ some_cells ps cs

unfoldable pub cut_lines : List ℕ → List Line → List Line
cut_lines ps [] = []
cut_lines ps (l ∷ ls) = record { cells = some_cells ps l.cells; if_so = l.if_so } ∷ cut_lines ps ls

unfoldable pub line_beside : Line → List Line → List Line
line_beside l [] = []
line_beside l (m ∷ ms) = record { cells = l.cells ++ m.cells; if_so = both l.if_so m.if_so } ∷ line_beside l ms

unfoldable pub lines_joined : List Line → List Line → List Line
lines_joined [] ms = []
lines_joined (l ∷ ls) ms = line_beside l ms ++ lines_joined ls ms

unfoldable pub cells_same : List Cell → List Cell → Cond
cells_same [] [] = always
cells_same [] (b ∷ bs) = never
cells_same (a ∷ cs) [] = never
cells_same (a ∷ cs) (b ∷ bs) = both (equal a b) (cells_same cs bs)

unfoldable pub spared : List Cell → List Line → Cond → Cond
spared cs [] c = c
spared cs (m ∷ ms) c = spared cs ms (both c (not_so (both m.if_so (cells_same cs m.cells))))

unfoldable pub lines_less : List Line → List Line → List Line
lines_less [] ms = []
lines_less (l ∷ ls) ms = record { cells = l.cells; if_so = spared l.cells ms l.if_so } ∷ lines_less ls ms

unfoldable pub answer : Query → List (List Line) → List Line
answer (table t) ts = slice_index_or ts t []
answer (keep t q) ts = tested t (answer q ts)
answer (columns ps q) ts = cut_lines ps (answer q ts)
answer (join p q) ts = lines_joined (answer p ts) (answer q ts)
answer (union p q) ts = answer p ts ++ answer q ts
answer (without p q) ts = lines_less (answer p ts) (answer q ts)
