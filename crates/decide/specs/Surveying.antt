-- What decides a row: the nodes that are reached, and the gaps and numbers that are named.
--
--   numbers_for q, gaps_for q    the numbers and the gaps that count for a row that is looked for
--   cells_for q                the cells that name them: those of what is known, of the lines that decide the row, and the row's numbers
--   Reached q ms               what is known and the lines that decide the row are marked in ms, with all that they reach
--   Surveyed q ms s            and s has noted these cells
--   FewNamed s names           the gaps that s has noted have these names, at most six, and the numbers are at most eight
use Rattle.std.specs.Prelude.{◌≡◌, ℕ, ◌≤◌, Bool, true, List, ◌++◌, map, length}
use Rattle.condition.specs.Cond.{Cell, known, Cond, numbers_in, gaps_in, has}
use Rattle.condition.specs.Store.{count}
use Rattle.list.specs.Lists.{Line, Row}
use Rattle.decide.specs.Reaching.{marked, Closed, marked_cells, AllCovered}
use Rattle.decide.specs.Matching.{LinesMarked}
use Rattle.decide.specs.Noting.{gaps_noted, numbers_noted, Noted}
use Rattle.decide.specs.Sought.{known_of, deciding_of}
use Rattle.decide.specs.Standing.{named_cells}
use Rattle.decide.specs.declared.sought.Sought.{Sought}
use Rattle.decide.specs.declared.noting.Notes.{Notes}

-- the numbers and the gaps that count
abbrev pub numbers_met : Cond → List Line → Row → List ℕ
numbers_met what ls row = numbers_in (named_cells what ls) ++ row

abbrev pub gaps_met : Cond → List Line → List ℕ
gaps_met what ls = gaps_in (named_cells what ls)

abbrev pub numbers_for : Sought → List ℕ
numbers_for q = numbers_met (known_of q) (deciding_of q) q.row.now

abbrev pub gaps_for : Sought → List ℕ
gaps_for q = gaps_met (known_of q) (deciding_of q)

abbrev pub cells_for : Sought → List Cell
cells_for q = named_cells (known_of q) (deciding_of q) ++ map known q.row.now

pub record Reached (q : Sought) (ms : List Bool) : Type 0 where
  pub known : marked ms q.known ≡ true
  pub lines : LinesMarked q.answer.now q.row.now 0 q.lines ms
  pub closed : Closed q.nodes.now (count q.nodes.now) ms
  pub covered : AllCovered (numbers_for q) (gaps_for q) q.nodes.now (count q.nodes.now) ms

pub record Surveyed (q : Sought) (ms : List Bool) (s : Notes) : Type 0 where
  pub reached : Reached q ms
  pub noted : Noted (cells_for q) s
  -- the marked nodes and the row name all numbers
  pub numbers : (n : ℕ) → has (numbers_in (marked_cells q.nodes.now ms (count q.nodes.now)) ++ q.row.now) n ≡ has (numbers_for q) n

pub record FewNamed (s : Notes) (names : List ℕ) : Type 0 where
  pub gaps : names ≡ gaps_noted s
  pub few : length names ≤ 6
  pub numbers : length (numbers_noted s) ≤ 8
