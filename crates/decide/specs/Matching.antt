-- The lines of an answer that decide a row: their conditions marked, their cells noted.
--
--   cells_at w answer i              the cells of line i of an answer, w cells wide; node_at w answer i its node
--   LinesMarked answer row i n ms    of the lines i to n, the nodes of those that decide the row are marked
--   deciding_from q i                of the lines of the answer from line i on, those that decide the row
--   Matched q i ms ns s t            these have their nodes marked in ns, beside what was marked in ms, and their cells noted in t,
--                                    with those before that are noted in s
use Rattle.std.specs.Prelude.{◌≡◌, ℕ, ◌*◌, ◌<◌, ◌≤◌, Bool, true, List, length, drop, slice_index}
use Rattle.condition.specs.Cond.{Cell}
use Rattle.condition.specs.Store.{count}
use Rattle.list.specs.Layout.{line_size, cells_in}
use Rattle.list.specs.Lists.{Line, Row}
use Rattle.decide.specs.Deciding.{agrees, deciding, cells_in_lines, conds_in_lines}
use Rattle.decide.specs.Reaching.{marked, Covers, AllCovered}
use Rattle.decide.specs.Noting.{NotesMore}
use Rattle.decide.specs.Sought.{lines_of}
use Rattle.decide.specs.declared.sought.Sought.{Sought}
use Rattle.decide.specs.declared.noting.Notes.{Notes}

abbrev pub cells_at : ℕ → List ℕ → ℕ → List Cell
cells_at w answer i = cells_in w (drop 1 (drop (i * line_size w) answer))

abbrev pub node_at : ℕ → List ℕ → ℕ → ℕ
node_at w answer i = slice_index (drop (i * line_size w) answer) 0

abbrev pub LinesMarked : List ℕ → Row → ℕ → ℕ → List Bool → Type 0
LinesMarked answer row i n ms = (k : ℕ) → i ≤ k → k < n → agrees (cells_at (length row) answer k) row ≡ true → marked ms (node_at (length row) answer k) ≡ true

abbrev pub deciding_from : Sought → ℕ → List Line
deciding_from q i = deciding (drop i (lines_of q)) q.row.now

pub record Matched (q : Sought) (i : ℕ) (ms₀ ms : List Bool) (s₀ s : Notes) : Type 0 where
  pub lines : LinesMarked q.answer.now q.row.now i q.lines ms
  pub kept : (k : ℕ) → marked ms₀ k ≡ true → marked ms k ≡ true
  -- what covers the marked nodes covers the lines' conditions, and the other way round
  pub all : (ns gs : List ℕ) → AllCovered ns gs q.nodes.now (count q.nodes.now) ms → Covers ns gs (conds_in_lines (deciding_from q i))
  pub only : (ns gs : List ℕ) → AllCovered ns gs q.nodes.now (count q.nodes.now) ms₀ → Covers ns gs (conds_in_lines (deciding_from q i)) →
      AllCovered ns gs q.nodes.now (count q.nodes.now) ms
  pub noted : NotesMore (cells_in_lines (deciding_from q i)) s₀ s
