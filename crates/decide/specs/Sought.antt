-- A row that is looked for in an answer over a store.
--
--   known_of q      what is known
--   lines_of q      the lines of the answer
--   deciding_of q   the lines that decide the row
--   line_of q i     line i of the answer as numbers, and what stands behind it
use Rattle.std.specs.Prelude.{ℕ, ◌*◌, List, length, drop}
use Rattle.condition.specs.Cond.{Cond}
use Rattle.condition.specs.Store.{cond_at}
use Rattle.list.specs.Layout.{line_size, lines_in}
use Rattle.list.specs.Lists.{Line}
use Rattle.decide.specs.Deciding.{deciding}
use Rattle.decide.specs.declared.sought.Sought.{Sought}

abbrev pub known_of : Sought → Cond
known_of q = cond_at q.nodes.now q.known

abbrev pub lines_of : Sought → List Line
lines_of q = lines_in q.nodes.now q.lines (length q.row.now) q.answer.now

abbrev pub deciding_of : Sought → List Line
deciding_of q = deciding (lines_of q) q.row.now

abbrev pub line_of : Sought → ℕ → List ℕ
line_of q i = drop (i * line_size (length q.row.now)) q.answer.now
