use Rattle.std.proofs.Common.{◌≡◌, ℕ, List, length, take, drop}
use Rattle.evaluate.specs.Shapes.{numbers_of}
use Rattle.list.specs.Lists.{filled}
use Rattle.list.specs.Layout.{lines_in}
use Rattle.evaluate.specs.Values.{WorkedOut}
use Rattle.list.specs.Shapes.{rows_of}
use Rattle.list.proofs.filled.filled_lines.Given as goal

abbrev pub invariant-loop-line : goal.invariant-loop-line
invariant-loop-line l =
    (nodes : List ℕ) → WorkedOut (numbers_of l.filling) nodes (length l.values) l.values →
    rows_of l.rows ≡ filled (numbers_of l.filling) (take (length l.yielded) (lines_in nodes l.fn.shape.lines l.fn.shape.width (drop l.fn.shape.at l.lists)))
