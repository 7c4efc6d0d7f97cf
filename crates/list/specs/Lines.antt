-- Lines one after the other, as numbers in memory.
--
--   starts n w xs    the n lines at the front of xs, w cells wide: each with its width, and with all that stands behind it
--   shown line       a line in the same way
--   lines_left s     the lines that are left of a walk
use Rattle.std.specs.Prelude.{ℕ, zero, suc, List, [], ◌∷◌, drop}
use Rattle.list.specs.Layout.{line_size}
use Rattle.list.specs.declared.lines.Line.{Line}
use Rattle.list.specs.declared.lines.Lines.{Lines}

unfoldable pub starts : ℕ → ℕ → List ℕ → List (ℕ × List ℕ)
starts zero w xs = []
starts (suc n) w xs = (w, xs) ∷ starts n w (drop (line_size w) xs)

abbrev pub shown : Line → ℕ × List ℕ
shown line = (line.width, line.numbers.now)

abbrev pub lines_left : Lines → List (ℕ × List ℕ)
lines_left s = starts s.count s.width s.rest.now
