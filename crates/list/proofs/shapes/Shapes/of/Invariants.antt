use Rattle.std.proofs.Common.{◌≡◌, ℕ, ◌<◌, length, get_or}
use Rattle.list.specs.Bounds.{no_shape}
use Rattle.list.specs.Shapes.{Shaped}
use Rattle.list.proofs.Walking.{Walked}
use Rattle.list.proofs.shapes.Shapes.of.Given as goal

abbrev pub invariant-loop-shape : goal.invariant-loop-shape
invariant-loop-shape l =
    Walked l.lists l.shape-index l.at × (length l.shape-items ≡ l.count) × ((j : ℕ) → j < l.shape-index → Shaped l.lists j (get_or l.shape-items j no_shape))
