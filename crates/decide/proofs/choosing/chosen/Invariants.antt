use Rattle.std.proofs.Common.{◌≡◌, ℕ, ◌<◌, length, take, slice_index_or}
use Rattle.decide.specs.Choice.{number_of}
use Rattle.decide.specs.Search.{tried}
use Rattle.decide.specs.Shapes.{value_of}
use Rattle.decide.specs.declared.candidates.Choice.TheVariants.{Nowhere}
use Rattle.decide.proofs.choosing.chosen.Given as goal

abbrev pub invariant-loop-gap : goal.invariant-loop-gap
invariant-loop-gap l =
    (length l.choices ≡ 64) × ((k : ℕ) → k < l.gap → value_of (slice_index_or l.choices k (Nowhere k)) ≡ number_of (tried l.task) (take l.task.named l.task.pool.items) l.row.numbers k)
