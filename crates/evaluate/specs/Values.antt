-- The values of a store's nodes under a filling.
--
--   WorkedOut v nodes n bs    the first n values of bs are those of the first n nodes of a store
--   value_of v n bs            the value of a node, where bs gives those at other places
use Rattle.std.specs.Prelude.{◌≡◌, ℕ, ◌<◌, Bool, true, false, not, ◌&&◌, ◌||◌, List, ◌==◌, slice_index_or}
use Rattle.condition.specs.Store.{cond_at}
use Rattle.condition.specs.Shapes.{cell_of}
use Rattle.condition.specs.declared.Node.{Node}
use Rattle.condition.specs.declared.Node.TheVariants.{Always, Never, Equal, Not, Both, Either}
use Rattle.evaluate.specs.Filling.{Filling, fill_cell, holds}

abbrev pub WorkedOut : Filling → List ℕ → ℕ → List Bool → Type 0
WorkedOut v nodes n bs = (j : ℕ) → j < n → slice_index_or bs j false ≡ holds v (cond_at nodes j)

abbrev pub value_of : Filling → Node → (ℕ → Bool) → Bool
value_of v Always bs = true
value_of v Never bs = false
value_of v (Equal a b) bs = fill_cell v (cell_of a) == fill_cell v (cell_of b)
value_of v (Not a) bs = not (bs a)
value_of v (Both a b) bs = bs a && bs b
value_of v (Either a b) bs = bs a || bs b
