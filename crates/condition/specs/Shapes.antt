-- What the code's types stand for.
--
--   cell_of c        the cell
--   node_of n go     the condition, where go gives those at other places
--   Named n          the cells of a node are numbers or of the 64 gaps
use Rattle.std.specs.Prelude.{◌≡◌, ℕ, true}
use Rattle.condition.specs.Cond.{known, gap, Cond, always, never, not_so, both, either}
use Rattle.condition.specs.Cond as conditions
use Rattle.condition.specs.Store.{comparison, has_name}
use Rattle.condition.specs.declared.Cell.{Cell}
use Rattle.condition.specs.declared.Cell.TheVariants.{Number, Gap}
use Rattle.condition.specs.declared.Node.{Node}
use Rattle.condition.specs.declared.Node.TheVariants.{Always, Never, Equal, Not, Both, Either}

abbrev pub cell_of : Cell → conditions.Cell
cell_of (Number n) = known n
cell_of (Gap k) = gap k

abbrev pub node_of : Node → (ℕ → Cond) → Cond
node_of Always go = always
node_of Never go = never
node_of (Equal a b) go = comparison (cell_of a) (cell_of b)
node_of (Not a) go = not_so (go a)
node_of (Both a b) go = both (go a) (go b)
node_of (Either a b) go = either (go a) (go b)

abbrev pub Named : Node → Type 0
Named Always = Unit {0}
Named Never = Unit {0}
Named (Equal a b) = (has_name (cell_of a) ≡ true) × (has_name (cell_of b) ≡ true)
Named (Not a) = Unit {0}
Named (Both a b) = Unit {0}
Named (Either a b) = Unit {0}
