-- Which nodes of a store conditions reach, and the cells that stand in them.
--
--   places_of n               the places that a node names
--   EachPlace n P            P of each place that the node n names
--   own_cells n               the cells that a node compares itself
--   marked ms i               whether node i is marked
--   names i n j               whether the node n at place i names the place j before it
--   reached nodes n p j       whether one of the first n nodes that passes the test p reaches j, or j passes it
--   Closed nodes n ms         of the first n nodes, all that a marked one names before it is marked
--   cells_among nodes is      the cells that the nodes at the places is compare
--   marked_places ms n        the marked ones of the first n places
--   marked_cells nodes ms n   the cells that the marked ones of the first n nodes compare
--   Covers ns gs cs           the numbers in the cells cs are among ns, and the gaps among gs
use Rattle.std.specs.Prelude.{◌≡◌, ℕ, zero, suc, ◌<◌, Bool, true, false, ◌&&◌, ◌||◌, List, [], ◌∷◌, flat_map, nat_lt, slice_index_or}
use Rattle.condition.specs.Cond.{Cell, never, cells_of, numbers_in, gaps_in, has, Within}
use Rattle.condition.specs.Store.{cond_at}
use Rattle.condition.specs.Shapes.{node_of}
use Rattle.condition.specs.Nodes.{decoded}
use Rattle.condition.specs.declared.Node.{Node}
use Rattle.condition.specs.declared.Node.TheVariants.{Always, Never, Equal, Not, Both, Either}
use Rattle.decide.specs.Counting.{passing_below}

abbrev pub places_of : Node → List ℕ
places_of Always = []
places_of Never = []
places_of (Equal a b) = []
places_of (Not a) = a ∷ []
places_of (Both a b) = a ∷ (b ∷ [])
places_of (Either a b) = a ∷ (b ∷ [])

abbrev pub EachPlace : Node → (ℕ → Type 0) → Type 0
EachPlace Always P = Unit {0}
EachPlace Never P = Unit {0}
EachPlace (Equal a b) P = Unit {0}
EachPlace (Not a) P = P a
EachPlace (Both a b) P = P a × P b
EachPlace (Either a b) P = P a × P b

abbrev pub own_cells : Node → List Cell
own_cells n = cells_of (node_of n (λ j. never))

abbrev pub marked : List Bool → ℕ → Bool
marked ms i = slice_index_or ms i false

abbrev pub names : ℕ → Node → ℕ → Bool
names i n j = nat_lt j i && has (places_of n) j

-- from the last node to the first, each one that is reached has those reached that it names
unfoldable pub reached : List ℕ → ℕ → (ℕ → Bool) → ℕ → Bool
reached nodes zero p j = p j
reached nodes (suc n) p j = reached nodes n (λ k. p k || (p n && names n (decoded nodes n) k)) j

abbrev pub Closed : List ℕ → ℕ → List Bool → Type 0
Closed nodes n ms = (i : ℕ) → i < n → marked ms i ≡ true → EachPlace (decoded nodes i) (λ j. j < i → marked ms j ≡ true)

abbrev pub cells_among : List ℕ → List ℕ → List Cell
cells_among nodes places = flat_map (λ i. own_cells (decoded nodes i)) places

-- the marked ones of the first n places, in rising order
abbrev pub marked_places : List Bool → ℕ → List ℕ
marked_places ms n = passing_below n (marked ms)

abbrev pub marked_cells : List ℕ → List Bool → ℕ → List Cell
marked_cells nodes ms n = cells_among nodes (marked_places ms n)

pub record Covers (ns gs : List ℕ) (cs : List Cell) : Type 0 where
  pub numbers : Within (numbers_in cs) ns
  pub gaps : Within (gaps_in cs) gs

-- each marked one of the first n nodes names only these
abbrev pub AllCovered : List ℕ → List ℕ → List ℕ → ℕ → List Bool → Type 0
AllCovered ns gs nodes n ms = (i : ℕ) → i < n → marked ms i ≡ true → Covers ns gs (cells_of (cond_at nodes i))
