-- Nodes as a store holds them: read, added and found.
--
--   node_from k a b c d      the node that five numbers are read as
--   decoded nodes i          the node that the five numbers at place i of a store are read as
--   two c                    the two numbers that are written for the cell c
--   five n                   the five numbers that are written for the node n
--   Added xs ys n i          ys is the store xs with the node n added, at place i
--   behind n i               whether all places that the node n names lie before i
--   StandsAs nodes i n      the node n stands at place i of a store, behind all that it names
--   Found nodes n i          i is the lowest place of a store at which n stands so
--   Lacks nodes n            it stands so nowhere, or there is no store
use Rattle.std.specs.Prelude.{◌≡◌, ℕ, zero, suc, ◌+◌, ◌*◌, ◌<◌, Bool, true, cond as if, ◌&&◌, List, [], ◌∷◌, nat_lt, slice_index}
use Rattle.condition.specs.Store.{has_name, count, cond_at, store_fits, Grown}
use Rattle.condition.specs.Shapes.{cell_of, node_of}
use Rattle.condition.specs.declared.Cell.{Cell}
use Rattle.condition.specs.declared.Cell.TheVariants.{Number, Gap}
use Rattle.condition.specs.declared.Node.{Node}
use Rattle.condition.specs.declared.Node.TheVariants.{Always, Never, Equal, Not, Both, Either}

abbrev pub cell_from : ℕ → ℕ → Cell
cell_from zero n = Number n
cell_from (suc t) k = Gap k

-- never where one of the cells is no gap of the 64
abbrev pub compared : Cell → Cell → Node
compared a b = if (has_name (cell_of a) && has_name (cell_of b)) (Equal a b) Never

abbrev pub node_from : ℕ → ℕ → ℕ → ℕ → ℕ → Node
node_from zero a b c d = Always
node_from (suc zero) a b c d = Never
node_from (suc (suc zero)) a b c d = compared (cell_from a b) (cell_from c d)
node_from (suc (suc (suc zero))) a b c d = Not a
node_from (suc (suc (suc (suc zero)))) a b c d = Both a b
node_from (suc (suc (suc (suc (suc k))))) a b c d = Either a b

abbrev pub decoded : List ℕ → ℕ → Node
decoded nodes i =
    node_from (slice_index nodes (1 + 5 * i)) (slice_index nodes (1 + 5 * i + 1)) (slice_index nodes (1 + 5 * i + 2)) (slice_index nodes (1 + 5 * i + 3)) (slice_index nodes (1 + 5 * i + 4))

-- the two numbers of a cell
abbrev pub tag : Cell → ℕ
tag (Number n) = 0
tag (Gap k) = 1

abbrev pub name : Cell → ℕ
name (Number n) = n
name (Gap k) = k

abbrev pub two : Cell → List ℕ
two c = tag c ∷ (name c ∷ [])

abbrev pub five : Node → List ℕ
five Always = 0 ∷ (0 ∷ (0 ∷ (0 ∷ (0 ∷ []))))
five Never = 1 ∷ (0 ∷ (0 ∷ (0 ∷ (0 ∷ []))))
five (Equal a b) = 2 ∷ (tag a ∷ (name a ∷ (tag b ∷ (name b ∷ []))))
five (Not a) = 3 ∷ (a ∷ (0 ∷ (0 ∷ (0 ∷ []))))
five (Both a b) = 4 ∷ (a ∷ (b ∷ (0 ∷ (0 ∷ []))))
five (Either a b) = 5 ∷ (a ∷ (b ∷ (0 ∷ (0 ∷ []))))

pub record Added (xs ys : List ℕ) (n : Node) (i : ℕ) : Type 0 where
  pub place : i ≡ count xs
  pub more : count ys ≡ i + 1
  pub numbers : (k : ℕ) → k < 5 → slice_index ys (1 + 5 * i + k) ≡ slice_index (five n) k
  pub grown : Grown xs ys
  pub stays : (j : ℕ) → j < i → cond_at ys j ≡ cond_at xs j
  pub new : cond_at ys i ≡ node_of n (cond_at xs)

abbrev pub behind : Node → ℕ → Bool
behind Always i = true
behind Never i = true
behind (Equal a b) i = true
behind (Not a) i = nat_lt a i
behind (Both a b) i = nat_lt a i && nat_lt b i
behind (Either a b) i = nat_lt a i && nat_lt b i

-- a comparison that names a gap above 63 stands nowhere: its numbers are read as never
pub record StandsAs (nodes : List ℕ) (i : ℕ) (n : Node) : Type 0 where
  pub stands : i < count nodes
  pub after : behind n i ≡ true
  pub same : decoded nodes i ≡ n

pub record Found (nodes : List ℕ) (n : Node) (i : ℕ) : Type 0 where
  pub store : store_fits nodes ≡ true
  pub here : StandsAs nodes i n
  pub lowest : (j : ℕ) → j < i → StandsAs nodes j n → ⊥

abbrev pub Lacks : List ℕ → Node → Type 0
Lacks nodes n = store_fits nodes ≡ true → (j : ℕ) → StandsAs nodes j n → ⊥
