-- Folding: conditions copied into a scratch store, the cone, simplified and each kept once.
--
--   Begun cone               the cone begins with always and never
--   Neat i n                 the node n at place i: no constant, of two cells that may be equal or not, in one order, behind what it
--                            names, and it names no constant
--   Tidy cone                every node of the cone behind the first two is neat
--   Room cone k              there is room for k nodes more
--   Over cone n              all places that the node n names stand in the cone
--   Covered cone ns gs       the cells of every condition of the cone have numbers of ns and gaps of gs alone
--   Draws n ns gs            so do the cells that the node n itself compares
--   DrawsOn xs n ns gs       so do those, and the cells of the conditions of the store xs that it names
--   truth xs v j             whether the condition at place j of the store xs holds under v
--   joined j a b             the node that joins the conditions at places a and b: that all of them hold, or that any does
--   vanishing j, settling j  the place of the constant that changes nothing in such a node, and of the one that settles it
--   Says xs n r              the condition at place r of a cone holds where the node n would
--   StandsFor xs n m        the neat node m holds where the node n does
--   ComesTo xs n s          s says so of a place, or of a node
--   Built xs ys n r          ys is the cone xs with at most one node more, and place r says what the node n said of xs
--   place_in i ps j          the place ps gives for an earlier node than i; that of never for others
--   renamed f n              the node n with f applied to the places that it names
--   DrawsAll ..             the cells of each marked comparison have numbers of ns and gaps of gs alone
--   PlaceOf n marks ps j    j is the place that ps gives for a marked one of the first n
--   Folds nodes n marks xs ys ps   ys is the cone xs with the marked of the first n nodes folded into it, at the places ps
use Rattle.std.specs.Prelude.{◌≡◌, ℕ, ◌+◌, ◌*◌, ◌<◌, ◌≤◌, Bool, true, false, cond as if, List, [], ◌∷◌, length, nat_lt, slice_index, slice_index_or}
use Rattle.condition.specs.Cond.{always, never, cells_of}
use Rattle.condition.specs.Store.{count, cond_at, Grown}
use Rattle.condition.specs.Shapes.{cell_of, Named}
use Rattle.condition.specs.Nodes.{decoded}
use Rattle.condition.specs.declared.Cell.TheVariants.{Number, Gap}
use Rattle.condition.specs.declared.Node.{Node}
use Rattle.condition.specs.declared.Node.TheVariants.{Always, Never, Equal, Not, Both, Either}
use Rattle.evaluate.specs.Filling.{Filling, holds}
use Rattle.evaluate.specs.Values.{value_of}
use Rattle.decide.specs.Counting.{counted}
use Rattle.decide.specs.Reaching.{EachPlace, marked, Covers}
use Rattle.decide.specs.declared.simplifying.Join.{Join}
use Rattle.decide.specs.declared.simplifying.Join.TheVariants.{All, Any}
use Rattle.decide.specs.declared.simplifying.Simple.{Simple}
use Rattle.decide.specs.declared.simplifying.Simple.TheVariants.{Place, New}

pub record Begun (cone : List ℕ) : Type 0 where
  pub fits : 1 + 5 * count cone ≤ length cone
  pub two : 2 ≤ count cone
  pub first : cond_at cone 0 ≡ always
  pub second : cond_at cone 1 ≡ never
  deriving IsProp as Begun_prop

-- a gap before a number, the smaller of two gaps first; the smaller of two places first
abbrev pub Neat : ℕ → Node → Type 0
Neat i Always = ⊥
Neat i Never = ⊥
Neat i (Equal (Number m) b) = ⊥
Neat i (Equal (Gap j) (Number n)) = Unit {0}
Neat i (Equal (Gap j) (Gap k)) = j < k
Neat i (Not a) = (2 ≤ a) × (a < i)
Neat i (Both a b) = (2 ≤ a) × (a < b) × (b < i)
Neat i (Either a b) = (2 ≤ a) × (a < b) × (b < i)

abbrev pub Tidy : List ℕ → Type 0
Tidy cone = (i : ℕ) → 2 ≤ i → i < count cone → Neat i (decoded cone i)

abbrev pub Room : List ℕ → ℕ → Type 0
Room cone k = 1 + 5 * (count cone + k) ≤ length cone

abbrev pub Over : List ℕ → Node → Type 0
Over cone n = EachPlace n (λ j. j < count cone)

abbrev pub Covered : List ℕ → List ℕ → List ℕ → Type 0
Covered cone ns gs = (j : ℕ) → j < count cone → Covers ns gs (cells_of (cond_at cone j))

abbrev pub Draws : Node → List ℕ → List ℕ → Type 0
Draws Always ns gs = Unit {0}
Draws Never ns gs = Unit {0}
Draws (Equal a b) ns gs = Covers ns gs (cell_of a ∷ (cell_of b ∷ []))
Draws (Not a) ns gs = Unit {0}
Draws (Both a b) ns gs = Unit {0}
Draws (Either a b) ns gs = Unit {0}

abbrev pub DrawsOn : List ℕ → Node → List ℕ → List ℕ → Type 0
DrawsOn xs n ns gs = Draws n ns gs × EachPlace n (λ j. Covers ns gs (cells_of (cond_at xs j)))

abbrev pub truth : List ℕ → Filling → ℕ → Bool
truth xs v j = holds v (cond_at xs j)

abbrev pub joined : Join → ℕ → ℕ → Node
joined All a b = Both a b
joined Any a b = Either a b

abbrev pub vanishing : Join → ℕ
vanishing All = 0
vanishing Any = 1

abbrev pub settling : Join → ℕ
settling All = 1
settling Any = 0

pub record Says (xs : List ℕ) (n : Node) (r : ℕ) : Type 0 where
  pub stands : r < count xs
  pub value : (v : Filling) → holds v (cond_at xs r) ≡ value_of v n (truth xs v)
  pub inside : (ns gs : List ℕ) → DrawsOn xs n ns gs → Covers ns gs (cells_of (cond_at xs r))

pub record StandsFor (xs : List ℕ) (n m : Node) : Type 0 where
  pub neat : Neat (count xs) m
  pub named : Named m
  pub value : (v : Filling) → value_of v m (truth xs v) ≡ value_of v n (truth xs v)
  pub draws : (ns gs : List ℕ) → Draws n ns gs → Draws m ns gs
  pub places : (ns gs : List ℕ) → DrawsOn xs n ns gs → DrawsOn xs m ns gs

abbrev pub ComesTo : List ℕ → Node → Simple → Type 0
ComesTo xs n (Place r) = Says xs n r
ComesTo xs n (New m) = StandsFor xs n m

pub record Built (xs ys : List ℕ) (n : Node) (r : ℕ) : Type 0 where
  pub grown : Grown xs ys
  pub few : count ys ≤ count xs + 1
  pub stands : r < count ys
  pub value : (v : Filling) → holds v (cond_at ys r) ≡ value_of v n (truth xs v)
  -- its condition has no other numbers and gaps than the node and what it names
  pub inside : (ns gs : List ℕ) → DrawsOn xs n ns gs → Covers ns gs (cells_of (cond_at ys r))
  -- a node that is new stands at that place
  pub new : (j : ℕ) → count xs ≤ j → j < count ys → r ≡ j
  -- no other numbers and gaps than there were, and those of the node
  pub covered : (ns gs : List ℕ) → Covered xs ns gs → Draws n ns gs → Covered ys ns gs

-- a node that names itself or a later one reads that as never, which stands at place 1
abbrev pub place_in : ℕ → List ℕ → ℕ → ℕ
place_in i ps j = if (nat_lt j i) (slice_index ps j) 1

abbrev pub renamed : (ℕ → ℕ) → Node → Node
renamed f Always = Always
renamed f Never = Never
renamed f (Equal a b) = Equal a b
renamed f (Not a) = Not (f a)
renamed f (Both a b) = Both (f a) (f b)
renamed f (Either a b) = Either (f a) (f b)

abbrev pub DrawsAll : List ℕ → ℕ → List Bool → List ℕ → List ℕ → Type 0
DrawsAll nodes n marks ns gs = (i : ℕ) → i < n → slice_index_or marks i false ≡ true → Draws (decoded nodes i) ns gs

abbrev pub PlaceOf : ℕ → List Bool → List ℕ → ℕ → Type 0
PlaceOf n marks ps j = (i : ℕ) × (i < n) × (marked marks i ≡ true) × (slice_index ps i ≡ j)

pub record Folds (nodes : List ℕ) (n : ℕ) (marks : List Bool) (xs ys ps : List ℕ) : Type 0 where
  pub grown : Grown xs ys
  pub few : count ys ≤ count xs + counted n (marked marks)
  pub stand : (i : ℕ) → i < n → slice_index_or marks i false ≡ true → slice_index ps i < count ys
  pub value : (i : ℕ) → i < n → slice_index_or marks i false ≡ true → (v : Filling) → holds v (cond_at ys (slice_index ps i)) ≡ holds v (cond_at nodes i)
  -- and has no other numbers and gaps
  pub inside : (i : ℕ) → i < n → slice_index_or marks i false ≡ true → (ns gs : List ℕ) → Covers ns gs (cells_of (cond_at nodes i)) → Covers ns gs (cells_of (cond_at ys (slice_index ps i)))
  -- each new node is the place of a marked one
  pub onto : (j : ℕ) → count xs ≤ j → j < count ys → PlaceOf n marks ps j
  -- no other numbers and gaps than there were, and those of the marked nodes
  pub covered : (ns gs : List ℕ) → Covered xs ns gs → DrawsAll nodes n marks ns gs → Covered ys ns gs
