-- The store: conditions as numbers in memory.
--
--   cell_in t n          the cell that two numbers stand for: 0 and a number, or 1 and a gap's name
--   node k a b c d go    the condition that a node's five numbers stand for, where go gives those of other nodes
--   cond_at nodes i      the condition at node i of a store
--   store_told nodes     the refusal of a slice that is no store
--   stands nodes i       whether node i stands in a store
--   room nodes           how many more nodes fit
--   Grown xs ys          ys is the store xs with nodes added behind those that stood
use Rattle.std.specs.Prelude.{◌≡◌, ℕ, zero, suc, ◌+◌, ◌-◌, ◌*◌, ◌/◌, ◌<◌, ◌≤◌, min, Bool, true, cond as if, ◌&&◌, List, length, drop, nat_le, nat_lt, slice_index}
use Rattle.condition.specs.Cond.{Cell, known, gap, Cond, always, never, equal, not_so, both, either}
use Rattle.condition.specs.Refusals.{Told, unless}

abbrev pub cell_in : ℕ → ℕ → Cell
cell_in zero n = known n
cell_in (suc t) k = gap k

-- a number, or one of the 64 gaps
abbrev pub has_name : Cell → Bool
has_name (known n) = true
has_name (gap k) = nat_lt k 64

-- a comparison that names a gap above 63 reads as never
abbrev pub comparison : Cell → Cell → Cond
comparison a b = if (has_name a && has_name b) (equal a b) never

-- kinds above 5 read as 5
abbrev pub node : ℕ → ℕ → ℕ → ℕ → ℕ → (ℕ → Cond) → Cond
node zero a b c d go = always
node (suc zero) a b c d go = never
node (suc (suc zero)) a b c d go = comparison (cell_in a b) (cell_in c d)
node (suc (suc (suc zero))) a b c d go = not_so (go a)
node (suc (suc (suc (suc zero)))) a b c d go = both (go a) (go b)
node (suc (suc (suc (suc (suc k))))) a b c d go = either (go a) (go b)

-- the five numbers of node i, where the nodes stand in xs without their count
abbrev pub node_in : List ℕ → ℕ → (ℕ → Cond) → Cond
node_in xs i go = node (slice_index xs (5 * i)) (slice_index xs (5 * i + 1)) (slice_index xs (5 * i + 2)) (slice_index xs (5 * i + 3)) (slice_index xs (5 * i + 4)) go

-- a node that names itself or a later one reads that as never
abbrev pub earlier : ℕ → (ℕ → Cond) → ℕ → Cond
earlier i go j = if (nat_lt j i) (go j) never

-- the condition of node i, read at most n nodes deep
unfoldable pub cond_deep : ℕ → List ℕ → ℕ → Cond
cond_deep zero xs i = never
cond_deep (suc n) xs i = node_in xs i (earlier i (λ j. cond_deep n xs j))

-- a store is the count of its nodes, and then the nodes
abbrev pub count : List ℕ → ℕ
count nodes = slice_index nodes 0

-- a node that does not stand reads as never; node i is at most i deep
unfoldable pub cond_at : List ℕ → ℕ → Cond
cond_at nodes i = if (nat_lt i (count nodes)) (cond_deep (suc i) (drop 1 nodes) i) never

-- number 2: cut short, or too many nodes
abbrev pub store_fits : List ℕ → Bool
store_fits nodes = nat_le (count nodes) 131072 && nat_le (1 + 5 * count nodes) (length nodes)

abbrev pub store_told : List ℕ → Told
store_told nodes = unless (store_fits nodes) 2 (count nodes)

abbrev pub stands : List ℕ → ℕ → Bool
stands nodes i = store_fits nodes && nat_lt i (count nodes)

-- by the slice's length, and by the most nodes that a store may have
abbrev pub room : List ℕ → ℕ
room nodes = min ((length nodes - 1) / 5) 131072 - count nodes

-- number 6: no room for n more nodes
abbrev pub room_told : List ℕ → ℕ → Told
room_told nodes n = unless (nat_le n (room nodes)) 6 (room nodes)

pub record Grown (xs ys : List ℕ) : Type 0 where
  -- as long as it was
  pub long : length ys ≡ length xs
  -- no fewer nodes, and the slice still holds them
  pub more : count xs ≤ count ys
  pub fits : 1 + 5 * count ys ≤ length ys
  -- the nodes that stood stand as they were
  pub front : (k : ℕ) → 0 < k → k < 1 + 5 * count xs → slice_index ys k ≡ slice_index xs k
  -- past the new nodes the slice holds what it held
  pub past : (k : ℕ) → 1 + 5 * count ys ≤ k → slice_index ys k ≡ slice_index xs k
