-- Books: what they are, and their bytes.
--
--   IsBook lists nodes       what the lists and the store of a book have
--   book_bytes lists nodes   the bytes of the file that holds them: the count of nodes, the lists, and the nodes
use Rattle.std.specs.Prelude.{◌≡◌, ℕ, ◌+◌, ◌*◌, ◌^◌, ◌≤◌, List, ◌∷◌, ◌++◌, length, drop, None, slice_index}
use Rattle.condition.specs.Store.{count}
use Rattle.list.specs.Layout.{check_told}
use Rattle.file_bytes.specs.Numbers.{AllBelow, bytes_of}
use Rattle.file_bytes.specs.Listing.{lists_long, AllThere}

pub record IsBook (lists nodes : List ℕ) : Type 0 where
  -- nothing is told of them
  pub told : check_told lists nodes ≡ None
  -- the lists take all numbers that there are
  pub there : AllThere 64 (slice_index lists 0) (bytes_of (drop 2 lists))
  pub exact : length lists ≡ 2 + lists_long (slice_index lists 0) (bytes_of (drop 2 lists))
  -- at most as many nodes as a store may have, and nothing behind them
  pub few : count nodes ≤ 131072
  pub whole : length nodes ≡ 1 + 5 * count nodes
  -- each number fits four bytes
  pub small_lists : AllBelow (2 ^ 32) lists
  pub small_nodes : AllBelow (2 ^ 32) nodes

abbrev pub book_bytes : (lists nodes : List ℕ) → List ℕ
book_bytes lists nodes = bytes_of (count nodes ∷ (lists ++ drop 1 nodes))
