-- Entries: new nodes, and a node that is learned; and learning them into a book.
--
--   new_count bs             how many new nodes the entry at the front of the bytes bs says that it has
--   behind_nodes bs          the bytes behind its nodes
--   EntryRead bs new node cs     its new nodes and the node that is learned were read, and cs are the bytes left
--   EntryCut bs e            what is told where it is cut short: 2 and the count in the nodes, 3 and 8 behind them; or want of memory
--   with_new nodes new       the store of a book with the nodes of an entry behind those that stood, and room for one node more
--   room_for nodes new       number 6, where that would be more nodes than a store may have
--   entry_told lists nodes new node      what is told of an entry, without 10 and want of memory
--   EntryTold lists nodes new node r     the result r tells that, or 10 where no filling would fit, or want of memory
--   EntryLearned lists nodes new node lists₁ nodes₁ i     the lists and the store of a book once an entry is learned, where node i then is what is known
use Rattle.std.specs.Prelude.{◌≡◌, ℕ, ◌+◌, ◌-◌, ◌*◌, ◌<◌, ◌≤◌, ◌⊎◌, List, ◌∷◌, ◌++◌, length, drop, replicate, Some, None, Result, MatchResult, nat_lt, slice_index}
use Rattle.condition.specs.Refusals.{Told, told, first, unless}
use Rattle.condition.specs.Store.{count}
use Rattle.condition.specs.declared.Refusal.{Refusal}
use Rattle.condition.specs.declared.Refusal.TheVariants.{BadStore, NoSuchNode, WouldNotFit, NoMemory}
use Rattle.list.specs.Layout.{known_in}
use Rattle.learn.specs.Learning.{learned, NoneFits, learn_told, Unchanged, Narrowed, Learned}
use Rattle.file_bytes.specs.Numbers.{number_at, numbers_in}

abbrev pub new_count : List ℕ → ℕ
new_count bs = slice_index bs 0

abbrev pub behind_nodes : List ℕ → List ℕ
behind_nodes bs = drop (4 * (5 * new_count bs)) (drop 1 bs)

pub record EntryRead (bs new : List ℕ) (node : ℕ) (cs : List ℕ) : Type 0 where
  pub added : new ≡ new_count bs ∷ numbers_in (5 * new_count bs) (drop 1 bs)
  pub learned : node ≡ number_at (behind_nodes bs)
  pub left : cs ≡ drop 4 (behind_nodes bs)
  pub whole : 5 + 20 * new_count bs ≤ length bs

abbrev pub EntryCut : List ℕ → Refusal → Type 0
EntryCut bs e =
    (e ≡ NoMemory) ⊎ (((e ≡ BadStore (new_count bs)) × (length bs < 1 + 20 * new_count bs))
    ⊎ ((e ≡ NoSuchNode 8) × (1 + 20 * new_count bs ≤ length bs) × (length bs < 5 + 20 * new_count bs)))

abbrev pub with_new : (nodes new : List ℕ) → List ℕ
with_new nodes new = (count nodes + count new) ∷ (drop 1 nodes ++ (drop 1 new ++ replicate 5 0))

abbrev pub room_for : (nodes new : List ℕ) → Told
room_for nodes new = unless (nat_lt (count new) (131072 - count nodes)) 6 (131072 - count nodes)

abbrev pub entry_told : (lists nodes new : List ℕ) → ℕ → Told
entry_told lists nodes new node = first (room_for nodes new) (learn_told lists (with_new nodes new) node)

-- want of memory may be told in the place of any other but 6
abbrev pub EntryTold : {T : Type 0} → (lists nodes new : List ℕ) → ℕ → Result T Refusal → Type 0
EntryTold lists nodes new node r =
    let t = entry_told lists nodes new node in
    MatchResult r (λ _. t ≡ None)
    (λ e. ((e ≡ NoMemory) × (room_for nodes new ≡ None)) ⊎ ((Some (told e) ≡ t) ⊎ ((t ≡ None) × (e ≡ WouldNotFit node) × NoneFits (learned lists (with_new nodes new) node))))

pub record EntryLearned (lists nodes new : List ℕ) (node : ℕ) (lists₁ nodes₁ : List ℕ) (i : ℕ) : Type 0 where
  -- what `learn` says of the store with the new nodes
  pub learned : Learned lists (with_new nodes new) node lists₁ nodes₁
  pub known : i ≡ slice_index lists₁ 1
  pub place : i ≡ count nodes + count new
  -- the lists, answers, and all conditions that stood, mean what they meant; and more is known
  pub unchanged : Unchanged lists nodes lists₁ nodes₁
  pub narrowed : Narrowed (known_in nodes lists) (known_in nodes₁ lists₁)
