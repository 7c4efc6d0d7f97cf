-- Conditions tidied in a cone, and copied from there behind the nodes of a store.
--
--   ReachedFrom nodes roots ms      what the marked nodes roots reach is marked in ms, and nothing else
--   Simplified nodes n ms cone ps   each marked one of the first n nodes holds where the cone's node at its place ps does
--   sorted n                        the node n, the smaller place first where it joins two conditions
--   Turned c d                      d is the condition c with joined conditions turned: a constant where c is, plain where c is, of the
--                                   same numbers and gaps, and it holds where c does
--   Copies cone n ms xs ys ps       ys is the store xs with the marked of the first n nodes of the cone added, at the places ps
--   Renamed f n w xs ys             ys has f applied to the nodes of the n lines at the front of xs, w cells wide
--   TidiedAll nodes p nodes₁ ps cs   each node that passes the test p is tidied, at the place that cs gives for its place ps
use Rattle.std.specs.Prelude.{◌≡◌, ℕ, ◌+◌, ◌*◌, ◌<◌, ◌≤◌, min, max, Bool, true, ◌⊎◌, List, length, slice_index}
use Rattle.condition.specs.Cond.{Cond, always, never, cells_of}
use Rattle.condition.specs.Store.{count, cond_at, store_fits, Grown}
use Rattle.condition.specs.declared.Node.{Node}
use Rattle.condition.specs.declared.Node.TheVariants.{Always, Never, Equal, Not, Both, Either}
use Rattle.evaluate.specs.Filling.{Filling, holds}
use Rattle.list.specs.Layout.{line_size}
use Rattle.decide.specs.Counting.{counted}
use Rattle.decide.specs.Folding.{Begun, Tidy, PlaceOf}
use Rattle.decide.specs.Reaching.{marked, reached, Closed, Covers}
use Rattle.learn.specs.Tidying.{Plain, Tidier, reached_count}

pub record ReachedFrom (nodes : List ℕ) (roots ms : List Bool) : Type 0 where
  pub exact : (j : ℕ) → marked ms j ≡ reached nodes (count nodes) (marked roots) j
  pub closed : Closed nodes (count nodes) ms
  pub kept : (j : ℕ) → marked roots j ≡ true → marked ms j ≡ true

pub record Simplified (nodes : List ℕ) (n : ℕ) (ms : List Bool) (cone ps : List ℕ) : Type 0 where
  pub begun : Begun cone
  pub tidy : Tidy cone
  pub few : count cone ≤ 2 + counted n (marked ms)
  pub stand : (i : ℕ) → i < n → marked ms i ≡ true → slice_index ps i < count cone
  pub value : (i : ℕ) → i < n → marked ms i ≡ true → (v : Filling) → holds v (cond_at cone (slice_index ps i)) ≡ holds v (cond_at nodes i)
  -- behind always and never each node is the place of a marked one
  pub onto : (j : ℕ) → 2 ≤ j → j < count cone → PlaceOf n ms ps j
  pub inside : (i : ℕ) → i < n → marked ms i ≡ true → (ns gs : List ℕ) → Covers ns gs (cells_of (cond_at nodes i)) → Covers ns gs (cells_of (cond_at cone (slice_index ps i)))

abbrev pub sorted : Node → Node
sorted Always = Always
sorted Never = Never
sorted (Equal a b) = Equal a b
sorted (Not a) = Not a
sorted (Both a b) = Both (min a b) (max a b)
sorted (Either a b) = Either (min a b) (max a b)

pub record Turned (c d : Cond) : Type 0 where
  pub same : (v : Filling) → holds v d ≡ holds v c
  pub constant : (c ≡ always) ⊎ (c ≡ never) → d ≡ c
  pub plain : Plain c → Plain d
  pub covered : (ns gs : List ℕ) → Covers ns gs (cells_of c) → Covers ns gs (cells_of d)

pub record Copies (cone : List ℕ) (n : ℕ) (ms : List Bool) (xs ys ps : List ℕ) : Type 0 where
  pub grown : Grown xs ys
  pub few : count ys ≤ count xs + counted n (marked ms)
  pub stand : (i : ℕ) → i < n → marked ms i ≡ true → slice_index ps i < count ys
  pub turned : (i : ℕ) → i < n → marked ms i ≡ true → Turned (cond_at cone i) (cond_at ys (slice_index ps i))

pub record TidiedAll (nodes : List ℕ) (p : ℕ → Bool) (nodes₁ ps cs : List ℕ) : Type 0 where
  pub grown : Grown nodes nodes₁
  pub few : count nodes₁ ≤ count nodes + reached_count nodes p
  pub store : store_fits nodes₁ ≡ true
  pub long : length ps ≡ count nodes
  pub place : (i : ℕ) → i < count nodes → p i ≡ true → slice_index ps i < length cs
  pub stand : (i : ℕ) → i < count nodes → p i ≡ true → slice_index cs (slice_index ps i) < count nodes₁
  pub tidier : (i : ℕ) → i < count nodes → p i ≡ true → Tidier (cond_at nodes i) (cond_at nodes₁ (slice_index cs (slice_index ps i)))

pub record Renamed (f : ℕ → ℕ) (n w : ℕ) (xs ys : List ℕ) : Type 0 where
  pub long : length ys ≡ length xs
  pub head : (i : ℕ) → i < n → slice_index ys (i * line_size w) ≡ f (slice_index xs (i * line_size w))
  pub body : (i t : ℕ) → i < n → t < 2 * w → slice_index ys (i * line_size w + 1 + t) ≡ slice_index xs (i * line_size w + 1 + t)
  pub past : (k : ℕ) → n * line_size w ≤ k → slice_index ys k ≡ slice_index xs k
