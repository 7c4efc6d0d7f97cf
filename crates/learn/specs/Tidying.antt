-- Tidying: the same conditions with no constants below other nodes and no comparisons that are settled.
--
--   PlainPair a b           a gap before a number, or the smaller of two gaps before the other
--   Plain c                 the condition c has no constant, and its comparisons are of plain pairs
--   TidyCond c              it is always, or never, or plain
--   Tidier c d              d is a tidy condition that holds where c does, and names no other numbers and gaps
--   reached_count nodes p   how many nodes those that pass the test p reach, themselves counted
--   one i j                 whether j is the node i
--   MemoryTold t r          the result r tells what t tells; where that is nothing it may tell want of memory
--   tidy_told nodes node    what is told of a node that is to be tidied: the first number of the list that applies
--   Tidied nodes node nodes₁ r          the store once the node is tidied, and the place of the tidy one
--   lines_name n w xs j     whether one of the n lines at the front of xs, w cells wide, names the node j
--   short_told n w xs       number 7: a slice too short for n lines, w cells wide
--   lines_told nodes answer n w         what is told of the lines of an answer over a store
--   Lined nodes answer n w              what they have where that is nothing
--   tidy_answer_told nodes answer n w   what is told of an answer that is to be tidied
--   TidiedLine l m          the line m has the cells of l, and a tidier condition
--   TidiedLines ls ms       the lines ms are those of ls, each tidied
--   TidiedAnswer nodes answer n w m nodes₁ answer₁   the store and an answer once the answer is tidied, with the m lines that are left
use Rattle.std.specs.Prelude.{◌≡◌, ℕ, zero, suc, ◌+◌, ◌*◌, ◌<◌, ◌≤◌, Bool, true, false, ◌||◌, ◌⊎◌, List, [], ◌∷◌, length, drop, Some, None, Result, MatchResult, ◌==◌, nat_le, nat_lt, slice_index}
use Rattle.condition.specs.Cond.{Cell, known, gap, Cond, always, never, equal, not_so, both, either, cells_of, numbers, gaps}
use Rattle.condition.specs.Refusals.{Told, told, first, unless}
use Rattle.condition.specs.Store.{count, cond_at, store_fits, store_told, room_told, Grown}
use Rattle.condition.specs.declared.Refusal.{Refusal}
use Rattle.condition.specs.declared.Refusal.TheVariants.{NoMemory}
use Rattle.evaluate.specs.Filling.{Filling, holds}
use Rattle.list.specs.Lists.{Line}
use Rattle.list.specs.Layout.{line_size, lines_in, lines_fit, lines_named}
use Rattle.query.specs.Ask.{Query}
use Rattle.answer.specs.Promise.{Answers}
use Rattle.decide.specs.Counting.{counted}
use Rattle.decide.specs.Reaching.{reached, Covers}
use Rattle.decide.specs.Standing.{whole_lines}
use Rattle.learn.specs.Dropping.{without_never}

abbrev pub PlainPair : Cell → Cell → Type 0
PlainPair (known m) b = ⊥
PlainPair (gap j) (known n) = Unit {0}
PlainPair (gap j) (gap k) = j < k

unfoldable pub Plain : Cond → Type 0
Plain always = ⊥
Plain never = ⊥
Plain (equal a b) = PlainPair a b
Plain (not_so c) = Plain c
Plain (both c d) = Plain c × Plain d
Plain (either c d) = Plain c × Plain d

abbrev pub TidyCond : Cond → Type 0
TidyCond c = (c ≡ always) ⊎ ((c ≡ never) ⊎ Plain c)

pub record Tidier (c d : Cond) : Type 0 where
  pub same : (v : Filling) → holds v d ≡ holds v c
  pub tidy : TidyCond d
  -- it names no numbers and gaps but those of c
  pub covered : Covers (numbers c) (gaps c) (cells_of d)

abbrev pub reached_count : List ℕ → (ℕ → Bool) → ℕ
reached_count nodes p = counted (count nodes) (reached nodes (count nodes) p)

abbrev pub one : ℕ → ℕ → Bool
one i j = i == j

abbrev pub MemoryTold : {T : Type 0} → Told → Result T Refusal → Type 0
MemoryTold t r = MatchResult r (λ _. t ≡ None) (λ e. Some (told e) ≡ first t (Some (told NoMemory)))

-- number 2; 3 with place 8; and 6 where fewer nodes fit than are reached
abbrev pub tidy_told : List ℕ → ℕ → Told
tidy_told nodes node =
    first (store_told nodes)
    (first (unless (nat_lt node (count nodes)) 3 8)
    (room_told nodes (reached_count nodes (one node))))

pub record Tidied (nodes : List ℕ) (node : ℕ) (nodes₁ : List ℕ) (r : ℕ) : Type 0 where
  -- its condition is a tidier one
  pub stands : r < count nodes₁
  pub tidier : Tidier (cond_at nodes node) (cond_at nodes₁ r)
  -- nodes were added behind those that stood, no more than are reached
  pub grown : Grown nodes nodes₁
  pub few : count nodes₁ ≤ count nodes + reached_count nodes (one node)
  pub store : store_fits nodes₁ ≡ true
  -- every condition that stood is as it was
  pub conditions : (j : ℕ) → j < count nodes → cond_at nodes₁ j ≡ cond_at nodes j

unfoldable pub lines_name : ℕ → ℕ → List ℕ → ℕ → Bool
lines_name zero w xs j = false
lines_name (suc n) w xs j = slice_index xs 0 == j || lines_name n w (drop (line_size w) xs) j

abbrev pub short_told : ℕ → ℕ → List ℕ → Told
short_told n w xs = unless (nat_le (n * line_size w) (length xs)) 7 (length xs)

-- number 2; 3 with place 9 for the lines that lie whole in the slice; and 7
abbrev pub lines_told : (nodes answer : List ℕ) → ℕ → ℕ → Told
lines_told nodes answer n w =
    first (store_told nodes)
    (first (unless (lines_named (count nodes) (whole_lines n w answer) w answer) 3 9)
    (short_told n w answer))

-- what lines and a store have of which nothing is told
pub record Lined (nodes answer : List ℕ) (n w : ℕ) : Type 0 where
  pub small : count nodes ≤ 131072
  pub store : 1 + 5 * count nodes ≤ length nodes
  pub whole : n * line_size w ≤ length answer
  pub named : lines_named (count nodes) n w answer ≡ true

-- and 6 where fewer nodes fit than are reached
abbrev pub tidy_answer_told : (nodes answer : List ℕ) → ℕ → ℕ → Told
tidy_answer_told nodes answer n w = first (lines_told nodes answer n w) (room_told nodes (reached_count nodes (lines_name n w answer)))

pub record TidiedLine (l m : Line) : Type 0 where
  pub cells : m.cells ≡ l.cells
  pub tidier : Tidier l.if_so m.if_so

unfoldable pub TidiedLines : (ls ms : List Line) → Type 0
TidiedLines [] [] = Unit {0}
TidiedLines [] (m ∷ ms) = ⊥
TidiedLines (l ∷ ls) [] = ⊥
TidiedLines (l ∷ ls) (m ∷ ms) = TidiedLine l m × TidiedLines ls ms

pub record TidiedAnswer (nodes answer : List ℕ) (n w m : ℕ) (nodes₁ answer₁ : List ℕ) : Type 0 where
  -- each line has its cells and a tidier condition, and then those under never are left out
  pub lines : (ls : List Line) × TidiedLines (lines_in nodes n w answer) ls × (lines_in nodes₁ m w answer₁ ≡ without_never ls)
  pub left : m ≤ n
  -- they name nodes that stand, and cells that were cells still are
  pub named : lines_named (count nodes₁) m w answer₁ ≡ true
  pub fit : lines_fit n w answer ≡ true → lines_fit m w answer₁ ≡ true
  -- what lay behind the lines is as it was
  pub long : length answer₁ ≡ length answer
  pub past : (k : ℕ) → n * line_size w ≤ k → slice_index answer₁ k ≡ slice_index answer k
  -- what it answered it answers
  pub answers : (what : Cond) (ts : List (List Line)) (q : Query) → Answers what ts q (lines_in nodes n w answer) → Answers what ts q (lines_in nodes₁ m w answer₁)
  -- nodes were added behind those that stood, no more than are reached
  pub grown : Grown nodes nodes₁
  pub few : count nodes₁ ≤ count nodes + reached_count nodes (lines_name n w answer)
  pub store : store_fits nodes₁ ≡ true
  -- every condition that stood is as it was
  pub conditions : (j : ℕ) → j < count nodes → cond_at nodes₁ j ≡ cond_at nodes j
