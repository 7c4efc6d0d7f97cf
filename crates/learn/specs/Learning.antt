-- Learning: what is known grows by the condition of a node.
--
--   learned lists nodes new      what is known once node new is learned: what was known, and the condition of that node
--   alone nodes new              the condition of node new as the only line of an answer without columns
--   learn_told lists nodes new   what is told, the first number of the list that applies, without 10 and want of memory
--   SomeFits what, NoneFits what   some filling fits where what is known; none does
--   LearnTold lists nodes new r    the result r tells that, or want of memory where it is not told, or 10 where no filling would fit
--   Learnable lists nodes new      what they have where nothing is told of them
--   Unchanged lists nodes lists₁ nodes₁     the lists and all that stood mean what they meant
--   Narrowed what more             where more is known than what, answers stay answers, sure rows sure, and impossible rows impossible
--   Learned lists nodes new lists₁ nodes₁   the lists and the store once node new is learned
--   Placed lists nodes new lists₁ nodes₁    the node that then is what is known stands behind all that stood
use Rattle.std.specs.Prelude.{◌≡◌, ◌≢◌, ℕ, ◌+◌, ◌*◌, ◌<◌, ◌≤◌, true, false, ◌⊎◌, List, [], ◌∷◌, length, Some, None, Result, MatchResult, nat_lt, slice_index}
use Rattle.condition.specs.Cond.{Cond, both}
use Rattle.condition.specs.Refusals.{Told, told, first, unless}
use Rattle.condition.specs.Store.{count, cond_at, store_fits, room_told, Grown}
use Rattle.condition.specs.Nodes.{five}
use Rattle.condition.specs.declared.Node.TheVariants.{Both}
use Rattle.condition.specs.declared.Refusal.{Refusal}
use Rattle.condition.specs.declared.Refusal.TheVariants.{WouldNotFit, NoMemory}
use Rattle.evaluate.specs.Filling.{Filling, holds}
use Rattle.list.specs.Lists.{Line, Row}
use Rattle.list.specs.Layout.{lines_in, known_in, all_in, lines_named, named_told, check_told}
use Rattle.query.specs.Ask.{Query}
use Rattle.answer.specs.Promise.{Answers, Sure, Possible}
use Rattle.decide.specs.Standing.{nine_told}

abbrev pub learned : (lists nodes : List ℕ) → ℕ → Cond
learned lists nodes new = both (known_in nodes lists) (cond_at nodes new)

abbrev pub alone : List ℕ → ℕ → List Line
alone nodes new = record { cells = []; if_so = cond_at nodes new } ∷ []

abbrev pub SomeFits : Cond → Type 0
SomeFits what = (v : Filling) × (holds v what ≡ true)

abbrev pub NoneFits : Cond → Type 0
NoneFits what = (v : Filling) → holds v what ≡ false

-- numbers 1, 2 and 3, the last with place 8 also where the node that is learned does not stand; 6 where no node more fits; and 9 for
-- what is known and the node's condition
abbrev pub learn_told : (lists nodes : List ℕ) → ℕ → Told
learn_told lists nodes new =
    first (check_told lists nodes)
    (first (unless (nat_lt new (count nodes)) 3 8)
    (first (room_told nodes 1)
    (nine_told (known_in nodes lists) (alone nodes new) [])))

-- what the lists and the store mean, as it was
pub record Unchanged (lists nodes lists₁ nodes₁ : List ℕ) : Type 0 where
  -- every condition that stood
  pub conditions : (j : ℕ) → j < count nodes → cond_at nodes₁ j ≡ cond_at nodes j
  -- the lists
  pub all : all_in nodes₁ lists₁ ≡ all_in nodes lists
  -- the lines of every answer whose nodes stood
  pub lines : (n w : ℕ) (xs : List ℕ) → lines_named (count nodes) n w xs ≡ true → lines_in nodes₁ n w xs ≡ lines_in nodes n w xs

pub record Narrowed (what more : Cond) : Type 0 where
  -- what answered a question answers it
  pub answers : (ts : List (List Line)) (q : Query) (out : List Line) → Answers what ts q out → Answers more ts q out
  -- a row that was sure is sure, and one that is possible was possible
  pub sure : (ts : List (List Line)) (q : Query) (r : Row) → Sure what ts q r → Sure more ts q r
  pub possible : (ts : List (List Line)) (q : Query) (r : Row) → Possible more ts q r → Possible what ts q r

pub record Learned (lists nodes : List ℕ) (new : ℕ) (lists₁ nodes₁ : List ℕ) : Type 0 where
  -- some filling fits
  pub fits : SomeFits (learned lists nodes new)
  pub known : known_in nodes₁ lists₁ ≡ learned lists nodes new
  -- one node more stands, and the store is one
  pub grown : Grown nodes nodes₁
  pub more : count nodes₁ ≡ count nodes + 1
  pub store : store_fits nodes₁ ≡ true
  -- of the lists only the place of what is known has changed
  pub long : length lists₁ ≡ length lists
  pub rest : (k : ℕ) → k ≢ 1 → slice_index lists₁ k ≡ slice_index lists k
  pub unchanged : Unchanged lists nodes lists₁ nodes₁
  pub narrowed : Narrowed (known_in nodes lists) (known_in nodes₁ lists₁)

pub record Placed (lists nodes : List ℕ) (new : ℕ) (lists₁ nodes₁ : List ℕ) : Type 0 where
  pub place : slice_index lists₁ 1 ≡ count nodes
  -- both of the old and the new
  pub numbers : (k : ℕ) → k < 5 → slice_index nodes₁ (1 + 5 * count nodes + k) ≡ slice_index (five (Both (slice_index lists 1) new)) k

-- a call that may also want memory is done where nothing is told and some filling fits, and else tells the first that applies: want
-- of memory behind these numbers, and 10 where no filling would fit any more
abbrev pub LearnTold : {T : Type 0} → (lists nodes : List ℕ) → ℕ → Result T Refusal → Type 0
LearnTold lists nodes new r =
    let t = learn_told lists nodes new in
    MatchResult r (λ _. t ≡ None) (λ e. (Some (told e) ≡ first t (Some (told NoMemory))) ⊎ ((t ≡ None) × (e ≡ WouldNotFit new) × NoneFits (learned lists nodes new)))

-- what lists, a store and a node have that are not refused
pub record Learnable (lists nodes : List ℕ) (new : ℕ) : Type 0 where
  pub long : 2 ≤ length lists
  pub named : named_told lists nodes ≡ None
  pub stands : new < count nodes
  pub few : count nodes + 1 ≤ 131072
  pub room : 6 + 5 * count nodes ≤ length nodes
  pub fits : SomeFits (learned lists nodes new)
