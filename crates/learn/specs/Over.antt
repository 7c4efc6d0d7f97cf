-- Writing over: it is learned that a gap is a number, and the number is written in the place of the gap. The statements are proved:
-- each is the contract of a function of this crate.
--
--   write_cell k n a                       the cell a with the number n for the gap k
--   write_cells, write_cond, write_lists   the same in cells, in a condition, in lists
--   write_ifs k n ls                       in the conditions of lines, their cells as they were
--   write_columns k n ls                   in the cells of lines, their conditions as they were
--   write_lines k n ls                     in both
--   WrittenOver           before asking or after, the rows are the same
--   is_number k n         the condition that gap k is n
--   over what k n         what is known once n is written over k: what was known, with n for k, and that k is n
--   OverHolds             that holds where what was known holds and k is n
--   OverAnswers           what answered a question answers it, written over wholly, in its conditions or not at all
--   OverLearned           a row is sure or possible as where it is only learned that k is n
--   OverNarrowed          so sure rows stay sure, and no row becomes possible
--   number_told lists nodes k n      what is told, the first number of the list that applies, without 10 and want of memory
--   NumberTold lists nodes k n r     the result r tells that, or want of memory where it is not told, or 10 where no filling would fit
--   Numbered lists nodes k n         what they have where nothing is told of them
--   lists_size k xs, all_size lists  how many numbers lists take
--   Overwritten lists nodes k n lists₁ nodes₁   the lists and the store once n is written over k
--   AnswerOver k n m w xs ys         ys is the answer xs of m lines, w cells wide, with n over k in its cells
use Rattle.std.specs.Prelude.{◌≡◌, ℕ, zero, suc, ◌+◌, ◌*◌, ◌<◌, ◌≤◌, true, cond as if, ◌⊎◌, ◌↔◌, List, [], ◌∷◌, length, drop, Some, None, Result, MatchResult, ◌==◌, nat_lt, slice_index}
use Rattle.condition.specs.Cond.{Cell, known, gap, Cond, equal, both, each_cell}
use Rattle.condition.specs.Refusals.{Told, told, first, unless}
use Rattle.condition.specs.Store.{count, cond_at, store_fits, store_told, room_told}
use Rattle.condition.specs.declared.Refusal.{Refusal}
use Rattle.condition.specs.declared.Refusal.TheVariants.{WouldNotFit, NoMemory}
use Rattle.evaluate.specs.Filling.{Filling, holds}
use Rattle.list.specs.Lists.{Line, Row, filled, Alike}
use Rattle.list.specs.Layout.{line_size, list_size, lines_in, known_in, all_in, lines_fit, lines_named, lists_told, named_told, check_told}
use Rattle.query.specs.Ask.{Query}
use Rattle.answer.specs.Answer.{answer}
use Rattle.answer.specs.Promise.{Answers, Sure, Possible}
use Rattle.decide.specs.Standing.{nine_told}
use Rattle.learn.specs.Learning.{SomeFits, NoneFits}

abbrev pub write_cell : ℕ → ℕ → Cell → Cell
write_cell k n (known m) = known m
write_cell k n (gap j) = if (j == k) (known n) (gap j)

unfoldable pub write_cells : ℕ → ℕ → List Cell → List Cell
write_cells k n [] = []
write_cells k n (c ∷ cs) = write_cell k n c ∷ write_cells k n cs

abbrev pub write_cond : ℕ → ℕ → Cond → Cond
write_cond k n c = each_cell (write_cell k n) c

unfoldable pub write_ifs : ℕ → ℕ → List Line → List Line
write_ifs k n [] = []
write_ifs k n (l ∷ ls) = record { cells = l.cells; if_so = write_cond k n l.if_so } ∷ write_ifs k n ls

unfoldable pub write_columns : ℕ → ℕ → List Line → List Line
write_columns k n [] = []
write_columns k n (l ∷ ls) = record { cells = write_cells k n l.cells; if_so = l.if_so } ∷ write_columns k n ls

abbrev pub write_lines : ℕ → ℕ → List Line → List Line
write_lines k n ls = write_columns k n (write_ifs k n ls)

unfoldable pub write_lists : ℕ → ℕ → List (List Line) → List (List Line)
write_lists k n [] = []
write_lists k n (t ∷ ts) = write_lines k n t ∷ write_lists k n ts

-- a gap whose number was learned may be written over in the lists before asking, or in the answer: the rows are the same
abbrev pub WrittenOver : Type 0
WrittenOver =
    (ts : List (List Line)) (q : Query) (k n : ℕ) (v : Filling) → v k ≡ n →
    Alike (filled v (answer q (write_lists k n ts))) (filled v (write_lines k n (answer q ts)))

abbrev pub is_number : ℕ → ℕ → Cond
is_number k n = equal (gap k) (known n)

abbrev pub over : Cond → ℕ → ℕ → Cond
over what k n = both (write_cond k n what) (is_number k n)

abbrev pub OverHolds : Type 0
OverHolds = (what : Cond) (k n : ℕ) (v : Filling) → (holds v (over what k n) ≡ true) ↔ ((holds v what ≡ true) × (v k ≡ n))

abbrev pub OverAnswers : Type 0
OverAnswers =
    (what : Cond) (k n : ℕ) (ts : List (List Line)) (q : Query) (out : List Line) → Answers what ts q out →
    Answers (over what k n) (write_lists k n ts) q (write_lines k n out)
    × Answers (over what k n) (write_lists k n ts) q (write_ifs k n out)
    × Answers (over what k n) ts q out

-- to write a number over its gap in lists and conditions comes to the same as to learn it
abbrev pub OverLearned : Type 0
OverLearned =
    (what : Cond) (k n : ℕ) (ts : List (List Line)) (q : Query) (r : Row) →
    (Sure (over what k n) (write_lists k n ts) q r ↔ Sure (both what (is_number k n)) ts q r)
    × (Possible (over what k n) (write_lists k n ts) q r ↔ Possible (both what (is_number k n)) ts q r)

abbrev pub OverNarrowed : Type 0
OverNarrowed =
    (what : Cond) (k n : ℕ) (ts : List (List Line)) (q : Query) (r : Row) →
    (Sure what ts q r → Sure (over what k n) (write_lists k n ts) q r) × (Possible (over what k n) (write_lists k n ts) q r → Possible what ts q r)

-- numbers 1, 2 and 3, the first with place 9 for a gap above 63 where the lists are lists; 6 where no two nodes more fit; and 9 for
-- what is known and that the gap is the number
abbrev pub number_told : (lists nodes : List ℕ) → ℕ → ℕ → Told
number_told lists nodes k n =
    first (lists_told lists)
    (first (unless (nat_lt k 64) 1 9)
    (first (store_told nodes)
    (first (named_told lists nodes)
    (first (room_told nodes 2)
    (nine_told (both (known_in nodes lists) (is_number k n)) [] [])))))

-- a call that may also want memory is done where nothing is told and some filling fits, and else tells the first that applies: want
-- of memory behind these numbers, and 10 where no filling that fits gives the gap that number
abbrev pub NumberTold : {T : Type 0} → (lists nodes : List ℕ) → ℕ → ℕ → Result T Refusal → Type 0
NumberTold lists nodes k n r =
    let t = number_told lists nodes k n in
    MatchResult r (λ _. t ≡ None) (λ e. (Some (told e) ≡ first t (Some (told NoMemory))) ⊎ ((t ≡ None) × (e ≡ WouldNotFit (count nodes)) × NoneFits (both (known_in nodes lists) (is_number k n))))

-- what lists, a store, a gap and a number have that are not refused
pub record Numbered (lists nodes : List ℕ) (k n : ℕ) : Type 0 where
  pub checked : check_told lists nodes ≡ None
  pub named : k < 64
  pub few : count nodes + 2 ≤ 131072
  pub room : 11 + 5 * count nodes ≤ length nodes
  pub fits : SomeFits (both (known_in nodes lists) (is_number k n))

-- how many numbers the k lists at the front of xs take, and all lists with their count and the node of what is known
unfoldable pub lists_size : ℕ → List ℕ → ℕ
lists_size zero xs = 0
lists_size (suc k) xs = list_size xs + lists_size k (drop (list_size xs) xs)

abbrev pub all_size : List ℕ → ℕ
all_size lists = 2 + lists_size (slice_index lists 0) (drop 2 lists)

pub record Overwritten (lists nodes : List ℕ) (k n : ℕ) (lists₁ nodes₁ : List ℕ) : Type 0 where
  -- some filling that fits gives the gap the number
  pub fits : SomeFits (both (known_in nodes lists) (is_number k n))
  pub known : known_in nodes₁ lists₁ ≡ over (known_in nodes lists) k n
  -- the lists have the number for the gap, and so has every condition that stood
  pub all : all_in nodes₁ lists₁ ≡ write_lists k n (all_in nodes lists)
  pub conditions : (j : ℕ) → j < count nodes → cond_at nodes₁ j ≡ write_cond k n (cond_at nodes j)
  -- so every answer whose nodes stood has it in its conditions
  pub lines : (m w : ℕ) (xs : List ℕ) → lines_named (count nodes) m w xs ≡ true → lines_in nodes₁ m w xs ≡ write_ifs k n (lines_in nodes m w xs)
  -- two nodes more stand, and the store is one
  pub more : count nodes₁ ≡ count nodes + 2
  pub store : store_fits nodes₁ ≡ true
  -- the lists are lists, and name nodes that stand
  pub checked : check_told lists₁ nodes₁ ≡ None
  -- both slices are as long as they were, and hold behind the lists and the nodes what they held
  pub lists_long : length lists₁ ≡ length lists
  pub nodes_long : length nodes₁ ≡ length nodes
  pub lists_past : (j : ℕ) → all_size lists ≤ j → slice_index lists₁ j ≡ slice_index lists j
  pub nodes_past : (j : ℕ) → 1 + 5 * count nodes₁ ≤ j → slice_index nodes₁ j ≡ slice_index nodes j

pub record AnswerOver (k n m w : ℕ) (xs ys : List ℕ) : Type 0 where
  -- over any store, the cells of the lines have the number for the gap
  pub lines : (nodes : List ℕ) → lines_in nodes m w ys ≡ write_columns k n (lines_in nodes m w xs)
  -- the nodes stand where they stood, and cells are cells
  pub named : (c : ℕ) → lines_named c m w ys ≡ lines_named c m w xs
  pub cells : lines_fit m w xs ≡ true → lines_fit m w ys ≡ true
  -- what lies behind the lines is as it was
  pub behind : (j : ℕ) → m * line_size w ≤ j → slice_index ys j ≡ slice_index xs j
