-- What deciding a row tells, and what it says of the row.
--
--   named_cells what ls               the cells that what is known, the lines ls and their conditions name
--   gaps_named, numbers_named         how many gaps and numbers these are, the numbers with those of the row
--   nine_told what ls row             number 9: more than six gaps, or else more than eight numbers
--   whole_lines n w xs                how many of n lines, w cells wide, lie whole in a slice
--   NineTold what ls row r            the result r tells that, or want of memory where it is not told
--   decide_told lists nodes .. row    what is told, the first number of the list that applies
--   DecideTold lists .. row r         the result r tells that, or want of memory where nothing else is told
--   Checked lists nodes .. c          what they have where nothing is told of them
--   standing shows lacks              how a row stands, where some filling that fits shows it, and some lacks it
--   TellsSure what out row b          b says whether the row is sure, for every question that out answers
--   TellsPossible what out row b      b says whether it is possible
--   Decided what out row s            s is how the row stands, for every question that out answers
--   Found what out row t o            o is a filling that fits and shows the row, or for false lacks it; or none where there is none
use Rattle.std.specs.Prelude.{◌≡◌, ℕ, ◌+◌, ◌*◌, ◌/◌, ◌^◌, ◌<◌, ◌≤◌, min, Bool, true, false, not, ◌↔◌, List, ◌++◌, length, Option, Some, None, Result, MatchResult, ◌==◌, nat_le, slice_index_or}
use Rattle.condition.specs.Cond.{Cell, Cond, cells_of, numbers_in, gaps_in, has}
use Rattle.condition.specs.Refusals.{Told, told, first, unless}
use Rattle.condition.specs.declared.Refusal.{Refusal}
use Rattle.condition.specs.declared.Refusal.TheVariants.{NoMemory}
use Rattle.condition.specs.Store.{count, store_told}
use Rattle.evaluate.specs.Filling.{Filling, holds}
use Rattle.evaluate.specs.Shapes.{numbers_of}
use Rattle.evaluate.specs.declared.Filling as filled
use Rattle.list.specs.Lists.{Line, Row, all_filled}
use Rattle.list.specs.Lists as lists
use Rattle.list.specs.Layout.{line_size, lines_in, known_in, lines_fit, lines_named, lists_told, named_told}
use Rattle.query.specs.Ask.{Query, ask}
use Rattle.answer.specs.Promise.{Answers, Sure, Possible}
use Rattle.decide.specs.Counting.{counted}
use Rattle.decide.specs.Deciding.{deciding, cells_in_lines, conds_in_lines, SureBelow, PossibleBelow}
use Rattle.decide.specs.declared.Standing.{Standing}
use Rattle.decide.specs.declared.Standing as stands

abbrev pub named_cells : Cond → List Line → List Cell
named_cells what ls = cells_of what ++ (conds_in_lines ls ++ cells_in_lines ls)

abbrev pub gaps_named : Cond → List Line → ℕ
gaps_named what ls = counted 64 (has (gaps_in (named_cells what ls)))

abbrev pub numbers_named : Cond → List Line → Row → ℕ
numbers_named what ls row = counted (2 ^ 64) (has (numbers_in (named_cells what ls) ++ row))

abbrev pub nine_told : Cond → List Line → Row → Told
nine_told what ls row =
    first (unless (nat_le (gaps_named what ls) 6) 9 (gaps_named what ls))
    (unless (nat_le (numbers_named what ls row) 8) 9 (64 + numbers_named what ls row))

abbrev pub NineTold : {T : Type 0} → Cond → List Line → Row → Result T Refusal → Type 0
NineTold what ls row r = let t = nine_told what ls row in MatchResult r (λ _. t ≡ None) (λ e. Some (told e) ≡ first t (Some (told NoMemory)))

abbrev pub whole_lines : ℕ → ℕ → List ℕ → ℕ
whole_lines n w xs = min n (length xs / line_size w)

-- numbers 1, 2, 3 and 7 for an answer of n lines, w cells wide, beside its lists and its store; 1 and 3 have place 9 where the
-- answer is at fault
abbrev pub answer_told : (lists nodes answer : List ℕ) → ℕ → ℕ → Told
answer_told lists nodes answer n w =
    first (lists_told lists)
    (first (unless (lines_fit (whole_lines n w answer) w answer) 1 9)
    (first (store_told nodes)
    (first (named_told lists nodes)
    (first (unless (lines_named (count nodes) (whole_lines n w answer) w answer) 3 9)
    (unless (nat_le (n * line_size w) (length answer)) 7 (length answer))))))

-- what an answer, its lists and its store have that are not refused, over c nodes
pub record Checked (lists nodes answer : List ℕ) (n w c : ℕ) : Type 0 where
  pub all : c ≡ count nodes
  pub store : 1 + 5 * c ≤ length nodes
  pub small : c ≤ 131072
  pub long : 2 ≤ length lists
  pub known : slice_index_or lists 1 0 < c
  pub whole : n * line_size w ≤ length answer
  pub cells : lines_fit n w answer ≡ true
  pub named : lines_named c n w answer ≡ true

abbrev pub decide_told : (lists nodes answer : List ℕ) → ℕ → ℕ → Row → Told
decide_told lists nodes answer n w row =
    first (answer_told lists nodes answer n w)
    (first (unless (length row == w) 8 (length row))
    (nine_told (known_in nodes lists) (deciding (lines_in nodes n w answer) row) row))

-- a call that may also want memory is done where nothing is told, and else tells the first that applies, want of memory last
abbrev pub DecideTold : {T : Type 0} → (lists nodes answer : List ℕ) → ℕ → ℕ → Row → Result T Refusal → Type 0
DecideTold lists nodes answer n w row r =
    let t = decide_told lists nodes answer n w row in MatchResult r (λ _. t ≡ None) (λ e. Some (told e) ≡ first t (Some (told NoMemory)))

abbrev pub standing : Bool → Bool → Standing
standing true false = stands.Standing.Sure
standing true true = stands.Standing.Possible
standing false true = stands.Standing.Impossible
standing false false = stands.Standing.NothingFits

-- where nothing fits, everything is sure and nothing possible
abbrev pub is_sure : Standing → Bool
is_sure stands.Standing.Sure = true
is_sure stands.Standing.Possible = false
is_sure stands.Standing.Impossible = false
is_sure stands.Standing.NothingFits = true

abbrev pub is_possible : Standing → Bool
is_possible stands.Standing.Sure = true
is_possible stands.Standing.Possible = true
is_possible stands.Standing.Impossible = false
is_possible stands.Standing.NothingFits = false

abbrev pub something_fits : Standing → Bool
something_fits stands.Standing.Sure = true
something_fits stands.Standing.Possible = true
something_fits stands.Standing.Impossible = true
something_fits stands.Standing.NothingFits = false

-- a test says of a row whether it is sure, or possible, for every question that out answers
abbrev pub TellsSure : Cond → List Line → Row → Bool → Type 0
TellsSure what out row b = (ts : List (List Line)) (q : Query) → Answers what ts q out → (b ≡ true) ↔ Sure what ts q row

abbrev pub TellsPossible : Cond → List Line → Row → Bool → Type 0
TellsPossible what out row b = (ts : List (List Line)) (q : Query) → Answers what ts q out → (b ≡ true) ↔ Possible what ts q row

pub record Decided (what : Cond) (out : List Line) (row : Row) (s : Standing) : Type 0 where
  pub sure : TellsSure what out row (is_sure s)
  pub possible : TellsPossible what out row (is_possible s)
  pub fits : (something_fits s ≡ true) ↔ ((v : Filling) × (holds v what ≡ true))
  -- the same over the numbers below 2^64
  pub sure_below : (ts : List (List Line)) (q : Query) → Answers what ts q out → (is_sure s ≡ true) ↔ SureBelow (2 ^ 64) what ts q row
  pub possible_below : (ts : List (List Line)) (q : Query) → Answers what ts q out → (is_possible s ≡ true) ↔ PossibleBelow (2 ^ 64) what ts q row

abbrev pub Found : Cond → List Line → Row → Bool → Option filled.Filling → Type 0
Found what out row t (Some f) =
    (holds (numbers_of f) what ≡ true) × ((ts : List (List Line)) (q : Query) → Answers what ts q out → lists.stands row (ask q (all_filled (numbers_of f) ts)) ≡ t)
Found what out row t None =
    (v : Filling) → holds v what ≡ true → (ts : List (List Line)) (q : Query) → Answers what ts q out → lists.stands row (ask q (all_filled v ts)) ≡ not t
