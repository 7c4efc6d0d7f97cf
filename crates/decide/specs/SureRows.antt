-- The list of sure rows, and what is told of it.
--
--   InOrder rs               the rows rs are each there once, in order cell by cell
--   Candidates out v rs      rs are the rows of the list out under v whose numbers are all below 2^64, in order; so a number that stands
--                            nowhere keeps a row out
--   first_nine what out rs   number 9, for the first of the rows rs for which deciding it tells that
--   AlwaysThere what out r   the row r is one of out under every filling that fits
--   SureRows what out rs     rs are all rows that are always there, in order; so the sure ones for every question that out answers
--   Listable what out cs t   number 9 is told of one of the candidates cs, or the sure rows are there
--   list_told .. n w         what is told before any row is looked at: number 9 for what is known alone behind 1, 2, 3 and 7
--   RowsTold what out w size t   t is told of the list of sure rows, w cells wide, for a slice of such a size: 11, 9 or 12, or nothing
--   SureRowsTold .. r        the result r tells these, or want of memory behind list_told
--   Wrote rs n xs ys         ys is xs with the n rows rs at the front, one after the other
use Rattle.std.specs.Prelude.{◌≡◌, ℕ, ◌*◌, ◌/◌, ◌^◌, ◌<◌, true, false, ◌⊎◌, ◌↔◌, All, List, [], ◌∷◌, ◌++◌, length, drop, Some, None, Result, MatchResult, nat_le}
use Rattle.std.specs.List.{concat}
use Rattle.std.specs.List.Sorted.{IsStrictlySortedBy}
use Rattle.std.specs.Ordering.{nat_cmp}
use Rattle.std.specs.Cmp.Lexicographic.{slice_cmp}
use Rattle.condition.specs.Cond.{Cond}
use Rattle.condition.specs.Refusals.{Told, told, first, unless}
use Rattle.condition.specs.declared.Refusal.{Refusal}
use Rattle.condition.specs.declared.Refusal.TheVariants.{NoMemory}
use Rattle.evaluate.specs.Filling.{Filling, holds}
use Rattle.list.specs.Layout.{known_in, lines_in}
use Rattle.list.specs.Lists.{Line, Row, filled, stands}
use Rattle.query.specs.Ask.{Query}
use Rattle.answer.specs.Promise.{Answers, Sure}
use Rattle.decide.specs.Choice.{Chosen}
use Rattle.decide.specs.Deciding.{deciding}
use Rattle.decide.specs.Standing.{nine_told, answer_told}

abbrev pub InOrder : List Row → Type 0
InOrder rs = IsStrictlySortedBy (slice_cmp nat_cmp) rs

pub record Candidates (out : List Line) (v : Filling) (rs : List Row) : Type 0 where
  pub in_order : InOrder rs
  pub each : (r : Row) → (stands r rs ≡ true) ↔ ((stands r (filled v out) ≡ true) × All (λ n. n < 2 ^ 64) r)

unfoldable pub first_nine : Cond → List Line → List Row → Told
first_nine what out [] = None
first_nine what out (r ∷ rs) = first (nine_told what (deciding out r) r) (first_nine what out rs)

abbrev pub AlwaysThere : Cond → List Line → Row → Type 0
AlwaysThere what out r = (v : Filling) → holds v what ≡ true → stands r (filled v out) ≡ true

pub record SureRows (what : Cond) (out : List Line) (rs : List Row) : Type 0 where
  pub in_order : InOrder rs
  pub each : (r : Row) → (stands r rs ≡ true) ↔ AlwaysThere what out r
  pub sure : (ts : List (List Line)) (q : Query) → Answers what ts q out → (r : Row) → (stands r rs ≡ true) ↔ Sure what ts q r

-- some candidate names too much, and that is told; or else the sure rows are a list
abbrev pub Listable : Cond → List Line → List Row → Told → Type 0
Listable what out cs t = ((n : ℕ × ℕ) × (first_nine what out cs ≡ Some n) × (t ≡ Some n)) ⊎ ((rs : List Row) × SureRows what out rs)

abbrev pub list_told : (lists nodes answer : List ℕ) → ℕ → ℕ → Told
list_told lists nodes answer n w = first (answer_told lists nodes answer n w) (nine_told (known_in nodes lists) [] [])

pub record RowsTold (what : Cond) (out : List Line) (w size : ℕ) (t : Told) : Type 0 where
  -- where no filling fits
  pub none : ((v : Filling) → holds v what ≡ false) → t ≡ Some (11, 0)
  -- where one does: the first candidate that names too much; else the sure rows may be more than fit
  pub some : (v : Filling) → Chosen what v → (cs rs : List Row) → Candidates out v cs → SureRows what out rs →
      t ≡ first (first_nine what out cs) (unless (nat_le (length rs * w) size) 12 (size / w))
  -- and then these are there
  pub there : ((v : Filling) → holds v what ≡ false) ⊎ ((v : Filling) × Chosen what v × ((cs : List Row) × Candidates out v cs × Listable what out cs t))

abbrev pub SureRowsTold : {T : Type 0} → (lists nodes answer : List ℕ) → ℕ → ℕ → ℕ → Result T Refusal → Type 0
SureRowsTold lists nodes answer n w size r =
    let t = list_told lists nodes answer n w in let Told-of = RowsTold (known_in nodes lists) (lines_in nodes n w answer) w size in
    MatchResult r (λ _. (t ≡ None) × Told-of None) (λ e. (t ≡ Some (told e)) ⊎ ((t ≡ None) × ((e ≡ NoMemory) ⊎ Told-of (Some (told e)))))

pub record Wrote (rs : List Row) (n : ℕ) (xs ys : List ℕ) : Type 0 where
  pub many : length rs ≡ n
  pub is : ys ≡ concat rs ++ drop (length (concat rs)) xs
