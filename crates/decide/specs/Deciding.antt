-- Deciding a row: one condition for it, the lines that decide it, and the numbers that it can have. The statements are proved:
-- each is the contract of a function of this crate.
--
--   gives cs r          the condition that a line with these cells gives the row r
--   shows ls r          the condition that the list ls has the row r
--   deciding ls r       the lines whose known cells agree with r: those that decide it
--   cells_in_lines ls   the cells of the lines
--   conds_in_lines ls   the cells that the lines' conditions compare
--   SureBelow b ..     sure over the fillings whose numbers are all below b; PossibleBelow b .. likewise
use Rattle.std.specs.Prelude.{◌≡◌, ℕ, ◌+◌, ◌^◌, ◌<◌, ◌≤◌, Bool, true, false, cond as if, ◌&&◌, ◌↔◌, List, [], ◌∷◌, ◌++◌, length, ◌==◌}
use Rattle.condition.specs.Cond.{Cell, known, gap, Cond, always, never, equal, not_so, both, either, cells_of, numbers, gaps, numbers_in, has, Within}
use Rattle.evaluate.specs.Filling.{Filling, holds, Below}
use Rattle.list.specs.Lists.{Line, Row, all_filled, stands}
use Rattle.query.specs.Ask.{Query, ask}
use Rattle.answer.specs.Promise.{Answers, Sure, Possible}

unfoldable pub gives : List Cell → Row → Cond
gives [] [] = always
gives [] (n ∷ ns) = never
gives (c ∷ cs) [] = never
gives (c ∷ cs) (n ∷ ns) = both (equal c (known n)) (gives cs ns)

unfoldable pub shows : List Line → Row → Cond
shows [] r = never
shows (l ∷ ls) r = either (both l.if_so (gives l.cells r)) (shows ls r)

abbrev pub agrees_cell : Cell → ℕ → Bool
agrees_cell (known m) n = m == n
agrees_cell (gap k) n = true

unfoldable pub agrees : List Cell → Row → Bool
agrees [] [] = true
agrees [] (n ∷ ns) = false
agrees (c ∷ cs) [] = false
agrees (known m ∷ cs) (n ∷ ns) = m == n && agrees cs ns
agrees (gap k ∷ cs) (n ∷ ns) = agrees cs ns

unfoldable pub deciding : List Line → Row → List Line
deciding [] r = []
deciding (l ∷ ls) r = if (agrees l.cells r) (l ∷ deciding ls r) (deciding ls r)

unfoldable pub cells_in_lines : List Line → List Cell
cells_in_lines [] = []
cells_in_lines (l ∷ ls) = l.cells ++ cells_in_lines ls

unfoldable pub conds_in_lines : List Line → List Cell
conds_in_lines [] = []
conds_in_lines (l ∷ ls) = cells_of l.if_so ++ conds_in_lines ls

-- a row is sure, and possible, exactly if so it is by the answer's one condition for it
abbrev pub ByCondition : Type 0
ByCondition =
    (what : Cond) (ts : List (List Line)) (q : Query) (out : List Line) (r : Row) → Answers what ts q out →
    (Sure what ts q r ↔ ((v : Filling) → holds v (both what (not_so (shows out r))) ≡ false))
    × (Possible what ts q r ↔ ((v : Filling) × (holds v (both what (shows out r)) ≡ true)))

-- the deciding lines are enough for that condition
abbrev pub DecidingEnough : Type 0
DecidingEnough = (v : Filling) (out : List Line) (r : Row) → holds v (shows (deciding out r) r) ≡ holds v (shows out r)

-- a sure row has only numbers that stand in what is known or in the answer's cells, if any filling fits
abbrev pub SureByName : Type 0
SureByName =
    (what : Cond) (ts : List (List Line)) (q : Query) (out : List Line) (r : Row) (n : ℕ) → Answers what ts q out →
    ((v : Filling) × (holds v what ≡ true)) → Sure what ts q r → has r n ≡ true → has (numbers what ++ numbers_in (cells_in_lines out)) n ≡ true

abbrev pub SureBelow : ℕ → Cond → List (List Line) → Query → Row → Type 0
SureBelow b what ts q r = (v : Filling) → Below b v → holds v what ≡ true → stands r (ask q (all_filled v ts)) ≡ true

abbrev pub PossibleBelow : ℕ → Cond → List (List Line) → Query → Row → Type 0
PossibleBelow b what ts q r = (v : Filling) × Below b v × (holds v what ≡ true) × (stands r (ask q (all_filled v ts)) ≡ true)

-- over the numbers below 2^64 the same rows are sure, and the same possible, as over all numbers, where those that are named leave
-- room for the gaps
abbrev pub DecidedWithin64Bits : Type 0
DecidedWithin64Bits =
    (what : Cond) (ts : List (List Line)) (q : Query) (out : List Line) (r : Row) (ns gs : List ℕ) → Answers what ts q out →
    Within (numbers (both what (shows out r))) ns → Within (gaps (both what (shows out r))) gs → ((n : ℕ) → has ns n ≡ true → n < 2 ^ 64) →
    length ns + length gs ≤ 2 ^ 64 →
    (Sure what ts q r ↔ SureBelow (2 ^ 64) what ts q r) × (Possible what ts q r ↔ PossibleBelow (2 ^ 64) what ts q r)
