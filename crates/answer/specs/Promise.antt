-- What an answer with gaps promises. The statements are proved: each is the contract of a function of this crate.
--
--   Answers what ts q out      out answers the question q on the lists ts, where what is known
--   Sure what ts q r           the row r is in the answer under every filling that fits what is known
--   Possible what ts q r       under one
use Rattle.std.specs.Prelude.{◌≡◌, true, false, List}
use Rattle.condition.specs.Cond.{Cond, both}
use Rattle.evaluate.specs.Filling.{Filling, holds}
use Rattle.list.specs.Lists.{Line, Row, filled, all_filled, stands, Alike}
use Rattle.query.specs.Ask.{Query, ask}
use Rattle.answer.specs.Answer.{answer}

-- filled in any way that fits, the answer has exactly the rows that the question gives on the lists so filled
abbrev pub Answers : Cond → List (List Line) → Query → List Line → Type 0
Answers what ts q out = (v : Filling) → holds v what ≡ true → Alike (filled v out) (ask q (all_filled v ts))

abbrev pub Sure : Cond → List (List Line) → Query → Row → Type 0
Sure what ts q r = (v : Filling) → holds v what ≡ true → stands r (ask q (all_filled v ts)) ≡ true

abbrev pub Possible : Cond → List (List Line) → Query → Row → Type 0
Possible what ts q r = (v : Filling) × (holds v what ≡ true) × (stands r (ask q (all_filled v ts)) ≡ true)

-- The main promise: whatever is known, whatever the lists and the question, the answer put together from the lists' own lines
-- answers it.
abbrev pub AnswerRight : Type 0
AnswerRight = (what : Cond) (ts : List (List Line)) (q : Query) → Answers what ts q (answer q ts)

-- even row for row, in order and number, and under every filling
abbrev pub AnswerExact : Type 0
AnswerExact = (v : Filling) (ts : List (List Line)) (q : Query) → filled v (answer q ts) ≡ ask q (all_filled v ts)

-- to ask first and learn later comes to the same as to learn first and ask then
abbrev pub AskedFirst : Type 0
AskedFirst =
    (what more : Cond) (ts : List (List Line)) (q : Query) (out again : List Line) → Answers what ts q out → Answers (both what more) ts q again →
    (v : Filling) → holds v (both what more) ≡ true → Alike (filled v out) (filled v again)

-- two answers to one question have the same rows under every filling that fits
abbrev pub SameAnswer : Type 0
SameAnswer =
    (what : Cond) (ts : List (List Line)) (q : Query) (out put : List Line) → Answers what ts q out → Answers what ts q put →
    (v : Filling) → holds v what ≡ true → Alike (filled v out) (filled v put)

-- the more is known, the more rows are sure and the fewer possible
abbrev pub MoreKnown : Type 0
MoreKnown =
    (what more : Cond) (ts : List (List Line)) (q : Query) (r : Row) →
    (Sure what ts q r → Sure (both what more) ts q r) × (Possible (both what more) ts q r → Possible what ts q r)

-- where no filling fits all is sure and nothing possible; elsewhere what is sure is possible
abbrev pub NothingLeft : Type 0
NothingLeft =
    (what : Cond) (ts : List (List Line)) (q : Query) (r : Row) →
    (((v : Filling) → holds v what ≡ false) → Sure what ts q r × (Possible what ts q r → ⊥))
    × (((v : Filling) × (holds v what ≡ true)) → Sure what ts q r → Possible what ts q r)

-- every sure row is among the rows of the answer under any one filling that fits
abbrev pub SureInOne : Type 0
SureInOne =
    (what : Cond) (ts : List (List Line)) (q : Query) (out : List Line) (v : Filling) (r : Row) → Answers what ts q out → holds v what ≡ true →
    Sure what ts q r → stands r (filled v out) ≡ true
