-- A worked example: baptisms and marriages with three gaps, seven questions, and which rows are sure and which possible for each.
-- The table and the false answers are proved: each is the contract of a function of this crate.
--
--   baptisms     child and father:   1 10  /  2 g0  /  3 g1
--   marriages    man and woman:      10 20  /  11 g2
--   fathers      what is known: g0 is 10 or 11, and g0 and g1 are not the same man
use Rattle.std.specs.Prelude.{◌≡◌, ℕ, ◌⊎◌, ◌↔◌, List, [], ◌∷◌, ◌≢◌}
use Rattle.condition.specs.Cond.{Cell, known, gap, Cond, always, never, equal, not_so, both, either}
use Rattle.list.specs.Lists.{Line, Row}
use Rattle.query.specs.Ask.{same, is, Query, table, keep, columns, join, without}
use Rattle.answer.specs.Answer.{answer}
use Rattle.answer.specs.Promise.{Answers, Sure, Possible}

-- a line that is there whatever the gaps are
abbrev pub plain : Cell → Cell → Line
plain a b = record { cells = a ∷ (b ∷ []); if_so = always }

abbrev pub baptisms : List Line
baptisms = plain (known 1) (known 10) ∷ (plain (known 2) (gap 0) ∷ (plain (known 3) (gap 1) ∷ []))

abbrev pub marriages : List Line
marriages = plain (known 10) (known 20) ∷ (plain (known 11) (gap 2) ∷ [])

abbrev pub books : List (List Line)
books = baptisms ∷ (marriages ∷ [])

abbrev pub fathers : Cond
fathers = both (either (equal (gap 0) (known 10)) (equal (gap 0) (known 11))) (not_so (equal (gap 0) (gap 1)))

-- child and woman, where the father is the man
abbrev pub mothers : Query
mothers = columns (0 ∷ (3 ∷ [])) (keep (same 1 2) (join (table 0) (table 1)))

-- fathers that are no man of the marriages
abbrev pub unmarried : Query
unmarried = without (columns (1 ∷ []) (table 0)) (columns (0 ∷ []) (table 1))

abbrev pub children_of : ℕ → Query
children_of n = columns (0 ∷ []) (keep (is 1 n) (table 0))

-- men of the marriages that are no father of the baptisms
abbrev pub childless : Query
childless = without (columns (0 ∷ []) (table 1)) (columns (1 ∷ []) (table 0))

abbrev pub one : ℕ → Row
one a = a ∷ []

abbrev pub two : ℕ → ℕ → Row
two a b = a ∷ (b ∷ [])

-- exactly these rows are sure, and exactly these possible
abbrev pub Decided : Cond → Query → (Row → Type 0) → (Row → Type 0) → Type 0
Decided what q sure possible = (r : Row) → (Sure what books q r ↔ sure r) × (Possible what books q r ↔ possible r)

pub record Table : Type 0 where
  -- sure 1 20; possible besides 2 or 3 with any number
  pub mothers_now : Decided fathers mothers (λ r. r ≡ two 1 20) (λ r. (r ≡ two 1 20) ⊎ ((n : ℕ) × ((r ≡ two 2 n) ⊎ (r ≡ two 3 n))))
  -- once g2 is known to be 20: sure 1 20 and 2 20; possible besides 3 20
  pub mothers_then :
      Decided (both fathers (equal (gap 2) (known 20))) mothers (λ r. (r ≡ two 1 20) ⊎ (r ≡ two 2 20))
      (λ r. (r ≡ two 1 20) ⊎ ((r ≡ two 2 20) ⊎ (r ≡ two 3 20)))
  -- sure none; possible any number but 10 and 11
  pub unmarried_now : Decided fathers unmarried (λ r. ⊥) (λ r. (n : ℕ) × (r ≡ one n) × (n ≢ 10) × (n ≢ 11))
  -- once g1 is known to be 11: none
  pub unmarried_then : Decided (both fathers (equal (gap 1) (known 11))) unmarried (λ r. ⊥) (λ r. ⊥)
  -- sure 1; possible besides 2 and 3
  pub children : Decided fathers (children_of 10) (λ r. r ≡ one 1) (λ r. (r ≡ one 1) ⊎ ((r ≡ one 2) ⊎ (r ≡ one 3)))
  -- children of 10 without children of 11: the same
  pub children_less : Decided fathers (without (children_of 10) (children_of 11)) (λ r. r ≡ one 1) (λ r. (r ≡ one 1) ⊎ ((r ≡ one 2) ⊎ (r ≡ one 3)))
  -- sure none; possible 11
  pub childless_men : Decided fathers childless (λ r. ⊥) (λ r. r ≡ one 11)

-- the lines of an answer, all under one condition
unfoldable pub all_under : Cond → List Line → List Line
all_under c [] = []
all_under c (l ∷ ls) = record { cells = l.cells; if_so = c } ∷ all_under c ls

-- answers that deceive: no lines, the right lines all under never, the right lines all under always
pub record FalseAnswers : Type 0 where
  pub empty : Answers fathers books mothers [] → ⊥
  pub nothing : Answers fathers books mothers (all_under never (answer mothers books)) → ⊥
  pub everything : Answers fathers books mothers (all_under always (answer mothers books)) → ⊥
