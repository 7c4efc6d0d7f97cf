-- What follows from the meaning of sure, possible and answer by itself.
use Rattle.std.proofs.Common.{◌≡◌, true, sym, ◌∙◌}
use Rattle.std.proofs.lemmas.Bool.{both_ways, and_parts}
use Rattle.condition.specs.Cond.{Cond, both}
use Rattle.evaluate.specs.Filling.{Filling, holds}
use Rattle.evaluate.proofs.Holding.{holds_both}
use Rattle.answer.specs.Promise.{AskedFirst, SameAnswer, MoreKnown, NothingLeft, SureInOne}

-- what fits more fits less
pub fits_less : (v : Filling) (what more : Cond) → holds v (both what more) ≡ true → holds v what ≡ true
fits_less v what more h = (and_parts (holds v what) (holds v more) (sym (holds_both v what more) ∙ h)).0

pub same_answer : SameAnswer
same_answer what ts q out put a b v h r = a v h r ∙ sym (b v h r)

pub asked_first : AskedFirst
asked_first what more ts q out again a b v h r = a v (fits_less v what more h) r ∙ sym (b v h r)

pub more_known : MoreKnown
more_known what more ts q r = (λ s v h. s v (fits_less v what more h), λ p. (p.0, fits_less p.0 what more p.1, p.2))

pub nothing_left : NothingLeft
nothing_left what ts q r = (
  λ none. (λ v h. absurd (both_ways (holds v what) (none v) h), λ p. both_ways (holds p.0 what) (none p.0) p.1),
  λ some s. (some.0, some.1, s some.0 some.1),
)

pub sure_in_one : SureInOne
sure_in_one what ts q out v r a h s = a v h r ∙ s v h
