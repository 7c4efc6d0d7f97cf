-- What is looked for where no row is: what is known alone.
use Rattle.std.proofs.Common.{◌≡◌, [], Some, None, Option, refl, inr}
use Rattle.std.specs.Option.{ok_or}
use Rattle.condition.specs.Cond.{Cond}
use Rattle.condition.specs.declared.Refusal.TheVariants.{NothingFits}
use Rattle.list.specs.Layout.{lines_in}
use Rattle.decide.specs.Deciding.{deciding}
use Rattle.decide.specs.Shapes.{what_of}
use Rattle.decide.specs.Sought.{known_of, deciding_of}
use Rattle.decide.specs.Standing.{nine_told}
use Rattle.decide.specs.SureSteps.{ChosenFor, ChooseTold}
use Rattle.decide.specs.declared.answered.Answered.{Answered}
use Rattle.decide.specs.declared.candidates.Chosen.{Chosen}
use Rattle.decide.specs.declared.sought.Sought.{Sought}

module _ (a : Answered) (q : Sought) (nodes-are : (q.nodes.now ≡ a.nodes.now) × (q.known ≡ a.known)) (lines-are : q.lines ≡ 0) (row-is : q.row.now ≡ []) where
  pub known_alone : known_of q ≡ what_of a
  known_alone = rw (nodes-are.0, nodes-are.1) refl

  none_decide : deciding_of q ≡ []
  unfolding lines_in deciding
  none_decide = rw lines-are refl

  pub nine_alone : nine_told (known_of q) (deciding_of q) q.row.now ≡ nine_told (what_of a) [] []
  nine_alone = rw (known_alone, none_decide, row-is) refl

-- what comes of the choice
pub chose : (what : Cond) → nine_told what [] [] ≡ None → (o : Option Chosen) → ChosenFor what o → ChooseTold what (ok_or o NothingFits)
chose what n (Some f) h = (n, h)
chose what n None h = inr (n, inr (refl, h))
