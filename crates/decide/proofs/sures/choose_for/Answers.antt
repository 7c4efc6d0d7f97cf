use Rattle.std.proofs.Common.{rules, ◌≡◌, [], Some, None, sym, ◌∙◌, inl, inr}
use Rattle.condition.specs.Refusals.{told}
use Rattle.decide.specs.Shapes.{what_of}
use Rattle.decide.specs.Standing.{nine_told}
use Rattle.decide.specs.SureSteps.{ChosenFor}
use Rattle.decide.proofs.Nothing.{known_alone, nine_alone, chose}
use Rattle.decide.proofs.sures.choose_for.Goals as goal

pub returns-in_err-gaps : goal.returns-in_err-gaps
returns-in_err-gaps c =
    let n = c.seek_nothing.ensures in let e = c.in_err-gaps.ensures.refusal in
    let h : nine_told (what_of c.args.answered) [] [] ≡ Some (told c.in_err-gaps.field-0.0) =
    sym (nine_alone c.args.answered c.seek_nothing.result n.nodes n.answer n.row) ∙ sym (rw c.survey-survey.ensures at e) in
    search (rules, inl)

pub returns-in_err-choose : goal.returns-in_err-choose
returns-in_err-choose c =
    let n = c.seek_nothing.ensures in let e = c.in_ok-gaps.ensures.refusal in
    let h : nine_told (what_of c.args.answered) [] [] ≡ None =
    sym (nine_alone c.args.answered c.seek_nothing.result n.nodes n.answer n.row) ∙ sym (rw c.survey-survey.ensures at e) in
    search (rules, inl, inr)

pub returns : goal.returns
returns c =
    let n = c.seek_nothing.ensures in let e = c.in_ok-gaps.ensures.refusal in
    let h : nine_told (what_of c.args.answered) [] [] ≡ None =
    sym (nine_alone c.args.answered c.seek_nothing.result n.nodes n.answer n.row) ∙ sym (rw c.survey-survey.ensures at e) in
    let f : ChosenFor (what_of c.args.answered) c.in_ok-choose.field-0 =
    rw (known_alone c.args.answered c.seek_nothing.result n.nodes n.answer n.row) at (rw c.survey-survey.ensures at c.in_ok-choose.ensures.chosen) in
    rw c.ok_or.ensures.value (chose (what_of c.args.answered) h c.in_ok-choose.field-0 f)
