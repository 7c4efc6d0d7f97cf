use Rattle.std.proofs.Common.{sym, ◌∙◌, arith}
use Rattle.std.proofs.lemmas.Bool.{ltb-true, eqb-true, eqb-false}
use Rattle.decide.proofs.Noted.{any_has, noted_gap, noted_number, noted_again}
use Rattle.decide.proofs.noting.Notes.note.Goals as goal
use Rattle.decide.proofs.noting.Notes.note.Goals.{else-not-is_full-via-then-not-is_full+else-not-contains, else-not-is_full-via-else-not-is_full}

pub returns-in-Gap : goal.returns-in-Gap
returns-in-Gap c = λ ds h. rw c.in-Gap.is (noted_gap c.args.self.now ds c.in-Gap.gap (ltb-true _ 64 (rw c.in-Gap.is at c.requires)) h)

pub returns-then-not-contains : goal.returns-then-not-contains
returns-then-not-contains c = λ ds h.
    rw c.in-Number.is (noted_number c.args.self.now c.push.new.self ds c.in-Number.number (omega arith)
    (rw c.deref.ensures.0 at (sym (c.contains.ensures.value ∙ any_has c.deref.result.now c.in-Number.number) ∙ c.if-not-contains.true)) c.push.ensures.items
    (omega (arith, c.is_full.ensures.fits, eqb-false _ _ (sym c.is_full.ensures.value ∙ c.if-not-is_full.true))) h)

pub returns-else-not-is_full : goal.returns-else-not-is_full
returns-else-not-is_full c =
    elim c.else-not-is_full.branch [
      | else-not-is_full-via-then-not-is_full+else-not-contains w ↦ λ ds h.
          rw c.in-Number.is (noted_again c.args.self.now ds c.in-Number.number
          (λ l. rw w.deref.ensures.0 at (sym (w.contains.ensures.value ∙ any_has w.deref.result.now c.in-Number.number) ∙ w.if-not-contains.false)) h)
      | else-not-is_full-via-else-not-is_full w ↦ λ ds h.
          rw c.in-Number.is (noted_again c.args.self.now ds c.in-Number.number (λ l. absurd (omega (arith, eqb-true _ _ (sym c.is_full.ensures.value ∙ w.if-not-is_full.false)))) h)
    ]
