use Rattle.std.proofs.Common.{rules, ◌≡◌, ◌⊎◌, [], ◌++◌, map, length, Some, None, vec_items, sym, refl, ap, ◌∙◌}
use Rattle.std.proofs.lemmas.List.{length-map}
use Rattle.condition.specs.Refusals.{told}
use Rattle.condition.specs.declared.Refusal.TheVariants.{NoMemory}
use Rattle.decide.specs.Deciding.{deciding}
use Rattle.decide.specs.Shapes.{what_of, out_of}
use Rattle.decide.specs.Standing.{nine_told, Decided}
use Rattle.decide.specs.SureRows.{first_nine}
use Rattle.decide.proofs.Keeping.{row_here, nine_same, decided_same, none_kept, sure_there, other_missing, one_kept, one_left, one_told}
use Rattle.decide.proofs.sures.keep_sure.Goals as goal
use Rattle.decide.proofs.sures.keep_sure.Goals.{then-is_sure+in_ok-extend_from_slice, else-is_sure}

pub loop-row-init : goal.loop-row-init
loop-row-init c = none_kept (what_of c.args.answered) (out_of c.args.answered) (map vec_items c.args.rows.now) (record { numbers = c.new.result; count = 0 }) c.new.ensures.items refl

pub seek-requires : goal.seek-requires
seek-requires c =
    let i = c.loop-row.row-index in
    let e = c.deref.ensures.value ∙ row_here c.args.rows.now i c.row-item.result c.loop-row-test.true c.row-item.is in
    ap length e ∙ c.requires.wide i [] (simp length-map c.loop-row-test.true)

pub returns-in_err-standing : goal.returns-in_err-standing
returns-in_err-standing c =
    let a = c.args.answered in let i = c.loop-row.row-index in let cs = map vec_items c.args.rows.now in let row = c.deref.result.now in
    let e = c.deref.ensures.value ∙ row_here c.args.rows.now i c.row-item.result c.loop-row-test.true c.row-item.is in
    let w : length row ≡ a.width = ap length e ∙ c.requires.wide i [] (simp length-map c.loop-row-test.true) in
    let s = c.seek.ensures in
    let n = nine_same a c.seek.result row s.nodes s.answer s.row w in
    let h : (c.in_err-standing.field-0.0 ≡ NoMemory) ⊎ (first_nine (what_of a) (out_of a) cs ≡ Some (told c.in_err-standing.field-0.0)) =
    one_told (what_of a) (out_of a) cs c.requires.order i (simp length-map c.loop-row-test.true) c.loop-row.sure c.loop-row.invariant row e c.in_err-standing.field-0.0 (rw n at c.in_err-standing.ensures.refusal) in
    search rules

pub loop-row-preserved : goal.loop-row-preserved
loop-row-preserved c =
    let a = c.args.answered in let i = c.loop-row.row-index in let cs = map vec_items c.args.rows.now in let row = c.deref.result.now in
    let e = c.deref.ensures.value ∙ row_here c.args.rows.now i c.row-item.result c.loop-row-test.true c.row-item.is in
    let w : length row ≡ a.width = ap length e ∙ c.requires.wide i [] (simp length-map c.loop-row-test.true) in
    let s = c.seek.ensures in
    let n : nine_told (what_of a) (deciding (out_of a) row) row ≡ None = sym (nine_same a c.seek.result row s.nodes s.answer s.row w) ∙ c.in_ok-standing.ensures.refusal in
    let d : Decided (what_of a) (out_of a) row c.in_ok-standing.standing = decided_same a c.seek.result row s.nodes s.answer s.row w c.in_ok-standing.standing c.in_ok-standing.ensures.decided in
    elim c.if-is_sure.branch [
      | then-is_sure+in_ok-extend_from_slice w ↦
          rw w.sure-is (one_kept (what_of a) (out_of a) cs c.requires.order i (simp length-map c.loop-row-test.true) c.loop-row.sure c.loop-row.invariant row e n
          (sure_there (what_of a) (out_of a) row c.in_ok-standing.standing d (sym c.is_sure.ensures ∙ w.if-is_sure.true)) _
          (w.in_ok-extend_from_slice.ensures.items ∙ ap (λ t. c.loop-row.sure.numbers.items ++ t) (w.deref-then-is_sure.ensures.value ∙ sym c.deref.ensures.value)) refl)
      | else-is_sure w ↦
          rw w.sure-is (one_left (what_of a) (out_of a) cs c.requires.order i (simp length-map c.loop-row-test.true) c.loop-row.sure c.loop-row.invariant row e n
          (other_missing (what_of a) (out_of a) row c.in_ok-standing.standing d (sym c.is_sure.ensures ∙ w.if-is_sure.false)))
    ]
