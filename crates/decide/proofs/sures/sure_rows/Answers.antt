use Rattle.std.proofs.Common.{rules, ◌≡◌, ◌*◌, true, false, leb, ◌⊎◌, [], length, Some, None, vec_len, sym, ap, ◌∙◌, inr, arith}
use Rattle.std.proofs.lemmas.Bool.{le-leb, lt-leb}
use Rattle.condition.specs.Refusals.{told}
use Rattle.condition.specs.declared.Refusal.TheVariants.{NoMemory}
use Rattle.list.specs.Layout.{lines_in, known_in}
use Rattle.decide.specs.Standing.{answer_told, nine_told}
use Rattle.decide.specs.SureRows.{list_told, RowsTold}
use Rattle.decide.proofs.Keeping.{concat_long, some_width, told_behind}
use Rattle.decide.proofs.sures.sure_rows.Goals as goal

pub returns-in_err-sure-clause-refusal : goal.returns-in_err-sure-clause-refusal
returns-in_err-sure-clause-refusal c =
    let lists = c.args.lists.now in let nodes = c.args.nodes.now in let answer = c.args.answer.now in let n = c.args.lines in let w = c.args.width in
    let what = known_in nodes lists in let out = lines_in nodes n w answer in let size = length c.args.rows.now in let e = c.in_err-sure.field-0.0 in
    let h : (list_told lists nodes answer n w ≡ Some (told e)) ⊎ ((list_told lists nodes answer n w ≡ None) × ((e ≡ NoMemory) ⊎ RowsTold what out w size (Some (told e)))) =
    told_behind (answer_told lists nodes answer n w) (nine_told what [] []) e (λ k. RowsTold what out w k (Some (told e))) size (sym c.in_ok-check_answer.ensures.refusal) c.in_err-sure.ensures in
    search rules

pub nonzero_div-result : goal.nonzero_div-result
nonzero_div-result c =
    let s = c.in_ok-sure.ensures in
    let n : length c.in_ok-sure.sure.numbers.items ≡ length s.1.0 * c.args.width = ap length s.1.3.numbers ∙ concat_long s.1.0 c.args.width s.1.2 in
    let m : vec_len c.in_ok-sure.sure.numbers ≡ length c.in_ok-sure.sure.numbers.items = search rules in
    some_width (length s.1.0) c.args.width (omega (arith, n, m, c.len-size.ensures, c.if-size-rows.true))

pub returns-then-size-rows-clause-refusal : goal.returns-then-size-rows-clause-refusal
returns-then-size-rows-clause-refusal c =
    let s = c.in_ok-sure.ensures in let size = length c.args.rows.now in
    let n : length c.in_ok-sure.sure.numbers.items ≡ length s.1.0 * c.args.width = ap length s.1.3.numbers ∙ concat_long s.1.0 c.args.width s.1.2 in
    let m : vec_len c.in_ok-sure.sure.numbers ≡ length c.in_ok-sure.sure.numbers.items = search rules in
    let over : leb (length s.1.0 * c.args.width) size ≡ false = lt-leb (length s.1.0 * c.args.width) size (omega (arith, n, m, c.len-size.ensures, c.if-size-rows.true)) in
    let none : list_told c.args.lists.now c.args.nodes.now c.args.answer.now c.args.lines c.args.width ≡ None = rw (sym c.in_ok-check_answer.ensures.refusal) s.0 in
    inr (none, inr (rw over at (s.1.4 size)))

pub returns-clause-refusal : goal.returns-clause-refusal
returns-clause-refusal c =
    let s = c.in_ok-sure.ensures in let size = length c.args.rows.now in
    let n : length c.in_ok-sure.sure.numbers.items ≡ length s.1.0 * c.args.width = ap length s.1.3.numbers ∙ concat_long s.1.0 c.args.width s.1.2 in
    let m : vec_len c.in_ok-sure.sure.numbers ≡ length c.in_ok-sure.sure.numbers.items = search rules in
    let within : leb (length s.1.0 * c.args.width) size ≡ true = le-leb (length s.1.0 * c.args.width) size (omega (arith, n, m, c.len-size.ensures, c.if-size-rows.false)) in
    let none : list_told c.args.lists.now c.args.nodes.now c.args.answer.now c.args.lines c.args.width ≡ None = rw (sym c.in_ok-check_answer.ensures.refusal) s.0 in
    (none, rw within at (s.1.4 size))
