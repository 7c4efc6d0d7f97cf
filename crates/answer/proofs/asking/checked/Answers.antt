use Rattle.std.proofs.Common.{◌≡◌, ◌*◌, ◌≤◌, refl, ◌∙◌, mul-le-mul, arith, rules}
use Rattle.query.proofs.Shaping.{pairs_all}
use Rattle.answer.specs.Entry.{question, answer_size}
use Rattle.answer.proofs.Checking.{told_asking, told_room, told_out, told_none, narrow}
use Rattle.answer.proofs.asking.checked.Goals as goal

pub returns-in_err-question : goal.returns-in_err-question
returns-in_err-question c =
    let h = told_asking c.args.lists.now c.args.signs.now c.args.nodes.now c.args.out.now c.in_ok-check.ensures.refusal _ (rw (pairs_all c.args.lists.now c.of.result c.of.ensures) at c.in_err-question.ensures.refusal) in search rules

pub returns-then-room-cost : goal.returns-then-room-cost
returns-then-room-cost c =
    let st = rw (pairs_all c.args.lists.now c.of.result c.of.ensures) at c.in_ok-question.ensures.value in
    record { refusal = told_room c.args.lists.now c.args.signs.now c.args.nodes.now c.args.out.now c.in_ok-check.ensures.refusal (rw (pairs_all c.args.lists.now c.of.result c.of.ensures) at c.in_ok-question.ensures.refusal) c.in_ok-room.room c.cost.result c.in_ok-room.ensures.value (c.cost.ensures ∙ st.first.cost) c.if-room-cost.true; value = tt }

pub line_size-requires : goal.line_size-requires
line_size-requires c =
    let st = rw (pairs_all c.args.lists.now c.of.result c.of.ensures) at c.in_ok-question.ensures.value in
    let w = narrow c.args.nodes.now c.of.ensures c.in_ok-check.ensures.refusal st in omega (arith, c.width.ensures)

pub overflow_mul-size : goal.overflow_mul-size
overflow_mul-size c =
    let st = rw (pairs_all c.args.lists.now c.of.result c.of.ensures) at c.in_ok-question.ensures.value in
    let w = narrow c.args.nodes.now c.of.ensures c.in_ok-check.ensures.refusal st in
    let l : c.lines.result ≤ 4096 = omega (arith, c.lines.ensures, st.first.lines, st.lines) in
    let m : c.line_size.result ≤ 17 = omega (arith, c.line_size.ensures, c.width.ensures) in
    let k : c.lines.result * c.line_size.result ≤ 4096 * 17 = mul-le-mul l m in omega arith

pub returns-then-out-size : goal.returns-then-out-size
returns-then-out-size c =
    let st = rw (pairs_all c.args.lists.now c.of.result c.of.ensures) at c.in_ok-question.ensures.value in
    let z : c.lines.result * c.line_size.result ≡ answer_size (question c.args.lists.now c.args.signs.now) = rw (c.line_size.ensures, c.lines.ensures, c.width.ensures, st.first.lines, st.first.width) refl in
    record { refusal = told_out c.args.lists.now c.args.signs.now c.args.nodes.now c.args.out.now c.in_ok-check.ensures.refusal (rw (pairs_all c.args.lists.now c.of.result c.of.ensures) at c.in_ok-question.ensures.refusal) c.in_ok-room.room c.cost.result (c.lines.result * c.line_size.result) c.in_ok-room.ensures.value (c.cost.ensures ∙ st.first.cost) c.if-room-cost.false z c.if-out-size.true; value = tt }

pub returns : goal.returns
returns c =
    let st = rw (pairs_all c.args.lists.now c.of.result c.of.ensures) at c.in_ok-question.ensures.value in
    let z : c.lines.result * c.line_size.result ≡ answer_size (question c.args.lists.now c.args.signs.now) = rw (c.line_size.ensures, c.lines.ensures, c.width.ensures, st.first.lines, st.first.width) refl in
    record { refusal = told_none c.args.lists.now c.args.signs.now c.args.nodes.now c.args.out.now c.in_ok-check.ensures.refusal (rw (pairs_all c.args.lists.now c.of.result c.of.ensures) at c.in_ok-question.ensures.refusal) c.in_ok-room.room c.cost.result (c.lines.result * c.line_size.result) c.in_ok-room.ensures.value (c.cost.ensures ∙ st.first.cost) c.if-room-cost.false z c.if-out-size.false; value = st }
