use Rattle.std.proofs.Common.{◌≡◌, ◌+◌, ◌-◌, [], ◌∷◌, length, sym, ap, ◌∙◌, arith, length-append}
use Rattle.std.specs.Iterator.Adapters.{rev_source}
use Rattle.list.specs.Lines.{lines_left}
use Rattle.list.proofs.Lined.{back_end}
use Rattle.decide.proofs.Looked.{looked_back}
use Rattle.decide.proofs.Matched.{matched_none, matched_pass, matched_more}
use Rattle.decide.proofs.sought.Sought.mark_lines.Goals as goal

pub loop-line-init : goal.loop-line-init
loop-line-init c =
    let q = c.args.self.now in let z : q.lines - 0 ≡ q.lines = omega arith in
    rw z (matched_none q c.args.marks.now c.args.notes.now)

pub agrees-requires : goal.agrees-requires
agrees-requires c =
    let q = c.args.self.now in let i = q.lines - length c.loop-line.yielded in
    let k = looked_back q c.into_iter-line-iterator.result c.loop-line.line-iterator c.next.new.self c.loop-line.yielded c.next.result c.in-Some.line
    (ap (λ s. lines_left (rev_source s)) c.into_iter-line-iterator.ensures.into_iter_gives ∙ (ap lines_left c.rev-line-items.ensures.source ∙ c.answer_lines.ensures))
    c.loop-line.yielded_by c.next.ensures.steps c.in-Some.is in
    k.1.wide

pub bounds-marks-node : goal.bounds-marks-node
bounds-marks-node c =
    let q = c.args.self.now in let i = q.lines - length c.loop-line.yielded in
    let k = looked_back q c.into_iter-line-iterator.result c.loop-line.line-iterator c.next.new.self c.loop-line.yielded c.next.result c.in-Some.line
    (ap (λ s. lines_left (rev_source s)) c.into_iter-line-iterator.ensures.into_iter_gives ∙ (ap lines_left c.rev-line-items.ensures.source ∙ c.answer_lines.ensures))
    c.loop-line.yielded_by c.next.ensures.steps c.in-Some.is in
    omega (arith, c.node.ensures, k.1.stands, q.small)

pub note_line-requires : goal.note_line-requires
note_line-requires c =
    let q = c.args.self.now in let i = q.lines - length c.loop-line.yielded in
    let k = looked_back q c.into_iter-line-iterator.result c.loop-line.line-iterator c.next.new.self c.loop-line.yielded c.next.result c.in-Some.line
    (ap (λ s. lines_left (rev_source s)) c.into_iter-line-iterator.ensures.into_iter_gives ∙ (ap lines_left c.rev-line-items.ensures.source ∙ c.answer_lines.ensures))
    c.loop-line.yielded_by c.next.ensures.steps c.in-Some.is in
    rw k.1.wide k.1.cells

pub loop-line-preserved-then-agrees : goal.loop-line-preserved-then-agrees
loop-line-preserved-then-agrees c =
    let q = c.args.self.now in let i = q.lines - length c.loop-line.yielded in
    let k = looked_back q c.into_iter-line-iterator.result c.loop-line.line-iterator c.next.new.self c.loop-line.yielded c.next.result c.in-Some.line
    (ap (λ s. lines_left (rev_source s)) c.into_iter-line-iterator.ensures.into_iter_gives ∙ (ap lines_left c.rev-line-items.ensures.source ∙ c.answer_lines.ensures))
    c.loop-line.yielded_by c.next.ensures.steps c.in-Some.is in
    let y = sym (rw k.1.is at c.agrees.ensures) ∙ c.if-agrees.true in
    let z : q.lines - (length c.loop-line.yielded + 1) ≡ i - 1 = omega arith in
    rw (length-append c.loop-line.yielded (c.in-Some.line ∷ []), z, c.node.ensures, k.1.is)
    (matched_more q i (omega (arith, k.0)) (omega arith) c.args.marks.now c.loop-line.marks c.args.notes.now c.loop-line.notes c.loop-line.invariant c.note_line.new.self
    y (rw k.1.is at k.1.stands) (omega (arith, q.small)) (rw (k.1.wide, k.1.is) at c.note_line.ensures))

pub loop-line-preserved : goal.loop-line-preserved
loop-line-preserved c =
    let q = c.args.self.now in let i = q.lines - length c.loop-line.yielded in
    let k = looked_back q c.into_iter-line-iterator.result c.loop-line.line-iterator c.next.new.self c.loop-line.yielded c.next.result c.in-Some.line
    (ap (λ s. lines_left (rev_source s)) c.into_iter-line-iterator.ensures.into_iter_gives ∙ (ap lines_left c.rev-line-items.ensures.source ∙ c.answer_lines.ensures))
    c.loop-line.yielded_by c.next.ensures.steps c.in-Some.is in
    let y = sym (rw k.1.is at c.agrees.ensures) ∙ c.if-agrees.false in
    let z : q.lines - (length c.loop-line.yielded + 1) ≡ i - 1 = omega arith in
    rw (length-append c.loop-line.yielded (c.in-Some.line ∷ []), z)
    (matched_pass q i (omega (arith, k.0)) (omega arith) c.args.marks.now c.loop-line.marks c.args.notes.now c.loop-line.notes c.loop-line.invariant y)

pub returns : goal.returns
returns c =
    let q = c.args.self.now in
    let n = back_end q.lines (length q.row.now) q.answer.now c.into_iter-line-iterator.result c.loop-line.line-iterator c.next.new.self c.loop-line.yielded c.next.result
    (ap (λ s. lines_left (rev_source s)) c.into_iter-line-iterator.ensures.into_iter_gives ∙ (ap lines_left c.rev-line-items.ensures.source ∙ c.answer_lines.ensures))
    c.loop-line.yielded_by c.next.ensures.steps c.in-None.is in
    let z : q.lines - length c.loop-line.yielded ≡ 0 = omega arith in
    rw z at c.loop-line.invariant
