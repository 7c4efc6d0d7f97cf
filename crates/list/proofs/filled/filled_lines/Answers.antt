use Rattle.std.proofs.Common.{◌*◌, [], ◌∷◌, map, length, drop, vec_items, ap, ◌∙◌, arith, length-append}
use Rattle.std.proofs.lemmas.List.{map_push, drop-drop, take_rest}
use Rattle.evaluate.specs.Shapes.{numbers_of}
use Rattle.list.specs.Lists.{filled}
use Rattle.list.specs.Layout.{line_size}
use Rattle.list.specs.Lines.{lines_left}
use Rattle.list.specs.Shapes.{rows_of}
use Rattle.list.proofs.Lined.{line_turn, line_end}
use Rattle.list.proofs.Reading.{filled_kept, filled_left, filled_all, line_named}
use Rattle.list.proofs.filled.filled_lines.Goals as goal

pub loop-line-init : goal.loop-line-init
unfolding filled
loop-line-init c nodes h = rw c.new-rows.ensures.items

pub bounds-values-node : goal.bounds-values-node
bounds-values-node c =
    let sh = c.args.shape in let i = length c.loop-line.yielded in
    let t = line_turn sh.lines sh.width (drop sh.at c.args.lists.now) c.into_iter-line-iterator.result c.loop-line.line-iterator c.next.new.self c.loop-line.yielded c.next.result
    (ap lines_left c.into_iter-line-iterator.ensures.into_iter_gives ∙ rw take_rest at c.of-line-items.ensures) c.loop-line.yielded_by c.next.ensures.steps c.in-Some.line c.in-Some.is in
    rw c.node.ensures
    (line_named (length c.args.values.now) sh.lines sh.width i sh.at c.args.lists.now c.in-Some.line.numbers.now t.0 (t.1.1 ∙ drop-drop (i * line_size sh.width) sh.at c.args.lists.now) c.requires.named)

pub loop-line-preserved-in-Continue-branch-2 : goal.loop-line-preserved-in-Continue-branch-2
loop-line-preserved-in-Continue-branch-2 c nodes h =
    let v = numbers_of c.args.filling.now in let sh = c.args.shape in let i = length c.loop-line.yielded in
    let t = line_turn sh.lines sh.width (drop sh.at c.args.lists.now) c.into_iter-line-iterator.result c.loop-line.line-iterator c.next.new.self c.loop-line.yielded c.next.result
    (ap lines_left c.into_iter-line-iterator.ensures.into_iter_gives ∙ rw take_rest at c.of-line-items.ensures) c.loop-line.yielded_by c.next.ensures.steps c.in-Some.line c.in-Some.is in
    let e = t.1.1 ∙ drop-drop (i * line_size sh.width) sh.at c.args.lists.now in
    let b = line_named (length c.args.values.now) sh.lines sh.width i sh.at c.args.lists.now c.in-Some.line.numbers.now t.0 e c.requires.named in
    rw (length-append c.loop-line.yielded (c.in-Some.line ∷ []))
    (ap (map vec_items) c.in_ok-push.ensures.items ∙ (map_push vec_items (vec_items c.loop-line.rows) c.in_ok-row.row
    ∙ filled_kept v nodes sh.lines sh.width i sh.at c.args.lists.now c.in-Some.line.numbers.now c.args.values.now (rows_of c.loop-line.rows) t.0 e h b (c.loop-line.invariant nodes h)
    (vec_items c.in_ok-row.row) (rw t.1.0 at c.in_ok-row.ensures) (rw c.node.ensures at c.if-values-node.true)))

pub loop-line-preserved : goal.loop-line-preserved
loop-line-preserved c nodes h =
    let v = numbers_of c.args.filling.now in let sh = c.args.shape in let i = length c.loop-line.yielded in
    let t = line_turn sh.lines sh.width (drop sh.at c.args.lists.now) c.into_iter-line-iterator.result c.loop-line.line-iterator c.next.new.self c.loop-line.yielded c.next.result
    (ap lines_left c.into_iter-line-iterator.ensures.into_iter_gives ∙ rw take_rest at c.of-line-items.ensures) c.loop-line.yielded_by c.next.ensures.steps c.in-Some.line c.in-Some.is in
    let e = t.1.1 ∙ drop-drop (i * line_size sh.width) sh.at c.args.lists.now in
    let b = line_named (length c.args.values.now) sh.lines sh.width i sh.at c.args.lists.now c.in-Some.line.numbers.now t.0 e c.requires.named in
    rw (length-append c.loop-line.yielded (c.in-Some.line ∷ []))
    (filled_left v nodes sh.lines sh.width i sh.at c.args.lists.now c.in-Some.line.numbers.now c.args.values.now (rows_of c.loop-line.rows) t.0 e h b (c.loop-line.invariant nodes h)
    (rw c.node.ensures at c.if-values-node.false))

pub returns : goal.returns
returns c = λ nodes h.
    let sh = c.args.shape in
    let n = line_end sh.lines sh.width (drop sh.at c.args.lists.now) c.into_iter-line-iterator.result c.loop-line.line-iterator c.next.new.self c.loop-line.yielded c.next.result
    (ap lines_left c.into_iter-line-iterator.ensures.into_iter_gives ∙ rw take_rest at c.of-line-items.ensures) c.loop-line.yielded_by c.next.ensures.steps c.in-None.is in
    c.loop-line.invariant nodes h ∙ filled_all (numbers_of c.args.filling.now) nodes sh.lines sh.width (length c.loop-line.yielded) (drop sh.at c.args.lists.now) (omega arith)
