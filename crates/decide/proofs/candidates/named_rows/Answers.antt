use Rattle.std.proofs.Common.{[], ◌∷◌, map, length, vec_items, sym, ap, ◌∙◌, arith, length-append}
use Rattle.std.proofs.lemmas.List.{map_push}
use Rattle.list.specs.Lists.{filled}
use Rattle.list.specs.Lines.{lines_left}
use Rattle.list.specs.Shapes.{rows_of}
use Rattle.list.proofs.Lined.{line_end}
use Rattle.list.proofs.Reading.{filled_all}
use Rattle.decide.specs.Shapes.{chosen_of}
use Rattle.decide.specs.SureSteps.{named_rows}
use Rattle.decide.proofs.NamedRows.{named_none, met_next, named_kept, named_lost, named_left}
use Rattle.decide.proofs.candidates.named_rows.Goals as goal

pub loop-line-init : goal.loop-line-init
unfolding filled
loop-line-init c = rw c.new-rows.ensures.items (sym named_none)

pub bounds-values-node : goal.bounds-values-node
bounds-values-node c =
    let k = met_next c.args.answered.now c.into_iter-line-iterator.result c.loop-line.line-iterator c.next.new.self c.loop-line.yielded c.next.result c.in-Some.line
    (ap lines_left c.into_iter-line-iterator.ensures.into_iter_gives ∙ c.answer_lines-line-items.ensures) c.loop-line.yielded_by c.next.ensures.steps c.in-Some.is in
    omega (arith, c.node.ensures, k.stands)

pub loop-line-preserved-in-Continue-branch-3 : goal.loop-line-preserved-in-Continue-branch-3
loop-line-preserved-in-Continue-branch-3 c =
    let v = chosen_of c.args.chosen.now in let a = c.args.answered.now in
    let k = met_next c.args.answered.now c.into_iter-line-iterator.result c.loop-line.line-iterator c.next.new.self c.loop-line.yielded c.next.result c.in-Some.line
    (ap lines_left c.into_iter-line-iterator.ensures.into_iter_gives ∙ c.answer_lines-line-items.ensures) c.loop-line.yielded_by c.next.ensures.steps c.in-Some.is in
    let h = rw (c.in-Some-2.is, k.wide) at c.in_ok-row.ensures.named in
    let e = rw (c.in-Some-2.is, k.wide) at c.in_ok-row.ensures.row in
    rw (length-append c.loop-line.yielded (c.in-Some.line ∷ []))
    (ap (map vec_items) c.in_ok-push.ensures.items ∙ (map_push vec_items (vec_items c.loop-line.rows) c.in-Some-2.row
    ∙ named_kept v a.nodes.now a.lines a.width (length c.loop-line.yielded) a.answer.now c.in-Some.line.numbers.now c.args.values.now (rows_of c.loop-line.rows)
    k.inside k.is c.requires.values (rw (← c.requires.all) at k.stands) c.loop-line.invariant
    (vec_items c.in-Some-2.row) e (sym h) (rw c.node.ensures at c.if-values-node.true)))

pub loop-line-preserved-in_default : goal.loop-line-preserved-in_default
loop-line-preserved-in_default c =
    let v = chosen_of c.args.chosen.now in let a = c.args.answered.now in
    let k = met_next c.args.answered.now c.into_iter-line-iterator.result c.loop-line.line-iterator c.next.new.self c.loop-line.yielded c.next.result c.in-Some.line
    (ap lines_left c.into_iter-line-iterator.ensures.into_iter_gives ∙ c.answer_lines-line-items.ensures) c.loop-line.yielded_by c.next.ensures.steps c.in-Some.is in
    let h = rw (c.in_default.is, k.wide) at c.in_ok-row.ensures.named in
    rw (length-append c.loop-line.yielded (c.in-Some.line ∷ []))
    (named_lost v a.nodes.now a.lines a.width (length c.loop-line.yielded) a.answer.now c.in-Some.line.numbers.now c.args.values.now (rows_of c.loop-line.rows)
    k.inside k.is c.requires.values (rw (← c.requires.all) at k.stands) c.loop-line.invariant
    (sym h) (rw c.node.ensures at c.if-values-node.true))

pub loop-line-preserved : goal.loop-line-preserved
loop-line-preserved c =
    let v = chosen_of c.args.chosen.now in let a = c.args.answered.now in
    let k = met_next c.args.answered.now c.into_iter-line-iterator.result c.loop-line.line-iterator c.next.new.self c.loop-line.yielded c.next.result c.in-Some.line
    (ap lines_left c.into_iter-line-iterator.ensures.into_iter_gives ∙ c.answer_lines-line-items.ensures) c.loop-line.yielded_by c.next.ensures.steps c.in-Some.is in
    rw (length-append c.loop-line.yielded (c.in-Some.line ∷ []))
    (named_left v a.nodes.now a.lines a.width (length c.loop-line.yielded) a.answer.now c.in-Some.line.numbers.now c.args.values.now (rows_of c.loop-line.rows)
    k.inside k.is c.requires.values (rw (← c.requires.all) at k.stands) c.loop-line.invariant
    (rw c.node.ensures at c.if-values-node.false))

pub returns-clause-rows : goal.returns-clause-rows
returns-clause-rows c =
    let a = c.args.answered.now in
    let n = line_end a.lines a.width a.answer.now c.into_iter-line-iterator.result c.loop-line.line-iterator c.next.new.self c.loop-line.yielded c.next.result
    (ap lines_left c.into_iter-line-iterator.ensures.into_iter_gives ∙ c.answer_lines-line-items.ensures) c.loop-line.yielded_by c.next.ensures.steps c.in-None.is in
    c.loop-line.invariant ∙ ap named_rows (filled_all (chosen_of c.args.chosen.now) a.nodes.now a.lines a.width (length c.loop-line.yielded) a.answer.now (omega arith))
