use Rattle.std.proofs.Common.{rules, ℕ, ◌*◌, Bool, get_or, ap, sym, ◌∙◌, subst, arith}
use Rattle.condition.specs.Store.{room_told}
use Rattle.list.specs.Layout.{line_size}
use Rattle.decide.specs.Reaching.{marked}
use Rattle.learn.specs.Copying.{TidiedAll}
use Rattle.learn.specs.Tidying.{reached_count, lines_name}
use Rattle.learn.proofs.Tidied.{same_test}
use Rattle.learn.proofs.Lined.{lines_name_at, told_lined, line_stands, renamed_named, answer_tidied}
use Rattle.learn.proofs.tidying_lines.tidy_answer.Goals as goal

pub mark_lines-roots-requires-clause-inside : goal.mark_lines-roots-requires-clause-inside
mark_lines-roots-requires-clause-inside c = λ i l.
    let k = c.in_ok-check_lines.ensures.lined in
    omega (arith, line_stands c.args.nodes.now c.args.answer.now c.args.lines c.args.width k i l, k.small)

pub returns-in_err-moves-clause-refusal : goal.returns-in_err-moves-clause-refusal
returns-in_err-moves-clause-refusal c =
    let nodes = c.args.nodes.now in let answer = c.args.answer.now in let n = c.args.lines in let w = c.args.width in
    let e = same_test (marked c.mark_lines-roots.result) (lines_name n w answer) c.mark_lines-roots.ensures in
    let h = rw (e, ← told_lined nodes answer n w c.in_ok-check_lines.ensures.refusal) at c.in_err-moves.ensures.refusal in
    search rules

pub write_places-requires-clause-inside : goal.write_places-requires-clause-inside
write_places-requires-clause-inside c = λ i l.
    omega (arith, line_stands c.args.nodes.now c.args.answer.now c.args.lines c.args.width c.in_ok-check_lines.ensures.lined i l, c.in_ok-moves.ensures.tidied.long)

pub write_places-requires-clause-moved : goal.write_places-requires-clause-moved
write_places-requires-clause-moved c = λ i l.
    let answer = c.args.answer.now in let n = c.args.lines in let w = c.args.width in let j = get_or answer (i * line_size w) 0 in
    c.in_ok-moves.ensures.tidied.place j (line_stands c.args.nodes.now answer n w c.in_ok-check_lines.ensures.lined i l)
    (c.mark_lines-roots.ensures j ∙ lines_name_at n w i answer l)

pub drop_never-left-requires-clause-named : goal.drop_never-left-requires-clause-named
drop_never-left-requires-clause-named c =
    let nodes = c.args.nodes.now in let answer = c.args.answer.now in let n = c.args.lines in let w = c.args.width in
    let e = same_test (marked c.mark_lines-roots.result) (lines_name n w answer) c.mark_lines-roots.ensures in
    let m = c.in_ok-moves.moves in
    renamed_named nodes answer n w c.in_ok-check_lines.ensures.lined c.tidy_marked.new.nodes m.places.items m.copies.items c.write_places.new.answer
    (subst (λ (p : ℕ → Bool). TidiedAll nodes p c.tidy_marked.new.nodes m.places.items m.copies.items) e c.in_ok-moves.ensures.tidied) c.write_places.ensures

pub returns-clause-refusal : goal.returns-clause-refusal
returns-clause-refusal c =
    let nodes = c.args.nodes.now in let answer = c.args.answer.now in let n = c.args.lines in let w = c.args.width in
    let e = same_test (marked c.mark_lines-roots.result) (lines_name n w answer) c.mark_lines-roots.ensures in
    told_lined nodes answer n w c.in_ok-check_lines.ensures.refusal ∙ (ap (λ p. room_told nodes (reached_count nodes p)) (sym e) ∙ c.in_ok-moves.ensures.refusal)

pub returns-clause-tidied : goal.returns-clause-tidied
returns-clause-tidied c =
    let nodes = c.args.nodes.now in let answer = c.args.answer.now in let n = c.args.lines in let w = c.args.width in
    let e = same_test (marked c.mark_lines-roots.result) (lines_name n w answer) c.mark_lines-roots.ensures in
    let m = c.in_ok-moves.moves in
    answer_tidied nodes answer n w c.in_ok-check_lines.ensures.lined c.tidy_marked.new.nodes m.places.items m.copies.items c.write_places.new.answer
    (subst (λ (p : ℕ → Bool). TidiedAll nodes p c.tidy_marked.new.nodes m.places.items m.copies.items) e c.in_ok-moves.ensures.tidied) c.write_places.ensures
    c.drop_never-left.result c.drop_never-left.new.answer c.drop_never-left.ensures
