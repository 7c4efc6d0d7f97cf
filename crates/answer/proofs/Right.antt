-- The answer put together from the lists' own lines, filled, is row by row what the question gives on the filled lists: one law
-- for each kind of question.
use Rattle.std.proofs.Common.{◌≡◌, ℕ, cond as if, not, ◌&&◌, List, [], ◌∷◌, refl, ap, arith}
use Rattle.condition.specs.Cond.{Cell, Cond, both, not_so}
use Rattle.evaluate.specs.Filling.{Filling, holds}
use Rattle.list.specs.Lists.{Line, fill_cells, filled, all_filled, same_row, stands}
use Rattle.list.proofs.Filling.{fill_at, fill_app, filled_app, filled_table}
use Rattle.query.specs.Ask.{Test, same, differ, is, is_not, Query, table, keep, columns, join, union, without, passes, kept, at_columns, cut_to, beside, joined, less, ask}
use Rattle.answer.specs.Answer.{test_of, tested, some_cells, cut_lines, line_beside, lines_joined, cells_same, spared, lines_less, answer}
use Rattle.answer.specs.Promise.{AnswerRight, AnswerExact}

holds_test : (v : Filling) (t : Test) (cs : List Cell) → holds v (test_of t cs) ≡ passes t (fill_cells v cs)
unfolding holds test_of passes
holds_test v (same a b) cs = simp (fill_at v cs)
holds_test v (differ a b) cs = simp (fill_at v cs)
holds_test v (is a n) cs = simp (fill_at v cs)
holds_test v (is_not a n) cs = simp (fill_at v cs)

filled_tested : (v : Filling) (t : Test) (ls : List Line) → filled v (tested t ls) ≡ kept t (filled v ls)
unfolding filled tested kept holds
filled_tested v t [] = refl
filled_tested v t (l ∷ ls) = let ih = filled_tested v t ls in let e = holds_test v t l.cells in grind arith

fill_some : (v : Filling) (ps : List ℕ) (cs : List Cell) → fill_cells v (some_cells ps cs) ≡ at_columns ps (fill_cells v cs)
unfolding fill_cells some_cells at_columns
fill_some v [] cs = refl
fill_some v (a ∷ ps) cs = cc (fill_at v cs a, fill_some v ps cs)

filled_cut : (v : Filling) (ps : List ℕ) (ls : List Line) → filled v (cut_lines ps ls) ≡ cut_to ps (filled v ls)
unfolding filled cut_lines cut_to
filled_cut v ps [] = refl
filled_cut v ps (l ∷ ls) = let ih = filled_cut v ps ls in let e = fill_some v ps l.cells in grind arith

filled_beside : (v : Filling) (l : Line) (ms : List Line) → filled v (line_beside l ms) ≡ if (holds v l.if_so) (beside (fill_cells v l.cells) (filled v ms)) []
unfolding filled line_beside beside holds
filled_beside v l [] = grind arith
filled_beside v l (m ∷ ms) = let ih = filled_beside v l ms in let e = fill_app v l.cells m.cells in grind arith

filled_joined : (v : Filling) (ls ms : List Line) → filled v (lines_joined ls ms) ≡ joined (filled v ls) (filled v ms)
unfolding filled lines_joined joined
filled_joined v [] ms = refl
filled_joined v (l ∷ ls) ms =
    let ih = filled_joined v ls ms in let e = filled_beside v l ms in let a = filled_app v (line_beside l ms) (lines_joined ls ms) in grind arith

holds_same : (v : Filling) (cs ds : List Cell) → holds v (cells_same cs ds) ≡ same_row (fill_cells v cs) (fill_cells v ds)
unfolding holds cells_same same_row fill_cells
holds_same v [] [] = refl
holds_same v [] (d ∷ ds) = refl
holds_same v (c ∷ cs) [] = refl
holds_same v (c ∷ cs) (d ∷ ds) = cc (holds_same v cs ds)

holds_spared : (v : Filling) (cs : List Cell) (ms : List Line) (c : Cond) → holds v (spared cs ms c) ≡ (holds v c && not (stands (fill_cells v cs) (filled v ms)))
unfolding holds spared stands filled
holds_spared v cs [] c = grind arith
holds_spared v cs (m ∷ ms) c =
    let ih = holds_spared v cs ms (both c (not_so (both m.if_so (cells_same cs m.cells)))) in
    let e = holds_same v cs m.cells in grind arith

filled_less : (v : Filling) (ls ms : List Line) → filled v (lines_less ls ms) ≡ less (filled v ls) (filled v ms)
unfolding filled lines_less less
filled_less v [] ms = refl
filled_less v (l ∷ ls) ms = let ih = filled_less v ls ms in let e = holds_spared v l.cells ms l.if_so in grind arith

pub answer_filled : (v : Filling) (q : Query) (ts : List (List Line)) → filled v (answer q ts) ≡ ask q (all_filled v ts)
unfolding answer ask
answer_filled v (table t) ts = filled_table v ts t
answer_filled v (keep t q) ts = cc (filled_tested v t (answer q ts), answer_filled v q ts)
answer_filled v (columns ps q) ts = cc (filled_cut v ps (answer q ts), answer_filled v q ts)
answer_filled v (join p q) ts = cc (filled_joined v (answer p ts) (answer q ts), answer_filled v p ts, answer_filled v q ts)
answer_filled v (union p q) ts = cc (filled_app v (answer p ts) (answer q ts), answer_filled v p ts, answer_filled v q ts)
answer_filled v (without p q) ts = cc (filled_less v (answer p ts) (answer q ts), answer_filled v p ts, answer_filled v q ts)

pub answer_right : AnswerRight
answer_right what ts q v h r = ap (stands r) (answer_filled v q ts)

pub answer_exact : AnswerExact
answer_exact v ts q = answer_filled v q ts
