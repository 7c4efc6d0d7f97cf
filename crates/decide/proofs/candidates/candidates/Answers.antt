use Rattle.std.proofs.lemmas.List.Filters.{dedup_is}
use Rattle.decide.specs.Shapes.{chosen_of, out_of}
use Rattle.decide.proofs.Sorted.{filled_wide, sorted_candidates, sorted_wide}
use Rattle.decide.proofs.candidates.candidates.Goals as goal

pub returns-clause-candidates : goal.returns-clause-candidates
returns-clause-candidates c =
    let v = chosen_of c.args.chosen.now in let a = c.args.answered.now in
    sorted_candidates (out_of a) v _ _ _ c.in_ok-rows.ensures.rows c.in_ok-sort.ensures.permutation c.in_ok-sort.ensures.sorted
    (dedup_is _ _ _ c.dedup.ensures.filtered)

pub returns-clause-wide : goal.returns-clause-wide
returns-clause-wide c =
    let v = chosen_of c.args.chosen.now in let a = c.args.answered.now in
    sorted_wide (out_of a) v _ _ _ c.in_ok-rows.ensures.rows c.in_ok-sort.ensures.permutation c.in_ok-sort.ensures.sorted
    (dedup_is _ _ _ c.dedup.ensures.filtered) a.width (filled_wide v a.nodes.now a.lines a.width a.answer.now)
