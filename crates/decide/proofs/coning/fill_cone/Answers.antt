use Rattle.std.proofs.Common.{rules, ◌<◌, length, get_or, ap, ◌∙◌, arith}
use Rattle.condition.specs.Store.{count, cond_at}
use Rattle.condition.proofs.Growing.{grown_cond}
use Rattle.evaluate.specs.Filling.{holds}
use Rattle.decide.specs.Cones.{Coned}
use Rattle.decide.specs.Deciding.{shows}
use Rattle.decide.specs.Folding.{Covered}
use Rattle.decide.specs.Matching.{node_at}
use Rattle.decide.specs.Showing.{Means, nodes_for, row_cells}
use Rattle.decide.specs.Sought.{deciding_of}
use Rattle.decide.specs.Surveying.{numbers_met, gaps_met}
use Rattle.decide.proofs.Drawn.{draws_all, row_met, node_below}
use Rattle.decide.proofs.coning.fill_cone.Goals as goal

pub show_row-shows-requires-clause-placed : goal.show_row-shows-requires-clause-placed
show_row-shows-requires-clause-placed c k l h =
    let b : node_at (length c.args.survey.now.sought.row.now) c.args.survey.now.sought.answer.now k < count c.args.survey.now.sought.nodes.now =
    node_below (count c.args.survey.now.sought.nodes.now) c.args.survey.now.sought.lines (length c.args.survey.now.sought.row.now) c.args.survey.now.sought.answer.now k c.args.survey.now.sought.named l in
    (omega (arith, c.requires.scratch.0), c.fold.ensures.folds.stand (node_at (length c.args.survey.now.sought.row.now) c.args.survey.now.sought.answer.now k) b (c.args.survey.now.surveyed.reached.lines k (omega arith) l h))

pub returns : goal.returns
returns c =
    let f = c.fold.ensures.folds in
    let nodes = c.args.survey.now.sought.nodes.now in let row = c.args.survey.now.sought.row.now in let what = cond_at nodes c.args.survey.now.sought.known in
    let xs = c.fold.new.self.nodes.now in let ys = c.show_row-shows.new.self.nodes.now in
    let ls = deciding_of c.args.survey.now.sought in
    let ns = numbers_met what ls row in
    let gs = gaps_met what ls in
    let m : Means xs ys (nodes_for (length row) ls) (row_cells ls row) (shows ls row) c.show_row-shows.result =
    c.show_row-shows.ensures.means (λ k l h. f.value (node_at (length row) c.args.survey.now.sought.answer.now k)
    (node_below (count nodes) c.args.survey.now.sought.lines (length row) c.args.survey.now.sought.answer.now k c.args.survey.now.sought.named l) (c.args.survey.now.surveyed.reached.lines k (omega arith) l h)) in
    let p = get_or c.fold.new.places c.args.survey.now.sought.known 0 in
    let s : p < count xs = f.stand c.args.survey.now.sought.known c.args.survey.now.sought.stands c.args.survey.now.surveyed.reached.known in
    let v : Covered ys ns gs =
    m.covered ns gs (f.covered ns gs (c.begin.ensures.covered ns gs) (draws_all ns gs nodes (count nodes) c.args.survey.now.marks.now (omega arith) c.args.survey.now.surveyed.reached.covered)) (row_met what ls row) in
    let d : Coned what ls row ys (record { known = p; shows = c.show_row-shows.result }) = record {
      begun = c.show_row-shows.new.self.begun;
      known = λ w. ap (holds w) (grown_cond xs ys m.grown p s) ∙ f.value c.args.survey.now.sought.known c.args.survey.now.sought.stands c.args.survey.now.surveyed.reached.known w;
      shows = m.value;
      known_inside = v p (omega (arith, m.grown.more));
      shows_inside = v c.show_row-shows.result m.stands;
    } in
    search rules
