use Rattle.std.proofs.Common.{map, vec_items}
use Rattle.decide.specs.Shapes.{chosen_of, what_of, out_of}
use Rattle.decide.proofs.Keeping.{listed}
use Rattle.decide.proofs.Lows.{low_numbers}
use Rattle.decide.proofs.sures.list_sure.Goals as goal

pub returns : goal.returns
returns c =
    let a = c.args.answered in let e = c.as_slice.ensures.value in let r = c.in_ok-rows.ensures in
    listed (what_of a) (out_of a) a.width (chosen_of c.in_ok-chosen.chosen) (map vec_items c.as_slice.result.now) c.in_ok-chosen.ensures.0 c.in_ok-chosen.ensures.1 (rw e r.candidates) (rw e r.wide)
    (low_numbers a.nodes.now a.answer.now a.known a.lines a.width c.requires.nodes c.requires.answer) c.keep_sure.result c.keep_sure.ensures
