use Rattle.std.proofs.Common.{rules, ◌≡◌, ◌*◌, ◌<◌, length, get_or, ap}
use Rattle.list.specs.Layout.{line_size}
use Rattle.learn.proofs.Lined.{renamed_more}
use Rattle.learn.proofs.tidying_lines.write_places.Goals as goal

pub loop-i-preserved : goal.loop-i-preserved
loop-i-preserved c =
    let m = c.args.moves.now in
    let e : c.loop-i.i * c.line_size.result ≡ c.loop-i.i * line_size c.args.w = ap (λ t. c.loop-i.i * t) c.line_size.ensures in
    let l : c.loop-i.i * c.line_size.result < length c.loop-i.answer = search rules in
    renamed_more (λ j. get_or m.copies.items (get_or m.places.items j 0) 0) c.args.w c.loop-i.i (c.loop-i.i * c.line_size.result) c.place.result c.args.answer.now c.loop-i.answer
    c.loop-i.invariant e l c.place.ensures
