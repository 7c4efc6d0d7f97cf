use Rattle.std.proofs.Common.{rules}
use Rattle.decide.specs.Sides.{side}
use Rattle.decide.specs.Search.{tried}
use Rattle.decide.proofs.Gathering.{FilledRow, found_all}
use Rattle.decide.proofs.trying.try_all.Goals as goal

pub returns : goal.returns
returns c t =
    let met = c.search-met in
    let filled : FilledRow (tried c.args.task.now) (side t met.result) (side t c.map.result) = let e = c.map.ensures t in search rules in
    found_all c.args.task.now t c.default.result (side t met.result) (side t c.map.result) (met.ensures.sound t) (rw (c.push.ensures.items, c.new-rows.ensures) at (met.ensures.dead t)) filled
