use Rattle.std.proofs.Common.{◌≡◌, ◌++◌, length, take, drop, rules}
use Rattle.std.proofs.lemmas.List.{take_at}
use Rattle.decide.proofs.coning.build_cone.Goals as goal

pub returns : goal.returns
returns c =
    let xs = c.fill_cone-goal.new.cone in
    let rest = drop (length c.fill_cone-goal.new.cone) c.in_ok-cone.cone.items in
    let k : length c.fill_cone-goal.new.cone ≡ c.in_ok-cone.cone.len = search rules in
    let e : take c.in_ok-cone.cone.len (xs ++ rest) ≡ xs = take_at xs rest c.in_ok-cone.cone.len k in
    record { refused = tt; coned = rw e c.fill_cone-goal.ensures }
