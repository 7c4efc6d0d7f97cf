use Rattle.std.proofs.Common.{◌≡◌, length, arith, length-take}
use Rattle.std.proofs.lemmas.List.{get_or-append_right, get_or-drop}
use Rattle.condition.proofs.adding.write.Goals as goal

pub returns-clause-past : goal.returns-clause-past
returns-clause-past c k h =
    let e : length c.copy_from_slice.new.self ≡ 5 = omega (arith, c.copy_from_slice.ensures.len, length-take 5 c.args.front.now) in
    grind (arith, get_or-append_right, get_or-drop)
