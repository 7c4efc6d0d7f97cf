use Rattle.std.proofs.Common.{rules, ◌≡◌, length, drop, arith}
use Rattle.std.proofs.lemmas.List.{take_at}
use Rattle.learn.proofs.Tidied.{room_none}
use Rattle.learn.proofs.tidying.tidy_marked.Goals as goal

pub returns-clause-refusal : goal.returns-clause-refusal
returns-clause-refusal c =
    let e = c.close.ensures in
    room_none c.args.nodes.now c.args.roots.now c.close.new.marks (record { exact = e.exact; closed = e.closed; kept = e.kept })
    (omega (arith, c.count_marks-reached.ensures, c.in_ok-room.ensures.value))

pub returns-clause-tidied : goal.returns-clause-tidied
returns-clause-tidied c =
    let ps = c.move_marked.new.places in let cs = c.move_marked.new.copies in
    let k : length ps ≡ c.in_ok-places.places.len = search rules in
    let l : length cs ≡ c.in_ok-copies.copies.len = search rules in
    rw (take_at ps (drop (length ps) c.in_ok-places.places.items) c.in_ok-places.places.len k, take_at cs (drop (length cs) c.in_ok-copies.copies.items) c.in_ok-copies.copies.len l)
    c.move_marked.ensures
