use Rattle.std.proofs.Common.{◌≡◌, ◌≤◌, length, rules}
use Rattle.learn.proofs.Overwritten.{two_lists, leaves}
use Rattle.learn.proofs.over.write_over.Goals as goal

pub bounds-lists-1 : goal.bounds-lists-1
bounds-lists-1 c =
    let l : 2 ≤ length c.over_lists.new.lists = rw c.over_lists.ensures (two_lists c.args.lists.now c.args.nodes.now c.args.gap c.args.number c.in_ok-check_number.ensures.numbered) in search rules

pub bounds-lists-1-2 : goal.bounds-lists-1-2
bounds-lists-1-2 c =
    let l : 2 ≤ length c.over_lists.new.lists = rw c.over_lists.ensures (two_lists c.args.lists.now c.args.nodes.now c.args.gap c.args.number c.in_ok-check_number.ensures.numbered) in search rules

pub returns-clause-over : goal.returns-clause-over
returns-clause-over c =
    let z = c.in_ok-check_number.ensures.numbered in let a = c.add-is.ensures in let b = c.add-known.ensures in
    let k = c.args.gap in let n = c.args.number in let lists = c.args.lists.now in let nodes = c.args.nodes.now in
    let long : length c.over_nodes.new.nodes ≡ length nodes = search rules in
    rw c.over_lists.ensures
    (leaves lists nodes k n z c.over_nodes.new.nodes c.add-is.new.nodes c.add-known.new.nodes c.add-is.result c.add-known.result c.over_nodes.ensures long
    (record { grown = a.grown; place = a.place; more = a.count; new = a.new })
    (record { grown = b.grown; place = b.place; more = b.count; new = rw c.over_lists.ensures at b.new }))
