use Rattle.std.proofs.Common.{◌≡◌, Some, arith}
use Rattle.book_file.proofs.Bytes.{entry_small}
use Rattle.book_file.proofs.entry.Entry.read.Goals as goal

pub invariant_of-result : goal.invariant_of-result
invariant_of-result c =
    let e : c.byte.result ≡ Some c.in_ok-ok_or.field-0 = grind arith in
    let f : c.number.result ≡ Some c.in_ok-node.node = grind arith in
    let s = entry_small c.args.input.now.rest.now c.byte.new.self.rest.now c.read_nodes.new.input.rest.now c.in_ok-nodes.nodes.items c.from-count.result c.in_ok-ok_or.field-0 c.in_ok-node.node
    c.args.input.now.bytes c.byte.new.self.bytes c.read_nodes.new.input.bytes (rw e at c.byte.ensures).1 c.from-count.ensures c.in_ok-nodes.ensures.read (rw f at c.number.ensures).1 in
    record { few = s.few; whole = s.whole; small_nodes = s.small_nodes; small = s.small }
