use Rattle.std.proofs.Common.{◌∙◌}
use Rattle.book_file.proofs.Bytes.{IsEntry}
use Rattle.book_file.specs.Books.{IsBook}
use Rattle.book_file.proofs.Growing.{became}
use Rattle.book_file.proofs.book.Book.learn.Goals as goal

pub invariant_of-drop : goal.invariant_of-drop
invariant_of-drop c =
    let s = c.args.self.now in
    let e = c.args.entry.now in
    let b : IsBook s.lists.items s.nodes.items = record { told = s.told; there = s.there; exact = s.exact; few = s.few; whole = s.whole; small_lists = s.small_lists; small_nodes = s.small_nodes } in
    let d : IsEntry e.nodes.items e.node = record { few = e.few; whole = e.whole; small_nodes = e.small_nodes; small = e.small } in
    let r = became s.lists.items s.nodes.items e.nodes.items c.in_ok-lists.lists.items c.in_ok-nodes.nodes.items c.deref_mut.result.now c.deref_mut-2.result.now
    c.learn.new.lists c.learn.new.nodes e.node c.in_ok-lists.lists.len c.in_ok-nodes.nodes.len c.index-known.result.now c.index.result.now c.index-2.result.now b d
    (c.in_ok-lists.ensures.items ∙ c.deref.ensures.value) (rw (← c.deref-2.ensures.value, ← c.deref-3.ensures.value) c.in_ok-nodes.ensures)
    c.deref_mut.ensures.value c.deref_mut-2.ensures.value c.in_ok-lists.lists.ok.0 c.in_ok-nodes.nodes.ok.0
    (c.in_ok-learn.ensures.learned, c.in_ok-learn.ensures.placed) c.index.ensures c.index-2.ensures c.if-index-room.false c.index-known.ensures in
    record {
      told = rw (r.lists_are, r.nodes_are) r.book.told;
      there = rw r.lists_are r.book.there;
      exact = rw r.lists_are r.book.exact;
      few = rw r.nodes_are r.book.few;
      whole = rw r.nodes_are r.book.whole;
      small_lists = rw r.lists_are r.book.small_lists;
      small_nodes = rw r.nodes_are r.book.small_nodes;
    }

pub returns-clause-learned : goal.returns-clause-learned
returns-clause-learned c =
    let s = c.args.self.now in
    let e = c.args.entry.now in
    let b : IsBook s.lists.items s.nodes.items = record { told = s.told; there = s.there; exact = s.exact; few = s.few; whole = s.whole; small_lists = s.small_lists; small_nodes = s.small_nodes } in
    let d : IsEntry e.nodes.items e.node = record { few = e.few; whole = e.whole; small_nodes = e.small_nodes; small = e.small } in
    let r = became s.lists.items s.nodes.items e.nodes.items c.in_ok-lists.lists.items c.in_ok-nodes.nodes.items c.deref_mut.result.now c.deref_mut-2.result.now
    c.learn.new.lists c.learn.new.nodes e.node c.in_ok-lists.lists.len c.in_ok-nodes.nodes.len c.index-known.result.now c.index.result.now c.index-2.result.now b d
    (c.in_ok-lists.ensures.items ∙ c.deref.ensures.value) (rw (← c.deref-2.ensures.value, ← c.deref-3.ensures.value) c.in_ok-nodes.ensures)
    c.deref_mut.ensures.value c.deref_mut-2.ensures.value c.in_ok-lists.lists.ok.0 c.in_ok-nodes.nodes.ok.0
    (c.in_ok-learn.ensures.learned, c.in_ok-learn.ensures.placed) c.index.ensures c.index-2.ensures c.if-index-room.false c.index-known.ensures in
    rw (r.lists_are, r.nodes_are) r.learned
