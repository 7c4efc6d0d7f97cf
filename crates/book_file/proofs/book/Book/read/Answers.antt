use Rattle.std.proofs.Common.{◌≡◌, Some, None, drop, length, ap, sym, ◌∙◌, arith}
use Rattle.std.proofs.lemmas.Result.{err_from_is_err_and}
use Rattle.file_bytes.specs.Numbers.{number_at}
use Rattle.book_file.proofs.Bytes.{was_read, was_sized, same_book, sized}
use Rattle.book_file.proofs.Accepting.{long, refused_lists, refused_nodes, nothing_left, checked}
use Rattle.book_file.proofs.book.Book.read.Goals as goal

pub invariant_of-result : goal.invariant_of-result
invariant_of-result c =
    let e : c.number.result ≡ Some c.in_ok-count.count = grind arith in
    let b = (was_read c.args.bytes.now _ _ _ _ _ _ c.in_ok-count.count c.new-input.result.bytes c.new-input.ensures (rw e at c.number.ensures) c.in_ok-lists.ensures.read c.in_ok-nodes.ensures.read (omega arith) c.in_ok-nodes.ensures.few (rw (← c.deref.ensures.value, ← c.deref-2.ensures.value) (sym c.in_ok-check.ensures.refusal)) c.in_ok-lists.ensures.there).0 in
    record { told = b.told; there = b.there; exact = b.exact; few = b.few; whole = b.whole; small_lists = b.small_lists; small_nodes = b.small_nodes }

pub returns-clause-written : goal.returns-clause-written
returns-clause-written c =
    let e : c.number.result ≡ Some c.in_ok-count.count = grind arith in
    (was_read c.args.bytes.now _ _ _ _ _ _ c.in_ok-count.count c.new-input.result.bytes c.new-input.ensures (rw e at c.number.ensures) c.in_ok-lists.ensures.read c.in_ok-nodes.ensures.read (omega arith) c.in_ok-nodes.ensures.few (rw (← c.deref.ensures.value, ← c.deref-2.ensures.value) (sym c.in_ok-check.ensures.refusal)) c.in_ok-lists.ensures.there).1

pub returns-clause-read_back : goal.returns-clause-read_back
returns-clause-read_back c =
    let e : c.number.result ≡ Some c.in_ok-count.count = grind arith in
    let w = was_read c.args.bytes.now _ _ _ _ _ _ c.in_ok-count.count c.new-input.result.bytes c.new-input.ensures (rw e at c.number.ensures) c.in_ok-lists.ensures.read c.in_ok-nodes.ensures.read (omega arith) c.in_ok-nodes.ensures.few (rw (← c.deref.ensures.value, ← c.deref-2.ensures.value) (sym c.in_ok-check.ensures.refusal)) c.in_ok-lists.ensures.there in
    λ ls ns b f. same_book _ _ ls ns (sized _ _ w.0) (sized ls ns b) (sym w.1 ∙ f)

pub returns-in_err-count-clause-accepted : goal.returns-in_err-count-clause-accepted
returns-in_err-count-clause-accepted c = λ ls ns b q.
    let e : c.number.result ≡ None = grind arith in
    let t = rw e at c.number.ensures in
    let l = long ls ns c.args.bytes.now b q in
    absurd (omega (arith, t.0, ap length c.new-input.ensures, l))

pub returns-in_err-lists-clause-accepted : goal.returns-in_err-lists-clause-accepted
returns-in_err-lists-clause-accepted c = λ ls ns b q.
    let e : c.number.result ≡ Some c.in_ok-count.count = grind arith in
    let t = rw e at c.number.ensures in
    let p = err_from_is_err_and c.from_residual-in_err-lists.result c.from_residual-in_err-lists.ensures.1 in
    rw (p.1, p.2) (refused_lists ls ns c.args.bytes.now b q c.number.new.self.rest.now (t.2 ∙ ap (drop 4) c.new-input.ensures) c.in_err-lists.field-0.0 c.in_err-lists.ensures.refused)

pub returns-in_err-nodes-clause-accepted : goal.returns-in_err-nodes-clause-accepted
returns-in_err-nodes-clause-accepted c = λ ls ns b q.
    let e : c.number.result ≡ Some c.in_ok-count.count = grind arith in
    let t = rw e at c.number.ensures in
    let p = err_from_is_err_and c.from_residual-in_err-nodes.result c.from_residual-in_err-nodes.ensures.1 in
    rw (p.1, p.2) (refused_nodes ls ns c.args.bytes.now b q c.number.new.self.rest.now (t.2 ∙ ap (drop 4) c.new-input.ensures)
    c.read_lists.new.input.rest.now c.in_ok-lists.lists.items c.in_ok-count.count c.in_ok-lists.ensures.read (t.1 ∙ ap number_at c.new-input.ensures) c.in_err-nodes.field-0.0 c.in_err-nodes.ensures.refused)

pub returns-then-left-gt0-clause-accepted : goal.returns-then-left-gt0-clause-accepted
returns-then-left-gt0-clause-accepted c = λ ls ns b q.
    let e : c.number.result ≡ Some c.in_ok-count.count = grind arith in
    let t = rw e at c.number.ensures in
    let z = nothing_left ls ns c.args.bytes.now b q c.number.new.self.rest.now (t.2 ∙ ap (drop 4) c.new-input.ensures)
    c.read_lists.new.input.rest.now c.in_ok-lists.lists.items c.in_ok-count.count c.in_ok-lists.ensures.read (t.1 ∙ ap number_at c.new-input.ensures) c.read_nodes.new.input.rest.now c.in_ok-nodes.nodes.items c.in_ok-nodes.ensures.read in
    absurd (omega (arith, z, c.left.ensures, c.if-left-gt0.true))

pub returns-in_err-check-clause-accepted : goal.returns-in_err-check-clause-accepted
returns-in_err-check-clause-accepted c = λ ls ns b q.
    let e : c.number.result ≡ Some c.in_ok-count.count = grind arith in
    let p = err_from_is_err_and c.from_residual-in_err-check.result c.from_residual-in_err-check.ensures.1 in
    let w = was_sized c.args.bytes.now _ _ _ _ _ _ c.in_ok-count.count c.new-input.result.bytes c.new-input.ensures (rw e at c.number.ensures) c.in_ok-lists.ensures.read c.in_ok-nodes.ensures.read (omega arith) in
    rw (p.1, p.2) (checked ls ns c.args.bytes.now b q c.in_ok-lists.lists.items c.in_ok-nodes.nodes.items c.in_err-check.field-0.0 w (rw (← c.deref.ensures.value, ← c.deref-2.ensures.value) c.in_err-check.ensures.refusal))
