use Rattle.std.proofs.Common.{◌≡◌, ◌+◌, ◌-◌, ◌<◌, ◌≤◌, ◌∙◌, length, take, drop, refl, sym, inl, inr, Some, None, arith, rules}
use Rattle.std.proofs.lemmas.Result.{err_from_is_err_and}
use Rattle.condition.specs.declared.Refusal.TheVariants.{BadQuestion}
use Rattle.query.specs.Shapes.{pairs_of}
use Rattle.query.proofs.Parting.{part_read, reads_short}
use Rattle.query.proofs.Steps.{pairs_length, pairs_at, pairs_small, no_token, no_list, one_list, single_bad, single_off, single, double_bad, double_second_bad, double_off, double, single_room, rest_few, double_room}
use Rattle.query.proofs.reading.+read.Goals as goal

pub returns-then-left-eq0 : goal.returns-then-left-eq0
returns-then-left-eq0 t c = (_, refl, reads_short _ _ _ _ (inl c.if-left-eq0.true))

pub returns-in_err-six : goal.returns-in_err-six
returns-in_err-six t c =
    let p = err_from_is_err_and c.from_residual.result c.from_residual.ensures.1 in
    let e : c.split_first_chunk.result ≡ None = grind arith in
    let f : c.in_err-six.field-0.0 ≡ BadQuestion c.args.at = grind arith in
    let s : length c.args.signs.now < 6 = search rules in
    rw (p.1, p.2) (_, f, reads_short _ _ _ _ (inr (c.if-left-eq0.false, s)))

pub returns-in_err-token : goal.returns-in_err-token
returns-in_err-token t c =
    let h : (c.in_ok-six.six.now ≡ take 6 c.args.signs.now) × (c.in_ok-six.behind.now ≡ drop 6 c.args.signs.now) × (length c.in_ok-six.behind.now + 6 ≡ length c.args.signs.now) = search rules in
    let long : 6 ≤ length c.args.signs.now = omega (arith, h.2) in
    let p = err_from_is_err_and c.from_residual-in_err-token.result c.from_residual-in_err-token.ensures.1 in
    let e : c.token_of.result ≡ None = grind arith in
    let f : c.in_err-token.field-0.0 ≡ BadQuestion c.args.at = grind arith in
    rw (p.1, p.2) (_, f, no_token c.args.left (pairs_of c.args.shapes.now) c.args.at c.args.signs.now (omega arith) (omega arith) (rw e at (c.token_of.ensures c.args.signs.now (sym h.0))))

pub returns-in_err-parts-in-Listed : goal.returns-in_err-parts-in-Listed
returns-in_err-parts-in-Listed t c =
    let h : (c.in_ok-six.six.now ≡ take 6 c.args.signs.now) × (c.in_ok-six.behind.now ≡ drop 6 c.args.signs.now) × (length c.in_ok-six.behind.now + 6 ≡ length c.args.signs.now) = search rules in
    let long : 6 ≤ length c.args.signs.now = omega (arith, h.2) in
    let p = err_from_is_err_and c.from_residual-in_err-parts-in-Listed.result c.from_residual-in_err-parts-in-Listed.ensures.1 in
    let e : c.list_part.result ≡ None = grind arith in
    let f : c.in_err-parts-in-Listed.field-0.0 ≡ BadQuestion c.args.at = grind arith in
    let s : c.token_of.result ≡ Some c.in_ok-token.token = grind arith in
    let k = rw (s, c.in-Listed.is) at (c.token_of.ensures c.args.signs.now (sym h.0)) in
    let l : c.args.shapes.now.count ≤ c.in-Listed.t = rw e at c.list_part.ensures in
    rw (p.1, p.2) (_, f, no_list c.args.left (pairs_of c.args.shapes.now) c.args.at c.args.signs.now (omega arith) (omega arith) c.in-Listed.t k (omega (arith, pairs_length c.args.shapes.now)))

pub returns-in_ok-parts-in-Listed : goal.returns-in_ok-parts-in-Listed
returns-in_ok-parts-in-Listed t c =
    let h : (c.in_ok-six.six.now ≡ take 6 c.args.signs.now) × (c.in_ok-six.behind.now ≡ drop 6 c.args.signs.now) × (length c.in_ok-six.behind.now + 6 ≡ length c.args.signs.now) = search rules in
    let long : 6 ≤ length c.args.signs.now = omega (arith, h.2) in
    let e : c.list_part.result ≡ Some c.in_ok-parts-in-Listed.field-0 = grind arith in
    let s : c.token_of.result ≡ Some c.in_ok-token.token = grind arith in
    let k = rw (s, c.in-Listed.is) at (c.token_of.ensures c.args.signs.now (sym h.0)) in
    let q = rw e at c.list_part.ensures in
    rw (h.1, q.1)
    (one_list c.args.left (pairs_of c.args.shapes.now) c.args.at c.args.signs.now (omega arith) (omega arith) c.in-Listed.t _ _ c.args.parts.now (omega arith) k
    (omega (arith, pairs_length c.args.shapes.now, q.0)) (pairs_at c.args.shapes.now c.in-Listed.t q.0))

pub returns-in_err-p-in-Single : goal.returns-in_err-p-in-Single
returns-in_err-p-in-Single t c =
    let h : (c.in_ok-six.six.now ≡ take 6 c.args.signs.now) × (c.in_ok-six.behind.now ≡ drop 6 c.args.signs.now) × (length c.in_ok-six.behind.now + 6 ≡ length c.args.signs.now) = search rules in
    let long : 6 ≤ length c.args.signs.now = omega (arith, h.2) in
    let p = err_from_is_err_and c.from_residual-in_err-p-in-Single.result c.from_residual-in_err-p-in-Single.ensures.1 in
    let s : c.token_of.result ≡ Some c.in_ok-token.token = grind arith in
    let k = rw (s, c.in-Single.is) at (c.token_of.ensures c.args.signs.now (sym h.0)) in
    let e = c.in_err-p-in-Single.ensures in
    rw (p.1, p.2) (e.0, e.1, single_bad c.args.left (pairs_of c.args.shapes.now) c.args.at c.args.signs.now (omega arith) (omega arith) c.in-Single.one k e.0 (rw h.1 at e.2))

pub bounds-parts-at-in-Single : goal.bounds-parts-at-in-Single
bounds-parts-at-in-Single t c =
    let h : (c.in_ok-six.six.now ≡ take 6 c.args.signs.now) × (c.in_ok-six.behind.now ≡ drop 6 c.args.signs.now) × (length c.in_ok-six.behind.now + 6 ≡ length c.args.signs.now) = search rules in
    let long : 6 ≤ length c.args.signs.now = omega (arith, h.2) in
    let r = single_room (c.args.left - 1) (pairs_of c.args.shapes.now) (pairs_small c.args.shapes.now c.args.shapes.now.small) c.args.at c.args.signs.now (omega arith) (omega arith)
    c.args.parts.now c.read.new.parts c.in_ok-p-in-Single.p.next c.in_ok-p-in-Single.p.rest.now (omega arith) (rw h.1 at c.in_ok-p-in-Single.ensures) in
    omega (arith, r.1, r.2, c.in_ok-p-in-Single.ensures.long)

pub one_part-requires : goal.one_part-requires
one_part-requires t c =
    let h : (c.in_ok-six.six.now ≡ take 6 c.args.signs.now) × (c.in_ok-six.behind.now ≡ drop 6 c.args.signs.now) × (length c.in_ok-six.behind.now + 6 ≡ length c.args.signs.now) = search rules in
    let long : 6 ≤ length c.args.signs.now = omega (arith, h.2) in
    let r = single_room (c.args.left - 1) (pairs_of c.args.shapes.now) (pairs_small c.args.shapes.now c.args.shapes.now.small) c.args.at c.args.signs.now (omega arith) (omega arith)
    c.args.parts.now c.read.new.parts c.in_ok-p-in-Single.p.next c.in_ok-p-in-Single.p.rest.now (omega arith) (rw h.1 at c.in_ok-p-in-Single.ensures) in
    let a = part_read c.read.new.parts (c.args.at + 1) c.index-parts-at.result (omega (arith, r.1, r.2, c.in_ok-p-in-Single.ensures.long)) c.index-parts-at.is in
    rw a (record { lines = r.0.lines; cost = r.0.cost })

pub returns-in_err-parts-in-Single : goal.returns-in_err-parts-in-Single
returns-in_err-parts-in-Single t c =
    let h : (c.in_ok-six.six.now ≡ take 6 c.args.signs.now) × (c.in_ok-six.behind.now ≡ drop 6 c.args.signs.now) × (length c.in_ok-six.behind.now + 6 ≡ length c.args.signs.now) = search rules in
    let long : 6 ≤ length c.args.signs.now = omega (arith, h.2) in
    let r = single_room (c.args.left - 1) (pairs_of c.args.shapes.now) (pairs_small c.args.shapes.now c.args.shapes.now.small) c.args.at c.args.signs.now (omega arith) (omega arith)
    c.args.parts.now c.read.new.parts c.in_ok-p-in-Single.p.next c.in_ok-p-in-Single.p.rest.now (omega arith) (rw h.1 at c.in_ok-p-in-Single.ensures) in
    let a = part_read c.read.new.parts (c.args.at + 1) c.index-parts-at.result (omega (arith, r.1, r.2, c.in_ok-p-in-Single.ensures.long)) c.index-parts-at.is in
    let p = err_from_is_err_and c.from_residual-in_err-parts-in-Single.result c.from_residual-in_err-parts-in-Single.ensures.1 in
    let e : c.one_part.result ≡ None = grind arith in
    let f : c.in_err-parts-in-Single.field-0.0 ≡ BadQuestion c.args.at = grind arith in
    let s : c.token_of.result ≡ Some c.in_ok-token.token = grind arith in
    let k = rw (s, c.in-Single.is) at (c.token_of.ensures c.args.signs.now (sym h.0)) in
    rw (p.1, p.2) (
      _,
      f,
      single_off c.args.left (pairs_of c.args.shapes.now) c.args.at c.args.signs.now (omega arith) (omega arith) c.args.parts.now c.read.new.parts c.in_ok-p-in-Single.p.next c.in_ok-p-in-Single.p.rest.now (omega arith) (rw h.1 at c.in_ok-p-in-Single.ensures)
          c.in-Single.one k (rw (e, a) at c.one_part.ensures),
    )

pub returns-in_ok-parts-in-Single : goal.returns-in_ok-parts-in-Single
returns-in_ok-parts-in-Single t c =
    let h : (c.in_ok-six.six.now ≡ take 6 c.args.signs.now) × (c.in_ok-six.behind.now ≡ drop 6 c.args.signs.now) × (length c.in_ok-six.behind.now + 6 ≡ length c.args.signs.now) = search rules in
    let long : 6 ≤ length c.args.signs.now = omega (arith, h.2) in
    let r = single_room (c.args.left - 1) (pairs_of c.args.shapes.now) (pairs_small c.args.shapes.now c.args.shapes.now.small) c.args.at c.args.signs.now (omega arith) (omega arith)
    c.args.parts.now c.read.new.parts c.in_ok-p-in-Single.p.next c.in_ok-p-in-Single.p.rest.now (omega arith) (rw h.1 at c.in_ok-p-in-Single.ensures) in
    let a = part_read c.read.new.parts (c.args.at + 1) c.index-parts-at.result (omega (arith, r.1, r.2, c.in_ok-p-in-Single.ensures.long)) c.index-parts-at.is in
    let e : c.one_part.result ≡ Some c.in_ok-parts-in-Single.field-0 = grind arith in
    let s : c.token_of.result ≡ Some c.in_ok-token.token = grind arith in
    let k = rw (s, c.in-Single.is) at (c.token_of.ensures c.args.signs.now (sym h.0)) in
    let q = rw (e, a) at c.one_part.ensures in
    rw q.1
    (single c.args.left (pairs_of c.args.shapes.now) c.args.at c.args.signs.now (omega arith) (omega arith) c.args.parts.now c.read.new.parts c.in_ok-p-in-Single.p.next c.in_ok-p-in-Single.p.rest.now (omega arith) (rw h.1 at c.in_ok-p-in-Single.ensures)
    c.in-Single.one k q.0)

pub returns-in_err-p-in-Double : goal.returns-in_err-p-in-Double
returns-in_err-p-in-Double t c =
    let h : (c.in_ok-six.six.now ≡ take 6 c.args.signs.now) × (c.in_ok-six.behind.now ≡ drop 6 c.args.signs.now) × (length c.in_ok-six.behind.now + 6 ≡ length c.args.signs.now) = search rules in
    let long : 6 ≤ length c.args.signs.now = omega (arith, h.2) in
    let p = err_from_is_err_and c.from_residual-in_err-p-in-Double.result c.from_residual-in_err-p-in-Double.ensures.1 in
    let s : c.token_of.result ≡ Some c.in_ok-token.token = grind arith in
    let k = rw (s, c.in-Double.is) at (c.token_of.ensures c.args.signs.now (sym h.0)) in
    let e = c.in_err-p-in-Double.ensures in
    rw (p.1, p.2) (e.0, e.1, double_bad c.args.left (pairs_of c.args.shapes.now) c.args.at c.args.signs.now (omega arith) (omega arith) c.in-Double.pair k e.0 (rw h.1 at e.2))

pub read-requires-in-Double-2 : goal.read-requires-in-Double-2
read-requires-in-Double-2 t c =
    let h : (c.in_ok-six.six.now ≡ take 6 c.args.signs.now) × (c.in_ok-six.behind.now ≡ drop 6 c.args.signs.now) × (length c.in_ok-six.behind.now + 6 ≡ length c.args.signs.now) = search rules in
    let long : 6 ≤ length c.args.signs.now = omega (arith, h.2) in (
      omega arith,
      (
        c.in_ok-p-in-Double.ensures.long ∙ c.requires.long,
        rest_few (c.args.left - 1) (pairs_of c.args.shapes.now) (pairs_small c.args.shapes.now c.args.shapes.now.small) c.args.at c.args.signs.now (omega arith) (omega arith)
            c.args.parts.now c.read-in-Double.new.parts c.in_ok-p-in-Double.p.next c.in_ok-p-in-Double.p.rest.now (omega arith) (rw h.1 at c.in_ok-p-in-Double.ensures),
      ),
    )

pub returns-in_err-q-in-Double : goal.returns-in_err-q-in-Double
returns-in_err-q-in-Double t c =
    let h : (c.in_ok-six.six.now ≡ take 6 c.args.signs.now) × (c.in_ok-six.behind.now ≡ drop 6 c.args.signs.now) × (length c.in_ok-six.behind.now + 6 ≡ length c.args.signs.now) = search rules in
    let long : 6 ≤ length c.args.signs.now = omega (arith, h.2) in
    let p = err_from_is_err_and c.from_residual-in_err-q-in-Double.result c.from_residual-in_err-q-in-Double.ensures.1 in
    let s : c.token_of.result ≡ Some c.in_ok-token.token = grind arith in
    let k = rw (s, c.in-Double.is) at (c.token_of.ensures c.args.signs.now (sym h.0)) in
    let e = c.in_err-q-in-Double.ensures in
    rw (p.1, p.2) (
      e.0,
      e.1,
      double_second_bad c.args.left (pairs_of c.args.shapes.now) c.args.at c.args.signs.now (omega arith) (omega arith) c.args.parts.now c.read-in-Double.new.parts c.in_ok-p-in-Double.p.next c.in_ok-p-in-Double.p.rest.now (omega arith) (rw h.1 at c.in_ok-p-in-Double.ensures)
          c.in-Double.pair k e.0 e.2,
    )

pub bounds-parts-at-in-Double : goal.bounds-parts-at-in-Double
bounds-parts-at-in-Double t c =
    let h : (c.in_ok-six.six.now ≡ take 6 c.args.signs.now) × (c.in_ok-six.behind.now ≡ drop 6 c.args.signs.now) × (length c.in_ok-six.behind.now + 6 ≡ length c.args.signs.now) = search rules in
    let long : 6 ≤ length c.args.signs.now = omega (arith, h.2) in
    let r = double_room (c.args.left - 1) (pairs_of c.args.shapes.now) (pairs_small c.args.shapes.now c.args.shapes.now.small) c.args.at c.args.signs.now (omega arith) (omega arith)
    c.args.parts.now c.read-in-Double.new.parts c.in_ok-p-in-Double.p.next c.in_ok-p-in-Double.p.rest.now (omega arith) (rw h.1 at c.in_ok-p-in-Double.ensures)
    c.read-in-Double-2.new.parts c.in_ok-q-in-Double.q.next c.in_ok-q-in-Double.q.rest.now c.in_ok-q-in-Double.ensures in
    omega (arith, r.3, c.in_ok-p-in-Double.ensures.long, c.in_ok-q-in-Double.ensures.long, c.in_ok-p-in-Double.ensures.ahead)

pub offset_bounds-parts-p : goal.offset_bounds-parts-p
offset_bounds-parts-p t c =
    let h : (c.in_ok-six.six.now ≡ take 6 c.args.signs.now) × (c.in_ok-six.behind.now ≡ drop 6 c.args.signs.now) × (length c.in_ok-six.behind.now + 6 ≡ length c.args.signs.now) = search rules in
    let long : 6 ≤ length c.args.signs.now = omega (arith, h.2) in
    let r = double_room (c.args.left - 1) (pairs_of c.args.shapes.now) (pairs_small c.args.shapes.now c.args.shapes.now.small) c.args.at c.args.signs.now (omega arith) (omega arith)
    c.args.parts.now c.read-in-Double.new.parts c.in_ok-p-in-Double.p.next c.in_ok-p-in-Double.p.rest.now (omega arith) (rw h.1 at c.in_ok-p-in-Double.ensures)
    c.read-in-Double-2.new.parts c.in_ok-q-in-Double.q.next c.in_ok-q-in-Double.q.rest.now c.in_ok-q-in-Double.ensures in
    let l : c.in_ok-p-in-Double.p.next < 16 = r.3 in search rules

pub bounds-parts-p : goal.bounds-parts-p
bounds-parts-p t c =
    let h : (c.in_ok-six.six.now ≡ take 6 c.args.signs.now) × (c.in_ok-six.behind.now ≡ drop 6 c.args.signs.now) × (length c.in_ok-six.behind.now + 6 ≡ length c.args.signs.now) = search rules in
    let long : 6 ≤ length c.args.signs.now = omega (arith, h.2) in
    let r = double_room (c.args.left - 1) (pairs_of c.args.shapes.now) (pairs_small c.args.shapes.now c.args.shapes.now.small) c.args.at c.args.signs.now (omega arith) (omega arith)
    c.args.parts.now c.read-in-Double.new.parts c.in_ok-p-in-Double.p.next c.in_ok-p-in-Double.p.rest.now (omega arith) (rw h.1 at c.in_ok-p-in-Double.ensures)
    c.read-in-Double-2.new.parts c.in_ok-q-in-Double.q.next c.in_ok-q-in-Double.q.rest.now c.in_ok-q-in-Double.ensures in
    omega (arith, r.3, c.in_ok-p-in-Double.ensures.long, c.in_ok-q-in-Double.ensures.long)

pub pair_part-requires : goal.pair_part-requires
pair_part-requires t c =
    let h : (c.in_ok-six.six.now ≡ take 6 c.args.signs.now) × (c.in_ok-six.behind.now ≡ drop 6 c.args.signs.now) × (length c.in_ok-six.behind.now + 6 ≡ length c.args.signs.now) = search rules in
    let long : 6 ≤ length c.args.signs.now = omega (arith, h.2) in
    let r = double_room (c.args.left - 1) (pairs_of c.args.shapes.now) (pairs_small c.args.shapes.now c.args.shapes.now.small) c.args.at c.args.signs.now (omega arith) (omega arith)
    c.args.parts.now c.read-in-Double.new.parts c.in_ok-p-in-Double.p.next c.in_ok-p-in-Double.p.rest.now (omega arith) (rw h.1 at c.in_ok-p-in-Double.ensures)
    c.read-in-Double-2.new.parts c.in_ok-q-in-Double.q.next c.in_ok-q-in-Double.q.rest.now c.in_ok-q-in-Double.ensures in
    let a = part_read c.read-in-Double-2.new.parts (c.args.at + 1) c.index-parts-at-in-Double.result (omega (arith, r.3, c.in_ok-p-in-Double.ensures.long, c.in_ok-q-in-Double.ensures.long, c.in_ok-p-in-Double.ensures.ahead)) c.index-parts-at-in-Double.is in
    let b = part_read c.read-in-Double-2.new.parts c.in_ok-p-in-Double.p.next c.index-parts-p.result (omega (arith, r.3, c.in_ok-p-in-Double.ensures.long, c.in_ok-q-in-Double.ensures.long)) c.index-parts-p.is in
    rw (a, b) (record { lines = (r.0.lines, (r.1.lines, r.2)); width = (r.0.width, r.1.width); cost = (r.0.cost, r.1.cost) })

pub returns-in_err-parts-in-Double : goal.returns-in_err-parts-in-Double
returns-in_err-parts-in-Double t c =
    let h : (c.in_ok-six.six.now ≡ take 6 c.args.signs.now) × (c.in_ok-six.behind.now ≡ drop 6 c.args.signs.now) × (length c.in_ok-six.behind.now + 6 ≡ length c.args.signs.now) = search rules in
    let long : 6 ≤ length c.args.signs.now = omega (arith, h.2) in
    let r = double_room (c.args.left - 1) (pairs_of c.args.shapes.now) (pairs_small c.args.shapes.now c.args.shapes.now.small) c.args.at c.args.signs.now (omega arith) (omega arith)
    c.args.parts.now c.read-in-Double.new.parts c.in_ok-p-in-Double.p.next c.in_ok-p-in-Double.p.rest.now (omega arith) (rw h.1 at c.in_ok-p-in-Double.ensures)
    c.read-in-Double-2.new.parts c.in_ok-q-in-Double.q.next c.in_ok-q-in-Double.q.rest.now c.in_ok-q-in-Double.ensures in
    let a = part_read c.read-in-Double-2.new.parts (c.args.at + 1) c.index-parts-at-in-Double.result (omega (arith, r.3, c.in_ok-p-in-Double.ensures.long, c.in_ok-q-in-Double.ensures.long, c.in_ok-p-in-Double.ensures.ahead)) c.index-parts-at-in-Double.is in
    let b = part_read c.read-in-Double-2.new.parts c.in_ok-p-in-Double.p.next c.index-parts-p.result (omega (arith, r.3, c.in_ok-p-in-Double.ensures.long, c.in_ok-q-in-Double.ensures.long)) c.index-parts-p.is in
    let p = err_from_is_err_and c.from_residual-in_err-parts-in-Double.result c.from_residual-in_err-parts-in-Double.ensures.1 in
    let e : c.pair_part.result ≡ None = grind arith in
    let f : c.in_err-parts-in-Double.field-0.0 ≡ BadQuestion c.args.at = grind arith in
    let s : c.token_of.result ≡ Some c.in_ok-token.token = grind arith in
    let k = rw (s, c.in-Double.is) at (c.token_of.ensures c.args.signs.now (sym h.0)) in
    rw (p.1, p.2) (
      _,
      f,
      double_off c.args.left (pairs_of c.args.shapes.now) c.args.at c.args.signs.now (omega arith) (omega arith) c.args.parts.now c.read-in-Double.new.parts c.in_ok-p-in-Double.p.next c.in_ok-p-in-Double.p.rest.now (omega arith) (rw h.1 at c.in_ok-p-in-Double.ensures)
          c.read-in-Double-2.new.parts c.in_ok-q-in-Double.q.next c.in_ok-q-in-Double.q.rest.now c.in_ok-q-in-Double.ensures
          c.in-Double.pair k (rw (e, a, b) at c.pair_part.ensures),
    )

pub returns-in_ok-parts-in-Double : goal.returns-in_ok-parts-in-Double
returns-in_ok-parts-in-Double t c =
    let h : (c.in_ok-six.six.now ≡ take 6 c.args.signs.now) × (c.in_ok-six.behind.now ≡ drop 6 c.args.signs.now) × (length c.in_ok-six.behind.now + 6 ≡ length c.args.signs.now) = search rules in
    let long : 6 ≤ length c.args.signs.now = omega (arith, h.2) in
    let r = double_room (c.args.left - 1) (pairs_of c.args.shapes.now) (pairs_small c.args.shapes.now c.args.shapes.now.small) c.args.at c.args.signs.now (omega arith) (omega arith)
    c.args.parts.now c.read-in-Double.new.parts c.in_ok-p-in-Double.p.next c.in_ok-p-in-Double.p.rest.now (omega arith) (rw h.1 at c.in_ok-p-in-Double.ensures)
    c.read-in-Double-2.new.parts c.in_ok-q-in-Double.q.next c.in_ok-q-in-Double.q.rest.now c.in_ok-q-in-Double.ensures in
    let a = part_read c.read-in-Double-2.new.parts (c.args.at + 1) c.index-parts-at-in-Double.result (omega (arith, r.3, c.in_ok-p-in-Double.ensures.long, c.in_ok-q-in-Double.ensures.long, c.in_ok-p-in-Double.ensures.ahead)) c.index-parts-at-in-Double.is in
    let b = part_read c.read-in-Double-2.new.parts c.in_ok-p-in-Double.p.next c.index-parts-p.result (omega (arith, r.3, c.in_ok-p-in-Double.ensures.long, c.in_ok-q-in-Double.ensures.long)) c.index-parts-p.is in
    let e : c.pair_part.result ≡ Some c.in_ok-parts-in-Double.field-0 = grind arith in
    let s : c.token_of.result ≡ Some c.in_ok-token.token = grind arith in
    let k = rw (s, c.in-Double.is) at (c.token_of.ensures c.args.signs.now (sym h.0)) in
    let q = rw (e, a, b) at c.pair_part.ensures in
    rw q.1
    (double c.args.left (pairs_of c.args.shapes.now) c.args.at c.args.signs.now (omega arith) (omega arith) c.args.parts.now c.read-in-Double.new.parts c.in_ok-p-in-Double.p.next c.in_ok-p-in-Double.p.rest.now (omega arith) (rw h.1 at c.in_ok-p-in-Double.ensures)
    c.read-in-Double-2.new.parts c.in_ok-q-in-Double.q.next c.in_ok-q-in-Double.q.rest.now c.in_ok-q-in-Double.ensures
    c.in-Double.pair k q.0)
