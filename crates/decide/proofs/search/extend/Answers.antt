use Rattle.std.proofs.Common.{◌≡◌, ℕ, ◌+◌, ◌<◌, List, [], ◌∷◌, ◌++◌, get_or, ap, ◌∙◌, arith}
use Rattle.std.proofs.lemmas.Bool.{lt-ltb, le-ltb}
use Rattle.decide.proofs.Spreading.{Spread, spread_more}
use Rattle.decide.proofs.search.extend.Goals as goal

pub loop-number-preserved : goal.loop-number-preserved
loop-number-preserved c =
    let pool = c.args.task.now.pool.items in let n = c.args.task.now.named + c.args.row.used in let k = c.loop-number.number-index in
    let low : k < n = omega (arith, c.split_at.ensures.front_len) in
    let x : get_or c.split_at.result.0.now k 0 ≡ get_or pool k 0 = c.split_at.ensures.by_index.1 k 0 low ∙ ap (λ (xs : List ℕ). get_or xs k 0) c.deref.ensures.0 in
    rw c.push.ensures.items (spread_more pool c.args.row c.args.depth n c.args.next.now.items k c.loop-number.next.items c.with.result c.loop-number.invariant
    (rw (lt-ltb k n low) (rw x at c.with.ensures)))

pub returns : goal.returns
returns c =
    let pool = c.args.task.now.pool.items in let n = c.args.task.now.named + c.args.row.used in let k = c.loop-number.number-index in
    let e : k ≡ n = omega (arith, c.split_at.ensures.front_len) in
    let x : get_or c.split_at.result.1.now 0 0 ≡ get_or pool k 0 =
    c.split_at.ensures.by_index.2 0 0 ∙ (ap (λ (i : ℕ). get_or c.deref.result.now i 0) (omega arith) ∙ ap (λ (xs : List ℕ). get_or xs k 0) c.deref.ensures.0) in
    let s : Spread pool c.args.row c.args.depth n c.args.next.now.items (k + 1) (c.loop-number.next.items ++ c.with-2.result ∷ []) =
    spread_more pool c.args.row c.args.depth n c.args.next.now.items k c.loop-number.next.items c.with-2.result c.loop-number.invariant
    (rw (le-ltb k n (omega arith)) (rw x at c.with-2.ensures)) in
    record { added = s.added; behind = c.push-2.ensures.items ∙ s.behind; many = omega (arith, s.many); each = λ i h. s.each i (omega (arith, s.many)) }
