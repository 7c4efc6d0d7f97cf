use Rattle.std.proofs.Common.{◌≡◌, ◌<◌, ◌++◌, length, map, take, drop, reverse, ap, ◌∙◌, arith}
use Rattle.std.specs.List.Sorted.{IsPermutation}
use Rattle.std.proofs.lemmas.List.{length-map, length-reverse}
use Rattle.std.proofs.lemmas.List.Sorted.{length_permutation}
use Rattle.decide.proofs.Ordering.{back_few, back_all, others_ahead, others_all}
use Rattle.decide.proofs.choosing.others_first.Goals as goal

pub push-requires : goal.push-requires
push-requires c =
    let k : length c.loop-number.yielded < length c.split_at.result.1.now =
    back_few c.split_at.result.1.now c.into_iter-number-iterator.result c.loop-number.number-iterator c.next.new.self c.loop-number.yielded c.next.result
    (cc) c.loop-number.yielded_by c.next.ensures.steps c.in-Some.number c.in-Some.is in
    let n : length c.loop-number.order.items ≡ length c.loop-number.yielded = ap length c.loop-number.invariant ∙ length-map c.loop-number.yielded (λ y. y.now) in
    (omega arith, omega arith)

pub unwrap-requires : goal.unwrap-requires
unwrap-requires c =
    let k : map (λ y. y.now) c.loop-number.yielded ≡ reverse c.split_at.result.1.now =
    back_all c.split_at.result.1.now c.into_iter-number-iterator.result c.loop-number.number-iterator c.next.new.self c.loop-number.yielded c.next.result
    (cc) c.loop-number.yielded_by c.next.ensures.steps c.in-None.is in
    let n : length c.loop-number.order.items ≡ length c.split_at.result.1.now = ap length (c.loop-number.invariant ∙ k) ∙ length-reverse c.split_at.result.1.now in
    let m : length c.risen.result.items ≡ length c.split_at.result.0.now = length_permutation _ _ c.risen.ensures.same in
    c.try_extend_from_slice.ensures.variant.1 (omega (arith, ap length c.deref-2.ensures.0))

pub returns : goal.returns
returns c =
    let k : map (λ y. y.now) c.loop-number.yielded ≡ reverse c.split_at.result.1.now =
    back_all c.split_at.result.1.now c.into_iter-number-iterator.result c.loop-number.number-iterator c.next.new.self c.loop-number.yielded c.next.result
    (cc) c.loop-number.yielded_by c.next.ensures.steps c.in-None.is in
    let task = c.args.task.now in let s = c.risen.result.items in let order = c.try_extend_from_slice.new.self.items in
    let front : c.split_at.result.0.now ≡ take task.named task.pool.items = cc in
    let back : c.split_at.result.1.now ≡ drop task.named task.pool.items = cc in
    let behind : order ≡ c.loop-number.order.items ++ c.deref-2.result.now = rw c.unwrap.ensures at c.try_extend_from_slice.ensures.ok in
    let is : order ≡ reverse (drop task.named task.pool.items) ++ s = cc in
    let same : IsPermutation (take task.named task.pool.items) s = rw front at c.risen.ensures.same in
    record { order = others_ahead task s order is same c.risen.ensures.rising; all = others_all task s order is same }
