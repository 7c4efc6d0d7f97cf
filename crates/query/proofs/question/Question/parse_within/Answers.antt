use Rattle.std.proofs.Common.{◌≤◌, length, take, refl, arith, length-take}
use Rattle.query.specs.Shapes.{pairs_of}
use Rattle.query.proofs.Parting.{ends_within}
use Rattle.query.proofs.Telling.{whole_told, parses}
use Rattle.query.proofs.question.Question.parse_within.Goals as goal

pub read-requires : goal.read-requires
read-requires c =
    let l : length c.front.result.now ≤ 96 = rw c.front.ensures (simp length-take (omega arith)) in
    record { long = refl; few = omega (arith, l) }

pub overflow_mul-next : goal.overflow_mul-next
overflow_mul-next c = omega (arith, ends_within 16 (pairs_of c.args.shapes) 0 _ _ c.read.new.parts c.in_ok-next.field-0.next _ (omega arith) c.in_ok-next.ensures)

pub returns : goal.returns
returns c =
    let r = rw c.front.ensures at c.in_ok-next.ensures in
    record {
      refusal = whole_told (pairs_of c.args.shapes) (take 96 c.args.signs.now) c.args.signs.now _ c.read.new.parts c.in_ok-next.field-0.next c.in_ok-next.field-0.rest.now r (omega arith);
      value = parses (pairs_of c.args.shapes) (take 96 c.args.signs.now) _ c.read.new.parts c.in_ok-next.field-0.next c.in_ok-next.field-0.rest.now r c.in_ok-next.ensures.long;
    }
