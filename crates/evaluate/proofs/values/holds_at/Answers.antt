use Rattle.std.proofs.Common.{◌<◌, false, length, ◌∙◌, arith, rules}
use Rattle.std.proofs.lemmas.List.{get_or_read}
use Rattle.evaluate.specs.Shapes.{numbers_of}
use Rattle.evaluate.proofs.Worked.{past_right}
use Rattle.evaluate.proofs.values.holds_at.Goals as goal

pub returns-then-i-count : goal.returns-then-i-count
returns-then-i-count c = record {
  refusal = search rules;
  value = past_right (numbers_of c.args.filling) c.args.nodes.now c.args.i (omega (arith, c.in_ok-count.ensures.value.0));
}

pub returns : goal.returns
returns c =
    let i = c.args.i in let bs = c.in_ok-values.values.items in
    let k : i < length bs = search rules in
    record {
      refusal = search rules;
      value = get_or_read bs i c.index.result.now k c.index.ensures false ∙ c.in_ok-values.ensures.0 i (omega arith);
    }
