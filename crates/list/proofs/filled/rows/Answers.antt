use Rattle.std.proofs.Common.{map, vec_items, ap, ◌∙◌, rules}
use Rattle.evaluate.specs.Shapes.{numbers_of}
use Rattle.list.proofs.Reading.{no_list}
use Rattle.list.proofs.filled.rows.Goals as goal

pub returns-in_default : goal.returns-in_default
returns-in_default c = record {
  refusal = search rules;
  rows = ap (map vec_items) c.new.ensures.items ∙ no_list (numbers_of c.args.filling) c.args.nodes.now c.args.lists.now c.args.t (search rules);
}
