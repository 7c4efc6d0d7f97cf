use Rattle.std.proofs.Common.{rules, arith}
use Rattle.condition.specs.Store.{count}
use Rattle.learn.specs.Copying.{Simplified}
use Rattle.learn.proofs.tidying.simplify.Goals as goal

pub returns : goal.returns
returns c =
    let f = c.fold.ensures.folds in let b = c.begin.ensures in
    let s : Simplified c.args.nodes.now (count c.args.nodes.now) c.args.marks.now c.fold.new.self.nodes.now c.fold.new.places = record {
      begun = c.fold.new.self.begun;
      tidy = c.fold.new.self.tidy;
      few = omega (arith, f.few, b.count);
      stand = f.stand;
      value = f.value;
      onto = λ j p q. f.onto j (omega (arith, b.count)) q;
      inside = f.inside;
    } in
    search rules
