use Rattle.std.proofs.Common.{◌*◌, sym, ◌∙◌, arith}
use Rattle.condition.proofs.Growing.{grown_trans}
use Rattle.list.specs.Layout.{line_size}
use Rattle.answer.specs.Plan.{many, wide}
use Rattle.answer.specs.Planned.{plan_of}
use Rattle.answer.proofs.Planning.{planned_at}
use Rattle.answer.proofs.Putting.{written_says, drop_past}
use Rattle.answer.proofs.Staying.{stays}
use Rattle.answer.proofs.asking.put_answer.Goals as goal

pub invariant_of-side : goal.invariant_of-side
invariant_of-side c =
    let p = planned_at c.of-shapes.ensures c.add-first.ensures.place c.requires.passed.named 16 c.args.question.now.signs c.args.question.now.parts c.parts.ensures c.requires.parts c.requires.passed.cheap in
    record { sound = p.sound; low = omega (arith, p.cost, c.add-first.ensures.place) }

pub lay-requires : goal.lay-requires
lay-requires c =
    let p = planned_at c.of-shapes.ensures c.add-first.ensures.place c.requires.passed.named 16 c.args.question.now.signs c.args.question.now.parts c.parts.ensures c.requires.parts c.requires.passed.cheap in let a = c.add-first.ensures in
    record { based = record { low = omega (arith, a.count); always = a.new }; base = sym a.count; room = omega (arith, p.cost, a.count, a.place, a.grown.long) }

pub put_lines-requires : goal.put_lines-requires
put_lines-requires c =
    let p = planned_at c.of-shapes.ensures c.add-first.ensures.place c.requires.passed.named 16 c.args.question.now.signs c.args.question.now.parts c.parts.ensures c.requires.parts c.requires.passed.cheap in
    rw (p.lines, p.width) at c.requires.passed.size

pub returns : goal.returns
returns c =
    let p = planned_at c.of-shapes.ensures c.add-first.ensures.place c.requires.passed.named 16 c.args.question.now.signs c.args.question.now.parts c.parts.ensures c.requires.parts c.requires.passed.cheap in let a = c.add-first.ensures in
    let g = grown_trans c.args.nodes.now c.add-first.new.nodes c.lay.new.nodes a.grown c.lay.ensures.grown in
    record {
      answered = record {
        grown = g;
        few = omega (arith, c.lay.ensures.more, a.count, a.place, p.cost);
        long = c.put_lines.ensures.long;
        lines = rw (p.lines, p.width) (written_says _ c.args.nodes.now c.add-first.new.nodes c.lay.new.nodes c.args.out.now c.put_lines.new.out (omega (arith, a.place)) a.grown c.lay.ensures c.put_lines.ensures ∙ sym (p.answers c.args.nodes.now));
        past = rw (p.lines, p.width) (drop_past (many (plan_of 16 c.of-shapes.result c.parts.result.now) * line_size (wide (plan_of 16 c.of-shapes.result c.parts.result.now))) c.args.out.now c.put_lines.new.out c.put_lines.ensures.long c.put_lines.ensures.past);
      };
      stays = stays c.args.lists.now c.of-shapes.result c.args.nodes.now c.lay.new.nodes c.of-shapes.ensures c.requires.passed.named g;
    }
