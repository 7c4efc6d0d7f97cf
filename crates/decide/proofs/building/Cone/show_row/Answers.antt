use Rattle.std.proofs.Common.{◌≡◌, ◌+◌, ◌-◌, [], ◌∷◌, length, sym, ap, ◌∙◌, arith, length-append}
use Rattle.std.specs.Iterator.Adapters.{rev_source}
use Rattle.list.specs.Lines.{lines_left}
use Rattle.list.proofs.Lined.{back_end}
use Rattle.decide.proofs.Kept.{same_self, same_on}
use Rattle.decide.proofs.Looked.{looked_back}
use Rattle.decide.proofs.Meaning.{showing_none, showing_pass, showing_more, room_here}
use Rattle.decide.proofs.building.Cone.show_row.Goals as goal

pub loop-line-init : goal.loop-line-init
loop-line-init c =
    let q = c.args.sought.now in let z : q.lines - 0 ≡ q.lines = omega arith in
    record { same = same_self c.args.self.now; showing = rw z (showing_none c.args.self.now.nodes.now q c.args.places.now c.args.self.now.begun) }

pub agrees-requires : goal.agrees-requires
agrees-requires c =
    let q = c.args.sought.now in let i = q.lines - length c.loop-line.yielded in
    let k = looked_back q c.into_iter-line-iterator.result c.loop-line.line-iterator c.next.new.self c.loop-line.yielded c.next.result c.in-Some.line
    (ap (λ s. lines_left (rev_source s)) c.into_iter-line-iterator.ensures.into_iter_gives ∙ (ap lines_left c.rev-line-items.ensures.source ∙ c.answer_lines.ensures))
    c.loop-line.yielded_by c.next.ensures.steps c.in-Some.is in
    k.1.wide

pub offset_bounds-places-node : goal.offset_bounds-places-node
offset_bounds-places-node c =
    let q = c.args.sought.now in let i = q.lines - length c.loop-line.yielded in
    let k = looked_back q c.into_iter-line-iterator.result c.loop-line.line-iterator c.next.new.self c.loop-line.yielded c.next.result c.in-Some.line
    (ap (λ s. lines_left (rev_source s)) c.into_iter-line-iterator.ensures.into_iter_gives ∙ (ap lines_left c.rev-line-items.ensures.source ∙ c.answer_lines.ensures))
    c.loop-line.yielded_by c.next.ensures.steps c.in-Some.is in
    omega (arith, c.node.ensures, k.1.stands, q.small)

pub bounds-places-node : goal.bounds-places-node
bounds-places-node c =
    let q = c.args.sought.now in let i = q.lines - length c.loop-line.yielded in
    let k = looked_back q c.into_iter-line-iterator.result c.loop-line.line-iterator c.next.new.self c.loop-line.yielded c.next.result c.in-Some.line
    (ap (λ s. lines_left (rev_source s)) c.into_iter-line-iterator.ensures.into_iter_gives ∙ (ap lines_left c.rev-line-items.ensures.source ∙ c.answer_lines.ensures))
    c.loop-line.yielded_by c.next.ensures.steps c.in-Some.is in
    let y = sym (rw k.1.is at c.agrees.ensures) ∙ c.if-agrees.true in
    rw (c.node.ensures, k.1.is) (c.requires.placed (i - 1) k.1.inside y).0

pub give_row-given-requires-clause-line : goal.give_row-given-requires-clause-line
give_row-given-requires-clause-line c =
    let q = c.args.sought.now in let i = q.lines - length c.loop-line.yielded in
    let k = looked_back q c.into_iter-line-iterator.result c.loop-line.line-iterator c.next.new.self c.loop-line.yielded c.next.result c.in-Some.line
    (ap (λ s. lines_left (rev_source s)) c.into_iter-line-iterator.ensures.into_iter_gives ∙ (ap lines_left c.rev-line-items.ensures.source ∙ c.answer_lines.ensures))
    c.loop-line.yielded_by c.next.ensures.steps c.in-Some.is in
    (k.1.wide, k.1.cells)

pub give_row-given-requires-clause-room : goal.give_row-given-requires-clause-room
give_row-given-requires-clause-room c =
    let q = c.args.sought.now in let i = q.lines - length c.loop-line.yielded in
    let k = looked_back q c.into_iter-line-iterator.result c.loop-line.line-iterator c.next.new.self c.loop-line.yielded c.next.result c.in-Some.line
    (ap (λ s. lines_left (rev_source s)) c.into_iter-line-iterator.ensures.into_iter_gives ∙ (ap lines_left c.rev-line-items.ensures.source ∙ c.answer_lines.ensures))
    c.loop-line.yielded_by c.next.ensures.steps c.in-Some.is in
    let y = sym (rw k.1.is at c.agrees.ensures) ∙ c.if-agrees.true in
    let s = c.loop-line.invariant.showing in
    omega (arith, k.0, room_here q i (omega (arith, k.0)) (omega arith) y, s.few, s.grown.long, c.requires.room)

pub both_of-here-requires-clause-stand : goal.both_of-here-requires-clause-stand
both_of-here-requires-clause-stand c =
    let q = c.args.sought.now in let i = q.lines - length c.loop-line.yielded in
    let k = looked_back q c.into_iter-line-iterator.result c.loop-line.line-iterator c.next.new.self c.loop-line.yielded c.next.result c.in-Some.line
    (ap (λ s. lines_left (rev_source s)) c.into_iter-line-iterator.ensures.into_iter_gives ∙ (ap lines_left c.rev-line-items.ensures.source ∙ c.answer_lines.ensures))
    c.loop-line.yielded_by c.next.ensures.steps c.in-Some.is in
    let y = sym (rw k.1.is at c.agrees.ensures) ∙ c.if-agrees.true in
    let p = c.requires.placed (i - 1) k.1.inside y in
    let m = c.give_row-given.ensures.means in
    (rw (c.node.ensures, k.1.is) (omega (arith, p.1, c.loop-line.invariant.showing.grown.long, m.grown.long)), m.stands)

pub both_of-here-requires-clause-room : goal.both_of-here-requires-clause-room
both_of-here-requires-clause-room c =
    let q = c.args.sought.now in let i = q.lines - length c.loop-line.yielded in
    let k = looked_back q c.into_iter-line-iterator.result c.loop-line.line-iterator c.next.new.self c.loop-line.yielded c.next.result c.in-Some.line
    (ap (λ s. lines_left (rev_source s)) c.into_iter-line-iterator.ensures.into_iter_gives ∙ (ap lines_left c.rev-line-items.ensures.source ∙ c.answer_lines.ensures))
    c.loop-line.yielded_by c.next.ensures.steps c.in-Some.is in
    let y = sym (rw k.1.is at c.agrees.ensures) ∙ c.if-agrees.true in
    let s = c.loop-line.invariant.showing in
    omega (arith, k.0, room_here q i (omega (arith, k.0)) (omega arith) y, s.few, s.grown.long, c.requires.room)

pub either_of-shown-requires-clause-room : goal.either_of-shown-requires-clause-room
either_of-shown-requires-clause-room c =
    let q = c.args.sought.now in let i = q.lines - length c.loop-line.yielded in
    let k = looked_back q c.into_iter-line-iterator.result c.loop-line.line-iterator c.next.new.self c.loop-line.yielded c.next.result c.in-Some.line
    (ap (λ s. lines_left (rev_source s)) c.into_iter-line-iterator.ensures.into_iter_gives ∙ (ap lines_left c.rev-line-items.ensures.source ∙ c.answer_lines.ensures))
    c.loop-line.yielded_by c.next.ensures.steps c.in-Some.is in
    let y = sym (rw k.1.is at c.agrees.ensures) ∙ c.if-agrees.true in
    let s = c.loop-line.invariant.showing in
    omega (arith, k.0, room_here q i (omega (arith, k.0)) (omega arith) y, s.few, s.grown.long, c.requires.room)

pub loop-line-preserved-then-agrees : goal.loop-line-preserved-then-agrees
loop-line-preserved-then-agrees c =
    let q = c.args.sought.now in let i = q.lines - length c.loop-line.yielded in
    let k = looked_back q c.into_iter-line-iterator.result c.loop-line.line-iterator c.next.new.self c.loop-line.yielded c.next.result c.in-Some.line
    (ap (λ s. lines_left (rev_source s)) c.into_iter-line-iterator.ensures.into_iter_gives ∙ (ap lines_left c.rev-line-items.ensures.source ∙ c.answer_lines.ensures))
    c.loop-line.yielded_by c.next.ensures.steps c.in-Some.is in
    let y = sym (rw k.1.is at c.agrees.ensures) ∙ c.if-agrees.true in
    let z : q.lines - (length c.loop-line.yielded + 1) ≡ i - 1 = omega arith in
    let g = c.give_row-given in let b = c.both_of-here in let e = c.either_of-shown in record {
      same = same_on c.loop-line.invariant.same (same_on g.ensures.same (same_on b.ensures.same e.ensures.same));
      showing = rw (length-append c.loop-line.yielded (c.in-Some.line ∷ []), z)
          (showing_more c.args.self.now.nodes.now c.loop-line.self.nodes.now g.new.self.nodes.now b.new.self.nodes.now e.new.self.nodes.now q c.args.places.now
          i c.loop-line.shown g.result b.result e.result (omega (arith, k.0)) (omega arith) y (c.requires.placed (i - 1) k.1.inside y).1 c.loop-line.invariant.showing
          (rw k.1.is at g.ensures.means) (rw (c.node.ensures, k.1.is) at b.ensures.built) e.ensures.built);
    }

pub loop-line-preserved : goal.loop-line-preserved
loop-line-preserved c =
    let q = c.args.sought.now in let i = q.lines - length c.loop-line.yielded in
    let k = looked_back q c.into_iter-line-iterator.result c.loop-line.line-iterator c.next.new.self c.loop-line.yielded c.next.result c.in-Some.line
    (ap (λ s. lines_left (rev_source s)) c.into_iter-line-iterator.ensures.into_iter_gives ∙ (ap lines_left c.rev-line-items.ensures.source ∙ c.answer_lines.ensures))
    c.loop-line.yielded_by c.next.ensures.steps c.in-Some.is in
    let z : q.lines - (length c.loop-line.yielded + 1) ≡ i - 1 = omega arith in
    let y = sym (rw k.1.is at c.agrees.ensures) ∙ c.if-agrees.false in record {
      same = c.loop-line.invariant.same;
      showing = rw (length-append c.loop-line.yielded (c.in-Some.line ∷ []), z)
          (showing_pass c.args.self.now.nodes.now c.loop-line.self.nodes.now q c.args.places.now i c.loop-line.shown (omega (arith, k.0)) (omega arith) y c.loop-line.invariant.showing);
    }

pub returns-clause-means : goal.returns-clause-means
returns-clause-means c =
    let q = c.args.sought.now in
    let n = back_end q.lines (length q.row.now) q.answer.now c.into_iter-line-iterator.result c.loop-line.line-iterator c.next.new.self c.loop-line.yielded c.next.result
    (ap (λ s. lines_left (rev_source s)) c.into_iter-line-iterator.ensures.into_iter_gives ∙ (ap lines_left c.rev-line-items.ensures.source ∙ c.answer_lines.ensures))
    c.loop-line.yielded_by c.next.ensures.steps c.in-None.is in
    let z : q.lines - length c.loop-line.yielded ≡ 0 = omega arith in
    (rw z at c.loop-line.invariant.showing).means
