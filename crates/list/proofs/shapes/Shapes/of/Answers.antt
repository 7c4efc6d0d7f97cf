use Rattle.std.proofs.Common.{◌<◌, length, get_or, refl, arith, length-set, length-take}
use Rattle.std.proofs.lemmas.List.{get_or_append_left}
use Rattle.list.specs.Bounds.{no_shape}
use Rattle.list.proofs.Fitting.{fitted}
use Rattle.list.proofs.Walking.{walked_none, walked_fits, walked_past, walked_shaped, shaped_more}
use Rattle.list.proofs.shapes.Shapes.of.Goals as goal

pub loop-shape-init : goal.loop-shape-init
loop-shape-init c = (walked_none c.args.lists.now c.requires, simp length-take (omega (arith, (fitted c.args.lists.now c.requires).few)), λ j h. absurd (omega arith))

pub read_shape-requires-clause-fits : goal.read_shape-requires-clause-fits
read_shape-requires-clause-fits c =
    walked_fits c.args.lists.now c.loop-shape.shape-index c.loop-shape.at (omega (arith, c.loop-shape.invariant.1, c.loop-shape-test.true)) c.loop-shape.invariant.0

pub loop-shape-preserved : goal.loop-shape-preserved
loop-shape-preserved c =
    let e = c.read_shape.ensures in let i = c.loop-shape.shape-index in
    let l : i < length c.loop-shape.shape-items = omega (arith, c.loop-shape-test.true) in
    let m : i < get_or c.args.lists.now 0 0 = omega (arith, c.loop-shape.invariant.1) in (
      rw c.line_size.ensures (walked_past c.args.lists.now i c.loop-shape.at c.read_shape.result m c.loop-shape.invariant.0 e.at e.lines e.width),
      simp length-set c.loop-shape.invariant.1,
      shaped_more c.args.lists.now c.loop-shape.shape-items i c.read_shape.result l c.loop-shape.invariant.2
          (walked_shaped c.args.lists.now i c.loop-shape.at c.read_shape.result m c.loop-shape.invariant.0 e.at e.lines e.width),
    )

pub returns : goal.returns
returns c =
    let f = fitted c.args.lists.now c.requires in record {
      count = refl;
      some = f.some;
      few = f.few;
      each = λ t h.
          let l : t < length c.loop-shape.shape-items = omega (arith, c.loop-shape.invariant.1) in
          rw (get_or_append_left c.loop-shape.shape-items _ no_shape t l) (c.loop-shape.invariant.2 t (omega (arith, c.loop-shape-test.false, c.loop-shape.auto.shape-items)));
    }

pub invariant_of-result : goal.invariant_of-result
invariant_of-result c =
    let f = fitted c.args.lists.now c.requires in record {
      few = f.few;
      small = λ t h.
          let l : t < length c.loop-shape.shape-items = omega (arith, c.loop-shape.invariant.1) in
          let s = c.loop-shape.invariant.2 t (omega (arith, c.loop-shape-test.false, c.loop-shape.auto.shape-items)) in
          rw (get_or_append_left c.loop-shape.shape-items _ no_shape t l) (record { lines = s.few; width = s.narrow });
    }
