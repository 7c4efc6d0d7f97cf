use Rattle.std.proofs.Common.{◌≡◌, ◌+◌, false, ◌≢◌, get_or, refl, ap, ◌∙◌, subst, arith, get_or-set_other}
use Rattle.std.proofs.lemmas.Bool.{both_ways}
use Rattle.condition.specs.Nodes.{decoded}
use Rattle.condition.specs.Shapes.{Named}
use Rattle.condition.specs.declared.Node.{Node}
use Rattle.decide.specs.Folding.{Built, place_in, renamed}
use Rattle.decide.specs.Marked.{places_left}
use Rattle.decide.specs.Reaching.{marked}
use Rattle.decide.proofs.Counted.{counted_yes, counted_more}
use Rattle.decide.proofs.Folded.{folded_none, folded_at, folded_here, folded_all, over_here, folds_more}
use Rattle.decide.proofs.Kept.{same_self, same_on}
use Rattle.decide.proofs.building.Cone.fold.Goals as goal

pub loop-i-init : goal.loop-i-init
loop-i-init c = record {
  same = same_self c.args.self.now;
  folded = folded_none c.args.nodes.now c.args.n c.args.marks.now (places_left c.into_iter-i-iterator.result) c.args.self.now.nodes.now c.args.places.now c.args.self.now.begun
      (ap places_left c.into_iter-i-iterator.ensures.into_iter_gives ∙ c.places-i-items.ensures);
  unmarked = λ j h. refl;
  past = λ j h. refl;
}

pub node-requires : goal.node-requires
node-requires c = (folded_at c.loop-i.invariant.folded c.in-Some.ensures.steps).inside

pub renamed-requires : goal.renamed-requires
renamed-requires c = let g = folded_at c.loop-i.invariant.folded c.in-Some.ensures.steps in omega (arith, g.inside, c.requires.places)

pub build-requires-clause-room : goal.build-requires-clause-room
build-requires-clause-room c =
    let i = c.in-Some.i in let marks = c.args.marks.now in
    let g = folded_at c.loop-i.invariant.folded c.in-Some.ensures.steps in let f = folded_here c.loop-i.invariant.folded c.in-Some.ensures.steps in
    omega (arith, f.few, f.grown.long, c.requires.room, counted_yes i (marked marks) g.passes, counted_more (i + 1) c.args.n (marked marks) (omega (arith, g.inside)))

pub build-requires-clause-over : goal.build-requires-clause-over
build-requires-clause-over c =
    let nodes = c.args.nodes.now in let i = c.in-Some.i in let cone = c.loop-i.self in let ps = c.loop-i.places in
    let g = folded_at c.loop-i.invariant.folded c.in-Some.ensures.steps in
    rw (c.renamed.ensures, c.node.ensures.read) (over_here nodes i c.args.n c.args.marks.now c.args.self.now.nodes.now cone.nodes.now ps cone.begun
    (folded_here c.loop-i.invariant.folded c.in-Some.ensures.steps) c.requires.closed g.inside g.passes)

pub loop-i-preserved : goal.loop-i-preserved
loop-i-preserved c =
    let nodes = c.args.nodes.now in let i = c.in-Some.i in let n = c.args.n in let marks = c.args.marks.now in
    let xs = c.args.self.now.nodes.now in let cone = c.loop-i.self in let ps = c.loop-i.places in let inv = c.loop-i.invariant in
    let g = folded_at inv.folded c.in-Some.ensures.steps in let f = folded_here inv.folded c.in-Some.ensures.steps in
    let q : c.node.result ≡ decoded nodes i = c.node.ensures.read in
    let e : c.renamed.result ≡ renamed (place_in i ps) (decoded nodes i) = c.renamed.ensures ∙ ap (renamed (place_in i ps)) q in
    let m : Named (decoded nodes i) = subst Named q c.node.ensures.named in
    let zs = c.build.new.self.nodes.now in
    let b : Built cone.nodes.now zs (renamed (place_in i ps) (decoded nodes i)) c.build.result = subst (λ (k : Node). Built cone.nodes.now zs k c.build.result) e c.build.ensures.built in
    record {
      same = same_on inv.same c.build.ensures.same;
      folded = record {
        at = i + 1;
        inside = omega (arith, g.inside);
        rest = g.left;
        folds = folds_more nodes i n marks xs cone.nodes.now ps cone.begun f c.requires.closed g.inside g.passes (omega (arith, g.inside, c.requires.stand.0)) m zs c.build.result b
            (omega (arith, g.inside, c.requires.places));
      };
      unmarked = λ j h. let ne : j ≢ i = λ q. both_ways (get_or marks j false) h (rw q g.passes) in rw get_or-set_other (inv.unmarked j h);
      past = λ j h. let ne : j ≢ i = omega (arith, g.inside) in rw get_or-set_other (inv.past j h);
    }

pub bounds-places-i : goal.bounds-places-i
bounds-places-i c = let g = folded_at c.loop-i.invariant.folded c.in-Some.ensures.steps in omega (arith, g.inside, c.requires.places)

pub offset_bounds-places-i : goal.offset_bounds-places-i
offset_bounds-places-i c = let b = bounds-places-i c in omega (arith, b)

pub returns-clause-folds : goal.returns-clause-folds
returns-clause-folds c = folded_all c.loop-i.invariant.folded c.in-None.ensures.steps.0
