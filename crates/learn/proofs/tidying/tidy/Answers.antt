use Rattle.std.proofs.Common.{rules, ℕ, ◌<◌, Bool, ap, sym, ◌∙◌, subst, arith}
use Rattle.condition.specs.Store.{count, room_told}
use Rattle.condition.proofs.Lists.{eqb_self}
use Rattle.decide.specs.Reaching.{marked}
use Rattle.learn.specs.Copying.{TidiedAll}
use Rattle.learn.specs.Tidying.{reached_count, one}
use Rattle.learn.proofs.Tidied.{same_test, tidied_one, told_room}
use Rattle.learn.proofs.tidying.tidy.Goals as goal

pub returns-in_err-moves-clause-refusal : goal.returns-in_err-moves-clause-refusal
returns-in_err-moves-clause-refusal c =
    let e = same_test (marked c.mark_one-roots.result) (one c.args.node) c.mark_one-roots.ensures in
    let l : c.args.node < count c.args.nodes.now = omega (arith, c.in_ok-count.ensures.value.0) in
    let h = rw (e, ← told_room c.args.nodes.now c.args.node c.in_ok-count.ensures.refusal l) at c.in_err-moves.ensures.refusal in
    search rules

pub place-requires-clause-place : goal.place-requires-clause-place
place-requires-clause-place c =
    c.in_ok-moves.ensures.tidied.place c.args.node (omega (arith, c.in_ok-count.ensures.value.0)) (c.mark_one-roots.ensures c.args.node ∙ eqb_self c.args.node)

pub returns-clause-refusal : goal.returns-clause-refusal
returns-clause-refusal c =
    let nodes = c.args.nodes.now in
    let e = same_test (marked c.mark_one-roots.result) (one c.args.node) c.mark_one-roots.ensures in
    told_room nodes c.args.node c.in_ok-count.ensures.refusal (omega (arith, c.in_ok-count.ensures.value.0))
    ∙ (ap (λ p. room_told nodes (reached_count nodes p)) (sym e) ∙ c.in_ok-moves.ensures.refusal)

pub returns-clause-tidied : goal.returns-clause-tidied
returns-clause-tidied c =
    let e = same_test (marked c.mark_one-roots.result) (one c.args.node) c.mark_one-roots.ensures in
    let m = c.in_ok-moves.moves in
    rw c.place.ensures (tidied_one c.args.nodes.now c.args.node c.tidy_marked.new.nodes m.places.items m.copies.items (omega (arith, c.in_ok-count.ensures.value.0))
    (subst (λ (p : ℕ → Bool). TidiedAll c.args.nodes.now p c.tidy_marked.new.nodes m.places.items m.copies.items) e c.in_ok-moves.ensures.tidied))
