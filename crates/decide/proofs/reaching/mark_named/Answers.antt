use Rattle.std.proofs.Common.{◌≡◌, ltb, [], ◌∷◌, refl, inl, inr}
use Rattle.decide.specs.Reaching.{marked, places_of}
use Rattle.decide.proofs.Reached.{named_none, named_one, named_two}
use Rattle.decide.proofs.reaching.mark_named.Goals as goal

pub returns-in-Always : goal.returns-in-Always
returns-in-Always c =
    let e : places_of c.args.node ≡ [] = elim c.in-Always.is [ inl e ↦ rw e refl | inr (inl e) ↦ rw e refl | inr (inr e) ↦ rw e.2 refl ] in
    λ j. rw e (named_none (marked c.args.marks.now j) (ltb j c.args.i) j)

pub returns-in-Not : goal.returns-in-Not
returns-in-Not c = λ j. rw c.in-Not.is (named_one (marked c.args.marks.now j) _ (ltb j c.args.i) c.in-Not.a j (c.mark.ensures j))

pub returns-in-Both : goal.returns-in-Both
returns-in-Both c =
    let e : places_of c.args.node ≡ (c.in-Both.a ∷ (c.in-Both.b ∷ [])) = elim c.in-Both.is [ inl e ↦ rw e refl | inr e ↦ rw e refl ] in
    λ j. rw e (named_two (marked c.args.marks.now j) _ _ (ltb j c.args.i) c.in-Both.a c.in-Both.b j (c.mark-in-Both.ensures j) (c.mark-in-Both-2.ensures j))
