-- Laws of cones: what stands in a grown cone, and a node found in a cone or added to it.
use Rattle.std.proofs.Common.{◌≡◌, ℕ, zero, suc, ◌+◌, ◌*◌, ◌<◌, true, List, sym, refl, ap, ◌∙◌, subst, inl, inr, arith}
use Rattle.std.proofs.lemmas.Bool.{cases_lt, lt-ltb, and_from}
use Rattle.condition.specs.Cond.{Cond, cells_of}
use Rattle.condition.specs.Store.{count, cond_at, Grown}
use Rattle.condition.specs.Shapes.{node_of, Named}
use Rattle.condition.specs.Nodes.{decoded, behind, Added, StandsAs}
use Rattle.condition.specs.declared.Node.{Node}
use Rattle.condition.specs.declared.Node.TheVariants.{Always, Never, Equal, Not, Both, Either}
use Rattle.condition.proofs.Growing.{grown_self, grown_cond}
use Rattle.condition.proofs.Decoding.{stands_means}
use Rattle.condition.proofs.Added.{added_decoded}
use Rattle.evaluate.specs.Filling.{Filling, holds}
use Rattle.evaluate.specs.Values.{value_of}
use Rattle.evaluate.proofs.Worked.{by_node}
use Rattle.decide.specs.Building.{Interned}
use Rattle.decide.specs.Reaching.{EachPlace, Covers}
use Rattle.decide.proofs.Coverage.{covers_none, covers_both}
use Rattle.decide.specs.Folding.{Begun, Neat, Tidy, Covered, Draws, truth, Says, StandsFor, Built}

-- what stands in a grown store is read as it was
pub grown_decoded : (xs ys : List ℕ) → Grown xs ys → (i : ℕ) → i < count xs → decoded ys i ≡ decoded xs i
grown_decoded xs ys g i l =
    rw (g.front (1 + 5 * i) (omega arith) (omega arith), g.front (1 + 5 * i + 1) (omega arith) (omega arith), g.front (1 + 5 * i + 2) (omega arith) (omega arith), g.front (1 + 5 * i + 3) (omega arith) (omega arith), g.front (1 + 5 * i + 4) (omega arith) (omega arith)) refl

-- a neat node stands behind all that it names
pub neat_behind : (i : ℕ) (n : Node) → Neat i n → behind n i ≡ true
neat_behind i Always h = absurd h
neat_behind i Never h = absurd h
neat_behind i (Equal a b) h = refl
neat_behind i (Not a) h = lt-ltb a i h.1
neat_behind i (Both a b) h = and_from _ _ (lt-ltb a i (omega (arith, h.1, h.2))) (lt-ltb b i h.2)
neat_behind i (Either a b) h = and_from _ _ (lt-ltb a i (omega (arith, h.1, h.2))) (lt-ltb b i h.2)

-- the cells of a node's condition are its own, and those of what it names
covers_node : (ns gs : List ℕ) (xs : List ℕ) (n : Node) → Neat (count xs) n → Named n → Covered xs ns gs → Draws n ns gs → Covers ns gs (cells_of (node_of n (cond_at xs)))
unfolding cells_of
covers_node ns gs xs Always h m c d = covers_none ns gs
covers_node ns gs xs Never h m c d = covers_none ns gs
covers_node ns gs xs (Equal a b) h m c d = rw (m.0, m.1) d
covers_node ns gs xs (Not a) h m c d = c a h.1
covers_node ns gs xs (Both a b) h m c d = covers_both ns gs (cells_of (cond_at xs a)) (cells_of (cond_at xs b)) (c a (omega (arith, h.1, h.2))) (c b h.2)
covers_node ns gs xs (Either a b) h m c d = covers_both ns gs (cells_of (cond_at xs a)) (cells_of (cond_at xs b)) (c a (omega (arith, h.1, h.2))) (c b h.2)

covers_of : (ns gs : List ℕ) (n : Node) (go : ℕ → Cond) → Named n → Draws n ns gs → EachPlace n (λ j. Covers ns gs (cells_of (go j))) → Covers ns gs (cells_of (node_of n go))
unfolding cells_of
covers_of ns gs Always go m d e = covers_none ns gs
covers_of ns gs Never go m d e = covers_none ns gs
covers_of ns gs (Equal a b) go m d e = rw (m.0, m.1) d
covers_of ns gs (Not a) go m d e = e
covers_of ns gs (Both a b) go m d e = covers_both ns gs (cells_of (go a)) (cells_of (go b)) e.0 e.1
covers_of ns gs (Either a b) go m d e = covers_both ns gs (cells_of (go a)) (cells_of (go b)) e.0 e.1

-- a place that stands already
pub built_kept : (xs : List ℕ) (n : Node) (r : ℕ) → Begun xs → Says xs n r → Built xs xs n r
built_kept xs n r b s = record {
  grown = grown_self xs b.fits;
  few = omega arith;
  stands = s.stands;
  value = s.value;
  inside = s.inside;
  new = λ j p q. absurd (omega arith);
  covered = λ ns gs c d. c;
}

node_says : (xs : List ℕ) (n : Node) → Named n → (c : Cond) → c ≡ node_of n (cond_at xs) → (v : Filling) → holds v c ≡ value_of v n (truth xs v)
node_says xs n m c e v = ap (holds v) e ∙ sym (by_node v n m (truth xs v) (cond_at xs) (λ j. refl))

pub built_found : (xs : List ℕ) (n : Node) (r : ℕ) → Begun xs → Named n → StandsAs xs r n → Built xs xs n r
built_found xs n r b m s = built_kept xs n r b (record {
  stands = s.stands;
  value = node_says xs n m (cond_at xs r) (stands_means xs r n s);
  inside = λ ns gs d. rw (stands_means xs r n s) (covers_of ns gs n (cond_at xs) m d.0 d.1);
})

pub tidy_added : (xs ys : List ℕ) (n : Node) (r : ℕ) → Tidy xs → Neat (count xs) n → Named n → Added xs ys n r → Tidy ys
tidy_added xs ys n r t h m a i p q = elim (cases_lt i (count xs)) [
  | inl l ↦ rw (grown_decoded xs ys a.grown i l) (t i p l)
  | inr l ↦ let e : i ≡ r = omega (arith, a.place, a.more) in rw (e, added_decoded xs ys n r a m, a.place) h
]

pub built_added : (xs ys : List ℕ) (n : Node) (r : ℕ) → Neat (count xs) n → Named n → Added xs ys n r → Built xs ys n r
built_added xs ys n r h m a = record {
  grown = a.grown;
  few = omega (arith, a.place, a.more);
  stands = omega (arith, a.more);
  value = node_says xs n m (cond_at ys r) a.new;
  inside = λ ns gs d. rw a.new (covers_of ns gs n (cond_at xs) m d.0 d.1);
  new = λ j p q. omega (arith, a.place, a.more);
  covered = λ ns gs c d j q. elim (cases_lt j (count xs)) [
    | inl l ↦ rw (grown_cond xs ys a.grown j l) (c j l)
    | inr l ↦ let e : j ≡ r = omega (arith, a.place, a.more) in rw (e, a.new) (covers_node ns gs xs n h m c d)
  ];
}

-- a cone that grows is begun still
pub grown_begun : (xs ys : List ℕ) → Grown xs ys → Begun xs → Begun ys
grown_begun xs ys g b = record {
  fits = g.fits;
  two = omega (arith, g.more, b.two);
  first = grown_cond xs ys g 0 (omega (arith, b.two)) ∙ b.first;
  second = grown_cond xs ys g 1 (omega (arith, b.two)) ∙ b.second;
}

-- a node that was found or added
module _ (xs ys : List ℕ) (n : Node) (r : ℕ) where
  pub begun_interned : Begun xs → Interned xs ys n r → Begun ys
  begun_interned b (inl f) = subst Begun (sym f.0) b
  begun_interned b (inr a) = grown_begun xs ys a.grown b

  pub tidy_interned : Tidy xs → Neat (count xs) n → Named n → Interned xs ys n r → Tidy ys
  tidy_interned t h m (inl f) = subst Tidy (sym f.0) t
  tidy_interned t h m (inr a) = tidy_added xs ys n r t h m a

  pub built_interned : Begun xs → Neat (count xs) n → Named n → Interned xs ys n r → Built xs ys n r
  built_interned b h m (inl f) = subst (λ (t : List ℕ). Built xs t n r) (sym f.0) (built_found xs n r b m f.1)
  built_interned b h m (inr a) = built_added xs ys n r h m a

  pub interned_says : Interned xs ys n r → cond_at ys r ≡ node_of n (cond_at xs)
  interned_says (inl f) = ap (λ t. cond_at t r) f.0 ∙ stands_means xs r n f.1
  interned_says (inr a) = a.new

-- a node built for another that holds where it does
pub built_for : (xs ys : List ℕ) (n m : Node) (r : ℕ) → StandsFor xs n m → Built xs ys m r → Built xs ys n r
built_for xs ys n m r s b = record {
  grown = b.grown;
  few = b.few;
  stands = b.stands;
  value = λ v. b.value v ∙ s.value v;
  inside = λ ns gs d. b.inside ns gs (s.places ns gs d);
  new = b.new;
  covered = λ ns gs c d. b.covered ns gs c (s.draws ns gs d);
}

-- always and never name no numbers and no gaps
pub two_covered : (xs : List ℕ) → Begun xs → count xs ≡ 2 → (ns gs : List ℕ) → Covered xs ns gs
unfolding cells_of
two_covered xs b e ns gs zero l = rw b.first (covers_none ns gs)
two_covered xs b e ns gs (suc zero) l = rw b.second (covers_none ns gs)
two_covered xs b e ns gs (suc (suc j)) l = absurd (omega arith)
