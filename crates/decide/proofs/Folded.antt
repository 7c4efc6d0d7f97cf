-- Laws of folding: one more node of the store, marked or not.
use Rattle.std.proofs.Common.{◌≡◌, ℕ, ◌+◌, ◌-◌, ◌<◌, ◌≤◌, Bool, true, false, not, ◌≢◌, List, [], ◌∷◌, filter, length, get_or, set, sym, refl, ap, ◌∙◌, inl, inr, arith, get_or-set_other, get_or-set_same}
use Rattle.std.specs.List.{range_with_len}
use Rattle.std.proofs.lemmas.Bool.{both_ways, cases_lt, lt-ltb, le-ltb}
use Rattle.condition.specs.Cond.{Cond, cells_of}
use Rattle.condition.specs.Store.{earlier, count, cond_at}
use Rattle.condition.specs.Shapes.{node_of, Named}
use Rattle.condition.specs.Nodes.{decoded}
use Rattle.condition.specs.declared.Node.{Node}
use Rattle.condition.specs.declared.Node.TheVariants.{Always, Never, Equal, Not, Both, Either}
use Rattle.condition.proofs.Growing.{grown_self, grown_trans, grown_cond}
use Rattle.condition.proofs.Decoding.{at_decoded}
use Rattle.evaluate.specs.Filling.{Filling, holds}
use Rattle.evaluate.specs.Values.{value_of}
use Rattle.evaluate.proofs.Holding.{holds_never}
use Rattle.evaluate.proofs.Worked.{by_node}
use Rattle.decide.specs.Folding.{Begun, Over, Draws, truth, Built, place_in, renamed, PlaceOf, Folds}
use Rattle.decide.specs.Counting.{passing_below}
use Rattle.decide.specs.Reaching.{EachPlace, marked, Closed, marked_places, own_cells, Covers}
use Rattle.decide.proofs.Counted.{counted_yes, counted_more}
use Rattle.decide.proofs.Coverage.{covers_none, covers_left, covers_right}
use Rattle.decide.proofs.Noted.{own_equal}
use Rattle.decide.proofs.Reached.{own_covered}
use Rattle.decide.proofs.Places.{GoesOnAt, left_next, left_over}
use Rattle.decide.proofs.Simpler.{truth_never}

pub each_map : (n : Node) (P Q : ℕ → Type 0) → ((j : ℕ) → P j → Q j) → EachPlace n P → EachPlace n Q
each_map Always P Q f h = tt
each_map Never P Q f h = tt
each_map (Equal a b) P Q f h = tt
each_map (Not a) P Q f h = f a h
each_map (Both a b) P Q f h = (f a h.0, f b h.1)
each_map (Either a b) P Q f h = (f a h.0, f b h.1)

each_renamed : (f : ℕ → ℕ) (n : Node) (P : ℕ → Type 0) → EachPlace n (λ j. P (f j)) → EachPlace (renamed f n) P
each_renamed f Always P h = tt
each_renamed f Never P h = tt
each_renamed f (Equal a b) P h = tt
each_renamed f (Not a) P h = h
each_renamed f (Both a b) P h = h
each_renamed f (Either a b) P h = h

draws_renamed : (f : ℕ → ℕ) (n : Node) (ns gs : List ℕ) → Draws n ns gs → Draws (renamed f n) ns gs
draws_renamed f Always ns gs h = tt
draws_renamed f Never ns gs h = tt
draws_renamed f (Equal a b) ns gs h = h
draws_renamed f (Not a) ns gs h = tt
draws_renamed f (Both a b) ns gs h = tt
draws_renamed f (Either a b) ns gs h = tt

-- a node's value comes from those of the places that it names
value_renamed : (v : Filling) (f : ℕ → ℕ) (n : Node) (bs cs : ℕ → Bool) → EachPlace n (λ j. bs (f j) ≡ cs j) → value_of v (renamed f n) bs ≡ value_of v n cs
value_renamed v f Always bs cs h = refl
value_renamed v f Never bs cs h = refl
value_renamed v f (Equal a b) bs cs h = refl
value_renamed v f (Not a) bs cs h = ap not h
value_renamed v f (Both a b) bs cs h = rw (h.0, h.1) refl
value_renamed v f (Either a b) bs cs h = rw (h.0, h.1) refl

each_both : (n : Node) (P Q : ℕ → Type 0) → EachPlace n P → EachPlace n Q → EachPlace n (λ j. P j × Q j)
each_both Always P Q g h = tt
each_both Never P Q g h = tt
each_both (Equal a b) P Q g h = tt
each_both (Not a) P Q g h = (g, h)
each_both (Both a b) P Q g h = ((g.0, h.0), (g.1, h.1))
each_both (Either a b) P Q g h = ((g.0, h.0), (g.1, h.1))

-- what covers a node's condition covers those of the nodes that it names
named_covered : (ns gs : List ℕ) (n : Node) (go : ℕ → Cond) → Covers ns gs (cells_of (node_of n go)) → EachPlace n (λ j. Covers ns gs (cells_of (go j)))
unfolding cells_of
named_covered ns gs Always go c = tt
named_covered ns gs Never go c = tt
named_covered ns gs (Equal a b) go c = tt
named_covered ns gs (Not a) go c = c
named_covered ns gs (Both a b) go c = (covers_left ns gs (cells_of (go a)) (cells_of (go b)) c, covers_right ns gs (cells_of (go a)) (cells_of (go b)) c)
named_covered ns gs (Either a b) go c = (covers_left ns gs (cells_of (go a)) (cells_of (go b)) c, covers_right ns gs (cells_of (go a)) (cells_of (go b)) c)

-- a node compares only what its own cells are
pub draws_node : (ns gs : List ℕ) (n : Node) → Named n → Covers ns gs (own_cells n) → Draws n ns gs
draws_node ns gs Always h c = tt
draws_node ns gs Never h c = tt
draws_node ns gs (Equal a b) h c = rw (own_equal a b h) at c
draws_node ns gs (Not a) h c = tt
draws_node ns gs (Both a b) h c = tt
draws_node ns gs (Either a b) h c = tt

-- past places that are not marked
pub folds_past : (nodes : List ℕ) (i n : ℕ) (marks : List Bool) (xs ys ps : List ℕ) → Folds nodes i marks xs ys ps → i ≤ n → ((k : ℕ) → i ≤ k → k < n → get_or marks k false ≡ false) → Folds nodes n marks xs ys ps
folds_past nodes i n marks xs ys ps folds low gap = record {
  grown = folds.grown;
  few = omega (arith, folds.few, counted_more i n (marked marks) low);
  stand = λ k l m. elim (cases_lt k i) [
    | inl p ↦ folds.stand k p m
    | inr p ↦ absurd (both_ways (get_or marks k false) (gap k p l) m)
  ];
  value = λ k l m v. elim (cases_lt k i) [
    | inl p ↦ folds.value k p m v
    | inr p ↦ absurd (both_ways (get_or marks k false) (gap k p l) m)
  ];
  inside = λ k l m. elim (cases_lt k i) [
    | inl p ↦ folds.inside k p m
    | inr p ↦ absurd (both_ways (get_or marks k false) (gap k p l) m)
  ];
  onto = λ j a b. let o : PlaceOf i marks ps j = folds.onto j a b in (o.0, omega (arith, o.1), o.2, o.3);
  covered = λ ns gs c d. folds.covered ns gs c (λ k l. d k (omega arith));
}

-- the marked ones were folded up to where the walk over them goes on
pub record FoldedTo (nodes : List ℕ) (n : ℕ) (marks : List Bool) (left xs ys ps : List ℕ) : Type 0 where
  pub at : ℕ
  pub inside : at ≤ n
  pub rest : left ≡ filter (marked marks) (range_with_len at (n - at))
  pub folds : Folds nodes at marks xs ys ps

folds_none : (nodes : List ℕ) (marks : List Bool) (xs ps : List ℕ) → Begun xs → Folds nodes 0 marks xs xs ps
folds_none nodes marks xs ps begun = record {
  grown = grown_self xs begun.fits;
  few = omega arith;
  stand = λ k l m. absurd (omega arith);
  value = λ k l m v. absurd (omega arith);
  inside = λ k l m. absurd (omega arith);
  onto = λ j a b. absurd (omega arith);
  covered = λ ns gs c d. c;
}

pub folded_none : (nodes : List ℕ) (n : ℕ) (marks : List Bool) (left xs ps : List ℕ) → Begun xs → left ≡ marked_places marks n → FoldedTo nodes n marks left xs xs ps
unfolding passing_below
folded_none nodes n marks left xs ps begun e = record {
  at = 0;
  inside = omega arith;
  rest = let z : n - 0 ≡ n = omega arith in rw z e;
  folds = folds_none nodes marks xs ps begun;
}

pub folded_at : {nodes : List ℕ} {n : ℕ} {marks : List Bool} {left xs ys ps : List ℕ} {i : ℕ} {rest : List ℕ} (f : FoldedTo nodes n marks left xs ys ps) → left ≡ i ∷ rest →
    GoesOnAt (marked marks) f.at n i rest
folded_at {n = n} {marks = marks} {i = i} {rest = rest} f e = left_next (marked marks) f.at n i rest (sym f.rest ∙ e)

pub folded_here : {nodes : List ℕ} {n : ℕ} {marks : List Bool} {left xs ys ps : List ℕ} {i : ℕ} {rest : List ℕ} (f : FoldedTo nodes n marks left xs ys ps) → left ≡ i ∷ rest →
    Folds nodes i marks xs ys ps
folded_here {nodes} {marks = marks} {xs = xs} {ys} {ps} {i} f e = let g = folded_at f e in folds_past nodes f.at i marks xs ys ps f.folds g.from g.gap

pub folded_all : {nodes : List ℕ} {n : ℕ} {marks : List Bool} {left xs ys ps : List ℕ} (f : FoldedTo nodes n marks left xs ys ps) → left ≡ [] → Folds nodes n marks xs ys ps
folded_all {nodes} {n} {marks} {left} {xs} {ys} {ps} f e = folds_past nodes f.at n marks xs ys ps f.folds f.inside (left_over (marked marks) f.at n (sym f.rest ∙ e))

-- the marked node that was reached, over places of the cone
module _ (nodes : List ℕ) (i n : ℕ) (marks : List Bool) (xs ys ps : List ℕ) (begun : Begun ys) (folds : Folds nodes i marks xs ys ps) (closed : Closed nodes n marks) (low : i < n)
    (set_here : get_or marks i false ≡ true) where
  -- what it names stands in the cone
  pub over_here : Over ys (renamed (place_in i ps) (decoded nodes i))
  over_here =
      each_renamed (place_in i ps) (decoded nodes i) (λ j. j < count ys)
      (each_map (decoded nodes i) (λ j. j < i → get_or marks j false ≡ true) (λ j. place_in i ps j < count ys) place_stands (closed i low set_here))
    where
      place_stands : (j : ℕ) → (j < i → get_or marks j false ≡ true) → place_in i ps j < count ys
      place_stands j h = elim (cases_lt j i) [
        | inl l ↦ rw (lt-ltb j i l) (folds.stand j l (h l))
        | inr l ↦ rw (le-ltb j i l) (omega (arith, begun.two))
      ]

  place_says : (v : Filling) (j : ℕ) → (j < i → get_or marks j false ≡ true) → truth ys v (place_in i ps j) ≡ holds v (earlier i (cond_at nodes) j)
  place_says v j h = elim (cases_lt j i) [
    | inl l ↦ rw (lt-ltb j i l) (folds.value j l (h l) v)
    | inr l ↦ rw (le-ltb j i l) (truth_never ys begun v ∙ sym (holds_never v))
  ]

  place_inside : (ns gs : List ℕ) (j : ℕ) → Covers ns gs (cells_of (earlier i (cond_at nodes) j)) × (j < i → get_or marks j false ≡ true) → Covers ns gs (cells_of (cond_at ys (place_in i ps j)))
  unfolding cells_of
  place_inside ns gs j h = elim (cases_lt j i) [
    | inl l ↦ rw (lt-ltb j i l) (folds.inside j l (h.1 l) ns gs (rw (lt-ltb j i l) at h.0))
    | inr l ↦ rw (le-ltb j i l, begun.second) (covers_none ns gs)
  ]

  module _ (stands : i < count nodes) (named : Named (decoded nodes i)) (zs : List ℕ) (r : ℕ) (built : Built ys zs (renamed (place_in i ps) (decoded nodes i)) r) (long : i < length ps) where
    here : (v : Filling) → holds v (cond_at zs r) ≡ holds v (cond_at nodes i)
    here v =
        built.value v
        ∙ (value_renamed v (place_in i ps) (decoded nodes i) (truth ys v) (λ j. holds v (earlier i (cond_at nodes) j))
        (each_map (decoded nodes i) (λ j. j < i → get_or marks j false ≡ true) (λ j. truth ys v (place_in i ps j) ≡ holds v (earlier i (cond_at nodes) j)) (place_says v) (closed i low set_here))
        ∙ (by_node v (decoded nodes i) named (λ j. holds v (earlier i (cond_at nodes) j)) (earlier i (cond_at nodes)) (λ j. refl)
        ∙ ap (holds v) (sym (at_decoded nodes i stands))))

    inside_here : (ns gs : List ℕ) → Covers ns gs (cells_of (cond_at nodes i)) → Covers ns gs (cells_of (cond_at zs r))
    inside_here ns gs c =
        let node = decoded nodes i in let go = earlier i (cond_at nodes) in
        let d : Covers ns gs (cells_of (node_of node go)) = rw (at_decoded nodes i stands) at c in
        built.inside ns gs (
          draws_renamed (place_in i ps) node ns gs (draws_node ns gs node named (own_covered ns gs node i (cond_at nodes) d)),
          each_renamed (place_in i ps) node (λ j. Covers ns gs (cells_of (cond_at ys j)))
              (each_map node (λ j. Covers ns gs (cells_of (go j)) × (j < i → get_or marks j false ≡ true)) (λ j. Covers ns gs (cells_of (cond_at ys (place_in i ps j)))) (place_inside ns gs)
              (each_both node (λ j. Covers ns gs (cells_of (go j))) (λ j. j < i → get_or marks j false ≡ true) (named_covered ns gs node go d) (closed i low set_here))),
        )

    pub folds_more : Folds nodes (i + 1) marks xs zs (set ps i r)
    folds_more = record {
      grown = grown_trans xs ys zs folds.grown built.grown;
      few = omega (arith, folds.few, built.few, counted_yes i (marked marks) set_here);
      stand = λ k l m. elim (cases_lt k i) [
        | inl p ↦ let ne : k ≢ i = omega arith in rw get_or-set_other (omega (arith, folds.stand k p m, built.grown.more))
        | inr p ↦ let q : k ≡ i = omega arith in rw (q, get_or-set_same ps i r 0 long) built.stands
      ];
      value = λ k l m v. elim (cases_lt k i) [
        | inl p ↦ let ne : k ≢ i = omega arith in rw get_or-set_other (ap (holds v) (grown_cond ys zs built.grown (get_or ps k 0) (folds.stand k p m)) ∙ folds.value k p m v)
        | inr p ↦ let q : k ≡ i = omega arith in rw (q, get_or-set_same ps i r 0 long) (here v)
      ];
      inside = λ k l m. elim (cases_lt k i) [
        | inl p ↦ let ne : k ≢ i = omega arith in rw (get_or-set_other, grown_cond ys zs built.grown (get_or ps k 0) (folds.stand k p m)) (folds.inside k p m)
        | inr p ↦ let q : k ≡ i = omega arith in rw (q, get_or-set_same ps i r 0 long) inside_here
      ];
      onto = λ j a b. elim (cases_lt j (count ys)) [
        | inl p ↦
            let o : PlaceOf i marks ps j = folds.onto j a p in let ne : o.0 ≢ i = omega (arith, o.1) in
            (o.0, omega (arith, o.1), o.2, get_or-set_other ps i o.0 r 0 ne ∙ o.3)
        | inr p ↦ (i, omega arith, set_here, get_or-set_same ps i r 0 long ∙ built.new j p b)
      ];
      covered = λ ns gs c d. built.covered ns gs (folds.covered ns gs c (λ k l. d k (omega arith))) (draws_renamed (place_in i ps) (decoded nodes i) ns gs (d i (omega arith) set_here));
    }
