-- Marking what conditions reach: what is marked, and the cells that stand there.
use Rattle.std.proofs.Common.{◌≡◌, ℕ, zero, suc, ◌+◌, ◌<◌, ◌≤◌, Bool, true, false, ◌&&◌, ◌||◌, eqb, ltb, ◌⊎◌, List, [], ◌∷◌, sym, refl, ap, ◌∙◌, subst, inl, inr, ⊎_elim, arith}
use Rattle.std.proofs.lemmas.Bool.{both_ways, cases_lt, cases_eq, cases_Bool, ltb-true, lt-ltb, le-ltb, eqb-true, and_parts, and_from, or_cases, or_left, or_right}
use Rattle.condition.specs.Cond.{Cond, cells_of, numbers_in, gaps_in, has}
use Rattle.condition.specs.Store.{count, earlier, cond_at}
use Rattle.condition.specs.Shapes.{node_of}
use Rattle.condition.specs.Nodes.{decoded}
use Rattle.condition.specs.declared.Node.{Node}
use Rattle.condition.specs.declared.Node.TheVariants.{Always, Never, Equal, Not, Both, Either}
use Rattle.condition.proofs.Lists.{has_none, has_cons, has_head, has_tail}
use Rattle.condition.proofs.Decoding.{at_decoded}
use Rattle.decide.specs.Reaching.{places_of, EachPlace, own_cells, marked, names, reached, Closed, marked_cells, Covers, AllCovered}
use Rattle.decide.proofs.Coverage.{covers_none, covers_both, covers_left, covers_right, covers_self, covers_before, covers_behind}
use Rattle.decide.proofs.Passing.{marked_none, marked_more, marked_pass}

pub named_none : (m t : Bool) (j : ℕ) → m ≡ (m || (t && has [] j))
unfolding has
named_none true t j = refl
named_none false true j = refl
named_none false false j = refl

pub named_one : (m k t : Bool) (a j : ℕ) → k ≡ (m || (t && eqb a j)) → k ≡ (m || (t && has (a ∷ []) j))
unfolding has
named_one m k t a j e = e ∙ go (eqb a j)
  where
    go : (b : Bool) → (m || (t && b)) ≡ (m || (t && (b || false)))
    go true = refl
    go false = refl

pub named_two : (m k l t : Bool) (a b j : ℕ) → k ≡ (m || (t && eqb a j)) → l ≡ (k || (t && eqb b j)) → l ≡ (m || (t && has (a ∷ (b ∷ [])) j))
unfolding has
named_two m k l t a b j e f = f ∙ (ap (λ x. x || (t && eqb b j)) e ∙ go m t (eqb a j) (eqb b j))
  where
    go : (m t x y : Bool) → ((m || (t && x)) || (t && y)) ≡ (m || (t && (x || (y || false))))
    go true t x y = refl
    go false true true y = refl
    go false true false true = refl
    go false true false false = refl
    go false false x y = refl

-- one of the places that a node names
one_place : (a j : ℕ) → has (a ∷ []) j ≡ true → a ≡ j
one_place a j h = ⊎_elim (eqb-true a j) (λ p. absurd (has_none j p)) (or_cases (eqb a j) (has [] j) (sym (has_cons a [] j) ∙ h))

two_places : (a b j : ℕ) → has (a ∷ (b ∷ [])) j ≡ true → (a ≡ j) ⊎ (b ≡ j)
two_places a b j h = ⊎_elim (λ p. inl (eqb-true a j p)) (λ p. inr (one_place b j p)) (or_cases (eqb a j) (has (b ∷ []) j) (sym (has_cons a (b ∷ []) j) ∙ h))

before : (i j a : ℕ) (go : ℕ → Cond) → j < i → a ≡ j → earlier i go a ≡ go j
before i j a go l e = rw (e, lt-ltb j i l) refl

module _ (ns gs : List ℕ) where
  -- what covers a node covers each that it names
  node_child : (n : Node) (i j : ℕ) (go : ℕ → Cond) → j < i → has (places_of n) j ≡ true → Covers ns gs (cells_of (node_of n (earlier i go))) → Covers ns gs (cells_of (go j))
  unfolding cells_of
  node_child Always i j go l h c = absurd (has_none j h)
  node_child Never i j go l h c = absurd (has_none j h)
  node_child (Equal a b) i j go l h c = absurd (has_none j h)
  node_child (Not a) i j go l h c = rw (before i j a go l (one_place a j h)) at c
  node_child (Both a b) i j go l h c = elim (two_places a b j h) [
    | inl e ↦ rw (before i j a go l e) at (covers_left ns gs (cells_of (earlier i go a)) (cells_of (earlier i go b)) c)
    | inr e ↦ rw (before i j b go l e) at (covers_right ns gs (cells_of (earlier i go a)) (cells_of (earlier i go b)) c)
  ]
  node_child (Either a b) i j go l h c = elim (two_places a b j h) [
    | inl e ↦ rw (before i j a go l e) at (covers_left ns gs (cells_of (earlier i go a)) (cells_of (earlier i go b)) c)
    | inr e ↦ rw (before i j b go l e) at (covers_right ns gs (cells_of (earlier i go a)) (cells_of (earlier i go b)) c)
  ]

  pub child_covered : (nodes : List ℕ) (i j : ℕ) → i < count nodes → j < i → has (places_of (decoded nodes i)) j ≡ true →
      Covers ns gs (cells_of (cond_at nodes i)) → Covers ns gs (cells_of (cond_at nodes j))
  child_covered nodes i j s l h c = node_child (decoded nodes i) i j (cond_at nodes) l h (rw (at_decoded nodes i s) at c)

-- of each place that a node names, or of every place before it that it names
pub each_place : (n : Node) (i : ℕ) (P : ℕ → Type 0) → ((j : ℕ) → j < i → has (places_of n) j ≡ true → P j) → EachPlace n (λ j. j < i → P j)
each_place Always i P f = tt
each_place Never i P f = tt
each_place (Equal a b) i P f = tt
each_place (Not a) i P f = λ l. f a l (has_head a [])
each_place (Both a b) i P f = (λ l. f a l (has_head a (b ∷ [])), λ l. f b l (has_tail a (b ∷ []) b (has_head b [])))
each_place (Either a b) i P f = (λ l. f a l (has_head a (b ∷ [])), λ l. f b l (has_tail a (b ∷ []) b (has_head b [])))

place_each : (n : Node) (i j : ℕ) (P : ℕ → Type 0) → EachPlace n (λ k. k < i → P k) → j < i → has (places_of n) j ≡ true → P j
place_each Always i j P e l h = absurd (has_none j h)
place_each Never i j P e l h = absurd (has_none j h)
place_each (Equal a b) i j P e l h = absurd (has_none j h)
place_each (Not a) i j P e l h = subst P (one_place a j h) (e (rw (one_place a j h) l))
place_each (Both a b) i j P e l h = elim (two_places a b j h) [ inl q ↦ subst P q (e.0 (rw q l)) | inr q ↦ subst P q (e.1 (rw q l)) ]
place_each (Either a b) i j P e l h = elim (two_places a b j h) [ inl q ↦ subst P q (e.0 (rw q l)) | inr q ↦ subst P q (e.1 (rw q l)) ]

-- closing from the last node down to i: what is marked from i on is closed
pub record Closing (nodes : List ℕ) (n i : ℕ) (ms₀ ms : List Bool) : Type 0 where
  pub closed : (k j : ℕ) → i ≤ k → k < n → j < k → marked ms k ≡ true → has (places_of (decoded nodes k)) j ≡ true → marked ms j ≡ true
  pub kept : (k : ℕ) → marked ms₀ k ≡ true → marked ms k ≡ true
  pub exact : (j : ℕ) → reached nodes i (marked ms) j ≡ reached nodes n (marked ms₀) j
  pub reached : (ns gs : List ℕ) → AllCovered ns gs nodes n ms₀ → AllCovered ns gs nodes n ms

-- tests that say the same have the same reached
reached_same : (nodes : List ℕ) (n : ℕ) (p q : ℕ → Bool) → ((k : ℕ) → p k ≡ q k) → (j : ℕ) → reached nodes n p j ≡ reached nodes n q j
unfolding reached
reached_same nodes zero p q h j = h j
reached_same nodes (suc n) p q h j =
    reached_same nodes n (λ k. p k || (p n && names n (decoded nodes n) k)) (λ k. q k || (q n && names n (decoded nodes n) k)) (λ k. rw (h k, h n) refl) j

reached_step : (nodes : List ℕ) (i : ℕ) (p q : ℕ → Bool) → ((k : ℕ) → q k ≡ (p k || (p i && names i (decoded nodes i) k))) → (j : ℕ) → reached nodes i q j ≡ reached nodes (i + 1) p j
unfolding reached
reached_step nodes i p q h j = let e : i + 1 ≡ suc i = omega arith in rw e (reached_same nodes i q (λ k. p k || (p i && names i (decoded nodes i) k)) h j)

pub closing_begins : (nodes : List ℕ) (n : ℕ) (ms : List Bool) → Closing nodes n n ms ms
closing_begins nodes n ms = record {
  closed = λ k j p q b h g. absurd (omega arith);
  kept = λ k h. h;
  exact = λ j. refl;
  reached = λ ns gs c. c;
}

-- past a node that is not marked
pub closing_past : (nodes : List ℕ) (n i : ℕ) (ms₀ ms : List Bool) → marked ms i ≡ false → Closing nodes n (i + 1) ms₀ ms → Closing nodes n i ms₀ ms
closing_past nodes n i ms₀ ms f c = record {
  closed = λ k j p q b h g. elim (cases_lt i k) [
    | inl u ↦ c.closed k j (omega arith) q b h g
    | inr u ↦ let w : k ≡ i = omega arith in absurd (both_ways (marked ms k) (rw w f) h)
  ];
  kept = c.kept;
  exact = λ j. reached_step nodes i (marked ms) (marked ms) (λ k. rw f (none (marked ms k))) j ∙ c.exact j;
  reached = c.reached;
}
  where
    none : (b : Bool) → b ≡ (b || false)
    none true = refl
    none false = refl

pub closing_more : (nodes : List ℕ) (n i : ℕ) (ms₀ ms rs : List Bool) → i < n → n ≤ count nodes → marked ms i ≡ true →
    ((j : ℕ) → marked rs j ≡ (marked ms j || (ltb j i && has (places_of (decoded nodes i)) j))) →
    Closing nodes n (i + 1) ms₀ ms → Closing nodes n i ms₀ rs
closing_more nodes n i ms₀ ms rs l s m e c = record {
  closed = λ k j p q b h g. elim (cases_lt i k) [
    | inl u ↦ keep j (c.closed k j (omega arith) q b (old k (omega arith) h) g)
    | inr u ↦ let w : k ≡ i = omega arith in e j ∙ or_right (marked ms j) _ (and_from (ltb j i) _ (lt-ltb j i (omega arith)) (ap (λ t. has (places_of (decoded nodes t)) j) (sym w) ∙ g))
  ];
  kept = λ k h. keep k (c.kept k h);
  exact = λ j. reached_step nodes i (marked ms) (marked rs) (λ k. rw m (e k)) j ∙ c.exact j;
  reached = λ ns gs a k q h. ⊎_elim (c.reached ns gs a k q) (λ x.
      let y : (ltb k i ≡ true) × (has (places_of (decoded nodes i)) k ≡ true) = and_parts (ltb k i) (has (places_of (decoded nodes i)) k) x in
      child_covered ns gs nodes i k (omega arith) (ltb-true k i y.0) y.1 (c.reached ns gs a i l m)) (or_cases (marked ms k) _ (sym (e k) ∙ h));
}
  where
    keep : (j : ℕ) → marked ms j ≡ true → marked rs j ≡ true
    keep j h = e j ∙ or_left (marked ms j) _ h

    old : (k : ℕ) → i ≤ k → marked rs k ≡ true → marked ms k ≡ true
    old k p h = ⊎_elim (λ x. x) (λ x. absurd (both_ways (ltb k i) (le-ltb k i p) (and_parts (ltb k i) _ x).0)) (or_cases (marked ms k) _ (sym (e k) ∙ h))

module _ (ns gs : List ℕ) where
  -- what covers a node's own cells and each node that it names covers the node
  one_covered : (i a : ℕ) (go : ℕ → Cond) → (a < i → Covers ns gs (cells_of (go a))) → Covers ns gs (cells_of (earlier i go a))
  unfolding cells_of
  one_covered i a go h = elim (cases_lt a i) [
    | inl l ↦ rw (lt-ltb a i l) (h l)
    | inr l ↦ rw (le-ltb a i l) (covers_none ns gs)
  ]

  node_covered : (n : Node) (i : ℕ) (go : ℕ → Cond) → Covers ns gs (own_cells n) → ((j : ℕ) → j < i → has (places_of n) j ≡ true → Covers ns gs (cells_of (go j))) →
      Covers ns gs (cells_of (node_of n (earlier i go)))
  unfolding cells_of
  node_covered Always i go o h = o
  node_covered Never i go o h = o
  node_covered (Equal a b) i go o h = o
  node_covered (Not a) i go o h = one_covered i a go (λ l. h a l (has_head a []))
  node_covered (Both a b) i go o h =
      covers_both ns gs (cells_of (earlier i go a)) (cells_of (earlier i go b))
      (one_covered i a go (λ l. h a l (has_head a (b ∷ [])))) (one_covered i b go (λ l. h b l (has_tail a (b ∷ []) b (has_head b []))))
  node_covered (Either a b) i go o h =
      covers_both ns gs (cells_of (earlier i go a)) (cells_of (earlier i go b))
      (one_covered i a go (λ l. h a l (has_head a (b ∷ [])))) (one_covered i b go (λ l. h b l (has_tail a (b ∷ []) b (has_head b []))))

  pub own_covered : (n : Node) (i : ℕ) (go : ℕ → Cond) → Covers ns gs (cells_of (node_of n (earlier i go))) → Covers ns gs (own_cells n)
  unfolding cells_of
  own_covered Always i go c = c
  own_covered Never i go c = c
  own_covered (Equal a b) i go c = c
  own_covered (Not a) i go c = covers_none ns gs
  own_covered (Both a b) i go c = covers_none ns gs
  own_covered (Either a b) i go c = covers_none ns gs

  -- the cells that marked nodes compare are covered where the nodes are
  pub marked_covered : (nodes : List ℕ) (n : ℕ) (ms : List Bool) → n ≤ count nodes → AllCovered ns gs nodes n ms → Covers ns gs (marked_cells nodes ms n)
  marked_covered nodes zero ms s a = rw (marked_none nodes ms) (covers_none ns gs)
  marked_covered nodes (suc n) ms s a =
      let e : suc n ≡ n + 1 = omega arith in
      let ih = marked_covered nodes n ms (omega arith) (λ i l. a i (omega arith)) in
      rw e (⊎_elim
      (λ h. rw (marked_more nodes ms n h) (covers_both ns gs (marked_cells nodes ms n) (own_cells (decoded nodes n)) ih (own_covered (decoded nodes n) n (cond_at nodes) (rw (at_decoded nodes n (omega arith)) at (a n (omega arith) h)))))
      (λ h. rw (marked_pass nodes ms n h) ih)
      (cases_Bool (marked ms n)))

-- a marked node's own cells are among those of all
own_marked : (nodes : List ℕ) (n i : ℕ) (ms : List Bool) → i < n → marked ms i ≡ true →
    Covers (numbers_in (marked_cells nodes ms n)) (gaps_in (marked_cells nodes ms n)) (own_cells (decoded nodes i))
own_marked nodes zero i ms l h = absurd (omega arith)
own_marked nodes (suc n) i ms l h =
    let e : suc n ≡ n + 1 = omega arith in
    let front = marked_cells nodes ms n in let last = own_cells (decoded nodes n) in
    rw e (elim (cases_eq i n) [
      | inl x ↦ rw (x, marked_more nodes ms n (ap (marked ms) (sym x) ∙ h)) (covers_behind front last last (covers_self last))
      | inr ne ↦ ⊎_elim
          (λ y. rw (marked_more nodes ms n y) (covers_before front last (own_cells (decoded nodes i)) (own_marked nodes n i ms (omega arith) h)))
          (λ y. rw (marked_pass nodes ms n y) (own_marked nodes n i ms (omega arith) h))
          (cases_Bool (marked ms n))
    ])

-- so all that a marked node names is, where what it reaches is marked
pub all_marked : (nodes : List ℕ) (n : ℕ) (ms : List Bool) → n ≤ count nodes → Closed nodes n ms →
    AllCovered (numbers_in (marked_cells nodes ms n)) (gaps_in (marked_cells nodes ms n)) nodes n ms
all_marked nodes n ms s c i = deep (suc i) i (omega arith)
  where
    deep : (k i : ℕ) → i < k → i < n → marked ms i ≡ true → Covers (numbers_in (marked_cells nodes ms n)) (gaps_in (marked_cells nodes ms n)) (cells_of (cond_at nodes i))
    deep zero i p l h = absurd (omega arith)
    deep (suc k) i p l h =
        rw (at_decoded nodes i (omega arith))
        (node_covered (numbers_in (marked_cells nodes ms n)) (gaps_in (marked_cells nodes ms n)) (decoded nodes i) i (cond_at nodes) (own_marked nodes n i ms l h)
        (λ j q r. deep k j (omega arith) (omega arith) (place_each (decoded nodes i) i j (λ k. marked ms k ≡ true) (c i l h) q r)))
