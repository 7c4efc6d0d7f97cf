-- Where the gaps stand that are tried, and one that is settled more.
use Rattle.std.proofs.Common.{◌≡◌, ◌≢◌, ℕ, suc, ◌+◌, ◌<◌, ◌≤◌, Bool, true, false, cond as if, ◌||◌, eqb, ltb, ◌⊎◌, List, [], ◌∷◌, ◌++◌, length, get_or, take, Some, None, Option, sym, refl, ap, ◌∙◌, subst, inl, inr, arith, below_more, length-append}
use Rattle.std.specs.List.{All, AllPairs, position_or_len, list_any}
use Rattle.std.specs.Option.{option_map_or}
use Rattle.std.proofs.lemmas.Bool.{both_ways, cases_eq, cases_lt, eq-eqb, ne_eqb, eqb-true, lt-ltb, or_cases}
use Rattle.std.proofs.lemmas.Bool.Decides.{nat_tests}
use Rattle.std.proofs.lemmas.List.{get_or_default, get_or-take, length-take-le, take_more}
use Rattle.std.proofs.lemmas.List.Elements.{All-push}
use Rattle.std.proofs.lemmas.List.Quantifiers.{position-Some, all_pairs_push}
use Rattle.std.proofs.lemmas.List.Sums.{position_or_len_is, fails_before_first}
use Rattle.condition.specs.Cond.{has, Within}
use Rattle.condition.proofs.Lists.{has_none, has_cons, has_head, has_left, has_right, has_at}
use Rattle.evaluate.specs.Filling.{Filling, put}
use Rattle.decide.specs.Might.{put_on}
use Rattle.decide.specs.Rows.{place, on_of, number_at, GoesOn, filling_of}
use Rattle.decide.specs.declared.rows.Row.{Row}

-- what a slice contains is what its list has
pub has_any : (xs : List ℕ) (n : ℕ) → list_any (λ y. eqb y n) xs ≡ has xs n
unfolding has
has_any [] n = refl
has_any (x ∷ xs) n = ap (λ (b : Bool). eqb x n || b) (has_any xs n)

-- what stands in a list stands at some place of it
pub found_at : (xs : List ℕ) (x : ℕ) → has xs x ≡ true → (j : ℕ) × (j < length xs) × (get_or xs j 0 ≡ x)
found_at [] x h = absurd (has_none x h)
found_at (y ∷ xs) x h = go (found_at xs x) (or_cases (eqb y x) (has xs x) (sym (has_cons y xs x) ∙ h))
  where
    go : (has xs x ≡ true → (j : ℕ) × (j < length xs) × (get_or xs j 0 ≡ x)) → (eqb y x ≡ true) ⊎ (has xs x ≡ true) → (j : ℕ) × (j < suc (length xs)) × (get_or (y ∷ xs) j 0 ≡ x)
    go ih (inl e) = (0, omega arith, eqb-true y x e)
    go ih (inr u) = let f : (j : ℕ) × (j < length xs) × (get_or xs j 0 ≡ x) = ih u in (suc f.0, omega (arith, f.1), f.2)

abbrev pub Distinct : List ℕ → Type 0
Distinct = AllPairs (λ j k. j ≢ k)

-- at its place a gap stands
pub place_back : (gs : List ℕ) (k p : ℕ) → place gs k ≡ Some p → (p < length gs) × (get_or gs p 0 ≡ k)
unfolding place
place_back gs k p e = let s = position-Some (λ g. eqb g k) gs p 0 e in (s.0, eqb-true (get_or gs p 0) k s.1)

-- and where each stands once, it is the place of what stands there
pub place_at : (gs : List ℕ) → Distinct gs → (p : ℕ) → p < length gs → place gs (get_or gs p 0) ≡ Some p
unfolding place
place_at gs d p h =
    let e : position_or_len (λ g. eqb g (get_or gs p 0)) gs ≡ p =
    position_or_len_is (λ g. eqb g (get_or gs p 0)) gs p 0 (omega arith) (λ k l. ne_eqb (get_or gs k 0) (get_or gs p 0) (d k p 0 l h)) (λ _. eq-eqb (get_or gs p 0) (get_or gs p 0) refl) in
    rw e (rw (lt-ltb p (length gs) h) refl)

-- what stands at q stands first at q or before, and has its place there
module _ (gs : List ℕ) (k q : ℕ) (e : get_or gs q 0 ≡ k) where
  abbrev at : ℕ
  at = position_or_len (λ g. eqb g k) gs

  pub at_low : at ≤ q
  at_low = elim (cases_lt q at) [
    | inl l ↦ absurd (both_ways (eqb (get_or gs q 0) k) (fails_before_first (λ g. eqb g k) gs q 0 l) (eq-eqb (get_or gs q 0) k e))
    | inr l ↦ l
  ]

  pub place_low : q < length gs → (p : ℕ) × (p ≤ q) × (place gs k ≡ Some p)
  unfolding place
  place_low h = (at, at_low, rw (lt-ltb at (length gs) (omega (arith, at_low))) refl)

-- each of them has a place
pub has_place : (gs : List ℕ) → Distinct gs → (k : ℕ) → has gs k ≡ true → (p : ℕ) × (p < length gs) × (place gs k ≡ Some p)
has_place gs d k h = let f = found_at gs k h in (f.0, f.1, ap (place gs) (sym f.2) ∙ place_at gs d f.0 f.1)

-- the first n of a list of gaps, each once
pub record Collected (ks : List ℕ) (n : ℕ) (ns : List ℕ) : Type 0 where
  pub few : length ns ≤ n
  pub low : All (λ k. k < 64) ns
  pub distinct : Distinct ns
  pub all : (i : ℕ) → i < n → has ns (get_or ks i 0) ≡ true
  -- they are left as they are where they rise
  pub same : AllPairs (λ j k. j < k) ks → ns ≡ take n ks

module _ (ks : List ℕ) (n : ℕ) (ns : List ℕ) (in-list : n < length ks) (c : Collected ks n ns) where
  pub collected_still : has ns (get_or ks n 0) ≡ true → Collected ks (n + 1) ns
  collected_still h = record { few = omega (arith, c.few); low = c.low; distinct = c.distinct; all = below_more _ _ c.all h; same = λ r. absurd (twice r) }
    where
      twice : AllPairs (λ j k. j < k) ks → ⊥
      twice r =
          let f : (j : ℕ) × (j < length (take n ks)) × (get_or (take n ks) j 0 ≡ get_or ks n 0) = found_at (take n ks) (get_or ks n 0) (rw (c.same r) at h) in
          let b : f.0 < n = omega (arith, f.1, length-take-le n ks (omega arith)) in
          omega (arith, r f.0 n 0 b in-list, f.2, get_or-take n ks f.0 0 b)

  pub collected_more : get_or ks n 0 < 64 → has ns (get_or ks n 0) ≡ false → Collected ks (n + 1) (ns ++ get_or ks n 0 ∷ [])
  collected_more l h = record {
    same = λ r. ap (λ (xs : List ℕ). xs ++ get_or ks n 0 ∷ []) (c.same r) ∙ sym (take_more ks n 0 in-list);
    few = simp length-append (omega (arith, c.few));
    low = All-push (λ k. k < 64) ns (get_or ks n 0) c.low l;
    distinct = all_pairs_push (λ j k. j ≢ k) ns (get_or ks n 0) c.distinct (λ k d m e. both_ways (has ns (get_or ks n 0)) h (ap (has ns) (sym e ∙ get_or_default ns k d 0 m) ∙ has_at ns k m));
    all = below_more _ _ (λ i m. has_left ns (get_or ks n 0 ∷ []) (get_or ks i 0) (c.all i m)) (has_right ns (get_or ks n 0 ∷ []) (get_or ks n 0) (has_head (get_or ks n 0) []));
  }

-- all of a list are collected
pub collected_within : (ks ns : List ℕ) → Collected ks (length ks) ns → Within ks ns
unfolding Within
collected_within ks ns c k h = let f = found_at ks k h in subst (λ (x : ℕ). has ns x ≡ true) f.2 (c.all f.0 f.1)

same_below : (k l : ℕ) → (k ≡ l → ⊥) → ltb k l ≡ ltb k (l + 1)
same_below k l d = grind (arith, nat_tests)

-- the filling of a row as far as its first p gaps: others have 0
module _ (gs : List ℕ) (r : Row) where
  abbrev pub upto : ℕ → Filling
  upto p k = option_map_or (λ q. if (ltb q p) (number_at r q) 0) (place gs k) 0

  pub upto_all : (k : ℕ) → upto (length gs) k ≡ filling_of gs r k
  upto_all k = go (place gs k) refl
    where
      go : (o : Option ℕ) → place gs k ≡ o → option_map_or (λ q. if (ltb q (length gs)) (number_at r q) 0) o 0 ≡ option_map_or (number_at r) o 0
      go None e = refl
      go (Some q) e = rw (lt-ltb q (length gs) (place_back gs k q e).0) refl

  pub upto_more : Distinct gs → (p : ℕ) → p < length gs → (k x : ℕ) → x ≡ upto p k → if (eqb k (get_or gs p 0)) (number_at r p) x ≡ upto (p + 1) k
  upto_more d p h k x e = go (place gs k) refl (cases_eq k (get_or gs p 0))
    where
      go : (o : Option ℕ) → place gs k ≡ o → (k ≡ get_or gs p 0) ⊎ (k ≡ get_or gs p 0 → ⊥) → if (eqb k (get_or gs p 0)) (number_at r p) x ≡ option_map_or (λ q. if (ltb q (p + 1)) (number_at r q) 0) o 0
      go o i (inl u) =
          let at : o ≡ Some p = sym i ∙ (ap (place gs) u ∙ place_at gs d p h) in
          rw (at, eq-eqb k (get_or gs p 0) u, lt-ltb p (p + 1) (omega arith)) refl
      go None i (inr n) = rw (ne_eqb k (get_or gs p 0) n) (rw i at e)
      go (Some q) i (inr n) =
          let apart : q ≢ p = λ u. n (sym (place_back gs k q i).1 ∙ ap (λ j. get_or gs j 0) u) in
          rw (ne_eqb k (get_or gs p 0) n, ← same_below q p apart) (rw i at e)

-- one gap more is settled
module _ (gs : List ℕ) (once : Distinct gs) (d : ℕ) (h : d < length gs) where
  -- it has the place d, and no other gap has
  which : (k : ℕ) (o : Option ℕ) → place gs k ≡ o → ((k ≡ get_or gs d 0) × (o ≡ Some d)) ⊎ ((k ≢ get_or gs d 0) × ((q : ℕ) → o ≡ Some q → q ≢ d))
  which k o i = by (cases_eq k (get_or gs d 0))
    where
      by : (k ≡ get_or gs d 0) ⊎ (k ≡ get_or gs d 0 → ⊥) → ((k ≡ get_or gs d 0) × (o ≡ Some d)) ⊎ ((k ≢ get_or gs d 0) × ((q : ℕ) → o ≡ Some q → q ≢ d))
      by (inl u) = inl (u, sym i ∙ (ap (place gs) u ∙ place_at gs once d h))
      by (inr n) = inr (n, λ q e u. n (sym (place_back gs k q (i ∙ e)).1 ∙ ap (λ j. get_or gs j 0) u))

  pub on_more : (k : ℕ) → on_of gs (d + 1) k ≡ put_on (on_of gs d) (get_or gs d 0) k
  on_more k = go (place gs k) (which k (place gs k) refl)
    where
      go : (o : Option ℕ) → ((k ≡ get_or gs d 0) × (o ≡ Some d)) ⊎ ((k ≢ get_or gs d 0) × ((q : ℕ) → o ≡ Some q → q ≢ d))
          → option_map_or (λ q. ltb q (d + 1)) o false ≡ (eqb k (get_or gs d 0) || option_map_or (λ q. ltb q d) o false)
      go o (inl u) = rw (u.1, eq-eqb k (get_or gs d 0) u.0, lt-ltb d (d + 1) (omega arith)) refl
      go None (inr n) = rw (ne_eqb k (get_or gs d 0) n.0) refl
      go (Some q) (inr n) = rw (ne_eqb k (get_or gs d 0) n.0) (sym (same_below q d (n.1 q refl)))

  -- and has its number
  pub filling_more : (r s : Row) (x u : ℕ) → GoesOn r d x u s → (k : ℕ) → filling_of gs s k ≡ put (filling_of gs r) (get_or gs d 0) x k
  filling_more r s x u g k = go (place gs k) (which k (place gs k) refl)
    where
      go : (o : Option ℕ) → ((k ≡ get_or gs d 0) × (o ≡ Some d)) ⊎ ((k ≢ get_or gs d 0) × ((q : ℕ) → o ≡ Some q → q ≢ d))
          → option_map_or (number_at s) o 0 ≡ if (eqb k (get_or gs d 0)) x (option_map_or (number_at r) o 0)
      go o (inl v) = rw (v.1, eq-eqb k (get_or gs d 0) v.0) (g.numbers d ∙ rw (eq-eqb d d refl) refl)
      go None (inr n) = rw (ne_eqb k (get_or gs d 0) n.0) refl
      go (Some q) (inr n) = rw (ne_eqb k (get_or gs d 0) n.0) (g.numbers q ∙ rw (ne_eqb q d (n.1 q refl)) refl)
