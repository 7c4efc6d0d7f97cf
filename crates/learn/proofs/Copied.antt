-- Laws of copying: one more node of the cone, marked or not.
use Rattle.std.proofs.Common.{◌≡◌, ℕ, ◌+◌, ◌*◌, ◌<◌, ◌≤◌, true, false, ltb, ◌≢◌, Bool, List, length, get_or, set, sym, subst, inl, inr, arith, get_or-set_other, get_or-set_same}
use Rattle.std.proofs.lemmas.Bool.{both_ways, cases_lt, ltb-true, lt-ltb, and_parts}
use Rattle.condition.specs.Store.{count, cond_at, Grown}
use Rattle.condition.specs.Nodes.{behind, decoded}
use Rattle.condition.specs.declared.Node.{Node}
use Rattle.condition.specs.declared.Node.TheVariants.{Always, Never, Equal, Not, Both, Either}
use Rattle.condition.proofs.Decoding.{at_decoded, behind_reads}
use Rattle.condition.proofs.Growing.{grown_self, grown_trans, grown_cond}
use Rattle.decide.specs.Building.{Interned}
use Rattle.decide.specs.Folding.{place_in, renamed}
use Rattle.decide.specs.Reaching.{EachPlace, marked, Closed}
use Rattle.decide.proofs.Added.{interned_says}
use Rattle.decide.proofs.Counted.{counted_yes, counted_no}
use Rattle.decide.proofs.Folded.{each_map}
use Rattle.learn.specs.Copying.{sorted, Turned, Copies}
use Rattle.learn.proofs.Turned.{node_turned}

-- behind all that it names, a node names only places before it
each_before : (n : Node) (i : ℕ) (P : ℕ → Type 0) → behind n i ≡ true → EachPlace n (λ j. j < i → P j) → EachPlace n P
each_before Always i P b h = tt
each_before Never i P b h = tt
each_before (Equal a c) i P b h = tt
each_before (Not a) i P b h = h (ltb-true a i b)
each_before (Both a c) i P b h = let p = and_parts (ltb a i) (ltb c i) b in (h.0 (ltb-true a i p.0), h.1 (ltb-true c i p.1))
each_before (Either a c) i P b h = let p = and_parts (ltb a i) (ltb c i) b in (h.0 (ltb-true a i p.0), h.1 (ltb-true c i p.1))

-- a node that was found or added
interned_grown : (xs ys : List ℕ) (n : Node) (r : ℕ) → 1 + 5 * count xs ≤ length xs → Interned xs ys n r → Grown xs ys
interned_grown xs ys n r l (inl f) = subst (Grown xs) (sym f.0) (grown_self xs l)
interned_grown xs ys n r l (inr a) = a.grown

interned_few : (xs ys : List ℕ) (n : Node) (r : ℕ) → Interned xs ys n r → count ys ≤ count xs + 1
interned_few xs ys n r (inl f) = rw f.0 (omega arith)
interned_few xs ys n r (inr a) = omega (arith, a.place, a.more)

interned_stands : (xs ys : List ℕ) (n : Node) (r : ℕ) → Interned xs ys n r → r < count ys
interned_stands xs ys n r (inl f) = rw f.0 f.1.stands
interned_stands xs ys n r (inr a) = omega (arith, a.more)

pub copies_none : (cone : List ℕ) (ms : List Bool) (xs ps : List ℕ) → 1 + 5 * count xs ≤ length xs → Copies cone 0 ms xs xs ps
copies_none cone ms xs ps l = record { grown = grown_self xs l; few = omega arith; stand = λ i l m. absurd (omega arith); turned = λ i l m. absurd (omega arith) }

module _ (cone : List ℕ) (i n : ℕ) (ms : List Bool) (xs ys ps : List ℕ) (c : Copies cone i ms xs ys ps) where
  pub copies_past : marked ms i ≡ false → Copies cone (i + 1) ms xs ys ps
  copies_past f = record {
    grown = c.grown;
    few = omega (arith, c.few, counted_no i (marked ms) f);
    stand = λ k l m. elim (cases_lt k i) [
      | inl p ↦ c.stand k p m
      | inr p ↦ let q : k ≡ i = omega arith in absurd (both_ways (marked ms i) f (rw q at m))
    ];
    turned = λ k l m. elim (cases_lt k i) [
      | inl p ↦ c.turned k p m
      | inr p ↦ let q : k ≡ i = omega arith in absurd (both_ways (marked ms i) f (rw q at m))
    ];
  }

  module _ (stands : i < count cone) (low : i < n) (closed : Closed cone n ms) (after : behind (decoded cone i) i ≡ true) (here : marked ms i ≡ true)
      (zs : List ℕ) (r : ℕ) (is : Interned ys zs (sorted (renamed (place_in i ps) (decoded cone i))) r) (long : i < length ps) where
    place_turned : (j : ℕ) → j < i → marked ms j ≡ true → Turned (cond_at cone j) (cond_at ys (place_in i ps j))
    place_turned j l m = rw (lt-ltb j i l) (c.turned j l m)

    turned_here : Turned (cond_at cone i) (cond_at zs r)
    turned_here =
        let node = decoded cone i in
        rw (at_decoded cone i stands, behind_reads node i (cond_at cone) after, interned_says ys zs (sorted (renamed (place_in i ps) node)) r is)
        (node_turned (place_in i ps) node (cond_at ys) (cond_at cone)
        (each_before node i (λ j. Turned (cond_at cone j) (cond_at ys (place_in i ps j))) after
        (each_map node (λ j. j < i → marked ms j ≡ true) (λ j. j < i → Turned (cond_at cone j) (cond_at ys (place_in i ps j))) (λ j h l. place_turned j l (h l)) (closed i low here))))

    pub copies_more : Copies cone (i + 1) ms xs zs (set ps i r)
    copies_more =
        let g : Grown ys zs = interned_grown ys zs (sorted (renamed (place_in i ps) (decoded cone i))) r c.grown.fits is in record {
          grown = grown_trans xs ys zs c.grown g;
          few = omega (arith, c.few, interned_few ys zs (sorted (renamed (place_in i ps) (decoded cone i))) r is, counted_yes i (marked ms) here);
          stand = λ k l m. elim (cases_lt k i) [
            | inl p ↦ let ne : k ≢ i = omega arith in rw get_or-set_other (omega (arith, c.stand k p m, g.more))
            | inr p ↦ let q : k ≡ i = omega arith in rw (q, get_or-set_same ps i r 0 long) (interned_stands ys zs (sorted (renamed (place_in i ps) (decoded cone i))) r is)
          ];
          turned = λ k l m. elim (cases_lt k i) [
            | inl p ↦ let ne : k ≢ i = omega arith in rw (get_or-set_other, grown_cond ys zs g (get_or ps k 0) (c.stand k p m)) (c.turned k p m)
            | inr p ↦ let q : k ≡ i = omega arith in rw (q, get_or-set_same ps i r 0 long) turned_here
          ];
        }
