-- What was folded into a cone and copied from there is tidied.
use Rattle.std.proofs.Common.{◌≡◌, ℕ, ◌+◌, ◌<◌, ◌≤◌, Bool, true, false, List, replicate, length, get_or, set, None, sym, refl, ◌∙◌, inl, inr, arith, get_or-set_other, get_or-set_same}
use Rattle.std.proofs.lemmas.Bool.{lt-ltb, le-leb, cases_eq, ne_eqb}
use Rattle.std.proofs.lemmas.List.{length-replicate}
use Rattle.condition.specs.Cond.{cells_of, numbers, gaps}
use Rattle.condition.specs.Store.{count, cond_at, store_told, room, room_told}
use Rattle.condition.proofs.Lists.{eqb_self}
use Rattle.condition.proofs.Growing.{grown_cond}
use Rattle.condition.proofs.Standing.{fits_from}
use Rattle.decide.specs.Counting.{counted}
use Rattle.decide.specs.Reaching.{marked, reached}
use Rattle.decide.proofs.Counted.{counted_same, counted_few}
use Rattle.decide.proofs.Coverage.{covers_self}
use Rattle.learn.specs.Copying.{ReachedFrom, Simplified, Turned, Copies, TidiedAll}
use Rattle.learn.specs.Tidying.{reached_count, one, tidy_told, Tidied}
use Rattle.learn.proofs.Moved.{cleared}
use Rattle.learn.proofs.Plain.{cone_tidy}
use Rattle.learn.proofs.Turned.{turned_tidy}

pub counted_most : (n : ℕ) (p : ℕ → Bool) → counted n p ≤ n
counted_most n p = counted_few n p

-- the cone of as many nodes as there is room for is no larger than a store
pub cone_small : (nodes : List ℕ) (k c : ℕ) → k ≤ count nodes → k ≤ room nodes → c ≤ 2 + k → c ≤ 131072
cone_small nodes k c a b h = omega arith

module _ (nodes : List ℕ) (roots ms : List Bool) (from : ReachedFrom nodes roots ms) where
  pub count_same : counted (count nodes) (marked ms) ≡ reached_count nodes (marked roots)
  count_same = counted_same (count nodes) (marked ms) (reached nodes (count nodes) (marked roots)) (λ j l. from.exact j)

  pub room_none : counted (count nodes) (marked ms) ≤ room nodes → room_told nodes (reached_count nodes (marked roots)) ≡ None
  room_none l = rw (le-leb (reached_count nodes (marked roots)) (room nodes) (omega (arith, count_same))) refl

  module _ (small : count nodes ≤ 131072) (fits : counted (count nodes) (marked ms) ≤ room nodes)
      (cone ps nodes₁ cs : List ℕ) (kept : List Bool) (s : Simplified nodes (count nodes) ms cone ps) (c : Copies cone (count cone) kept nodes nodes₁ cs)
      (placed : (i : ℕ) → i < count nodes → marked roots i ≡ true → marked kept (get_or ps i 0) ≡ true)
      (few : counted (count cone) (marked kept) ≤ counted (count nodes) (marked ms)) (long : length ps ≡ count nodes) (wide : count cone ≤ length cs) where
    module _ (i : ℕ) (l : i < count nodes) (m : marked roots i ≡ true) where
      stands : get_or ps i 0 < count cone
      stands = s.stand i l (from.kept i m)

      turned : Turned (cond_at cone (get_or ps i 0)) (cond_at nodes₁ (get_or cs (get_or ps i 0) 0))
      turned = c.turned (get_or ps i 0) stands (placed i l m)

    pub tidied_all : TidiedAll nodes (marked roots) nodes₁ ps cs
    tidied_all = record {
      grown = c.grown;
      few = omega (arith, c.few, few, count_same);
      store = fits_from nodes₁ (omega (arith, c.few, few, small, fits)) c.grown.fits;
      long = long;
      place = λ i l m. omega (arith, stands i l m, wide);
      stand = λ i l m. c.stand (get_or ps i 0) (stands i l m) (placed i l m);
      tidier = λ i l m. record {
        same = λ v. (turned i l m).same v ∙ s.value i l (from.kept i m) v;
        tidy = turned_tidy (cond_at cone (get_or ps i 0)) (cond_at nodes₁ (get_or cs (get_or ps i 0) 0)) (turned i l m) (cone_tidy cone s.begun s.tidy (get_or ps i 0) (stands i l m));
        covered =
            let ns = numbers (cond_at nodes i) in let gs = gaps (cond_at nodes i) in
            (turned i l m).covered ns gs (s.inside i l (from.kept i m) ns gs (covers_self (cells_of (cond_at nodes i))));
      };
    }

-- tests that say the same are one
pub same_test : (p q : ℕ → Bool) → ((j : ℕ) → p j ≡ q j) → p ≡ q
same_test p q h = λ i j. h j i

-- one mark that is set
pub mark_one : (size node : ℕ) → node < size → (j : ℕ) → marked (set (replicate size false) node true) j ≡ one node j
mark_one size node l j = elim (cases_eq j node) [
  | inl e ↦ rw (e, get_or-set_same (replicate size false) node true false (omega (arith, l, length-replicate size false)), eqb_self node) refl
  | inr ne ↦ get_or-set_other (replicate size false) node j true false ne ∙ (cleared (replicate size false) size refl j ∙ sym (ne_eqb node j (λ e. ne (sym e))))
]

pub tidied_one : (nodes : List ℕ) (node : ℕ) (nodes₁ ps cs : List ℕ) → node < count nodes → TidiedAll nodes (one node) nodes₁ ps cs → Tidied nodes node nodes₁ (get_or cs (get_or ps node 0) 0)
tidied_one nodes node nodes₁ ps cs l t =
    let here = eqb_self node in record {
      stands = t.stand node l here;
      tidier = t.tidier node l here;
      grown = t.grown;
      few = t.few;
      store = t.store;
      conditions = grown_cond nodes nodes₁ t.grown;
    }

-- where the store is one and the node stands, only number 6 is left
pub told_room : (nodes : List ℕ) (node : ℕ) → None ≡ store_told nodes → node < count nodes → tidy_told nodes node ≡ room_told nodes (reached_count nodes (one node))
told_room nodes node e l = rw (sym e, lt-ltb node (count nodes) l) refl
