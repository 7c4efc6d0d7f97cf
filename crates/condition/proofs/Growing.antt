-- Laws of `Grown`: what stands in a grown store, and growing again.
use Rattle.std.proofs.Common.{◌≡◌, ℕ, suc, ◌+◌, ◌*◌, ◌<◌, ◌≤◌, List, length, get_or, drop, sym, refl, ◌∙◌, arith}
use Rattle.std.proofs.lemmas.List.{get_or-drop}
use Rattle.condition.specs.Store.{count, cond_at, Grown}
use Rattle.condition.proofs.Fuel.{deep_same, at_within}

-- a store that holds its nodes has grown by none
pub grown_self : (xs : List ℕ) → 1 + 5 * count xs ≤ length xs → Grown xs xs
grown_self xs h = record { long = refl; more = omega arith; fits = h; front = λ k l m. refl; past = λ k l. refl }

pub grown_trans : (xs ys zs : List ℕ) → Grown xs ys → Grown ys zs → Grown xs zs
grown_trans xs ys zs g h = record {
  long = h.long ∙ g.long;
  more = omega (arith, g.more, h.more);
  fits = h.fits;
  front = λ k l m. h.front k l (omega (arith, g.more)) ∙ g.front k l m;
  past = λ k l. h.past k l ∙ g.past k (omega (arith, h.more));
}

-- stores with the same nodes up to i have the same condition there
pub cond_same : (xs ys : List ℕ) (i : ℕ) → i < count xs → i < count ys → ((k : ℕ) → 0 < k → k < 6 + 5 * i → get_or ys k 0 ≡ get_or xs k 0) → cond_at ys i ≡ cond_at xs i
cond_same xs ys i l m h =
    at_within ys i m
    ∙ (deep_same (suc i) (drop 1 ys) (drop 1 xs) i (λ k n. rw (get_or-drop 1 ys k 0, get_or-drop 1 xs k 0) (h (1 + k) (omega arith) (omega arith)))
    ∙ sym (at_within xs i l))

-- what stands in a grown store stands as it did
pub grown_cond : (xs ys : List ℕ) → Grown xs ys → (j : ℕ) → j < count xs → cond_at ys j ≡ cond_at xs j
grown_cond xs ys g j l = cond_same xs ys j l (omega (arith, g.more)) (λ k p q. g.front k p (omega arith))
