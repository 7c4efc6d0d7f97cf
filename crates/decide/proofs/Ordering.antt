-- An order of a pool's numbers in which the fresh ones stand first, the last of them first, and then the named ones as they rise.
use Rattle.std.proofs.Common.{◌≡◌, ℕ, ◌+◌, ◌-◌, ◌<◌, ◌≤◌, true, false, eqb, ◌⊎◌, List, ◌++◌, length, get_or, map, take, drop, reverse, Some, None, Option, Bor, Iter, sym, ap, ◌∙◌, subst, inl, inr, ⊎_elim, arith, length-append, length-drop}
use Rattle.std.specs.Iterator.{Yields}
use Rattle.std.specs.Iterator.Adapters.{rev_source, rev_steps}
use Rattle.std.specs.List.Sorted.{IsNonDecreasing, IsPermutation}
use Rattle.std.specs.Slice.Iter.{iter_rest, iter_steps_back}
use Rattle.std.specs.declared.iter.Rev.{Rev}
use Rattle.std.proofs.lemmas.Bool.{cases_lt}
use Rattle.std.proofs.lemmas.Iterator.Adapters.{YieldsList-from_rev_slice}
use Rattle.std.proofs.lemmas.Iterator.Consumers.{YieldsList-turn, YieldsList-end}
use Rattle.std.proofs.lemmas.List.{get_or_append_left, get_or-append_right, get_or-drop, get_or-reverse, length-reverse}
use Rattle.std.proofs.lemmas.List.Sorted.{list_any-IsPermutation}
use Rattle.condition.specs.Cond.{has}
use Rattle.condition.proofs.Lists.{has_apart, has_at, has_right}
use Rattle.decide.specs.Picking.{OthersFirst}
use Rattle.decide.specs.declared.task.Task.{Task}
use Rattle.decide.proofs.Listing.{has_any, found_at}
use Rattle.decide.proofs.Gathering.{front_has}

-- a list in another order has the same numbers
has_same : (xs ys : List ℕ) → IsPermutation xs ys → (n : ℕ) → has xs n ≡ has ys n
has_same xs ys h n = sym (has_any xs n) ∙ (list_any-IsPermutation (λ y. eqb y n) xs ys h ∙ has_any ys n)

-- ns are the first m numbers of the pool, in some order, and each later number of the pool is none of those before it
module _ (pool ns order : List ℕ) (m : ℕ) (low : m ≤ length pool) (is : order ≡ reverse (drop m pool) ++ ns) (same : IsPermutation (take m pool) ns)
    (fresh : (p : ℕ) → m ≤ p → p < length pool → has (take p pool) (get_or pool p 0) ≡ false) where
  many : length (reverse (drop m pool)) ≡ length pool - m
  many = simp (length-reverse, length-drop)

  -- the fresh numbers from the last to the first
  fresh_at : (i : ℕ) → i < length pool - m → get_or order i 0 ≡ get_or pool (length pool - 1 - i) 0
  fresh_at i l =
      let n : i < length (drop m pool) = omega (arith, length-drop m pool) in
      let e : m + (length (drop m pool) - 1 - i) ≡ length pool - 1 - i = omega (arith, length-drop m pool) in
      rw is (get_or_append_left (reverse (drop m pool)) ns 0 i (omega (arith, many))
      ∙ (get_or-reverse (drop m pool) i 0 n ∙ (get_or-drop m pool (length (drop m pool) - 1 - i) 0 ∙ ap (λ k. get_or pool k 0) e)))

  -- behind them the others
  named_at : (i : ℕ) → length pool - m ≤ i → get_or order i 0 ≡ get_or ns (i - (length pool - m)) 0
  named_at i l = rw is (get_or-append_right (reverse (drop m pool)) ns (length pool - m) i 0 many l)

  long : length order ≡ (length pool - m) + length ns
  long = ap length is ∙ simp length-append (ap (λ k. k + length ns) many)

  named_has : (k : ℕ) → k < m → has ns (get_or pool k 0) ≡ true
  named_has k l = sym (has_same (take m pool) ns same (get_or pool k 0)) ∙ front_has m pool k l low

  -- a fresh number stands nowhere else
  apart : (p q : ℕ) → p < q → m ≤ q → q < length pool → get_or pool p 0 ≡ get_or pool q 0 → ⊥
  apart p q l f h = has_apart (take q pool) (get_or pool p 0) (get_or pool q 0) (front_has q pool p l (omega arith)) (fresh q f h)

  -- so what stands before the others is one number of the pool alone
  which : (b at : ℕ) → b < length pool → at < length pool - m → get_or order at 0 ≡ get_or pool b 0 → b ≡ length pool - 1 - at
  which b at l h e = by (cases_lt b (length pool - 1 - at)) (cases_lt (length pool - 1 - at) b)
    where
      there : get_or pool (length pool - 1 - at) 0 ≡ get_or pool b 0
      there = sym (fresh_at at h) ∙ e

      by : (b < length pool - 1 - at) ⊎ (length pool - 1 - at ≤ b) → (length pool - 1 - at < b) ⊎ (b ≤ length pool - 1 - at) → b ≡ length pool - 1 - at
      by (inl k) o = absurd (apart b (length pool - 1 - at) k (omega arith) (omega arith) (sym there))
      by (inr k) (inl o) = absurd (apart (length pool - 1 - at) b o (omega arith) l there)
      by (inr k) (inr o) = omega arith

  -- a fresh number stands before those that are before it in the pool
  fresh_ahead : (a b at : ℕ) → a < length pool → m ≤ a → b < a → get_or order at 0 ≡ get_or pool b 0 → (i : ℕ) × (i < at) × (get_or order i 0 ≡ get_or pool a 0)
  fresh_ahead a b at l f h e =
      (length pool - 1 - a, sooner (cases_lt at (length pool - m)), fresh_at (length pool - 1 - a) (omega arith) ∙ ap (λ k. get_or pool k 0) back)
    where
      back : length pool - 1 - (length pool - 1 - a) ≡ a
      back = omega arith

      sooner : (at < length pool - m) ⊎ (length pool - m ≤ at) → length pool - 1 - a < at
      sooner (inl k) = omega (arith, which b at (omega arith) k e)
      sooner (inr k) = omega arith

  -- of two named numbers the lesser stands before the other
  named_ahead : IsNonDecreasing ns → (a b at : ℕ) → a < m → b < m → get_or pool a 0 < get_or pool b 0 → at < length order → get_or order at 0 ≡ get_or pool b 0 →
      (i : ℕ) × (i < at) × (get_or order i 0 ≡ get_or pool a 0)
  named_ahead up a b at k l h inside e = by (cases_lt at (length pool - m)) (found_at ns (get_or pool a 0) (named_has a k))
    where
      by : (at < length pool - m) ⊎ (length pool - m ≤ at) → (j : ℕ) × (j < length ns) × (get_or ns j 0 ≡ get_or pool a 0)
          → (i : ℕ) × (i < at) × (get_or order i 0 ≡ get_or pool a 0)
      by (inl n) s = absurd (omega (arith, which b at (omega arith) n e))
      by (inr n) s = (
        length pool - m + s.0,
        sooner (cases_lt s.0 (at - (length pool - m))),
        named_at (length pool - m + s.0) (omega arith) ∙ (ap (λ j. get_or ns j 0) back ∙ s.2),
      )
        where
          back : length pool - m + s.0 - (length pool - m) ≡ s.0
          back = omega arith

          sooner : (s.0 < at - (length pool - m)) ⊎ (at - (length pool - m) ≤ s.0) → length pool - m + s.0 < at
          sooner (inl o) = omega arith
          sooner (inr o) = absurd (omega (arith, up (at - (length pool - m)) s.0 0 o s.1, s.2, named_at at n, e))

  -- the order has all numbers of the pool
  has_all : (k : ℕ) → k < length pool → has order (get_or pool k 0) ≡ true
  has_all k l = by (cases_lt k m)
    where
      by : (k < m) ⊎ (m ≤ k) → has order (get_or pool k 0) ≡ true
      by (inl n) = rw is (has_right (reverse (drop m pool)) ns (get_or pool k 0) (named_has k n))
      by (inr n) =
          let i = length pool - 1 - k in let back : length pool - 1 - i ≡ k = omega arith in
          subst (λ x. has order x ≡ true) (fresh_at i (omega arith) ∙ ap (λ j. get_or pool j 0) back) (has_at order i (omega (arith, long)))

-- such an order of a task's numbers
module _ (task : Task) (ns order : List ℕ) (is : order ≡ reverse (drop task.named task.pool.items) ++ ns) (same : IsPermutation (take task.named task.pool.items) ns) where
  low : task.named ≤ length task.pool.items
  low = omega (arith, task.set_up.many)

  pub others_ahead : IsNonDecreasing ns → OthersFirst task order
  others_ahead up a b at k l o inside e = ⊎_elim
      (λ h. fresh_ahead task.pool.items ns order task.named low is same task.set_up.numbers.fresh a b at k h.0 h.1 e)
      (λ h. named_ahead task.pool.items ns order task.named low is same task.set_up.numbers.fresh up a b at h.0 h.1 h.2 inside e)
      o

  pub others_all : (k : ℕ) → k < length task.pool.items → has order (get_or task.pool.items k 0) ≡ true
  others_all k l = has_all task.pool.items ns order task.named low is same task.set_up.numbers.fresh k l

-- a loop over a list from its end: there is room for the number at hand, and at the end all have been there
module _ (xs : List ℕ) (s t u : Rev (Iter ℕ)) (ys : List (Bor ℕ)) (r : Option (Bor ℕ))
    (all : iter_rest (rev_source s) ≡ xs) (before : Yields (rev_steps iter_steps_back) s ys t) (step : rev_steps iter_steps_back t r u) where
  pub back_few : (x : Bor ℕ) → r ≡ Some x → length ys < length xs
  back_few x o = rw length-reverse at (YieldsList-turn (YieldsList-from_rev_slice xs all) ys t before r u x o step).0

  pub back_all : r ≡ None → map (λ y. y.now) ys ≡ reverse xs
  back_all o = (YieldsList-end (YieldsList-from_rev_slice xs all) ys t before r u o step).0
