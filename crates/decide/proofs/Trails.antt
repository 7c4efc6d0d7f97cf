-- The rows of a picking, one after the other: what their numbers are, and how many fresh ones are in use.
use Rattle.std.proofs.Common.{◌≡◌, ℕ, zero, suc, ◌+◌, ◌<◌, ◌≤◌, cond as if, eqb, ltb, ◌⊎◌, List, length, get_or, sym, refl, ◌∙◌, subst, inl, inr, arith}
use Rattle.std.proofs.lemmas.Bool.{cases_lt, cases_eq, eq-eqb, ne_eqb, lt-ltb, le-ltb}
use Rattle.decide.specs.Rows.{number_at, GoesOn}
use Rattle.decide.specs.Picking.{NoneWith, Picks, Picking, Ahead}
use Rattle.decide.specs.declared.rows.Row.{Row}
use Rattle.decide.specs.declared.task.Task.{Task}

-- one gap more is given number k of the pool; those that come before it, by P, lead nowhere
pub record Step (task : Task) (P : ℕ → ℕ → Type 0) (p k : ℕ) (r s : Row) : Type 0 where
  pub low : k ≤ task.named + r.used
  pub goes : GoesOn r p (get_or task.pool.items k 0) (if (eqb k (task.named + r.used)) (r.used + 1) r.used) s
  pub earlier : (j : ℕ) → task.named + r.used < length task.pool.items → j ≤ task.named + r.used → P j k → NoneWith task p r (get_or task.pool.items j 0)

-- the rows of a picking from the first, which has no fresh number in use, to the last, and the place in the pool of each number
pub record Trail (task : Task) (P : ℕ → ℕ → Type 0) (depth : ℕ) (s : Row) : Type 0 where
  pub row : ℕ → Row
  pub place : ℕ → ℕ
  pub none : (row 0).used ≡ 0
  pub last : row depth ≡ s
  pub step : (p : ℕ) → p < depth → Step task P p (place p) (row p) (row (p + 1))

module _ (task : Task) (order : List ℕ) (P : ℕ → ℕ → Type 0) (ahead : Ahead task order P) where
  step_of : (p : ℕ) (r s : Row) → (c : Picks task order p r s) → Step task P p c.opened.place r s
  step_of p r s c = record {
    low = c.opened.opens.low;
    goes = rw (sym c.opened.opens.is) at c.opened.goes;
    earlier = λ j room l h.
        let b : (i : ℕ) × (i < c.at) × (get_or order i 0 ≡ get_or task.pool.items j 0) =
        ahead j c.opened.place c.at (omega arith) (omega (arith, c.opened.opens.low)) h c.inside (sym c.opened.opens.is) in
        subst (NoneWith task p r) b.2 (c.sooner b.0 j b.1 (record { low = l; is = sym b.2 }));
  }

  longer : (depth : ℕ) (r s : Row) → Trail task P depth r → Picks task order depth r s → Trail task P (suc depth) s
  longer depth r s t c = record {
    row = row;
    place = place;
    none = rw (le-ltb depth 0 (omega arith)) t.none;
    last = rw (lt-ltb depth (suc depth) (omega arith)) refl;
    step = λ p l. by p (cases_lt p depth) l;
  }
    where
      row : ℕ → Row
      row p = if (ltb depth p) s (t.row p)

      place : ℕ → ℕ
      place p = if (eqb p depth) c.opened.place (t.place p)

      by : (p : ℕ) → (p < depth) ⊎ (depth ≤ p) → p < suc depth → Step task P p (place p) (row p) (row (p + 1))
      by p (inl l) h = rw (le-ltb depth p (omega arith), le-ltb depth (p + 1) (omega arith), ne_eqb p depth (λ e. omega arith)) (t.step p l)
      by p (inr l) h =
          let e : p ≡ depth = omega arith in
          rw (e, le-ltb depth depth (omega arith), lt-ltb depth (depth + 1) (omega arith), eq-eqb depth depth refl, t.last) (step_of depth r s c)

  pub trail : (depth : ℕ) (s : Row) → Picking task order depth s → Trail task P depth s
  unfolding Picking
  trail zero s h = record { row = λ _. s; place = λ _. 0; none = h; last = refl; step = λ p l. absurd (omega arith) }
  trail (suc depth) s h = longer depth h.0 s (trail depth h.0 h.1) h.2

module _ (task : Task) (P : ℕ → ℕ → Type 0) (depth : ℕ) (s : Row) (t : Trail task P depth s) where
  -- how many numbers of the pool are named or in use before a step
  abbrev pub open_at : ℕ → ℕ
  open_at p = task.named + (t.row p).used

  -- a step has the next fresh number, which is in use then, or one that was open before
  abbrev Next : ℕ → Type 0
  Next p = ((t.place p ≡ open_at p) × ((t.row (p + 1)).used ≡ (t.row p).used + 1)) ⊎ ((t.place p < open_at p) × ((t.row (p + 1)).used ≡ (t.row p).used))

  next : (p : ℕ) → p < depth → Next p
  next p l = by (cases_eq (t.place p) (open_at p))
    where
      by : (t.place p ≡ open_at p) ⊎ (t.place p ≡ open_at p → ⊥) → Next p
      by (inl e) = inl (e, rw (eq-eqb (t.place p) (open_at p) e) at (t.step p l).goes.used)
      by (inr n) = inr (omega (arith, (t.step p l).low, n), rw (ne_eqb (t.place p) (open_at p) n) at (t.step p l).goes.used)

  pub used_few : (p : ℕ) → p ≤ depth → (t.row p).used ≤ p
  used_few zero l = omega (arith, t.none)
  used_few (suc p) l = let e : suc p ≡ p + 1 = omega arith in rw e (by (next p (omega arith)) (used_few p (omega arith)))
    where
      by : Next p → (t.row p).used ≤ p → (t.row (p + 1)).used ≤ p + 1
      by (inl e) i = omega (arith, e.1)
      by (inr e) i = omega (arith, e.1)

  -- the number of a step is open then
  pub opened : (p : ℕ) → p < depth → t.place p < open_at (p + 1)
  opened p l = by (next p l)
    where
      by : Next p → t.place p < open_at (p + 1)
      by (inl e) = omega (arith, e.0, e.1)
      by (inr e) = omega (arith, e.0, e.1)

  -- what is open stays so
  more : (p : ℕ) → p < depth → open_at p ≤ open_at (p + 1)
  more p l = by (next p l)
    where
      by : Next p → open_at p ≤ open_at (p + 1)
      by (inl e) = omega (arith, e.1)
      by (inr e) = omega (arith, e.1)

  pub opens_more : (p q : ℕ) → p ≤ q → q ≤ depth → open_at p ≤ open_at q
  opens_more p zero l h = let e : p ≡ 0 = omega arith in rw e (omega arith)
  opens_more p (suc q) l h =
      let e : suc q ≡ q + 1 = omega arith in
      elim (cases_lt q p) [
        | inl i ↦ let f : p ≡ suc q = omega arith in rw f (omega arith)
        | inr i ↦ rw e (omega (arith, opens_more p q i (omega arith), more q (omega arith)))
      ]

  -- each fresh number that is in use was the number of a step
  pub used_for : (p : ℕ) → p ≤ depth → (k : ℕ) → task.named ≤ k → k < open_at p → (q : ℕ) × (q < p) × (t.place q ≡ k)
  used_for zero l k h i = absurd (omega (arith, t.none))
  used_for (suc p) l k h i =
      let e : suc p ≡ p + 1 = omega arith in
      by (next p (omega arith)) (rw e at i) (cases_lt k (open_at p)) (used_for p (omega arith) k h)
    where
      by : Next p → k < open_at (p + 1) → (k < open_at p) ⊎ (open_at p ≤ k) → (k < open_at p → (q : ℕ) × (q < p) × (t.place q ≡ k)) →
          (q : ℕ) × (q < suc p) × (t.place q ≡ k)
      by n v (inl j) f = let b : (q : ℕ) × (q < p) × (t.place q ≡ k) = f j in (b.0, omega (arith, b.1), b.2)
      by (inl n) v (inr j) f = (p, omega arith, omega (arith, n.0, n.1))
      by (inr n) v (inr j) f = absurd (omega (arith, n.1))

  -- a row has the numbers of the steps before
  pub numbers_at : (p q : ℕ) → p ≤ depth → q < p → number_at (t.row p) q ≡ get_or task.pool.items (t.place q) 0
  numbers_at zero q l h = absurd (omega arith)
  numbers_at (suc p) q l h =
      let e : suc p ≡ p + 1 = omega arith in
      rw e ((t.step p (omega arith)).goes.numbers q ∙ by (cases_eq q p) (λ i. numbers_at p q (omega arith) i))
    where
      by : (q ≡ p) ⊎ (q ≡ p → ⊥) → (q < p → number_at (t.row p) q ≡ get_or task.pool.items (t.place q) 0) →
          if (eqb q p) (get_or task.pool.items (t.place p) 0) (number_at (t.row p) q) ≡ get_or task.pool.items (t.place q) 0
      by (inl u) f = rw (eq-eqb q p u, u) refl
      by (inr n) f = rw (ne_eqb q p n) (f (omega arith))
