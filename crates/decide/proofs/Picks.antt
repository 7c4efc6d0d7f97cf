-- One number more that is picked.
use Rattle.std.proofs.Common.{◌≡◌, ℕ, ◌+◌, ◌<◌, ◌≤◌, true, false, cond as if, eqb, ltb, ◌⊎◌, List, [], ◌∷◌, length, get_or, is_some, Some, None, Option, sym, refl, subst, inl, inr, arith, below_more}
use Rattle.std.specs.List.{All}
use Rattle.std.specs.Option.{option_map_or}
use Rattle.std.proofs.lemmas.Bool.{both_ways, cases_eq, eq-eqb, ne_eqb, le-ltb}
use native.Mathlib.Numerals.{unary_clauses}
use Rattle.condition.specs.Cond.{has}
use Rattle.evaluate.specs.Filling.{Filling, put, holds}
use Rattle.decide.specs.Might.{Dead, put_on}
use Rattle.decide.specs.Rows.{place, on_of, GoesOn, filling_of}
use Rattle.decide.specs.Search.{tried, goal, Begun, Met, Sound, NoneFrom, GoFrom, Each, Searched}
use Rattle.decide.specs.Picking.{Opens, Alive, Lives, NoneWith, OpenedWith, Picks, Picking}
use Rattle.decide.specs.declared.rows.Row.{Row}
use Rattle.decide.specs.declared.task.Task.{Task}
use Rattle.decide.proofs.Gathering.{all_dead, room, next_begun, next_dead, pool_of}
use Rattle.decide.proofs.Listing.{found_at}

-- what the search of one row tells
pub one_searched : (task : Task) (depth : ℕ) (r : Row) (rows : List Row) (before after : Met) → rows ≡ r ∷ [] → before.yes ≡ None → Searched task depth rows before after → Lives task depth r (is_some after.yes)
one_searched task depth r rows before after one none s = go after.yes refl (s.sound true) (s.dead true) (s.from (on_of (tried task) depth) (filling_of (tried task) r) (λ k h. h) (rw one all_one) true (rw none tt))
  where
    all_one : All (GoFrom task (on_of (tried task) depth) (filling_of (tried task) r)) (r ∷ [])
    all_one i d l = let e : i ≡ 0 = omega arith in rw e (λ k h. refl)

    go : (o : Option Row) → after.yes ≡ o → Sound task true o → (is_some o ≡ false → All (NoneFrom task depth true) rows) → Each (GoFrom task (on_of (tried task) depth) (filling_of (tried task) r)) o → Lives task depth r (is_some o)
    go (Some t) e h d f = (filling_of (tried task) t, f, h)
    go None e h d f = (rw one at (d refl)) 0 r (omega arith)

module _ (task : Task) (depth : ℕ) (deep : depth < length (tried task)) (r : Row) (b : Begun task depth r) where
  -- the number that a row goes on with
  module _ (n : ℕ) (s : Row) (o : OpenedWith task depth r n s) where
    abbrev used : ℕ
    used = if (eqb o.place (task.named + r.used)) (r.used + 1) r.used

    goes : GoesOn r depth (get_or task.pool.items o.place 0) used s
    goes = subst (λ (m : ℕ). GoesOn r depth m used s) (sym o.opens.is) o.goes

    bounds : (used ≤ r.used + 1) × (r.used ≤ used) × (o.place < task.named + used)
    bounds = by (cases_eq o.place (task.named + r.used))
      where
        by : (o.place ≡ task.named + r.used) ⊎ (o.place ≡ task.named + r.used → ⊥) → (used ≤ r.used + 1) × (r.used ≤ used) × (o.place < task.named + used)
        by (inl e) = rw (eq-eqb o.place (task.named + r.used) e) (omega arith, omega arith, omega (arith, o.opens.low))
        by (inr e) = rw (ne_eqb o.place (task.named + r.used) e) (omega arith, omega arith, omega (arith, o.opens.low))

    pub opened_begun : Begun task (depth + 1) s
    opened_begun = next_begun task depth deep r b s o.place used goes bounds.0 bounds.1 bounds.2

    pub opened_dead : NoneFrom task (depth + 1) true s → NoneWith task depth r n
    opened_dead d =
        subst (λ (m : ℕ). Dead (put_on (on_of (tried task) depth) (get_or (tried task) depth 0)) (put (filling_of (tried task) r) (get_or (tried task) depth 0) m) (goal task true)) o.opens.is
        (next_dead task depth deep r b s o.place used goes (goal task true) d)

  -- one number of the order more
  pub number_more : (order : List ℕ) (n : ℕ) → ((i k : ℕ) → i < n → Opens task r (get_or order i 0) k → NoneWith task depth r (get_or order i 0)) →
      ((k : ℕ) → Opens task r (get_or order n 0) k → NoneWith task depth r (get_or order n 0)) →
      (i k : ℕ) → i < n + 1 → Opens task r (get_or order i 0) k → NoneWith task depth r (get_or order i 0)
  number_more order n before here i k l =
      below_more (λ (j : ℕ). (k : ℕ) → Opens task r (get_or order j 0) k → NoneWith task depth r (get_or order j 0)) n (λ j m k. before j k m) here i l k

  -- where no number of the order can be continued, nothing comes of the row
  pub none_opened : (order : List ℕ) → ((k : ℕ) → k < length task.pool.items → has order (get_or task.pool.items k 0) ≡ true) →
      ((i k : ℕ) → i < length order → Opens task r (get_or order i 0) k → NoneWith task depth r (get_or order i 0)) → NoneFrom task depth true r
  none_opened order all none =
      all_dead (on_of (tried task) depth) (filling_of (tried task) r) (goal task true) task.pool.items task.named (task.named + r.used) (get_or (tried task) depth 0) (pool_of task true) b.drawn (omega arith)
      (room task depth deep r b) each
    where
      each : (j : ℕ) → j < task.named + r.used + 1 → Dead (put_on (on_of (tried task) depth) (get_or (tried task) depth 0)) (put (filling_of (tried task) r) (get_or (tried task) depth 0) (get_or task.pool.items j 0)) (goal task true)
      each j h =
          let f = found_at order (get_or task.pool.items j 0) (all j (omega (arith, room task depth deep r b))) in
          subst (λ (m : ℕ). Dead (put_on (on_of (tried task) depth) (get_or (tried task) depth 0)) (put (filling_of (tried task) r) (get_or (tried task) depth 0) m) (goal task true)) f.2
          (none f.0 j f.1 (record { low = omega arith; is = sym f.2 }))

none_on : (o : Option ℕ) → option_map_or (λ p. ltb p 0) o false ≡ false
none_on None = refl
none_on (Some p) = le-ltb p 0 (omega arith)

-- before the first gap any row will do in which no fresh number is in use
pub none_settled : (task : Task) (r : Row) → r.used ≡ 0 → Begun task 0 r
none_settled task r u = record { few = omega (arith, u); drawn = λ k h. absurd (both_ways _ (none_on (place (tried task) k)) h) }

-- what goes on from there is any filling
pub none_met : (task : Task) (r : Row) → NoneFrom task 0 true r → (v : Filling) → holds v (goal task true) ≡ false
none_met task r d v = d v (λ k h. absurd (both_ways _ (none_on (place (tried task) k)) h))

pub not_both : (task : Task) (depth : ℕ) (r : Row) → Alive task depth r → NoneFrom task depth true r → ⊥
not_both task depth r a d = both_ways _ (d a.0 a.1) a.2

-- the numbers for the first gaps are picked, and can be continued
pub record PickedTo (task : Task) (order : List ℕ) (depth : ℕ) (r : Row) : Type 0 where
  pub picking : Picking task order depth r
  pub begun : Begun task depth r
  pub alive : Alive task depth r

pub none_picked : (task : Task) (order : List ℕ) (r : Row) → r.used ≡ 0 → Alive task 0 r → PickedTo task order 0 r
unfolding Picking
none_picked task order r u a = record { picking = u; begun = none_settled task r u; alive = a }

pub one_picked : (task : Task) (order : List ℕ) (depth : ℕ) → depth < length (tried task) → (r s : Row) → PickedTo task order depth r → Picks task order depth r s → PickedTo task order (depth + 1) s
unfolding Picking
one_picked task order depth deep r s h p = record {
  picking = simp unary_clauses (r, h.picking, p);
  begun = opened_begun task depth deep r h.begun (get_or order p.at 0) s p.opened;
  alive = p.alive;
}
