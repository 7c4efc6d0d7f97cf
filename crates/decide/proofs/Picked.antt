-- What is picked with the fresh numbers first, and with all numbers as they rise: see specs/Picking.antt and specs/Choice.antt.
use Rattle.std.proofs.Common.{◌≡◌, ℕ, zero, suc, ◌+◌, ◌<◌, ◌≤◌, Bool, true, false, eqb, ltb, ◌⊎◌, List, length, get_or, take, drop, Some, None, Option, sym, refl, ap, ◌∙◌, subst, inl, inr, arith}
use Rattle.std.specs.List.{position_or_len}
use Rattle.std.specs.Option.{option_map_or}
use Rattle.std.proofs.lemmas.Bool.{both_ways, cases_lt, eqb-true, eq-eqb, ltb-true, lt-ltb, le-ltb, false_from_ne_true}
use Rattle.std.proofs.lemmas.List.{get_or-take, get_or_past, length-take-le, drop_more, drop_all}
use Rattle.std.proofs.lemmas.List.Sums.{fails_before_first, passes_at_first}
use Rattle.condition.specs.Cond.{has, Within}
use Rattle.evaluate.specs.Filling.{Filling, put, holds}
use Rattle.decide.specs.Might.{Extends, Dead, put_on, NoLater}
use Rattle.decide.specs.Rows.{place, on_of, number_at, filling_of}
use Rattle.decide.specs.Search.{tried, goal}
use Rattle.decide.specs.Picking.{Alive, NoneWith, Picking, OthersFirst, Rising, FirstMet}
use Rattle.decide.specs.Choice.{owner, Begins, LeadsNowhere, PickedBefore, New, Picked}
use Rattle.decide.specs.Trying.{LeastOther}
use Rattle.decide.specs.declared.rows.Row.{Row}
use Rattle.decide.specs.declared.task.Task.{Task}
use Rattle.decide.proofs.Steps.{goes_on, least_step, least_all}
use Rattle.decide.proofs.Listing.{found_at, at_low, place_back, place_at, on_more, filling_more}
use Rattle.decide.proofs.Gathering.{front_has, front_more}
use Rattle.decide.proofs.Trails.{Trail, trail, used_few, opened, opens_more, used_for, numbers_at}

-- the first place that has a number
module _ (xs : List ℕ) (p : ℕ) where
  abbrev first : ℕ
  first = position_or_len (λ n. eqb n (get_or xs p 0)) xs

  owner_is : ((first < length xs) × (owner xs p ≡ first)) ⊎ ((length xs ≤ first) × (owner xs p ≡ p))
  owner_is = by (cases_lt first (length xs))
    where
      by : (first < length xs) ⊎ (length xs ≤ first) → ((first < length xs) × (owner xs p ≡ first)) ⊎ ((length xs ≤ first) × (owner xs p ≡ p))
      by (inl l) = inl (l, rw (lt-ltb first (length xs) l) refl)
      by (inr l) = inr (l, rw (le-ltb first (length xs) l) refl)

  first_low : first ≤ p
  first_low = at_low xs (get_or xs p 0) p refl

  owner_low : owner xs p ≤ p
  owner_low = elim owner_is [ inl e ↦ omega (arith, e.1, first_low) | inr e ↦ omega (arith, e.1) ]

  owner_same : get_or xs (owner xs p) 0 ≡ get_or xs p 0
  owner_same = elim owner_is [
    | inl e ↦ rw e.1 (eqb-true (get_or xs first 0) (get_or xs p 0) (passes_at_first (λ n. eqb n (get_or xs p 0)) xs 0 e.0))
    | inr e ↦ rw e.1 refl
  ]

  owner_first : p < length xs → (q : ℕ) → q < owner xs p → get_or xs q 0 ≡ get_or xs p 0 → ⊥
  owner_first h q l e = elim owner_is [
    | inl i ↦
        both_ways (eqb (get_or xs q 0) (get_or xs p 0))
        (fails_before_first (λ n. eqb n (get_or xs p 0)) xs q 0 (omega (arith, i.1))) (eq-eqb (get_or xs q 0) (get_or xs p 0) e)
    | inr i ↦ absurd (omega (arith, i.0, first_low))
  ]

-- past the end all have one owner, or each itself
owner_past : (xs : List ℕ) (p q : ℕ) → length xs ≤ q → q < p → owner xs p < owner xs q → ⊥
owner_past xs p q l h i = by (cases_lt (first xs p) (length xs))
  where
    same : first xs p ≡ first xs q
    same = rw (get_or_past xs p 0 (omega arith), get_or_past xs q 0 l) refl

    by : (first xs p < length xs) ⊎ (length xs ≤ first xs p) → ⊥
    by (inl j) = elim (owner_is xs p) [
      | inl a ↦ elim (owner_is xs q) [ inl b ↦ omega (arith, a.1, b.1, same) | inr b ↦ omega (arith, b.0, same) ]
      | inr a ↦ omega (arith, a.0)
    ]
    by (inr j) = elim (owner_is xs p) [ inl a ↦ omega (arith, a.0) | inr a ↦ omega (arith, a.1, owner_low xs q) ]

-- the numbers of the pool
module _ (task : Task) where
  abbrev pool : List ℕ
  pool = task.pool.items

  abbrev number : ℕ → ℕ
  number k = get_or task.pool.items k 0

  abbrev named : List ℕ
  named = take task.named task.pool.items

  fits : task.named ≤ length pool
  fits = omega (arith, task.set_up.many)

  -- a fresh number is none of those before it
  fresh_new : (j k : ℕ) → j < k → task.named ≤ k → k < length pool → number j ≡ number k → ⊥
  fresh_new j k l h i e =
      both_ways (has (take k pool) (number k)) (task.set_up.numbers.fresh k h i)
      (subst (λ (y : ℕ). has (take k pool) y ≡ true) e (front_has k pool j l (omega arith)))

  -- so it has one place
  fresh_place : (j k : ℕ) → task.named ≤ k → k < length pool → j < length pool → number j ≡ number k → j ≡ k
  fresh_place j k h i l e = elim (cases_lt j k) [
    | inl a ↦ absurd (fresh_new j k a h i e)
    | inr a ↦ elim (cases_lt k j) [ inl b ↦ absurd (fresh_new k j b (omega arith) l (sym e)) | inr b ↦ omega arith ]
  ]

  -- the first places are those of what is named
  named_low : (k : ℕ) → k < length pool → has named (number k) ≡ true → k < task.named
  named_low k l h = elim (cases_lt k task.named) [
    | inl a ↦ a
    | inr a ↦
        let f : (j : ℕ) × (j < length named) × (get_or named j 0 ≡ number k) = found_at named (number k) h in
        let b : f.0 < task.named = omega (arith, f.1, length-take-le task.named pool fits) in
        absurd (fresh_new f.0 k (omega arith) a l (sym (get_or-take task.named pool f.0 0 b) ∙ f.2))
  ]

  fresh_high : (k : ℕ) → has named (number k) ≡ false → task.named ≤ k
  fresh_high k h = elim (cases_lt k task.named) [ inl a ↦ absurd (both_ways (has named (number k)) h (front_has task.named pool k a fits)) | inr a ↦ a ]

  fresh_other : (k : ℕ) → k < length pool → task.named ≤ k → has named (number k) ≡ false
  fresh_other k l h = false_from_ne_true (has named (number k)) (λ e. omega (arith, named_low k l e))

  -- what is named stands at one of the first places
  named_at : (n : ℕ) → has named n ≡ true → (j : ℕ) × (j < task.named) × (number j ≡ n)
  named_at n h =
      let f : (j : ℕ) × (j < length named) × (get_or named j 0 ≡ n) = found_at named n h in
      let b : f.0 < task.named = omega (arith, f.1, length-take-le task.named pool fits) in
      (f.0, b, sym (get_or-take task.named pool f.0 0 b) ∙ f.2)

-- a filling that begins as a row does goes on from it, and the other way round
module _ (task : Task) where
  begun_on : (p : ℕ) (r : Row) (xs : List ℕ) (w : Filling) → ((q : ℕ) → q < p → get_or xs q 0 ≡ number_at r q) → Begins (tried task) xs p w →
      Extends (on_of (tried task) p) (filling_of (tried task) r) w
  begun_on p r xs w same b k h = go (place (tried task) k) refl h
    where
      go : (o : Option ℕ) → place (tried task) k ≡ o → option_map_or (λ q. ltb q p) o false ≡ true → w k ≡ option_map_or (number_at r) o 0
      go None e i = absurd (both_ways false refl i)
      go (Some q) e i = let l : q < p = ltb-true q p i in ap w (sym (place_back (tried task) k q e).1) ∙ (b q l ∙ same q l)

  goes_begun : (r : Row) (w : Filling) → Extends (on_of (tried task) (length (tried task))) (filling_of (tried task) r) w →
      Begins (tried task) r.numbers (length (tried task)) w
  goes_begun r w e q l =
      let at : place (tried task) (get_or (tried task) q 0) ≡ Some q = place_at (tried task) task.gaps.distinct q l in
      let f : ltb q (length (tried task)) ≡ true → w (get_or (tried task) q 0) ≡ get_or r.numbers q 0 = rw at at (e (get_or (tried task) q 0)) in
      f (lt-ltb q (length (tried task)) l)

-- a row that is alive begins a filling that meets the goal
pub begins_alive : (task : Task) (r : Row) → Alive task (length (tried task)) r →
    (w : Filling) × Begins (tried task) r.numbers (length (tried task)) w × (holds w (goal task true) ≡ true)
begins_alive task r a = (a.0, goes_begun task r a.0 a.1, a.2)

-- the rows of a picking for all gaps that are tried
module _ (task : Task) (P : ℕ → ℕ → Type 0) (s : Row) (t : Trail task P (length (tried task)) s) where
  abbrev depth : ℕ
  depth = length (tried task)

  abbrev open_before : ℕ → ℕ
  open_before p = task.named + (t.row p).used

  -- the last row's numbers
  abbrev xs : List ℕ
  xs = (t.row (length (tried task))).numbers

  room : (p : ℕ) → p < depth → open_before p < length task.pool.items
  room p l = omega (arith, used_few task P depth s t p (omega arith), task.set_up.many)

  inside : (p : ℕ) → p < depth → t.place p < length task.pool.items
  inside p l = omega (arith, (t.step p l).low, room p l)

  value : (p : ℕ) → p < depth → get_or xs p 0 ≡ number task (t.place p)
  value p l = numbers_at task P depth s t depth p (omega arith) l

  -- a number that was picked is open from then on
  opened_before : (p q : ℕ) → q < p → p ≤ depth → t.place q < open_before p
  opened_before p q l h = omega (arith, opened task P depth s t q (omega arith), opens_more task P depth s t (q + 1) p (omega arith) h)

  -- the next fresh number was not picked yet
  unpicked : (p : ℕ) → p < depth → (q : ℕ) → q < p → get_or xs q 0 ≡ number task (open_before p) → ⊥
  unpicked p l q h e =
      fresh_new task (t.place q) (open_before p) (opened_before p q h (omega arith)) (omega arith) (room p l) (sym (value q (omega arith)) ∙ e)

  -- where a fresh number is picked that was not picked before, it is the next
  first_picked : (p : ℕ) → p < depth → task.named ≤ t.place p → ((q : ℕ) → q < p → get_or xs q 0 ≡ get_or xs p 0 → ⊥) → t.place p ≡ open_before p
  first_picked p l h f = elim (cases_lt (t.place p) (open_before p)) [
    | inl a ↦
        let b : (q : ℕ) × (q < p) × (t.place q ≡ t.place p) = used_for task P depth s t p (omega arith) (t.place p) h a in
        absurd (f b.0 b.1 (value b.0 (omega (arith, b.1)) ∙ (ap (number task) b.2 ∙ sym (value p l))))
    | inr a ↦ omega (arith, a, (t.step p l).low)
  ]

  -- what comes before the number of a step leads nowhere
  leads : (p : ℕ) → p < depth → (j : ℕ) → j ≤ open_before p → P j (t.place p) → LeadsNowhere (goal task true) (tried task) xs p (number task j)
  leads p l j h i w b e =
      (t.step p l).earlier j (room p l) h i w
      (goes_on (on_of (tried task) p) (filling_of (tried task) (t.row p)) w (get_or (tried task) p 0) (number task j)
      (begun_on task p (t.row p) xs w (λ q a. value q (omega arith) ∙ sym (numbers_at task P depth s t p q (omega arith) a)) b) e)

-- the order of `OthersFirst`: a comes before b
abbrev Sooner : Task → ℕ → ℕ → Type 0
Sooner task a b = ((task.named ≤ a) × (b < a)) ⊎ ((a < task.named) × (b < task.named) × (number task a < number task b))

module _ (task : Task) (s : Row) (t : Trail task (Sooner task) (length (tried task)) s) where
  abbrev ys : List ℕ
  ys = (t.row (length (tried task))).numbers

  abbrev deep : ℕ
  deep = length (tried task)

  is_in : (p : ℕ) → p < deep → t.place p < length task.pool.items
  is_in = inside task (Sooner task) s t

  is : (p : ℕ) → p < deep → get_or ys p 0 ≡ number task (t.place p)
  is = value task (Sooner task) s t

  -- where a number that is not new was picked, the next fresh one leads nowhere
  picked_new : (p : ℕ) → p < deep → (has (named task) (get_or ys p 0) ≡ true) ⊎ PickedBefore ys p (get_or ys p 0) →
      (n : ℕ) × New (named task) ys p n × LeadsNowhere (goal task true) (tried task) ys p n
  picked_new p l h = (
    number task next,
    record { other = fresh_other task next (room task (Sooner task) s t p l) (omega arith); unused = unpicked task (Sooner task) s t p l },
    leads task (Sooner task) s t p l next (omega arith) (inl (omega arith, low h)),
  )
    where
      next : ℕ
      next = task.named + (t.row p).used

      low : (has (named task) (get_or ys p 0) ≡ true) ⊎ PickedBefore ys p (get_or ys p 0) → t.place p < next
      low (inl a) = let b : t.place p < task.named = named_low task (t.place p) (is_in p l) (ap (has (named task)) (sym (is p l)) ∙ a) in omega arith
      low (inr b) = elim (cases_lt (t.place p) next) [
        | inl a ↦ a
        | inr a ↦
            let e : t.place p ≡ next = omega (arith, a, (t.step p l).low) in
            absurd (unpicked task (Sooner task) s t p l b.0 b.1 (b.2 ∙ (is p l ∙ ap (number task) e)))
      ]

  -- where two fresh numbers were picked, the one that was picked first has the lower place
  picked_order : (p q : ℕ) → p < deep → q < deep → has (named task) (get_or ys q 0) ≡ false → q < length ys → owner ys p < owner ys q → t.place p < t.place q
  picked_order p q l h o long i = by (cases_lt (t.place p) task.named)
    where
      high : task.named ≤ t.place q
      high = fresh_high task (t.place q) (ap (has (named task)) (sym (is q h)) ∙ o)

      same : (k : ℕ) → k < deep → task.named ≤ t.place k → t.place (owner ys k) ≡ t.place k
      same k m f = fresh_place task (t.place (owner ys k)) (t.place k) f (is_in k m) (is_in (owner ys k) (omega (arith, owner_low ys k)))
          (sym (is (owner ys k) (omega (arith, owner_low ys k))) ∙ (owner_same ys k ∙ is k m))

      by : (t.place p < task.named) ⊎ (task.named ≤ t.place p) → t.place p < t.place q
      by (inl a) = omega (arith, high)
      by (inr a) =
          let b : owner ys q < deep = omega (arith, owner_low ys q) in
          let e : t.place (owner ys q) ≡ t.place q = same q h high in
          let f : t.place (owner ys q) ≡ task.named + (t.row (owner ys q)).used =
          first_picked task (Sooner task) s t (owner ys q) b (omega (arith, e, high)) (λ k c d. owner_first ys q long k c (d ∙ owner_same ys q)) in
          omega (arith, opened_before task (Sooner task) s t (owner ys q) (owner ys p) i (omega arith), same p l a, e, f)

  picked_used : (p q : ℕ) → p < deep → q < p → has (named task) (get_or ys q 0) ≡ false →
      (has (named task) (get_or ys p 0) ≡ true) ⊎ (owner ys p < owner ys q) → LeadsNowhere (goal task true) (tried task) ys p (get_or ys q 0)
  picked_used p q l h o i =
      subst (LeadsNowhere (goal task true) (tried task) ys p) (sym (is q (omega arith)))
      (leads task (Sooner task) s t p l (t.place q) (omega (arith, opened_before task (Sooner task) s t p q h (omega arith))) (inl (high, low i)))
    where
      high : task.named ≤ t.place q
      high = fresh_high task (t.place q) (ap (has (named task)) (sym (is q (omega arith))) ∙ o)

      low : (has (named task) (get_or ys p 0) ≡ true) ⊎ (owner ys p < owner ys q) → t.place p < t.place q
      low (inl a) = omega (arith, high, named_low task (t.place p) (is_in p l) (ap (has (named task)) (sym (is p l)) ∙ a))
      low (inr a) = elim (cases_lt q (length ys)) [
        | inl b ↦ picked_order p q l (omega arith) o b a
        | inr b ↦ absurd (owner_past ys p q b h a)
      ]

  picked_named : (p n : ℕ) → p < deep → has (named task) (get_or ys p 0) ≡ true → has (named task) n ≡ true → n < get_or ys p 0 →
      LeadsNowhere (goal task true) (tried task) ys p n
  picked_named p n l h o i =
      let j : (k : ℕ) × (k < task.named) × (number task k ≡ n) = named_at task n o in
      let low : t.place p < task.named = named_low task (t.place p) (is_in p l) (ap (has (named task)) (sym (is p l)) ∙ h) in
      let less : number task j.0 < number task (t.place p) = omega (arith, j.2, is p l, i) in
      subst (LeadsNowhere (goal task true) (tried task) ys p) j.2
      (leads task (Sooner task) s t p l j.0 (omega (arith, j.1)) (inr (j.1, low, less)))

  all_picked : Picked (goal task true) (tried task) (named task) ys
  all_picked = record { new = picked_new; used = picked_used; named = picked_named }

-- with the fresh numbers first, the last of them first, the numbers of the row are picked as the choice of the deciding filling asks
pub picked : (task : Task) (order : List ℕ) → OthersFirst task order → (r : Row) → Picking task order (length (tried task)) r →
    Picked (goal task true) (tried task) (take task.named task.pool.items) r.numbers
picked task order first r h =
    let t = trail task order (Sooner task) first (length (tried task)) r h in
    subst (λ (q : Row). Picked (goal task true) (tried task) (take task.named task.pool.items) q.numbers) t.last (all_picked task r t)

-- the order of `Rising`: a comes before b
abbrev Lower : Task → ℕ → ℕ → Type 0
Lower task a b = number task a < number task b

-- the least number that is neither named nor in use is the next fresh one
abbrev Least : Task → Type 0
Least task = (p : ℕ) → task.named ≤ p → p < length task.pool.items → LeastOther (take p task.pool.items) (number task p)

module _ (task : Task) (fresh : Least task) (s : Row) (t : Trail task (Lower task) (length (tried task)) s) where
  abbrev gs : List ℕ
  gs = tried task

  abbrev on : ℕ → ℕ → Bool
  on p = on_of (tried task) p

  abbrev filling : ℕ → Filling
  filling p = filling_of (tried task) (t.row p)

  abbrev gap : ℕ → ℕ
  gap p = get_or (tried task) p 0

  abbrev picked_at : ℕ → ℕ
  picked_at p = number task (t.place p)

  -- the numbers that are named or in use, and the next fresh one
  abbrev opens : ℕ → ℕ
  opens p = task.named + (t.row p).used

  abbrev there : ℕ → List ℕ
  there p = take (task.named + (t.row p).used) task.pool.items

  drawn : (p : ℕ) → p < length gs → (k : ℕ) → on p k ≡ true → has (there p) (filling p k) ≡ true
  drawn p l k h = go (place gs k) h
    where
      go : (o : Option ℕ) → option_map_or (λ q. ltb q p) o false ≡ true → has (there p) (option_map_or (number_at (t.row p)) o 0) ≡ true
      go None e = absurd (both_ways false refl e)
      go (Some q) e =
          let m : q < p = ltb-true q p e in
          rw (numbers_at task (Lower task) (length gs) s t p q (omega arith) m)
          (front_has (opens p) task.pool.items (t.place q) (opened_before task (Lower task) s t p q m (omega arith)) (omega (arith, room task (Lower task) s t p l)))

  low_dead : (p : ℕ) → p < length gs → (y : ℕ) → y < picked_at p → (has (there p) y ≡ true) ⊎ (y ≡ number task (opens p)) →
      Dead (put_on (on p) (gap p)) (put (filling p) (gap p) y) (goal task true)
  low_dead p l y i (inl h) =
      let f : (j : ℕ) × (j < length (there p)) × (get_or (there p) j 0 ≡ y) = found_at (there p) y h in
      let b : f.0 < opens p = omega (arith, f.1, length-take-le (opens p) task.pool.items (omega (arith, room task (Lower task) s t p l))) in
      let e : number task f.0 ≡ y = sym (get_or-take (opens p) task.pool.items f.0 0 b) ∙ f.2 in
      subst (NoneWith task p (t.row p)) e ((t.step p l).earlier f.0 (room task (Lower task) s t p l) (omega arith) (omega (arith, e)))
  low_dead p l y i (inr e) = subst (NoneWith task p (t.row p)) (sym e) ((t.step p l).earlier (opens p) (room task (Lower task) s t p l) (omega arith) (omega (arith, e)))

  -- no filling that goes on from here and meets the goal has a lower number at the next gap
  lowest : (p : ℕ) → p < length gs → (u : Filling) → Extends (on p) (filling p) u → holds u (goal task true) ≡ true → picked_at p ≤ u (gap p)
  unfolding Within
  lowest p l =
      let f = fresh (opens p) (omega arith) (room task (Lower task) s t p l) in
      least_step (on p) (filling p) (goal task true) (there p) (gap p) (number task (opens p)) (picked_at p)
      (λ n h. front_more task.named (opens p) task.pool.items (omega arith) (omega (arith, room task (Lower task) s t p l)) n (task.set_up.numbers.named n h))
      (drawn p l) f.new f.least (low_dead p l)

  -- what gives one gap more its number goes on from the next row
  extends_next : (p : ℕ) → p < length gs → (u : Filling) →
      Extends (put_on (on p) (gap p)) (put (filling p) (gap p) (picked_at p)) u → Extends (on (p + 1)) (filling (p + 1)) u
  extends_next p l u e k h =
      e k (sym (on_more gs task.gaps.distinct p l k) ∙ h)
      ∙ sym (filling_more gs task.gaps.distinct p l (t.row p) (t.row (p + 1)) (picked_at p) _ (t.step p l).goes k)

  gives : (p : ℕ) → p < length gs → filling (length gs) (gap p) ≡ picked_at p
  gives p l = rw (place_at gs task.gaps.distinct p l) (value task (Lower task) s t p l)

  -- so none has an earlier number at a gap from here on
  no_later : (i p : ℕ) → p + i ≡ length gs → (u : Filling) → Extends (on p) (filling p) u → holds u (goal task true) ≡ true → NoLater (drop p gs) (filling (length gs)) u
  unfolding NoLater
  no_later zero p z u e h = rw (drop_all p gs (omega arith)) tt
  no_later (suc i) p z u e h =
      rw (drop_more gs p 0 (omega arith))
      (least_all (on p) (filling p) (goal task true) (gap p) (drop (p + 1) gs) (picked_at p) (filling (length gs)) (gives p (omega arith)) (lowest p (omega arith))
      (λ w f g. no_later i (p + 1) (omega arith) w (extends_next p (omega arith) w f) g) u e h)

  first_met : FirstMet task (t.row (length (tried task)))
  first_met u h = no_later (length gs) 0 (omega arith) u (λ k o. absurd (none (place gs k) o)) h
    where
      none : (o : Option ℕ) → option_map_or (λ q. ltb q 0) o false ≡ true → ⊥
      none None e = both_ways false refl e
      none (Some q) e = omega (arith, ltb-true q 0 e)

-- with all numbers as they rise, the row's filling is the least
pub least : (task : Task) (order : List ℕ) → Rising task order →
    ((p : ℕ) → task.named ≤ p → p < length task.pool.items → LeastOther (take p task.pool.items) (get_or task.pool.items p 0)) →
    (r : Row) → Picking task order (length (tried task)) r → FirstMet task r
least task order rises fresh r h =
    let t = trail task order (Lower task) rises (length (tried task)) r h in
    subst (FirstMet task) t.last (first_met task fresh r t)
