-- The steps of the search over rows.
use Rattle.std.proofs.Common.{◌≡◌, ℕ, ◌+◌, ◌<◌, ◌≤◌, Bool, true, false, cond as if, not, ◌&&◌, ◌||◌, eqb, ltb, ◌⊎◌, List, [], ◌∷◌, ◌++◌, length, get_or, take, is_some, Some, None, Option, sym, refl, ap, ◌∙◌, subst, inl, inr, ⊎_elim, arith, take_all, length-append}
use mathlib.Core.Path.{fun_ext}
use Rattle.std.specs.List.{All}
use Rattle.std.specs.Option.{option_map_or}
use Rattle.std.proofs.Math.ListN.{get_or-append}
use Rattle.std.proofs.lemmas.List.{get_or-take, get_or-append-add, length-take-le}
use Rattle.std.proofs.lemmas.List.Elements.{All-nil, All-append, All-more, All-from_get_or}
use Rattle.std.proofs.lemmas.Bool.{both_ways, cases_Bool, cases_lt, eqb-true, ltb-true, lt-ltb, le-ltb, or_parts}
use Rattle.condition.specs.Cond.{Cond, cells_of, numbers, gaps, has, Within}
use Rattle.condition.proofs.Lists.{has_at}
use Rattle.evaluate.specs.Filling.{Filling, put, holds}
use Rattle.evaluate.specs.Shapes.{numbers_of}
use Rattle.evaluate.specs.declared.Filling as filled
use Rattle.evaluate.proofs.Holding.{own_gaps}
use Rattle.decide.specs.Bit.{lane}
use Rattle.decide.specs.Might.{Dead, put_on}
use Rattle.decide.specs.Sides.{side}
use Rattle.decide.specs.Rows.{place, on_of, GoesOn, filling_of, blank, row}
use Rattle.decide.specs.Goals.{Pool}
use Rattle.decide.specs.Lanes.{Meets}
use Rattle.decide.specs.Leaves.{MeetIn}
use Rattle.decide.specs.Search.{tried, at_once, goal, Begun, Met, Sound, NoneFrom, GoFrom, Each, Searched, wanted, OrFirst, Extended}
use Rattle.decide.specs.Trying.{Tried}
use Rattle.decide.specs.declared.rows.Row.{Row}
use Rattle.decide.specs.declared.sides.Sides.{Sides}
use Rattle.decide.specs.declared.words.Pair.{Pair}
use Rattle.decide.specs.declared.words.Word.{Word}
use Rattle.decide.specs.declared.task.Task.{Task}
use Rattle.decide.proofs.Mights.{dead_now}
use Rattle.decide.proofs.Steps.{few_steps}
use Rattle.decide.proofs.Listing.{found_at, has_place, place_at, on_more, filling_more}

pub front_has : (n : ℕ) (xs : List ℕ) (j : ℕ) → j < n → n ≤ length xs → has (take n xs) (get_or xs j 0) ≡ true
front_has n xs j l m = subst (λ (y : ℕ). has (take n xs) y ≡ true) (get_or-take n xs j 0 l) (has_at (take n xs) j (omega (arith, length-take-le n xs m)))

-- more of a list has no less
pub front_more : (n k : ℕ) (xs : List ℕ) → n ≤ k → k ≤ length xs → (x : ℕ) → has (take n xs) x ≡ true → has (take k xs) x ≡ true
front_more n k xs l m x h =
    let f : (j : ℕ) × (j < length (take n xs)) × (get_or (take n xs) j 0 ≡ x) = found_at (take n xs) x h in
    let b : f.0 < n = omega (arith, f.1, length-take-le n xs (omega arith)) in
    subst (λ (y : ℕ). has (take k xs) y ≡ true) (sym (get_or-take n xs f.0 0 b) ∙ f.2) (front_has k xs f.0 (omega arith) m)

-- the numbers of the pool that are named or in use, and the next one, lead nowhere
pub all_dead : (on : ℕ → Bool) (v : Filling) (c : Cond) (pool : List ℕ) (m n g : ℕ) → Pool (numbers c) m pool → ((k : ℕ) → on k ≡ true → has (take n pool) (v k) ≡ true) → m ≤ n → n < length pool
    → ((j : ℕ) → j < n + 1 → Dead (put_on on g) (put v g (get_or pool j 0)) c) → Dead on v c
unfolding Within
all_dead on v c pool m n g q drawn l w all =
    few_steps on v c (take n pool) g (get_or pool n 0) (λ x h. front_more m n pool l (omega arith) x (q.named x h)) drawn (q.fresh n l w) (λ x h. each x (found_at (take n pool) x h)) (all n (omega arith))
  where
    each : (x : ℕ) → (j : ℕ) × (j < length (take n pool)) × (get_or (take n pool) j 0 ≡ x) → Dead (put_on on g) (put v g x) c
    each x f =
        let b : f.0 < n = omega (arith, f.1, length-take-le n pool (omega arith)) in
        subst (λ (y : ℕ). Dead (put_on on g) (put v g y) c) (sym (get_or-take n pool f.0 0 b) ∙ f.2) (all f.0 (omega arith))

module _ (task : Task) where
  -- both goals name the same numbers and gaps
  same_numbers : (t : Bool) → numbers (goal task t) ≡ numbers (goal task true)
  unfolding cells_of
  same_numbers true = refl
  same_numbers false = refl

  pub same_gaps : (t : Bool) → gaps (goal task t) ≡ gaps (goal task true)
  unfolding cells_of
  same_gaps true = refl
  same_gaps false = refl

  pub pool_of : (t : Bool) → Pool (numbers (goal task t)) task.named task.pool.items
  pool_of t = subst (λ (ns : List ℕ). Pool ns task.named task.pool.items) (sym (same_numbers t)) task.set_up.numbers

  -- as many rows at once as a word has lanes, or two
  pub at_once_bounds : (depth : ℕ) → (256 ≤ at_once task depth) × (at_once task depth ≤ 512)
  at_once_bounds depth = by (eqb depth (length (tried task)))
    where
      by : (t : Bool) → (256 ≤ if t 512 256) × (if t 512 256 ≤ 512)
      by true = (omega arith, omega arith)
      by false = (omega arith, omega arith)

  -- a gap that is settled stays so
  more_on : (depth k : ℕ) → on_of (tried task) depth k ≡ true → on_of (tried task) (depth + 1) k ≡ true
  more_on depth k = go (place (tried task) k)
    where
      go : (o : Option ℕ) → option_map_or (λ p. ltb p depth) o false ≡ true → option_map_or (λ p. ltb p (depth + 1)) o false ≡ true
      go None h = h
      go (Some p) h = lt-ltb p (depth + 1) (omega (arith, ltb-true p depth h))

  -- the rows that were gathered go on from the first l rows, and what they leave is left
  pub record Gathered (depth : ℕ) (rows : List Row) (before : Met) (l : ℕ) (next : List Row) (met : Met) : Type 0 where
    pub begun : All (Begun task (depth + 1)) next
    pub sound : (t : Bool) → Sound task t (side t met)
    pub kept : (t : Bool) → is_some (side t met) ≡ false → is_some (side t before) ≡ false
    pub dead : (t : Bool) → is_some (side t met) ≡ false → All (NoneFrom task (depth + 1) t) next → All (NoneFrom task depth t) (take l rows)
    pub from : (on : ℕ → Bool) (v : Filling) → ((k : ℕ) → on k ≡ true → on_of (tried task) depth k ≡ true) → All (GoFrom task on v) rows →
        All (GoFrom task on v) next × ((t : Bool) → Each (GoFrom task on v) (side t before) → Each (GoFrom task on v) (side t met))

  module _ (depth : ℕ) (rows : List Row) (before : Met) where
    -- all gaps are settled
    module _ (deep : depth ≡ length (tried task)) (lanes : Sides Pair) (after : Met) (meets : MeetIn (tried task) rows task.cone.now task.goal lanes)
        (sound : (t : Bool) → Sound task t (side t before)) (firsts : (t : Bool) → OrFirst (side t before) (side t lanes) rows (side t after)) where
      -- with all gaps settled, nothing else goes on from a row than what it stands for
      none_else : (t : Bool) (r : Row) → holds (filling_of (tried task) r) (goal task t) ≡ false → NoneFrom task depth t r
      none_else t r h w e = own_gaps (goal task t) w (filling_of (tried task) r) (λ k u. e k (all_on k u)) ∙ h
        where
          all_on : (k : ℕ) → has (gaps (goal task t)) k ≡ true → on_of (tried task) depth k ≡ true
          all_on k u =
              let p = has_place (tried task) task.gaps.distinct k (task.set_up.held k (subst (λ (ks : List ℕ). has ks k ≡ true) (same_gaps t) u)) in
              rw p.2 (lt-ltb p.0 depth (omega (arith, p.1)))

      leaf_one : (t : Bool) (o p : Option Row) → Sound task t o → OrFirst o (side t lanes) rows p
          → Sound task t p × (is_some p ≡ false → is_some o ≡ false) × (is_some p ≡ false → All (NoneFrom task depth t) rows)
      leaf_one t (Some s) p h f =
          (subst (λ (q : Option Row). Sound task t q) (sym f) h, λ e. absurd (both_ways (is_some p) e (ap is_some f)), λ e. absurd (both_ways (is_some p) e (ap is_some f)))
      leaf_one t None (Some r) h f = (
        subst (λ (q : Row). holds (filling_of (tried task) q) (goal task t) ≡ true) (sym f.3) (sym (meets f.0 f.1 t) ∙ f.2),
        λ e. refl,
        λ e. absurd (both_ways true e refl),
      )
      leaf_one t None None h f = (
        tt,
        λ e. refl,
        λ e. All-from_get_or (NoneFrom task depth t) rows blank (λ l k. none_else t (get_or rows l blank) (sym (meets l k t) ∙ f l k)),
      )

      leaf_from : (P : Row → Type 0) → All P rows → (w : Pair) (o p : Option Row) → OrFirst o w rows p → Each P o → Each P p
      leaf_from P a w (Some s) p f h = subst (Each P) (sym f) h
      leaf_from P a w None (Some r) f h = subst P (sym f.3) (a f.0 blank f.1)
      leaf_from P a w None None f h = tt

      pub at_leaves : Searched task depth rows before after
      at_leaves = record {
        from = λ on v _ a t h. leaf_from (GoFrom task on v) a (side t lanes) (side t before) (side t after) (firsts t) h;
        sound = λ t. (leaf_one t (side t before) (side t after) (sound t) (firsts t)).0;
        kept = λ t. (leaf_one t (side t before) (side t after) (sound t) (firsts t)).1;
        dead = λ t. (leaf_one t (side t before) (side t after) (sound t) (firsts t)).2;
      }

    module _ (l : ℕ) (next : List Row) (met : Met) (g : Gathered depth rows before l next met) where
      -- the gathered rows were searched
      pub emptied : (after : Met) → Searched task (depth + 1) next met after → Gathered depth rows before l [] after
      emptied after s = record {
        begun = All-nil (Begun task (depth + 1));
        sound = s.sound;
        kept = λ t e. g.kept t (s.kept t e);
        dead = λ t e _. g.dead t (s.kept t e) (s.dead t e);
        from = λ on v low a. (All-nil (GoFrom task on v), found on v low a);
      }
        where
          found : (on : ℕ → Bool) (v : Filling) → ((k : ℕ) → on k ≡ true → on_of (tried task) depth k ≡ true) → All (GoFrom task on v) rows →
              (t : Bool) → Each (GoFrom task on v) (side t before) → Each (GoFrom task on v) (side t after)
          found on v low a t h = let f = g.from on v low a in s.from on v (λ k u. more_on depth k (low k u)) f.0 t (f.1 t h)

      -- and there are no more
      pub all_emptied : (after : Met) → length rows ≤ l → Searched task (depth + 1) next met after → Searched task depth rows before after
      all_emptied after h s = record {
        sound = s.sound;
        kept = λ t i. g.kept t (s.kept t i);
        dead = λ t i. subst (All (NoneFrom task depth t)) (take_all l rows h) (g.dead t (s.kept t i) (s.dead t i));
        from = λ on v low a t i. let f = g.from on v low a in s.from on v (λ k u. more_on depth k (low k u)) f.0 t (f.1 t i);
      }

      -- a row in which nothing that is left might be found
      pub passed : l < length rows → (lanes : Sides Word) → Meets (tried task) depth rows task.cone.now task.goal lanes → wanted met lanes l ≡ false → Gathered depth rows before (l + 1) next met
      passed u lanes m w = record { begun = g.begun; sound = g.sound; kept = g.kept; from = g.from; dead = λ t e d. All-more (NoneFrom task depth t) rows l blank u (g.dead t e d) (gone t e) }
        where
          left : (t : Bool) → is_some (side t met) ≡ false → lane l (side t lanes) ≡ false
          left true e = rw e at (or_parts (not (is_some met.yes) && lane l lanes.yes) (not (is_some met.no) && lane l lanes.no) w).0
          left false e = rw e at (or_parts (not (is_some met.yes) && lane l lanes.yes) (not (is_some met.no) && lane l lanes.no) w).1

          gone : (t : Bool) → is_some (side t met) ≡ false → NoneFrom task depth t (get_or rows l blank)
          gone t e = dead_now (on_of (tried task) depth) (row (tried task) rows l) (goal task t) (sym (m l u t) ∙ left t e)

  -- one gap more
  module _ (depth : ℕ) (deep : depth < length (tried task)) (r : Row) (b : Begun task depth r) where
    abbrev gap : ℕ
    gap = get_or (tried task) depth 0

    pub on_next : on_of (tried task) (depth + 1) ≡ put_on (on_of (tried task) depth) gap
    on_next = fun_ext (on_more (tried task) task.gaps.distinct depth deep)

    pub room : task.named + r.used < length task.pool.items
    room = omega (arith, b.few, task.set_up.many)

    -- a row that goes on from r with number k of the pool
    module _ (s : Row) (k u : ℕ) (on : GoesOn r depth (get_or task.pool.items k 0) u s) where
      pub next_filling : filling_of (tried task) s ≡ put (filling_of (tried task) r) gap (get_or task.pool.items k 0)
      next_filling = fun_ext (filling_more (tried task) task.gaps.distinct depth deep r s (get_or task.pool.items k 0) u on)

      pub next_begun : u ≤ r.used + 1 → r.used ≤ u → k < task.named + u → Begun task (depth + 1) s
      next_begun z o i = record { few = omega (arith, b.few, on.used); drawn = drawn }
        where
          fits : task.named + u ≤ length task.pool.items
          fits = omega (arith, room)

          by : (j : ℕ) (t : Bool) → eqb j gap ≡ t → (t || on_of (tried task) depth j) ≡ true
              → has (take (task.named + u) task.pool.items) (if t (get_or task.pool.items k 0) (filling_of (tried task) r j)) ≡ true
          by j true p q = front_has (task.named + u) task.pool.items k i fits
          by j false p q = front_more (task.named + r.used) (task.named + u) task.pool.items (omega arith) fits (filling_of (tried task) r j) (b.drawn j q)

          drawn : (j : ℕ) → on_of (tried task) (depth + 1) j ≡ true → has (take (task.named + s.used) task.pool.items) (filling_of (tried task) s j) ≡ true
          drawn j h =
              rw on.used (subst (λ (v : Filling). has (take (task.named + u) task.pool.items) (v j) ≡ true) (sym next_filling)
              (by j (eqb j gap) refl (subst (λ (on : ℕ → Bool). on j ≡ true) on_next h)))

      pub next_dead : (c : Cond) → Dead (on_of (tried task) (depth + 1)) (filling_of (tried task) s) c
          → Dead (put_on (on_of (tried task) depth) gap) (put (filling_of (tried task) r) gap (get_or task.pool.items k 0)) c
      next_dead c d = subst (λ (on : ℕ → Bool). Dead on (put (filling_of (tried task) r) gap (get_or task.pool.items k 0)) c) on_next
          (subst (λ (v : Filling). Dead (on_of (tried task) (depth + 1)) v c) next_filling d)

    module _ (next next₁ : List Row) (x : Extended task depth r next next₁) where
      added_begun : All (Begun task (depth + 1)) x.added
      added_begun = All-from_get_or (Begun task (depth + 1)) x.added blank (λ k h. by k (x.each k h) (omega (arith, x.many)) (cases_lt k (task.named + r.used)))
        where
          by : (k : ℕ) → GoesOn r depth (get_or task.pool.items k 0) (if (ltb k (task.named + r.used)) r.used (r.used + 1)) (get_or x.added k blank) → k < task.named + r.used + 1
              → (k < task.named + r.used) ⊎ (task.named + r.used ≤ k) → Begun task (depth + 1) (get_or x.added k blank)
          by k on h (inl i) = next_begun (get_or x.added k blank) k r.used (rw (lt-ltb k (task.named + r.used) i) at on) (omega arith) (omega arith) i
          by k on h (inr i) = next_begun (get_or x.added k blank) k (r.used + 1) (rw (le-ltb k (task.named + r.used) i) at on) (omega arith) (omega arith) (omega arith)

      pub more_begun : All (Begun task (depth + 1)) next → All (Begun task (depth + 1)) next₁
      more_begun a = rw x.behind (All-append (Begun task (depth + 1)) next x.added a added_begun)

      -- where r goes on from, these do
      pub more_from : (on : ℕ → Bool) (v : Filling) → ((k : ℕ) → on k ≡ true → on_of (tried task) depth k ≡ true) → GoFrom task on v r →
          All (GoFrom task on v) next → All (GoFrom task on v) next₁
      more_from on v low h a = rw x.behind (All-append (GoFrom task on v) next x.added a (All-from_get_or (GoFrom task on v) x.added blank (λ k l. each k (x.each k l))))
        where
          here : (k : ℕ) → on k ≡ true → eqb k gap ≡ false
          here k u = ⊎_elim (λ e. absurd (both_ways _ (at_gap k e) (low k u))) (λ e. e) (cases_Bool (eqb k gap))
            where
              at_gap : (k : ℕ) → eqb k gap ≡ true → on_of (tried task) depth k ≡ false
              at_gap k e = rw (eqb-true k gap e, place_at (tried task) task.gaps.distinct depth deep) (le-ltb depth depth (omega arith))

          each : (k : ℕ) → GoesOn r depth (get_or task.pool.items k 0) (if (ltb k (task.named + r.used)) r.used (r.used + 1)) (get_or x.added k blank) →
              GoFrom task on v (get_or x.added k blank)
          each k g j u = ap (λ (f : Filling). f j) (next_filling (get_or x.added k blank) k _ g) ∙ (rw (here j u) refl ∙ h j u)

      -- where nothing comes of the rows that go on, nothing comes of r
      pub here_dead : (t : Bool) → All (NoneFrom task (depth + 1) t) next₁ → All (NoneFrom task (depth + 1) t) next × NoneFrom task depth t r
      here_dead t d = (
        λ k e h. subst (NoneFrom task (depth + 1) t) (get_or-append next x.added e k h) (all k e (simp length-append (omega arith))),
        all_dead (on_of (tried task) depth) (filling_of (tried task) r) (goal task t) task.pool.items task.named (task.named + r.used) gap (pool_of t) b.drawn (omega arith) room
            (λ j h. next_dead (get_or x.added j blank) j _ (x.each j (omega (arith, x.many))) (goal task t)
            (subst (NoneFrom task (depth + 1) t) (get_or-append-add next x.added j blank) (all (length next + j) blank (simp length-append (omega (arith, x.many)))))),
      )
        where
          all : All (NoneFrom task (depth + 1) t) (next ++ x.added)
          all = rw x.behind at d

  -- the rows that go on from a row are few
  pub added_few : (depth : ℕ) → depth < length (tried task) → (r : Row) → Begun task depth r → (next next₁ : List Row) → (m : ℕ) → length next + 14 ≤ m → Extended task depth r next next₁ → length next₁ ≤ m
  added_few depth deep r b next next₁ m room x = rw x.behind (simp length-append (omega (arith, x.many, b.few, task.set_up.small, task.gaps.few)))

  -- a row that goes on
  pub one_more : (depth : ℕ) → depth < length (tried task) → (rows : List Row) (before : Met) (l : ℕ) (next : List Row) (met : Met) → Gathered depth rows before l next met → l < length rows
      → Begun task depth (get_or rows l blank) → (next₁ : List Row) → Extended task depth (get_or rows l blank) next next₁ → Gathered depth rows before (l + 1) next₁ met
  one_more depth deep rows before l next met g h b next₁ x = record {
    begun = more_begun depth deep (get_or rows l blank) b next next₁ x g.begun;
    sound = g.sound;
    kept = g.kept;
    dead = λ t e d. let n = here_dead depth deep (get_or rows l blank) b next next₁ x t d in All-more (NoneFrom task depth t) rows l blank h (g.dead t e n.0) n.1;
    from = λ on v low a. let f = g.from on v low a in (more_from depth deep (get_or rows l blank) b next next₁ x on v low (a l blank h) f.0, f.1);
  }

-- the filling of a row, if there is one
abbrev pub FilledRow : List ℕ → Option Row → Option filled.Filling → Type 0
FilledRow gs (Some r) (Some w) = (k : ℕ) → k < 64 → numbers_of w k ≡ filling_of gs r k
FilledRow gs (Some r) None = ⊥
FilledRow gs None (Some w) = ⊥
FilledRow gs None None = Unit {0}

-- what the search of the one row tells in which no gap is settled
pub found_all : (task : Task) (t : Bool) (r : Row) (o : Option Row) (w : Option filled.Filling) → Sound task t o → (is_some o ≡ false → All (NoneFrom task 0 t) (r ∷ [])) → FilledRow (tried task) o w → Tried (goal task t) w
found_all task t r (Some s) (Some w) h d f =
    own_gaps (goal task t) (numbers_of w) (filling_of (tried task) s) (λ k u. f k (low k (task.set_up.held k (subst (λ (ks : List ℕ). has ks k ≡ true) (same_gaps task t) u)))) ∙ h
  where
    low : (k : ℕ) → has (tried task) k ≡ true → k < 64
    low k u = let e = found_at (tried task) k u in subst (λ (x : ℕ). x < 64) e.2 (task.gaps.low e.0 0 e.1)
found_all task t r (Some s) None h d f = absurd f
found_all task t r None (Some w) h d f = absurd f
found_all task t r None None h d f = λ v. d refl 0 r (omega arith) v (λ k u. absurd (both_ways (on_of (tried task) 0 k) (none_on (place (tried task) k)) u))
  where
    none_on : (o : Option ℕ) → option_map_or (λ p. ltb p 0) o false ≡ false
    none_on None = refl
    none_on (Some p) = le-ltb p 0 (omega arith)
