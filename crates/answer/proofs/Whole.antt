-- A question's nodes, from those of the questions below it.
use Rattle.std.proofs.Common.{◌≡◌, ℕ, ◌+◌, ◌-◌, ◌*◌, ◌/◌, ◌%◌, ◌<◌, ◌≤◌, List, length, refl, ap, ◌∙◌, subst, inl, inr, mul-zero, zero-mul, arith}
use Rattle.std.proofs.lemmas.Bool.{cases_lt, lt-ltb, le-ltb, ne_eqb}
use Rattle.condition.specs.Cond.{both}
use Rattle.condition.specs.Store.{count, cond_at}
use Rattle.condition.proofs.Growing.{grown_self, grown_cond, grown_trans}
use Rattle.query.specs.Ask.{Test}
use Rattle.answer.specs.declared.side.Side.{Side}
use Rattle.answer.specs.declared.less.Less.{Less}
use Rattle.answer.specs.declared.side.Asked.{Asked}
use Rattle.answer.specs.Plan.{Plan, list, keep, columns, join, union, without, many, wide, size, place, cell, says, tests, less_size, rid, Fits}
use Rattle.answer.specs.Sides.{plan, cells, Under, One, Two}
use Rattle.answer.specs.Laid.{Based, Added, Laid, now_at, last_of, kept, joined, less, each}
use Rattle.answer.proofs.Steps.{rid_same, pair_in}
use Rattle.answer.proofs.Views.{says_grown, rows_sums, keep_sums, columns_sums, join_sums, union_sums, without_sums, rows_listed, node_under}

-- the nodes of a question below, by the lists of the one above
module _ {s p : Side} {b : ℕ} (u : Under s p b) where
  fits_under : Fits s.asked.lists.now s.asked.first (plan p)
  fits_under = subst (λ (a : Asked). Fits a.lists.now a.first (plan p)) u.asked p.sound.fits

  pub based_under : {ns : List ℕ} → Based s.asked.first ns → Based p.asked.first ns
  based_under h = rw u.asked h

  module _ {ns ns₁ : List ℕ} (a : Laid p ns ns₁) (i : ℕ) (l : i < many (plan p)) where
    within_under : place s.asked.lists.now (plan p) b i < count ns₁
    within_under = subst (λ t. t < count ns₁) (node_under u i) (a.within i l)

    now_under : now_at ns₁ p i ≡ says ns s.asked.lists.now (plan p) i
    now_under = a.is i l ∙ ap (λ (z : Asked). says ns z.lists.now (plan p) i) u.asked

    is_under : cond_at ns₁ (place s.asked.lists.now (plan p) b i) ≡ says ns s.asked.lists.now (plan p) i
    is_under = subst (λ t. cond_at ns₁ t ≡ says ns s.asked.lists.now (plan p) i) (node_under u i) now_under

pub laid_rows : (s : Side) {at n w : ℕ} {ns : List ℕ} → plan s ≡ list at n w → Based s.asked.first ns → 1 + 5 * count ns ≤ length ns → Laid s ns ns
unfolding place says
laid_rows s {ns = ns} e b l =
    let v = rows_sums s e in let f = rows_listed s e in
    record { grown = grown_self ns l; more = omega (arith, v.size); within = λ i m. rw e (omega (arith, f.stand i (omega (arith, v.lines)), b.low)); is = λ i m. rw e refl }

pub laid_columns : {s p : Side} {cs : List ℕ} {ns ns₁ : List ℕ} → One s (columns cs (plan p)) p → Laid p ns ns₁ → Laid s ns ns₁
unfolding place says
laid_columns o a = let v = columns_sums o in record {
  grown = a.grown;
  more = omega (arith, a.more, v.size);
  within = λ i m. rw o.is (within_under o.first a i (omega (arith, v.lines)));
  is = λ i m. rw o.is (is_under o.first a i (omega (arith, v.lines)));
}

pub laid_keep : {s p : Side} {t : Test} {ns ns₁ ns₂ : List ℕ} → One s (keep t (plan p)) p → s.base ≡ count ns → Laid p ns ns₁ → Added (kept ns₁ p t) 3 (many (plan p)) ns₁ ns₂ → Laid s ns ns₂
unfolding place says
laid_keep {s = s} {p = p} {t = t} {ns = ns} {ns₁ = ns₁} {ns₂ = ns₂} o base a k =
    let v = keep_sums o in let z : count ns₁ ≡ s.base + size (plan p) = omega (arith, a.more) in
    record {
      grown = grown_trans ns ns₁ ns₂ a.grown k.grown;
      more = omega (arith, a.more, k.more, v.size);
      within = λ i m. rw o.is (subst (λ b. last_of b 3 i < count ns₂) z (k.within i (omega (arith, v.lines))));
      is = λ i m. let l : i < many (plan p) = omega (arith, v.lines) in rw o.is
          (subst (λ b. cond_at ns₂ (last_of b 3 i) ≡ both (says ns s.asked.lists.now (plan p) i) (tests t (cell s.asked.lists.now (plan p) i))) z
          (k.is i l ∙ (ap (λ c. both c (tests t (cells p i))) (now_under o.first a i l) ∙ ap (λ (b : Asked). both (says ns s.asked.lists.now (plan p) i) (tests t (cell b.lists.now (plan p) i))) o.first.asked)));
    }

-- the nodes of two questions below
module _ {s p q : Side} {up : Plan} (o : Two s up p q) {ns ns₁ ns₂ : List ℕ} (base : s.base ≡ count ns) (low : s.asked.first ≤ count ns) (a : Laid p ns ns₁) (b : Laid q ns₁ ns₂) where
  first_is : (i : ℕ) → i < many (plan p) → cond_at ns₂ (place s.asked.lists.now (plan p) s.base i) ≡ says ns s.asked.lists.now (plan p) i
  first_is i l = grown_cond ns₁ ns₂ b.grown _ (within_under o.first a i l) ∙ is_under o.first a i l

  second_is : (i : ℕ) → i < many (plan q) → cond_at ns₂ (place s.asked.lists.now (plan q) (s.base + size (plan p)) i) ≡ says ns s.asked.lists.now (plan q) i
  second_is i l = is_under o.second b i l ∙ says_grown ns ns₁ s.asked.lists.now s.asked.first (plan q) i (fits_under o.second) l a.grown low

  first_now : (i : ℕ) → i < many (plan p) → now_at ns₂ p i ≡ says ns s.asked.lists.now (plan p) i
  first_now i l = ap (cond_at ns₂) (node_under o.first i) ∙ first_is i l

  second_now : (i : ℕ) → i < many (plan q) → now_at ns₂ q i ≡ says ns s.asked.lists.now (plan q) i
  second_now i l = ap (cond_at ns₂) (node_under o.second i) ∙ second_is i l

  counts : count ns₂ ≡ s.base + size (plan p) + size (plan q)
  counts = omega (arith, a.more, b.more)

pub laid_union : {s p q : Side} {ns ns₁ ns₂ : List ℕ} → Two s (union (plan p) (plan q)) p q → s.base ≡ count ns → s.asked.first ≤ count ns → Laid p ns ns₁ → Laid q ns₁ ns₂ → Laid s ns ns₂
unfolding place says
laid_union {s = s} {p = p} {q = q} {ns = ns} {ns₁ = ns₁} {ns₂ = ns₂} o base low a b = let v = union_sums o in record {
  grown = grown_trans ns ns₁ ns₂ a.grown b.grown;
  more = omega (arith, a.more, b.more, v.size);
  within = λ i m. elim (cases_lt i (many (plan p))) [
    | inl l ↦ rw (o.is, lt-ltb _ _ l) (omega (arith, within_under o.first a i l, b.more))
    | inr l ↦ rw (o.is, le-ltb _ _ l) (within_under o.second b (i - many (plan p)) (omega (arith, v.lines)))
  ];
  is = λ i m. elim (cases_lt i (many (plan p))) [
    | inl l ↦ rw (o.is, lt-ltb _ _ l) (first_is o base low a b i l)
    | inr l ↦ rw (o.is, le-ltb _ _ l) (second_is o base low a b (i - many (plan p)) (omega (arith, v.lines)))
  ];
}

pub laid_join : {s p q : Side} {ns ns₁ ns₂ ns₃ : List ℕ} → Two s (join (plan p) (plan q)) p q → s.base ≡ count ns → s.asked.first ≤ count ns → Laid p ns ns₁ → Laid q ns₁ ns₂ →
    Added (joined ns₂ p q) 1 (many (plan p) * many (plan q)) ns₂ ns₃ → Laid s ns ns₃
unfolding place says
laid_join {s = s} {p = p} {q = q} {ns = ns} {ns₁ = ns₁} {ns₂ = ns₂} {ns₃ = ns₃} o base low a b k =
    let v = join_sums o in let c = counts o base low a b in
    record {
      grown = grown_trans ns ns₂ ns₃ (grown_trans ns ns₁ ns₂ a.grown b.grown) k.grown;
      more = omega (arith, k.more, v.size);
      within = λ i m. rw o.is (omega (arith, k.within i (omega (arith, v.lines))));
      is = λ i m.
          let l : i < many (plan p) * many (plan q) = omega (arith, v.lines) in let g = pair_in i (many (plan p)) (many (plan q)) l in
          let z : last_of (count ns₂) 1 i ≡ s.base + size (plan p) + size (plan q) + i = omega arith in
          rw o.is (subst (λ t. cond_at ns₃ t ≡ both (says ns s.asked.lists.now (plan p) (i / many (plan q))) (says ns s.asked.lists.now (plan q) (i % many (plan q)))) z
          (k.is i l ∙ rw (first_now o base low a b (i / many (plan q)) g.0, second_now o base low a b (i % many (plan q)) g.1) refl));
    }

pub laid_none : {s p q : Side} {ns ns₁ ns₂ : List ℕ} → Two s (without (plan p) (plan q)) p q → s.base ≡ count ns → s.asked.first ≤ count ns → Laid p ns ns₁ → Laid q ns₁ ns₂ → many (plan q) ≡ 0 → Laid s ns ns₂
unfolding place says rid
laid_none {s = s} {p = p} {q = q} {ns = ns} {ns₁ = ns₁} {ns₂ = ns₂} o base low a b z =
    let v = without_sums o in let none : many (plan p) * less_size (wide (plan p)) (many (plan q)) ≡ 0 = rw (z, zero-mul (2 * wide (plan p) + 3), mul-zero (many (plan p))) refl in
    record {
      grown = grown_trans ns ns₁ ns₂ a.grown b.grown;
      more = omega (arith, a.more, b.more, v.size);
      within = λ i m. rw (o.is, z) (omega (arith, within_under o.first a i (omega (arith, v.lines)), b.more));
      is = λ i m. rw (o.is, z) (first_is o base low a b i (omega (arith, v.lines)));
    }

pub laid_less : (l : Less) {s : Side} {ns ns₁ ns₂ ns₃ : List ℕ} → Two s (without (plan l.p) (plan l.q)) l.p l.q → s.base ≡ count ns → s.asked.first ≤ count ns → Laid l.p ns ns₁ → Laid l.q ns₁ ns₂ →
    Added (less ns₂ l (many (plan l.q))) (each l) (many (plan l.p)) ns₂ ns₃ → Laid s ns ns₃
unfolding place says
laid_less l {s = s} {ns = ns} {ns₁ = ns₁} {ns₂ = ns₂} {ns₃ = ns₃} o base low a b k =
    let p = l.p in let q = l.q in let v = without_sums o in let c = counts o base low a b in let some : many (plan l.q) ≡ 0 → ⊥ = λ z. omega (arith, l.some) in
    record {
      grown = grown_trans ns ns₂ ns₃ (grown_trans ns ns₁ ns₂ a.grown b.grown) k.grown;
      more = omega (arith, k.more, v.size);
      within = λ i m. rw (o.is, ne_eqb (many (plan q)) 0 some) (subst (λ t. last_of t (each l) i < count ns₃) c (k.within i (omega (arith, v.lines))));
      is = λ i m. let h : i < many (plan p) = omega (arith, v.lines) in rw (o.is, ne_eqb (many (plan q)) 0 some)
          (subst (λ t. cond_at ns₃ (last_of t (each l) i) ≡ says ns s.asked.lists.now (without (plan p) (plan q)) i) c
          (k.is i h ∙ (rid_same (many (plan q)) (wide (plan p)) (cells p i) _ _ (cells q) _ _ (λ j m. second_now o base low a b j m) (first_now o base low a b i h)
          ∙ (ap (λ (z : Asked). rid (many (plan q)) (wide (plan p)) (cell z.lists.now (plan p) i) (says ns s.asked.lists.now (plan q)) (cells q) (says ns s.asked.lists.now (plan p) i)) o.first.asked
          ∙ ap (λ (z : Asked). rid (many (plan q)) (wide (plan p)) (cell s.asked.lists.now (plan p) i) (says ns s.asked.lists.now (plan q)) (cell z.lists.now (plan q)) (says ns s.asked.lists.now (plan p) i)) o.second.asked))));
    }
