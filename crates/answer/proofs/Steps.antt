-- The loops that lay nodes, turn by turn.
use Rattle.std.proofs.Common.{◌≡◌, ℕ, zero, suc, ◌+◌, ◌-◌, ◌*◌, ◌/◌, ◌%◌, ◌<◌, ◌≤◌, true, List, length, refl, ◌∙◌, subst, inl, inr, mul-le-mul_right, mod-lt, div-lt_iff_lt-mul, suc-mul, mul-zero, zero-mul, add-one, arith}
use Rattle.std.proofs.lemmas.Bool.{cases_lt}
use Rattle.condition.specs.Cond.{Cell, Cond, equal, not_so, both}
use Rattle.condition.specs.Store.{count, cond_at, has_name, comparison, Grown}
use Rattle.condition.proofs.Growing.{grown_self, grown_cond, grown_trans}
use Rattle.answer.specs.declared.less.Less.{Less}
use Rattle.answer.specs.Plan.{many, wide, less_size, rid, equals}
use Rattle.answer.specs.Sides.{plan, node, cells}
use Rattle.answer.specs.Laid.{Based, New, Last, Added, Ready, last_of, less_one, less}

pub rid_same : (m w : ℕ) (f : ℕ → Cell) (d e : ℕ → Cond) (g : ℕ → ℕ → Cell) (a b : Cond) → ((j : ℕ) → j < m → d j ≡ e j) → a ≡ b → rid m w f d g a ≡ rid m w f e g b
unfolding rid
rid_same zero w f d e g a b h k = k
rid_same (suc m) w f d e g a b h k = rw (rid_same m w f d e g a b (λ j l. h j (omega arith)) k, h m (omega arith)) refl

pub based_grown : (c : ℕ) (ns ns₁ : List ℕ) → Grown ns ns₁ → Based c ns → Based c ns₁
based_grown c ns ns₁ g b = record {
  low = omega (arith, b.low, g.more);
  always = grown_cond ns ns₁ g c (omega (arith, b.low)) ∙ b.always;
}

-- one line more
pub added_more : {g : ℕ → Cond} {k n : ℕ} {d : Cond} {ns ns₁ ns₂ : List ℕ} → Added g k n ns ns₁ → Last k d ns₁ ns₂ → d ≡ g n → Added g k (n + 1) ns ns₂
added_more {g = g} {k = k} {n = n} {d = d} {ns = ns} {ns₁ = ns₁} {ns₂ = ns₂} a w h =
    let e : count ns₁ + k - 1 ≡ last_of (count ns) k n = omega (arith, a.more) in
    record {
      grown = grown_trans ns ns₁ ns₂ a.grown w.grown;
      more = rw add-one (omega (arith, a.more, w.more, suc-mul n k));
      within = λ i m. elim (cases_lt i n) [
        | inl l ↦ omega (arith, a.within i l, w.more)
        | inr l ↦ let q : n ≡ i = omega arith in subst (λ t. last_of (count ns) k t < count ns₂) q (subst (λ t. t < count ns₂) e w.within)
      ];
      is = λ i m. elim (cases_lt i n) [
        | inl l ↦ grown_cond ns₁ ns₂ w.grown (last_of (count ns) k i) (a.within i l) ∙ a.is i l
        | inr l ↦ let q : n ≡ i = omega arith in subst (λ t. cond_at ns₂ (last_of (count ns) k t) ≡ g t) q (subst (λ t. cond_at ns₂ t ≡ g n) e (w.is ∙ h))
      ];
    }

-- one node, as `add` leaves it
pub new_one : (r : ℕ) (d : Cond) (ns ns₁ : List ℕ) → r ≡ count ns → count ns₁ ≡ r + 1 → Grown ns ns₁ → cond_at ns₁ r ≡ d → New 1 r d ns ns₁
new_one r d ns ns₁ p k g e = record { grown = g; more = omega (arith, p, k); within = omega (arith, k); is = e }

-- more nodes behind them
pub new_trans : (s t r u : ℕ) (d e : Cond) (ns ns₁ ns₂ : List ℕ) → New s r d ns ns₁ → New t u e ns₁ ns₂ → New (s + t) u e ns ns₂
new_trans s t r u d e ns ns₁ ns₂ a b = record { grown = grown_trans ns ns₁ ns₂ a.grown b.grown; more = omega (arith, a.more, b.more); within = b.within; is = b.is }

pub new_as : (s t r : ℕ) (d e : Cond) (ns ns₁ : List ℕ) → s ≡ t → d ≡ e → New s r d ns ns₁ → New t r e ns ns₁
new_as s t r d e ns ns₁ p q a = record { grown = a.grown; more = omega (arith, p, a.more); within = a.within; is = a.is ∙ q }

-- the same, where it is the last
pub last_one : (r : ℕ) (d : Cond) (ns ns₁ : List ℕ) → r ≡ count ns → count ns₁ ≡ r + 1 → Grown ns ns₁ → cond_at ns₁ r ≡ d → Last 1 d ns ns₁
last_one r d ns ns₁ p k g e = let q : r ≡ count ns + 1 - 1 = omega arith in subst (λ t. New 1 t d ns ns₁) q (new_one r d ns ns₁ p k g e)

-- one column of two lines, to the left of those that were compared
pub equals_turn : (f g : ℕ → Cell) (r t a b e s u : ℕ) (ns ns₁ ns₂ ns₃ : List ℕ) → t ≡ r + 1 → b ≡ a + 1 → New (2 * r) e (equals r b f g) ns ns₁
    → New 1 s (equal (f a) (g a)) ns₁ ns₂ → New 1 u (both (cond_at ns₂ s) (cond_at ns₂ e)) ns₂ ns₃ → New (2 * t) u (equals t a f g) ns ns₃
unfolding equals
equals_turn f g r t a b e s u ns ns₁ ns₂ ns₃ et eb x y z =
    new_as (2 * r + (1 + 1)) (2 * t) u _ _ ns ns₃ (omega arith)
    (rw (y.is, grown_cond ns₁ ns₂ y.grown e x.within, x.is, et, eb, add-one r) refl)
    (new_trans (2 * r) (1 + 1) e u _ _ ns ns₁ ns₃ x (new_trans 1 1 s u _ _ ns₁ ns₂ ns₃ y z))

-- one line rid another
pub spare_turn : (w c d e f g r : ℕ) (b x : Cond) (ns ns₁ ns₂ ns₃ ns₄ : List ℕ) → c < count ns → d < count ns → cond_at ns d ≡ b → New (2 * w) e x ns ns₁
    → New 1 f (both (cond_at ns₁ d) (cond_at ns₁ e)) ns₁ ns₂ → New 1 g (not_so (cond_at ns₂ f)) ns₂ ns₃ → New 1 r (both (cond_at ns₃ c) (cond_at ns₃ g)) ns₃ ns₄
    → New (2 * w + 3) r (both (cond_at ns c) (not_so (both b x))) ns ns₄
spare_turn w c d e f g r b x ns ns₁ ns₂ ns₃ ns₄ lc ld eb p q s t =
    let g₃ = grown_trans ns ns₂ ns₃ (grown_trans ns ns₁ ns₂ p.grown q.grown) s.grown in
    new_as (2 * w + (1 + (1 + 1))) (2 * w + 3) r _ _ ns ns₄ (omega arith)
    (rw (grown_cond ns ns₃ g₃ c lc, s.is, q.is, p.is, grown_cond ns ns₁ p.grown d ld, eb) refl)
    (new_trans (2 * w) (1 + (1 + 1)) e r _ _ ns ns₁ ns₄ p (new_trans 1 (1 + 1) f r _ _ ns₁ ns₂ ns₄ q (new_trans 1 1 g r _ _ ns₂ ns₃ ns₄ s t)))

module _ (l : Less) where
  pub ready_grown : {ns ns₁ : List ℕ} → Grown ns ns₁ → Ready l ns → Ready l ns₁
  ready_grown {ns = ns} {ns₁ = ns₁} g r = record {
    based = based_grown l.p.asked.first ns ns₁ g r.based;
    first = λ i m. omega (arith, g.more, r.first i m);
    second = λ i m. omega (arith, g.more, r.second i m);
  }

  pub less_none : (i x : ℕ) (ns : List ℕ) → 1 + 5 * count ns ≤ length ns → x ≡ node l.p i → node l.p i < count ns → New (less_size (wide (plan l.p)) 0) x (less ns l 0 i) ns ns
  unfolding rid
  less_none i x ns h e m = record { grown = grown_self ns h; more = omega (arith, zero-mul (2 * wide (plan l.p) + 3)); within = omega (arith, e); is = rw e refl }

  pub less_more : (i j x y : ℕ) (ns ns₁ ns₂ : List ℕ) → node l.q j < count ns → New (less_size (wide (plan l.p)) j) x (less ns l j i) ns ns₁
      → New (2 * wide (plan l.p) + 3) y (less_one ns₁ l i j x) ns₁ ns₂ → New (less_size (wide (plan l.p)) (j + 1)) y (less ns l (j + 1) i) ns ns₂
  unfolding rid
  less_more i j x y ns ns₁ ns₂ h a w =
      new_as (less_size (wide (plan l.p)) j + (2 * wide (plan l.p) + 3)) (less_size (wide (plan l.p)) (j + 1)) y _ _ ns ns₂ (rw add-one (omega (arith, suc-mul j (2 * wide (plan l.p) + 3))))
      (rw (a.is, grown_cond ns ns₁ a.grown (node l.q j) h, add-one j) refl)
      (new_trans (less_size (wide (plan l.p)) j) (2 * wide (plan l.p) + 3) x y _ _ ns ns₁ ns₂ a w)

  -- what a line says does not change as the store grows
  pub less_same : (i : ℕ) (ns ns₁ : List ℕ) → Grown ns ns₁ → Ready l ns → i < many (plan l.p) → less ns₁ l (many (plan l.q)) i ≡ less ns l (many (plan l.q)) i
  less_same i ns ns₁ g r m =
      rid_same (many (plan l.q)) (wide (plan l.p)) (cells l.p i) _ _ (cells l.q) _ _ (λ j h. grown_cond ns ns₁ g (node l.q j) (r.second j h)) (grown_cond ns ns₁ g (node l.p i) (r.first i m))

-- a pair of lines, by its number
some_lines : (i n m : ℕ) → i < n * m → 0 < m
some_lines i n zero l = absurd (omega (arith, mul-zero n))
some_lines i n (suc m) l = omega arith

pub pair_in : (i n m : ℕ) → i < n * m → (i / m < n) × (i % m < m)
pair_in i n m l = let z = some_lines i n m l in ((div-lt_iff_lt-mul {k = m} {x = i} {y = n} z).1 l, mod-lt i {m = m} z)

pub row : (i n s : ℕ) → i < n → i * s + s ≤ n * s
row i n s l = omega (arith, mul-le-mul_right {m = suc i} {n = n} s (omega arith), suc-mul i s)

-- cells with names are compared
pub compared_is : (a b : Cell) → has_name a ≡ true → has_name b ≡ true → comparison a b ≡ equal a b
compared_is a b p q = rw (p, q) refl
