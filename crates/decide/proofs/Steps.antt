-- One gap more: the numbers that are named or in use and one other suffice, since any two others can change places.
use Rattle.std.proofs.Common.{◌≡◌, ℕ, ◌<◌, ◌≤◌, Bool, true, false, cond as if, ◌||◌, eqb, ◌⊎◌, List, sym, refl, ap, ◌∙◌, inl, inr, arith}
use Rattle.std.proofs.lemmas.Bool.{both_ways, eqb-true, ne_eqb, cases_lt, cases_eq}
use Rattle.condition.specs.Cond.{Cond, numbers, has, Within}
use Rattle.condition.proofs.Lists.{eqb_self, has_apart}
use Rattle.evaluate.specs.Filling.{Filling, put, holds}
use Rattle.evaluate.proofs.Renaming.{holds_rename}
use Rattle.decide.specs.Might.{Extends, Dead, put_on, NoLater, FewSteps, LeastStep, LeastAll}

-- a and b change places
pub swap : ℕ → ℕ → ℕ → ℕ
swap a b x = if (eqb x a) b (if (eqb x b) a x)

pub swap_a : (a b : ℕ) → swap a b a ≡ b
unfolding swap
swap_a a b = rw (eqb_self a) refl

swap_b : (a b : ℕ) → swap a b b ≡ a
unfolding swap
swap_b a b = go (eqb b a) refl
  where
    go : (t : Bool) → eqb b a ≡ t → if (eqb b a) b (if (eqb b b) a b) ≡ a
    go true e = rw e (eqb-true b a e)
    go false e = rw (e, eqb_self b) refl

pub swap_other : (a b x : ℕ) → eqb x a ≡ false → eqb x b ≡ false → swap a b x ≡ x
unfolding swap
swap_other a b x p q = rw (p, q) refl

swap_twice : (a b x : ℕ) → swap a b (swap a b x) ≡ x
swap_twice a b x = go (eqb x a) refl (eqb x b) refl
  where
    go : (t : Bool) → eqb x a ≡ t → (u : Bool) → eqb x b ≡ u → swap a b (swap a b x) ≡ x
    go true e u f = rw (eqb-true x a e) (ap (swap a b) (swap_a a b) ∙ swap_b a b)
    go false e true f = rw (eqb-true x b f) (ap (swap a b) (swap_b a b) ∙ swap_a a b)
    go false e false f = ap (swap a b) (swap_other a b x e f) ∙ swap_other a b x e f

pub swap_apart : (a b x y : ℕ) → swap a b x ≡ swap a b y → x ≡ y
swap_apart a b x y e = sym (swap_twice a b x) ∙ (ap (swap a b) e ∙ swap_twice a b y)

-- a filling that goes on from here, and gives g the number x
pub goes_on : (on : ℕ → Bool) (v w : Filling) (g x : ℕ) → Extends on v w → w g ≡ x → Extends (put_on on g) (put v g x) w
goes_on on v w g x e h k = go (eqb k g) refl
  where
    go : (t : Bool) → eqb k g ≡ t → (eqb k g || on k) ≡ true → w k ≡ if (eqb k g) x (v k)
    go true i u = rw i (ap w (eqb-true k g i) ∙ h)
    go false i u = rw i (e k (rw i at u))

-- a filling that gives g another number can give it f in its place
pub goes_over : (on : ℕ → Bool) (v : Filling) (c : Cond) (ns : List ℕ) (g f : ℕ) → Within (numbers c) ns → ((k : ℕ) → on k ≡ true → has ns (v k) ≡ true) → has ns f ≡ false →
    (w : Filling) → Extends on v w → has ns (w g) ≡ false → Dead (put_on on g) (put v g f) c → holds w c ≡ false
unfolding Within
goes_over on v c ns g f named used new w e i one =
    let keeps : (n : ℕ) → has ns n ≡ true → swap (w g) f n ≡ n = λ n h. swap_other (w g) f n (ne_eqb n (w g) (has_apart ns n (w g) h i)) (ne_eqb n f (has_apart ns n f h new)) in
    let on-from : (k : ℕ) → on k ≡ true → swap (w g) f (w k) ≡ v k = λ k h. ap (swap (w g) f) (e k h) ∙ keeps (v k) (used k h) in
    sym (holds_rename (λ _. Unit {0}) (swap (w g) f) w (λ x y _ _ s. swap_apart (w g) f x y s) c (λ n h. (tt, keeps n (named n h))) (λ _ _. tt))
    ∙ one (λ k. swap (w g) f (w k)) (goes_on on v (λ k. swap (w g) f (w k)) g f on-from (swap_a (w g) f))

pub few_steps : FewSteps
few_steps on v c ns g f named used new all one w e = go (has ns (w g)) refl
  where
    go : (t : Bool) → has ns (w g) ≡ t → holds w c ≡ false
    go true i = all (w g) i w (goes_on on v w g (w g) e refl)
    go false i = goes_over on v c ns g f named used new w e i one

pub least_step : LeastStep
least_step on v c ns g f x named used new low dead u e h = by (cases_lt (u g) x)
  where
    seen : (t : Bool) → has ns (u g) ≡ t → u g < x → x ≤ u g
    seen true i l = absurd (both_ways (holds u c) (dead (u g) l (inl i) u (goes_on on v u g (u g) e refl)) h)
    seen false i l = absurd (both_ways (holds u c) (goes_over on v c ns g f named used new u e i (dead f (below (cases_lt (u g) f)) (inr refl))) h)
      where
        below : (u g < f) ⊎ (f ≤ u g) → f < x
        below (inl m) = absurd (both_ways (has ns (u g)) i (low (u g) m))
        below (inr m) = omega arith

    by : (u g < x) ⊎ (x ≤ u g) → x ≤ u g
    by (inl l) = seen (has ns (u g)) refl l
    by (inr l) = l

pub least_all : LeastAll
unfolding NoLater
least_all on v c g gs x w here low rest u e h = by (cases_eq x (u g))
  where
    by : (x ≡ u g) ⊎ (x ≡ u g → ⊥) → (w g < u g) ⊎ ((w g ≡ u g) × NoLater gs w u)
    by (inl p) = inr (here ∙ p, rest u (goes_on on v u g x e (sym p)) h)
    by (inr d) = inl (omega (arith, low u e h, here, d))
