-- A condition is under any filling what it is under one that draws from the numbers it names and as many fresh ones as there
-- are gaps: each number that a gap has and that is not named is moved to the fresh number of that gap.
use Rattle.std.proofs.Common.{◌≡◌, ℕ, suc, ◌<◌, Bool, true, false, cond as if, eqb, ◌⊎◌, List, [], ◌∷◌, ◌++◌, length, get_or, sym, refl, ap, ◌∙◌, inl, inr, ⊎_elim, arith}
use Rattle.std.proofs.lemmas.Bool.{both_ways, eqb-true, eqb-false, or_cases}
use Rattle.condition.specs.Cond.{numbers, gaps, has, Within}
use Rattle.condition.proofs.Lists.{has_none, has_cons, has_left, has_right, has_apart, has_at, within_self}
use Rattle.evaluate.specs.Filling.{Filling, holds, Drawn, Fresh}
use Rattle.evaluate.specs.Enough.{FewNumbers, FewOver, FewDecide}
use Rattle.evaluate.proofs.Renaming.{holds_rename}

-- the place of the first gap that has the number x
first : List ℕ → Filling → ℕ → ℕ
first [] v x = 0
first (k ∷ ks) v x = if (eqb (v k) x) 0 (suc (first ks v x))

-- x is the number of a gap, and first finds one
abbrev Found : List ℕ → Filling → ℕ → Type 0
Found ks v x = (first ks v x < length ks) × (v (get_or ks (first ks v x) 0) ≡ x)

found : (ks : List ℕ) (v : Filling) (x k : ℕ) → has ks k ≡ true → v k ≡ x → Found ks v x
unfolding first
found [] v x k h e = absurd (has_none k h)
found (j ∷ ks) v x k h e = go (λ u. found ks v x k u e) (eqb (v j) x) refl
  where
    go : (has ks k ≡ true → Found ks v x) → (b : Bool) → eqb (v j) x ≡ b →
        (if b 0 (suc (first ks v x)) < suc (length ks)) × (v (get_or (j ∷ ks) (if b 0 (suc (first ks v x))) 0) ≡ x)
    go ih true p = (omega arith, eqb-true (v j) x p)
    go ih false p =
        let f : Found ks v x = ⊎_elim (λ s. absurd (eqb-false (v j) x p (ap v (eqb-true j k s) ∙ e))) ih (or_cases (eqb j k) (has ks k) (sym (has_cons j ks k) ∙ h)) in
        (omega arith, f.1)

module _ (ns gs fs : List ℕ) (v : Filling) (new : Fresh ns (length gs) fs) where
  moved : ℕ → ℕ
  moved x = if (has ns x) x (get_or fs (first gs v x) 0)

  abbrev Seen : ℕ → Type 0
  Seen x = (has ns x ≡ true) ⊎ Found gs v x

  fresh_at : (x : ℕ) → Found gs v x → has ns (get_or fs (first gs v x) 0) ≡ false
  fresh_at x f = new.new (first gs v x) (omega (arith, f.0, new.many))

  moved_named : (x : ℕ) → has ns x ≡ true → moved x ≡ x
  unfolding moved
  moved_named x h = rw h

  moved_new : (x : ℕ) → has ns x ≡ false → moved x ≡ get_or fs (first gs v x) 0
  unfolding moved
  moved_new x h = rw h

  only_found : (x : ℕ) → has ns x ≡ false → Seen x → Found gs v x
  only_found x h (inl p) = absurd (both_ways (has ns x) h p)
  only_found x h (inr f) = f

  clash : (x y : ℕ) → Seen y → has ns x ≡ true → has ns y ≡ false → moved x ≡ moved y → ⊥
  clash x y s i j m = has_apart ns x (get_or fs (first gs v y) 0) i (fresh_at y (only_found y j s)) (sym (moved_named x i) ∙ (m ∙ moved_new y j))

  moved_apart : (x y : ℕ) → Seen x → Seen y → moved x ≡ moved y → x ≡ y
  moved_apart x y p q e = go (has ns x) refl (has ns y) refl
    where
      go : (b : Bool) → has ns x ≡ b → (c : Bool) → has ns y ≡ c → x ≡ y
      go true i true j = sym (moved_named x i) ∙ (e ∙ moved_named y j)
      go true i false j = absurd (clash x y q i j e)
      go false i true j = absurd (clash y x p j i (sym e))
      go false i false j =
          let f : Found gs v x = only_found x i p in
          let g : Found gs v y = only_found y j q in
          let same : first gs v x ≡ first gs v y = new.different (first gs v x) (first gs v y) (omega (arith, f.0, new.many)) (omega (arith, g.0, new.many)) (sym (moved_new x i) ∙ (e ∙ moved_new y j)) in
          sym f.1 ∙ (ap (λ (n : ℕ). v (get_or gs n 0)) same ∙ g.1)

  moved_drawn : (x : ℕ) → Found gs v x → has (ns ++ fs) (moved x) ≡ true
  moved_drawn x f = go (has ns x) refl
    where
      go : (b : Bool) → has ns x ≡ b → has (ns ++ fs) (moved x) ≡ true
      go true i = has_left ns fs (moved x) (ap (has ns) (moved_named x i) ∙ i)
      go false i = has_right ns fs (moved x) (ap (has fs) (moved_new x i) ∙ has_at fs (first gs v x) (omega (arith, f.0, new.many)))

pub few_over : FewOver
unfolding Within
few_over c v ns gs fs named held new =
    let φ : ℕ → ℕ = moved ns gs fs v new in (
      λ k. φ (v k),
      λ k e. moved_drawn ns gs fs v new (v k) (found gs v (v k) k e refl),
      holds_rename (Seen ns gs fs v new) φ v (moved_apart ns gs fs v new) c
          (λ n e. (inl (named n e), moved_named ns gs fs v new n (named n e)))
          (λ k e. inr (found gs v (v k) k (held k e) refl)),
    )

pub few_numbers : FewNumbers
few_numbers c v fs h new =
    let w : (w : Filling) × Drawn (gaps c) (numbers c ++ fs) w × (holds w c ≡ holds v c) =
    few_over c v (numbers c) (gaps c) fs (within_self (numbers c)) (within_self (gaps c)) new in
    (w.0, w.1, w.2 ∙ h)

pub few_decide : FewDecide
few_decide c ns gs fs t named held new all v =
    let w : (w : Filling) × Drawn gs (ns ++ fs) w × (holds w c ≡ holds v c) = few_over c v ns gs fs named held new in
    sym w.2 ∙ all w.0 w.1
