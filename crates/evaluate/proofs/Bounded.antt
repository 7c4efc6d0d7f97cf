-- Numbers below a bound are enough, where the bound leaves room for the gaps: draw from the named numbers and from fresh ones
-- below it, and give 0 to the gaps that are not looked at.
use Rattle.std.proofs.Common.{◌≡◌, ℕ, suc, ◌+◌, ◌^◌, ◌<◌, ◌≤◌, true, cond as if, eqb, ◌⊎◌, List, [], ◌∷◌, ◌++◌, length, get_or, sym, ◌∙◌, inl, inr, ⊎_elim, arith}
use Rattle.std.proofs.lemmas.Bool.{eqb-true, or_cases, cond_both}
use Rattle.condition.specs.Cond.{Cond, numbers, gaps, has, Within}
use Rattle.condition.proofs.Lists.{has_none, has_cons, has_app}
use Rattle.evaluate.specs.Filling.{Filling, holds, Drawn, Below, Fresh}
use Rattle.evaluate.specs.Enough.{Within64Bits}
use Rattle.evaluate.proofs.Holding.{own_gaps}
use Rattle.evaluate.proofs.Few.{few_over}
use Rattle.evaluate.proofs.Freshness.{fresh_small}

-- what holds of each number by its place holds of each number that the list has
all_has : (P : ℕ → Type 0) (xs : List ℕ) → ((i : ℕ) → i < length xs → P (get_or xs i 0)) → (n : ℕ) → has xs n ≡ true → P n
all_has P [] h n u = absurd (has_none n u)
all_has P (x ∷ xs) h n u =
    ⊎_elim (λ e. rw (eqb-true x n e) at (h 0 (omega arith))) (all_has P xs (λ i l. h (suc i) (omega arith)) n) (or_cases (eqb x n) (has xs n) (sym (has_cons x xs n) ∙ u))

-- a filling that gives the other gaps 0
only : List ℕ → Filling → Filling
only gs w k = if (has gs k) (w k) 0

only_below : (b : ℕ) (ns gs fs : List ℕ) (w : Filling) → Drawn gs (ns ++ fs) w → ((n : ℕ) → has ns n ≡ true → n < b) → ((n : ℕ) → has fs n ≡ true → n < b) → 0 < b → Below b (only gs w)
unfolding only
only_below b ns gs fs w drawn low fresh some k =
    cond_both (has gs k) (w k) 0 (λ n. n < b) (λ e. go (or_cases (has ns (w k)) (has fs (w k)) (sym (has_app ns fs (w k)) ∙ drawn k e))) (λ e. some)
  where
    go : (has ns (w k) ≡ true) ⊎ (has fs (w k) ≡ true) → w k < b
    go (inl h) = low (w k) h
    go (inr h) = fresh (w k) h

only_holds : (c : Cond) (gs : List ℕ) (w : Filling) → Within (gaps c) gs → holds (only gs w) c ≡ holds w c
unfolding only Within
only_holds c gs w held = own_gaps c (only gs w) w (λ k h. rw (held k h))

pub bounded : (b : ℕ) (c : Cond) (v : Filling) (ns gs : List ℕ) → Within (numbers c) ns → Within (gaps c) gs → ((n : ℕ) → has ns n ≡ true → n < b) → 0 < b →
    length ns + length gs ≤ b → (w : Filling) × Below b w × (holds w c ≡ holds v c)
bounded b c v ns gs named held low some room =
    let f : (fs : List ℕ) × Fresh ns (length gs) fs × ((i : ℕ) → i < length fs → get_or fs i 0 < length ns + length gs) = fresh_small ns (length gs) in
    let w : (w : Filling) × Drawn gs (ns ++ f.0) w × (holds w c ≡ holds v c) = few_over c v ns gs f.0 named held f.1 in (
      only gs w.0,
      only_below b ns gs f.0 w.0 w.1 low (all_has (λ n. n < b) f.0 (λ i l. omega (arith, f.2 i l))) some,
      only_holds c gs w.0 held ∙ w.2,
    )

pub within_64_bits : Within64Bits
within_64_bits c v ns gs named held low room = bounded (2 ^ 64) c v ns gs named held low (omega arith) room
