-- Other numbers for the same gaps: where φ leaves the numbers that a condition names as they are, and makes no two of the
-- numbers that it looks at equal, the condition holds as before.
use Rattle.std.proofs.Common.{◌≡◌, ℕ, Bool, true, false, eqb, sym, refl, ap, ◌∙◌}
use Rattle.std.proofs.lemmas.Bool.{eqb-true, eqb-false, eq-eqb, ne_eqb}
use Rattle.condition.specs.Cond.{Cell, known, gap, Cond, cells_of, numbers, gaps, has}
use Rattle.condition.proofs.Named.{OneOf, number_named, gap_named}
use Rattle.evaluate.specs.Filling.{Filling, fill_cell, holds}
use Rattle.evaluate.proofs.Holding.{holds_alike}

module _ (P : ℕ → Type 0) (φ : ℕ → ℕ) (v : Filling) (apart : (x y : ℕ) → P x → P y → φ x ≡ φ y → x ≡ y) where
  eqb_rename : (x y : ℕ) → P x → P y → eqb (φ x) (φ y) ≡ eqb x y
  eqb_rename x y p q = go (eqb x y) refl
    where
      go : (b : Bool) → eqb x y ≡ b → eqb (φ x) (φ y) ≡ eqb x y
      go true e = eq-eqb (φ x) (φ y) (ap φ (eqb-true x y e)) ∙ sym e
      go false e = ne_eqb (φ x) (φ y) (λ s. eqb-false x y e (apart x y p q s)) ∙ sym e

  module _ (c : Cond) (fixed : (n : ℕ) → has (numbers c) n ≡ true → P n × (φ n ≡ n)) (seen : (k : ℕ) → has (gaps c) k ≡ true → P (v k)) where
    cell_rename : (a : Cell) → OneOf a (cells_of c) → (fill_cell (λ k. φ (v k)) a ≡ φ (fill_cell v a)) × P (fill_cell v a)
    cell_rename (known n) i = let f : P n × (φ n ≡ n) = fixed n (number_named n (cells_of c) i) in (sym f.1, f.0)
    cell_rename (gap k) i = (refl, seen k (gap_named k (cells_of c) i))

    pub holds_rename : holds (λ k. φ (v k)) c ≡ holds v c
    holds_rename = holds_alike v (λ k. φ (v k)) c
        (λ a b i j. cc ((cell_rename a i).0, (cell_rename b j).0, eqb_rename (fill_cell v a) (fill_cell v b) (cell_rename a i).1 (cell_rename b j).1))
