-- A sure row has only numbers that stand in what is known or in the answer's cells: any other could be put out of every filling.
use Rattle.std.proofs.Common.{◌≡◌, ℕ, suc, ◌+◌, ◌<◌, Bool, true, false, cond as if, eqb, List, [], ◌∷◌, ◌++◌, sym, refl, ap, ◌∙◌, ⊎_elim, arith}
use Rattle.std.proofs.lemmas.Bool.{both_ways, eqb-true, eqb-false, ne_eqb, or_cases, or_parts, or_from, cases_Bool}
use Rattle.condition.specs.Cond.{Cell, known, gap, numbers, numbers_in, gaps, has}
use Rattle.condition.proofs.Lists.{has_none, has_cons, has_apart, lacks_parts}
use Rattle.condition.proofs.Named.{numbers_app}
use Rattle.evaluate.specs.Filling.{Filling, holds}
use Rattle.evaluate.proofs.Renaming.{holds_rename}
use Rattle.list.specs.Lists.{Line, Row, fill_cells, filled, same_row, stands}
use Rattle.list.proofs.Filling.{same_row_is}
use Rattle.decide.specs.Deciding.{cells_in_lines, SureByName}

-- above what a filling gives the gaps
above : Filling → List ℕ → ℕ
above v [] = 0
above v (k ∷ ks) = suc (v k + above v ks)

below_above : (v : Filling) (ks : List ℕ) (k : ℕ) → has ks k ≡ true → v k < above v ks
unfolding above
below_above v [] k h = absurd (has_none k h)
below_above v (j ∷ ks) k h =
    ⊎_elim (λ e. omega (arith, ap v (eqb-true j k e))) (λ u. omega (arith, below_above v ks k u)) (or_cases (eqb j k) (has ks k) (sym (has_cons j ks k) ∙ h))

-- m for n
out_of : ℕ → ℕ → ℕ → ℕ
out_of n m x = if (eqb x n) m x

out_of_other : (n m x : ℕ) → eqb x n ≡ false → out_of n m x ≡ x
unfolding out_of
out_of_other n m x e = rw e

out_of_it : (n m x : ℕ) → eqb x n ≡ true → out_of n m x ≡ m
unfolding out_of
out_of_it n m x e = rw e

out_of_gone : (n m x : ℕ) → n < m → out_of n m x ≡ n → ⊥
out_of_gone n m x l q =
    ⊎_elim (λ e. omega (arith, out_of_it n m x e)) (λ e. eqb-false x n e (sym (out_of_other n m x e) ∙ q)) (cases_Bool (eqb x n))

out_of_apart : (n m x y : ℕ) → x < m → y < m → out_of n m x ≡ out_of n m y → x ≡ y
out_of_apart n m x y p q s = go (eqb x n) refl (eqb y n) refl
  where
    go : (b : Bool) → eqb x n ≡ b → (c : Bool) → eqb y n ≡ c → x ≡ y
    go true e true f = eqb-true x n e ∙ sym (eqb-true y n f)
    go true e false f = omega (arith, out_of_it n m x e, out_of_other n m y f)
    go false e true f = omega (arith, out_of_other n m x e, out_of_it n m y f)
    go false e false f = omega (arith, out_of_other n m x e, out_of_other n m y f)

-- where no gap has the number n, a row has it only if a cell does
module _ (w : Filling) (n : ℕ) (none : (k : ℕ) → w k ≡ n → ⊥) where
  no_cells : (cs : List Cell) → has (numbers_in cs) n ≡ false → has (fill_cells w cs) n ≡ false
  unfolding numbers_in fill_cells has
  no_cells [] h = refl
  no_cells (known m ∷ cs) h =
      let p : (eqb m n ≡ false) × (has (numbers_in cs) n ≡ false) = or_parts (eqb m n) (has (numbers_in cs) n) h in
      or_from (eqb m n) (has (fill_cells w cs) n) p.0 (no_cells cs p.1)
  no_cells (gap k ∷ cs) h = or_from (eqb (w k) n) (has (fill_cells w cs) n) (ne_eqb (w k) n (none k)) (no_cells cs h)

  no_rows : (ls : List Line) (r : Row) → has (numbers_in (cells_in_lines ls)) n ≡ false → stands r (filled w ls) ≡ true → has r n ≡ false
  unfolding cells_in_lines filled stands
  no_rows [] r h s = absurd (both_ways false refl s)
  no_rows (l ∷ ls) r h s =
      let p : (has (numbers_in l.cells) n ≡ false) × (has (numbers_in (cells_in_lines ls)) n ≡ false) =
      lacks_parts (numbers_in l.cells) (numbers_in (cells_in_lines ls)) n (rw (numbers_app l.cells (cells_in_lines ls)) at h) in
      go (no_cells l.cells p.0) (no_rows ls r p.1) (holds w l.if_so) s
    where
      here : has (fill_cells w l.cells) n ≡ false → same_row r (fill_cells w l.cells) ≡ true → has r n ≡ false
      here e t = ap (λ (x : Row). has x n) (same_row_is r (fill_cells w l.cells) t) ∙ e

      go : has (fill_cells w l.cells) n ≡ false → (stands r (filled w ls) ≡ true → has r n ≡ false) → (b : Bool) →
          stands r (if b (fill_cells w l.cells ∷ filled w ls) (filled w ls)) ≡ true → has r n ≡ false
      go e ih true u = ⊎_elim (here e) ih (or_cases (same_row r (fill_cells w l.cells)) (stands r (filled w ls)) u)
      go e ih false u = ih u

pub sure_by_name : SureByName
sure_by_name what ts q out r n a some s h = ⊎_elim (λ e. e) (λ e. absurd (both_ways (has r n) (gone e) h)) (cases_Bool (has (numbers what ++ numbers_in (cells_in_lines out)) n))
  where
    v : Filling
    v = some.0

    m : ℕ
    m = suc (n + (above (λ k. k) (numbers what) + above v (gaps what)))

    w : Filling
    w k = out_of n m (v k)

    still : has (numbers what) n ≡ false → holds w what ≡ true
    still e =
        holds_rename (λ x. x < m) (out_of n m) v (out_of_apart n m) what
        (λ x i. (omega (arith, below_above (λ k. k) (numbers what) x i), out_of_other n m x (ne_eqb x n (has_apart (numbers what) x n i e))))
        (λ k i. omega (arith, below_above v (gaps what) k i))
        ∙ some.1

    gone : has (numbers what ++ numbers_in (cells_in_lines out)) n ≡ false → has r n ≡ false
    gone e =
        let p : (has (numbers what) n ≡ false) × (has (numbers_in (cells_in_lines out)) n ≡ false) = lacks_parts (numbers what) (numbers_in (cells_in_lines out)) n e in
        no_rows w n (λ k. out_of_gone n m (v k) (omega arith)) out r p.1 (a w (still p.0) r ∙ s w (still p.0))
