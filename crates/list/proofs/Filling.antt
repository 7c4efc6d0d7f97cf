-- Laws of `filled` and `stands`.
use Rattle.std.proofs.Common.{◌≡◌, ℕ, zero, suc, true, false, eqb, List, [], ◌∷◌, ◌++◌, get_or, refl, arith}
use Rattle.std.proofs.lemmas.Bool.{both_ways, eqb-true, and_parts}
use Rattle.condition.specs.Cond.{Cell, known}
use Rattle.evaluate.specs.Filling.{Filling, fill_cell}
use Rattle.list.specs.Lists.{Line, Row, fill_cells, filled, all_filled, same_row}

pub fill_app : (v : Filling) (cs ds : List Cell) → fill_cells v (cs ++ ds) ≡ fill_cells v cs ++ fill_cells v ds
unfolding fill_cells
fill_app v [] ds = refl
fill_app v (c ∷ cs) ds = cc (fill_app v cs ds)

pub fill_at : (v : Filling) (cs : List Cell) (a : ℕ) → fill_cell v (get_or cs a (known 0)) ≡ get_or (fill_cells v cs) a 0
unfolding fill_cells
fill_at v [] a = refl
fill_at v (c ∷ cs) zero = refl
fill_at v (c ∷ cs) (suc a) = fill_at v cs a

pub filled_app : (v : Filling) (ls ms : List Line) → filled v (ls ++ ms) ≡ filled v ls ++ filled v ms
unfolding filled
filled_app v [] ms = refl
filled_app v (l ∷ ls) ms = let ih = filled_app v ls ms in grind arith

pub filled_table : (v : Filling) (ts : List (List Line)) (t : ℕ) → filled v (get_or ts t []) ≡ get_or (all_filled v ts) t []
unfolding filled all_filled
filled_table v [] t = refl
filled_table v (l ∷ ts) zero = refl
filled_table v (l ∷ ts) (suc t) = filled_table v ts t

pub same_row_is : (r s : Row) → same_row r s ≡ true → r ≡ s
unfolding same_row
same_row_is [] [] e = refl
same_row_is [] (y ∷ s) e = absurd (both_ways false refl e)
same_row_is (x ∷ r) [] e = absurd (both_ways false refl e)
same_row_is (x ∷ r) (y ∷ s) e = cc (eqb-true x y (and_parts (eqb x y) (same_row r s) e).0, same_row_is r s (and_parts (eqb x y) (same_row r s) e).1)
