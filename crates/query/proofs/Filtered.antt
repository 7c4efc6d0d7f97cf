-- Rows that are kept or looked for, by a test of each, or cut to some columns.
use Rattle.std.proofs.Common.{◌≡◌, ℕ, Bool, true, false, cond as if, not, ◌||◌, List, [], ◌∷◌, get_or, filter, map, vec_items, Vec, refl, ap}
use Rattle.std.specs.List.{list_any}
use Rattle.list.specs.Lists.{Row, same_row, stands}
use Rattle.query.specs.Ask.{Test, passes, kept, at_columns, cut_to, less}
use Rattle.query.specs.Rows.{rows_in}

pub filter_kept : (t : Test) (rs : List Row) → filter (passes t) rs ≡ kept t rs
unfolding kept
filter_kept t [] = refl
filter_kept t (r ∷ rs) = rw (filter_kept t rs) refl

pub filter_less : (ss rs : List Row) → filter (λ r. not (stands r ss)) rs ≡ less rs ss
unfolding less
filter_less ss [] = refl
filter_less ss (r ∷ rs) = go (stands r ss) (filter_less ss rs)
  where
    go : (b : Bool) → filter (λ r. not (stands r ss)) rs ≡ less rs ss → if (not b) (r ∷ filter (λ r. not (stands r ss)) rs) (filter (λ r. not (stands r ss)) rs) ≡ if b (less rs ss) (r ∷ less rs ss)
    go true e = e
    go false e = ap (λ (xs : List Row). r ∷ xs) e

module _ {Z : Type 0} where
  pub any_stands : (r : Row) (rs : List (Vec ℕ Z)) → list_any (λ v. same_row r (vec_items v)) rs ≡ stands r (rows_in rs)
  unfolding stands
  any_stands r [] = refl
  any_stands r (s ∷ rs) = ap (λ b. same_row r (vec_items s) || b) (any_stands r rs)

  -- the rows of those that pass, and those of the rows that pass
  pub filter_rows : (test : Row → Bool) (rs : List (Vec ℕ Z)) → map vec_items (filter (λ v. test (vec_items v)) rs) ≡ filter test (rows_in rs)
  filter_rows test [] = refl
  filter_rows test (r ∷ rs) = go (test (vec_items r)) (filter_rows test rs)
    where
      go : (b : Bool) → map vec_items (filter (λ v. test (vec_items v)) rs) ≡ filter test (rows_in rs) →
          map vec_items (if b (r ∷ filter (λ v. test (vec_items v)) rs) (filter (λ v. test (vec_items v)) rs)) ≡ if b (vec_items r ∷ filter test (rows_in rs)) (filter test (rows_in rs))
      go true e = ap (λ (ss : List Row). vec_items r ∷ ss) e
      go false e = e

  pub map_cut : (ps : List ℕ) (rs : List (Vec ℕ Z)) → map (λ v. at_columns ps (vec_items v)) rs ≡ cut_to ps (rows_in rs)
  unfolding cut_to
  map_cut ps [] = refl
  map_cut ps (r ∷ rs) = ap (λ (ss : List Row). at_columns ps (vec_items r) ∷ ss) (map_cut ps rs)

pub map_columns : (r : Row) (ps : List ℕ) → map (λ a. get_or r a 0) ps ≡ at_columns ps r
unfolding at_columns
map_columns r [] = refl
map_columns r (a ∷ ps) = ap (λ (xs : Row). get_or r a 0 ∷ xs) (map_columns r ps)
