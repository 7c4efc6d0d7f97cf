-- The rows that a loop has left, one step on and at the end; the parts, columns and lists that are there.
use Rattle.std.proofs.Common.{◌≡◌, ℕ, ◌+◌, ◌<◌, ◌≤◌, min, ◌⊎◌, List, [], ◌∷◌, length, get_or, drop, vec_items, Vec, ap, inl, inr, arith}
use Rattle.std.proofs.lemmas.List.{drop_more, drop_all, get_or-map, get_or_past, length-map}
use Rattle.std.proofs.lemmas.Bool.{cases_lt}
use Rattle.list.specs.Lists.{Row}
use Rattle.list.specs.Shapes.{rows_of}
use Rattle.query.specs.Rows.{rows_in, tables_in}

module _ {Z : Type 0} (rs : List (Vec ℕ Z)) (i : ℕ) where
  pub rows_more : (x : Vec ℕ Z) (r : Row) → i < length rs → x ≡ get_or rs i x → r ≡ vec_items x → rows_in (drop i rs) ≡ r ∷ rows_in (drop (i + 1) rs)
  rows_more x r h e f = let m = ap rows_in (drop_more rs i x h) in let y = ap vec_items e in cc

  pub rows_end : length rs ≤ i → rows_in (drop i rs) ≡ []
  rows_end h = ap rows_in (drop_all i rs h)

-- as much as there is
module _ {X : Type 0} (xs : List X) (k m : ℕ) (e : m ≡ min k (length xs)) where
  pub drop_within : drop m xs ≡ drop k xs
  drop_within = go (cases_lt (length xs) k)
    where
      go : (length xs < k) ⊎ (k ≤ length xs) → drop m xs ≡ drop k xs
      go (inl h) = let p = drop_all m xs (omega arith) in let q = drop_all k xs (omega arith) in cc
      go (inr h) = let p : m ≡ k = omega arith in cc

-- the rows of a list
module _ {Z : Type 0} (ts : List (Vec (Vec ℕ Z) Z)) (t : ℕ) where
  pub table_at : (x : Vec (Vec ℕ Z) Z) (rs : List (Vec ℕ Z)) → t < length ts → x ≡ get_or ts t x → rs ≡ vec_items x → rows_in rs ≡ get_or (tables_in ts) t []
  table_at x rs h e f = let p = get_or-map rows_of ts t x [] h in let q = ap rows_of e in let s = ap rows_in f in cc

  pub table_past : length ts ≤ t → get_or (tables_in ts) t [] ≡ []
  table_past h = get_or_past (tables_in ts) t [] (simp length-map h)
