-- Rows added at the end of others: one step of a loop, and its end.
use Rattle.std.proofs.Common.{◌≡◌, ℕ, List, [], ◌∷◌, ◌++◌, map, vec_items, Vec, ap}
use Rattle.std.proofs.lemmas.List.{append_assoc, append-nil, map_push}
use Rattle.list.specs.Lists.{Row}
use Rattle.list.specs.Shapes.{rows_of}

module _ {Z : Type 0} where
  pub rows_push : (out next : Vec (Vec ℕ Z) Z) (x : Vec ℕ Z) (r : Row) → vec_items next ≡ vec_items out ++ x ∷ [] → vec_items x ≡ r → rows_of next ≡ rows_of out ++ r ∷ []
  rows_push out next x r e f = let m = ap (map vec_items) e in cc (map_push vec_items (vec_items out) x)

-- what was added and what is left are all
module _ {X : Type 0} where
  pub added_more : (out next more left rest all : List X) → out ++ left ≡ all → left ≡ more ++ rest → next ≡ out ++ more → next ++ rest ≡ all
  added_more out next more left rest all p q e = cc (append_assoc out more rest)

  pub added_one : (out next : List X) (x : X) (left rest all : List X) → out ++ left ≡ all → left ≡ x ∷ rest → next ≡ out ++ x ∷ [] → next ++ rest ≡ all
  added_one out next x left rest all p q e = added_more out next (x ∷ []) left rest all p q e

  pub added_end : (out left all : List X) → out ++ left ≡ all → left ≡ [] → out ≡ all
  added_end out left all p q = cc (append-nil out)
