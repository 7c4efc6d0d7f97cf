-- What is made of rows, by the first of them; and of none.
use Rattle.std.proofs.Common.{◌≡◌, List, [], ◌∷◌, ◌++◌, ap}
use Rattle.list.specs.Lists.{Row}
use Rattle.query.specs.Ask.{beside, joined}

module _ (r : Row) (left rest : List Row) (e : left ≡ r ∷ rest) where
  pub beside_first : (q : Row) → beside q left ≡ (q ++ r) ∷ beside q rest
  unfolding beside
  beside_first q = ap (beside q) e

  pub joined_first : (ss : List Row) → joined left ss ≡ beside r ss ++ joined rest ss
  unfolding joined
  joined_first ss = ap (λ (rs : List Row). joined rs ss) e

module _ (left : List Row) (e : left ≡ []) where
  pub beside_none : (q : Row) → beside q left ≡ []
  unfolding beside
  beside_none q = ap (beside q) e

  pub joined_none : (ss : List Row) → joined left ss ≡ []
  unfolding joined
  joined_none ss = ap (λ (rs : List Row). joined rs ss) e
