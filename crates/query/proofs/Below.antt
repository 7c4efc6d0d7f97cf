-- Columns that are all below a width.
use Rattle.std.proofs.Common.{◌≡◌, ℕ, ◌&&◌, ltb, List, [], ◌∷◌, refl, ap}
use Rattle.std.specs.List.{list_all}
use Rattle.query.specs.Reading.{all_below}

pub each_below : (w : ℕ) (cs : List ℕ) → list_all (λ a. ltb a w) cs ≡ all_below w cs
unfolding all_below
each_below w [] = refl
each_below w (c ∷ cs) = ap (λ b. ltb c w && b) (each_below w cs)
