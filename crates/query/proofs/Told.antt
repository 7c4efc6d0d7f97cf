-- What was made, told in other words.
use Rattle.std.proofs.Common.{◌≡◌, ℕ, List, [], ◌∷◌, map, vec_items, vec_len, Ok, Err, IfOk, MatchResult, Result, Vec, refl, ap₂, ◌∙◌}
use Rattle.std.proofs.lemmas.Result.{IfOk-weaker}
use Rattle.std.specs.List.{AllZip}
use Rattle.list.specs.Lists.{Row}
use Rattle.list.specs.Shapes.{rows_of}

pub made_as : {Z E : Type 0} {xs ys : List Row} (r : Result (Vec (Vec ℕ Z) Z) E) → IfOk r (λ v. rows_of v ≡ xs) → xs ≡ ys → IfOk r (λ v. rows_of v ≡ ys)
made_as {xs} {ys} r m e = IfOk-weaker r (λ v. rows_of v ≡ xs) (λ v. rows_of v ≡ ys) (λ v h. h ∙ e) m

module _ {Z : Type 0} (R : Vec ℕ Z → Vec ℕ Z → Type 0) (same : (v w : Vec ℕ Z) → R v w → vec_items w ≡ vec_items v) where
  -- rows that were copied one by one are the same rows
  each_copied : (vs ws : List (Vec ℕ Z)) → AllZip R vs ws → map vec_items ws ≡ map vec_items vs
  each_copied [] [] z = refl
  each_copied [] (w ∷ ws) z = absurd z
  each_copied (v ∷ vs) [] z = absurd z
  each_copied (v ∷ vs) (w ∷ ws) z = ap₂ ◌∷◌ (same v w z.0) (each_copied vs ws z.1)

  pub copied : {E : Type 0} (v : Vec (Vec ℕ Z) Z) (Q : E → Type 0) (r : Result (Vec (Vec ℕ Z) Z) E) →
      MatchResult r (λ w. AllZip R (vec_items v) (vec_items w) × (vec_len w ≡ vec_len v)) Q → IfOk r (λ w. rows_of w ≡ rows_of v)
  copied v Q (Ok w) z = each_copied (vec_items v) (vec_items w) z.0
  copied v Q (Err e) z = tt
