-- Laws of what is told.
use Rattle.std.proofs.Common.{◌≡◌, ℕ, Bool, true, false, Some, None, refl, arith}
use Rattle.condition.specs.Refusals.{Told, first, unless}

-- where nothing is told, neither of two tells anything
pub first_none : (a b : Told) → first a b ≡ None → (a ≡ None) × (b ≡ None)
first_none None b e = (refl, e)
first_none (Some t) b e = let z : ◌≡◌ {A = ℕ} 0 1 = cc in absurd (omega arith)

-- where a test tells nothing, it passed
pub unless_none : (t : Bool) (n p : ℕ) → unless t n p ≡ None → t ≡ true
unless_none true n p e = refl
unless_none false n p e = let z : ◌≡◌ {A = ℕ} 0 1 = cc in absurd (omega arith)
