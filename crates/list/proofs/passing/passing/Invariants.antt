use Rattle.std.proofs.Common.{◌≡◌, ℕ, ◌+◌, ◌-◌, ◌≤◌, Bool, true, false, List, Option, MatchOption, Bor, length}
use Rattle.list.specs.Layout.{passing, AtEach}
use Rattle.list.proofs.passing.passing.Given as goal

-- the check may be called at each list that is left; those before passed
abbrev pub invariant-loop-t : goal.invariant-loop-t
invariant-loop-t g l =
    AtEach (λ ys. (front : Bor (List ℕ)) → front.now ≡ ys → goal.F-pre g l.check front) (l.k - l.t) l.rest
    × (length l.rest ≤ length l.xs)
    × ((ok : List ℕ → Bool) → ((front : Bor (List ℕ)) (size : Option ℕ) → goal.F-post g l.check front size → MatchOption size (ok front.now ≡ false) (λ _. ok front.now ≡ true)) →
    passing ok l.k l.xs ≡ l.t + passing ok (l.k - l.t) l.rest)
