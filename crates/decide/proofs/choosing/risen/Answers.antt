use Rattle.std.proofs.Common.{◌≡◌, ℕ, List, length, drop, ap, ◌∙◌}
use Rattle.std.specs.List.{refill}
use Rattle.std.specs.List.Sorted.{IsNonDecreasing}
use Rattle.std.proofs.lemmas.List.{take_at}
use Rattle.std.proofs.lemmas.List.Sorted.{IsNonDecreasingBy-from_sort}
use Rattle.decide.proofs.choosing.risen.Goals as goal

-- what is written over all of a list is what stands there
written : (xs ys : List ℕ) → length ys ≡ length xs → refill (length xs) xs ys ≡ ys
written xs ys e = take_at ys (drop (length ys) xs) (length xs) e

pub returns-clause-rising : goal.returns-clause-rising
returns-clause-rising c =
    let xs = c.try_extend_from_slice.new.self.items in
    let ys = c.sort_unstable.new.self in
    let up : IsNonDecreasing ys = IsNonDecreasingBy-from_sort (λ x. x) ys c.sort_unstable.ensures.sorted in
    rw (written xs ys (c.sort_unstable.ensures.len ∙ ap length c.deref_mut.ensures.value)) up
