-- Senses in which conditions are taken, each with its own values: x means c says that the condition c comes to x.
--
--   ComeTo means nodes n xs     the first n of xs are what the first n nodes of a store come to
use Rattle.std.specs.Prelude.{ℕ, ◌<◌, List, slice_index_or}
use Rattle.condition.specs.Cond.{Cond}
use Rattle.condition.specs.Store.{cond_at}

abbrev pub ComeTo : {T : Type 0} → (T → Cond → Type 0) → List ℕ → ℕ → List T → Type 0
ComeTo means nodes n xs = (j : ℕ) → j < n → (x : _) → means (slice_index_or xs j x) (cond_at nodes j)
