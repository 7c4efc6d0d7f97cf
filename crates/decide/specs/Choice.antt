-- The filling that decides which rows may be sure: of those that fit what is known, the one that gives a gap a number that stands
-- nowhere wherever it can.
--
--   nowhere k             the gap k's own number that stands nowhere: all that stand in lists and conditions are below 2^64
--   turn k n              when the gap k tries the number n: first its own that stands nowhere, then those of the gaps before it, the
--                         last first, and then all below 2^64 in rising order
--   Chosen c v            v meets c, and gives each gap, one after the other, the first number that can be continued
--   number_of gs ns xs k  the number that v gives the gap k, where xs are numbers for the gaps gs: one of ns stays, and any other is
--                         told by the first gap that has it
--   Picked c gs ns xs     the numbers xs for the gaps gs are picked in that order: where a number is one of ns or was picked before,
--                         those that come before it lead nowhere
use Rattle.std.specs.Prelude.{◌≡◌, ℕ, ◌+◌, ◌-◌, ◌^◌, ◌<◌, ◌≤◌, true, false, cond as if, ◌⊎◌, List, length, unwrap_or, position, ◌==◌, nat_lt, slice_index}
use Rattle.std.specs.Option.{option_map_or}
use Rattle.condition.specs.Cond.{Cond, has}
use Rattle.evaluate.specs.Filling.{Filling, holds}
use Rattle.decide.specs.Rows.{place}

abbrev pub nowhere : ℕ → ℕ
nowhere k = 2 ^ 64 + k

abbrev pub turn : ℕ → ℕ → ℕ
turn k n = if (nat_lt n (2 ^ 64)) (k + 1 + n) (nowhere k - n)

pub record Chosen (c : Cond) (v : Filling) : Type 0 where
  pub fits : holds v c ≡ true
  pub own : (k : ℕ) → v k ≤ nowhere k
  -- what comes before it in its gap's turn can't be continued, the gaps before as they are
  pub first : (k n : ℕ) → n ≤ nowhere k → turn k n < turn k (v k) → (w : Filling) → ((j : ℕ) → j < k → w j ≡ v j) → w k ≡ n → holds w c ≡ false

-- the first place that has the number at place p
abbrev pub owner : List ℕ → ℕ → ℕ
owner xs p = unwrap_or (position (λ n. n == slice_index xs p) xs) p

abbrev pub stand_in : (gs ns xs : List ℕ) → ℕ → ℕ
stand_in gs ns xs p = if (has ns (slice_index xs p)) (slice_index xs p) (nowhere (slice_index gs (owner xs p)))

abbrev pub number_of : (gs ns xs : List ℕ) → Filling
number_of gs ns xs k = option_map_or (stand_in gs ns xs) (place gs k) (nowhere k)

-- w gives the first p of the gaps gs the numbers xs
abbrev pub Begins : (gs xs : List ℕ) → ℕ → Filling → Type 0
Begins gs xs p w = (q : ℕ) → q < p → w (slice_index gs q) ≡ slice_index xs q

-- no filling that begins so, and gives the next gap the number n, meets c
abbrev pub LeadsNowhere : Cond → (gs xs : List ℕ) → ℕ → ℕ → Type 0
LeadsNowhere c gs xs p n = (w : Filling) → Begins gs xs p w → w (slice_index gs p) ≡ n → holds w c ≡ false

abbrev pub PickedBefore : List ℕ → ℕ → ℕ → Type 0
PickedBefore xs p n = (q : ℕ) × (q < p) × (slice_index xs q ≡ n)

-- neither one of ns nor picked for a gap before
pub record New (ns xs : List ℕ) (p n : ℕ) : Type 0 where
  pub other : has ns n ≡ false
  pub unused : (q : ℕ) → q < p → slice_index xs q ≡ n → ⊥

pub record Picked (c : Cond) (gs ns xs : List ℕ) : Type 0 where
  pub new : (p : ℕ) → p < length gs → (has ns (slice_index xs p) ≡ true) ⊎ PickedBefore xs p (slice_index xs p) → (n : ℕ) × New ns xs p n × LeadsNowhere c gs xs p n
  pub used : (p q : ℕ) → p < length gs → q < p → has ns (slice_index xs q) ≡ false →
      (has ns (slice_index xs p) ≡ true) ⊎ (owner xs p < owner xs q) → LeadsNowhere c gs xs p (slice_index xs q)
  pub named : (p n : ℕ) → p < length gs → has ns (slice_index xs p) ≡ true → has ns n ≡ true → n < slice_index xs p → LeadsNowhere c gs xs p n

-- there is one such filling at most
abbrev pub OneChosen : Type 0
OneChosen = (c : Cond) (v w : Filling) → Chosen c v → Chosen c w → (k : ℕ) → v k ≡ w k
