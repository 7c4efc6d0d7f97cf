-- All numbers may fill a gap, and yet a few are enough to decide a condition. Each statement here is proved: it is the
-- contract of a function of this crate.
use Rattle.std.specs.Prelude.{◌≡◌, ℕ, ◌+◌, ◌^◌, ◌<◌, ◌≤◌, Bool, true, List, ◌++◌, length, slice_index}
use Rattle.condition.specs.Cond.{Cond, numbers, gaps, has, Within}
use Rattle.evaluate.specs.Filling.{Filling, holds, Drawn, Below, Fresh}

-- fillings that agree on the gaps of a condition agree on it
abbrev pub OwnGaps : Type 0
OwnGaps = (c : Cond) (v w : Filling) → ((k : ℕ) → has (gaps c) k ≡ true → v k ≡ w k) → holds v c ≡ holds w c

-- a condition that some filling meets is met by one that draws from the numbers it names and as many fresh ones as it has gaps
abbrev pub FewNumbers : Type 0
FewNumbers =
    (c : Cond) (v : Filling) (fs : List ℕ) → holds v c ≡ true → Fresh (numbers c) (length (gaps c)) fs →
    (w : Filling) × Drawn (gaps c) (numbers c ++ fs) w × (holds w c ≡ true)

-- the same over any lists that cover the numbers and the gaps of the condition, as lists without repeats do; met or not
abbrev pub FewOver : Type 0
FewOver =
    (c : Cond) (v : Filling) (ns gs fs : List ℕ) → Within (numbers c) ns → Within (gaps c) gs → Fresh ns (length gs) fs →
    (w : Filling) × Drawn gs (ns ++ fs) w × (holds w c ≡ holds v c)

-- so trying those fillings decides for all fillings
abbrev pub FewDecide : Type 0
FewDecide =
    (c : Cond) (ns gs fs : List ℕ) (t : Bool) → Within (numbers c) ns → Within (gaps c) gs → Fresh ns (length gs) fs →
    ((w : Filling) → Drawn gs (ns ++ fs) w → holds w c ≡ t) → (v : Filling) → holds v c ≡ t

-- fresh numbers are always there, and small: below how many are to be avoided and how many are wanted
abbrev pub FreshSmall : Type 0
FreshSmall = (ms : List ℕ) (n : ℕ) → (fs : List ℕ) × Fresh ms n fs × ((i : ℕ) → i < length fs → slice_index fs i < length ms + n)

-- whatever a condition over numbers below 2^64 is under some filling, it is under one whose numbers are all below 2^64; so to
-- decide over those is to decide over all numbers. (Without room for the gaps it fails: a condition could name them all.)
abbrev pub Within64Bits : Type 0
Within64Bits =
    (c : Cond) (v : Filling) (ns gs : List ℕ) → Within (numbers c) ns → Within (gaps c) gs → ((n : ℕ) → has ns n ≡ true → n < 2 ^ 64) →
    length ns + length gs ≤ 2 ^ 64 → (w : Filling) × Below (2 ^ 64) w × (holds w c ≡ holds v c)
