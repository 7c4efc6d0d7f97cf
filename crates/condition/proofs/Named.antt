-- The cells of a condition, and the numbers and gaps that stand in them.
use Rattle.std.proofs.Common.{◌≡◌, ℕ, true, ◌⊎◌, List, [], ◌∷◌, ◌++◌, refl, inl, inr, arith}
use Rattle.condition.specs.Cond.{Cell, known, gap, numbers_in, gaps_in, has}
use Rattle.condition.proofs.Lists.{has_head, has_tail}

-- a is one of the cells
abbrev pub OneOf : Cell → List Cell → Type 0
OneOf a [] = ⊥
OneOf a (c ∷ cs) = (a ≡ c) ⊎ OneOf a cs

pub one_left : (a : Cell) (cs ds : List Cell) → OneOf a cs → OneOf a (cs ++ ds)
one_left a [] ds h = absurd h
one_left a (c ∷ cs) ds (inl e) = inl e
one_left a (c ∷ cs) ds (inr h) = inr (one_left a cs ds h)

pub one_right : (a : Cell) (cs ds : List Cell) → OneOf a ds → OneOf a (cs ++ ds)
one_right a [] ds h = h
one_right a (c ∷ cs) ds h = inr (one_right a cs ds h)

-- a number in one of the cells is among their numbers
pub number_named : (n : ℕ) (cs : List Cell) → OneOf (known n) cs → has (numbers_in cs) n ≡ true
unfolding numbers_in
number_named n [] h = absurd h
number_named n (known m ∷ cs) (inl e) = let p : m ≡ n = cc in rw p (has_head n (numbers_in cs))
number_named n (known m ∷ cs) (inr h) = has_tail m (numbers_in cs) n (number_named n cs h)
number_named n (gap k ∷ cs) (inl e) = let z : ◌≡◌ {A = ℕ} 0 1 = cc in absurd (omega arith)
number_named n (gap k ∷ cs) (inr h) = number_named n cs h

-- a gap in one of the cells is among their gaps
pub gap_named : (k : ℕ) (cs : List Cell) → OneOf (gap k) cs → has (gaps_in cs) k ≡ true
unfolding gaps_in
gap_named k [] h = absurd h
gap_named k (known m ∷ cs) (inl e) = let z : ◌≡◌ {A = ℕ} 0 1 = cc in absurd (omega arith)
gap_named k (known m ∷ cs) (inr h) = gap_named k cs h
gap_named k (gap j ∷ cs) (inl e) = let p : j ≡ k = cc in rw p (has_head k (gaps_in cs))
gap_named k (gap j ∷ cs) (inr h) = has_tail j (gaps_in cs) k (gap_named k cs h)

pub numbers_app : (cs ds : List Cell) → numbers_in (cs ++ ds) ≡ numbers_in cs ++ numbers_in ds
unfolding numbers_in
numbers_app [] ds = refl
numbers_app (known n ∷ cs) ds = rw (numbers_app cs ds)
numbers_app (gap k ∷ cs) ds = numbers_app cs ds

pub gaps_app : (cs ds : List Cell) → gaps_in (cs ++ ds) ≡ gaps_in cs ++ gaps_in ds
unfolding gaps_in
gaps_app [] ds = refl
gaps_app (known n ∷ cs) ds = gaps_app cs ds
gaps_app (gap k ∷ cs) ds = rw (gaps_app cs ds)
