-- What can still come of a condition while some gaps are open: on says which gaps are settled, and v gives their numbers. The
-- statements are proved: each is the contract of a function of this crate.
--
--   settled on a         a cell has its number: it is one, or a gap that is settled
--   might on v t c       whether the condition c might still turn out to be t
--   Extends on v w       w gives the settled gaps the numbers that v gives them
--   Dead on v c          no filling that goes on from here meets c
--   put_on on g          the gap g is settled too
--   NoLater gs w u      w gives the gaps gs, one after the other, no later numbers than u does
use Rattle.std.specs.Prelude.{◌≡◌, ℕ, ◌<◌, ◌≤◌, Bool, true, false, cond as if, not, ◌&&◌, ◌||◌, ◌⊎◌, List, [], ◌∷◌, ◌==◌}
use Rattle.condition.specs.Cond.{Cell, known, gap, Cond, always, never, equal, not_so, both, either, numbers, gaps, has, Within}
use Rattle.evaluate.specs.Filling.{Filling, put, fill_cell, holds}

abbrev pub settled : (ℕ → Bool) → Cell → Bool
settled on (known n) = true
settled on (gap k) = on k

abbrev pub same_gap : Cell → Cell → Bool
same_gap (known n) b = false
same_gap (gap j) (known n) = false
same_gap (gap j) (gap k) = j == k

-- b, or for false its contrary
abbrev pub tell : Bool → Bool → Bool
tell true b = b
tell false b = not b

abbrev pub meet : Bool → Bool → Bool → Bool
meet true a b = a && b
meet false a b = a || b

-- two cells: while one is open, they might be equal or not, unless both are one gap
abbrev pub might_equal : (ℕ → Bool) → Filling → Bool → Cell → Cell → Bool
might_equal on v t a b = if (settled on a && settled on b) (tell t (fill_cell v a == fill_cell v b)) (t || not (same_gap a b))

unfoldable pub might : (ℕ → Bool) → Filling → Bool → Cond → Bool
might on v t always = t
might on v t never = not t
might on v t (equal a b) = might_equal on v t a b
might on v t (not_so c) = might on v (not t) c
might on v t (both c d) = meet t (might on v t c) (might on v t d)
might on v t (either c d) = meet (not t) (might on v t c) (might on v t d)

abbrev pub Extends : (ℕ → Bool) → Filling → Filling → Type 0
Extends on v w = (k : ℕ) → on k ≡ true → w k ≡ v k

abbrev pub Dead : (ℕ → Bool) → Filling → Cond → Type 0
Dead on v c = (w : Filling) → Extends on v w → holds w c ≡ false

abbrev pub put_on : (ℕ → Bool) → ℕ → ℕ → Bool
put_on on g j = j == g || on j

-- what a condition turns out to be, it might have been
abbrev pub MightSound : Type 0
MightSound = (on : ℕ → Bool) (v w : Filling) → Extends on v w → (c : Cond) (t : Bool) → tell t (holds w c) ≡ true → might on v t c ≡ true

-- with its gaps settled, it might be only what it is
abbrev pub MightExact : Type 0
MightExact = (on : ℕ → Bool) (v : Filling) (c : Cond) (t : Bool) → ((k : ℕ) → has (gaps c) k ≡ true → on k ≡ true) → might on v t c ≡ tell t (holds v c)

-- ns has the numbers that the condition names and those in use; f is none of them. If the gap g leads nowhere with one of ns,
-- and with f, then nothing does.
abbrev pub FewSteps : Type 0
FewSteps =
    (on : ℕ → Bool) (v : Filling) (c : Cond) (ns : List ℕ) (g f : ℕ) →
    Within (numbers c) ns →
    ((k : ℕ) → on k ≡ true → has ns (v k) ≡ true) →
    has ns f ≡ false →
    ((x : ℕ) → has ns x ≡ true → Dead (put_on on g) (put v g x) c) →
    Dead (put_on on g) (put v g f) c →
    Dead on v c

unfoldable pub NoLater : List ℕ → Filling → Filling → Type 0
NoLater [] w u = Unit {0}
NoLater (g ∷ gs) w u = (w g < u g) ⊎ ((w g ≡ u g) × NoLater gs w u)

-- f is the least number that is neither named nor in use. If those and f that lie below x lead nowhere at g, whatever meets the
-- condition has x there or more.
abbrev pub LeastStep : Type 0
LeastStep =
    (on : ℕ → Bool) (v : Filling) (c : Cond) (ns : List ℕ) (g f x : ℕ) →
    Within (numbers c) ns →
    ((k : ℕ) → on k ≡ true → has ns (v k) ≡ true) →
    has ns f ≡ false →
    ((y : ℕ) → y < f → has ns y ≡ true) →
    ((y : ℕ) → y < x → (has ns y ≡ true) ⊎ (y ≡ f) → Dead (put_on on g) (put v g y) c) →
    (u : Filling) → Extends on v u → holds u c ≡ true → x ≤ u g

-- so the least number at the first gap and the least filling of the others make the least filling
abbrev pub LeastAll : Type 0
LeastAll =
    (on : ℕ → Bool) (v : Filling) (c : Cond) (g : ℕ) (gs : List ℕ) (x : ℕ) (w : Filling) →
    w g ≡ x →
    ((u : Filling) → Extends on v u → holds u c ≡ true → x ≤ u g) →
    ((u : Filling) → Extends (put_on on g) (put v g x) u → holds u c ≡ true → NoLater gs w u) →
    (u : Filling) → Extends on v u → holds u c ≡ true → NoLater (g ∷ gs) w u
