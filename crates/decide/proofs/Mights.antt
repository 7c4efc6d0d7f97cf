-- What a condition comes to is always among what it might; with all its gaps settled nothing else is.
use Rattle.std.proofs.Common.{◌≡◌, ℕ, Bool, true, false, not, ◌&&◌, ◌||◌, eqb, List, [], ◌∷◌, sym, refl, ap, ◌∙◌, subst, inl, inr}
use Rattle.std.proofs.lemmas.Bool.{both_ways, eqb-true, and_from, or_left, or_right}
use Rattle.condition.specs.Cond.{Cell, known, gap, Cond, always, never, equal, not_so, both, either, cells_of}
use Rattle.condition.proofs.Lists.{eqb_self}
use Rattle.condition.proofs.Named.{OneOf, one_left, one_right, gap_named}
use Rattle.evaluate.specs.Filling.{Filling, fill_cell, holds}
use Rattle.decide.specs.Might.{settled, same_gap, tell, meet, might_equal, might, Extends, Dead, MightSound, MightExact}

both_le : (t a b p q : Bool) → (tell t a ≡ true → p ≡ true) → (tell t b ≡ true → q ≡ true) → tell t (a && b) ≡ true → meet t p q ≡ true
both_le true true b p q f g h = and_from p q (f refl) (g h)
both_le true false b p q f g h = absurd (both_ways false refl h)
both_le false true b p q f g h = or_right p q (g h)
both_le false false b p q f g h = or_left p q (f refl)

either_le : (t a b p q : Bool) → (tell t a ≡ true → p ≡ true) → (tell t b ≡ true → q ≡ true) → tell t (a || b) ≡ true → meet (not t) p q ≡ true
either_le true true b p q f g h = or_left p q (f refl)
either_le true false b p q f g h = or_right p q (g h)
either_le false true b p q f g h = absurd (both_ways false refl h)
either_le false false b p q f g h = and_from p q (f refl) (g h)

tell_not : (t b : Bool) → tell t (not b) ≡ tell (not t) b
tell_not true true = refl
tell_not true false = refl
tell_not false true = refl
tell_not false false = refl

tell_true : (t : Bool) → tell t true ≡ t
tell_true true = refl
tell_true false = refl

tell_false : (t : Bool) → tell t false ≡ not t
tell_false true = refl
tell_false false = refl

settled_fill : (on : ℕ → Bool) (v w : Filling) → Extends on v w → (a : Cell) → settled on a ≡ true → fill_cell w a ≡ fill_cell v a
settled_fill on v w e (known n) h = refl
settled_fill on v w e (gap k) h = e k h

same_gap_fill : (w : Filling) (a b : Cell) → same_gap a b ≡ true → eqb (fill_cell w a) (fill_cell w b) ≡ true
same_gap_fill w (known n) b h = absurd (both_ways false refl h)
same_gap_fill w (gap j) (known n) h = absurd (both_ways false refl h)
same_gap_fill w (gap j) (gap k) h = rw (eqb-true j k h) (eqb_self (w k))

equal_le : (on : ℕ → Bool) (v w : Filling) → Extends on v w → (t : Bool) (a b : Cell) → tell t (eqb (fill_cell w a) (fill_cell w b)) ≡ true → might_equal on v t a b ≡ true
equal_le on v w e t a b h = go (settled on a) refl (settled on b) refl
  where
    open_le : (s : Bool) → tell s (eqb (fill_cell w a) (fill_cell w b)) ≡ true → (s || not (same_gap a b)) ≡ true
    open_le true u = refl
    open_le false u = by (same_gap a b) refl
      where
        by : (g : Bool) → same_gap a b ≡ g → not (same_gap a b) ≡ true
        by true i = absurd (both_ways (not (eqb (fill_cell w a) (fill_cell w b))) (ap not (same_gap_fill w a b i)) u)
        by false i = ap not i

    go : (p : Bool) → settled on a ≡ p → (q : Bool) → settled on b ≡ q → might_equal on v t a b ≡ true
    go true i true j =
        rw (i, j) (subst (λ (x : ℕ). tell t (eqb x (fill_cell v b)) ≡ true) (settled_fill on v w e a i)
        (subst (λ (x : ℕ). tell t (eqb (fill_cell w a) x) ≡ true) (settled_fill on v w e b j) h))
    go true i false j = rw (i, j) (open_le t h)
    go false i q j = rw i (open_le t h)

pub might_sound : MightSound
unfolding holds might
might_sound on v w e always t h = sym (tell_true t) ∙ h
might_sound on v w e never t h = sym (tell_false t) ∙ h
might_sound on v w e (equal a b) t h = equal_le on v w e t a b h
might_sound on v w e (not_so c) t h = might_sound on v w e c (not t) (sym (tell_not t (holds w c)) ∙ h)
might_sound on v w e (both c d) t h = both_le t (holds w c) (holds w d) (might on v t c) (might on v t d) (might_sound on v w e c t) (might_sound on v w e d t) h
might_sound on v w e (either c d) t h = either_le t (holds w c) (holds w d) (might on v t c) (might on v t d) (might_sound on v w e c t) (might_sound on v w e d t) h

both_is : (t a b : Bool) → meet t (tell t a) (tell t b) ≡ tell t (a && b)
both_is true a b = refl
both_is false true true = refl
both_is false true false = refl
both_is false false true = refl
both_is false false false = refl

either_is : (t a b : Bool) → meet (not t) (tell t a) (tell t b) ≡ tell t (a || b)
either_is true a b = refl
either_is false true true = refl
either_is false true false = refl
either_is false false true = refl
either_is false false false = refl

cell_settled : (on : ℕ → Bool) (a : Cell) (cs : List Cell) → ((k : ℕ) → OneOf (gap k) cs → on k ≡ true) → OneOf a cs → settled on a ≡ true
cell_settled on (known n) cs h i = refl
cell_settled on (gap k) cs h i = h k i

exact : (on : ℕ → Bool) (v : Filling) (c : Cond) (t : Bool) → ((k : ℕ) → OneOf (gap k) (cells_of c) → on k ≡ true) → might on v t c ≡ tell t (holds v c)
unfolding holds might cells_of
exact on v always t h = sym (tell_true t)
exact on v never t h = sym (tell_false t)
exact on v (equal a b) t h = rw (cell_settled on a (a ∷ (b ∷ [])) h (inl refl), cell_settled on b (a ∷ (b ∷ [])) h (inr (inl refl))) refl
exact on v (not_so c) t h = exact on v c (not t) h ∙ sym (tell_not t (holds v c))
exact on v (both c d) t h =
    rw (exact on v c t (λ k u. h k (one_left (gap k) (cells_of c) (cells_of d) u)), exact on v d t (λ k u. h k (one_right (gap k) (cells_of c) (cells_of d) u))) (both_is t (holds v c) (holds v d))
exact on v (either c d) t h =
    rw (exact on v c t (λ k u. h k (one_left (gap k) (cells_of c) (cells_of d) u)), exact on v d t (λ k u. h k (one_right (gap k) (cells_of c) (cells_of d) u))) (either_is t (holds v c) (holds v d))

pub might_exact : MightExact
might_exact on v c t h = exact on v c t (λ k i. h k (gap_named k (cells_of c) i))

-- a condition that cannot come true is dead
pub dead_now : (on : ℕ → Bool) (v : Filling) (c : Cond) → might on v true c ≡ false → Dead on v c
dead_now on v c h w e = by (holds w c) refl
  where
    by : (b : Bool) → holds w c ≡ b → holds w c ≡ false
    by true i = absurd (both_ways (might on v true c) h (might_sound on v w e c true i))
    by false i = i
