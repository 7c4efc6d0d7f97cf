-- Laws of `holds`. Only this file goes through the kinds of conditions.
use Rattle.std.proofs.Common.{◌≡◌, ℕ, true, false, not, ◌&&◌, ◌||◌, eqb, List, sym, refl, ap, inl, inr}
use Rattle.condition.specs.Cond.{Cell, known, gap, Cond, always, never, equal, not_so, both, either, cells_of, each_cell}
use Rattle.condition.proofs.Named.{OneOf, one_left, one_right, gap_named}
use Rattle.evaluate.specs.Filling.{Filling, fill_cell, holds}
use Rattle.evaluate.specs.Enough.{OwnGaps}

pub holds_always : (v : Filling) → holds v always ≡ true
unfolding holds
holds_always v = refl

pub holds_never : (v : Filling) → holds v never ≡ false
unfolding holds
holds_never v = refl

pub holds_equal : (v : Filling) (a b : Cell) → holds v (equal a b) ≡ eqb (fill_cell v a) (fill_cell v b)
unfolding holds
holds_equal v a b = refl

pub holds_not : (v : Filling) (c : Cond) → holds v (not_so c) ≡ not (holds v c)
unfolding holds
holds_not v c = refl

pub holds_both : (v : Filling) (c d : Cond) → holds v (both c d) ≡ (holds v c && holds v d)
unfolding holds
holds_both v c d = refl

pub holds_either : (v : Filling) (c d : Cond) → holds v (either c d) ≡ (holds v c || holds v d)
unfolding holds
holds_either v c d = refl

-- two fillings that compare the cells of a condition alike agree on it
pub holds_alike : (v w : Filling) (c : Cond) →
    ((a b : Cell) → OneOf a (cells_of c) → OneOf b (cells_of c) → eqb (fill_cell w a) (fill_cell w b) ≡ eqb (fill_cell v a) (fill_cell v b)) →
    holds w c ≡ holds v c
unfolding holds cells_of
holds_alike v w always h = refl
holds_alike v w never h = refl
holds_alike v w (equal a b) h = h a b (inl refl) (inr (inl refl))
holds_alike v w (not_so c) h = ap not (holds_alike v w c h)
holds_alike v w (both c d) h =
    cc (
      holds_alike v w c (λ a b p q. h a b (one_left a (cells_of c) (cells_of d) p) (one_left b (cells_of c) (cells_of d) q)),
      holds_alike v w d (λ a b p q. h a b (one_right a (cells_of c) (cells_of d) p) (one_right b (cells_of c) (cells_of d) q)),
    )
holds_alike v w (either c d) h =
    cc (
      holds_alike v w c (λ a b p q. h a b (one_left a (cells_of c) (cells_of d) p) (one_left b (cells_of c) (cells_of d) q)),
      holds_alike v w d (λ a b p q. h a b (one_right a (cells_of c) (cells_of d) p) (one_right b (cells_of c) (cells_of d) q)),
    )

-- cells replaced by others that have the same number
pub holds_each : (v : Filling) (f : Cell → Cell) → ((a : Cell) → fill_cell v (f a) ≡ fill_cell v a) → (c : Cond) → holds v (each_cell f c) ≡ holds v c
unfolding holds each_cell
holds_each v f h always = refl
holds_each v f h never = refl
holds_each v f h (equal a b) = cc (h a, h b)
holds_each v f h (not_so c) = ap not (holds_each v f h c)
holds_each v f h (both c d) = cc (holds_each v f h c, holds_each v f h d)
holds_each v f h (either c d) = cc (holds_each v f h c, holds_each v f h d)

pub fill_agree : (a : Cell) (cs : List Cell) (v w : Filling) → ((k : ℕ) → OneOf (gap k) cs → v k ≡ w k) → OneOf a cs → fill_cell v a ≡ fill_cell w a
fill_agree (known n) cs v w h i = refl
fill_agree (gap k) cs v w h i = h k i

pub own_gaps : OwnGaps
own_gaps c v w h = sym (holds_alike v w c (λ a b p q. cc (same a p, same b q)))
  where
    same : (a : Cell) → OneOf a (cells_of c) → fill_cell v a ≡ fill_cell w a
    same a = fill_agree a (cells_of c) v w (λ k i. h k (gap_named k (cells_of c) i))
