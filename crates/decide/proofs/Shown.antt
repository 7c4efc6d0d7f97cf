-- The one condition for a row: it holds exactly where the row stands.
use Rattle.std.proofs.Common.{◌≡◌, ◌^◌, Bool, true, false, cond as if, not, ◌&&◌, ◌||◌, eqb, List, [], ◌∷◌, sym, refl, ◌∙◌, ⊎_elim, arith}
use Rattle.std.proofs.lemmas.Bool.{and_parts, and_from, and_left, and_right, and_cases}
use Rattle.condition.specs.Cond.{Cell, known, gap, Cond, both, not_so, cells_of}
use Rattle.condition.proofs.Lists.{eqb_sym}
use Rattle.evaluate.specs.Filling.{Filling, fill_cell, holds, Below}
use Rattle.evaluate.proofs.Bounded.{within_64_bits}
use Rattle.list.specs.Lists.{Line, Row, fill_cells, filled, all_filled, same_row, stands}
use Rattle.query.specs.Ask.{Query, ask}
use Rattle.answer.specs.Promise.{Answers, Sure}
use Rattle.decide.specs.Deciding.{gives, shows, agrees, deciding, ByCondition, DecidingEnough, DecidedWithin64Bits}

holds_gives : (v : Filling) (cs : List Cell) (r : Row) → holds v (gives cs r) ≡ same_row r (fill_cells v cs)
unfolding holds gives same_row fill_cells
holds_gives v [] [] = refl
holds_gives v [] (n ∷ ns) = refl
holds_gives v (c ∷ cs) [] = refl
holds_gives v (c ∷ cs) (n ∷ ns) = cc (eqb_sym (fill_cell v c) n, holds_gives v cs ns)

pub holds_shows : (v : Filling) (out : List Line) (r : Row) → holds v (shows out r) ≡ stands r (filled v out)
unfolding holds shows stands filled
holds_shows v [] r = refl
holds_shows v (l ∷ ls) r = let ih = holds_shows v ls r in let e = holds_gives v l.cells r in grind arith

-- where the answer's condition for a row stands for the question
module _ (what : Cond) (ts : List (List Line)) (q : Query) (out : List Line) (r : Row) (a : Answers what ts q out) where
  pub asked_as : (v : Filling) → holds v what ≡ true → stands r (ask q (all_filled v ts)) ≡ holds v (shows out r)
  asked_as v h = sym (a v h r) ∙ sym (holds_shows v out r)

  -- not both: it fits and lacks the row
  pub never_lacks : (v : Filling) → (holds v what ≡ true → stands r (ask q (all_filled v ts)) ≡ true) → holds v (both what (not_so (shows out r))) ≡ false
  unfolding holds
  never_lacks v s = unmet (holds v what) (holds v (shows out r)) (λ h. sym (asked_as v h) ∙ s h)
    where
      unmet : (b d : Bool) → (b ≡ true → d ≡ true) → (b && not d) ≡ false
      unmet true true f = refl
      unmet true false f = sym (f refl)
      unmet false d f = refl

  pub no_sure : ((v : Filling) → holds v (both what (not_so (shows out r))) ≡ false) → Sure what ts q r
  unfolding holds
  no_sure f v h = asked_as v h ∙ met (holds v what) (holds v (shows out r)) (f v) h
    where
      met : (b d : Bool) → (b && not d) ≡ false → b ≡ true → d ≡ true
      met true true e h = refl
      met true false e h = sym e
      met false true e h = refl
      met false false e h = h

  pub both_fits : (v : Filling) → holds v what ≡ true → stands r (ask q (all_filled v ts)) ≡ true → holds v (both what (shows out r)) ≡ true
  unfolding holds
  both_fits v h e = and_from (holds v what) (holds v (shows out r)) h (sym (asked_as v h) ∙ e)

  pub fits_both : (v : Filling) → holds v (both what (shows out r)) ≡ true → (holds v what ≡ true) × (stands r (ask q (all_filled v ts)) ≡ true)
  unfolding holds
  fits_both v e =
      let h : (holds v what ≡ true) × (holds v (shows out r) ≡ true) = and_parts (holds v what) (holds v (shows out r)) e in
      (h.0, asked_as v h.0 ∙ h.1)

pub by_condition : ByCondition
by_condition what ts q out r a = (
  (λ s v. never_lacks what ts q out r a v (s v), no_sure what ts q out r a),
  (
    λ p. (p.0, both_fits what ts q out r a p.0 p.1 p.2),
    λ p. let h : (holds p.0 what ≡ true) × (stands r (ask q (all_filled p.0 ts)) ≡ true) = fits_both what ts q out r a p.0 p.1 in (p.0, h.0, h.1),
  ),
)

disagree : (v : Filling) (cs : List Cell) (r : Row) → agrees cs r ≡ false → holds v (gives cs r) ≡ false
unfolding agrees gives holds
disagree v [] [] e = e
disagree v [] (n ∷ r) e = refl
disagree v (c ∷ cs) [] e = refl
disagree v (known m ∷ cs) (n ∷ r) e = ⊎_elim (and_left (eqb m n) (holds v (gives cs r))) (λ u. and_right (eqb m n) (holds v (gives cs r)) (disagree v cs r u)) (and_cases (eqb m n) (agrees cs r) e)
disagree v (gap k ∷ cs) (n ∷ r) e = and_right (eqb (v k) n) (holds v (gives cs r)) (disagree v cs r e)

pub deciding_enough : DecidingEnough
unfolding deciding shows holds
deciding_enough v [] r = refl
deciding_enough v (l ∷ ls) r = go (deciding_enough v ls r) (agrees l.cells r) refl
  where
    go : holds v (shows (deciding ls r) r) ≡ holds v (shows ls r) → (b : Bool) → agrees l.cells r ≡ b →
        holds v (shows (if b (l ∷ deciding ls r) (deciding ls r)) r) ≡ (holds v l.if_so && holds v (gives l.cells r) || holds v (shows ls r))
    go ih true e = rw ih
    go ih false e = rw (disagree v l.cells r e, and_right (holds v l.if_so) false refl) ih

pub decided_within_64_bits : DecidedWithin64Bits
unfolding cells_of
decided_within_64_bits what ts q out r ns gs a named held low room = (
  (
    λ s v b h. s v h,
    λ s. no_sure what ts q out r a (λ v.
        let w : (w : Filling) × Below (2 ^ 64) w × (holds w (both what (not_so (shows out r))) ≡ holds v (both what (not_so (shows out r)))) =
        within_64_bits (both what (not_so (shows out r))) v ns gs named held low room in
        sym w.2 ∙ never_lacks what ts q out r a w.0 (s w.0 w.1)),
  ),
  (
    λ p.
        let w : (w : Filling) × Below (2 ^ 64) w × (holds w (both what (shows out r)) ≡ holds p.0 (both what (shows out r))) =
        within_64_bits (both what (shows out r)) p.0 ns gs named held low room in
        let h : (holds w.0 what ≡ true) × (stands r (ask q (all_filled w.0 ts)) ≡ true) =
        fits_both what ts q out r a w.0 (w.2 ∙ both_fits what ts q out r a p.0 p.1 p.2) in
        (w.0, w.1, h.0, h.1),
    λ p. (p.0, p.2, p.3),
  ),
)
