-- How a row stands, from whether some filling shows it and some lacks it.
use Rattle.std.proofs.Common.{◌≡◌, ℕ, ◌+◌, ◌^◌, ◌<◌, ◌≤◌, Bool, true, false, not, ◌||◌, ◌↔◌, List, length, sym, refl, ◌∙◌, ⊎_elim}
use Rattle.std.proofs.lemmas.Bool.{both_ways, cases_Bool, and_parts, and_from, not-true, not_from_false, or_cases, or_left, or_right}
use Rattle.condition.specs.Cond.{Cond, both, not_so, cells_of, numbers, gaps, has, Within}
use Rattle.evaluate.specs.Filling.{Filling, holds, Below}
use Rattle.evaluate.proofs.Bounded.{within_64_bits}
use Rattle.evaluate.proofs.Holding.{holds_both, holds_not}
use Rattle.list.specs.Lists.{Line, Row, all_filled, stands}
use Rattle.query.specs.Ask.{ask}
use Rattle.decide.specs.Deciding.{shows, deciding}
use Rattle.decide.specs.Standing.{standing, is_sure, is_possible, something_fits, Decided}
use Rattle.decide.proofs.Shown.{never_lacks, no_sure, both_fits, fits_both, deciding_enough}

sure_is : (b d : Bool) → is_sure (standing b d) ≡ not d
sure_is true true = refl
sure_is true false = refl
sure_is false true = refl
sure_is false false = refl

possible_is : (b d : Bool) → is_possible (standing b d) ≡ b
possible_is true true = refl
possible_is true false = refl
possible_is false true = refl
possible_is false false = refl

fits_is : (b d : Bool) → something_fits (standing b d) ≡ (b || d)
fits_is true true = refl
fits_is true false = refl
fits_is false true = refl
fits_is false false = refl

-- some filling meets a condition exactly if a test says so
abbrev pub Tells : Bool → Cond → Type 0
Tells b c = (b ≡ true) ↔ ((v : Filling) × (holds v c ≡ true))

module _ (what : Cond) (out : List Line) (r : Row) (b d : Bool)
    (yes-so : Tells b (both what (shows (deciding out r) r))) (no-so : Tells d (both what (not_so (shows (deciding out r) r)))) where
  -- the deciding lines and all lines come to the same
  same_shows : (v : Filling) → holds v (both what (shows (deciding out r) r)) ≡ holds v (both what (shows out r))
  same_shows v = rw (holds_both v what (shows (deciding out r) r), holds_both v what (shows out r), deciding_enough v out r) refl

  same_lacks : (v : Filling) → holds v (both what (not_so (shows (deciding out r) r))) ≡ holds v (both what (not_so (shows out r)))
  same_lacks v =
      rw (holds_both v what (not_so (shows (deciding out r) r)), holds_both v what (not_so (shows out r)), holds_not v (shows (deciding out r) r), holds_not v (shows out r), deciding_enough v out r) refl

  -- no filling lacks the row exactly if the test for it fails
  none_lacks : d ≡ false → (v : Filling) → holds v (both what (not_so (shows out r))) ≡ false
  none_lacks e v = ⊎_elim (λ t. absurd (both_ways d e (no-so.1 (v, same_lacks v ∙ t)))) (λ t. t) (cases_Bool (holds v (both what (not_so (shows out r)))))

  lacks_none : ((v : Filling) → holds v (both what (not_so (shows out r))) ≡ false) → d ≡ false
  lacks_none f = ⊎_elim (λ t. let w : (v : Filling) × (holds v (both what (not_so (shows (deciding out r) r))) ≡ true) = no-so.0 t in absurd (both_ways _ (f w.0) (sym (same_lacks w.0) ∙ w.1))) (λ t. t) (cases_Bool d)

  fitting : (b || d) ≡ true → (v : Filling) × (holds v what ≡ true)
  fitting t = ⊎_elim
      (λ u. let w : (v : Filling) × (holds v (both what (shows (deciding out r) r)) ≡ true) = yes-so.0 u in (w.0, (and_parts _ _ (sym (holds_both w.0 what _) ∙ w.1)).0))
      (λ u. let w : (v : Filling) × (holds v (both what (not_so (shows (deciding out r) r))) ≡ true) = no-so.0 u in (w.0, (and_parts _ _ (sym (holds_both w.0 what _) ∙ w.1)).0))
      (or_cases b d t)

  fitted_so : (v : Filling) × (holds v what ≡ true) → (b || d) ≡ true
  fitted_so p = ⊎_elim
      (λ t. or_left b d (yes-so.1 (p.0, holds_both p.0 what _ ∙ and_from _ _ p.1 t)))
      (λ t. or_right b d (no-so.1 (p.0, holds_both p.0 what _ ∙ and_from _ _ p.1 (holds_not p.0 _ ∙ not_from_false _ t))))
      (cases_Bool (holds p.0 (shows (deciding out r) r)))

  module _ (ns gs : List ℕ) (named : Within (numbers (both what (shows (deciding out r) r))) ns) (held : Within (gaps (both what (shows (deciding out r) r))) gs)
      (low : (n : ℕ) → has ns n ≡ true → n < 2 ^ 64) (room : length ns + length gs ≤ 2 ^ 64) where
    pub decided : Decided what out r (standing b d)
    unfolding cells_of
    decided = record {
      sure = λ ts q a. (
        λ t. no_sure what ts q out r a (none_lacks (not-true d (sym (sure_is b d) ∙ t))),
        λ s. sure_is b d ∙ not_from_false d (lacks_none (λ v. never_lacks what ts q out r a v (s v))),
      );
      possible = λ ts q a. (
        λ t.
            let w : (v : Filling) × (holds v (both what (shows (deciding out r) r)) ≡ true) = yes-so.0 (sym (possible_is b d) ∙ t) in
            let h : (holds w.0 what ≡ true) × (stands r (ask q (all_filled w.0 ts)) ≡ true) = fits_both what ts q out r a w.0 (sym (same_shows w.0) ∙ w.1) in (w.0, h.0, h.1),
        λ p. possible_is b d ∙ yes-so.1 (p.0, same_shows p.0 ∙ both_fits what ts q out r a p.0 p.1 p.2),
      );
      fits = (λ t. fitting (sym (fits_is b d) ∙ t), λ p. fits_is b d ∙ fitted_so p);
      sure_below = λ ts q a. (
        λ t v l h. no_sure what ts q out r a (none_lacks (not-true d (sym (sure_is b d) ∙ t))) v h,
        λ s. sure_is b d ∙ not_from_false d (lacks_none (λ v.
            let w : (w : Filling) × Below (2 ^ 64) w × (holds w (both what (not_so (shows (deciding out r) r))) ≡ holds v (both what (not_so (shows (deciding out r) r)))) =
            within_64_bits (both what (not_so (shows (deciding out r) r))) v ns gs named held low room in
            sym (same_lacks v) ∙ (sym w.2 ∙ (same_lacks w.0 ∙ never_lacks what ts q out r a w.0 (s w.0 w.1))))),
      );
      possible_below = λ ts q a. (
        λ t.
            let u : (v : Filling) × (holds v (both what (shows (deciding out r) r)) ≡ true) = yes-so.0 (sym (possible_is b d) ∙ t) in
            let w : (w : Filling) × Below (2 ^ 64) w × (holds w (both what (shows (deciding out r) r)) ≡ holds u.0 (both what (shows (deciding out r) r))) =
            within_64_bits (both what (shows (deciding out r) r)) u.0 ns gs named held low room in
            let h : (holds w.0 what ≡ true) × (stands r (ask q (all_filled w.0 ts)) ≡ true) = fits_both what ts q out r a w.0 (sym (same_shows w.0) ∙ (w.2 ∙ u.1)) in
            (w.0, w.1, h.0, h.1),
        λ p. possible_is b d ∙ yes-so.1 (p.0, same_shows p.0 ∙ both_fits what ts q out r a p.0 p.2 p.3),
      );
    }
