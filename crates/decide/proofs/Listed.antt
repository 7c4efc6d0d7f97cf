-- The list of sure rows: there is one at most, it is what is left of the candidates, and what is told of it.
use Rattle.std.proofs.Common.{◌≡◌, ℕ, ◌+◌, ◌*◌, ◌/◌, ◌^◌, ◌<◌, true, false, leb, ◌⊎◌, ◌↔◌, List, [], ◌∷◌, ◌++◌, length, get_or, take, drop, Some, None, sym, refl, ap, ◌∙◌, subst, inl, inr, arith}
use Rattle.std.specs.List.{All}
use Rattle.std.specs.List.Sorted.{IsStrictlySortedBy}
use Rattle.std.proofs.lemmas.Bool.{both_ways}
use Rattle.std.proofs.lemmas.List.{take_all, take_more, drop_more, take-append-drop}
use Rattle.std.proofs.lemmas.List.Elements.{All-from_get_or}
use Rattle.condition.specs.Cond.{Cond, numbers, numbers_in, has}
use Rattle.condition.specs.Refusals.{Told, first, unless}
use Rattle.condition.proofs.Lists.{has_at}
use Rattle.evaluate.specs.Filling.{Filling, holds}
use Rattle.list.specs.Lists.{Line, Row, all_filled, stands}
use Rattle.query.specs.Ask.{table, ask}
use Rattle.decide.specs.Choice.{Chosen}
use Rattle.decide.specs.Deciding.{deciding, cells_in_lines}
use Rattle.decide.specs.Standing.{nine_told}
use Rattle.decide.specs.SureRows.{InOrder, Candidates, first_nine, AlwaysThere, SureRows, Listable, RowsTold}
use Rattle.decide.specs.SureSteps.{KeptSure}
use Rattle.decide.proofs.Choice.{one_chosen}
use Rattle.decide.proofs.Named.{sure_by_name}
use Rattle.decide.proofs.Ordered.{same_rows, stands_none, push_cases, push_left, push_here, order_push, taken_before}

-- candidates and sure rows come in one list each
pub one_candidates : (out : List Line) (v w : Filling) → ((k : ℕ) → v k ≡ w k) → (cs ds : List Row) → Candidates out v cs → Candidates out w ds → cs ≡ ds
one_candidates out v w same cs ds a b =
    let e : v ≡ w = λ i k. same k i in
    let d : Candidates out v ds = subst (λ u. Candidates out u ds) (sym e) b in
    same_rows cs ds a.in_order d.in_order (λ r. ((λ h. (d.each r).1 ((a.each r).0 h)), λ h. (a.each r).1 ((d.each r).0 h)))

pub one_sure : (what : Cond) (out : List Line) (rs ss : List Row) → SureRows what out rs → SureRows what out ss → rs ≡ ss
one_sure what out rs ss a b = same_rows rs ss a.in_order b.in_order (λ r. ((λ h. (b.each r).1 ((a.each r).0 h)), λ h. (a.each r).1 ((b.each r).0 h)))

pub kept_none : (what : Cond) (out : List Line) (cs : List Row) → KeptSure what out cs 0 []
unfolding IsStrictlySortedBy
kept_none what out cs = record { in_order = tt; each = λ r. ((λ h. absurd (stands_none r h)), λ h. absurd (stands_none r h.0)) }

module _ (what : Cond) (out : List Line) (cs : List Row) (o : InOrder cs) (i : ℕ) (l : i < length cs) (rs : List Row) (k : KeptSure what out cs i rs) where
  more_cases : (r : Row) → stands r (take (i + 1) cs) ≡ true → (stands r (take i cs) ≡ true) ⊎ (r ≡ get_or cs i [])
  more_cases r h = push_cases r (get_or cs i []) (take i cs) (rw (take_more cs i [] l) at h)

  more_left : (r : Row) → stands r (take i cs) ≡ true → stands r (take (i + 1) cs) ≡ true
  more_left r h = rw (take_more cs i [] l) (push_left r (get_or cs i []) (take i cs) h)

  more_here : stands (get_or cs i []) (take (i + 1) cs) ≡ true
  more_here = rw (take_more cs i [] l) (push_here (get_or cs i []) (take i cs))

  pub kept_sure : AlwaysThere what out (get_or cs i []) → KeptSure what out cs (i + 1) (rs ++ get_or cs i [] ∷ [])
  kept_sure always = record {
    in_order = order_push rs (get_or cs i []) k.in_order (λ r h. taken_before cs i o l r ((k.each r).0 h).0);
    each = λ r. (
      (λ h. elim (push_cases r (get_or cs i []) rs h) [
        | inl j ↦ (more_left r ((k.each r).0 j).0, ((k.each r).0 j).1)
        | inr e ↦ (rw e more_here, rw e always)
      ]),
      λ h. elim (more_cases r h.0) [
        | inl j ↦ push_left r (get_or cs i []) rs ((k.each r).1 (j, h.1))
        | inr e ↦ rw e (push_here (get_or cs i []) rs)
      ],
    );
  }

  pub kept_other : (AlwaysThere what out (get_or cs i []) → ⊥) → KeptSure what out cs (i + 1) rs
  kept_other not_always = record {
    in_order = k.in_order;
    each = λ r. (
      (λ h. (more_left r ((k.each r).0 h).0, ((k.each r).0 h).1)),
      λ h. elim (more_cases r h.0) [
        | inl j ↦ (k.each r).1 (j, h.1)
        | inr e ↦ absurd (not_always (rw e at h.1))
      ],
    );
  }

-- once all candidates are gone through these are all the sure rows: a row that is always there is a candidate
module _ (what : Cond) (out : List Line) (v : Filling) (cs rs : List Row) (fits : holds v what ≡ true) (c : Candidates out v cs)
    (low : (n : ℕ) → has (numbers what ++ numbers_in (cells_in_lines out)) n ≡ true → n < 2 ^ 64) (k : KeptSure what out cs (length cs) rs) where
  always_low : (r : Row) → AlwaysThere what out r → All (λ n. n < 2 ^ 64) r
  unfolding ask all_filled
  always_low r a = All-from_get_or (λ n. n < 2 ^ 64) r 0 (λ i l.
      low (get_or r i 0) (sure_by_name what (out ∷ []) (table 0) out r (get_or r i 0) (λ _ _ _. refl) (v, fits) a (has_at r i l)))

  always_listed : (r : Row) → (stands r rs ≡ true) ↔ AlwaysThere what out r
  always_listed r = (
    (λ h. ((k.each r).0 h).1),
    λ a. (k.each r).1 (rw (take_all (length cs) cs (omega arith)) ((c.each r).1 (a v fits, always_low r a)), a),
  )

  pub sure_rows : SureRows what out rs
  sure_rows = record {
    in_order = k.in_order;
    each = always_listed;
    sure = λ ts q a r. (
      (λ h u f. sym (a u f r) ∙ (always_listed r).0 h u f),
      λ s. (always_listed r).1 (λ u f. a u f r ∙ s u f),
    );
  }

-- what is told of candidates one after the other
first_both : (a b : Told) → a ≡ None → b ≡ None → first a b ≡ None
first_both a b e f = rw (e, f) refl

first_later : (a b c : Told) (t : ℕ × ℕ) → a ≡ None → b ≡ Some t → first a (first b c) ≡ Some t
first_later a b c t e f = rw (e, f) refl

first_assoc : (a b c : Told) → first a (first b c) ≡ first (first a b) c
first_assoc None b c = refl
first_assoc (Some t) b c = refl

nine_app : (what : Cond) (out : List Line) (rs ss : List Row) → first_nine what out (rs ++ ss) ≡ first (first_nine what out rs) (first_nine what out ss)
unfolding first_nine
nine_app what out [] ss = refl
nine_app what out (r ∷ rs) ss =
    ap (first (nine_told what (deciding out r) r)) (nine_app what out rs ss)
    ∙ first_assoc (nine_told what (deciding out r) r) (first_nine what out rs) (first_nine what out ss)

module _ (what : Cond) (out : List Line) (cs : List Row) where
  pub nine_all : first_nine what out (take (length cs) cs) ≡ None → first_nine what out cs ≡ None
  nine_all e = rw (take_all (length cs) cs (omega arith)) at e

  module _ (i : ℕ) (l : i < length cs) (before : first_nine what out (take i cs) ≡ None) where
    pub nine_more : nine_told what (deciding out (get_or cs i [])) (get_or cs i []) ≡ None → first_nine what out (take (i + 1) cs) ≡ None
    unfolding first_nine
    nine_more e =
        ap (first_nine what out) (take_more cs i [] l)
        ∙ (nine_app what out (take i cs) (get_or cs i [] ∷ [])
        ∙ first_both (first_nine what out (take i cs)) (first_nine what out (get_or cs i [] ∷ [])) before
        (first_both (nine_told what (deciding out (get_or cs i [])) (get_or cs i [])) None e refl))

    -- the first that tells something decides
    pub nine_here : (t : ℕ × ℕ) → nine_told what (deciding out (get_or cs i [])) (get_or cs i []) ≡ Some t → first_nine what out cs ≡ Some t
    unfolding first_nine
    nine_here t e =
        ap (first_nine what out) (sym (take-append-drop i cs) ∙ ap (λ ds. take i cs ++ ds) (drop_more cs i [] l))
        ∙ (nine_app what out (take i cs) (get_or cs i [] ∷ drop (i + 1) cs)
        ∙ first_later (first_nine what out (take i cs)) (nine_told what (deciding out (get_or cs i [])) (get_or cs i [])) (first_nine what out (drop (i + 1) cs)) t before e)

-- what is told of the rows that are found is told of the list
pub rows_told : (what : Cond) (out : List Line) (w size : ℕ) (v : Filling) → Chosen what v → (cs : List Row) → Candidates out v cs → (t : Told) →
    ((rs : List Row) → SureRows what out rs → t ≡ first (first_nine what out cs) (unless (leb (length rs * w) size) 12 (size / w))) → Listable what out cs t → RowsTold what out w size t
rows_told what out w size v c cs a t told there = record {
  there = inr (v, c, (cs, a, there));
  none = λ n. absurd (both_ways (holds v what) (n v) c.fits);
  some = λ u d ds rs b s.
      told rs s
      ∙ ap (λ x. first (first_nine what out x) (unless (leb (length rs * w) size) 12 (size / w))) (one_candidates out v u (one_chosen what v u c d) cs ds a b);
}

pub none_told : (what : Cond) (out : List Line) (w size : ℕ) → ((v : Filling) → holds v what ≡ false) → RowsTold what out w size (Some (11, 0))
none_told what out w size n = record { there = inl n; none = λ _. refl; some = λ v c cs rs a s. absurd (both_ways (holds v what) (n v) c.fits) }
