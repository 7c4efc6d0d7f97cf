-- A gap that is written over by the number that the filling gives it changes nothing.
use Rattle.std.proofs.Common.{◌≡◌, ℕ, Bool, true, false, cond as if, eqb, List, [], ◌∷◌, sym, refl, ap, ◌∙◌}
use Rattle.std.proofs.lemmas.Bool.{eqb-true, eq-eqb, and_parts}
use Rattle.std.specs.Cmp.Derive.{both_true}
use Rattle.condition.specs.Cond.{Cell, known, gap, Cond, both}
use Rattle.evaluate.specs.Filling.{Filling, fill_cell, holds}
use Rattle.evaluate.proofs.Holding.{holds_equal, holds_both, holds_each}
use Rattle.list.specs.Lists.{Line, fill_cells, filled, all_filled, stands}
use Rattle.query.specs.Ask.{Query, ask}
use Rattle.answer.specs.Answer.{answer}
use Rattle.answer.proofs.Right.{answer_filled}
use Rattle.answer.proofs.Known.{more_known}
use Rattle.learn.specs.Over.{write_cell, write_cells, write_cond, write_ifs, write_columns, write_lines, write_lists, WrittenOver, is_number, over, OverHolds, OverAnswers, OverLearned, OverNarrowed}

module _ (v : Filling) (k n : ℕ) (is : v k ≡ n) where
  fill_write : (c : Cell) → fill_cell v (write_cell k n c) ≡ fill_cell v c
  fill_write (known m) = refl
  fill_write (gap j) = go (eqb j k) refl
    where
      go : (b : Bool) → eqb j k ≡ b → fill_cell v (if b (known n) (gap j)) ≡ v j
      go true e = sym is ∙ ap v (sym (eqb-true j k e))
      go false e = refl

  holds_write : (c : Cond) → holds v (write_cond k n c) ≡ holds v c
  holds_write c = holds_each v (write_cell k n) fill_write c

  fill_writes : (cs : List Cell) → fill_cells v (write_cells k n cs) ≡ fill_cells v cs
  unfolding fill_cells write_cells
  fill_writes [] = refl
  fill_writes (c ∷ cs) = cc (fill_write c, fill_writes cs)

  filled_ifs : (ls : List Line) → filled v (write_ifs k n ls) ≡ filled v ls
  unfolding filled write_ifs
  filled_ifs [] = refl
  filled_ifs (l ∷ ls) = cc (holds_write l.if_so, filled_ifs ls)

  filled_columns : (ls : List Line) → filled v (write_columns k n ls) ≡ filled v ls
  unfolding filled write_columns
  filled_columns [] = refl
  filled_columns (l ∷ ls) = cc (fill_writes l.cells, filled_columns ls)

  filled_write : (ls : List Line) → filled v (write_lines k n ls) ≡ filled v ls
  filled_write ls = filled_columns (write_ifs k n ls) ∙ filled_ifs ls

  all_write : (ts : List (List Line)) → all_filled v (write_lists k n ts) ≡ all_filled v ts
  unfolding all_filled write_lists
  all_write [] = refl
  all_write (t ∷ ts) = cc (filled_write t, all_write ts)

pub written_over : WrittenOver
written_over ts q k n v e r =
    ap (stands r)
    (answer_filled v q (write_lists k n ts) ∙ (ap (ask q) (all_write v k n e ts) ∙ (sym (answer_filled v q ts) ∙ sym (filled_write v k n e (answer q ts)))))

-- what is known after holds where what was known holds and the gap is the number
holds_number : (v : Filling) (k n : ℕ) → holds v (is_number k n) ≡ eqb (v k) n
holds_number v k n = holds_equal v (gap k) (known n)

over_parts : (what : Cond) (k n : ℕ) (v : Filling) → holds v (over what k n) ≡ true → (holds v what ≡ true) × (v k ≡ n)
over_parts what k n v h =
    let p = and_parts (holds v (write_cond k n what)) (holds v (is_number k n)) (sym (holds_both v (write_cond k n what) (is_number k n)) ∙ h) in
    let e : v k ≡ n = eqb-true (v k) n (sym (holds_number v k n) ∙ p.1) in
    (sym (holds_write v k n e what) ∙ p.0, e)

pub learned_parts : (what : Cond) (k n : ℕ) (v : Filling) → holds v (both what (is_number k n)) ≡ true → (holds v what ≡ true) × (v k ≡ n)
learned_parts what k n v h =
    let p = and_parts (holds v what) (holds v (is_number k n)) (sym (holds_both v what (is_number k n)) ∙ h) in
    (p.0, eqb-true (v k) n (sym (holds_number v k n) ∙ p.1))

is_so : (v : Filling) (k n : ℕ) → v k ≡ n → holds v (is_number k n) ≡ true
is_so v k n e = holds_number v k n ∙ eq-eqb (v k) n e

over_both : (what : Cond) (k n : ℕ) (v : Filling) → holds v what ≡ true → v k ≡ n → holds v (over what k n) ≡ true
over_both what k n v h e =
    holds_both v (write_cond k n what) (is_number k n) ∙ both_true (holds_write v k n e what ∙ h) (is_so v k n e)

pub learned_both : (what : Cond) (k n : ℕ) (v : Filling) → holds v what ≡ true → v k ≡ n → holds v (both what (is_number k n)) ≡ true
learned_both what k n v h e = holds_both v what (is_number k n) ∙ both_true h (is_so v k n e)

pub over_holds : OverHolds
over_holds what k n v = (over_parts what k n v, λ p. over_both what k n v p.0 p.1)

-- the question asked of the lists written over
asked_over : (v : Filling) (k n : ℕ) → v k ≡ n → (ts : List (List Line)) (q : Query) → ask q (all_filled v (write_lists k n ts)) ≡ ask q (all_filled v ts)
asked_over v k n e ts q = ap (ask q) (all_write v k n e ts)

pub over_answers : OverAnswers
over_answers what k n ts q out a = (
  λ v h r. let p = over_parts what k n v h in
      ap (stands r) (filled_write v k n p.1 out) ∙ (a v p.0 r ∙ ap (stands r) (sym (asked_over v k n p.1 ts q))),
  λ v h r. let p = over_parts what k n v h in
      ap (stands r) (filled_ifs v k n p.1 out) ∙ (a v p.0 r ∙ ap (stands r) (sym (asked_over v k n p.1 ts q))),
  λ v h r. a v (over_parts what k n v h).0 r,
)

pub over_learned : OverLearned
over_learned what k n ts q r = (
  (
    λ s v h. let p = learned_parts what k n v h in ap (stands r) (sym (asked_over v k n p.1 ts q)) ∙ s v (over_both what k n v p.0 p.1),
    λ s v h. let p = over_parts what k n v h in ap (stands r) (asked_over v k n p.1 ts q) ∙ s v (learned_both what k n v p.0 p.1),
  ),
  (
    λ s. let p = over_parts what k n s.0 s.1 in (s.0, learned_both what k n s.0 p.0 p.1, ap (stands r) (sym (asked_over s.0 k n p.1 ts q)) ∙ s.2),
    λ s. let p = learned_parts what k n s.0 s.1 in (s.0, over_both what k n s.0 p.0 p.1, ap (stands r) (asked_over s.0 k n p.1 ts q) ∙ s.2),
  ),
)

pub over_narrowed : OverNarrowed
over_narrowed what k n ts q r =
    let l = over_learned what k n ts q r in let m = more_known what (is_number k n) ts q r in
    (λ s. l.0.1 (m.0 s), λ p. m.1 (l.1.0 p))
