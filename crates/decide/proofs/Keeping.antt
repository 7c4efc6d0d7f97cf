-- The candidates are gone through one after the other, and those that are sure kept.
use Rattle.std.proofs.Common.{◌≡◌, ℕ, zero, suc, ◌+◌, ◌*◌, ◌/◌, ◌^◌, ◌<◌, ◌≤◌, leb, true, false, ◌⊎◌, List, [], ◌∷◌, ◌++◌, length, get_or, map, take, vec_items, Vec, Some, None, Ok, Err, Result, sym, refl, ap, ◌∙◌, inl, inr, arith, length-append, append-nil, take_all}
use Rattle.std.specs.List.{All, concat}
use Rattle.std.proofs.lemmas.Bool.{both_ways}
use Rattle.std.proofs.lemmas.List.{get_or-map}
use Rattle.std.proofs.lemmas.List.Elements.{All-contains, Contains-get_or}
use Rattle.std.proofs.lemmas.List.Folds.{concat-append}
use Rattle.condition.specs.Cond.{Cond, numbers, numbers_in, has}
use Rattle.condition.specs.Refusals.{Told, told, first, unless, number}
use Rattle.condition.specs.declared.Refusal.{Refusal}
use Rattle.condition.specs.declared.Refusal.TheVariants.{BadLists, BadStore, NoSuchNode, BadQuestion, TooManyLines, TooCostly, StoreFull, AnswerTooShort, WrongWidth, TooManyGaps, TooManyNumbers, TooManyNumbersAt, WouldNotFit, NothingFits, RowsFull, NoMemory}
use Rattle.evaluate.specs.Filling.{Filling}
use Rattle.list.specs.Lists.{Line, Row, all_filled, stands}
use Rattle.query.specs.Ask.{table, ask}
use Rattle.decide.specs.Choice.{Chosen}
use Rattle.decide.specs.Deciding.{deciding, cells_in_lines}
use Rattle.decide.specs.Shapes.{what_of, out_of}
use Rattle.decide.specs.Sought.{known_of, lines_of, deciding_of}
use Rattle.decide.specs.Standing.{is_sure, nine_told, Decided}
use Rattle.decide.specs.SureRows.{InOrder, Candidates, first_nine, AlwaysThere}
use Rattle.decide.specs.SureSteps.{KeptSure, Joins, KeepTold, ListTold}
use Rattle.decide.specs.declared.Standing.{Standing}
use Rattle.decide.specs.declared.answered.Answered.{Answered}
use Rattle.decide.specs.declared.sought.Sought.{Sought}
use Rattle.decide.specs.declared.sures.Joined.{Joined}
use Rattle.decide.proofs.Listed.{kept_none, kept_sure, kept_other, one_sure, sure_rows, nine_more, nine_here, nine_all, rows_told}
use Rattle.decide.proofs.Sorted.{stands_contains, contains_stands}

-- only want of memory has its number
no_memory : (e : Refusal) → Some (told e) ≡ Some (told NoMemory) → e ≡ NoMemory
no_memory (BadLists n) h = absurd (omega (arith, ap number h))
no_memory (BadStore n) h = absurd (omega (arith, ap number h))
no_memory (NoSuchNode n) h = absurd (omega (arith, ap number h))
no_memory (BadQuestion n) h = absurd (omega (arith, ap number h))
no_memory TooManyLines h = absurd (omega (arith, ap number h))
no_memory TooCostly h = absurd (omega (arith, ap number h))
no_memory (StoreFull n) h = absurd (omega (arith, ap number h))
no_memory (AnswerTooShort n) h = absurd (omega (arith, ap number h))
no_memory (WrongWidth n) h = absurd (omega (arith, ap number h))
no_memory (TooManyGaps n) h = absurd (omega (arith, ap number h))
no_memory (TooManyNumbers n) h = absurd (omega (arith, ap number h))
no_memory (TooManyNumbersAt n) h = absurd (omega (arith, ap number h))
no_memory (WouldNotFit n) h = absurd (omega (arith, ap number h))
no_memory NothingFits h = absurd (omega (arith, ap number h))
no_memory (RowsFull n) h = absurd (omega (arith, ap number h))
no_memory NoMemory h = refl

-- the row at hand, among the rows as lists
pub row_here : {Z : Type 0} (rows : List (Vec ℕ Z)) (i : ℕ) (x : Vec ℕ Z) → i < length rows → x ≡ get_or rows i x → vec_items x ≡ get_or (map vec_items rows) i []
row_here rows i x l e = ap vec_items e ∙ sym (get_or-map vec_items rows i x [] l)

-- what is looked for is a row in the answer
module _ (a : Answered) (q : Sought) (row : Row) (nodes-are : (q.nodes.now ≡ a.nodes.now) × (q.known ≡ a.known)) (answer-is : (q.answer.now ≡ a.answer.now) × (q.lines ≡ a.lines))
    (row-is : q.row.now ≡ row) (wide : length row ≡ a.width) where
  pub known_same : known_of q ≡ what_of a
  known_same = rw (nodes-are.0, nodes-are.1) refl

  pub lines_same : lines_of q ≡ out_of a
  lines_same = cc (nodes-are.0, answer-is.0, answer-is.1, row-is, wide)

  pub nine_same : nine_told (known_of q) (deciding_of q) q.row.now ≡ nine_told (what_of a) (deciding (out_of a) row) row
  nine_same = rw (known_same, lines_same, row-is) refl

  pub decided_same : (s : Standing) → Decided (known_of q) (lines_of q) q.row.now s → Decided (what_of a) (out_of a) row s
  decided_same s d = rw (known_same, lines_same, row-is) at d

pub record KeptTo (what : Cond) (out : List Line) (cs : List Row) (i : ℕ) (j : Joined) : Type 0 where
  pub none : first_nine what out (take i cs) ≡ None
  pub rows : List Row
  pub kept : KeptSure what out cs i rows
  pub joins : Joins rows j
  pub few : length rows ≤ i

pub none_kept : (what : Cond) (out : List Line) (cs : List Row) (j : Joined) → j.numbers.items ≡ [] → j.count ≡ 0 → KeptTo what out cs 0 j
unfolding first_nine
none_kept what out cs j e f = record { none = refl; rows = []; kept = kept_none what out cs; joins = record { numbers = e; many = f }; few = omega arith }

-- a sure row is always there, and no other is
pub sure_there : (what : Cond) (out : List Line) (r : Row) (s : Standing) → Decided what out r s → is_sure s ≡ true → AlwaysThere what out r
unfolding ask all_filled
sure_there what out r s d h = (d.sure (out ∷ []) (table 0) (λ _ _ _. refl)).0 h

pub other_missing : (what : Cond) (out : List Line) (r : Row) (s : Standing) → Decided what out r s → is_sure s ≡ false → AlwaysThere what out r → ⊥
unfolding ask all_filled
other_missing what out r s d h a = both_ways (is_sure s) h ((d.sure (out ∷ []) (table 0) (λ _ _ _. refl)).1 a)

module _ (what : Cond) (out : List Line) (cs : List Row) (o : InOrder cs) (i : ℕ) (l : i < length cs) (j : Joined) (k : KeptTo what out cs i j) where
  pub one_kept : (r : Row) → r ≡ get_or cs i [] → nine_told what (deciding out r) r ≡ None → AlwaysThere what out r → (j₁ : Joined) → j₁.numbers.items ≡ j.numbers.items ++ r → j₁.count ≡ j.count + 1 →
      KeptTo what out cs (i + 1) j₁
  one_kept r e n a j₁ f g = record {
    none = nine_more what out cs i l k.none (rw e at n);
    rows = k.rows ++ get_or cs i [] ∷ [];
    kept = kept_sure what out cs o i l k.rows k.kept (rw e at a);
    joins = record {
      numbers = f ∙ (cc (k.joins.numbers, e) ∙ (ap (λ t. concat k.rows ++ t) (sym (append-nil (get_or cs i []))) ∙ sym (concat-append k.rows (get_or cs i [] ∷ []))));
      many = simp length-append (omega (arith, g, k.joins.many));
    };
    few = simp length-append (omega (arith, k.few));
  }

  pub one_left : (r : Row) → r ≡ get_or cs i [] → nine_told what (deciding out r) r ≡ None → (AlwaysThere what out r → ⊥) → KeptTo what out cs (i + 1) j
  one_left r e n a = record {
    none = nine_more what out cs i l k.none (rw e at n);
    rows = k.rows;
    kept = kept_other what out cs o i l k.rows k.kept (rw e at a);
    joins = k.joins;
    few = omega (arith, k.few);
  }

  pub one_told : (r : Row) → r ≡ get_or cs i [] → (e : Refusal) → Some (told e) ≡ first (nine_told what (deciding out r) r) (Some (told NoMemory)) → (e ≡ NoMemory) ⊎ (first_nine what out cs ≡ Some (told e))
  one_told r q e = go (nine_told what (deciding out r) r) refl
    where
      go : (t : Told) → nine_told what (deciding out r) r ≡ t → Some (told e) ≡ first t (Some (told NoMemory)) → (e ≡ NoMemory) ⊎ (first_nine what out cs ≡ Some (told e))
      go None n h = inl (no_memory e h)
      go (Some t) n h = inr (nine_here what out cs i l k.none t (rw q at n) ∙ sym h)

pub all_kept : (what : Cond) (out : List Line) (cs : List Row) (j : Joined) → KeptTo what out cs (length cs) j → KeepTold what out cs (Ok j)
all_kept what out cs j k = (nine_all what out cs k.none, (k.rows, k.kept, k.joins))

-- what is told of the candidates is told of the list
module _ (what : Cond) (out : List Line) (w : ℕ) (v : Filling) (cs : List Row) (n : nine_told what [] [] ≡ None) (ch : Chosen what v) (a : Candidates out v cs) (wide : All (λ r. length r ≡ w) cs)
    (low : (k : ℕ) → has (numbers what ++ numbers_in (cells_in_lines out)) k ≡ true → k < 2 ^ 64) where
  kept_wide : (rs : List Row) → KeptSure what out cs (length cs) rs → All (λ r. length r ≡ w) rs
  kept_wide rs k i d l =
      let r = get_or rs i d in
      let s : stands r (take (length cs) cs) ≡ true = ((k.each r).0 (contains_stands r rs (Contains-get_or rs i d l))).0 in
      All-contains (λ r. length r ≡ w) cs r wide (stands_contains r cs (rw (take_all (length cs) cs (omega arith)) at s))

  pub listed : (r : Result Joined Refusal) → KeepTold what out cs r → ListTold what out w r
  listed (Ok j) k =
      let rs = k.1.0 in let s = sure_rows what out v cs rs ch.fits a low k.1.1 in (
        n,
        (
          rs,
          s,
          kept_wide rs k.1.1,
          k.1.2,
          λ size. rows_told what out w size v ch cs a (unless (leb (length rs * w) size) 12 (size / w))
              (λ ss t. rw (k.0, one_sure what out ss rs t s) refl) (inr (rs, s)),
        ),
      )
  listed (Err e) (inl m) = inr (n, inl m)
  listed (Err e) (inr t) = inr (n, inr (λ size. rows_told what out w size v ch cs a (Some (told e)) (λ ss s. rw t refl) (inl (told e, t, refl))))

-- rows of one width one after the other
pub concat_long : (rs : List Row) (w : ℕ) → All (λ r. length r ≡ w) rs → length (concat rs) ≡ length rs * w
concat_long [] w h = omega arith
concat_long (r ∷ rs) w h =
    let ih : length (concat rs) ≡ length rs * w = concat_long rs w (λ i d l. h (suc i) d (omega arith)) in
    let e : length r ≡ w = h 0 r (omega arith) in
    simp length-append (omega (arith, e, ih))

-- where they take any room they have a width
pub some_width : (n w : ℕ) → 0 < n * w → 0 < w
some_width n zero h = absurd (omega arith)
some_width n (suc w) h = omega arith

-- what is told behind what was checked already, for a slice of one size
pub told_behind : (a n : Told) (e : Refusal) (P : ℕ → Type 0) (size : ℕ) → a ≡ None → (n ≡ Some (told e)) ⊎ ((n ≡ None) × ((e ≡ NoMemory) ⊎ ((k : ℕ) → P k))) →
    (first a n ≡ Some (told e)) ⊎ ((first a n ≡ None) × ((e ≡ NoMemory) ⊎ P size))
told_behind a n e P size i (inl h) = inl (rw i h)
told_behind a n e P size i (inr (h, inl m)) = inr (rw i h, inl m)
told_behind a n e P size i (inr (h, inr f)) = inr (rw i h, inr (f size))
