-- Laws of `Noted`: one more cell is noted, and cells in another order.
use Rattle.std.proofs.Common.{◌≡◌, ℕ, ◌^◌, ◌<◌, ◌≤◌, Bool, true, false, ◌||◌, eqb, ◌≢◌, ◌⊎◌, List, [], ◌∷◌, ◌++◌, length, get_or, set, replicate, sym, refl, ap, ◌∙◌, inl, inr, ⊎_elim, append_assoc, arith, length-set}
use lib.ListN.{length-replicate}
use Rattle.arrayvec.specs.ArrayVec.{ArrayVec}
use Rattle.std.specs.List.{list_any, IsDistinct}
use Rattle.std.proofs.lemmas.List.{get_or-replicate, get_or_past, get_or-set_same, get_or-set_other}
use Rattle.std.proofs.lemmas.Bool.{cases_lt, cases_eq, eqb-true, ne_eqb, or_cases}
use Rattle.std.specs.Cmp.{nat_eq_equiv}
use Rattle.std.proofs.lemmas.Map.Keys.{IsDistinct-push}
use Rattle.condition.specs.Cond.{Cell, known, gap, cells_of, numbers_in, gaps_in, has, Within}
use Rattle.condition.specs.Shapes.{cell_of, Named}
use Rattle.condition.specs.declared.Cell as code
use Rattle.condition.specs.declared.Node.{Node}
use Rattle.condition.specs.declared.Node.TheVariants.{Always, Never, Equal, Not, Both, Either}
use Rattle.condition.proofs.Lists.{eqb_sym, has_none, has_cons, has_head, has_tail, has_app, has_left, has_right}
use Rattle.condition.proofs.Named.{numbers_app, gaps_app}
use Rattle.decide.specs.Reaching.{own_cells}
use Rattle.decide.specs.Noting.{Noted, NotesMore}
use Rattle.decide.specs.declared.noting.Notes.{Notes}

-- a slice's `contains` says whether it has a number
pub any_has : (ns : List ℕ) (n : ℕ) → list_any (λ y. eqb y n) ns ≡ has ns n
unfolding has
any_has [] n = refl
any_has (m ∷ ns) n = ap (λ t. eqb m n || t) (any_has ns n)

has_any : (ns : List ℕ) (n : ℕ) → list_any (eqb n) ns ≡ has ns n
unfolding has
has_any [] n = refl
has_any (m ∷ ns) n = rw (eqb_sym n m, has_any ns n) refl

pub noted_none : (v : ArrayVec ℕ) → v.items ≡ [] → Noted [] (record { gaps = replicate 64 false; numbers = v })
unfolding has gaps_in numbers_in Within IsDistinct
noted_none v e = record {
  long = length-replicate 64 false;
  gaps = λ k. elim (cases_lt k 64) [
    | inl l ↦ get_or-replicate 64 k false false l
    | inr l ↦ let h : length (replicate 64 false) ≤ k = rw (length-replicate 64 false) l in get_or_past (replicate 64 false) k false h
  ];
  apart = rw e tt;
  only = λ n h. rw e at h;
  low = λ n h. absurd (has_none n (rw e at h));
  all = λ l n h. absurd (has_none n h);
}

-- one more gap
pub noted_gap : (s : Notes) (cs : List Cell) (k : ℕ) → k < 64 → Noted cs s → Noted (gap k ∷ cs) (record { gaps = set s.gaps k true; numbers = s.numbers })
unfolding gaps_in numbers_in
noted_gap s cs k l h = record {
  long = simp length-set h.long;
  gaps = λ j. elim (cases_eq j k) [
    | inl e ↦ rw e (here ∙ sym (has_head k (gaps_in cs)))
    | inr ne ↦ let n : j ≢ k = ne in get_or-set_other s.gaps k j true false n ∙ (h.gaps j ∙ sym (has_cons k (gaps_in cs) j ∙ ap (λ b. b || has (gaps_in cs) j) (ne_eqb k j (λ e. ne (sym e)))))
  ];
  apart = h.apart;
  only = h.only;
  low = h.low;
  all = h.all;
}
  where
    here : get_or (set s.gaps k true) k false ≡ true
    here = let p : k < length s.gaps = rw h.long l in get_or-set_same s.gaps k true false p

pushed : (ns : List ℕ) (n k : ℕ) → has (ns ++ n ∷ []) k ≡ true → (has ns k ≡ true) ⊎ (n ≡ k)
pushed ns n k h =
    ⊎_elim (λ x. inl x) (λ x. ⊎_elim (λ y. inr (eqb-true n k y)) (λ y. absurd (has_none k y)) (or_cases (eqb n k) (has [] k) (sym (has_cons n [] k) ∙ x)))
    (or_cases (has ns k) (has (n ∷ []) k) (sym (has_app ns (n ∷ []) k) ∙ h))

-- one more number
pub noted_number : (s : Notes) (v : ArrayVec ℕ) (cs : List Cell) (n : ℕ) → n < 2 ^ 64 → has s.numbers.items n ≡ false → v.items ≡ s.numbers.items ++ n ∷ [] →
    length s.numbers.items < 9 → Noted cs s → Noted (known n ∷ cs) (record { gaps = s.gaps; numbers = v })
unfolding gaps_in numbers_in Within
noted_number s v cs n small new e l h = record {
  long = h.long;
  gaps = h.gaps;
  apart = rw e (IsDistinct-push nat_eq_equiv s.numbers.items n h.apart (has_any s.numbers.items n ∙ new));
  only = λ k o. ⊎_elim
      (λ x. has_tail n (numbers_in cs) k (h.only k x))
      (λ x. rw x (has_head k (numbers_in cs)))
      (pushed s.numbers.items n k (rw e at o));
  low = λ k o. ⊎_elim (h.low k) (λ x. omega arith) (pushed s.numbers.items n k (rw e at o));
  all = λ p k o. rw e (⊎_elim
      (λ x. has_right s.numbers.items (n ∷ []) k (rw (eqb-true n k x) (has_head k [])))
      (λ x. has_left s.numbers.items (n ∷ []) k (h.all l k x))
      (or_cases (eqb n k) (has (numbers_in cs) k) (sym (has_cons n (numbers_in cs) k) ∙ o)));
}

-- a number that stands already, or finds no place
pub noted_again : (s : Notes) (cs : List Cell) (n : ℕ) → (length s.numbers.items < 9 → has s.numbers.items n ≡ true) → Noted cs s → Noted (known n ∷ cs) s
unfolding gaps_in numbers_in Within
noted_again s cs n old h = record {
  long = h.long;
  gaps = h.gaps;
  apart = h.apart;
  only = λ k o. has_tail n (numbers_in cs) k (h.only k o);
  low = h.low;
  all = λ p k o. ⊎_elim
      (λ e. ap (has s.numbers.items) (sym (eqb-true n k e)) ∙ old p)
      (h.all p k)
      (or_cases (eqb n k) (has (numbers_in cs) k) (sym (has_cons n (numbers_in cs) k) ∙ o));
}

-- other cells that name the same
pub noted_like : (cs ds : List Cell) (s : Notes) → ((k : ℕ) → has (gaps_in cs) k ≡ has (gaps_in ds) k) → ((n : ℕ) → has (numbers_in cs) n ≡ has (numbers_in ds) n) →
    Noted cs s → Noted ds s
unfolding Within
noted_like cs ds s g n h = record {
  long = h.long;
  gaps = λ k. h.gaps k ∙ g k;
  apart = h.apart;
  only = λ k o. sym (n k) ∙ h.only k o;
  low = h.low;
  all = λ p k o. h.all p k (n k ∙ o);
}

-- lists joined in another order have the same
pub has_turned : (xs ys zs : List ℕ) (k : ℕ) → has (ys ++ (xs ++ zs)) k ≡ has ((xs ++ ys) ++ zs) k
has_turned xs ys zs k = rw (has_app ys (xs ++ zs) k, has_app xs zs k, has_app (xs ++ ys) zs k, has_app xs ys k) (turn (has xs k) (has ys k) (has zs k))
  where
    turn : (a b c : Bool) → (b || (a || c)) ≡ ((a || b) || c)
    turn true true c = refl
    turn true false c = refl
    turn false true c = refl
    turn false false c = refl

-- some cells after others
module _ (cs ds es : List Cell) where
  turned_gaps : (k : ℕ) → has (gaps_in (ds ++ (cs ++ es))) k ≡ has (gaps_in ((cs ++ ds) ++ es)) k
  turned_gaps k = rw (gaps_app ds (cs ++ es), gaps_app cs es, gaps_app (cs ++ ds) es, gaps_app cs ds) (has_turned (gaps_in cs) (gaps_in ds) (gaps_in es) k)

  turned_numbers : (k : ℕ) → has (numbers_in (ds ++ (cs ++ es))) k ≡ has (numbers_in ((cs ++ ds) ++ es)) k
  turned_numbers k = rw (numbers_app ds (cs ++ es), numbers_app cs es, numbers_app (cs ++ ds) es, numbers_app cs ds) (has_turned (numbers_in cs) (numbers_in ds) (numbers_in es) k)

-- some cells before others that were noted first
pub notes_before : (cs ds : List Cell) (s t u : Notes) → NotesMore ds s t → NotesMore cs t u → NotesMore (cs ++ ds) s u
notes_before cs ds s t u f g es h = rw (append_assoc cs ds es) (g (ds ++ es) (f es h))

pub notes_then : (cs ds : List Cell) (s t u : Notes) → NotesMore cs s t → NotesMore ds t u → NotesMore (cs ++ ds) s u
notes_then cs ds s t u f g es h = noted_like (ds ++ (cs ++ es)) ((cs ++ ds) ++ es) u (turned_gaps cs ds es) (turned_numbers cs ds es) (g (cs ++ es) (f es h))

-- the cells that a node compares itself
pub own_equal : (a b : code.Cell) → Named (Equal a b) → own_cells (Equal a b) ≡ (cell_of a ∷ (cell_of b ∷ []))
unfolding cells_of
own_equal a b h = rw (h.0, h.1) refl

pub own_other : (n : Node) → ((a b : code.Cell) → n ≡ Equal a b → ⊥) → own_cells n ≡ []
unfolding cells_of
own_other Always h = refl
own_other Never h = refl
own_other (Equal a b) h = absurd (h a b refl)
own_other (Not a) h = refl
own_other (Both a b) h = refl
own_other (Either a b) h = refl
