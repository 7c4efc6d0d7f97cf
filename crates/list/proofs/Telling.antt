-- What is told of lists.
use Rattle.std.proofs.Common.{◌≡◌, ℕ, zero, suc, ◌<◌, ◌≤◌, eqb, ltb, List, [], length, get_or, drop, Some, None, sym, refl, ◌∙◌, arith}
use Rattle.std.proofs.lemmas.List.{get_or_past, drop_all}
use Rattle.std.proofs.lemmas.Bool.{le-leb, lt-ltb, le-ltb, eq-eqb, ne_eqb}
use Rattle.condition.specs.Refusals.{first, unless}
use Rattle.list.specs.Layout.{list_fits, list_named, passing, all_pass, lists_told, named_below}

pub told_zero : (lists : List ℕ) → get_or lists 0 0 ≡ 0 → lists_told lists ≡ Some (1, 0)
told_zero lists e = rw e refl

pub told_empty : (lists : List ℕ) → length lists ≡ 0 → lists_told lists ≡ Some (1, 0)
told_empty lists e = told_zero lists (get_or_past lists 0 0 (omega arith))

pub told_passing : (lists : List ℕ) (n : ℕ) → 1 ≤ get_or lists 0 0 → get_or lists 0 0 ≤ 8 → n ≡ passing list_fits (get_or lists 0 0) (drop 2 lists) →
    lists_told lists ≡ unless (eqb n (get_or lists 0 0)) 1 n
unfolding all_pass
told_passing lists n a b e = rw (le-leb 1 (get_or lists 0 0) a, le-leb (get_or lists 0 0) 8 b, e) refl

pub told_unfit : (lists : List ℕ) (n : ℕ) → 1 ≤ get_or lists 0 0 → get_or lists 0 0 ≤ 8 → n ≡ passing list_fits (get_or lists 0 0) (drop 2 lists) →
    (n ≡ get_or lists 0 0 → ⊥) → lists_told lists ≡ Some (1, n)
told_unfit lists n a b e ne = told_passing lists n a b e ∙ rw (ne_eqb n (get_or lists 0 0) ne) refl

pub told_fit : (lists : List ℕ) → 1 ≤ get_or lists 0 0 → get_or lists 0 0 ≤ 8 → passing list_fits (get_or lists 0 0) (drop 2 lists) ≡ get_or lists 0 0 →
    lists_told lists ≡ None
told_fit lists a b e = told_passing lists (get_or lists 0 0) a b (sym e) ∙ rw (eq-eqb (get_or lists 0 0) (get_or lists 0 0) refl) refl

-- no list fits where there are no numbers
pub none_fits : (k : ℕ) → passing list_fits k [] ≡ 0
unfolding passing list_fits
none_fits zero = refl
none_fits (suc k) = refl

pub told_short : (lists : List ℕ) → length lists ≡ 1 → 1 ≤ get_or lists 0 0 → get_or lists 0 0 ≤ 8 → lists_told lists ≡ Some (1, 0)
told_short lists e a b = told_unfit lists 0 a b (rw (drop_all 2 lists (omega arith), none_fits) refl) (λ z. omega arith)

-- number 3, from how many lists name only nodes that stand
pub named_passing : (lists : List ℕ) (c n : ℕ) → n ≡ passing (list_named c) (get_or lists 0 0) (drop 2 lists) →
    named_below lists c ≡ first (unless (eqb n (get_or lists 0 0)) 3 n) (unless (ltb (get_or lists 1 0) c) 3 8)
unfolding all_pass
named_passing lists c n e = rw e refl

pub named_list : (lists : List ℕ) (c n : ℕ) → n ≡ passing (list_named c) (get_or lists 0 0) (drop 2 lists) →
    (n ≡ get_or lists 0 0 → ⊥) → named_below lists c ≡ Some (3, n)
named_list lists c n e ne = named_passing lists c n e ∙ rw (ne_eqb n (get_or lists 0 0) ne) refl

pub named_known : (lists : List ℕ) (c n : ℕ) → n ≡ passing (list_named c) (get_or lists 0 0) (drop 2 lists) →
    n ≡ get_or lists 0 0 → c ≤ get_or lists 1 0 → named_below lists c ≡ Some (3, 8)
named_known lists c n e q l = named_passing lists c n e ∙ rw (eq-eqb n (get_or lists 0 0) q, le-ltb (get_or lists 1 0) c l) refl

pub named_all : (lists : List ℕ) (c n : ℕ) → n ≡ passing (list_named c) (get_or lists 0 0) (drop 2 lists) →
    n ≡ get_or lists 0 0 → get_or lists 1 0 < c → named_below lists c ≡ None
named_all lists c n e q l = named_passing lists c n e ∙ rw (eq-eqb n (get_or lists 0 0) q, lt-ltb (get_or lists 1 0) c l) refl
