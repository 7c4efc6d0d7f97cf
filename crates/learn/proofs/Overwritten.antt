-- What writing over leaves, once the lists and the nodes are written and two nodes are added.
use Rattle.std.proofs.Common.{◌≡◌, ◌≢◌, ℕ, ◌+◌, ◌<◌, ◌≤◌, Bool, true, List, length, get_or, drop, set, None, refl, ap, ◌∙◌, arith}
use Rattle.std.proofs.lemmas.List.{get_or-set_same, get_or-set_other, length-set, drop-set-lt}
use Rattle.std.proofs.lemmas.Bool.{lt-ltb, le-leb}
use Rattle.condition.specs.Cond.{Cond, gap, known, both}
use Rattle.condition.specs.Refusals.{first}
use Rattle.condition.specs.Store.{count, cond_at, comparison, store_fits, store_told, Grown}
use Rattle.condition.proofs.Growing.{grown_cond}
use Rattle.condition.proofs.Lists.{eqb_self}
use Rattle.condition.proofs.Refusing.{first_none}
use Rattle.condition.proofs.Standing.{fits_from}
use Rattle.list.specs.Layout.{known_in, all_in, list_fits, list_named, passing, all_pass, lists_told, named_told, check_told}
use Rattle.list.proofs.Fitting.{Fitted, fitted, all_named}
use Rattle.learn.specs.Over.{write_cond, write_lists, is_number, over, Numbered, Overwritten}
use Rattle.learn.specs.Places.{over_lists, OverNodes}
use Rattle.learn.proofs.Staying.{first_same}
use Rattle.learn.proofs.Nodes.{cond_over}
use Rattle.learn.proofs.Lists.{lines_over, lists_before, lists_long, lists_mean, lists_fit, lists_name, lists_behind}
use Rattle.learn.proofs.Meaning.{same_at}

passes_none : (ok : List ℕ → Bool) (lists : List ℕ) (number : ℕ) → passing ok (get_or lists 0 0) (drop 2 lists) ≡ get_or lists 0 0 → all_pass ok lists number ≡ None
unfolding all_pass
passes_none ok lists number h = rw (h, eqb_self (get_or lists 0 0)) refl

-- a node that was added
pub record Put (xs ys : List ℕ) (p : ℕ) (c : Cond) : Type 0 where
  pub grown : Grown xs ys
  pub place : p ≡ count xs
  pub more : count ys ≡ p + 1
  pub new : cond_at ys p ≡ c

module _ (lists ns : List ℕ) (k n : ℕ) (z : Numbered lists ns k n) where
  abbrev pub ls : List ℕ
  ls = over_lists k n (get_or lists 0 0) 2 lists

  parts : (lists_told lists ≡ None) × (store_told ns ≡ None) × (named_told lists ns ≡ None)
  parts =
      let f = first_none (lists_told lists) (first (store_told ns) (named_told lists ns)) z.checked in
      let g = first_none (store_told ns) (named_told lists ns) f.1 in
      (f.0, g.0, g.1)

  fit : Fitted lists
  fit = fitted lists parts.0

  names : (passing (list_named (count ns)) (get_or lists 0 0) (drop 2 lists) ≡ get_or lists 0 0) × (get_or lists 1 0 < count ns)
  names = all_named lists (count ns) parts.2

  pub lists_as_long : length ls ≡ length lists
  lists_as_long = lists_long k n (get_or lists 0 0) 2 lists

  pub two_lists : 2 ≤ length ls
  two_lists = omega (arith, fit.long, lists_as_long)

  module _ (ns₁ ns₂ ns₃ : List ℕ) (p q : ℕ) (o : OverNodes k n (count ns) ns ns₁) (as_long : length ns₁ ≡ length ns)
      (a : Put ns₁ ns₂ p (comparison (gap k) (known n))) (b : Put ns₂ ns₃ q (both (cond_at ns₂ (get_or ls 1 0)) (cond_at ns₂ p))) where
    conds_over : (j : ℕ) → j < count ns → cond_at ns₃ j ≡ write_cond k n (cond_at ns j)
    conds_over j l =
        grown_cond ns₂ ns₃ b.grown j (omega (arith, a.place, a.more, o.many))
        ∙ (grown_cond ns₁ ns₂ a.grown j (omega (arith, o.many)) ∙ cond_over k n ns ns₁ o j l)

    known_is : cond_at ns₃ q ≡ over (known_in ns lists) k n
    known_is =
        let e : get_or ls 1 0 ≡ get_or lists 1 0 = lists_before k n (get_or lists 0 0) 2 lists 1 (omega arith) in
        let l = names.1 in
        let c : cond_at ns₂ (get_or ls 1 0) ≡ write_cond k n (known_in ns lists)
        = ap (cond_at ns₂) e ∙ (grown_cond ns₁ ns₂ a.grown (get_or lists 1 0) (omega (arith, o.many)) ∙ cond_over k n ns ns₁ o (get_or lists 1 0) l) in
        let d : cond_at ns₂ p ≡ is_number k n = a.new ∙ rw (lt-ltb k 64 z.named) refl in
        b.new ∙ rw (c, d) refl

    first_is : get_or (set ls 1 q) 0 0 ≡ get_or lists 0 0
    first_is = first_same ls q ∙ lists_before k n (get_or lists 0 0) 2 lists 0 (omega arith)

    behind_is : drop 2 (set ls 1 q) ≡ drop 2 ls
    behind_is = drop-set-lt 2 ls 1 q (omega arith)

    q_is : get_or (set ls 1 q) 1 0 ≡ q
    q_is = get_or-set_same ls 1 q 0 (omega (arith, two_lists))

    count_is : count ns₃ ≡ count ns + 2
    count_is = omega (arith, a.place, a.more, b.place, b.more, o.many)

    fits_is : store_fits ns₃ ≡ true
    fits_is = fits_from ns₃ (omega (arith, count_is, z.few)) b.grown.fits

    all_is : all_in ns₃ (set ls 1 q) ≡ write_lists k n (all_in ns lists)
    all_is =
        rw (first_is, behind_is)
        (lists_mean k n ns ns₃ conds_over (get_or lists 0 0) 2 lists fit.passed names.0)

    passed_is : passing list_fits (get_or (set ls 1 q) 0 0) (drop 2 (set ls 1 q)) ≡ get_or (set ls 1 q) 0 0
    passed_is = rw (first_is, behind_is) (lists_fit k n (get_or lists 0 0) 2 lists fit.passed)

    named_is : passing (list_named (count ns₃)) (get_or (set ls 1 q) 0 0) (drop 2 (set ls 1 q)) ≡ get_or (set ls 1 q) 0 0
    named_is = rw (first_is, behind_is) (lists_name k n (count ns) (count ns₃) (omega (arith, count_is)) (get_or lists 0 0) 2 lists fit.passed names.0)

    checks : check_told (set ls 1 q) ns₃ ≡ None
    checks =
        let some : 1 ≤ get_or (set ls 1 q) 0 0 = omega (arith, first_is, fit.some) in
        let few : get_or (set ls 1 q) 0 0 ≤ 8 = omega (arith, first_is, fit.few) in
        let stands : get_or (set ls 1 q) 1 0 < count ns₃ = omega (arith, q_is, b.more) in
        rw (
          le-leb 1 (get_or (set ls 1 q) 0 0) some,
          le-leb (get_or (set ls 1 q) 0 0) 8 few,
          passes_none list_fits (set ls 1 q) 1 passed_is,
          fits_is,
          passes_none (list_named (count ns₃)) (set ls 1 q) 3 named_is,
          lt-ltb (get_or (set ls 1 q) 1 0) (count ns₃) stands,
        ) refl

    pub leaves : Overwritten lists ns k n (set ls 1 q) ns₃
    leaves = record {
      fits = z.fits;
      known = ap (cond_at ns₃) q_is ∙ known_is;
      all = all_is;
      conditions = conds_over;
      lines = lines_over k n ns ns₃ conds_over;
      more = count_is;
      store = fits_is;
      nodes_past = λ j l. b.grown.past j l ∙ (a.grown.past j (omega (arith, b.place, b.more)) ∙ o.past j (omega (arith, count_is)));
      nodes_long = b.grown.long ∙ (a.grown.long ∙ as_long);
      checked = checks;
      lists_past = λ j l. let ne : j ≢ 1 = omega arith in
          get_or-set_other ls 1 j q 0 ne ∙ same_at j lists ls (lists_behind k n (get_or lists 0 0) 2 lists j l);
      lists_long = length-set ls 1 q ∙ lists_as_long;
    }
