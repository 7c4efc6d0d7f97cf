-- Lists and answers mean the same in a store where all conditions that stood are what they were, as in a grown one.
use Rattle.std.proofs.Common.{◌≡◌, ℕ, zero, suc, ◌+◌, ◌<◌, true, ltb, List, length, get_or, drop, set, refl, ◌∙◌, arith}
use Rattle.std.proofs.lemmas.Bool.{ltb-true, and_parts}
use Rattle.std.proofs.lemmas.List.{get_or-set_same, get_or-set_other, length-set, drop-set-lt}
use Rattle.condition.specs.Cond.{Cond, both}
use Rattle.condition.specs.Store.{count, cond_at, Grown}
use Rattle.condition.proofs.Growing.{grown_cond}
use Rattle.condition.proofs.Standing.{fits_from}
use Rattle.list.specs.Layout.{line_size, list_size, lines_at, columns_at, lines_in, lists_in, known_in, all_in, lines_named, list_named, passing}
use Rattle.list.proofs.Fitting.{pass_parts, all_named}
use Rattle.answer.proofs.Known.{fits_less, more_known}
use Rattle.learn.specs.Learning.{learned, Learnable, Narrowed, Learned}

module _ (ns ns₁ : List ℕ) (same : (j : ℕ) → j < count ns → cond_at ns₁ j ≡ cond_at ns j) where
  pub lines_stay : (n w : ℕ) (xs : List ℕ) → lines_named (count ns) n w xs ≡ true → lines_in ns₁ n w xs ≡ lines_in ns n w xs
  unfolding lines_in lines_named
  lines_stay zero w xs h = refl
  lines_stay (suc n) w xs h =
      let p = and_parts (ltb (get_or xs 0 0) (count ns)) (lines_named (count ns) n w (drop (line_size w) xs)) h in
      rw (same (get_or xs 0 0) (ltb-true (get_or xs 0 0) (count ns) p.0), lines_stay n w (drop (line_size w) xs) p.1) refl

  pub lists_stay : (k : ℕ) (xs : List ℕ) → passing (list_named (count ns)) k xs ≡ k → lists_in ns₁ k xs ≡ lists_in ns k xs
  unfolding lists_in list_named
  lists_stay zero xs h = refl
  lists_stay (suc k) xs h =
      let p = pass_parts (list_named (count ns)) k xs h in
      rw (lines_stay (lines_at xs) (columns_at xs) (drop 2 xs) p.0, lists_stay k (drop (list_size xs) xs) p.1) refl

narrowed : (what more : Cond) → Narrowed what (both what more)
narrowed what more = record {
  answers = λ ts q out a v h. a v (fits_less v what more h);
  sure = λ ts q r. (more_known what more ts q r).0;
  possible = λ ts q r. (more_known what more ts q r).1;
}

-- the node of what is known is another, and the lists are those that they were
module _ (lists : List ℕ) (p : ℕ) where
  pub first_same : get_or (set lists 1 p) 0 0 ≡ get_or lists 0 0
  first_same = get_or-set_other lists 1 0 p 0 (λ e. omega arith)

  pub all_same : (ns : List ℕ) → all_in ns (set lists 1 p) ≡ all_in ns lists
  all_same ns = rw (first_same, drop-set-lt 2 lists 1 p (omega arith)) refl

pub learned_leaves : (lists ns : List ℕ) (new p : ℕ) (ns₁ : List ℕ) → Learnable lists ns new → Grown ns ns₁ → p ≡ count ns → count ns₁ ≡ p + 1 → cond_at ns₁ p ≡ learned lists ns new →
    Learned lists ns new (set lists 1 p) ns₁
learned_leaves lists ns new p ns₁ l g e f h =
    let n = all_named lists (count ns) l.named in
    let long : 1 < length lists = omega (arith, l.long) in
    let k : known_in ns₁ (set lists 1 p) ≡ learned lists ns new = rw (get_or-set_same lists 1 p 0 long) h in
    record {
      fits = l.fits;
      known = k;
      grown = g;
      more = omega arith;
      store = fits_from ns₁ (omega (arith, l.few)) g.fits;
      long = length-set lists 1 p;
      rest = λ j ne. get_or-set_other lists 1 j p 0 ne;
      unchanged = record {
        conditions = grown_cond ns ns₁ g;
        all = all_same lists p ns₁ ∙ lists_stay ns ns₁ (grown_cond ns ns₁ g) (get_or lists 0 0) (drop 2 lists) n.0;
        lines = lines_stay ns ns₁ (grown_cond ns ns₁ g);
      };
      narrowed = rw k (narrowed (known_in ns lists) (cond_at ns new));
    }
