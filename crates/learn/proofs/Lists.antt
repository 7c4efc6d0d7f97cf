-- What lists mean once a number is written over a gap in their cells and in the store's conditions.
use Rattle.std.proofs.Common.{◌≡◌, ℕ, zero, suc, ◌+◌, ◌-◌, ◌*◌, ◌<◌, ◌≤◌, Bool, true, ltb, List, length, get_or, drop, refl, sym, ap, ◌∙◌, arith, suc-mul, length-drop}
use Rattle.std.proofs.lemmas.List.{get_or-drop, drop-drop}
use Rattle.std.proofs.lemmas.Bool.{and_parts, ltb-true, lt-ltb}
use Rattle.std.specs.Cmp.Derive.{both_true}
use Rattle.condition.specs.Store.{count, cond_at}
use Rattle.list.specs.Layout.{line_size, list_size, lines_at, columns_at, lines_in, lists_in, lines_fit, list_fits, Fits, lines_named, list_named, passing}
use Rattle.list.proofs.Fitting.{fits, pass_parts}
use Rattle.learn.specs.Over.{write_cond, write_ifs, write_columns, write_lists, lists_size}
use Rattle.learn.specs.Places.{over_lines, over_lists}
use Rattle.learn.proofs.Meaning.{cells_same, fits_same, lines_before, lines_behind, lines_long, lines_mean, lines_name, lines_fits}

-- lines are read from their own numbers
abbrev Same : ℕ → List ℕ → List ℕ → Type 0
Same size xs ys = (p : ℕ) → p < size → get_or ys p 0 ≡ get_or xs p 0

same_from : (d size : ℕ) (xs ys : List ℕ) → Same (d + size) xs ys → Same size (drop d xs) (drop d ys)
same_from d size xs ys h p l = get_or-drop d ys p 0 ∙ (h (d + p) (omega arith) ∙ sym (get_or-drop d xs p 0))

module _ (w : ℕ) where
  own_first : (m : ℕ) (xs ys : List ℕ) → Same (suc m * line_size w) xs ys → (get_or ys 0 0 ≡ get_or xs 0 0) × Same (2 * w) (drop 1 xs) (drop 1 ys)
  own_first m xs ys h =
      let e = suc-mul m (line_size w) in
      (h 0 (omega arith), same_from 1 (2 * w) xs ys (λ p l. h p (omega arith)))

  own_rest : (m : ℕ) (xs ys : List ℕ) → Same (suc m * line_size w) xs ys → Same (m * line_size w) (drop (line_size w) xs) (drop (line_size w) ys)
  own_rest m xs ys h = let e = suc-mul m (line_size w) in same_from (line_size w) (m * line_size w) xs ys (λ p l. h p (omega arith))

  pub lines_same : (nodes : List ℕ) (m : ℕ) (xs ys : List ℕ) → Same (m * line_size w) xs ys → lines_in nodes m w ys ≡ lines_in nodes m w xs
  unfolding lines_in
  lines_same nodes zero xs ys h = refl
  lines_same nodes (suc m) xs ys h =
      let f = own_first m xs ys h in
      rw (f.0, cells_same w (drop 1 xs) (drop 1 ys) f.1, lines_same nodes m (drop (line_size w) xs) (drop (line_size w) ys) (own_rest m xs ys h)) refl

  pub lines_fit_same : (m : ℕ) (xs ys : List ℕ) → Same (m * line_size w) xs ys → lines_fit m w ys ≡ lines_fit m w xs
  unfolding lines_fit
  lines_fit_same zero xs ys h = refl
  lines_fit_same (suc m) xs ys h =
      let f = own_first m xs ys h in
      rw (fits_same w (drop 1 xs) (drop 1 ys) f.1, lines_fit_same m (drop (line_size w) xs) (drop (line_size w) ys) (own_rest m xs ys h)) refl

  lines_named_same : (c m : ℕ) (xs ys : List ℕ) → Same (m * line_size w) xs ys → lines_named c m w ys ≡ lines_named c m w xs
  unfolding lines_named
  lines_named_same c zero xs ys h = refl
  lines_named_same c (suc m) xs ys h =
      let f = own_first m xs ys h in
      rw (f.0, lines_named_same c m (drop (line_size w) xs) (drop (line_size w) ys) (own_rest m xs ys h)) refl

-- lines over a store in which the number is written over the gap
pub lines_over : (k n : ℕ) (ns ns₁ : List ℕ) → ((j : ℕ) → j < count ns → cond_at ns₁ j ≡ write_cond k n (cond_at ns j)) →
    (m w : ℕ) (xs : List ℕ) → lines_named (count ns) m w xs ≡ true → lines_in ns₁ m w xs ≡ write_ifs k n (lines_in ns m w xs)
unfolding lines_in lines_named write_ifs
lines_over k n ns ns₁ o zero w xs h = refl
lines_over k n ns ns₁ o (suc m) w xs h =
    let p = and_parts (ltb (get_or xs 0 0) (count ns)) (lines_named (count ns) m w (drop (line_size w) xs)) h in
    rw (o (get_or xs 0 0) (ltb-true (get_or xs 0 0) (count ns) p.0), lines_over k n ns ns₁ o m w (drop (line_size w) xs) p.1) refl

-- nodes that stand among c stand among more
named_more : (c d : ℕ) → c ≤ d → (m w : ℕ) (xs : List ℕ) → lines_named c m w xs ≡ true → lines_named d m w xs ≡ true
unfolding lines_named
named_more c d l zero w xs h = refl
named_more c d l (suc m) w xs h =
    let p = and_parts (ltb (get_or xs 0 0) c) (lines_named c m w (drop (line_size w) xs)) h in
    both_true (lt-ltb (get_or xs 0 0) d (omega (arith, ltb-true (get_or xs 0 0) c p.0))) (named_more c d l m w (drop (line_size w) xs) p.1)

module _ (k n : ℕ) where
  pub lists_before : (c at : ℕ) (xs : List ℕ) (p : ℕ) → p < at → get_or (over_lists k n c at xs) p 0 ≡ get_or xs p 0
  unfolding over_lists
  lists_before zero at xs p l = refl
  lists_before (suc c) at xs p l =
      lists_before c (at + list_size (drop at xs)) (over_lines k n (lines_at (drop at xs)) (columns_at (drop at xs)) (at + 2) xs) p (omega arith)
      ∙ lines_before k n (columns_at (drop at xs)) (lines_at (drop at xs)) (at + 2) xs p (omega arith)

  pub lists_long : (c at : ℕ) (xs : List ℕ) → length (over_lists k n c at xs) ≡ length xs
  unfolding over_lists
  lists_long zero at xs = refl
  lists_long (suc c) at xs =
      lists_long c (at + list_size (drop at xs)) (over_lines k n (lines_at (drop at xs)) (columns_at (drop at xs)) (at + 2) xs)
      ∙ lines_long k n (columns_at (drop at xs)) (lines_at (drop at xs)) (at + 2) xs

  -- of the first list, and of those behind it
  module _ (c at : ℕ) (xs : List ℕ) where
    abbrev m : ℕ
    m = lines_at (drop at xs)

    abbrev w : ℕ
    w = columns_at (drop at xs)

    abbrev first_list : List ℕ
    first_list = over_lines k n m w (at + 2) xs

    abbrev every_list : List ℕ
    every_list = over_lists k n c (at + list_size (drop at xs)) first_list

    shape_same : (p : ℕ) → p < 2 → get_or (drop at every_list) p 0 ≡ get_or (drop at xs) p 0
    shape_same p l =
        get_or-drop at every_list p 0
        ∙ (lists_before c (at + list_size (drop at xs)) first_list (at + p) (omega arith)
        ∙ (lines_before k n w m (at + 2) xs (at + p) (omega arith) ∙ sym (get_or-drop at xs p 0)))

    own_lines : Same (m * line_size w) (drop (at + 2) first_list) (drop (at + 2) every_list)
    own_lines p l =
        get_or-drop (at + 2) every_list p 0
        ∙ (lists_before c (at + list_size (drop at xs)) first_list (at + 2 + p) (omega arith) ∙ sym (get_or-drop (at + 2) first_list p 0))

    behind_list : drop (at + list_size (drop at xs)) first_list ≡ drop (at + list_size (drop at xs)) xs
    behind_list = lines_behind k n w m (at + 2) xs (at + list_size (drop at xs)) (omega arith)

    -- where the first list fits and names nodes that stand
    module _ (f : Fits (drop at xs)) where
      list_whole : at + 2 + m * line_size w ≤ length xs
      list_whole = let d = length-drop at xs in let s = f.some in let t = f.whole in omega arith

      list_over : (ns ns₁ : List ℕ) → ((j : ℕ) → j < count ns → cond_at ns₁ j ≡ write_cond k n (cond_at ns j)) → lines_named (count ns) m w (drop (at + 2) xs) ≡ true →
          lines_in ns₁ m w (drop (at + 2) every_list) ≡ write_columns k n (write_ifs k n (lines_in ns m w (drop (at + 2) xs)))
      list_over ns ns₁ o h =
          lines_same w ns₁ m (drop (at + 2) first_list) (drop (at + 2) every_list) own_lines
          ∙ (lines_mean k n w ns₁ m (at + 2) xs list_whole ∙ ap (write_columns k n) (lines_over k n ns ns₁ o m w (drop (at + 2) xs) h))

      list_fits_over : lines_fit m w (drop (at + 2) every_list) ≡ true
      list_fits_over =
          lines_fit_same w m (drop (at + 2) first_list) (drop (at + 2) every_list) own_lines
          ∙ lines_fits k n w m (at + 2) xs list_whole (rw (drop-drop 2 at xs) at f.cells)

      list_named_over : (d : ℕ) → lines_named d m w (drop (at + 2) every_list) ≡ lines_named d m w (drop (at + 2) xs)
      list_named_over d =
          lines_named_same w d m (drop (at + 2) first_list) (drop (at + 2) every_list) own_lines ∙ lines_name k n w d m (at + 2) xs

  -- those behind the first list stand as they stood
  rest_passes : (ok : List ℕ → Bool) (c at : ℕ) (xs : List ℕ) → passing ok c (drop (list_size (drop at xs)) (drop at xs)) ≡ c → passing ok c (drop (at + list_size (drop at xs)) (first_list c at xs)) ≡ c
  rest_passes ok c at xs h = ap (passing ok c) (behind_list c at xs ∙ sym (drop-drop (list_size (drop at xs)) at xs)) ∙ h

  pub lists_mean : (ns ns₁ : List ℕ) → ((j : ℕ) → j < count ns → cond_at ns₁ j ≡ write_cond k n (cond_at ns j)) → (c at : ℕ) (xs : List ℕ) →
      passing list_fits c (drop at xs) ≡ c → passing (list_named (count ns)) c (drop at xs) ≡ c →
      lists_in ns₁ c (drop at (over_lists k n c at xs)) ≡ write_lists k n (lists_in ns c (drop at xs))
  unfolding over_lists lists_in write_lists list_named
  lists_mean ns ns₁ o zero at xs h g = refl
  lists_mean ns ns₁ o (suc c) at xs h g =
      let p = pass_parts list_fits c (drop at xs) h in let q = pass_parts (list_named (count ns)) c (drop at xs) g in
      let f = fits (drop at xs) p.0 in let ys = every_list c at xs in
      let e = list_over c at xs f ns ns₁ o (rw (drop-drop 2 at xs) at q.0) in
      let r = lists_mean ns ns₁ o c (at + list_size (drop at xs)) (first_list c at xs) (rest_passes list_fits c at xs p.1) (rest_passes (list_named (count ns)) c at xs q.1) in
      rw (shape_same c at xs 0 (omega arith), shape_same c at xs 1 (omega arith), drop-drop 2 at ys, e, drop-drop 2 at xs, drop-drop (list_size (drop at xs)) at ys, drop-drop (list_size (drop at xs)) at xs, r, behind_list c at xs) refl

  first_fits : (c at : ℕ) (xs : List ℕ) → list_fits (drop at xs) ≡ true → list_fits (drop at (every_list c at xs)) ≡ true
  unfolding list_fits
  first_fits c at xs h =
      let f = fits (drop at xs) h in let ys = every_list c at xs in
      let l : length (drop at ys) ≡ length (drop at xs)
      = length-drop at ys ∙ (ap (λ t. t - at) (lists_long c (at + list_size (drop at xs)) (first_list c at xs) ∙ lines_long k n (w c at xs) (m c at xs) (at + 2) xs) ∙ sym (length-drop at xs)) in
      rw (l, shape_same c at xs 0 (omega arith), shape_same c at xs 1 (omega arith), drop-drop 2 at ys, list_fits_over c at xs f) (rw f.cells at h)

  pub lists_fit : (c at : ℕ) (xs : List ℕ) → passing list_fits c (drop at xs) ≡ c → passing list_fits c (drop at (over_lists k n c at xs)) ≡ c
  unfolding over_lists passing
  lists_fit zero at xs h = refl
  lists_fit (suc c) at xs h =
      let p = pass_parts list_fits c (drop at xs) h in let ys = every_list c at xs in
      let r = lists_fit c (at + list_size (drop at xs)) (first_list c at xs) (rest_passes list_fits c at xs p.1) in
      rw (first_fits c at xs p.0, shape_same c at xs 0 (omega arith), shape_same c at xs 1 (omega arith), drop-drop (list_size (drop at xs)) at ys, r) refl

  pub lists_name : (d e : ℕ) → d ≤ e → (c at : ℕ) (xs : List ℕ) → passing list_fits c (drop at xs) ≡ c → passing (list_named d) c (drop at xs) ≡ c →
      passing (list_named e) c (drop at (over_lists k n c at xs)) ≡ c
  unfolding over_lists passing list_named
  lists_name d e l zero at xs h g = refl
  lists_name d e l (suc c) at xs h g =
      let p = pass_parts list_fits c (drop at xs) h in let q = pass_parts (list_named d) c (drop at xs) g in
      let f = fits (drop at xs) p.0 in let ys = every_list c at xs in
      let s = list_named_over c at xs f e ∙ named_more d e l (m c at xs) (w c at xs) (drop (at + 2) xs) (rw (drop-drop 2 at xs) at q.0) in
      let r = lists_name d e l c (at + list_size (drop at xs)) (first_list c at xs) (rest_passes list_fits c at xs p.1) (rest_passes (list_named d) c at xs q.1) in
      rw (shape_same c at xs 0 (omega arith), shape_same c at xs 1 (omega arith), drop-drop 2 at ys, s, drop-drop (list_size (drop at xs)) at ys, r) refl

  pub lists_behind : (c at : ℕ) (xs : List ℕ) (d : ℕ) → at + lists_size c (drop at xs) ≤ d → drop d (over_lists k n c at xs) ≡ drop d xs
  unfolding over_lists lists_size
  lists_behind zero at xs d l = refl
  lists_behind (suc c) at xs d l =
      let e : lists_size c (drop (at + list_size (drop at xs)) (first_list c at xs)) ≡ lists_size c (drop (list_size (drop at xs)) (drop at xs))
      = ap (lists_size c) (behind_list c at xs ∙ sym (drop-drop (list_size (drop at xs)) at xs)) in
      lists_behind c (at + list_size (drop at xs)) (first_list c at xs) d (omega arith)
      ∙ lines_behind k n (w c at xs) (m c at xs) (at + 2) xs d (omega arith)
