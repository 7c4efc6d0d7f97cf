-- What lists and lines mean once a number is written over a gap from one place on: the cells have it, and nothing else has changed.
use Rattle.std.proofs.Common.{◌≡◌, ℕ, zero, suc, ◌+◌, ◌*◌, ◌<◌, ◌≤◌, ◌≢◌, Bool, true, false, cond as if, eqb, List, length, get_or, drop, set, refl, sym, ap, ◌∙◌, arith, suc-mul, add-zero}
use Rattle.std.proofs.lemmas.List.{get_or-set_same, get_or-set_other, length-set, drop-set-lt, get_or-drop, drop-drop}
use Rattle.std.proofs.lemmas.Bool.{and_parts}
use Rattle.std.specs.Cmp.Derive.{both_true}
use Rattle.condition.specs.Cond.{Cell, known, gap}
use Rattle.condition.specs.Store.{cell_in}
use Rattle.list.specs.Layout.{line_size, cells_in, lines_in, cell_fits, cells_fit, lines_fit, lines_named}
use Rattle.learn.specs.Over.{write_cell, write_cells, write_columns}
use Rattle.learn.specs.Places.{is_gap, over_cell, over_cells, over_lines}

-- one cell
module _ (k n at : ℕ) (xs : List ℕ) where
  abbrev pub cell_there : Cell
  cell_there = cell_in (get_or xs at 0) (get_or xs (at + 1) 0)

  abbrev pub written : List ℕ
  written = set (set xs at 0) (at + 1) n

  either_way : (P : List ℕ → Type 0) → P xs → P written → (b : Bool) → P (if b written xs)
  either_way P p q true = q
  either_way P p q false = p

  cell_before : (p : ℕ) → p < at → get_or (over_cell k n at xs) p 0 ≡ get_or xs p 0
  cell_before p l =
      let a : p ≢ at + 1 = omega arith in let b : p ≢ at = omega arith in
      either_way (λ t. get_or t p 0 ≡ get_or xs p 0) refl (get_or-set_other (set xs at 0) (at + 1) p n 0 a ∙ get_or-set_other xs at p 0 0 b) (is_gap k cell_there)

  cell_behind : (d : ℕ) → at + 2 ≤ d → drop d (over_cell k n at xs) ≡ drop d xs
  cell_behind d l =
      either_way (λ t. drop d t ≡ drop d xs) refl (drop-set-lt d (set xs at 0) (at + 1) n (omega arith) ∙ drop-set-lt d xs at 0 (omega arith)) (is_gap k cell_there)

  cell_long : length (over_cell k n at xs) ≡ length xs
  cell_long = either_way (λ t. length t ≡ length xs) refl (length-set (set xs at 0) (at + 1) n ∙ length-set xs at 0) (is_gap k cell_there)

  module _ (whole : at + 1 < length xs) where
    tag_is : get_or written at 0 ≡ 0
    tag_is =
        let a : at ≢ at + 1 = omega arith in
        get_or-set_other (set xs at 0) (at + 1) at n 0 a ∙ get_or-set_same xs at 0 0 (omega arith)

    name_is : get_or written (at + 1) 0 ≡ n
    name_is = get_or-set_same (set xs at 0) (at + 1) n 0 (omega (arith, length-set xs at 0))

    cell_is : cell_in (get_or (over_cell k n at xs) at 0) (get_or (over_cell k n at xs) (at + 1) 0) ≡ write_cell k n cell_there
    cell_is = go cell_there refl
      where
        by_test : (j : ℕ) (b : Bool) → cell_there ≡ gap j → cell_in (get_or (if b written xs) at 0) (get_or (if b written xs) (at + 1) 0) ≡ if b (known n) (gap j)
        by_test j true e = rw (tag_is, name_is) refl
        by_test j false e = e

        go : (c : Cell) → cell_there ≡ c → cell_in (get_or (if (is_gap k c) written xs) at 0) (get_or (if (is_gap k c) written xs) (at + 1) 0) ≡ write_cell k n c
        go (known m) e = e
        go (gap j) e = by_test j (eqb j k) e

    cell_fit : cell_fits (get_or xs at 0) (get_or xs (at + 1) 0) ≡ true → cell_fits (get_or (over_cell k n at xs) at 0) (get_or (over_cell k n at xs) (at + 1) 0) ≡ true
    cell_fit h = either_way (λ t. cell_fits (get_or t at 0) (get_or t (at + 1) 0) ≡ true) h (rw tag_is refl) (is_gap k cell_there)

-- the cells from a place on
module _ (k n : ℕ) where
  cells_before : (w at : ℕ) (xs : List ℕ) (p : ℕ) → p < at → get_or (over_cells k n w at xs) p 0 ≡ get_or xs p 0
  unfolding over_cells
  cells_before zero at xs p l = refl
  cells_before (suc w) at xs p l = cells_before w (at + 2) (over_cell k n at xs) p (omega arith) ∙ cell_before k n at xs p l

  cells_behind : (w at : ℕ) (xs : List ℕ) (d : ℕ) → at + 2 * w ≤ d → drop d (over_cells k n w at xs) ≡ drop d xs
  unfolding over_cells
  cells_behind zero at xs d l = refl
  cells_behind (suc w) at xs d l = cells_behind w (at + 2) (over_cell k n at xs) d (omega arith) ∙ cell_behind k n at xs d (omega arith)

  cells_long : (w at : ℕ) (xs : List ℕ) → length (over_cells k n w at xs) ≡ length xs
  unfolding over_cells
  cells_long zero at xs = refl
  cells_long (suc w) at xs = cells_long w (at + 2) (over_cell k n at xs) ∙ cell_long k n at xs

  -- of the first cell, and of those behind it
  module _ (w at : ℕ) (xs : List ℕ) where
    abbrev one_over : List ℕ
    one_over = over_cell k n at xs

    abbrev cells_over : List ℕ
    cells_over = over_cells k n w (at + 2) one_over

    first_tag : get_or (drop at cells_over) 0 0 ≡ get_or one_over at 0
    first_tag = get_or-drop at cells_over 0 0 ∙ (ap (λ t. get_or cells_over t 0) (add-zero at) ∙ cells_before w (at + 2) one_over at (omega arith))

    first_name : get_or (drop at cells_over) 1 0 ≡ get_or one_over (at + 1) 0
    first_name = get_or-drop at cells_over 1 0 ∙ cells_before w (at + 2) one_over (at + 1) (omega arith)

    tag_there : get_or (drop at xs) 0 0 ≡ get_or xs at 0
    tag_there = get_or-drop at xs 0 0 ∙ ap (λ t. get_or xs t 0) (add-zero at)

    name_there : get_or (drop at xs) 1 0 ≡ get_or xs (at + 1) 0
    name_there = get_or-drop at xs 1 0

  cells_mean : (w at : ℕ) (xs : List ℕ) → at + 2 * w ≤ length xs → cells_in w (drop at (over_cells k n w at xs)) ≡ write_cells k n (cells_in w (drop at xs))
  unfolding over_cells cells_in write_cells
  cells_mean zero at xs l = refl
  cells_mean (suc w) at xs l =
      let rest = cells_mean w (at + 2) (one_over w at xs) (omega (arith, cell_long k n at xs)) in
      rw (
        first_tag w at xs,
        first_name w at xs,
        tag_there w at xs,
        name_there w at xs,
        cell_is k n at xs (omega arith),
        drop-drop 2 at (cells_over w at xs),
        drop-drop 2 at xs,
        rest,
        cell_behind k n at xs (at + 2) (omega arith),
      ) refl

  cells_fits : (w at : ℕ) (xs : List ℕ) → at + 2 * w ≤ length xs → cells_fit w (drop at xs) ≡ true → cells_fit w (drop at (over_cells k n w at xs)) ≡ true
  unfolding over_cells cells_fit
  cells_fits zero at xs l h = refl
  cells_fits (suc w) at xs l h =
      let p = and_parts (cell_fits (get_or (drop at xs) 0 0) (get_or (drop at xs) 1 0)) (cells_fit w (drop 2 (drop at xs))) h in
      let f : cell_fits (get_or xs at 0) (get_or xs (at + 1) 0) ≡ true = rw (tag_there w at xs, name_there w at xs) at p.0 in
      let r : cells_fit w (drop (at + 2) (one_over w at xs)) ≡ true = rw (cell_behind k n at xs (at + 2) (omega arith)) (rw (drop-drop 2 at xs) at p.1) in
      rw (first_tag w at xs, first_name w at xs, drop-drop 2 at (cells_over w at xs))
      (both_true (cell_fit k n at xs (omega arith) f) (cells_fits w (at + 2) (one_over w at xs) (omega (arith, cell_long k n at xs)) r))

-- cells are read from their own numbers
pub cells_same : (w : ℕ) (xs ys : List ℕ) → ((p : ℕ) → p < 2 * w → get_or ys p 0 ≡ get_or xs p 0) → cells_in w ys ≡ cells_in w xs
unfolding cells_in
cells_same zero xs ys h = refl
cells_same (suc w) xs ys h =
    let r = cells_same w (drop 2 xs) (drop 2 ys) (λ p l. get_or-drop 2 ys p 0 ∙ (h (2 + p) (omega arith) ∙ sym (get_or-drop 2 xs p 0))) in
    rw (h 0 (omega arith), h 1 (omega arith), r) refl

pub fits_same : (w : ℕ) (xs ys : List ℕ) → ((p : ℕ) → p < 2 * w → get_or ys p 0 ≡ get_or xs p 0) → cells_fit w ys ≡ cells_fit w xs
unfolding cells_fit
fits_same zero xs ys h = refl
fits_same (suc w) xs ys h =
    let r = fits_same w (drop 2 xs) (drop 2 ys) (λ p l. get_or-drop 2 ys p 0 ∙ (h (2 + p) (omega arith) ∙ sym (get_or-drop 2 xs p 0))) in
    rw (h 0 (omega arith), h 1 (omega arith), r) refl

-- the lines from a place on
module _ (k n w : ℕ) where
  pub lines_before : (m at : ℕ) (xs : List ℕ) (p : ℕ) → p < at → get_or (over_lines k n m w at xs) p 0 ≡ get_or xs p 0
  unfolding over_lines
  lines_before zero at xs p l = refl
  lines_before (suc m) at xs p l = lines_before m (at + line_size w) (over_cells k n w (at + 1) xs) p (omega arith) ∙ cells_before k n w (at + 1) xs p (omega arith)

  pub lines_behind : (m at : ℕ) (xs : List ℕ) (d : ℕ) → at + m * line_size w ≤ d → drop d (over_lines k n m w at xs) ≡ drop d xs
  unfolding over_lines
  lines_behind zero at xs d l = refl
  lines_behind (suc m) at xs d l =
      let e = suc-mul m (line_size w) in
      lines_behind m (at + line_size w) (over_cells k n w (at + 1) xs) d (omega arith) ∙ cells_behind k n w (at + 1) xs d (omega arith)

  pub lines_long : (m at : ℕ) (xs : List ℕ) → length (over_lines k n m w at xs) ≡ length xs
  unfolding over_lines
  lines_long zero at xs = refl
  lines_long (suc m) at xs = lines_long m (at + line_size w) (over_cells k n w (at + 1) xs) ∙ cells_long k n w (at + 1) xs

  -- of the first line, and of those behind it
  module _ (m at : ℕ) (xs : List ℕ) where
    abbrev first_over : List ℕ
    first_over = over_cells k n w (at + 1) xs

    abbrev all_over : List ℕ
    all_over = over_lines k n m w (at + line_size w) first_over

    node_same : get_or (drop at all_over) 0 0 ≡ get_or (drop at xs) 0 0
    node_same =
        get_or-drop at all_over 0 0
        ∙ (ap (λ t. get_or all_over t 0) (add-zero at)
        ∙ (lines_before m (at + line_size w) first_over at (omega arith)
        ∙ (cells_before k n w (at + 1) xs at (omega arith)
        ∙ (ap (λ t. get_or xs t 0) (sym (add-zero at)) ∙ sym (get_or-drop at xs 0 0)))))

    own_numbers : (p : ℕ) → p < 2 * w → get_or (drop (at + 1) all_over) p 0 ≡ get_or (drop (at + 1) first_over) p 0
    own_numbers p l =
        get_or-drop (at + 1) all_over p 0
        ∙ (lines_before m (at + line_size w) first_over (at + 1 + p) (omega arith) ∙ sym (get_or-drop (at + 1) first_over p 0))

    behind_same : drop (at + line_size w) first_over ≡ drop (at + line_size w) xs
    behind_same = cells_behind k n w (at + 1) xs (at + line_size w) (omega arith)

  pub lines_mean : (nodes : List ℕ) (m at : ℕ) (xs : List ℕ) → at + m * line_size w ≤ length xs →
      lines_in nodes m w (drop at (over_lines k n m w at xs)) ≡ write_columns k n (lines_in nodes m w (drop at xs))
  unfolding over_lines lines_in write_columns
  lines_mean nodes zero at xs l = refl
  lines_mean nodes (suc m) at xs l =
      let e = suc-mul m (line_size w) in
      let c : cells_in w (drop (at + 1) (all_over m at xs)) ≡ write_cells k n (cells_in w (drop (at + 1) xs))
      = cells_same w (drop (at + 1) (first_over m at xs)) (drop (at + 1) (all_over m at xs)) (own_numbers m at xs) ∙ cells_mean k n w (at + 1) xs (omega arith) in
      let r = lines_mean nodes m (at + line_size w) (first_over m at xs) (omega (arith, cells_long k n w (at + 1) xs)) in
      rw (node_same m at xs, drop-drop 1 at (all_over m at xs), drop-drop 1 at xs, c, drop-drop (line_size w) at (all_over m at xs), drop-drop (line_size w) at xs, r, behind_same m at xs) refl

  pub lines_name : (c m at : ℕ) (xs : List ℕ) → lines_named c m w (drop at (over_lines k n m w at xs)) ≡ lines_named c m w (drop at xs)
  unfolding over_lines lines_named
  lines_name c zero at xs = refl
  lines_name c (suc m) at xs =
      let r = lines_name c m (at + line_size w) (first_over m at xs) in
      rw (node_same m at xs, drop-drop (line_size w) at (all_over m at xs), drop-drop (line_size w) at xs, r, behind_same m at xs) refl

  pub lines_fits : (m at : ℕ) (xs : List ℕ) → at + m * line_size w ≤ length xs → lines_fit m w (drop at xs) ≡ true → lines_fit m w (drop at (over_lines k n m w at xs)) ≡ true
  unfolding over_lines lines_fit
  lines_fits zero at xs l h = refl
  lines_fits (suc m) at xs l h =
      let e = suc-mul m (line_size w) in
      let p = and_parts (cells_fit w (drop 1 (drop at xs))) (lines_fit m w (drop (line_size w) (drop at xs))) h in
      let c : cells_fit w (drop (at + 1) (all_over m at xs)) ≡ true
      = fits_same w (drop (at + 1) (first_over m at xs)) (drop (at + 1) (all_over m at xs)) (own_numbers m at xs)
      ∙ cells_fits k n w (at + 1) xs (omega arith) (rw (drop-drop 1 at xs) at p.0) in
      let q : lines_fit m w (drop (at + line_size w) (first_over m at xs)) ≡ true = rw (behind_same m at xs) (rw (drop-drop (line_size w) at xs) at p.1) in
      rw (drop-drop 1 at (all_over m at xs), drop-drop (line_size w) at (all_over m at xs))
      (both_true c (lines_fits m (at + line_size w) (first_over m at xs) (omega (arith, cells_long k n w (at + 1) xs)) q))

-- the number at a place, where all from there on are the same
pub same_at : (j : ℕ) (xs ys : List ℕ) → drop j ys ≡ drop j xs → get_or ys j 0 ≡ get_or xs j 0
same_at j xs ys e =
    ap (λ t. get_or ys t 0) (sym (add-zero j)) ∙ (sym (get_or-drop j ys 0 0) ∙ (ap (λ t. get_or t 0 0) e ∙ (get_or-drop j xs 0 0 ∙ ap (λ t. get_or xs t 0) (add-zero j))))
