-- Lines and cells by their place.
use Rattle.std.proofs.Common.{◌≡◌, ℕ, zero, suc, ◌+◌, ◌*◌, ◌<◌, ◌≤◌, Bool, true, false, cond as if, ltb, List, [], ◌∷◌, ◌++◌, map, length, get_or, take, drop, sym, refl, ap, ◌∙◌, add-zero, add_assoc, suc-mul, zero-mul, arith}
use Rattle.std.proofs.lemmas.List.{get_or-drop, drop-drop, get_or_past, take_more, take_all, append-nil}
use Rattle.std.specs.List.{range_with_len}
use Rattle.std.proofs.lemmas.Bool.{ltb-true, and_parts}
use Rattle.std.proofs.lemmas.Bool.Decides.{nat_tests}
use Rattle.condition.specs.Cond.{Cell}
use Rattle.condition.specs.Store.{cell_in, cond_at, has_name}
use Rattle.evaluate.specs.Filling.{Filling, fill_cell, holds}
use Rattle.evaluate.specs.Values.{WorkedOut}
use Rattle.list.proofs.Filling.{filled_app}
use Rattle.list.specs.Lists.{Line, Row, fill_cells, filled}
use Rattle.list.specs.Layout.{line_size, list_size, cells_in, lines_in, lists_in, all_in, cell_fits, cells_fit, lines_fit, lines_named}

-- the line at the front of xs
abbrev pub line_in : List ℕ → ℕ → List ℕ → Line
line_in nodes w xs = record { cells = cells_in w (drop 1 xs); if_so = cond_at nodes (get_or xs 0 0) }

pub length_cells : (w : ℕ) (xs : List ℕ) → length (cells_in w xs) ≡ w
unfolding cells_in
length_cells zero xs = refl
length_cells (suc w) xs = ap suc (length_cells w (drop 2 xs))

pub length_lines : (nodes : List ℕ) (n w : ℕ) (xs : List ℕ) → length (lines_in nodes n w xs) ≡ n
unfolding lines_in
length_lines nodes zero w xs = refl
length_lines nodes (suc n) w xs = ap suc (length_lines nodes n w (drop (line_size w) xs))

pub cell_at : (w a : ℕ) (xs : List ℕ) (d : Cell) → a < w → get_or (cells_in w xs) a d ≡ cell_in (get_or xs (2 * a) 0) (get_or xs (2 * a + 1) 0)
unfolding cells_in
cell_at zero a xs d l = absurd (omega arith)
cell_at (suc w) zero xs d l = refl
cell_at (suc w) (suc a) xs d l =
    let e : 2 + 2 * a ≡ 2 * suc a = omega arith in let f : 2 + (2 * a + 1) ≡ 2 * suc a + 1 = omega arith in
    cell_at w a (drop 2 xs) d (omega arith) ∙ rw (get_or-drop 2 xs (2 * a) 0, get_or-drop 2 xs (2 * a + 1) 0, e, f) refl

-- the same behind a line's node
pub line_cell_at : (w a : ℕ) (xs : List ℕ) (d : Cell) → a < w → get_or (cells_in w (drop 1 xs)) a d ≡ cell_in (get_or xs (1 + 2 * a) 0) (get_or xs (2 + 2 * a) 0)
line_cell_at w a xs d l =
    let e : 1 + (2 * a + 1) ≡ 2 + 2 * a = omega arith in
    cell_at w a (drop 1 xs) d l ∙ rw (get_or-drop 1 xs (2 * a) 0, get_or-drop 1 xs (2 * a + 1) 0, e) refl

pub line_at : (nodes : List ℕ) (n w i : ℕ) (xs : List ℕ) (d : Line) → i < n → get_or (lines_in nodes n w xs) i d ≡ line_in nodes w (drop (i * line_size w) xs)
unfolding lines_in
line_at nodes zero w i xs d l = absurd (omega arith)
line_at nodes (suc n) w zero xs d l = rw (zero-mul (line_size w)) refl
line_at nodes (suc n) w (suc i) xs d l =
    let e : suc i * line_size w ≡ line_size w + i * line_size w = suc-mul i (line_size w) ∙ omega arith in
    line_at nodes n w i (drop (line_size w) xs) d (omega arith) ∙ rw (e, ← drop-drop (i * line_size w) (line_size w) xs) refl

-- line i of the lines that stand at a place
pub line_of_part : (nodes : List ℕ) (n w i at : ℕ) (xs line : List ℕ) (d : Line) → i < n → line ≡ drop (at + i * line_size w) xs →
    get_or (lines_in nodes n w (drop at xs)) i d ≡ line_in nodes w line
line_of_part nodes n w i at xs line d l e = line_at nodes n w i (drop at xs) d l ∙ rw (drop-drop (i * line_size w) at xs, e) refl

-- what fits, by its place
pub cells_fit_at : (w a : ℕ) (xs : List ℕ) → a < w → cells_fit w xs ≡ true → cell_fits (get_or xs (2 * a) 0) (get_or xs (2 * a + 1) 0) ≡ true
unfolding cells_fit
cells_fit_at zero a xs l h = absurd (omega arith)
cells_fit_at (suc w) zero xs l h = (and_parts (cell_fits (get_or xs 0 0) (get_or xs 1 0)) (cells_fit w (drop 2 xs)) h).0
cells_fit_at (suc w) (suc a) xs l h =
    let e : 2 + 2 * a ≡ 2 * suc a = omega arith in let f : 2 + (2 * a + 1) ≡ 2 * suc a + 1 = omega arith in
    rw (get_or-drop 2 xs (2 * a) 0, get_or-drop 2 xs (2 * a + 1) 0, e, f) at
    (cells_fit_at w a (drop 2 xs) (omega arith) (and_parts (cell_fits (get_or xs 0 0) (get_or xs 1 0)) (cells_fit w (drop 2 xs)) h).1)

pub lines_fit_at : (n w i : ℕ) (xs : List ℕ) → i < n → lines_fit n w xs ≡ true → cells_fit w (drop (i * line_size w + 1) xs) ≡ true
unfolding lines_fit
lines_fit_at zero w i xs l h = absurd (omega arith)
lines_fit_at (suc n) w zero xs l h =
    let e : 0 * line_size w + 1 ≡ 1 = rw (zero-mul (line_size w)) refl in
    rw e (and_parts (cells_fit w (drop 1 xs)) (lines_fit n w (drop (line_size w) xs)) h).0
lines_fit_at (suc n) w (suc i) xs l h =
    let e : line_size w + (i * line_size w + 1) ≡ suc i * line_size w + 1 = omega (arith, suc-mul i (line_size w)) in
    rw (drop-drop (i * line_size w + 1) (line_size w) xs, e) at
    (lines_fit_at n w i (drop (line_size w) xs) (omega arith) (and_parts (cells_fit w (drop 1 xs)) (lines_fit n w (drop (line_size w) xs)) h).1)

pub lines_named_at : (c n w i : ℕ) (xs : List ℕ) → i < n → lines_named c n w xs ≡ true → ltb (get_or xs (i * line_size w) 0) c ≡ true
unfolding lines_named
lines_named_at c zero w i xs l h = absurd (omega arith)
lines_named_at c (suc n) w zero xs l h = rw (zero-mul (line_size w)) (and_parts (ltb (get_or xs 0 0) c) (lines_named c n w (drop (line_size w) xs)) h).0
lines_named_at c (suc n) w (suc i) xs l h =
    let e : line_size w + i * line_size w ≡ suc i * line_size w = omega (arith, suc-mul i (line_size w)) in
    rw (get_or-drop (line_size w) xs (i * line_size w) 0, e) at
    (lines_named_at c n w i (drop (line_size w) xs) (omega arith) (and_parts (ltb (get_or xs 0 0) c) (lines_named c n w (drop (line_size w) xs)) h).1)

-- a cell that fits is a number or one of the 64 gaps
pub fits_named : (t n : ℕ) → cell_fits t n ≡ true → has_name (cell_in t n) ≡ true
fits_named zero n h = refl
fits_named (suc zero) n h = grind (arith, nat_tests)
fits_named (suc (suc t)) n h = grind (arith, nat_tests)

-- each cell of a line is filled, by its place
pub each_filled : (v : Filling) (w a : ℕ) (xs : List ℕ) →
    map (λ i. fill_cell v (cell_in (get_or xs (1 + 2 * i) 0) (get_or xs (2 + 2 * i) 0))) (range_with_len a w) ≡ fill_cells v (cells_in w (drop (1 + 2 * a) xs))
unfolding fill_cells cells_in
each_filled v zero a xs = refl
each_filled v (suc w) a xs =
    let e : 1 + 2 * a + 0 ≡ 1 + 2 * a = omega arith in let f : 1 + 2 * a + 1 ≡ 2 + 2 * a = omega arith in let g : 1 + 2 * a + 2 ≡ 1 + 2 * (a + 1) = omega arith in
    rw (get_or-drop (1 + 2 * a) xs 0 0, get_or-drop (1 + 2 * a) xs 1 0, drop-drop 2 (1 + 2 * a) xs, e, f, g, each_filled v w (a + 1) xs) refl

-- one more line is filled
pub filled_more : (v : Filling) (nodes : List ℕ) (n w i at : ℕ) (xs line : List ℕ) → i < n → line ≡ drop (at + i * line_size w) xs →
    filled v (take (i + 1) (lines_in nodes n w (drop at xs)))
    ≡ filled v (take i (lines_in nodes n w (drop at xs))) ++ if (holds v (cond_at nodes (get_or line 0 0))) (fill_cells v (cells_in w (drop 1 line)) ∷ []) []
unfolding filled
filled_more v nodes n w i at xs line l e =
    let ls = lines_in nodes n w (drop at xs) in
    let h : i < length ls = rw (length_lines nodes n w (drop at xs)) l in
    rw (take_more ls i (line_in nodes w line) h, line_of_part nodes n w i at xs line (line_in nodes w line) l e)
    (filled_app v (take i ls) (line_in nodes w line ∷ []))

pub filled_all : (v : Filling) (nodes : List ℕ) (n w i : ℕ) (xs : List ℕ) → n ≤ i → filled v (take i (lines_in nodes n w xs)) ≡ filled v (lines_in nodes n w xs)
filled_all v nodes n w i xs l = let h : length (lines_in nodes n w xs) ≤ i = rw (length_lines nodes n w xs) l in rw (take_all i (lines_in nodes n w xs) h) refl

-- a line names a node that stands
pub line_named : (c n w i at : ℕ) (xs line : List ℕ) → i < n → line ≡ drop (at + i * line_size w) xs → lines_named c n w (drop at xs) ≡ true → get_or line 0 0 < c
line_named c n w i at xs line l e h =
    let p : ltb (get_or xs (at + i * line_size w) 0) c ≡ true = rw (get_or-drop at xs (i * line_size w) 0) at (lines_named_at c n w i (drop at xs) l h) in
    let q : get_or line 0 0 ≡ get_or xs (at + i * line_size w) 0 = rw (e, get_or-drop (at + i * line_size w) xs 0 0, add-zero (at + i * line_size w)) refl in
    omega (arith, ltb-true (get_or xs (at + i * line_size w) 0) c p)

-- a line whose node has the value true adds its row, and one whose node has false adds none
module _ (v : Filling) (nodes : List ℕ) (n w i at : ℕ) (xs line : List ℕ) (bs : List Bool) (rows : List Row)
    (inside : i < n) (is : line ≡ drop (at + i * line_size w) xs) (valued : WorkedOut v nodes (length bs) bs) (below : get_or line 0 0 < length bs)
    (sofar : rows ≡ filled v (take i (lines_in nodes n w (drop at xs)))) where
  pub filled_kept : (row : Row) → row ≡ fill_cells v (cells_in w (drop 1 line)) → get_or bs (get_or line 0 0) false ≡ true →
      rows ++ row ∷ [] ≡ filled v (take (i + 1) (lines_in nodes n w (drop at xs)))
  filled_kept row r t =
      let e : holds v (cond_at nodes (get_or line 0 0)) ≡ true = sym (valued (get_or line 0 0) below) ∙ t in
      rw (sofar, r) (sym (filled_more v nodes n w i at xs line inside is ∙ rw e refl))

  pub filled_left : get_or bs (get_or line 0 0) false ≡ false → rows ≡ filled v (take (i + 1) (lines_in nodes n w (drop at xs)))
  filled_left t =
      let e : holds v (cond_at nodes (get_or line 0 0)) ≡ false = sym (valued (get_or line 0 0) below) ∙ t in
      sofar ∙ sym (filled_more v nodes n w i at xs line inside is ∙ rw e (append-nil (filled v (take i (lines_in nodes n w (drop at xs))))))

pub length_lists : (nodes : List ℕ) (k : ℕ) (xs : List ℕ) → length (lists_in nodes k xs) ≡ k
unfolding lists_in
length_lists nodes zero xs = refl
length_lists nodes (suc k) xs = ap suc (length_lists nodes k (drop (list_size xs) xs))

-- past the last list there are no rows
pub no_list : (v : Filling) (nodes lists : List ℕ) (t : ℕ) → get_or lists 0 0 ≤ t → [] ≡ filled v (get_or (all_in nodes lists) t [])
unfolding filled
no_list v nodes lists t l =
    let h : length (all_in nodes lists) ≤ t = rw (length_lists nodes (get_or lists 0 0) (drop 2 lists)) l in
    rw (get_or_past (all_in nodes lists) t [] h) refl

-- a cell of a line that fits is a number or one of the 64 gaps
pub line_cell_named : (n w i a at : ℕ) (xs line : List ℕ) → i < n → a < w → line ≡ drop (at + i * line_size w) xs → lines_fit n w (drop at xs) ≡ true →
    has_name (cell_in (get_or line (1 + 2 * a) 0) (get_or line (2 + 2 * a) 0)) ≡ true
line_cell_named n w i a at xs line l m e h =
    let f : cells_fit w (drop 1 line) ≡ true
    = rw (e, drop-drop 1 (at + i * line_size w) xs, add_assoc at (i * line_size w) 1, ← drop-drop (i * line_size w + 1) at xs) (lines_fit_at n w i (drop at xs) l h) in
    let q : 1 + (2 * a + 1) ≡ 2 + 2 * a = omega arith in
    fits_named (get_or line (1 + 2 * a) 0) (get_or line (2 + 2 * a) 0)
    (rw (get_or-drop 1 line (2 * a) 0, get_or-drop 1 line (2 * a + 1) 0, q) at (cells_fit_at w a (drop 1 line) m f))
