-- A line and a row cell by cell, and the lines that decide the row one after the other.
use Rattle.std.proofs.Common.{◌≡◌, ℕ, ◌+◌, ◌-◌, ◌*◌, ◌<◌, ◌≤◌, Bool, true, ◌&&◌, List, [], ◌∷◌, ◌++◌, map, length, get_or, take, drop, sym, refl, ap, ◌∙◌, add-one, arith, drop-cons, take_all}
use Rattle.std.specs.List.{list_all, enumerate_from}
use Rattle.std.proofs.lemmas.List.{take_more, map-append, get_or-drop, drop-drop, drop_all}
use Rattle.condition.specs.Cond.{Cell, known, gap}
use Rattle.condition.specs.Store.{cell_in, has_name}
use Rattle.list.specs.Layout.{line_size, cells_in, lines_in, cells_fit}
use Rattle.list.specs.Lists.{Row}
use Rattle.list.proofs.Reading.{line_in, length_cells, length_lines, line_cell_at, line_at, cells_fit_at, fits_named}
use Rattle.decide.specs.Deciding.{agrees_cell, agrees}

pub drop_next : {X : Type 0} (xs : List X) (a : ℕ) (d : X) → a < length xs → drop a xs ≡ get_or xs a d ∷ drop (a + 1) xs
drop_next xs a d l = rw (add-one, drop-cons xs a d l) refl

-- from the end: one element more
pub drop_back : {X : Type 0} (xs : List X) (a : ℕ) (d : X) → 0 < a → a ≤ length xs → drop (a - 1) xs ≡ get_or xs (a - 1) d ∷ drop a xs
drop_back xs a d p l = let e : a - 1 + 1 ≡ a = omega arith in drop_next xs (a - 1) d (omega arith) ∙ ap (λ t. get_or xs (a - 1) d ∷ drop t xs) e

-- by the cell in front: a number agrees with itself, and a gap with every number
agrees_cons : (c : Cell) (cs : List Cell) (n : ℕ) (ns : Row) → agrees (c ∷ cs) (n ∷ ns) ≡ (agrees_cell c n && agrees cs ns)
unfolding agrees
agrees_cons (known m) cs n ns = refl
agrees_cons (gap k) cs n ns = refl

-- a cell of a line, and the number of a row at its place
abbrev pub agrees_at : List ℕ → ℕ × ℕ → Bool
agrees_at line p = agrees_cell (cell_in (get_or line (1 + 2 * p.0) 0) (get_or line (2 + 2 * p.0) 0)) p.1

agrees_from : (line row : List ℕ) (n : ℕ) → list_all (agrees_at line) (enumerate_from n row) ≡ agrees (cells_in (length row) (drop (1 + 2 * n) line)) row
unfolding agrees cells_in
agrees_from line [] n = refl
agrees_from line (x ∷ row) n =
    let f : 1 + 2 * n + 0 ≡ 1 + 2 * n = omega arith in let g : 1 + 2 * n + 1 ≡ 2 + 2 * n = omega arith in let h : 1 + 2 * n + 2 ≡ 1 + 2 * (n + 1) = omega arith in
    rw (
      get_or-drop (1 + 2 * n) line 0 0,
      get_or-drop (1 + 2 * n) line 1 0,
      f,
      g,
      drop-drop 2 (1 + 2 * n) line,
      h,
      agrees_cons (cell_in (get_or line (1 + 2 * n) 0) (get_or line (2 + 2 * n) 0)) (cells_in (length row) (drop (1 + 2 * (n + 1)) line)) x row,
      agrees_from line row (n + 1),
    ) refl

pub agrees_all : (line row : List ℕ) → list_all (agrees_at line) (enumerate_from 0 row) ≡ agrees (cells_in (length row) (drop 1 line)) row
agrees_all line row = agrees_from line row 0

-- the cells of a line from the first to the last
pub cells_more : (w a : ℕ) (line : List ℕ) (d : Cell) → a < w → d ≡ cell_in (get_or line (1 + 2 * a) 0) (get_or line (2 + 2 * a) 0) →
    take (a + 1) (cells_in w (drop 1 line)) ≡ take a (cells_in w (drop 1 line)) ++ d ∷ []
cells_more w a line d l e =
    let h : a < length (cells_in w (drop 1 line)) = rw (length_cells w (drop 1 line)) l in
    take_more (cells_in w (drop 1 line)) a d h ∙ ap (λ t. take a (cells_in w (drop 1 line)) ++ t ∷ []) (line_cell_at w a line d l ∙ sym e)

pub cells_all : (w : ℕ) (xs : List ℕ) → take w (cells_in w xs) ≡ cells_in w xs
cells_all w xs = take_all w (cells_in w xs) (rw (length_cells w xs) (omega arith))

pub cell_named : (w a : ℕ) (line : List ℕ) → a < w → cells_fit w (drop 1 line) ≡ true → has_name (cell_in (get_or line (1 + 2 * a) 0) (get_or line (2 + 2 * a) 0)) ≡ true
cell_named w a line l h =
    let e : 1 + (2 * a + 1) ≡ 2 + 2 * a = omega arith in
    fits_named (get_or line (1 + 2 * a) 0) (get_or line (2 + 2 * a) 0) (rw (get_or-drop 1 line (2 * a) 0, get_or-drop 1 line (2 * a + 1) 0, e) at (cells_fit_at w a (drop 1 line) l h))

-- the numbers of a row from the first to the last
pub row_more : (row : List ℕ) (a : ℕ) → a < length row → map known (take (a + 1) row) ≡ map known (take a row) ++ known (get_or row a 0) ∷ []
row_more row a l = rw (take_more row a 0 l) (map-append known (take a row) (get_or row a 0 ∷ []))

-- the cells of a line from the last to the first
pub cells_none : (w : ℕ) (xs : List ℕ) → drop w (cells_in w xs) ≡ []
cells_none w xs = drop_all w (cells_in w xs) (rw (length_cells w xs) (omega arith))

pub cells_back : (w a : ℕ) (line : List ℕ) (d : Cell) → 0 < a → a ≤ w → d ≡ cell_in (get_or line (1 + 2 * (a - 1)) 0) (get_or line (2 + 2 * (a - 1)) 0) →
    drop (a - 1) (cells_in w (drop 1 line)) ≡ d ∷ drop a (cells_in w (drop 1 line))
cells_back w a line d p l e =
    let h : a ≤ length (cells_in w (drop 1 line)) = rw (length_cells w (drop 1 line)) l in
    drop_back (cells_in w (drop 1 line)) a d p h ∙ ap (λ t. t ∷ drop a (cells_in w (drop 1 line))) (line_cell_at w (a - 1) line d (omega arith) ∙ sym e)

-- the lines from the last to the first
pub lines_none : (nodes : List ℕ) (n w : ℕ) (xs : List ℕ) → drop n (lines_in nodes n w xs) ≡ []
lines_none nodes n w xs = drop_all n (lines_in nodes n w xs) (rw (length_lines nodes n w xs) (omega arith))

pub lines_back : (nodes : List ℕ) (n w i : ℕ) (xs line : List ℕ) → 0 < i → i ≤ n → line ≡ drop ((i - 1) * line_size w) xs →
    drop (i - 1) (lines_in nodes n w xs) ≡ line_in nodes w line ∷ drop i (lines_in nodes n w xs)
lines_back nodes n w i xs line p l e =
    let h : i ≤ length (lines_in nodes n w xs) = rw (length_lines nodes n w xs) l in
    drop_back (lines_in nodes n w xs) i (line_in nodes w line) p h ∙ ap (λ t. t ∷ drop i (lines_in nodes n w xs)) (line_at nodes n w (i - 1) xs (line_in nodes w line) (omega arith) ∙ rw e refl)
