-- The numbers that conditions and cells name are numbers in memory: where those are below a bound, so are they.
use Rattle.std.proofs.Common.{◌≡◌, ℕ, zero, suc, ◌+◌, ◌*◌, ◌^◌, ◌<◌, Bool, true, false, cond as if, ◌&&◌, eqb, ltb, List, [], ◌∷◌, ◌++◌, get_or, drop, sym, ◌∙◌, ⊎_elim}
use Rattle.std.proofs.lemmas.Bool.{eqb-true, or_cases}
use Rattle.std.proofs.lemmas.List.{get_or-drop}
use Rattle.condition.specs.Cond.{Cell, Cond, never, equal, cells_of, numbers, numbers_in, has}
use Rattle.condition.specs.Store.{cell_in, has_name, node, earlier, cond_deep, count, cond_at}
use Rattle.condition.proofs.Lists.{has_none, has_cons, has_app}
use Rattle.condition.proofs.Named.{numbers_app}
use Rattle.list.specs.Layout.{line_size, cells_in, lines_in}
use Rattle.decide.specs.Deciding.{cells_in_lines}

-- all numbers in memory are below b
module _ (b : ℕ) where
  abbrev Small : List ℕ → Type 0
  Small xs = (i : ℕ) → get_or xs i 0 < b

  -- and so are those that stand in cells
  abbrev Low : List Cell → Type 0
  Low cs = (k : ℕ) → has (numbers_in cs) k ≡ true → k < b

  small_drop : (n : ℕ) (xs : List ℕ) → Small xs → Small (drop n xs)
  small_drop n xs s i = rw (get_or-drop n xs i 0) (s (n + i))

  low_none : Low []
  unfolding numbers_in
  low_none k h = absurd (has_none k h)

  low_app : (cs ds : List Cell) → Low cs → Low ds → Low (cs ++ ds)
  low_app cs ds p q k h =
      ⊎_elim (p k) (q k) (or_cases (has (numbers_in cs) k) (has (numbers_in ds) k) (sym (has_app (numbers_in cs) (numbers_in ds) k) ∙ rw (numbers_app cs ds) at h))

  low_cell : (t n : ℕ) (cs : List Cell) → n < b → Low cs → Low (cell_in t n ∷ cs)
  unfolding numbers_in
  low_cell zero n cs l p k h = ⊎_elim (λ e. rw (← eqb-true n k e) l) (p k) (or_cases (eqb n k) (has (numbers_in cs) k) (sym (has_cons n (numbers_in cs) k) ∙ h))
  low_cell (suc t) n cs l p k h = p k h

  -- a condition's cells stand in its nodes
  low_compared : (t : Bool) (s m u n : ℕ) → m < b → n < b → Low (cells_of (if t (equal (cell_in s m) (cell_in u n)) never))
  unfolding cells_of
  low_compared true s m u n l k = low_cell s m (cell_in u n ∷ []) l (low_cell u n [] k low_none)
  low_compared false s m u n l k = low_none

  low_node : (s p q r t : ℕ) (go : ℕ → Cond) → q < b → t < b → ((j : ℕ) → Low (cells_of (go j))) → Low (cells_of (node s p q r t go))
  unfolding cells_of
  low_node zero p q r t go l m f = low_none
  low_node (suc zero) p q r t go l m f = low_none
  low_node (suc (suc zero)) p q r t go l m f = low_compared (has_name (cell_in p q) && has_name (cell_in r t)) p q r t l m
  low_node (suc (suc (suc zero))) p q r t go l m f = f p
  low_node (suc (suc (suc (suc zero)))) p q r t go l m f = low_app (cells_of (go p)) (cells_of (go q)) (f p) (f q)
  low_node (suc (suc (suc (suc (suc s))))) p q r t go l m f = low_app (cells_of (go p)) (cells_of (go q)) (f p) (f q)

  low_if : (t : Bool) (c : Cond) → Low (cells_of c) → Low (cells_of (if t c never))
  unfolding cells_of
  low_if true c p = p
  low_if false c p = low_none

  low_deep : (n : ℕ) (xs : List ℕ) (i : ℕ) → Small xs → Low (cells_of (cond_deep n xs i))
  unfolding cells_of cond_deep
  low_deep zero xs i s = low_none
  low_deep (suc n) xs i s =
      low_node (get_or xs (5 * i) 0) (get_or xs (5 * i + 1) 0) (get_or xs (5 * i + 2) 0) (get_or xs (5 * i + 3) 0) (get_or xs (5 * i + 4) 0) (earlier i (λ j. cond_deep n xs j))
      (s (5 * i + 2)) (s (5 * i + 4)) (λ j. low_if (ltb j i) (cond_deep n xs j) (low_deep n xs j s))

  low_cond : (nodes : List ℕ) (i : ℕ) → Small nodes → Low (cells_of (cond_at nodes i))
  unfolding cond_at
  low_cond nodes i s = low_if (ltb i (count nodes)) (cond_deep (suc i) (drop 1 nodes) i) (low_deep (suc i) (drop 1 nodes) i (small_drop 1 nodes s))

  -- the cells of lines stand behind their nodes
  low_cells : (w : ℕ) (xs : List ℕ) → Small xs → Low (cells_in w xs)
  unfolding cells_in
  low_cells zero xs s = low_none
  low_cells (suc w) xs s = low_cell (get_or xs 0 0) (get_or xs 1 0) (cells_in w (drop 2 xs)) (s 1) (low_cells w (drop 2 xs) (small_drop 2 xs s))

  low_lines : (nodes : List ℕ) (n w : ℕ) (xs : List ℕ) → Small xs → Low (cells_in_lines (lines_in nodes n w xs))
  unfolding cells_in_lines lines_in
  low_lines nodes zero w xs s = low_none
  low_lines nodes (suc n) w xs s =
      low_app (cells_in w (drop 1 xs)) (cells_in_lines (lines_in nodes n w (drop (line_size w) xs)))
      (low_cells w (drop 1 xs) (small_drop 1 xs s)) (low_lines nodes n w (drop (line_size w) xs) (small_drop (line_size w) xs s))

pub low_numbers : (nodes answer : List ℕ) (known n w : ℕ) → ((i : ℕ) → get_or nodes i 0 < 2 ^ 64) → ((i : ℕ) → get_or answer i 0 < 2 ^ 64) → (k : ℕ) →
    has (numbers (cond_at nodes known) ++ numbers_in (cells_in_lines (lines_in nodes n w answer))) k ≡ true → k < 2 ^ 64
low_numbers nodes answer known n w s a k h =
    ⊎_elim (low_cond (2 ^ 64) nodes known s k) (low_lines (2 ^ 64) nodes n w answer a k)
    (or_cases (has (numbers (cond_at nodes known)) k) (has (numbers_in (cells_in_lines (lines_in nodes n w answer))) k)
    (sym (has_app (numbers (cond_at nodes known)) (numbers_in (cells_in_lines (lines_in nodes n w answer))) k) ∙ h))
