-- Rows sorted and each kept once: they are in order, and the same rows.
use Rattle.std.proofs.Common.{◌≡◌, ℕ, zero, suc, ◌<◌, Bool, true, false, cond as if, ◌&&◌, All, List, [], ◌∷◌, map, length, get_or, drop, vec_items, Vec, IsPermutation, Ordering, nat_eq, sym, refl, ap, ◌∙◌, inl, inr, arith}
use Rattle.std.specs.List.{Contains, dedup, dedup_from, AllByRecursion}
use Rattle.std.specs.List.Sorted.{IsSorted, IsStrictlySortedBy}
use Rattle.std.specs.Ordering.{nat_cmp}
use Rattle.std.specs.declared.cmp.Ordering.TheVariants.{Less}
use Rattle.std.specs.Cmp.Lexicographic.{slice_cmp, pointwise, texts_ties, bytes_decides}
use Rattle.std.proofs.lemmas.Bool.{both_ways, and_parts, or_cases, or_left, or_right, eq-eqb}
use Rattle.std.proofs.lemmas.Cmp.{on_total, nat_list_cmp_total, nat_list_eq_equiv}
use Rattle.std.proofs.lemmas.List.Elements.{All-nil, All-cons, All-filter, All-contains, Contains-get_or}
use Rattle.std.proofs.lemmas.List.Kept.{IsStrictlySortedBy-dedup, Contains-dedup, Contains-from_dedup}
use Rattle.std.proofs.lemmas.List.Sorted.{IsPermutation-map, IsPermutation-sym, Contains-permutation}
use Rattle.condition.specs.Store.{cond_at}
use Rattle.evaluate.specs.Filling.{Filling, holds}
use Rattle.list.specs.Layout.{line_size, cells_in, lines_in}
use Rattle.list.specs.Lists.{Line, Row, fill_cells, filled, same_row, stands}
use Rattle.list.proofs.Filling.{same_row_is}
use Rattle.decide.specs.SureRows.{Candidates}
use Rattle.decide.specs.SureSteps.{is_named, named_rows}
use Rattle.decide.proofs.NamedRows.{length_row, named_true, named_all}

-- a list by what it is mapped to
module _ {X Y : Type 0} (f : X → Y) where
  abbrev kept : (Y → Y → Bool) → X → List X → List X
  kept same k xs = dedup_from (λ x y. same (f x) (f y)) k xs

  map_dedup_from : (same : Y → Y → Bool) (k : X) (xs : List X) → map f (kept same k xs) ≡ dedup_from same (f k) (map f xs)
  map_dedup_from same k [] = refl
  map_dedup_from same k (x ∷ xs) = go (same (f x) (f k)) (map_dedup_from same k xs) (map_dedup_from same x xs)
    where
      go : (b : Bool) → map f (kept same k xs) ≡ dedup_from same (f k) (map f xs) → map f (kept same x xs) ≡ dedup_from same (f x) (map f xs) →
          map f (if b (kept same k xs) (k ∷ kept same x xs)) ≡ if b (dedup_from same (f k) (map f xs)) (f k ∷ dedup_from same (f x) (map f xs))
      go true d e = d
      go false d e = ap (λ (ys : List Y). f k ∷ ys) e

  pub map_dedup : (same : Y → Y → Bool) (xs : List X) → map f (dedup (λ x y. same (f x) (f y)) xs) ≡ dedup same (map f xs)
  map_dedup same [] = refl
  map_dedup same (x ∷ xs) = map_dedup_from same x xs

  map_all : (P : Y → Type 0) (xs : List X) → AllByRecursion (λ x. P (f x)) xs → AllByRecursion P (map f xs)
  map_all P [] h = tt
  map_all P (x ∷ xs) h = (h.0, map_all P xs h.1)

  pub map_strict : (order : Y → Y → Ordering) (xs : List X) → IsStrictlySortedBy (λ x y. order (f x) (f y)) xs → IsStrictlySortedBy order (map f xs)
  unfolding IsStrictlySortedBy
  map_strict order [] h = tt
  map_strict order (x ∷ xs) h = (map_all (λ y. order (f x) y ≡ Less) xs h.0, map_strict order xs h.1)

same_itself : (r : Row) → same_row r r ≡ true
unfolding same_row
same_itself [] = refl
same_itself (n ∷ r) = rw (eq-eqb n n refl, same_itself r) refl

-- to stand in a list is to be one of its elements
pub stands_contains : (r : Row) (rs : List Row) → stands r rs ≡ true → Contains rs r
unfolding stands
stands_contains r [] h = absurd (both_ways false refl h)
stands_contains r (s ∷ rs) h = elim (or_cases (same_row r s) (stands r rs) h) [
  | inl e ↦ (0, omega arith, sym (same_row_is r s e))
  | inr t ↦ let k = stands_contains r rs t in (suc k.0, omega (arith, k.1), k.2)
]

stands_at : (r : Row) (rs : List Row) (k : ℕ) → k < length rs → get_or rs k r ≡ r → stands r rs ≡ true
unfolding stands
stands_at r [] k l e = absurd (omega arith)
stands_at r (s ∷ rs) zero l e = or_left (same_row r s) (stands r rs) (rw e (same_itself r))
stands_at r (s ∷ rs) (suc k) l e = or_right (same_row r s) (stands r rs) (stands_at r rs k (omega arith) e)

pub contains_stands : (r : Row) (rs : List Row) → Contains rs r → stands r rs ≡ true
contains_stands r rs h = stands_at r rs h.0 h.1 h.2

pub stands_named : (r : Row) (rs : List Row) → stands r (named_rows rs) ≡ (stands r rs && is_named r)
unfolding stands named_rows
stands_named r [] = refl
stands_named r (s ∷ rs) =
    let ih = stands_named r rs in
    let e : same_row r s ≡ true → is_named r ≡ is_named s = λ h. ap is_named (same_row_is r s h) in
    grind (arith, ih, e)

-- so many cells of each line make so many numbers of each row
pub filled_wide : (v : Filling) (nodes : List ℕ) (n w : ℕ) (xs : List ℕ) → All (λ r. length r ≡ w) (filled v (lines_in nodes n w xs))
unfolding filled lines_in
filled_wide v nodes zero w xs = All-nil (λ r. length r ≡ w)
filled_wide v nodes (suc n) w xs = go (holds v (cond_at nodes (get_or xs 0 0))) (filled_wide v nodes n w (drop (line_size w) xs))
  where
    row : Row
    row = fill_cells v (cells_in w (drop 1 xs))

    rest : List Row
    rest = filled v (lines_in nodes n w (drop (line_size w) xs))

    go : (b : Bool) → All (λ r. length r ≡ w) rest → All (λ r. length r ≡ w) (if b (row ∷ rest) rest)
    go true h = All-cons (λ r. length r ≡ w) row rest (length_row v w (drop 1 xs)) h
    go false h = h

-- the named rows us, sorted as vs, of which ws are left
module _ {Z : Type 0} (out : List Line) (v : Filling) (us vs ws : List (Vec ℕ Z)) (rows : map vec_items us ≡ named_rows (filled v out))
    (moved : IsPermutation us vs) (sorted : IsSorted (λ x y. slice_cmp nat_cmp x.items y.items) vs) (once : ws ≡ dedup (λ x y. pointwise nat_eq x.items y.items) vs) where
  abbrev named : List Row
  named = named_rows (filled v out)

  left : map vec_items ws ≡ dedup (pointwise nat_eq) (map vec_items vs)
  left = ap (map vec_items) once ∙ map_dedup vec_items (pointwise nat_eq) vs

  moved_rows : IsPermutation (named) (map vec_items vs)
  moved_rows = rw rows at (IsPermutation-map vec_items us vs moved)

  was : (r : Row) → Contains (map vec_items ws) r → Contains (named) r
  was r h =
      Contains-permutation (map vec_items vs) (named) r (IsPermutation-sym (named) (map vec_items vs) moved_rows)
      (Contains-from_dedup (pointwise nat_eq) (map vec_items vs) r (rw left at h))

  stays : (r : Row) → Contains (named) r → Contains (map vec_items ws) r
  stays r h =
      rw left
      (Contains-dedup nat_list_eq_equiv (λ x y. (bytes_decides x y).0) (map vec_items vs) r (Contains-permutation (named) (map vec_items vs) r moved_rows h))

  pub sorted_candidates : Candidates out v (map vec_items ws)
  sorted_candidates = record {
    in_order = map_strict vec_items (slice_cmp nat_cmp) ws
        (rw once (IsStrictlySortedBy-dedup (on_total vec_items nat_list_cmp_total) (λ x y. texts_ties x.items y.items) vs sorted));
    each = λ r. (
      λ h.
          let k = contains_stands r (named) (was r (stands_contains r (map vec_items ws) h)) in
          let p = and_parts (stands r (filled v out)) (is_named r) (sym (stands_named r (filled v out)) ∙ k) in
          (p.0, named_all r p.1),
      λ h. contains_stands r (map vec_items ws) (stays r (stands_contains r (named) (stands_named r (filled v out) ∙ rw (h.0, named_true r h.1) refl))),
    );
  }

  pub sorted_wide : (w : ℕ) → All (λ r. length r ≡ w) (filled v out) → All (λ r. length r ≡ w) (map vec_items ws)
  unfolding named_rows
  sorted_wide w h k d l =
      let r = get_or (map vec_items ws) k d in
      All-contains (λ r. length r ≡ w) (named) r (All-filter is_named (λ r. length r ≡ w) (filled v out) h) (was r (Contains-get_or (map vec_items ws) k d l))
