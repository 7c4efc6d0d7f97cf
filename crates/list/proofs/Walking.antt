-- A walk over the lists, from one to the next: list t stands at a place.
use Rattle.std.proofs.Common.{◌≡◌, ℕ, suc, ◌+◌, ◌-◌, ◌*◌, ◌<◌, ◌≤◌, ◌≢◌, List, [], length, get_or, drop, set, None, refl, arith, length-drop, below_more}
use Rattle.std.proofs.lemmas.List.{drop-drop, get_or-set_same, get_or-set_other}
use Rattle.list.specs.Layout.{line_size, lines_at, columns_at, list_size, lists_in, all_in, shapes_in, list_fits, Fits, list_named, passing, lists_told}
use Rattle.list.specs.Layout as layout
use Rattle.list.specs.Bounds.{no_shape}
use Rattle.list.specs.Shapes.{Shaped}
use Rattle.list.specs.declared.shape.Shape.{Shape}
use Rattle.list.proofs.Stepping.{left_step}
use Rattle.list.proofs.Fitting.{Fitted, fitted, fits_at, passed_next, pass_parts, all_named}

pub record Walked (lists : List ℕ) (t at : ℕ) : Type 0 where
  pub within : at ≤ length lists
  -- the lists that are left fit
  pub left : passing list_fits (get_or lists 0 0 - t) (drop at lists) ≡ get_or lists 0 0 - t
  -- they name only nodes that stand, where all lists do
  pub names : (c : ℕ) → passing (list_named c) (get_or lists 0 0) (drop 2 lists) ≡ get_or lists 0 0 → passing (list_named c) (get_or lists 0 0 - t) (drop at lists) ≡ get_or lists 0 0 - t
  -- and they are those from t on
  pub forms : (j : ℕ) → get_or (layout.shapes lists) (t + j) (0, 0) ≡ get_or (shapes_in (get_or lists 0 0 - t) (drop at lists)) j (0, 0)
  pub says : (nodes : List ℕ) (j : ℕ) → get_or (all_in nodes lists) (t + j) [] ≡ get_or (lists_in nodes (get_or lists 0 0 - t) (drop at lists)) j []

pub walked_none : (lists : List ℕ) → lists_told lists ≡ None → Walked lists 0 2
walked_none lists e =
    let f : Fitted lists = fitted lists e in
    let z : get_or lists 0 0 - 0 ≡ get_or lists 0 0 = omega arith in
    record {
      within = omega arith;
      left = rw z f.passed;
      names = λ c p. rw z p;
      forms = λ j. let y : 0 + j ≡ j = omega arith in rw (z, y) refl;
      says = λ nodes j. let y : 0 + j ≡ j = omega arith in rw (z, y) refl;
    }

pub walked_fits : (lists : List ℕ) (t at : ℕ) → t < get_or lists 0 0 → Walked lists t at → Fits (drop at lists)
walked_fits lists t at l w = fits_at (get_or lists 0 0) t (drop at lists) l w.left

-- on to the next list
pub walked_more : (lists : List ℕ) (t at s : ℕ) → t < get_or lists 0 0 → s ≡ list_size (drop at lists) → Walked lists t at → Walked lists (t + 1) (at + s)
unfolding shapes_in lists_in
walked_more lists t at s l e w =
    let f : Fits (drop at lists) = walked_fits lists t at l w in
    let n = left_step (get_or lists 0 0) t l in
    let d = drop-drop (list_size (drop at lists)) at lists in
    record {
      within = omega (arith, f.whole, length-drop at lists);
      left = passed_next list_fits (get_or lists 0 0) t at s lists l e w.left;
      names = λ c p. passed_next (list_named c) (get_or lists 0 0) t at s lists l e (w.names c p);
      forms = λ j. let y : t + 1 + j ≡ t + suc j = omega arith in rw (y, e, ← d) (rw n at (w.forms (suc j)));
      says = λ nodes j. let y : t + 1 + j ≡ t + suc j = omega arith in rw (y, e, ← d) (rw n at (w.says nodes (suc j)));
    }

-- the shape of the list at hand
pub walked_shaped : (lists : List ℕ) (t at : ℕ) (s : Shape) → t < get_or lists 0 0 → Walked lists t at →
    s.at ≡ at + 2 → s.lines ≡ lines_at (drop at lists) → s.width ≡ columns_at (drop at lists) → Shaped lists t s
unfolding shapes_in lists_in list_named
walked_shaped lists t at s l w p q r =
    let f : Fits (drop at lists) = walked_fits lists t at l w in
    let n = left_step (get_or lists 0 0) t l in
    let y : t + 0 ≡ t = omega arith in
    let d = drop-drop 2 at lists in
    record {
      is = rw (q, r) (rw (n, y) at (w.forms 0));
      few = omega (arith, f.lines);
      wide = omega (arith, f.wide);
      narrow = omega (arith, f.narrow);
      whole = rw (p, q, r) (omega (arith, f.whole, f.some, length-drop at lists));
      says = λ nodes. rw (p, q, r, ← d) (rw (n, y) at (w.says nodes 0));
      named = λ c h.
          rw (p, q, r, ← d) (pass_parts (list_named c) (get_or lists 0 0 - (t + 1)) (drop at lists) (rw n at (w.names c (all_named lists c h).0))).0;
      cells = rw (p, q, r, ← d) f.cells;
    }

-- past the lines of the list at hand the next one stands
pub walked_past : (lists : List ℕ) (t at : ℕ) (s : Shape) → t < get_or lists 0 0 → Walked lists t at →
    s.at ≡ at + 2 → s.lines ≡ lines_at (drop at lists) → s.width ≡ columns_at (drop at lists) →
    Walked lists (t + 1) (s.at + s.lines * line_size s.width)
walked_past lists t at s l w p q r =
    let e : s.at + s.lines * line_size s.width ≡ at + list_size (drop at lists) = rw (p, q, r) (omega arith) in
    rw e (walked_more lists t at (list_size (drop at lists)) l refl w)

-- one more shape is known
pub shaped_more : (lists : List ℕ) (ss : List Shape) (t : ℕ) (s : Shape) → t < length ss →
    ((j : ℕ) → j < t → Shaped lists j (get_or ss j no_shape)) → Shaped lists t s →
    (j : ℕ) → j < t + 1 → Shaped lists j (get_or (set ss t s) j no_shape)
shaped_more lists ss t s l h new =
    below_more _ _
    (λ j k. let ne : j ≢ t = omega arith in rw get_or-set_other (h j k))
    (rw get_or-set_same new)
