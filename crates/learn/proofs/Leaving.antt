-- Lines under never left out.
use Rattle.std.proofs.Common.{◌≡◌, ℕ, zero, suc, ◌+◌, ◌*◌, ◌<◌, ◌≤◌, Bool, true, false, cond as if, ◌&&◌, ◌⊎◌, List, [], ◌∷◌, ◌++◌, length, get_or, drop, set, sym, refl, ap, ◌∙◌, inl, inr, arith, suc-mul, zero-mul, length-set, get_or-set_same, get_or-set_other, add-one}
use Rattle.std.proofs.lemmas.List.{get_or-drop, drop-drop, append-nil}
use Rattle.std.proofs.Math.Bool.{and-true}
use Rattle.std.proofs.lemmas.Bool.{cases_lt, and_parts, and_from}
use Rattle.condition.specs.Cond.{Cond}
use Rattle.condition.specs.Store.{cond_at}
use Rattle.condition.specs.Shapes.{node_of, Named}
use Rattle.condition.specs.declared.Node.{Node}
use Rattle.condition.specs.declared.Node.TheVariants.{Always, Never, Equal, Not, Both, Either}
use Rattle.list.specs.Lists.{Line}
use Rattle.list.specs.Layout.{line_size, lines_in, cells_fit, lines_fit}
use Rattle.list.proofs.Reading.{line_in}
use Rattle.answer.proofs.Steps.{row}
use Rattle.learn.specs.Dropping.{is_never, without_never, Moved, Dropped}
use Rattle.learn.proofs.Meaning.{cells_same, fits_same}
use Rattle.learn.proofs.Lists.{lines_same, lines_fit_same}

pub never_only : (n : Node) (go : ℕ → Cond) → Named n → (n ≡ Never → ⊥) → is_never (node_of n go) ≡ false
never_only Always go h d = refl
never_only Never go h d = absurd (d refl)
never_only (Equal a b) go h d = rw (h.0, h.1) refl
never_only (Not a) go h d = refl
never_only (Both a b) go h d = refl
never_only (Either a b) go h d = refl

-- one number more is moved
pub moved_none : (from to : ℕ) (xs : List ℕ) → Moved from to 0 xs xs
moved_none from to xs = record { long = refl; moved = λ t l. absurd (omega arith); before = λ k l. refl; past = λ k l. refl }

pub moved_more : (from to n : ℕ) (xs ys : List ℕ) → to ≤ from → from + n < length xs → Moved from to n xs ys → Moved from to (n + 1) xs (set ys (to + n) (get_or ys (from + n) 0))
moved_more from to n xs ys low inside m = record {
  long = length-set ys (to + n) _ ∙ m.long;
  moved = λ t l. elim (cases_lt t n) [
    | inl b ↦ get_or-set_other ys (to + n) (to + t) _ 0 (λ e. omega arith) ∙ m.moved t b
    | inr b ↦ let e : t ≡ n = omega arith in rw e (get_or-set_same ys (to + n) _ 0 (omega (arith, m.long)) ∙ m.past (from + n) (omega arith))
  ];
  before = λ k l. get_or-set_other ys (to + n) k _ 0 (λ e. omega arith) ∙ m.before k l;
  past = λ k l. get_or-set_other ys (to + n) k _ 0 (λ e. omega arith) ∙ m.past k (omega arith);
}

-- one line more
lines_last : (ns : List ℕ) (m w : ℕ) (xs : List ℕ) → lines_in ns (m + 1) w xs ≡ lines_in ns m w xs ++ line_in ns w (drop (m * line_size w) xs) ∷ []
unfolding lines_in
lines_last ns zero w xs = rw (zero-mul (line_size w)) refl
lines_last ns (suc m) w xs =
    let e : suc m * line_size w ≡ line_size w + m * line_size w = suc-mul m (line_size w) ∙ omega arith in
    let f : suc m + 1 ≡ suc (m + 1) = omega arith in
    rw f (ap (λ (ls : List Line). line_in ns w xs ∷ ls) (lines_last ns m w (drop (line_size w) xs) ∙ rw (e, ← drop-drop (m * line_size w) (line_size w) xs) refl))

fit_last : (m w : ℕ) (xs : List ℕ) → lines_fit (m + 1) w xs ≡ (lines_fit m w xs && cells_fit w (drop 1 (drop (m * line_size w) xs)))
unfolding lines_fit
fit_last zero w xs = rw (zero-mul (line_size w)) (and-true (cells_fit w (drop 1 xs)))
fit_last (suc m) w xs =
    let e : suc m * line_size w ≡ line_size w + m * line_size w = suc-mul m (line_size w) ∙ omega arith in
    let f : suc m + 1 ≡ suc (m + 1) = omega arith in
    rw f (ap (λ (b : Bool). cells_fit w (drop 1 xs) && b) (fit_last m w (drop (line_size w) xs) ∙ rw (e, ← drop-drop (m * line_size w) (line_size w) xs) refl)
    ∙ and_assoc (cells_fit w (drop 1 xs)) (lines_fit m w (drop (line_size w) xs)) (cells_fit w (drop 1 (drop (suc m * line_size w) xs))))
  where
    and_assoc : (a b c : Bool) → (a && (b && c)) ≡ ((a && b) && c)
    and_assoc true b c = refl
    and_assoc false b c = refl

line_same : (ns : List ℕ) (w : ℕ) (xs ys : List ℕ) → ((t : ℕ) → t < line_size w → get_or ys t 0 ≡ get_or xs t 0) → line_in ns w ys ≡ line_in ns w xs
line_same ns w xs ys h = rw (h 0 (omega arith), cells_same w (drop 1 xs) (drop 1 ys) (λ t l. rw (get_or-drop 1 ys t 0, get_or-drop 1 xs t 0) (h (1 + t) (omega arith)))) refl

without_last : (ls : List Line) (l : Line) → without_never (ls ++ l ∷ []) ≡ without_never ls ++ (if (is_never l.if_so) [] (l ∷ []))
unfolding without_never
without_last [] l = refl
without_last (k ∷ ls) l = go (is_never k.if_so) (without_last ls l)
  where
    go : (b : Bool) → without_never (ls ++ l ∷ []) ≡ without_never ls ++ (if (is_never l.if_so) [] (l ∷ [])) →
        (if b (without_never (ls ++ l ∷ [])) (k ∷ without_never (ls ++ l ∷ []))) ≡ (if b (without_never ls) (k ∷ without_never ls)) ++ (if (is_never l.if_so) [] (l ∷ []))
    go true e = e
    go false e = ap (λ (ms : List Line). k ∷ ms) e

-- of one line more those not under never are moved to the front
pub dropped_none : (ns : List ℕ) (w : ℕ) (xs : List ℕ) → Dropped ns 0 w xs 0 xs
unfolding lines_in without_never
dropped_none ns w xs = record { few = omega arith; long = refl; lines = refl; cells = λ h. h; heads = λ j l. absurd (omega arith); past = λ k l. refl }

module _ (ns : List ℕ) (w i : ℕ) (xs : List ℕ) (m : ℕ) (ys : List ℕ) (d : Dropped ns i w xs m ys) where
  -- the condition of the next line
  next_if : get_or ys (i * line_size w) 0 ≡ get_or (drop (i * line_size w) xs) 0 0
  next_if = d.past (i * line_size w) (omega arith) ∙ sym (get_or-drop (i * line_size w) xs 0 0 ∙ ap (λ k. get_or xs k 0) (omega arith))

  pub next_left : is_never (cond_at ns (get_or ys (i * line_size w) 0)) ≡ true → Dropped ns (i + 1) w xs m ys
  next_left h = record {
    few = omega (arith, d.few);
    long = d.long;
    lines = d.lines ∙ sym (ap without_never (lines_last ns i w xs) ∙ (without_last (lines_in ns i w xs) (line_in ns w (drop (i * line_size w) xs)) ∙ rw (sym next_if, h) (append-nil (without_never (lines_in ns i w xs)))));
    cells = λ h. d.cells (and_parts _ _ (sym (fit_last i w xs) ∙ h)).0;
    heads = λ j l. let h = d.heads j l in (h.0, omega (arith, h.1), h.2);
    past = λ k l. d.past k (omega (arith, suc-mul i (line_size w), add-one i));
  }

  pub next_kept : is_never (cond_at ns (get_or ys (i * line_size w) 0)) ≡ false → (zs : List ℕ) → Moved (i * line_size w) (m * line_size w) (line_size w) ys zs → Dropped ns (i + 1) w xs (m + 1) zs
  next_kept h zs v = record {
    few = omega (arith, d.few);
    long = v.long ∙ d.long;
    lines = lines_last ns m w zs ∙ (front ∙ sym (ap without_never (lines_last ns i w xs) ∙ (without_last (lines_in ns i w xs) (line_in ns w (drop (i * line_size w) xs)) ∙ rw (sym next_if, h) refl)));
    cells = fitting;
    heads = λ j l. head j l (cases_lt j m);
    past = λ k l. v.past k (omega (arith, row m (i + 1) (line_size w) (omega (arith, d.few)))) ∙ d.past k (omega (arith, suc-mul i (line_size w), add-one i));
  }
    where
      fitting : lines_fit (i + 1) w xs ≡ true → lines_fit (m + 1) w zs ≡ true
      fitting h =
          let q : (lines_fit i w xs ≡ true) × (cells_fit w (drop 1 (drop (i * line_size w) xs)) ≡ true) = and_parts _ _ (sym (fit_last i w xs) ∙ h) in
          let here : cells_fit w (drop 1 (drop (m * line_size w) zs)) ≡ cells_fit w (drop 1 (drop (i * line_size w) xs)) =
          fits_same w (drop 1 (drop (i * line_size w) xs)) (drop 1 (drop (m * line_size w) zs)) (λ t l.
          get_or-drop 1 (drop (m * line_size w) zs) t 0 ∙ (get_or-drop (m * line_size w) zs (1 + t) 0
          ∙ (v.moved (1 + t) (omega arith) ∙ (d.past (i * line_size w + (1 + t)) (omega arith)
          ∙ sym (get_or-drop 1 (drop (i * line_size w) xs) t 0 ∙ get_or-drop (i * line_size w) xs (1 + t) 0))))) in
          fit_last m w zs ∙ and_from _ _ (lines_fit_same w m ys zs v.before ∙ d.cells q.0) (here ∙ q.1)

      head : (j : ℕ) → j < m + 1 → (j < m) ⊎ (m ≤ j) → (k : ℕ) × (k < i + 1) × (get_or zs (j * line_size w) 0 ≡ get_or xs (k * line_size w) 0)
      head j l (inl b) = let h = d.heads j b in (h.0, omega (arith, h.1), v.before (j * line_size w) (omega (arith, row j m (line_size w) b)) ∙ h.2)
      head j l (inr b) =
          let e : j ≡ m = omega arith in let z : (a : ℕ) → a + 0 ≡ a = λ a. omega arith in
          (i, omega arith, rw e ((rw (z (m * line_size w), z (i * line_size w)) at (v.moved 0 (omega arith))) ∙ d.past (i * line_size w) (omega arith)))

      front : lines_in ns m w zs ++ line_in ns w (drop (m * line_size w) zs) ∷ [] ≡ without_never (lines_in ns i w xs) ++ line_in ns w (drop (i * line_size w) xs) ∷ []
      front =
          let old : lines_in ns m w zs ≡ without_never (lines_in ns i w xs) = lines_same w ns m ys zs v.before ∙ d.lines in
          let new : line_in ns w (drop (m * line_size w) zs) ≡ line_in ns w (drop (i * line_size w) xs) =
          line_same ns w (drop (i * line_size w) xs) (drop (m * line_size w) zs) (λ t l.
          get_or-drop (m * line_size w) zs t 0 ∙ (v.moved t l ∙ (d.past (i * line_size w + t) (omega arith) ∙ sym (get_or-drop (i * line_size w) xs t 0)))) in
          cc (old, new)
