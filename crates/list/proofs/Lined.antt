-- Lines one after the other, by their place.
use Rattle.std.proofs.Common.{◌≡◌, ℕ, zero, suc, ◌+◌, ◌-◌, ◌*◌, ◌<◌, ◌≤◌, ltb, List, [], ◌∷◌, ◌++◌, length, get_or, take, drop, reverse, Some, None, Option, refl, ap, ◌∙◌, suc-mul, zero-mul, arith}
use Rattle.std.proofs.lemmas.List.{drop-drop, get_or-take, reverse-append, get_or-reverse, length-reverse}
use Rattle.std.specs.List.{list_all}
use Rattle.std.specs.Iterator.{Yields, YieldsFirstBy, YieldsLastBy}
use Rattle.std.specs.Iterator.Adapters.{rev_source, rev_steps}
use Rattle.std.specs.declared.iter.Rev.{Rev}
use Rattle.std.proofs.lemmas.Iterator.{YieldsList}
use Rattle.std.proofs.lemmas.Iterator.Consumers.{YieldsList-from_first, YieldsList-from_shown, YieldsList-turn, YieldsList-end}
use Rattle.std.specs.Simd.{first_chunks}
use Rattle.list.specs.Layout.{line_size, cell_fits, cells_fit, lines_fit, lines_named}
use Rattle.list.specs.Lines.{starts, shown, lines_left}
use Rattle.list.specs.declared.lines.Line.{Line}
use Rattle.list.specs.declared.lines.Lines.{Lines}

pub length_starts : (n w : ℕ) (xs : List ℕ) → length (starts n w xs) ≡ n
unfolding starts
length_starts zero w xs = refl
length_starts (suc n) w xs = ap suc (length_starts n w (drop (line_size w) xs))

pub start_at : (n w i : ℕ) (xs : List ℕ) (d : ℕ × List ℕ) → i < n → get_or (starts n w xs) i d ≡ (w, drop (i * line_size w) xs)
unfolding starts
start_at zero w i xs d l = absurd (omega arith)
start_at (suc n) w zero xs d l = rw (zero-mul (line_size w)) refl
start_at (suc n) w (suc i) xs d l =
    let e : suc i * line_size w ≡ line_size w + i * line_size w = suc-mul i (line_size w) ∙ omega arith in
    start_at n w i (drop (line_size w) xs) d (omega arith) ∙ rw (e, ← drop-drop (i * line_size w) (line_size w) xs) refl

pub starts_last : (n w : ℕ) (xs : List ℕ) → starts (suc n) w xs ≡ starts n w xs ++ (w, drop (n * line_size w) xs) ∷ []
unfolding starts
starts_last zero w xs = rw (zero-mul (line_size w)) refl
starts_last (suc n) w xs =
    let e : suc n * line_size w ≡ line_size w + n * line_size w = suc-mul n (line_size w) ∙ omega arith in
    ap (λ t. (w, xs) ∷ t) (starts_last n w (drop (line_size w) xs) ∙ rw (e, ← drop-drop (n * line_size w) (line_size w) xs) refl)

-- a test of each line
pub starts_fit : (n w : ℕ) (xs : List ℕ) → list_all (λ p. cells_fit p.0 (drop 1 p.1)) (starts n w xs) ≡ lines_fit n w xs
unfolding starts lines_fit
starts_fit zero w xs = refl
starts_fit (suc n) w xs = rw (starts_fit n w (drop (line_size w) xs)) refl

pub starts_named : (c n w : ℕ) (xs : List ℕ) → list_all (λ p. ltb (get_or p.1 0 0) c) (starts n w xs) ≡ lines_named c n w xs
unfolding starts lines_named
starts_named c zero w xs = refl
starts_named c (suc n) w xs = rw (starts_named c n w (drop (line_size w) xs)) refl

-- cells two numbers each
pub chunks_fit : (w k : ℕ) (xs : List ℕ) → w ≤ k → list_all (λ cell. cell_fits (get_or cell 0 0) (get_or cell 1 0)) (take w (first_chunks 2 k xs)) ≡ cells_fit w xs
unfolding cells_fit
chunks_fit zero k xs l = refl
chunks_fit (suc w) zero xs l = absurd (omega arith)
chunks_fit (suc w) (suc k) xs l =
    rw (get_or-take 2 xs 0 0 (omega arith), get_or-take 2 xs 1 0 (omega arith), chunks_fit w k (drop 2 xs) (omega arith)) refl

-- a loop over lines: the line at hand, and the end
module _ (n w : ℕ) (xs : List ℕ) (s t u : Lines) (ys : List Line) (r : Option Line)
    (all : lines_left s ≡ starts n w xs) (before : Yields (YieldsFirstBy shown lines_left) s ys t) (step : YieldsFirstBy shown lines_left t r u) where
  pub line_turn : (line : Line) → r ≡ Some line → (length ys < n) × ((line.width ≡ w) × (line.numbers.now ≡ drop (length ys * line_size w) xs))
  line_turn line o =
      let k = YieldsList-turn (YieldsList-from_first shown lines_left (starts n w xs) all) ys t before r u line o step in
      let l : length ys < n = rw (length_starts n w xs) at k.0 in
      let e : shown line ≡ (w, drop (length ys * line_size w) xs) = k.1 ∙ start_at n w (length ys) xs (shown line) l in
      (l, (ap (λ p. p.0) e, ap (λ p. p.1) e))

  pub line_end : r ≡ None → length ys ≡ n
  line_end o = (YieldsList-end (YieldsList-from_first shown lines_left (starts n w xs) all) ys t before r u o step).1 ∙ length_starts n w xs

-- the same from the back: the line at hand is the last of those that are left
back_road : (s : Rev Lines) → YieldsList (rev_steps (YieldsLastBy shown lines_left)) shown s (reverse (lines_left (rev_source s)))
back_road = YieldsList-from_shown (rev_steps (YieldsLastBy shown lines_left)) shown (λ s. reverse (lines_left (rev_source s)))
    (λ s t e. rw e.0 refl)
    (λ s x t e. rw e (reverse-append (lines_left (rev_source t)) (shown x ∷ [])))

module _ (n w : ℕ) (xs : List ℕ) (s t u : Rev Lines) (ys : List Line) (r : Option Line)
    (all : lines_left (rev_source s) ≡ starts n w xs) (before : Yields (rev_steps (YieldsLastBy shown lines_left)) s ys t) (step : rev_steps (YieldsLastBy shown lines_left) t r u) where
  pub back_turn : (line : Line) → r ≡ Some line → (length ys < n) × ((line.width ≡ w) × (line.numbers.now ≡ drop ((n - 1 - length ys) * line_size w) xs))
  back_turn line o =
      let k = YieldsList-turn (back_road s) ys t before r u line o step in
      let l : length ys < n = rw (all, length-reverse, length_starts n w xs) at k.0 in
      let m : length ys < length (starts n w xs) = rw (length_starts n w xs) l in
      let e : shown line ≡ (w, drop ((n - 1 - length ys) * line_size w) xs) =
      rw (all, get_or-reverse (starts n w xs) (length ys) (shown line) m, length_starts n w xs) at k.1 ∙ start_at n w (n - 1 - length ys) xs (shown line) (omega arith) in
      (l, (ap (λ p. p.0) e, ap (λ p. p.1) e))

  pub back_end : r ≡ None → length ys ≡ n
  back_end o = rw (all, length-reverse, length_starts n w xs) at (YieldsList-end (back_road s) ys t before r u o step).1
