-- Any few lists as one list with gaps: gap 0 says which, and a number past the last counts as the last.
use Rattle.std.proofs.Common.{◌≡◌, ℕ, zero, suc, ◌+◌, ◌<◌, Bool, true, false, cond as if, not, ◌&&◌, eqb, List, [], ◌∷◌, ◌++◌, length, get_or, refl, ap, ◌∙◌, arith}
use Rattle.std.proofs.lemmas.Bool.{eq-eqb, ne_eqb}
use Rattle.condition.specs.Cond.{Cell, known, gap, Cond, always, equal, not_so, both}
use Rattle.evaluate.specs.Filling.{Filling, holds}
use Rattle.list.specs.Lists.{Line, Row, fill_cells, filled, stands, AllAtOnce}
use Rattle.list.proofs.Filling.{filled_app}

as_cells : Row → List Cell
as_cells [] = []
as_cells (n ∷ r) = known n ∷ as_cells r

fill_as_cells : (v : Filling) (r : Row) → fill_cells v (as_cells r) ≡ r
unfolding fill_cells as_cells
fill_as_cells v [] = refl
fill_as_cells v (n ∷ r) = ap (λ (s : Row). n ∷ s) (fill_as_cells v r)

under : Cond → List Row → List Line
under c [] = []
under c (r ∷ rs) = record { cells = as_cells r; if_so = c } ∷ under c rs

filled_under : (v : Filling) (c : Cond) (rs : List Row) → filled v (under c rs) ≡ if (holds v c) rs []
unfolding filled under
filled_under v c [] = go (holds v c)
  where
    go : (b : Bool) → ◌≡◌ {A = List Row} [] (if b [] [])
    go true = refl
    go false = refl
filled_under v c (r ∷ rs) = simp (filled_under v c rs, fill_as_cells) (go (holds v c))
  where
    go : (b : Bool) → if b (r ∷ if b rs []) (if b rs []) ≡ if b (r ∷ rs) []
    go true = refl
    go false = refl

all_of : ℕ → Cond → List Row → List (List Row) → List Line
all_of i c w [] = under c w
all_of i c w (u ∷ us) = under (both c (equal (gap 0) (known i))) w ++ all_of (suc i) (both c (not_so (equal (gap 0) (known i)))) u us

-- which of them the number x is
which : ℕ → ℕ → List (List Row) → ℕ
which i x [] = 0
which i x (u ∷ us) = if (eqb x i) 0 (suc (which (suc i) x us))

app_none : (xs : List Row) → xs ++ [] ≡ xs
app_none [] = refl
app_none (x ∷ xs) = ap (λ (s : List Row). x ∷ s) (app_none xs)

all_filled_as : (v : Filling) (i : ℕ) (c : Cond) (w : List Row) (us : List (List Row)) → filled v (all_of i c w us) ≡ if (holds v c) (get_or (w ∷ us) (which i (v 0) us) []) []
unfolding all_of which holds
all_filled_as v i c w [] = filled_under v c w
all_filled_as v i c w (u ∷ us) =
    filled_app v (under (both c (equal (gap 0) (known i))) w) (all_of (suc i) (both c (not_so (equal (gap 0) (known i)))) u us)
    ∙ (cc (filled_under v (both c (equal (gap 0) (known i))) w, all_filled_as v (suc i) (both c (not_so (equal (gap 0) (known i)))) u us)
    ∙ go (holds v c) (eqb (v 0) i))
  where
    n : ℕ
    n = which (suc i) (v 0) us

    go : (b e : Bool) → if (b && e) w [] ++ if (b && not e) (get_or (u ∷ us) n []) [] ≡ if b (get_or (w ∷ (u ∷ us)) (if e 0 (suc n)) []) []
    go true true = app_none w
    go true false = refl
    go false e = refl

which_in : (i x : ℕ) (us : List (List Row)) → which i x us < suc (length us)
unfolding which
which_in i x [] = omega arith
which_in i x (u ∷ us) = go (eqb x i) (which_in (suc i) x us)
  where
    go : (b : Bool) → which (suc i) x us < suc (length us) → if b 0 (suc (which (suc i) x us)) < suc (suc (length us))
    go true h = omega arith
    go false h = omega arith

which_is : (i j x : ℕ) (us : List (List Row)) → x ≡ i + j → j < suc (length us) → which i x us ≡ j
unfolding which
which_is i j x [] e h = omega arith
which_is i zero x (u ∷ us) e h = rw (eq-eqb x i (omega arith))
which_is i (suc j) x (u ∷ us) e h = rw (ne_eqb x i (λ p. omega arith)) (ap suc (which_is (suc i) j x us (omega arith) (omega arith)))

pub all_at_once : AllAtOnce
unfolding holds
all_at_once [] h = absurd (omega arith)
all_at_once (w ∷ us) h = (
  all_of 0 always w us,
  λ i l. (λ k. i, λ r. ap (stands r) (all_filled_as (λ k. i) 0 always w us ∙ ap (λ (n : ℕ). get_or (w ∷ us) n []) (which_is 0 i i us (omega arith) l))),
  λ v. (which 0 (v 0) us, which_in 0 (v 0) us, λ r. ap (stands r) (all_filled_as v 0 always w us)),
)
