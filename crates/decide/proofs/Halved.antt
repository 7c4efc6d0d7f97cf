-- Rows in two halves.
use Rattle.std.proofs.Common.{◌≡◌, ℕ, ◌-◌, ◌<◌, ◌≤◌, ◌⊎◌, List, length, take, drop, ap, ◌∙◌, inl, inr, arith, length-drop}
use Rattle.std.proofs.lemmas.Bool.{cases_lt, lt-ltb, le-ltb}
use Rattle.std.proofs.lemmas.List.{get_or-take, get_or-drop, length-take-le}
use Rattle.condition.specs.Cond.{Cond}
use Rattle.evaluate.specs.Filling.{holds}
use Rattle.decide.specs.Bit.{wide}
use Rattle.decide.specs.Leaves.{Holds}
use Rattle.decide.specs.Rows.{filling_of, row, blank}
use Rattle.decide.specs.declared.rows.Row.{Row}
use Rattle.decide.specs.declared.words.Pair.{Pair}

pub halved : (gs : List ℕ) (rows : List Row) (n : ℕ) (w : Pair) (c : Cond) → n ≤ 256 → n ≤ length rows → (n < 256 → n ≡ length rows) →
    Holds gs (take n rows) w.first c → Holds gs (drop n rows) w.second c → (l : ℕ) → l < length rows → wide w l ≡ holds (row gs rows l) c
halved gs rows n w c few low all first second l h = by (cases_lt l 256)
  where
    by : (l < 256) ⊎ (256 ≤ l) → wide w l ≡ holds (row gs rows l) c
    by (inl b) =
        let i : l < n = here (cases_lt n 256) in
        rw (lt-ltb l 256 b) (first l (omega (arith, length-take-le n rows low)) ∙ ap (λ (r : Row). holds (filling_of gs r) c) (get_or-take n rows l blank i))
      where
        here : (n < 256) ⊎ (256 ≤ n) → l < n
        here (inl m) = omega (arith, all m)
        here (inr m) = omega arith
    by (inr b) =
        let e : n ≡ 256 = full (cases_lt n 256) in
        rw (le-ltb l 256 b)
        (second (l - 256) (omega (arith, length-drop n rows)) ∙ (ap (λ (r : Row). holds (filling_of gs r) c) (get_or-drop n rows (l - 256) blank) ∙ ap (λ (i : ℕ). holds (row gs rows i) c) (omega arith)))
      where
        full : (n < 256) ⊎ (256 ≤ n) → n ≡ 256
        full (inl m) = absurd (omega (arith, all m))
        full (inr m) = omega arith
