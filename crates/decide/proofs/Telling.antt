-- What is told of the gaps and numbers that decide a row.
use Rattle.std.proofs.Common.{◌≡◌, ℕ, ◌+◌, ◌^◌, ◌<◌, ◌≤◌, List, Bool, ◌++◌, length, Some, None, sym, refl, ap, ◌∙◌, arith}
use Rattle.std.proofs.lemmas.Bool.{le-leb, lt-leb}
use Rattle.condition.specs.Cond.{numbers_in, has, Within}
use Rattle.condition.specs.Store.{count}
use Rattle.decide.specs.Counting.{counted}
use Rattle.decide.specs.Noting.{gap_noted, gaps_noted, numbers_noted}
use Rattle.decide.specs.Reaching.{marked_cells}
use Rattle.decide.specs.Sought.{known_of, deciding_of}
use Rattle.decide.specs.Standing.{gaps_named, numbers_named, nine_told}
use Rattle.decide.specs.Surveying.{numbers_for, gaps_for, Surveyed}
use Rattle.decide.specs.declared.noting.Notes.{Notes}
use Rattle.decide.specs.declared.sought.Sought.{Sought}
use Rattle.decide.proofs.Counted.{counted_same, counted_listed, counted_apart}
use Rattle.decide.proofs.Passing.{length-passing_below}
use Rattle.decide.proofs.Surveyed.{numbers_met_are, gaps_met_are}

module _ (q : Sought) (ms : List Bool) (s : Notes) (y : Surveyed q ms s) where
  abbrev gaps : ℕ
  gaps = gaps_named (known_of q) (deciding_of q)

  abbrev numbers : ℕ
  numbers = numbers_named (known_of q) (deciding_of q) q.row.now

  gaps_are : length (gaps_noted s) ≡ gaps
  gaps_are = length-passing_below 64 (gap_noted s) ∙ counted_same 64 (gap_noted s) (has (gaps_for q)) (λ k l. y.noted.gaps k ∙ ap (λ t. has t k) (gaps_met_are q))

  numbers_are : counted (2 ^ 64) (has (numbers_in (marked_cells q.nodes.now ms (count q.nodes.now)) ++ q.row.now)) ≡ numbers
  numbers_are = counted_same (2 ^ 64) (has (numbers_in (marked_cells q.nodes.now ms (count q.nodes.now)) ++ q.row.now)) (has (numbers_for q)) (λ n l. y.numbers n)

  -- too many gaps
  pub told_gaps : (g : ℕ) → g ≡ length (gaps_noted s) → 6 < g → Some (9, g) ≡ nine_told (known_of q) (deciding_of q) q.row.now
  told_gaps g e l =
      let f : g ≡ gaps = e ∙ gaps_are in
      rw (lt-leb gaps 6 (omega arith)) (ap (λ t. Some (9, t)) f)

  -- too many numbers
  pub told_numbers : (g x : ℕ) → g ≡ length (gaps_noted s) → g ≤ 6 → 8 < length (numbers_noted s) →
      x ≡ counted (2 ^ 64) (has (numbers_in (marked_cells q.nodes.now ms (count q.nodes.now)) ++ q.row.now)) → Some (9, 64 + x) ≡ nine_told (known_of q) (deciding_of q) q.row.now
  unfolding Within
  told_numbers g x e l m f =
      let i : x ≡ numbers = f ∙ numbers_are in
      let k : length (numbers_noted s) ≤ numbers =
      counted_apart (2 ^ 64) (has (numbers_for q)) (numbers_noted s) y.noted.apart y.noted.low (λ n o. ap (λ t. has t n) (sym (numbers_met_are q)) ∙ y.noted.only n o) in
      rw (le-leb gaps 6 (omega (arith, gaps_are)), lt-leb numbers 8 (omega arith)) (ap (λ t. Some (9, 64 + t)) i)

  -- few enough of both
  pub told_few : (g : ℕ) → g ≡ length (gaps_noted s) → g ≤ 6 → length (numbers_noted s) ≤ 8 → None ≡ nine_told (known_of q) (deciding_of q) q.row.now
  unfolding Within
  told_few g e l m =
      let k : numbers ≤ 8 = omega (arith, counted_listed (2 ^ 64) (has (numbers_for q)) (numbers_noted s) (λ n o. y.noted.all (omega arith) n (ap (λ t. has t n) (numbers_met_are q) ∙ o))) in
      rw (le-leb gaps 6 (omega (arith, gaps_are)), le-leb numbers 8 k) refl
