-- What reading a question passes over: six numbers a sign.
use Rattle.std.proofs.Common.{◌≡◌, ℕ, zero, suc, ◌+◌, ◌*◌, ◌≤◌, Bool, true, false, leb, List, length, get_or, drop, refl, arith, length-drop}
use Rattle.std.proofs.lemmas.Bool.{leb-true}
use Rattle.query.specs.Reading.{Sign, a_list, a_test, some_columns, a_join, a_union, a_without, no_sign, sign_in, Sized, Read, read, bad, then, check, by_sign, reads}

-- the numbers left and six for each sign passed are as many as there were
abbrev pub Placed : Read → ℕ → Type 0
Placed (read s next rest) total = length rest + 6 * next ≡ total
Placed (bad sign) total = Unit {0}

then_placed : (r : Read) (total : ℕ) (f : Sized → ℕ → List ℕ → Read) → Placed r total →
    ((s : Sized) (i : ℕ) (ys : List ℕ) → length ys + 6 * i ≡ total → Placed (f s i ys) total) → Placed (then r f) total
then_placed (read s i ys) total f p h = h s i ys p
then_placed (bad sign) total f p h = tt

check_placed : (b : Bool) (at total : ℕ) (r : Read) → Placed r total → Placed (check b at r) total
check_placed true at total r p = p
check_placed false at total r p = tt

module _ (ss : List (ℕ × ℕ)) (at total : ℕ) (go : ℕ → List ℕ → Read) (h : (i : ℕ) (ys : List ℕ) → length ys + 6 * i ≡ total → Placed (go i ys) total) where
  two_placed : (xs : List ℕ) (f : Sized → Sized → ℕ → List ℕ → Read) → length xs + 6 * suc at ≡ total →
      ((s t : Sized) (j : ℕ) (zs : List ℕ) → length zs + 6 * j ≡ total → Placed (f s t j zs) total) →
      Placed (then (go (suc at) xs) (λ s i ys. then (go i ys) (λ t j zs. f s t j zs))) total
  two_placed xs f p k = then_placed (go (suc at) xs) total _ (h (suc at) xs p) (λ s i ys q. then_placed (go i ys) total _ (h i ys q) (λ t j zs u. k s t j zs u))

  sign_placed : (sign : Sign) (xs : List ℕ) → length xs + 6 * suc at ≡ total → Placed (by_sign sign ss at xs go) total
  sign_placed (a_list t) xs p = check_placed _ at total (read _ (suc at) xs) p
  sign_placed (a_test t) xs p = then_placed (go (suc at) xs) total _ (h (suc at) xs p) (λ s i ys q. check_placed _ at total (read _ i ys) q)
  sign_placed (some_columns k ps) xs p = then_placed (go (suc at) xs) total _ (h (suc at) xs p) (λ s i ys q. check_placed _ at total (read _ i ys) q)
  sign_placed a_join xs p = two_placed xs _ p (λ s t j zs q. check_placed _ at total (read _ j zs) q)
  sign_placed a_union xs p = two_placed xs _ p (λ s t j zs q. check_placed _ at total (read _ j zs) q)
  sign_placed a_without xs p = two_placed xs _ p (λ s t j zs q. check_placed _ at total (read _ j zs) q)
  sign_placed no_sign xs p = tt

pub reads_placed : (n : ℕ) (ss : List (ℕ × ℕ)) (at total : ℕ) (xs : List ℕ) → length xs + 6 * at ≡ total → Placed (reads n ss at xs) total
unfolding reads
reads_placed zero ss at total xs p = tt
reads_placed (suc n) ss at total xs p = go (λ i ys q. reads_placed n ss i total ys q) (leb 6 (length xs)) refl
  where
    go : ((i : ℕ) (ys : List ℕ) → length ys + 6 * i ≡ total → Placed (reads n ss i ys) total) → (b : Bool) → leb 6 (length xs) ≡ b →
        Placed (mathlib.Core.Bool.cond b (by_sign (sign_in (get_or xs 0 0) (drop 1 xs)) ss at (drop 6 xs) (λ i ys. reads n ss i ys)) (bad at)) total
    go ih true e =
        let l : 6 ≤ length xs = leb-true 6 (length xs) e in
        sign_placed ss at total (λ i ys. reads n ss i ys) ih (sign_in (get_or xs 0 0) (drop 1 xs)) (drop 6 xs) (simp length-drop (omega arith))
    go ih false e = tt
