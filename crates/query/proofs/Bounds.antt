-- Sixteen signs hold at most eight lists: the lines and the cost of a question stay far below 2^64.
use Rattle.std.proofs.Common.{◌≡◌, ℕ, zero, suc, ◌+◌, ◌-◌, ◌*◌, ◌^◌, ◌<◌, ◌≤◌, Bool, true, false, cond as if, leb, List, length, get_or, take, drop, refl, ap, ◌∙◌, mul-le-mul, pow-suc, arith, length-drop, length-take, pow_mono, pow-add}
use Rattle.std.proofs.lemmas.Bool.{leb-true, and_parts}
use Rattle.list.specs.Layout.{shapes}
use Rattle.list.proofs.Fitting.{shapes_small, lists_passed}
use Rattle.query.specs.Reading.{FewLines, asked, sized, Sign, a_list, a_test, some_columns, a_join, a_union, a_without, no_sign, sign_in, Sized, of_list, of_test, of_columns, of_join, of_union, of_without, Read, read, bad, then, check, by_sign, reads}
use Rattle.query.proofs.Placed.{Placed, reads_placed}

-- a question of n signs, with at most h lists
pub record Fine (s : Sized) (n : ℕ) : Type 0 where
  pub h : ℕ
  pub some : 1 ≤ h
  pub half : 2 * h ≤ n + 1
  pub lines : s.lines ≤ 2 ^ (6 * h)
  pub width : s.width ≤ 8
  pub cost : s.cost ≤ n * (19 * 2 ^ 48)

-- a question that was read from sign number at on
abbrev FineFrom : ℕ → Read → Type 0
FineFrom at (read s next rest) = (n : ℕ) × (next ≡ at + n) × Fine s n
FineFrom at (bad sign) = Unit {0}

few : (h n : ℕ) → 2 * h ≤ n + 1 → n ≤ 16 → 2 ^ (6 * h) ≤ 2 ^ 48
few h n p q = let l : 6 * h ≤ 48 = omega arith in pow_mono l

product : (a b h k : ℕ) → a ≤ 2 ^ (6 * h) → b ≤ 2 ^ (6 * k) → a * b ≤ 2 ^ (6 * (h + k))
product a b h k p q =
    let e : 2 ^ (6 * (h + k)) ≡ 2 ^ (6 * h) * 2 ^ (6 * k) = ap (λ (x : ℕ). 2 ^ x) (omega arith) ∙ pow-add 2 (6 * h) (6 * k) in
    rw e (mul-le-mul p q)

sum : (a b h k : ℕ) → 1 ≤ h → 1 ≤ k → a ≤ 2 ^ (6 * h) → b ≤ 2 ^ (6 * k) → a + b ≤ 2 ^ (6 * (h + k))
sum a b h k one two p q =
    let e : ℕ = 6 * (h + k) - 1 in
    let l : 2 ^ (6 * h) ≤ 2 ^ e = pow_mono {j = e} (omega arith) in
    let m : 2 ^ (6 * k) ≤ 2 ^ e = pow_mono {j = e} (omega arith) in
    let d : 2 ^ (6 * (h + k)) ≡ 2 ^ e * 2 = ap (λ (x : ℕ). 2 ^ x) (omega arith) ∙ pow-suc 2 e in
    omega (arith, d, l, m)

fine_list : (t : ℕ) (shape : ℕ × ℕ) → shape.0 ≤ 64 → shape.1 ≤ 4 → Fine (of_list t shape) 1
fine_list t shape p q = record { h = 1; some = omega arith; half = omega arith; lines = p; width = omega arith; cost = omega arith }

fine_test : (t : _) (s : Sized) (n : ℕ) → n < 16 → Fine s n → Fine (of_test t s) (suc n)
fine_test t s n l f =
    let few : 2 ^ (6 * f.h) ≤ 2 ^ 48 = few f.h n f.half (omega arith) in
    record { h = f.h; some = f.some; half = omega (arith, f.half); lines = f.lines; width = f.width; cost = omega (arith, f.cost, f.lines) }

fine_columns : (k : ℕ) (ps : List ℕ) (s : Sized) (n : ℕ) → k ≤ 4 → Fine s n → Fine (of_columns k ps s) (suc n)
fine_columns k ps s n l f =
    record { h = f.h; some = f.some; half = omega (arith, f.half); lines = f.lines; width = omega arith; cost = omega (arith, f.cost) }

module _ (s t : Sized) (n m : ℕ) (l : n + m < 16) (f : Fine s n) (g : Fine t m) where
  halves : 2 * (f.h + g.h) ≤ suc (n + m) + 1
  halves = omega (arith, f.half, g.half)

  pairs : s.lines * t.lines ≤ 2 ^ (6 * (f.h + g.h))
  pairs = product s.lines t.lines f.h g.h f.lines g.lines

  pairs_few : s.lines * t.lines ≤ 2 ^ 48
  pairs_few = let p = pairs in let q = few (f.h + g.h) (suc (n + m)) halves (omega arith) in omega (arith, p, q)

  fine_join : s.width + t.width ≤ 8 → Fine (of_join s t) (suc (n + m))
  fine_join w = record { h = f.h + g.h; some = omega (arith, f.some); half = halves; lines = pairs; width = w; cost = omega (arith, f.cost, g.cost, pairs_few) }

  fine_union : Fine (of_union s t) (suc (n + m))
  fine_union = record { h = f.h + g.h; some = omega (arith, f.some); half = halves; lines = sum s.lines t.lines f.h g.h f.some g.some f.lines g.lines; width = f.width; cost = omega (arith, f.cost, g.cost) }

  fine_without : Fine (of_without s t) (suc (n + m))
  fine_without =
      let w : 2 * s.width + 3 ≤ 19 = omega (arith, f.width) in
      let c : s.lines * t.lines * (2 * s.width + 3) ≤ 2 ^ 48 * 19 = mul-le-mul pairs_few w in
      record { h = f.h; some = f.some; half = omega (arith, f.half); lines = f.lines; width = f.width; cost = omega (arith, f.cost, g.cost, c) }

-- every list has at most 64 lines and 4 columns
abbrev pub Small : List (ℕ × ℕ) → Type 0
Small ss = (t : ℕ) → ((get_or ss t (0, 0)).0 ≤ 64) × ((get_or ss t (0, 0)).1 ≤ 4)

check_fine : (b : Bool) (at from : ℕ) (r : Read) → (b ≡ true → FineFrom from r) → FineFrom from (check b at r)
check_fine true at from r h = h refl
check_fine false at from r h = tt

then_fine : (r : Read) (from to total : ℕ) (f : Sized → ℕ → List ℕ → Read) → FineFrom to r → Placed r total →
    ((s : Sized) (n : ℕ) (ys : List ℕ) → length ys + 6 * (to + n) ≡ total → Fine s n → FineFrom from (f s (to + n) ys)) → FineFrom from (then r f)
then_fine (read s i ys) from to total f g p h = rw g.1 (h s g.0 ys (rw g.1 at p) g.2)
then_fine (bad sign) from to total f g p h = tt

-- at most sixteen signs
module _ (m : ℕ) (ss : List (ℕ × ℕ)) (small : Small ss) (at total : ℕ) (low : total ≤ 96)
    (ih : (i : ℕ) (ys : List ℕ) → length ys + 6 * i ≡ total → FineFrom i (reads m ss i ys)) where
  one_fine : (xs : List ℕ) (f : Sized → ℕ → List ℕ → Read) → length xs + 6 * suc at ≡ total →
      ((s : Sized) (n : ℕ) (ys : List ℕ) → at + n < 16 → Fine s n → FineFrom at (f s (suc at + n) ys)) → FineFrom at (then (reads m ss (suc at) xs) f)
  one_fine xs f p h =
      then_fine (reads m ss (suc at) xs) at (suc at) total f (ih (suc at) xs p) (reads_placed m ss (suc at) total xs p) (λ s n ys q g. h s n ys (omega arith) g)

  two_fine : (xs : List ℕ) (f : Sized → Sized → ℕ → List ℕ → Read) → length xs + 6 * suc at ≡ total →
      ((s t : Sized) (n k : ℕ) (zs : List ℕ) → at + (n + k) < 16 → Fine s n → Fine t k → FineFrom at (f s t (suc at + n + k) zs)) →
      FineFrom at (then (reads m ss (suc at) xs) (λ s i ys. then (reads m ss i ys) (λ t j zs. f s t j zs)))
  two_fine xs f p h =
      then_fine (reads m ss (suc at) xs) at (suc at) total _ (ih (suc at) xs p) (reads_placed m ss (suc at) total xs p) (λ s n ys q g.
      then_fine (reads m ss (suc at + n) ys) at (suc at + n) total _ (ih (suc at + n) ys q) (reads_placed m ss (suc at + n) total ys q) (λ t k zs u e.
      h s t n k zs (omega arith) g e))

  sign_fine : (sign : Sign) (xs : List ℕ) → length xs + 6 * suc at ≡ total → FineFrom at (by_sign sign ss at xs (λ i ys. reads m ss i ys))
  sign_fine (a_list t) xs p = check_fine _ at at (read _ (suc at) xs) (λ e. (1, omega arith, fine_list t (get_or ss t (0, 0)) (small t).0 (small t).1))
  sign_fine (a_test t) xs p = one_fine xs _ p (λ s n ys l f. check_fine _ at at (read _ (suc at + n) ys) (λ e. (suc n, omega arith, fine_test t s n (omega arith) f)))
  sign_fine (some_columns k ps) xs p =
      one_fine xs _ p (λ s n ys l f. check_fine _ at at (read _ (suc at + n) ys) (λ e.
      (suc n, omega arith, fine_columns k ps s n (leb-true k 4 (and_parts _ _ (and_parts _ _ e).1).0) f)))
  sign_fine a_join xs p =
      two_fine xs _ p (λ s t n k zs l f g. check_fine _ at at (read _ (suc at + n + k) zs) (λ e.
      (suc (n + k), omega arith, fine_join s t n k (omega arith) f g (leb-true (s.width + t.width) 8 e))))
  sign_fine a_union xs p = two_fine xs _ p (λ s t n k zs l f g. check_fine _ at at (read _ (suc at + n + k) zs) (λ e. (suc (n + k), omega arith, fine_union s t n k (omega arith) f g)))
  sign_fine a_without xs p = two_fine xs _ p (λ s t n k zs l f g. check_fine _ at at (read _ (suc at + n + k) zs) (λ e. (suc (n + k), omega arith, fine_without s t n k (omega arith) f g)))
  sign_fine no_sign xs p = tt

reads_fine : (m : ℕ) (ss : List (ℕ × ℕ)) → Small ss → (at total : ℕ) → total ≤ 96 → (xs : List ℕ) → length xs + 6 * at ≡ total → FineFrom at (reads m ss at xs)
unfolding reads
reads_fine zero ss small at total low xs p = tt
reads_fine (suc m) ss small at total low xs p = go (λ i ys q. reads_fine m ss small i total low ys q) (leb 6 (length xs)) refl
  where
    go : ((i : ℕ) (ys : List ℕ) → length ys + 6 * i ≡ total → FineFrom i (reads m ss i ys)) → (b : Bool) → leb 6 (length xs) ≡ b →
        FineFrom at (if b (by_sign (sign_in (get_or xs 0 0) (drop 1 xs)) ss at (drop 6 xs) (λ i ys. reads m ss i ys)) (bad at))
    go ih true e =
        let l : 6 ≤ length xs = leb-true 6 (length xs) e in
        sign_fine m ss small at total low ih (sign_in (get_or xs 0 0) (drop 1 xs)) (drop 6 xs) (simp length-drop (omega arith))
    go ih false e = tt

-- what is known of a question that was read
pub record Bounded (s : Sized) (at next : ℕ) : Type 0 where
  pub ahead : at < next
  pub within : next ≤ 16
  pub lines : s.lines ≤ 2 ^ 48
  pub width : s.width ≤ 8
  pub cost : s.cost ≤ 2 ^ 57
  pub fine : Fine s (next - at)

pub reads_bounded : (m : ℕ) (ss : List (ℕ × ℕ)) → Small ss → (at : ℕ) (xs : List ℕ) → 6 * at + length xs ≤ 96 → (s : Sized) (next : ℕ) (rest : List ℕ) →
    reads m ss at xs ≡ read s next rest → Bounded s at next × (6 * next + length rest ≤ 96)
reads_bounded m ss small at xs low s next rest e =
    let f : (n : ℕ) × (next ≡ at + n) × Fine s n = rw e at (reads_fine m ss small at (length xs + 6 * at) (omega arith) xs refl) in
    let p : length rest + 6 * next ≡ length xs + 6 * at = rw e at (reads_placed m ss at (length xs + 6 * at) xs refl) in
    let n : ℕ = f.0 in
    let l : n ≤ 16 = omega (arith, f.1, p) in
    let g : Fine s n = f.2 in
    let k : 2 ^ (6 * g.h) ≤ 2 ^ 48 = few g.h n g.half l in
    let d : n ≡ next - at = omega (arith, f.1) in (
      record {
        ahead = omega (arith, f.1, g.half, g.some);
        within = omega (arith, p);
        lines = omega (arith, g.lines, k);
        width = g.width;
        cost = omega (arith, g.cost);
        fine = rw d at g;
      },
      omega (arith, p),
    )

-- the lines of two questions behind one sign
pub pairs_bounded : (s t : Sized) (at i j : ℕ) → at < i → i < j → j ≤ 16 → Fine s (i - (at + 1)) → Fine t (j - i) → s.lines * t.lines ≤ 2 ^ 48
pairs_bounded s t at i j a b l f g = pairs_few s t (i - (at + 1)) (j - i) (omega arith) f g

pub few_lines : FewLines
few_lines lists signs e =
    go (asked lists signs)
    (reads_fine 16 (shapes lists) (shapes_small (get_or lists 0 0) (drop 2 lists) (lists_passed lists e)) 0 (length (take 96 signs)) low (take 96 signs) (omega arith))
    (reads_placed 16 (shapes lists) 0 (length (take 96 signs)) (take 96 signs) (omega arith))
  where
    low : length (take 96 signs) ≤ 96
    low = simp length-take (omega arith)

    go : (r : Read) → FineFrom 0 r → Placed r (length (take 96 signs)) → ((sized r).lines ≤ 2 ^ 48) × ((sized r).cost < 2 ^ 57)
    go (read s next rest) f p =
        let n : ℕ = f.0 in
        let l : n ≤ 16 = omega (arith, low, f.1) in
        let g : Fine s n = f.2 in
        let m : 2 ^ (6 * g.h) ≤ 2 ^ 48 = few g.h n g.half l in
        (omega (arith, g.lines, m), omega (arith, g.cost))
    go (bad sign) f p = (omega arith, omega arith)
