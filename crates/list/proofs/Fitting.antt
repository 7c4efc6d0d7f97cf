-- What is known of lists that are not refused.
use Rattle.std.proofs.Common.{◌≡◌, ℕ, zero, suc, ◌+◌, ◌-◌, ◌<◌, ◌≤◌, Bool, true, false, cond as if, eqb, ltb, leb, List, length, get_or, drop, None, refl, arith, length-drop}
use Rattle.std.proofs.lemmas.List.{drop-drop}
use Rattle.std.proofs.lemmas.Bool.{ltb-true, leb-true, eqb-true, and_parts}
use Rattle.condition.specs.Refusals.{unless}
use Rattle.condition.proofs.Refusing.{first_none, unless_none}
use Rattle.list.specs.Layout.{lines_at, columns_at, list_size, list_fits, Fits, passing, AtEach, all_pass, lists_told, list_named, named_below, shapes_in}

-- a list that fits has these bounds
pub fits : (xs : List ℕ) → list_fits xs ≡ true → Fits xs
unfolding list_fits
fits xs e =
    let a : (leb 2 (length xs) ≡ true) × _ = and_parts (leb 2 (length xs)) _ e in
    let b : (leb (lines_at xs) 64 ≡ true) × _ = and_parts (leb (lines_at xs) 64) _ a.1 in
    let c : (leb 1 (columns_at xs) ≡ true) × _ = and_parts (leb 1 (columns_at xs)) _ b.1 in
    let d : (leb (columns_at xs) 4 ≡ true) × _ = and_parts (leb (columns_at xs) 4) _ c.1 in
    let f : (leb (list_size xs) (length xs) ≡ true) × _ = and_parts (leb (list_size xs) (length xs)) _ d.1 in
    record {
      some = leb-true 2 (length xs) a.0;
      lines = leb-true (lines_at xs) 64 b.0;
      wide = leb-true 1 (columns_at xs) c.0;
      narrow = leb-true (columns_at xs) 4 d.0;
      whole = leb-true (list_size xs) (length xs) f.0;
      cells = f.1;
    }

-- all of k+1 lists pass: the first does, and the others do
pub pass_parts : (ok : List ℕ → Bool) (k : ℕ) (xs : List ℕ) → passing ok (suc k) xs ≡ suc k → (ok xs ≡ true) × (passing ok k (drop (list_size xs) xs) ≡ k)
unfolding passing
pass_parts ok k xs e = go (ok xs) refl e
  where
    go : (b : Bool) → ok xs ≡ b → if b (suc (passing ok k (drop (list_size xs) xs))) 0 ≡ suc k → (ok xs ≡ true) × (passing ok k (drop (list_size xs) xs) ≡ k)
    go true t u = (t, omega arith)
    go false t u = absurd (omega arith)

pub shapes_small : (k : ℕ) (xs : List ℕ) → passing list_fits k xs ≡ k → (t : ℕ) → ((get_or (shapes_in k xs) t (0, 0)).0 ≤ 64) × ((get_or (shapes_in k xs) t (0, 0)).1 ≤ 4)
unfolding shapes_in
shapes_small zero xs e t = (omega arith, omega arith)
shapes_small (suc k) xs e zero = let f : Fits xs = fits xs (pass_parts list_fits k xs e).0 in (f.lines, f.narrow)
shapes_small (suc k) xs e (suc t) = shapes_small k (drop (list_size xs) xs) (pass_parts list_fits k xs e).1 t

pub all_passed : (ok : List ℕ → Bool) (lists : List ℕ) (n : ℕ) → all_pass ok lists n ≡ None → passing ok (get_or lists 0 0) (drop 2 lists) ≡ get_or lists 0 0
unfolding all_pass
all_passed ok lists n e =
    eqb-true (passing ok (get_or lists 0 0) (drop 2 lists)) (get_or lists 0 0)
    (unless_none (eqb (passing ok (get_or lists 0 0) (drop 2 lists)) (get_or lists 0 0)) n (passing ok (get_or lists 0 0) (drop 2 lists)) e)

pub lists_passed : (lists : List ℕ) → lists_told lists ≡ None → passing list_fits (get_or lists 0 0) (drop 2 lists) ≡ get_or lists 0 0
lists_passed lists e =
    let p : (unless (leb 1 (get_or lists 0 0)) 1 0 ≡ None) × _ = first_none (unless (leb 1 (get_or lists 0 0)) 1 0) _ e in
    all_passed list_fits lists 1 (first_none (unless (leb (get_or lists 0 0) 8) 1 8) (all_pass list_fits lists 1) p.1).1

-- what lists that are not refused have: 1 to 8 lists, and room for the count, the node and the first list's shape
pub record Fitted (lists : List ℕ) : Type 0 where
  pub some : 1 ≤ get_or lists 0 0
  pub few : get_or lists 0 0 ≤ 8
  pub long : 4 ≤ length lists
  pub passed : passing list_fits (get_or lists 0 0) (drop 2 lists) ≡ get_or lists 0 0

pub passed_long : (k : ℕ) (xs : List ℕ) → 1 ≤ k → passing list_fits k xs ≡ k → 2 ≤ length xs
passed_long zero xs l e = absurd (omega arith)
passed_long (suc k) xs l e = (fits xs (pass_parts list_fits k xs e).0).some

pub fitted : (lists : List ℕ) → lists_told lists ≡ None → Fitted lists
fitted lists e =
    let p : (unless (leb 1 (get_or lists 0 0)) 1 0 ≡ None) × _ = first_none (unless (leb 1 (get_or lists 0 0)) 1 0) _ e in
    let q : (unless (leb (get_or lists 0 0) 8) 1 8 ≡ None) × _ = first_none (unless (leb (get_or lists 0 0) 8) 1 8) (all_pass list_fits lists 1) p.1 in
    let a : 1 ≤ get_or lists 0 0 = leb-true 1 (get_or lists 0 0) (unless_none (leb 1 (get_or lists 0 0)) 1 0 p.0) in
    let b : get_or lists 0 0 ≤ 8 = leb-true (get_or lists 0 0) 8 (unless_none (leb (get_or lists 0 0) 8) 1 8 q.0) in
    let h = lists_passed lists e in
    let l : 2 ≤ length (drop 2 lists) = passed_long (get_or lists 0 0) (drop 2 lists) a h in
    record { some = a; few = b; long = omega (arith, length-drop 2 lists); passed = h }

-- the list at hand fits, and behind it those that are left pass
pub fits_at : (k t : ℕ) (xs : List ℕ) → t < k → passing list_fits (k - t) xs ≡ k - t → Fits xs
fits_at k t xs l e = let n : k - t ≡ suc (k - (t + 1)) = omega arith in fits xs (pass_parts list_fits (k - (t + 1)) xs (rw n at e)).0

pub passed_next : (ok : List ℕ → Bool) (k t at s : ℕ) (xs : List ℕ) → t < k → s ≡ list_size (drop at xs) →
    passing ok (k - t) (drop at xs) ≡ k - t → passing ok (k - (t + 1)) (drop (at + s) xs) ≡ k - (t + 1)
passed_next ok k t at s xs l q e =
    let n : k - t ≡ suc (k - (t + 1)) = omega arith in
    rw (q, ← drop-drop (list_size (drop at xs)) at xs) (pass_parts ok (k - (t + 1)) (drop at xs) (rw n at e)).1

-- where number 3 is not told, the lists name only nodes that stand, and so does what is known
pub all_named : (lists : List ℕ) (c : ℕ) → named_below lists c ≡ None →
    (passing (list_named c) (get_or lists 0 0) (drop 2 lists) ≡ get_or lists 0 0) × (get_or lists 1 0 < c)
all_named lists c e =
    let p : (all_pass (list_named c) lists 3 ≡ None) × _ = first_none (all_pass (list_named c) lists 3) _ e in
    (all_passed (list_named c) lists 3 p.0, ltb-true (get_or lists 1 0) c (unless_none (ltb (get_or lists 1 0) c) 3 8 p.1))

-- what holds of any list, and what holds of those that fit, holds of each
pub at_each : (P : List ℕ → Type 0) → ((ys : List ℕ) → P ys) → (k : ℕ) (xs : List ℕ) → AtEach P k xs
unfolding AtEach
at_each P h zero xs = tt
at_each P h (suc k) xs = (h xs, at_each P h k (drop (list_size xs) xs))

pub at_fitting : (P : List ℕ → Type 0) → ((ys : List ℕ) → Fits ys → P ys) → (k : ℕ) (xs : List ℕ) → passing list_fits k xs ≡ k → AtEach P k xs
unfolding AtEach
at_fitting P h zero xs e = tt
at_fitting P h (suc k) xs e =
    let p = pass_parts list_fits k xs e in (h xs (fits xs p.0), at_fitting P h k (drop (list_size xs) xs) p.1)
