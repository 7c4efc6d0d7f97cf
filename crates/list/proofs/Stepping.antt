-- Loops over cells, lines and lists: what is left, one step on and at the end.
use Rattle.std.proofs.Common.{◌≡◌, ℕ, suc, ◌+◌, ◌-◌, ◌<◌, ◌≤◌, Bool, true, false, List, drop, refl, arith}
use Rattle.list.specs.Layout.{list_size, passing, AtEach}

-- one of n is left fewer
pub left_step : (n i : ℕ) → i < n → n - i ≡ suc (n - (i + 1))
left_step n i l = omega arith

-- of the lists that are left, the first t of k have passed: the next one, and what is left behind it
pub at_next : (P : List ℕ → Type 0) (k t : ℕ) (xs : List ℕ) → t < k → AtEach P (k - t) xs → P xs × AtEach P (k - (t + 1)) (drop (list_size xs) xs)
unfolding AtEach
at_next P k t xs l h = rw (left_step k t l) at h

pub passing_more : (ok : List ℕ → Bool) (k t p s : ℕ) (xs : List ℕ) → t < k → ok xs ≡ true → s ≡ list_size xs →
    p ≡ t + passing ok (k - t) xs → p ≡ t + 1 + passing ok (k - (t + 1)) (drop s xs)
unfolding passing
passing_more ok k t p s xs l h e q =
    let f : passing ok (k - t) xs ≡ suc (passing ok (k - (t + 1)) (drop s xs)) = rw (left_step k t l, h, e) refl in omega arith

pub passing_stop : (ok : List ℕ → Bool) (k t p : ℕ) (xs : List ℕ) → t < k → ok xs ≡ false → p ≡ t + passing ok (k - t) xs → t ≡ p
unfolding passing
passing_stop ok k t p xs l h q = let f : passing ok (k - t) xs ≡ 0 = rw (left_step k t l, h) refl in omega arith

pub passing_all : (ok : List ℕ → Bool) (k t p : ℕ) (xs : List ℕ) → k ≤ t → t ≤ k → p ≡ t + passing ok (k - t) xs → k ≡ p
unfolding passing
passing_all ok k t p xs l m q = let e : k - t ≡ 0 = omega arith in let f : passing ok (k - t) xs ≡ 0 = rw e refl in omega arith
