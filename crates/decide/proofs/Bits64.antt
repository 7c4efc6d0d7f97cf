-- The bits of numbers put together.
use Rattle.std.proofs.Common.{◌≡◌, ℕ, zero, suc, ◌+◌, ◌-◌, ◌*◌, ◌/◌, ◌%◌, ◌^◌, ◌<◌, min, max, Bool, true, false, not, ◌&&◌, ◌||◌, eqb, ◌⊎◌, sym, refl, ap, ◌∙◌, subst, inl, inr, mod-eq_of_lt, pow-suc, div-one, one-add, add-one, arith}
use native.Mathlib.Nat.{mul-add-mod_self_right, mul-mod_left}
use Rattle.std.proofs.Math.Bool.{and-true, and-false, or-false}
use lib.Bits.{bit_and, bit_or, bit_xor, differ, and_step, or_step, xor_step, xor_add_and}
use Rattle.std.proofs.lemmas.Nat.{shr-shr, and_shr, or_shr, xor_shr, and_mask, mod_below, pow_below, shl-shr}
use Rattle.std.proofs.lemmas.Bool.{eq-eqb, ne_eqb}
use Rattle.std.proofs.lemmas.Bool.Decides.{nat_tests}
use mir.Val.{bool_byte}
use Rattle.decide.specs.Bit.{bit}

odd_even : (x : ℕ) → (x % 2 ≡ 0) ⊎ (x % 2 ≡ 1)
odd_even x = by (x % 2) (mod_below x 2 (omega arith))
  where
    by : (r : ℕ) → r < 2 → (r ≡ 0) ⊎ (r ≡ 1)
    by zero h = inl refl
    by (suc zero) h = inr refl
    by (suc (suc r)) h = absurd (omega arith)

and_low : (x y : ℕ) → eqb (bit_and x y % 2) 1 ≡ (eqb (x % 2) 1 && eqb (y % 2) 1)
and_low x y = ap (λ (z : ℕ). eqb z 1) (ap (λ (z : ℕ). z % 2) (and_step x y) ∙ mul-add-mod_self_right (bit_and (x / 2) (y / 2)) 2 (min (x % 2) (y % 2))) ∙ by (odd_even x) (odd_even y)
  where
    by : (x % 2 ≡ 0) ⊎ (x % 2 ≡ 1) → (y % 2 ≡ 0) ⊎ (y % 2 ≡ 1) → eqb (min (x % 2) (y % 2) % 2) 1 ≡ (eqb (x % 2) 1 && eqb (y % 2) 1)
    by (inl p) (inl q) = rw (p, q) refl
    by (inl p) (inr q) = rw (p, q) refl
    by (inr p) (inl q) = rw (p, q) refl
    by (inr p) (inr q) = rw (p, q) refl

or_low : (x y : ℕ) → eqb (bit_or x y % 2) 1 ≡ (eqb (x % 2) 1 || eqb (y % 2) 1)
or_low x y = ap (λ (z : ℕ). eqb z 1) (ap (λ (z : ℕ). z % 2) (or_step x y) ∙ mul-add-mod_self_right (bit_or (x / 2) (y / 2)) 2 (max (x % 2) (y % 2))) ∙ by (odd_even x) (odd_even y)
  where
    by : (x % 2 ≡ 0) ⊎ (x % 2 ≡ 1) → (y % 2 ≡ 0) ⊎ (y % 2 ≡ 1) → eqb (max (x % 2) (y % 2) % 2) 1 ≡ (eqb (x % 2) 1 || eqb (y % 2) 1)
    by (inl p) (inl q) = rw (p, q) refl
    by (inl p) (inr q) = rw (p, q) refl
    by (inr p) (inl q) = rw (p, q) refl
    by (inr p) (inr q) = rw (p, q) refl

-- with y odd, exclusive or is not
xor_low : (x y : ℕ) → eqb (y % 2) 1 ≡ true → eqb (bit_xor x y % 2) 1 ≡ not (eqb (x % 2) 1)
xor_low x y h = ap (λ (z : ℕ). eqb z 1) (ap (λ (z : ℕ). z % 2) (xor_step x y) ∙ mul-add-mod_self_right (bit_xor (x / 2) (y / 2)) 2 (differ (x % 2) (y % 2))) ∙ by (odd_even x) (odd_even y) h
  where
    by : (x % 2 ≡ 0) ⊎ (x % 2 ≡ 1) → (y % 2 ≡ 0) ⊎ (y % 2 ≡ 1) → eqb (y % 2) 1 ≡ true → eqb (differ (x % 2) (y % 2) % 2) 1 ≡ not (eqb (x % 2) 1)
    by (inl p) (inl q) u = let f : false ≡ true = rw q at u in rw (p, q) f
    by (inl p) (inr q) u = rw (p, q) refl
    by (inr p) (inl q) u = let f : false ≡ true = rw q at u in rw (p, q) (sym f)
    by (inr p) (inr q) u = rw (p, q) refl

pub bit-and : (l a b : ℕ) → bit l (bit_and a b) ≡ (bit l a && bit l b)
bit-and l a b = ap (λ (z : ℕ). eqb (z % 2) 1) (and_shr a b l) ∙ and_low (a / 2 ^ l) (b / 2 ^ l)

pub bit-or : (l a b : ℕ) → bit l (bit_or a b) ≡ (bit l a || bit l b)
bit-or l a b = ap (λ (z : ℕ). eqb (z % 2) 1) (or_shr a b l) ∙ or_low (a / 2 ^ l) (b / 2 ^ l)

bit_suc : (l w : ℕ) → bit (suc l) w ≡ bit l (w / 2)
bit_suc l w = ap (λ (z : ℕ). eqb (w / 2 ^ z % 2) 1) (sym (one-add l)) ∙ ap (λ (z : ℕ). eqb (z % 2) 1) (sym (shr-shr w 1 l))

bit_low : (w : ℕ) → bit 0 w ≡ eqb (w % 2) 1
bit_low w = ap (λ (z : ℕ). eqb (z % 2) 1) (div-one w)

pub bit_none : (l : ℕ) → bit l 0 ≡ false
bit_none zero = refl
bit_none (suc l) = bit_suc l 0 ∙ bit_none l

twice_half : (k : ℕ) → 2 ^ suc k / 2 ≡ 2 ^ k
twice_half k = ap (λ (z : ℕ). z / 2) (pow-suc 2 k) ∙ shl-shr (2 ^ k) 1

twice_even : (k : ℕ) → 2 ^ suc k % 2 ≡ 0
twice_even k = ap (λ (z : ℕ). z % 2) (pow-suc 2 k ∙ omega arith) ∙ mul-add-mod_self_right (2 ^ k) 2 0

bit_one : (l k : ℕ) → bit l (2 ^ k) ≡ eqb l k
bit_one zero zero = refl
bit_one zero (suc k) = bit_low (2 ^ suc k) ∙ rw (twice_even k) (sym (ne_eqb 0 (suc k) (λ e. omega arith)))
bit_one (suc l) zero = bit_suc l 1 ∙ bit_none l ∙ sym (ne_eqb (suc l) 0 (λ e. omega arith))
bit_one (suc l) (suc k) = bit_suc l (2 ^ suc k) ∙ ap (bit l) (twice_half k) ∙ bit_one l k ∙ eqb_suc
  where
    eqb_suc : eqb l k ≡ eqb (suc l) (suc k)
    eqb_suc = grind (arith, nat_tests)

pub bit_all : (k l : ℕ) → l < k → bit l (2 ^ k - 1) ≡ true
bit_all k l h =
    let one : bit l (2 ^ l) ≡ true = bit_one l l ∙ eq-eqb l l refl in
    let e : (bit l (2 ^ l) && bit l (2 ^ k - 1)) ≡ true = sym (bit-and l (2 ^ l) (2 ^ k - 1)) ∙ ap (bit l) (and_mask (2 ^ l) k ∙ mod-eq_of_lt (pow_below l k h)) ∙ one in
    subst (λ (t : Bool). (t && bit l (2 ^ k - 1)) ≡ true) one e

-- the contrary of a word of k bits
pub bit_not : (k l a : ℕ) → l < k → a < 2 ^ k → bit l (2 ^ k - 1 - a) ≡ not (bit l a)
bit_not k l a h f =
    let all : bit_and a (2 ^ k - 1) ≡ a = and_mask a k ∙ mod-eq_of_lt f in
    let e : 2 ^ k - 1 - a ≡ bit_xor a (2 ^ k - 1) = omega (arith, xor_add_and a (2 ^ k - 1), all) in
    ap (bit l) e ∙ ap (λ (z : ℕ). eqb (z % 2) 1) (xor_shr a (2 ^ k - 1) l) ∙ xor_low (a / 2 ^ l) ((2 ^ k - 1) / 2 ^ l) (bit_all k l h)

-- the answers past 64 are cut off
bit_cut : (y k : ℕ) → k < 64 → bit k (y % 2 ^ 64) ≡ bit k y
bit_cut y k h = sym (ap (bit k) (and_mask y 64)) ∙ (bit-and k y (2 ^ 64 - 1) ∙ (ap (λ (t : Bool). bit k y && t) (bit_all 64 k h) ∙ and-true (bit k y)))

bit_byte : (b : Bool) (k : ℕ) → bit k (bool_byte b) ≡ (eqb k 0 && b)
bit_byte true k = bit_one k 0 ∙ sym (and-true (eqb k 0))
bit_byte false k = bit_none k ∙ sym (and-false (eqb k 0))

-- each answer one place up, and another at 0
pub bit_first : (x : ℕ) (b : Bool) → bit 0 (bit_or (x * 2 % 2 ^ 64) (bool_byte b)) ≡ b
bit_first x b = bit-or 0 (x * 2 % 2 ^ 64) (bool_byte b) ∙ rw (bit_cut (x * 2) 0 (omega arith), bit_low (x * 2), mul-mod_left x 2, bit_byte b 0) refl

pub bit_up : (x : ℕ) (b : Bool) (k : ℕ) → k + 1 < 64 → bit (k + 1) (bit_or (x * 2 % 2 ^ 64) (bool_byte b)) ≡ bit k x
bit_up x b k h =
    let up : bit (k + 1) (x * 2) ≡ bit k x = ap (λ (j : ℕ). bit j (x * 2)) (add-one k) ∙ (bit_suc k (x * 2) ∙ ap (bit k) (shl-shr x 1)) in
    let e : eqb (k + 1) 0 ≡ false = ne_eqb (k + 1) 0 (λ e. omega arith) in
    bit-or (k + 1) (x * 2 % 2 ^ 64) (bool_byte b) ∙ rw (bit_cut (x * 2) (k + 1) h, up, bit_byte b (k + 1), e) (or-false (bit k x))
