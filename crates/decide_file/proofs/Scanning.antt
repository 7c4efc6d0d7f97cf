-- The numbers of a text, byte by byte.
use Rattle.std.proofs.Common.{◌≡◌, ℕ, ◌+◌, ◌-◌, ◌*◌, ◌<◌, ◌≤◌, true, false, List, [], ◌∷◌, ◌++◌, length, get_or, take, drop, Option, Some, None, MatchOption, IfSome, Bor, eqb, sym, refl, ap, ◌∙◌, arith}
use Rattle.std.proofs.lemmas.List.{take_rest}
use Rattle.std.proofs.lemmas.Bool.Decides.{Decides-eqb, nat_tests}
use Rattle.std.proofs.lemmas.Slice.Eq.{strip_prefix_is}
use Rattle.std.specs.Cmp.Lexicographic.{pointwise}
use Rattle.std.specs.Char.{is_ascii_digit}
use Rattle.decide_file.specs.Numbers.{scan, numbers, plain}

-- the first digit of a number
pub scan_first : (d : ℕ) (bs : List ℕ) → d < 10 → numbers ((d + 48) ∷ bs) ≡ scan (Some d) bs
unfolding scan
scan_first d bs h =
    let digit : is_ascii_digit (d + 48) ≡ true = grind (arith, nat_tests) in
    let value : (d + 48) - 48 ≡ d = omega arith in
    rw (digit, value)

-- one more digit
pub scan_more : (n d : ℕ) (bs : List ℕ) → d < 10 → scan (Some n) ((d + 48) ∷ bs) ≡ scan (Some (n * 10 + d)) bs
unfolding scan
scan_more n d bs h =
    let digit : is_ascii_digit (d + 48) ≡ true = grind (arith, nat_tests) in
    let value : (d + 48) - 48 ≡ d = omega arith in
    rw (digit, value)

plain_first : (b : ℕ) (bs : List ℕ) → plain (b ∷ bs) ≡ true → (is_ascii_digit b ≡ false) × (plain bs ≡ true)
plain_first b bs h = (grind (arith, nat_tests), grind (arith, nat_tests))

-- the end of a number
pub scan_stop : (n : ℕ) (bs : List ℕ) → plain (take 1 bs) ≡ true → scan (Some n) bs ≡ n ∷ numbers bs
unfolding scan
scan_stop n [] h = refl
scan_stop n (b ∷ bs) h = rw (plain_first b [] h).0

one_skip : (b : ℕ) (bs : List ℕ) → is_ascii_digit b ≡ false → numbers (b ∷ bs) ≡ numbers bs
unfolding scan
one_skip b bs h = rw h

-- a first byte below those of the digits
pub scan_skip : (bs : List ℕ) → 0 < length bs → get_or bs 0 0 < 48 → numbers (take (length bs - 1) (drop 1 bs)) ≡ numbers bs
scan_skip [] l h = let no : ⊥ = omega arith in absurd no
scan_skip (b ∷ bs) l h = ap numbers (take_rest (b ∷ bs) 1) ∙ sym (one_skip b bs (grind (arith, nat_tests)))

scan_plain : (ws bs : List ℕ) → plain ws ≡ true → numbers (ws ++ bs) ≡ numbers bs
scan_plain [] bs h = refl
scan_plain (w ∷ ws) bs h =
    let p = plain_first w ws h in
    one_skip w (ws ++ bs) p.0 ∙ scan_plain ws bs p.1

-- what `strip_prefix` leaves behind a word with no digit
pub scan_behind : (ws bs : List ℕ) (r : Option (Bor (List ℕ))) → plain ws ≡ true → MatchOption r (pointwise eqb (take (length ws) bs) ws ≡ false) (λ x. (pointwise eqb (take (length ws) bs) ws ≡ true) × (x.now ≡ drop (length ws) bs) × (length x.now + length ws ≡ length bs)) → IfSome r (λ x. numbers x.now ≡ numbers bs)
scan_behind ws bs None p h = tt
scan_behind ws bs (Some x) p h = sym (scan_plain ws x.now p) ∙ ap numbers (sym (strip_prefix_is Decides-eqb bs ws (Some x) h))

-- nothing is left
pub scan_none : (bs : List ℕ) → length bs ≤ 0 → numbers bs ≡ []
unfolding scan
scan_none [] l = refl
scan_none (b ∷ bs) l = let no : ⊥ = omega arith in absurd no
