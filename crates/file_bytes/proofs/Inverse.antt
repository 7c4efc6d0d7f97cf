-- Numbers as bytes and back.
use Rattle.std.proofs.Common.{◌≡◌, ℕ, zero, suc, ◌+◌, ◌*◌, ◌<◌, ◌≤◌, ◌^◌, List, [], ◌∷◌, ◌++◌, length, get_or, take, drop, sym, refl, ap, ◌∙◌, append_assoc, arith, length-drop}
use Rattle.std.proofs.lemmas.List.{drop-drop, append-nil, take_more}
use Rattle.std.proofs.lemmas.Nat.{from_le_bytes-to_le_bytes_4, le_bytes_4}
use Rattle.file_bytes.specs.Numbers.{number_at, numbers_in, AllBelow, four, bytes_of, WrittenRead, ReadWritten}
use Rattle.file_bytes.proofs.Reading.{below_drop}

pub four_read : (n : ℕ) (bs : List ℕ) → n < 2 ^ 32 → number_at (four n ++ bs) ≡ n
four_read n bs l = let e = from_le_bytes-to_le_bytes_4 n l in omega arith

four_written : (bs : List ℕ) → AllBelow 256 bs → 4 ≤ length bs → four (number_at bs) ++ drop 4 bs ≡ bs
four_written [] h l = absurd (omega arith)
four_written (a ∷ []) h l = absurd (omega arith)
four_written (a ∷ (b ∷ [])) h l = absurd (omega arith)
four_written (a ∷ (b ∷ (c ∷ []))) h l = absurd (omega arith)
four_written (a ∷ (b ∷ (c ∷ (d ∷ bs)))) h l =
    let n = number_at (a ∷ (b ∷ (c ∷ (d ∷ bs)))) in
    let small : (i : ℕ) → get_or (a ∷ (b ∷ (c ∷ (d ∷ [])))) i 0 < 256 = λ i. four_below a b c d i (h 0) (h 1) (h 2) (h 3) in
    ap (λ (xs : List ℕ). xs ++ bs) (le_bytes_4 (a ∷ (b ∷ (c ∷ (d ∷ [])))) n refl small (omega arith))
  where
    four_below : (a b c d i : ℕ) → a < 256 → b < 256 → c < 256 → d < 256 → get_or (a ∷ (b ∷ (c ∷ (d ∷ [])))) i 0 < 256
    four_below a b c d zero p q r s = p
    four_below a b c d (suc zero) p q r s = q
    four_below a b c d (suc (suc zero)) p q r s = r
    four_below a b c d (suc (suc (suc zero))) p q r s = s
    four_below a b c d (suc (suc (suc (suc i)))) p q r s = omega arith

pub bytes_read : WrittenRead
unfolding numbers_in bytes_of
bytes_read [] bs h = (refl, refl)
bytes_read (n ∷ ns) bs h =
    let ih = bytes_read ns bs (below_drop (2 ^ 32) 1 (n ∷ ns) h) in
    let e : (four n ++ bytes_of ns) ++ bs ≡ four n ++ (bytes_of ns ++ bs) = append_assoc (four n) (bytes_of ns) bs in
    let f : 4 * suc (length ns) ≡ 4 + 4 * length ns = omega arith in
    rw e (
      cc (four_read n (bytes_of ns ++ bs) (h 0), ih.0),
      ap (λ (k : ℕ). drop k (four n ++ (bytes_of ns ++ bs))) f ∙ (sym (drop-drop (4 * length ns) 4 (four n ++ (bytes_of ns ++ bs))) ∙ ih.1),
    )

pub bytes_written : ReadWritten
unfolding numbers_in bytes_of
bytes_written zero bs h l = refl
bytes_written (suc n) bs h l =
    let ih = bytes_written n (drop 4 bs) (below_drop 256 4 bs h) (omega (arith, length-drop 4 bs)) in
    let e : drop (4 * n) (drop 4 bs) ≡ drop (4 * suc n) bs = drop-drop (4 * n) 4 bs ∙ ap (λ (k : ℕ). drop k bs) (omega arith) in
    append_assoc (four (number_at bs)) (bytes_of (numbers_in n (drop 4 bs))) (drop (4 * suc n) bs)
    ∙ (ap (λ (xs : List ℕ). four (number_at bs) ++ (bytes_of (numbers_in n (drop 4 bs)) ++ xs)) (sym e)
    ∙ (ap (λ (xs : List ℕ). four (number_at bs) ++ xs) ih ∙ four_written bs h (omega arith)))

pub bytes_add : (xs ys : List ℕ) → bytes_of (xs ++ ys) ≡ bytes_of xs ++ bytes_of ys
unfolding bytes_of
bytes_add [] ys = refl
bytes_add (x ∷ xs) ys = ap (λ (zs : List ℕ). four x ++ zs) (bytes_add xs ys) ∙ sym (append_assoc (four x) (bytes_of xs) (bytes_of ys))

pub bytes_long : (xs : List ℕ) → length (bytes_of xs) ≡ 4 * length xs
unfolding bytes_of
bytes_long [] = refl
bytes_long (x ∷ xs) = omega (arith, bytes_long xs)

pub bytes_one : (x : ℕ) → bytes_of (x ∷ []) ≡ four x
unfolding bytes_of
bytes_one x = refl

pub bytes_none : (bs : List ℕ) → bs ≡ bs ++ bytes_of []
unfolding bytes_of
bytes_none bs = sym (append-nil bs)

-- one number more
pub bytes_more : (bs cs start xs : List ℕ) (i : ℕ) → i < length xs → bs ≡ start ++ bytes_of (take i xs) → cs ≡ bs ++ four (get_or xs i 0) →
    cs ≡ start ++ bytes_of (take (i + 1) xs)
bytes_more bs cs start xs i l e f =
    f ∙ (ap (λ (t : List ℕ). t ++ four (get_or xs i 0)) e
    ∙ (append_assoc start (bytes_of (take i xs)) (four (get_or xs i 0))
    ∙ ap (λ (t : List ℕ). start ++ t) (
    ap (λ (t : List ℕ). bytes_of (take i xs) ++ t) (sym (bytes_one (get_or xs i 0)))
    ∙ (sym (bytes_add (take i xs) (get_or xs i 0 ∷ [])) ∙ ap bytes_of (sym (take_more xs i 0 l))))))
