-- Lists made from a function of the place.
--
--   tab n f     the first n values of f
use Rattle.std.proofs.Common.{◌≡◌, ℕ, zero, suc, ◌+◌, ◌-◌, ◌*◌, ◌/◌, ◌%◌, ◌<◌, ◌≤◌, cond as if, ltb, List, [], ◌∷◌, ◌++◌, length, get_or, sym, refl, ap, ◌∙◌, mod-eq_of_lt, suc-mul, suc-add, zero-add, arith}
use native.Mathlib.Nat.{add-mul-div_right, add-mul-mod_self_right, div-eq_of_lt}
use Rattle.std.proofs.lemmas.Bool.{lt-ltb, le-ltb}

unfoldable pub tab : {X : Type 0} → ℕ → (ℕ → X) → List X
tab zero f = []
tab (suc n) f = f 0 ∷ tab n (λ i. f (suc i))

pub tab_same : {X : Type 0} (n : ℕ) (f g : ℕ → X) → ((i : ℕ) → i < n → f i ≡ g i) → tab n f ≡ tab n g
unfolding tab
tab_same zero f g h = refl
tab_same (suc n) f g h = rw (h 0 (omega arith), tab_same n (λ i. f (suc i)) (λ i. g (suc i)) (λ i l. h (suc i) (omega arith))) refl

pub getD_tab : {X : Type 0} (n : ℕ) (f : ℕ → X) (i : ℕ) (d : X) → i < n → get_or (tab n f) i d ≡ f i
unfolding tab
getD_tab zero f i d l = absurd (omega arith)
getD_tab (suc n) f zero d l = refl
getD_tab (suc n) f (suc i) d l = getD_tab n (λ j. f (suc j)) i d (omega arith)

pub tab_add : {X : Type 0} (n m : ℕ) (f : ℕ → X) → tab (n + m) f ≡ tab n f ++ tab m (λ i. f (n + i))
unfolding tab
tab_add zero m f = rw (zero-add m) (tab_same m f (λ i. f (0 + i)) (λ i l. ap f (sym (zero-add i))))
tab_add (suc n) m f =
    rw (suc-add n m) (ap (λ t. f 0 ∷ t) (tab_add n m (λ i. f (suc i)) ∙ ap (λ t. tab n (λ i. f (suc i)) ++ t) (tab_same m (λ i. f (suc (n + i))) (λ i. f (suc n + i)) (λ i l. ap f (sym (suc-add n i))))))

-- one after the other
pub tab_union : {X : Type 0} (n m : ℕ) (f g : ℕ → X) → tab n f ++ tab m g ≡ tab (n + m) (λ i. if (ltb i n) (f i) (g (i - n)))
tab_union n m f g = sym (tab_add n m (λ i. if (ltb i n) (f i) (g (i - n)))
    ∙ (ap (λ t. t ++ tab m (λ i. if (ltb (n + i) n) (f (n + i)) (g (n + i - n)))) (tab_same n (λ i. if (ltb i n) (f i) (g (i - n))) f (λ i l. rw (lt-ltb i n l) refl))
    ∙ ap (λ t. tab n f ++ t) (tab_same m (λ i. if (ltb (n + i) n) (f (n + i)) (g (n + i - n))) g
    (λ i l. let a : n ≤ n + i = omega arith in let e : n + i - n ≡ i = omega arith in rw (le-ltb (n + i) n a, e) refl))))

-- m for each of n
pub tab_pairs : {X : Type 0} (n m : ℕ) (h : ℕ → ℕ → X) → 0 < m → tab m (h 0) ++ tab (n * m) (λ i. h (suc (i / m)) (i % m)) ≡ tab (suc n * m) (λ i. h (i / m) (i % m))
tab_pairs n m h z =
    let e : suc n * m ≡ m + n * m = omega (arith, suc-mul n m) in
    rw e (sym (tab_add m (n * m) (λ i. h (i / m) (i % m))
    ∙ (ap (λ t. t ++ tab (n * m) (λ i. h ((m + i) / m) ((m + i) % m))) (tab_same m (λ i. h (i / m) (i % m)) (h 0) (λ i l. rw (div-eq_of_lt l, mod-eq_of_lt l) refl))
    ∙ ap (λ t. tab m (h 0) ++ t) (tab_same (n * m) (λ i. h ((m + i) / m) ((m + i) % m)) (λ i. h (suc (i / m)) (i % m))
    (λ i l. let a : m + i ≡ i + 1 * m = omega arith in let p : (i + 1 * m) / m ≡ i / m + 1 = add-mul-div_right i 1 {z = m} z in let q : i / m + 1 ≡ suc (i / m) = omega arith in
    rw (a, p, q, add-mul-mod_self_right i 1 m) refl)))))

-- a list by its places
pub as_tab : {X : Type 0} (xs : List X) (d : X) → xs ≡ tab (length xs) (λ i. get_or xs i d)
unfolding tab
as_tab [] d = refl
as_tab (x ∷ xs) d = ap (λ t. x ∷ t) (as_tab xs d)
