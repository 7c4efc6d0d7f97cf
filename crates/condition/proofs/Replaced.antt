-- One node in the place of another.
use Rattle.std.proofs.Common.{◌≡◌, ℕ, ◌+◌, ◌-◌, ◌*◌, ◌<◌, ◌≤◌, ◌≢◌, ◌⊎◌, List, length, get_or, take, drop, sym, refl, ap, ◌∙◌, inl, inr, add-zero, arith, lit<, length-take}
use borrow.Rule.Slice.PartMut.{put_mid}
use Rattle.std.proofs.lemmas.List.{get_or_append_left, get_or-append_right, get_or-take, get_or-drop}
use Rattle.std.proofs.lemmas.Bool.{cases_lt}
use Rattle.condition.specs.Nodes.{decoded}
use Rattle.condition.proofs.Added.{put_rest}

-- the part of a slice from a on is another
pub rest_at : (a : ℕ) (xs ys : List ℕ) (k : ℕ) → a ≤ length xs → get_or (put_mid a (length xs - a) xs ys) (a + k) 0 ≡ get_or ys k 0
rest_at a xs ys k l =
    let f : length (take a xs) ≡ a = simp length-take (omega arith) in let e : a + k - a ≡ k = omega arith in
    ap (λ t. get_or t (a + k) 0) (put_rest a xs ys) ∙ (get_or-append_right (take a xs) ys a (a + k) 0 f (omega arith) ∙ ap (λ t. get_or ys t 0) e)

-- of which only the first five numbers are others
pub rest_same : (a : ℕ) (xs ys : List ℕ) → a ≤ length xs → ((k : ℕ) → 5 ≤ k → get_or ys k 0 ≡ get_or (drop a xs) k 0) →
    (k : ℕ) → (k < a) ⊎ (a + 5 ≤ k) → get_or (put_mid a (length xs - a) xs ys) k 0 ≡ get_or xs k 0
rest_same a xs ys l h k (inl m) =
    let f : length (take a xs) ≡ a = simp length-take (omega arith) in let q : k < length (take a xs) = omega arith in
    ap (λ t. get_or t k 0) (put_rest a xs ys) ∙ (get_or_append_left (take a xs) ys 0 k q ∙ get_or-take a xs k 0 m)
rest_same a xs ys l h k (inr m) =
    let e : a + (k - a) ≡ k = omega arith in
    ap (λ t. get_or (put_mid a (length xs - a) xs ys) t 0) (sym e) ∙ (rest_at a xs ys (k - a) l ∙ (h (k - a) (omega arith) ∙ (get_or-drop a xs (k - a) 0 ∙ ap (λ t. get_or xs t 0) e)))

-- where nothing but node i has changed, all others are read as they were
pub others_same : (xs ys : List ℕ) (i j : ℕ) → ((k : ℕ) → (k ≤ 5 * i) ⊎ (1 + 5 * (i + 1) ≤ k) → get_or ys k 0 ≡ get_or xs k 0) → j ≢ i → decoded ys j ≡ decoded xs j
others_same xs ys i j h ne = rw (zero_too, one 1 (lit< tt), one 2 (lit< tt), one 3 (lit< tt), one 4 (lit< tt)) refl
  where
    one : (k : ℕ) → k < 5 → get_or ys (1 + 5 * j + k) 0 ≡ get_or xs (1 + 5 * j + k) 0
    one k l = elim (cases_lt j i) [
      | inl m ↦ h (1 + 5 * j + k) (inl (omega arith))
      | inr m ↦ h (1 + 5 * j + k) (inr (omega arith))
    ]

    zero_too : get_or ys (1 + 5 * j) 0 ≡ get_or xs (1 + 5 * j) 0
    zero_too = rw (add-zero (1 + 5 * j)) at (one 0 (lit< tt))
