-- Laws of `counted`.
use Rattle.std.proofs.Common.{◌≡◌, ℕ, zero, suc, ◌+◌, ◌<◌, ◌≤◌, Bool, true, false, not, cond as if, ◌&&◌, eqb, ◌⊎◌, List, [], ◌∷◌, length, get_or, take, count_by, sym, refl, ap, ◌∙◌, subst, inl, inr, ⊎_elim, arith}
use Rattle.std.specs.List.{AllByRecursion, IsDistinct}
use Rattle.std.proofs.lemmas.List.Sums.{count_by_more_yes, count_by_more_no}
use Rattle.std.proofs.lemmas.Map.Keys.{IsDistinct-head, IsDistinct-tail}
use Rattle.std.proofs.lemmas.Bool.{both_ways, cases_lt, cases_eq, cases_Bool, eqb-true, eq-eqb, ne_eqb, and_parts, and_from, or_cases, not-true, not_from_false}
use Rattle.condition.specs.Cond.{has}
use Rattle.condition.proofs.Lists.{has_none, has_cons, has_head, has_tail}
use Rattle.decide.specs.Counting.{counted}

pub counted_zero : (p : ℕ → Bool) → counted 0 p ≡ 0
unfolding counted
counted_zero p = refl

pub counted_yes : (n : ℕ) (p : ℕ → Bool) → p n ≡ true → counted (n + 1) p ≡ counted n p + 1
unfolding counted
counted_yes n p h = let e : n + 1 ≡ suc n = omega arith in rw (e, h) refl

pub counted_no : (n : ℕ) (p : ℕ → Bool) → p n ≡ false → counted (n + 1) p ≡ counted n p
unfolding counted
counted_no n p h = let e : n + 1 ≡ suc n = omega arith in rw (e, h) (omega arith)

pub counted_same : (n : ℕ) (p q : ℕ → Bool) → ((k : ℕ) → k < n → p k ≡ q k) → counted n p ≡ counted n q
unfolding counted
counted_same zero p q h = refl
counted_same (suc n) p q h = cc (counted_same n p q (λ k l. h k (omega arith)), h n (omega arith))

-- no more than all
pub counted_few : (n : ℕ) (p : ℕ → Bool) → counted n p ≤ n
unfolding counted
counted_few zero p = omega arith
counted_few (suc n) p = go (counted_few n p) (p n)
  where
    go : counted n p ≤ n → (b : Bool) → counted n p + if b 1 0 ≤ suc n
    go h true = omega arith
    go h false = omega arith

-- no more below fewer
pub counted_more : (m n : ℕ) (p : ℕ → Bool) → m ≤ n → counted m p ≤ counted n p
unfolding counted
counted_more m zero p l = let e : m ≡ 0 = omega arith in rw e (omega arith)
counted_more m (suc n) p l = elim (cases_eq m (suc n)) [
  | inl e ↦ rw e (omega arith)
  | inr ne ↦ omega (arith, counted_more m n p (omega arith))
]

-- where none passes from m on, those below m are all
pub counted_gap : (m d : ℕ) (p : ℕ → Bool) → ((k : ℕ) → m ≤ k → k < m + d → p k ≡ false) → counted (m + d) p ≡ counted m p
counted_gap m zero p h = let e : m + 0 ≡ m = omega arith in rw e refl
counted_gap m (suc d) p h =
    let e : m + suc d ≡ m + d + 1 = omega arith in
    rw e (counted_no (m + d) p (h (m + d) (omega arith) (omega arith)) ∙ counted_gap m d p (λ k a b. h k a (omega arith)))

-- all that pass but x
abbrev pub but : (ℕ → Bool) → ℕ → ℕ → Bool
but p x k = p k && not (eqb x k)

but_same : (p : ℕ → Bool) (x k : ℕ) → (x ≡ k → ⊥) → but p x k ≡ p k
but_same p x k ne = rw (ne_eqb x k ne) (go (p k))
  where
    go : (b : Bool) → (b && true) ≡ b
    go true = refl
    go false = refl

but_gone : (p : ℕ → Bool) (x : ℕ) → but p x x ≡ false
but_gone p x = rw (eq-eqb x x refl) (go (p x))
  where
    go : (b : Bool) → (b && false) ≡ false
    go true = refl
    go false = refl

pub counted_but : (n : ℕ) (p : ℕ → Bool) (x : ℕ) → x < n → p x ≡ true → counted n p ≡ counted n (but p x) + 1
counted_but zero p x l h = absurd (omega arith)
counted_but (suc n) p x l h =
    let e : suc n ≡ n + 1 = omega arith in
    rw e (elim (cases_eq x n) [
      | inl i ↦ counted_yes n p (ap p (sym i) ∙ h) ∙ (ap (λ t. t + 1) (counted_same n p (but p x) (λ k b. sym (but_same p x k (λ j. omega arith))) ∙ sym (counted_no n (but p x) (ap (but p x) (sym i) ∙ but_gone p x))))
      | inr ne ↦ step (counted_but n p x (omega arith) h) (but_same p x n ne) (cases_Bool (p n))
    ])
  where
    step : counted n p ≡ counted n (but p x) + 1 → but p x n ≡ p n → (p n ≡ true) ⊎ (p n ≡ false) → counted (n + 1) p ≡ counted (n + 1) (but p x) + 1
    step ih s (inl y) = rw (counted_yes n p y, counted_yes n (but p x) (s ∙ y)) (omega arith)
    step ih s (inr y) = rw (counted_no n p y, counted_no n (but p x) (s ∙ y)) ih

-- at most one is x
counted_less : (n : ℕ) (p : ℕ → Bool) (x : ℕ) → counted n p ≤ counted n (but p x) + 1
counted_less n p x = elim (cases_lt x n) [
  | inl l ↦ ⊎_elim (λ h. omega (arith, counted_but n p x l h)) (λ h. omega (
    arith,
    counted_same n p (but p x) (λ k b. elim (cases_eq x k) [
      | inl e ↦ ap p (sym e) ∙ (h ∙ sym (ap (but p x) (sym e) ∙ but_gone p x))
      | inr ne ↦ sym (but_same p x k ne)
    ]),
  )) (cases_Bool (p x))
  | inr l ↦ omega (arith, counted_same n p (but p x) (λ k b. sym (but_same p x k (λ e. omega arith))))
]

-- what a list has is no more than its length
pub counted_listed : (n : ℕ) (p : ℕ → Bool) (xs : List ℕ) → ((k : ℕ) → p k ≡ true → has xs k ≡ true) → counted n p ≤ length xs
counted_listed n p [] h = omega (arith, counted_gap 0 n p (λ k a b. ⊎_elim (λ t. absurd (has_none k (h k t))) (λ t. t) (cases_Bool (p k))), counted_zero p, zero_plus n)
  where
    zero_plus : (n : ℕ) → counted (0 + n) p ≡ counted n p
    zero_plus n = let e : 0 + n ≡ n = omega arith in rw e refl
counted_listed n p (x ∷ xs) h =
    omega (
      arith,
      counted_less n p x,
      counted_listed n (but p x) xs (λ k t.
          let y : (p k ≡ true) × (not (eqb x k) ≡ true) = and_parts (p k) (not (eqb x k)) t in
          ⊎_elim (λ e. absurd (both_ways (eqb x k) (not-true (eqb x k) y.1) e)) (λ o. o) (or_cases (eqb x k) (has xs k) (sym (has_cons x xs k) ∙ h k y.0))),
    )

all_has : (P : ℕ → Type 0) (xs : List ℕ) (k : ℕ) → AllByRecursion P xs → has xs k ≡ true → P k
all_has P [] k a h = absurd (has_none k h)
all_has P (x ∷ xs) k a h = ⊎_elim (λ e. subst P (eqb-true x k e) a.0) (λ o. all_has P xs k a.1 o) (or_cases (eqb x k) (has xs k) (sym (has_cons x xs k) ∙ h))

-- different numbers that pass are no more than all
pub counted_apart : (n : ℕ) (p : ℕ → Bool) (xs : List ℕ) → IsDistinct eqb xs → ((k : ℕ) → has xs k ≡ true → k < n) → ((k : ℕ) → has xs k ≡ true → p k ≡ true) → length xs ≤ counted n p
counted_apart n p [] a b h = omega arith
counted_apart n p (x ∷ xs) a b h =
    omega (
      arith,
      counted_but n p x (b x (has_head x xs)) (h x (has_head x xs)),
      counted_apart n (but p x) xs (IsDistinct-tail eqb x xs a) (λ k o. b k (has_tail x xs k o))
          (λ k o. and_from (p k) _ (h k (has_tail x xs k o)) (not_from_false _ (all_has (λ y. eqb x y ≡ false) xs k (IsDistinct-head eqb x xs a) o))),
    )

-- the numbers that pass are as many as the elements at their places that pass
pub counted_along : {X : Type 0} (n : ℕ) (p : ℕ → Bool) (q : X → Bool) (xs : List X) (d : X) → n ≤ length xs → ((k : ℕ) → k < n → q (get_or xs k d) ≡ p k) →
    counted n p ≡ count_by q (take n xs)
counted_along zero p q xs d l h = counted_zero p
counted_along {X} (suc n) p q xs d l h = both (counted_along n p q xs d (omega arith) (λ k m. h k (omega arith))) (p n) refl
  where
    both : counted n p ≡ count_by q (take n xs) → (b : Bool) → p n ≡ b → counted (suc n) p ≡ count_by q (take (suc n) xs)
    both e true t = let o : suc n ≡ n + 1 = omega arith in rw o (counted_yes n p t ∙ (ap (λ k. k + 1) e ∙ sym (count_by_more_yes q xs n d l (h n (omega arith) ∙ t))))
    both e false f = let o : suc n ≡ n + 1 = omega arith in rw o (counted_no n p f ∙ (e ∙ sym (count_by_more_no q xs n d l (h n (omega arith) ∙ f))))
