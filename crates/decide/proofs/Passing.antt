-- Laws of `passing_below`, the numbers that pass a test, in rising order; and of the cells that marked nodes compare.
use Rattle.std.proofs.Common.{◌≡◌, ℕ, zero, suc, ◌+◌, ◌<◌, ◌≤◌, Bool, true, false, cond as if, List, [], ◌∷◌, ◌++◌, filter, length, get_or, take, sym, refl, ap, ◌∙◌, inl, inr, ⊎_elim, append-nil, arith, length-append, take_all}
use Rattle.std.specs.List.{count_by, range_with_len}
use Rattle.std.proofs.lemmas.Bool.{cases_Bool, cases_eq, eqb-true, or_cases}
use Rattle.std.proofs.lemmas.List.Concat.{flat_map-append}
use Rattle.std.proofs.lemmas.List.Elements.{filter-append}
use Rattle.std.proofs.lemmas.List.Sums.{count_by_more_yes, count_by_more_no}
use Rattle.condition.specs.Cond.{has}
use Rattle.condition.proofs.Lists.{has_none, has_cons, has_head, has_app, has_left, has_right}
use Rattle.condition.specs.Nodes.{decoded}
use Rattle.decide.specs.Counting.{counted, passing_below}
use Rattle.decide.specs.Reaching.{own_cells, marked, cells_among, marked_places, marked_cells}
use Rattle.decide.proofs.Counted.{counted_zero, counted_yes, counted_no}

range_more : (a n : ℕ) → range_with_len a (suc n) ≡ range_with_len a n ++ (a + n) ∷ []
range_more a zero = let e : a + 0 ≡ a = omega arith in rw e refl
range_more a (suc n) = let e : a + 1 + n ≡ a + suc n = omega arith in ap (λ t. a ∷ t) (rw e at (range_more (a + 1) n))

-- one number more
pub passing_none : (p : ℕ → Bool) → passing_below 0 p ≡ []
unfolding passing_below
passing_none p = refl

pub passing_more : (n : ℕ) (p : ℕ → Bool) → passing_below (n + 1) p ≡ passing_below n p ++ if (p n) (n ∷ []) []
unfolding passing_below
passing_more n p =
    let e : n + 1 ≡ suc n = omega arith in let z : 0 + n ≡ n = omega arith in
    rw e (ap (filter p) (range_more 0 n) ∙ (filter-append p (range_with_len 0 n) ((0 + n) ∷ []) ∙ ap (λ t. filter p (range_with_len 0 n) ++ filter p (t ∷ [])) z))

pub passing_yes : (n : ℕ) (p : ℕ → Bool) → p n ≡ true → passing_below (n + 1) p ≡ passing_below n p ++ n ∷ []
passing_yes n p h = passing_more n p ∙ ap (λ b. passing_below n p ++ if b (n ∷ []) []) h

pub passing_no : (n : ℕ) (p : ℕ → Bool) → p n ≡ false → passing_below (n + 1) p ≡ passing_below n p ++ []
passing_no n p h = passing_more n p ∙ ap (λ b. passing_below n p ++ if b (n ∷ []) []) h

pub length-passing_below : (n : ℕ) (p : ℕ → Bool) → length (passing_below n p) ≡ counted n p
length-passing_below zero p = ap length (passing_none p) ∙ sym (counted_zero p)
length-passing_below (suc n) p = let e : suc n ≡ n + 1 = omega arith in rw e (⊎_elim
    (λ h. rw (passing_yes n p h, counted_yes n p h, length-append (passing_below n p) (n ∷ []), length-passing_below n p) refl)
    (λ h. rw (passing_no n p h, counted_no n p h, length-append (passing_below n p) [], length-passing_below n p) (omega arith))
    (cases_Bool (p n)))

-- it has those that pass, and no others
pub passing_has : (n : ℕ) (p : ℕ → Bool) (k : ℕ) → k < n → p k ≡ true → has (passing_below n p) k ≡ true
passing_has zero p k l h = absurd (omega arith)
passing_has (suc n) p k l h = let e : suc n ≡ n + 1 = omega arith in rw (e, passing_more n p) (elim (cases_eq k n) [
  | inl i ↦ has_right (passing_below n p) _ k (rw (sym i, h) (has_head k []))
  | inr ne ↦ has_left (passing_below n p) _ k (passing_has n p k (omega arith) h)
])

pub passing_low : (n : ℕ) (p : ℕ → Bool) (k : ℕ) → has (passing_below n p) k ≡ true → k < n
passing_low zero p k h = absurd (has_none k (rw (passing_none p) at h))
passing_low (suc n) p k h =
    let e : suc n ≡ n + 1 = omega arith in
    ⊎_elim (λ x. omega (arith, passing_low n p k x)) (λ x. last (p n) x)
    (or_cases (has (passing_below n p) k) _ (sym (has_app (passing_below n p) _ k) ∙ rw (e, passing_more n p) at h))
  where
    last : (b : Bool) → has (if b (n ∷ []) []) k ≡ true → k < suc n
    last true x = ⊎_elim (λ y. let q : n ≡ k = eqb-true n k y in omega arith) (λ y. absurd (has_none k y)) (or_cases _ (has [] k) (sym (has_cons n [] k) ∙ x))
    last false x = absurd (has_none k x)

-- how many of a list's places hold true
pub counted_true : (bs : List Bool) (n : ℕ) → n ≤ length bs → count_by (λ b. b) (take n bs) ≡ counted n (λ k. get_or bs k false)
counted_true bs zero l = sym (counted_zero (λ k. get_or bs k false))
counted_true bs (suc n) l =
    let e : suc n ≡ n + 1 = omega arith in
    let ih = counted_true bs n (omega arith) in
    let p : ℕ → Bool = λ k. get_or bs k false in
    rw e (⊎_elim
    (λ h. count_by_more_yes (λ b. b) bs n false (omega arith) h ∙ (ap (λ t. t + 1) ih ∙ sym (counted_yes n p h)))
    (λ h. count_by_more_no (λ b. b) bs n false (omega arith) h ∙ (ih ∙ sym (counted_no n p h)))
    (cases_Bool (get_or bs n false)))

-- as many as hold true stand in the list of the places that do
pub length-passing_true : (bs : List Bool) (n : ℕ) → length bs ≡ n → length (passing_below n (λ k. get_or bs k false)) ≡ count_by (λ b. b) bs
length-passing_true bs n l = length-passing_below n (λ k. get_or bs k false) ∙ (sym (counted_true bs n (omega arith)) ∙ ap (count_by (λ b. b)) (take_all n bs (omega arith)))

-- the cells that marked nodes compare
pub marked_none : (nodes : List ℕ) (ms : List Bool) → marked_cells nodes ms 0 ≡ []
marked_none nodes ms = ap (cells_among nodes) (passing_none (marked ms))

pub among_last : (nodes places : List ℕ) (n : ℕ) → cells_among nodes (places ++ n ∷ []) ≡ cells_among nodes places ++ own_cells (decoded nodes n)
among_last nodes places n = flat_map-append (λ i. own_cells (decoded nodes i)) places (n ∷ []) ∙ ap (λ t. cells_among nodes places ++ t) (append-nil (own_cells (decoded nodes n)))

pub marked_more : (nodes : List ℕ) (ms : List Bool) (n : ℕ) → marked ms n ≡ true → marked_cells nodes ms (n + 1) ≡ marked_cells nodes ms n ++ own_cells (decoded nodes n)
marked_more nodes ms n h = ap (cells_among nodes) (passing_yes n (marked ms) h) ∙ among_last nodes (marked_places ms n) n

pub marked_pass : (nodes : List ℕ) (ms : List Bool) (n : ℕ) → marked ms n ≡ false → marked_cells nodes ms (n + 1) ≡ marked_cells nodes ms n
marked_pass nodes ms n h = ap (cells_among nodes) (passing_no n (marked ms) h ∙ append-nil (marked_places ms n))
