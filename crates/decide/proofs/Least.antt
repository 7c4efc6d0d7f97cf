-- Laws of `Least`: the least number of a row, one more number, and how many numbers pass up to the least one.
use Rattle.std.proofs.Common.{◌≡◌, ℕ, ◌+◌, ◌-◌, ◌<◌, ◌≤◌, min, Bool, true, false, cond as if, ◌&&◌, ◌||◌, eqb, leb, ◌⊎◌, List, [], ◌∷◌, ◌++◌, fold, filter, Some, None, Option, sym, refl, ap, ◌∙◌, inl, inr, ⊎_elim, arith, unwrap_or}
use Rattle.std.specs.List.{reduce}
use Rattle.std.proofs.lemmas.Bool.{cases_lt, cases_Bool, eqb-true, ne_eqb, le-leb, leb-true, and_parts, or_from, or_cases}
use Rattle.condition.specs.Cond.{numbers_in, has}
use Rattle.condition.specs.Nodes.{decoded}
use Rattle.condition.proofs.Lists.{has_none, has_cons, has_head, has_tail}
use Rattle.condition.proofs.Named.{numbers_app}
use Rattle.decide.specs.Counting.{counted, Least}
use Rattle.decide.specs.Reaching.{own_cells, cells_among}
use Rattle.decide.proofs.Counted.{counted_yes, counted_gap}
use Rattle.decide.proofs.Noted.{has_turned}
use Rattle.decide.proofs.Passing.{among_last}

lacks_cons : (m : ℕ) (ms : List ℕ) (k : ℕ) → (m ≡ k → ⊥) → has ms k ≡ false → has (m ∷ ms) k ≡ false
lacks_cons m ms k ne h = has_cons m ms k ∙ or_from (eqb m k) (has ms k) (ne_eqb m k ne) h

module _ (xs : List ℕ) (low m : ℕ) where
  -- a number below low changes nothing
  pub least_below : (best : Option ℕ) → m < low → Least xs low best → Least (m ∷ xs) low best
  unfolding Least
  least_below None b h = λ k l. lacks_cons m xs k (λ e. omega arith) (h k l)
  least_below (Some x) b h = record {
    one = has_tail m xs x h.one;
    from = h.from;
    before = λ k l j. lacks_cons m xs k (λ e. omega arith) (h.before k l j);
  }

  -- any other is the least where there was none
  pub least_first : low ≤ m → Least xs low None → Least (m ∷ xs) low (Some m)
  unfolding Least
  least_first l h = record { one = has_head m xs; from = l; before = λ k i j. lacks_cons m xs k (λ e. omega arith) (h k i) }

  -- and otherwise the lesser of the two is
  pub least_lower : (x r : ℕ) → low ≤ m → r ≡ min x m → Least xs low (Some x) → Least (m ∷ xs) low (Some r)
  unfolding Least
  least_lower x r l e h = elim (cases_lt x m) [
    | inl i ↦ let f : r ≡ x = omega arith in rw f (record {
      one = has_tail m xs x h.one;
      from = h.from;
      before = λ k a b. lacks_cons m xs k (λ e. omega arith) (h.before k a b);
    })
    | inr i ↦ let f : r ≡ m = omega arith in rw f (record {
      one = has_head m xs;
      from = l;
      before = λ k a b. lacks_cons m xs k (λ e. omega arith) (h.before k a (omega arith));
    })
  ]

  -- so it is either way
  pub least_with : (best : Option ℕ) (x r : ℕ) → low ≤ m → x ≡ unwrap_or best m → r ≡ min x m → Least xs low best → Least (m ∷ xs) low (Some r)
  least_with None x r l u e h = let f : r ≡ m = omega (arith, u, e) in rw f (least_first l h)
  least_with (Some y) x r l u e h = least_lower y r l (omega (arith, u, e)) h

-- the least of a list is one of it, and none of it is less
abbrev pub IsLeast : List ℕ → ℕ → Type 0
IsLeast xs m = (has xs m ≡ true) × ((k : ℕ) → has xs k ≡ true → m ≤ k)

lesser : (x y m : ℕ) (ys : List ℕ) → IsLeast (min x y ∷ ys) m → IsLeast (x ∷ (y ∷ ys)) m
lesser x y m ys h = (
  ⊎_elim first (λ o. has_tail x (y ∷ ys) m (has_tail y ys m o)) (or_cases (eqb (min x y) m) (has ys m) (sym (has_cons (min x y) ys m) ∙ h.0)),
  λ k o. ⊎_elim
      (λ e. let q : x ≡ k = eqb-true x k e in omega (arith, h.1 (min x y) (has_head (min x y) ys)))
      (λ o. ⊎_elim
      (λ e. let q : y ≡ k = eqb-true y k e in omega (arith, h.1 (min x y) (has_head (min x y) ys)))
      (λ o. h.1 k (has_tail (min x y) ys k o))
      (or_cases (eqb y k) (has ys k) (sym (has_cons y ys k) ∙ o)))
      (or_cases (eqb x k) (has (y ∷ ys) k) (sym (has_cons x (y ∷ ys) k) ∙ o)),
)
  where
    first : eqb (min x y) m ≡ true → has (x ∷ (y ∷ ys)) m ≡ true
    first t = let e : min x y ≡ m = eqb-true (min x y) m t in elim (cases_lt x y) [
      | inl l ↦ let q : m ≡ x = omega arith in rw q (has_head x (y ∷ ys))
      | inr l ↦ let q : m ≡ y = omega arith in rw q (has_tail x (y ∷ ys) y (has_head y ys))
    ]

least_of : (x : ℕ) (xs : List ℕ) → IsLeast (x ∷ xs) (fold min x xs)
least_of x [] = (has_head x [], λ k h. ⊎_elim (λ e. let q : x ≡ k = eqb-true x k e in omega arith) (λ o. absurd (has_none k o)) (or_cases (eqb x k) (has [] k) (sym (has_cons x [] k) ∙ h)))
least_of x (y ∷ ys) = lesser x y (fold min (min x y) ys) ys (least_of (min x y) ys)

has_passing : (p : ℕ → Bool) (xs : List ℕ) (k : ℕ) → has (filter p xs) k ≡ (has xs k && p k)
unfolding has
has_passing p [] k = refl
has_passing p (x ∷ xs) k = go (has_passing p xs k) (cases_Bool (eqb x k)) (p x) refl
  where
    none : (b : Bool) → (b && false) ≡ false
    none true = refl
    none false = refl

    go : has (filter p xs) k ≡ (has xs k && p k) → (eqb x k ≡ true) ⊎ (eqb x k ≡ false) → (b : Bool) → p x ≡ b → has (if b (x ∷ filter p xs) (filter p xs)) k ≡ ((eqb x k || has xs k) && p k)
    go ih (inl e) true h = let q : p k ≡ true = ap p (sym (eqb-true x k e)) ∙ h in rw (e, q) refl
    go ih (inl e) false h = let q : p k ≡ false = ap p (sym (eqb-true x k e)) ∙ h in rw (ih, e, q) (none (has xs k))
    go ih (inr e) true h = rw (e, ih) refl
    go ih (inr e) false h = rw (e, ih) refl

-- so is that of those of a row that are not below low
pub least_row : (low : ℕ) (row : List ℕ) → Least row low (reduce min (filter (leb low) row))
unfolding Least
least_row low row = go (filter (leb low) row) (has_passing (leb low) row)
  where
    passes : (xs : List ℕ) (k : ℕ) → has xs k ≡ (has row k && leb low k) → low ≤ k → has row k ≡ has xs k
    passes xs k e l = sym (e ∙ (ap (λ b. has row k && b) (le-leb low k l) ∙ all (has row k)))
      where
        all : (b : Bool) → (b && true) ≡ b
        all true = refl
        all false = refl

    go : (xs : List ℕ) → ((k : ℕ) → has xs k ≡ (has row k && leb low k)) → Least row low (reduce min xs)
    go [] e = λ k l. passes [] k (e k) l ∙ none k
      where
        none : (k : ℕ) → has [] k ≡ false
        none k = ⊎_elim (λ h. absurd (has_none k h)) (λ h. h) (cases_Bool (has [] k))
    go (x ∷ xs) e =
        let m = fold min x xs in
        let o : IsLeast (x ∷ xs) m = least_of x xs in
        let b : (has row m ≡ true) × (leb low m ≡ true) = and_parts (has row m) (leb low m) (sym (e m) ∙ o.0) in
        record {
          one = b.0;
          from = leb-true low m b.1;
          before = λ k l i. passes (x ∷ xs) k (e k) l ∙ ⊎_elim (λ h. absurd (omega (arith, o.1 k h))) (λ h. h) (cases_Bool (has (x ∷ xs) k));
        }

-- other numbers, or in another order
pub least_like : (xs ys : List ℕ) (low : ℕ) (r : Option ℕ) → ((k : ℕ) → has xs k ≡ has ys k) → Least xs low r → Least ys low r
unfolding Least
least_like xs ys low None e h = λ k l. sym (e k) ∙ h k l
least_like xs ys low (Some x) e h = record { one = sym (e x) ∙ h.one; from = h.from; before = λ k l b. sym (e k) ∙ h.before k l b }

-- one marked node more
pub least_among : (nodes places row : List ℕ) (i low : ℕ) (r : Option ℕ) → Least (numbers_in (own_cells (decoded nodes i)) ++ (numbers_in (cells_among nodes places) ++ row)) low r →
    Least (numbers_in (cells_among nodes (places ++ i ∷ [])) ++ row) low r
least_among nodes places row i low r h =
    let xs = numbers_in (cells_among nodes places) in let ys = numbers_in (own_cells (decoded nodes i)) in
    rw (among_last nodes places i, numbers_app (cells_among nodes places) (own_cells (decoded nodes i)))
    (least_like (ys ++ (xs ++ row)) ((xs ++ ys) ++ row) low r (has_turned xs ys row) h)

pub least_from : (xs : List ℕ) (low x : ℕ) → Least xs low (Some x) → low ≤ x
unfolding Least
least_from xs low x h = h.from

-- up to the least number that is not below low there is one more
pub counted_least : (xs : List ℕ) (low x : ℕ) → Least xs low (Some x) → counted (x + 1) (has xs) ≡ counted low (has xs) + 1
unfolding Least
counted_least xs low x h =
    let e : low + (x - low) ≡ x = omega (arith, h.from) in
    counted_yes x (has xs) h.one ∙ ap (λ t. t + 1) (rw e at (counted_gap low (x - low) (has xs) (λ k a b. h.before k a (omega (arith, h.from)))))

-- where none is left, those below low are all
pub counted_none_left : (xs : List ℕ) (low n : ℕ) → low ≤ n → Least xs low None → counted n (has xs) ≡ counted low (has xs)
unfolding Least
counted_none_left xs low n l h =
    let e : low + (n - low) ≡ n = omega arith in
    rw e at (counted_gap low (n - low) (has xs) (λ k a b. h k a))
