-- Numbers read one after the other from the bytes that are left.
use Rattle.std.proofs.Common.{◌≡◌, ℕ, zero, suc, ◌+◌, ◌*◌, ◌≤◌, List, [], ◌∷◌, ◌++◌, length, drop, sym, refl, ap, ◌∙◌, append_assoc, ◌⊎◌, inl, inr, min, ◌<◌, add-one, arith, length-drop}
use Rattle.std.proofs.lemmas.List.{drop-drop, get_or-drop, append-nil}
use Rattle.file_bytes.specs.Numbers.{number_at, numbers_in, ReadOn, AllBelow}
use Rattle.file_bytes.specs.Listing.{list_long, lists_long, behind_lists, ListThere, AllThere, EachTold, lists_in_file, ListsTold}
use Rattle.condition.specs.declared.Refusal.{Refusal}
use Rattle.condition.specs.declared.Refusal.TheVariants.{BadLists, NoMemory}

numbers_add : (n m : ℕ) (bs : List ℕ) → numbers_in (n + m) bs ≡ numbers_in n bs ++ numbers_in m (drop (4 * n) bs)
unfolding numbers_in
numbers_add zero m bs = ap (λ (k : ℕ). numbers_in k bs) (omega arith)
numbers_add (suc n) m bs =
    let e : drop (4 * n) (drop 4 bs) ≡ drop (4 * suc n) bs = drop-drop (4 * n) 4 bs ∙ ap (λ (k : ℕ). drop k bs) (omega arith) in
    let f : suc n + m ≡ suc (n + m) = omega arith in
    rw f (ap (λ (xs : List ℕ). number_at bs ∷ xs) (numbers_add n m (drop 4 bs) ∙ ap (λ (cs : List ℕ). numbers_in n (drop 4 bs) ++ numbers_in m cs) e))

pub read_none : (bs xs : List ℕ) → ReadOn 0 bs xs bs xs
unfolding numbers_in
read_none bs xs = (sym (append-nil xs), refl, omega arith)

pub read_one : (bs xs cs ys : List ℕ) (x : ℕ) → 4 ≤ length bs → x ≡ number_at bs → cs ≡ drop 4 bs → ys ≡ xs ++ (x ∷ []) → ReadOn 1 bs xs cs ys
unfolding numbers_in
read_one bs xs cs ys x l e d z = (z ∙ ap (λ (t : ℕ). xs ++ (t ∷ [])) e, d, omega arith)

-- what is read in two goes
pub read_both : (n m : ℕ) (bs xs cs ys ds zs : List ℕ) → ReadOn n bs xs cs ys → ReadOn m cs ys ds zs → ReadOn (n + m) bs xs ds zs
read_both n m bs xs cs ys ds zs r s = (
  s.0 ∙ (ap (λ (t : List ℕ). t ++ numbers_in m cs) r.0 ∙ (append_assoc xs (numbers_in n bs) (numbers_in m cs)
      ∙ ap (λ (t : List ℕ). xs ++ t) (ap (λ (t : List ℕ). numbers_in n bs ++ numbers_in m t) r.1 ∙ sym (numbers_add n m bs)))),
  s.1 ∙ (ap (drop (4 * m)) r.1 ∙ (drop-drop (4 * m) (4 * n) bs ∙ ap (λ (k : ℕ). drop k bs) (omega arith))),
  omega (arith, length-drop (4 * n) bs, ap length r.1, r.2, s.2),
)

-- a list, in three goes
pub list_read : (bs xs cs ys ds zs es ws : List ℕ) (n w : ℕ) → (n ≡ number_at bs) × ReadOn 1 bs xs cs ys → (w ≡ number_at cs) × ReadOn 1 cs ys ds zs →
    ReadOn (n * (1 + 2 * w)) ds zs es ws → ReadOn (list_long bs) bs xs es ws
list_read bs xs cs ys ds zs es ws n w a b r =
    let e : w ≡ number_at (drop 4 bs) = b.0 ∙ ap number_at a.1.1 in
    let k : 1 + (1 + n * (1 + 2 * w)) ≡ list_long bs = rw (← a.0, ← e) (omega arith) in
    rw (← k) (read_both 1 (1 + n * (1 + 2 * w)) bs xs cs ys es ws a.1 (read_both 1 (n * (1 + 2 * w)) cs ys ds zs es ws b.1 r))

-- the list behind k lists
pub lists_next : (k : ℕ) (bs : List ℕ) → lists_long (suc k) bs ≡ lists_long k bs + list_long (behind_lists k bs)
unfolding lists_long
lists_next zero bs = omega arith
lists_next (suc k) bs =
    let e : drop (4 * lists_long k (drop (4 * list_long bs) bs)) (drop (4 * list_long bs) bs) ≡ behind_lists (suc k) bs =
    drop-drop (4 * lists_long k (drop (4 * list_long bs) bs)) (4 * list_long bs) bs ∙ ap (λ (m : ℕ). drop m bs) (omega arith) in
    let f = lists_next k (drop (4 * list_long bs) bs) in
    let g = ap list_long e in
    omega (arith, f, g)

pub lists_more : (k : ℕ) (bs : List ℕ) → lists_long (k + 1) bs ≡ lists_long k bs + list_long (behind_lists k bs)
lists_more k bs = rw add-one (lists_next k bs)

pub lists_none : (bs : List ℕ) → lists_long 0 bs ≡ 0
unfolding lists_long
lists_none bs = refl

-- what is left of numbers below m
pub below_drop : (m k : ℕ) (xs : List ℕ) → AllBelow m xs → AllBelow m (drop k xs)
below_drop m k xs h = λ i. rw (get_or-drop k xs i 0) (h (k + i))

pub below_rest : (m k : ℕ) (xs ys : List ℕ) → ys ≡ drop k xs → AllBelow m xs → AllBelow m ys
below_rest m k xs ys e h = rw e (below_drop m k xs h)

pub below_behind : (m : ℕ) (xs ys : List ℕ) (x : ℕ) → xs ≡ x ∷ ys → AllBelow m xs → AllBelow m ys
below_behind m xs ys x e h = below_rest m 1 xs ys (rw e refl) h

-- k lists were read, and then the next
pub each_more : (k : ℕ) (bs xs cs ys ds zs : List ℕ) → ReadOn (lists_long k bs) bs xs cs ys → ReadOn (list_long cs) cs ys ds zs → ReadOn (lists_long (k + 1) bs) bs xs ds zs
each_more k bs xs cs ys ds zs r s =
    rw (lists_more k bs, ← r.1) (read_both (lists_long k bs) (list_long cs) bs xs cs ys ds zs r s)

-- the next of k lists is not there
pub each_told : (most k i : ℕ) (bs cs : List ℕ) (e : Refusal) → i < k → cs ≡ behind_lists i bs → AllThere most i bs →
    (e ≡ NoMemory) ⊎ ((e ≡ BadLists i) × (ListThere most cs → ⊥)) → EachTold most k bs e
each_told most k i bs cs e l is h (inl m) = inl m
each_told most k i bs cs e l is h (inr m) = inr (i, (m.0, (l, h, rw is at m.1)))

-- the count of lists, the node of what is known, and the lists
module _ (bs cs ds xs ys zs : List ℕ) (n m : ℕ) (a : (n ≡ number_at bs) × ReadOn 1 bs xs cs ys) (b : (m ≡ number_at cs) × ReadOn 1 cs ys ds zs) where
  pub behind_two : ds ≡ drop 8 bs
  behind_two = b.1.1 ∙ (ap (drop 4) a.1.1 ∙ drop-drop 4 4 bs)

  pub lists_read : (es ws : List ℕ) → xs ≡ [] → ReadOn (lists_long n ds) ds zs es ws → ReadOn (lists_in_file bs) bs [] es ws
  lists_read es ws z r =
      let k : 1 + (1 + lists_long n ds) ≡ lists_in_file bs = rw (← a.0, ← behind_two) (omega arith) in
      rw (← k) (rw z at (read_both 1 (1 + lists_long n ds) bs xs cs ys es ws a.1 (read_both 1 (lists_long n ds) cs ys ds zs es ws b.1 r)))

  pub each_of : (most t : ℕ) (e : Refusal) → t ≡ min most 64 → EachTold t n ds e → ListsTold most bs e
  each_of most t e q h = inr (rw (q, a.0, behind_two) at h)
