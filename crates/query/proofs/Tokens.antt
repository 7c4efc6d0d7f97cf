-- Each kind of sign by its numbers.
use Rattle.std.proofs.Common.{◌≡◌, ℕ, suc, ◌-◌, ◌≤◌, List, [], ◌∷◌, length, get_or, take, drop, Option, Some, None, MatchOption, ◌<◌, ◌⊎◌, refl, sym, ap, ◌∙◌, arith, length-drop}
use Rattle.std.proofs.lemmas.List.{get_or-drop, get_or-take, drop-drop, take-take}
use Rattle.query.specs.Ask.{same, differ, is, is_not}
use Rattle.query.specs.Shapes.{columns_of}
use Rattle.query.specs.Tokens.{CutIs}
use Rattle.query.specs.declared.columns.Columns.{Columns}
use Rattle.query.specs.Reading.{Sign, a_list, a_test, some_columns, a_join, a_union, a_without, no_sign, sign_in}

module _ (xs : List ℕ) where
  abbrev sign : Sign
  sign = sign_in (get_or xs 0 0) (drop 1 xs)

  at_kind : (k : ℕ) → get_or xs 0 0 ≡ k → sign ≡ sign_in k (drop 1 xs)
  at_kind k e = ap (λ (k : ℕ). sign_in k (drop 1 xs)) e

  first : get_or (drop 1 xs) 0 0 ≡ get_or xs 1 0
  first = get_or-drop 1 xs 0 0

  second : get_or (drop 1 xs) 1 0 ≡ get_or xs 2 0
  second = get_or-drop 1 xs 1 0

  pub list_sign : get_or xs 0 0 ≡ 0 → sign ≡ a_list (get_or xs 1 0)
  unfolding sign_in
  list_sign e = at_kind 0 e ∙ rw first refl

  pub same_sign : get_or xs 0 0 ≡ 1 → sign ≡ a_test (same (get_or xs 1 0) (get_or xs 2 0))
  unfolding sign_in
  same_sign e = at_kind 1 e ∙ rw (first, second) refl

  pub differ_sign : get_or xs 0 0 ≡ 2 → sign ≡ a_test (differ (get_or xs 1 0) (get_or xs 2 0))
  unfolding sign_in
  differ_sign e = at_kind 2 e ∙ rw (first, second) refl

  pub is_sign : get_or xs 0 0 ≡ 3 → sign ≡ a_test (is (get_or xs 1 0) (get_or xs 2 0))
  unfolding sign_in
  is_sign e = at_kind 3 e ∙ rw (first, second) refl

  pub is_not_sign : get_or xs 0 0 ≡ 4 → sign ≡ a_test (is_not (get_or xs 1 0) (get_or xs 2 0))
  unfolding sign_in
  is_not_sign e = at_kind 4 e ∙ rw (first, second) refl

  pub columns_sign : get_or xs 0 0 ≡ 5 → sign ≡ some_columns (get_or xs 1 0) (take (get_or xs 1 0) (drop 2 xs))
  unfolding sign_in
  columns_sign e = at_kind 5 e ∙ rw (first, drop-drop 1 1 xs) refl

  pub join_sign : get_or xs 0 0 ≡ 6 → sign ≡ a_join
  unfolding sign_in
  join_sign e = at_kind 6 e

  pub union_sign : get_or xs 0 0 ≡ 7 → sign ≡ a_union
  unfolding sign_in
  union_sign e = at_kind 7 e

  pub without_sign : get_or xs 0 0 ≡ 8 → sign ≡ a_without
  unfolding sign_in
  without_sign e = at_kind 8 e

  pub other_sign : 9 ≤ get_or xs 0 0 → sign ≡ no_sign
  unfolding sign_in
  other_sign l =
      let e : get_or xs 0 0 ≡ suc (suc (suc (suc (suc (suc (suc (suc (suc (get_or xs 0 0 - 9))))))))) = omega arith in
      at_kind (suc (suc (suc (suc (suc (suc (suc (suc (suc (get_or xs 0 0 - 9)))))))))) e

-- the four numbers behind the first two
front : (ys : List ℕ) → 4 ≤ length ys → ◌≡◌ {A = List ℕ} (get_or ys 0 0 ∷ (get_or ys 1 0 ∷ (get_or ys 2 0 ∷ (get_or ys 3 0 ∷ [])))) (take 4 ys)
front [] l = absurd (omega arith)
front (a ∷ []) l = absurd (omega arith)
front (a ∷ (b ∷ [])) l = absurd (omega arith)
front (a ∷ (b ∷ (c ∷ []))) l = absurd (omega arith)
front (a ∷ (b ∷ (c ∷ (d ∷ ys)))) l = refl

pub four : (xs : List ℕ) (k : ℕ) → 6 ≤ length xs → k ≤ 4 → take k (get_or xs 2 0 ∷ (get_or xs 3 0 ∷ (get_or xs 4 0 ∷ (get_or xs 5 0 ∷ [])))) ≡ take k (drop 2 xs)
four xs k l m =
    let f = front (drop 2 xs) (simp length-drop (omega arith)) in
    let a = get_or-drop 2 xs 0 0 in let b = get_or-drop 2 xs 1 0 in let c = get_or-drop 2 xs 2 0 in let d = get_or-drop 2 xs 3 0 in
    let g : ◌≡◌ {A = List ℕ} (get_or xs 2 0 ∷ (get_or xs 3 0 ∷ (get_or xs 4 0 ∷ (get_or xs 5 0 ∷ [])))) (take 4 (drop 2 xs)) = cc in
    ap (take k) g ∙ take-take k 4 (drop 2 xs) m

-- six numbers at the front
pub at_front : (xs six : List ℕ) → take 6 xs ≡ six → (i : ℕ) → i < 6 → get_or six i 0 ≡ get_or xs i 0
at_front xs six e i l = ap (λ ys. get_or ys i 0) (sym e) ∙ get_or-take 6 xs i 0 l

-- columns made of four numbers
pub cut_is : (o : Option Columns) (k : ℕ) (cs ps : List ℕ) → MatchOption o ((k ≡ 0) ⊎ (4 < k)) (λ c. (c.count ≡ k) × (columns_of c ≡ take k cs)) → (k ≤ 4 → take k cs ≡ ps) → CutIs o k ps
cut_is None k cs ps made agree = made
cut_is (Some c) k cs ps made agree = (made.0, made.1 ∙ agree (omega (arith, made.0, c.few)))
