-- Rows in order: lists in order with the same rows are equal, and one row more at the end.
use Rattle.std.proofs.Common.{◌≡◌, ℕ, zero, suc, ◌<◌, true, false, eqb, ◌⊎◌, ◌↔◌, List, [], ◌∷◌, ◌++◌, length, get_or, take, Ordering, refl, ap, ◌∙◌, inl, inr, ⊎_elim, arith}
use Rattle.std.specs.List.{AllByRecursion}
use Rattle.std.specs.List.Sorted.{IsStrictlySortedBy}
use Rattle.std.specs.Ordering.{nat_cmp, ordering_reverse}
use Rattle.std.specs.Cmp.Lexicographic.{slice_cmp}
use Rattle.std.specs.declared.cmp.Ordering.TheVariants.{Less, Equal, Greater}
use Rattle.std.proofs.lemmas.Bool.{both_ways, and_from, or_cases, or_left, or_right}
use Rattle.std.proofs.lemmas.Cmp.{tied_itself, nat_list_cmp_total}
use Rattle.std.proofs.lemmas.Map.Lookups.{exact_bytes}
use Rattle.condition.proofs.Lists.{eqb_self}
use Rattle.list.specs.Lists.{Row, same_row, stands}
use Rattle.list.proofs.Filling.{same_row_is}
use Rattle.decide.specs.SureRows.{InOrder}

-- which rows stand in a list
same_self : (r : Row) → same_row r r ≡ true
unfolding same_row
same_self [] = refl
same_self (n ∷ r) = and_from (eqb n n) (same_row r r) (eqb_self n) (same_self r)

pub stands_none : (r : Row) → stands r [] ≡ true → ⊥
unfolding stands
stands_none r s = both_ways false refl s

stands_head : (r : Row) (rs : List Row) → stands r (r ∷ rs) ≡ true
unfolding stands
stands_head r rs = or_left (same_row r r) (stands r rs) (same_self r)

stands_tail : (r s : Row) (rs : List Row) → stands r rs ≡ true → stands r (s ∷ rs) ≡ true
unfolding stands
stands_tail r s rs h = or_right (same_row r s) (stands r rs) h

stands_cases : (r s : Row) (rs : List Row) → stands r (s ∷ rs) ≡ true → (r ≡ s) ⊎ (stands r rs ≡ true)
unfolding stands
stands_cases r s rs h = ⊎_elim (λ e. inl (same_row_is r s e)) inr (or_cases (same_row r s) (stands r rs) h)

-- r comes before s
abbrev pub Before : Row → Row → Type 0
Before r s = slice_cmp nat_cmp r s ≡ Less

not_itself : (r : Row) → Before r r → ⊥
not_itself r l = let e : slice_cmp nat_cmp r r ≡ Equal = tied_itself nat_list_cmp_total r in cc

-- in order, each row comes before all that stand behind it
behind : (r : Row) (rs : List Row) → AllByRecursion (λ s. Before r s) rs → (s : Row) → stands s rs ≡ true → Before r s
behind r [] a s h = absurd (stands_none s h)
behind r (t ∷ rs) a s h = elim (stands_cases s t rs h) [ inl e ↦ rw e a.0 | inr i ↦ behind r rs a.1 s i ]

behind_all : (r : Row) (rs : List Row) → ((s : Row) → stands s rs ≡ true → Before r s) → AllByRecursion (λ s. Before r s) rs
behind_all r [] f = tt
behind_all r (t ∷ rs) f = (f t (stands_head t rs), behind_all r rs (λ s h. f s (stands_tail s t rs h)))

order_rest : (r : Row) (rs : List Row) → InOrder (r ∷ rs) → InOrder rs
unfolding IsStrictlySortedBy
order_rest r rs o = o.1

order_behind : (r : Row) (rs : List Row) → InOrder (r ∷ rs) → (s : Row) → stands s rs ≡ true → Before r s
unfolding IsStrictlySortedBy
order_behind r rs o = behind r rs o.0

-- lists in order with the same rows are equal
module _ (r s : Row) (rs ss : List Row) (a : InOrder (r ∷ rs)) (b : InOrder (s ∷ ss)) (same : (q : Row) → (stands q (r ∷ rs) ≡ true) ↔ (stands q (s ∷ ss) ≡ true)) where
  head_before : Before r s → ⊥
  head_before l = elim (stands_cases r s ss ((same r).0 (stands_head r rs))) [
    | inl e ↦ not_itself r (rw (← e) at l)
    | inr h ↦ not_itself r (nat_list_cmp_total.trans r s r l (order_behind s ss b r h))
  ]

  head_behind : Before s r → ⊥
  head_behind l = elim (stands_cases s r rs ((same s).1 (stands_head s ss))) [
    | inl e ↦ not_itself s (rw (← e) at l)
    | inr h ↦ not_itself s (nat_list_cmp_total.trans s r s l (order_behind r rs a s h))
  ]

  heads : r ≡ s
  heads = go (slice_cmp nat_cmp r s) refl
    where
      go : (o : Ordering) → slice_cmp nat_cmp r s ≡ o → r ≡ s
      go Less e = absurd (head_before e)
      go Equal e = exact_bytes r s e
      go Greater e = absurd (head_behind (nat_list_cmp_total.antisymm s r ∙ ap ordering_reverse e))

  tails : (q : Row) → (stands q rs ≡ true) ↔ (stands q ss ≡ true)
  tails q = (
    (λ h. elim (stands_cases q s ss ((same q).0 (stands_tail q r rs h))) [
      | inl e ↦ absurd (not_itself r (order_behind r rs a r (rw (heads, ← e) h)))
      | inr i ↦ i
    ]),
    λ h. elim (stands_cases q r rs ((same q).1 (stands_tail q s ss h))) [
      | inl e ↦ absurd (not_itself s (order_behind s ss b s (rw (← heads, ← e) h)))
      | inr i ↦ i
    ],
  )

pub same_rows : (rs ss : List Row) → InOrder rs → InOrder ss → ((r : Row) → (stands r rs ≡ true) ↔ (stands r ss ≡ true)) → rs ≡ ss
same_rows [] [] a b same = refl
same_rows [] (s ∷ ss) a b same = absurd (stands_none s ((same s).1 (stands_head s ss)))
same_rows (r ∷ rs) [] a b same = absurd (stands_none r ((same r).0 (stands_head r rs)))
same_rows (r ∷ rs) (s ∷ ss) a b same =
    let e : r ≡ s = heads r s rs ss a b same in
    let f : rs ≡ ss = same_rows rs ss (order_rest r rs a) (order_rest s ss b) (tails r s rs ss a b same) in
    cc

-- one row more at the end
pub push_cases : (r s : Row) (rs : List Row) → stands r (rs ++ s ∷ []) ≡ true → (stands r rs ≡ true) ⊎ (r ≡ s)
push_cases r s [] h = elim (stands_cases r s [] h) [ inl e ↦ inr e | inr i ↦ absurd (stands_none r i) ]
push_cases r s (t ∷ rs) h = elim (stands_cases r t (rs ++ s ∷ []) h) [
  | inl e ↦ inl (rw e (stands_head t rs))
  | inr i ↦ elim (push_cases r s rs i) [ inl j ↦ inl (stands_tail r t rs j) | inr e ↦ inr e ]
]

pub push_left : (r s : Row) (rs : List Row) → stands r rs ≡ true → stands r (rs ++ s ∷ []) ≡ true
push_left r s [] h = absurd (stands_none r h)
push_left r s (t ∷ rs) h = elim (stands_cases r t rs h) [
  | inl e ↦ rw e (stands_head t (rs ++ s ∷ []))
  | inr i ↦ stands_tail r t (rs ++ s ∷ []) (push_left r s rs i)
]

pub push_here : (s : Row) (rs : List Row) → stands s (rs ++ s ∷ []) ≡ true
push_here s [] = stands_head s []
push_here s (t ∷ rs) = stands_tail s t (rs ++ s ∷ []) (push_here s rs)

pub order_push : (rs : List Row) (s : Row) → InOrder rs → ((r : Row) → stands r rs ≡ true → Before r s) → InOrder (rs ++ s ∷ [])
unfolding IsStrictlySortedBy
order_push [] s o f = (tt, tt)
order_push (r ∷ rs) s o f = (
  behind_all r (rs ++ s ∷ []) (λ q h. elim (push_cases q s rs h) [ inl i ↦ behind r rs o.0 q i | inr e ↦ rw e (f r (stands_head r rs)) ]),
  order_push rs s o.1 (λ q h. f q (stands_tail q r rs h)),
)

-- the row at a place stands, and those at places before it come before it
stands_at : (cs : List Row) (i : ℕ) → i < length cs → stands (get_or cs i []) cs ≡ true
stands_at [] i l = absurd (omega arith)
stands_at (c ∷ cs) zero l = stands_head c cs
stands_at (c ∷ cs) (suc i) l = stands_tail (get_or cs i []) c cs (stands_at cs i (omega arith))

pub taken_before : (cs : List Row) (i : ℕ) → InOrder cs → i < length cs → (r : Row) → stands r (take i cs) ≡ true → Before r (get_or cs i [])
taken_before [] i o l r h = absurd (omega arith)
taken_before (c ∷ cs) zero o l r h = absurd (stands_none r h)
taken_before (c ∷ cs) (suc i) o l r h = elim (stands_cases r c (take i cs) h) [
  | inl e ↦ rw e (order_behind c cs o (get_or cs i []) (stands_at cs i (omega arith)))
  | inr j ↦ taken_before cs i (order_rest c cs o) (omega arith) r j
]
