-- What the question that begins with the first of the parts gives, by the sign of that part.
use Rattle.std.proofs.Common.{◌≡◌, ℕ, zero, suc, ◌-◌, ◌<◌, List, [], ◌∷◌, ◌++◌, length, get_or, drop, vec_items, Vec, refl, ap, ◌∙◌, arith}
use Rattle.list.specs.Lists.{Row}
use Rattle.list.specs.Shapes.{rows_of}
use Rattle.query.specs.Ask.{Query, kept, cut_to, joined, less, ask}
use Rattle.query.specs.Rows.{rows_in}
use Rattle.query.specs.Shapes.{test_of, columns_of, part_at, query_by, query_of}
use Rattle.query.specs.declared.Test.{Test}
use Rattle.query.specs.declared.Sign.{Sign}
use Rattle.query.specs.declared.Sign.TheVariants.{Rows, Keep, Columns, Join, Union, Without}
use Rattle.query.specs.declared.Part.{Part}
use Rattle.query.specs.declared.columns.Columns as chosen

pub ask_nothing : (n : ℕ) (ps : List Part) (ts : List (List Row)) → (0 < n → length ps ≡ 0) → ask (query_of n ps) ts ≡ get_or ts 0 []
unfolding ask query_of
ask_nothing zero ps ts h = refl
ask_nothing (suc n) [] ts h = refl
ask_nothing (suc n) (p ∷ ps) ts h = absurd (omega (arith, h (omega arith)))

by_first : (n : ℕ) (ps : List Part) (s : Sign) → 0 < n → (part_at ps 0).sign ≡ s → query_of n ps ≡ query_by s (λ i. query_of (n - 1) (drop i ps))
unfolding query_of
by_first zero ps s h e = absurd (omega arith)
by_first (suc m) ps s h e =
    let p : m ≡ suc m - 1 = omega arith in
    ap (λ (z : Sign). query_by z (λ i. query_of m (drop i ps))) e ∙ ap (λ (k : ℕ). query_by s (λ i. query_of k (drop i ps))) p

module _ (n : ℕ) (ps : List Part) (ts : List (List Row)) (h : 0 < n) where
  -- the rows of the question that begins i parts further on
  abbrev pub further : ℕ → List Row
  further i = ask (query_of (n - 1) (drop i ps)) ts

  pub ask_table : (t : ℕ) → (part_at ps 0).sign ≡ Rows t → ask (query_of n ps) ts ≡ get_or ts t []
  unfolding ask
  ask_table t e = ap (λ (q : Query). ask q ts) (by_first n ps (Rows t) h e)

  pub ask_keep : (t : Test) → (part_at ps 0).sign ≡ Keep t → ask (query_of n ps) ts ≡ kept (test_of t) (further 1)
  unfolding ask
  ask_keep t e = ap (λ (q : Query). ask q ts) (by_first n ps (Keep t) h e)

  pub ask_columns : (c : chosen.Columns) → (part_at ps 0).sign ≡ Columns c → ask (query_of n ps) ts ≡ cut_to (columns_of c) (further 1)
  unfolding ask
  ask_columns c e = ap (λ (q : Query). ask q ts) (by_first n ps (Columns c) h e)

  pub ask_join : (second : ℕ) → (part_at ps 0).sign ≡ Join second → ask (query_of n ps) ts ≡ joined (further 1) (further second)
  unfolding ask
  ask_join second e = ap (λ (q : Query). ask q ts) (by_first n ps (Join second) h e)

  pub ask_union : (second : ℕ) → (part_at ps 0).sign ≡ Union second → ask (query_of n ps) ts ≡ further 1 ++ further second
  unfolding ask
  ask_union second e = ap (λ (q : Query). ask q ts) (by_first n ps (Union second) h e)

  pub ask_without : (second : ℕ) → (part_at ps 0).sign ≡ Without second → ask (query_of n ps) ts ≡ less (further 1) (further second)
  unfolding ask
  ask_without second e = ap (λ (q : Query). ask q ts) (by_first n ps (Without second) h e)

-- the sign of the first part, where there is one
pub sign_read : (ps : List Part) (d : Part) (s : Sign) → 0 < length ps → (get_or ps 0 d).sign ≡ s → (part_at ps 0).sign ≡ s
sign_read [] d s l e = absurd (omega arith)
sign_read (p ∷ ps) d s l e = e

-- the rows that a question further on gave, in a slice
pub sub_rows : {Z : Type 0} (n : ℕ) (ps qs : List Part) (ts : List (List Row)) (i : ℕ) (v : Vec (Vec ℕ Z) Z) (rs : List (Vec ℕ Z)) →
    rows_of v ≡ ask (query_of n qs) ts → qs ≡ drop i ps → rs ≡ vec_items v → rows_in rs ≡ ask (query_of n (drop i ps)) ts
sub_rows n ps qs ts i v rs e f g = let h = ap rows_in g in cc
