-- The numbers, the nodes and the cells of a question by those of the questions below it.
use Rattle.std.proofs.Common.{◌≡◌, ℕ, ◌+◌, ◌-◌, ◌*◌, ◌/◌, ◌%◌, ◌<◌, ◌≤◌, true, List, length, get_or, drop, refl, ap, subst, inl, inr, add-zero, zero-mul, arith}
use Rattle.std.proofs.lemmas.List.{get_or-drop}
use Rattle.std.proofs.lemmas.Bool.{cases_lt, lt-ltb, le-ltb}
use Rattle.condition.specs.Store.{count, cell_in, has_name, Grown}
use Rattle.condition.proofs.Growing.{grown_cond}
use Rattle.list.specs.Layout.{line_size}
use Rattle.query.specs.Ask.{Test}
use Rattle.answer.specs.declared.side.Side.{Side}
use Rattle.answer.specs.Plan.{Plan, list, keep, columns, join, union, without, many, wide, size, less_size, place, cell_from, cell, says, Inside, Listed, Fits}
use Rattle.answer.specs.Sides.{plan, node, cells, Under, One, Two}
use Rattle.answer.proofs.Steps.{row, rid_same, pair_in}

-- the cells of a question are cells
cell_named : (ls : List ℕ) (c : ℕ) (p : Plan) (i a : ℕ) → Fits ls c p → i < many p → a < wide p → has_name (cell ls p i a) ≡ true
unfolding many wide cell Fits
cell_named ls c (list at n w) i a f l m = f.named i a l m
cell_named ls c (keep t p) i a f l m = cell_named ls c p i a f.1 l m
cell_named ls c (columns cs p) i a f l m = cell_named ls c p i (get_or cs a 0) f.1 l (f.0 a m)
cell_named ls c (join p q) i a f l m =
    let h = pair_in i (many p) (many q) l in
    elim (cases_lt a (wide p)) [
      | inl k ↦ rw (lt-ltb _ _ k) (cell_named ls c p (i / many q) a f.0 h.0 k)
      | inr k ↦ rw (le-ltb _ _ k) (cell_named ls c q (i % many q) (a - wide p) f.1 h.1 (omega arith))
    ]
cell_named ls c (union p q) i a f l m = elim (cases_lt i (many p)) [
  | inl k ↦ rw (lt-ltb _ _ k) (cell_named ls c p i a f.1 k m)
  | inr k ↦ rw (le-ltb _ _ k) (cell_named ls c q (i - many p) a f.2 (omega arith) (omega (arith, f.0)))
]
cell_named ls c (without p q) i a f l m = cell_named ls c p i a f.1 l m

pub named : (s : Side) (i a : ℕ) → i < many (plan s) → a < wide (plan s) → has_name (cells s i a) ≡ true
named s i a l m = cell_named s.asked.lists.now s.asked.first (plan s) i a s.sound.fits l m

-- what a question says does not change as the store grows
pub says_grown : (ns ns₁ ls : List ℕ) (c : ℕ) (p : Plan) (i : ℕ) → Fits ls c p → i < many p → Grown ns ns₁ → c ≤ count ns → says ns₁ ls p i ≡ says ns ls p i
unfolding says many Fits
says_grown ns ns₁ ls c (list at n w) i f m g l = grown_cond ns ns₁ g (get_or ls (at + i * line_size w) 0) (omega (arith, f.stand i m))
says_grown ns ns₁ ls c (keep t p) i f m g l = rw (says_grown ns ns₁ ls c p i f.1 m g l) refl
says_grown ns ns₁ ls c (columns cs p) i f m g l = says_grown ns ns₁ ls c p i f.1 m g l
says_grown ns ns₁ ls c (join p q) i f m g l =
    let h = pair_in i (many p) (many q) m in
    rw (says_grown ns ns₁ ls c p (i / many q) f.0 h.0 g l, says_grown ns ns₁ ls c q (i % many q) f.1 h.1 g l) refl
says_grown ns ns₁ ls c (union p q) i f m g l = elim (cases_lt i (many p)) [
  | inl k ↦ rw (lt-ltb _ _ k) (says_grown ns ns₁ ls c p i f.1 k g l)
  | inr k ↦ rw (le-ltb _ _ k) (says_grown ns ns₁ ls c q (i - many p) f.2 (omega arith) g l)
]
says_grown ns ns₁ ls c (without p q) i f m g l =
    rid_same (many q) (wide p) (cell ls p i) (says ns₁ ls q) (says ns ls q) (cell ls q) _ _ (λ j k. says_grown ns ns₁ ls c q j f.2 k g l) (says_grown ns ns₁ ls c p i f.1 m g l)

-- a question's lines, columns and nodes
pub record Sums (s : Side) (n w k : ℕ) : Type 0 where
  pub lines : many (plan s) ≡ n
  pub width : wide (plan s) ≡ w
  pub size : size (plan s) ≡ k

pub rows_sums : (s : Side) {at n w : ℕ} → plan s ≡ list at n w → Sums s n w 0
unfolding many wide size
rows_sums s e = record { lines = ap many e; width = ap wide e; size = ap size e }

module _ {s : Side} where
  pub keep_sums : {t : Test} {p : Side} → One s (keep t (plan p)) p → Sums s (many (plan p)) (wide (plan p)) (size (plan p) + 3 * many (plan p))
  unfolding many wide size
  keep_sums o = record { lines = ap many o.is; width = ap wide o.is; size = ap size o.is }

  pub columns_sums : {cs : List ℕ} {p : Side} → One s (columns cs (plan p)) p → Sums s (many (plan p)) (length cs) (size (plan p))
  unfolding many wide size
  columns_sums o = record { lines = ap many o.is; width = ap wide o.is; size = ap size o.is }

  pub join_sums : {p q : Side} → Two s (join (plan p) (plan q)) p q →
      Sums s (many (plan p) * many (plan q)) (wide (plan p) + wide (plan q)) (size (plan p) + size (plan q) + many (plan p) * many (plan q))
  unfolding many wide size
  join_sums o = record { lines = ap many o.is; width = ap wide o.is; size = ap size o.is }

  pub union_sums : {p q : Side} → Two s (union (plan p) (plan q)) p q → Sums s (many (plan p) + many (plan q)) (wide (plan p)) (size (plan p) + size (plan q))
  unfolding many wide size
  union_sums o = record { lines = ap many o.is; width = ap wide o.is; size = ap size o.is }

  pub without_sums : {p q : Side} → Two s (without (plan p) (plan q)) p q →
      Sums s (many (plan p)) (wide (plan p)) (size (plan p) + size (plan q) + many (plan p) * less_size (wide (plan p)) (many (plan q)))
  unfolding many wide size
  without_sums o = record { lines = ap many o.is; width = ap wide o.is; size = ap size o.is }

-- what fits of a question fits of those below it
pub rows_listed : (s : Side) {at n w : ℕ} → plan s ≡ list at n w → Listed s.asked.lists.now s.asked.first at n w
unfolding Fits
rows_listed s e = subst (Fits s.asked.lists.now s.asked.first) e s.sound.fits

module _ {s : Side} where
  pub columns_inside : {cs : List ℕ} {p : Side} → One s (columns cs (plan p)) p → (a : ℕ) → a < length cs → get_or cs a 0 < wide (plan p)
  unfolding Fits
  columns_inside o = (subst (Fits s.asked.lists.now s.asked.first) o.is s.sound.fits).0

  pub keep_inside : {t : Test} {p : Side} → One s (keep t (plan p)) p → Inside t (wide (plan p))
  unfolding Fits
  keep_inside o = (subst (Fits s.asked.lists.now s.asked.first) o.is s.sound.fits).0

  pub union_even : {p q : Side} → Two s (union (plan p) (plan q)) p q → wide (plan p) ≡ wide (plan q)
  unfolding Fits
  union_even o = (subst (Fits s.asked.lists.now s.asked.first) o.is s.sound.fits).0

  pub without_even : {p q : Side} → Two s (without (plan p) (plan q)) p q → wide (plan p) ≡ wide (plan q)
  unfolding Fits
  without_even o = (subst (Fits s.asked.lists.now s.asked.first) o.is s.sound.fits).0

-- a pair of lines, by its number
pub pair_at : {s p q : Side} → Two s (join (plan p) (plan q)) p q → (i m : ℕ) → i < many (plan s) → m ≡ many (plan q) → (0 < m) × (i / m < many (plan p)) × (i % m < many (plan q))
pair_at {p = p} {q = q} o i m l e = let v = join_sums o in rw e (let h = pair_in i (many (plan p)) (many (plan q)) (omega (arith, v.lines)) in (omega arith, h.0, h.1))

-- there is a line, so the nodes of a line are among the question's
pub less_low : {s p q : Side} → Two s (without (plan p) (plan q)) p q → (i : ℕ) → i < many (plan s) → less_size (wide (plan p)) (many (plan q)) ≤ 1000000
less_low {s = s} {p = p} {q = q} o i l =
    let v = without_sums o in let x = less_size (wide (plan p)) (many (plan q)) in
    omega (arith, v.lines, v.size, s.low, zero-mul x, row 0 (many (plan p)) x (omega (arith, v.lines)))

-- the nodes and the cells of a question below, by the lists of the one above
module _ {s p : Side} {b : ℕ} (u : Under s p b) where
  pub node_under : (i : ℕ) → node p i ≡ place s.asked.lists.now (plan p) b i
  node_under i = rw (u.asked, u.base) refl

  pub cells_under : (i a : ℕ) → cells p i a ≡ cell s.asked.lists.now (plan p) i a
  cells_under i a = rw u.asked refl

-- a line of a list, by its place
pub node_at : (line ls : List ℕ) (k : ℕ) → line ≡ drop k ls → get_or line 0 0 ≡ get_or ls k 0
node_at line ls k e = rw (e, get_or-drop k ls 0 0, add-zero k) refl

pub cell_at_line : (line ls : List ℕ) (k a : ℕ) → line ≡ drop k ls → cell_in (get_or line (1 + 2 * a) 0) (get_or line (2 + 2 * a) 0) ≡ cell_from ls k a
cell_at_line line ls k a e = rw (e, get_or-drop k ls (1 + 2 * a) 0, get_or-drop k ls (2 + 2 * a) 0) refl
