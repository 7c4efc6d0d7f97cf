-- Nodes laid for the lines of a question, behind those that stand.
--
--   Room k ns              there is room for k more nodes
--   Based c ns             the nodes are those that the lists name, below c, and at c one that says always
--   Stand s t              the nodes of the lines of s stand below t
--   New k r d ns ns₁       k nodes more, of which the one at r says d
--   Last k d ns ns₁        k nodes more, of which the last says d
--   Added g k n ns ns₁     k nodes more for each of n lines, of which the last of line i says g i
--   Laid s ns ns₁          the nodes of the question s are laid
--   kept, joined, less     what line i says: of s with a test, of p joined with q, of a question less another
use Rattle.std.specs.Prelude.{◌≡◌, ℕ, ◌+◌, ◌-◌, ◌*◌, ◌/◌, ◌%◌, ◌<◌, ◌≤◌, List, length}
use Rattle.condition.specs.Cond.{Cond, always, both, not_so}
use Rattle.condition.specs.Store.{count, cond_at, Grown}
use Rattle.query.specs.Ask.{Test}
use Rattle.answer.specs.declared.side.Side.{Side}
use Rattle.answer.specs.declared.less.Less.{Less}
use Rattle.answer.specs.Plan.{many, wide, size, less_size, says, tests, equals, rid}
use Rattle.answer.specs.Sides.{plan, node, cells}

abbrev pub Room : ℕ → List ℕ → Type 0
Room k ns = 1 + 5 * (count ns + k) ≤ length ns

pub record Based (c : ℕ) (ns : List ℕ) : Type 0 where
  pub low : c < count ns
  pub always : cond_at ns c ≡ always

abbrev pub Stand : Side → ℕ → Type 0
Stand s t = (i : ℕ) → i < many (plan s) → node s i < t

pub record New (k r : ℕ) (d : Cond) (ns ns₁ : List ℕ) : Type 0 where
  pub grown : Grown ns ns₁
  pub more : count ns₁ ≡ count ns + k
  pub within : r < count ns₁
  pub is : cond_at ns₁ r ≡ d

abbrev pub Last : ℕ → Cond → (ns ns₁ : List ℕ) → Type 0
Last k d ns ns₁ = New k (count ns + k - 1) d ns ns₁

-- the last of the k nodes of line i, where the nodes begin at b
abbrev pub last_of : ℕ → ℕ → ℕ → ℕ
last_of b k i = b + i * k + k - 1

pub record Added (g : ℕ → Cond) (k n : ℕ) (ns ns₁ : List ℕ) : Type 0 where
  pub grown : Grown ns ns₁
  pub more : count ns₁ ≡ count ns + n * k
  pub within : (i : ℕ) → i < n → last_of (count ns) k i < count ns₁
  pub is : (i : ℕ) → i < n → cond_at ns₁ (last_of (count ns) k i) ≡ g i

pub record Laid (s : Side) (ns ns₁ : List ℕ) : Type 0 where
  pub grown : Grown ns ns₁
  pub more : count ns₁ ≡ count ns + size (plan s)
  pub within : Stand s (count ns₁)
  pub is : (i : ℕ) → i < many (plan s) → cond_at ns₁ (node s i) ≡ says ns s.asked.lists.now (plan s) i

-- what the node of line i says
abbrev pub now_at : List ℕ → Side → ℕ → Cond
now_at ns s i = cond_at ns (node s i)

abbrev pub kept : List ℕ → Side → Test → ℕ → Cond
kept ns s t i = both (now_at ns s i) (tests t (cells s i))

abbrev pub joined : List ℕ → Side → Side → ℕ → Cond
joined ns p q i = both (now_at ns p (i / many (plan q))) (now_at ns q (i % many (plan q)))

-- of the lines of l.p less those of l.q, all that they are made of stands in ns
pub record Ready (l : Less) (ns : List ℕ) : Type 0 where
  pub based : Based l.p.asked.first ns
  pub first : Stand l.p (count ns)
  pub second : Stand l.q (count ns)

-- how many nodes each line takes
abbrev pub each : Less → ℕ
each l = less_size (wide (plan l.p)) (many (plan l.q))

-- line i of l.p and line j of l.q are equal
abbrev pub equal_lines : Less → ℕ → ℕ → Cond
equal_lines l i j = equals (wide (plan l.p)) 0 (cells l.p i) (cells l.q j)

-- what the node at c says, and line j of l.q is not there and equal to line i of l.p
abbrev pub less_one : List ℕ → Less → ℕ → ℕ → ℕ → Cond
less_one ns l i j c = both (cond_at ns c) (not_so (both (now_at ns l.q j) (equal_lines l i j)))

-- line i of l.p, less the first m lines of l.q
abbrev pub less : List ℕ → Less → ℕ → ℕ → Cond
less ns l m i = rid m (wide (plan l.p)) (cells l.p i) (now_at ns l.q) (cells l.q) (now_at ns l.p i)
