-- The conditions of a cone are tidy.
use Rattle.std.proofs.Common.{◌≡◌, ℕ, zero, suc, ◌+◌, ◌*◌, ◌<◌, ◌≤◌, true, eqb, ltb, ◌⊎◌, List, [], ◌∷◌, get_or, sym, refl, ◌∙◌, inl, inr, ⊎_elim, arith}
use Rattle.std.proofs.lemmas.Bool.{cases_lt, ltb-true, and_parts, or_cases, eqb-true}
use Rattle.condition.specs.Cond.{Cond, always, never, has}
use Rattle.condition.specs.Store.{earlier, count, cond_at}
use Rattle.condition.specs.Shapes.{node_of, Named}
use Rattle.condition.specs.Nodes.{behind, decoded}
use Rattle.condition.specs.declared.Cell.TheVariants.{Number, Gap}
use Rattle.condition.specs.declared.Node.{Node}
use Rattle.condition.specs.declared.Node.TheVariants.{Always, Never, Equal, Not, Both, Either}
use Rattle.condition.proofs.Lists.{has_none, has_cons}
use Rattle.condition.proofs.Decoding.{at_decoded, behind_reads}
use Rattle.decide.specs.Folding.{Begun, Neat, Tidy}
use Rattle.decide.specs.Reaching.{places_of, names}
use Rattle.decide.proofs.Added.{neat_behind}
use Rattle.decide.proofs.Drawn.{from_named}
use Rattle.learn.specs.Tidying.{Plain, TidyCond}

decoded_named : (nodes : List ℕ) (i : ℕ) → Named (decoded nodes i)
decoded_named nodes i =
    from_named (get_or nodes (1 + 5 * i) 0) (get_or nodes (1 + 5 * i + 1) 0) (get_or nodes (1 + 5 * i + 2) 0) (get_or nodes (1 + 5 * i + 3) 0) (get_or nodes (1 + 5 * i + 4) 0)

-- a neat node over plain conditions is plain
neat_plain : (n : Node) (i : ℕ) (go : ℕ → Cond) → Neat i n → Named n → ((j : ℕ) → 2 ≤ j → j < i → Plain (go j)) → Plain (node_of n go)
unfolding Plain
neat_plain Always i go h m p = absurd h
neat_plain Never i go h m p = absurd h
neat_plain (Equal (Number a) b) i go h m p = absurd h
neat_plain (Equal (Gap a) (Number b)) i go h m p = rw m.0 tt
neat_plain (Equal (Gap a) (Gap b)) i go h m p = rw (m.0, m.1) h
neat_plain (Not a) i go h m p = p a h.0 h.1
neat_plain (Both a b) i go h m p = (p a h.0 (omega (arith, h.1, h.2)), p b (omega (arith, h.0, h.1)) h.2)
neat_plain (Either a b) i go h m p = (p a h.0 (omega (arith, h.1, h.2)), p b (omega (arith, h.0, h.1)) h.2)

-- a node whose condition is a constant names no place
constant_behind : (n : Node) (i : ℕ) (go : ℕ → Cond) → (node_of n go ≡ always) ⊎ (node_of n go ≡ never) → (behind n i ≡ true) × (places_of n ≡ [])
constant_behind Always i go h = (refl, refl)
constant_behind Never i go h = (refl, refl)
constant_behind (Equal a b) i go h = (refl, refl)
constant_behind (Not a) i go (inl e) = absurd (cc)
constant_behind (Not a) i go (inr e) = absurd (cc)
constant_behind (Both a b) i go (inl e) = absurd (cc)
constant_behind (Both a b) i go (inr e) = absurd (cc)
constant_behind (Either a b) i go (inl e) = absurd (cc)
constant_behind (Either a b) i go (inr e) = absurd (cc)

-- a neat node names no constant
one_high : (a j : ℕ) → 2 ≤ a → has (a ∷ []) j ≡ true → 2 ≤ j
one_high a j l m = ⊎_elim (λ e. let z : a ≡ j = eqb-true a j e in omega arith) (λ o. absurd (has_none j o)) (or_cases (eqb a j) (has [] j) (sym (has_cons a [] j) ∙ m))

two_high : (a b j : ℕ) → 2 ≤ a → 2 ≤ b → has (a ∷ (b ∷ [])) j ≡ true → 2 ≤ j
two_high a b j l k m = ⊎_elim (λ e. let z : a ≡ j = eqb-true a j e in omega arith) (one_high b j k) (or_cases (eqb a j) (has (b ∷ []) j) (sym (has_cons a (b ∷ []) j) ∙ m))

neat_high : (n : Node) (i j : ℕ) → Neat i n → has (places_of n) j ≡ true → 2 ≤ j
neat_high Always i j h m = absurd h
neat_high Never i j h m = absurd h
neat_high (Equal a b) i j h m = absurd (has_none j m)
neat_high (Not a) i j h m = one_high a j h.0 m
neat_high (Both a b) i j h m = two_high a b j h.0 (omega (arith, h.0, h.1)) m
neat_high (Either a b) i j h m = two_high a b j h.0 (omega (arith, h.0, h.1)) m

module _ (cone : List ℕ) (begun : Begun cone) (tidy : Tidy cone) where
  -- the first two nodes are constants
  constant : (i : ℕ) → i < 2 → (cond_at cone i ≡ always) ⊎ (cond_at cone i ≡ never)
  constant zero l = inl begun.first
  constant (suc zero) l = inr begun.second
  constant (suc (suc i)) l = absurd (omega arith)

  low_node : (i : ℕ) → i < 2 → (behind (decoded cone i) i ≡ true) × (places_of (decoded cone i) ≡ [])
  low_node i l =
      let e = at_decoded cone i (omega (arith, begun.two)) in
      constant_behind (decoded cone i) i (earlier i (cond_at cone)) (⊎_elim (λ a. inl (sym e ∙ a)) (λ n. inr (sym e ∙ n)) (constant i l))

  -- each stands behind all that it names
  pub cone_behind : (i : ℕ) → i < count cone → behind (decoded cone i) i ≡ true
  cone_behind i l = elim (cases_lt i 2) [
    | inl p ↦ (low_node i p).0
    | inr p ↦ neat_behind i (decoded cone i) (tidy i p l)
  ]

  -- none names a constant
  pub cone_high : (i j : ℕ) → i < count cone → names i (decoded cone i) j ≡ true → (2 ≤ j) × (j < i)
  cone_high i j l h =
      let p = and_parts (ltb j i) (has (places_of (decoded cone i)) j) h in (
        elim (cases_lt i 2) [
          | inl q ↦ absurd (has_none j (rw ((low_node i q).1) at p.1))
          | inr q ↦ neat_high (decoded cone i) i j (tidy i q l) p.1
        ],
        ltb-true j i p.0,
      )

  plain_deep : (k i : ℕ) → i < k → 2 ≤ i → i < count cone → Plain (cond_at cone i)
  plain_deep zero i p q l = absurd (omega arith)
  plain_deep (suc k) i p q l =
      rw (at_decoded cone i l, behind_reads (decoded cone i) i (cond_at cone) (cone_behind i l))
      (neat_plain (decoded cone i) i (cond_at cone) (tidy i q l) (decoded_named cone i) (λ j a b. plain_deep k j (omega arith) a (omega arith)))

  pub cone_tidy : (i : ℕ) → i < count cone → TidyCond (cond_at cone i)
  cone_tidy i l = elim (cases_lt i 2) [
    | inl p ↦ ⊎_elim (λ e. inl e) (λ e. inr (inl e)) (constant i p)
    | inr p ↦ inr (inr (plain_deep (suc i) i (omega arith) p l))
  ]
