-- Laws of `Turned`: conditions whose joined conditions may be turned.
use Rattle.std.proofs.Common.{◌≡◌, ℕ, min, max, Bool, true, false, not, ◌&&◌, ◌||◌, ◌⊎◌, List, ◌++◌, sym, refl, ap, ◌∙◌, inl, inr, arith}
use Rattle.std.proofs.lemmas.Bool.{cases_lt}
use Rattle.condition.specs.Cond.{Cond, always, never, not_so, both, either, cells_of}
use Rattle.condition.specs.Shapes.{node_of}
use Rattle.condition.specs.declared.Node.{Node}
use Rattle.condition.specs.declared.Node.TheVariants.{Always, Never, Equal, Not, Both, Either}
use Rattle.evaluate.specs.Filling.{Filling, holds}
use Rattle.evaluate.proofs.Holding.{holds_not, holds_both, holds_either}
use Rattle.decide.specs.Folding.{renamed}
use Rattle.decide.specs.Reaching.{EachPlace, Covers}
use Rattle.decide.proofs.Coverage.{covers_both, covers_left, covers_right}
use Rattle.learn.specs.Copying.{sorted, Turned}
use Rattle.learn.specs.Tidying.{Plain, TidyCond}

pub turned_self : (c : Cond) → Turned c c
turned_self c = record { same = λ v. refl; constant = λ h. refl; plain = λ h. h; covered = λ ns gs h. h }

turned_not : (c d : Cond) → Turned c d → Turned (not_so c) (not_so d)
unfolding Plain cells_of
turned_not c d t = record {
  same = λ v. holds_not v d ∙ (ap not (t.same v) ∙ sym (holds_not v c));
  constant = never_constant;
  plain = t.plain;
  covered = t.covered;
}
  where
    never_constant : (not_so c ≡ always) ⊎ (not_so c ≡ never) → not_so d ≡ not_so c
    never_constant (inl e) = absurd (cc)
    never_constant (inr e) = absurd (cc)

and_turned : (a b : Bool) → (a && b) ≡ (b && a)
and_turned true true = refl
and_turned true false = refl
and_turned false true = refl
and_turned false false = refl

or_turned : (a b : Bool) → (a || b) ≡ (b || a)
or_turned true true = refl
or_turned true false = refl
or_turned false true = refl
or_turned false false = refl

module _ (c d : Cond) where
  both_constant : (e : Cond) → (both c d ≡ always) ⊎ (both c d ≡ never) → e ≡ both c d
  both_constant e (inl p) = absurd (cc)
  both_constant e (inr p) = absurd (cc)

  either_constant : (e : Cond) → (either c d ≡ always) ⊎ (either c d ≡ never) → e ≡ either c d
  either_constant e (inl p) = absurd (cc)
  either_constant e (inr p) = absurd (cc)

  module _ (c₁ d₁ : Cond) (s : Turned c c₁) (t : Turned d d₁) where
    straight : (ns gs : List ℕ) → Covers ns gs (cells_of c ++ cells_of d) → Covers ns gs (cells_of c₁ ++ cells_of d₁)
    straight ns gs h =
        covers_both ns gs (cells_of c₁) (cells_of d₁) (s.covered ns gs (covers_left ns gs (cells_of c) (cells_of d) h)) (t.covered ns gs (covers_right ns gs (cells_of c) (cells_of d) h))

    turned : (ns gs : List ℕ) → Covers ns gs (cells_of c ++ cells_of d) → Covers ns gs (cells_of d₁ ++ cells_of c₁)
    turned ns gs h =
        covers_both ns gs (cells_of d₁) (cells_of c₁) (t.covered ns gs (covers_right ns gs (cells_of c) (cells_of d) h)) (s.covered ns gs (covers_left ns gs (cells_of c) (cells_of d) h))

    both_same : (v : Filling) → holds v (both c₁ d₁) ≡ holds v (both c d)
    both_same v = holds_both v c₁ d₁ ∙ (rw (s.same v, t.same v) (sym (holds_both v c d)))

    either_same : (v : Filling) → holds v (either c₁ d₁) ≡ holds v (either c d)
    either_same v = holds_either v c₁ d₁ ∙ (rw (s.same v, t.same v) (sym (holds_either v c d)))

    both_straight : Turned (both c d) (both c₁ d₁)
    unfolding Plain cells_of
    both_straight = record { same = both_same; constant = both_constant (both c₁ d₁); plain = λ h. (s.plain h.0, t.plain h.1); covered = straight }

    both_other : Turned (both c d) (both d₁ c₁)
    unfolding Plain cells_of
    both_other = record {
      same = λ v. holds_both v d₁ c₁ ∙ (and_turned (holds v d₁) (holds v c₁) ∙ (sym (holds_both v c₁ d₁) ∙ both_same v));
      constant = both_constant (both d₁ c₁);
      plain = λ h. (t.plain h.1, s.plain h.0);
      covered = turned;
    }

    either_straight : Turned (either c d) (either c₁ d₁)
    unfolding Plain cells_of
    either_straight = record { same = either_same; constant = either_constant (either c₁ d₁); plain = λ h. (s.plain h.0, t.plain h.1); covered = straight }

    either_other : Turned (either c d) (either d₁ c₁)
    unfolding Plain cells_of
    either_other = record {
      same = λ v. holds_either v d₁ c₁ ∙ (or_turned (holds v d₁) (holds v c₁) ∙ (sym (holds_either v c₁ d₁) ∙ either_same v));
      constant = either_constant (either d₁ c₁);
      plain = λ h. (t.plain h.1, s.plain h.0);
      covered = turned;
    }

-- a node over other places, sorted, has the condition of the node, turned, where these have those of the conditions that it names
pub node_turned : (f : ℕ → ℕ) (n : Node) (go to : ℕ → Cond) → EachPlace n (λ j. Turned (to j) (go (f j))) → Turned (node_of n to) (node_of (sorted (renamed f n)) go)
node_turned f Always go to h = turned_self always
node_turned f Never go to h = turned_self never
node_turned f (Equal a b) go to h = turned_self (node_of (Equal a b) to)
node_turned f (Not a) go to h = turned_not (to a) (go (f a)) h
node_turned f (Both a b) go to h = elim (cases_lt (f a) (f b)) [
  | inl l ↦
      let p : min (f a) (f b) ≡ f a = omega arith in let q : max (f a) (f b) ≡ f b = omega arith in
      rw (p, q) (both_straight (to a) (to b) (go (f a)) (go (f b)) h.0 h.1)
  | inr l ↦
      let p : min (f a) (f b) ≡ f b = omega arith in let q : max (f a) (f b) ≡ f a = omega arith in
      rw (p, q) (both_other (to a) (to b) (go (f a)) (go (f b)) h.0 h.1)
]
node_turned f (Either a b) go to h = elim (cases_lt (f a) (f b)) [
  | inl l ↦
      let p : min (f a) (f b) ≡ f a = omega arith in let q : max (f a) (f b) ≡ f b = omega arith in
      rw (p, q) (either_straight (to a) (to b) (go (f a)) (go (f b)) h.0 h.1)
  | inr l ↦
      let p : min (f a) (f b) ≡ f b = omega arith in let q : max (f a) (f b) ≡ f a = omega arith in
      rw (p, q) (either_other (to a) (to b) (go (f a)) (go (f b)) h.0 h.1)
]

-- turned, a tidy condition is tidy
pub turned_tidy : (c d : Cond) → Turned c d → TidyCond c → TidyCond d
turned_tidy c d t (inl e) = inl (t.constant (inl e) ∙ e)
turned_tidy c d t (inr (inl e)) = inr (inl (t.constant (inr e) ∙ e))
turned_tidy c d t (inr (inr p)) = inr (inr (t.plain p))
