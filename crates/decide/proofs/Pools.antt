-- Numbers to try: the least ones that are not there yet, and what they suffice for.
use Rattle.std.proofs.Common.{◌≡◌, ℕ, ◌+◌, ◌<◌, ◌≤◌, true, false, List, length, get_or, take, MatchOption, unwrap_or, Some, None, Option, sym, ap, ◌∙◌, inl, inr, arith}
use Rattle.std.proofs.lemmas.Bool.{both_ways, cases_lt}
use Rattle.condition.specs.Cond.{has, Within}
use Rattle.evaluate.specs.Filling.{Fresh}
use Rattle.evaluate.proofs.Freshness.{fresh_small}
use Rattle.decide.specs.Goals.{goal_of, SetUp}
use Rattle.decide.specs.Trying.{Names, LeastOther}
use Rattle.decide.specs.declared.task.Goal.{Goal}

-- where all numbers below the length are there, the length is not
pub least_past : (ns : List ℕ) → ((m : ℕ) → m < length ns → has ns m ≡ true) → LeastOther ns (length ns)
least_past ns h = record { new = new (fresh_small ns 1); least = h }
  where
    new : (fs : List ℕ) × Fresh ns 1 fs × ((i : ℕ) → i < length fs → get_or fs i 0 < length ns + 1) → has ns (length ns) ≡ false
    new f = elim (cases_lt (get_or f.0 0 0) (length ns)) [
      | inl l ↦ absurd (both_ways (has ns (get_or f.0 0 0)) (f.1.new 0 (omega (arith, f.1.many))) (h (get_or f.0 0 0) l))
      | inr l ↦ let e : get_or f.0 0 0 ≡ length ns = omega (arith, f.2 0 (omega (arith, f.1.many))) in ap (has ns) (sym e) ∙ f.1.new 0 (omega (arith, f.1.many))
    ]

-- the first number below the length that is not there, or else the length
pub least_found : (ns : List ℕ) (r : Option ℕ) (n : ℕ)
    → MatchOption r ((k : ℕ) → 0 ≤ k → k < length ns → has ns k ≡ true) (λ i. (0 ≤ i) × (i < length ns) × (has ns i ≡ false) × ((k : ℕ) → 0 ≤ k → k < i → has ns k ≡ true)) → n ≡ unwrap_or r (length ns) → LeastOther ns n
least_found ns None n h e = rw e (least_past ns (λ m l. h m (omega arith) l))
least_found ns (Some i) n h e = rw e (record { new = h.2; least = λ m l. h.3 m (omega arith) l })

-- the gaps and numbers that a condition names, with fresh ones, are all that is to be tried
pub set_up : (nodes : List ℕ) (goal : Goal) (ks ns gs pool : List ℕ) → length ns ≤ 8 → Names (goal_of nodes goal true) ks ns → Within ks gs → length pool ≡ length ns + length gs → take (length ns) pool ≡ ns
    → ((p : ℕ) → length ns ≤ p → p < length pool → LeastOther (take p pool) (get_or pool p 0)) → SetUp nodes goal gs pool (length ns)
unfolding Within
set_up nodes goal ks ns gs pool few n all many given fresh = record {
  held = λ k h. all k (n.gaps k h);
  small = few;
  many = many;
  numbers = record { named = λ x h. rw given (n.numbers x h); fresh = λ p l h. (fresh p l h).new };
}
