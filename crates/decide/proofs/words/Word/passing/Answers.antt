use Rattle.std.proofs.Common.{◌≡◌, ℕ, ◌+◌, ◌*◌, ◌/◌, ◌%◌, ◌<◌, Bool, ◌⊎◌, List, length, get_or, set, sym, ap, ◌∙◌, subst, inl, inr, arith, length-set, get_or-set_same, get_or-set_other}
use Rattle.std.specs.Fn.{FnReturnsAt}
use Rattle.std.proofs.lemmas.Bool.{cases_eq}
use Rattle.std.proofs.lemmas.Nat.{div-add-mod'}
use Rattle.decide.specs.Bit.{bit, lane}
use Rattle.decide.proofs.Fours.{low}
use Rattle.decide.proofs.words.Word.passing.Goals as goal

-- one number more
seen_more : {X : Type 0} (R : X → Bool → Type 0) (xs : List X) (bits : List ℕ) (i new : ℕ) → i < length bits
    → ((k : ℕ) (d : X) → k < 64 * i → k < length xs → R (get_or xs k d) (bit (k % 64) (get_or bits (k / 64) 0)))
    → ((l : ℕ) (d : X) → l < 64 → 64 * i + l < length xs → R (get_or xs (64 * i + l) d) (bit l new))
    → (k : ℕ) (d : X) → k < 64 * (i + 1) → k < length xs → R (get_or xs k d) (bit (k % 64) (get_or (set bits i new) (k / 64) 0))
seen_more {X} R xs bits i new inside seen here k d h m = by (cases_eq (k / 64) i)
  where
    parts : 64 * (k / 64) + k % 64 ≡ k
    parts = omega (arith, div-add-mod' k 64)

    by : (k / 64 ≡ i) ⊎ (k / 64 ≡ i → ⊥) → R (get_or xs k d) (bit (k % 64) (get_or (set bits i new) (k / 64) 0))
    by (inl e) =
        let j : 64 * i + k % 64 ≡ k = sym (ap (λ (q : ℕ). 64 * q + k % 64) e) ∙ parts in
        rw (e, get_or-set_same bits i new 0 inside) (subst (λ (q : ℕ). R (get_or xs q d) (bit (k % 64) new)) j (here (k % 64) d (low k) (omega arith)))
    by (inr ne) = rw (get_or-set_other bits i (k / 64) new 0 ne) (seen k d (omega (arith, low k)) m)

pub loop-i-preserved : goal.loop-i-preserved
loop-i-preserved g c = record {
  four = omega (arith, length-set c.loop-i.bits c.loop-i.i c.passing_bits.result);
  seen = seen_more (FnReturnsAt g.F.Fn c.args.test) c.args.items.now c.loop-i.bits c.loop-i.i c.passing_bits.result (omega arith) c.loop-i.invariant.seen c.passing_bits.ensures;
}

pub returns : goal.returns
unfolding lane
returns g c l d h = c.loop-i.invariant.seen l d (omega arith) h
