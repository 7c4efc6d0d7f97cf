use Rattle.std.proofs.Common.{◌≡◌, ℕ, zero, suc, ◌+◌, ◌-◌, ◌<◌, Bool, List, get_or, sym, ap, ◌∙◌, subst, arith}
use Rattle.std.specs.Fn.{FnReturnsAt}
use Rattle.std.proofs.lemmas.List.{get_or_read}
use Rattle.decide.specs.Bit.{bit}
use Rattle.decide.proofs.Bits64.{bit_first, bit_up}
use Rattle.decide.proofs.words.passing_bits.Goals as goal

-- one item more, in front of the others
pass_more : {X : Type 0} (R : X → Bool → Type 0) (xs : List X) (m l end old new : ℕ) (b : Bool) → m + 1 ≡ l
    → ((k : ℕ) (d : X) → k < 64 → l + k < end → R (get_or xs (l + k) d) (bit k old)) → ((d : X) → R (get_or xs m d) b)
    → bit 0 new ≡ b → ((k : ℕ) → k + 1 < 64 → bit (k + 1) new ≡ bit k old)
    → (k : ℕ) (d : X) → k < 64 → m + k < end → R (get_or xs (m + k) d) (bit k new)
pass_more {X} R xs m l end old new b next seen here first up zero d h i =
    let e : m + 0 ≡ m = omega arith in rw e (subst (λ (t : Bool). R (get_or xs m d) t) (sym first) (here d))
pass_more {X} R xs m l end old new b next seen here first up (suc k) d h i =
    let e : m + suc k ≡ l + k = omega (arith, next) in
    rw e (subst (λ (t : Bool). R (get_or xs (l + k) d) t) (sym (ap (λ (j : ℕ). bit j new) (omega arith) ∙ up k (omega arith))) (seen k d (omega arith) (omega (arith, e))))

pub loop-l-preserved : goal.loop-l-preserved
loop-l-preserved g c =
    let xs = c.args.items.now in let m = c.loop-l.l - 1 in
    let here : (d : _) → FnReturnsAt g.F.Fn c.args.test.now (get_or xs m d) c.test.result =
    λ d. record { shown = _; shows = get_or_read xs m c.index-items-l.result (omega arith) c.index-items-l.is d; says = record { met = c.test.ensures } } in
    record {
      low = λ h. omega arith;
      seen = rw c.from.ensures (pass_more (FnReturnsAt g.F.Fn c.args.test.now) xs m c.loop-l.l c.min-l.result c.loop-l.bits _ c.test.result (omega arith) c.loop-l.invariant.seen here
          (bit_first c.loop-l.bits c.test.result) (bit_up c.loop-l.bits c.test.result));
    }

pub returns : goal.returns
returns g c l d h i = let e : c.args.from ≡ c.loop-l.l = omega (arith, c.loop-l.invariant.low) in rw e (c.loop-l.invariant.seen l d h (omega arith))
