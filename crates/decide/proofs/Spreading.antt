-- One row more of those that go on from a row.
use Rattle.std.proofs.Common.{◌≡◌, ℕ, ◌+◌, ◌<◌, cond as if, ltb, List, [], ◌∷◌, ◌++◌, length, get_or, ap, ◌∙◌, arith, append_assoc, length-append, below_more}
use Rattle.std.proofs.Math.Seq.{get_or-append_seam}
use Rattle.std.proofs.lemmas.List.{get_or_append_left}
use Rattle.decide.specs.Rows.{GoesOn, blank}
use Rattle.decide.specs.declared.rows.Row.{Row}

module _ (pool : List ℕ) (r : Row) (depth n : ℕ) (next : List Row) where
  -- behind the others stand those with the first k numbers of the pool, of which n are named or in use
  pub record Spread (k : ℕ) (next₁ : List Row) : Type 0 where
    pub added : List Row
    pub behind : next₁ ≡ next ++ added
    pub many : length added ≡ k
    pub each : (i : ℕ) → i < k → GoesOn r depth (get_or pool i 0) (if (ltb i n) r.used (r.used + 1)) (get_or added i blank)

  pub spread_more : (k : ℕ) (next₁ : List Row) (s : Row) → Spread k next₁ → GoesOn r depth (get_or pool k 0) (if (ltb k n) r.used (r.used + 1)) s → Spread (k + 1) (next₁ ++ s ∷ [])
  spread_more k next₁ s p g = record {
    added = p.added ++ s ∷ [];
    behind = ap (λ (rows : List Row). rows ++ s ∷ []) p.behind ∙ append_assoc next p.added (s ∷ []);
    many = simp length-append (omega (arith, p.many));
    each = below_more _ _
        (λ i l. rw (get_or_append_left p.added (s ∷ []) blank i (omega (arith, p.many))) (p.each i l))
        (rw (← p.many) (rw (get_or-append_seam p.added s [] blank, p.many) g));
  }
