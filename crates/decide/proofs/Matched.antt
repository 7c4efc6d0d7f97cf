-- Laws of `Matched`: one line more, from the last to the first, that does not decide the row, or that does.
use Rattle.std.proofs.Common.{◌≡◌, ℕ, ◌-◌, ◌<◌, ◌≤◌, Bool, true, false, ◌≢◌, List, ◌∷◌, ◌++◌, length, set, sym, ap, ◌∙◌, inl, inr, arith}
use Rattle.std.proofs.lemmas.List.{get_or-set_same, get_or-set_other}
use Rattle.std.proofs.lemmas.Bool.{both_ways, cases_eq}
use Rattle.condition.specs.Cond.{cells_of}
use Rattle.condition.specs.Store.{count, cond_at}
use Rattle.list.specs.Lists.{Line, Row}
use Rattle.decide.specs.Deciding.{agrees, cells_in_lines, conds_in_lines}
use Rattle.decide.specs.Reaching.{marked}
use Rattle.decide.specs.Noting.{NotesMore}
use Rattle.decide.specs.Matching.{cells_at, node_at, deciding_from, Matched}
use Rattle.decide.specs.declared.noting.Notes.{Notes}
use Rattle.decide.specs.declared.sought.Sought.{Sought}
use Rattle.decide.proofs.Coverage.{covers_none, covers_both, covers_left, covers_right}
use Rattle.decide.proofs.Looked.{from_none, line_here, from_pass, from_more}
use Rattle.decide.proofs.Noted.{notes_before}

pub matched_none : (q : Sought) (ms : List Bool) (s : Notes) → Matched q q.lines ms ms s s
unfolding cells_in_lines conds_in_lines
matched_none q ms s = record {
  lines = λ k l m y. absurd (omega arith);
  kept = λ k h. h;
  all = λ ns gs a. rw (from_none q) (covers_none ns gs);
  only = λ ns gs a b. a;
  noted = rw (from_none q) (λ ds h. h);
}

module _ (q : Sought) (i : ℕ) (some : 0 < i) (inside : i ≤ q.lines) (ms₀ ms : List Bool) (s₀ s : Notes) (m : Matched q i ms₀ ms s₀ s) where
  abbrev row : Row
  row = q.row.now

  -- the line before line i, and the place of its node
  abbrev line : Line
  line = line_here q (i - 1)

  abbrev at : ℕ
  at = node_at (length row) q.answer.now (i - 1)

  -- a line that does not agree
  pub matched_pass : agrees (cells_at (length row) q.answer.now (i - 1)) row ≡ false → Matched q (i - 1) ms₀ ms s₀ s
  matched_pass h =
      let e : deciding_from q (i - 1) ≡ deciding_from q i = from_pass q i some inside h in record {
        lines = λ k l n y. elim (cases_eq k (i - 1)) [
          | inl p ↦ absurd (both_ways (agrees (cells_at (length row) q.answer.now (i - 1)) row) h (ap (λ t. agrees (cells_at (length row) q.answer.now t) row) (sym p) ∙ y))
          | inr ne ↦ m.lines k (omega arith) n y
        ];
        kept = m.kept;
        all = λ ns gs a. rw e (m.all ns gs a);
        only = λ ns gs a b. m.only ns gs a (rw e at b);
        noted = rw e m.noted;
      }

  -- a line that does
  pub matched_more : (t : Notes) → agrees (cells_at (length row) q.answer.now (i - 1)) row ≡ true → at < count q.nodes.now → count q.nodes.now ≤ length ms →
      NotesMore line.cells s t → Matched q (i - 1) ms₀ (set ms at true) s₀ t
  unfolding cells_in_lines conds_in_lines
  matched_more t h l r n =
      let e : deciding_from q (i - 1) ≡ line ∷ deciding_from q i = from_more q i some inside h in
      let conds : conds_in_lines (deciding_from q (i - 1)) ≡ cells_of (cond_at q.nodes.now at) ++ conds_in_lines (deciding_from q i) = ap conds_in_lines e in
      let cells : cells_in_lines (deciding_from q (i - 1)) ≡ line.cells ++ cells_in_lines (deciding_from q i) = ap cells_in_lines e in
      record {
        lines = λ k p o y. elim (cases_eq k (i - 1)) [
          | inl x ↦ rw x here
          | inr ne ↦ keep (node_at (length row) q.answer.now k) (m.lines k (omega arith) o y)
        ];
        kept = λ j o. keep j (m.kept j o);
        all = λ ns gs a. rw conds (covers_both ns gs (cells_of (cond_at q.nodes.now at)) (conds_in_lines (deciding_from q i)) (a at l here) (m.all ns gs (λ k b o. a k b (keep k o))));
        only = λ ns gs a b k j o.
            let u = rw conds at b in
            elim (cases_eq k at) [
              | inl x ↦ rw x (covers_left ns gs (cells_of (cond_at q.nodes.now at)) (conds_in_lines (deciding_from q i)) u)
              | inr ne ↦ m.only ns gs a (covers_right ns gs (cells_of (cond_at q.nodes.now at)) (conds_in_lines (deciding_from q i)) u) k j (sym (other k ne) ∙ o)
            ];
        noted = rw cells (notes_before line.cells (cells_in_lines (deciding_from q i)) s₀ s t m.noted n);
      }
    where
      here : marked (set ms at true) at ≡ true
      here = let b : at < length ms = omega arith in get_or-set_same ms at true false b

      other : (k : ℕ) → (k ≡ at → ⊥) → marked (set ms at true) k ≡ marked ms k
      other k ne = let e : k ≢ at = ne in get_or-set_other ms at k true false e

      keep : (j : ℕ) → marked ms j ≡ true → marked (set ms at true) j ≡ true
      keep j o = elim (cases_eq j at) [
        | inl e ↦ rw e here
        | inr ne ↦ other j ne ∙ o
      ]
