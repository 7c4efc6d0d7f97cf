-- What is told of a question that was read: whether signs are left over, and whether it is too large.
use Rattle.std.proofs.Common.{◌≡◌, ℕ, ◌-◌, ◌*◌, leb, List, length, None, sym, refl, ap, ◌∙◌, arith}
use Rattle.std.proofs.lemmas.Bool.{eq-eqb, leb-true}
use Rattle.condition.specs.Refusals.{unless}
use Rattle.condition.proofs.Refusing.{first_none, unless_none}
use Rattle.query.specs.Reading.{Sized, Read, sized, question_told, sizes_told, reads}
use Rattle.query.specs.Parts.{Reads}
use Rattle.query.specs.Shapes.{part_at}
use Rattle.query.proofs.Parting.{first_part, query_sized}
use Rattle.query.specs.Questions.{Parses, Stands}
use Rattle.query.specs.declared.Part.{Part}

-- a question that took all signs
pub whole_told : (ss : List (ℕ × ℕ)) (xs signs : List ℕ) (before after : List Part) (next : ℕ) (rest : List ℕ) → Reads 16 ss 0 xs before after next rest → 6 * next ≡ length signs →
    None ≡ question_told (reads 16 ss 0 xs) signs
whole_told ss xs signs before after next rest q whole = rw (q.is, eq-eqb (6 * next) (length signs) whole) refl

pub parses : (ss : List (ℕ × ℕ)) (xs : List ℕ) (before after : List Part) (next : ℕ) (rest : List ℕ) → Reads 16 ss 0 xs before after next rest → length after ≡ 16 →
    Parses ss (reads 16 ss 0 xs) after next
parses ss xs before after next rest q long =
    let e : sized (reads 16 ss 0 xs) ≡ q.question = ap sized q.is in
    let n : next - 0 ≡ next = omega arith in
    record { long = long; parts = rw n at q.parts; sizes = q.sizes ∙ sym e; query = sym (query_sized 16 ss after) ∙ ap (λ (t : Sized). t.query) (q.sizes ∙ sym e); first = rw e (first_part 16 ss 0 xs before after next rest q) }

-- a question that is not too large
pub stands : (ss : List (ℕ × ℕ)) (r : Read) (ps : List Part) (n : ℕ) → Parses ss r ps n → None ≡ sizes_told (part_at ps 0).lines (part_at ps 0).cost → Stands ss r ps n
stands ss r ps n p e =
    let t : (unless (leb (part_at ps 0).lines 4096) 5 4097 ≡ None) × (unless (leb (part_at ps 0).cost 65536) 5 65537 ≡ None) =
    first_none (unless (leb (part_at ps 0).lines 4096) 5 4097) (unless (leb (part_at ps 0).cost 65536) 5 65537) (sym e) in
    record {
      long = p.long;
      parts = p.parts;
      sizes = p.sizes;
      query = p.query;
      first = p.first;
      lines = omega (arith, p.first.lines, leb-true (part_at ps 0).lines 4096 (unless_none (leb (part_at ps 0).lines 4096) 5 4097 t.0));
      cost = omega (arith, p.first.cost, leb-true (part_at ps 0).cost 65536 (unless_none (leb (part_at ps 0).cost 65536) 5 65537 t.1));
    }
