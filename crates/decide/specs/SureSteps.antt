-- The steps to the list of sure rows, and what each tells.
--
--   ChosenFor c o            o is the chosen filling for c; or none, and then no filling meets c
--   is_named r               whether the numbers of a row are all below 2^64, so none of them stands nowhere
--   named_rows rs            those of the rows rs, as often and in the same order
--   KeptSure what out cs i rs   rs are those of the first i of the rows cs that are always there
--   ChooseTold what r        the result r is the chosen filling, or tells why there is none
--   Joins rs j               j has the rows rs, one after the other
--   KeepTold what out cs r   the result r has the sure ones of the candidates cs, or tells why not
--   ListTold what out w r    it has all sure rows, or tells why not; RowsTold of any slice
use Rattle.std.specs.Prelude.{◌≡◌, ℕ, ◌*◌, ◌/◌, ◌^◌, Bool, true, false, ◌⊎◌, ◌↔◌, All, List, [], length, take, filter, Some, None, Option, Result, MatchResult, nat_lt, nat_le}
use Rattle.std.specs.List.{concat, list_all}
use Rattle.condition.specs.Cond.{Cond}
use Rattle.condition.specs.Refusals.{told, unless}
use Rattle.condition.specs.declared.Refusal.{Refusal}
use Rattle.condition.specs.declared.Refusal.TheVariants.{NothingFits, NoMemory}
use Rattle.evaluate.specs.Filling.{Filling, holds}
use Rattle.list.specs.Lists.{Line, Row, stands}
use Rattle.decide.specs.Choice.{Chosen}
use Rattle.decide.specs.Shapes.{chosen_of}
use Rattle.decide.specs.Standing.{nine_told}
use Rattle.decide.specs.declared.candidates.Chosen as chosen
use Rattle.decide.specs.declared.sures.Joined.{Joined}
use Rattle.decide.specs.SureRows.{first_nine, AlwaysThere, SureRows, RowsTold, InOrder}

abbrev pub ChosenFor : Cond → Option chosen.Chosen → Type 0
ChosenFor c (Some f) = Chosen c (chosen_of f)
ChosenFor c None = (v : Filling) → holds v c ≡ false

abbrev pub is_named : Row → Bool
is_named r = list_all (λ n. nat_lt n (2 ^ 64)) r

unfoldable pub named_rows : List Row → List Row
named_rows rs = filter is_named rs

pub record KeptSure (what : Cond) (out : List Line) (cs : List Row) (i : ℕ) (rs : List Row) : Type 0 where
  pub in_order : InOrder rs
  pub each : (r : Row) → (stands r rs ≡ true) ↔ ((stands r (take i cs) ≡ true) × AlwaysThere what out r)

-- the chosen filling, if number 9 is not told for what is known alone; else that, or that no filling fits it, or want of memory
abbrev pub ChooseTold : Cond → Result chosen.Chosen Refusal → Type 0
ChooseTold what r =
    let t = nine_told what [] [] in
    MatchResult r (λ f. (t ≡ None) × Chosen what (chosen_of f))
    (λ e. (t ≡ Some (told e)) ⊎ ((t ≡ None) × ((e ≡ NoMemory) ⊎ ((e ≡ NothingFits) × ((v : Filling) → holds v what ≡ false)))))

-- rows one after the other in one list of numbers
pub record Joins (rs : List Row) (j : Joined) : Type 0 where
  pub numbers : j.numbers.items ≡ concat rs
  pub many : j.count ≡ length rs

-- of the candidates cs those that are always there, if number 9 is told for none of them; else that, or want of memory
abbrev pub KeepTold : Cond → List Line → List Row → Result Joined Refusal → Type 0
KeepTold what out cs r =
    MatchResult r (λ j. (first_nine what out cs ≡ None) × ((rs : List Row) × KeptSure what out cs (length cs) rs × Joins rs j))
    (λ e. (e ≡ NoMemory) ⊎ (first_nine what out cs ≡ Some (told e)))

-- all of them, whatever the slice is that they are for; or what is told of that
abbrev pub ListTold : Cond → List Line → ℕ → Result Joined Refusal → Type 0
ListTold what out w r =
    let t = nine_told what [] [] in
    MatchResult r
    (λ j. (t ≡ None) × ((rs : List Row) × SureRows what out rs × All (λ r. length r ≡ w) rs × Joins rs j
    × ((size : ℕ) → RowsTold what out w size (unless (nat_le (length rs * w) size) 12 (size / w)))))
    (λ e. (t ≡ Some (told e)) ⊎ ((t ≡ None) × ((e ≡ NoMemory) ⊎ ((size : ℕ) → RowsTold what out w size (Some (told e))))))
