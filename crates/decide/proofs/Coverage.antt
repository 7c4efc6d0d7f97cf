-- Laws of `Covers`: the numbers and the gaps that stand in cells.
use Rattle.std.proofs.Common.{◌≡◌, ℕ, true, ◌⊎◌, List, [], ◌++◌, sym, ◌∙◌, ⊎_elim}
use Rattle.std.proofs.lemmas.Bool.{or_cases}
use Rattle.condition.specs.Cond.{Cell, numbers_in, gaps_in, has, Within}
use Rattle.condition.proofs.Lists.{has_none, has_app, has_left, has_right}
use Rattle.condition.proofs.Named.{numbers_app, gaps_app}
use Rattle.decide.specs.Reaching.{Covers}

has_either : (xs ys : List ℕ) (n : ℕ) → has (xs ++ ys) n ≡ true → (has xs n ≡ true) ⊎ (has ys n ≡ true)
has_either xs ys n h = or_cases (has xs n) (has ys n) (sym (has_app xs ys n) ∙ h)

within_app : (xs ys zs : List ℕ) → Within xs zs → Within ys zs → Within (xs ++ ys) zs
unfolding Within
within_app xs ys zs p q n h = ⊎_elim (p n) (q n) (has_either xs ys n h)

pub covers_none : (ns gs : List ℕ) → Covers ns gs []
unfolding Within numbers_in gaps_in
covers_none ns gs = record { numbers = λ n h. absurd (has_none n h); gaps = λ n h. absurd (has_none n h) }

pub covers_both : (ns gs : List ℕ) (cs ds : List Cell) → Covers ns gs cs → Covers ns gs ds → Covers ns gs (cs ++ ds)
covers_both ns gs cs ds p q = record {
  numbers = rw (numbers_app cs ds) (within_app (numbers_in cs) (numbers_in ds) ns p.numbers q.numbers);
  gaps = rw (gaps_app cs ds) (within_app (gaps_in cs) (gaps_in ds) gs p.gaps q.gaps);
}

pub covers_left : (ns gs : List ℕ) (cs ds : List Cell) → Covers ns gs (cs ++ ds) → Covers ns gs cs
unfolding Within
covers_left ns gs cs ds p = record {
  numbers = λ n h. p.numbers n (rw (numbers_app cs ds) (has_left (numbers_in cs) (numbers_in ds) n h));
  gaps = λ n h. p.gaps n (rw (gaps_app cs ds) (has_left (gaps_in cs) (gaps_in ds) n h));
}

pub covers_right : (ns gs : List ℕ) (cs ds : List Cell) → Covers ns gs (cs ++ ds) → Covers ns gs ds
unfolding Within
covers_right ns gs cs ds p = record {
  numbers = λ n h. p.numbers n (rw (numbers_app cs ds) (has_right (numbers_in cs) (numbers_in ds) n h));
  gaps = λ n h. p.gaps n (rw (gaps_app cs ds) (has_right (gaps_in cs) (gaps_in ds) n h));
}

-- cells cover themselves
pub covers_self : (cs : List Cell) → Covers (numbers_in cs) (gaps_in cs) cs
unfolding Within
covers_self cs = record { numbers = λ n h. h; gaps = λ n h. h }

pub covers_more : (ns ms gs hs : List ℕ) (cs : List Cell) → Within ns ms → Within gs hs → Covers ns gs cs → Covers ms hs cs
unfolding Within
covers_more ns ms gs hs cs p q c = record { numbers = λ n h. p n (c.numbers n h); gaps = λ n h. q n (c.gaps n h) }

-- the cells behind others, and before others, are covered by what stands in all of them
pub covers_behind : (xs ys cs : List Cell) → Covers (numbers_in ys) (gaps_in ys) cs → Covers (numbers_in (xs ++ ys)) (gaps_in (xs ++ ys)) cs
unfolding Within
covers_behind xs ys cs c = record {
  numbers = λ n h. rw (numbers_app xs ys) (has_right (numbers_in xs) (numbers_in ys) n (c.numbers n h));
  gaps = λ n h. rw (gaps_app xs ys) (has_right (gaps_in xs) (gaps_in ys) n (c.gaps n h));
}

pub covers_before : (xs ys cs : List Cell) → Covers (numbers_in xs) (gaps_in xs) cs → Covers (numbers_in (xs ++ ys)) (gaps_in (xs ++ ys)) cs
unfolding Within
covers_before xs ys cs c = record {
  numbers = λ n h. rw (numbers_app xs ys) (has_left (numbers_in xs) (numbers_in ys) n (c.numbers n h));
  gaps = λ n h. rw (gaps_app xs ys) (has_left (gaps_in xs) (gaps_in ys) n (c.gaps n h));
}
