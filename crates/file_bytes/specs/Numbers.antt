-- Numbers in a file.
--
--   number_at bs        the number in the first four bytes, low byte first
--   Taken n bs r cs     what is left of the bytes bs once n of them were read, or none where there were fewer
--   numbers_in n bs     the numbers in the first 4 n bytes
--   ReadOn n bs xs cs ys     n numbers were read: ys is xs with them behind it, and cs are the bytes left
--   Cut n bs missing e       the refusal e is told in the place of n numbers: missing, where the bytes bs hold fewer, or want of memory
--   NodesTold n bs e         the refusal e is told in the place of n nodes: 2 and n, where the bytes hold fewer or n are too many, or want of memory
--   AllBelow m xs       each of the numbers xs is below m
--   four n              the four bytes of a number, low byte first
--   bytes_of ns         the bytes of the numbers ns, one number after the other
--   WrittenRead         the bytes of numbers below 2^32 are read as these numbers
--   ReadWritten         the numbers in some bytes have these bytes
use Rattle.std.specs.Prelude.{◌⊎◌, ◌≡◌, ℕ, zero, suc, ◌+◌, ◌*◌, ◌/◌, ◌%◌, ◌^◌, ◌<◌, ◌≤◌, List, [], ◌∷◌, ◌++◌, length, drop, Some, None, Option, slice_index}
use Rattle.condition.specs.declared.Refusal.{Refusal}
use Rattle.condition.specs.declared.Refusal.TheVariants.{BadStore, NoMemory}

abbrev pub number_at : List ℕ → ℕ
number_at bs = slice_index bs 0 + 256 * slice_index bs 1 + 65536 * (slice_index bs 2 + 256 * slice_index bs 3)

abbrev pub Taken : ℕ → List ℕ → (List ℕ → ℕ) → Option ℕ → List ℕ → Type 0
Taken n bs value None cs = (length bs < n) × (cs ≡ bs)
Taken n bs value (Some x) cs = (n ≤ length bs) × (x ≡ value bs) × (cs ≡ drop n bs)

unfoldable pub numbers_in : ℕ → List ℕ → List ℕ
numbers_in zero bs = []
numbers_in (suc n) bs = number_at bs ∷ numbers_in n (drop 4 bs)

abbrev pub ReadOn : ℕ → (bs xs cs ys : List ℕ) → Type 0
ReadOn n bs xs cs ys = (ys ≡ xs ++ numbers_in n bs) × (cs ≡ drop (4 * n) bs) × (4 * n ≤ length bs)

abbrev pub Cut : ℕ → List ℕ → (missing e : Refusal) → Type 0
Cut n bs missing e = (e ≡ NoMemory) ⊎ ((e ≡ missing) × (length bs < 4 * n))

abbrev pub NodesTold : ℕ → List ℕ → Refusal → Type 0
NodesTold n bs e = (e ≡ NoMemory) ⊎ ((e ≡ BadStore n) × ((131072 < n) ⊎ (length bs < 4 * (5 * n))))

abbrev pub AllBelow : ℕ → List ℕ → Type 0
AllBelow m xs = (k : ℕ) → slice_index xs k < m

abbrev pub four : ℕ → List ℕ
four n = n % 256 ∷ (n / 256 % 256 ∷ (n / 65536 % 256 ∷ (n / 16777216 % 256 ∷ [])))

unfoldable pub bytes_of : List ℕ → List ℕ
bytes_of [] = []
bytes_of (n ∷ ns) = four n ++ bytes_of ns

-- what stands behind them is left
abbrev pub WrittenRead : Type 0
WrittenRead =
    (ns bs : List ℕ) → AllBelow (2 ^ 32) ns → (numbers_in (length ns) (bytes_of ns ++ bs) ≡ ns) × (drop (4 * length ns) (bytes_of ns ++ bs) ≡ bs)

abbrev pub ReadWritten : Type 0
ReadWritten = (n : ℕ) (bs : List ℕ) → AllBelow 256 bs → 4 * n ≤ length bs → bytes_of (numbers_in n bs) ++ drop (4 * n) bs ≡ bs
