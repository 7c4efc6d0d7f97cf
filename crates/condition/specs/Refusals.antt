-- What is told when a call is refused: a number and a place.
--
--   told r             the number and the place of a refusal
--   outcome r          what a result tells: nothing, or its refusal
--   first a b          the first of two that tells something
--   unless t n p       number n at place p where the test t fails
use Rattle.std.specs.Prelude.{ℕ, ◌+◌, Bool, true, false, Some, None, Ok, Err, Option, Result}
use Rattle.condition.specs.declared.Refusal.{Refusal}
use Rattle.condition.specs.declared.Refusal.TheVariants.{BadLists, BadStore, NoSuchNode, BadQuestion, TooManyLines, TooCostly, StoreFull, AnswerTooShort, WrongWidth, TooManyGaps, TooManyNumbers, TooManyNumbersAt, WouldNotFit, NothingFits, RowsFull, NoMemory}

-- number and place
abbrev pub Told : Type 0
Told = Option (ℕ × ℕ)

abbrev pub told : Refusal → ℕ × ℕ
told (BadLists place) = (1, place)
told (BadStore count) = (2, count)
told (NoSuchNode place) = (3, place)
told (BadQuestion sign) = (4, sign)
told TooManyLines = (5, 4097)
told TooCostly = (5, 65537)
told (StoreFull room) = (6, room)
told (AnswerTooShort size) = (7, size)
told (WrongWidth width) = (8, width)
told (TooManyGaps gaps) = (9, gaps)
told (TooManyNumbers numbers) = (9, 64 + numbers)
told (TooManyNumbersAt place) = (9, place)
told (WouldNotFit node) = (10, node)
told NothingFits = (11, 0)
told (RowsFull rows) = (12, rows)
told NoMemory = (99, 0)

abbrev pub outcome : {T : Type 0} → Result T Refusal → Told
outcome (Ok x) = None
outcome (Err e) = Some (told e)

abbrev pub first : Told → Told → Told
first None later = later
first (Some t) later = Some t

abbrev pub unless : Bool → ℕ → ℕ → Told
unless true number place = None
unless false number place = Some (number, place)

-- the number alone, 0 where nothing is told
abbrev pub number : Told → ℕ
number None = 0
number (Some t) = t.0
