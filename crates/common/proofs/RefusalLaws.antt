-- Laws of the refusals' numbers: they tell refusals apart, and none is that of a call that is carried out.
-- Assumes nothing.
use Rattle.std.proofs.Common.{eqb, false, ◌≡◌, ℕ, ◌≤◌, refl, sym, ap, ◌∙◌, Option, Some, None, ◌==◌, if◌then◌else◌}
use Rattle.std.proofs.Common.{arith}
use borrow.Author.Tests.{ne_eqb}
use Rattle.common.specs.declared.refusals.Refusal.{Refusal}
use Rattle.common.specs.declared.refusals.Refusal.TheVariants.{StateDamaged, LinkNotAwaited, TransferNotAwaited}
use Rattle.common.specs.declared.refusals.Refusal.TheVariants.{NotIdle, NoSuchDrive, CheckStoreLength}
use Rattle.common.specs.declared.refusals.Refusal.TheVariants.{CodeNotListed, FlagsAgainstRule, WrongLength}
use Rattle.common.specs.declared.refusals.Refusal.TheVariants.{MarkValue, SpaceShort, Unrestorable, CountsDiffer}
use Rattle.common.specs.declared.refusals.Refusal.TheVariants.{BlockettesUnlike, NoSuchPlace, StoreNotTaken}
use Rattle.common.specs.declared.refusals.Refusal.TheVariants.{QueueFull, WidthOutOfRange, RunTooLong, AboveLimit}
use Rattle.common.specs.Told.{number_of}

-- the refusal of a number
refusal_of : ℕ → Option Refusal
refusal_of n =
    if n == 1 then Some StateDamaged
    else (if n == 2 then Some LinkNotAwaited
    else (if n == 3 then Some TransferNotAwaited
    else (if n == 4 then Some NotIdle
    else (if n == 5 then Some NoSuchDrive
    else (if n == 6 then Some CheckStoreLength
    else (if n == 7 then Some CodeNotListed
    else (if n == 8 then Some FlagsAgainstRule
    else (if n == 9 then Some WrongLength
    else (if n == 10 then Some MarkValue
    else (if n == 11 then Some SpaceShort
    else (if n == 12 then Some Unrestorable
    else (if n == 13 then Some CountsDiffer
    else (if n == 14 then Some BlockettesUnlike
    else (if n == 15 then Some NoSuchPlace
    else (if n == 16 then Some StoreNotTaken
    else (if n == 17 then Some QueueFull
    else (if n == 18 then Some WidthOutOfRange
    else (if n == 19 then Some RunTooLong
    else (if n == 20 then Some AboveLimit
    else None)))))))))))))))))))

back : (r : Refusal) → refusal_of (number_of r) ≡ Some r
unfolding refusal_of
back StateDamaged = refl
back LinkNotAwaited = refl
back TransferNotAwaited = refl
back NotIdle = refl
back NoSuchDrive = refl
back CheckStoreLength = refl
back CodeNotListed = refl
back FlagsAgainstRule = refl
back WrongLength = refl
back MarkValue = refl
back SpaceShort = refl
back Unrestorable = refl
back CountsDiffer = refl
back BlockettesUnlike = refl
back NoSuchPlace = refl
back StoreNotTaken = refl
back QueueFull = refl
back WidthOutOfRange = refl
back RunTooLong = refl
back AboveLimit = refl

held : Refusal → Option Refusal → Refusal
held other (Some r) = r
held other None = other

-- two refusals of one number are the same
pub numbers_apart : (r s : Refusal) → number_of r ≡ number_of s → r ≡ s
unfolding held
numbers_apart r s same = ap (held r) (sym (back r) ∙ ap refusal_of same ∙ back s)

-- each has one, from 1 on
pub number_above : (r : Refusal) → 1 ≤ number_of r
number_above StateDamaged = omega arith
number_above LinkNotAwaited = omega arith
number_above TransferNotAwaited = omega arith
number_above NotIdle = omega arith
number_above NoSuchDrive = omega arith
number_above CheckStoreLength = omega arith
number_above CodeNotListed = omega arith
number_above FlagsAgainstRule = omega arith
number_above WrongLength = omega arith
number_above MarkValue = omega arith
number_above SpaceShort = omega arith
number_above Unrestorable = omega arith
number_above CountsDiffer = omega arith
number_above BlockettesUnlike = omega arith
number_above NoSuchPlace = omega arith
number_above StoreNotTaken = omega arith
number_above QueueFull = omega arith
number_above WidthOutOfRange = omega arith
number_above RunTooLong = omega arith
number_above AboveLimit = omega arith

-- so it is not that of a call that is carried out
pub is_refused : (r : Refusal) → number_of r ≡ 0 → ⊥
is_refused r none = omega (arith, number_above r, none)

-- as a test has it
pub refused_not_done : (r : Refusal) → eqb (number_of r) 0 ≡ false
refused_not_done r = ne_eqb (number_of r) 0 (is_refused r)
