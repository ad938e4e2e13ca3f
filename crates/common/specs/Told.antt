-- What a refusal tells: its number, and the manual's words; and the number of a call's answer, 0 where it is carried
-- out.
-- Assumes nothing.
use Rattle.std.specs.Prelude.{ℕ, List, Result, Ok, Err, codes}
use Rattle.common.specs.declared.refusals.Refusal.{Refusal}
use Rattle.common.specs.declared.refusals.Refusal.TheVariants.{StateDamaged, LinkNotAwaited, TransferNotAwaited}
use Rattle.common.specs.declared.refusals.Refusal.TheVariants.{NotIdle, NoSuchDrive, CheckStoreLength}
use Rattle.common.specs.declared.refusals.Refusal.TheVariants.{CodeNotListed, FlagsAgainstRule, WrongLength}
use Rattle.common.specs.declared.refusals.Refusal.TheVariants.{MarkValue, SpaceShort, Unrestorable, CountsDiffer}
use Rattle.common.specs.declared.refusals.Refusal.TheVariants.{BlockettesUnlike, NoSuchPlace, StoreNotTaken}
use Rattle.common.specs.declared.refusals.Refusal.TheVariants.{QueueFull, WidthOutOfRange, RunTooLong, AboveLimit}
use Rattle.common.specs.Refusals.{done, state_damaged, link_not_awaited, transfer_not_awaited, not_idle}
use Rattle.common.specs.Refusals.{no_such_drive, check_store_length, code_not_listed, flags_against_rule, wrong_length}
use Rattle.common.specs.Refusals.{mark_value, space_short, unrestorable, counts_differ, blockettes_unlike}
use Rattle.common.specs.Refusals.{no_such_place}
use Rattle.common.specs.Refusals.{store_not_taken, queue_full, width_out_of_range, run_too_long, above_limit}

abbrev pub number_of : Refusal → ℕ
number_of StateDamaged = state_damaged
number_of LinkNotAwaited = link_not_awaited
number_of TransferNotAwaited = transfer_not_awaited
number_of NotIdle = not_idle
number_of NoSuchDrive = no_such_drive
number_of CheckStoreLength = check_store_length
number_of CodeNotListed = code_not_listed
number_of FlagsAgainstRule = flags_against_rule
number_of WrongLength = wrong_length
number_of MarkValue = mark_value
number_of SpaceShort = space_short
number_of Unrestorable = unrestorable
number_of CountsDiffer = counts_differ
number_of BlockettesUnlike = blockettes_unlike
number_of NoSuchPlace = no_such_place
number_of StoreNotTaken = store_not_taken
number_of QueueFull = queue_full
number_of WidthOutOfRange = width_out_of_range
number_of RunTooLong = run_too_long
number_of AboveLimit = above_limit

abbrev pub words_of : Refusal → List ℕ
words_of StateDamaged = codes "the bytes are no state, or a field is out of range"
words_of LinkNotAwaited = codes "byte, taken or broken while data or a result is awaited, or taken with no ACK offered"
words_of TransferNotAwaited = codes "data or a result that is not awaited"
words_of NotIdle = codes "a tick or a hand when not idle"
words_of NoSuchDrive = codes "a report for a drive above 3"
words_of CheckStoreLength = codes "a check store that is not 512 bytes"
words_of CodeNotListed = codes "a code that is not listed for the operation"
words_of FlagsAgainstRule = codes "the mark flag against its rule, or late flags above 3"
words_of WrongLength = codes "a wrong length of image or marks"
words_of MarkValue = codes "a mark value that is neither 1-9 nor 15"
words_of SpaceShort = codes "a space that is too short for what is to be written"
words_of Unrestorable = codes "two bad blockettes of one parity"
words_of CountsDiffer = codes "two passes with different counts"
words_of BlockettesUnlike = codes "a blockette good in both passes, and unlike"
words_of NoSuchPlace = codes "a bad byte's place that is not among the host bytes"
words_of StoreNotTaken = codes "a job above 3, a store that names no drive, or a reset store"
words_of QueueFull = codes "the queue of that job holds eight"
words_of WidthOutOfRange = codes "a width outside 1 to 64"
words_of RunTooLong = codes "a run above 65,535"
words_of AboveLimit = codes "a number above its limit"

-- the number of a call's answer
abbrev pub refusal_number : {A : Type 0} → Result A Refusal → ℕ
refusal_number (Ok x) = done
refusal_number (Err e) = number_of e
