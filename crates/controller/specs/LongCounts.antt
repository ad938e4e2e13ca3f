-- The machine with the test of a count, as it stood until it was taken out (document 02, request 10: "remove the test,
-- however it is done now, in stores and images; every call answers as before"): a count above the limit is code 02 in a
-- store, refusal 1 where it is held, and refusal 9 in an image. Here the limit is any number: 65,535, or 16,384 as it
-- was before (document 02, request 3: "Raise the limit to 65,535, for write stores, supplied counts, a held count,
-- images"). All else is the machine's.
-- Assumes nothing.
use Rattle.std.specs.Prelude.{◌≡◌, ℕ, ◌+◌, ◌*◌, ◌/◌, ◌%◌, ◌≤◌, ◌<◌, Bool, true, false, not, ◌&&◌, ◌||◌, List, leb, ltb}
use Rattle.std.specs.Prelude.{eqb, length, get_or}
use Rattle.common.specs.Pick.{pick}
use Rattle.common.specs.Refusals.{done, state_damaged, link_not_awaited, transfer_not_awaited, not_idle}
use Rattle.common.specs.Refusals.{check_store_length}
use Rattle.common.specs.Refusals.{code_not_listed, flags_against_rule}
use Rattle.records.specs.Count.{count_of}
use Rattle.records.specs.Whole.{layout_refusal}
use Rattle.status.specs.declared.drives.Drive.{Drive}
use Rattle.status.specs.Drives.{drive_of, gcr}
use Rattle.operations.specs.declared.operation.Operation.{Operation}
use Rattle.operations.specs.declared.operation.Operation.TheVariants.{Write}
use Rattle.operations.specs.declared.decode.Decoded.{Decoded}
use Rattle.operations.specs.declared.decode.Decoded.TheVariants.{Code}
use Rattle.operations.specs.declared.store.Store.{Store}
use Rattle.operations.specs.Operation.{same_operation, supplies_count}
use Rattle.operations.specs.Answers.{never_reported, answer_of}
use Rattle.operations.specs.Codes.{illegal_drive}
use Rattle.operations.specs.Course.{course_of}
use Rattle.operations.specs.Store.{names_unknown, selected_by, asked_in}
use Rattle.link.specs.declared.state.Collected.{Collected}
use Rattle.link.specs.declared.state.Phase.{Phase}
use Rattle.link.specs.declared.state.Phase.TheVariants.{Collecting, AckOffered, Sending, GoOffered, DataAwaited}
use Rattle.link.specs.declared.state.Phase.TheVariants.{ResultAwaited, EndOffered}
use Rattle.link.specs.declared.state.Body.{Body}
use Rattle.link.specs.State.{Transition}
use Rattle.link.specs.Bytes.{load_lead}
use Rattle.link.specs.Damaged.{is_sound}
use Rattle.link.specs.Loads.{carry_out_load}
use Rattle.link.specs.State.{store_of, current_drive, with_selected, when_collecting, when_ack_offered}
use Rattle.link.specs.State.{when_result_awaited}
use Rattle.transfers.specs.declared.expected.Expected.{Expected}
use Rattle.transfers.specs.declared.expected.Expected.TheVariants.{Whole, Supplied, Count, Nothing}
use Rattle.transfers.specs.Data.{check_store}
use Rattle.transfers.specs.Expected.{expected_of, unmarked_refusal}
use Rattle.transfers.specs.Results.{Result, mark_against}
use Rattle.controller.specs.declared.controller.Controller.{Controller}
use Rattle.controller.specs.Told.{Reply}
use Rattle.controller.specs.Controller.{carried, refused}
use Rattle.controller.specs.Stores.{end_with, follow, clear_outcome}
use Rattle.controller.specs.Records.{Answer, result_done}
use Rattle.controller.specs.Machine.{Call, when_store_comes, when_lent, unchanged, plain, step}
use Rattle.controller.specs.Machine.Call.{byte, taken, broken, report, host_data, result, tick, reset, hand}
use Rattle.controller.specs.Refused.{lent_space, lent_check}

-- ---- stores

-- "5: write; .. last two: count."; "a store to operation 4 with first operand byte 80 and the count in the last two"
unfoldable pub bears_count : Store → Bool
bears_count store = eqb (store.address / 16 % 8) 5 || (eqb (store.address / 16 % 8) 4 && eqb store.first 0x80)

abbrev pub store_count : Store → ℕ
store_count store = store.third * 256 + store.fourth

-- "Above 16,384 is code 02."; "a count above the record limit is code 02"
unfoldable pub asked_tested : ℕ → Store → ℕ → Decoded
asked_tested limit store density =
    pick (bears_count store && ltb limit (store_count store)) (Code 0x02) (asked_in store density)

unfoldable pub carry_out_tested : ℕ → Body → Store → Transition
carry_out_tested limit b store =
    let cleared = clear_outcome b in
    let selected = selected_by store b.selected in
    let drive = drive_of cleared.drives selected in
    pick (names_unknown store) (end_with cleared store illegal_drive)
    (follow (with_selected cleared selected) store (course_of drive (asked_tested limit store drive.density)))

unfoldable pub taken_tested : ℕ → Controller → Reply
taken_tested limit c =
    pick (is_sound c.body c.phase)
    (when_ack_offered
    (λ s. carried
    (pick (eqb s.c0 load_lead) (carry_out_load c.body s.c1) (carry_out_tested limit c.body (store_of s))))
    (refused link_not_awaited c) c.phase)
    (refused state_damaged c)

unfoldable pub hand_tested : ℕ → Controller → Store → Reply
hand_tested limit c store =
    pick (is_sound c.body c.phase)
    (when_collecting
    (λ s. pick (eqb s.length 0) (carried (carry_out_tested limit c.body store)) (refused not_idle c))
    (refused not_idle c) c.phase)
    (refused state_damaged c)

-- ---- images: "9 count above 16,384 or wrong length of image or marks"

unfoldable pub image_tested : ℕ → List ℕ → List ℕ → Expected → ℕ
image_tested limit image marks (Whole density) =
    pick (ltb (length image) 2) 9
    (pick (ltb limit (count_of image)) 9 (layout_refusal image marks (count_of image) density))
image_tested limit image marks (Supplied count) = layout_refusal image marks count gcr
image_tested limit image marks Count =
    pick (not (eqb (length image) 2)) 9
    (pick (ltb limit (count_of image)) 9 (pick (eqb (length marks) 0) done 9))
image_tested limit image marks Nothing = unmarked_refusal image marks 0

unfoldable pub refusal_tested : ℕ → Drive → Operation → Store → Result → ℕ → ℕ
refusal_tested limit drive operation store r check =
    pick (not (eqb check check_store)) check_store_length
    (pick (eqb (answer_of operation r.code) never_reported) code_not_listed
    (pick (mark_against operation r.code r.mark || leb 4 r.late) flags_against_rule
    (image_tested limit r.image r.marks (expected_of operation store drive.density r.code r.mark))))

unfoldable pub result_tested : ℕ → Controller → Result → List ℕ → List ℕ → Answer
result_tested limit c r space check =
    let drive = current_drive c.body in
    pick (is_sound c.body c.phase)
    (when_result_awaited
    (λ operation store.
    pick (eqb (refusal_tested limit drive operation store r (length check)) 0)
    (result_done c.body drive operation store r space check)
    (unchanged (refusal_tested limit drive operation store r (length check)) c space check))
    (unchanged transfer_not_awaited c space check) c.phase)
    (unchanged state_damaged c space check)

-- ---- a held count: "1 a field out of range (.. a held count 0-16,384; ..)", of a write and of a supplied count

unfoldable pub held_tested : ℕ → Phase → Bool
held_tested limit (Collecting s) = true
held_tested limit (AckOffered s) = true
held_tested limit (Sending send) = true
held_tested limit (GoOffered store) = leb (store_count store) limit
held_tested limit (DataAwaited store) = leb (store_count store) limit
held_tested limit (ResultAwaited operation store) =
    not (same_operation operation Write || supplies_count operation) || leb (store_count store) limit
held_tested limit (EndOffered interrupt) = true

-- ---- every call, with the test

unfoldable pub call_tested : ℕ → Controller → Call → Answer
call_tested limit c taken = plain (taken_tested limit c)
call_tested limit c (hand store) = plain (hand_tested limit c store)
call_tested limit c (result r space check) = result_tested limit c r space check
call_tested limit c (byte value) = step c (byte value)
call_tested limit c broken = step c broken
call_tested limit c (report drive bits) = step c (report drive bits)
call_tested limit c (host_data host space check) = step c (host_data host space check)
call_tested limit c tick = step c tick
call_tested limit c reset = step c reset

unfoldable pub step_tested : ℕ → Controller → Call → Answer
step_tested limit c call =
    pick (held_tested limit c.phase) (call_tested limit c call) (unchanged 1 c (lent_space call) (lent_check call))

-- ---- counts within a limit: of the store that a state holds, of one that comes, and of an image, whose own count is
-- looked at but where one was supplied

abbrev pub StoreWithin : ℕ → Store → Type 0
StoreWithin limit store = bears_count store ≡ true → store_count store ≤ limit

pub record CountsWithin (limit : ℕ) (c : Controller) (call : Call) : Type 0 where
  pub held : held_tested limit c.phase ≡ true
  pub stores :
      when_store_comes
      (when_ack_offered (λ s. eqb s.c0 load_lead ≡ false → StoreWithin limit (store_of s)) Unit c.phase)
      (λ store. StoreWithin limit store) Unit call
  pub images :
      when_lent (λ host space check. Unit)
      (λ r space check.
      when_result_awaited (λ operation store. supplies_count operation ≡ false → count_of r.image ≤ limit) Unit
      c.phase)
      Unit call

-- ---- bytes: "no 16-bit count is above it"

abbrev pub TwoBytes : ℕ → ℕ → Type 0
TwoBytes high low = (high < 256) × (low < 256)

-- the two that say a count, of the store that a state holds, of one that comes, and of an image
unfoldable pub HeldBytes : Phase → Type 0
HeldBytes (Collecting s) = Unit
HeldBytes (AckOffered s) = TwoBytes s.c4 s.c5
HeldBytes (Sending send) = Unit
HeldBytes (GoOffered store) = TwoBytes store.third store.fourth
HeldBytes (DataAwaited store) = TwoBytes store.third store.fourth
HeldBytes (ResultAwaited operation store) = TwoBytes store.third store.fourth
HeldBytes (EndOffered interrupt) = Unit

pub record CountsOfBytes (c : Controller) (call : Call) : Type 0 where
  pub held : HeldBytes c.phase
  pub stores : when_store_comes Unit (λ store. TwoBytes store.third store.fourth) Unit call
  pub images :
      when_lent (λ host space check. Unit) (λ r space check. TwoBytes (get_or r.image 0 0) (get_or r.image 1 0)) Unit
      call

-- ---- no count decides what becomes of a store

-- a store with another count, and a string that is one
abbrev pub with_count : Store → ℕ → ℕ → Store
with_count store high low =
    record { address = store.address; first = store.first; second = store.second; third = high; fourth = low }

abbrev pub with_string_count : Collected → ℕ → ℕ → Collected
with_string_count s high low =
    record {
      length = s.length;
      c0 = s.c0;
      c1 = s.c1;
      c2 = s.c2;
      c3 = s.c3;
      c4 = high;
      c5 = low;
      c6 = s.c6;
      c7 = s.c7;
    }

-- what two calls settle alike: the refusal, the state but for its phase, which holds the store, and the record handed
-- back
pub record SettledAlike (one other : Answer) : Type 0 where
  pub refusal : one.reply.refusal ≡ other.reply.refusal
  pub body : one.reply.controller.body ≡ other.reply.controller.body
  pub handed : one.reply.handed ≡ other.reply.handed
