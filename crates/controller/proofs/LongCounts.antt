-- No count is above the limit (document 02, request 10): "Since 65,535 is the limit, no 16-bit count is above it. Show
-- that, then remove the test, however it is done now, in stores and images; every call answers as before." With the
-- test put back every call answers the same, whatever the limit is, where no count is above it (`answers_as_tested`);
-- and no count of two bytes is above 65,535 (`bytes_within`).
-- Assumes nothing.
use mathlib.Core.Path.{◌≡◌, refl, sym, ap, ap₂, subst, ◌∙◌}
use mathlib.Core.Bool.{Bool, true, false, not, ◌&&◌, ◌||◌, or-true}
use mathlib.Core.List.{List}
use Prim.Native.Nat.{ℕ, ◌+◌, ◌*◌, ◌≤◌}
use native.Mathlib.Omega.{arith}
use lib.Dec.{leb, ltb, eqb}
use lib.ListN.{length, get_or}
use borrow.Author.Tests.{le-leb, le-ltb, eqb-true}
use Rattle.common.specs.Pick.{pick}
use Rattle.common.proofs.PickLaws.{by_test, pick_by, pick_yes, pick_no, pick_same}
use Rattle.records.specs.Count.{limit, unrotated, count_of}
use Rattle.records.specs.Whole.{whole_refusal}
use Rattle.status.specs.declared.drives.Drive.{Drive}
use Rattle.status.specs.Drives.{drive_of}
use Rattle.operations.specs.declared.operation.Operation.{Operation}
use Rattle.operations.specs.declared.operation.Operation.TheVariants.{Read, SuppliedCount, SkipForward}
use Rattle.operations.specs.declared.decode.Decoded.{Decoded}
use Rattle.operations.specs.declared.store.Store.{Store}
use Rattle.operations.specs.Operation.{number_of, supplies_count, brings_record}
use Rattle.operations.specs.Answers.{never_reported, answer_of}
use Rattle.operations.specs.Course.{course_of}
use Rattle.operations.specs.Codes.{illegal_drive}
use Rattle.operations.specs.Store.{names_unknown, selected_by, asked_in, held_count}
use Rattle.link.specs.declared.state.Collected.{Collected}
use Rattle.link.specs.declared.state.Phase.{Phase}
use Rattle.link.specs.declared.state.Phase.TheVariants.{Collecting, AckOffered, Sending, GoOffered, DataAwaited}
use Rattle.link.specs.declared.state.Phase.TheVariants.{ResultAwaited, EndOffered}
use Rattle.link.specs.declared.state.Body.{Body}
use Rattle.link.specs.State.{Transition}
use Rattle.link.specs.Bytes.{load_lead}
use Rattle.link.specs.Damaged.{is_sound}
use Rattle.link.specs.State.{store_of, current_drive, with_selected, when_collecting, when_ack_offered}
use Rattle.link.specs.State.{when_result_awaited}
use Rattle.link.proofs.PhaseLaws.{each_phase}
use Rattle.transfers.specs.declared.expected.Expected.{Expected}
use Rattle.transfers.specs.declared.expected.Expected.TheVariants.{Whole, Supplied, Count, Nothing}
use Rattle.transfers.specs.Expected.{expected_supplied, expected_of, unmarked_refusal, image_refusal}
use Rattle.transfers.specs.Results.{Result, mark_against, result_refusal}
use Rattle.controller.specs.declared.controller.Controller.{Controller}
use Rattle.controller.specs.Told.{Reply}
use Rattle.controller.specs.Controller.{carried, refused}
use Rattle.controller.specs.Stores.{end_with, follow, clear_outcome, carry_out_on, carry_out}
use Rattle.controller.specs.Records.{Answer, result_done}
use Rattle.controller.specs.Machine.{Call, plain, unchanged, carry_out_string, taken_in, taken_call, hand_in, hand_call}
use Rattle.controller.specs.Machine.{result_for, result_in, result_call, step}
use Rattle.controller.specs.Machine.Call.{byte, taken, broken, report, host_data, result, tick, reset, hand}
use Rattle.controller.specs.LongCounts.{bears_count, store_count, asked_tested, carry_out_tested, taken_tested}
use Rattle.controller.specs.LongCounts.{hand_tested, image_tested, refusal_tested, result_tested, held_tested}
use Rattle.controller.specs.LongCounts.{call_tested, step_tested, StoreWithin, CountsWithin, TwoBytes, HeldBytes}
use Rattle.controller.specs.LongCounts.{CountsOfBytes}

-- ---- values by the phase that are alike

module _ {A : Type 0} (otherwise : A) where
  offered_alike : (one two : Collected → A) (phase : Phase) → when_ack_offered (λ s. one s ≡ two s) Unit phase
      → when_ack_offered one otherwise phase ≡ when_ack_offered two otherwise phase
  offered_alike one two =
      each_phase
      (λ (phase : Phase). when_ack_offered (λ s. one s ≡ two s) Unit phase
      → when_ack_offered one otherwise phase ≡ when_ack_offered two otherwise phase)
      (λ s e. refl) (λ s e. e) (λ send e. refl) (λ store e. refl) (λ store e. refl) (λ operation store e. refl)
      (λ interrupt e. refl)

  awaited_alike : (one two : Operation → Store → A) (phase : Phase)
      → when_result_awaited (λ operation store. one operation store ≡ two operation store) Unit phase
      → when_result_awaited one otherwise phase ≡ when_result_awaited two otherwise phase
  awaited_alike one two =
      each_phase
      (λ (phase : Phase). when_result_awaited (λ operation store. one operation store ≡ two operation store) Unit phase
      → when_result_awaited one otherwise phase ≡ when_result_awaited two otherwise phase)
      (λ s e. refl) (λ s e. refl) (λ send e. refl) (λ store e. refl) (λ store e. refl) (λ operation store e. e)
      (λ interrupt e. refl)

-- a claim in one phase from another in it
offered_map : (P Q : Collected → Type 0) → ((s : Collected) → P s → Q s) → (phase : Phase)
    → when_ack_offered P Unit phase → when_ack_offered Q Unit phase
offered_map P Q f =
    each_phase (λ (phase : Phase). when_ack_offered P Unit phase → when_ack_offered Q Unit phase) (λ s h. tt) f
    (λ send h. tt) (λ store h. tt) (λ store h. tt) (λ operation store h. tt) (λ interrupt h. tt)

awaited_map : (P Q : Operation → Store → Type 0)
    → ((operation : Operation) (store : Store) → P operation store → Q operation store) → (phase : Phase)
    → when_result_awaited P Unit phase → when_result_awaited Q Unit phase
awaited_map P Q f =
    each_phase (λ (phase : Phase). when_result_awaited P Unit phase → when_result_awaited Q Unit phase) (λ s h. tt)
    (λ s h. tt) (λ send h. tt) (λ store h. tt) (λ store h. tt) f (λ interrupt h. tt)

-- ---- with the test, of counts within the limit

module _ (most : ℕ) where
  asked_as_tested : (store : Store) (density : ℕ) → StoreWithin most store
      → asked_in store density ≡ asked_tested most store density
  unfolding asked_tested
  asked_as_tested store density within =
      by_test (bears_count store)
      (λ bears. sym (pick_no _ _ (ap₂ ◌&&◌ bears (le-ltb most (store_count store) (within bears)))))
      (λ none. sym (pick_no _ _ (ap (λ (t : Bool). t && ltb most (store_count store)) none)))

  carried_as_tested : (b : Body) (store : Store) → StoreWithin most store
      → carry_out b store ≡ carry_out_tested most b store
  unfolding carry_out carry_out_on carry_out_tested
  carried_as_tested b store within =
      let cleared = clear_outcome b in
      let selected = selected_by store b.selected in
      let drive = drive_of cleared.drives selected in
      ap
      (λ (d : Decoded). pick (names_unknown store) (end_with cleared store illegal_drive)
      (follow (with_selected cleared selected) store (course_of drive d)))
      (asked_as_tested store drive.density within)

  taken_as_tested : (c : Controller)
      → when_ack_offered (λ s. eqb s.c0 load_lead ≡ false → StoreWithin most (store_of s)) Unit c.phase
      → taken_call c ≡ taken_tested most c
  unfolding taken_call taken_in carry_out_string taken_tested
  taken_as_tested c within =
      ap (λ (r : Reply). pick (is_sound c.body c.phase) r (refused 1 c))
      (offered_alike (refused 2 c) _ _ c.phase
      (offered_map _ _
      (λ s store_within. ap carried
      (pick_same (eqb s.c0 load_lead) _ _ _
      (λ holds_store_lead. carried_as_tested c.body (store_of s) (store_within holds_store_lead))))
      c.phase within))

  handed_as_tested : (c : Controller) (store : Store) → StoreWithin most store
      → hand_call c store ≡ hand_tested most c store
  unfolding hand_call hand_in hand_tested
  handed_as_tested c store within =
      ap
      (λ (t : Transition). pick (is_sound c.body c.phase)
      (when_collecting (λ s. pick (eqb s.length 0) (carried t) (refused 4 c)) (refused 4 c) c.phase)
      (refused 1 c))
      (carried_as_tested c.body store within)

  -- an image, by what is expected
  module _ (image marks : List ℕ) where
    image_as_tested : count_of image ≤ most → (expected : Expected)
        → image_refusal image marks expected ≡ image_tested most image marks expected
    unfolding image_refusal image_tested whole_refusal unmarked_refusal
    image_as_tested within (Whole density) =
        ap (λ (n : ℕ). pick (ltb (length image) 2) 9 n) (sym (pick_no 9 _ (le-ltb most (count_of image) within)))
    image_as_tested within (Supplied count) = refl
    image_as_tested within Count =
        ap (λ (n : ℕ). pick (not (eqb (length image) 2)) 9 n) (sym (pick_no 9 _ (le-ltb most (count_of image) within)))
    image_as_tested within Nothing = refl

    -- with a supplied count none is looked at
    supplied_as_tested : (count code : ℕ)
        → image_refusal image marks (expected_supplied count code)
        ≡ image_tested most image marks (expected_supplied count code)
    unfolding expected_supplied image_refusal image_tested
    supplied_as_tested count code =
        pick_by (λ (e : Expected). image_refusal image marks e ≡ image_tested most image marks e)
        (eqb code 0 && not (eqb count 0)) (λ some. refl) (λ none. refl)

  -- which is no read and no skip
  supplied_alone : (operation : Operation) → supplies_count operation ≡ true → brings_record operation ≡ false
  supplied_alone operation supplies =
      ap (λ (n : ℕ). eqb n (number_of Read) || eqb n (number_of SkipForward))
      (eqb-true (number_of operation) (number_of SuppliedCount) supplies)

  refused_as_tested : (drive : Drive) (operation : Operation) (store : Store) (r : Result) (check : ℕ)
      → (supplies_count operation ≡ false → count_of r.image ≤ most)
      → result_refusal drive operation store r check ≡ refusal_tested most drive operation store r check
  unfolding result_refusal refusal_tested expected_of
  refused_as_tested drive operation store r check within =
      let P : Expected → Type 0 = λ e.
      image_refusal r.image r.marks e ≡ image_tested most r.image r.marks e in
      let same : P (expected_of operation store drive.density r.code r.mark) =
      by_test (supplies_count operation)
      (λ supplies.
      subst P (sym (pick_no _ _ (supplied_alone operation supplies) ∙ pick_yes _ _ supplies))
      (supplied_as_tested r.image r.marks (held_count store) r.code))
      (λ none. image_as_tested r.image r.marks (within none) _)
      in
      ap
      (λ (n : ℕ). pick (not (eqb check 512)) 6
      (pick (eqb (answer_of operation r.code) never_reported) 7
      (pick (mark_against operation r.code r.mark || leb 4 r.late) 8 n)))
      same

  result_as_tested : (c : Controller) (r : Result) (space check : List ℕ)
      → when_result_awaited (λ operation store. supplies_count operation ≡ false → count_of r.image ≤ most) Unit
      c.phase
      → result_call c r space check ≡ result_tested most c r space check
  unfolding result_call result_in result_for result_tested
  result_as_tested c r space check within =
      let drive = current_drive c.body in
      ap (λ (a : Answer). pick (is_sound c.body c.phase) a (unchanged 1 c space check))
      (awaited_alike (unchanged 3 c space check) _ _ c.phase
      (awaited_map _ _
      (λ operation store image_within. ap
      (λ (n : ℕ). pick (eqb n 0) (result_done c.body drive operation store r space check)
      (unchanged n c space check))
      (refused_as_tested drive operation store r (length check) image_within))
      c.phase within))

  call_as_tested : (c : Controller) (call : Call) → CountsWithin most c call → step c call ≡ call_tested most c call
  unfolding step call_tested
  call_as_tested c taken within = ap plain (taken_as_tested c within.stores)
  call_as_tested c (hand store) within = ap plain (handed_as_tested c store within.stores)
  call_as_tested c (result r space check) within = result_as_tested c r space check within.images
  call_as_tested c (byte value) within = refl
  call_as_tested c broken within = refl
  call_as_tested c (report drive bits) within = refl
  call_as_tested c (host_data host space check) within = refl
  call_as_tested c tick within = refl
  call_as_tested c reset within = refl

  pub answers_as_tested : (c : Controller) (call : Call) → CountsWithin most c call
      → step c call ≡ step_tested most c call
  unfolding step_tested
  answers_as_tested c call within = call_as_tested c call within ∙ sym (pick_yes _ _ within.held)

-- ---- no count of two bytes is above 65,535

-- of a store, whose last two operand bytes say it
pub operand_within : (third fourth : ℕ) → TwoBytes third fourth → third * 256 + fourth ≤ limit
unfolding limit
operand_within third fourth bytes = omega (arith, bytes.0, bytes.1)

-- of an image, whose first two bytes say it
pub image_within : (image : List ℕ) → TwoBytes (get_or image 0 0) (get_or image 1 0) → count_of image ≤ limit
unfolding count_of unrotated limit
image_within image bytes = omega (arith, bytes.0, bytes.1)

-- of the store that a phase holds
held_within : (phase : Phase) → HeldBytes phase → held_tested limit phase ≡ true
unfolding HeldBytes held_tested
held_within (Collecting s) bytes = refl
held_within (AckOffered s) bytes = refl
held_within (Sending send) bytes = refl
held_within (GoOffered store) bytes = le-leb _ limit (operand_within store.third store.fourth bytes)
held_within (DataAwaited store) bytes = le-leb _ limit (operand_within store.third store.fourth bytes)
held_within (ResultAwaited operation store) bytes =
    simp (le-leb _ limit (operand_within store.third store.fourth bytes), or-true)
held_within (EndOffered interrupt) bytes = refl

-- of one whose ACK is offered
offered_within : (phase : Phase) → HeldBytes phase
    → when_ack_offered (λ s. eqb s.c0 load_lead ≡ false → StoreWithin limit (store_of s)) Unit phase
unfolding HeldBytes store_of
offered_within =
    each_phase
    (λ (phase : Phase). HeldBytes phase
    → when_ack_offered (λ s. eqb s.c0 load_lead ≡ false → StoreWithin limit (store_of s)) Unit phase)
    (λ s bytes. tt) (λ s bytes holds_store_lead bears. operand_within s.c4 s.c5 bytes) (λ send bytes. tt)
    (λ store bytes. tt) (λ store bytes. tt) (λ operation store bytes. tt) (λ interrupt bytes. tt)

within_all : (image : List ℕ) → TwoBytes (get_or image 0 0) (get_or image 1 0) → (phase : Phase)
    → when_result_awaited (λ operation store. supplies_count operation ≡ false → count_of image ≤ limit) Unit phase
within_all image bytes =
    each_phase
    (λ (phase : Phase).
    when_result_awaited (λ operation store. supplies_count operation ≡ false → count_of image ≤ limit) Unit phase)
    (λ s. tt) (λ s. tt) (λ send. tt) (λ store. tt) (λ store. tt)
    (λ operation store none. image_within image bytes) (λ interrupt. tt)

pub bytes_within : (c : Controller) (call : Call) → CountsOfBytes c call → CountsWithin limit c call
bytes_within c taken of_bytes =
    record {
      held = held_within c.phase of_bytes.held;
      stores = offered_within c.phase of_bytes.held;
      images = tt;
    }
bytes_within c (hand store) of_bytes =
    record {
      held = held_within c.phase of_bytes.held;
      stores = λ bears. operand_within store.third store.fourth of_bytes.stores;
      images = tt;
    }
bytes_within c (result r space check) of_bytes =
    record {
      held = held_within c.phase of_bytes.held;
      stores = tt;
      images = within_all r.image of_bytes.images c.phase;
    }
bytes_within c (byte value) of_bytes =
    record { held = held_within c.phase of_bytes.held; stores = tt; images = tt }
bytes_within c broken of_bytes =
    record { held = held_within c.phase of_bytes.held; stores = tt; images = tt }
bytes_within c (report drive bits) of_bytes =
    record { held = held_within c.phase of_bytes.held; stores = tt; images = tt }
bytes_within c (host_data host space check) of_bytes =
    record { held = held_within c.phase of_bytes.held; stores = tt; images = tt }
bytes_within c tick of_bytes =
    record { held = held_within c.phase of_bytes.held; stores = tt; images = tt }
bytes_within c reset of_bytes =
    record { held = held_within c.phase of_bytes.held; stores = tt; images = tt }
