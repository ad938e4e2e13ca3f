-- A call whose inputs are bytes leaves a state in range in range, hands out what is in range, and is not refused for a
-- field out of range (`stays_in_range`); and so does every list of such calls (`list_stays_in_range`), from a fresh
-- controller on (`fresh_in_range`).
-- Assumes nothing.
pub mod Linking
pub mod Storing
pub mod Transferring
use mathlib.Core.Path.{◌≡◌, refl, sym, subst}
use Prim.Native.Nat.{ℕ, ◌≤◌, ◌<◌}
use native.Mathlib.Omega.{arith}
use mathlib.Core.Bool.{true}
use mathlib.Core.List.{List, [], ◌∷◌}
use lib.Dec.{leb, eqb}
use lib.ListN.{length}
use borrow.Author.Tests.{eqb-true, eq-eqb, le-leb, lt-ltb}
use Rattle.common.specs.Pick.{pick}
use Rattle.common.proofs.PickLaws.{by_test, pick_by, pick_yes}
use Rattle.status.specs.declared.drives.Drive.{Drive}
use Rattle.status.specs.Drives.{Drives}
use Rattle.operations.specs.declared.operation.Operation.{Operation}
use Rattle.operations.specs.declared.store.Store.{Store}
use Rattle.link.specs.declared.state.Collected.{Collected}
use Rattle.link.specs.declared.state.Phase.{Phase}
use Rattle.link.specs.declared.state.Phase.TheVariants.{Collecting, AckOffered, Sending, GoOffered, DataAwaited}
use Rattle.link.specs.declared.state.Phase.TheVariants.{ResultAwaited, EndOffered}
use Rattle.link.specs.declared.state.Body.{Body}
use Rattle.link.specs.declared.state.Action.TheVariants.{Nothing}
use Rattle.link.specs.State.{Transition}
use Rattle.link.specs.Bytes.{load_lead}
use Rattle.link.specs.State.{store_of, current_drive, idle}
use Rattle.link.specs.Link.{whole_length}
use Rattle.link.specs.Damaged.{sound_drive, sound_drives, sound_body, sound_lead, sound_part, sound_string, sound_phase}
use Rattle.link.specs.Damaged.{is_sound}
use Rattle.transfers.specs.Data.{Host, data_refusal, settle_data}
use Rattle.transfers.specs.Results.{Result, result_refusal, settle_result}
use Rattle.controller.specs.declared.controller.Controller.{Controller}
use Rattle.controller.specs.Told.{Reply}
use Rattle.controller.specs.Controller.{fresh, carried, refused}
use Rattle.controller.specs.Records.{Answer, words_of, with_after, data_done, result_done}
use Rattle.controller.specs.Machine.{byte_in, broken_in, tick_in, byte_call, broken_call, tick_call, carry_out_string}
use Rattle.controller.specs.Machine.{taken_in, taken_call, hand_in, hand_call, report_noted, report_call, reset_call}
use Rattle.controller.specs.Machine.{unchanged, data_for, data_in, data_call, result_for, result_in, result_call}
use Rattle.controller.specs.Machine.{Call, plain, step, run}
use Rattle.controller.specs.Machine.Call.{byte, taken, broken, report, host_data, result, tick, reset, hand}
use Rattle.controller.specs.Refused.{lent_space}
use Rattle.controller.specs.Lists.{after}
use Rattle.controller.specs.InRange.{DriveInRange, DrivesInRange, BodyInRange, StoreInRange, CollectedInRange}
use Rattle.controller.specs.InRange.{IsPart, IsWhole, PhaseInRange, InRange, Bytes}
use Rattle.controller.specs.InRange.{BytesIn, ActionInRange, HandedInRange, AnswerInRange}
use Rattle.controller.specs.InRange.{AllBytesIn, AllAnswersInRange, ListStaysInRange}
use Rattle.controller.specs.InRange.IsPart.{nothing, of_load, of_store}
use Rattle.controller.specs.InRange.IsWhole.{is_load, is_store}
use Rattle.controller.proofs.Steps.{stated}
use Rattle.controller.proofs.StaysInRange.Linking.{Within, drive_of_lem, report_noted_lem, fresh_body, fresh_phase}
use Rattle.controller.proofs.StaysInRange.Linking.{reset_within, idle_within, completed_within, given_up_within}
use Rattle.controller.proofs.StaysInRange.Linking.{send_within, byte_within, tick_within, loaded_within}
use Rattle.controller.proofs.StaysInRange.Storing.{ending_within, go_refused_within, go_answered_within}
use Rattle.controller.proofs.StaysInRange.Storing.{ordered_within, carried_out_within}
use Rattle.controller.proofs.StaysInRange.Transferring.{status_set, words_of_lem, data_words_lem, data_fits, after_set}
use Rattle.controller.proofs.StaysInRange.Transferring.{data_most, result_words_lem, result_gap_lem, result_fits}
use Rattle.controller.proofs.StaysInRange.Transferring.{result_most, Refusal, refusal_is, data_refusal_lem}
use Rattle.controller.proofs.StaysInRange.Transferring.{result_refusal_lem}

-- ---- a state in range is not damaged

sound_drive_lem : (d : Drive) → DriveInRange d → sound_drive d ≡ true
unfolding sound_drive
sound_drive_lem d one =
    simp (le-leb d.track 3 one.track, le-leb d.gap 3 one.gap, le-leb d.density 1 one.density)

sound_drives_lem : (ds : Drives) → DrivesInRange ds → sound_drives ds ≡ true
unfolding sound_drives
sound_drives_lem ds all =
    simp (
      sound_drive_lem ds.zero all.zero,
      sound_drive_lem ds.one all.one,
      sound_drive_lem ds.two all.two,
      sound_drive_lem ds.three all.three,
    )

sound_body_lem : (b : Body) → BodyInRange b → sound_body b ≡ true
unfolding sound_body
sound_body_lem b whole =
    let final = b.outcome.result in
    simp (
      sound_drives_lem b.drives whole.drives,
      le-leb b.selected 3 whole.selected,
      le-leb final.motion 3 whole.result.motion,
      le-leb final.code 31 whole.result.code,
      le-leb final.count 65535 whole.result.count,
    )

sound_part_lem : (s : Collected) → IsPart s → sound_part s ≡ true
unfolding sound_part sound_lead whole_length pick
sound_part_lem s (nothing none) = simp (eq-eqb s.length 0 none)
sound_part_lem s (of_load lead short) =
    by_test (eqb s.length 0) (λ none. rw none)
    (λ some. rw (some, lead, lt-ltb s.length 4 short))
sound_part_lem s (of_store lead short) =
    by_test (eqb s.length 0) (λ none. rw none)
    (λ some. rw (some, lead, lt-ltb s.length 8 short))

sound_string_lem : (s : Collected) → IsWhole s → sound_string s ≡ true
unfolding sound_string sound_lead whole_length pick
sound_string_lem s (is_load lead long) = rw (lead, long)
sound_string_lem s (is_store lead long) = rw (lead, long)

sound_phase_lem : (phase : Phase) → PhaseInRange phase → sound_phase phase ≡ true
unfolding sound_phase PhaseInRange
sound_phase_lem (Collecting s) held = sound_part_lem s held.part
sound_phase_lem (AckOffered s) held = sound_string_lem s held.whole
sound_phase_lem (Sending send) held = le-leb send.noes 4 held.noes
sound_phase_lem (GoOffered store) held = refl
sound_phase_lem (DataAwaited store) held = refl
sound_phase_lem (ResultAwaited operation store) held = refl
sound_phase_lem (EndOffered interrupt) held = refl

pub in_range_sound : (c : Controller) → InRange c → is_sound c.body c.phase ≡ true
unfolding is_sound
in_range_sound c fine = simp (sound_body_lem c.body fine.body, sound_phase_lem c.phase fine.phase)

-- ---- what a call leaves

record Kept (r : Reply) : Type 0 where
  state : InRange r.controller
  action : ActionInRange r.action
  handed : HandedInRange r.handed
  refusal : Refusal r.refusal

none : Refusal 0
none = refusal_is 0 (omega arith) (λ e. omega arith)

carried_kept : (t : Transition) → Within t → Kept (carried t)
carried_kept t within =
    record {
      state = record { body = within.body; phase = within.phase };
      action = within.action;
      handed = within.handed;
      refusal = none;
    }

refused_kept : (n : ℕ) (c : Controller) → Refusal n → InRange c → Kept (refused n c)
unfolding ActionInRange HandedInRange
refused_kept n c number fine = record { state = fine; action = tt; handed = tt; refusal = number }

two : Refusal 2
two = refusal_is 2 (omega arith) (λ e. omega arith)

three : Refusal 3
three = refusal_is 3 (omega arith) (λ e. omega arith)

four : Refusal 4
four = refusal_is 4 (omega arith) (λ e. omega arith)

five : Refusal 5
five = refusal_is 5 (omega arith) (λ e. omega arith)

-- the state as a call finds it
module _ (b : Body) (whole : BodyInRange b) where
  at : (phase : Phase) → PhaseInRange phase → InRange (stated b phase)
  at phase held = record { body = whole; phase = held }

  idle_kept : Kept (carried (idle b Nothing))
  unfolding ActionInRange
  idle_kept = carried_kept _ (idle_within b Nothing whole tt)

  byte_kept : (value : ℕ) (phase : Phase) → value < 256 → PhaseInRange phase
      → Kept (byte_in (stated b phase) b value phase)
  unfolding byte_in PhaseInRange
  byte_kept value (Collecting s) low held = carried_kept _ (byte_within b s value whole held low)
  byte_kept value (AckOffered s) low held = idle_kept
  byte_kept value (Sending s) low held = carried_kept _ (send_within b value s whole held)
  byte_kept value (GoOffered store) low held = carried_kept _ (go_answered_within b value store whole held)
  byte_kept value (DataAwaited store) low held = refused_kept 2 _ two (at (DataAwaited store) held)
  byte_kept value (ResultAwaited operation store) low held =
      refused_kept 2 _ two (at (ResultAwaited operation store) held)
  byte_kept value (EndOffered interrupt) low held = carried_kept _ (completed_within b interrupt whole)

  broken_kept : (phase : Phase) → PhaseInRange phase → Kept (broken_in (stated b phase) b phase)
  unfolding broken_in PhaseInRange
  broken_kept (Collecting s) held = idle_kept
  broken_kept (AckOffered s) held = idle_kept
  broken_kept (Sending s) held = carried_kept _ (given_up_within b s.kind whole)
  broken_kept (GoOffered store) held = carried_kept _ (go_refused_within b store whole)
  broken_kept (DataAwaited store) held = refused_kept 2 _ two (at (DataAwaited store) held)
  broken_kept (ResultAwaited operation store) held = refused_kept 2 _ two (at (ResultAwaited operation store) held)
  broken_kept (EndOffered interrupt) held = carried_kept _ (completed_within b interrupt whole)

  tick_kept : (phase : Phase) → PhaseInRange phase → Kept (tick_in (stated b phase) b phase)
  unfolding tick_in PhaseInRange
  tick_kept (Collecting s) held =
      pick_by Kept (eqb s.length 0) (λ free. carried_kept _ (tick_within b s whole held))
      (λ part. refused_kept 4 _ four (at (Collecting s) held))
  tick_kept (AckOffered s) held = refused_kept 4 _ four (at (AckOffered s) held)
  tick_kept (Sending s) held = refused_kept 4 _ four (at (Sending s) held)
  tick_kept (GoOffered store) held = refused_kept 4 _ four (at (GoOffered store) held)
  tick_kept (DataAwaited store) held = refused_kept 4 _ four (at (DataAwaited store) held)
  tick_kept (ResultAwaited operation store) held = refused_kept 4 _ four (at (ResultAwaited operation store) held)
  tick_kept (EndOffered interrupt) held = refused_kept 4 _ four (at (EndOffered interrupt) held)

  hand_kept : (store : Store) (phase : Phase) → StoreInRange store → PhaseInRange phase
      → Kept (hand_in (stated b phase) b store phase)
  unfolding hand_in PhaseInRange
  hand_kept store (Collecting s) five_bytes held =
      pick_by Kept (eqb s.length 0) (λ free. carried_kept _ (carried_out_within b store whole five_bytes))
      (λ part. refused_kept 4 _ four (at (Collecting s) held))
  hand_kept store (AckOffered s) five_bytes held = refused_kept 4 _ four (at (AckOffered s) held)
  hand_kept store (Sending s) five_bytes held = refused_kept 4 _ four (at (Sending s) held)
  hand_kept store (GoOffered other) five_bytes held = refused_kept 4 _ four (at (GoOffered other) held)
  hand_kept store (DataAwaited other) five_bytes held = refused_kept 4 _ four (at (DataAwaited other) held)
  hand_kept store (ResultAwaited operation other) five_bytes held =
      refused_kept 4 _ four (at (ResultAwaited operation other) held)
  hand_kept store (EndOffered interrupt) five_bytes held = refused_kept 4 _ four (at (EndOffered interrupt) held)

  -- the five bytes of a store that came by the link
  store_bytes : (s : Collected) → CollectedInRange s → StoreInRange (store_of s)
  unfolding store_of
  store_bytes s bytes =
      record {
        address = bytes.c1;
        first = bytes.c2;
        second = bytes.c3;
        third = bytes.c4;
        fourth = bytes.c5;
      }

  taken_kept : (phase : Phase) → PhaseInRange phase → Kept (taken_in (stated b phase) b phase)
  unfolding taken_in carry_out_string PhaseInRange
  taken_kept (AckOffered s) held =
      carried_kept _
      (pick_by Within (eqb s.c0 load_lead) (λ load. loaded_within b s.c1 whole)
      (λ other. carried_out_within b (store_of s) whole (store_bytes s held.bytes)))
  taken_kept (Collecting s) held = refused_kept 2 _ two (at (Collecting s) held)
  taken_kept (Sending s) held = refused_kept 2 _ two (at (Sending s) held)
  taken_kept (GoOffered store) held = refused_kept 2 _ two (at (GoOffered store) held)
  taken_kept (DataAwaited store) held = refused_kept 2 _ two (at (DataAwaited store) held)
  taken_kept (ResultAwaited operation store) held = refused_kept 2 _ two (at (ResultAwaited operation store) held)
  taken_kept (EndOffered interrupt) held = refused_kept 2 _ two (at (EndOffered interrupt) held)

-- ---- a data call and a result

-- the reply, and what is given fits, and is no longer than the longest image
record Given (space : List ℕ) (a : Answer) : Type 0 where
  kept : Kept a.reply
  fits : a.bytes ≤ length space
  most : a.bytes ≤ 66050

unchanged_given : (n : ℕ) (c : Controller) (space check : List ℕ) → Refusal n → InRange c
    → Given space (unchanged n c space check)
unchanged_given n c space check number fine =
    record { kept = refused_kept n c number fine; fits = omega arith; most = omega arith }

module _ (b : Body) (whole : BodyInRange b) where
  abbrev drive : Drive
  drive = current_drive b

  module _ (host : Host) (space check : List ℕ) where
    data_for_lem : (store : Store) → StoreInRange store
        → Given space (data_for (stated b (DataAwaited store)) b drive store host space check)
    unfolding data_for data_done settle_data PhaseInRange
    data_for_lem store held =
        pick_by (Given space)
        (eqb (data_refusal drive store (length host.bytes) host.place (length space) (length check)) 0)
        (λ done. record {
          kept =
              carried_kept _
              (ordered_within _ _ store
              (status_set b _ whole (data_words_lem (words_of b) drive store host (words_of_lem b whole)))
              held);
          fits = data_fits drive store host (length space) (length check) (eqb-true _ 0 done);
          most = data_most drive store host held;
        })
        (λ some. unchanged_given _ _ space check
        (data_refusal_lem drive store (length host.bytes) host.place (length space) (length check))
        (at b whole (DataAwaited store) held))

    data_given : (phase : Phase) → PhaseInRange phase
        → Given space (data_in (stated b phase) b host space check phase)
    unfolding data_in PhaseInRange
    data_given (DataAwaited store) held = data_for_lem store held
    data_given (Collecting s) held = unchanged_given 3 _ space check three (at b whole (Collecting s) held)
    data_given (AckOffered s) held = unchanged_given 3 _ space check three (at b whole (AckOffered s) held)
    data_given (Sending s) held = unchanged_given 3 _ space check three (at b whole (Sending s) held)
    data_given (GoOffered store) held = unchanged_given 3 _ space check three (at b whole (GoOffered store) held)
    data_given (ResultAwaited operation store) held =
        unchanged_given 3 _ space check three (at b whole (ResultAwaited operation store) held)
    data_given (EndOffered interrupt) held =
        unchanged_given 3 _ space check three (at b whole (EndOffered interrupt) held)

  module _ (r : Result) (space check : List ℕ) (image : Bytes r.image) where
    result_for_lem : (operation : Operation) (store : Store) → StoreInRange store
        → Given space (result_for (stated b (ResultAwaited operation store)) b drive operation store r space check)
    unfolding result_for result_done PhaseInRange
    result_for_lem operation store held =
        let n = length space in
        pick_by (Given space) (eqb (result_refusal drive operation store r (length check)) 0)
        (λ done. let good = eqb-true _ 0 done in
        let after_it = settle_result (words_of b) drive operation store r n check in
        let one = drive_of_lem b.drives b.selected whole.drives in
        record {
          kept =
              carried_kept _
              (ending_within (with_after b after_it) operation store
              (after_set b after_it whole
              (result_words_lem drive operation store r n check held image good (words_of b) (words_of_lem b whole))
              (result_gap_lem drive operation store r n check held image good (words_of b) one.gap)));
          fits = result_fits drive operation store r n check held image good (words_of b);
          most = result_most drive operation store r n check held image good (words_of b);
        })
        (λ some. unchanged_given _ _ space check (result_refusal_lem drive operation store r (length check))
        (at b whole (ResultAwaited operation store) held))

    result_given : (phase : Phase) → PhaseInRange phase
        → Given space (result_in (stated b phase) b r space check phase)
    unfolding result_in PhaseInRange
    result_given (ResultAwaited operation store) held = result_for_lem operation store held
    result_given (Collecting s) held = unchanged_given 3 _ space check three (at b whole (Collecting s) held)
    result_given (AckOffered s) held = unchanged_given 3 _ space check three (at b whole (AckOffered s) held)
    result_given (Sending s) held = unchanged_given 3 _ space check three (at b whole (Sending s) held)
    result_given (GoOffered store) held = unchanged_given 3 _ space check three (at b whole (GoOffered store) held)
    result_given (DataAwaited store) held = unchanged_given 3 _ space check three (at b whole (DataAwaited store) held)
    result_given (EndOffered interrupt) held =
        unchanged_given 3 _ space check three (at b whole (EndOffered interrupt) held)

-- ---- every call

report_kept : (c : Controller) (n r : ℕ) → InRange c → r < 256
    → Kept (pick (leb 4 n) (refused 5 c) (carried (report_noted c n r)))
unfolding ActionInRange HandedInRange
report_kept c n r fine low =
    pick_by Kept (leb 4 n) (λ high. refused_kept 5 c five fine)
    (λ known. carried_kept _
    (record { body = report_noted_lem c.body n r fine.body low; phase = fine.phase; action = tt; handed = tt }))

module _ (c : Controller) (fine : InRange c) where
  -- each call first looks at the state, and finds nothing out of range
  passes : {A : Type 0} (P : A → Type 0) (done other : A) → P done
      → P (pick (is_sound c.body c.phase) done other)
  passes P done other shown = subst P (sym (pick_yes done other (in_range_sound c fine))) shown

  plainly : (call : Call) (r : Reply) → Kept r → AnswerInRange call (plain r)
  plainly call r kept =
      record {
        state = kept.state;
        action = kept.action;
        handed = kept.handed;
        refusal = kept.refusal.most;
        undamaged = kept.refusal.other;
        bytes = omega arith;
        most = omega arith;
      }

  lent : (call : Call) (a : Answer) → Given (lent_space call) a → AnswerInRange call a
  lent call a given =
      let kept = given.kept in
      record {
        state = kept.state;
        action = kept.action;
        handed = kept.handed;
        refusal = kept.refusal.most;
        undamaged = kept.refusal.other;
        bytes = given.fits;
        most = given.most;
      }

  pub stays_in_range : (call : Call) → BytesIn call → AnswerInRange call (step c call)
  unfolding step byte_call broken_call tick_call taken_call hand_call report_call reset_call data_call result_call
      BytesIn lent_space
  stays_in_range (byte value) low =
      plainly _ _ (passes Kept _ _ (byte_kept c.body fine.body value c.phase low fine.phase))
  stays_in_range taken _ = plainly _ _ (passes Kept _ _ (taken_kept c.body fine.body c.phase fine.phase))
  stays_in_range broken _ =
      plainly _ _ (passes Kept _ _ (broken_kept c.body fine.body c.phase fine.phase))
  stays_in_range (report n r) low = plainly _ _ (passes Kept _ _ (report_kept c n r fine low))
  stays_in_range (host_data host space check) bytes =
      lent (host_data host space check) _
      (passes (Given space) _ _ (data_given c.body fine.body host space check c.phase fine.phase))
  stays_in_range (result r space check) bytes =
      lent (result r space check) _
      (passes (Given space) _ _
      (result_given c.body fine.body r space check bytes.image c.phase fine.phase))
  stays_in_range tick _ = plainly _ _ (passes Kept _ _ (tick_kept c.body fine.body c.phase fine.phase))
  stays_in_range reset _ = plainly _ _ (passes Kept _ _ (carried_kept _ (reset_within c.body fine.body)))
  stays_in_range (hand store) bytes =
      plainly _ _ (passes Kept _ _ (hand_kept c.body fine.body store c.phase bytes fine.phase))

-- ---- every list

pub list_stays_in_range : (c : Controller) (calls : List Call) → ListStaysInRange c (run c calls)
unfolding run after AllBytesIn AllAnswersInRange
list_stays_in_range c [] fine bytes = record { each = tt; ends = fine }
list_stays_in_range c (call ∷ calls) fine (low, others) =
    let first = stays_in_range c fine call low in
    let rest = list_stays_in_range (step c call).reply.controller calls first.state others in
    record { each = (first, rest.each); ends = rest.ends }

pub fresh_in_range : InRange fresh
unfolding fresh
fresh_in_range = record { body = fresh_body; phase = fresh_phase }
