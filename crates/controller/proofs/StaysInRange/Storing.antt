-- What a store and the answers to GO leave is in range: the course of a store for its drive, the end of a store, and
-- the beginning of an operation with its order.
-- Assumes nothing.
use mathlib.Core.Path.{◌≡◌}
use Prim.Native.Nat.{ℕ, ◌≤◌, ◌<◌, ◌/◌, ◌%◌}
use native.Mathlib.Omega.{arith}
use mathlib.Core.Bool.{Bool, true, false, ◌&&◌}
use lib.Dec.{eqb, leb}
use borrow.Author.Tests.{leb-false}
use Rattle.common.specs.Pick.{pick}
use Rattle.common.proofs.PickLaws.{pick_by}
use Rattle.status.specs.declared.drives.Drive.{Drive}
use Rattle.status.specs.declared.words.ResultRecord.{ResultRecord}
use Rattle.status.specs.Drives.{bot, reports, drive_of, with_track}
use Rattle.operations.specs.declared.operation.Operation.{Operation}
use Rattle.operations.specs.declared.operation.Operation.TheVariants.{Read, CheckBytes, SuppliedCount, Write, Erase}
use Rattle.operations.specs.declared.operation.Operation.TheVariants.{Rewind, FastForward, SkipForward, SkipReverse}
use Rattle.operations.specs.declared.operation.Operation.TheVariants.{SearchForward, SearchReverse, WriteMark}
use Rattle.operations.specs.declared.decode.Decoded.{Decoded}
use Rattle.operations.specs.declared.decode.Decoded.TheVariants.{Reset, Code, Track, Enable, Guard, Density, Operate}
use Rattle.operations.specs.declared.course.Course.{Course}
use Rattle.operations.specs.declared.course.Course.TheVariants.{Reset as ToReset, End, Enable as ToEnable, Set, Begin}
use Rattle.operations.specs.declared.store.Store.{Store}
use Rattle.operations.specs.Operation.{same_operation, move_of, order_byte, supplies_count, counts_bytes, offers_end}
use Rattle.operations.specs.Decode.{decode_of, in_density}
use Rattle.operations.specs.Course.{test_of, course_of}
use Rattle.operations.specs.Test.{may_move}
use Rattle.operations.specs.After.{with_code}
use Rattle.operations.specs.Codes.{no_go}
use Rattle.operations.specs.Store.{asks_interrupt, names_drive, named_drive, names_unknown, selected_by, asked_for}
use Rattle.operations.specs.Store.{asked_in}
use Rattle.link.specs.declared.state.Body.{Body}
use Rattle.link.specs.State.{Transition}
use Rattle.link.specs.Bytes.{ack}
use Rattle.link.specs.Frames.{order_of}
use Rattle.link.specs.State.{with_selected, with_outcome}
use Rattle.controller.specs.Stores.{hand_back, settle, end_with, offer_end, end_operation, motion_order, order_move}
use Rattle.controller.specs.Stores.{past_test, begin, no_to_go, yes_to_go, answer_to_go, follow, clear_outcome}
use Rattle.controller.specs.Stores.{carry_out_on, carry_out}
use Rattle.controller.specs.InRange.{DriveInRange, ResultInRange, BodyInRange, StoreInRange, FrameInRange}
use Rattle.controller.specs.InRange.{PhaseInRange, ActionInRange, HandedInRange}
use Rattle.controller.proofs.Asking.{by_asked}
use Rattle.controller.proofs.StaysInRange.Linking.{Within, drive_of_lem, selected_set, flags_set, outcome_set}
use Rattle.controller.proofs.StaysInRange.Linking.{drive_set, cleared, reset_within, completed_within}

-- ---- what a store asks for, and its course

unfoldable DecodedInRange : Decoded → Type 0
DecodedInRange Reset = Unit
DecodedInRange (Code code) = code ≤ 31
DecodedInRange (Track track) = track ≤ 3
DecodedInRange (Enable enable) = Unit
DecodedInRange (Guard guard) = Unit
DecodedInRange (Density density) = density ≤ 1
DecodedInRange (Operate operation) = Unit

asked_in_range : (operation f l : ℕ) → DecodedInRange (decode_of operation f l)
unfolding DecodedInRange
asked_in_range =
    by_asked (λ operation f l decoded. DecodedInRange decoded)
    (record {
      resets = λ f l. tt;
      track = λ f l low. low;
      no_track = λ f l high low. omega arith;
      disables = λ f. tt;
      enables = λ f. tt;
      unguards = λ f. tt;
      guards = λ f. tt;
      mfm = λ f. omega arith;
      gcr = λ f. omega arith;
      rewind = λ f. tt;
      fast_forward = λ f. tt;
      skip_forward = λ f. tt;
      skip_reverse = λ f. tt;
      search_forward = λ f. tt;
      search_reverse = λ f. tt;
      write_mark = λ f. tt;
      no_control = λ f l high a b c d. omega arith;
      read = λ l. tt;
      check_bytes = λ l. tt;
      supplied_count = λ l. tt;
      no_read = λ f l. omega arith;
      write = λ f l. tt;
      erase = λ f l. tt;
      none = λ operation f l no_reset no_control_lem. omega arith;
    })

in_density_lem : (density : ℕ) (asked : Decoded) → DecodedInRange asked → DecodedInRange (in_density density asked)
unfolding DecodedInRange in_density
in_density_lem density (Operate operation) fine =
    pick_by DecodedInRange (supplies_count operation && eqb density 0) (λ mfm. omega arith) (λ other. tt)
in_density_lem density Reset fine = fine
in_density_lem density (Code code) fine = fine
in_density_lem density (Track track) fine = fine
in_density_lem density (Enable enable) fine = fine
in_density_lem density (Guard guard) fine = fine
in_density_lem density (Density chosen) fine = fine

unfoldable CourseInRange : Course → Type 0
CourseInRange ToReset = Unit
CourseInRange (End code) = code ≤ 31
CourseInRange (ToEnable enable) = Unit
CourseInRange (Set drive) = DriveInRange drive
CourseInRange (Begin operation) = Unit

with_track_lem : (d : Drive) (track : ℕ) → DriveInRange d → track ≤ 3 → DriveInRange (with_track d track)
unfolding with_track
with_track_lem d track one low =
    pick_by (λ (x : Drive). DriveInRange x) (eqb d.track track) (λ same. one)
    (λ new. record {
      report = one.report;
      reviewed = one.reviewed;
      track = low;
      density = one.density;
      gap = pick_by (λ (n : ℕ). n ≤ 3) (reports d.report bot) (λ start. omega arith) (λ lost. omega arith);
    })

course_in_range : (d : Drive) (asked : Decoded) → DriveInRange d → DecodedInRange asked
    → CourseInRange (course_of d asked)
unfolding course_of test_of DecodedInRange CourseInRange
course_in_range d Reset one fine = tt
course_in_range d (Code code) one fine = fine
course_in_range d (Track track) one fine = with_track_lem d track one fine
course_in_range d (Enable enable) one fine = tt
course_in_range d (Guard guard) one fine =
    record {
      report = one.report;
      reviewed = one.reviewed;
      track = one.track;
      density = one.density;
      gap = one.gap;
    }
course_in_range d (Density density) one fine =
    record { report = one.report; reviewed = one.reviewed; track = one.track; density = fine; gap = one.gap }
course_in_range d (Operate operation) one fine =
    pick_by CourseInRange (may_move (move_of operation) d.report d.guard d.gap) (λ may. tt) (λ no. omega arith)

-- ---- the end of a store

handed_within : (t : Transition) (final : ResultRecord) → Within t → ResultInRange final → Within (hand_back t final)
unfolding HandedInRange
handed_within t final within fine =
    record { body = within.body; phase = within.phase; action = within.action; handed = fine }

settled_within : (b : Body) (store : Store) → BodyInRange b → Within (settle b store)
unfolding settle
settled_within b store whole =
    handed_within _ _ (completed_within b (asks_interrupt store) whole) whole.result

coded : (b : Body) (code : ℕ) → BodyInRange b → code ≤ 31 → BodyInRange (with_outcome b (with_code b.outcome code))
coded b code whole low =
    outcome_set b _ whole (record { code = low; motion = omega arith; count = whole.result.count })

ended_within : (b : Body) (store : Store) (code : ℕ) → BodyInRange b → code ≤ 31 → Within (end_with b store code)
unfolding end_with
ended_within b store code whole low = settled_within _ store (coded b code whole low)

offered_within : (b : Body) (store : Store) → BodyInRange b → Within (offer_end b store)
unfolding PhaseInRange ActionInRange HandedInRange
offered_within b store whole = record { body = whole; phase = tt; action = omega arith; handed = whole.result }

pub ending_within : (b : Body) (operation : Operation) (store : Store) → BodyInRange b
    → Within (end_operation b operation store)
unfolding end_operation
ending_within b operation store whole =
    pick_by Within (offers_end operation) (λ offers. offered_within b store whole)
    (λ ends. settled_within b store whole)

-- ---- the answers to GO

pub go_refused_within : (b : Body) (store : Store) → BodyInRange b → Within (no_to_go b store)
unfolding no_to_go
go_refused_within b store whole = offered_within _ store (coded b no_go whole (omega arith))

pub go_accepted_within : (b : Body) (store : Store) → BodyInRange b → StoreInRange store → Within (yes_to_go b store)
unfolding yes_to_go PhaseInRange ActionInRange HandedInRange
go_accepted_within b store whole held = record { body = whole; phase = held; action = tt; handed = tt }

pub go_answered_within : (b : Body) (byte : ℕ) (store : Store) → BodyInRange b → StoreInRange store
    → Within (answer_to_go b byte store)
unfolding answer_to_go
go_answered_within b byte store whole held =
    pick_by Within (eqb byte ack) (λ yes. go_accepted_within b store whole held)
    (λ no. go_refused_within b store whole)

-- ---- the beginning of an operation

order_byte_lem : (operation : Operation) → order_byte operation < 256
order_byte_lem Read = omega arith
order_byte_lem CheckBytes = omega arith
order_byte_lem SuppliedCount = omega arith
order_byte_lem Write = omega arith
order_byte_lem Erase = omega arith
order_byte_lem Rewind = omega arith
order_byte_lem FastForward = omega arith
order_byte_lem SkipForward = omega arith
order_byte_lem SkipReverse = omega arith
order_byte_lem SearchForward = omega arith
order_byte_lem SearchReverse = omega arith
order_byte_lem WriteMark = omega arith

order_in_range : (b : Body) (operation : Operation) (store : Store) → BodyInRange b → StoreInRange store
    → FrameInRange (motion_order b operation store)
unfolding motion_order order_of
order_in_range b operation store whole held =
    let low = whole.selected in
    let one = drive_of_lem b.drives b.selected whole.drives in
    let track = one.track in
    let density = one.density in
    record {
      b0 = order_byte_lem operation;
      b1 = omega arith;
      b2 = omega arith;
      b3 = omega arith;
      b4 = held.third;
      b5 = held.fourth;
    }

pub ordered_within : (b : Body) (operation : Operation) (store : Store) → BodyInRange b → StoreInRange store
    → Within (order_move b operation store)
unfolding order_move PhaseInRange ActionInRange HandedInRange
ordered_within b operation store whole held =
    record { body = whole; phase = held; action = order_in_range b operation store whole held; handed = tt }

past_test_lem : (b : Body) (operation : Operation) → BodyInRange b → BodyInRange (past_test b operation)
unfolding past_test
past_test_lem b operation whole =
    pick_by (λ (x : Body). BodyInRange x) (counts_bytes operation)
    (λ counts. outcome_set b _ whole
    (record { code = whole.result.code; motion = whole.result.motion; count = omega arith }))
    (λ keeps. whole)

begun_within : (b : Body) (operation : Operation) (store : Store) → BodyInRange b → StoreInRange store
    → Within (begin b operation store)
unfolding begin PhaseInRange ActionInRange HandedInRange
begun_within b operation store whole held =
    let past = past_test_lem b operation whole in
    pick_by Within (same_operation operation Write)
    (λ write. record { body = past; phase = held; action = omega arith; handed = tt })
    (λ no. pick_by Within (same_operation operation CheckBytes)
    (λ check. record { body = past; phase = held; action = tt; handed = tt })
    (λ move. ordered_within (past_test b operation) operation store past held))

-- ---- a store is carried out

followed_within : (b : Body) (store : Store) (course : Course) → BodyInRange b → StoreInRange store
    → CourseInRange course → Within (follow b store course)
unfolding follow CourseInRange
followed_within b store ToReset whole held fine = reset_within b whole
followed_within b store (End code) whole held fine = ended_within b store code whole fine
followed_within b store (ToEnable enable) whole held fine = settled_within _ store (flags_set b _ _ whole)
followed_within b store (Set drive) whole held fine = settled_within _ store (drive_set b drive whole fine)
followed_within b store (Begin operation) whole held fine = begun_within b operation store whole held

named_low : (names : Bool) (named selected : ℕ) → selected ≤ 3 → (names && leb 4 named) ≡ false
    → pick names named selected ≤ 3
unfolding pick
named_low true named selected low few = let below = leb-false 4 named few in omega arith
named_low false named selected low few = low

selected_low : (store : Store) (selected : ℕ) → selected ≤ 3 → names_unknown store ≡ false
    → selected_by store selected ≤ 3
unfolding names_unknown selected_by
selected_low store selected = named_low (names_drive store) (named_drive store) selected

carried_on_within : (b : Body) (store : Store) (selected : ℕ) → BodyInRange b → StoreInRange store → selected ≤ 3
    → Within (carry_out_on b store selected)
unfolding carry_out_on asked_for
carried_on_within b store selected whole held low =
    let drive = drive_of b.drives selected in
    let one = drive_of_lem b.drives selected whole.drives in
    followed_within (with_selected b selected) store _ (selected_set b selected whole low) held
    (course_in_range drive (asked_in store drive.density) one
    (in_density_lem drive.density (asked_for store)
    (asked_in_range (store.address / 16 % 8) store.first store.fourth)))

pub carried_out_within : (b : Body) (store : Store) → BodyInRange b → StoreInRange store → Within (carry_out b store)
unfolding carry_out clear_outcome
carried_out_within b store whole held =
    let clear = cleared b whole in
    pick_by Within (names_unknown store) (λ unknown. ended_within _ store _ clear (omega arith))
    (λ known. carried_on_within _ store _ clear held (selected_low store b.selected whole.selected known))
