-- After every list of calls each drive has the report, track, density, gap and guard that the list gives it in the
-- papers' numbers (`ledger_is_kept`), and every motion order is the last store's and was allowed by these
-- (`orders_are_allowed`, both over the definitions).
-- Assumes nothing.
use mathlib.Core.Path.{◌≡◌, refl, sym, ap, subst, ◌∙◌}
use Prim.Native.Nat.{ℕ, ◌≤◌, ◌/◌, ◌%◌}
use native.Mathlib.Omega.{arith}
use mathlib.Core.Bool.{Bool, true, false, not, ◌&&◌, or-false, false≢true}
use mathlib.Core.List.{List, [], ◌∷◌}
use lib.Dec.{leb, eqb}
use lib.ListN.{length}
use borrow.Author.Tests.{eqb-true, eqb-false, leb-false, le-leb, lt-leb, ne_eqb}
use Rattle.common.specs.Pick.{pick}
use Rattle.common.proofs.PickLaws.{by_test, pick_by, pick_yes, pick_no}
use Rattle.status.specs.declared.drives.Drive.{Drive}
use Rattle.status.specs.Drives.{Drives}
use Rattle.status.specs.declared.words.Outcome.{Outcome}
use Rattle.status.specs.declared.words.ResultRecord.{ResultRecord}
use Rattle.status.specs.Drives.{drive_of, with_drive, with_gap, with_report, with_track, with_density, with_guard}
use Rattle.status.specs.Drives.{copy_report}
use Rattle.status.specs.Drives.{fresh_with, fresh_drives, reset_drives, reports}
use Rattle.status.proofs.DriveLaws.{by_four, put_same, put_other}
use Rattle.operations.specs.declared.operation.Operation.{Operation}
use Rattle.operations.specs.declared.operation.Operation.TheVariants.{Read, CheckBytes, SuppliedCount, Write, Erase}
use Rattle.operations.specs.declared.operation.Operation.TheVariants.{Rewind, FastForward, SkipForward, SkipReverse}
use Rattle.operations.specs.declared.operation.Operation.TheVariants.{SearchForward, SearchReverse, WriteMark}
use Rattle.operations.specs.declared.decode.Decoded.{Decoded}
use Rattle.operations.specs.declared.decode.Decoded.TheVariants.{Reset, Code, Track, Enable, Guard, Density, Operate}
use Rattle.operations.specs.declared.store.Store.{Store}
use Rattle.operations.specs.Operation.{move_of, order_byte, moves_tape, offers_end}
use Rattle.operations.specs.Test.{may_move}
use Rattle.operations.specs.After.{loses_tape, motion_of, gap_of, gap_after}
use Rattle.operations.specs.Codes.{illegal_drive, illegal_store, illegal_motion}
use Rattle.operations.specs.Store.{names_drive, named_drive, names_unknown, selected_by, asked_for}
use Rattle.operations.specs.Decode.{in_density}
use Rattle.operations.specs.declared.course.Course.{Course}
use Rattle.operations.specs.Course.{test_of, course_of}
use Rattle.operations.proofs.DensityLaws.{by_density}
use Rattle.link.specs.declared.state.Phase.{Phase}
use Rattle.link.proofs.PhaseLaws.{each_phase}
use Rattle.link.specs.declared.state.Phase.TheVariants.{DataAwaited}
use Rattle.link.specs.declared.state.Phase.TheVariants.{ResultAwaited}
use Rattle.link.specs.Frames.{order_of}
use Rattle.link.specs.declared.state.Action.{Action}
use Rattle.link.specs.declared.state.Action.TheVariants.{Nothing, Byte, Text, Order}
use Rattle.link.specs.State.{Handed}
use Rattle.std.specs.Prelude.{None, Some}
use Rattle.link.specs.declared.state.Body.{Body}
use Rattle.link.specs.State.{Transition}
use Rattle.link.specs.State.{store_of, offered, start_body, with_selected, with_flags, with_outcome}
use Rattle.link.specs.State.{with_current_drive, current_drive, reset_state, when_in_hand}
use Rattle.transfers.specs.Data.{Host}
use Rattle.transfers.specs.Results.{Result, result_bits, with_retry, result_words, result_gap, settle_result}
use Rattle.controller.specs.declared.controller.Controller.{Controller}
use Rattle.controller.specs.Controller.{fresh, refused}
use Rattle.controller.specs.Stores.{settle, end_operation, motion_order, order_move, begin, follow}
use Rattle.controller.specs.Stores.{clear_outcome, carry_out_on, carry_out, yes_to_go}
use Rattle.controller.specs.Records.{words_of, with_after, data_done, result_done}
use Rattle.controller.specs.Machine.{data_in, result_in, Call, Exchange, step, run}
use Rattle.controller.specs.Machine.Call.{host_data, result}
use Rattle.controller.specs.Lists.{not_refused, holds_store, held_store, after}
use Rattle.controller.specs.Ledger.{entered, among, Allowed, Tape, fresh_tape, tape_reported, tape_tracked}
use Rattle.controller.specs.Ledger.{tape_controlled, tape_stored, motion_made, gap_left, tape_left, Ledger}
use Rattle.controller.specs.Ledger.{ledger_reset, ledger_fresh, ledger_stored, ledger_carried, ledger_ended}
use Rattle.controller.specs.Ledger.{ledger_reported, ledger_call, ledger_after, ledger_from, ledger, IsTape}
use Rattle.controller.specs.Ledger.{order_first, ActionAllowed, AllowedFrom, OrdersAreAllowed}
use Rattle.controller.specs.Ledger.{DrivesAreALedger}
use Rattle.controller.proofs.Asking.{Asks, by_asked}
use Rattle.controller.proofs.Courses.{decoded, by_beginning}
use Rattle.controller.proofs.TapeTest.{allowed}
use Rattle.controller.proofs.Steps.Resting.{by_free, seen, NoOrder, Rests, ended_rests, settled_rests}
use Rattle.controller.proofs.Steps.Resting.{go_refused_rests, ending_rests}
use Rattle.controller.proofs.Steps.LinkCall.{byte_came, ticked, load_taken}
use Rattle.controller.proofs.Steps.SaysNo.{byte_refused}
use Rattle.controller.proofs.Steps.{stated, exchanged, turn_of, LinkCall, SaysNo, OfRefusals, OfLink, OfStores}
use Rattle.controller.proofs.Steps.{OfHandings, OfReports, OfNo, OfData, OfResults, Kinds, data_for_lem, result_for_lem}
use Rattle.controller.proofs.Steps.{by_step}

-- ---- the ledger agrees with the controller

-- the drive's record that the list gives, its report copied
abbrev pub told : Tape → Drive
told t =
    record {
      report = t.report;
      reviewed = t.report;
      track = t.track;
      density = t.density;
      gap = t.gap;
      guard = t.guard;
    }

pub record Agrees (l : Ledger) (now : ℕ) (drives : Drives) : Type 0 where
  pub selected : now ≡ l.selected
  pub low : now ≤ 3
  pub drive : (d : ℕ) → d ≤ 3 → copy_report (drive_of drives d) ≡ told (l.tape d)

abbrev pub Agreeing : Ledger → Body → Type 0
Agreeing l b = Agrees l b.selected b.drives

-- a write in hand is the last store's, was allowed, and finds the track and density of then
pub record Writing (store held : Store) (was now : Tape) : Type 0 where
  pub same : held ≡ store
  pub asks : asked_for store ≡ Operate Write
  pub allows : Allowed 0x50 was.report was.guard was.gap
  pub track : now.track ≡ was.track
  pub density : now.density ≡ was.density

-- an operation in hand is the one that the last store asked for
unfoldable pub InHand : Ledger → Phase → Type 0
InHand l =
    when_in_hand (λ held. Writing l.store held l.was (l.tape l.selected))
    (λ held. Writing l.store held l.was (l.tape l.selected))
    (λ operation held. (asked_for l.store ≡ Operate operation) × (held ≡ l.store)) Unit

pub record Kept (l : Ledger) (b : Body) (phase : Phase) : Type 0 where
  pub agrees : Agreeing l b
  pub hand : InHand l phase

pub record KeptBy (l : Ledger) (t : Transition) : Type 0 where
  pub kept : Kept l t.body t.phase
  pub tells : ActionAllowed l t.action

abbrev pub Keeps : Controller → Exchange → Type 0
Keeps c x = (l : Ledger) → Kept l c.body c.phase → KeptBy (ledger_after l c x) (turn_of x.answer.reply)

quiet_allowed : (l : Ledger) (action : Action) → NoOrder action → ActionAllowed l action
unfolding NoOrder ActionAllowed
quiet_allowed l Nothing none = tt
quiet_allowed l (Byte value) none = tt
quiet_allowed l (Text string) none = tt
quiet_allowed l (Order order) none = absurd none

rests_keep : (l : Ledger) (b : Body) (t : Transition) → Rests b t → Agreeing l b → KeptBy l t
unfolding InHand
rests_keep l b t rests agrees =
    record {
      kept =
          record {
            agrees =
                record {
                  selected = rests.same.selected ∙ agrees.selected;
                  low = subst (λ (n : ℕ). n ≤ 3) (sym rests.same.selected) agrees.low;
                  drive = λ d low. rests.same.drive d low ∙ agrees.drive d low;
                };
            hand = by_free (InHand l) (λ s. tt) (λ s. tt) (λ s. tt) (λ interrupt. tt) t.phase rests.free;
          };
      tells = quiet_allowed l t.action rests.quiet;
    }

-- one drive's record is another
put :
    (tapes : ℕ → Tape) (drives : Drives) (n : ℕ) (drive : Drive) (t : Tape)
    → n ≤ 3
    → copy_report drive ≡ told t
    → ((d : ℕ) → d ≤ 3 → copy_report (drive_of drives d) ≡ told (tapes d))
    → (d : ℕ)
    → d ≤ 3
    → copy_report (drive_of (with_drive drives n drive) d) ≡ told (entered tapes n t d)
unfolding entered
put tapes drives n drive t within same all d low =
    by_test (eqb d n)
    (λ is.
    subst (λ (m : ℕ). copy_report (drive_of (with_drive drives n drive) m) ≡ told (pick (eqb d n) t (tapes d)))
    (sym (eqb-true d n is))
    (ap (λ (x : Drive). copy_report x) (put_same drives drive n within) ∙ same
    ∙ ap (λ (x : Tape). told x) (sym (pick_yes t (tapes d) is))))
    (λ other.
    ap (λ (x : Drive). copy_report x) (put_other drives drive n d within low (λ e. eqb-false d n other (sym e)))
    ∙ all d low
    ∙ ap (λ (x : Tape). told x) (sym (pick_no t (tapes d) other)))

-- the same tape again
again : (tapes : ℕ → Tape) (n : ℕ) (t : Tape) (d : ℕ) → t ≡ tapes n → entered tapes n t d ≡ tapes d
unfolding entered
again tapes n t d same =
    pick_by (λ (x : Tape). x ≡ tapes d) (eqb d n) (λ is. same ∙ ap tapes (sym (eqb-true d n is))) (λ other. refl)

-- ---- what changes a drive

pub and_of : {a b : Bool} → a ≡ true → b ≡ true → (a && b) ≡ true
and_of one also = rw one also

-- two choices by one test
pub pick_pair : {A B : Type 0} (P : A → B → Type 0) (t : Bool) {x x' : A} {y y' : B} → (t ≡ true → P x y)
    → (t ≡ false → P x' y') → P (pick t x x') (pick t y y')
unfolding pick
pick_pair P true first second = first refl
pick_pair P false first second = second refl

bot_bit : (r : ℕ) → reports r 1 ≡ eqb (r % 2) 1
unfolding reports
bot_bit r = let same : r / 1 % 2 ≡ r % 2 = omega arith in ap (λ (n : ℕ). eqb n 1) same

reported : (drive : Drive) (t : Tape) (r : ℕ) → copy_report drive ≡ told t
    → copy_report (with_report drive r) ≡ told (tape_reported t r)
unfolding with_report tape_reported reports
reported drive t r same =
    ap
    (λ (x : Drive).
    record {
      report = r;
      reviewed = r;
      track = x.track;
      density = x.density;
      gap = pick (eqb (r / 32 % 2) 1) x.gap 3;
      guard = x.guard;
    })
    same

tracked : (drive : Drive) (t : Tape) (n : ℕ) → copy_report drive ≡ told t
    → copy_report (with_track drive n) ≡ told (tape_tracked t n)
unfolding with_track tape_tracked
tracked drive t n same =
    ap
    (λ (m : ℕ). copy_report
    (pick (eqb m n) drive
    (record {
      report = drive.report;
      reviewed = drive.reviewed;
      track = n;
      density = drive.density;
      gap = pick (reports drive.report 1) 0 3;
      guard = drive.guard;
    })))
    (ap (λ (x : Drive). x.track) same)
    ∙ pick_pair (λ (x : Drive) (s : Tape). copy_report x ≡ told s) (eqb t.track n) (λ old. same)
    (λ new.
    ap
    (λ (x : Drive).
    record {
      report = x.report;
      reviewed = x.report;
      track = n;
      density = x.density;
      gap = pick (reports x.report 1) 0 3;
      guard = x.guard;
    })
    same
    ∙ ap
    (λ (test : Bool). told
    (record {
      report = t.report;
      track = n;
      density = t.density;
      gap = pick test 0 3;
      guard = t.guard;
    }))
    (bot_bit t.report))

-- the gap that a result leaves
pub lost_said : (code : ℕ) → among code (0x6 ∷ 0x7 ∷ 0x8 ∷ 0x9 ∷ 0x17 ∷ 0x18 ∷ []) ≡ loses_tape code
unfolding among loses_tape
lost_said code = simp or-false

unfoldable GapSaid : ℕ → ℕ → ℕ → ℕ → ℕ → Decoded → Type 0
GapSaid operation f l code gap (Operate asked) = gap_left operation f l code gap ≡ gap_after (move_of asked) code gap
GapSaid operation f l code gap Reset = Unit
GapSaid operation f l code gap (Code c) = Unit
GapSaid operation f l code gap (Track track) = Unit
GapSaid operation f l code gap (Enable enable) = Unit
GapSaid operation f l code gap (Guard guard) = Unit
GapSaid operation f l code gap (Density density) = Unit

gaps_said : (code gap : ℕ) → Asks (λ (operation f l : ℕ) (asked : Decoded). GapSaid operation f l code gap asked)
unfolding GapSaid gap_left gap_after gap_of motion_made motion_of among pick
gaps_said code gap =
    let lost = lost_said code in
    record {
      resets = λ f l. tt;
      track = λ f l low. tt;
      no_track = λ f l past low. tt;
      disables = λ f. tt;
      enables = λ f. tt;
      unguards = λ f. tt;
      guards = λ f. tt;
      mfm = λ f. tt;
      gcr = λ f. tt;
      rewind = λ f. rw lost;
      fast_forward = λ f. rw lost;
      skip_forward = λ f. rw lost;
      skip_reverse = λ f. rw lost;
      search_forward = λ f. rw lost;
      search_reverse = λ f. rw lost;
      write_mark = λ f. rw lost;
      no_control = λ f l high no_a no_b no_c no_d. tt;
      read = λ l. rw lost;
      check_bytes = λ l. rw lost;
      supplied_count = λ l. rw lost;
      no_read = λ f l. tt;
      write = λ f l. rw lost;
      erase = λ f l. rw lost;
      none = λ operation f l no_0 no_3. tt;
    }

gap_said :
    (store : Store) (operation : Operation) (code gap : ℕ)
    → asked_for store ≡ Operate operation
    → gap_left (store.address / 16 % 8) store.first store.fourth code gap ≡ gap_after (move_of operation) code gap
unfolding asked_for GapSaid
gap_said store operation code gap asks =
    subst (GapSaid (store.address / 16 % 8) store.first store.fourth code gap) asks
    (by_asked _ (gaps_said code gap) (store.address / 16 % 8) store.first store.fourth)

-- ---- a store is carried out

pub reset_drive : (drives : Drives) (n : ℕ) → n ≤ 3
    → drive_of (reset_drives drives) n ≡ fresh_with (drive_of drives n).report
unfolding drive_of reset_drives pick
reset_drive drives =
    by_four (λ n. drive_of (reset_drives drives) n ≡ fresh_with (drive_of drives n).report) refl refl refl refl

reset_keeps : (l : Ledger) (store : Store) (b : Body) → ((d : ℕ) → d ≤ 3 → seen d b ≡ told (l.tape d))
    → KeptBy (ledger_reset l store) (reset_state b)
unfolding reset_state start_body InHand ActionAllowed
reset_keeps l store b drives =
    record {
      kept =
          record {
            agrees =
                record {
                  selected = refl;
                  low = omega arith;
                  drive =
                      λ d within. ap (λ (x : Drive). copy_report x) (reset_drive b.drives d within)
                      ∙ ap (λ (x : Drive). fresh_with x.report) (drives d within);
                };
            hand = tt;
          };
      tells = tt;
    }

-- the first byte of an order
unfoldable FirstSaid : ℕ → ℕ → ℕ → Decoded → Type 0
FirstSaid operation f l (Operate asked) = moves_tape (move_of asked) ≡ true
    → order_byte asked ≡ order_first operation f l
FirstSaid operation f l Reset = Unit
FirstSaid operation f l (Code c) = Unit
FirstSaid operation f l (Track track) = Unit
FirstSaid operation f l (Enable enable) = Unit
FirstSaid operation f l (Guard guard) = Unit
FirstSaid operation f l (Density density) = Unit

firsts_said : Asks FirstSaid
unfolding FirstSaid order_first moves_tape pick
firsts_said =
    record {
      resets = λ f l. tt;
      track = λ f l low. tt;
      no_track = λ f l past low. tt;
      disables = λ f. tt;
      enables = λ f. tt;
      unguards = λ f. tt;
      guards = λ f. tt;
      mfm = λ f. tt;
      gcr = λ f. tt;
      rewind = λ f moves. refl;
      fast_forward = λ f moves. refl;
      skip_forward = λ f moves. refl;
      skip_reverse = λ f moves. refl;
      search_forward = λ f moves. refl;
      search_reverse = λ f moves. refl;
      write_mark = λ f moves. refl;
      no_control = λ f l high no_a no_b no_c no_d. tt;
      read = λ l moves. refl;
      check_bytes = λ l moves. absurd (false≢true moves);
      supplied_count = λ l moves. refl;
      no_read = λ f l. tt;
      write = λ f l moves. refl;
      erase = λ f l moves. refl;
      none = λ operation f l no_0 no_3. tt;
    }

first_said :
    (store : Store) (operation : Operation)
    → asked_for store ≡ Operate operation
    → moves_tape (move_of operation) ≡ true
    → order_byte operation ≡ order_first (store.address / 16 % 8) store.first store.fourth
unfolding asked_for FirstSaid
first_said store operation asks =
    subst (FirstSaid (store.address / 16 % 8) store.first store.fourth) asks
    (by_asked FirstSaid firsts_said (store.address / 16 % 8) store.first store.fourth)

module _ (l : Ledger) (b : Body) (store : Store) (low : b.selected ≤ 3)
    (drives : (d : ℕ) → d ≤ 3 → seen d b ≡ told (l.tape d)) where
  abbrev was : Tape
  was = l.tape b.selected

  abbrev entry : Tape → Ledger
  entry t = record { selected = b.selected; tape = entered l.tape b.selected t; store = store; was = was }

  still : (t : Tape) → t ≡ was → Agreeing (entry t) b
  still t same =
      record {
        selected = refl;
        low = low;
        drive = λ d within. drives d within ∙ ap (λ (x : Tape). told x) (sym (again l.tape b.selected t d same));
      }

  changed : (drive : Drive) (t : Tape) → copy_report drive ≡ told t → Agreeing (entry t) (with_current_drive b drive)
  changed drive t same =
      record {
        selected = refl;
        low = low;
        drive = put l.tape b.drives b.selected drive t low same drives;
      }

  set : (drive : Drive) (t : Tape) → copy_report drive ≡ told t
      → KeptBy (entry t) (settle (with_current_drive b drive) store)
  set drive t same = rests_keep (entry t) (with_current_drive b drive) _ (settled_rests _ store) (changed drive t same)

  abbrev Allows : Operation → Type 0
  Allows operation = may_move (move_of operation) was.report was.guard was.gap ≡ true

  -- whatever the outcome so far
  moves :
      (outcome : Outcome) (operation : Operation)
      → asked_for store ≡ Operate operation
      → moves_tape (move_of operation) ≡ true
      → Allows operation
      → KeptBy (entry was) (order_move (with_outcome b outcome) operation store)
  unfolding order_move motion_order order_of InHand ActionAllowed
  moves outcome operation asks moving may =
      record {
        kept = record { agrees = still was refl; hand = (asks, refl) };
        tells =
            record {
              first = first_said store operation asks moving;
              drive = refl;
              track = ap (λ (x : Drive). x.track) (drives b.selected low);
              density = ap (λ (x : Drive). x.density) (drives b.selected low);
              third = refl;
              fourth = refl;
              allowed = allowed operation was.report was.gap was.guard (and_of moving may);
            };
      }

  begun : (operation : Operation) → asked_for store ≡ Operate operation → Allows operation
      → KeptBy (entry was) (begin b operation store)
  unfolding moves_tape InHand ActionAllowed
  begun =
      by_beginning
      (λ operation t. asked_for store ≡ Operate operation → Allows operation → KeptBy (entry was) t) b store
      (λ outcome same asks may.
      record {
        kept =
            record {
              agrees = still was refl;
              hand =
                  record {
                    same = refl;
                    asks = asks;
                    allows = allowed Write was.report was.gap was.guard may;
                    track = ap (λ (x : Tape). x.track) (again l.tape b.selected was b.selected refl);
                    density = ap (λ (x : Tape). x.density) (again l.tape b.selected was b.selected refl);
                  };
            };
        tells = tt;
      })
      (λ asks may. record { kept = record { agrees = still was refl; hand = (asks, refl) }; tells = tt })
      (λ operation outcome same ordered asks may. moves outcome operation asks ordered.moves may)

  operates : (operation : Operation) (density : ℕ) → asked_for store ≡ Operate operation
      → KeptBy (entry was) (decoded b store (in_density density (Operate operation)))
  unfolding follow course_of test_of
  operates operation density asks =
      by_density (λ (x : Decoded). KeptBy (entry was) (decoded b store x)) density (Operate operation)
      (pick_by (λ (course : Course). KeptBy (entry was) (follow b store course))
      (may_move (move_of operation) (current_drive b).report (current_drive b).guard (current_drive b).gap)
      (λ may. begun operation asks (ap (λ (x : Drive). may_move (move_of operation) x.report x.guard x.gap)
      (sym (drives b.selected low)) ∙ may))
      (λ fails. rests_keep (entry was) b _ (ended_rests b store illegal_motion) (still was refl)))
      (λ other is. rests_keep (entry was) b _ (ended_rests b store illegal_store) (still was refl))

  abbrev Stored : ℕ → ℕ → ℕ → Decoded → Type 0
  Stored operation f n asked =
      (density : ℕ) → asked_for store ≡ asked
      → KeptBy (ledger_stored l store b.selected operation n) (decoded b store (in_density density asked))

  codes : (operation f n code : ℕ) → eqb operation 0 ≡ false → tape_stored was operation n ≡ was
      → Stored operation f n (Code code)
  unfolding ledger_stored in_density follow course_of
  codes operation f n code no_0 same density asks =
      subst (λ (x : Ledger). KeptBy x (decoded b store (Code code))) (sym (pick_no _ _ no_0))
      (rests_keep (entry (tape_stored was operation n)) b _ (ended_rests b store code) (still _ same))

  stored : Asks Stored
  unfolding ledger_stored tape_stored tape_controlled in_density follow course_of pick
  stored =
      record {
        resets = λ f n density asks. reset_keeps l store b drives;
        track =
            λ f n within density asks.
            subst (λ (t : Tape). KeptBy (entry t) (decoded b store (Track n))) (sym (pick_yes _ _ (le-leb n 3 within)))
            (set _ _ (tracked _ was n (drives b.selected low)));
        no_track =
            λ f n past within. codes 3 f n 3 refl
            (pick_no _ _ (lt-leb n 3 past) ∙ pick_no _ _ (ne_eqb n 0x0A (λ e. omega arith))
            ∙ pick_no _ _ (ne_eqb n 0x0B (λ e. omega arith))
            ∙ pick_no _ _ (ne_eqb n 0x0C (λ e. omega arith)) ∙ pick_no _ _ (ne_eqb n 0x0D (λ e. omega arith)));
        disables = λ f density asks. rests_keep (entry was) (with_flags b b.changed false) _ (settled_rests _ store)
            (still was refl);
        enables = λ f density asks. rests_keep (entry was) (with_flags b b.changed true) _ (settled_rests _ store)
            (still was refl);
        unguards = λ f density asks. set _ _ (ap (λ (x : Drive). with_guard x false) (drives b.selected low));
        guards = λ f density asks. set _ _ (ap (λ (x : Drive). with_guard x true) (drives b.selected low));
        mfm = λ f density asks. set _ _ (ap (λ (x : Drive). with_density x 0) (drives b.selected low));
        gcr = λ f density asks. set _ _ (ap (λ (x : Drive). with_density x 1) (drives b.selected low));
        rewind = λ f. operates Rewind;
        fast_forward = λ f. operates FastForward;
        skip_forward = λ f. operates SkipForward;
        skip_reverse = λ f. operates SkipReverse;
        search_forward = λ f. operates SearchForward;
        search_reverse = λ f. operates SearchReverse;
        write_mark = λ f. operates WriteMark;
        no_control =
            λ f n high no_a no_b no_c no_d. codes 3 f n 2 refl
            (pick_no _ _ (lt-leb n 3 (omega arith)) ∙ pick_no _ _ no_a ∙ pick_no _ _ no_b ∙ pick_no _ _ no_c
            ∙ pick_no _ _ no_d);
        read = λ n. operates Read;
        check_bytes = λ n. operates CheckBytes;
        supplied_count = λ n. operates SuppliedCount;
        no_read = λ f n. codes 4 f n 2 refl refl;
        write = λ f n. operates Write;
        erase = λ f n. operates Erase;
        none = λ operation f n no_0 no_3. codes operation f n 2 no_0 (pick_no _ _ no_3);
      }

carried_keeps : (l : Ledger) (b : Body) (store : Store) → Agreeing l b
    → KeptBy (ledger_carried l store) (carry_out b store)
unfolding ledger_carried carry_out carry_out_on names_unknown selected_by names_drive named_drive asked_for
    clear_outcome
carried_keeps l b store agrees =
    let named = eqb (store.address / 8 % 2) 1 in
    let number = store.address % 8 in
    pick_pair KeptBy (named && leb 4 number)
    (λ unknown. rests_keep _ (clear_outcome b) _ (ended_rests _ store illegal_drive)
    (record { selected = agrees.selected; low = agrees.low; drive = agrees.drive }))
    (λ known.
    let within : pick named number b.selected ≤ 3 =
    pick_by (λ (n : ℕ). n ≤ 3) named
    (λ is. let below = leb-false 4 number (sym (ap (λ (t : Bool). t && leb 4 number) is) ∙ known) in omega arith)
    (λ none. agrees.low) in
    subst (λ (n : ℕ). KeptBy (ledger_stored l store (pick named number n) (store.address / 16 % 8) store.fourth)
    (carry_out_on (clear_outcome b) store (pick named number b.selected)))
    agrees.selected
    (by_asked _ (stored l (with_selected (clear_outcome b) (pick named number b.selected)) store within
    agrees.drive) (store.address / 16 % 8) store.first store.fourth _ refl))

stores_case : OfStores Keeps
unfolding ledger_after ledger_call not_refused holds_store offered pick
stores_case b s lead l before =
    let store = store_of s in
    subst (λ (later : Ledger). KeptBy later (carry_out b store))
    (sym (pick_yes (ledger_carried l store) l (ap not lead)))
    (carried_keeps l b store before.agrees)

handings_case : OfHandings Keeps
unfolding ledger_after ledger_call not_refused pick
handings_case b s store l before = carried_keeps l b store before.agrees

-- ---- the other calls

refusals_case : OfRefusals Keeps
unfolding ledger_after not_refused ActionAllowed
refusals_case c call number space check some at_space at_check l before =
    subst (λ (later : Ledger). KeptBy later (turn_of (refused number c)))
    (sym (pick_no (ledger_call l c None call) l some))
    (record { kept = before; tells = tt })

link_case : OfLink Keeps
unfolding ledger_after ledger_call not_refused holds_store pick
link_case c call t (byte_came value) free rests strings none l before = rests_keep l c.body t rests before.agrees
link_case c call t LinkCall.link_broke free rests strings none l before = rests_keep l c.body t rests before.agrees
link_case c call t ticked free rests strings none l before = rests_keep l c.body t rests before.agrees
link_case c call t (load_taken load) free rests strings none l before =
    subst (λ (later : Ledger). KeptBy later t) (sym (pick_no (ledger_carried l (held_store c)) l (ap not load)))
    (rests_keep l c.body t rests before.agrees)

no_case : OfNo Keeps
unfolding ledger_after ledger_call not_refused pick
no_case b held call (byte_refused value refuses) l before = rests_keep l b _ (go_refused_rests b held) before.agrees
no_case b held call SaysNo.link_broke l before = rests_keep l b _ (go_refused_rests b held) before.agrees

module _ (l : Ledger) (n r : ℕ) where
  abbrev later : Ledger
  later = ledger_reported l n r

  -- a report tells of no track and no density
  same_setting : (f : Tape → ℕ) → f (tape_reported (l.tape n) r) ≡ f (l.tape n)
      → f (later.tape l.selected) ≡ f (l.tape l.selected)
  unfolding entered
  same_setting f same =
      pick_by (λ (x : Tape). f x ≡ f (l.tape l.selected)) (eqb l.selected n)
      (λ is. same ∙ ap (λ (m : ℕ). f (l.tape m)) (sym (eqb-true l.selected n is))) (λ other. refl)

  write : (store : Store) → Writing l.store store l.was (l.tape l.selected)
      → Writing l.store store l.was (later.tape l.selected)
  unfolding tape_reported
  write store w =
      record {
        same = w.same;
        asks = w.asks;
        allows = w.allows;
        track = same_setting (λ (x : Tape). x.track) refl ∙ w.track;
        density = same_setting (λ (x : Tape). x.density) refl ∙ w.density;
      }

  held : (phase : Phase) → InHand l phase → InHand later phase
  unfolding InHand
  held =
      each_phase (λ (phase : Phase). InHand l phase → InHand later phase) (λ s known. tt) (λ s known. tt)
      (λ s known. tt) write write (λ operation store known. known) (λ interrupt known. tt)

reports_case : OfReports Keeps
unfolding ledger_after ledger_call not_refused tape_reported ActionAllowed pick
reports_case c n r within l before =
    let agrees = before.agrees in
    record {
      kept =
          record {
            agrees =
                record {
                  selected = agrees.selected;
                  low = agrees.low;
                  drive = put l.tape c.body.drives n _ _ within
                      (reported _ (l.tape n) r (agrees.drive n within)) agrees.drive;
                };
            hand = held l n r c.phase before.hand;
          };
      tells = tt;
    }

-- whatever drive is written
written :
    (b : Body) (held : Store) (drive : Drive) (host : Host) (space check : List ℕ)
    → Keeps (stated b (DataAwaited held)) (exchanged (host_data host space check)
    (data_done b drive held host space check))
unfolding data_done order_move motion_order order_of moves_tape ledger_after ledger_call not_refused InHand
    ActionAllowed pick
written b held drive host space check l before =
    let agrees = before.agrees in
    let w = before.hand in
    let current : copy_report (current_drive b) ≡ told (l.tape l.selected) = agrees.drive b.selected agrees.low
    ∙ ap (λ (n : ℕ). told (l.tape n)) agrees.selected in
    record {
      kept = record { agrees = agrees; hand = (w.asks, w.same) };
      tells =
          record {
            first = first_said l.store Write w.asks refl;
            drive = agrees.selected;
            track = ap (λ (x : Drive). x.track) current ∙ w.track;
            density = ap (λ (x : Drive). x.density) current ∙ w.density;
            third = ap (λ (s : Store). s.third) w.same;
            fourth = ap (λ (s : Store). s.fourth) w.same;
            allowed = w.allows;
          };
    }

writes_case : OfData Keeps
unfolding data_in
writes_case b held host space check =
    data_for_lem Keeps refusals_case b held _ host space check
    (written b held _ host space check)

-- the end of an operation hands its record back
pub ended_hands : (b : Body) (operation : Operation) (store : Store)
    → (end_operation b operation store).handed ≡ Some b.outcome.result
unfolding end_operation settle
ended_hands b operation store =
    pick_by (λ (t : Transition). t.handed ≡ Some b.outcome.result) (offers_end operation) (λ offers. refl)
    (λ none. refl)

module _ (b : Body) (operation : Operation) (held : Store) (r : Result) (space check : List ℕ) where
  abbrev body : Body
  body = with_after b (settle_result (words_of b) (current_drive b) operation held r (length space) check)

  abbrev final : ResultRecord
  final = body.outcome.result

  gap_left_lem : (settle_result (words_of b) (current_drive b) operation held r (length space) check).gap
      ≡ gap_after (move_of operation) final.code (current_drive b).gap
  unfolding settle_result result_words with_retry result_bits result_gap
  gap_left_lem = refl

  ended : Keeps (stated b (ResultAwaited operation held))
      (exchanged (result r space check) (result_done b (current_drive b) operation held r space check))
  unfolding result_done ledger_after ledger_call ledger_ended not_refused InHand pick
  ended l before =
      let agrees = before.agrees in
      let t : Tape = l.tape b.selected in
      let (asks, same) = before.hand in
      let current : copy_report (current_drive b) ≡ told t = agrees.drive b.selected agrees.low in
      let gaps : (settle_result (words_of b) (current_drive b) operation held r (length space) check).gap
      ≡ gap_left (l.store.address / 16 % 8) l.store.first l.store.fourth final.code t.gap =
      gap_left_lem ∙ ap (λ (x : Drive). gap_after (move_of operation) final.code x.gap) current
      ∙ sym (gap_said l.store operation final.code t.gap asks) in
      subst (λ (h : Handed). KeptBy (ledger_ended l h) (end_operation body operation held))
      (sym (ended_hands body operation held))
      (rests_keep _ body _ (ending_rests body operation held)
      (subst
      (λ (n : ℕ). Agrees
      (record {
        selected = n;
        tape = entered l.tape n (tape_left (l.tape n) l.store final.code);
        store = l.store;
        was = l.was;
      })
      b.selected body.drives)
      agrees.selected
      (record {
        selected = refl;
        low = agrees.low;
        drive =
            put l.tape b.drives b.selected _ _ agrees.low
            (ap (λ (x : Drive). with_gap x (settle_result (words_of b) (current_drive b) operation held r
            (length space) check).gap) current
            ∙ ap (λ (n : ℕ). with_gap (told t) n) gaps)
            agrees.drive;
      })))

results_case : OfResults Keeps
unfolding result_in
results_case b operation held r space check =
    result_for_lem Keeps refusals_case b held _ operation r space check
    (λ good. ended b operation held r space check)

-- ---- every call, and every list

pub keeping : Kinds Keeps
unfolding yes_to_go ledger_after ledger_call not_refused InHand ActionAllowed pick
keeping =
    record {
      refusals = refusals_case;
      link = link_case;
      stores = stores_case;
      handings = handings_case;
      reports = reports_case;
      yes =
          λ b held value accepts l before.
          record { kept = record { agrees = before.agrees; hand = before.hand }; tells = tt };
      no = no_case;
      writes = writes_case;
      results = results_case;
      resets = λ c l before. reset_keeps l l.store c.body before.agrees.drive;
    }

is_tape : (drive : Drive) (t : Tape) → copy_report drive ≡ told t → IsTape drive t
is_tape drive t same =
    record {
      report = ap (λ (x : Drive). x.report) same;
      track = ap (λ (x : Drive). x.track) same;
      density = ap (λ (x : Drive). x.density) same;
      gap = ap (λ (x : Drive). x.gap) same;
      guard = ap (λ (x : Drive). x.guard) same;
    }

kept_from :
    (calls : List Call) (l : Ledger) (c : Controller) → Kept l c.body c.phase
    → Kept (ledger_from l c (run c calls)) (after c (run c calls)).body (after c (run c calls)).phase
unfolding run after ledger_from
kept_from [] l c before = before
kept_from (call ∷ calls) l c before =
    kept_from calls _ (step c call).reply.controller (by_step Keeps keeping c call l before).kept

fresh_drive : (n : ℕ) → n ≤ 3 → copy_report (drive_of fresh_drives n) ≡ told (fresh_tape 4)
unfolding drive_of fresh_drives pick
fresh_drive = by_four (λ n. copy_report (drive_of fresh_drives n) ≡ told (fresh_tape 4)) refl refl refl refl

allowed_from : (calls : List Call) (l : Ledger) (c : Controller) → Kept l c.body c.phase
    → AllowedFrom l c (run c calls)
unfolding run AllowedFrom
allowed_from [] l c before = tt
allowed_from (call ∷ calls) l c before =
    let goes = by_step Keeps keeping c call l before in
    (goes.tells, allowed_from calls _ (step c call).reply.controller goes.kept)

pub fresh_kept : Kept ledger_fresh fresh.body fresh.phase
unfolding fresh start_body InHand
fresh_kept = record { agrees = record { selected = refl; low = omega arith; drive = fresh_drive }; hand = tt }

-- after every list
pub kept_at : (calls : List Call)
    → Kept (ledger (run fresh calls)) (after fresh (run fresh calls)).body (after fresh (run fresh calls)).phase
kept_at calls = kept_from calls ledger_fresh fresh fresh_kept

pub ledger_is_kept : (calls : List Call) → DrivesAreALedger (run fresh calls)
ledger_is_kept calls d within = is_tape _ _ ((kept_at calls).agrees.drive d within)

pub orders_are_allowed : (calls : List Call) → OrdersAreAllowed (run fresh calls)
orders_are_allowed calls = allowed_from calls ledger_fresh fresh fresh_kept
