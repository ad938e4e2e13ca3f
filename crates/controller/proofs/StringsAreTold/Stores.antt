-- A store that is carried out, and a result, as the list tells them.
-- Assumes nothing.
use mathlib.Core.Path.{◌≡◌, refl, sym, ap, ap₂, subst, ◌∙◌}
use Prim.Native.Nat.{ℕ, ◌≤◌, ◌/◌, ◌%◌}
use native.Mathlib.Omega.{arith}
use mathlib.Core.Bool.{Bool, true, false, not, ◌&&◌, ◌||◌, false≢true}
use lib.Dec.{leb, eqb}
use borrow.Author.Tests.{le-leb, eqb-true, leb-false, ne_eqb}
use Rattle.common.specs.Pick.{pick}
use Rattle.common.proofs.PickLaws.{by_test, pick_by, pick_yes, pick_no}
use Rattle.status.specs.declared.drives.Drive.{Drive}
use Rattle.status.specs.declared.words.Outcome.{Outcome}
use Rattle.status.specs.Drives.{with_track}
use Rattle.status.specs.Words.{no_outcome}
use Rattle.operations.specs.declared.operation.Operation.{Operation}
use Rattle.operations.specs.declared.operation.Operation.TheVariants.{Read, CheckBytes, SuppliedCount, Write, Erase}
use Rattle.operations.specs.declared.operation.Operation.TheVariants.{Rewind, FastForward, SkipForward, SkipReverse}
use Rattle.operations.specs.declared.operation.Operation.TheVariants.{SearchForward, SearchReverse, WriteMark}
use Rattle.operations.specs.declared.decode.Decoded.{Decoded}
use Rattle.operations.specs.declared.decode.Decoded.TheVariants.{Reset, Code, Track, Enable, Guard, Density, Operate}
use Rattle.operations.specs.declared.store.Store.{Store}
use Rattle.operations.specs.After.{with_code}
use Rattle.operations.specs.Codes.{illegal_drive, illegal_store, illegal_motion}
use Rattle.operations.specs.Course.{course_of}
use Rattle.operations.specs.Decode.{control_of, decode_of, in_density}
use Rattle.operations.specs.Operation.{same_operation, counts_bytes, offers_end}
use Rattle.operations.specs.Store.{asks_interrupt, names_drive, named_drive, names_unknown, selected_by, asked_for}
use Rattle.operations.proofs.DensityLaws.{by_density}
use Rattle.transfers.specs.declared.after.Words.{Words}
use Rattle.link.specs.declared.state.Body.{Body}
use Rattle.link.specs.State.{Transition}
use Rattle.link.specs.State.{with_flags, with_selected, with_outcome, with_current_drive, current_drive, start_body}
use Rattle.link.specs.State.{reset_state}
use Rattle.controller.specs.Stores.{past_test, settle, end_with, end_operation, order_move, begin, follow}
use Rattle.controller.specs.Stores.{clear_outcome, carry_out_on, carry_out}
use Rattle.controller.specs.Ledger.{Ledger}
use Rattle.controller.specs.Sent.{Wire, quiet, flagged, wire_reset, asks, enabled_by, begun, stored_on}
use Rattle.controller.specs.Sent.{stored, ends_here, resulted, strings_of, AllCheck}
use Rattle.controller.specs.Sent.Awaited.{nothing, go}
use Rattle.controller.proofs.Asking.{Asks, by_asked}
use Rattle.controller.proofs.Courses.{decoded, by_test_of, by_beginning}
use Rattle.controller.proofs.DrivesAreALedger.{pick_pair, reset_drive}
use Rattle.controller.proofs.RetriesAreTrusted.{completed_outcome}
use Rattle.controller.proofs.StringsAreTold.Sends.{Flags, awaited_in, HeldChecks, Agreed, Told, pick_alike}
use Rattle.controller.proofs.StringsAreTold.Sends.{copy_kept, reports_agree, Tells, settled_told, ended_told}

-- a drive set anew keeps its copy
pub set_flags : (f : Wire) (b : Body) (drive : Drive) → Flags f b → b.selected ≤ 3
    → drive.reviewed ≡ (current_drive b).reviewed → Flags f (with_current_drive b drive)
set_flags f b drive flags low same =
    record {
      changed = flags.changed;
      enable = flags.enable;
      copy = λ d within. copy_kept b.drives b.selected drive low same d within ∙ flags.copy d within;
    }

either_holds : (a : Bool) {b : Bool} → b ≡ true → (a || b) ≡ true
either_holds true e = refl
either_holds false e = e

module _ (l : Ledger) (w : Words) where
  -- ---- a store is carried out

  pub reset_told : (b : Body) → Tells l w (wire_reset l) (reset_state b)
  unfolding reset_state start_body awaited_in strings_of HeldChecks AllCheck
  reset_told b agreed =
      record {
        flags =
            record {
              changed = refl;
              enable = refl;
              copy =
                  λ d within. ap (λ (x : Drive). x.reviewed) (reset_drive b.drives d within)
                  ∙ sym (ap (λ (x : Drive). x.report) (reset_drive b.drives d within))
                  ∙ reports_agree l _ _ agreed.drives d within;
            };
        awaited = refl;
        sends = refl;
        checks = tt;
        held = tt;
      }

  module _ (f : Wire) (b : Body) (store : Store) (flags : Flags f b) (low : b.selected ≤ 3)
      (cleared : b.outcome.result.code ≡ 0) where
    abbrev StoredAs : ℕ → ℕ → Transition → Type 0
    StoredAs operation last = Tells l w (stored_on f l w store operation last)

    -- past the reset, by a store that does not name enable
    on :
        (operation last : ℕ) (t : Transition)
        → eqb operation 0 ≡ false
        → enabled_by f operation last ≡ f
        → Tells l w (begun f l w store operation last) t
        → StoredAs operation last t
    unfolding stored_on
    on operation last t some same =
        subst (λ (g : Wire). Tells l w g t)
        (sym (pick_no _ _ some ∙ ap (λ (g : Wire). begun g l w store operation last) same))

    -- one that ends here
    settles : (g : Wire) (now : Body) (operation last : ℕ) → Flags g now
        → (Agreed l w (settle now store).body → ends_here w operation last ≡ true)
        → Tells l w (begun g l w store operation last) (settle now store)
    unfolding begun
    settles g now operation last are ends agreed =
        subst (λ (h : Wire). Told h (settle now store)) (sym (pick_yes _ _ (ends agreed)))
        (settled_told l w g now store are agreed)

    -- a control value up to 0D
    set : (last : ℕ) (drive : Drive) → last ≤ 0x0D → enabled_by f 3 last ≡ f
        → drive.reviewed ≡ (current_drive b).reviewed → StoredAs 3 last (settle (with_current_drive b drive) store)
    unfolding ends_here
    set last drive control same copied =
        on 3 last _ refl same
        (settles f (with_current_drive b drive) 3 last (set_flags f b drive flags low copied)
        (λ agreed. ap (λ (t : Bool). t || not (eqb w.outcome.result.code 0)) (le-leb last 0x0D control)))

    -- the code that a store ends with is the one that the words show
    code_shown : (now : Body) → Agreed l w (settle now store).body
        → now.outcome.result.code ≡ w.outcome.result.code
    unfolding settle
    code_shown now agreed =
        sym (ap (λ (o : Outcome). o.result.code) (completed_outcome now (asks_interrupt store)))
        ∙ ap (λ (v : Words). v.outcome.result.code) agreed.words

    codes : (operation last code : ℕ) → eqb operation 0 ≡ false → enabled_by f operation last ≡ f → eqb code 0 ≡ false
        → StoredAs operation last (end_with b store code)
    unfolding end_with ends_here
    codes operation last code some same coded =
        let now = with_outcome b (with_code b.outcome code) in
        on operation last _ some same
        (settles f now operation last flags
        (λ agreed. either_holds (eqb operation 3 && leb last 0x0D)
        (ap (λ (n : ℕ). not (eqb n 0)) (sym (code_shown now agreed)) ∙ ap not coded)))

    -- one that begins an operation
    awaits : (number : ℕ) (operation : Operation) → eqb number 5 ≡ same_operation operation Write
        → Tells l w (quiet f (pick (eqb number 5) go nothing)) (begin b operation store)
    unfolding awaited_in HeldChecks AllCheck strings_of order_move
    awaits number =
        let held : HeldChecks (pick (eqb number 5) go nothing) =
        pick_by HeldChecks (eqb number 5) (λ writes. tt) (λ other. tt) in
        by_beginning
        (λ operation t. eqb number 5 ≡ same_operation operation Write
        → Tells l w (quiet f (pick (eqb number 5) go nothing)) t)
        b store
        (λ o same is agreed.
        record { flags = flags; awaited = pick_yes go nothing is; sends = refl; checks = tt; held = held })
        (λ is agreed.
        record { flags = flags; awaited = pick_no go nothing is; sends = refl; checks = tt; held = held })
        (λ operation o same ordered is agreed.
        record {
          flags = flags;
          awaited = pick_no go nothing (is ∙ ordered.other);
          sends = refl;
          checks = tt;
          held = held;
        })

    begun_code : (operation : Operation) → (begin b operation store).body.outcome.result.code ≡ 0
    unfolding begin past_test order_move
    begun_code operation =
        let past : (past_test b operation).outcome.result.code ≡ 0 =
        pick_by (λ (x : Body). x.outcome.result.code ≡ 0) (counts_bytes operation) (λ counts. cleared)
        (λ none. cleared) in
        pick_by (λ (t : Transition). t.body.outcome.result.code ≡ 0) (same_operation operation Write)
        (λ writes. past)
        (λ other. pick_by (λ (t : Transition). t.body.outcome.result.code ≡ 0) (same_operation operation CheckBytes)
        (λ checks. past) (λ moves. past))

    begins : (number last : ℕ) (operation : Operation) → (eqb number 3 && leb last 0x0D) ≡ false
        → eqb number 5 ≡ same_operation operation Write
        → Tells l w (begun f l w store number last) (begin b operation store)
    unfolding begun ends_here
    begins number last operation moves is agreed =
        let goes : ((eqb number 3 && leb last 0x0D) || not (eqb w.outcome.result.code 0)) ≡ false =
        ap₂ (λ (t : Bool) (n : ℕ). t || not (eqb n 0)) moves
        (sym (ap (λ (v : Words). v.outcome.result.code) agreed.words) ∙ begun_code operation) in
        subst (λ (g : Wire). Told g (begin b operation store)) (sym (pick_no _ _ goes))
        (awaits number operation is agreed)

    operates :
        (number last : ℕ) (operation : Operation)
        → eqb number 0 ≡ false
        → enabled_by f number last ≡ f
        → (eqb number 3 && leb last 0x0D) ≡ false
        → eqb number 5 ≡ same_operation operation Write
        → (density : ℕ)
        → StoredAs number last (decoded b store (in_density density (Operate operation)))
    unfolding follow course_of
    operates number last operation some same moves is density =
        by_density (λ (x : Decoded). StoredAs number last (decoded b store x)) density (Operate operation)
        (by_test_of (StoredAs number last) b store operation
        (on number last _ some same (begins number last operation moves is))
        (codes number last illegal_motion some same refl))
        (λ other asked. codes number last illegal_store some same refl)

    -- an operation other than 3, and a control value other than 08 and 09
    no_control_lem : (operation last : ℕ) → eqb operation 3 ≡ false → enabled_by f operation last ≡ f
    unfolding enabled_by
    no_control_lem operation last none =
        pick_no _ _ (ap (λ (t : Bool). t && eqb last 0x08) none)
        ∙ pick_no _ _ (ap (λ (t : Bool). t && eqb last 0x09) none)

    other_control : (last : ℕ) → eqb last 0x08 ≡ false → eqb last 0x09 ≡ false → enabled_by f 3 last ≡ f
    unfolding enabled_by
    other_control last no_8 no_9 = pick_no _ _ no_8 ∙ pick_no _ _ no_9

    abbrev names_enable : Decoded → Bool
    names_enable (Enable enable) = true
    names_enable (Operate operation) = false
    names_enable Reset = false
    names_enable (Code code) = false
    names_enable (Track track) = false
    names_enable (Guard guard) = false
    names_enable (Density density) = false

    unlike : (first last v : ℕ) → names_enable (decode_of 3 first v) ≡ true → decode_of 3 first last ≡ Code 2
        → eqb last v ≡ false
    unlike first last v names code =
        by_test (eqb last v)
        (λ same. absurd
        (false≢true
        (sym (ap names_enable code)
        ∙ ap (λ (n : ℕ). names_enable (decode_of 3 first n)) (eqb-true last v same) ∙ names)))
        (λ no. no)

    abbrev Stored : ℕ → ℕ → ℕ → Decoded → Type 0
    Stored operation first last asked =
        decode_of operation first last ≡ asked
        → (density : ℕ)
        → StoredAs operation last (decoded b store (in_density density asked))

    pub stored_cases : Asks Stored
    unfolding stored_on enabled_by ends_here decode_of control_of in_density follow course_of with_track pick
    stored_cases =
        record {
          resets = λ first last is density. reset_told b;
          track =
              λ first last within is density. set last _ (omega arith)
              (other_control last (ne_eqb last 0x08 (λ e. omega arith)) (ne_eqb last 0x09 (λ e. omega arith)))
              (pick_by (λ (x : Drive). x.reviewed ≡ (current_drive b).reviewed) (eqb (current_drive b).track last)
              (λ old. refl) (λ new. refl));
          no_track =
              λ first last past within is density. codes 3 last 3 refl
              (other_control last (ne_eqb last 0x08 (λ e. omega arith)) (ne_eqb last 0x09 (λ e. omega arith))) refl;
          disables =
              λ first is density. settles (flagged f f.changed false) (with_flags b b.changed false) 3 0x08
              (record { changed = flags.changed; enable = refl; copy = flags.copy }) (λ agreed. refl);
          enables =
              λ first is density. settles (flagged f f.changed true) (with_flags b b.changed true) 3 0x09
              (record { changed = flags.changed; enable = refl; copy = flags.copy }) (λ agreed. refl);
          unguards = λ first is density. set 0x0A _ (omega arith) refl refl;
          guards = λ first is density. set 0x0B _ (omega arith) refl refl;
          mfm = λ first is density. set 0x0C _ (omega arith) refl refl;
          gcr = λ first is density. set 0x0D _ (omega arith) refl refl;
          rewind = λ first is. operates 3 0x10 Rewind refl refl refl refl;
          fast_forward = λ first is. operates 3 0x11 FastForward refl refl refl refl;
          skip_forward = λ first is. operates 3 0x20 SkipForward refl refl refl refl;
          skip_reverse = λ first is. operates 3 0x21 SkipReverse refl refl refl refl;
          search_forward = λ first is. operates 3 0x22 SearchForward refl refl refl refl;
          search_reverse = λ first is. operates 3 0x23 SearchReverse refl refl refl refl;
          write_mark = λ first is. operates 3 0x24 WriteMark refl refl refl refl;
          no_control =
              λ first last high no_a no_b no_c no_d is density. codes 3 last 2 refl
              (other_control last (unlike first last 0x08 refl is) (unlike first last 0x09 refl is)) refl;
          read = λ last is. operates 4 last Read refl refl refl refl;
          check_bytes = λ last is. operates 4 last CheckBytes refl refl refl refl;
          supplied_count = λ last is. operates 4 last SuppliedCount refl refl refl refl;
          no_read = λ first last is density. codes 4 last 2 refl refl refl;
          write = λ first last is. operates 5 last Write refl refl refl refl;
          erase = λ first last is. operates 6 last Erase refl refl refl refl;
          none =
              λ operation first last no_0 no_3 is density. codes operation last 2 no_0
              (no_control_lem operation last no_3) refl;
        }

  pub carried_told : (f : Wire) (b : Body) (store : Store) → Flags f b → b.selected ≤ 3
      → Tells l w (stored f l w store) (carry_out b store)
  unfolding stored carry_out carry_out_on names_unknown selected_by names_drive named_drive asked_for clear_outcome
      no_outcome
  carried_told f b store flags low =
      let named = eqb (store.address / 8 % 2) 1 in
      let number = store.address % 8 in
      pick_pair (Tells l w) (named && leb 4 number)
      (λ unknown. ended_told l w f (clear_outcome b) store illegal_drive flags)
      (λ known.
      let within : pick named number b.selected ≤ 3 =
      pick_by (λ (n : ℕ). n ≤ 3) named
      (λ is. let below = leb-false 4 number (sym (ap (λ (t : Bool). t && leb 4 number) is) ∙ known) in omega arith)
      (λ none. low) in
      by_asked _
      (stored_cases f (with_selected (clear_outcome b) (pick named number b.selected)) store flags within refl)
      (store.address / 16 % 8) store.first store.fourth refl _)

  -- ---- a result

  -- whatever the drive's record is, with the copy kept
  pub result_told : (f : Wire) (b : Body) (operation : Operation) (store : Store) → Flags f b
      → offers_end operation ≡ (eqb (store.address / 16 % 8) 4 || eqb (store.address / 16 % 8) 5)
      → Tells l w (resulted f store l w) (end_operation b operation store)
  unfolding resulted end_operation awaited_in strings_of asks_interrupt HeldChecks AllCheck
  result_told f b operation store flags offers =
      pick_alike (Tells l w) (eqb (store.address / 16 % 8) 4 || eqb (store.address / 16 % 8) 5) (offers_end operation)
      (sym offers) (λ due agreed. record { flags = flags; awaited = refl; sends = refl; checks = tt; held = tt })
      (λ none. settled_told l w f b store flags)

-- "Read, write and check bytes offer EOR"
unfoldable EndSaid : ℕ → ℕ → ℕ → Decoded → Type 0
EndSaid operation first last (Operate asked) = offers_end asked ≡ (eqb operation 4 || eqb operation 5)
EndSaid operation first last Reset = Unit
EndSaid operation first last (Code c) = Unit
EndSaid operation first last (Track track) = Unit
EndSaid operation first last (Enable enable) = Unit
EndSaid operation first last (Guard guard) = Unit
EndSaid operation first last (Density density) = Unit

ends_said : Asks EndSaid
unfolding EndSaid
ends_said =
    record {
      resets = λ first last. tt;
      track = λ first last low. tt;
      no_track = λ first last past low. tt;
      disables = λ first. tt;
      enables = λ first. tt;
      unguards = λ first. tt;
      guards = λ first. tt;
      mfm = λ first. tt;
      gcr = λ first. tt;
      rewind = λ first. refl;
      fast_forward = λ first. refl;
      skip_forward = λ first. refl;
      skip_reverse = λ first. refl;
      search_forward = λ first. refl;
      search_reverse = λ first. refl;
      write_mark = λ first. refl;
      no_control = λ first last high no_a no_b no_c no_d. tt;
      read = λ last. refl;
      check_bytes = λ last. refl;
      supplied_count = λ last. refl;
      no_read = λ first last. tt;
      write = λ first last. refl;
      erase = λ first last. refl;
      none = λ operation first last no_0 no_3. tt;
    }

pub end_said : (store : Store) (operation : Operation) → asked_for store ≡ Operate operation
    → offers_end operation ≡ (eqb (store.address / 16 % 8) 4 || eqb (store.address / 16 % 8) 5)
unfolding asked_for EndSaid
end_said store operation asks =
    subst (EndSaid (store.address / 16 % 8) store.first store.fourth) asks
    (by_asked EndSaid ends_said (store.address / 16 % 8) store.first store.fourth)
