-- The words that a store leaves while it is carried out are those that the papers' numbers give (`carried_turns`), and
-- what it asks for is told by the first byte of its order (`order_said`) and by its motion (`motion_said`).
-- Assumes nothing.
use mathlib.Core.Path.{◌≡◌, refl, sym, ap, subst, ◌∙◌}
use Prim.Native.Nat.{ℕ, ◌≤◌, ◌/◌, ◌%◌}
use native.Mathlib.Omega.{arith}
use mathlib.Core.Bool.{Bool, true, false, not, ◌&&◌, ◌||◌, and-false}
use lib.Dec.{leb, eqb}
use borrow.Author.Tests.{leb-false}
use Rattle.common.specs.Pick.{pick}
use Rattle.common.proofs.PickLaws.{by_test, pick_by, pick_yes, pick_no}
use Rattle.status.specs.declared.drives.Drive.{Drive}
use Rattle.status.specs.declared.words.Outcome.{Outcome}
use Rattle.status.specs.Drives.{drive_of, copy_report, with_track, with_density, with_guard}
use Rattle.status.specs.Words.{no_outcome}
use Rattle.status.proofs.DriveLaws.{by_four}
use Rattle.operations.specs.declared.operation.Operation.{Operation}
use Rattle.operations.specs.declared.operation.Operation.TheVariants.{Read, CheckBytes, SuppliedCount, Write, Erase}
use Rattle.operations.specs.declared.operation.Operation.TheVariants.{Rewind, FastForward, SkipForward, SkipReverse}
use Rattle.operations.specs.declared.operation.Operation.TheVariants.{SearchForward, SearchReverse, WriteMark}
use Rattle.operations.specs.declared.decode.Decoded.{Decoded}
use Rattle.operations.specs.declared.decode.Decoded.TheVariants.{Reset, Code, Track, Enable, Guard, Density, Operate}
use Rattle.operations.specs.declared.course.Course.{Course}
use Rattle.operations.specs.declared.store.Store.{Store}
use Rattle.operations.specs.Operation.{order_byte, move_of, counts_bytes, same_operation, supplies_count}
use Rattle.operations.specs.Decode.{control_of, read_of, decode_of, in_density}
use Rattle.operations.specs.Test.{may_move}
use Rattle.operations.specs.After.{own_retry, with_code, motion_of}
use Rattle.operations.specs.Codes.{illegal_drive}
use Rattle.operations.specs.Store.{asks_interrupt, names_drive, named_drive, names_unknown, selected_by, asked_for}
use Rattle.operations.specs.Course.{test_of, course_of}
use Rattle.link.specs.declared.state.Phase.{Phase}
use Rattle.link.specs.declared.state.Body.{Body}
use Rattle.link.specs.State.{Transition}
use Rattle.link.specs.State.{when_in_hand, start_body, with_selected, with_flags, with_outcome, with_current_drive}
use Rattle.link.specs.State.{current_drive}
use Rattle.link.specs.State.{review, idle, reset_state}
use Rattle.link.specs.Completion.{send_word, send_interrupt, complete}
use Rattle.transfers.specs.declared.after.Words.{Words}
use Rattle.controller.specs.Stores.{settle, end_with, order_move, past_test, begin, follow, clear_outcome, carry_out_on}
use Rattle.controller.specs.Stores.{carry_out}
use Rattle.controller.specs.Records.{words_of}
use Rattle.controller.specs.Ledger.{among, Tape, motion_made, Ledger}
use Rattle.controller.specs.Shown.{cleared, coded, order_asked, control_code, read_code, decoding_code, passes_test}
use Rattle.controller.specs.Shown.{ending_code, count_begun, outcome_begun, words_begun, words_carried, offers_go}
use Rattle.controller.proofs.Asking.{Asks, by_asked}
use Rattle.controller.proofs.Courses.{decoded}
use Rattle.controller.proofs.Steps.Resting.{Free, by_free, settled_rests}
use Rattle.controller.proofs.DrivesAreALedger.{told, Agreeing, pick_pair, lost_said}
use Rattle.controller.proofs.StatusIsALedger.Scanning.{alike}
use Rattle.controller.proofs.StatusIsALedger.Numbers.{numbered, test_said}
use Rattle.controller.proofs.StatusIsALedger.Ending.{words_of_lem}

-- ---- what a store asks for

unfoldable Said : ℕ → ℕ → ℕ → Decoded → Type 0
Said operation f l (Operate asked) =
    (order_asked operation f l ≡ order_byte asked)
    × ((code : ℕ) → motion_made operation f l code ≡ motion_of (move_of asked) code)
Said operation f l Reset = Unit
Said operation f l (Code code) = Unit
Said operation f l (Track track) = Unit
Said operation f l (Enable enable) = Unit
Said operation f l (Guard guard) = Unit
Said operation f l (Density density) = Unit

all_said : Asks Said
unfolding Said order_asked motion_made motion_of among pick
all_said =
    record {
      resets = λ f l. tt;
      track = λ f l low. tt;
      no_track = λ f l past low. tt;
      disables = λ f. tt;
      enables = λ f. tt;
      unguards = λ f. tt;
      guards = λ f. tt;
      mfm = λ f. tt;
      gcr = λ f. tt;
      rewind = λ f. (refl, λ code. rw (lost_said code));
      fast_forward = λ f. (refl, λ code. rw (lost_said code));
      skip_forward = λ f. (refl, λ code. rw (lost_said code));
      skip_reverse = λ f. (refl, λ code. rw (lost_said code));
      search_forward = λ f. (refl, λ code. rw (lost_said code));
      search_reverse = λ f. (refl, λ code. rw (lost_said code));
      write_mark = λ f. (refl, λ code. rw (lost_said code));
      no_control = λ f l high no_a no_b no_c no_d. tt;
      read = λ l. (refl, λ code. rw (lost_said code));
      check_bytes = λ l. (refl, λ code. rw (lost_said code));
      supplied_count = λ l. (refl, λ code. rw (lost_said code));
      no_read = λ f l. tt;
      write = λ f l. (refl, λ code. rw (lost_said code));
      erase = λ f l. (refl, λ code. rw (lost_said code));
      none = λ operation f l no_0 no_3. tt;
    }

module _ (store : Store) (operation : Operation) (asks : asked_for store ≡ Operate operation) where
  both_said : Said (store.address / 16 % 8) store.first store.fourth (Operate operation)
  unfolding asked_for
  both_said =
      subst (Said (store.address / 16 % 8) store.first store.fourth) asks
      (by_asked Said all_said (store.address / 16 % 8) store.first store.fourth)

  pub order_said : order_asked (store.address / 16 % 8) store.first store.fourth ≡ order_byte operation
  unfolding Said
  order_said = both_said.0

  pub motion_said : (code : ℕ) → motion_made (store.address / 16 % 8) store.first store.fourth code
      ≡ motion_of (move_of operation) code
  unfolding Said
  motion_said = both_said.1

-- ---- the code of a store that is decoded, 0 where it has none

abbrev code_in : Decoded → ℕ
code_in (Code code) = code
code_in Reset = 0
code_in (Track track) = 0
code_in (Enable enable) = 0
code_in (Guard guard) = 0
code_in (Density density) = 0
code_in (Operate operation) = 0

abbrev code_of : ℕ → Decoded → ℕ
code_of density asked = code_in (in_density density asked)

-- one of several tests
any : (g : Decoded → ℕ) (t rest : Bool) (z : ℕ) {x y : Decoded} → g x ≡ 0 → g y ≡ pick rest 0 z
    → g (pick t x y) ≡ pick (t || rest) 0 z
unfolding pick
any g true rest z here later = here
any g false rest z here later = later

needs_gcr : (a b : Bool) → ◌≡◌ {A = ℕ} (pick a (pick b 2 0) 2) (pick (a && not b) 0 2)
unfolding pick
needs_gcr true true = refl
needs_gcr true false = refl
needs_gcr false b = refl

module _ (density : ℕ) where
  abbrev g : Decoded → ℕ
  g = code_of density

  control_said : (l : ℕ) → g (control_of l) ≡ control_code l
  unfolding control_of control_code among in_density pick
  control_said l =
      alike g (λ (n : ℕ). n) (leb l 0x03) (λ low. refl)
      (λ past. alike g (λ (n : ℕ). n) (leb l 0x07) (λ low. refl)
      (λ high.
      any g (eqb l 0x08) _ 2 refl (any g (eqb l 0x09) _ 2 refl (any g (eqb l 0x0A) _ 2 refl
      (any g (eqb l 0x0B) _ 2 refl (any g (eqb l 0x0C) _ 2 refl (any g (eqb l 0x0D) _ 2 refl
      (any g (eqb l 0x10) _ 2 refl (any g (eqb l 0x11) _ 2 refl (any g (eqb l 0x20) _ 2 refl
      (any g (eqb l 0x21) _ 2 refl (any g (eqb l 0x22) _ 2 refl (any g (eqb l 0x23) _ 2 refl
      (any g (eqb l 0x24) false 2 refl refl))))))))))))))

  read_said : (f : ℕ) → g (read_of f) ≡ read_code f density
  unfolding read_of read_code among in_density pick
  read_said f =
      any g (eqb f 0x00) _ _ refl (any g (eqb f 0x40) false _ refl
      (alike g (λ (n : ℕ). n) (eqb f 0x80)
      (λ supplies. alike code_in (λ (n : ℕ). n) (eqb density 0) (λ mfm. refl) (λ gcr. refl)) (λ other. refl)
      ∙ needs_gcr (eqb f 0x80) (eqb density 0)))

  code_said : (operation f l : ℕ) → eqb operation 0 ≡ false
      → decoding_code operation f l density ≡ g (decode_of operation f l)
  unfolding decode_of decoding_code among in_density pick
  code_said operation f l some =
      sym (ap g (pick_no _ _ some)
      ∙ alike g (λ (n : ℕ). n) (eqb operation 3) (λ is. control_said l)
      (λ not_3. alike g (λ (n : ℕ). n) (eqb operation 4) (λ is. read_said f)
      (λ not_4. any g (eqb operation 5) _ 2 refl (any g (eqb operation 6) false 2 refl refl))))

-- ---- what a store's end leaves

-- GO is offered in one phase
abbrev pub go_in : Phase → Bool
go_in = when_in_hand (λ store. true) (λ store. false) (λ operation store. false) false

-- a store in hand is this one
unfoldable pub HeldIn : Store → Phase → Type 0
HeldIn store = when_in_hand (λ held. held ≡ store) (λ held. held ≡ store) (λ operation held. held ≡ store) Unit

pub free_go : (phase : Phase) → Free phase → go_in phase ≡ false
free_go = by_free (λ (phase : Phase). go_in phase ≡ false) (λ s. refl) (λ s. refl) (λ s. refl) (λ interrupt. refl)

pub free_held : (store : Store) (phase : Phase) → Free phase → HeldIn store phase
unfolding HeldIn
free_held store = by_free (HeldIn store) (λ s. tt) (λ s. tt) (λ s. tt) (λ interrupt. tt)

pub record Turns (w : Words) (store : Store) (t : Transition) : Type 0 where
  pub words : words_of t.body ≡ w
  pub go : offers_go t.action ≡ go_in t.phase
  pub held : HeldIn store t.phase

pub completed_words : (b : Body) (asked : Bool) → words_of (complete b asked).body ≡ words_of b
unfolding complete send_interrupt send_word idle review
completed_words b asked =
    pick_by (λ (t : Transition). words_of t.body ≡ words_of b) asked
    (λ asks. pick_by (λ (t : Transition). words_of t.body ≡ words_of b) b.outcome.counted (λ counted. refl)
    (λ none. refl))
    (λ none. refl)

completed_quiet : (b : Body) (asked : Bool) → offers_go (complete b asked).action ≡ false
unfolding complete send_interrupt send_word idle offers_go
completed_quiet b asked =
    pick_by (λ (t : Transition). offers_go t.action ≡ false) asked
    (λ asks. pick_by (λ (t : Transition). offers_go t.action ≡ false) _ (λ counted. refl) (λ none. refl))
    (λ none. refl)

own_set : (code : ℕ) → own_retry code false ≡ true
unfolding own_retry
own_set code = ap not (and-false (eqb code 0x15))

pub coded_said : (o : Outcome) (code : ℕ) → with_code o code ≡ coded o code
coded_said o code = rw (own_set code)

module _ (store : Store) where
  settled_turns : (b : Body) (w : Words) → words_of b ≡ w → Turns w store (settle b store)
  unfolding settle
  settled_turns b w same =
      let free = (settled_rests b store).free in
      record {
        words = completed_words b (asks_interrupt store) ∙ same;
        go = completed_quiet b (asks_interrupt store) ∙ sym (free_go _ free);
        held = free_held store _ free;
      }

  ended_turns : (b : Body) (code : ℕ) (w : Words) → words_of_lem (coded b.outcome code) b.tertiary b.quintary ≡ w
      → Turns w store (end_with b store code)
  unfolding end_with
  ended_turns b code w same =
      settled_turns (with_outcome b (with_code b.outcome code)) w
      (ap (λ (o : Outcome). words_of_lem o b.tertiary b.quintary) (coded_said b.outcome code) ∙ same)

  -- ---- a store for drive n, whose record is this

  module _ (before : Body) (n : ℕ) (t : Tape) (same : copy_report (drive_of before.drives n) ≡ told t) where
    abbrev b : Body
    b = with_selected (clear_outcome before) n

    abbrev count : ℕ
    count = before.outcome.result.count

    abbrev telling : Outcome → Words
    telling o = words_of_lem o before.tertiary before.quintary

    module _ (operation f l : ℕ) (some : eqb operation 0 ≡ false) where
      abbrev begun : Words
      begun = words_begun operation f l t (words_of before)

      abbrev dense : ℕ
      dense = decoding_code operation f l t.density

      telling_is : (o : Outcome) → outcome_begun operation f l t count ≡ o → telling o ≡ begun
      unfolding words_begun
      telling_is o is = ap telling (sym is) ∙ sym (pick_no _ _ some)

      with_code_lem : (code : ℕ) → eqb code 0 ≡ false → ending_code operation f l t ≡ code
          → telling (coded (cleared count) code) ≡ begun
      unfolding outcome_begun
      with_code_lem code set is =
          telling_is (coded (cleared count) code)
          (ap (λ (k : ℕ). pick (eqb k 0) (cleared (count_begun (order_asked operation f l) count))
          (coded (cleared count) k)) is
          ∙ pick_no _ _ set)

      with_none : ending_code operation f l t ≡ 0
          → telling (cleared (count_begun (order_asked operation f l) count)) ≡ begun
      unfolding outcome_begun pick
      with_none is =
          telling_is (cleared (count_begun (order_asked operation f l) count))
          (ap (λ (k : ℕ). pick (eqb k 0) (cleared (count_begun (order_asked operation f l) count))
          (coded (cleared count) k)) is)

      -- by the decoding, or by the test
      decoded_code : (code : ℕ) → eqb code 0 ≡ false → dense ≡ code → ending_code operation f l t ≡ code
      unfolding ending_code
      decoded_code code set is = pick_no _ _ (ap (λ (k : ℕ). eqb k 0) is ∙ set) ∙ is

      tested_code : (passes : Bool) → dense ≡ 0 → passes_test (order_asked operation f l) t ≡ passes
          → ending_code operation f l t ≡ pick passes 0 4
      unfolding ending_code
      tested_code passes is test =
          pick_yes _ _ (ap (λ (k : ℕ). eqb k 0) is) ∙ ap (λ (u : Bool). pick u 0 4) test

      coded_turns : (code : ℕ) → eqb code 0 ≡ false → ending_code operation f l t ≡ code
          → Turns begun store (end_with b store code)
      unfolding clear_outcome no_outcome
      coded_turns code set is = ended_turns b code begun (with_code_lem code set is)

      -- nothing is tested, and the count stays
      quiet_turns :
          (later : Body)
          → words_of later ≡ telling (cleared count)
          → dense ≡ 0
          → passes_test (order_asked operation f l) t ≡ true
          → count_begun (order_asked operation f l) count ≡ count
          → Turns begun store (settle later store)
      unfolding pick
      quiet_turns later words is test stays =
          settled_turns later begun
          (words ∙ ap (λ (k : ℕ). telling (cleared k)) (sym stays) ∙ with_none (tested_code true is test))

      module _ (asked : Operation) (ordered : order_asked operation f l ≡ order_byte asked) where
        past_words : words_of (past_test b asked) ≡ telling (cleared (count_begun (order_asked operation f l) count))
        unfolding past_test count_begun clear_outcome no_outcome
        past_words =
            alike (λ (x : Body). words_of x) (λ (k : ℕ). telling (cleared k)) (counts_bytes asked) (λ counts. refl)
            (λ none. refl)
            ∙ ap (λ (u : Bool). telling (cleared (pick u 0 count))) (numbered asked).counts
            ∙ ap (λ (k : ℕ). telling (cleared (count_begun k count))) (sym ordered)

        begun_turns : ending_code operation f l t ≡ 0 → Turns begun store (begin b asked store)
        unfolding begin order_move offers_go HeldIn
        begun_turns is =
            let words = past_words ∙ with_none is in
            pick_by (Turns begun store) (same_operation asked Write)
            (λ writes. record { words = words; go = refl; held = refl })
            (λ other. pick_by (Turns begun store) (same_operation asked CheckBytes)
            (λ checks. record { words = words; go = refl; held = refl })
            (λ moves. record { words = words; go = refl; held = refl }))

        -- past decoding
        tested_turns : dense ≡ 0 → Turns begun store (decoded b store (Operate asked))
        unfolding follow course_of test_of pick clear_outcome
        tested_turns is =
            let drive = current_drive b in
            let test : may_move (move_of asked) drive.report drive.guard drive.gap
            ≡ passes_test (order_asked operation f l) t =
            ap (λ (x : Drive). may_move (move_of asked) x.report x.guard x.gap) same ∙ test_said t asked
            ∙ ap (λ (k : ℕ). passes_test k t) (sym ordered) in
            pick_by (λ (course : Course). Turns begun store (follow b store course))
            (may_move (move_of asked) drive.report drive.guard drive.gap)
            (λ may. begun_turns (tested_code true is (sym test ∙ may)))
            (λ fails. coded_turns 4 refl (tested_code false is (sym test ∙ fails)))

        operated_turns : dense ≡ code_of t.density (Operate asked)
            → Turns begun store (decoded b store (in_density t.density (Operate asked)))
        unfolding in_density follow course_of
        operated_turns is =
            let needs = supplies_count asked && eqb t.density 0 in
            by_test needs
            (λ lacks.
            subst (λ (x : Decoded). Turns begun store (decoded b store x)) (sym (pick_yes _ _ lacks))
            (coded_turns 2 refl (decoded_code 2 refl (is ∙ ap code_in (pick_yes _ _ lacks)))))
            (λ goes.
            subst (λ (x : Decoded). Turns begun store (decoded b store x)) (sym (pick_no _ _ goes))
            (tested_turns (is ∙ ap code_in (pick_no _ _ goes))))

    abbrev Begins : ℕ → ℕ → ℕ → Decoded → Type 0
    Begins operation f l asked =
        (eqb operation 0 ≡ false → decoding_code operation f l t.density ≡ code_of t.density asked)
        → Turns (words_begun operation f l t (words_of before)) store (decoded b store (in_density t.density asked))

    codes : (operation f l code : ℕ) → eqb operation 0 ≡ false → eqb code 0 ≡ false → Begins operation f l (Code code)
    unfolding in_density follow course_of
    codes operation f l code some set known =
        coded_turns operation f l some code set (decoded_code operation f l some code set (known some))

    operates : (operation f l : ℕ) (asked : Operation) → eqb operation 0 ≡ false
        → order_asked operation f l ≡ order_byte asked → Begins operation f l (Operate asked)
    operates operation f l asked some ordered known = operated_turns operation f l some asked ordered (known some)

    all_begin : Asks Begins
    unfolding words_begun order_asked passes_test count_begun among in_density follow course_of reset_state start_body
        no_outcome clear_outcome offers_go HeldIn pick
    all_begin =
        record {
          resets = λ f l known. record { words = refl; go = refl; held = tt };
          track =
              λ f l low known.
              quiet_turns 3 f l refl (with_current_drive b (with_track (current_drive b) l)) refl (known refl)
              (by_four (λ k. passes_test k t ≡ true) refl refl refl refl l low)
              (by_four (λ k. count_begun k count ≡ count) refl refl refl refl l low);
          no_track = λ f l past low. codes 3 f l 3 refl refl;
          disables = λ f known.
              quiet_turns 3 f 0x08 refl (with_flags b b.changed false) refl (known refl) refl refl;
          enables = λ f known.
              quiet_turns 3 f 0x09 refl (with_flags b b.changed true) refl (known refl) refl refl;
          unguards = λ f known.
              quiet_turns 3 f 0x0A refl (with_current_drive b (with_guard (current_drive b) false))
              refl (known refl) refl
              refl;
          guards = λ f known.
              quiet_turns 3 f 0x0B refl (with_current_drive b (with_guard (current_drive b) true))
              refl (known refl) refl
              refl;
          mfm = λ f known.
              quiet_turns 3 f 0x0C refl (with_current_drive b (with_density (current_drive b) 0)) refl (known refl) refl
              refl;
          gcr = λ f known.
              quiet_turns 3 f 0x0D refl (with_current_drive b (with_density (current_drive b) 1)) refl (known refl) refl
              refl;
          rewind = λ f. operates 3 f 0x10 Rewind refl refl;
          fast_forward = λ f. operates 3 f 0x11 FastForward refl refl;
          skip_forward = λ f. operates 3 f 0x20 SkipForward refl refl;
          skip_reverse = λ f. operates 3 f 0x21 SkipReverse refl refl;
          search_forward = λ f. operates 3 f 0x22 SearchForward refl refl;
          search_reverse = λ f. operates 3 f 0x23 SearchReverse refl refl;
          write_mark = λ f. operates 3 f 0x24 WriteMark refl refl;
          no_control = λ f l high no_a no_b no_c no_d. codes 3 f l 2 refl refl;
          read = λ l. operates 4 0x00 l Read refl refl;
          check_bytes = λ l. operates 4 0x40 l CheckBytes refl refl;
          supplied_count = λ l. operates 4 0x80 l SuppliedCount refl refl;
          no_read = λ f l. codes 4 f l 2 refl refl;
          write = λ f l. operates 5 f l Write refl refl;
          erase = λ f l. operates 6 f l Erase refl refl;
          none = λ operation f l no_0 no_3. codes operation f l 2 no_0 refl;
        }

    begins : (operation f l : ℕ)
        → Turns (words_begun operation f l t (words_of before)) store
        (decoded b store (in_density t.density (decode_of operation f l)))
    begins operation f l = by_asked Begins all_begin operation f l (code_said t.density operation f l)

-- ---- a store is carried out

pub carried_turns : (l : Ledger) (b : Body) (store : Store) → Agreeing l b
    → Turns (words_carried l (words_of b) store) store (carry_out b store)
unfolding words_carried carry_out carry_out_on names_unknown selected_by names_drive named_drive asked_for clear_outcome
    no_outcome
carried_turns l b store agrees =
    let named = eqb (store.address / 8 % 2) 1 in
    let number = store.address % 8 in
    pick_pair (λ (w : Words) (t : Transition). Turns w store t) (named && leb 4 number)
    (λ unknown. ended_turns store (clear_outcome b) illegal_drive _ refl)
    (λ known.
    let n = pick named number b.selected in
    let within : n ≤ 3 =
    pick_by (λ (n : ℕ). n ≤ 3) named
    (λ is. let below = leb-false 4 number (sym (ap (λ (t : Bool). t && leb 4 number) is) ∙ known) in omega arith)
    (λ none. agrees.low) in
    let same = agrees.drive n within in
    subst
    (λ (k : ℕ). Turns
    (words_begun (store.address / 16 % 8) store.first store.fourth (l.tape (pick named number k)) (words_of b))
    store (carry_out_on (clear_outcome b) store n))
    agrees.selected
    (subst
    (λ (d : ℕ). Turns
    (words_begun (store.address / 16 % 8) store.first store.fourth (l.tape n) (words_of b)) store
    (decoded (with_selected (clear_outcome b) n) store
    (in_density d (decode_of (store.address / 16 % 8) store.first store.fourth))))
    (sym (ap (λ (x : Drive). x.density) same))
    (begins store b n (l.tape n) same (store.address / 16 % 8) store.first store.fourth)))
