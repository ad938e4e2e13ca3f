-- After every list of calls the status words are those that the list gives in the papers' numbers (`status_is_kept`,
-- over the definitions).
-- Assumes nothing.
pub mod Scanning
pub mod Numbers
pub mod Ending
pub mod Beginning
use mathlib.Core.Path.{◌≡◌, refl, sym, ap, ap₂, subst, ◌∙◌}
use Prim.Native.Nat.{ℕ, ◌+◌, ◌/◌, ◌%◌}
use mathlib.Core.Bool.{Bool, true, false, not, ◌&&◌, ◌||◌, and-false}
use mathlib.Core.List.{List, [], ◌∷◌}
use lib.Dec.{eqb}
use lib.ListN.{length}
use Rattle.common.specs.Pick.{pick}
use Rattle.common.proofs.PickLaws.{pick_by, pick_yes, pick_no}
use Rattle.status.specs.declared.drives.Drive.{Drive}
use Rattle.status.specs.declared.words.Outcome.{Outcome}
use Rattle.status.specs.Drives.{copy_report}
use Rattle.status.specs.Words.{no_outcome}
use Rattle.operations.specs.declared.operation.Operation.{Operation}
use Rattle.operations.specs.declared.decode.Decoded.TheVariants.{Operate}
use Rattle.operations.specs.declared.store.Store.{Store}
use Rattle.operations.specs.Operation.{order_byte, move_of, offers_end}
use Rattle.operations.specs.After.{with_code, motion_of}
use Rattle.operations.specs.Store.{asks_interrupt, thrown_away, held_count, asked_for}
use Rattle.link.specs.declared.state.Collected.{Collected}
use Rattle.link.specs.declared.state.Kind.{Kind}
use Rattle.link.specs.declared.state.Kind.TheVariants.{Load, Secondary, Completion, Change}
use Rattle.link.specs.declared.state.Send.{Send}
use Rattle.link.specs.declared.state.Phase.{Phase}
use Rattle.link.specs.declared.state.Phase.TheVariants.{Collecting, AckOffered, DataAwaited, ResultAwaited}
use Rattle.link.specs.declared.state.Body.{Body}
use Rattle.link.specs.State.{Transition}
use Rattle.link.specs.State.{store_of, offered, start_body, current_drive, reset_state, review, idle}
use Rattle.link.specs.Bytes.{ack, nack, load_lead, store_lead, most_noes}
use Rattle.link.specs.Damaged.{is_sound}
use Rattle.link.specs.Completion.{send_word}
use Rattle.link.specs.Link.{whole_length, append_byte, is_good_string, first_byte, last_byte, next_byte, yes_to_send}
use Rattle.link.specs.Link.{give_up}
use Rattle.link.specs.Link.{no_to_send, collect_byte, answer_to_send, tick_after_review, idle_tick}
use Rattle.link.specs.Loads.{carry_out_load}
use Rattle.transfers.specs.declared.after.Words.{Words}
use Rattle.transfers.specs.Data.{Host, needed_bytes, bad_byte, runs_short, data_words, settle_data}
use Rattle.transfers.specs.Results.{Result, result_refusal, settle_result}
use Rattle.controller.specs.declared.controller.Controller.{Controller}
use Rattle.controller.specs.Told.{Reply}
use Rattle.controller.specs.Controller.{fresh, refused}
use Rattle.controller.specs.Stores.{settle, end_operation, order_move, carry_out, yes_to_go, no_to_go}
use Rattle.controller.specs.Records.{words_of, with_after, data_done, result_done}
use Rattle.controller.specs.Machine.{byte_in, broken_in, tick_in, taken_in, byte_call, broken_call, tick_call}
use Rattle.controller.specs.Machine.{taken_call}
use Rattle.controller.specs.Machine.{carry_out_string, data_in, result_in, Call, Exchange, step, run}
use Rattle.controller.specs.Machine.Call.{byte, broken, host_data, result, tick}
use Rattle.controller.specs.Lists.{not_refused, holds_store, after}
use Rattle.controller.specs.Ledger.{Tape, Ledger, ledger_stored, ledger_carried, ledger_call, ledger_after}
use Rattle.controller.specs.Ledger.{count_asked}
use Rattle.controller.specs.Ledger.{operation_of, names_none, motion_made}
use Rattle.controller.specs.Shown.{coded, words_carried, offers_go, says_no, words_answered}
use Rattle.controller.specs.Shown.{outcome_written, words_written, final_left, words_left, words_ended, Status}
use Rattle.controller.specs.Shown.{words_call, go_call, shown_after, shown_from, status_fresh, StatusIsALedger}
use Rattle.controller.proofs.Steps.Resting.{Free, by_free, ending_rests}
use Rattle.controller.proofs.Steps.LinkCall.{byte_came, ticked, load_taken}
use Rattle.controller.proofs.Steps.SaysNo.{byte_refused}
use Rattle.controller.proofs.Steps.{stated, exchanged, LinkCall, SaysNo, OfRefusals, OfLink, OfStores}
use Rattle.controller.proofs.Steps.{OfHandings}
use Rattle.controller.proofs.Steps.{OfReports, OfNo, OfYes, OfData, OfResults, OfResets, Kinds, data_for_lem}
use Rattle.controller.proofs.Steps.{result_for_lem}
use Rattle.controller.proofs.Steps.{by_step}
use Rattle.controller.proofs.DrivesAreALedger.{told, Kept, Keeps, InHand, keeping, fresh_kept}
use Rattle.controller.proofs.StatusIsALedger.Ending.{words_of_lem, ended_words}
use Rattle.controller.proofs.StatusIsALedger.Beginning.{order_said, motion_said, go_in, HeldIn, free_go}
use Rattle.controller.proofs.StatusIsALedger.Beginning.{free_held, Turns, completed_words, coded_said}
use Rattle.controller.proofs.StatusIsALedger.Beginning.{carried_turns}

-- ---- what concerns the link alone leaves the words

abbrev Leaves : Body → Transition → Type 0
Leaves b t = words_of t.body ≡ words_of b

byte_leaves : (b : Body) (s : Collected) (value : ℕ) → Leaves b (collect_byte b s value)
unfolding collect_byte first_byte next_byte last_byte idle review
byte_leaves b s value =
    pick_by (Leaves b) (eqb s.length 0)
    (λ first. pick_by (Leaves b) (eqb value load_lead || eqb value store_lead) (λ starts. refl)
    (λ other. pick_by (Leaves b) (eqb value nack) (λ ignored. refl) (λ wrong. refl)))
    (λ further. pick_by (Leaves b) (eqb (s.length + 1) (whole_length s.c0))
    (λ last. pick_by (Leaves b) (is_good_string (append_byte s value)) (λ good. refl) (λ bad. refl))
    (λ more. refl))

given_up_leaves : (b : Body) (kind : Kind) → Leaves b (give_up b kind)
unfolding give_up idle review
given_up_leaves b Load = refl
given_up_leaves b Secondary = refl
given_up_leaves b Completion = refl
given_up_leaves b Change = refl

accepted_leaves : (b : Body) (kind : Kind) → Leaves b (yes_to_send b kind)
unfolding yes_to_send send_word idle review
accepted_leaves b Load = refl
accepted_leaves b Secondary = refl
accepted_leaves b Completion = refl
accepted_leaves b Change = refl

send_leaves : (b : Body) (value : ℕ) (s : Send) → Leaves b (answer_to_send b value s)
unfolding answer_to_send no_to_send
send_leaves b value s =
    pick_by (Leaves b) (eqb value ack) (λ yes. accepted_leaves b s.kind)
    (λ no. pick_by (Leaves b) (eqb s.noes most_noes) (λ most. given_up_leaves b s.kind) (λ again. refl))

tick_leaves : (b : Body) (s : Collected) → Leaves b (idle_tick b (Collecting s))
unfolding idle_tick tick_after_review send_word review
tick_leaves b s = pick_by (Leaves b) _ (λ sends. refl) (λ quiet. refl)

load_leaves : (b : Body) (address : ℕ) → Leaves b (carry_out_load b address)
unfolding carry_out_load send_word idle review
load_leaves b address =
    pick_by (Leaves b) (eqb (address / 16 % 8) 6) (λ six. refl)
    (λ other. pick_by (Leaves b) (eqb (address / 16 % 8) 7) (λ seven. refl) (λ sends. refl))

abbrev StillIn : Controller → Reply → Type 0
StillIn c reply = words_of reply.controller.body ≡ words_of c.body

-- where the state is sound, and where it is refused
sound : (c : Controller) (reply : Reply) → StillIn c reply
    → StillIn c (pick (is_sound c.body c.phase) reply (refused 1 c))
sound c reply same = pick_by (StillIn c) (is_sound c.body c.phase) (λ sane. same) (λ hurt. refl)

byte_still : (b : Body) (value : ℕ) (phase : Phase) → Free phase
    → StillIn (stated b phase) (byte_in (stated b phase) b value phase)
unfolding byte_in idle review
byte_still b value =
    by_free (λ (phase : Phase). StillIn (stated b phase) (byte_in (stated b phase) b value phase))
    (λ s. byte_leaves b s value) (λ s. refl) (λ s. send_leaves b value s) (λ interrupt. completed_words b interrupt)

broken_still : (b : Body) (phase : Phase) → Free phase → StillIn (stated b phase) (broken_in (stated b phase) b phase)
unfolding broken_in idle review
broken_still b =
    by_free (λ (phase : Phase). StillIn (stated b phase) (broken_in (stated b phase) b phase))
    (λ s. refl) (λ s. refl) (λ s. given_up_leaves b s.kind) (λ interrupt. completed_words b interrupt)

tick_still : (b : Body) (phase : Phase) → Free phase → StillIn (stated b phase) (tick_in (stated b phase) b phase)
unfolding tick_in
tick_still b =
    by_free (λ (phase : Phase). StillIn (stated b phase) (tick_in (stated b phase) b phase))
    (λ s. pick_by (StillIn (stated b (Collecting s))) (eqb s.length 0) (λ idles. tick_leaves b s) (λ part. refl))
    (λ s. refl) (λ s. refl) (λ interrupt. refl)

load_still : (b : Body) (phase : Phase) → Free phase → eqb (offered phase).c0 load_lead ≡ true
    → StillIn (stated b phase) (taken_in (stated b phase) b phase)
unfolding taken_in carry_out_string offered
load_still b =
    by_free (λ (phase : Phase). eqb (offered phase).c0 load_lead ≡ true
    → StillIn (stated b phase) (taken_in (stated b phase) b phase))
    (λ s load. refl)
    (λ s load. ap (λ (t : Transition). words_of t.body) (pick_yes _ _ load) ∙ load_leaves b s.c1)
    (λ s load. refl) (λ interrupt load. refl)

-- of every call of the link
abbrev StillAfter : Controller → Exchange → Type 0
StillAfter c x = LinkCall c x.call → Free c.phase → StillIn c x.answer.reply

link_still : (c : Controller) (call : Call) → StillAfter c (exchanged call (step c call))
unfolding step byte_call broken_call tick_call taken_call
link_still c call (byte_came value) free = sound c _ (byte_still c.body value c.phase free)
link_still c call LinkCall.link_broke free = sound c _ (broken_still c.body c.phase free)
link_still c call ticked free = sound c _ (tick_still c.body c.phase free)
link_still c call (load_taken load) free = sound c _ (load_still c.body c.phase free load)

-- ---- the list's words are the controller's

pub record Shows (s : Status) (b : Body) (phase : Phase) : Type 0 where
  pub words : words_of b ≡ s.words
  pub go : s.go ≡ go_in phase
  pub held : HeldIn s.ledger.store phase

abbrev pub ShownBy : Controller → Exchange → Type 0
ShownBy c x =
    StillAfter c x → (s : Status) → Kept s.ledger c.body c.phase → Shows s c.body c.phase
    → Shows (shown_after s c x) x.answer.reply.controller.body x.answer.reply.controller.phase

refusals_case : OfRefusals ShownBy
unfolding shown_after ledger_after not_refused
refusals_case c call number space check some at_space at_check still s kept before =
    record {
      words = before.words ∙ sym (pick_no _ _ some);
      go = pick_no _ _ some ∙ before.go;
      held = subst (λ (l : Ledger). HeldIn l.store c.phase) (sym (pick_no _ _ some)) before.held;
    }

-- no answer to GO where none is offered
unanswered : (go : Bool) (w : Words) (call : Call) → go ≡ false → words_answered go w call ≡ w
unfolding words_answered
unanswered go w call none = pick_no _ _ (ap (λ (t : Bool). t && says_no call) none)

link_case : OfLink ShownBy
unfolding shown_after words_call go_call ledger_after ledger_call not_refused holds_store pick
link_case c call t (byte_came value) free rests strings none still s kept before =
    record {
      words =
          still (byte_came value) free ∙ before.words
          ∙ sym (unanswered s.go s.words (byte value) (before.go ∙ free_go c.phase free));
      go = sym (free_go t.phase rests.free);
      held = free_held _ t.phase rests.free;
    }
link_case c call t LinkCall.link_broke free rests strings none still s kept before =
    record {
      words =
          still LinkCall.link_broke free ∙ before.words
          ∙ sym (unanswered s.go s.words broken (before.go ∙ free_go c.phase free));
      go = sym (free_go t.phase rests.free);
      held = free_held _ t.phase rests.free;
    }
link_case c call t ticked free rests strings none still s kept before =
    record {
      words =
          still ticked free ∙ before.words
          ∙ sym (unanswered s.go s.words tick (before.go ∙ free_go c.phase free));
      go = sym (free_go t.phase rests.free);
      held = free_held _ t.phase rests.free;
    }
link_case c call t (load_taken load) free rests strings none still s kept before =
    record {
      words = still (load_taken load) free ∙ before.words ∙ sym (pick_no _ _ (ap not load));
      go =
          pick_no _ _ (ap not load) ∙ before.go ∙ free_go c.phase free
          ∙ sym (free_go t.phase rests.free);
      held = free_held _ t.phase rests.free;
    }

-- the store that is carried out is the last one
pub carried_store : (l : Ledger) (store : Store) → (ledger_carried l store).store ≡ store
unfolding ledger_carried ledger_stored
carried_store l store =
    pick_by (λ (x : Ledger). x.store ≡ store) (names_none store) (λ unknown. refl)
    (λ known. pick_by (λ (x : Ledger). x.store ≡ store) (eqb (operation_of store) 0) (λ resets. refl) (λ other. refl))

module _ (s : Status) (b : Body) (store : Store) (phase : Phase) (kept : Kept s.ledger b phase)
    (before : Shows s b phase) where
  abbrev turn : Transition
  turn = carry_out b store

  pub turned : Turns (words_carried s.ledger s.words store) store turn
  turned =
      subst (λ (w : Words). Turns (words_carried s.ledger w store) store turn) before.words
      (carried_turns s.ledger b store kept.agrees)

  stored :
      Shows
      (record {
        ledger = ledger_carried s.ledger store;
        words = words_carried s.ledger s.words store;
        go = offers_go turn.action;
      })
      turn.body turn.phase
  stored =
      record {
        words = turned.words;
        go = turned.go;
        held = subst (λ (x : Store). HeldIn x turn.phase) (sym (carried_store s.ledger store)) turned.held;
      }

stores_case : OfStores ShownBy
unfolding shown_after words_call go_call ledger_after ledger_call not_refused holds_store offered pick
stores_case b c lead still s kept before =
    let store = store_of c in
    let turn = carry_out b store in
    let shows = stored s b store (AckOffered c) kept before in
    record {
      words = shows.words ∙ sym (pick_yes _ _ (ap not lead));
      go = pick_yes _ _ (ap not lead) ∙ shows.go;
      held =
          subst (λ (l : Ledger). HeldIn l.store turn.phase) (sym (pick_yes _ _ (ap not lead))) shows.held;
    }

handings_case : OfHandings ShownBy
unfolding shown_after words_call go_call ledger_after ledger_call not_refused pick
handings_case b c store still s kept before =
    let shows = stored s b store (Collecting c) kept before in
    record { words = shows.words; go = shows.go; held = shows.held }

reports_case : OfReports ShownBy
unfolding shown_after words_call go_call ledger_after ledger_call not_refused pick
reports_case c n r within still s kept before =
    record { words = before.words; go = before.go; held = before.held }

yes_case : OfYes ShownBy
unfolding shown_after words_call words_answered go_call says_no ledger_after ledger_call not_refused yes_to_go HeldIn
    pick
yes_case b held value accepts still s kept before =
    record {
      words =
          before.words
          ∙ sym (pick_no _ _ (ap (λ (t : Bool). s.go && not t) accepts ∙ and-false s.go));
      go = refl;
      held = before.held;
    }

-- "a no is code 05"
no_words : (go : Bool) (w : Words) (call : Call) → go ≡ true → says_no call ≡ true
    → words_of_lem (coded w.outcome 5) w.tertiary w.quintary ≡ words_answered go w call
unfolding words_answered
no_words go w call offers says = sym (pick_yes _ _ (ap₂ (λ (t u : Bool). t && u) offers says))

no_case : OfNo ShownBy
unfolding shown_after words_call go_call says_no ledger_after ledger_call not_refused no_to_go HeldIn pick
no_case b held call (byte_refused value refuses) still s kept before =
    record {
      words =
          ap (λ (o : Words). words_of_lem (with_code o.outcome 5) o.tertiary o.quintary) before.words
          ∙ ap (λ (o : Outcome). words_of_lem o s.words.tertiary s.words.quintary)
          (coded_said s.words.outcome 5)
          ∙ no_words s.go s.words (byte value) before.go (ap not refuses);
      go = refl;
      held = tt;
    }
no_case b held call SaysNo.link_broke still s kept before =
    record {
      words =
          ap (λ (o : Words). words_of_lem (with_code o.outcome 5) o.tertiary o.quintary) before.words
          ∙ ap (λ (o : Outcome). words_of_lem o s.words.tertiary s.words.quintary)
          (coded_said s.words.outcome 5)
          ∙ no_words s.go s.words broken before.go refl;
      go = refl;
      held = tt;
    }

-- the drive selected, as the ledger has it
pub current : (l : Ledger) (b : Body) (phase : Phase) → Kept l b phase
    → copy_report (current_drive b) ≡ told (l.tape l.selected)
current l b phase kept =
    kept.agrees.drive b.selected kept.agrees.low
    ∙ ap (λ (n : ℕ). told (l.tape n)) kept.agrees.selected

written_words :
    (w : Words) (drive : Drive) (t : Tape) (store : Store) (host : Host)
    → drive.density ≡ t.density
    → data_words w drive store host ≡ words_written w t store host
unfolding data_words runs_short bad_byte needed_bytes thrown_away held_count words_written outcome_written
written_words w drive t store host same =
    ap (λ (d : ℕ). words_written w (record { report = 0; track = 0; density = d; gap = 0; guard = false }) store host)
    same

written :
    (b : Body) (held : Store) (host : Host) (space check : List ℕ)
    → ShownBy (stated b (DataAwaited held))
    (exchanged (host_data host space check) (data_done b (current_drive b) held host space check))
unfolding data_done settle_data data_words order_move shown_after words_call go_call ledger_after ledger_call
    not_refused HeldIn pick
written b held host space check still s kept before =
    let same = current s.ledger b (DataAwaited held) kept in
    record {
      words =
          written_words (words_of b) (current_drive b) (s.ledger.tape s.ledger.selected) held host
          (ap (λ (x : Drive). x.density) same)
          ∙ ap₂ (λ (w : Words) (x : Store). words_written w (s.ledger.tape s.ledger.selected) x host)
          before.words before.held;
      go = refl;
      held = before.held;
    }

writes_case : OfData ShownBy
unfolding data_in
writes_case b held host space check =
    data_for_lem ShownBy refusals_case b held _ host space check (written b held host space check)

ended_leaves : (b : Body) (operation : Operation) (store : Store) → Leaves b (end_operation b operation store)
unfolding end_operation settle
ended_leaves b operation store =
    pick_by (Leaves b) (offers_end operation) (λ offers. refl) (λ none. completed_words b (asks_interrupt store))

module _ (b : Body) (operation : Operation) (held : Store) (r : Result) (space check : List ℕ)
    (good : result_refusal (current_drive b) operation held r (length check) ≡ 0) where
  abbrev pub body : Body
  body = with_after b (settle_result (words_of b) (current_drive b) operation held r (length space) check)

  -- by the store that ends
  pub by_order :
      (w : Words) (t : Tape) (store : Store) → asked_for store ≡ Operate operation
      → words_left w t (order_byte operation) (count_asked store)
      (final_left (order_byte operation) (count_asked store) t.report r)
      (motion_of (move_of operation) (final_left (order_byte operation) (count_asked store) t.report r))
      r (length space)
      ≡ words_ended w t store r (length space)
  unfolding words_ended
  by_order w t store asks =
      let count = count_asked store in
      ap
      (λ (n : ℕ). words_left w t (order_byte operation) count (final_left (order_byte operation) count t.report r) n r
      (length space))
      (sym (motion_said store operation asks (final_left (order_byte operation) count t.report r)))
      ∙ ap
      (λ (k : ℕ).
      words_left w t k count (final_left k count t.report r)
      (motion_made (operation_of store) store.first store.fourth (final_left k count t.report r)) r
      (length space))
      (sym (order_said store operation asks))

  pub result_words :
      (t : Tape)
      → (current_drive b).report ≡ t.report
      → (current_drive b).density ≡ t.density
      → words_of body
      ≡ words_left (words_of b) t (order_byte operation) (count_asked held)
      (final_left (order_byte operation) (count_asked held) t.report r)
      (motion_of (move_of operation) (final_left (order_byte operation) (count_asked held) t.report r)) r (length space)
  unfolding settle_result held_count
  result_words t reported dense =
      let drive = current_drive b in
      ended_words drive operation held r (words_of b) t
      (motion_of (move_of operation) (final_left (order_byte operation) (count_asked held) drive.report r))
      (length space) check good reported dense refl
      ∙ ap
      (λ (n : ℕ). words_left (words_of b) t (order_byte operation) (count_asked held)
      (final_left (order_byte operation) (count_asked held) n r)
      (motion_of (move_of operation) (final_left (order_byte operation) (count_asked held) n r)) r (length space))
      reported

  ended : ShownBy (stated b (ResultAwaited operation held))
      (exchanged (result r space check) (result_done b (current_drive b) operation held r space check))
  unfolding result_done shown_after words_call go_call ledger_after ledger_call not_refused InHand HeldIn pick
  ended still s kept before =
      let t = s.ledger.tape s.ledger.selected in
      let same = current s.ledger b (ResultAwaited operation held) kept in
      let free = (ending_rests body operation held).free in
      record {
        words =
            ended_leaves body operation held
            ∙ result_words t (ap (λ (x : Drive). x.report) same) (ap (λ (x : Drive). x.density) same)
            ∙ by_order (words_of b) t held (ap asked_for before.held ∙ kept.hand.0)
            ∙ ap₂ (λ (w : Words) (x : Store). words_ended w t x r (length space)) before.words before.held;
        go = sym (free_go _ free);
        held = free_held _ _ free;
      }

results_case : OfResults ShownBy
unfolding result_in
results_case b operation held r space check =
    result_for_lem ShownBy refusals_case b held _ operation r space check
    (λ good. ended b operation held r space check good)

resets_case : OfResets ShownBy
unfolding reset_state start_body no_outcome shown_after words_call go_call ledger_after ledger_call not_refused HeldIn
    pick
resets_case c still s kept before = record { words = refl; go = refl; held = tt }

-- ---- every call, and every list

showing : Kinds ShownBy
showing =
    record {
      refusals = refusals_case;
      link = link_case;
      stores = stores_case;
      handings = handings_case;
      reports = reports_case;
      yes = yes_case;
      no = no_case;
      writes = writes_case;
      results = results_case;
      resets = resets_case;
    }

-- a call of a state that shows what the list gives leaves one that does
pub step_shown :
    (c : Controller) (call : Call) (s : Status) → Kept s.ledger c.body c.phase → Shows s c.body c.phase
    → let x = exchanged call (step c call) in
    Kept (shown_after s c x).ledger (step c call).reply.controller.body (step c call).reply.controller.phase
    × Shows (shown_after s c x) (step c call).reply.controller.body (step c call).reply.controller.phase
unfolding shown_after
step_shown c call s kept before = (
  (by_step Keeps keeping c call s.ledger kept).kept,
  by_step ShownBy showing c call (link_still c call) s kept before,
)

shown_from_lem :
    (calls : List Call) (s : Status) (c : Controller) → Kept s.ledger c.body c.phase
    → Shows s c.body c.phase
    → words_of (after c (run c calls)).body ≡ (shown_from s c (run c calls)).words
unfolding run after shown_from
shown_from_lem [] s c kept before = before.words
shown_from_lem (call ∷ calls) s c kept before =
    let (later, shows) = step_shown c call s kept before in
    shown_from_lem calls _ (step c call).reply.controller later shows

pub fresh_shown : Shows status_fresh fresh.body fresh.phase
unfolding fresh start_body no_outcome HeldIn
fresh_shown = record { words = refl; go = refl; held = tt }

pub status_is_kept : (calls : List Call) → StatusIsALedger (run fresh calls)
status_is_kept calls = shown_from_lem calls status_fresh fresh fresh_kept fresh_shown
