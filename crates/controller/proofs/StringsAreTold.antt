-- After every list of calls changed and enable are what the list gives them (`flags_are_kept`), and every string that
-- goes out is the one that the list asks for at that call, and none else does (`strings_are_told`, both over the
-- definitions).
-- Assumes nothing.
pub mod Sends
pub mod Stores
use mathlib.Core.Path.{◌≡◌, refl, sym, ap, subst, ◌∙◌}
use Prim.Native.Nat.{ℕ, ◌≤◌, ◌/◌, ◌%◌}
use native.Mathlib.Omega.{arith}
use mathlib.Core.Bool.{true, false, not}
use mathlib.Core.List.{List, [], ◌∷◌, ◌++◌}
use lib.Dec.{leb, eqb}
use lib.ListN.{length}
use borrow.Author.Tests.{leb-false}
use Rattle.common.specs.Pick.{pick}
use Rattle.common.proofs.PickLaws.{pick_by, pick_yes, pick_no}
use Rattle.status.specs.Drives.{drive_of, with_gap, with_report, fresh_drives}
use Rattle.status.proofs.DriveLaws.{by_four}
use Rattle.operations.specs.declared.operation.Operation.TheVariants.{Write}
use Rattle.operations.specs.declared.store.Store.{Store}
use Rattle.operations.specs.Store.{asks_interrupt, asked_for}
use Rattle.transfers.specs.declared.after.Words.{Words}
use Rattle.transfers.specs.declared.after.After.{After}
use Rattle.transfers.specs.Data.{Host, data_refusal}
use Rattle.transfers.specs.Results.{Result, result_refusal, settle_result}
use Rattle.link.specs.declared.state.Phase.{Phase}
use Rattle.link.specs.declared.state.Phase.TheVariants.{Collecting, AckOffered, Sending, GoOffered, DataAwaited}
use Rattle.link.specs.declared.state.Phase.TheVariants.{ResultAwaited, EndOffered}
use Rattle.link.specs.declared.state.Body.{Body}
use Rattle.link.specs.declared.state.Action.{Action}
use Rattle.link.specs.declared.state.Action.TheVariants.{Nothing}
use Rattle.link.specs.State.{Transition}
use Rattle.link.specs.Bytes.{load_lead}
use Rattle.link.specs.State.{store_of, offered, current_drive, start_body, idle, reset_state}
use Rattle.link.specs.Completion.{complete}
use Rattle.link.specs.Link.{give_up, collect_byte, answer_to_send}
use Rattle.link.specs.Loads.{carry_out_load}
use Rattle.link.specs.Damaged.{is_sound}
use Rattle.link.proofs.PhaseLaws.{by_collecting, by_ack_offered, by_data_awaited, by_result_awaited}
use Rattle.controller.specs.declared.controller.Controller.{Controller}
use Rattle.controller.specs.Told.{Reply}
use Rattle.controller.specs.Controller.{fresh, carried, refused}
use Rattle.controller.specs.Stores.{end_operation, order_move, carry_out, no_to_go, yes_to_go, answer_to_go}
use Rattle.controller.specs.Records.{Answer, words_of, with_after, data_done, result_done}
use Rattle.controller.specs.Machine.{byte_in, broken_in, tick_in, hand_in, byte_call, broken_call, tick_call, hand_call}
use Rattle.controller.specs.Machine.{carry_out_string, taken_in, taken_call, report_noted, report_call, reset_call}
use Rattle.controller.specs.Machine.{data_for, data_in, data_call, result_for, result_in, result_call, Call, Exchange}
use Rattle.controller.specs.Machine.{step, run}
use Rattle.controller.specs.Machine.Call.{byte, taken, broken, report, host_data, result, tick, reset, hand}
use Rattle.controller.specs.Lists.{not_refused, holds_store, after}
use Rattle.controller.specs.Ledger.{Ledger, ledger, ledger_from}
use Rattle.controller.specs.Shown.{Status, shown_after, shown_from, status_fresh, shown}
use Rattle.controller.specs.Received.{ReceivedFor, ReceivedFrom}
use Rattle.controller.specs.Sent.{Awaited, Wire, quiet, wire_fresh, asks, replies, byte_comes, breaks}
use Rattle.controller.specs.Sent.{resulted, load_address, wire_call, wire_after, came_from, followed_by, wire_next}
use Rattle.controller.specs.Sent.{wire_from, FlagsAreALedger, strings_of, AllCheck, ToldFrom, StringsAreTold}
use Rattle.controller.specs.Sent.Awaited.{end}
use Rattle.controller.proofs.Steps.{stated, exchanged, turn_of}
use Rattle.controller.proofs.DrivesAreALedger.{InHand, Kept, pick_pair, kept_at, fresh_kept}
use Rattle.controller.proofs.StatusIsALedger.{Shows, step_shown, fresh_shown}
use Rattle.controller.proofs.StatusIsALedger.Beginning.{HeldIn}
use Rattle.controller.proofs.StringsAreTold.Sends.{Flags, awaited_in, HeldChecks, Agreed, Told, copy_kept}
use Rattle.controller.proofs.StringsAreTold.Sends.{Tells, idle_told, completed_told, given_up_told}
use Rattle.controller.proofs.StringsAreTold.Sends.{answered_told, tick_told, loaded_told, byte_told}
use Rattle.controller.proofs.StringsAreTold.Stores.{set_flags, reset_told, carried_told, result_told, end_said}
use Rattle.controller.proofs.ReceivedStrings.{carried_out_as_received}

-- ---- each call

-- by what the list told before it (f, the bytes that came, and the ledger), and the ledger and the words after it
module _ (f : Wire) (bytes : List ℕ) (l later : Ledger) (w : Words) where
  record Before (b : Body) (phase : Phase) : Type 0 where
    pub flags : Flags f b
    pub low : b.selected ≤ 3
    pub waits : f.awaited ≡ awaited_in phase
    pub hand : InHand l phase
    pub store : HeldIn l.store phase
    pub held : HeldChecks f.awaited

  abbrev called : Controller → Action → Call → Wire
  called = wire_call f bytes l.store later w

  abbrev Goes : Controller → Call → Reply → Type 0
  Goes c call r =
      Before c.body c.phase
      → (eqb r.refusal 0 ≡ true → ReceivedFor bytes c call)
      → Agreed later w r.controller.body
      → Told (pick (eqb r.refusal 0) (called c r.action call) (quiet f f.awaited)) (turn_of r)

  refuses : (c : Controller) (call : Call) (number : ℕ) → eqb number 0 ≡ false → Goes c call (refused number c)
  unfolding strings_of HeldChecks AllCheck
  refuses c call number some before received agreed =
      subst (λ (g : Wire). Told g (turn_of (refused number c))) (sym (pick_no _ _ some))
      (record { flags = before.flags; awaited = before.waits; sends = refl; checks = tt; held = before.held })

  goes : (c : Controller) (call : Call) (t : Transition)
      → (Before c.body c.phase → ReceivedFor bytes c call → Tells later w (called c t.action call) t)
      → Goes c call (carried t)
  unfolding pick
  goes c call t tells before received = tells before (received refl)

  sound : (c : Controller) (call : Call) (r : Reply) → Goes c call r
      → Goes c call (pick (is_sound c.body c.phase) r (refused 1 c))
  sound c call r shown = pick_by (Goes c call) (is_sound c.body c.phase) (λ sane. shown)
      (λ hurt. refuses c call 1 refl)

  module _ (b : Body) where
    -- a byte and a broken link, by what waits for an answer
    byte_in_lem : (value : ℕ) (phase : Phase)
        → Goes (stated b phase) (byte value) (byte_in (stated b phase) b value phase)
    unfolding byte_in answer_to_go yes_to_go no_to_go wire_call byte_comes awaited_in strings_of asks_interrupt HeldIn
        HeldChecks AllCheck
    byte_in_lem value (Collecting s) =
        goes (stated b (Collecting s)) (byte value) (collect_byte b s value)
        (λ before received.
        subst
        (λ (o : Awaited). Tells later w
        (byte_comes f l.store later w value (collect_byte b s value).action o) (collect_byte b s value))
        (sym before.waits) (byte_told later w f b before.flags s value))
    byte_in_lem value (AckOffered s) =
        goes (stated b (AckOffered s)) (byte value) (idle b Nothing)
        (λ before received.
        subst
        (λ (o : Awaited). Tells later w
        (byte_comes f l.store later w value (idle b Nothing).action o) (idle b Nothing))
        (sym before.waits) (idle_told later w f b Nothing before.flags refl))
    byte_in_lem value (Sending s) =
        goes (stated b (Sending s)) (byte value) (answer_to_send b value s)
        (λ before received.
        subst
        (λ (o : Awaited). Tells later w
        (byte_comes f l.store later w value (answer_to_send b value s).action o) (answer_to_send b value s))
        (sym before.waits) (answered_told later w f b value s before.flags
        (subst HeldChecks before.waits before.held)))
    byte_in_lem value (GoOffered held) =
        goes (stated b (GoOffered held)) (byte value) (answer_to_go b value held)
        (λ before received.
        subst
        (λ (o : Awaited). Tells later w
        (byte_comes f l.store later w value (answer_to_go b value held).action o) (answer_to_go b value held))
        (sym before.waits)
        (pick_pair (Tells later w) (eqb value 0x06)
        (λ yes agreed. record { flags = before.flags; awaited = refl; sends = refl; checks = tt; held = tt })
        (λ no agreed.
        record {
          flags = before.flags;
          awaited = ap (λ (store : Store). end (asks store)) (sym before.store);
          sends = refl;
          checks = tt;
          held = tt;
        })))
    byte_in_lem value (DataAwaited held) = refuses (stated b (DataAwaited held)) (byte value) 2 refl
    byte_in_lem value (ResultAwaited operation held) =
        refuses (stated b (ResultAwaited operation held)) (byte value) 2 refl
    byte_in_lem value (EndOffered asked) =
        goes (stated b (EndOffered asked)) (byte value) (complete b asked)
        (λ before received.
        subst
        (λ (o : Awaited). Tells later w
        (byte_comes f l.store later w value (complete b asked).action o) (complete b asked))
        (sym before.waits) (completed_told later w f b asked before.flags))

    broken_in_lem : (phase : Phase) → Goes (stated b phase) broken (broken_in (stated b phase) b phase)
    unfolding broken_in no_to_go wire_call breaks awaited_in strings_of asks_interrupt HeldIn HeldChecks AllCheck
    broken_in_lem (Collecting s) =
        goes (stated b (Collecting s)) broken (idle b Nothing)
        (λ before received.
        subst (λ (o : Awaited). Tells later w (breaks f l.store later w o) (idle b Nothing))
        (sym before.waits) (idle_told later w f b Nothing before.flags refl))
    broken_in_lem (AckOffered s) =
        goes (stated b (AckOffered s)) broken (idle b Nothing)
        (λ before received.
        subst (λ (o : Awaited). Tells later w (breaks f l.store later w o) (idle b Nothing))
        (sym before.waits) (idle_told later w f b Nothing before.flags refl))
    broken_in_lem (Sending s) =
        goes (stated b (Sending s)) broken (give_up b s.kind)
        (λ before received.
        subst (λ (o : Awaited). Tells later w (breaks f l.store later w o) (give_up b s.kind))
        (sym before.waits) (given_up_told later w f b s.kind before.flags))
    broken_in_lem (GoOffered held) =
        goes (stated b (GoOffered held)) broken (no_to_go b held)
        (λ before received.
        subst (λ (o : Awaited). Tells later w (breaks f l.store later w o) (no_to_go b held))
        (sym before.waits)
        (λ agreed.
        record {
          flags = before.flags;
          awaited = ap (λ (store : Store). end (asks store)) (sym before.store);
          sends = refl;
          checks = tt;
          held = tt;
        }))
    broken_in_lem (DataAwaited held) = refuses (stated b (DataAwaited held)) broken 2 refl
    broken_in_lem (ResultAwaited operation held) = refuses (stated b (ResultAwaited operation held)) broken 2 refl
    broken_in_lem (EndOffered asked) =
        goes (stated b (EndOffered asked)) broken (complete b asked)
        (λ before received.
        subst (λ (o : Awaited). Tells later w (breaks f l.store later w o) (complete b asked))
        (sym before.waits) (completed_told later w f b asked before.flags))

    abbrev Going : Call → Phase → Reply → Type 0
    Going call phase r = Goes (stated b phase) call r

    tick_in_lem : (phase : Phase) → Going tick phase (tick_in (stated b phase) b phase)
    unfolding tick_in wire_call
    tick_in_lem =
        by_collecting (Going tick) _ (λ phase. refuses (stated b phase) tick 4 refl) _
        (λ s. pick_by (Going tick (Collecting s)) (eqb s.length 0)
        (λ none. goes (stated b (Collecting s)) tick _
        (λ before received. tick_told later w f b s before.flags))
        (λ part. refuses (stated b (Collecting s)) tick 4 refl))

    hand_in_lem : (store : Store) (phase : Phase) → Going (hand store) phase (hand_in (stated b phase) b store phase)
    unfolding hand_in wire_call
    hand_in_lem store =
        by_collecting (Going (hand store)) _ (λ phase. refuses (stated b phase) (hand store) 4 refl) _
        (λ s. pick_by (Going (hand store) (Collecting s)) (eqb s.length 0)
        (λ none. goes (stated b (Collecting s)) (hand store) _
        (λ before received. carried_told later w f b store before.flags before.low))
        (λ part. refuses (stated b (Collecting s)) (hand store) 4 refl))

    taken_in_lem : (phase : Phase) → Going taken phase (taken_in (stated b phase) b phase)
    unfolding taken_in carry_out_string wire_call holds_store offered ReceivedFor load_address
    taken_in_lem =
        by_ack_offered (Going taken) _ (λ phase. refuses (stated b phase) taken 2 refl) _
        (λ s. pick_by (λ (t : Transition). Going taken (AckOffered s) (carried t)) (eqb s.c0 load_lead)
        (λ load. goes (stated b (AckOffered s)) taken (carry_out_load b s.c1)
        (λ before received.
        subst (λ (g : Wire). Tells later w g (carry_out_load b s.c1))
        (ap (λ (n : ℕ). replies f later w (n / 16 % 8)) (sym (ap load_address (received.load (ap not load)).came))
        ∙ sym (pick_no _ _ (ap not load)))
        (loaded_told later w f b s.c1 before.flags)))
        (λ other. goes (stated b (AckOffered s)) taken (carry_out b (store_of s))
        (λ before received.
        subst (λ (g : Wire). Tells later w g (carry_out b (store_of s))) (sym (pick_yes _ _ (ap not other)))
        (carried_told later w f b (store_of s) before.flags before.low))))

    module _ (space check : List ℕ) where
      data_in_lem : (host : Host) (phase : Phase)
          → Going (host_data host space check) phase (data_in (stated b phase) b host space check phase).reply
      unfolding data_in data_for data_done order_move wire_call awaited_in strings_of HeldChecks AllCheck
      data_in_lem host =
          by_data_awaited (λ (phase : Phase) (a : Answer). Going (host_data host space check) phase a.reply) _
          (λ phase. refuses (stated b phase) (host_data host space check) 3 refl) _
          (λ held.
          let refusal : ℕ =
          data_refusal (current_drive b) held (length host.bytes) host.place (length space) (length check) in
          pick_by (λ (a : Answer). Going (host_data host space check) (DataAwaited held) a.reply) (eqb refusal 0)
          (λ good. goes (stated b (DataAwaited held)) (host_data host space check) (order_move _ Write held)
          (λ before received agreed.
          record {
            flags = before.flags;
            awaited = before.waits;
            sends = refl;
            checks = tt;
            held = before.held;
          }))
          (λ some. refuses (stated b (DataAwaited held)) (host_data host space check) refusal some))

      result_in_lem : (r : Result) (phase : Phase)
          → Going (result r space check) phase (result_in (stated b phase) b r space check phase).reply
      unfolding result_in result_for result_done wire_call InHand HeldIn
      result_in_lem r =
          by_result_awaited (λ (phase : Phase) (a : Answer). Going (result r space check) phase a.reply) _
          (λ phase. refuses (stated b phase) (result r space check) 3 refl) _
          (λ operation held.
          let after : After =
          settle_result (words_of b) (current_drive b) operation held r (length space) check in
          let refusal : ℕ = result_refusal (current_drive b) operation held r (length check) in
          pick_by (λ (a : Answer). Going (result r space check) (ResultAwaited operation held) a.reply)
          (eqb refusal 0)
          (λ good. goes (stated b (ResultAwaited operation held)) (result r space check)
          (end_operation (with_after b after) operation held)
          (λ before received.
          let same : held ≡ l.store = before.store in
          subst
          (λ (store : Store). Tells later w (resulted f store later w)
          (end_operation (with_after b after) operation held))
          same
          (result_told later w f (with_after b after) operation held
          (set_flags f b (with_gap (current_drive b) after.gap) before.flags before.low refl)
          (end_said held operation (ap (λ (store : Store). asked_for store) same ∙ before.hand.0)))))
          (λ some. refuses (stated b (ResultAwaited operation held)) (result r space check) refusal some))

  reported : (c : Controller) (n r : ℕ) → n ≤ 3 → Goes c (report n r) (carried (report_noted c n r))
  unfolding wire_call strings_of with_report HeldChecks AllCheck
  reported c n r within =
      goes c (report n r) (report_noted c n r)
      (λ before received agreed.
      record {
        flags =
            record {
              changed = before.flags.changed;
              enable = before.flags.enable;
              copy =
                  λ d low. copy_kept c.body.drives n _ within refl d low ∙ before.flags.copy d low;
            };
        awaited = before.waits;
        sends = refl;
        checks = tt;
        held = before.held;
      })

  each : (c : Controller) (call : Call) → Goes c call (step c call).reply
  unfolding step byte_call broken_call tick_call hand_call taken_call report_call reset_call data_call result_call
      wire_call
  each c (byte value) = sound c (byte value) _ (byte_in_lem c.body value c.phase)
  each c broken = sound c broken _ (broken_in_lem c.body c.phase)
  each c tick = sound c tick _ (tick_in_lem c.body c.phase)
  each c (hand store) = sound c (hand store) _ (hand_in_lem c.body store c.phase)
  each c taken = sound c taken _ (taken_in_lem c.body c.phase)
  each c reset =
      sound c reset _
      (goes c reset (reset_state c.body)
      (λ before received. reset_told later w c.body))
  each c (report n r) =
      sound c (report n r) _
      (pick_by (Goes c (report n r)) (leb 4 n) (λ high. refuses c (report n r) 5 refl)
      (λ few. let below = leb-false 4 n few in reported c n r (omega arith)))
  each c (host_data host space check) =
      pick_by (λ (a : Answer). Goes c (host_data host space check) a.reply) (is_sound c.body c.phase)
      (λ sane. data_in_lem c.body space check host c.phase) (λ hurt. refuses c (host_data host space check) 1 refl)
  each c (result r space check) =
      pick_by (λ (a : Answer). Goes c (result r space check) a.reply) (is_sound c.body c.phase)
      (λ sane. result_in_lem c.body space check r c.phase) (λ hurt. refuses c (result r space check) 1 refl)

-- ---- every list

-- one call more
run_followed : (c : Controller) (calls : List Call) (call : Call)
    → run c (calls ++ (call ∷ []))
    ≡ followed_by (run c calls) (exchanged call (step (after c (run c calls)) call))
unfolding run after
run_followed c [] call = refl
run_followed c (first ∷ calls) call =
    ap (λ (xs : List Exchange). exchanged first (step c first) ∷ xs)
    (run_followed (step c first).reply.controller calls call)

after_followed : (c : Controller) (before : List Exchange) (x : Exchange)
    → after c (followed_by before x) ≡ x.answer.reply.controller
unfolding after
after_followed c [] x = refl
after_followed c (first ∷ before) x = after_followed first.answer.reply.controller before x

received_last : (calls : List Call) (call : Call) (bytes : List ℕ) (c : Controller)
    → ReceivedFrom bytes c (run c (calls ++ (call ∷ [])))
    → not_refused (exchanged call (step (after c (run c calls)) call)) ≡ true
    → ReceivedFor (came_from bytes (run c calls)) (after c (run c calls)) call
unfolding run after came_from ReceivedFrom
received_last [] call bytes c (here, none) = here
received_last (first ∷ calls) call bytes c (here, more) =
    received_last calls call _ (step c first).reply.controller more

-- a list that the machine makes: what the ledger, the words and the strings from the host are then
record Reached (before : List Exchange) : Type 0 where
  pub calls : List Call
  pub made : before ≡ run fresh calls

reached_followed : (before : List Exchange) (call : Call) → Reached before
    → Reached (followed_by before (exchanged call (step (after fresh before) call)))
reached_followed before call reached =
    record {
      calls = reached.calls ++ (call ∷ []);
      made =
          ap (λ (xs : List Exchange). followed_by xs (exchanged call (step (after fresh xs) call))) reached.made
          ∙ sym (run_followed fresh reached.calls call);
    }

reached_kept : (before : List Exchange) → Reached before
    → Kept (ledger before) (after fresh before).body (after fresh before).phase
reached_kept before reached =
    subst (λ (xs : List Exchange). Kept (ledger xs) (after fresh xs).body (after fresh xs).phase)
    (sym reached.made) (kept_at reached.calls)

-- what the list shows, and the store in hand, by the status words' own steps
shows_from :
    (calls : List Call) (s : Status) (c : Controller) → Kept s.ledger c.body c.phase
    → Shows s c.body c.phase
    → let xs = run c calls in (words_of (after c xs).body ≡ (shown_from s c xs).words)
    × HeldIn (ledger_from s.ledger c xs).store (after c xs).phase
unfolding run after shown_from shown_after ledger_from
shows_from [] s c kept shows = (shows.words, shows.held)
shows_from (call ∷ calls) s c kept shows =
    let (later, next) = step_shown c call s kept shows in
    shows_from calls (shown_after s c (exchanged call (step c call))) (step c call).reply.controller later next

shows_at : (calls : List Call)
    → let xs = run fresh calls in (words_of (after fresh xs).body ≡ shown xs)
    × HeldIn (ledger xs).store (after fresh xs).phase
shows_at calls = shows_from calls status_fresh fresh fresh_kept fresh_shown

reached_shows : (before : List Exchange) → Reached before
    → (words_of (after fresh before).body ≡ shown before) × HeldIn (ledger before).store (after fresh before).phase
reached_shows before reached =
    subst
    (λ (xs : List Exchange). (words_of (after fresh xs).body ≡ shown xs)
    × HeldIn (ledger xs).store (after fresh xs).phase)
    (sym reached.made) (shows_at reached.calls)

reached_received : (before : List Exchange) (call : Call) → Reached before
    → not_refused (exchanged call (step (after fresh before) call)) ≡ true
    → ReceivedFor (came_from [] before) (after fresh before) call
reached_received before call reached =
    subst
    (λ (xs : List Exchange). not_refused (exchanged call (step (after fresh xs) call)) ≡ true
    → ReceivedFor (came_from [] xs) (after fresh xs) call)
    (sym reached.made)
    (received_last reached.calls call [] fresh (carried_out_as_received (reached.calls ++ (call ∷ []))))

record Follows (f : Wire) (before : List Exchange) : Type 0 where
  pub reached : Reached before
  pub flags : Flags f (after fresh before).body
  pub waits : f.awaited ≡ awaited_in (after fresh before).phase
  pub held : HeldChecks f.awaited

module _ (f : Wire) (before : List Exchange) (call : Call) (follows : Follows f before) where
  abbrev next : Exchange
  next = exchanged call (step (after fresh before) call)

  reached_next : Reached (followed_by before next)
  reached_next = reached_followed before call follows.reached

  next_told : Told (wire_next f before next) (turn_of next.answer.reply)
  unfolding wire_next wire_after not_refused
  next_told =
      let kept = reached_kept before follows.reached in
      each f (came_from [] before) (ledger before) (ledger (followed_by before next)) (shown (followed_by before next))
      (after fresh before) call
      (record {
        flags = follows.flags;
        low = kept.agrees.low;
        waits = follows.waits;
        hand = kept.hand;
        store = (reached_shows before follows.reached).1;
        held = follows.held;
      })
      (reached_received before call follows.reached)
      (subst (λ (c : Controller). Agreed (ledger (followed_by before next)) (shown (followed_by before next)) c.body)
      (after_followed fresh before next)
      (record {
        drives = (reached_kept (followed_by before next) reached_next).agrees;
        words = (reached_shows (followed_by before next) reached_next).0;
      }))

  next_follows : Follows (wire_next f before next) (followed_by before next)
  next_follows =
      record {
        reached = reached_next;
        flags =
            subst (λ (c : Controller). Flags (wire_next f before next) c.body)
            (sym (after_followed fresh before next)) next_told.flags;
        waits =
            subst (λ (c : Controller). (wire_next f before next).awaited ≡ awaited_in c.phase)
            (sym (after_followed fresh before next)) next_told.awaited;
        held = next_told.held;
      }

told_from : (calls : List Call) (f : Wire) (before : List Exchange) → Follows f before
    → ToldFrom f before (run (after fresh before) calls)
unfolding run ToldFrom
told_from [] f before follows = tt
told_from (call ∷ calls) f before follows =
    let x = exchanged call (step (after fresh before) call) in
    let told = next_told f before call follows in (
      (told.sends, subst AllCheck (sym told.sends) told.checks),
      subst (λ (c : Controller). ToldFrom (wire_next f before x) (followed_by before x) (run c calls))
          (after_followed fresh before x)
          (told_from calls (wire_next f before x) (followed_by before x) (next_follows f before call follows)),
    )

flags_from : (calls : List Call) (f : Wire) (before : List Exchange) → Follows f before
    → let xs = run (after fresh before) calls in Flags (wire_from f before xs) (after (after fresh before) xs).body
unfolding run after wire_from
flags_from [] f before follows = follows.flags
flags_from (call ∷ calls) f before follows =
    let x = exchanged call (step (after fresh before) call) in
    subst
    (λ (c : Controller). Flags (wire_from (wire_next f before x) (followed_by before x) (run c calls))
    (after c (run c calls)).body)
    (after_followed fresh before x)
    (flags_from calls (wire_next f before x) (followed_by before x) (next_follows f before call follows))

fresh_follows : Follows wire_fresh []
unfolding fresh start_body fresh_drives after run drive_of awaited_in pick HeldChecks AllCheck
fresh_follows =
    record {
      reached = record { calls = []; made = refl };
      flags =
          record {
            changed = refl;
            enable = refl;
            copy = by_four (λ d. (drive_of fresh_drives d).reviewed ≡ 4) refl refl refl refl;
          };
      waits = refl;
      held = tt;
    }

pub flags_are_kept : (calls : List Call) → FlagsAreALedger (run fresh calls)
unfolding after
flags_are_kept calls =
    let flags = flags_from calls wire_fresh [] fresh_follows in
    record { changed = flags.changed; enable = flags.enable }

pub strings_are_told : (calls : List Call) → StringsAreTold (run fresh calls)
unfolding after
strings_are_told calls = told_from calls wire_fresh [] fresh_follows
