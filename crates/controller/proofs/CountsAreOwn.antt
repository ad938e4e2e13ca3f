-- Wherever bit 22 of primary is set, in the state or in what is sent, the count is that of the record that the last
-- store carried out itself passed or wrote, or that it supplied (`counts_are_own`, over the definitions).
-- Assumes nothing.
use mathlib.Core.Path.{◌≡◌, refl, sym, ap, ap₂, subst, subst₂, ◌∙◌}
use Prim.Native.Nat.{ℕ}
use mathlib.Core.Bool.{Bool, true, false, not, ◌&&◌, ◌||◌, false≢true, and-false}
use mathlib.Core.List.{List, [], ◌∷◌}
use lib.Dec.{eqb}
use lib.ListN.{length}
use borrow.Author.Tests.{eqb-true, eq-eqb, not-true, not-false}
use Rattle.common.specs.Pick.{pick}
use Rattle.common.proofs.PickLaws.{by_test, both_hold, pick_by, pick_yes, pick_no}
use Rattle.status.specs.declared.drives.Drive.{Drive}
use Rattle.status.specs.Drives.{with_track, with_density, with_guard}
use Rattle.status.specs.Words.{no_outcome}
use Rattle.operations.specs.declared.operation.Operation.{Operation}
use Rattle.operations.specs.declared.operation.Operation.TheVariants.{SuppliedCount, Write}
use Rattle.records.specs.Count.{unrotated, count_of}
use Rattle.status.specs.Words.{secondary_word}
use Rattle.link.specs.Frames.{string_of}
use Rattle.link.specs.State.{Handed}
use Rattle.std.specs.Prelude.{None, Some}
use Rattle.operations.specs.declared.decode.Decoded.{Decoded}
use Rattle.operations.specs.declared.decode.Decoded.TheVariants.{Reset, Code, Track, Enable, Guard, Density, Operate}
use Rattle.operations.specs.declared.store.Store.{Store}
use Rattle.operations.specs.Operation.{number_of, same_operation, supplies_count}
use Rattle.operations.specs.Codes.{illegal_drive, illegal_motion}
use Rattle.operations.specs.Store.{names_unknown, asked_for, asked_in, held_count, supplied_count}
use Rattle.operations.specs.Course.{course_of}
use Rattle.operations.proofs.DensityLaws.{asked_operation}
use Rattle.link.specs.declared.state.Phase.{Phase}
use Rattle.link.specs.declared.state.Phase.TheVariants.{DataAwaited, ResultAwaited}
use Rattle.link.specs.declared.state.Body.{Body}
use Rattle.link.specs.declared.state.Action.{Action}
use Rattle.link.specs.declared.state.Action.TheVariants.{Nothing, Byte, Text, Order}
use Rattle.link.specs.State.{Transition}
use Rattle.link.specs.State.{when_in_hand, store_of, offered, start_body, with_flags, with_current_drive, current_drive}
use Rattle.link.specs.State.{reset_state}
use Rattle.transfers.specs.Results.{Verdict}
use Rattle.transfers.specs.Data.{Host, data_words, settle_data}
use Rattle.transfers.specs.Results.{Result, result_refusal, is_gone, findings_read, code_reported, record_count}
use Rattle.transfers.specs.Results.{used_count}
use Rattle.transfers.specs.Results.{verdict_of, wrote_well, result_count, result_bits, with_retry, result_words}
use Rattle.transfers.specs.Results.{settle_result}
use Rattle.transfers.proofs.ResultLaws.{supplied_none, final_zero, reported_zero}
use Rattle.controller.specs.OnTape.{count_said}
use Rattle.controller.specs.declared.controller.Controller.{Controller}
use Rattle.controller.specs.Controller.{fresh, refused}
use Rattle.controller.specs.Stores.{end_operation, order_move, begin, follow, clear_outcome, carry_out_on, carry_out}
use Rattle.controller.specs.Stores.{yes_to_go}
use Rattle.controller.specs.Records.{words_of, with_after, data_done, result_done}
use Rattle.controller.specs.Machine.{data_in, result_in, Call, Exchange, step, run}
use Rattle.controller.specs.Machine.Call.{host_data, result}
use Rattle.controller.specs.Lists.{not_refused, holds_store, held_store}
use Rattle.controller.specs.Ledger.{Ledger, ledger_fresh, ledger_carried, ledger_ended, ledger_call, ledger_after}
use Rattle.controller.specs.Ledger.{count_asked}
use Rattle.controller.specs.Shown.{order_of_store, tape_gone}
use Rattle.controller.specs.Counts.{OwnRecord, supplied_by, passed_by, record_after, own_record, Sends, ValidFrom}
use Rattle.controller.specs.Counts.{CountsAreOwn}
use Rattle.controller.specs.Counts.OwnRecord.{no_record, record_of}
use Rattle.controller.proofs.Courses.{decoded, by_test_of, by_beginning}
use Rattle.controller.proofs.DrivesAreALedger.{Kept as KeptDrives, Keeps as KeepsDrives, keeping, fresh_kept}
use Rattle.controller.proofs.StatusIsALedger.Numbers.{numbered}
use Rattle.controller.proofs.StatusIsALedger.Ending.{gone_said}
use Rattle.controller.proofs.StatusIsALedger.Beginning.{order_said}
use Rattle.controller.proofs.StatusIsALedger.{carried_store, current}
use Rattle.controller.proofs.Steps.Resting.{by_free, Free, Rests, ended_rests, settled_rests, go_refused_rests}
use Rattle.controller.proofs.Steps.Resting.{ending_rests}
use Rattle.controller.proofs.Steps.Strings.{HeldUpToDate, SentUpToDate, StringsUpToDate, ended_strings}
use Rattle.controller.proofs.Steps.Strings.{settled_strings, go_refused_strings, ending_strings}
use Rattle.controller.proofs.Steps.LinkCall.{byte_came, ticked, load_taken}
use Rattle.controller.proofs.Steps.SaysNo.{byte_refused}
use Rattle.controller.proofs.Steps.{stated, exchanged, turn_of, LinkCall, SaysNo, OfRefusals, OfLink, OfStores}
use Rattle.controller.proofs.Steps.{OfHandings, OfNo, OfData, OfResults, Kinds, data_for_lem, result_for_lem, by_step}

-- ---- what is kept from call to call

-- what is in hand is the last store's, and that has marked no count yet
record Unmarked (last : Store) (counted : Bool) (operation : Operation) (store : Store) : Type 0 where
  pub same : store ≡ last
  pub asks : asked_for last ≡ Operate operation
  pub none : counted ≡ false

unfoldable InHand : Store → Bool → Phase → Type 0
InHand last counted =
    when_in_hand (Unmarked last counted Write) (Unmarked last counted Write) (Unmarked last counted) Unit

free_hand : (last : Store) (counted : Bool) (phase : Phase) → Free phase → InHand last counted phase
unfolding InHand
free_hand last counted = by_free (InHand last counted) (λ s. tt) (λ s. tt) (λ s. tt) (λ interrupt. tt)

record Kept (last : Store) (own : OwnRecord) (b : Body) (phase : Phase) : Type 0 where
  pub hand : InHand last b.outcome.counted phase
  pub valid : b.outcome.counted ≡ true → own ≡ record_of b.outcome.result.count
  pub holds : HeldUpToDate b.outcome.counted b.outcome.result.count phase

record Goes (last : Store) (own : OwnRecord) (t : Transition) : Type 0 where
  pub kept : Kept last own t.body t.phase
  pub says : SentUpToDate t.body.outcome.counted t.body.outcome.result.count t.action

-- what is claimed of a call
abbrev Keeps : Controller → Exchange → Type 0
Keeps c x =
    (l : Ledger) (own : OwnRecord)
    → KeptDrives l c.body c.phase
    → Kept l.store own c.body c.phase
    → Goes (ledger_after l c x).store (own_record l own c x) (turn_of x.answer.reply)

rests_keep :
    (last : Store) (own : OwnRecord) (b : Body) (t : Transition)
    → Rests b t
    → StringsUpToDate t
    → (b.outcome.counted ≡ true → own ≡ record_of b.outcome.result.count)
    → Goes last own t
rests_keep last own b t rests strings valid =
    record {
      kept =
          record {
            hand = free_hand last _ t.phase rests.free;
            valid = λ set. valid (sym rests.same.counted ∙ set) ∙ ap record_of (sym rests.same.secondary);
            holds = strings.holds;
          };
      says = strings.says;
    }

-- ---- calls that carry out no store

refusals_case : OfRefusals Keeps
unfolding ledger_after not_refused own_record SentUpToDate
refusals_case c call number space check some at_space at_check l own drives before =
    subst₂ (λ (store : Store) (later : OwnRecord). Goes store later (turn_of (refused number c)))
    (ap (λ (x : Ledger). x.store) (sym (pick_no (ledger_call l c None call) l some)))
    (sym (pick_no (record_after l own c call) own some))
    (record { kept = record { hand = before.hand; valid = before.valid; holds = before.holds }; says = tt })

link_case : OfLink Keeps
unfolding ledger_after ledger_call not_refused holds_store own_record record_after pick
link_case c call t (byte_came value) free rests strings none l own drives before =
    rests_keep l.store own c.body t rests (strings before.holds) before.valid
link_case c call t LinkCall.link_broke free rests strings none l own drives before =
    rests_keep l.store own c.body t rests (strings before.holds) before.valid
link_case c call t ticked free rests strings none l own drives before =
    rests_keep l.store own c.body t rests (strings before.holds) before.valid
link_case c call t (load_taken load) free rests strings none l own drives before =
    subst₂ (λ (store : Store) (later : OwnRecord). Goes store later t)
    (ap (λ (x : Ledger). x.store) (sym (pick_no (ledger_carried l (held_store c)) l (ap not load))))
    (sym (pick_no no_record own (ap not load)))
    (rests_keep l.store own c.body t rests (strings before.holds) before.valid)

no_case : OfNo Keeps
unfolding ledger_after ledger_call not_refused own_record record_after pick
no_case b held call (byte_refused value refuses) l own drives before =
    rests_keep l.store own b _ (go_refused_rests b held) (go_refused_strings b held) before.valid
no_case b held call SaysNo.link_broke l own drives before =
    rests_keep l.store own b _ (go_refused_rests b held) (go_refused_strings b held) before.valid

-- ---- a store is carried out: it has no record yet, and bit 22 is clear

module _ (store : Store) where
  -- nothing is marked
  none_valid : (counted : Bool) (count : ℕ) → counted ≡ false → counted ≡ true → no_record ≡ record_of count
  none_valid counted count none set = absurd (false≢true (sym none ∙ set))

  rests_open : (b : Body) (t : Transition) → b.outcome.counted ≡ false → Rests b t → StringsUpToDate t
      → Goes store no_record t
  rests_open b t none rests strings = rests_keep store no_record b t rests strings (none_valid _ _ none)

  unmarked : {operation : Operation} {counted : Bool} → asked_for store ≡ Operate operation → counted ≡ false
      → Unmarked store counted operation store
  unmarked asks none = record { same = refl; asks = asks; none = none }

  begun_opens :
      (b : Body) (operation : Operation)
      → b.outcome.counted ≡ false
      → asked_for store ≡ Operate operation
      → Goes store no_record (begin b operation store)
  unfolding order_move InHand HeldUpToDate SentUpToDate
  begun_opens b operation none =
      by_beginning (λ operation t. asked_for store ≡ Operate operation → Goes store no_record t) b store
      (λ o same asks.
      record {
        kept =
            record { hand = unmarked asks (same ∙ none); valid = none_valid _ _ (same ∙ none); holds = tt };
        says = tt;
      })
      (λ asks. record {
        kept = record { hand = unmarked asks none; valid = none_valid _ _ none; holds = tt };
        says = tt;
      })
      (λ operation o same ordered asks.
      record {
        kept =
            record { hand = unmarked asks (same ∙ none); valid = none_valid _ _ (same ∙ none); holds = tt };
        says = tt;
      })
      operation

  decoded_opens :
      (b : Body) (decode : Decoded)
      → b.outcome.counted ≡ false
      → ((operation : Operation) → decode ≡ Operate operation → asked_for store ≡ Operate operation)
      → Goes store no_record (decoded b store decode)
  unfolding follow course_of reset_state start_body no_outcome InHand HeldUpToDate SentUpToDate
  decoded_opens b Reset none asks =
      record { kept = record { hand = tt; valid = none_valid false _ refl; holds = tt }; says = tt }
  decoded_opens b (Code code) none asks = rests_open b _ none (ended_rests b store code) (ended_strings b store code)
  decoded_opens b (Track track) none asks =
      rests_open (with_current_drive b (with_track (current_drive b) track)) _ none (settled_rests _ store)
      (settled_strings _ store)
  decoded_opens b (Enable enable) none asks =
      rests_open (with_flags b b.changed enable) _ none (settled_rests _ store) (settled_strings _ store)
  decoded_opens b (Guard guard) none asks =
      rests_open (with_current_drive b (with_guard (current_drive b) guard)) _ none (settled_rests _ store)
      (settled_strings _ store)
  decoded_opens b (Density density) none asks =
      rests_open (with_current_drive b (with_density (current_drive b) density)) _ none (settled_rests _ store)
      (settled_strings _ store)
  decoded_opens b (Operate operation) none asks =
      by_test_of (Goes store no_record) b store operation (begun_opens b operation none (asks operation refl))
      (rests_open b _ none (ended_rests b store illegal_motion) (ended_strings b store illegal_motion))

  carried_opens : (b : Body) → Goes store no_record (carry_out b store)
  unfolding carry_out carry_out_on clear_outcome no_outcome
  carried_opens b =
      pick_by (Goes store no_record) (names_unknown store)
      (λ unknown. rests_open _ _ refl (ended_rests _ store illegal_drive) (ended_strings _ store illegal_drive))
      (λ drive. decoded_opens _ (asked_in store _) refl (asked_operation _ (asked_for store)))

stores_case : OfStores Keeps
unfolding ledger_after ledger_call not_refused holds_store offered own_record record_after pick
stores_case b s lead l own drives before =
    let store = store_of s in
    let t = carry_out b store in
    subst₂ (λ (next : Store) (later : OwnRecord). Goes next later t)
    (sym (ap (λ (x : Ledger). x.store) (pick_yes (ledger_carried l store) l (ap not lead)) ∙ carried_store l store))
    (sym (pick_yes no_record own (ap not lead))) (carried_opens store b)

handings_case : OfHandings Keeps
unfolding ledger_after ledger_call not_refused own_record record_after pick
handings_case b s store l own drives before =
    subst (λ (next : Store). Goes next no_record (carry_out b store)) (sym (carried_store l store))
    (carried_opens store b)

-- ---- the calls of a store

-- whatever drive is written
written :
    (b : Body) (held : Store) (drive : Drive) (host : Host) (space check : List ℕ)
    → Keeps (stated b (DataAwaited held))
    (exchanged (host_data host space check) (data_done b drive held host space check))
unfolding data_done settle_data data_words order_move ledger_after ledger_call not_refused own_record record_after
    InHand HeldUpToDate SentUpToDate pick
written b held drive host space check l own drives before =
    record { kept = record { hand = before.hand; valid = before.valid; holds = tt }; says = tt }

writes_case : OfData Keeps
unfolding data_in
writes_case b held host space check =
    data_for_lem Keeps refusals_case b held _ host space check (written b held _ host space check)

module _ (drive : Drive) (operation : Operation) (last store : Store) (r : Result) (before check report : ℕ)
    (same : store ≡ last) (asks : asked_for last ≡ Operate operation) (reported : drive.report ≡ report)
    (good : result_refusal drive operation store r check ≡ 0) where
  abbrev verdict : Verdict
  verdict = verdict_of drive operation store r

  abbrev told : Type 0
  told = passed_by last report r ≡ record_of (result_count verdict operation store before)

  -- the last store asks for the operation that ends
  supplies_is : eqb (order_of_store last) 0x80 ≡ supplies_count operation
  supplies_is = ap (λ (n : ℕ). eqb n 0x80) (order_said last operation asks) ∙ sym (numbered operation).supplies

  writes_is : eqb (order_of_store last) 0x50 ≡ same_operation operation Write
  writes_is = ap (λ (n : ℕ). eqb n 0x50) (order_said last operation asks) ∙ sym (numbered operation).writes

  gone_is : tape_gone (order_of_store last) report ≡ is_gone drive operation
  gone_is =
      ap₂ tape_gone (order_said last operation asks) (sym reported) ∙ sym (gone_said drive operation store r)

  -- a supplied count is the store's own
  supplied_told : verdict.supplied ≡ true → told
  unfolding passed_by supplied_by result_count verdict_of supplied_count held_count
  supplied_told set =
      by_test (supplies_count operation)
      (λ supplies.
      let some : eqb (held_count store) 0
      ≡ false = sym (ap (λ (n : ℕ). eqb n 0) (pick_yes _ _ supplies)) ∙ not-true _ set in
      pick_yes _ _ (supplies_is ∙ supplies)
      ∙ ap (λ (s : Store). pick (eqb (count_asked s) 0) no_record (record_of (count_asked s))) (sym same)
      ∙ pick_no _ _ some
      ∙ sym (ap record_of (pick_yes _ _ set)))
      (λ none. absurd (false≢true (ap (λ (n : ℕ). not (eqb n 0)) (sym (pick_no _ _ none)) ∙ set)))

  -- where none is supplied, or 0, the record is none of the store's but that of its image or its write
  module _ (unset : verdict.supplied ≡ false) where
    -- an image that counts is the result's own
    image_told : supplies_count operation ≡ false → verdict.used ≡ true → told
    unfolding passed_by result_count verdict_of used_count record_count count_said count_of unrotated
    image_told own uses =
        let (there, some) = both_hold (not (is_gone drive operation)) (not (eqb (length r.image) 0)) uses in
        pick_no _ _ (supplies_is ∙ own)
        ∙ pick_no _ _ (gone_is ∙ not-true (is_gone drive operation) there)
        ∙ pick_no _ _ (not-true (eqb (length r.image) 0) some)
        ∙ sym (ap record_of (pick_no _ _ unset ∙ pick_yes _ _ uses ∙ pick_yes _ _ uses ∙ pick_no _ _ own))

    -- a write well done is the store's own
    write_told : supplies_count operation ≡ false → verdict.used ≡ false → wrote_well operation verdict.code ≡ true
        → told
    unfolding passed_by result_count verdict_of wrote_well held_count
    write_told own unused well =
        let (writes, zero) = both_hold (same_operation operation Write) (eqb verdict.code 0) well in
        let (there, zero_told) = final_zero (is_gone drive operation) (code_reported operation store r.code)
        (findings_read operation r.marks) (eqb-true verdict.code 0 zero) in
        let code = reported_zero operation store r.code zero_told in
        let empty : eqb (length r.image) 0
        ≡ true = not-false (eqb (length r.image) 0)
        (sym (ap (λ (t : Bool). not t && not (eqb (length r.image) 0)) there) ∙ unused) in
        pick_no _ _ (supplies_is ∙ own)
        ∙ pick_no _ _ (gone_is ∙ there)
        ∙ pick_yes _ _ empty
        ∙ pick_yes _ _ (ap₂ (λ (t : Bool) (n : ℕ). t && eqb n 0) (writes_is ∙ writes) code)
        ∙ ap (λ (s : Store). record_of (count_asked s)) (sym same)
        ∙ sym (ap record_of (pick_no _ _ unset ∙ pick_no _ _ unused ∙ pick_yes _ _ well))

    -- a supplied 0 marks nothing
    none_told : supplies_count operation ≡ true → (verdict.used || wrote_well operation verdict.code) ≡ false
    unfolding verdict_of supplied_count wrote_well
    none_told supplies =
        let zero : held_count store ≡ 0 = sym (pick_yes _ _ supplies) ∙ eqb-true _ 0 (not-false _ unset) in
        let empty : eqb (length r.image) 0
        ≡ true = eq-eqb _ 0 (supplied_none drive r operation store check good supplies zero) in
        let unused : (not (is_gone drive operation) && not (eqb (length r.image) 0)) ≡ false =
        ap (λ (t : Bool). not (is_gone drive operation) && not t) empty ∙ and-false (not (is_gone drive operation)) in
        let other : same_operation operation Write
        ≡ false = ap (λ (n : ℕ). eqb n (number_of Write))
        (eqb-true (number_of operation) (number_of SuppliedCount) supplies) in
        ap₂ (λ (t u : Bool). t || (u && eqb verdict.code 0)) unused other

    image_or_write_told : (verdict.used || wrote_well operation verdict.code) ≡ true → told
    image_or_write_told set =
        by_test (supplies_count operation) (λ supplies. absurd (false≢true (sym (none_told supplies) ∙ set)))
        (λ own. by_test verdict.used (image_told own)
        (λ unused. write_told own unused
        (sym (ap (λ (t : Bool). t || wrote_well operation verdict.code) unused) ∙ set)))

  either_told : (verdict.supplied || (verdict.used || wrote_well operation verdict.code)) ≡ true → told
  either_told set =
      by_test verdict.supplied supplied_told
      (λ unset. image_or_write_told unset
      (sym (ap (λ (t : Bool). t || (verdict.used || wrote_well operation verdict.code)) unset) ∙ set))

-- a result leaves the last store
ended_store : (l : Ledger) (h : Handed) → (ledger_ended l h).store ≡ l.store
unfolding ledger_ended
ended_store l None = refl
ended_store l (Some final) = refl

ended :
    (b : Body) (operation : Operation) (held : Store) (r : Result) (space check : List ℕ)
    → result_refusal (current_drive b) operation held r (length check) ≡ 0
    → Keeps (stated b (ResultAwaited operation held))
    (exchanged (result r space check) (result_done b (current_drive b) operation held r space check))
unfolding result_done settle_result result_words result_bits with_retry ledger_after ledger_call not_refused own_record
    record_after InHand pick
ended b operation held r space check good l own drives before =
    let drive = current_drive b in
    let mine = before.hand in
    let verdict = verdict_of drive operation held r in
    let body = with_after b (settle_result (words_of b) drive operation held r (length space) check) in
    let report = (l.tape l.selected).report in
    let same = current l b (ResultAwaited operation held) drives in
    subst (λ (store : Store). Goes store (passed_by l.store report r) (end_operation body operation held))
    (sym (ended_store l (end_operation body operation held).handed))
    (rests_keep l.store (passed_by l.store report r) body _ (ending_rests body operation held)
    (ending_strings body operation held)
    (λ set. either_told drive operation l.store held r b.outcome.result.count (length check) report
    mine.same mine.asks (ap (λ (x : Drive). x.report) same) good
    (sym (ap (λ (t : Bool). t || (verdict.supplied || (verdict.used || wrote_well operation verdict.code)))
    mine.none) ∙ set)))

results_case : OfResults Keeps
unfolding result_in
results_case b operation held r space check =
    result_for_lem Keeps refusals_case b held _ operation r space check (ended b operation held r space check)

-- ---- every call, and every list

keeps : Kinds Keeps
unfolding yes_to_go reset_state start_body no_outcome ledger_after ledger_call not_refused own_record record_after
    InHand HeldUpToDate SentUpToDate pick
keeps =
    record {
      refusals = refusals_case;
      link = link_case;
      stores = stores_case;
      handings = handings_case;
      reports =
          λ c n r within l own drives before.
          record { kept = record { hand = before.hand; valid = before.valid; holds = before.holds }; says = tt };
      yes =
          λ b held value accepts l own drives before.
          record { kept = record { hand = before.hand; valid = before.valid; holds = tt }; says = tt };
      no = no_case;
      writes = writes_case;
      results = results_case;
      resets =
          λ c l own drives before.
          record { kept = record { hand = tt; valid = λ set. absurd (false≢true set); holds = tt }; says = tt };
    }

-- what is sent is the record's own
sends_own :
    (own : OwnRecord) (counted : Bool) (count : ℕ) (action : Action)
    → (counted ≡ true → own ≡ record_of count)
    → SentUpToDate counted count action
    → Sends own count action
unfolding SentUpToDate Sends string_of secondary_word
sends_own own counted count (Text string) valid honest =
    record {
      secondary = λ lead. (valid (honest.brings lead).0, (honest.brings lead).1);
      primary = λ lead set. valid (honest.marks lead set);
    }
sends_own own counted count Nothing valid honest = tt
sends_own own counted count (Byte b) valid honest = tt
sends_own own counted count (Order order) valid honest = tt

own_from :
    (calls : List Call) (l : Ledger) (own : OwnRecord) (c : Controller)
    → KeptDrives l c.body c.phase
    → Kept l.store own c.body c.phase
    → ValidFrom l own c (run c calls)
unfolding run ValidFrom
own_from [] l own c drives before = tt
own_from (call ∷ calls) l own c drives before =
    let x = exchanged call (step c call) in
    let reply = (step c call).reply in
    let goes = by_step Keeps keeps c call l own drives before in (
      record {
        stands = goes.kept.valid;
        sends = sends_own _ _ _ reply.action goes.kept.valid goes.says;
      },
      own_from calls (ledger_after l c x) (own_record l own c x) reply.controller
          (by_step KeepsDrives keeping c call l drives).kept goes.kept,
    )

pub counts_are_own : (calls : List Call) → CountsAreOwn (run fresh calls)
unfolding fresh start_body no_outcome InHand HeldUpToDate
counts_are_own calls =
    own_from calls ledger_fresh no_record fresh fresh_kept
    (record { hand = tt; valid = λ set. absurd (false≢true set); holds = tt })
