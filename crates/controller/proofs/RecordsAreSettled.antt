-- A record that is handed back has code 04 only where the drive does not allow the store's order, and the motion of its
-- store and its code (`records_are_settled`, over the definitions).
-- Assumes nothing.
use mathlib.Core.Path.{◌≡◌, refl, sym, ap, subst, ◌∙◌}
use Prim.Native.Nat.{ℕ, ◌/◌, ◌%◌}
use native.Mathlib.Omega.{arith}
use mathlib.Core.Bool.{Bool, true, false, not, ◌&&◌, ◌||◌, false≢true}
use mathlib.Core.List.{List, [], ◌∷◌}
use lib.Dec.{leb, eqb}
use lib.ListN.{length}
use borrow.Author.Tests.{eqb-false, eq-eqb}
use Rattle.common.specs.Pick.{pick}
use Rattle.common.proofs.PickLaws.{by_test, pick_by, pick_yes, not_refused_lem}
use Rattle.status.specs.declared.drives.Drive.{Drive}
use Rattle.status.specs.declared.words.Outcome.{Outcome}
use Rattle.status.specs.declared.words.ResultRecord.{ResultRecord}
use Rattle.operations.specs.declared.operation.Operation.{Operation}
use Rattle.operations.specs.declared.operation.Operation.TheVariants.{Read, CheckBytes, SuppliedCount, Write, Erase}
use Rattle.operations.specs.declared.operation.Operation.TheVariants.{Rewind, FastForward, SkipForward, SkipReverse}
use Rattle.operations.specs.declared.operation.Operation.TheVariants.{SearchForward, SearchReverse, WriteMark}
use Rattle.operations.specs.declared.store.Store.{Store}
use Rattle.operations.specs.Answers.{forward_codes, reverse_codes, end_codes, supplied_codes, listed_codes}
use Rattle.operations.specs.Answers.{trailing_codes}
use Rattle.operations.specs.Answers.{clear_codes, is_in, answer_of}
use Rattle.operations.specs.Store.{asked_for}
use Rattle.link.specs.declared.state.Phase.{Phase}
use Rattle.link.specs.declared.state.Phase.TheVariants.{Collecting, AckOffered, ResultAwaited}
use Rattle.link.specs.declared.state.Body.{Body}
use Rattle.link.specs.State.{Handed}
use Rattle.std.specs.Prelude.{None, Some}
use Rattle.link.specs.State.{store_of, offered, current_drive, reset_state}
use Rattle.transfers.specs.declared.after.Words.{Words}
use Rattle.transfers.specs.Results.{Result, result_refusal}
use Rattle.controller.specs.declared.controller.Controller.{Controller}
use Rattle.controller.specs.Told.{Reply}
use Rattle.controller.specs.Controller.{fresh, carried}
use Rattle.controller.specs.Stores.{order_move, carry_out, yes_to_go, no_to_go}
use Rattle.controller.specs.Records.{words_of, data_done, result_done}
use Rattle.controller.specs.Machine.{data_in, result_in, Call, Exchange, when_lent, step, run}
use Rattle.controller.specs.Machine.Call.{taken, result, hand}
use Rattle.controller.specs.Lists.{not_refused, holds_store}
use Rattle.controller.specs.Handed.{Due}
use Rattle.controller.specs.Ledger.{among, Tape, Ledger, Allowed, ledger_stored, ledger_carried, ledger_ended}
use Rattle.controller.specs.Ledger.{names_none, drive_for, operation_of, ledger_call, ledger_after, motion_made}
use Rattle.controller.specs.Shown.{order_asked, control_code, read_code, decoding_code, passes_test}
use Rattle.controller.specs.Shown.{ending_code, outcome_begun, words_begun, words_carried, tape_gone, code_told}
use Rattle.controller.specs.Shown.{code_left}
use Rattle.controller.specs.Shown.{bits_ended, retry_ended, final_left, words_left}
use Rattle.controller.specs.Shown.{words_ended, Status, shown_after, status_fresh}
use Rattle.controller.specs.Settled.{Settled, SettledBy, SettledFrom, RecordsAreSettled}
use Rattle.controller.proofs.Steps.{stated, exchanged, SaysNo, OfRefusals, OfLink, OfStores, OfHandings, OfNo}
use Rattle.controller.proofs.Steps.{OfData, OfResults, Kinds, data_for_lem, result_for_lem, by_step}
use Rattle.controller.proofs.Steps.SaysNo.{byte_refused}
use Rattle.controller.proofs.DrivesAreALedger.{pick_pair, Kept, InHand, fresh_kept, ended_hands}
use Rattle.controller.proofs.RecordsAreHanded.{carried_due}
use Rattle.controller.proofs.StatusIsALedger.Beginning.{HeldIn}
use Rattle.controller.proofs.StatusIsALedger.{Shows, turned, current, by_order, body, result_words, step_shown}
use Rattle.controller.proofs.StatusIsALedger.{fresh_shown}

-- ---- what is allowed passes the test

either_way : {a b : Bool} → (a ≡ false → b ≡ true) → (a || b) ≡ true
either_way {a = true} other = refl
either_way {a = false} other = other refl

unless : {a b : Bool} → (a ≡ true → b ≡ true) → (not a || b) ≡ true
unless {a = true} other = other refl
unless {a = false} other = refl

also : {a b : Bool} → a ≡ true → b ≡ true → (a && b) ≡ true
also one two = rw (one, two)

unguarded : (guard : Bool) (gap bits : ℕ) → (guard ≡ true → bits / 16 % 2 ≡ 0 → gap ≡ 0)
    → (not guard || (eqb gap 0 || eqb (bits / 16 % 2) 1)) ≡ true
unguarded false gap bits free = refl
unguarded true gap bits free =
    by_test (eqb gap 0) (λ proper. ap (λ (t : Bool). t || eqb (bits / 16 % 2) 1) proper)
    (λ other. either_way {a = eqb gap 0}
    (λ none. eq-eqb (bits / 16 % 2) 1 (odd (bits / 16) (λ zero. eqb-false gap 0 other (free refl zero)))))
  where
    odd : (n : ℕ) → (n % 2 ≡ 0 → ⊥) → n % 2 ≡ 1
    odd n other = omega arith

allowed_passes : (order : ℕ) (t : Tape) → Allowed order t.report t.guard t.gap → passes_test order t ≡ true
unfolding passes_test
allowed_passes order t allows =
    ap
    (λ (moves : Bool). not moves
    || ((eqb (t.report / 32 % 2) 1 && eqb (t.report / 2 % 2) 1)
    && ((among order (0x10 ∷ 0x11 ∷ []) || eqb (t.report / 4 % 2) 0)
    && ((not (among order (0x40 ∷ 0x80 ∷ 0x20 ∷ 0x22 ∷ 0x50 ∷ 0x24 ∷ 0x60 ∷ [])) || eqb (t.report / 128 % 2) 0)
    && ((not (among order (0x21 ∷ 0x23 ∷ [])) || eqb (t.report % 2) 0)
    && (not (among order (0x50 ∷ 0x24 ∷ 0x60 ∷ []))
    || (eqb (t.report / 8 % 2) 0 && (not t.guard || (eqb t.gap 0 || eqb (t.report / 16 % 2) 1)))))))))
    allows.known
    ∙ also (also (eq-eqb _ 1 allows.installed) (eq-eqb _ 1 allows.selectable))
    (also (either_way (λ moves. eq-eqb _ 0 (allows.placed moves)))
    (also (unless (λ ahead. eq-eqb _ 0 (allows.ahead ahead)))
    (also (unless (λ behind. eq-eqb _ 0 (allows.behind behind)))
    (unless (λ writes. also (eq-eqb _ 0 (allows.unprotected writes))
    (unguarded t.guard t.gap t.report (allows.unguarded writes)))))))

-- ---- a store that is carried out

-- no code that decoding gives
abbrev Other : ℕ → Type 0
Other n = n ≡ 4 → ⊥

none_four : Other 0
none_four e = omega arith

two_four : Other 2
two_four e = omega arith

three_four : Other 3
three_four e = omega arith

decoding_other : (operation f l density : ℕ) → Other (decoding_code operation f l density)
unfolding decoding_code control_code read_code
decoding_other operation f l density =
    pick_by Other (eqb operation 3)
    (λ control. pick_by Other (leb l 0x03) (λ low. none_four)
    (λ past. pick_by Other (leb l 0x07) (λ low. three_four)
    (λ high. pick_by Other _ (λ listed. none_four) (λ none. two_four))))
    (λ other. pick_by Other (eqb operation 4)
    (λ reads. pick_by Other _ (λ listed. none_four)
    (λ none. pick_by Other _ (λ dense. none_four) (λ no. two_four)))
    (λ no. pick_by Other _ (λ listed. none_four) (λ none. two_four)))

ending_fails : (operation f l : ℕ) (t : Tape) → ending_code operation f l t ≡ 4
    → passes_test (order_asked operation f l) t ≡ false
unfolding ending_code
ending_fails operation f l t =
    pick_by (λ (n : ℕ). n ≡ 4 → passes_test (order_asked operation f l) t ≡ false)
    (eqb (decoding_code operation f l t.density) 0)
    (λ decodes. pick_by (λ (n : ℕ). n ≡ 4 → passes_test (order_asked operation f l) t ≡ false)
    (passes_test (order_asked operation f l) t) (λ passes is. absurd (none_four is)) (λ fails is. fails))
    (λ ends is. absurd (decoding_other operation f l t.density is))

abbrev AllowedAt : Store → Tape → Type 0
AllowedAt store t =
    Allowed (order_asked (operation_of store) store.first store.fourth) t.report t.guard t.gap

-- by the words that a store leaves
abbrev SettledAt : Store → Tape → Words → Type 0
SettledAt store was words =
    (words.outcome.result.code ≡ 4 → AllowedAt store was → ⊥) × (words.outcome.result.motion ≡ 0)

abbrev SettledAs : Ledger → Words → Type 0
SettledAs later = SettledAt later.store later.was

module _ (l : Ledger) (w : Words) (store : Store) where
  begun_settled :
      (t : Tape)
      → SettledAt store t
      (record {
        outcome = outcome_begun (operation_of store) store.first store.fourth t w.outcome.result.count;
        tertiary = w.tertiary;
        quintary = w.quintary;
      })
  unfolding outcome_begun
  begun_settled t =
      pick_by
      (λ (o : Outcome). SettledAt store t (record { outcome = o; tertiary = w.tertiary; quintary = w.quintary }))
      (eqb (ending_code (operation_of store) store.first store.fourth t) 0)
      (λ none. ((λ is allows. none_four is), refl))
      (λ some. (
        (λ is allows.
            false≢true (sym (ending_fails (operation_of store) store.first store.fourth t is)
            ∙ allowed_passes _ t allows)),
        refl,
      ))

  carried_settled : SettledAs (ledger_carried l store) (words_carried l w store)
  unfolding ledger_carried ledger_stored words_carried words_begun
  carried_settled =
      pick_pair SettledAs (names_none store) (λ unknown. ((λ is allows. one_four is), refl))
      (λ known. pick_pair SettledAs (eqb (operation_of store) 0) (λ resets. ((λ is allows. none_four is), refl))
      (λ other. begun_settled (l.tape (drive_for l.selected store))))
    where
      one_four : Other 1
      one_four e = omega arith

-- ---- every call

abbrev HandsBy : Controller → Exchange → Type 0
HandsBy c x =
    (s : Status) → Kept s.ledger c.body c.phase → Shows s c.body c.phase
    → SettledBy (ledger_after s.ledger c x) x.call x.answer.reply.handed

due_settled :
    (l : Ledger) (call : Call) (owed : Bool) (reply : Reply) (h : Handed)
    → Due owed reply h
    → Settled l call reply.controller.body.outcome.result
    → SettledBy l call h
unfolding Due SettledBy
due_settled l call owed reply (Some final) due settled = subst (Settled l call) (sym due.1) settled
due_settled l call owed reply None due settled = tt

module _ (s : Status) (b : Body) (store : Store) (phase : Phase) (kept : Kept s.ledger b phase)
    (before : Shows s b phase) where
  -- a call that is lent nothing
  store_settled :
      (call : Call)
      → ((f : Result → List ℕ → List ℕ → ℕ) → when_lent (λ host space check. 0) f 0 call ≡ 0)
      → SettledBy (ledger_carried s.ledger store) call (carry_out b store).handed
  store_settled call unlent =
      let same = ap (λ (w : Words). w.outcome.result) (turned s b store phase kept before).words in
      let settled = carried_settled s.ledger s.words store in
      due_settled (ledger_carried s.ledger store) call _ (carried (carry_out b store)) (carry_out b store).handed
      (carried_due store b)
      (record {
        refused = λ is allows. settled.0 (sym (ap (λ (x : ResultRecord). x.code) same) ∙ is) allows;
        motion = ap (λ (x : ResultRecord). x.motion) same ∙ settled.1 ∙ sym (unlent _);
      })

stores_case : OfStores HandsBy
unfolding ledger_after ledger_call not_refused holds_store offered pick
stores_case b c lead s kept before =
    let store = store_of c in
    subst (λ (l : Ledger). SettledBy l taken (carry_out b store).handed)
    (sym (pick_yes (ledger_carried s.ledger store) s.ledger (ap not lead)))
    (store_settled s b store (AckOffered c) kept before taken (λ f. refl))

handings_case : OfHandings HandsBy
unfolding ledger_after ledger_call not_refused pick
handings_case b c store s kept before =
    store_settled s b store (Collecting c) kept before (hand store) (λ f. refl)

refusals_case : OfRefusals HandsBy
unfolding SettledBy
refusals_case c call number space check some at_space at_check s kept before = tt

link_case : OfLink HandsBy
unfolding SettledBy
link_case c call t is free rests strings none s kept before = subst (SettledBy _ call) (sym none) tt

no_case : OfNo HandsBy
unfolding no_to_go SettledBy
no_case b held call (byte_refused value refuses) s kept before =
    record { refused = λ is allows. absurd (five_four is); motion = refl }
  where
    five_four : Other 5
    five_four e = omega arith
no_case b held call SaysNo.link_broke s kept before =
    record { refused = λ is allows. absurd (five_four is); motion = refl }
  where
    five_four : Other 5
    five_four e = omega arith

writes_case : OfData HandsBy
unfolding data_in data_done order_move SettledBy
writes_case b held host space check =
    data_for_lem HandsBy refusals_case b held _ host space check (λ s kept before. tt)

-- ---- a result

never_four : (operation : Operation) → eqb (answer_of operation 4) 0 ≡ true
unfolding answer_of listed_codes forward_codes reverse_codes end_codes supplied_codes clear_codes trailing_codes is_in
    pick
never_four Read = refl
never_four CheckBytes = refl
never_four SuppliedCount = refl
never_four Write = refl
never_four Erase = refl
never_four Rewind = refl
never_four FastForward = refl
never_four SkipForward = refl
never_four SkipReverse = refl
never_four SearchForward = refl
never_four SearchReverse = refl
never_four WriteMark = refl

listed_other : (drive : Drive) (operation : Operation) (store : Store) (r : Result) (check : ℕ)
    → result_refusal drive operation store r check ≡ 0 → Other r.code
unfolding result_refusal
listed_other drive operation store r check e is =
    let s = not_refused_lem _ _ _ (λ z. omega arith) e in
    let l = not_refused_lem _ _ _ (λ z. omega arith) s.1 in
    false≢true (sym l.0 ∙ ap (λ (n : ℕ). eqb (answer_of operation n) 0) is ∙ never_four operation)

final_other : (order count told : ℕ) (r : Result) → Other r.code → Other (final_left order count told r)
unfolding final_left code_left code_told
final_other order count told r other =
    pick_by Other (tape_gone order told) (λ gone e. omega arith)
    (λ there. pick_by Other _ (λ stops e. omega arith)
    (λ ends. pick_by Other _ (λ bad e. omega arith)
    (λ good. pick_by Other _ (λ none e. omega arith) (λ told. other))))

module _ (b : Body) (operation : Operation) (held : Store) (r : Result) (space check : List ℕ)
    (good : result_refusal (current_drive b) operation held r (length check) ≡ 0) where
  ended : HandsBy (stated b (ResultAwaited operation held))
      (exchanged (result r space check) (result_done b (current_drive b) operation held r space check))
  unfolding result_done ledger_after ledger_call ledger_ended not_refused words_ended words_left retry_ended bits_ended
      InHand HeldIn SettledBy pick
  ended s kept before =
      let t = s.ledger.tape s.ledger.selected in
      let drive = current s.ledger b (ResultAwaited operation held) kept in
      let left = body b operation held r space check good in
      let told = words_ended (words_of b) t held r (length space) in
      let words : words_of left ≡ told =
      result_words b operation held r space check good t (ap (λ (x : Drive). x.report) drive)
      (ap (λ (x : Drive). x.density) drive)
      ∙ by_order b operation held r space check good (words_of b) t held (ap asked_for before.held ∙ kept.hand.0) in
      let same : left.outcome.result ≡ told.outcome.result = ap (λ (w : Words). w.outcome.result) words in
      subst (λ (h : Handed). SettledBy (ledger_ended s.ledger h) (result r space check) h)
      (sym (ended_hands left operation held))
      (record {
        refused =
            λ is allows. final_other _ _ t.report r
            (listed_other (current_drive b) operation held r (length check) good)
            (sym (ap (λ (x : ResultRecord). x.code) same) ∙ is);
        motion =
            ap (λ (x : ResultRecord). x.motion) same
            ∙ ap (motion_made (operation_of held) held.first held.fourth)
            (sym (ap (λ (x : ResultRecord). x.code) same))
            ∙ ap (λ (x : Store). motion_made (operation_of x) x.first x.fourth left.outcome.result.code)
            before.held;
      })

results_case : OfResults HandsBy
unfolding result_in
results_case b operation held r space check =
    result_for_lem HandsBy refusals_case b held _ operation r space check (ended b operation held r space check)

handing : Kinds HandsBy
unfolding yes_to_go reset_state SettledBy
handing =
    record {
      refusals = refusals_case;
      link = link_case;
      stores = stores_case;
      handings = handings_case;
      reports = λ c n r within s kept before. tt;
      yes = λ b held value accepts s kept before. tt;
      no = no_case;
      writes = writes_case;
      results = results_case;
      resets = λ c s kept before. tt;
    }

-- ---- every list

settled_from :
    (calls : List Call) (s : Status) (c : Controller) → Kept s.ledger c.body c.phase
    → Shows s c.body c.phase → SettledFrom s.ledger c (run c calls)
unfolding run SettledFrom shown_after
settled_from [] s c kept before = tt
settled_from (call ∷ calls) s c kept before =
    let x = exchanged call (step c call) in
    let (later, shows) = step_shown c call s kept before in (
      by_step HandsBy handing c call s kept before,
      settled_from calls (shown_after s c x) (step c call).reply.controller later shows,
    )

pub records_are_settled : (calls : List Call) → RecordsAreSettled (run fresh calls)
records_are_settled calls = settled_from calls status_fresh fresh fresh_kept fresh_shown
