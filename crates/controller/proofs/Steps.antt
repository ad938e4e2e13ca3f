-- What a call can come to: nine kinds of step. A claim of every call is shown kind by kind (`by_step`).
-- Assumes nothing.
pub mod Resting
pub mod Strings
pub mod Handing
use mathlib.Core.Path.{◌≡◌, refl}
use Prim.Native.Nat.{ℕ, ◌≤◌}
use native.Mathlib.Omega.{arith}
use mathlib.Core.Bool.{true, false}
use mathlib.Core.List.{List, []}
use lib.Dec.{leb, eqb}
use lib.ListN.{length}
use borrow.Author.Tests.{eqb-true, leb-false}
use Rattle.common.specs.Pick.{pick}
use Rattle.common.proofs.PickLaws.{pick_by}
use Rattle.status.specs.declared.drives.Drive.{Drive}
use Rattle.operations.specs.declared.operation.Operation.{Operation}
use Rattle.operations.specs.declared.store.Store.{Store}
use Rattle.link.specs.declared.state.Collected.{Collected}
use Rattle.link.specs.declared.state.Phase.{Phase}
use Rattle.link.specs.declared.state.Phase.TheVariants.{Collecting, AckOffered, Sending, GoOffered, DataAwaited}
use Rattle.link.specs.declared.state.Phase.TheVariants.{ResultAwaited, EndOffered}
use Rattle.link.specs.declared.state.Body.{Body}
use Rattle.link.specs.declared.state.Action.TheVariants.{Nothing}
use Rattle.link.specs.State.{Transition}
use Rattle.link.specs.Bytes.{ack, load_lead}
use Rattle.link.specs.State.{store_of, offered, reset_state}
use Rattle.link.specs.Damaged.{is_sound}
use Rattle.transfers.specs.Data.{Host, data_refusal}
use Rattle.transfers.specs.Results.{Result, result_refusal}
use Rattle.controller.specs.declared.controller.Controller.{Controller}
use Rattle.controller.specs.Told.{Reply}
use Rattle.controller.specs.Controller.{carried, refused}
use Rattle.controller.specs.Stores.{carry_out, answer_to_go, yes_to_go, no_to_go}
use Rattle.controller.specs.Records.{Answer, data_done, result_done}
use Rattle.controller.specs.Machine.{unchanged, byte_in, broken_in, tick_in, hand_in, byte_call, broken_call, tick_call}
use Rattle.controller.specs.Machine.{hand_call, carry_out_string, taken_in, taken_call, report_noted, report_call}
use Rattle.controller.specs.Machine.{reset_call, data_for, data_in, data_call, result_for, result_in, result_call, Call}
use Rattle.controller.specs.Machine.{Exchange, plain, step}
use Rattle.controller.specs.Refused.{lent_space, lent_check}
use Rattle.controller.specs.Machine.Call.{byte, taken, broken, report, host_data, result, tick, reset, hand}
use Rattle.link.proofs.PhaseLaws.{by_collecting, by_ack_offered, by_data_awaited, by_result_awaited}
use Rattle.controller.proofs.Steps.Resting.{Free, NoOrder, Rests, idle_rests, given_up_rests, byte_rests}
use Rattle.controller.proofs.Steps.Resting.{send_rests, completed_rests, tick_rests, loaded_rests}
use Rattle.controller.proofs.Steps.Handing.{Unhanded, idle_unhanded, completed_unhanded, byte_unhanded}
use Rattle.controller.proofs.Steps.Handing.{given_up_unhanded, send_unhanded, tick_unhanded, loaded_unhanded}
use Rattle.controller.proofs.Steps.Strings.{HeldUpToDate, SentUpToDate, StringsUpToDate, idle_strings}
use Rattle.controller.proofs.Steps.Strings.{given_up_strings, byte_strings, send_strings, completed_strings}
use Rattle.controller.proofs.Steps.Strings.{tick_strings, loaded_strings}

-- ---- the kinds

abbrev pub stated : Body → Phase → Controller
stated b phase = record { body = b; phase = phase }

abbrev pub exchanged : Call → Answer → Exchange
exchanged call answer = record { call = call; answer = answer }

-- a call of the link that is not an answer to GO: a byte, a broken link, a tick, or the taking of a load's ACK
pub data LinkCall (c : Controller) : Call → Type 0 where
  byte_came : (value : ℕ) → LinkCall c (byte value)
  link_broke : LinkCall c broken
  ticked : LinkCall c tick
  load_taken : eqb (offered c.phase).c0 load_lead ≡ true → LinkCall c taken

-- an answer to GO that is a no
pub data SaysNo : Call → Type 0 where
  byte_refused : (value : ℕ) → eqb value ack ≡ false → SaysNo (byte value)
  link_broke : SaysNo broken

-- what a reply leaves and does
abbrev pub turn_of : Reply → Transition
turn_of reply =
    record {
      body = reply.controller.body;
      phase = reply.controller.phase;
      action = reply.action;
      handed = reply.handed;
    }

-- what is claimed of a call in a state, with its answer
abbrev pub Claim : Type 1
Claim = Controller → Exchange → Type 0

-- a refused call
abbrev pub OfRefusals : Claim → Type 0
OfRefusals P =
    (c : Controller) (call : Call) (number : ℕ) (space check : List ℕ)
    → eqb number 0 ≡ false
    → space ≡ lent_space call
    → check ≡ lent_check call
    → P c (exchanged call (unchanged number c space check))

-- a call that concerns the link alone
abbrev pub OfLink : Claim → Type 0
OfLink P =
    (c : Controller) (call : Call) (t : Transition)
    → LinkCall c call
    → Free c.phase
    → Rests c.body t
    → (HeldUpToDate c.body.outcome.counted c.body.outcome.result.count c.phase → StringsUpToDate t)
    → Unhanded t
    → P c (exchanged call (plain (carried t)))

-- a store is carried out
abbrev pub OfStores : Claim → Type 0
OfStores P =
    (b : Body) (s : Collected)
    → eqb s.c0 load_lead ≡ false
    → P (stated b (AckOffered s)) (exchanged taken (plain (carried (carry_out b (store_of s)))))

-- a store is handed over
abbrev pub OfHandings : Claim → Type 0
OfHandings P =
    (b : Body) (s : Collected) (store : Store)
    → P (stated b (Collecting s)) (exchanged (hand store) (plain (carried (carry_out b store))))

abbrev pub OfReports : Claim → Type 0
OfReports P = (c : Controller) (n r : ℕ) → n ≤ 3 → P c (exchanged (report n r) (plain (carried (report_noted c n r))))

-- GO is answered by a yes, or by a no
abbrev pub OfYes : Claim → Type 0
OfYes P =
    (b : Body) (held : Store) (value : ℕ)
    → eqb value ack ≡ true
    → P (stated b (GoOffered held)) (exchanged (byte value) (plain (carried (yes_to_go b held))))

abbrev pub OfNo : Claim → Type 0
OfNo P =
    (b : Body) (held : Store) (call : Call) → SaysNo call
    → P (stated b (GoOffered held)) (exchanged call (plain (carried (no_to_go b held))))

-- a data call or a result comes where it is awaited
abbrev pub OfData : Claim → Type 0
OfData P =
    (b : Body) (held : Store) (host : Host) (space check : List ℕ)
    → let c = stated b (DataAwaited held) in P c
    (exchanged (host_data host space check) (data_in c b host space check (DataAwaited held)))

abbrev pub OfResults : Claim → Type 0
OfResults P =
    (b : Body) (operation : Operation) (held : Store) (r : Result) (space check : List ℕ)
    → let c = stated b (ResultAwaited operation held) in P c
    (exchanged (result r space check) (result_in c b r space check (ResultAwaited operation held)))

abbrev pub OfResets : Claim → Type 0
OfResets P = (c : Controller) → P c (exchanged reset (plain (carried (reset_state c.body))))

pub record Kinds (P : Claim) : Type 0 where
  pub refusals : OfRefusals P
  pub link : OfLink P
  pub stores : OfStores P
  pub handings : OfHandings P
  pub reports : OfReports P
  pub yes : OfYes P
  pub no : OfNo P
  pub writes : OfData P
  pub results : OfResults P
  pub resets : OfResets P

-- a data call and a result while they are awaited: refused, or done for the drive
module _ (P : Claim) (refusals : OfRefusals P) (b : Body) (held : Store) (drive : Drive) where
  module _ (host : Host) (space check : List ℕ) where
    abbrev written : Answer → Type 0
    written answer = P (stated b (DataAwaited held)) (exchanged (host_data host space check) answer)

    pub data_for_lem :
        written (data_done b drive held host space check)
        → written (data_for (stated b (DataAwaited held)) b drive held host space check)
    unfolding lent_space lent_check data_for
    data_for_lem done =
        pick_by written
        (eqb (data_refusal drive held (length host.bytes) host.place (length space) (length check)) 0)
        (λ good. done)
        (λ some. refusals (stated b (DataAwaited held)) _ _ space check some refl refl)

  module _ (operation : Operation) (r : Result) (space check : List ℕ) where
    abbrev ended : Answer → Type 0
    ended answer = P (stated b (ResultAwaited operation held)) (exchanged (result r space check) answer)

    pub result_for_lem :
        (result_refusal drive operation held r (length check) ≡ 0
        → ended (result_done b drive operation held r space check))
        → ended (result_for (stated b (ResultAwaited operation held)) b drive operation held r space check)
    unfolding lent_space lent_check result_for
    result_for_lem done =
        pick_by ended (eqb (result_refusal drive operation held r (length check)) 0) (λ good. done (eqb-true _ 0 good))
        (λ some. refusals (stated b (ResultAwaited operation held)) _ _ space check some refl refl)

-- ---- each call is of these kinds

module _ (P : Claim) (kinds : Kinds P) where
  refuses :
      (c : Controller) (call : Call) (number : ℕ)
      → eqb number 0 ≡ false
      → [] ≡ lent_space call
      → [] ≡ lent_check call
      → P c (exchanged call (plain (refused number c)))
  refuses c call number some = kinds.refusals c call number [] [] some

  module _ (b : Body) where
    byte_in_lem : (value : ℕ) (phase : Phase)
        → P (stated b phase) (exchanged (byte value) (plain (byte_in (stated b phase) b value phase)))
    unfolding lent_space lent_check byte_in answer_to_go Free NoOrder HeldUpToDate SentUpToDate
    byte_in_lem value (Collecting s) =
        kinds.link (stated b (Collecting s)) _ _ (byte_came value) tt (byte_rests b s value)
        (λ held. byte_strings b s value) (byte_unhanded b s value)
    byte_in_lem value (AckOffered s) =
        kinds.link (stated b (AckOffered s)) _ _ (byte_came value) tt (idle_rests b Nothing tt)
        (λ held. idle_strings b Nothing tt) (idle_unhanded b Nothing)
    byte_in_lem value (Sending s) =
        kinds.link (stated b (Sending s)) _ _ (byte_came value) tt (send_rests b value s) (send_strings b value s)
        (send_unhanded b value s)
    byte_in_lem value (GoOffered held) =
        pick_by (λ (t : Transition). P (stated b (GoOffered held)) (exchanged (byte value) (plain (carried t))))
        (eqb value ack) (λ yes. kinds.yes b held value yes)
        (λ no. kinds.no b held (byte value) (byte_refused value no))
    byte_in_lem value (DataAwaited held) = refuses (stated b (DataAwaited held)) _ 2 refl refl refl
    byte_in_lem value (ResultAwaited operation held) =
        refuses (stated b (ResultAwaited operation held)) _ 2 refl refl refl
    byte_in_lem value (EndOffered interrupt) =
        kinds.link (stated b (EndOffered interrupt)) _ _ (byte_came value) tt (completed_rests b interrupt)
        (λ held. completed_strings b interrupt) (completed_unhanded b interrupt)

    broken_in_lem : (phase : Phase) → P (stated b phase) (exchanged broken (plain (broken_in (stated b phase) b phase)))
    unfolding lent_space lent_check broken_in Free NoOrder SentUpToDate
    broken_in_lem (Collecting s) =
        kinds.link (stated b (Collecting s)) _ _ LinkCall.link_broke tt (idle_rests b Nothing tt)
        (λ held. idle_strings b Nothing tt) (idle_unhanded b Nothing)
    broken_in_lem (AckOffered s) =
        kinds.link (stated b (AckOffered s)) _ _ LinkCall.link_broke tt (idle_rests b Nothing tt)
        (λ held. idle_strings b Nothing tt) (idle_unhanded b Nothing)
    broken_in_lem (Sending s) =
        kinds.link (stated b (Sending s)) _ _ LinkCall.link_broke tt (given_up_rests b s.kind)
        (λ held. given_up_strings b s.kind) (given_up_unhanded b s.kind)
    broken_in_lem (GoOffered held) = kinds.no b held broken SaysNo.link_broke
    broken_in_lem (DataAwaited held) = refuses (stated b (DataAwaited held)) _ 2 refl refl refl
    broken_in_lem (ResultAwaited operation held) = refuses (stated b (ResultAwaited operation held)) _ 2 refl refl refl
    broken_in_lem (EndOffered interrupt) =
        kinds.link (stated b (EndOffered interrupt)) _ _ LinkCall.link_broke tt (completed_rests b interrupt)
        (λ held. completed_strings b interrupt) (completed_unhanded b interrupt)

    tick_in_lem : (phase : Phase) → P (stated b phase) (exchanged tick (plain (tick_in (stated b phase) b phase)))
    unfolding lent_space lent_check tick_in Free
    tick_in_lem =
        by_collecting (λ (phase : Phase) (r : Reply). P (stated b phase) (exchanged tick (plain r))) _
        (λ phase. refuses (stated b phase) tick 4 refl refl refl) _
        (λ s. pick_by (λ (r : Reply). P (stated b (Collecting s)) (exchanged tick (plain r))) (eqb s.length 0)
        (λ idle. kinds.link (stated b (Collecting s)) _ _ ticked tt (tick_rests b s) (λ held. tick_strings b s)
        (tick_unhanded b s))
        (λ part. refuses (stated b (Collecting s)) _ 4 refl refl refl))

    hand_in_lem : (store : Store) (phase : Phase)
        → P (stated b phase) (exchanged (hand store) (plain (hand_in (stated b phase) b store phase)))
    unfolding lent_space lent_check hand_in
    hand_in_lem store =
        by_collecting (λ (phase : Phase) (r : Reply). P (stated b phase) (exchanged (hand store) (plain r))) _
        (λ phase. refuses (stated b phase) (hand store) 4 refl refl refl) _
        (λ s. pick_by (λ (r : Reply). P (stated b (Collecting s)) (exchanged (hand store) (plain r)))
        (eqb s.length 0)
        (λ idle. kinds.handings b s store) (λ part. refuses (stated b (Collecting s)) _ 4 refl refl refl))

    taken_in_lem : (phase : Phase) → P (stated b phase) (exchanged taken (plain (taken_in (stated b phase) b phase)))
    unfolding lent_space lent_check taken_in carry_out_string offered Free
    taken_in_lem =
        by_ack_offered (λ (phase : Phase) (r : Reply). P (stated b phase) (exchanged taken (plain r))) _
        (λ phase. refuses (stated b phase) taken 2 refl refl refl) _
        (λ s. pick_by (λ (t : Transition). P (stated b (AckOffered s)) (exchanged taken (plain (carried t))))
        (eqb s.c0 load_lead)
        (λ load. kinds.link (stated b (AckOffered s)) _ _ (load_taken load) tt (loaded_rests b s.c1)
        (λ held. loaded_strings b s.c1) (loaded_unhanded b s.c1))
        (λ other. kinds.stores b s other))

    data_in_lem :
        (host : Host) (space check : List ℕ) (phase : Phase)
        → P (stated b phase)
        (exchanged (host_data host space check) (data_in (stated b phase) b host space check phase))
    unfolding lent_space lent_check data_in
    data_in_lem host space check =
        by_data_awaited (λ (phase : Phase) (a : Answer). P (stated b phase) (exchanged (host_data host space check) a))
        _
        (λ phase. kinds.refusals (stated b phase) (host_data host space check) 3 space check refl refl refl) _
        (λ held. kinds.writes b held host space check)

    result_in_lem :
        (r : Result) (space check : List ℕ) (phase : Phase)
        → P (stated b phase) (exchanged (result r space check) (result_in (stated b phase) b r space check phase))
    unfolding lent_space lent_check result_in
    result_in_lem r space check =
        by_result_awaited (λ (phase : Phase) (a : Answer). P (stated b phase) (exchanged (result r space check) a)) _
        (λ phase. kinds.refusals (stated b phase) (result r space check) 3 space check refl refl refl) _
        (λ operation held. kinds.results b operation held r space check)

  module _ (c : Controller) where
    abbrev by_soundness :
        (call : Call) (r : Reply)
        → [] ≡ lent_space call
        → [] ≡ lent_check call
        → P c (exchanged call (plain r))
        → P c (exchanged call (plain (pick (is_sound c.body c.phase) r (refused 1 c))))
    by_soundness call r no_space no_check shown =
        pick_by (λ (r : Reply). P c (exchanged call (plain r))) (is_sound c.body c.phase) (λ sane. shown)
        (λ hurt. refuses c call 1 refl no_space no_check)

    reported_at : (n r : ℕ)
        → P c (exchanged (report n r) (plain (pick (leb 4 n) (refused 5 c) (carried (report_noted c n r)))))
    unfolding lent_space lent_check
    reported_at n r =
        pick_by (λ (reply : Reply). P c (exchanged (report n r) (plain reply))) (leb 4 n)
        (λ high. refuses c _ 5 refl refl refl)
        (λ few. let below = leb-false 4 n few in kinds.reports c n r (omega arith))

    pub by_step : (call : Call) → P c (exchanged call (step c call))
    unfolding lent_space lent_check step byte_call broken_call tick_call hand_call taken_call report_call reset_call
        data_call result_call
    by_step (byte value) = by_soundness (byte value) _ refl refl (byte_in_lem c.body value c.phase)
    by_step broken = by_soundness broken _ refl refl (broken_in_lem c.body c.phase)
    by_step tick = by_soundness tick _ refl refl (tick_in_lem c.body c.phase)
    by_step taken = by_soundness taken _ refl refl (taken_in_lem c.body c.phase)
    by_step (report n r) = by_soundness (report n r) _ refl refl (reported_at n r)
    by_step (hand store) = by_soundness (hand store) _ refl refl (hand_in_lem c.body store c.phase)
    by_step reset = by_soundness reset _ refl refl (kinds.resets c)
    by_step (host_data host space check) =
        pick_by (λ (a : Answer). P c (exchanged (host_data host space check) a)) (is_sound c.body c.phase)
        (λ sane. data_in_lem c.body host space check c.phase)
        (λ hurt. kinds.refusals c _ 1 space check refl refl refl)
    by_step (result r space check) =
        pick_by (λ (a : Answer). P c (exchanged (result r space check) a)) (is_sound c.body c.phase)
        (λ sane. result_in_lem c.body r space check c.phase)
        (λ hurt. kinds.refusals c _ 1 space check refl refl refl)
