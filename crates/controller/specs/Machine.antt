-- The machine of document 01, with what document 02 asks for: its nine calls as one type, a step, and a run over a list
-- of calls. "Calls: byte; taken; broken; report; data; result; tick; reset. The state goes in and the next state comes
-- out, with one action or none"; the ninth hands over a store (document 02, request 8).
-- Assumes nothing.
use Rattle.std.specs.Prelude.{ℕ, Bool, not, List, [], ◌∷◌, leb, eqb, length}
use Rattle.common.specs.Pick.{pick}
use Rattle.common.specs.Refusals.{state_damaged, link_not_awaited, transfer_not_awaited, not_idle, no_such_drive}
use Rattle.operations.specs.declared.operation.Operation.{Operation}
use Rattle.operations.specs.declared.store.Store.{Store}
use Rattle.status.specs.declared.drives.Drive.{Drive}
use Rattle.link.specs.declared.state.Collected.{Collected}
use Rattle.link.specs.declared.state.Phase.{Phase}
use Rattle.link.specs.declared.state.Phase.TheVariants.{Collecting, AckOffered, Sending, EndOffered}
use Rattle.link.specs.declared.state.Phase.TheVariants.{GoOffered, DataAwaited, ResultAwaited}
use Rattle.link.specs.declared.state.Body.{Body}
use Rattle.controller.specs.declared.controller.Controller.{Controller}
use Rattle.link.specs.declared.state.Action.TheVariants.{Nothing}
use Rattle.std.specs.Prelude.{None}
use Rattle.link.specs.State.{Transition}
use Rattle.controller.specs.Told.{Reply}
use Rattle.link.specs.State.{store_of, current_drive, note_report, reset_state, idle}
use Rattle.link.specs.State.{when_collecting, when_ack_offered, when_data_awaited, when_result_awaited}
use Rattle.link.specs.Completion.{complete}
use Rattle.link.specs.Bytes.{load_lead}
use Rattle.link.specs.Link.{collect_byte, answer_to_send, give_up, idle_tick}
use Rattle.link.specs.Loads.{carry_out_load}
use Rattle.controller.specs.Controller.{carried, refused}
use Rattle.controller.specs.Stores.{carry_out, answer_to_go, no_to_go}
use Rattle.transfers.specs.Data.{Host, data_refusal}
use Rattle.transfers.specs.Results.{Result, result_refusal}
use Rattle.controller.specs.Records.{Answer, data_done, result_done}
use Rattle.link.specs.Damaged.{is_sound}

-- ---- the nine calls

-- A byte, in each phase; the answers while data or a result is awaited are refusals.
unfoldable pub byte_in : Controller → Body → ℕ → Phase → Reply
byte_in c b byte (Collecting s) = carried (collect_byte b s byte)
byte_in c b byte (AckOffered s) = carried (idle b Nothing)
byte_in c b byte (Sending s) = carried (answer_to_send b byte s)
byte_in c b byte (GoOffered store) = carried (answer_to_go b byte store)
byte_in c b byte (DataAwaited store) = refused link_not_awaited c
byte_in c b byte (ResultAwaited operation store) = refused link_not_awaited c
byte_in c b byte (EndOffered interrupt) = carried (complete b interrupt)

-- "Broken while collecting drops what was collected, then review."; "broken or any byte drops it"; "on broken, the send
-- is given up"; GO and EOR: "anything but #06 is a no"
unfoldable pub broken_in : Controller → Body → Phase → Reply
broken_in c b (Collecting s) = carried (idle b Nothing)
broken_in c b (AckOffered s) = carried (idle b Nothing)
broken_in c b (Sending s) = carried (give_up b s.kind)
broken_in c b (GoOffered store) = carried (no_to_go b store)
broken_in c b (DataAwaited store) = refused link_not_awaited c
broken_in c b (ResultAwaited operation store) = refused link_not_awaited c
broken_in c b (EndOffered interrupt) = carried (complete b interrupt)

-- "4 tick when not idle"
unfoldable pub tick_in : Controller → Body → Phase → Reply
tick_in c b =
    when_collecting (λ s. pick (eqb s.length 0) (carried (idle_tick b (Collecting s))) (refused not_idle c))
    (refused not_idle c)

-- "1 a field out of range"
abbrev pub is_damaged : Controller → Bool
is_damaged c = not (is_sound c.body c.phase)

-- Each call first looks at the state.
unfoldable pub byte_call : Controller → ℕ → Reply
byte_call c byte = pick (is_sound c.body c.phase) (byte_in c c.body byte c.phase) (refused state_damaged c)

-- the link is broken
unfoldable pub broken_call : Controller → Reply
broken_call c = pick (is_sound c.body c.phase) (broken_in c c.body c.phase) (refused state_damaged c)

-- a tick
unfoldable pub tick_call : Controller → Reply
tick_call c = pick (is_sound c.body c.phase) (tick_in c c.body c.phase) (refused state_damaged c)

-- "Then taken carries it out": a load or a store, by its lead
unfoldable pub carry_out_string : Body → Collected → Transition
carry_out_string b s = pick (eqb s.c0 load_lead) (carry_out_load b s.c1) (carry_out b (store_of s))

-- "2 .. taken with no ACK offered"
unfoldable pub taken_in : Controller → Body → Phase → Reply
taken_in c b = when_ack_offered (λ s. carried (carry_out_string b s)) (refused link_not_awaited c)

-- the ACK is taken
unfoldable pub taken_call : Controller → Reply
taken_call c = pick (is_sound c.body c.phase) (taken_in c c.body c.phase) (refused state_damaged c)

-- "A store handed over is carried out as if its ACK had just been taken."; "A handing when not idle is refused as 4"
-- (document 02, request 8)
unfoldable pub hand_in : Controller → Body → Store → Phase → Reply
hand_in c b store =
    when_collecting (λ s. pick (eqb s.length 0) (carried (carry_out b store)) (refused not_idle c)) (refused not_idle c)

-- a store is handed over
unfoldable pub hand_call : Controller → Store → Reply
hand_call c store = pick (is_sound c.body c.phase) (hand_in c c.body store c.phase) (refused state_damaged c)

-- a report is noted, in any phase
abbrev pub report_noted : Controller → ℕ → ℕ → Transition
report_noted c drive report =
    record {
      body = note_report c.body drive report;
      phase = c.phase;
      action = Nothing;
      handed = None;
    }

-- "5 drive above 3"
unfoldable pub report_call : Controller → ℕ → ℕ → Reply
report_call c drive report =
    pick (is_sound c.body c.phase)
    (pick (leb 4 drive) (refused no_such_drive c) (carried (report_noted c drive report)))
    (refused state_damaged c)

-- "Reset, by call or store": the call
unfoldable pub reset_call : Controller → Reply
reset_call c = pick (is_sound c.body c.phase) (carried (reset_state c.body)) (refused state_damaged c)

-- a refused data or result call: "state and buffers unchanged"
abbrev pub unchanged : ℕ → Controller → List ℕ → List ℕ → Answer
unchanged number c space check = record { reply = refused number c; bytes = 0; space = space; check = check }

-- the data call of a write, by the drive that it writes
unfoldable pub data_for : Controller → Body → Drive → Store → Host → List ℕ → List ℕ → Answer
data_for c b drive store host space check =
    let refusal = data_refusal drive store (length host.bytes) host.place (length space) (length check) in
    pick (eqb refusal 0) (data_done b drive store host space check) (unchanged refusal c space check)

-- "3 data or result not awaited"
unfoldable pub data_in : Controller → Body → Host → List ℕ → List ℕ → Phase → Answer
data_in c b host space check =
    when_data_awaited (λ store. data_for c b (current_drive b) store host space check)
    (unchanged transfer_not_awaited c space check)

-- the data call, with the space it is lent and the check store: "The data call takes that place" (document 02, request
-- 6)
unfoldable pub data_call : Controller → Host → List ℕ → List ℕ → Answer
data_call c host space check =
    pick (is_sound c.body c.phase) (data_in c c.body host space check c.phase)
    (unchanged state_damaged c space check)

-- the result of an operation, by the drive that carried it out
unfoldable pub result_for : Controller → Body → Drive → Operation → Store → Result → List ℕ → List ℕ → Answer
result_for c b drive operation store r space check =
    pick (eqb (result_refusal drive operation store r (length check)) 0)
    (result_done b drive operation store r space check)
    (unchanged (result_refusal drive operation store r (length check)) c space check)

-- "3 data or result not awaited"
unfoldable pub result_in : Controller → Body → Result → List ℕ → List ℕ → Phase → Answer
result_in c b r space check =
    when_result_awaited (λ operation store. result_for c b (current_drive b) operation store r space check)
    (unchanged transfer_not_awaited c space check)

-- the result, with the space it is lent and the check store
unfoldable pub result_call : Controller → Result → List ℕ → List ℕ → Answer
result_call c r space check =
    pick (is_sound c.body c.phase) (result_in c c.body r space check c.phase)
    (unchanged state_damaged c space check)

-- ---- a step and a run

-- a call with all its inputs, lent space included
pub data Call : Type 0 where
  byte : ℕ → Call
  taken : Call
  broken : Call
  report : ℕ → ℕ → Call
  host_data : Host → List ℕ → List ℕ → Call
  result : Result → List ℕ → List ℕ → Call
  tick : Call
  reset : Call
  hand : Store → Call

-- The kinds of call: a value by what a call of one kind brings, and another otherwise. Of the calls that may bring a
-- store, taken and hand:
abbrev pub when_store_comes {ℓ} : {A : Type ℓ} → A → (Store → A) → A → Call → A
when_store_comes at_taken at_hand otherwise taken = at_taken
when_store_comes at_taken at_hand otherwise (hand store) = at_hand store
when_store_comes at_taken at_hand otherwise (byte b) = otherwise
when_store_comes at_taken at_hand otherwise broken = otherwise
when_store_comes at_taken at_hand otherwise (report drive r) = otherwise
when_store_comes at_taken at_hand otherwise (host_data host space check) = otherwise
when_store_comes at_taken at_hand otherwise (result r space check) = otherwise
when_store_comes at_taken at_hand otherwise tick = otherwise
when_store_comes at_taken at_hand otherwise reset = otherwise

-- of the calls that are lent space and the check store, the data call and the result
abbrev pub when_lent {ℓ} :
    {A : Type ℓ} → (Host → List ℕ → List ℕ → A) → (Result → List ℕ → List ℕ → A) → A → Call → A
when_lent at_data at_result otherwise (host_data host space check) = at_data host space check
when_lent at_data at_result otherwise (result r space check) = at_result r space check
when_lent at_data at_result otherwise (byte b) = otherwise
when_lent at_data at_result otherwise taken = otherwise
when_lent at_data at_result otherwise broken = otherwise
when_lent at_data at_result otherwise (report drive r) = otherwise
when_lent at_data at_result otherwise tick = otherwise
when_lent at_data at_result otherwise reset = otherwise
when_lent at_data at_result otherwise (hand store) = otherwise

-- of a report, and of the reset
abbrev pub when_report_or_reset {ℓ} : {A : Type ℓ} → (ℕ → ℕ → A) → A → A → Call → A
when_report_or_reset at_report at_reset otherwise (report drive r) = at_report drive r
when_report_or_reset at_report at_reset otherwise reset = at_reset
when_report_or_reset at_report at_reset otherwise (byte b) = otherwise
when_report_or_reset at_report at_reset otherwise taken = otherwise
when_report_or_reset at_report at_reset otherwise broken = otherwise
when_report_or_reset at_report at_reset otherwise (host_data host space check) = otherwise
when_report_or_reset at_report at_reset otherwise (result r space check) = otherwise
when_report_or_reset at_report at_reset otherwise tick = otherwise
when_report_or_reset at_report at_reset otherwise (hand store) = otherwise

-- an answer of a call that is lent nothing
abbrev pub plain : Reply → Answer
plain r = record { reply = r; bytes = 0; space = []; check = [] }

-- "The state goes in and the next state comes out, with one action or none"
unfoldable pub step : Controller → Call → Answer
step c (byte b) = plain (byte_call c b)
step c taken = plain (taken_call c)
step c broken = plain (broken_call c)
step c (report drive r) = plain (report_call c drive r)
step c (host_data host space check) = data_call c host space check
step c (result r space check) = result_call c r space check
step c tick = plain (tick_call c)
step c reset = plain (reset_call c)
step c (hand store) = plain (hand_call c store)

-- a call and its answer
pub record Exchange : Type 0 where
  pub call : Call
  pub answer : Answer

-- "each call gets the state that the last one handed back": the calls with their answers, in order
unfoldable pub run : Controller → List Call → List Exchange
run c [] = []
run c (call ∷ calls) = record { call = call; answer = step c call } ∷ run (step c call).reply.controller calls
