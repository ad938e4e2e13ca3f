-- What the contracts of the calls' own functions allow, as the toolchain reads them, in either form, by value and in
-- place: exactly the machine's answer (`answers_are_steps`, `steps_are_allowed`). And the functions meet them (`Meet`).
-- Assumes nothing.
use mathlib.Core.Path.{◌≡◌, refl, sym, ap, ap₂, ◌∙◌}
use mathlib.Core.List.{List, []}
use contract.Lifetimes.{Lfts}
use denote.Ref.{Bor, MutBor, at_last}
use Prim.Native.Nat.{ℕ}
use Rattle.std.specs.Prelude.{Result as Step}
use Rattle.common.specs.declared.refusals.Refusal.{Refusal}
use Rattle.transfers.specs.declared.data.HostBytes.{HostBytes}
use Rattle.transfers.specs.declared.verdict.TapeResult.{TapeResult}
use Rattle.transfers.specs.Results.{Result, result_of, result_with}
use Rattle.transfers.specs.Data.{Host, host_of, host_with}
use Rattle.controller.specs.declared.controller.Controller.{Controller}
use Rattle.controller.specs.declared.controller.Answer.{Answer as Told}
use Rattle.controller.specs.declared.controller.Given.{Given}
use Rattle.controller.specs.declared.controller.Reply.{Reply as Replied}
use Rattle.controller.specs.Told.{Reply, told, told_of}
use Rattle.controller.proofs.ToldAnswers.{ToldBy, byte_told, taken_told, broken_told, report_told, tick_told}
use Rattle.controller.proofs.ToldAnswers.{reset_told, hand_told, data_told, result_told}
use Rattle.controller.specs.Records.{Answer, answered, answered_in}
use Rattle.controller.specs.Machine.{byte_call, taken_call, broken_call, report_call, data_call, result_call, tick_call}
use Rattle.controller.specs.Machine.{reset_call, hand_call}
use Rattle.controller.specs.Machine.{Call, plain, step}
use Rattle.controller.specs.Machine.Call.{byte, taken, broken, report, host_data, result, tick, reset, hand}
use Rattle.controller.proofs.controller.Controller.byte.Reads as byte-reads
use Rattle.controller.proofs.controller.Controller.taken.Reads as taken-reads
use Rattle.controller.proofs.controller.Controller.broken.Reads as broken-reads
use Rattle.controller.proofs.controller.Controller.report.Reads as report-reads
use Rattle.controller.proofs.controller.Controller.data.Reads as data-reads
use Rattle.controller.proofs.controller.Controller.result.Reads as result-reads
use Rattle.controller.proofs.controller.Controller.tick.Reads as tick-reads
use Rattle.controller.proofs.controller.Controller.reset.Reads as reset-reads
use Rattle.controller.proofs.controller.Controller.hand.Reads as hand-reads
use Rattle.controller.proofs.controller.Controller.byte_in_place.Reads as byte_in_place-reads
use Rattle.controller.proofs.controller.Controller.taken_in_place.Reads as taken_in_place-reads
use Rattle.controller.proofs.controller.Controller.broken_in_place.Reads as broken_in_place-reads
use Rattle.controller.proofs.controller.Controller.report_in_place.Reads as report_in_place-reads
use Rattle.controller.proofs.controller.Controller.data_in_place.Reads as data_in_place-reads
use Rattle.controller.proofs.controller.Controller.result_in_place.Reads as result_in_place-reads
use Rattle.controller.proofs.controller.Controller.tick_in_place.Reads as tick_in_place-reads
use Rattle.controller.proofs.controller.Controller.reset_in_place.Reads as reset_in_place-reads
use Rattle.controller.proofs.controller.Controller.hand_in_place.Reads as hand_in_place-reads
use Rattle.controller.proofs.controller.Controller.byte.Met as byte-met
use Rattle.controller.proofs.controller.Controller.byte.Statement as byte-statement
use Rattle.controller.proofs.controller.Controller.taken.Met as taken-met
use Rattle.controller.proofs.controller.Controller.taken.Statement as taken-statement
use Rattle.controller.proofs.controller.Controller.broken.Met as broken-met
use Rattle.controller.proofs.controller.Controller.broken.Statement as broken-statement
use Rattle.controller.proofs.controller.Controller.report.Met as report-met
use Rattle.controller.proofs.controller.Controller.report.Statement as report-statement
use Rattle.controller.proofs.controller.Controller.data.Met as data-met
use Rattle.controller.proofs.controller.Controller.data.Statement as data-statement
use Rattle.controller.proofs.controller.Controller.result.Met as result-met
use Rattle.controller.proofs.controller.Controller.result.Statement as result-statement
use Rattle.controller.proofs.controller.Controller.tick.Met as tick-met
use Rattle.controller.proofs.controller.Controller.tick.Statement as tick-statement
use Rattle.controller.proofs.controller.Controller.reset.Met as reset-met
use Rattle.controller.proofs.controller.Controller.hand.Met as hand-met
use Rattle.controller.proofs.controller.Controller.reset.Statement as reset-statement
use Rattle.controller.proofs.controller.Controller.hand.Statement as hand-statement
use Rattle.controller.proofs.controller.Controller.byte_in_place.Met as byte_in_place-met
use Rattle.controller.proofs.controller.Controller.byte_in_place.Statement as byte_in_place-statement
use Rattle.controller.proofs.controller.Controller.taken_in_place.Met as taken_in_place-met
use Rattle.controller.proofs.controller.Controller.taken_in_place.Statement as taken_in_place-statement
use Rattle.controller.proofs.controller.Controller.broken_in_place.Met as broken_in_place-met
use Rattle.controller.proofs.controller.Controller.broken_in_place.Statement as broken_in_place-statement
use Rattle.controller.proofs.controller.Controller.report_in_place.Met as report_in_place-met
use Rattle.controller.proofs.controller.Controller.report_in_place.Statement as report_in_place-statement
use Rattle.controller.proofs.controller.Controller.data_in_place.Met as data_in_place-met
use Rattle.controller.proofs.controller.Controller.data_in_place.Statement as data_in_place-statement
use Rattle.controller.proofs.controller.Controller.result_in_place.Met as result_in_place-met
use Rattle.controller.proofs.controller.Controller.result_in_place.Statement as result_in_place-statement
use Rattle.controller.proofs.controller.Controller.tick_in_place.Met as tick_in_place-met
use Rattle.controller.proofs.controller.Controller.tick_in_place.Statement as tick_in_place-statement
use Rattle.controller.proofs.controller.Controller.reset_in_place.Met as reset_in_place-met
use Rattle.controller.proofs.controller.Controller.reset_in_place.Statement as reset_in_place-statement
use Rattle.controller.proofs.controller.Controller.hand_in_place.Met as hand_in_place-met
use Rattle.controller.proofs.controller.Controller.hand_in_place.Statement as hand_in_place-statement
use Rattle.controller.proofs.controller.Controller.fresh.Met as fresh-met
use Rattle.controller.proofs.controller.Controller.fresh.Statement as fresh-statement

-- ---- what the contracts promise

-- A call has two functions: by value it takes the state and hands back the next one, and in place it is lent the state
-- and leaves the next one there.
pub data Form : Type 0 where
  by_value : Form
  in_place : Form

-- the answer of a call that is lent nothing, by value
pub record Plainly (Promise : Replied Controller Told → Type 0) (answer : Answer) : Type 0 where
  pub reply : Replied Controller Told
  pub promise : Promise reply
  pub same : answer ≡ plain (told reply)

-- and in place, of a state that is lent, wherever it lies: what is left there, and what the function returns
pub record PlainlyInPlace
    {State Inputs Answered : Type 0}
    (Promise : Lfts 1 → MutBor State × Inputs → Step Told Refusal → MutBor State × Inputs → Type 0)
    (inputs : Inputs)
    (tells : State → Step Told Refusal → Answered)
    (state : State)
    (answer : Answered)
    : Type 0 where
  pub lifetimes : Lfts 1
  pub lent : MutBor State
  pub left : State
  pub returned : Step Told Refusal
  pub holds : lent.now ≡ state
  pub promise : Promise lifetimes (lent, inputs) returned (at_last lent left, inputs)
  pub same : answer ≡ tells left returned

-- the answer of a call that is lent space, by value: three slices of the data call, four of the result, wherever they
-- lie
pub record DataLent (c : Controller) (host : Host) (space check : List ℕ) (answer : Answer) : Type 0 where
  pub lifetimes : Lfts 3
  pub host_slice : Bor (List ℕ)
  pub space_slice : MutBor (List ℕ)
  pub check_slice : MutBor (List ℕ)
  pub transfer : Replied Controller Given
  pub holds_host : host_of host_slice.now host.place ≡ host
  pub holds_space : space_slice.now ≡ space
  pub holds_check : check_slice.now ≡ check
  pub promise :
      data-reads.Post lifetimes (c, (host_slice, (host.place, (space_slice, (check_slice, tt))))) transfer
      (c, (host_slice, (host.place, (at_last space_slice answer.space, (at_last check_slice answer.check, tt)))))
  pub same : answer ≡ answered transfer answer.space answer.check

pub record ResultLent (c : Controller) (r : Result) (space check : List ℕ) (answer : Answer) : Type 0 where
  pub lifetimes : Lfts 4
  pub image_slice : Bor (List ℕ)
  pub marks_slice : Bor (List ℕ)
  pub space_slice : MutBor (List ℕ)
  pub check_slice : MutBor (List ℕ)
  pub transfer : Replied Controller Given
  pub holds_image : image_slice.now ≡ r.image
  pub holds_marks : marks_slice.now ≡ r.marks
  pub holds_space : space_slice.now ≡ space
  pub holds_check : check_slice.now ≡ check
  pub promise :
      result-reads.Post lifetimes
      (c, (r.code, (r.mark, (r.late, (image_slice, (marks_slice, (space_slice, (check_slice, tt)))))))) transfer (
        c,
        (
          r.code,
          (
            r.mark,
            (
              r.late,
              (
                image_slice,
                (marks_slice, (at_last space_slice answer.space, (at_last check_slice answer.check, tt))),
              ),
            ),
          ),
        ),
      )
  pub same : answer ≡ answered transfer answer.space answer.check

-- and in place, of a state that is lent: the host's bytes or what came of the operation, and the two slices, wherever
-- they lie, and what is left in state and slices
abbrev pub Lends : Type 0 → Type 0 → Type 0
Lends State Input = MutBor State × (Bor Input × (MutBor (List ℕ) × (MutBor (List ℕ) × Unit)))

pub record LentInPlace
    {State Input Said Answered : Type 0}
    (Promise : Lfts 5 → Lends State Input → Step Given Refusal → Lends State Input → Type 0)
    (says : Input → Said)
    (tells : State → Step Given Refusal → List ℕ → List ℕ → Answered)
    (state : State)
    (said : Said)
    (space check : List ℕ)
    (answer : Answered)
    : Type 0 where
  pub lifetimes : Lfts 5
  pub lent : MutBor State
  pub input : Bor Input
  pub space_slice : MutBor (List ℕ)
  pub check_slice : MutBor (List ℕ)
  pub left : State
  pub returned : Step Given Refusal
  pub space_left : List ℕ
  pub check_left : List ℕ
  pub holds : lent.now ≡ state
  pub holds_input : says input.now ≡ said
  pub holds_space : space_slice.now ≡ space
  pub holds_check : check_slice.now ≡ check
  pub promise :
      Promise lifetimes (lent, (input, (space_slice, (check_slice, tt)))) returned
      (at_last lent left, (input, (at_last space_slice space_left, (at_last check_slice check_left, tt))))
  pub same : answer ≡ tells left returned space_left check_left

abbrev pub shown : {A : Type 0} → A → Bor A
shown a = record { ref_ptr = (0, 0); now = a }

abbrev pub somewhere : {A : Type 0} → A → MutBor A
somewhere a = record { ref_ptr = (0, 0); ghost_name = 0; now = a }

-- what came of an operation, as the program has it
abbrev pub tape_of : Result → TapeResult
tape_of r = record { code = r.code; mark = r.mark; late = r.late; image = shown r.image; marks = shown r.marks }

-- the host's bytes
abbrev pub host_bytes_of : Host → HostBytes
host_bytes_of host = record { bytes = shown host.bytes; place = host.place }

-- the answer of a call in place that is lent nothing
abbrev plain_of : Controller → Step Told Refusal → Answer
plain_of c returned = plain (told_of c returned)

-- what the contract of a call's function of this form allows as its answer
unfoldable pub AllowsBy : Form → Controller → Call → Answer → Type 0
AllowsBy by_value c (byte b) = Plainly (λ (r : Replied Controller Told). byte-reads.Post tt (c, (b, tt)) r (c, (b, tt)))
AllowsBy by_value c taken = Plainly (λ (r : Replied Controller Told). taken-reads.Post tt (c, tt) r (c, tt))
AllowsBy by_value c broken = Plainly (λ (r : Replied Controller Told). broken-reads.Post tt (c, tt) r (c, tt))
AllowsBy by_value c (report drive bits) =
    Plainly (λ (r : Replied Controller Told). report-reads.Post tt (c, (drive, (bits, tt))) r (c, (drive, (bits, tt))))
AllowsBy by_value c tick = Plainly (λ (r : Replied Controller Told). tick-reads.Post tt (c, tt) r (c, tt))
AllowsBy by_value c (host_data host space check) = DataLent c host space check
AllowsBy by_value c (result r space check) = ResultLent c r space check
AllowsBy by_value c reset = Plainly (λ (r : Replied Controller Told). reset-reads.Post tt (c, tt) r (c, tt))
AllowsBy by_value c (hand store) =
    Plainly (λ (r : Replied Controller Told). hand-reads.Post tt (c, (store, tt)) r (c, (store, tt)))
AllowsBy in_place c (byte b) = PlainlyInPlace byte_in_place-reads.Post (b, tt) plain_of c
AllowsBy in_place c taken = PlainlyInPlace taken_in_place-reads.Post tt plain_of c
AllowsBy in_place c broken = PlainlyInPlace broken_in_place-reads.Post tt plain_of c
AllowsBy in_place c (report drive bits) = PlainlyInPlace report_in_place-reads.Post (drive, (bits, tt)) plain_of c
AllowsBy in_place c tick = PlainlyInPlace tick_in_place-reads.Post tt plain_of c
AllowsBy in_place c (host_data host space check) =
    LentInPlace data_in_place-reads.Post host_with answered_in c host space check
AllowsBy in_place c (result r space check) =
    LentInPlace result_in_place-reads.Post result_with answered_in c r space check
AllowsBy in_place c reset = PlainlyInPlace reset_in_place-reads.Post tt plain_of c
AllowsBy in_place c (hand store) = PlainlyInPlace hand_in_place-reads.Post (store, tt) plain_of c

-- what the contract of either of a call's own functions allows as its answer
pub record Allows (c : Controller) (call : Call) (answer : Answer) : Type 0 where
  pub form : Form
  pub by : AllowsBy form c call answer

-- so what a call of some state leaves and returns, wherever that state and what the call is lent lie
pub left_in_place :
    {State Inputs Answered : Type 0}
    {Promise : Lfts 1 → MutBor State × Inputs → Step Told Refusal → MutBor State × Inputs → Type 0}
    {inputs : Inputs}
    {tells : State → Step Told Refusal → Answered}
    {state : State}
    {answer : Answered}
    (left : State)
    (returned : Step Told Refusal)
    → Promise ([], tt) (somewhere state, inputs) returned (at_last (somewhere state) left, inputs)
    → answer ≡ tells left returned
    → PlainlyInPlace Promise inputs tells state answer
left_in_place {state = state} left returned promise same =
    record {
      lifetimes = ([], tt);
      lent = somewhere state;
      left = left;
      returned = returned;
      holds = refl;
      promise = promise;
      same = same;
    }

pub given_in_place :
    {State Input Said Answered : Type 0}
    {Promise : Lfts 5 → Lends State Input → Step Given Refusal → Lends State Input → Type 0}
    {says : Input → Said}
    {tells : State → Step Given Refusal → List ℕ → List ℕ → Answered}
    {state : State}
    {space check : List ℕ}
    {answer : Answered}
    (input : Input)
    (left : State)
    (returned : Step Given Refusal)
    (space_left check_left : List ℕ)
    → Promise ([], ([], ([], ([], ([], tt)))))
    (somewhere state, (shown input, (somewhere space, (somewhere check, tt)))) returned (
      at_last (somewhere state) left,
      (shown input, (at_last (somewhere space) space_left, (at_last (somewhere check) check_left, tt))),
    )
    → answer ≡ tells left returned space_left check_left
    → LentInPlace Promise says tells state (says input) space check answer
given_in_place {state = state} {space = space} {check = check} input left returned space_left check_left promise same =
    record {
      lifetimes = ([], ([], ([], ([], ([], tt)))));
      lent = somewhere state;
      input = shown input;
      space_slice = somewhere space;
      check_slice = somewhere check;
      left = left;
      returned = returned;
      space_left = space_left;
      check_left = check_left;
      holds = refl;
      holds_input = refl;
      holds_space = refl;
      holds_check = refl;
      promise = promise;
      same = same;
    }

-- what a call in place leaves and returns is what it is called for
pub left_as_called :
    {State Input Said Answered : Type 0}
    {Promise : Lfts 5 → Lends State Input → Step Given Refusal → Lends State Input → Type 0}
    {says : Input → Said}
    {tells : State → Step Given Refusal → List ℕ → List ℕ → Answered}
    {state : State}
    {said : Said}
    {space check : List ℕ}
    {answer : Answered}
    (called : State → Said → List ℕ → List ℕ → Answered)
    (allowed : LentInPlace Promise says tells state said space check answer)
    → tells allowed.left allowed.returned allowed.space_left allowed.check_left
    ≡ called allowed.lent.now (says allowed.input.now) allowed.space_slice.now allowed.check_slice.now
    → answer ≡ called state said space check
left_as_called {state = state} {said = said} called allowed promise =
    allowed.same
    ∙ promise
    ∙ ap₂ (λ s i. called s i allowed.space_slice.now allowed.check_slice.now) allowed.holds allowed.holds_input
    ∙ ap₂ (λ (s k : List ℕ). called state said s k) allowed.holds_space allowed.holds_check

-- an allowed answer is the machine's
answers_are_steps_by : (form : Form) (c : Controller) (call : Call) (answer : Answer) → AllowsBy form c call answer
    → answer ≡ step c call
unfolding AllowsBy step
answers_are_steps_by by_value c (byte b) answer allowed = allowed.same ∙ ap plain allowed.promise
answers_are_steps_by by_value c taken answer allowed = allowed.same ∙ ap plain allowed.promise
answers_are_steps_by by_value c broken answer allowed = allowed.same ∙ ap plain allowed.promise
answers_are_steps_by by_value c (report drive r) answer allowed = allowed.same ∙ ap plain allowed.promise
answers_are_steps_by by_value c tick answer allowed = allowed.same ∙ ap plain allowed.promise
answers_are_steps_by by_value c (host_data host space check) answer allowed =
    allowed.same
    ∙ allowed.promise
    ∙ ap (λ (h : Host). data_call c h allowed.space_slice.now allowed.check_slice.now) allowed.holds_host
    ∙ ap₂ (λ (s k : List ℕ). data_call c host s k) allowed.holds_space allowed.holds_check
answers_are_steps_by by_value c (result r space check) answer allowed =
    allowed.same
    ∙ allowed.promise
    ∙ ap₂ (λ (i m : List ℕ). result_call c (result_of r.code r.mark r.late i m) allowed.space_slice.now
    allowed.check_slice.now)
    allowed.holds_image allowed.holds_marks
    ∙ ap₂ (λ (s k : List ℕ). result_call c r s k) allowed.holds_space allowed.holds_check
answers_are_steps_by by_value c reset answer allowed = allowed.same ∙ ap plain allowed.promise
answers_are_steps_by by_value c (hand store) answer allowed = allowed.same ∙ ap plain allowed.promise
answers_are_steps_by in_place c (byte b) answer allowed =
    allowed.same ∙ ap plain allowed.promise ∙ ap (λ (d : Controller). plain (byte_call d b)) allowed.holds
answers_are_steps_by in_place c taken answer allowed =
    allowed.same ∙ ap plain allowed.promise ∙ ap (λ (d : Controller). plain (taken_call d)) allowed.holds
answers_are_steps_by in_place c broken answer allowed =
    allowed.same ∙ ap plain allowed.promise ∙ ap (λ (d : Controller). plain (broken_call d)) allowed.holds
answers_are_steps_by in_place c (report drive bits) answer allowed =
    allowed.same ∙ ap plain allowed.promise ∙ ap (λ (d : Controller). plain (report_call d drive bits)) allowed.holds
answers_are_steps_by in_place c tick answer allowed =
    allowed.same ∙ ap plain allowed.promise ∙ ap (λ (d : Controller). plain (tick_call d)) allowed.holds
answers_are_steps_by in_place c (host_data host space check) answer allowed =
    left_as_called data_call allowed allowed.promise
answers_are_steps_by in_place c (result r space check) answer allowed =
    left_as_called result_call allowed allowed.promise
answers_are_steps_by in_place c reset answer allowed =
    allowed.same ∙ ap plain allowed.promise ∙ ap (λ (d : Controller). plain (reset_call d)) allowed.holds
answers_are_steps_by in_place c (hand store) answer allowed =
    allowed.same ∙ ap plain allowed.promise ∙ ap (λ (d : Controller). plain (hand_call d store)) allowed.holds

pub answers_are_steps : (c : Controller) (call : Call) (answer : Answer) → Allows c call answer → answer ≡ step c call
answers_are_steps c call answer allowed = answers_are_steps_by allowed.form c call answer allowed.by

-- an answer that a value of the program tells
plainly : {r : Reply} → ToldBy r → Plainly (λ (reply : Replied Controller Told). told reply ≡ r) (plain r)
plainly t = record { reply = t.reply; promise = t.same; same = ap plain (sym t.same) }

-- and in place, of a state that lies anywhere
told_in_place :
    {Inputs : Type 0}
    {Promise : Lfts 1 → MutBor Controller × Inputs → Step Told Refusal → MutBor Controller × Inputs → Type 0}
    {inputs : Inputs}
    {c : Controller}
    {r : Reply}
    (t : ToldBy r)
    → Promise ([], tt) (somewhere c, inputs) t.reply.answer (at_last (somewhere c) t.reply.state, inputs)
    → PlainlyInPlace Promise inputs plain_of c (plain r)
told_in_place t promise = left_in_place t.reply.state t.reply.answer promise (ap plain (sym t.same))

-- the machine's own answer is allowed, in each form
pub steps_are_allowed : (form : Form) (c : Controller) (call : Call) → AllowsBy form c call (step c call)
unfolding AllowsBy step
steps_are_allowed by_value c (byte b) = plainly (byte_told c b)
steps_are_allowed by_value c taken = plainly (taken_told c)
steps_are_allowed by_value c broken = plainly (broken_told c)
steps_are_allowed by_value c (report drive bits) = plainly (report_told c drive bits)
steps_are_allowed by_value c (host_data host space check) =
    record {
      lifetimes = ([], ([], ([], tt)));
      host_slice = shown host.bytes;
      space_slice = somewhere space;
      check_slice = somewhere check;
      transfer = (data_told c host space check).reply;
      holds_host = refl;
      holds_space = refl;
      holds_check = refl;
      promise = sym (data_told c host space check).same;
      same = (data_told c host space check).same;
    }
steps_are_allowed by_value c (result r space check) =
    record {
      lifetimes = ([], ([], ([], ([], tt))));
      image_slice = shown r.image;
      marks_slice = shown r.marks;
      space_slice = somewhere space;
      check_slice = somewhere check;
      transfer = (result_told c r space check).reply;
      holds_image = refl;
      holds_marks = refl;
      holds_space = refl;
      holds_check = refl;
      promise = sym (result_told c r space check).same;
      same = (result_told c r space check).same;
    }
steps_are_allowed by_value c tick = plainly (tick_told c)
steps_are_allowed by_value c reset = plainly (reset_told c)
steps_are_allowed by_value c (hand store) = plainly (hand_told c store)
steps_are_allowed in_place c (byte b) = told_in_place (byte_told c b) (byte_told c b).same
steps_are_allowed in_place c taken = told_in_place (taken_told c) (taken_told c).same
steps_are_allowed in_place c broken = told_in_place (broken_told c) (broken_told c).same
steps_are_allowed in_place c (report drive bits) =
    told_in_place (report_told c drive bits) (report_told c drive bits).same
steps_are_allowed in_place c (host_data host space check) =
    let by = data_told c host space check in
    given_in_place (host_bytes_of host) by.reply.state by.reply.answer _ _ (sym by.same) by.same
steps_are_allowed in_place c (result r space check) =
    let by = result_told c r space check in
    given_in_place (tape_of r) by.reply.state by.reply.answer _ _ (sym by.same) by.same
steps_are_allowed in_place c tick = told_in_place (tick_told c) (tick_told c).same
steps_are_allowed in_place c reset = told_in_place (reset_told c) (reset_told c).same
steps_are_allowed in_place c (hand store) = told_in_place (hand_told c store) (hand_told c store).same

-- ---- the functions

-- each call's own function of either form, and the one that makes a fresh controller, meets its contract
pub record Meet (M : Type 1) : Type 2 where
  pub fresh : fresh-statement.statement M
  pub byte : byte-statement.statement M
  pub taken : taken-statement.statement M
  pub broken : broken-statement.statement M
  pub report : report-statement.statement M
  pub host_data : data-statement.statement M
  pub result : result-statement.statement M
  pub tick : tick-statement.statement M
  pub reset : reset-statement.statement M
  pub hand : hand-statement.statement M
  pub byte_in_place : byte_in_place-statement.statement M
  pub taken_in_place : taken_in_place-statement.statement M
  pub broken_in_place : broken_in_place-statement.statement M
  pub report_in_place : report_in_place-statement.statement M
  pub host_data_in_place : data_in_place-statement.statement M
  pub result_in_place : result_in_place-statement.statement M
  pub tick_in_place : tick_in_place-statement.statement M
  pub reset_in_place : reset_in_place-statement.statement M
  pub hand_in_place : hand_in_place-statement.statement M

pub all_met : {M : Type 1} → Meet M
all_met =
    record {
      fresh = fresh-met.met;
      byte = byte-met.met;
      taken = taken-met.met;
      broken = broken-met.met;
      report = report-met.met;
      host_data = data-met.met;
      result = result-met.met;
      tick = tick-met.met;
      reset = reset-met.met;
      hand = hand-met.met;
      byte_in_place = byte_in_place-met.met;
      taken_in_place = taken_in_place-met.met;
      broken_in_place = broken_in_place-met.met;
      report_in_place = report_in_place-met.met;
      host_data_in_place = data_in_place-met.met;
      result_in_place = result_in_place-met.met;
      tick_in_place = tick_in_place-met.met;
      reset_in_place = reset_in_place-met.met;
      hand_in_place = hand_in_place-met.met;
    }
