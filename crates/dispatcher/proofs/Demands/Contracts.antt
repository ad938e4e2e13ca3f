-- What the contracts of the dispatcher's calls allow, as the toolchain reads them, in either form, by value and in
-- place: exactly the answer of a step (`answers_are_steps`, `steps_are_allowed`). And the functions meet them (`Meet`).
-- Assumes nothing.
use mathlib.Core.Path.{◌≡◌, refl, sym, ap, ap₂, ◌∙◌}
use mathlib.Core.Bool.{Bool, true, false}
use mathlib.Core.List.{List, []}
use contract.Lifetimes.{Lfts}
use denote.Ref.{Bor, MutBor, at_last}
use Prim.Native.Nat.{ℕ}
use Rattle.std.specs.Prelude.{Result as Step}
use Rattle.common.specs.Pick.{pick}
use Rattle.common.specs.declared.refusals.Refusal.{Refusal}
use Rattle.transfers.specs.Results.{Result, result_of, result_with}
use Rattle.transfers.specs.Data.{Host, host_of, host_with}
use Rattle.controller.specs.declared.controller.Answer.{Answer as Told}
use Rattle.controller.specs.declared.controller.Given.{Given}
use Rattle.controller.specs.declared.controller.Reply.{Reply as Replied}
use Rattle.controller.specs.Told.{Reply}
use Rattle.controller.proofs.ToldAnswers.{byte_told, taken_told, broken_told, report_told, tick_told, reset_told}
use Rattle.controller.proofs.Demands.Contracts.{Form, PlainlyInPlace, LentInPlace, shown, somewhere, host_bytes_of}
use Rattle.controller.proofs.Demands.Contracts.{tape_of, left_as_called, left_in_place, given_in_place}
use Rattle.controller.proofs.Demands.Contracts.Form.{by_value, in_place}
use Rattle.controller.specs.Machine as machine
use Rattle.controller.specs.Refused.{lent_space, lent_check}
use Rattle.queues.specs.Jobs.{are_sound}
use Rattle.dispatcher.specs.declared.dispatcher.Dispatcher.{Dispatcher}
use Rattle.dispatcher.specs.Told.{Dispatched, told, told_of}
use Rattle.dispatcher.specs.Dispatcher as dispatcher
use Rattle.dispatcher.specs.Dispatcher.{Answer, answered, answered_in}
use Rattle.dispatcher.proofs.ToldAnswers.{ToldBy, passed_told, queue_told, hand_told, data_told, result_told}
use Rattle.dispatcher.specs.Lists.{Call, plain, step}
use Rattle.dispatcher.specs.Lists.Call.{queue, hand, passed}
use Rattle.dispatcher.proofs.dispatcher.Dispatcher.queue.Reads as queue-reads
use Rattle.dispatcher.proofs.dispatcher.Dispatcher.hand.Reads as hand-reads
use Rattle.dispatcher.proofs.dispatcher.Dispatcher.byte.Reads as byte-reads
use Rattle.dispatcher.proofs.dispatcher.Dispatcher.taken.Reads as taken-reads
use Rattle.dispatcher.proofs.dispatcher.Dispatcher.broken.Reads as broken-reads
use Rattle.dispatcher.proofs.dispatcher.Dispatcher.report.Reads as report-reads
use Rattle.dispatcher.proofs.dispatcher.Dispatcher.data.Reads as data-reads
use Rattle.dispatcher.proofs.dispatcher.Dispatcher.result.Reads as result-reads
use Rattle.dispatcher.proofs.dispatcher.Dispatcher.tick.Reads as tick-reads
use Rattle.dispatcher.proofs.dispatcher.Dispatcher.reset.Reads as reset-reads
use Rattle.dispatcher.proofs.dispatcher.Dispatcher.queue_in_place.Reads as queue_in_place-reads
use Rattle.dispatcher.proofs.dispatcher.Dispatcher.hand_in_place.Reads as hand_in_place-reads
use Rattle.dispatcher.proofs.dispatcher.Dispatcher.byte_in_place.Reads as byte_in_place-reads
use Rattle.dispatcher.proofs.dispatcher.Dispatcher.taken_in_place.Reads as taken_in_place-reads
use Rattle.dispatcher.proofs.dispatcher.Dispatcher.broken_in_place.Reads as broken_in_place-reads
use Rattle.dispatcher.proofs.dispatcher.Dispatcher.report_in_place.Reads as report_in_place-reads
use Rattle.dispatcher.proofs.dispatcher.Dispatcher.data_in_place.Reads as data_in_place-reads
use Rattle.dispatcher.proofs.dispatcher.Dispatcher.result_in_place.Reads as result_in_place-reads
use Rattle.dispatcher.proofs.dispatcher.Dispatcher.tick_in_place.Reads as tick_in_place-reads
use Rattle.dispatcher.proofs.dispatcher.Dispatcher.reset_in_place.Reads as reset_in_place-reads
use Rattle.dispatcher.proofs.dispatcher.Dispatcher.queue.Met as queue-met
use Rattle.dispatcher.proofs.dispatcher.Dispatcher.queue.Statement as queue-statement
use Rattle.dispatcher.proofs.dispatcher.Dispatcher.hand.Met as hand-met
use Rattle.dispatcher.proofs.dispatcher.Dispatcher.hand.Statement as hand-statement
use Rattle.dispatcher.proofs.dispatcher.Dispatcher.byte.Met as byte-met
use Rattle.dispatcher.proofs.dispatcher.Dispatcher.byte.Statement as byte-statement
use Rattle.dispatcher.proofs.dispatcher.Dispatcher.taken.Met as taken-met
use Rattle.dispatcher.proofs.dispatcher.Dispatcher.taken.Statement as taken-statement
use Rattle.dispatcher.proofs.dispatcher.Dispatcher.broken.Met as broken-met
use Rattle.dispatcher.proofs.dispatcher.Dispatcher.broken.Statement as broken-statement
use Rattle.dispatcher.proofs.dispatcher.Dispatcher.report.Met as report-met
use Rattle.dispatcher.proofs.dispatcher.Dispatcher.report.Statement as report-statement
use Rattle.dispatcher.proofs.dispatcher.Dispatcher.data.Met as data-met
use Rattle.dispatcher.proofs.dispatcher.Dispatcher.data.Statement as data-statement
use Rattle.dispatcher.proofs.dispatcher.Dispatcher.result.Met as result-met
use Rattle.dispatcher.proofs.dispatcher.Dispatcher.result.Statement as result-statement
use Rattle.dispatcher.proofs.dispatcher.Dispatcher.tick.Met as tick-met
use Rattle.dispatcher.proofs.dispatcher.Dispatcher.tick.Statement as tick-statement
use Rattle.dispatcher.proofs.dispatcher.Dispatcher.reset.Met as reset-met
use Rattle.dispatcher.proofs.dispatcher.Dispatcher.reset.Statement as reset-statement
use Rattle.dispatcher.proofs.dispatcher.Dispatcher.queue_in_place.Met as queue_in_place-met
use Rattle.dispatcher.proofs.dispatcher.Dispatcher.queue_in_place.Statement as queue_in_place-statement
use Rattle.dispatcher.proofs.dispatcher.Dispatcher.hand_in_place.Met as hand_in_place-met
use Rattle.dispatcher.proofs.dispatcher.Dispatcher.hand_in_place.Statement as hand_in_place-statement
use Rattle.dispatcher.proofs.dispatcher.Dispatcher.byte_in_place.Met as byte_in_place-met
use Rattle.dispatcher.proofs.dispatcher.Dispatcher.byte_in_place.Statement as byte_in_place-statement
use Rattle.dispatcher.proofs.dispatcher.Dispatcher.taken_in_place.Met as taken_in_place-met
use Rattle.dispatcher.proofs.dispatcher.Dispatcher.taken_in_place.Statement as taken_in_place-statement
use Rattle.dispatcher.proofs.dispatcher.Dispatcher.broken_in_place.Met as broken_in_place-met
use Rattle.dispatcher.proofs.dispatcher.Dispatcher.broken_in_place.Statement as broken_in_place-statement
use Rattle.dispatcher.proofs.dispatcher.Dispatcher.report_in_place.Met as report_in_place-met
use Rattle.dispatcher.proofs.dispatcher.Dispatcher.report_in_place.Statement as report_in_place-statement
use Rattle.dispatcher.proofs.dispatcher.Dispatcher.data_in_place.Met as data_in_place-met
use Rattle.dispatcher.proofs.dispatcher.Dispatcher.data_in_place.Statement as data_in_place-statement
use Rattle.dispatcher.proofs.dispatcher.Dispatcher.result_in_place.Met as result_in_place-met
use Rattle.dispatcher.proofs.dispatcher.Dispatcher.result_in_place.Statement as result_in_place-statement
use Rattle.dispatcher.proofs.dispatcher.Dispatcher.tick_in_place.Met as tick_in_place-met
use Rattle.dispatcher.proofs.dispatcher.Dispatcher.tick_in_place.Statement as tick_in_place-statement
use Rattle.dispatcher.proofs.dispatcher.Dispatcher.reset_in_place.Met as reset_in_place-met
use Rattle.dispatcher.proofs.dispatcher.Dispatcher.reset_in_place.Statement as reset_in_place-statement
use Rattle.dispatcher.proofs.dispatcher.Dispatcher.fresh.Met as fresh-met
use Rattle.dispatcher.proofs.dispatcher.Dispatcher.fresh.Statement as fresh-statement

-- ---- what the contracts promise

-- the answer of a call that is lent nothing, by value; in place it is `PlainlyInPlace` of the controller's
pub record Plainly (Promise : Replied Dispatcher Told → Type 0) (answer : Answer) : Type 0 where
  pub reply : Replied Dispatcher Told
  pub promise : Promise reply
  pub same : answer ≡ plain (told reply)

-- the answer of a call that is lent space, by value: three slices of the data call, four of the result, wherever they
-- lie; in place it is `LentInPlace`
pub record DataLent (d : Dispatcher) (host : Host) (space check : List ℕ) (answer : Answer) : Type 0 where
  pub lifetimes : Lfts 3
  pub host_slice : Bor (List ℕ)
  pub space_slice : MutBor (List ℕ)
  pub check_slice : MutBor (List ℕ)
  pub transfer : Replied Dispatcher Given
  pub holds_host : host_of host_slice.now host.place ≡ host
  pub holds_space : space_slice.now ≡ space
  pub holds_check : check_slice.now ≡ check
  pub promise :
      data-reads.Post lifetimes (d, (host_slice, (host.place, (space_slice, (check_slice, tt))))) transfer
      (d, (host_slice, (host.place, (at_last space_slice answer.space, (at_last check_slice answer.check, tt)))))
  pub same : answer ≡ answered transfer answer.space answer.check

pub record ResultLent (d : Dispatcher) (r : Result) (space check : List ℕ) (answer : Answer) : Type 0 where
  pub lifetimes : Lfts 4
  pub image_slice : Bor (List ℕ)
  pub marks_slice : Bor (List ℕ)
  pub space_slice : MutBor (List ℕ)
  pub check_slice : MutBor (List ℕ)
  pub transfer : Replied Dispatcher Given
  pub holds_image : image_slice.now ≡ r.image
  pub holds_marks : marks_slice.now ≡ r.marks
  pub holds_space : space_slice.now ≡ space
  pub holds_check : check_slice.now ≡ check
  pub promise :
      result-reads.Post lifetimes
      (d, (r.code, (r.mark, (r.late, (image_slice, (marks_slice, (space_slice, (check_slice, tt)))))))) transfer (
        d,
        (
          r.code,
          (
            r.mark,
            (
              r.late,
              (
                image_slice,
                (marks_slice, (at_last space_slice answer.space, (at_last check_slice answer.check, tt))),
              ),
            ),
          ),
        ),
      )
  pub same : answer ≡ answered transfer answer.space answer.check

-- the answer of a call in place that is lent nothing
abbrev plain_of : Dispatcher → Step Told Refusal → Answer
plain_of d returned = plain (told_of d returned)

-- of a call that is passed on, in this form; the controller's own handing is no call of the dispatcher
unfoldable pub PassedAllows : Form → Dispatcher → machine.Call → Answer → Type 0
PassedAllows by_value d (machine.byte b) =
    Plainly (λ (r : Replied Dispatcher Told). byte-reads.Post tt (d, (b, tt)) r (d, (b, tt)))
PassedAllows by_value d machine.taken = Plainly (λ (r : Replied Dispatcher Told). taken-reads.Post tt (d, tt) r (d, tt))
PassedAllows by_value d machine.broken =
    Plainly (λ (r : Replied Dispatcher Told). broken-reads.Post tt (d, tt) r (d, tt))
PassedAllows by_value d (machine.report drive bits) =
    Plainly (λ (r : Replied Dispatcher Told). report-reads.Post tt (d, (drive, (bits, tt))) r (d, (drive, (bits, tt))))
PassedAllows by_value d machine.tick = Plainly (λ (r : Replied Dispatcher Told). tick-reads.Post tt (d, tt) r (d, tt))
PassedAllows by_value d (machine.host_data host space check) = DataLent d host space check
PassedAllows by_value d (machine.result r space check) = ResultLent d r space check
PassedAllows by_value d machine.reset = Plainly (λ (r : Replied Dispatcher Told). reset-reads.Post tt (d, tt) r (d, tt))
PassedAllows by_value d (machine.hand store) = λ (answer : Answer). ⊥
PassedAllows in_place d (machine.byte b) = PlainlyInPlace byte_in_place-reads.Post (b, tt) plain_of d
PassedAllows in_place d machine.taken = PlainlyInPlace taken_in_place-reads.Post tt plain_of d
PassedAllows in_place d machine.broken = PlainlyInPlace broken_in_place-reads.Post tt plain_of d
PassedAllows in_place d (machine.report drive bits) =
    PlainlyInPlace report_in_place-reads.Post (drive, (bits, tt)) plain_of d
PassedAllows in_place d machine.tick = PlainlyInPlace tick_in_place-reads.Post tt plain_of d
PassedAllows in_place d (machine.host_data host space check) =
    LentInPlace data_in_place-reads.Post host_with answered_in d host space check
PassedAllows in_place d (machine.result r space check) =
    LentInPlace result_in_place-reads.Post result_with answered_in d r space check
PassedAllows in_place d machine.reset = PlainlyInPlace reset_in_place-reads.Post tt plain_of d
PassedAllows in_place d (machine.hand store) = λ (answer : Answer). ⊥

-- what the contract of a call's function of this form allows as its answer
unfoldable pub AllowsBy : Form → Dispatcher → Call → Answer → Type 0
AllowsBy by_value d (queue job store) =
    Plainly (λ (r : Replied Dispatcher Told). queue-reads.Post tt (d, (job, (store, tt))) r (d, (job, (store, tt))))
AllowsBy by_value d hand = Plainly (λ (r : Replied Dispatcher Told). hand-reads.Post tt (d, tt) r (d, tt))
AllowsBy by_value d (passed call) = PassedAllows by_value d call
AllowsBy in_place d (queue job store) = PlainlyInPlace queue_in_place-reads.Post (job, (store, tt)) plain_of d
AllowsBy in_place d hand = PlainlyInPlace hand_in_place-reads.Post tt plain_of d
AllowsBy in_place d (passed call) = PassedAllows in_place d call

-- what the contract of either of a call's own functions allows as its answer
pub record Allows (d : Dispatcher) (call : Call) (answer : Answer) : Type 0 where
  pub form : Form
  pub by : AllowsBy form d call answer

-- ---- the answers of a step

-- a reply that is passed on, as an answer
by_sound : (t : Bool) (a b : Dispatched) → plain (pick t a b) ≡ pick t (plain a) (plain b)
unfolding pick
by_sound true a b = refl
by_sound false a b = refl

passed_plain : (d : Dispatcher) (reply : Reply)
    → plain (dispatcher.pass_on d reply) ≡ dispatcher.passed_answer d (machine.plain reply) [] []
unfolding dispatcher.pass_on dispatcher.passed_answer
passed_plain d reply = by_sound (are_sound d.queues) _ _

-- an answer that is told, as it is allowed
plainly : (answer : Answer) (r : Dispatched) (by : ToldBy r) → answer ≡ plain r
    → Plainly (λ (reply : Replied Dispatcher Told). told reply ≡ r) answer
plainly answer r by is = record { reply = by.reply; promise = by.same; same = is ∙ ap plain (sym by.same) }

-- and in place, of a state that lies anywhere
told_in_place :
    {Inputs : Type 0}
    {Promise : Lfts 1 → MutBor Dispatcher × Inputs → Step Told Refusal → MutBor Dispatcher × Inputs → Type 0}
    {inputs : Inputs}
    {d : Dispatcher}
    {answer : Answer}
    {r : Dispatched}
    (by : ToldBy r)
    → Promise ([], tt) (somewhere d, inputs) by.reply.answer (at_last (somewhere d) by.reply.state, inputs)
    → answer ≡ plain r
    → PlainlyInPlace Promise inputs plain_of d answer
told_in_place by promise is =
    left_in_place by.reply.state by.reply.answer promise (is ∙ ap plain (sym by.same))

-- an allowed answer is that of a step
answers_are_steps_by : (form : Form) (d : Dispatcher) (call : Call) (answer : Answer) → AllowsBy form d call answer
    → answer ≡ step d call
unfolding AllowsBy PassedAllows step machine.step lent_space lent_check
answers_are_steps_by by_value d (queue job store) answer allowed = allowed.same ∙ ap plain allowed.promise
answers_are_steps_by by_value d hand answer allowed = allowed.same ∙ ap plain allowed.promise
answers_are_steps_by by_value d (passed (machine.byte b)) answer allowed =
    allowed.same ∙ ap plain allowed.promise ∙ passed_plain d _
answers_are_steps_by by_value d (passed machine.taken) answer allowed =
    allowed.same ∙ ap plain allowed.promise ∙ passed_plain d _
answers_are_steps_by by_value d (passed machine.broken) answer allowed =
    allowed.same ∙ ap plain allowed.promise ∙ passed_plain d _
answers_are_steps_by by_value d (passed (machine.report drive r)) answer allowed =
    allowed.same ∙ ap plain allowed.promise ∙ passed_plain d _
answers_are_steps_by by_value d (passed machine.tick) answer allowed =
    allowed.same ∙ ap plain allowed.promise ∙ passed_plain d _
answers_are_steps_by by_value d (passed machine.reset) answer allowed =
    allowed.same ∙ ap plain allowed.promise ∙ passed_plain d _
answers_are_steps_by by_value d (passed (machine.hand store)) answer allowed = absurd allowed
answers_are_steps_by by_value d (passed (machine.host_data host space check)) answer allowed =
    allowed.same
    ∙ allowed.promise
    ∙ ap (λ (h : Host). dispatcher.data_call d h allowed.space_slice.now allowed.check_slice.now)
    allowed.holds_host
    ∙ ap₂ (λ (s k : List ℕ). dispatcher.data_call d host s k) allowed.holds_space allowed.holds_check
answers_are_steps_by by_value d (passed (machine.result r space check)) answer allowed =
    allowed.same
    ∙ allowed.promise
    ∙ ap₂ (λ (i m : List ℕ). dispatcher.result_call d (result_of r.code r.mark r.late i m)
    allowed.space_slice.now allowed.check_slice.now)
    allowed.holds_image allowed.holds_marks
    ∙ ap₂ (λ (s k : List ℕ). dispatcher.result_call d r s k) allowed.holds_space allowed.holds_check
answers_are_steps_by in_place d (queue job store) answer allowed =
    allowed.same
    ∙ ap plain allowed.promise
    ∙ ap (λ (e : Dispatcher). plain (dispatcher.queue_call e job store)) allowed.holds
answers_are_steps_by in_place d hand answer allowed =
    allowed.same
    ∙ ap plain allowed.promise
    ∙ ap (λ (e : Dispatcher). plain (dispatcher.hand_call e)) allowed.holds
answers_are_steps_by in_place d (passed (machine.byte b)) answer allowed =
    allowed.same
    ∙ ap plain allowed.promise
    ∙ ap (λ (e : Dispatcher). plain (dispatcher.byte_call e b)) allowed.holds
    ∙ passed_plain d _
answers_are_steps_by in_place d (passed machine.taken) answer allowed =
    allowed.same
    ∙ ap plain allowed.promise
    ∙ ap (λ (e : Dispatcher). plain (dispatcher.taken_call e)) allowed.holds
    ∙ passed_plain d _
answers_are_steps_by in_place d (passed machine.broken) answer allowed =
    allowed.same
    ∙ ap plain allowed.promise
    ∙ ap (λ (e : Dispatcher). plain (dispatcher.broken_call e)) allowed.holds
    ∙ passed_plain d _
answers_are_steps_by in_place d (passed (machine.report drive bits)) answer allowed =
    allowed.same
    ∙ ap plain allowed.promise
    ∙ ap (λ (e : Dispatcher). plain (dispatcher.report_call e drive bits)) allowed.holds
    ∙ passed_plain d _
answers_are_steps_by in_place d (passed machine.tick) answer allowed =
    allowed.same
    ∙ ap plain allowed.promise
    ∙ ap (λ (e : Dispatcher). plain (dispatcher.tick_call e)) allowed.holds
    ∙ passed_plain d _
answers_are_steps_by in_place d (passed machine.reset) answer allowed =
    allowed.same
    ∙ ap plain allowed.promise
    ∙ ap (λ (e : Dispatcher). plain (dispatcher.reset_call e)) allowed.holds
    ∙ passed_plain d _
answers_are_steps_by in_place d (passed (machine.hand store)) answer allowed = absurd allowed
answers_are_steps_by in_place d (passed (machine.host_data host space check)) answer allowed =
    left_as_called dispatcher.data_call allowed allowed.promise
answers_are_steps_by in_place d (passed (machine.result r space check)) answer allowed =
    left_as_called dispatcher.result_call allowed allowed.promise

pub answers_are_steps : (d : Dispatcher) (call : Call) (answer : Answer) → Allows d call answer → answer ≡ step d call
answers_are_steps d call answer allowed = answers_are_steps_by allowed.form d call answer allowed.by

-- a call that the dispatcher has
unfoldable pub IsCall : Call → Type 0
IsCall (queue job store) = Unit
IsCall hand = Unit
IsCall (passed (machine.hand store)) = ⊥
IsCall (passed (machine.byte b)) = Unit
IsCall (passed machine.taken) = Unit
IsCall (passed machine.broken) = Unit
IsCall (passed (machine.report drive r)) = Unit
IsCall (passed (machine.host_data host space check)) = Unit
IsCall (passed (machine.result r space check)) = Unit
IsCall (passed machine.tick) = Unit
IsCall (passed machine.reset) = Unit

-- the answer of its step is allowed, in each form
pub steps_are_allowed : (form : Form) (d : Dispatcher) (call : Call) → IsCall call → AllowsBy form d call (step d call)
unfolding AllowsBy PassedAllows IsCall step machine.step lent_space lent_check
steps_are_allowed by_value d (queue job store) is = plainly _ _ (queue_told d job store) refl
steps_are_allowed by_value d hand is = plainly _ _ (hand_told d) refl
steps_are_allowed by_value d (passed (machine.byte b)) is =
    plainly _ _ (passed_told d _ (byte_told d.controller b)) (sym (passed_plain d _))
steps_are_allowed by_value d (passed machine.taken) is =
    plainly _ _ (passed_told d _ (taken_told d.controller)) (sym (passed_plain d _))
steps_are_allowed by_value d (passed machine.broken) is =
    plainly _ _ (passed_told d _ (broken_told d.controller)) (sym (passed_plain d _))
steps_are_allowed by_value d (passed (machine.report drive bits)) is =
    plainly _ _ (passed_told d _ (report_told d.controller drive bits)) (sym (passed_plain d _))
steps_are_allowed by_value d (passed machine.tick) is =
    plainly _ _ (passed_told d _ (tick_told d.controller)) (sym (passed_plain d _))
steps_are_allowed by_value d (passed machine.reset) is =
    plainly _ _ (passed_told d _ (reset_told d.controller)) (sym (passed_plain d _))
steps_are_allowed by_value d (passed (machine.hand store)) is = absurd is
steps_are_allowed by_value d (passed (machine.host_data host space check)) is =
    record {
      lifetimes = ([], ([], ([], tt)));
      host_slice = shown host.bytes;
      space_slice = somewhere space;
      check_slice = somewhere check;
      transfer = (data_told d host space check).reply;
      holds_host = refl;
      holds_space = refl;
      holds_check = refl;
      promise = sym (data_told d host space check).same;
      same = (data_told d host space check).same;
    }
steps_are_allowed by_value d (passed (machine.result r space check)) is =
    record {
      lifetimes = ([], ([], ([], ([], tt))));
      image_slice = shown r.image;
      marks_slice = shown r.marks;
      space_slice = somewhere space;
      check_slice = somewhere check;
      transfer = (result_told d r space check).reply;
      holds_image = refl;
      holds_marks = refl;
      holds_space = refl;
      holds_check = refl;
      promise = sym (result_told d r space check).same;
      same = (result_told d r space check).same;
    }
steps_are_allowed in_place d (queue job store) is =
    let by = queue_told d job store in told_in_place by by.same refl
steps_are_allowed in_place d hand is =
    let by = hand_told d in told_in_place by by.same refl
steps_are_allowed in_place d (passed (machine.byte b)) is =
    let by = passed_told d _ (byte_told d.controller b) in told_in_place by by.same (sym (passed_plain d _))
steps_are_allowed in_place d (passed machine.taken) is =
    let by = passed_told d _ (taken_told d.controller) in told_in_place by by.same (sym (passed_plain d _))
steps_are_allowed in_place d (passed machine.broken) is =
    let by = passed_told d _ (broken_told d.controller) in told_in_place by by.same (sym (passed_plain d _))
steps_are_allowed in_place d (passed (machine.report drive bits)) is =
    let by = passed_told d _ (report_told d.controller drive bits) in told_in_place by by.same (sym (passed_plain d _))
steps_are_allowed in_place d (passed machine.tick) is =
    let by = passed_told d _ (tick_told d.controller) in told_in_place by by.same (sym (passed_plain d _))
steps_are_allowed in_place d (passed machine.reset) is =
    let by = passed_told d _ (reset_told d.controller) in told_in_place by by.same (sym (passed_plain d _))
steps_are_allowed in_place d (passed (machine.hand store)) is = absurd is
steps_are_allowed in_place d (passed (machine.host_data host space check)) is =
    let by = data_told d host space check in
    given_in_place (host_bytes_of host) by.reply.state by.reply.answer _ _ (sym by.same) by.same
steps_are_allowed in_place d (passed (machine.result r space check)) is =
    let by = result_told d r space check in
    given_in_place (tape_of r) by.reply.state by.reply.answer _ _ (sym by.same) by.same

-- ---- the functions

-- each call's own function of either form, and the one that makes a fresh dispatcher, meets its contract
pub record Meet (M : Type 1) : Type 2 where
  pub fresh : fresh-statement.statement M
  pub queue : queue-statement.statement M
  pub hand : hand-statement.statement M
  pub byte : byte-statement.statement M
  pub taken : taken-statement.statement M
  pub broken : broken-statement.statement M
  pub report : report-statement.statement M
  pub host_data : data-statement.statement M
  pub result : result-statement.statement M
  pub tick : tick-statement.statement M
  pub reset : reset-statement.statement M
  pub queue_in_place : queue_in_place-statement.statement M
  pub hand_in_place : hand_in_place-statement.statement M
  pub byte_in_place : byte_in_place-statement.statement M
  pub taken_in_place : taken_in_place-statement.statement M
  pub broken_in_place : broken_in_place-statement.statement M
  pub report_in_place : report_in_place-statement.statement M
  pub host_data_in_place : data_in_place-statement.statement M
  pub result_in_place : result_in_place-statement.statement M
  pub tick_in_place : tick_in_place-statement.statement M
  pub reset_in_place : reset_in_place-statement.statement M

pub all_met : {M : Type 1} → Meet M
all_met =
    record {
      fresh = fresh-met.met;
      queue = queue-met.met;
      hand = hand-met.met;
      byte = byte-met.met;
      taken = taken-met.met;
      broken = broken-met.met;
      report = report-met.met;
      host_data = data-met.met;
      result = result-met.met;
      tick = tick-met.met;
      reset = reset-met.met;
      queue_in_place = queue_in_place-met.met;
      hand_in_place = hand_in_place-met.met;
      byte_in_place = byte_in_place-met.met;
      taken_in_place = taken_in_place-met.met;
      broken_in_place = broken_in_place-met.met;
      report_in_place = report_in_place-met.met;
      host_data_in_place = data_in_place-met.met;
      result_in_place = result_in_place-met.met;
      tick_in_place = tick_in_place-met.met;
      reset_in_place = reset_in_place-met.met;
    }
