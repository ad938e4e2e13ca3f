-- What the contracts of the functions for C allow, as the toolchain reads them: exactly what `called` leaves
-- (`answers_are_called`, `called_is_allowed`). And the functions meet them (`Meet`).
-- Assumes nothing.
use mathlib.Core.Path.{◌≡◌, refl, sym, ap, ap₂, ◌∙◌}
use mathlib.Core.Bool.{Bool, true, false}
use mathlib.Core.List.{List, []}
use contract.Lifetimes.{Lfts}
use denote.Ref.{Bor, MutBor, at_last}
use Prim.Native.Nat.{ℕ}
use mir.Val.{bool_byte}
use Rattle.common.proofs.PickLaws.{by_test}
use Rattle.transfers.specs.Data.{Host, host_of}
use Rattle.transfers.specs.Results.{Result, result_of}
use Rattle.controller.specs.Machine as machine
use Rattle.controller.specs.Refused as controller-refused
use Rattle.dispatcher.specs.declared.dispatcher.Dispatcher.{Dispatcher}
use Rattle.dispatcher.specs.Told.{Dispatched}
use Rattle.dispatcher.specs.Dispatcher.{Answer}
use Rattle.dispatcher.specs.Lists.{Call, plain, step}
use Rattle.dispatcher.specs.Lists.Call.{queue, hand, passed}
use Rattle.dispatcher.specs.Refused.{lent_space, lent_check}
use Rattle.dispatcher.proofs.Demands.Contracts.{IsCall}
use Rattle.layout.specs.Reading.{state_of, is_state}
use Rattle.firmware.specs.Calls.{Left, left, plainly, is_set, called}
use Rattle.firmware.proofs.CallLaws.{called_on_none, called_on_state, byte_steps, taken_steps, broken_steps}
use Rattle.firmware.proofs.CallLaws.{report_steps, tick_steps, reset_steps, queue_steps, hand_steps}
use Rattle.firmware.proofs.CallLaws.{nothing_passed}
use Rattle.firmware.proofs.interface.ctc_byte.Reads as byte-reads
use Rattle.firmware.proofs.interface.ctc_taken.Reads as taken-reads
use Rattle.firmware.proofs.interface.ctc_broken.Reads as broken-reads
use Rattle.firmware.proofs.interface.ctc_report.Reads as report-reads
use Rattle.firmware.proofs.interface.ctc_data.Reads as data-reads
use Rattle.firmware.proofs.interface.ctc_result.Reads as result-reads
use Rattle.firmware.proofs.interface.ctc_tick.Reads as tick-reads
use Rattle.firmware.proofs.interface.ctc_reset.Reads as reset-reads
use Rattle.firmware.proofs.interface.ctc_queue.Reads as queue-reads
use Rattle.firmware.proofs.interface.ctc_hand.Reads as hand-reads
use Rattle.firmware.proofs.interface.ctc_fresh.Met as fresh-met
use Rattle.firmware.proofs.interface.ctc_fresh.Statement as fresh-statement
use Rattle.firmware.proofs.interface.ctc_byte.Met as byte-met
use Rattle.firmware.proofs.interface.ctc_byte.Statement as byte-statement
use Rattle.firmware.proofs.interface.ctc_taken.Met as taken-met
use Rattle.firmware.proofs.interface.ctc_taken.Statement as taken-statement
use Rattle.firmware.proofs.interface.ctc_broken.Met as broken-met
use Rattle.firmware.proofs.interface.ctc_broken.Statement as broken-statement
use Rattle.firmware.proofs.interface.ctc_report.Met as report-met
use Rattle.firmware.proofs.interface.ctc_report.Statement as report-statement
use Rattle.firmware.proofs.interface.ctc_data.Met as data-met
use Rattle.firmware.proofs.interface.ctc_data.Statement as data-statement
use Rattle.firmware.proofs.interface.ctc_result.Met as result-met
use Rattle.firmware.proofs.interface.ctc_result.Statement as result-statement
use Rattle.firmware.proofs.interface.ctc_tick.Met as tick-met
use Rattle.firmware.proofs.interface.ctc_tick.Statement as tick-statement
use Rattle.firmware.proofs.interface.ctc_reset.Met as reset-met
use Rattle.firmware.proofs.interface.ctc_reset.Statement as reset-statement
use Rattle.firmware.proofs.interface.ctc_queue.Met as queue-met
use Rattle.firmware.proofs.interface.ctc_queue.Statement as queue-statement
use Rattle.firmware.proofs.interface.ctc_hand.Met as hand-met
use Rattle.firmware.proofs.interface.ctc_hand.Statement as hand-statement

-- ---- what the contracts promise

abbrev Array : Type 0
Array = MutBor (List ℕ)

-- a call that is lent nothing: state and answer, wherever they lie
pub record Plainly (Promise : Lfts 2 → Array → Array → ℕ → List ℕ → List ℕ → Type 0) (state answer : List ℕ) (l : Left)
    : Type 0 where
  pub lifetimes : Lfts 2
  pub state_array : Array
  pub answer_array : Array
  pub holds_state : state_array.now ≡ state
  pub holds_answer : answer_array.now ≡ answer
  pub promise : Promise lifetimes state_array answer_array l.ended.refusal l.ended.state l.ended.answer
  pub same : l ≡ plainly l.ended.refusal l.ended.state l.ended.answer

-- the data call and the result, with their slices
pub record DataLent (host : Host) (space check state answer : List ℕ) (l : Left) : Type 0 where
  pub lifetimes : Lfts 5
  pub state_array : Array
  pub host_slice : Bor (List ℕ)
  pub space_slice : Array
  pub check_slice : Array
  pub answer_array : Array
  pub holds_state : state_array.now ≡ state
  pub holds_host : host_of host_slice.now host.place ≡ host
  pub holds_space : space_slice.now ≡ space
  pub holds_check : check_slice.now ≡ check
  pub holds_answer : answer_array.now ≡ answer
  pub promise :
      data-reads.Post lifetimes
      (state_array, (host_slice, (host.place, (space_slice, (check_slice, (answer_array, tt))))))
      l.ended.refusal (
        at_last state_array l.ended.state,
        (
          host_slice,
          (
            host.place,
            (
              at_last space_slice l.space,
              (at_last check_slice l.check, (at_last answer_array l.ended.answer, tt)),
            ),
          ),
        ),
      )

pub record ResultLent (r : Result) (space check state answer : List ℕ) (l : Left) : Type 0 where
  pub lifetimes : Lfts 6
  pub state_array : Array
  pub mark : ℕ
  pub image_slice : Bor (List ℕ)
  pub marks_slice : Bor (List ℕ)
  pub space_slice : Array
  pub check_slice : Array
  pub answer_array : Array
  pub holds_state : state_array.now ≡ state
  pub holds_mark : is_set mark ≡ r.mark
  pub holds_image : image_slice.now ≡ r.image
  pub holds_marks : marks_slice.now ≡ r.marks
  pub holds_space : space_slice.now ≡ space
  pub holds_check : check_slice.now ≡ check
  pub holds_answer : answer_array.now ≡ answer
  pub promise :
      result-reads.Post lifetimes (
        state_array,
        (
          r.code,
          (mark, (r.late, (image_slice, (marks_slice, (space_slice, (check_slice, (answer_array, tt))))))),
        ),
      )
      l.ended.refusal (
        at_last state_array l.ended.state,
        (
          r.code,
          (
            mark,
            (
              r.late,
              (
                image_slice,
                (
                  marks_slice,
                  (
                    at_last space_slice l.space,
                    (at_last check_slice l.check, (at_last answer_array l.ended.answer, tt)),
                  ),
                ),
              ),
            ),
          ),
        ),
      )

-- what the contract of a call's own function allows it to leave; the controller's own handing is no call of the
-- dispatcher
unfoldable pub Allows : List ℕ → Call → List ℕ → Left → Type 0
Allows state (passed (machine.byte b)) answer =
    Plainly
    (λ (κs : Lfts 2) (s a : Array) (r : ℕ) (t u : List ℕ).
    byte-reads.Post κs (s, (b, (a, tt))) r (at_last s t, (b, (at_last a u, tt)))) state answer
Allows state (passed machine.taken) answer =
    Plainly
    (λ (κs : Lfts 2) (s a : Array) (r : ℕ) (t u : List ℕ).
    taken-reads.Post κs (s, (a, tt)) r (at_last s t, (at_last a u, tt))) state answer
Allows state (passed machine.broken) answer =
    Plainly
    (λ (κs : Lfts 2) (s a : Array) (r : ℕ) (t u : List ℕ).
    broken-reads.Post κs (s, (a, tt)) r (at_last s t, (at_last a u, tt))) state answer
Allows state (passed (machine.report drive bits)) answer =
    Plainly
    (λ (κs : Lfts 2) (s a : Array) (r : ℕ) (t u : List ℕ).
    report-reads.Post κs (s, (drive, (bits, (a, tt)))) r (at_last s t, (drive, (bits, (at_last a u, tt))))) state answer
Allows state (passed (machine.host_data host space check)) answer = DataLent host space check state answer
Allows state (passed (machine.result r space check)) answer = ResultLent r space check state answer
Allows state (passed machine.tick) answer =
    Plainly
    (λ (κs : Lfts 2) (s a : Array) (r : ℕ) (t u : List ℕ).
    tick-reads.Post κs (s, (a, tt)) r (at_last s t, (at_last a u, tt))) state answer
Allows state (passed machine.reset) answer =
    Plainly
    (λ (κs : Lfts 2) (s a : Array) (r : ℕ) (t u : List ℕ).
    reset-reads.Post κs (s, (a, tt)) r (at_last s t, (at_last a u, tt))) state answer
Allows state (passed (machine.hand store)) answer = λ (l : Left). ⊥
Allows state (queue job store) answer =
    Plainly
    (λ (κs : Lfts 2) (s a : Array) (r : ℕ) (t u : List ℕ).
    queue-reads.Post κs (
      s,
      (job, (store.address, (store.first, (store.second, (store.third, (store.fourth, (a, tt))))))),
    ) r (
      at_last s t,
      (job, (store.address, (store.first, (store.second, (store.third, (store.fourth, (at_last a u, tt))))))),
    )) state answer
Allows state hand answer =
    Plainly
    (λ (κs : Lfts 2) (s a : Array) (r : ℕ) (t u : List ℕ).
    hand-reads.Post κs (s, (a, tt)) r (at_last s t, (at_last a u, tt))) state answer

-- ---- that is what `called` leaves

-- with what state and answer hold put in
at_arrays : (call : Call) (l : Left) (s a state answer : List ℕ) → l ≡ called call s a → s ≡ state → a ≡ answer
    → l ≡ called call state answer
at_arrays call l s a state answer is one two = is ∙ ap₂ (λ (x y : List ℕ). called call x y) one two

pub answers_are_called : (state : List ℕ) (call : Call) (answer : List ℕ) (l : Left) → Allows state call answer l
    → l ≡ called call state answer
unfolding Allows
answers_are_called state (passed (machine.byte b)) answer l p =
    at_arrays _ l _ _ state answer (p.same ∙ p.promise) p.holds_state p.holds_answer
answers_are_called state (passed machine.taken) answer l p =
    at_arrays _ l _ _ state answer (p.same ∙ p.promise) p.holds_state p.holds_answer
answers_are_called state (passed machine.broken) answer l p =
    at_arrays _ l _ _ state answer (p.same ∙ p.promise) p.holds_state p.holds_answer
answers_are_called state (passed (machine.report drive bits)) answer l p =
    at_arrays _ l _ _ state answer (p.same ∙ p.promise) p.holds_state p.holds_answer
answers_are_called state (passed (machine.host_data host space check)) answer l p =
    at_arrays _ l p.state_array.now p.answer_array.now state answer
    (p.promise
    ∙ ap (λ (h : Host). called (passed (machine.host_data h p.space_slice.now p.check_slice.now))
    p.state_array.now p.answer_array.now) p.holds_host
    ∙ ap₂ (λ (s k : List ℕ). called (passed (machine.host_data host s k)) p.state_array.now p.answer_array.now)
    p.holds_space p.holds_check) p.holds_state p.holds_answer
answers_are_called state (passed (machine.result r space check)) answer l p =
    at_arrays _ l p.state_array.now p.answer_array.now state answer
    (p.promise
    ∙ ap (λ (m : Bool). called
    (passed (machine.result (result_of r.code m r.late p.image_slice.now p.marks_slice.now)
    p.space_slice.now p.check_slice.now)) p.state_array.now p.answer_array.now) p.holds_mark
    ∙ ap₂ (λ (i m : List ℕ). called
    (passed (machine.result (result_of r.code r.mark r.late i m) p.space_slice.now
    p.check_slice.now)) p.state_array.now p.answer_array.now) p.holds_image p.holds_marks
    ∙ ap₂ (λ (s k : List ℕ). called (passed (machine.result r s k)) p.state_array.now p.answer_array.now)
    p.holds_space p.holds_check) p.holds_state p.holds_answer
answers_are_called state (passed machine.tick) answer l p =
    at_arrays _ l _ _ state answer (p.same ∙ p.promise) p.holds_state p.holds_answer
answers_are_called state (passed machine.reset) answer l p =
    at_arrays _ l _ _ state answer (p.same ∙ p.promise) p.holds_state p.holds_answer
answers_are_called state (passed (machine.hand store)) answer l p = absurd p
answers_are_called state (queue job store) answer l p =
    at_arrays _ l _ _ state answer (p.same ∙ p.promise) p.holds_state p.holds_answer
answers_are_called state hand answer l p =
    at_arrays _ l _ _ state answer (p.same ∙ p.promise) p.holds_state p.holds_answer

-- only the dispatcher's calls are allowed anything
pub allowed_is_call : (state : List ℕ) (call : Call) (answer : List ℕ) (l : Left) → Allows state call answer l
    → IsCall call
unfolding Allows IsCall
allowed_is_call state (passed (machine.byte b)) answer l p = tt
allowed_is_call state (passed machine.taken) answer l p = tt
allowed_is_call state (passed machine.broken) answer l p = tt
allowed_is_call state (passed (machine.report drive bits)) answer l p = tt
allowed_is_call state (passed (machine.host_data host space check)) answer l p = tt
allowed_is_call state (passed (machine.result r space check)) answer l p = tt
allowed_is_call state (passed machine.tick) answer l p = tt
allowed_is_call state (passed machine.reset) answer l p = tt
allowed_is_call state (passed (machine.hand store)) answer l p = p
allowed_is_call state (queue job store) answer l p = tt
allowed_is_call state hand answer l p = tt

-- ---- and `called` is allowed

-- a call that is lent nothing leaves none
nothing_lent : (call : Call) (state answer : List ℕ) → lent_space call ≡ [] → lent_check call ≡ []
    → ((d : Dispatcher) → ((step d call).space ≡ []) × ((step d call).check ≡ []))
    → called call state answer ≡ left (called call state answer).ended [] []
nothing_lent call state answer no_space no_check steps =
    by_test (is_state state)
    (λ is. let l = called_on_state call state answer (step (state_of state) call) is refl in
    let none = steps (state_of state) in
    ap₂ (λ (s k : List ℕ). left (called call state answer).ended s k)
    (sym (ap (λ (x : Left). x.space) l) ∙ none.0)
    (sym (ap (λ (x : Left). x.check) l) ∙ none.1))
    (λ other. let l = called_on_none call state answer other in
    ap₂ (λ (s k : List ℕ). left (called call state answer).ended s k)
    (sym (ap (λ (x : Left). x.space) l) ∙ no_space)
    (sym (ap (λ (x : Left). x.check) l) ∙ no_check))

plain_lent : (a : Answer) (reply : Dispatched) → plain reply ≡ a → (a.space ≡ []) × (a.check ≡ [])
plain_lent a reply is = (sym (ap (λ (x : Answer). x.space) is), sym (ap (λ (x : Answer). x.check) is))

abbrev shown : List ℕ → Bor (List ℕ)
shown bytes = record { ref_ptr = (0, 0); now = bytes }

abbrev somewhere : List ℕ → Array
somewhere bytes = record { ref_ptr = (0, 0); ghost_name = 0; now = bytes }

flag_set : (m : Bool) → is_set (bool_byte m) ≡ m
flag_set true = refl
flag_set false = refl

pub called_is_allowed : (state : List ℕ) (call : Call) (answer : List ℕ) → IsCall call
    → Allows state call answer (called call state answer)
unfolding Allows IsCall lent_space lent_check controller-refused.lent_space controller-refused.lent_check
called_is_allowed state (passed (machine.byte b)) answer is =
    let none = nothing_lent (passed (machine.byte b)) state answer refl refl
    (λ d. nothing_passed d (machine.byte b) _ (byte_steps d.controller b) refl refl) in
    record {
      lifetimes = ([], ([], tt));
      state_array = somewhere state;
      answer_array = somewhere answer;
      holds_state = refl;
      holds_answer = refl;
      promise = sym none;
      same = none;
    }
called_is_allowed state (passed machine.taken) answer is =
    let none = nothing_lent (passed machine.taken) state answer refl refl
    (λ d. nothing_passed d machine.taken _ (taken_steps d.controller) refl refl) in
    record {
      lifetimes = ([], ([], tt));
      state_array = somewhere state;
      answer_array = somewhere answer;
      holds_state = refl;
      holds_answer = refl;
      promise = sym none;
      same = none;
    }
called_is_allowed state (passed machine.broken) answer is =
    let none = nothing_lent (passed machine.broken) state answer refl refl
    (λ d. nothing_passed d machine.broken _ (broken_steps d.controller) refl refl) in
    record {
      lifetimes = ([], ([], tt));
      state_array = somewhere state;
      answer_array = somewhere answer;
      holds_state = refl;
      holds_answer = refl;
      promise = sym none;
      same = none;
    }
called_is_allowed state (passed (machine.report drive bits)) answer is =
    let none = nothing_lent (passed (machine.report drive bits)) state answer refl refl
    (λ d. nothing_passed d (machine.report drive bits) _ (report_steps d.controller drive bits) refl refl) in
    record {
      lifetimes = ([], ([], tt));
      state_array = somewhere state;
      answer_array = somewhere answer;
      holds_state = refl;
      holds_answer = refl;
      promise = sym none;
      same = none;
    }
called_is_allowed state (passed machine.tick) answer is =
    let none = nothing_lent (passed machine.tick) state answer refl refl
    (λ d. nothing_passed d machine.tick _ (tick_steps d.controller) refl refl) in
    record {
      lifetimes = ([], ([], tt));
      state_array = somewhere state;
      answer_array = somewhere answer;
      holds_state = refl;
      holds_answer = refl;
      promise = sym none;
      same = none;
    }
called_is_allowed state (passed machine.reset) answer is =
    let none = nothing_lent (passed machine.reset) state answer refl refl
    (λ d. nothing_passed d machine.reset _ (reset_steps d.controller) refl refl) in
    record {
      lifetimes = ([], ([], tt));
      state_array = somewhere state;
      answer_array = somewhere answer;
      holds_state = refl;
      holds_answer = refl;
      promise = sym none;
      same = none;
    }
called_is_allowed state (queue job store) answer is =
    let none = nothing_lent (queue job store) state answer refl refl
    (λ d. plain_lent _ _ (queue_steps d job store)) in
    record {
      lifetimes = ([], ([], tt));
      state_array = somewhere state;
      answer_array = somewhere answer;
      holds_state = refl;
      holds_answer = refl;
      promise = sym none;
      same = none;
    }
called_is_allowed state hand answer is =
    let none = nothing_lent hand state answer refl refl
    (λ d. plain_lent _ _ (hand_steps d)) in
    record {
      lifetimes = ([], ([], tt));
      state_array = somewhere state;
      answer_array = somewhere answer;
      holds_state = refl;
      holds_answer = refl;
      promise = sym none;
      same = none;
    }
called_is_allowed state (passed (machine.hand store)) answer is = absurd is
called_is_allowed state (passed (machine.host_data host space check)) answer is =
    record {
      lifetimes = ([], ([], ([], ([], ([], tt)))));
      state_array = somewhere state;
      host_slice = shown host.bytes;
      space_slice = somewhere space;
      check_slice = somewhere check;
      answer_array = somewhere answer;
      holds_state = refl;
      holds_host = refl;
      holds_space = refl;
      holds_check = refl;
      holds_answer = refl;
      promise = refl;
    }
called_is_allowed state (passed (machine.result r space check)) answer is =
    record {
      lifetimes = ([], ([], ([], ([], ([], ([], tt))))));
      state_array = somewhere state;
      mark = bool_byte r.mark;
      image_slice = shown r.image;
      marks_slice = shown r.marks;
      space_slice = somewhere space;
      check_slice = somewhere check;
      answer_array = somewhere answer;
      holds_state = refl;
      holds_mark = flag_set r.mark;
      holds_image = refl;
      holds_marks = refl;
      holds_space = refl;
      holds_check = refl;
      holds_answer = refl;
      promise =
          ap (λ (m : Bool). called
          (passed (machine.result (result_of r.code m r.late r.image r.marks) space check)) state answer)
          (sym (flag_set r.mark));
    }

-- ---- the functions

pub record Meet (M : Type 1) : Type 2 where
  pub fresh : fresh-statement.statement M
  pub byte : byte-statement.statement M
  pub taken : taken-statement.statement M
  pub broken : broken-statement.statement M
  pub report : report-statement.statement M
  pub host_data : data-statement.statement M
  pub result : result-statement.statement M
  pub tick : tick-statement.statement M
  pub reset : reset-statement.statement M
  pub queue : queue-statement.statement M
  pub hand : hand-statement.statement M

pub all_met : {M : Type 1} → Meet M
all_met =
    record {
      fresh = fresh-met.met;
      byte = byte-met.met;
      taken = taken-met.met;
      broken = broken-met.met;
      report = report-met.met;
      host_data = data-met.met;
      result = result-met.met;
      tick = tick-met.met;
      reset = reset-met.met;
      queue = queue-met.met;
      hand = hand-met.met;
    }
