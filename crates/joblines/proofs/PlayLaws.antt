-- Laws of a line's answer: what a call answers and leaves.
-- Assumes nothing.
use Rattle.std.proofs.Common.{Result as Told, Ok, Err, None, Some}
use Rattle.common.specs.Told.{number_of}
use Rattle.link.specs.declared.state.Action.TheVariants.{Nothing}
use mathlib.Core.Path.{◌≡◌, refl, sym, ap, subst, ◌∙◌}
use Prim.Native.Nat.{ℕ, min}
use native.Mathlib.Omega.{arith}
use mathlib.Core.Bool.{Bool, true, false}
use mathlib.Core.List.{List, [], ◌++◌}
use lib.ListN.{length, take, drop, take-append-drop}
use Rattle.common.specs.Pick.{pick}
use Rattle.common.specs.Refusals.{state_damaged}
use Rattle.common.specs.Told.{refusal_number}
use Rattle.common.specs.declared.refusals.Refusal.{Refusal}
use Rattle.records.specs.Place.{no_place}
use Rattle.transfers.specs.Data.{host_of}
use Rattle.transfers.specs.Results.{result_of}
use Rattle.controller.specs.declared.controller.Answer.{Answer}
use Rattle.controller.specs.declared.controller.Given.{Given}
use Rattle.controller.specs.Records as records
use Rattle.controller.specs.Machine.{data_call, result_call}
use Rattle.queues.specs.declared.jobs.Queues.{Queues}
use Rattle.queues.specs.Jobs.{are_sound}
use Rattle.dispatcher.specs.declared.dispatcher.Dispatcher.{Dispatcher}
use Rattle.dispatcher.specs.Told.{Dispatched, DispatchedTransfer, told_of}
use Rattle.dispatcher.specs.Dispatcher.{answered_in, answer_with, answer_with_queues, unchanged_transfer, passed_answer}
use Rattle.dispatcher.specs.Dispatcher.{Answer as Transferred, queue_call, hand_call}
use Rattle.operations.specs.declared.store.Store.{Store}
use Rattle.text.specs.Hex.{hex_bytes}
use Rattle.lines.specs.Line.{Line, host_data, result, plain_line, lent_line, call_read}
use Rattle.lines.specs.declared.line.Call.{Call}
use Rattle.lines.specs.declared.line.Call.TheVariants.{Plain, Lent}
use Rattle.lines.specs.Print.{action_of}
use Rattle.lines.specs.Play.{plain_reply, part_answer, fields_answer, lent_answer, in_whole_space as whole_space}
use Rattle.lines.specs.declared.line.PlainCall.{PlainCall}
use Rattle.lines.specs.declared.line.PlainCall.TheVariants.{Byte, Taken, Broken, Report, Tick, Reset}
use Rattle.lines.specs.declared.line.LentCall.{LentCall}
use Rattle.lines.specs.declared.line.LentCall.TheVariants.{HostData, Result}
use Rattle.lines.specs.declared.play.Buffers.{Buffers}
use Rattle.lines.proofs.PlayLaws.{take_min}
use Rattle.joblines.specs.Line.{JobLine, queueing, handing, session_line, job_line_of, job_line_read}
use Rattle.joblines.specs.declared.line.JobCall.{JobCall}
use Rattle.joblines.specs.declared.line.JobCall.TheVariants.{Queue, Hand, Session}
use Rattle.joblines.specs.Print.{handed_of, job_answer_text, job_unreadable_text}
use Rattle.joblines.specs.Play.{JobLeft, job_left, job_answer, dispatched_left, lent_left, reply_left, session_left}
use Rattle.joblines.specs.Play.{in_whole_space}
use Rattle.joblines.specs.Play.{plain_dispatched, lent_dispatched, job_line_left}
use Rattle.joblines.specs.declared.play.Jobs.{Jobs}

-- ---- what a call answers is what is left of its line

pub plain_left_lem : (d : Dispatcher) (call : PlainCall) (space check : List ℕ)
    → reply_left (plain_dispatched d call) space check ≡ session_left d (plain_line call) space check
unfolding plain_dispatched plain_reply plain_line session_left
plain_left_lem d (Byte b) space check = refl
plain_left_lem d Taken space check = refl
plain_left_lem d Broken space check = refl
plain_left_lem d (Report drive b) space check = refl
plain_left_lem d Tick space check = refl
plain_left_lem d Reset space check = refl

none_given : (n : ℕ) → 0 ≡ min 0 n
none_given n = omega arith

-- an answer in the start of a space is told of the whole space before it is passed on, or after
whole_passed : (sound : Bool) (queues : Queues) (a : records.Answer) (kept : DispatchedTransfer)
    (part rest space check : List ℕ)
    → kept.bytes ≡ 0
    → part ++ rest ≡ space
    → pick sound (answer_with_queues queues (whole_space a rest)) (answer_with kept space check)
    ≡ in_whole_space (pick sound (answer_with_queues queues a) (answer_with kept part check)) rest
unfolding pick
whole_passed true queues a kept part rest space check none joined = refl
whole_passed false queues a kept part rest space check none joined = rw (none, ← none_given (length part), joined)

-- of any numbers, also of those that no digits of a line spell
pub data_left_lem : (d : Dispatcher) (host space check : List ℕ)
    → dispatched_left (passed_answer d (data_call d.controller (host_of host no_place) space check) space check)
    ≡ session_left d (host_data host) space check
unfolding session_left
data_left_lem d host space check = refl

pub result_left_lem : (d : Dispatcher) (code : ℕ) (mark : Bool) (late : ℕ) (image marks : List ℕ) (lent : ℕ)
    (space check : List ℕ)
    → dispatched_left
    (passed_answer d (part_answer d.controller (result_of code mark late image marks) lent space check) space check)
    ≡ session_left d (result code mark late image marks lent) space check
unfolding passed_answer session_left
result_left_lem d code mark late image marks lent space check =
    let part = take lent space in
    ap dispatched_left
    (whole_passed (are_sound d.queues) d.queues
    (result_call d.controller (result_of code mark late image marks) part check)
    (unchanged_transfer state_damaged d)
    part (drop lent space) space check refl (take-append-drop lent space))

pub lent_left_lem : (j : Jobs) (call : LentCall)
    → lent_left j call ≡ session_left j.dispatcher (lent_line call) j.buffers.space j.buffers.check
unfolding lent_dispatched lent_answer fields_answer lent_line
lent_left_lem j (HostData host) = data_left_lem j.dispatcher (hex_bytes host) j.buffers.space j.buffers.check
lent_left_lem j (Result f) =
    result_left_lem j.dispatcher f.code f.mark f.late (hex_bytes f.image) (hex_bytes f.marks) f.space j.buffers.space
    j.buffers.check

-- ---- what is left of a line, with the text that is put

-- what is left is known by the text alone
module _ (d : Dispatcher) (b : Buffers) (text : List ℕ) {l : JobLeft}
    (e : job_left (record { dispatcher = d; buffers = b }) text ≡ l) where
  pub left_with : job_left (record { dispatcher = d; buffers = b }) l.text ≡ l
  left_with = subst (λ (l : JobLeft). job_left (record { dispatcher = d; buffers = b }) l.text ≡ l) e refl

  pub text_with : (before after : List ℕ) → after ≡ before ++ text → after ≡ before ++ l.text
  text_with before after put = put ∙ ap (λ (l : JobLeft). before ++ l.text) e

pub unreadable_left : (j : Jobs) (said : List ℕ) → job_line_read None ≡ job_line_of said
    → job_left j job_unreadable_text ≡ job_answer j said
unfolding job_line_left job_line_read session_left
unreadable_left j said says = ap (λ (l : JobLine). job_line_left j.dispatcher l j.buffers.space j.buffers.check) says

session_says : (of_session : Call) (call : JobCall) (said : List ℕ) → call ≡ Session of_session
    → job_line_read (Some call) ≡ job_line_of said
    → session_line (call_read of_session) ≡ job_line_of said
unfolding job_line_read
session_says of_session call said is says = ap (λ (x : JobCall). job_line_read (Some x)) (sym is) ∙ says

module _ (j : Jobs) (said : List ℕ) (d : Dispatcher) (r : Told Answer Refusal) where
  abbrev answer_left : JobLeft
  answer_left =
      job_left (record { dispatcher = d; buffers = j.buffers })
      (job_answer_text (refusal_number r) (action_of r) [] (handed_of r))

  told_left : (r : Told Answer Refusal)
      → job_left (record { dispatcher = d; buffers = j.buffers })
      (job_answer_text (refusal_number r) (action_of r) [] (handed_of r))
      ≡ reply_left (told_of d r) j.buffers.space j.buffers.check
  unfolding reply_left dispatched_left
  told_left (Ok a) = refl
  told_left (Err e) = refl

  answered_left : (x : Dispatched) (line : JobLine) → told_of d r ≡ x
      → reply_left x j.buffers.space j.buffers.check
      ≡ job_line_left j.dispatcher line j.buffers.space j.buffers.check
      → line ≡ job_line_of said
      → answer_left ≡ job_answer j said
  answered_left x line told left says =
      told_left r
      ∙ ap (λ (x : Dispatched). reply_left x j.buffers.space j.buffers.check) told
      ∙ left
      ∙ ap (λ (l : JobLine). job_line_left j.dispatcher l j.buffers.space j.buffers.check) says

  pub queue_left : (job : ℕ) (store : Store) (call : JobCall) → call ≡ Queue job store
      → job_line_read (Some call) ≡ job_line_of said
      → told_of d r ≡ queue_call j.dispatcher job store
      → answer_left ≡ job_answer j said
  unfolding job_line_left job_line_read
  queue_left job store call is says told =
      answered_left _ (queueing job store) told refl (ap (λ (x : JobCall). job_line_read (Some x)) (sym is) ∙ says)

  pub hand_left : (call : JobCall) → call ≡ Hand → job_line_read (Some call) ≡ job_line_of said
      → told_of d r ≡ hand_call j.dispatcher
      → answer_left ≡ job_answer j said
  unfolding job_line_left job_line_read
  hand_left call is says told =
      answered_left _ handing told refl (ap (λ (x : JobCall). job_line_read (Some x)) (sym is) ∙ says)

  pub plain_left : (plain : PlainCall) (of_session : Call) (call : JobCall) → of_session ≡ Plain plain
      → call ≡ Session of_session
      → job_line_read (Some call) ≡ job_line_of said
      → told_of d r ≡ plain_dispatched j.dispatcher plain
      → answer_left ≡ job_answer j said
  unfolding job_line_left call_read
  plain_left plain of_session call is is_session says told =
      answered_left _ (session_line (plain_line plain)) told
      (plain_left_lem j.dispatcher plain j.buffers.space j.buffers.check)
      (sym (ap (λ (x : Call). session_line (call_read x)) is) ∙ session_says of_session call said is_session says)

-- what is left of a line of the session program's is left of the line that was said
pub session_is : (j : Jobs) (said : List ℕ) (line : Line) {l : JobLeft}
    → l ≡ session_left j.dispatcher line j.buffers.space j.buffers.check
    → session_line line ≡ job_line_of said
    → l ≡ job_answer j said
unfolding job_line_left
session_is j said line left says =
    left ∙ ap (λ (l : JobLine). job_line_left j.dispatcher l j.buffers.space j.buffers.check) says

pub lent_is : (j : Jobs) (said : List ℕ) (lent : LentCall) (of_session : Call) (call : JobCall) → of_session ≡ Lent lent
    → call ≡ Session of_session
    → job_line_read (Some call) ≡ job_line_of said
    → lent_left j lent ≡ job_answer j said
unfolding call_read
lent_is j said lent of_session call is is_session says =
    session_is j said (lent_line lent) (lent_left_lem j lent)
    (sym (ap (λ (x : Call). session_line (call_read x)) is) ∙ session_says of_session call said is_session says)

-- what was answered to a call that is lent space, by what it gives of that, or by its refusal
module _ (answer : Transferred) (d : Dispatcher) (b : Buffers) (r : Told Given Refusal)
    (h : answered_in d r b.space b.check ≡ answer) where
  pub given_is : (g : Given) (k : ℕ) → r ≡ Ok g → k ≡ min g.bytes (length b.space)
      → job_left (record { dispatcher = d; buffers = b })
      (job_answer_text 0 g.answer.action (take k b.space) g.answer.handed)
      ≡ dispatched_left answer
  unfolding dispatched_left
  given_is g k told e =
      rw (take_min b.space g.bytes k e)
      (ap dispatched_left (subst (λ (x : Told Given Refusal). answered_in d x b.space b.check ≡ answer) told h))

  pub refused_is : (e : Refusal) → r ≡ Err e
      → job_left (record { dispatcher = d; buffers = b })
      (job_answer_text (number_of e) Nothing [] None)
      ≡ dispatched_left answer
  unfolding dispatched_left
  refused_is e told =
      ap dispatched_left (subst (λ (x : Told Given Refusal). answered_in d x b.space b.check ≡ answer) told h)

-- and so for a call that was read
module _ (j : Jobs) (call : LentCall) (d : Dispatcher) (b : Buffers) (r : Told Given Refusal)
    (h : answered_in d r b.space b.check ≡ lent_dispatched j.dispatcher call j.buffers.space j.buffers.check) where
  pub given_left : (g : Given) (k : ℕ) → r ≡ Ok g → k ≡ min g.bytes (length b.space)
      → job_left (record { dispatcher = d; buffers = b })
      (job_answer_text 0 g.answer.action (take k b.space) g.answer.handed)
      ≡ lent_left j call
  given_left = given_is _ d b r h

  pub refused_left : (e : Refusal) → r ≡ Err e
      → job_left (record { dispatcher = d; buffers = b })
      (job_answer_text (number_of e) Nothing [] None)
      ≡ lent_left j call
  refused_left = refused_is _ d b r h
