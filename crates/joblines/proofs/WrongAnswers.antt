-- For the function that reads a job line and for the one that answers it, two wrong answers that its contract does not
-- allow. The contract is `Post`, as the toolchain reads it.
-- Assumes nothing.
use mathlib.Core.Path.{◌≡◌, refl, sym, ap, ap₂, ◌∙◌}
use mathlib.Core.Bool.{Bool, true, false, false≢true}
use mathlib.Core.List.{List, [], ◌∷◌, ◌++◌}
use contract.Lifetimes.{Lfts}
use denote.Ref.{Bor, MutBor, at_last}
use Prim.Native.Nat.{ℕ}
use lib.ListN.{get_or}
use borrow.Author.Tests.{eqb-false}
use Rattle.common.specs.Pick.{pick}
use Rattle.status.specs.Drives.{fresh_drives}
use Rattle.status.specs.Words.{no_outcome}
use Rattle.operations.specs.declared.store.Store.{Store}
use Rattle.link.specs.State.{start_body}
use Rattle.link.specs.declared.state.Action.TheVariants.{Nothing}
use Rattle.std.proofs.Common.{Option, None, Some, Fits, w64}
use Rattle.std.proofs.lemmas.List.{append_cancel_left}
use Rattle.link.specs.Damaged.{sound_drive, sound_drives, sound_body, sound_part, sound_phase, is_sound}
use Rattle.controller.specs.Controller.{fresh}
use Rattle.queues.specs.Jobs.{fresh_queues, are_sound}
use Rattle.dispatcher.specs.declared.dispatcher.Dispatcher.{Dispatcher}
use Rattle.dispatcher.specs.Dispatcher.{fresh_dispatcher, is_whole, queue_refusal, queue_call}
use Rattle.text.specs.Characters.{comma}
use Rattle.text.specs.Digits.{digit_value, is_digit, all_digits, is_byte, decimal_from, decimal_of, is_decimal}
use Rattle.text.specs.Fields.{part_of, after_field, after_fields}
use Rattle.lines.specs.Line.{unreadable}
use Rattle.text.specs.Print.{digit_of, decimal_text}
use Rattle.lines.specs.Print.{head_text}
use Rattle.joblines.specs.Line.{JobLine, queueing, handing, session_line}
use Rattle.joblines.specs.Line.{queue_letter, is_operand, store_line, queue_line, is_hand, is_queue, job_line_of}
use Rattle.joblines.specs.Line.{job_line_read}
use Rattle.joblines.specs.Print.{job_answer_text}
use Rattle.joblines.specs.Play.{JobLeft, job_answer, dispatched_left, reply_left, session_left, job_line_left}
use Rattle.joblines.specs.declared.line.JobCall.{JobCall}
use Rattle.joblines.specs.declared.line.JobCall.TheVariants.{Queue}
use Rattle.joblines.specs.declared.play.Jobs.{Jobs}
use Rattle.joblines.proofs.line.read_job_line.Reads as read-reads
use Rattle.joblines.proofs.play.Jobs.answer.Reads as answer-reads

abbrev is_queueing : JobLine → Bool
is_queueing (queueing job store) = true
is_queueing handing = false
is_queueing (session_line line) = false

-- Q,JOB,ADDRESS,00000000
abbrev queue_of_zeros : List ℕ → List ℕ → List ℕ
queue_of_zeros job address =
    queue_letter ∷ comma ∷ (job ++ (comma ∷ (address ++ (comma ∷ 48 ∷ 48 ∷ 48 ∷ 48 ∷ 48 ∷ 48 ∷ 48 ∷ 48 ∷ []))))

-- ---- read_job_line

module _ (κs : Lfts 1) (line : Bor (List ℕ)) (r : Option JobCall)
    (allowed : read-reads.Post κs (line, tt) r (line, tt)) where
  -- small letters are read: Q,0,3a,00000000
  pub read_job_line_reads_small_letters : line.now ≡ queue_of_zeros (48 ∷ []) (51 ∷ 97 ∷ [])
      → (job : ℕ) (store : Store)
      → r ≡ Some (Queue job store)
      → ⊥
  unfolding job_line_read job_line_of is_hand is_queue queue_line store_line part_of after_field after_fields is_decimal
      decimal_of decimal_from is_byte is_operand all_digits is_digit digit_value pick
  read_job_line_reads_small_letters says job store e =
      false≢true (ap is_queueing (sym (ap job_line_of says) ∙ sym allowed ∙ ap job_line_read e))

  -- job 256 is read: Q,256,38,00000000
  pub read_job_line_reads_job_256 : line.now ≡ queue_of_zeros (50 ∷ 53 ∷ 54 ∷ []) (51 ∷ 56 ∷ [])
      → (job : ℕ) (store : Store)
      → r ≡ Some (Queue job store)
      → ⊥
  unfolding job_line_read job_line_of is_hand is_queue queue_line store_line part_of after_field after_fields is_decimal
      decimal_of decimal_from is_byte is_operand all_digits is_digit digit_value pick
  read_job_line_reads_job_256 says job store e =
      false≢true (ap is_queueing (sym (ap job_line_of says) ∙ sym allowed ∙ ap job_line_read e))

-- ---- answer_job_line

module _ (N : ℕ) (fits : Fits w64 N) (κs : Lfts 4) (j : MutBor Jobs) (line : Bor (List ℕ)) (out : MutBor (List ℕ))
    (j' : Jobs)
    (out' : List ℕ)
    (allowed : answer-reads.Post N fits κs (j, (line, (out, tt)))
    tt (at_last j j', (line, (at_last out out', tt)))) where
  -- an unreadable line changes the queues, or the controller
  pub answer_job_line_unreadable_changes_the_state : job_line_of line.now ≡ session_line unreadable
      → (j'.dispatcher ≡ j.now.dispatcher → ⊥)
      → ⊥
  unfolding job_line_left session_left
  answer_job_line_unreadable_changes_the_state says wrong =
      let space = j.now.buffers.space in
      let check = j.now.buffers.check in
      wrong (ap (λ (l : JobLeft). l.dispatcher) allowed.1.0
      ∙ ap (λ (l : JobLine). (job_line_left j.now.dispatcher l space check).dispatcher) says)

  -- a store of job 4 is taken, Q,4,38,00000000: 0,-,,,-
  pub answer_job_line_takes_job_4 : j.now.dispatcher ≡ fresh_dispatcher
      → line.now ≡ queue_of_zeros (52 ∷ []) (51 ∷ 56 ∷ [])
      → out' ≡ out.now ++ job_answer_text 0 Nothing [] None
      → ⊥
  unfolding job_line_left reply_left dispatched_left job_line_of is_hand is_queue queue_line store_line part_of
      after_field after_fields is_decimal decimal_of decimal_from is_byte is_operand all_digits is_digit digit_value
      fresh_dispatcher fresh_queues are_sound is_whole queue_refusal queue_call fresh start_body fresh_drives is_sound
      sound_body sound_drives sound_drive no_outcome sound_phase sound_part job_answer_text head_text decimal_text
      digit_of pick
  answer_job_line_takes_job_4 begins says wrong =
      let space = j.now.buffers.space in
      let check = j.now.buffers.check in
      let right : (job_answer j.now line.now).text ≡ job_answer_text 16 Nothing [] None =
      ap₂ (λ (x : Dispatcher) (l : List ℕ). (job_line_left x (job_line_of l) space check).text) begins says
      in
      let same = append_cancel_left out.now _ _ (sym allowed.1.1 ∙ wrong) in
      eqb-false 49 48 refl (ap (λ (l : List ℕ). get_or l 0 0) (sym right ∙ same))
