-- For the function that reads a line and for the one that answers it, two wrong answers that its contract does not
-- allow. The contract is `Post`, as the toolchain reads it.
-- Assumes nothing.
use mathlib.Core.Path.{◌≡◌, refl, sym, ap, ap₂, ◌∙◌}
use mathlib.Core.Bool.{Bool, true, false, false≢true}
use mathlib.Core.List.{List, [], ◌∷◌}
use contract.Lifetimes.{Lfts}
use denote.Ref.{Bor, MutBor, at_last}
use Prim.Native.Nat.{ℕ}
use lib.ListN.{get_or}
use borrow.Author.Tests.{eqb-false}
use Rattle.common.specs.Pick.{pick}
use Rattle.status.specs.Drives.{fresh_drives}
use Rattle.status.specs.Words.{no_outcome}
use Rattle.link.specs.declared.state.Action.TheVariants.{Byte as OneByte, Nothing}
use Rattle.link.specs.State.{start_body}
use Rattle.link.specs.Link.{first_byte, collect_byte}
use Rattle.link.specs.Damaged.{sound_drive, sound_drives, sound_body, sound_part, sound_phase, is_sound}
use Rattle.controller.specs.declared.controller.Controller.{Controller}
use Rattle.controller.specs.Controller.{fresh}
use Rattle.controller.specs.Machine.{byte_in, byte_call}
use Rattle.text.specs.Characters.{comma, none_sign}
use Rattle.lines.specs.Characters.{byte_letter, report_letter, byte_sign}
use Rattle.text.specs.Digits.{digit_value, is_digit, all_digits, byte_value, is_byte, byte_of, decimal_from, decimal_of}
use Rattle.text.specs.Digits.{is_decimal}
use Rattle.lines.specs.Line.{Line, unreadable, byte, taken, broken, report, host_data, result, tick, reset}
use Rattle.text.specs.Fields.{part_of, after_field}
use Rattle.lines.specs.Line.{byte_line, report_line, call_line, line_of, plain_line, call_read, line_read}
use Rattle.text.specs.Print.{digit_of, decimal_text}
use Rattle.lines.specs.Print.{action_letter, head_text, answer_text}
use Rattle.lines.specs.Play.{Left, reply_left, line_left, session_left}
use Rattle.std.proofs.Common.{Option, Some, Fits, w64, ◌++◌}
use Rattle.std.proofs.lemmas.List.{append_cancel_left}
use Rattle.lines.specs.declared.line.Call.{Call}
use Rattle.lines.specs.declared.line.Call.TheVariants.{Plain}
use Rattle.lines.specs.declared.line.PlainCall.TheVariants.{Byte, Report}
use Rattle.lines.specs.declared.play.Session.{Session}
use Rattle.lines.proofs.line.read_line.Reads as read-reads
use Rattle.lines.proofs.play.Session.answer.Reads as answer-reads

abbrev is_unreadable : Line → Bool
is_unreadable unreadable = true
is_unreadable (byte b) = false
is_unreadable taken = false
is_unreadable broken = false
is_unreadable (report drive b) = false
is_unreadable (host_data host) = false
is_unreadable (result code mark late image marks space) = false
is_unreadable tick = false
is_unreadable reset = false

-- ---- read_line

module _ (κs : Lfts 1) (line : Bor (List ℕ)) (r : Option Call)
    (allowed : read-reads.Post κs (line, tt) r (line, tt)) where
  -- small letters are read: B,6a
  pub read_line_reads_small_letters : line.now ≡ byte_letter ∷ comma ∷ 54 ∷ 97 ∷ [] → (b : ℕ)
      → r ≡ Some (Plain (Byte b)) → ⊥
  unfolding line_read call_read plain_line line_of call_line byte_line is_byte all_digits is_digit digit_value pick
  read_line_reads_small_letters says b e =
      false≢true (ap is_unreadable (sym (ap line_read e) ∙ allowed ∙ ap line_of says))

  -- drive 256 is read: S,256,22
  pub read_line_reads_drive_256 : line.now ≡ report_letter ∷ comma ∷ 50 ∷ 53 ∷ 54 ∷ comma ∷ 50 ∷ 50 ∷ []
      → (drive value : ℕ)
      → r ≡ Some (Plain (Report drive value))
      → ⊥
  unfolding line_read call_read plain_line line_of call_line report_line part_of after_field is_decimal decimal_of
      decimal_from is_byte all_digits is_digit digit_value pick
  read_line_reads_drive_256 says drive value e =
      false≢true (ap is_unreadable (sym (ap line_read e) ∙ allowed ∙ ap line_of says))

-- ---- answer_line

module _ (N : ℕ) (fits : Fits w64 N) (κs : Lfts 4) (s : MutBor Session) (line : Bor (List ℕ)) (out : MutBor (List ℕ))
    (s' : Session)
    (out' : List ℕ)
    (allowed : answer-reads.Post N fits κs (s, (line, (out, tt))) tt
    (at_last s s', (line, (at_last out out', tt)))) where
  -- an unreadable line changes the state
  pub answer_line_unreadable_changes_the_state : line_of line.now ≡ unreadable
      → (s'.controller ≡ s.now.controller → ⊥)
      → ⊥
  unfolding line_left
  answer_line_unreadable_changes_the_state says wrong =
      wrong (ap (λ (l : Left). l.controller) allowed.1.0 ∙ ap (λ (l : Line). (session_left s.now l).controller) says)

  -- the first byte of a load, B,62, is answered by NACK: 0,A,15,
  pub answer_line_nack_to_a_load : s.now.controller ≡ fresh
      → line.now ≡ byte_letter ∷ comma ∷ 54 ∷ 50 ∷ []
      → out' ≡ out.now ++ answer_text 0 (OneByte 0x15) []
      → ⊥
  unfolding line_left reply_left line_of call_line byte_line byte_of byte_value is_byte all_digits is_digit digit_value
      fresh start_body fresh_drives is_sound sound_body sound_drives sound_drive no_outcome sound_phase sound_part
      byte_call byte_in collect_byte first_byte
      answer_text head_text decimal_text digit_of action_letter pick
  answer_line_nack_to_a_load begins says wrong =
      let space = s.now.buffers.space in
      let check = s.now.buffers.check in
      let right : (session_left s.now (line_of line.now)).text ≡ answer_text 0 Nothing [] =
      ap₂ (λ (x : Controller) (l : List ℕ). (line_left x (line_of l) space check).text) begins says
      in
      let same = append_cancel_left out.now _ _ (sym allowed.1.1 ∙ wrong) in
      eqb-false none_sign byte_sign refl (ap (λ (l : List ℕ). get_or l 2 0) (sym right ∙ same))
