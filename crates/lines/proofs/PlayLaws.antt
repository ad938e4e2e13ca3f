-- Laws of a line's answer: a part that ends with its list at the latest, and what a call answers and leaves.
-- Assumes nothing.
use mathlib.Core.Path.{◌≡◌, refl, sym, ap, ◌∙◌}
use Prim.Native.Nat.{ℕ, ◌≤◌, ◌<◌, min}
use native.Mathlib.Nat.{lt_of_not-le}
use native.Mathlib.Decide.{dec_le}
use native.Mathlib.Omega.{arith}
use mathlib.Core.Bool.{Bool}
use mathlib.Core.List.{List, []}
use lib.ListN.{length, take}
use lib.Seq.{take_all, take-append-le}
use Rattle.std.proofs.Common.{Result as Step, Ok, Err}
use Rattle.common.specs.declared.refusals.Refusal.{Refusal}
use Rattle.common.specs.Told.{refusal_number}
use Rattle.controller.specs.declared.controller.Answer.{Answer as Answered}
use Rattle.controller.specs.declared.controller.Given.{Given}
use Rattle.controller.specs.declared.controller.Controller.{Controller}
use Rattle.controller.specs.Told.{told_of, told_transfer_of}
use Rattle.lines.specs.declared.play.Session.{Session}
use Rattle.controller.specs.Records.{Answer, answered_in}
use Rattle.controller.specs.Machine.{data_call}
use Rattle.records.specs.Place.{no_place}
use Rattle.transfers.specs.Data.{host_of}
use Rattle.transfers.specs.Results.{result_of}
use Rattle.text.specs.Hex.{hex_bytes}
use Rattle.lines.specs.Print.{action_of, answer_text, reply_text}
use Rattle.lines.specs.Line.{Line, host_data, result, plain_line, lent_line}
use Rattle.lines.specs.Play.{Left, transfer_left, reply_left, session_left, left, with_rest, line_left, plain_reply}
use Rattle.lines.specs.Play.{in_whole_space, part_answer, fields_answer, lent_answer, plain_left, lent_left}
use Rattle.lines.specs.declared.line.PlainCall.{PlainCall}
use Rattle.lines.specs.declared.line.PlainCall.TheVariants.{Byte, Taken, Broken, Report, Tick, Reset}
use Rattle.lines.specs.declared.line.LentCall.{LentCall}
use Rattle.lines.specs.declared.line.LentCall.TheVariants.{HostData, Result}

pub take_min : (l : List ℕ) (n k : ℕ) → k ≡ min n (length l) → take k l ≡ take n l
take_min l n k e =
    elim (dec_le n (length l)) [
      | yes within ↦ let same : k ≡ n = omega arith in ap (λ (x : ℕ). take x l) same
      | no over ↦
          let past : length l < n = lt_of_not-le over in
          take_all k l (omega arith) ∙ sym (take_all n l (omega arith))
    ]

-- ---- what a call answers is what is left of its line

pub plain_left_lem : (c : Controller) (call : PlainCall) (space check : List ℕ)
    → plain_left c call space check ≡ line_left c (plain_line call) space check
unfolding plain_reply plain_line line_left
plain_left_lem c (Byte b) space check = refl
plain_left_lem c Taken space check = refl
plain_left_lem c Broken space check = refl
plain_left_lem c (Report drive b) space check = refl
plain_left_lem c Tick space check = refl
plain_left_lem c Reset space check = refl

-- what is given in the start of a space is printed alike from the whole space
whole_left : (a : Answer) (rest : List ℕ) → transfer_left (in_whole_space a rest) ≡ with_rest (transfer_left a) rest
unfolding transfer_left with_rest
whole_left a rest =
    let within : min a.bytes (length a.space) ≤ length a.space = omega arith in
    rw (
      take-append-le (min a.bytes (length a.space)) a.space rest within,
      take_min a.space a.bytes
          (min a.bytes (length a.space)) refl,
    )

-- of any numbers, also of those that no digits of a line spell
pub data_left_lem : (c : Controller) (host space check : List ℕ)
    → transfer_left (data_call c (host_of host no_place) space check) ≡ line_left c (host_data host) space check
unfolding line_left
data_left_lem c host space check = refl

pub result_left_lem : (c : Controller) (code : ℕ) (mark : Bool) (late : ℕ) (image marks : List ℕ) (lent : ℕ)
    (space check : List ℕ)
    → transfer_left (part_answer c (result_of code mark late image marks) lent space check)
    ≡ line_left c (result code mark late image marks lent) space check
unfolding line_left
result_left_lem c code mark late image marks lent space check = whole_left _ _

pub lent_left_lem : (c : Controller) (call : LentCall) (space check : List ℕ)
    → lent_left c call space check ≡ line_left c (lent_line call) space check
unfolding lent_answer fields_answer lent_line
lent_left_lem c (HostData host) space check = data_left_lem c (hex_bytes host) space check
lent_left_lem c (Result f) space check =
    result_left_lem c f.code f.mark f.late (hex_bytes f.image) (hex_bytes f.marks) f.space space check

-- ---- what a session leaves

-- an answer, as the definitions have it
told_state : (c : Controller) (a : Step Answered Refusal) → (told_of c a).controller ≡ c
told_state c (Ok a) = refl
told_state c (Err e) = refl

told_text : (c : Controller) (a : Step Answered Refusal) (bytes : List ℕ)
    → answer_text (refusal_number a) (action_of a) bytes ≡ answer_text (told_of c a).refusal (told_of c a).action bytes
told_text c (Ok a) bytes = refl
told_text c (Err e) bytes = refl

module _ (s : Session) (call : PlainCall) (c : Controller) (a : Step Answered Refusal)
    (e : told_of c a ≡ plain_reply s.controller call)
    (line : Line)
    (says : plain_line call ≡ line) where
  plain_is : reply_left (told_of c a) s.buffers.space s.buffers.check ≡ session_left s line
  plain_is = rw (e, sym says) (plain_left_lem s.controller call s.buffers.space s.buffers.check)

  pub plain_text : answer_text (refusal_number a) (action_of a) [] ≡ (session_left s line).text
  unfolding reply_left
  plain_text = told_text c a [] ∙ ap (λ (l : Left). l.text) plain_is

  pub plain_leaves : left (record { controller = c; buffers = s.buffers }) (session_left s line).text
      ≡ session_left s line
  unfolding reply_left
  plain_leaves =
      rw (sym plain_is) (ap (λ (x : Controller). record {
        controller = x;
        space = s.buffers.space;
        check = s.buffers.check;
        text = reply_text (told_of c a).refusal (told_of c a).action;
      }) (sym (told_state c a)))

given_state : (c : Controller) (g : Step Given Refusal) → (told_transfer_of c g).reply.controller ≡ c
given_state c (Ok g) = refl
given_state c (Err e) = refl

-- what a call that is lent space answered is what is left of a line
module _ (s new : Session) (line : Line) (answer : Answer) (says : transfer_left answer ≡ session_left s line)
    (g : Step Given Refusal)
    (e : answered_in new.controller g new.buffers.space new.buffers.check ≡ answer) where
  answered_is : transfer_left (answered_in new.controller g new.buffers.space new.buffers.check) ≡ session_left s line
  answered_is = rw e says

  pub answered_text : (a : Step Answered Refusal) (k : ℕ)
      → told_of new.controller a ≡ (told_transfer_of new.controller g).reply
      → k ≡ min (told_transfer_of new.controller g).bytes (length new.buffers.space)
      → answer_text (refusal_number a) (action_of a) (take k new.buffers.space) ≡ (session_left s line).text
  unfolding transfer_left
  answered_text a k same within =
      let cut = take_min new.buffers.space (told_transfer_of new.controller g).bytes k within in
      rw (told_text new.controller a, same, cut)
      (ap (λ (l : Left). l.text) answered_is)

  pub answered_leaves : left new (session_left s line).text ≡ session_left s line
  unfolding transfer_left
  answered_leaves =
      rw (sym answered_is) (ap (λ (x : Controller). record {
        controller = x;
        space = new.buffers.space;
        check = new.buffers.check;
        text = (transfer_left (answered_in new.controller g new.buffers.space new.buffers.check)).text;
      }) (sym (given_state new.controller g)))

module _ (s new : Session) (call : LentCall) (g : Step Given Refusal)
    (e : answered_in new.controller g new.buffers.space new.buffers.check
    ≡ lent_answer s.controller call s.buffers.space s.buffers.check) where
  lent_is : transfer_left (answered_in new.controller g new.buffers.space new.buffers.check)
      ≡ session_left s (lent_line call)
  lent_is = answered_is s new (lent_line call) _ (lent_left_lem s.controller call s.buffers.space s.buffers.check) g e

  pub lent_text : (a : Step Answered Refusal) (k : ℕ)
      → told_of new.controller a ≡ (told_transfer_of new.controller g).reply
      → k ≡ min (told_transfer_of new.controller g).bytes (length new.buffers.space)
      → answer_text (refusal_number a) (action_of a) (take k new.buffers.space)
      ≡ (session_left s (lent_line call)).text
  lent_text =
      answered_text s new (lent_line call) _ (lent_left_lem s.controller call s.buffers.space s.buffers.check) g e

  pub lent_leaves : left new (session_left s (lent_line call)).text ≡ session_left s (lent_line call)
  lent_leaves =
      answered_leaves s new (lent_line call) _ (lent_left_lem s.controller call s.buffers.space s.buffers.check) g e
