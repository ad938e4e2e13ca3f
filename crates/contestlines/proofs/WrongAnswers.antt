-- For the function that reads a question and for the one that answers it, two wrong answers that its contract does not
-- allow. The contract is `Post`, as the toolchain reads it.
-- Assumes nothing.
use mathlib.Core.Path.{◌≡◌, refl, sym, ap, ◌∙◌}
use Prim.Native.Nat.{ℕ}
use mathlib.Core.List.{List, [], ◌∷◌, ◌++◌}
use contract.Lifetimes.{Lfts}
use denote.Bor.{Bor}
use denote.Ref.{MutBor, at_last}
use lib.ListN.{get_or}
use borrow.Author.Tests.{eqb-false}
use Rattle.common.specs.Pick.{pick}
use Rattle.contest.specs.declared.contest.Question.{Question}
use Rattle.contest.specs.Contest.{Opening}
use Rattle.contest.specs.Told.Answer.{No, Yes}
use Rattle.contest.specs.Answer.{is_above_limit, solve}
use Rattle.text.specs.Characters.{comma, zero_digit, unreadable_sign}
use Rattle.text.specs.Digits.{digit_value, is_digit, all_digits, decimal_from, decimal_of, is_decimal}
use Rattle.text.specs.Fields.{part_of, after_field, after_fields}
use Rattle.text.specs.Print.{digit_of, decimal_text}
use Rattle.contestlines.specs.Characters.{proper_letter}
use Rattle.contestlines.specs.Line.{numbers_line, fields_line, gap_line, question_of}
use Rattle.contestlines.specs.Print.{refusal_of, contest_text, contest_unreadable_text, question_text}
use Rattle.contestlines.specs.Print.{contest_line_text}
use Rattle.std.proofs.Common.{Option, None, Some, Fits, w64}
use Rattle.std.proofs.lemmas.Option.{none-some}
use Rattle.std.proofs.lemmas.List.{append_cancel_left}
use Rattle.contestlines.proofs.line.read_question.Reads as read-reads
use Rattle.contestlines.proofs.print.put_contest_line.Reads as print-reads

-- ---- read_question

module _ (κs : Lfts 1) (line : Bor (List ℕ)) (r : Option Question)
    (allowed : read-reads.Post κs (line, tt) r (line, tt)) (q : Question) where
  -- a small letter is read: p,1,3,1
  pub read_question_reads_a_small_letter : line.now ≡ 112 ∷ comma ∷ 49 ∷ comma ∷ 51 ∷ comma ∷ 49 ∷ []
      → r ≡ Some q → ⊥
  unfolding question_of gap_line pick
  read_question_reads_a_small_letter says wrong =
      let right : r ≡ None = allowed ∙ ap question_of says in none-some q (sym right ∙ wrong)

  -- 256 is read: P,256,3,1
  pub read_question_reads_256 : line.now ≡ proper_letter ∷ comma ∷ 50 ∷ 53 ∷ 54 ∷ comma ∷ 51 ∷ comma ∷ 49 ∷ []
      → r ≡ Some q → ⊥
  unfolding question_of gap_line fields_line numbers_line part_of after_fields after_field is_decimal decimal_of
      decimal_from all_digits is_digit digit_value pick
  read_question_reads_256 says wrong =
      let right : r ≡ None = allowed ∙ ap question_of says in none-some q (sym right ∙ wrong)

-- ---- print_contest_line

module _ (N : ℕ) (fits : Fits w64 N) (κs : Lfts 3) (line : Bor (List ℕ)) (out : MutBor (List ℕ)) (out' : List ℕ)
    (allowed : print-reads.Post N fits κs (line, (out, tt)) tt (line, (at_last out out', tt))) where
  -- no is printed for an unreadable line
  pub print_no_for_an_unreadable_line : question_of line.now ≡ None → out' ≡ out.now ++ contest_text No → ⊥
  unfolding contest_line_text question_text contest_unreadable_text contest_text decimal_text refusal_of digit_of pick
  print_no_for_an_unreadable_line says wrong =
      let right = append_cancel_left out.now _ _ (sym allowed.1 ∙ wrong) in
      eqb-false unreadable_sign zero_digit refl
      (ap (λ (l : List ℕ). get_or l 0 0) (sym (ap question_text says) ∙ right))

  -- yes is printed for nine writes: P,9,9,0
  pub print_yes_above_a_limit : line.now ≡ proper_letter ∷ comma ∷ 57 ∷ comma ∷ 57 ∷ comma ∷ 48 ∷ [] → (first : Opening)
      → out' ≡ out.now ++ contest_text (Yes first) → ⊥
  unfolding contest_line_text question_text contest_text decimal_text refusal_of digit_of solve is_above_limit
      question_of gap_line fields_line numbers_line part_of after_fields after_field is_decimal decimal_of decimal_from
      all_digits is_digit digit_value pick
  print_yes_above_a_limit says first wrong =
      let right = append_cancel_left out.now _ _ (sym allowed.1 ∙ wrong) in
      eqb-false 50 zero_digit refl (ap (λ (l : List ℕ). get_or l 0 0) (sym (ap contest_line_text says) ∙ right))
