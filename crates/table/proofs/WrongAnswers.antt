-- For the function that works out an answer and for the one that makes the text, two wrong answers that its contract
-- does not allow. The contract is `Post`, as the toolchain reads it.
-- Assumes nothing.
use mathlib.Core.Path.{◌≡◌, refl, ap, sym, ◌∙◌}
use mathlib.Core.List.{List}
use Prim.Native.Nat.{ℕ}
use lib.ListN.{get_or}
use borrow.Author.Tests.{eqb-false}
use Rattle.common.specs.Pick.{pick}
use Rattle.operations.specs.declared.operation.Operation.TheVariants.{SkipForward, CheckBytes}
use Rattle.operations.specs.Answers.{supplied_codes, listed_codes, trailing_codes, clear_codes, never_reported}
use Rattle.operations.specs.Answers.{asks_retry}
use Rattle.operations.specs.Answers.{is_in, answer_of, listing_number}
use Rattle.operations.specs.declared.answers.Listing.{Listing}
use Rattle.table.specs.Text.{comma, line_feed, line_order, digits_from, parted, line_text, lines_text, table_text}
use Rattle.table.proofs.rules.answer_by_rules.Reads as answer-reads
use Rattle.table.proofs.print.table_text.Reads as text-reads

-- ---- answer_of

-- code F on a forward skip asks a retry
pub answer_by_rules_a_skip_with_f_asks_a_retry : (r : Listing)
    → answer-reads.Post tt (SkipForward, (0xF, tt)) r (SkipForward, (0xF, tt)) → listing_number r ≡ asks_retry → ⊥
unfolding answer_of clear_codes trailing_codes is_in pick
answer_by_rules_a_skip_with_f_asks_a_retry r allowed wrong = eqb-false 1 2 refl (sym allowed ∙ wrong)

-- check bytes may report code 7
pub answer_by_rules_check_bytes_reports_7 : (r : Listing)
    → answer-reads.Post tt (CheckBytes, (0x7, tt)) r (CheckBytes, (0x7, tt))
    → (listing_number r ≡ never_reported → ⊥) → ⊥
unfolding answer_of listed_codes clear_codes is_in pick
answer_by_rules_check_bytes_reports_7 r allowed wrong = wrong allowed

-- ---- table_text

module _ (text : List ℕ) (allowed : text-reads.Post tt tt text tt) where
  -- a comma stands at the end of the first line
  pub text_with_a_comma_at_a_lines_end : get_or text 63 0 ≡ comma → ⊥
  unfolding table_text lines_text line_text parted digits_from line_order
  text_with_a_comma_at_a_lines_end wrong =
      eqb-false line_feed comma refl (sym (ap (λ (t : List ℕ). get_or t 63 0) allowed) ∙ wrong)

  -- the third line is that of a write, which may report code B
  pub text_with_a_write_in_the_third_line : get_or text 150 0 ≡ 50 → ⊥
  unfolding table_text lines_text line_text parted digits_from line_order answer_of listed_codes supplied_codes
      clear_codes is_in pick
  text_with_a_write_in_the_third_line wrong =
      eqb-false 48 50 refl (sym (ap (λ (t : List ℕ). get_or t 150 0) allowed) ∙ wrong)
