-- What request 9 asks to be proved: "Each digit that it works out is proved to be the core's entry." The core's entry
-- is what its own `listing`, which reads the constant table and which a result goes by, answers by its contract; the
-- digit is what the functions here answer by theirs.
-- Assumes nothing.
use mathlib.Core.Path.{◌≡◌, refl, ap, sym, ◌∙◌}
use mathlib.Core.List.{List}
use Prim.Native.Nat.{ℕ, ◌+◌, ◌*◌, ◌/◌, ◌%◌, ◌≤◌, ◌<◌}
use native.Mathlib.Omega.{arith}
use lib.ListN.{get_or}
use borrow.Author.Tests.{ne_eqb}
use Rattle.common.specs.Pick.{pick}
use Rattle.operations.specs.declared.operation.Operation.{Operation}
use Rattle.operations.specs.declared.operation.Operation.TheVariants.{Read, CheckBytes, SuppliedCount, Write, Erase}
use Rattle.operations.specs.declared.operation.Operation.TheVariants.{Rewind, FastForward, SkipForward, SkipReverse}
use Rattle.operations.specs.declared.operation.Operation.TheVariants.{SearchForward, SearchReverse, WriteMark}
use Rattle.operations.specs.Operation.{number_of}
use Rattle.operations.specs.Answers.{answer_of, listing_number}
use Rattle.operations.specs.declared.answers.Listing.{Listing}
use Rattle.operations.specs.declared.answers.Listing.TheVariants.{Never, Reported, WithRetry}
use Rattle.operations.proofs.operation.Operation.listing.Reads as core-reads
use Rattle.table.specs.Text.{zero_digit, line_order, operation_at, table_length, byte_at, digit_place}
use Rattle.table.proofs.TextLaws.{byte_of, byte_there}
use Rattle.table.proofs.rules.answer_by_rules.Reads as worked-reads
use Rattle.table.proofs.print.table_text.Reads as text-reads

-- ---- the order of the lines

-- by each operation: it stands in the line of its number, and there are twelve
placed : (operation : Operation) → (operation_at (number_of operation) ≡ operation) × (number_of operation ≤ 11)
unfolding operation_at line_order
placed Read = (refl, omega arith)
placed CheckBytes = (refl, omega arith)
placed SuppliedCount = (refl, omega arith)
placed Write = (refl, omega arith)
placed Erase = (refl, omega arith)
placed Rewind = (refl, omega arith)
placed FastForward = (refl, omega arith)
placed SkipForward = (refl, omega arith)
placed SkipReverse = (refl, omega arith)
placed SearchForward = (refl, omega arith)
placed SearchReverse = (refl, omega arith)
placed WriteMark = (refl, omega arith)

-- The line of an operation is its row in the core's table.
pub lines_are_the_cores_rows : (operation : Operation) → operation_at (number_of operation) ≡ operation
lines_are_the_cores_rows operation = (placed operation).0

-- what stands there
digit_there : (operation : Operation) (code : ℕ) → code ≤ 31
    → byte_at (digit_place operation code) ≡ zero_digit + answer_of operation code
unfolding byte_of pick
digit_there operation code h =
    let n = number_of operation in
    let place = 64 * n + 2 * code in
    let inside : place < table_length = omega (arith, (placed operation).1) in
    let column : place % 64 ≡ 2 * code = omega arith in
    let line : place / 64 ≡ n = omega arith in
    let even : 2 * code % 2 ≡ 0 = omega arith in
    let half : 2 * code / 2 ≡ code = omega arith in
    byte_there place inside
    ∙ simp (column, ne_eqb (2 * code) 63 (λ e. omega arith), even, line, half, lines_are_the_cores_rows operation)

-- ---- the digits

-- entries of one number are the same
entries_apart : (a b : Listing) → listing_number a ≡ listing_number b → a ≡ b
entries_apart Never Never e = refl
entries_apart Never Reported e = absurd (omega (arith, e))
entries_apart Never WithRetry e = absurd (omega (arith, e))
entries_apart Reported Never e = absurd (omega (arith, e))
entries_apart Reported Reported e = refl
entries_apart Reported WithRetry e = absurd (omega (arith, e))
entries_apart WithRetry Never e = absurd (omega (arith, e))
entries_apart WithRetry Reported e = absurd (omega (arith, e))
entries_apart WithRetry WithRetry e = refl

module _
    (operation : Operation)
    (code : ℕ)
    (entry : Listing)
    (core : core-reads.Post tt (operation, (code, tt)) entry (operation, (code, tt))) where
  -- of every operation and every code the answer worked out is the core's entry
  pub worked_out_answers_are_the_cores : (r : Listing)
      → worked-reads.Post tt (operation, (code, tt)) r (operation, (code, tt)) → r ≡ entry
  worked_out_answers_are_the_cores r worked = entries_apart r entry (worked ∙ sym core)

  -- and for each code from 0 to 31 it is printed in its row, as a digit
  pub printed_digits_are_the_cores : (text : List ℕ)
      → text-reads.Post tt tt text tt
      → code ≤ 31
      → get_or text (digit_place operation code) 0 ≡ zero_digit + listing_number entry
  printed_digits_are_the_cores text printed h =
      ap (λ (t : List ℕ). get_or t (digit_place operation code) 0) printed ∙ digit_there operation code h
      ∙ ap (λ (n : ℕ). zero_digit + n) (sym core)
