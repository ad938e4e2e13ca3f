-- A line of the text, digit by digit, and the text, line by line.
-- Assumes nothing.
use mathlib.Core.Path.{◌≡◌, refl, sym, ap, ◌∙◌}
use mathlib.Core.List.{List, [], ◌∷◌, ◌++◌, append-nil, append_assoc}
use Prim.Native.Nat.{ℕ, zero, suc, ◌+◌, ◌<◌}
use native.Mathlib.Numerals.{add-one}
use lib.ListN.{length, take, get_or}
use lib.Seq.{take-suc}
use Rattle.operations.specs.declared.operation.Operation.{Operation}
use Rattle.operations.specs.declared.operation.Operation.TheVariants.{Read}
use Rattle.operations.specs.Answers.{answer_of}
use Rattle.table.specs.Text.{comma, line_feed, zero_digit, digits_from, parted, line_text, lines_text}

-- the first digits of an operation, so many of them, each with its comma
unfoldable pub begun : Operation → ℕ → List ℕ
begun operation zero = []
begun operation (suc n) = begun operation n ++ ((zero_digit + answer_of operation n) ∷ comma ∷ [])

pub begun_none : (operation : Operation) (before : List ℕ) → before ≡ before ++ begun operation 0
unfolding begun
begun_none operation before = sym (append-nil before)

pub begun_more : (operation : Operation) (before : List ℕ) (code digit : ℕ)
    → digit ≡ zero_digit + answer_of operation code
    → (before ++ begun operation code) ++ (digit ∷ comma ∷ []) ≡ before ++ begun operation (code + 1)
unfolding begun
begun_more operation before code digit e =
    rw (e, add-one code) (append_assoc before (begun operation code) _)

pub line_done : (operation : Operation) (before : List ℕ) (digit : ℕ) → digit ≡ zero_digit + answer_of operation 31
    → (before ++ begun operation 31) ++ (digit ∷ line_feed ∷ []) ≡ before ++ line_text operation
unfolding begun line_text parted digits_from
line_done operation before digit e = rw e (append_assoc before (begun operation 31) _)

-- ---- the lines

pub lines_none : lines_text [] ≡ []
unfolding lines_text
lines_none = refl

lines_append : (operations : List Operation) (operation : Operation)
    → lines_text (operations ++ (operation ∷ [])) ≡ lines_text operations ++ line_text operation
unfolding lines_text
lines_append [] operation = append-nil (line_text operation)
lines_append (first ∷ rest) operation =
    ap (λ (l : List ℕ). line_text first ++ l) (lines_append rest operation)
    ∙ sym (append_assoc (line_text first) (lines_text rest) (line_text operation))

pub lines_more : (operations : List Operation) (i : ℕ) → i < length operations
    → lines_text (take i operations) ++ line_text (get_or operations i Read) ≡ lines_text (take (i + 1) operations)
lines_more operations i l =
    sym (lines_append (take i operations) (get_or operations i Read))
    ∙ ap lines_text (sym (take-suc operations i Read l) ∙ ap (λ (n : ℕ). take n operations) (sym (add-one i)))
