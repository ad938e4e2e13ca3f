-- `operations::answers::answer_of` meets its contract: the table's rule is a test of every entry, row by row, which
-- antt computes; and no list has a code above 31.
-- Assumes nothing.
use mathlib.Core.Path.{◌≡◌, refl}
use Prim.Native.Nat.{ℕ, zero, suc, ◌+◌, ◌-◌, ◌/◌, ◌%◌, ◌≤◌, ◌<◌}
use mathlib.Core.Bool.{Bool, true, false}
use mathlib.Core.List.{List, [], ◌∷◌}
use native.Mathlib.Omega.{arith}
use lib.Dec.{T, leb, eqb, leb→le, eqb→eq}
use lib.ListN.{length, get_or}
use borrow.Author.Tests.{ne_eqb}
use Rattle.common.specs.Pick.{pick}
use Rattle.operations.specs.declared.operation.Operation.{Operation}
use Rattle.operations.specs.declared.operation.Operation.TheVariants.{Read, CheckBytes, SuppliedCount, Write}
use Rattle.operations.specs.declared.operation.Operation.TheVariants.{Erase, Rewind, FastForward, SkipForward}
use Rattle.operations.specs.declared.operation.Operation.TheVariants.{SkipReverse, SearchForward, SearchReverse}
use Rattle.operations.specs.declared.operation.Operation.TheVariants.{WriteMark}
use Rattle.operations.specs.Operation.{number_of}
use Rattle.operations.specs.Answers.{forward_codes, reverse_codes, end_codes, supplied_codes, listed_codes}
use Rattle.operations.specs.Answers.{trailing_codes, clear_codes, is_in, answer_of}
use Rattle.operations.proofs.Table.{both, both_left, both_right, every, at}
use Rattle.operations.proofs.answers.answer_of.Goals as goal

-- ---- the table, a row for each operation, and in it a digit for each code

-- the digits of a row, which is written as one number, as characters
abbrev digits_of : ℕ → ℕ → List ℕ → List ℕ
digits_of zero n after = after
digits_of (suc k) n after = digits_of k (n / 16) ((48 + n % 16) ∷ after)

abbrev row : ℕ → List ℕ
row n = digits_of 32 n []

table : List (List ℕ)
table =
    row 0x10000002222022221112000200000000 ∷
    row 0x10000000000000000000000000000000 ∷
    row 0x10000002222000000002200200000000 ∷
    row 0x10000002220222222222200200000000 ∷
    row 0x10000022200000000000000200000000 ∷
    row 0x10000022000000000000000000000000 ∷
    row 0x10000022000000000000000000000000 ∷
    row 0x10000002222011211112000200000000 ∷
    row 0x10000002020022200000000020000000 ∷
    row 0x10000002222022221112000200000000 ∷
    row 0x10000002020022200000000020000000 ∷
    row 0x10000002220222000000000200000000 ∷
    []

-- ---- its rule

-- all codes of a list are below 32
abbrev all_below : List ℕ → Bool
all_below [] = true
all_below (x ∷ rest) = both (leb x 31) (all_below rest)

abbrev row_for : Operation → List ℕ
row_for operation = get_or table (number_of operation) []

digit : Operation → ℕ → ℕ → Bool
digit operation code x = eqb x (48 + answer_of operation code)

-- the operation has a row, of 32 digits, each of them its answer, and no code that it lists is above them
ruled : Operation → Bool
ruled operation =
    both (leb (number_of operation) 11)
    (both (all_below (listed_codes operation))
    (both (all_below (clear_codes operation))
    (both (eqb (length (row_for operation)) 32) (every (digit operation) 0 (row_for operation)))))

every_row : (operation : Operation) → T (ruled operation)
unfolding ruled digit table pick answer_of is_in listed_codes forward_codes reverse_codes end_codes supplied_codes
    trailing_codes clear_codes
every_row Read = tt
every_row CheckBytes = tt
every_row SuppliedCount = tt
every_row Write = tt
every_row Erase = tt
every_row Rewind = tt
every_row FastForward = tt
every_row SkipForward = tt
every_row SkipReverse = tt
every_row SearchForward = tt
every_row SearchReverse = tt
every_row WriteMark = tt

not_in : (code : ℕ) (codes : List ℕ) → T (all_below codes) → 31 < code → is_in code codes ≡ false
unfolding is_in
not_in code [] below above = refl
not_in code (x ∷ rest) below above =
    let small : x ≤ 31 = leb→le x 31 (both_left (leb x 31) (all_below rest) below) in
    simp (ne_eqb code x (λ e. omega arith), not_in code rest (both_right (leb x 31) (all_below rest) below) above)

module _ (operation : Operation) where
  abbrev below : Bool
  below = leb (number_of operation) 11

  abbrev digits : Bool
  digits = both (eqb (length (row_for operation)) 32) (every (digit operation) 0 (row_for operation))

  few : number_of operation ≤ 11
  unfolding ruled
  few = leb→le (number_of operation) 11 (both_left below _ (every_row operation))

  listed_below : T (all_below (listed_codes operation))
  unfolding ruled
  listed_below = both_left (all_below (listed_codes operation)) _ (both_right below _ (every_row operation))

  clear_below : T (all_below (clear_codes operation))
  unfolding ruled
  clear_below =
      both_left (all_below (clear_codes operation)) digits
      (both_right (all_below (listed_codes operation)) _ (both_right below _ (every_row operation)))

  -- what stands in its row at a code
  module _ (n code : ℕ) (e : n ≡ number_of operation) (h : code ≤ 31) where
    entry : get_or (get_or table n []) code 0 ≡ 48 + answer_of operation code
    unfolding ruled digit
    entry =
        let this = row_for operation in
        let here = both_right (all_below (clear_codes operation)) digits
        (both_right (all_below (listed_codes operation)) _ (both_right below _ (every_row operation))) in
        let long : length this
        ≡ 32 = eqb→eq (length this) 32 (both_left (eqb (length this) 32) (every (digit operation) 0 this) here) in
        let there = at (digit operation) 0 this
        (both_right (eqb (length this) 32) (every (digit operation) 0 this) here) code (omega arith) in
        rw e (eqb→eq (get_or this code 0) (48 + answer_of operation code) there)

    is_digit : 48 ≤ get_or (get_or table n []) code 0
    is_digit = omega (arith, entry)

    value : get_or (get_or table n []) code 0 - 48 ≡ answer_of operation code
    value = omega (arith, entry)

pub returns-then-code-gt31 : goal.returns-then-code-gt31
unfolding answer_of pick
returns-then-code-gt31 c =
    let code = c.args.code in
    let operation = c.args.operation in
    simp (
      ne_eqb code 0 (λ e. omega arith),
      not_in code (clear_codes operation) (clear_below operation) c.if-code-gt31.true,
      not_in code (listed_codes operation) (listed_below operation) c.if-code-gt31.true,
    )

pub overflow_sub-result : goal.overflow_sub-result
unfolding table
overflow_sub-result c =
    is_digit c.args.operation c.number-row.result c.args.code c.number-row.ensures c.if-code-gt31.false

pub returns : goal.returns
unfolding table
returns c = value c.args.operation c.number-row.result c.args.code c.number-row.ensures c.if-code-gt31.false
