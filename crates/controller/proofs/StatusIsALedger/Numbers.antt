-- What an operation is, by the first byte of its motion order, and the rules that go by it: which codes ask for a
-- retry, and which drives pass the tape test.
-- Assumes nothing.
use mathlib.Core.Path.{◌≡◌, refl, sym, ap, ap₂, ◌∙◌}
use Prim.Native.Nat.{ℕ, ◌/◌, ◌%◌}
use native.Mathlib.Omega.{arith}
use mathlib.Core.Bool.{Bool, true, false, not, ◌&&◌, ◌||◌, false≢true}
use mathlib.Core.List.{List, [], ◌∷◌}
use lib.Dec.{eqb}
use borrow.Author.Tests.{eqb-true, eqb-false, eq-eqb}
use Rattle.common.specs.Pick.{pick}
use Rattle.common.proofs.PickLaws.{by_test}
use Rattle.marks.specs.Scan.{checks_alone}
use Rattle.status.specs.Drives.{reports}
use Rattle.operations.specs.declared.operation.Operation.{Operation}
use Rattle.operations.specs.declared.operation.Operation.TheVariants.{Read, CheckBytes, SuppliedCount, Write, Erase}
use Rattle.operations.specs.declared.operation.Operation.TheVariants.{Rewind, FastForward, SkipForward, SkipReverse}
use Rattle.operations.specs.declared.operation.Operation.TheVariants.{SearchForward, SearchReverse, WriteMark}
use Rattle.operations.specs.Operation.{order_byte, move_of, moves_tape, counts_bytes, same_operation, supplies_count}
use Rattle.operations.specs.Operation.{is_read}
use Rattle.operations.specs.Operation.{brings_record, is_skip}
use Rattle.operations.specs.Answers.{forward_codes, reverse_codes, end_codes, supplied_codes, listed_codes}
use Rattle.operations.specs.Answers.{trailing_codes}
use Rattle.operations.specs.Answers.{clear_codes, is_in, answer_of}
use Rattle.operations.specs.After.{own_retry, code_retry}
use Rattle.operations.specs.Test.{is_ready, is_ahead_free, is_behind_free, is_writable, may_move}
use Rattle.controller.specs.Ledger.{among, Tape}
use Rattle.controller.specs.Shown.{Scanned, code_retries, passes_test}
use Rattle.controller.proofs.StatusIsALedger.Scanning.{as_findings}

-- ---- the operations

pub record Numbered (operation : Operation) : Type 0 where
  pub supplies : supplies_count operation ≡ eqb (order_byte operation) 0x80
  pub writes : same_operation operation Write ≡ eqb (order_byte operation) 0x50
  pub checks : same_operation operation CheckBytes ≡ eqb (order_byte operation) 0
  pub moves : moves_tape (move_of operation) ≡ not (eqb (order_byte operation) 0)
  pub reads : is_read operation ≡ among (order_byte operation) (0x40 ∷ 0x80 ∷ [])
  pub brings : brings_record operation ≡ among (order_byte operation) (0x40 ∷ 0x20 ∷ [])
  pub skips : is_skip operation ≡ among (order_byte operation) (0x20 ∷ 0x21 ∷ [])
  pub counts :
      counts_bytes operation
      ≡ among (order_byte operation) (0x40 ∷ 0x80 ∷ 0x20 ∷ 0x21 ∷ 0x50 ∷ [])

by_its :
    {operation : Operation}
    → supplies_count operation ≡ eqb (order_byte operation) 0x80
    → same_operation operation Write ≡ eqb (order_byte operation) 0x50
    → same_operation operation CheckBytes ≡ eqb (order_byte operation) 0
    → moves_tape (move_of operation) ≡ not (eqb (order_byte operation) 0)
    → is_read operation ≡ among (order_byte operation) (0x40 ∷ 0x80 ∷ [])
    → brings_record operation ≡ among (order_byte operation) (0x40 ∷ 0x20 ∷ [])
    → is_skip operation ≡ among (order_byte operation) (0x20 ∷ 0x21 ∷ [])
    → counts_bytes operation ≡ among (order_byte operation) (0x40 ∷ 0x80 ∷ 0x20 ∷ 0x21 ∷ 0x50 ∷ [])
    → Numbered operation
by_its supplies writes checks moves reads brings skips counts =
    record {
      supplies = supplies;
      writes = writes;
      checks = checks;
      moves = moves;
      reads = reads;
      brings = brings;
      skips = skips;
      counts = counts;
    }

pub numbered : (operation : Operation) → Numbered operation
unfolding moves_tape is_skip among
numbered Read = by_its refl refl refl refl refl refl refl refl
numbered CheckBytes = by_its refl refl refl refl refl refl refl refl
numbered SuppliedCount = by_its refl refl refl refl refl refl refl refl
numbered Write = by_its refl refl refl refl refl refl refl refl
numbered Erase = by_its refl refl refl refl refl refl refl refl
numbered Rewind = by_its refl refl refl refl refl refl refl refl
numbered FastForward = by_its refl refl refl refl refl refl refl refl
numbered SkipForward = by_its refl refl refl refl refl refl refl refl
numbered SkipReverse = by_its refl refl refl refl refl refl refl refl
numbered SearchForward = by_its refl refl refl refl refl refl refl refl
numbered SearchReverse = by_its refl refl refl refl refl refl refl refl
numbered WriteMark = by_its refl refl refl refl refl refl refl refl

-- ---- the retry of a code

-- the entry, or the rule for a code that no result reports: no listed code is of these
by_entry : (zero clear listed own : Bool) → (listed ≡ true → own ≡ false)
    → pick (eqb (pick (zero || clear) 1 (pick listed 2 0)) 0) (not own)
    (eqb (pick (zero || clear) 1 (pick listed 2 0)) 2)
    ≡ not ((zero || clear) || own)
unfolding pick
by_entry true clear listed own apart = refl
by_entry false true listed own apart = refl
by_entry false false true own apart = ap not (sym (apart refl))
by_entry false false false own apart = refl

-- a listed code is not 15
apart : (code : ℕ) (alone : Bool) (codes : List ℕ) → is_in 0x15 codes ≡ false → is_in code codes ≡ true
    → (eqb code 0x15 && alone) ≡ false
apart code alone codes none listed =
    by_test (eqb code 0x15)
    (λ is. absurd (false≢true (sym none ∙ ap (λ (n : ℕ). is_in n codes) (sym (eqb-true code 0x15 is)) ∙ listed)))
    (λ other. ap (λ (t : Bool). t && alone) other)

-- the clear codes of a forward skip, in another order
in_order : (zero ten c d f own : Bool)
    → (zero || (ten || ((c || (d || (f || false))) || own))) ≡ ((zero || (c || (d || (f || ten)))) || own)
in_order true ten c d f own = refl
in_order false true true d f own = refl
in_order false true false true f own = refl
in_order false true false false true own = refl
in_order false true false false false own = refl
in_order false false true d f own = refl
in_order false false false true f own = refl
in_order false false false false true own = refl
in_order false false false false false own = refl

or_both : (a b c : Bool) → (a || (b || c)) ≡ ((a || b) || c)
or_both true b c = refl
or_both false b c = refl

none_clear : (zero own : Bool) → (zero || own) ≡ ((zero || false) || own)
none_clear true own = refl
none_clear false own = refl

module _ (code : ℕ) (s : Scanned) where
  abbrev alone : Bool
  alone = not (eqb s.odd.kind 1) && not (eqb s.even.kind 1)

  abbrev own : Bool
  own = eqb code 0x15 && alone

  pub retry_said : (operation : Operation)
      → code_retry operation code (checks_alone (as_findings s)) ≡ code_retries (order_byte operation) code s
  unfolding code_retry own_retry answer_of checks_alone code_retries listed_codes forward_codes reverse_codes end_codes
      supplied_codes clear_codes trailing_codes is_in among
  retry_said Read =
      by_entry (eqb code 0) _ _ own (apart code alone (listed_codes Read) refl)
      ∙ ap not (sym (or_both (eqb code 0) _ own))
  retry_said CheckBytes =
      by_entry (eqb code 0) false _ own (apart code alone (listed_codes CheckBytes) refl)
      ∙ ap not (sym (none_clear (eqb code 0) own))
  retry_said SuppliedCount =
      by_entry (eqb code 0) false _ own (apart code alone (listed_codes SuppliedCount) refl)
      ∙ ap not (sym (none_clear (eqb code 0) own))
  retry_said Write =
      by_entry (eqb code 0) false _ own (apart code alone (listed_codes Write) refl)
      ∙ ap not (sym (none_clear (eqb code 0) own))
  retry_said Erase =
      by_entry (eqb code 0) false _ own (apart code alone (listed_codes Erase) refl)
      ∙ ap not (sym (none_clear (eqb code 0) own))
  retry_said Rewind =
      by_entry (eqb code 0) false _ own (apart code alone (listed_codes Rewind) refl)
      ∙ ap not (sym (none_clear (eqb code 0) own))
  retry_said FastForward =
      by_entry (eqb code 0) false _ own (apart code alone (listed_codes FastForward) refl)
      ∙ ap not (sym (none_clear (eqb code 0) own))
  retry_said SkipForward =
      by_entry (eqb code 0) _ _ own (apart code alone (listed_codes SkipForward) refl)
      ∙ ap not (sym (in_order (eqb code 0) _ (eqb code 0xC) (eqb code 0xD) (eqb code 0xF) own))
  retry_said SkipReverse =
      by_entry (eqb code 0) false _ own (apart code alone (listed_codes SkipReverse) refl)
      ∙ ap not (sym (none_clear (eqb code 0) own))
  retry_said SearchForward =
      by_entry (eqb code 0) _ _ own (apart code alone (listed_codes SearchForward) refl)
      ∙ ap not (sym (or_both (eqb code 0) _ own))
  retry_said SearchReverse =
      by_entry (eqb code 0) false _ own (apart code alone (listed_codes SearchReverse) refl)
      ∙ ap not (sym (none_clear (eqb code 0) own))
  retry_said WriteMark =
      by_entry (eqb code 0) false _ own (apart code alone (listed_codes WriteMark) refl)
      ∙ ap not (sym (none_clear (eqb code 0) own))

-- ---- the tape test

clear_said : (n : ℕ) → not (eqb (n % 2) 1) ≡ eqb (n % 2) 0
clear_said n =
    by_test (eqb (n % 2) 1)
    (λ set. ap not set ∙ ap (λ (m : ℕ). eqb m 0) (sym (eqb-true (n % 2) 1 set)))
    (λ clear.
    let other = eqb-false (n % 2) 1 clear in
    let zero : n % 2 ≡ 0 = low n other in
    ap not clear ∙ sym (eq-eqb (n % 2) 0 zero))
  where
    low : (n : ℕ) → (n % 2 ≡ 1 → ⊥) → n % 2 ≡ 0
    low n other = omega arith

one_more : (ready : Bool) → ready ≡ (ready && true)
one_more true = refl
one_more false = refl

three : (ready placed free : Bool) → ((ready && placed) && free) ≡ (ready && (placed && (free && true)))
three true true true = refl
three true true false = refl
three true false free = refl
three false placed free = refl

five : (ready placed free unprotected guard proper warned : Bool)
    → ((((ready && placed) && free) && unprotected) && not (guard && not (proper || warned)))
    ≡ (ready && (placed && (free && (unprotected && (not guard || (proper || warned))))))
five true true true true true true warned = refl
five true true true true true false true = refl
five true true true true true false false = refl
five true true true true false proper warned = refl
five true true true false guard proper warned = refl
five true true false unprotected guard proper warned = refl
five true false free unprotected guard proper warned = refl
five false placed free unprotected guard proper warned = refl

module _ (t : Tape) where
  abbrev bits : ℕ
  bits = t.report

  abbrev ready : Bool
  ready = eqb (bits / 32 % 2) 1 && eqb (bits / 2 % 2) 1

  ahead_said : is_ahead_free bits ≡ (ready && (eqb (bits / 4 % 2) 0 && (eqb (bits / 128 % 2) 0 && true)))
  unfolding reports
  ahead_said =
      three ready (not (eqb (bits / 4 % 2) 1)) (not (eqb (bits / 128 % 2) 1))
      ∙ ap₂ (λ (p e : Bool). ready && (p && (e && true))) (clear_said (bits / 4)) (clear_said (bits / 128))

  start_said : not (eqb (bits / 1 % 2) 1) ≡ eqb (bits % 2) 0
  start_said =
      let same : bits / 1 % 2 ≡ bits % 2 = omega arith in
      ap (λ (n : ℕ). not (eqb n 1)) same ∙ clear_said bits

  behind_said : is_behind_free bits ≡ (ready && (eqb (bits / 4 % 2) 0 && (eqb (bits % 2) 0 && true)))
  unfolding reports
  behind_said =
      three ready (not (eqb (bits / 4 % 2) 1)) (not (eqb (bits / 1 % 2) 1))
      ∙ ap₂ (λ (p e : Bool). ready && (p && (e && true))) (clear_said (bits / 4)) start_said

  writable_said :
      is_writable bits t.guard t.gap
      ≡ (ready && (eqb (bits / 4 % 2) 0 && (eqb (bits / 128 % 2) 0 && (eqb (bits / 8 % 2) 0
      && (not t.guard || (eqb t.gap 0 || eqb (bits / 16 % 2) 1))))))
  unfolding reports
  writable_said =
      five ready (not (eqb (bits / 4 % 2) 1)) (not (eqb (bits / 128 % 2) 1)) (not (eqb (bits / 8 % 2) 1)) t.guard
      (eqb t.gap 0) (eqb (bits / 16 % 2) 1)
      ∙ rw (clear_said (bits / 4), clear_said (bits / 128), clear_said (bits / 8))

  ready_said : is_ready bits ≡ (ready && true)
  unfolding reports
  ready_said = one_more ready

  pub test_said : (operation : Operation)
      → may_move (move_of operation) t.report t.guard t.gap ≡ passes_test (order_byte operation) t
  unfolding may_move passes_test among
  test_said Read = ahead_said
  test_said CheckBytes = refl
  test_said SuppliedCount = ahead_said
  test_said Write = writable_said
  test_said Erase = writable_said
  test_said Rewind = ready_said
  test_said FastForward = ready_said
  test_said SkipForward = ahead_said
  test_said SkipReverse = behind_said
  test_said SearchForward = ahead_said
  test_said SearchReverse = behind_said
  test_said WriteMark = writable_said
