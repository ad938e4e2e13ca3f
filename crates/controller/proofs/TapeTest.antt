-- The tape test in the papers' numbers: what passes it is allowed (`allowed`).
-- Assumes nothing.
use mathlib.Core.Path.{◌≡◌, refl, sym, ◌∙◌}
use Prim.Native.Nat.{ℕ, ◌/◌, ◌%◌}
use native.Mathlib.Omega.{arith}
use mathlib.Core.Bool.{Bool, true, false, not, ◌&&◌, ◌||◌, false≢true}
use mathlib.Core.List.{[], ◌∷◌}
use lib.Dec.{eqb}
use borrow.Author.Tests.{eqb-true, eqb-false, not-true}
use Rattle.common.proofs.PickLaws.{by_test, both_hold}
use Rattle.status.specs.Drives.{reports}
use Rattle.operations.specs.declared.operation.Operation.{Operation}
use Rattle.operations.specs.declared.operation.Operation.TheVariants.{Read, CheckBytes, SuppliedCount, Write, Erase}
use Rattle.operations.specs.declared.operation.Operation.TheVariants.{Rewind, FastForward, SkipForward, SkipReverse}
use Rattle.operations.specs.declared.operation.Operation.TheVariants.{SearchForward, SearchReverse, WriteMark}
use Rattle.operations.specs.Operation.{move_of, order_byte, moves_tape}
use Rattle.operations.specs.Test.{is_ready, is_ahead_free, is_behind_free, is_writable, may_move}
use Rattle.controller.specs.Ledger.{among, Allowed}

clash : {A : Type 0} {b : Bool} → b ≡ false → b ≡ true → A
clash low high = absurd (false≢true (sym low ∙ high))

set_bit : (bits bit : ℕ) → reports bits bit ≡ true → bits / bit % 2 ≡ 1
unfolding reports
set_bit bits bit = eqb-true (bits / bit % 2) 1

either : (n : ℕ) → (n % 2 ≡ 1 → ⊥) → n % 2 ≡ 0
either n other = omega arith

clear_bit : (bits bit : ℕ) → not (reports bits bit) ≡ true → bits / bit % 2 ≡ 0
unfolding reports
clear_bit bits bit clear = either (bits / bit) (eqb-false (bits / bit % 2) 1 (not-true _ clear))

guarded_gap : (bits gap : ℕ) (guard : Bool) → not (guard && not (eqb gap 0 || reports bits 16)) ≡ true → guard ≡ true
    → bits / 16 % 2 ≡ 0 → gap ≡ 0
unfolding reports
guarded_gap bits gap true free set none =
    by_test (eqb gap 0) (λ proper. eqb-true gap 0 proper)
    (λ other.
    by_test (eqb (bits / 16 % 2) 1) (λ warned. let w = eqb-true (bits / 16 % 2) 1 warned in absurd (omega arith))
    (λ silent. clash {b = not (not (eqb gap 0 || eqb (bits / 16 % 2) 1))} (rw (other, silent)) free))
guarded_gap bits gap false free set none = absurd (false≢true set)

module _ (first bits gap : ℕ) (guard : Bool)
    (known : among first (0x10 ∷ 0x11 ∷ 0x20 ∷ 0x21 ∷ 0x22 ∷ 0x23 ∷ 0x24 ∷ 0x40 ∷ 0x50 ∷ 0x60 ∷ 0x80 ∷ []) ≡ true) where
  winding :
      is_ready bits ≡ true
      → among first (0x10 ∷ 0x11 ∷ []) ≡ true
      → among first (0x40 ∷ 0x80 ∷ 0x20 ∷ 0x22 ∷ 0x50 ∷ 0x24 ∷ 0x60 ∷ []) ≡ false
      → among first (0x21 ∷ 0x23 ∷ []) ≡ false
      → among first (0x50 ∷ 0x24 ∷ 0x60 ∷ []) ≡ false
      → Allowed first bits guard gap
  winding ready winds ahead behind writes =
      let (present, select) = both_hold _ _ ready in
      record {
        known = known;
        installed = set_bit bits 32 present;
        selectable = set_bit bits 2 select;
        placed = λ none. clash none winds;
        ahead = clash ahead;
        behind = clash behind;
        unprotected = clash writes;
        unguarded = clash writes;
      }

  forward : is_ahead_free bits ≡ true → among first (0x21 ∷ 0x23 ∷ []) ≡ false → among first (0x50 ∷ 0x24 ∷ 0x60 ∷ [])
      ≡ false → Allowed first bits guard gap
  forward free behind writes =
      let (placed, ahead) = both_hold _ _ free in
      let (ready, known_place) = both_hold _ _ placed in
      let (present, select) = both_hold _ _ ready in
      record {
        known = known;
        installed = set_bit bits 32 present;
        selectable = set_bit bits 2 select;
        placed = λ moves. clear_bit bits 4 known_place;
        ahead = λ goes. clear_bit bits 128 ahead;
        behind = clash behind;
        unprotected = clash writes;
        unguarded = clash writes;
      }

  backward :
      is_behind_free bits ≡ true
      → among first (0x40 ∷ 0x80 ∷ 0x20 ∷ 0x22 ∷ 0x50 ∷ 0x24 ∷ 0x60 ∷ []) ≡ false
      → among first (0x50 ∷ 0x24 ∷ 0x60 ∷ []) ≡ false
      → Allowed first bits guard gap
  backward free ahead writes =
      let (placed, behind) = both_hold _ _ free in
      let (ready, known_place) = both_hold _ _ placed in
      let (present, select) = both_hold _ _ ready in
      let start = clear_bit bits 1 behind in
      record {
        known = known;
        installed = set_bit bits 32 present;
        selectable = set_bit bits 2 select;
        placed = λ moves. clear_bit bits 4 known_place;
        ahead = clash ahead;
        behind = λ goes. omega arith;
        unprotected = clash writes;
        unguarded = clash writes;
      }

  writing : is_writable bits guard gap ≡ true → among first (0x21 ∷ 0x23 ∷ []) ≡ false → Allowed first bits guard gap
  writing may behind =
      let (free_of, unguarded) = both_hold _ _ may in
      let (free, unprotected) = both_hold _ _ free_of in
      let (placed, ahead) = both_hold _ _ free in
      let (ready, known_place) = both_hold _ _ placed in
      let (present, select) = both_hold _ _ ready in
      record {
        known = known;
        installed = set_bit bits 32 present;
        selectable = set_bit bits 2 select;
        placed = λ moves. clear_bit bits 4 known_place;
        ahead = λ goes. clear_bit bits 128 ahead;
        behind = clash behind;
        unprotected = λ writes. clear_bit bits 8 unprotected;
        unguarded = λ writes. guarded_gap bits gap guard unguarded;
      }

pub allowed :
    (operation : Operation) (bits gap : ℕ) (guard : Bool)
    → (moves_tape (move_of operation) && may_move (move_of operation) bits guard gap) ≡ true
    → Allowed (order_byte operation) bits guard gap
unfolding moves_tape may_move among
allowed Read bits gap guard may = forward 0x40 bits gap guard refl may refl refl
allowed CheckBytes bits gap guard may = absurd (false≢true may)
allowed SuppliedCount bits gap guard may = forward 0x80 bits gap guard refl may refl refl
allowed Write bits gap guard may = writing 0x50 bits gap guard refl may refl
allowed Erase bits gap guard may = writing 0x60 bits gap guard refl may refl
allowed Rewind bits gap guard may = winding 0x10 bits gap guard refl may refl refl refl refl
allowed FastForward bits gap guard may = winding 0x11 bits gap guard refl may refl refl refl refl
allowed SkipForward bits gap guard may = forward 0x20 bits gap guard refl may refl refl
allowed SkipReverse bits gap guard may = backward 0x21 bits gap guard refl may refl refl
allowed SearchForward bits gap guard may = forward 0x22 bits gap guard refl may refl refl
allowed SearchReverse bits gap guard may = backward 0x23 bits gap guard refl may refl refl
allowed WriteMark bits gap guard may = writing 0x24 bits gap guard refl may refl
