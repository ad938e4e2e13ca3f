-- Laws of a job line: an operand has the digits of four bytes, which fill the space for them; a store's fields, cut off
-- one after the other; and how long a line is that begins with Q and a comma.
-- Assumes nothing.
use mathlib.Core.Path.{◌≡◌, refl, ap, ◌∙◌}
use Prim.Native.Nat.{ℕ, ◌≤◌}
use native.Mathlib.Omega.{arith}
use mathlib.Core.Bool.{Bool, true, false}
use mathlib.Core.List.{List}
use lib.Dec.{leb, eqb}
use lib.ListN.{length}
use borrow.Author.Tests.{leb-true, eqb-true}
use Rattle.common.specs.Space.{overwrite}
use Rattle.common.proofs.SpaceLaws.{overwritten_all}
use Rattle.common.proofs.PickLaws.{both_hold}
use Rattle.text.specs.Digits.{is_bytes, bytes_of}
use Rattle.text.specs.Fields.{field_of, after, after_field, after_fields}
use Rattle.text.proofs.DigitLaws.{bytes_length}
use Rattle.lines.proofs.LineLaws.{after_is}
use Rattle.joblines.specs.Limits.{operand_length}
use Rattle.joblines.specs.Line.{is_operand, is_queue, store_line, queue_line}

-- of eight characters, those of an operand spell four bytes
pub operand_is : (s : List ℕ) → length s ≡ operand_length → is_operand s ≡ is_bytes 4 s
unfolding is_operand is_bytes
operand_is s eight = rw eight refl

unlike : (a b : ℕ) (same : Bool) → eqb a b ≡ same → (a ≡ b → ⊥) → eqb a b ≡ false
unlike a b true e other = absurd (other (eqb-true a b e))
unlike a b false e other = e

pub operand_other : (s : List ℕ) → (length s ≡ operand_length → ⊥) → is_operand s ≡ false
unfolding is_operand
operand_other s other = rw (unlike (length s) operand_length (eqb (length s) operand_length) refl other) refl

-- its bytes fill the space for them
pub operand_bytes : (s space : List ℕ) → length s ≡ operand_length → length space ≡ 4
    → overwrite (bytes_of s) space ≡ bytes_of s
operand_bytes s space eight four =
    let all : length space ≤ length (bytes_of s) = omega (arith, eight, bytes_length s) in
    overwritten_all (bytes_of s) space all

-- an operand has eight characters
pub operand_length_lem : (s : List ℕ) → is_operand s ≡ true → length s ≡ operand_length
unfolding is_operand
operand_length_lem s e = eqb-true _ _ (both_hold (eqb (length s) operand_length) _ e).0

-- the fields behind the first comma
pub store_cut : (s job rest address operand : List ℕ)
    → job ≡ field_of s
    → rest ≡ after s (length job)
    → address ≡ field_of rest
    → operand ≡ after rest (length address)
    → store_line job address operand ≡ queue_line s
unfolding queue_line after_fields
store_cut s job rest address operand f1 d1 f2 d2 =
    let e1 : rest ≡ after_field s = after_is s job f1 d1 in
    let e2 : operand ≡ after_field (after_field s) = after_is rest address f2 d2 ∙ ap after_field e1 in
    rw (f1, f2, e2, e1)

-- Q and its comma have two bytes
pub queue_length_lem : (line : List ℕ) → is_queue line ≡ true → 2 ≤ length line
unfolding is_queue
queue_length_lem line e = leb-true _ _ (both_hold (leb 2 (length line)) _ e).0
