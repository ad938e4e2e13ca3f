-- For the two functions that read a line of a wear log, two wrong answers that their contracts do not allow. The
-- contract is `Post`, as the toolchain reads it.
-- Assumes nothing.
use mathlib.Core.Path.{◌≡◌, sym, ap, ◌∙◌}
use mathlib.Core.Bool.{Bool, true, false, false≢true}
use mathlib.Core.List.{List, [], ◌∷◌}
use contract.Lifetimes.{Lfts}
use denote.Ref.{Bor}
use Prim.Native.Nat.{ℕ}
use native.Mathlib.Omega.{arith}
use Rattle.common.specs.Pick.{pick}
use Rattle.status.specs.declared.words.ResultRecord.{ResultRecord}
use Rattle.text.specs.Digits.{digit_value, is_digit, all_digits, is_byte, decimal_from, decimal_of, is_decimal}
use Rattle.text.specs.Fields.{part_of}
use Rattle.text.specs.Characters.{colon}
use Rattle.wearlines.specs.Line.{fields_line, after_colon, record_line, width_line}
use Rattle.std.proofs.Common.{Option, None, Some}
use Rattle.wearlines.proofs.line.read_record.Reads as record-reads
use Rattle.wearlines.proofs.line.read_width.Reads as width-reads

abbrev is_no_width : Option ℕ → Bool
is_no_width None = true
is_no_width (Some width) = false

abbrev is_none : Option ResultRecord → Bool
is_none None = true
is_none (Some r) = false

-- a width, or 0 where there is none
abbrev width_of : Option ℕ → ℕ
width_of None = 0
width_of (Some width) = width

-- ---- read_record

module _ (κs : Lfts 1) (s : Bor (List ℕ)) (r : Option ResultRecord)
    (allowed : record-reads.Post κs (s, tt) r (s, tt)) where
  -- small letters are read: 1f:0:0
  pub read_record_reads_small_letters : s.now ≡ 49 ∷ 102 ∷ colon ∷ 48 ∷ colon ∷ 48 ∷ [] → (x : ResultRecord)
      → r ≡ Some x → ⊥
  unfolding record_line fields_line after_colon part_of is_byte is_decimal decimal_of decimal_from all_digits is_digit
      digit_value pick
  read_record_reads_small_letters says x e = false≢true (ap is_none (sym e ∙ allowed ∙ ap record_line says))

  -- a motion of 256 is read: 00:256:0
  pub read_record_reads_motion_256 : s.now ≡ 48 ∷ 48 ∷ colon ∷ 50 ∷ 53 ∷ 54 ∷ colon ∷ 48 ∷ [] → (x : ResultRecord)
      → r ≡ Some x → ⊥
  unfolding record_line fields_line after_colon part_of is_byte is_decimal decimal_of decimal_from all_digits is_digit
      digit_value pick
  read_record_reads_motion_256 says x e = false≢true (ap is_none (sym e ∙ allowed ∙ ap record_line says))

-- ---- read_width

module _ (κs : Lfts 1) (s : Bor (List ℕ)) (r : Option ℕ) (allowed : width-reads.Post κs (s, tt) r (s, tt)) where
  -- an empty line is a width
  pub read_width_reads_an_empty_line : s.now ≡ [] → (width : ℕ) → r ≡ Some width → ⊥
  unfolding width_line all_digits pick
  read_width_reads_an_empty_line says width e = false≢true (ap is_no_width (sym e ∙ allowed ∙ ap width_line says))

  -- a width of 65 is read as 64
  pub read_width_reads_65_as_64 : s.now ≡ 54 ∷ 53 ∷ [] → r ≡ Some 64 → ⊥
  unfolding width_line is_decimal decimal_of decimal_from all_digits is_digit digit_value pick
  read_width_reads_65_as_64 says e =
      let right : ◌≡◌ {A = ℕ} 64 65 = sym (ap width_of e) ∙ ap width_of (allowed ∙ ap width_line says) in
      omega (arith, right)
