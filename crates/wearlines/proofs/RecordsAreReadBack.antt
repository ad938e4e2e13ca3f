-- A record that the jobs program prints is read back as it was.
-- Assumes nothing.
use mathlib.Core.Path.{◌≡◌, sym, ◌∙◌}
use Prim.Native.Nat.{ℕ, ◌<◌}
use native.Mathlib.Omega.{arith}
use mathlib.Core.List.{List, ◌∷◌, ◌++◌}
use Rattle.common.specs.Pick.{pick}
use Rattle.status.specs.declared.words.ResultRecord.{ResultRecord}
use Rattle.text.specs.Digits.{byte_of, decimal_of}
use Rattle.text.specs.Limits.{byte_limit, decimal_most}
use Rattle.text.specs.Print.{byte_text, decimal_text, record_text}
use Rattle.text.specs.Characters.{colon}
use Rattle.wearlines.specs.Limits.{count_limit}
use Rattle.wearlines.specs.Line.{fields_line, record_line}
use Rattle.std.proofs.Common.{Some}
use Rattle.wearlines.proofs.LineLaws.{record_cut}
use Rattle.text.proofs.ReadBackLaws.{part_of_digits, after_digits, byte_digits, byte_is, byte_back, decimal_digits}
use Rattle.text.proofs.ReadBackLaws.{decimal_is, decimal_back}

module _ (r : ResultRecord) (code : r.code < 256) (motion : r.motion < 256) (count : r.count < 4294967296) where
  abbrev CC : List ℕ
  CC = byte_text r.code

  abbrev M : List ℕ
  M = decimal_text decimal_most r.motion

  abbrev N : List ℕ
  N = decimal_text decimal_most r.count

  cut : fields_line CC M N ≡ record_line (record_text r.code r.motion r.count)
  unfolding record_text
  cut = record_cut (CC ++ (colon ∷ (M ++ (colon ∷ N)))) CC (M ++ (colon ∷ N)) M N
      (sym (part_of_digits 16 CC (M ++ (colon ∷ N)) (byte_digits r.code code)))
      (sym (after_digits CC (M ++ (colon ∷ N))))
      (sym (part_of_digits 10 M N (decimal_digits decimal_most r.motion)))
      (sym (after_digits M N))

  -- three numbers that are read are the record
  values : Some (record { code = byte_of CC; motion = decimal_of M; count = decimal_of N }) ≡ Some r
  values j = Some (record {
    code = byte_back r.code code j;
    motion = decimal_back decimal_most r.motion (omega (arith, motion)) j;
    count = decimal_back decimal_most r.count (omega (arith, count)) j;
  })

  pub records_are_read_back : record_line (record_text r.code r.motion r.count) ≡ Some r
  unfolding fields_line pick
  records_are_read_back =
      sym cut
      ∙ rw (
        byte_is r.code code,
        decimal_is byte_limit 9 r.motion (omega (arith, motion))
            (omega (arith, motion)),
        decimal_is count_limit 9 r.count (omega (arith, count)) (omega (arith, count)),
      )
      values
