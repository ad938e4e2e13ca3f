-- The starred bench cases of document 01 that speak of records, as one group over the definitions.
-- Assumes nothing.
use mathlib.Core.Path.{◌≡◌, refl}
use mathlib.Core.List.{List, [], ◌∷◌}
use Prim.Native.Nat.{ℕ, ◌+◌, ◌*◌}
use lib.ListN.{get_or}
use Rattle.common.specs.Pick.{pick}
use Rattle.common.specs.Space.{filled}
use Rattle.blockettes.specs.Xor.{◌⊕◌, xor_all}
use Rattle.blockettes.specs.Blockettes.{blockette_at, numbered, of_parity, fold_parity, check_of}
use Rattle.marks.specs.Scan.{Defect}
use Rattle.marks.specs.Marks.{is_error}
use Rattle.marks.specs.Scan.{scan_from, scan_marks, kind_of, number_of, defect_at}
use Rattle.records.specs.Count.{limit, rotated, count_bytes}
use Rattle.records.specs.Image.{blockette_count, has_blockettes, blockettes_of, body_of, image_of, image_length}
use Rattle.records.specs.Image.{mark_count}
use Rattle.records.specs.Place.{no_place, is_place, as_came, written_bytes}
use Rattle.records.specs.Build.{build_refusal, built_bytes}

-- an error, and none
abbrev error : ℕ → ℕ → ℕ → Defect
error mark kind number = record { mark = mark; kind = kind; number = number }

abbrev none : Defect
none = error 0 0 0

-- the marks of c = 600, blockettes 2, 1 and 0 and check blockettes 1 and 0: "mark 9 on blockette 1, 3 on check 0"; "6
-- on 2, 4 on 0"
abbrev one_of_each : List ℕ
one_of_each = 15 ∷ 9 ∷ 15 ∷ 15 ∷ 3 ∷ []

abbrev two_even : List ℕ
two_even = 6 ∷ 15 ∷ 4 ∷ 15 ∷ 15 ∷ []

pub record RecordCases : Type 0 where
  -- "Counts 5, 3, 256 rotate to 8002, 8001, 0080."
  pub count_5 : count_bytes 5 ≡ 0x80 ∷ 0x02 ∷ []
  pub count_3 : count_bytes 3 ≡ 0x80 ∷ 0x01 ∷ []
  pub count_256 : count_bytes 256 ≡ 0x00 ∷ 0x80 ∷ []
  -- "c = 600": three blockettes and five marks
  pub blockettes_600 : blockette_count 600 ≡ 3
  pub marks_600 : mark_count 600 1 ≡ 5
  -- "mark 9 on blockette 1, 3 on check 0: 91013200, code 15": both are found, and the scan comes to the end
  pub each_odd : defect_at one_of_each (scan_marks one_of_each).odd ≡ error 9 1 1
  pub each_even : defect_at one_of_each (scan_marks one_of_each).even ≡ error 3 2 0
  pub each_stop : (scan_marks one_of_each).stop ≡ 5
  pub each_none : defect_at one_of_each (scan_marks one_of_each).stop ≡ none
  -- "6 on 2, 4 on 0: 00006102, quintary 00004100, code 16, 512 bytes": two blockettes stand before the stop
  pub two_odd : defect_at two_even (scan_marks two_even).odd ≡ none
  pub two_even_lem : defect_at two_even (scan_marks two_even).even ≡ error 6 1 2
  pub two_stop : defect_at two_even (scan_marks two_even).stop ≡ error 4 1 0
  pub two_bytes : 256 * (scan_marks two_even).stop ≡ 512
  -- "c = 1, byte 5A: the 257th check byte is 5A": behind the count, one blockette and check blockette 1
  pub check_257 : get_or (image_of (0x5A ∷ []) 1) (2 + 256 + 256) 0 ≡ 0x5A
  -- "The bench case of 16,385 now offers GO." (document 02, request 3): of the builder, within the limit, with a
  -- blockette more; 65,536 is 9
  pub longest_before : build_refusal 16384 1 no_place 16898 ≡ 0
  pub longer : build_refusal 16385 1 no_place 17154 ≡ 0
  pub longest : build_refusal 65535 1 no_place 66050 ≡ 0
  pub too_long : build_refusal 65536 1 no_place 66050 ≡ 9
  -- 65,535 bytes are 256 blockettes, numbered in one byte, with 258 marks
  pub most_blockettes : blockette_count 65535 ≡ 256
  pub most_marks_lem : mark_count 65535 1 ≡ 258
  -- "The byte itself is written as it came, every record byte after it is zero" (document 02, request 6); with none,
  -- all are written
  pub second_bad : built_bytes (0x11 ∷ 0x22 ∷ 0x33 ∷ 0x44 ∷ []) 1 ≡ 0x11 ∷ 0x22 ∷ 0 ∷ 0 ∷ []
  pub last_bad : built_bytes (0x11 ∷ 0x22 ∷ 0x33 ∷ 0x44 ∷ []) 3 ≡ 0x11 ∷ 0x22 ∷ 0x33 ∷ 0x44 ∷ []
  pub none_bad_lem : built_bytes (0x11 ∷ 0x22 ∷ 0x33 ∷ 0x44 ∷ []) no_place ≡ 0x11 ∷ 0x22 ∷ 0x33 ∷ 0x44 ∷ []
  -- "15 a place that is neither in the host bytes nor the value for none, after 11"
  pub place_behind : build_refusal 4 0 4 6 ≡ 15
  pub space_first : build_refusal 4 0 4 5 ≡ 11
  pub last_place_lem : build_refusal 4 0 3 6 ≡ 0

pub record_cases : RecordCases
unfolding pick filled ◌⊕◌ xor_all blockette_at numbered of_parity fold_parity check_of is_error scan_from scan_marks
    kind_of number_of defect_at limit rotated count_bytes blockette_count has_blockettes blockettes_of body_of image_of
    image_length mark_count is_place as_came written_bytes build_refusal
record_cases =
    record {
      count_5 = refl;
      count_3 = refl;
      count_256 = refl;
      blockettes_600 = refl;
      marks_600 = refl;
      each_odd = refl;
      each_even = refl;
      each_stop = refl;
      each_none = refl;
      two_odd = refl;
      two_even_lem = refl;
      two_stop = refl;
      two_bytes = refl;
      check_257 = refl;
      longest_before = refl;
      longer = refl;
      longest = refl;
      too_long = refl;
      most_blockettes = refl;
      most_marks_lem = refl;
      second_bad = refl;
      last_bad = refl;
      none_bad_lem = refl;
      place_behind = refl;
      space_first = refl;
      last_place_lem = refl;
    }
