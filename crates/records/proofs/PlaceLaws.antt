-- Laws of what is written where a byte came with bad parity.
-- Assumes nothing.
use mathlib.Core.Path.{◌≡◌, sym, ap, ◌∙◌}
use mathlib.Core.List.{List}
use Prim.Native.Nat.{ℕ, ◌+◌, ◌≤◌}
use native.Mathlib.Omega.{arith}
use lib.Dec.{ltb}
use lib.ListN.{length, take, drop, length-take}
use lib.Seq.{take_all}
use Rattle.common.specs.Space.{filled}
use Rattle.common.proofs.SpaceLaws.{filled_self, filled_length}
use Rattle.common.proofs.Parts.{part_of_front}
use Rattle.common.proofs.PickLaws.{by_test, pick_yes, pick_no}
use Rattle.records.specs.Place.{as_came, written_bytes}
use Rattle.records.specs.Build.{built_bytes}

module _ (bytes : List ℕ) (place : ℕ) where
  abbrev handed : ℕ
  handed = length bytes

  -- a record has its count, whatever came
  pub written_length : (thrown count : ℕ) → length (written_bytes bytes place thrown count) ≡ count
  unfolding written_bytes
  written_length thrown count = filled_length _ count (simp length-take (omega arith))

  -- of the builder's bytes none is thrown away
  pub built_part : filled (take (as_came handed place) bytes) handed ≡ built_bytes bytes place
  unfolding written_bytes
  built_part =
      ap (λ (x : List ℕ). filled x handed)
      (sym (take_all handed (take (as_came handed place) bytes) (simp length-take (omega arith))))

  -- a byte past those that a record needs changes nothing
  pub written_as_came : (thrown count : ℕ) → thrown + count ≤ place + 1
      → written_bytes bytes place thrown count ≡ filled (take count (drop thrown bytes)) count
  unfolding written_bytes as_came
  written_as_came thrown count past =
      ap (λ (x : List ℕ). filled x count)
      (by_test (ltb place handed)
      (λ inside. ap (λ (n : ℕ). take count (drop thrown (take n bytes))) (pick_yes _ _ inside)
      ∙ part_of_front bytes thrown count (place + 1) past)
      (λ outside. ap (λ (n : ℕ). take count (drop thrown (take n bytes))) (pick_no _ _ outside)
      ∙ ap (λ (x : List ℕ). take count (drop thrown x)) (take_all handed bytes (omega arith))))

  -- so the builder writes its own bytes where none of them is bad
  pub built_as_came : handed ≤ place + 1 → built_bytes bytes place ≡ bytes
  built_as_came past =
      written_as_came 0 handed (omega arith)
      ∙ ap (λ (x : List ℕ). filled x handed) (take_all handed bytes (omega arith)) ∙ filled_self bytes
