-- Laws of the bytes as an operation reads them: those of a torn first blockette are zeros.
-- Assumes nothing.
use mathlib.Core.Path.{◌≡◌, refl, sym, ap, ap₂, ◌∙◌}
use Prim.Native.Nat.{ℕ, zero, suc, ◌≤◌, ◌<◌, min}
use native.Mathlib.Nat.{lt_of_not-le}
use native.Mathlib.Decide.{dec_le}
use native.Mathlib.Omega.{arith}
use mathlib.Core.List.{List, [], ◌∷◌, ◌++◌, append_assoc}
use lib.ListN.{length, take, drop, replicate, length-append, length-replicate, length-take, length-drop}
use lib.ListN.{drop_of_length-le}
use lib.Seq.{length-take-le, drop-append-le}
use mathlib.Core.Bool.{true, false}
use Rattle.common.specs.Space.{overwrite}
use Rattle.common.proofs.SpaceLaws.{overwritten_room}
use Rattle.common.proofs.PickLaws.{pick_by, pick_yes, pick_no}
use Rattle.blockettes.specs.Blockettes.{blockette_length}
use Rattle.operations.specs.declared.operation.Operation.{Operation}
use Rattle.operations.specs.Operation.{supplies_count}
use Rattle.transfers.specs.Results.{torn_bytes, bytes_read, fitting, fitting_into}

-- ---- the first bytes as zeros, byte by byte

abbrev zeroed : ℕ → List ℕ → List ℕ
zeroed zero bytes = bytes
zeroed (suc n) [] = []
zeroed (suc n) (byte ∷ bytes) = 0 ∷ zeroed n bytes

zeroed_is : (n : ℕ) (bytes : List ℕ) → replicate (min (length bytes) n) 0 ++ drop n bytes ≡ zeroed n bytes
zeroed_is zero bytes = let none : min (length bytes) 0 ≡ 0 = omega arith in ap (λ (k : ℕ). replicate k 0 ++ bytes) none
zeroed_is (suc n) [] = let none : min 0 (suc n) ≡ 0 = omega arith in ap (λ (k : ℕ). replicate k 0 ++ []) none
zeroed_is (suc n) (byte ∷ bytes) =
    let one : min (suc (length bytes)) (suc n) ≡ suc (min (length bytes) n) = omega arith in
    ap (λ (k : ℕ). replicate k 0 ++ drop n bytes) one ∙ ap (λ (x : List ℕ). 0 ∷ x) (zeroed_is n bytes)

zeroed_part : (n k : ℕ) (bytes : List ℕ) → take k (zeroed n bytes) ≡ zeroed n (take k bytes)
zeroed_part zero k bytes = refl
zeroed_part (suc n) zero bytes = refl
zeroed_part (suc n) (suc k) [] = refl
zeroed_part (suc n) (suc k) (byte ∷ bytes) = ap (λ (x : List ℕ). 0 ∷ x) (zeroed_part n k bytes)

-- ---- bytes whose first blockette is torn

torn_length : (bytes : List ℕ) → length (torn_bytes bytes) ≡ length bytes
unfolding torn_bytes
torn_length bytes = simp (length-append, length-replicate, length-drop) (omega arith)

torn_fits : (bytes : List ℕ) (k : ℕ) → fitting (torn_bytes bytes) k ≡ torn_bytes (fitting bytes k)
unfolding torn_bytes fitting
torn_fits bytes k =
    ap (take k) (zeroed_is blockette_length bytes) ∙ zeroed_part blockette_length k bytes
    ∙ sym (zeroed_is blockette_length (take k bytes))

module _ (bytes space : List ℕ) (torn : ℕ) (e : torn ≡ min (length bytes) blockette_length) where
  behind : drop torn bytes ≡ drop blockette_length bytes
  behind =
      elim (dec_le (length bytes) blockette_length) [
        | yes few ↦ let all : length bytes ≤ torn = omega arith in drop_of_length-le bytes all
            ∙ sym (drop_of_length-le bytes few)
        | no many ↦
            let past : blockette_length < length bytes = lt_of_not-le many in
            let same : torn ≡ blockette_length = omega arith in
            ap (λ (n : ℕ). drop n bytes) same
      ]

  -- in a space they are given, and then the first of them cleared
  pub torn_overwritten : replicate torn 0 ++ drop torn (overwrite bytes space) ≡ overwrite (torn_bytes bytes) space
  unfolding overwrite torn_bytes
  torn_overwritten =
      let within : torn ≤ length bytes = omega arith in
      ap (λ (x : List ℕ). replicate torn 0 ++ x)
      (drop-append-le torn bytes (drop (length bytes) space) within
      ∙ ap (λ (x : List ℕ). x ++ drop (length bytes) space) behind)
      ∙ sym (append_assoc (replicate torn 0) (drop blockette_length bytes) (drop (length bytes) space))
      ∙ ap₂ (λ (k n : ℕ). (replicate k 0 ++ drop blockette_length bytes) ++ drop n space) e (sym (torn_length bytes))

-- ---- as the operation reads them

module _ (operation : Operation) (bytes : List ℕ) where
  pub read_length : length (bytes_read operation bytes) ≡ length bytes
  unfolding bytes_read
  read_length =
      pick_by (λ (x : List ℕ). length x ≡ length bytes) (supplies_count operation) (λ torn. torn_length bytes)
      (λ whole. refl)

  -- put into a space: as many as fit, as they came where nothing is torn
  module _ (space : List ℕ) where
    pub fit_length : (n : ℕ) → n ≡ length (fitting bytes (length space))
        → n ≡ length (fitting (bytes_read operation bytes) (length space))
    unfolding fitting
    fit_length n e =
        e ∙ length-take (length space) bytes
        ∙ sym (length-take (length space) (bytes_read operation bytes)
        ∙ ap (λ (k : ℕ). min (length space) k) read_length)

    pub put_whole : supplies_count operation ≡ false → (into : List ℕ) → into ≡ fitting_into bytes space
        → into ≡ fitting_into (bytes_read operation bytes) space
    unfolding bytes_read
    put_whole own into e = e ∙ ap (λ (x : List ℕ). fitting_into x space) (sym (pick_no (torn_bytes bytes) bytes own))

    -- and with the first blockette cleared where it is
    module _ (n torn : ℕ) (into : List ℕ) (put : n ≡ length (fitting bytes (length space)))
        (given_there : into ≡ fitting_into bytes space)
        (least : torn ≡ min n blockette_length) where
      pub torn_room : torn ≤ length into
      torn_room = rw given_there (omega (arith, overwritten_room (fitting bytes (length space)) space))

      pub put_torn : supplies_count operation ≡ true → (cleared : List ℕ)
          → cleared ≡ replicate (length (take torn into)) 0
          → cleared ++ drop torn into ≡ fitting_into (bytes_read operation bytes) space
      unfolding bytes_read
      put_torn supplies cleared zeros =
          let f = fitting bytes (length space) in
          let many : length (take torn into) ≡ torn = length-take-le torn into torn_room in
          let first : torn ≡ min (length f) blockette_length = omega arith in
          ap₂ (λ (x y : List ℕ). x ++ drop torn y) (zeros ∙ ap (λ (k : ℕ). replicate k 0) many) given_there
          ∙ torn_overwritten f space torn first
          ∙ ap (λ (x : List ℕ). overwrite x space)
          (sym (torn_fits bytes (length space))
          ∙ ap (λ (x : List ℕ). fitting x (length space)) (sym (pick_yes (torn_bytes bytes) bytes supplies)))
