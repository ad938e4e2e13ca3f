-- The image that document 01 writes out is the image of the records (`image_is`); and what stands in it where.
-- Assumes nothing.
use mathlib.Core.Path.{◌≡◌, refl, sym, ap, ap₂, ◌∙◌}
use Prim.Native.Nat.{ℕ, zero, suc, ◌+◌, ◌-◌, ◌*◌, ◌/◌, ◌%◌, ◌≤◌, ◌<◌}
use native.Mathlib.Omega.{arith}
use mathlib.Core.Bool.{Bool, true, false, not, ◌&&◌, ◌||◌}
use mathlib.Core.List.{List, [], ◌∷◌, ◌++◌}
use lib.Bits.{bit_xor}
use lib.Dec.{eqb}
use lib.ListN.{length, take, drop, get_or, replicate, length-append, length-replicate, get_or-replicate}
use lib.Seq.{take-length, take-append-le, take-append_seam, get_or-take, get_or-drop, ext_get_or}
use borrow.Author.Tests.{eqb-true, eqb-false}
use Rattle.common.specs.Pick.{pick}
use Rattle.common.specs.Space.{filled}
use Rattle.common.proofs.PickLaws.{by_test, pick_by, pick_yes, pick_no}
use Rattle.common.proofs.SpaceLaws.{filled_length}
use Rattle.blockettes.specs.Xor.{xor_all}
use Rattle.blockettes.specs.Blockettes.{blockette_at, numbered, of_parity, fold_parity, check_of}
use Rattle.blockettes.proofs.XorLaws.{⊕-at, xor_all-length}
use Rattle.blockettes.proofs.Checked.{blockette_length_lem, check_length}
use Rattle.records.specs.Count.{rotated, count_bytes}
use Rattle.records.specs.Image.{blockette_count, has_blockettes, blockettes_of, body_of, image_of}
use Rattle.records.proofs.ImageLaws.{blockettes_hold}
use Rattle.controller.specs.OnTape.{bytes_by, count_on_tape, xor_byte, blockette_byte, check_on_tape}
use Rattle.controller.specs.OnTape.{blockettes_on_tape}
use Rattle.controller.specs.OnTape.{body_on_tape, image_on_tape}

-- ---- bytes by their places

pub by_length : (at : ℕ → ℕ) (n : ℕ) → length (bytes_by at n) ≡ n
unfolding bytes_by
by_length at zero = refl
by_length at (suc n) = ap suc (by_length (λ i. at (suc i)) n)

by_place : (at : ℕ → ℕ) (n i : ℕ) → i < n → get_or (bytes_by at n) i 0 ≡ at i
unfolding bytes_by
by_place at zero i below = absurd (omega arith)
by_place at (suc n) zero below = refl
by_place at (suc n) (suc i) below = by_place (λ j. at (suc j)) n i (omega arith)

-- a string that has these bytes is theirs
pub by_bytes : (at : ℕ → ℕ) (n : ℕ) (l : List ℕ) → length l ≡ n → ((i : ℕ) → i < n → get_or l i 0 ≡ at i)
    → bytes_by at n ≡ l
by_bytes at n l long same =
    ext_get_or 0 (bytes_by at n) l (by_length at n ∙ sym long)
    (λ i below. let within : i < n = omega (arith, by_length at n) in by_place at n i within ∙ sym (same i within))

-- ---- zeros behind bytes are what stands behind them anyway

zero_at : (k i : ℕ) → get_or {A = ℕ} (replicate k 0) i 0 ≡ 0
zero_at zero i = refl
zero_at (suc k) zero = refl
zero_at (suc k) (suc i) = zero_at k i

pub padded_at : (bytes : List ℕ) (k i : ℕ) → get_or (bytes ++ replicate k 0) i 0 ≡ get_or bytes i 0
padded_at [] k i = zero_at k i
padded_at (byte ∷ bytes) k zero = refl
padded_at (byte ∷ bytes) k (suc i) = padded_at bytes k i

-- ---- the count

pub count_is : (c : ℕ) → count_on_tape c ≡ count_bytes c
unfolding count_on_tape count_bytes rotated
count_is c =
    let high : c % 2 * 128 + c / 512 ≡ (c / 2 + c % 2 * 32768) / 256 = omega arith in
    let low : c / 2 % 256 ≡ (c / 2 + c % 2 * 32768) % 256 = omega arith in
    ap₂ (λ (h l : ℕ). h ∷ l ∷ []) high low

-- ---- the check blockettes

module _ (bytes : List ℕ) (n parity i : ℕ) (enough : length bytes ≤ 256 * n) (small : parity < 2)
    (within : i < 256) where
  abbrev full : List ℕ
  full = filled bytes (256 * n)

  abbrev family : ℕ → List ℕ
  family t = numbered full n (2 * t + parity)

  abbrev folded : ℕ → List ℕ
  folded count = xor_all (replicate 256 0) family count

  full_long : length full ≡ 256 * n
  full_long = filled_length bytes (256 * n) enough

  -- a byte of a blockette
  byte_is : (number : ℕ) → number < n → get_or (numbered full n number) i 0 ≡ blockette_byte bytes n number i
  unfolding numbered blockette_at filled
  byte_is number below =
      get_or-take 256 (drop (256 * (n - 1 - number)) full) i 0 within
      ∙ get_or-drop (256 * (n - 1 - number)) full i 0
      ∙ padded_at bytes (256 * n - length bytes) (256 * (n - 1 - number) + i)

  one_long : (number : ℕ) → number < n → length (numbered full n number) ≡ 256
  unfolding numbered
  one_long number below = blockette_length_lem full (n - 1 - number) (omega (arith, full_long))

  folded_long : (count : ℕ) → length (folded count) ≡ 256
  folded_long count = xor_all-length family (replicate 256 0) count ∙ length-replicate {A = ℕ} 256 0

  -- one more is put in where its number has the parity
  xor_is : (number : ℕ) → number ≤ n → xor_byte bytes n parity i number ≡ get_or (folded (of_parity number parity)) i 0
  unfolding xor_byte xor_all of_parity
  xor_is zero below =
      let none : (0 + 1 - parity) / 2 ≡ 0 = omega arith in
      sym (ap (λ (count : ℕ). get_or (folded count) i 0) none ∙ get_or-replicate {A = ℕ} 256 i 0 0 within)
  xor_is (suc number) below =
      let before = xor_is number (omega arith) in
      by_test (eqb (number % 2) parity)
      (λ is.
      let own = eqb-true (number % 2) parity is in
      let more : (suc number + 1 - parity) / 2 ≡ suc ((number + 1 - parity) / 2) = omega arith in
      let it : 2 * ((number + 1 - parity) / 2) + parity ≡ number = omega arith in
      let last : get_or (family (of_parity number parity)) i 0 ≡ blockette_byte bytes n number i =
      ap (λ (m : ℕ). get_or (numbered full n m) i 0) it ∙ byte_is number (omega arith) in
      let long : length (family (of_parity number parity)) ≡ 256 =
      ap (λ (m : ℕ). length (numbered full n m)) it ∙ one_long number (omega arith) in
      pick_yes _ _ is
      ∙ sym (ap (λ (count : ℕ). get_or (folded count) i 0) more
      ∙ ⊕-at (folded (of_parity number parity)) (family (of_parity number parity)) i
      (omega (arith, folded_long (of_parity number parity))) (omega arith)
      ∙ ap₂ bit_xor (sym before) last))
      (λ other.
      let unlike = eqb-false (number % 2) parity other in
      let same : (suc number + 1 - parity) / 2 ≡ (number + 1 - parity) / 2 = omega arith in
      pick_no _ _ other ∙ before ∙ sym (ap (λ (count : ℕ). get_or (folded count) i 0) same))

  check_byte_lem : get_or (check_of full n parity) i 0 ≡ xor_byte bytes n parity i n
  unfolding check_of fold_parity
  check_byte_lem = sym (xor_is n (omega arith))

check_is : (bytes : List ℕ) (n parity : ℕ) → length bytes ≤ 256 * n → parity < 2
    → check_on_tape bytes n parity ≡ check_of (filled bytes (256 * n)) n parity
check_is bytes n parity enough small =
    by_bytes _ 256 (check_of (filled bytes (256 * n)) n parity) (check_length (filled bytes (256 * n)) n parity)
    (λ i within. check_byte_lem bytes n parity i enough small within)

-- ---- the whole

blockettes_are : (bytes : List ℕ) (n : ℕ) → length bytes ≤ 256 * n → blockettes_on_tape bytes n ≡ blockettes_of bytes n
unfolding blockettes_of filled
blockettes_are bytes n enough =
    ap₂ (λ (one zero : List ℕ). filled bytes (256 * n) ++ (one ++ zero)) (check_is bytes n 1 enough (omega arith))
    (check_is bytes n 0 enough (omega arith))

-- without blockettes or with them, by the same tests
choice : {A : Type 0} (mfm none : Bool) (with without : A)
    → pick (mfm || none) without with ≡ pick (not mfm && not none) with without
unfolding pick
choice true none with without = refl
choice false true with without = refl
choice false false with without = refl

pub body_is : (bytes : List ℕ) (density : ℕ) → body_on_tape bytes density ≡ body_of bytes density
unfolding body_on_tape body_of has_blockettes blockette_count
body_is bytes density =
    let c = length bytes in
    ap (λ (l : List ℕ). pick (eqb density 0 || eqb c 0) bytes l)
    (blockettes_are bytes ((c + 255) / 256) (blockettes_hold c))
    ∙ choice (eqb density 0) (eqb c 0) (blockettes_of bytes ((c + 255) / 256)) bytes

-- The image of document 01 is that of the records.
pub image_is : (bytes : List ℕ) (density : ℕ) → image_on_tape bytes density ≡ image_of bytes density
unfolding image_on_tape image_of
image_is bytes density = ap₂ ◌++◌ (count_is (length bytes)) (body_is bytes density)

-- ---- what stands where

-- behind its count an image begins with the bytes
pub body_front : (bytes : List ℕ) (density : ℕ) → take (length bytes) (body_on_tape bytes density) ≡ bytes
unfolding body_on_tape
body_front bytes density =
    let n = (length bytes + 255) / 256 in
    let zeros : List ℕ = replicate (256 * n - length bytes) 0 in
    pick_by (λ (body : List ℕ). take (length bytes) body ≡ bytes) (eqb density 0 || eqb (length bytes) 0)
    (λ plain. take-length bytes)
    (λ gcr.
    take-append-le (length bytes) (bytes ++ zeros) (check_on_tape bytes n 1 ++ check_on_tape bytes n 0)
    (simp length-append (omega arith))
    ∙ take-append_seam bytes zeros)

-- ---- document 01's cases

pub record OnTapeCases : Type 0 where
  -- "Counts 5, 3, 256 rotate to 8002, 8001, 0080."
  pub count_5 : count_on_tape 5 ≡ 0x80 ∷ 0x02 ∷ []
  pub count_3 : count_on_tape 3 ≡ 0x80 ∷ 0x01 ∷ []
  pub count_256 : count_on_tape 256 ≡ 0x00 ∷ 0x80 ∷ []
  -- "c = 1, byte 5A: the 257th check byte is 5A."
  pub check_257 : get_or (image_on_tape (0x5A ∷ []) 1) (2 + 256 + 256) 0 ≡ 0x5A
  -- MFM: "then c bytes"; "c = 0 is two bytes"
  pub mfm : image_on_tape (7 ∷ 8 ∷ 9 ∷ []) 0 ≡ 0x80 ∷ 0x01 ∷ 7 ∷ 8 ∷ 9 ∷ []
  pub empty : image_on_tape [] 1 ≡ 0 ∷ 0 ∷ []

pub on_tape_cases : OnTapeCases
unfolding pick bytes_by count_on_tape xor_byte body_on_tape image_on_tape
on_tape_cases =
    record { count_5 = refl; count_3 = refl; count_256 = refl; check_257 = refl; mfm = refl; empty = refl }
