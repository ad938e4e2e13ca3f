-- Laws of the image: the count that it says, how long each part is, and where its bytes stand.
-- Assumes nothing.
use mathlib.Core.Path.{◌≡◌, refl, sym, ap, ◌∙◌}
use Prim.Native.Nat.{ℕ, zero, suc, ◌+◌, ◌-◌, ◌*◌, ◌/◌, ◌%◌, ◌≤◌, ◌<◌}
use native.Mathlib.Omega.{arith}
use mathlib.Core.Bool.{Bool, true, false, not, ◌&&◌}
use mathlib.Core.List.{List, ◌++◌}
use lib.Dec.{eqb}
use lib.ListN.{length, take, drop, get_or, replicate, length-append, get_or-append}
use lib.Seq.{get_or-take}
use borrow.Author.Tests.{ne_eqb}
use Rattle.common.specs.Pick.{pick}
use Rattle.common.specs.Space.{filled}
use Rattle.common.proofs.SpaceLaws.{filled_length, filled_further}
use Rattle.common.proofs.PickLaws.{pick_yes, pick_by}
use Rattle.blockettes.specs.Blockettes.{check_of}
use Rattle.blockettes.proofs.Checked.{check_length}
use Rattle.records.specs.Count.{limit, rotated, unrotated, count_bytes, count_of}
use Rattle.records.specs.Image.{blockette_count, has_blockettes, blockettes_of, body_of, image_of, image_length}
use Rattle.records.specs.Image.{mark_count}

-- ---- the count

-- a count fits 16 bits
pub limit_16 : limit ≤ 65535
unfolding limit
limit_16 = omega arith

-- the word of a count, from its two bytes
word_said : (c : ℕ) → c ≤ 65535 → unrotated (rotated c / 256 * 256 + rotated c % 256) ≡ c
unfolding rotated unrotated
word_said c h = omega arith

-- the first two bytes of an image say its count
pub count_said_lem : (image : List ℕ) (c : ℕ) → c ≤ 65535 → take 2 image ≡ count_bytes c → count_of image ≡ c
unfolding count_bytes count_of
count_said_lem image c h e =
    let high : get_or image 0 0
    ≡ rotated c / 256 = sym (get_or-take 2 image 0 0 (omega arith)) ∙ ap (λ (l : List ℕ). get_or l 0 0) e in
    let low : get_or image 1 0
    ≡ rotated c % 256 = sym (get_or-take 2 image 1 0 (omega arith)) ∙ ap (λ (l : List ℕ). get_or l 1 0) e in
    rw (high, low) (word_said c h)

-- ---- the number of blockettes

-- the blockettes hold the bytes
pub blockettes_hold : (c : ℕ) → c ≤ 256 * blockette_count c
unfolding blockette_count
blockettes_hold c = omega arith

-- a 16-bit count has at most 256 of them, so that a number is one byte
pub blockettes_few : (c : ℕ) → c ≤ 65535 → blockette_count c ≤ 256
unfolding blockette_count
blockettes_few c h = omega arith

pub blockettes_length : (bytes : List ℕ) (n : ℕ) → length bytes ≤ 256 * n
    → length (blockettes_of bytes n) ≡ 256 * (n + 2)
unfolding blockettes_of
blockettes_length bytes n h = simp (length-append, filled_length bytes (256 * n) h, check_length) (omega arith)

-- filled first or not, the blockettes are the same
pub blockettes_filled : (bytes : List ℕ) (m n : ℕ) → length bytes ≤ m → m ≤ 256 * n
    → blockettes_of (filled bytes m) n ≡ blockettes_of bytes n
unfolding blockettes_of
blockettes_filled bytes m n h k =
    ap (λ (x : List ℕ). x ++ (check_of x n 1 ++ check_of x n 0)) (filled_further bytes m (256 * n) h k)

-- ---- with blockettes and without

module _ (c density : ℕ) where
  pub length_gcr : has_blockettes c density ≡ true → image_length c density ≡ 2 + 256 * (blockette_count c + 2)
  unfolding image_length pick
  length_gcr h = simp h

  pub length_plain : has_blockettes c density ≡ false → image_length c density ≡ 2 + c
  unfolding image_length pick
  length_plain h = simp h

  pub length_two : 2 ≤ image_length c density
  unfolding image_length pick
  length_two = go (has_blockettes c density)
    where
      go : (gcr : Bool) → 2 ≤ pick gcr (2 + 256 * (blockette_count c + 2)) (2 + c)
      go true = omega arith
      go false = omega arith

pub body_gcr : (bytes : List ℕ) (density : ℕ) → has_blockettes (length bytes) density ≡ true
    → body_of bytes density ≡ blockettes_of bytes (blockette_count (length bytes))
unfolding body_of pick
body_gcr bytes density h = simp h

pub body_plain : (bytes : List ℕ) (density : ℕ) → has_blockettes (length bytes) density ≡ false
    → body_of bytes density ≡ bytes
unfolding body_of pick
body_plain bytes density h = simp h

pub image_length_lem : (bytes : List ℕ) (density : ℕ)
    → length (image_of bytes density) ≡ image_length (length bytes) density
unfolding image_of count_bytes
image_length_lem bytes density = go (has_blockettes (length bytes) density) refl
  where
    go : (gcr : Bool) → has_blockettes (length bytes) density ≡ gcr
        → length (count_bytes (length bytes) ++ body_of bytes density) ≡ image_length (length bytes) density
    go true h =
        let n = blockette_count (length bytes) in
        simp (
          body_gcr bytes density h,
          length_gcr (length bytes) density h,
          blockettes_length bytes n
              (blockettes_hold (length bytes)),
        ) (omega arith)
    go false h = simp (body_plain bytes density h, length_plain (length bytes) density h) (omega arith)

-- an image has room for its bytes
pub image_holds : (c density : ℕ) → 2 + c ≤ image_length c density
image_holds c density = go (has_blockettes c density) refl
  where
    go : (gcr : Bool) → has_blockettes c density ≡ gcr → 2 + c ≤ image_length c density
    go true h = omega (arith, length_gcr c density h, blockettes_hold c)
    go false h = omega (arith, length_plain c density h)

-- ---- the body of a GCR image

-- no more blockettes than the bytes need
pub blockettes_tight : (c : ℕ) → 256 * blockette_count c < c + 256
unfolding blockette_count
blockettes_tight c = omega arith

-- bytes filled to whole blockettes
pub whole_blockettes : (bytes : List ℕ)
    → length (filled bytes (256 * blockette_count (length bytes))) ≡ 256 * blockette_count (length bytes)
whole_blockettes bytes = filled_length bytes (256 * blockette_count (length bytes)) (blockettes_hold (length bytes))

-- a GCR record has blockettes, unless it is empty
has_some : (c : ℕ) → 0 < c → has_blockettes c 1 ≡ true
unfolding has_blockettes
has_some c h = ap not (ne_eqb c 0 (λ none. omega arith))

-- and so two marks more than them
pub marks_of : (c : ℕ) → 0 < c → mark_count c 1 ≡ blockette_count c + 2
unfolding mark_count
marks_of c h = pick_yes (blockette_count c + 2) 0 (has_some c h)

-- so the length of its image
pub length_some : (c : ℕ) → 0 < c → image_length c 1 ≡ 2 + 256 * (blockette_count c + 2)
length_some c h = length_gcr c 1 (has_some c h)

-- in either density no more than that
pub marks_most : (c density : ℕ) → mark_count c density ≤ blockette_count c + 2
unfolding mark_count
marks_most c density =
    pick_by (λ (n : ℕ). n ≤ blockette_count c + 2) (has_blockettes c density) (λ some. omega arith)
    (λ none. omega arith)

-- a GCR image is its count and a blockette for each mark
pub marks_fill : (c : ℕ) → image_length c 1 ≡ 2 + 256 * mark_count c 1
unfolding image_length mark_count has_blockettes pick
marks_fill zero = refl
marks_fill (suc c) =
    let some : 0 < suc c = omega arith in
    length_gcr (suc c) 1 (has_some (suc c) some) ∙ sym (ap (λ (n : ℕ). 2 + 256 * n) (marks_of (suc c) some))

-- every density but 0 is GCR, and its image that of density 1
module _ (density : ℕ) (gcr : density ≡ 0 → ⊥) where
  has_alike : (c : ℕ) → has_blockettes c density ≡ has_blockettes c 1
  unfolding has_blockettes
  has_alike c = ap (λ (b : Bool). not b && not (eqb c 0)) (ne_eqb density 0 gcr)

  pub image_alike : (bytes : List ℕ) → image_of bytes density ≡ image_of bytes 1
  unfolding image_of body_of
  image_alike bytes =
      ap (λ (b : Bool). count_bytes (length bytes)
      ++ pick b (blockettes_of bytes (blockette_count (length bytes))) bytes)
      (has_alike (length bytes))

module _ (bytes : List ℕ) (some : 0 < length bytes) where
  -- what follows the count
  pub body_is : drop 2 (image_of bytes 1) ≡ blockettes_of bytes (blockette_count (length bytes))
  unfolding image_of count_bytes
  body_is = body_gcr bytes 1 (has_some (length bytes) some)

  -- the bytes stand in front
  pub body_front : (i : ℕ) → i < length bytes → get_or (drop 2 (image_of bytes 1)) i 0 ≡ get_or bytes i 0
  unfolding blockettes_of filled
  body_front i h =
      let n = blockette_count (length bytes) in
      let full = filled bytes (256 * n) in
      ap (λ (l : List ℕ). get_or l i 0) body_is
      ∙ get_or-append full (check_of full n 1 ++ check_of full n 0) 0 i
      (omega (arith, whole_blockettes bytes, blockettes_hold (length bytes)))
      ∙ get_or-append bytes (replicate (256 * n - length bytes) 0) 0 i h
