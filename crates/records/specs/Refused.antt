-- When the functions for C refuse, and with which number (document 01, Turned back; document 02, requests 5, 6 and 10):
-- of each a table of numbers with their conditions, in the papers' order. The conditions are in numbers, and cite no
-- other definition of the records.
-- Assumes nothing.
use Rattle.std.specs.Prelude.{◌≡◌, ℕ, ◌+◌, ◌-◌, ◌*◌, ◌/◌, ◌%◌, ◌≤◌, ◌<◌, List, [], ◌∷◌, ltb, eqb, length, take, drop}
use Rattle.std.specs.Prelude.{get_or}
use Rattle.common.specs.Pick.{pick}
use Rattle.common.specs.FirstOf.{FirstOf}
use Rattle.blockettes.specs.Blockettes.{check_of}
use Rattle.records.specs.Merge.{Pass}

-- ---- counts and lengths

-- "count c rotated right one bit as 16 bits, high byte first": the count that the first two bytes say
unfoldable pub said_count : List ℕ → ℕ
said_count image =
    (get_or image 0 0 * 256 + get_or image 1 0) % 32768 * 2 + (get_or image 0 0 * 256 + get_or image 1 0) / 32768

-- "Marks: one for each GCR blockette": "n = c/256 rounded up blockettes", and the two check blockettes; "c = 0 is two
-- bytes"
unfoldable pub marks_in : ℕ → ℕ
marks_in c = pick (eqb c 0) 0 ((c + 255) / 256 + 2)

-- two count bytes; "MFM: then c bytes.", and in GCR the blockettes, 256 bytes each. Density 0 is MFM.
unfoldable pub length_in : ℕ → ℕ → ℕ
length_in c density = pick (eqb density 0) (2 + c) (2 + 256 * marks_in c)

-- ---- marks

-- "10 mark value": one that is neither 1 to 9 nor 15
abbrev pub MarkValue : List ℕ → Type 0
MarkValue marks =
    (place : ℕ) × (place < length marks) × ((1 ≤ get_or marks place 0) × (get_or marks place 0 ≤ 9) → ⊥)
    × (get_or marks place 0 ≡ 15 → ⊥)

-- "numbered n-1 down to 0 ..; then check blockette 1 .., and 0": the number of the blockette at a place
unfoldable pub number_at : ℕ → ℕ → ℕ
number_at n place = pick (ltb place n) (n - 1 - place) (n + 1 - place)

-- "two bad of one parity"; "An error's parity is its number's, check blockettes included."
abbrev pub TwoBad : List ℕ → Type 0
TwoBad marks =
    (one : ℕ) × (other : ℕ) × (one < other) × (other < length marks) × (get_or marks one 0 ≡ 15 → ⊥)
    × (get_or marks other 0 ≡ 15 → ⊥) × (number_at (length marks - 2) one % 2 ≡ number_at (length marks - 2) other % 2)

-- "a blockette is good in both and unlike", of two passes
abbrev pub GoodAndUnlike : Pass → Pass → Type 0
GoodAndUnlike first second =
    (place : ℕ) × (place < length first.marks) × (get_or first.marks place 0 ≡ 15)
    × (get_or second.marks place 0 ≡ 15)
    × (take 256 (drop (2 + 256 * place) first.image) ≡ take 256 (drop (2 + 256 * place) second.image) → ⊥)

-- ---- the tables

-- The builder, of c bytes: "host bytes too many for the builder, keep refusal 9"; "11 the .. builder's image space ..
-- short"; "15 a place that is neither in the host bytes nor the value for none, after 11", which is 65,535 plus 256
abbrev pub BuildRefused : ℕ → ℕ → ℕ → ℕ → ℕ → Type 0
BuildRefused c density place space refusal =
    FirstOf
    ((9, 65535 < c) ∷ (11, space < length_in c density) ∷ (15, (place < c → ⊥) × (place ≡ 65791 → ⊥)) ∷ [])
    refusal

-- The restorer: "9 .. wrong length of image or marks; 10 mark value; 11 .. the restorer's output space, short; 12
-- restorer: two bad of one parity"
abbrev pub RestoreRefused : List ℕ → List ℕ → ℕ → ℕ → Type 0
RestoreRefused image marks space refusal =
    let c = said_count image in
    FirstOf
    ((9, length image < 2)
    ∷ (9, length image ≡ length_in c 1 → ⊥)
    ∷ (9, length marks ≡ marks_in c → ⊥)
    ∷ (10, MarkValue marks)
    ∷ (11, space < c)
    ∷ (12, TwoBad marks)
    ∷ [])
    refusal

-- Merging: "13 the counts differ, 14 a blockette is good in both and unlike; 9, 10, 13, 14, then 11, in that order."
abbrev pub MergeRefused : Pass → Pass → ℕ → ℕ → ℕ → Type 0
MergeRefused first second image_space marks_space refusal =
    let c = said_count first.image in
    let d = said_count second.image in
    FirstOf
    ((9, length first.image < 2)
    ∷ (9, length first.image ≡ length_in c 1 → ⊥)
    ∷ (9, length first.marks ≡ marks_in c → ⊥)
    ∷ (9, length second.image < 2)
    ∷ (9, length second.image ≡ length_in d 1 → ⊥)
    ∷ (9, length second.marks ≡ marks_in d → ⊥)
    ∷ (10, MarkValue first.marks)
    ∷ (10, MarkValue second.marks)
    ∷ (13, c ≡ d → ⊥)
    ∷ (14, GoodAndUnlike first second)
    ∷ (11, image_space < length_in c 1)
    ∷ (11, marks_space < marks_in c)
    ∷ [])
    refusal

-- The scan, whose report has nine bytes: "11 .. short"
abbrev pub ScanRefused : ℕ → ℕ → Type 0
ScanRefused space refusal = FirstOf ((11, space < 9) ∷ []) refusal

-- ---- the functions that only tell a number, for any count that C hands in

-- the length of an image, 0 where no record has the count
pub record LengthTold (c density told : ℕ) : Type 0 where
  pub above : 65535 < c → told ≡ 0
  pub within : c ≤ 65535 → told ≡ length_in c density

-- the number of its marks: "MFM has no marks."
pub record MarksTold (c density told : ℕ) : Type 0 where
  pub above : 65535 < c → told ≡ 0
  pub mfm : density ≡ 0 → told ≡ 0
  pub gcr : (density ≡ 0 → ⊥) → c ≤ 65535 → told ≡ marks_in c

-- the count of an image, and one more than 16 bits hold where it has no two bytes
pub record CountTold (image : List ℕ) (told : ℕ) : Type 0 where
  pub short : length image < 2 → told ≡ 65536
  pub said : 2 ≤ length image → told ≡ said_count image

-- ---- the check blockettes of an image, of which no paper says that they are looked at

-- Whether one of them fits: "n = c/256 rounded up blockettes", and behind them "check blockette 1, the XOR of the odd
-- ones, and 0, of the even ones".
abbrev pub CheckFits : List ℕ → ℕ → Type 0
CheckFits image parity =
    let n = (said_count image + 255) / 256 in
    check_of (drop 2 image) n parity ≡ take 256 (drop (2 + 256 * (n + 1 - parity)) image)

-- an image of the length that its count asks for, with check blockettes
abbrev pub HasChecks : List ℕ → Type 0
HasChecks image = (length image ≡ length_in (said_count image) 1) × (1 ≤ said_count image)

-- 9 for a wrong length, else 32 if the even one does not fit, 64 if the odd one does not, their sum if neither does
pub record VerifyTold (image : List ℕ) (told : ℕ) : Type 0 where
  pub short : length image < 2 → told ≡ 9
  pub wrong : (length image ≡ length_in (said_count image) 1 → ⊥) → told ≡ 9
  pub empty : length image ≡ 2 → said_count image ≡ 0 → told ≡ 0
  pub fit : HasChecks image → CheckFits image 0 → CheckFits image 1 → told ≡ 0
  pub even : HasChecks image → (CheckFits image 0 → ⊥) → CheckFits image 1 → told ≡ 32
  pub odd : HasChecks image → CheckFits image 0 → (CheckFits image 1 → ⊥) → told ≡ 64
  pub neither : HasChecks image → (CheckFits image 0 → ⊥) → (CheckFits image 1 → ⊥) → told ≡ 96

-- One blockette alone is another than was built, of n blockettes of data: "An error's parity is its number's, check
-- blockettes included."
pub record OneUnfit (n place told : ℕ) : Type 0 where
  pub even : number_at n place % 2 ≡ 0 → told ≡ 32
  pub odd : number_at n place % 2 ≡ 1 → told ≡ 64
