-- Laws of two passes: of tests at any place, of parts one behind the other, and of the choice between the two.
-- Assumes nothing.
use mathlib.Core.Path.{◌≡◌, refl, sym, ap, ap₂, ◌∙◌}
use Prim.Native.Nat.{ℕ, zero, suc, ◌+◌, ◌*◌, ◌≤◌, ◌<◌}
use native.Mathlib.Nat.{lt_of_not-le, mul-suc, le_of_suc-le-suc, not-suc-le-zero}
use native.Mathlib.Decide.{dec_le}
use native.Mathlib.Numerals.{add-one}
use native.Mathlib.Omega.{arith}
use mathlib.Core.Bool.{Bool, true, false, ◌&&◌, ◌||◌, or-true, and_assoc}
use mathlib.Core.List.{List, [], ◌∷◌, ◌++◌, append_assoc}
use lib.Dec.{eqb}
use lib.ListN.{length, take, drop, length-append}
use lib.Seq.{take_at, drop_at, drop-drop}
use borrow.Rule.Slice.PartMut.{put_mid}
use Rattle.std.specs.List.{fold, zip}
use Rattle.common.proofs.PickLaws.{pick_by}
use Rattle.blockettes.specs.Blockettes.{blockette_at}
use Rattle.passes.specs.Passes.{same_bytes, any_place, takes_second, joined, merged_at}

-- ---- tests

-- a test that holds at a place holds at any
pub any_found : (test : ℕ → Bool) (n at : ℕ) → at < n → test at ≡ true → any_place test n ≡ true
unfolding any_place
any_found test zero at below holds = absurd (omega arith)
any_found test (suc n) at below holds =
    elim (dec_le n at) [
      | yes last ↦ let same : n
          ≡ at = omega arith in ap (λ (t : Bool). any_place test n || t) (ap test same ∙ holds)
          ∙ or-true (any_place test n)
      | no earlier ↦ let before : at < n = lt_of_not-le earlier in ap (λ (t : Bool). t || test n)
          (any_found test n at before holds)
    ]

-- one that fails at every place fails at any
pub none_found : (test : ℕ → Bool) (n : ℕ) → ((at : ℕ) → at < n → test at ≡ false) → any_place test n ≡ false
unfolding any_place
none_found test zero fails = refl
none_found test (suc n) fails = rw (none_found test n (λ at below. fails at (omega arith)), fails n (omega arith)) refl

-- ---- strings compared pair by pair, with no way out

abbrev pub so_far : Bool → ℕ × ℕ → Bool
so_far same pair = same && eqb pair.0 pair.1

same_from : (a b : List ℕ) → length b ≡ length a → (same : Bool)
    → fold so_far same (zip a b) ≡ (same && same_bytes a b)
unfolding same_bytes
same_from [] [] alike true = refl
same_from [] [] alike false = refl
same_from [] (y ∷ b) alike same = absurd (omega (arith, alike))
same_from (x ∷ a) [] alike same = absurd (omega (arith, alike))
same_from (x ∷ a) (y ∷ b) alike same =
    same_from a b (omega (arith, alike)) (same && eqb x y) ∙ and_assoc same (eqb x y) (same_bytes a b)

pub same_folded : (a b : List ℕ) → length b ≡ length a → (same : Bool) → same ≡ fold so_far true (zip a b)
    → same ≡ same_bytes a b
same_folded a b alike same one_by_one = one_by_one ∙ same_from a b alike true

-- ---- strings compared in two parts

-- a front and the rest
in_two : (k : ℕ) (a b : List ℕ)
    → same_bytes a b ≡ (same_bytes (take k a) (take k b) && same_bytes (drop k a) (drop k b))
unfolding same_bytes
in_two zero a b = refl
in_two (suc k) [] [] = refl
in_two (suc k) [] (y ∷ b) = refl
in_two (suc k) (x ∷ a) [] = refl
in_two (suc k) (x ∷ a) (y ∷ b) = ap (λ (t : Bool). eqb x y && t) (in_two k a b) ∙ sym (and_assoc (eqb x y) _ _)

-- a test that stands twice
twice : (a b : Bool) → (a && (a && b)) ≡ (a && b)
twice true b = refl
twice false b = refl

-- parts that have some bytes in common
pub overlapping : (j n : ℕ) → j ≤ n → (a b : List ℕ)
    → (same_bytes (take n a) (take n b) && same_bytes (drop j a) (drop j b)) ≡ same_bytes a b
unfolding same_bytes
overlapping zero n h a b =
    ap (λ (t : Bool). same_bytes (take n a) (take n b) && t) (in_two n a b)
    ∙ twice (same_bytes (take n a) (take n b)) (same_bytes (drop n a) (drop n b))
    ∙ sym (in_two n a b)
overlapping (suc j) zero h a b = absurd (not-suc-le-zero h)
overlapping (suc j) (suc n) h [] [] = refl
overlapping (suc j) (suc n) h [] (y ∷ b) = refl
overlapping (suc j) (suc n) h (x ∷ a) [] = refl
overlapping (suc j) (suc n) h (x ∷ a) (y ∷ b) =
    and_assoc (eqb x y) _ _ ∙ ap (λ (t : Bool). eqb x y && t) (overlapping j n (le_of_suc-le-suc h) a b)

-- ---- parts one behind the other

module _ (part : ℕ → List ℕ) (k : ℕ) where
  -- each of k elements
  pub joined_length : (n : ℕ) → ((place : ℕ) → place < n → length (part place) ≡ k) → length (joined part n) ≡ k * n
  unfolding joined
  joined_length zero each = omega arith
  joined_length (suc n) each =
      let before = joined_length n (λ place below. each place (omega arith)) in
      let last = each n (omega arith) in
      length-append (joined part n) (part n) ∙ ap₂ ◌+◌ before last ∙ sym (mul-suc k n)

-- one part more
pub joined_more : (part : ℕ → List ℕ) (n : ℕ) → joined part (n + 1) ≡ joined part n ++ part n
unfolding joined
joined_more part n = rw add-one refl

-- a space that is filled from its start, part by part: the next part is put behind the others
module _ (part : ℕ → List ℕ) (space : List ℕ) (at start size : ℕ) (long : length (joined part at) ≡ start) where
  pub part_put : put_mid start size (joined part at ++ drop start space) (part at)
      ≡ joined part (at + 1) ++ drop (start + size) space
  part_put =
      ap₂ (λ (x y : List ℕ). x ++ (part at ++ drop size y)) (take_at (joined part at) (drop start space) start long)
      (drop_at (joined part at) (drop start space) start long)
      ∙ ap (λ (x : List ℕ). joined part at ++ (part at ++ x)) (drop-drop size start space)
      ∙ sym (append_assoc (joined part at) (part at) (drop (start + size) space))
      ∙ ap (λ (x : List ℕ). x ++ drop (start + size) space) (sym (joined_more part at))

-- ---- the choice between two passes

-- a merged blockette is as long as one of them
pub merged_length :
    (first second : List ℕ) (first_mark second_mark place : ℕ)
    → length (blockette_at first place) ≡ 256
    → length (blockette_at second place) ≡ 256
    → length (merged_at first first_mark second second_mark place) ≡ 256
unfolding merged_at
merged_length first second first_mark second_mark place one two =
    pick_by (λ (x : List ℕ). length x ≡ 256) (takes_second first_mark second_mark) (λ other. two) (λ own. one)
