-- A blockette in two halves: a string takes of another what stands in its own length, so that each half is put together
-- by itself.
-- Assumes nothing.
use mathlib.Core.Path.{◌≡◌, refl, sym, ap, ◌∙◌}
use Prim.Native.Nat.{ℕ, zero, suc, ◌+◌, ◌*◌, ◌≤◌}
use native.Mathlib.Nat.{le_of_suc-le-suc, not-suc-le-zero}
use native.Mathlib.Omega.{arith}
use mathlib.Core.List.{List, [], ◌∷◌, ◌++◌}
use lib.Bits.{bit_xor}
use lib.ListN.{length, take, drop, replicate, length-replicate, replicate-append-replicate}
use lib.Seq.{drop-drop}
use Rattle.common.proofs.Parts.{part_of_front}
use Rattle.blockettes.specs.Xor.{◌⊕◌, xor_all}
use Rattle.blockettes.specs.Blockettes.{blockette_at, fold_upward}
use Rattle.blockettes.proofs.XorLaws.{⊕-nil}
use Rattle.blockettes.proofs.Several.{upward_length}

-- what lies behind a string's length does not count
⊕-front : (a b : List ℕ) (k : ℕ) → length a ≤ k → a ⊕ take k b ≡ a ⊕ b
unfolding ◌⊕◌
⊕-front [] b k h = refl
⊕-front (x ∷ a) b zero h = absurd (not-suc-le-zero h)
⊕-front (x ∷ a) [] (suc k) h = refl
⊕-front (x ∷ a) (y ∷ b) (suc k) h = ap {B = List ℕ} (λ r. bit_xor x y ∷ r) (⊕-front a b k (le_of_suc-le-suc h))

-- two strings one behind the other
⊕-append : (a b c : List ℕ) → (a ++ b) ⊕ c ≡ (a ⊕ c) ++ (b ⊕ drop (length a) c)
unfolding ◌⊕◌
⊕-append [] b c = refl
⊕-append (x ∷ a) b [] = ap {B = List ℕ} (λ r. x ∷ (a ++ r)) (sym (⊕-nil b))
⊕-append (x ∷ a) b (z ∷ c) = ap {B = List ℕ} (λ r. bit_xor x z ∷ r) (⊕-append a b c)

-- half a blockette with that of another
pub half_put : (a bytes : List ℕ) (place : ℕ) → length a ≡ 128
    → a ⊕ take 128 (drop (256 * place) bytes) ≡ a ⊕ blockette_at bytes place
unfolding blockette_at
half_put a bytes place long =
    let rest = drop (256 * place) bytes in
    ⊕-front a rest 128 (omega arith) ∙ sym (⊕-front a rest 256 (omega arith))

-- the other half is where the bytes are half a blockette shorter
other_half : (a bytes : List ℕ) (place : ℕ) → length a ≡ 128
    → a ⊕ drop 128 (blockette_at bytes place) ≡ a ⊕ blockette_at (drop 128 bytes) place
unfolding blockette_at
other_half a bytes place long =
    let rest = drop (256 * place) bytes in
    let from : 256 * place + 128 ≡ 128 + 256 * place = omega arith in
    sym (⊕-front a (drop 128 (take 256 rest)) 128 (omega arith))
    ∙ ap (λ (x : List ℕ). a ⊕ x)
    (part_of_front rest 128 128 256 (omega arith)
    ∙ ap (take 128)
    (drop-drop 128 (256 * place) bytes ∙ ap (λ (k : ℕ). drop k bytes) from
    ∙ sym (drop-drop (256 * place) 128 bytes)))
    ∙ half_put a (drop 128 bytes) place long

-- both halves of what is put together
in_halves : (a b bytes : List ℕ) (first count : ℕ) → length a ≡ 128 → length b ≡ 128
    → fold_upward a bytes first count ++ fold_upward b (drop 128 bytes) first count
    ≡ fold_upward (a ++ b) bytes first count
unfolding fold_upward xor_all
in_halves a b bytes first zero one two = refl
in_halves a b bytes first (suc count) one two =
    let left = fold_upward a bytes first count in
    let right = fold_upward b (drop 128 bytes) first count in
    let next = blockette_at bytes (first + 2 * count) in
    let left_long : length left ≡ 128 = upward_length a bytes first count ∙ one in
    let right_long : length right ≡ 128 = upward_length b (drop 128 bytes) first count ∙ two in
    ap (λ (x : List ℕ). (left ⊕ next) ++ x)
    (sym (other_half right bytes (first + 2 * count) right_long) ∙ ap (λ (k : ℕ). right ⊕ drop k next) (sym left_long))
    ∙ sym (⊕-append left right next)
    ∙ ap (λ (x : List ℕ). x ⊕ next) (in_halves a b bytes first count one two)

-- from zeros
pub halves : (bytes : List ℕ) (first count : ℕ)
    → fold_upward (replicate 128 0) bytes first count ++ fold_upward (replicate 128 0) (drop 128 bytes) first count
    ≡ fold_upward (replicate 256 0) bytes first count
halves bytes first count =
    in_halves (replicate 128 0) (replicate 128 0) bytes first count (length-replicate {A = ℕ} 128 0)
    (length-replicate {A = ℕ} 128 0)
    ∙ ap (λ (x : List ℕ). fold_upward x bytes first count) (replicate-append-replicate 128 128 0)

-- no blockette puts nothing in
pub none : (start a b : List ℕ) (first count : ℕ) → count ≡ 0
    → fold_upward start a first count ≡ fold_upward start b first count
unfolding fold_upward xor_all
none start a b first count e = rw e refl
