-- Zeros after the bytes of a record change no check: a short blockette and one filled with zeros are alike under XOR.
-- Assumes nothing.
use mathlib.Core.Path.{◌≡◌, refl, ap, ◌∙◌}
use Prim.Native.Nat.{ℕ, zero, suc, ◌+◌, ◌-◌, ◌*◌}
use mathlib.Core.List.{List, [], ◌∷◌, ◌++◌}
use lib.Bits.{bit_xor}
use lib.ListN.{length, take, drop, replicate}
use lib.Seq.{drop-nil, take-nil}
use Rattle.common.specs.Space.{filled}
use Rattle.blockettes.specs.Xor.{◌⊕◌, xor_all}
use Rattle.blockettes.specs.Blockettes.{blockette_at, numbered, of_parity, fold_parity, check_of}
use Rattle.blockettes.proofs.XorLaws.{⊕-zeros}

⊕-padded : (a b : List ℕ) (m : ℕ) → a ⊕ (b ++ replicate m 0) ≡ a ⊕ b
unfolding ◌⊕◌
⊕-padded [] b m = refl
⊕-padded (x ∷ a) [] m = ⊕-zeros (x ∷ a) m
⊕-padded (x ∷ a) (y ∷ b) m = ap {B = List ℕ} (λ r. bit_xor x y ∷ r) (⊕-padded a b m)

drop_padded : (s : ℕ) (b : List ℕ) (m : ℕ) → (j : ℕ) × (drop s (b ++ replicate m 0) ≡ drop s b ++ replicate j 0)
drop_padded zero b m = (m, refl)
drop_padded (suc s) [] zero = (0, refl)
drop_padded (suc s) [] (suc m) =
    let r = drop_padded s [] m in
    (r.0, r.1 ∙ ap (λ (x : List ℕ). x ++ replicate r.0 0) (drop-nil s))
drop_padded (suc s) (x ∷ b) m = drop_padded s b m

take_padded : (k : ℕ) (b : List ℕ) (m : ℕ) → (j : ℕ) × (take k (b ++ replicate m 0) ≡ take k b ++ replicate j 0)
take_padded zero b m = (0, refl)
take_padded (suc k) [] zero = (0, refl)
take_padded (suc k) [] (suc m) =
    let r = take_padded k [] m in
    (suc r.0, ap {B = List ℕ} (λ l. 0 ∷ l) (r.1 ∙ ap (λ (x : List ℕ). x ++ replicate r.0 0) (take-nil k)))
take_padded (suc k) (x ∷ b) m =
    let r = take_padded k b m in
    (r.0, ap {B = List ℕ} (λ l. x ∷ l) r.1)

-- a blockette of bytes with zeros after them
blockette_padded : (a b : List ℕ) (m place : ℕ) → a ⊕ blockette_at (b ++ replicate m 0) place ≡ a ⊕ blockette_at b place
unfolding blockette_at
blockette_padded a b m place =
    let d = drop_padded (256 * place) b m in
    let t = take_padded 256 (drop (256 * place) b) d.0 in
    ap (λ (x : List ℕ). a ⊕ take 256 x) d.1 ∙ ap (λ (x : List ℕ). a ⊕ x) t.1
    ∙ ⊕-padded a (take 256 (drop (256 * place) b)) t.0

-- families that are alike under XOR
xor_all_alike : (f g : ℕ → List ℕ) → ((a : List ℕ) (t : ℕ) → a ⊕ f t ≡ a ⊕ g t) → (start : List ℕ) (count : ℕ)
    → xor_all start f count ≡ xor_all start g count
unfolding xor_all
xor_all_alike f g alike start zero = refl
xor_all_alike f g alike start (suc count) =
    ap (λ (x : List ℕ). x ⊕ f count) (xor_all_alike f g alike start count) ∙ alike (xor_all start g count) count

-- the check of the bytes filled with zeros is that of the bytes
pub check_filled : (bytes : List ℕ) (m n parity : ℕ) → check_of (filled bytes m) n parity ≡ check_of bytes n parity
unfolding check_of fold_parity numbered filled
check_filled bytes m n parity =
    xor_all_alike (λ t. blockette_at (bytes ++ replicate (m - length bytes) 0) (n - 1 - (2 * t + parity)))
    (λ t. blockette_at bytes (n - 1 - (2 * t + parity)))
    (λ a t. blockette_padded a bytes (m - length bytes) (n - 1 - (2 * t + parity)))
    (replicate 256 0) (of_parity n parity)
