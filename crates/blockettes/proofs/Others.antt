-- The others of a blockette's parity: their XOR is that of all of them with the one put in once more, and depends on
-- nothing else.
-- Assumes nothing.
use mathlib.Core.Path.{◌≡◌, sym, ap, ◌∙◌}
use Prim.Native.Nat.{ℕ, ◌+◌, ◌-◌, ◌*◌, ◌/◌, ◌%◌, ◌≤◌, ◌<◌}
use native.Mathlib.Omega.{arith}
use mathlib.Core.List.{List, []}
use lib.Dec.{eqb}
use lib.ListN.{length, take, replicate, length-replicate}
use lib.Seq.{take_all}
use borrow.Author.Tests.{eqb-false}
use Rattle.std.proofs.lemmas.List.{take-replicate}
use Rattle.common.specs.Pick.{pick}
use Rattle.common.proofs.PickLaws.{pick_same}
use Rattle.blockettes.specs.Xor.{◌⊕◌, xor_all}
use Rattle.blockettes.specs.Blockettes.{blockette_at, numbered, of_parity, fold_parity, check_of, others_of}
use Rattle.blockettes.proofs.XorLaws.{⊕-twice, xor_all-length, xor_all-take, xor_all_same, xor_all_without, without}

-- a place's turn among the blockettes of its parity
turn_below : (n place : ℕ) → place < n → (n - 1 - place) / 2 < (n + 1 - (n - 1 - place) % 2) / 2
turn_below n place h = omega arith

turn_place : (n place : ℕ) → place < n → n - 1 - (2 * ((n - 1 - place) / 2) + (n - 1 - place) % 2) ≡ place
turn_place n place h = omega arith

-- all of a parity and one of them once more, of the first k bytes
pub others_by_all : (bytes : List ℕ) (n place k : ℕ) → place < n → k ≤ 256
    → fold_parity (replicate k 0) bytes n ((n - 1 - place) % 2) ⊕ blockette_at bytes place
    ≡ take k (others_of bytes n place)
unfolding fold_parity others_of numbered of_parity
others_by_all bytes n place k below short =
    let parity = (n - 1 - place) % 2 in
    let turn = (n - 1 - place) / 2 in
    let count = (n + 1 - parity) / 2 in
    let family : ℕ → List ℕ = λ t. blockette_at bytes (n - 1 - (2 * t + parity)) in
    let zeros : List ℕ = replicate k 0 in
    let it : family turn ≡ blockette_at bytes place = ap (blockette_at bytes) (turn_place n place below) in
    ap (λ (x : List ℕ). xor_all zeros family count ⊕ x) (sym it)
    ∙ ap (λ (x : List ℕ). x ⊕ family turn) (xor_all_without turn family zeros count (turn_below n place below))
    ∙ ⊕-twice (xor_all zeros (without turn family) count) (family turn)
    ∙ ap (λ (x : List ℕ). xor_all x (without turn family) count) (sym (take-replicate k 256 0 short))
    ∙ sym (xor_all-take (without turn family) k (replicate 256 0) count)

pub others_length : (bytes : List ℕ) (n place : ℕ) → length (others_of bytes n place) ≡ 256
unfolding others_of
others_length bytes n place = xor_all-length _ _ _ ∙ length-replicate {A = ℕ} 256 0

-- all of a parity and one of them once more, of all 256 bytes
pub others_by_check : (bytes : List ℕ) (n place : ℕ) → place < n
    → check_of bytes n ((n - 1 - place) % 2) ⊕ blockette_at bytes place ≡ others_of bytes n place
unfolding check_of
others_by_check bytes n place below =
    others_by_all bytes n place 256 below (omega arith)
    ∙ take_all 256 (others_of bytes n place) (omega (arith, others_length bytes n place))

-- blockettes of which all others of the parity of one are the same restore the same
pub others_same : (a b : List ℕ) (n place : ℕ) → place < n
    → ((k : ℕ) → k < n → (n - 1 - k) % 2 ≡ (n - 1 - place) % 2 → (k ≡ place → ⊥) → blockette_at a k ≡ blockette_at b k)
    → others_of a n place ≡ others_of b n place
unfolding others_of numbered of_parity
others_same a b n place h same =
    let parity = (n - 1 - place) % 2 in
    let turn = (n - 1 - place) / 2 in
    xor_all_same
    (λ t. pick (eqb t turn) [] (numbered a n (2 * t + parity)))
    (λ t. pick (eqb t turn) [] (numbered b n (2 * t + parity)))
    (replicate 256 0)
    (of_parity n parity)
    (λ t below.
    pick_same (eqb t turn) [] (numbered a n (2 * t + parity)) (numbered b n (2 * t + parity))
    (λ other. let no_turn = eqb-false t turn other in same (n - 1 - (2 * t + parity)) (omega arith) (omega arith)
    (λ it. no_turn (omega arith))))
