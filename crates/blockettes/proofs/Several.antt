-- Several strings put in at once: as many as one likes, it is what putting them in one after the other gives, in either
-- order.
-- Assumes nothing.
use mathlib.Core.Path.{◌≡◌, refl, ap, ap₂, ◌∙◌}
use Prim.Native.Nat.{ℕ, zero, suc, ◌+◌, ◌-◌, ◌*◌, ◌/◌, ◌%◌, ◌≤◌}
use native.Mathlib.Numerals.{unary_clauses}
use native.Mathlib.Omega.{arith}
use mathlib.Core.List.{List}
use lib.ListN.{length}
use Rattle.blockettes.specs.Xor.{◌⊕◌, xor_all}
use Rattle.blockettes.specs.Blockettes.{blockette_at, numbered, of_parity, fold_parity, fold_upward}
use Rattle.blockettes.proofs.XorLaws.{xor_all-length, xor_all_start, xor_all_first, xor_all_same}

-- `count` strings put in after `before` of them
pub several_more : (start : List ℕ) (family : ℕ → List ℕ) (before count : ℕ)
    → xor_all (xor_all start family before) (λ t. family (before + t)) count ≡ xor_all start family (before + count)
unfolding xor_all
several_more start family before zero = simp unary_clauses refl
several_more start family before (suc count) =
    simp unary_clauses (ap (λ (x : List ℕ). x ⊕ family (before + count)) (several_more start family before count))

-- the last of them first
pub several_backward : (start : List ℕ) (family : ℕ → List ℕ) (count : ℕ)
    → xor_all start (λ t. family (count - 1 - t)) count ≡ xor_all start family count
unfolding xor_all
several_backward start family zero = refl
several_backward start family (suc count) =
    let backward : ℕ → List ℕ = λ t. family (suc count - 1 - t) in
    xor_all_first backward start count ∙ xor_all_start (λ t. backward (suc t)) start (backward 0) count
    ∙ ap₂ ◌⊕◌
    (xor_all_same (λ t. backward (suc t)) (λ t. family (count - 1 - t)) start count (λ t below. ap family (omega arith))
    ∙ several_backward start family count)
    (ap family (omega arith))

-- ---- blockettes

pub upward_length : (start bytes : List ℕ) (first count : ℕ)
    → length (fold_upward start bytes first count) ≡ length start
unfolding fold_upward
upward_length start bytes first count = xor_all-length _ _ _

-- `count` blockettes after `before` of them
pub upward_more : (start bytes : List ℕ) (first before count : ℕ)
    → fold_upward (fold_upward start bytes first before) bytes (first + 2 * before) count
    ≡ fold_upward start bytes first (before + count)
unfolding fold_upward
upward_more start bytes first before count =
    let family : ℕ → List ℕ = λ t. blockette_at bytes (first + 2 * t) in
    xor_all_same (λ t. blockette_at bytes (first + 2 * before + 2 * t)) (λ t. family (before + t))
    (xor_all start family before) count
    (λ t below. ap (blockette_at bytes) (omega arith))
    ∙ several_more start family before count

-- one blockette more, at turn t of those from turn `done` on
pub upward_turn : (start bytes into next : List ℕ) (first done t : ℕ) → done ≤ t
    → into ≡ fold_upward start bytes (first + 2 * done) (t - done)
    → next ≡ into ⊕ blockette_at bytes (first + 2 * t)
    → next ≡ fold_upward start bytes (first + 2 * done) (t + 1 - done)
unfolding fold_upward xor_all
upward_turn start bytes into next first done t h was now =
    let at : first + 2 * t ≡ first + 2 * done + 2 * (t - done) = omega arith in
    let more : t + 1 - done ≡ suc (t - done) = omega arith in
    rw more (now ∙ ap₂ (λ (x : List ℕ) (k : ℕ). x ⊕ blockette_at bytes k) was at)

-- all of them: those of the steps, and then the others
pub upward_all : (start bytes into rest : List ℕ) (first done t : ℕ) → done ≤ t
    → into ≡ fold_upward start bytes first done
    → rest ≡ fold_upward into bytes (first + 2 * done) (t - done) → rest ≡ fold_upward start bytes first t
upward_all start bytes into rest first done t h steps others =
    let all : done + (t - done) ≡ t = omega arith in
    others ∙ ap (λ (x : List ℕ). fold_upward x bytes (first + 2 * done) (t - done)) steps
    ∙ upward_more start bytes first done (t - done)
    ∙ ap (fold_upward start bytes first) all

-- all of a parity upward
pub upward_is_parity : (start bytes : List ℕ) (n parity : ℕ) → parity ≤ 1
    → fold_upward start bytes ((n + 1 - parity) % 2) (of_parity n parity) ≡ fold_parity start bytes n parity
unfolding fold_upward fold_parity numbered of_parity
upward_is_parity start bytes n parity h =
    let count = (n + 1 - parity) / 2 in
    let family : ℕ → List ℕ = λ t. blockette_at bytes (n - 1 - (2 * t + parity)) in
    xor_all_same (λ t. blockette_at bytes ((n + 1 - parity) % 2 + 2 * t)) (λ t. family (count - 1 - t)) start count
    (λ t below. ap (blockette_at bytes) (omega arith))
    ∙ several_backward start family count
