-- Blockettes with their two check blockettes behind them: those of a parity cancel out, so the others of its parity
-- give each of them.
-- Assumes nothing.
use mathlib.Core.Path.{◌≡◌, sym, ap, ◌∙◌}
use mathlib.Core.List.{List, ◌++◌, append_assoc}
use Prim.Native.Nat.{ℕ, zero, suc, ◌+◌, ◌-◌, ◌*◌, ◌/◌, ◌%◌, ◌≤◌, ◌<◌}
use native.Mathlib.Nat.{le_refl, le_of_eq}
use native.Mathlib.Omega.{arith}
use lib.ListN.{length, take, drop, get_or, replicate, length-append, length-take, length-drop, length-replicate}
use lib.Seq.{take_all, take-append-le, drop-append-le, drop_at, get_or-take, get_or-drop}
use Rattle.blockettes.specs.Xor.{◌⊕◌, xor_all}
use Rattle.blockettes.specs.Blockettes.{blockette_at, numbered, of_parity, fold_parity, check_of, others_of}
use Rattle.blockettes.proofs.XorLaws.{⊕-zeros, zeros-⊕, xor_all-length, xor_all_start, xor_all_first, xor_all_twice}
use Rattle.blockettes.proofs.XorLaws.{xor_all_same}
use Rattle.blockettes.proofs.Others.{others_by_check}

-- ---- one blockette

-- a blockette that is there has 256 bytes
pub blockette_length_lem : (bytes : List ℕ) (place : ℕ) → 256 * place + 256 ≤ length bytes
    → length (blockette_at bytes place) ≡ 256
unfolding blockette_at
blockette_length_lem bytes place h = simp (length-take, length-drop) (omega arith)

-- each byte of a string stands in its blockette
pub blockette_at_lem : (bytes : List ℕ) (i : ℕ) → get_or (blockette_at bytes (i / 256)) (i % 256) 0 ≡ get_or bytes i 0
unfolding blockette_at
blockette_at_lem bytes i =
    let place : 256 * (i / 256) + i % 256 ≡ i = omega arith in
    get_or-take 256 (drop (256 * (i / 256)) bytes) (i % 256) 0 (omega arith)
    ∙ get_or-drop (256 * (i / 256)) bytes (i % 256) 0
    ∙ ap (λ (k : ℕ). get_or bytes k 0) place

-- what is put behind a blockette does not change it
blockette_before : (a b : List ℕ) (place : ℕ) → 256 * place + 256 ≤ length a
    → blockette_at (a ++ b) place ≡ blockette_at a place
unfolding blockette_at
blockette_before a b place h =
    ap (take 256) (drop-append-le (256 * place) a b (omega arith))
    ∙ take-append-le 256 (drop (256 * place) a) b (simp length-drop (omega arith))

-- the last 256 bytes are a blockette
blockette_last : (a b : List ℕ) (place : ℕ) → length a ≡ 256 * place → length b ≡ 256 → blockette_at (a ++ b) place ≡ b
unfolding blockette_at
blockette_last a b place ha hb = ap (take 256) (drop_at a b (256 * place) ha) ∙ take_all 256 b (le_of_eq hb)

-- ---- the blockettes of a parity cancel out

-- a check blockette has 256 bytes
pub check_length : (bytes : List ℕ) (n parity : ℕ) → length (check_of bytes n parity) ≡ 256
unfolding check_of fold_parity
check_length bytes n parity = xor_all-length _ _ _ ∙ length-replicate {A = ℕ} 256 0

-- blockettes with their two check blockettes behind them
abbrev checked : List ℕ → ℕ → List ℕ
checked bytes n = bytes ++ (check_of bytes n 1 ++ check_of bytes n 0)

-- they are one more of each parity
parity_more : (n parity : ℕ) → parity < 2 → of_parity (n + 2) parity ≡ suc (of_parity n parity)
unfolding of_parity
parity_more n parity h = omega arith

module _ (bytes : List ℕ) (n : ℕ) (full : length bytes ≡ 256 * n) where
  -- how long they are
  checked_length : length (checked bytes n) ≡ 256 * (n + 2)
  checked_length = simp (length-append, check_length, full) (omega arith)

  -- a blockette of data
  checked_data : (place : ℕ) → place < n → blockette_at (checked bytes n) place ≡ blockette_at bytes place
  checked_data place h = blockette_before bytes (check_of bytes n 1 ++ check_of bytes n 0) place (omega arith)

  -- the check blockette of a parity
  checked_check : (parity : ℕ) → parity < 2 → blockette_at (checked bytes n) (n + 1 - parity) ≡ check_of bytes n parity
  checked_check zero h =
      let one = check_of bytes n 1 in
      let front : length (bytes ++ one) ≡ 256 * (n + 1 - 0) = simp (length-append, check_length, full) (omega arith) in
      ap (λ (l : List ℕ). blockette_at l (n + 1 - 0)) (sym (append_assoc bytes one (check_of bytes n 0)))
      ∙ blockette_last (bytes ++ one) (check_of bytes n 0) (n + 1 - 0) front (check_length bytes n 0)
  checked_check (suc zero) h =
      let one = check_of bytes n 1 in
      let here : 256 * (n + 1 - 1) + 256 ≤ length (bytes ++ one) = simp (length-append, check_length, full)
      (omega arith) in
      ap (λ (l : List ℕ). blockette_at l (n + 1 - 1)) (sym (append_assoc bytes one (check_of bytes n 0)))
      ∙ blockette_before (bytes ++ one) (check_of bytes n 0) (n + 1 - 1) here
      ∙ blockette_last bytes one (n + 1 - 1) (full ∙ omega arith) (check_length bytes n 1)
  checked_check (suc (suc parity)) h = absurd (omega arith)

  -- the first of a parity is its check blockette
  checked_first : (parity : ℕ) → parity < 2
      → numbered (checked bytes n) (n + 2) (2 * 0 + parity) ≡ check_of bytes n parity
  unfolding numbered
  checked_first parity h =
      let place : n + 2 - 1 - (2 * 0 + parity) ≡ n + 1 - parity = omega arith in
      ap (blockette_at (checked bytes n)) place ∙ checked_check parity h

  -- and the others are those of data
  checked_later : (parity : ℕ) → parity < 2 → (t : ℕ) → t < of_parity n parity
      → numbered (checked bytes n) (n + 2) (2 * suc t + parity) ≡ numbered bytes n (2 * t + parity)
  unfolding numbered of_parity
  checked_later parity h t below =
      let place : n + 2 - 1 - (2 * suc t + parity) ≡ n - 1 - (2 * t + parity) = omega arith in
      ap (blockette_at (checked bytes n)) place ∙ checked_data (n - 1 - (2 * t + parity)) (omega arith)

  -- all blockettes of a parity, check blockette included
  parity_cancels : (parity : ℕ) → parity < 2
      → fold_parity (replicate 256 0) (checked bytes n) (n + 2) parity ≡ replicate 256 0
  unfolding fold_parity check_of
  parity_cancels parity h =
      let count = of_parity n parity in
      let zeros : List ℕ = replicate 256 0 in
      let check = check_of bytes n parity in
      let all : ℕ → List ℕ = λ t. numbered (checked bytes n) (n + 2) (2 * t + parity) in
      let own : ℕ → List ℕ = λ t. numbered bytes n (2 * t + parity) in
      ap (xor_all zeros all) (parity_more n parity h) ∙ xor_all_first all zeros count
      ∙ ap (λ (x : List ℕ). xor_all (zeros ⊕ x) (λ t. all (suc t)) count) (checked_first parity h)
      ∙ xor_all_same (λ t. all (suc t)) own (zeros ⊕ check) count (checked_later parity h)
      ∙ xor_all_start own zeros check count
      ∙ xor_all_twice own zeros zeros count (le_refl 256) (⊕-zeros zeros 256)

  -- what restores a blockette is that blockette
  pub others_are_it : (place : ℕ) → place < n + 2
      → others_of (checked bytes n) (n + 2) place ≡ blockette_at (checked bytes n) place
  unfolding check_of
  others_are_it place h =
      let parity = (n + 2 - 1 - place) % 2 in
      let it = blockette_at (checked bytes n) place in
      let small : parity < 2 = omega arith in
      sym (others_by_check (checked bytes n) (n + 2) place h)
      ∙ ap (λ (x : List ℕ). x ⊕ it) (parity_cancels parity small)
      ∙ zeros-⊕ it 256 (blockette_length_lem (checked bytes n) place (omega (arith, checked_length)))
