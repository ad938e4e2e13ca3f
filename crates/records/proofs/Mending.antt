-- What mending the blockette at a place does to a string: its length stays, and each byte is that of the others or as
-- it was.
-- Assumes nothing.
use mathlib.Core.Path.{◌≡◌, ap, subst, ◌∙◌}
use mathlib.Core.List.{List, ◌++◌}
use Prim.Native.Nat.{ℕ, suc, ◌+◌, ◌-◌, ◌*◌, ◌/◌, ◌%◌, ◌≤◌, ◌<◌}
use native.Mathlib.Decide.{dec_le}
use native.Mathlib.Omega.{arith}
use lib.ListN.{length, take, drop, get_or, length-append, length-take, length-drop, get_or-append}
use lib.Seq.{take_all, get_or-take, get_or-drop, get_or-append-add, length-take-le}
use borrow.Author.Tests.{lt-ltb, le-ltb}
use Rattle.common.proofs.PickLaws.{pick_yes, pick_no}
use Rattle.blockettes.specs.Blockettes.{others_of}
use Rattle.blockettes.proofs.Others.{others_length}
use Rattle.records.specs.Restore.{written_at, mend_at}

-- behind the first n elements
get_d_behind : (a b : List ℕ) (n j : ℕ) → length a ≡ n → get_or (a ++ b) (n + j) 0 ≡ get_or b j 0
get_d_behind a b n j e = subst (λ (k : ℕ). get_or (a ++ b) (k + j) 0 ≡ get_or b j 0) e (get_or-append-add a b j 0)

-- ---- a string written over a part

module _ (bytes new : List ℕ) (start : ℕ) where
  -- the length stays
  pub written_length : start ≤ length bytes → length (written_at bytes start new) ≡ length bytes
  unfolding written_at
  written_length h = simp (length-append, length-take, length-drop) (omega arith)

  -- a byte before what is written, in it, and behind it
  written_before : (i : ℕ) → i < start → i < length bytes → get_or (written_at bytes start new) i 0 ≡ get_or bytes i 0
  unfolding written_at
  written_before i before inside =
      get_or-append (take start bytes) (take (length bytes - start) new ++ drop (start + length new) bytes) 0 i
      (simp length-take (omega arith))
      ∙ get_or-take start bytes i 0 before

  pub written_in : (j : ℕ) → j < length new → start + j < length bytes
      → get_or (written_at bytes start new) (start + j) 0 ≡ get_or new j 0
  unfolding written_at
  written_in j short inside =
      get_d_behind (take start bytes) (take (length bytes - start) new ++ drop (start + length new) bytes) start j
      (length-take-le start bytes (omega arith))
      ∙ get_or-append (take (length bytes - start) new) (drop (start + length new) bytes) 0 j
      (simp length-take (omega arith))
      ∙ get_or-take (length bytes - start) new j 0 (omega arith)

  written_behind : (i : ℕ) → start + length new ≤ i → i < length bytes
      → get_or (written_at bytes start new) i 0 ≡ get_or bytes i 0
  unfolding written_at
  written_behind i behind inside =
      let rest = drop (start + length new) bytes in
      let middle = take (length bytes - start) new in
      let j = i - (start + length new) in
      let there : i ≡ start + (length new + j) = omega arith in
      let here : start + length new + j ≡ i = omega arith in
      ap (λ (k : ℕ). get_or (take start bytes ++ (middle ++ rest)) k 0) there
      ∙ get_d_behind (take start bytes) (middle ++ rest) start (length new + j)
      (length-take-le start bytes (omega arith))
      ∙ ap (λ (l : List ℕ). get_or (l ++ rest) (length new + j) 0) (take_all (length bytes - start) new (omega arith))
      ∙ get_or-append-add new rest j 0
      ∙ get_or-drop (start + length new) bytes j 0
      ∙ ap (λ (k : ℕ). get_or bytes k 0) here

-- a byte outside the blockette at a place, where that one is written
pub written_elsewhere : (bytes new : List ℕ) (place : ℕ) → length new ≡ 256 → (i : ℕ) → i < length bytes
    → (i / 256 ≡ place → ⊥)
    → get_or (written_at bytes (256 * place) new) i 0 ≡ get_or bytes i 0
written_elsewhere bytes new place full i inside other =
    elim (dec_le (suc i) (256 * place)) [
      | yes before ↦ written_before bytes new (256 * place) i before inside
      | no past ↦ written_behind bytes new (256 * place) i (omega arith) inside
    ]

-- ---- a blockette mended

module _ (blockettes : List ℕ) (n place : ℕ) (bytes : List ℕ) where
  -- the length stays
  pub mended_length : 256 * n < length bytes + 256 → length (mend_at blockettes n place bytes) ≡ length bytes
  unfolding mend_at
  mended_length h =
      let others = others_of blockettes (n + 2) place in
      let new = written_at bytes (256 * place) others in
      elim (dec_le (suc place) n) [
        | yes inside ↦ ap length (pick_yes new bytes (lt-ltb place n inside))
            ∙ written_length bytes others (256 * place) (omega arith)
        | no past ↦ ap length (pick_no new bytes (le-ltb place n (omega arith)))
      ]

  -- a byte of the blockette that is mended
  pub mended_here : (i : ℕ) → i < length bytes → i / 256 ≡ place → place < n
      → get_or (mend_at blockettes n place bytes) i 0 ≡ get_or (others_of blockettes (n + 2) place) (i % 256) 0
  unfolding mend_at
  mended_here i inside here below =
      let others = others_of blockettes (n + 2) place in
      let new = written_at bytes (256 * place) others in
      let it : i ≡ 256 * place + i % 256 = omega arith in
      ap (λ (l : List ℕ). get_or l i 0) (pick_yes new bytes (lt-ltb place n below))
      ∙ ap (λ (k : ℕ). get_or new k 0) it
      ∙ written_in bytes others (256 * place) (i % 256) (omega (arith, others_length blockettes (n + 2) place))
      (omega arith)

  -- a byte of another
  pub mended_elsewhere : (i : ℕ) → i < length bytes → (i / 256 ≡ place → ⊥)
      → get_or (mend_at blockettes n place bytes) i 0 ≡ get_or bytes i 0
  unfolding mend_at
  mended_elsewhere i inside other =
      let others = others_of blockettes (n + 2) place in
      let new = written_at bytes (256 * place) others in
      elim (dec_le (suc place) n) [
        | yes below ↦
            ap (λ (l : List ℕ). get_or l i 0) (pick_yes new bytes (lt-ltb place n below))
            ∙ written_elsewhere bytes others place (others_length blockettes (n + 2) place) i inside other
        | no past ↦ ap (λ (l : List ℕ). get_or l i 0) (pick_no new bytes (le-ltb place n (omega arith)))
      ]
