-- Every store, by its numbers: a claim of what each asks for, from the claim of each operation, first and last operand
-- byte that the papers list, and
-- of the rest (`by_asked`).
-- Assumes nothing.
use mathlib.Core.Path.{◌≡◌, sym, subst}
use Prim.Native.Nat.{ℕ, ◌≤◌, ◌<◌}
use mathlib.Core.Bool.{true, false}
use lib.Dec.{leb, eqb}
use borrow.Author.Tests.{eqb-true, leb-true, leb-false}
use Rattle.common.proofs.PickLaws.{pick_by}
use Rattle.operations.specs.declared.operation.Operation.TheVariants.{Read, CheckBytes, SuppliedCount, Write, Erase}
use Rattle.operations.specs.declared.operation.Operation.TheVariants.{Rewind, FastForward, SkipForward, SkipReverse}
use Rattle.operations.specs.declared.operation.Operation.TheVariants.{SearchForward, SearchReverse, WriteMark}
use Rattle.operations.specs.declared.decode.Decoded.{Decoded}
use Rattle.operations.specs.declared.decode.Decoded.TheVariants.{Reset, Code, Track, Enable, Guard, Density, Operate}
use Rattle.operations.specs.Decode.{control_of, read_of, decode_of}

-- by operation, first and last operand byte
pub record Asks (P : ℕ → ℕ → ℕ → Decoded → Type 0) : Type 0 where
  pub resets : (f l : ℕ) → P 0 f l Reset
  pub track : (f l : ℕ) → l ≤ 3 → P 3 f l (Track l)
  pub no_track : (f l : ℕ) → 3 < l → l ≤ 7 → P 3 f l (Code 3)
  pub disables : (f : ℕ) → P 3 f 0x08 (Enable false)
  pub enables : (f : ℕ) → P 3 f 0x09 (Enable true)
  pub unguards : (f : ℕ) → P 3 f 0x0A (Guard false)
  pub guards : (f : ℕ) → P 3 f 0x0B (Guard true)
  pub mfm : (f : ℕ) → P 3 f 0x0C (Density 0)
  pub gcr : (f : ℕ) → P 3 f 0x0D (Density 1)
  pub rewind : (f : ℕ) → P 3 f 0x10 (Operate Rewind)
  pub fast_forward : (f : ℕ) → P 3 f 0x11 (Operate FastForward)
  pub skip_forward : (f : ℕ) → P 3 f 0x20 (Operate SkipForward)
  pub skip_reverse : (f : ℕ) → P 3 f 0x21 (Operate SkipReverse)
  pub search_forward : (f : ℕ) → P 3 f 0x22 (Operate SearchForward)
  pub search_reverse : (f : ℕ) → P 3 f 0x23 (Operate SearchReverse)
  pub write_mark : (f : ℕ) → P 3 f 0x24 (Operate WriteMark)
  pub no_control : (f l : ℕ) → 7 < l → eqb l 0x0A ≡ false → eqb l 0x0B ≡ false → eqb l 0x0C ≡ false → eqb l 0x0D ≡ false
      → P 3 f l (Code 2)
  pub read : (l : ℕ) → P 4 0x00 l (Operate Read)
  pub check_bytes : (l : ℕ) → P 4 0x40 l (Operate CheckBytes)
  pub supplied_count : (l : ℕ) → P 4 0x80 l (Operate SuppliedCount)
  pub no_read : (f l : ℕ) → P 4 f l (Code 2)
  pub write : (f l : ℕ) → P 5 f l (Operate Write)
  pub erase : (f l : ℕ) → P 6 f l (Operate Erase)
  pub none : (operation f l : ℕ) → eqb operation 0 ≡ false → eqb operation 3 ≡ false → P operation f l (Code 2)

module _ (P : ℕ → ℕ → ℕ → Decoded → Type 0) (asks : Asks P) where
  by_control : (f l : ℕ) → P 3 f l (control_of l)
  unfolding control_of
  by_control f l =
      pick_by (P 3 f l) (leb l 0x03) (λ e. asks.track f l (leb-true l 3 e)) (λ past.
      pick_by (P 3 f l) (leb l 0x07) (λ e. asks.no_track f l (leb-false l 3 past) (leb-true l 7 e)) (λ high.
      pick_by (P 3 f l) (eqb l 0x08) (is 0x08 (Enable false) (asks.disables f)) (λ n.
      pick_by (P 3 f l) (eqb l 0x09) (is 0x09 (Enable true) (asks.enables f)) (λ n.
      pick_by (P 3 f l) (eqb l 0x0A) (is 0x0A (Guard false) (asks.unguards f)) (λ no_a.
      pick_by (P 3 f l) (eqb l 0x0B) (is 0x0B (Guard true) (asks.guards f)) (λ no_b.
      pick_by (P 3 f l) (eqb l 0x0C) (is 0x0C (Density 0) (asks.mfm f)) (λ no_c.
      pick_by (P 3 f l) (eqb l 0x0D) (is 0x0D (Density 1) (asks.gcr f)) (λ no_d.
      pick_by (P 3 f l) (eqb l 0x10) (is 0x10 (Operate Rewind) (asks.rewind f)) (λ n.
      pick_by (P 3 f l) (eqb l 0x11) (is 0x11 (Operate FastForward) (asks.fast_forward f)) (λ n.
      pick_by (P 3 f l) (eqb l 0x20) (is 0x20 (Operate SkipForward) (asks.skip_forward f)) (λ n.
      pick_by (P 3 f l) (eqb l 0x21) (is 0x21 (Operate SkipReverse) (asks.skip_reverse f)) (λ n.
      pick_by (P 3 f l) (eqb l 0x22) (is 0x22 (Operate SearchForward) (asks.search_forward f)) (λ n.
      pick_by (P 3 f l) (eqb l 0x23) (is 0x23 (Operate SearchReverse) (asks.search_reverse f)) (λ n.
      pick_by (P 3 f l) (eqb l 0x24) (is 0x24 (Operate WriteMark) (asks.write_mark f)) (λ n.
      asks.no_control f l (leb-false l 7 high) no_a no_b no_c no_d)))))))))))))))
    where
      is : (v : ℕ) (x : Decoded) → P 3 f v x → eqb l v ≡ true → P 3 f l x
      is v x shown e = subst (λ (n : ℕ). P 3 f n x) (sym (eqb-true l v e)) shown

  by_read : (f l : ℕ) → P 4 f l (read_of f)
  unfolding read_of
  by_read f l =
      pick_by (P 4 f l) (eqb f 0x00) (is 0x00 (Operate Read) (asks.read l)) (λ n.
      pick_by (P 4 f l) (eqb f 0x40) (is 0x40 (Operate CheckBytes) (asks.check_bytes l)) (λ n.
      pick_by (P 4 f l) (eqb f 0x80) (is 0x80 (Operate SuppliedCount) (asks.supplied_count l)) (λ n. asks.no_read f l)))
    where
      is : (v : ℕ) (x : Decoded) → P 4 v l x → eqb f v ≡ true → P 4 f l x
      is v x shown e = subst (λ (n : ℕ). P 4 n l x) (sym (eqb-true f v e)) shown

  pub by_asked : (operation f l : ℕ) → P operation f l (decode_of operation f l)
  unfolding decode_of
  by_asked operation f l =
      pick_by (P operation f l) (eqb operation 0) (is 0 Reset (asks.resets f l)) (λ no_0.
      pick_by (P operation f l) (eqb operation 3) (is 3 (control_of l) (by_control f l)) (λ no_3.
      pick_by (P operation f l) (eqb operation 4) (is 4 (read_of f) (by_read f l)) (λ n.
      pick_by (P operation f l) (eqb operation 5) (is 5 (Operate Write) (asks.write f l)) (λ n.
      pick_by (P operation f l) (eqb operation 6) (is 6 (Operate Erase) (asks.erase f l)) (λ n.
      asks.none operation f l no_0 no_3)))))
    where
      is : (v : ℕ) (x : Decoded) → P v f l x → eqb operation v ≡ true → P operation f l x
      is v x shown e = subst (λ (n : ℕ). P n f l x) (sym (eqb-true operation v e)) shown
