-- Parts of a slice: one that ends with the slice at the latest, and one that is written.
-- Assumes nothing.
use mathlib.Core.Path.{◌≡◌, ap, ap₂, ◌∙◌}
use Prim.Native.Nat.{ℕ, ◌+◌, ◌-◌, ◌≤◌, min}
use native.Mathlib.Omega.{arith}
use mathlib.Core.List.{List, ◌++◌}
use lib.ListN.{length, take, drop, length-drop}
use lib.Seq.{take-take, drop-drop}
use borrow.Rule.Slice.PartMut.{put_mid}
use Rattle.std.proofs.lemmas.List.{take_min, drop_min, drop-take}

module _ {A : Type 0} where
  -- k elements from a start, or as many as there are
  pub part_min : (l : List A) (start k end : ℕ) → end ≡ min (length l) (start + k) → start ≤ length l
      → take (end - start) (drop start l) ≡ take k (drop start l)
  part_min l start k end e h =
      let size : end - start ≡ min k (length (drop start l)) = simp length-drop (omega arith) in
      ap (λ (n : ℕ). take n (drop start l)) size ∙ take_min k (drop start l)

  -- the same where the start may lie past the end too
  pub part_within : (l : List A) (start k from end : ℕ) → from ≡ min (length l) start → end ≡ min (length l) (from + k)
      → take (end - from) (drop from l) ≡ take k (drop start l)
  part_within l start k from end f e =
      let here : from ≡ min start (length l) = omega arith in
      part_min l from k end e (omega arith) ∙ ap (λ (n : ℕ). take k (drop n l)) here ∙ ap (take k) (drop_min start l)

  -- a part of a front part
  pub part_of_front : (l : List A) (start k n : ℕ) → start + k ≤ n
      → take k (drop start (take n l)) ≡ take k (drop start l)
  part_of_front l start k n h =
      let whole : n ≡ start + (n - start) = omega arith in
      ap (λ (m : ℕ). take k (drop start (take m l))) whole ∙ ap (take k) (drop-take start (n - start) l)
      ∙ take-take k (n - start) (drop start l) (omega arith)

  -- a string written over a part from a start, as far as the list goes
  module _ (l new : List A) (start end : ℕ) (e : end ≡ min (length l) (start + length new)) (h : start ≤ length l) where
    pub part_written : put_mid start (end - start) l (take (end - start) new)
        ≡ take start l ++ (take (length l - start) new ++ drop (start + length new) l)
    part_written =
        let size : end - start ≡ min (length l - start) (length new) = omega arith in
        let behind : start + (end - start) ≡ min (start + length new) (length l) = omega arith in
        ap (λ (x : List A). take start l ++ x)
        (ap₂ ◌++◌ (ap (λ (n : ℕ). take n new) size ∙ take_min (length l - start) new)
        (drop-drop (end - start) start l ∙ ap (λ (n : ℕ). drop n l) behind ∙ drop_min (start + length new) l))
