-- A loop that writes a string `t` over the start of a space `s`, one element a turn: after i turns the space is `take i
-- t ++ drop i s`.
-- Assumes nothing.
use mathlib.Core.Path.{◌≡◌, sym, ◌∙◌}
use Prim.Native.Nat.{ℕ, suc, ◌+◌, ◌<◌}
use native.Mathlib.Nat.{le_of_lt}
use native.Mathlib.Numerals.{add-one}
use mathlib.Core.List.{List, ◌++◌}
use lib.ListN.{length, take, drop, set, get_or}
use lib.Seq.{take-suc, drop-cons, set_at, append_snoc, length-take-le, get_or_at}

module _ {A : Type 0} where
  -- one turn more, which writes the next element of `t`
  pub written_more : (s t : List A) (i : ℕ) (d v : A) → get_or t i d ≡ v → i < length t → i < length s
      → set (take i t ++ drop i s) i v ≡ take (i + 1) t ++ drop (i + 1) s
  written_more s t i d v e ht hs =
      rw (drop-cons s i d, ← e)
      (set_at (take i t) (get_or s i d) (drop (suc i) s) (get_or t i d) i (length-take-le i t (le_of_lt ht))
      ∙ sym (rw (add-one i, take-suc t i d) (append_snoc (take i t) (get_or t i d) (drop (suc i) s))))

  -- what is not written yet stands as it was
  pub written_next : (s t : List A) (i : ℕ) (d : A) → i < length t → i < length s
      → get_or (take i t ++ drop i s) i d ≡ get_or s i d
  written_next s t i d ht hs =
      rw (drop-cons s i d) (get_or_at (take i t) (get_or s i d) (drop (suc i) s) d i (length-take-le i t (le_of_lt ht)))
