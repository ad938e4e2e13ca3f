-- Parts that are put one behind the other fill a space.
-- Assumes nothing.
use mathlib.Core.Path.{◌≡◌, refl, sym, ap, ap₂, ◌∙◌}
use Prim.Native.Nat.{ℕ, ◌+◌}
use native.Mathlib.Nat.{le_of_eq}
use mathlib.Core.List.{List, [], ◌++◌, append-nil, append_assoc}
use lib.ListN.{length, take, drop, length-append, drop_of_length-le}
use lib.Seq.{take_at, drop_at, drop-drop}
use Rattle.layout.specs.Writing.{placed}

-- what stands at the start of a space: a front of this length, and then the space as it was
pub record Front (space now front : List ℕ) (place : ℕ) : Type 0 where
  pub is : now ≡ front ++ drop place space
  pub long : length front ≡ place

-- nothing yet
pub nothing_put : (space : List ℕ) → Front space space [] 0
nothing_put space = record { is = refl; long = refl }

-- bytes put behind it
pub put_behind : (space now next front bytes put : List ℕ) (place n : ℕ) → Front space now front place
    → next ≡ placed put place now
    → put ≡ bytes
    → length bytes ≡ n
    → Front space next (front ++ bytes) (place + n)
unfolding placed
put_behind space now next front bytes put place n f e same many =
    let whole = front ++ drop place space in
    let behind : drop (place + n) whole ≡ drop (place + n) space =
    sym (drop-drop n place whole)
    ∙ ap (λ (x : List ℕ). drop n x) (drop_at front (drop place space) place f.long)
    ∙ drop-drop n place space in
    record {
      is =
          e
          ∙ ap₂ (λ (x y : List ℕ). placed x place y) same f.is
          ∙ ap (λ (k : ℕ). take place whole ++ (bytes ++ drop (place + k) whole)) many
          ∙ ap₂ (λ (x y : List ℕ). x ++ (bytes ++ y)) (take_at front (drop place space) place f.long) behind
          ∙ sym (append_assoc front bytes (drop (place + n) space));
      long = simp (length-append, f.long, many);
    }

-- a front that is as long as the space is all of it
pub all_put : (space now front : List ℕ) (place : ℕ) → Front space now front place → length space ≡ place → now ≡ front
all_put space now front place f long =
    f.is ∙ ap (λ (x : List ℕ). front ++ x) (drop_of_length-le space (le_of_eq long)) ∙ append-nil front
