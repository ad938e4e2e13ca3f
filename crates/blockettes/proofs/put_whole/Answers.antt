-- `blockettes::put_whole` meets its contract: the space is filled in two halves.
-- Assumes nothing.
use mathlib.Core.Path.{◌≡◌, ap, ap₂, ◌∙◌}
use mathlib.Core.List.{List, ◌++◌}
use Prim.Native.Nat.{ℕ, ◌-◌, min}
use native.Mathlib.Omega.{arith}
use lib.ListN.{length, take, drop}
use Rattle.std.proofs.lemmas.List.{take_rest, drop_min}
use Rattle.blockettes.specs.Blockettes.{half_of}
use Rattle.blockettes.proofs.Halves.{halves}
use Rattle.blockettes.proofs.put_whole.Goals as goal

-- what there is behind the first half
behind_half : (bytes : List ℕ) (start : ℕ) → start ≡ min (length bytes) 128
    → take (length bytes - start) (drop start bytes) ≡ drop 128 bytes
behind_half bytes start e =
    let here : start ≡ min 128 (length bytes) = omega arith in
    take_rest bytes start ∙ ap (λ (k : ℕ). drop k bytes) here ∙ drop_min 128 bytes

pub returns : goal.returns
returns c =
    let bytes = c.args.bytes.now in
    let first = c.args.first in
    let count = c.args.count in
    ap₂ ◌++◌ c.put_half.ensures
    (c.put_half-2.ensures ∙ ap (λ (x : List ℕ). half_of x first count) (behind_half bytes _ (omega arith)))
    ∙ halves bytes first count
