-- `blockettes::xor_at` meets its contract: the part that is lent is the blockette, or what there is of it.
-- Assumes nothing.
use mathlib.Core.Path.{ap, ◌∙◌}
use Prim.Native.Nat.{ℕ, ◌*◌}
use mathlib.Core.List.{List}
use Rattle.common.proofs.Parts.{part_within}
use Rattle.blockettes.specs.Xor.{◌⊕◌}
use Rattle.blockettes.specs.Blockettes.{blockette_at}
use Rattle.blockettes.proofs.xor_at.Goals as goal

pub returns : goal.returns
unfolding blockette_at
returns c =
    let a = c.args in
    c.xor.ensures
    ∙ ap (λ (x : List ℕ). a.into.now ⊕ x)
    (part_within a.bytes.now (256 * a.place) 256 _ _ c.min-start.ensures c.min-end.ensures)
