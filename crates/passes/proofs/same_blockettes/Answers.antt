-- `passes::same_blockettes` meets its contract: its two parts have some bytes in common, and all together.
-- Assumes nothing.
use mathlib.Core.Path.{ap₂, ◌∙◌}
use mathlib.Core.Bool.{◌&&◌}
use native.Mathlib.Omega.{arith}
use lib.ListN.{length-take}
use Rattle.std.proofs.lemmas.List.{take_rest}
use Rattle.passes.specs.Passes.{same_bytes}
use Rattle.passes.proofs.PassLaws.{overlapping}
use Rattle.passes.proofs.same_blockettes.Goals as goal

pub same_bytes-front-requires : goal.same_bytes-front-requires
same_bytes-front-requires c = simp length-take (omega arith)

pub returns : goal.returns
returns c =
    let a = c.args.a.now in
    let b = c.args.b.now in
    ap₂ ◌&&◌ c.same_bytes-front.ensures
    (c.same_bytes-others.ensures ∙ ap₂ same_bytes (take_rest a 14) (take_rest b 14))
    ∙ overlapping 14 16 (omega arith) a b
