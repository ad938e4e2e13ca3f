-- `passes::same_bytes` meets its contract: what one pair after the other gives is the test of all.
-- Assumes nothing.
use Rattle.std.proofs.Common.{rules, tests, true}
use Rattle.std.proofs.lemmas.Iterator.{YieldsList-from_slice, YieldsList-from_zip}
use Rattle.std.proofs.lemmas.Iterator.Consumers.{fold_from_yields_List}
use Rattle.passes.proofs.PassLaws.{same_folded, so_far}
use Rattle.passes.proofs.same_bytes.Goals as goal

pub returns : goal.returns
returns c =
    let a = c.args.a.now in
    let b = c.args.b.now in
    same_folded a b c.requires c.fold.result
    (fold_from_yields_List _ so_far true _ c.fold.ensures.ran
    (YieldsList-from_zip (YieldsList-from_slice a (cc)) (YieldsList-from_slice b (cc)))
    (λ same pair next q called. search (rules, tests)))
