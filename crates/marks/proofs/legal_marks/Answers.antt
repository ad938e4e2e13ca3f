-- `marks::legal_marks` meets its contract: what one mark after the other gives is the test of all.
-- Assumes nothing.
use Rattle.std.proofs.Common.{rules, tests, ◌&&◌, true}
use Rattle.std.proofs.lemmas.Iterator.{YieldsList-from_slice}
use Rattle.std.proofs.lemmas.Iterator.Consumers.{fold_from_yields_List}
use Rattle.marks.specs.Marks.{legal_mark}
use Rattle.marks.proofs.LegalLaws.{legal_folded}
use Rattle.marks.proofs.legal_marks.Goals as goal

pub returns : goal.returns
returns c =
    let marks = c.args.marks.now in
    legal_folded marks c.fold.result
    (fold_from_yields_List _ (λ legal mark. legal && legal_mark mark) true _ c.fold.ensures.ran
    (YieldsList-from_slice marks (cc))
    (λ legal mark so_far q called. search (rules, tests)))
