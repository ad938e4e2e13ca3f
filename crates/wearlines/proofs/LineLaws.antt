-- Laws of a record's line: its fields, cut off one after the other.
-- Assumes nothing.
use mathlib.Core.Path.{◌≡◌, ap, ◌∙◌}
use Prim.Native.Nat.{ℕ, ◌≤◌}
use mathlib.Core.List.{List}
use lib.ListN.{length}
use Rattle.text.specs.Fields.{part_of, part_end, after}
use Rattle.text.proofs.FieldLaws.{part_within}
use Rattle.text.specs.Characters.{colon}
use Rattle.wearlines.specs.Line.{fields_line, after_colon, record_line}

-- a part is no longer than what it stands in
pub part_fits : (s : List ℕ) {f : List ℕ} → f ≡ part_of colon s → length f ≤ length s
part_fits s e = rw e (part_within colon s)

pub record_cut : (s code rest motion count : List ℕ)
    → code ≡ part_of colon s
    → rest ≡ after s (length code)
    → motion ≡ part_of colon rest
    → count ≡ after rest (length motion)
    → fields_line code motion count ≡ record_line s
unfolding record_line after_colon
record_cut s code rest motion count f1 d1 f2 d2 =
    let e1 : rest ≡ after s (part_end colon s) = d1 ∙ ap (λ (x : List ℕ). after s (length x)) f1 in
    let e2 : count ≡ after rest (part_end colon rest) = d2 ∙ ap (λ (x : List ℕ). after rest (length x)) f2 in
    rw (f1, f2, e2, e1)
