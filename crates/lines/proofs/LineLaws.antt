-- Laws of a line: the tests of six fields, and a result's fields, cut off one after the other.
-- Assumes nothing.
use mathlib.Core.Path.{◌≡◌, refl, ap, ◌∙◌}
use Prim.Native.Nat.{ℕ, suc}
use mathlib.Core.Bool.{Bool, true, ◌&&◌}
use mathlib.Core.List.{List}
use lib.ListN.{length}
use Rattle.common.proofs.PickLaws.{both_hold}
use Rattle.text.specs.Fields.{field_of, after, after_field, after_fields}
use Rattle.lines.specs.Line.{fields_line, result_line}

-- each of six tests holds where all six do
pub and_six : (a b c d e f : Bool) → (a && (b && (c && (d && (e && f))))) ≡ true
    → (a ≡ true) × (b ≡ true) × (c ≡ true) × (d ≡ true) × (e ≡ true) × (f ≡ true)
and_six a b c d e f h =
    let h1 = both_hold a _ h in
    let h2 = both_hold b _ h1.1 in
    let h3 = both_hold c _ h2.1 in
    let h4 = both_hold d _ h3.1 in
    let h5 = both_hold e f h4.1 in
    (h1.0, h2.0, h3.0, h4.0, h5.0, h5.1)

-- what comes after one field, and after one field more
pub after_is : (s f : List ℕ) {a : List ℕ} → f ≡ field_of s → a ≡ after s (length f) → a ≡ after_field s
unfolding after_field
after_is s f e d = d ∙ ap (λ (x : List ℕ). after s (length x)) e

pub start : (s : List ℕ) → s ≡ after_fields 0 s
unfolding after_fields
start s = refl

pub after_next : (k : ℕ) (s t f : List ℕ) {a : List ℕ}
    → t ≡ after_fields k s
    → f ≡ field_of t
    → a ≡ after t (length f)
    → a ≡ after_fields (suc k) s
unfolding after_fields
after_next k s t f so e d = after_is t f e d ∙ ap after_field so

-- a result's fields, cut off one after the other
pub result_cut : (s code s1 mark s2 late s3 image s4 marks space : List ℕ)
    → code ≡ field_of s
    → s1 ≡ after s (length code)
    → mark ≡ field_of s1
    → s2 ≡ after s1 (length mark)
    → late ≡ field_of s2
    → s3 ≡ after s2 (length late)
    → image ≡ field_of s3
    → s4 ≡ after s3 (length image)
    → marks ≡ field_of s4
    → space ≡ after s4 (length marks)
    → fields_line code mark late image marks space ≡ result_line s
unfolding result_line
result_cut s code s1 mark s2 late s3 image s4 marks space f1 d1 f2 d2 f3 d3 f4 d4 f5 d5 =
    let none : s ≡ after_fields 0 s = start s in
    let e1 : s1 ≡ after_fields 1 s = after_next 0 s s code none f1 d1 in
    let e2 : s2 ≡ after_fields 2 s = after_next 1 s s1 mark e1 f2 d2 in
    let e3 : s3 ≡ after_fields 3 s = after_next 2 s s2 late e2 f3 d3 in
    let e4 : s4 ≡ after_fields 4 s = after_next 3 s s3 image e3 f4 d4 in
    let e5 : space ≡ after_fields 5 s = after_next 4 s s4 marks e4 f5 d5 in
    rw (f1, f2, f3, f4, f5, e1, e2, e3, e4, e5)
