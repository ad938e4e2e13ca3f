-- The scan of the marks blockette by blockette, as the papers word it, finds what the machine's finds, which goes by
-- places (`scan_said`).
-- Assumes nothing.
use mathlib.Core.Path.{◌≡◌, refl, sym, ap, ap₂, ◌∙◌}
use Prim.Native.Nat.{ℕ, suc, ◌+◌, ◌-◌, ◌%◌, ◌<◌}
use native.Mathlib.Omega.{arith}
use mathlib.Core.Bool.{Bool, true, false, not}
use mathlib.Core.List.{List, [], ◌∷◌}
use lib.Dec.{ltb, eqb}
use lib.ListN.{length, get_or, drop, length-drop}
use lib.Seq.{drop-cons}
use borrow.Author.Tests.{lt-ltb, le-ltb}
use Rattle.common.specs.Pick.{pick}
use Rattle.common.proofs.PickLaws.{pick_yes, pick_no}
use Rattle.marks.specs.Scan.{Defect}
use Rattle.marks.specs.Scan.{Findings}
use Rattle.marks.specs.declared.Scan.{Scan}
use Rattle.marks.specs.Marks.{is_error, torn_marks}
use Rattle.marks.specs.Scan.{scan_from, scan_marks, kind_of, number_of, defect_at, is_found, findings_of}
use Rattle.marks.proofs.FindingLaws.{found_below}
use Rattle.controller.specs.Shown.{Bad, none_bad, bad_with, Scanned, is_bad, scanned, first_torn}

-- two choices by one test, and by a test and its opposite
pub alike : {A B C : Type 0} (f : A → C) (g : B → C) (t : Bool) {x x' : A} {y y' : B} → (t ≡ true → f x ≡ g y)
    → (t ≡ false → f x' ≡ g y') → f (pick t x x') ≡ g (pick t y y')
unfolding pick
alike f g true first second = first refl
alike f g false first second = second refl

opposite : {A B C : Type 0} (f : A → C) (g : B → C) (t : Bool) {x x' : A} {y y' : B} → (t ≡ true → f x ≡ g y')
    → (t ≡ false → f x' ≡ g y) → f (pick t x x') ≡ g (pick (not t) y y')
unfolding pick
opposite f g true first second = first refl
opposite f g false first second = second refl

abbrev pub as_defect : Bad → Defect
as_defect bad = record { mark = bad.mark; kind = bad.kind; number = bad.number }

abbrev pub as_findings : Scanned → Findings
as_findings s =
    record {
      odd = as_defect s.odd;
      even = as_defect s.even;
      stop = as_defect s.stop;
      place = s.before;
    }

findings_of_lem : {o o' e e' s s' : Defect} {p p' : ℕ} → o ≡ o' → e ≡ e' → s ≡ s' → p ≡ p'
    → ◌≡◌ {A = Findings} (record { odd = o; even = e; stop = s; place = p })
    (record { odd = o'; even = e'; stop = s'; place = p' })
findings_of_lem one two three four = rw (one, two, three, four)

module _ (all : List ℕ) where
  abbrev placed : Scan → Findings
  placed r =
      record {
        odd = defect_at all r.odd;
        even = defect_at all r.even;
        stop = defect_at all r.stop;
        place = r.stop;
      }

  none_there : defect_at all (length all) ≡ as_defect none_bad
  unfolding defect_at
  none_there = pick_no _ _ (le-ltb (length all) (length all) (omega arith))

  -- an error that was found is the one at its place
  found_said : (bad : Bad) (place : ℕ) → as_defect bad ≡ defect_at all place → is_bad bad ≡ ltb place (length all)
  unfolding is_found
  found_said bad place same = ap is_found same ∙ found_below all place

  module _ (at mark : ℕ) (rest : List ℕ) (left : drop at all ≡ mark ∷ rest) (below : at < length all) where
    here : as_defect (bad_with mark (length rest)) ≡ defect_at all at
    unfolding bad_with defect_at kind_of number_of
    here =
        let many = simp length-drop at (ap length left) in
        let behind : length all - 1 - at ≡ length rest = omega arith in
        let this : get_or all at 0 ≡ mark = cc (drop-cons all at 0 below) in
        sym (pick_yes _ _ (lt-ltb at (length all) below)
        ∙ ap₂ (λ (m n : ℕ). record { mark = m; kind = kind_of n; number = number_of n }) this behind)

    next : drop (suc at) all ≡ rest
    next = cc (drop-cons all at 0 below)

  scan_from_lem :
      (rest : List ℕ) (at odd even : ℕ) (one two : Bad)
      → drop at all ≡ rest
      → at + length rest ≡ length all
      → as_defect one ≡ defect_at all odd
      → as_defect two ≡ defect_at all even
      → as_findings (scanned rest at one two) ≡ placed (scan_from rest at (length all) odd even)
  unfolding scanned scan_from is_error
  scan_from_lem [] at odd even one two left many o e =
      let end : at ≡ length all = omega arith in findings_of_lem o e (sym none_there) end
  scan_from_lem (mark ∷ rest) at odd even one two left many o e =
      let below : at < length all = omega arith in
      let this = here at mark rest left below in
      let onward = next at mark rest left below in
      let fewer : suc at + length rest ≡ length all = omega arith in
      opposite as_findings placed (eqb mark 15)
      (λ good. scan_from_lem rest (suc at) odd even one two onward fewer o e)
      (λ bad. alike as_findings placed (eqb (length rest % 2) 1)
      (λ odds. alike as_findings placed (is_bad one) (λ second. findings_of_lem o e this refl)
      (λ first. scan_from_lem rest (suc at) at even (bad_with mark (length rest)) two onward fewer this e)
      ∙ ap (λ (t : Bool). placed (pick t (record { odd = odd; even = even; stop = at })
      (scan_from rest (suc at) (length all) at even))) (found_said one odd o))
      (λ evens. alike as_findings placed (is_bad two) (λ second. findings_of_lem o e this refl)
      (λ first. scan_from_lem rest (suc at) odd at one (bad_with mark (length rest)) onward fewer o this)
      ∙ ap (λ (t : Bool). placed (pick t (record { odd = odd; even = even; stop = at })
      (scan_from rest (suc at) (length all) odd at))) (found_said two even e)))

pub scan_said : (marks : List ℕ) → as_findings (scanned marks 0 none_bad none_bad) ≡ findings_of marks
unfolding findings_of scan_marks
scan_said marks =
    scan_from_lem marks marks 0 (length marks) (length marks) none_bad none_bad refl (omega arith)
    (sym (none_there marks))
    (sym (none_there marks))

pub torn_said : (marks : List ℕ) → first_torn marks ≡ torn_marks marks
unfolding first_torn torn_marks
torn_said [] = refl
torn_said (mark ∷ marks) = refl
