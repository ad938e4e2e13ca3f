-- What the scan tells of an error says by its kind whether there is one: the kind is 0 exactly where the place is the
-- end.
-- Assumes nothing.
use mathlib.Core.Path.{◌≡◌, refl}
use Prim.Native.Nat.{ℕ, ◌-◌}
use mathlib.Core.Bool.{Bool, true, false, not}
use mathlib.Core.List.{List}
use lib.Dec.{leb, ltb, eqb}
use lib.ListN.{length}
use Rattle.common.specs.Pick.{pick}
use Rattle.common.proofs.PickLaws.{pick_by}
use Rattle.std.specs.Prelude.{Option, Some, None, is_some}
use Rattle.marks.specs.Scan.{Defect, scan_marks, kind_of, defect_at, is_found, findings_of, kind_number, told_defect}
use Rattle.marks.specs.declared.Kind.{Kind}
use Rattle.marks.specs.declared.Kind.TheVariants.{Data, Check}
use Rattle.marks.specs.declared.Defect.{Defect as Found}

-- every error has a kind
kind_there : (after : ℕ) → not (eqb (kind_of after) 0) ≡ true
unfolding kind_of
kind_there after = pick_by (λ (kind : ℕ). not (eqb kind 0) ≡ true) (leb 2 after) (λ of_data. refl) (λ of_check. refl)

-- one of two defects, of which the first is there and the second is none
told_by : (test : Bool) (some none : Defect) → is_found some ≡ true → is_found none ≡ false
    → is_found (pick test some none) ≡ test
unfolding pick
told_by true some none there absent = there
told_by false some none there absent = absent

module _ (marks : List ℕ) where
  pub found_below : (place : ℕ) → is_found (defect_at marks place) ≡ ltb place (length marks)
  unfolding is_found defect_at
  found_below place = told_by (ltb place (length marks)) _ _ (kind_there (length marks - 1 - place)) refl

  -- so where the scan stopped
  pub stop_found : is_found (findings_of marks).stop ≡ ltb (scan_marks marks).stop (length marks)
  unfolding findings_of
  stop_found = found_below (scan_marks marks).stop

kind_some : (kind : Kind) → not (eqb (kind_number kind) 0) ≡ true
kind_some Data = refl
kind_some Check = refl

-- an error that the program holds is one that is found
pub found_some : (defect : Option Found) → is_found (told_defect defect) ≡ is_some defect
unfolding is_found
found_some None = refl
found_some (Some d) = kind_some d.kind
