-- The scan of the marks (document 01, Records). A place counts in tape order from 0; the end is the number of marks and
-- stands for "none". Behind a place stand `after` others: data blockettes are numbered n-1 down to 0 and the check
-- blockettes 1 and 0 follow them, so `after` has the parity of the number, is the number of a check blockette, and is 2
-- above that of data.
-- Assumes nothing.
use Rattle.std.specs.Prelude.{ℕ, suc, ◌-◌, ◌%◌, Bool, not, ◌&&◌, List, [], ◌∷◌, Option, Some, None, leb, ltb, eqb}
use Rattle.std.specs.Prelude.{length}
use Rattle.std.specs.Prelude.{get_or}
use Rattle.common.specs.Pick.{pick}
use Rattle.marks.specs.Marks.{is_error, torn_marks}
use Rattle.marks.specs.declared.Scan.{Scan}
use Rattle.marks.specs.declared.Kind.{Kind}
use Rattle.marks.specs.declared.Kind.TheVariants.{Data, Check}
use Rattle.marks.specs.declared.Defect.{Defect as Found}
use Rattle.marks.specs.declared.Findings.{Findings as Finds}

-- "the scan stops at the first blockette that is the second bad one of its parity"; "An error's parity is its number's,
-- check blockettes included." The marks that are left, the place of the first of them, the end, and the first odd and
-- the first even error so far.
unfoldable pub scan_from : List ℕ → ℕ → ℕ → ℕ → ℕ → Scan
scan_from [] at end odd even = record { odd = odd; even = even; stop = end }
scan_from (mark ∷ marks) at end odd even =
    pick (is_error mark)
    (pick (eqb (length marks % 2) 1)
    (pick (ltb odd end) (record { odd = odd; even = even; stop = at }) (scan_from marks (suc at) end at even))
    (pick (ltb even end) (record { odd = odd; even = even; stop = at }) (scan_from marks (suc at) end odd at)))
    (scan_from marks (suc at) end odd even)

-- the scan of all marks, with nothing found so far
unfoldable pub scan_marks : List ℕ → Scan
scan_marks marks = scan_from marks 0 (length marks) (length marks) (length marks)

-- "kind (1 data, 2 check)"
abbrev pub data_kind : ℕ
data_kind = 1

abbrev pub check_kind : ℕ
check_kind = 2

-- by the number of places after it
unfoldable pub kind_of : ℕ → ℕ
kind_of after = pick (leb 2 after) data_kind check_kind

-- "its number", one byte: no record has more than 256 blockettes
unfoldable pub number_of : ℕ → ℕ
number_of after = pick (leb 2 after) ((after - 2) % 256) after

-- what is told of an error: mark, kind and number, as the status words and the report for C have them
pub record Defect : Type 0 where
  pub mark : ℕ
  pub kind : ℕ
  pub number : ℕ

-- what is told of the first odd error, of the first even one and of the stopping one, and the place of the stop
pub record Findings : Type 0 where
  pub odd : Defect
  pub even : Defect
  pub stop : Defect
  pub place : ℕ

-- An error's mark, kind and number; "zero where none", which is the end.
unfoldable pub defect_at : List ℕ → ℕ → Defect
defect_at marks place =
    pick (ltb place (length marks))
    (record {
      mark = get_or marks place 0;
      kind = kind_of (length marks - 1 - place);
      number = number_of (length marks - 1 - place);
    })
    (record { mark = 0; kind = 0; number = 0 })

-- an error that is there has a kind: "zero where none"
unfoldable pub is_found : Defect → Bool
is_found defect = not (eqb defect.kind 0)

-- what is told of the marks: "first odd error's mark and kind .., its number, then the same for even; .. of the
-- stopping one", and how many blockettes are "before the stop"
unfoldable pub findings_of : List ℕ → Findings
findings_of marks =
    record {
      odd = defect_at marks (scan_marks marks).odd;
      even = defect_at marks (scan_marks marks).even;
      stop = defect_at marks (scan_marks marks).stop;
      place = (scan_marks marks).stop;
    }

-- the same where the first blockette is torn
abbrev pub findings_torn : List ℕ → Findings
findings_torn marks = findings_of (torn_marks marks)

-- "only check blockettes are bad" (document 02, request 2): no error that the scan found is a data blockette's
unfoldable pub checks_alone : Findings → Bool
checks_alone found = not (eqb found.odd.kind data_kind) && not (eqb found.even.kind data_kind)

-- ---- what the values of the program tell

abbrev pub kind_number : Kind → ℕ
kind_number Data = data_kind
kind_number Check = check_kind

-- "zero where none"
abbrev pub told_defect : Option Found → Defect
told_defect None = record { mark = 0; kind = 0; number = 0 }
told_defect (Some d) = record { mark = d.mark; kind = kind_number d.kind; number = d.number }

abbrev pub told_findings : Finds → Findings
told_findings f =
    record { odd = told_defect f.odd; even = told_defect f.even; stop = told_defect f.stop; place = f.place }
