-- The drives (document 01, The drives).
-- Assumes nothing.
use Rattle.std.specs.Prelude.{ℕ, ◌/◌, ◌%◌, Bool, false, not, ◌||◌, eqb}
use Rattle.common.specs.Pick.{pick}
use Rattle.common.specs.Four.{one_of, with_one}
use Rattle.common.specs.declared.four.Four.{Four}
use Rattle.status.specs.declared.drives.Drive.{Drive}

-- ---- "track, gap, selected drive .. 0-3"

abbrev pub last_drive : ℕ
last_drive = 3

abbrev pub last_track : ℕ
last_track = 3

-- ---- "Report bits: EOT 128, EOT warning 64, installed 32, BOT warning 16, protected 8, position unknown 4, selectable
-- 2, BOT 1."

abbrev pub eot : ℕ
eot = 128

abbrev pub eot_warning : ℕ
eot_warning = 64

abbrev pub installed : ℕ
installed = 32

abbrev pub bot_warning : ℕ
bot_warning = 16

abbrev pub protected : ℕ
protected = 8

abbrev pub position_unknown : ℕ
position_unknown = 4

abbrev pub selectable : ℕ
selectable = 2

abbrev pub bot : ℕ
bot = 1

-- whether a report has this bit
unfoldable pub reports : ℕ → ℕ → Bool
reports report bit = eqb (report / bit % 2) 1

-- ---- "Gap: 0 proper, 1 improper, 2 unfinished write, 3 lost."

abbrev pub gap_proper : ℕ
gap_proper = 0

abbrev pub gap_improper : ℕ
gap_improper = 1

abbrev pub gap_unfinished : ℕ
gap_unfinished = 2

abbrev pub gap_lost : ℕ
gap_lost = 3

-- ---- "density 0 (MFM; 1 is GCR)"

abbrev pub mfm : ℕ
mfm = 0

abbrev pub gcr : ℕ
gcr = 1

-- ---- the four records

-- the four, by their numbers
abbrev pub Drives : Type 0
Drives = Four Drive

-- the record of a drive
unfoldable pub drive_of : Drives → ℕ → Drive
drive_of drives number = one_of drives number

-- the drives with another record for one of them
unfoldable pub with_drive : Drives → ℕ → Drive → Drives
with_drive drives number drive = with_one drives number drive

-- a report: "A report without 32 makes that gap 3."
unfoldable pub with_report : Drive → ℕ → Drive
with_report drive report =
    record {
      report = report;
      reviewed = drive.reviewed;
      track = drive.track;
      density = drive.density;
      gap = pick (reports report installed) drive.gap gap_lost;
      guard = drive.guard;
    }

-- a drive with another gap
abbrev pub with_gap : Drive → ℕ → Drive
with_gap drive gap =
    record {
      report = drive.report;
      reviewed = drive.reviewed;
      track = drive.track;
      density = drive.density;
      gap = gap;
      guard = drive.guard;
    }

-- "A new track sets the gap to 0 if BOT is reported, else 3; the same track changes nothing."
unfoldable pub with_track : Drive → ℕ → Drive
with_track drive track =
    pick (eqb drive.track track) drive
    (record {
      report = drive.report;
      reviewed = drive.reviewed;
      track = track;
      density = drive.density;
      gap = pick (reports drive.report bot) gap_proper gap_lost;
      guard = drive.guard;
    })

-- "0C/0D density 0/1"
abbrev pub with_density : Drive → ℕ → Drive
with_density drive density =
    record {
      report = drive.report;
      reviewed = drive.reviewed;
      track = drive.track;
      density = density;
      gap = drive.gap;
      guard = drive.guard;
    }

-- "Control values 0A and 0B clear and set a guard on the selected drive" (document 02, request 7)
abbrev pub with_guard : Drive → Bool → Drive
with_guard drive guard =
    record {
      report = drive.report;
      reviewed = drive.reviewed;
      track = drive.track;
      density = drive.density;
      gap = drive.gap;
      guard = guard;
    }

-- "density .. (MFM; 1 is GCR)": any but 0
abbrev pub is_gcr : Drive → Bool
is_gcr drive = not (eqb drive.density mfm)

-- "Review sets changed if any report differs from its copy, .."
unfoldable pub any_differs : Drives → Bool
any_differs drives =
    ((not (eqb drives.zero.report drives.zero.reviewed) || not (eqb drives.one.report drives.one.reviewed))
    || not (eqb drives.two.report drives.two.reviewed))
    || not (eqb drives.three.report drives.three.reviewed)

-- a drive whose report is copied
abbrev pub copy_report : Drive → Drive
copy_report drive =
    record {
      report = drive.report;
      reviewed = drive.report;
      track = drive.track;
      density = drive.density;
      gap = drive.gap;
      guard = drive.guard;
    }

-- ".. then copies all four."
unfoldable pub copy_reports : Drives → Drives
copy_reports drives =
    record {
      zero = copy_report drives.zero;
      one = copy_report drives.one;
      two = copy_report drives.two;
      three = copy_report drives.three;
    }

-- "track 0, density 0 (MFM; 1 is GCR), gap 3", with a report that is copied as reviewed; of the guard, "it starts
-- clear, and a reset clears it"
abbrev pub fresh_with : ℕ → Drive
fresh_with report =
    record { report = report; reviewed = report; track = 0; density = mfm; gap = gap_lost; guard = false }

-- "Fresh: report 4 and reviewed copy 4 for each"
unfoldable pub fresh_drives : Drives
fresh_drives =
    record {
      zero = fresh_with position_unknown;
      one = fresh_with position_unknown;
      two = fresh_with position_unknown;
      three = fresh_with position_unknown;
    }

-- "Reset .. gives this but keeps reports, copied as reviewed."
unfoldable pub reset_drives : Drives → Drives
reset_drives drives =
    record {
      zero = fresh_with drives.zero.report;
      one = fresh_with drives.one.report;
      two = fresh_with drives.two.report;
      three = fresh_with drives.three.report;
    }
