-- What concerns the link alone leaves every field in its range: the parts of the body, the words and strings that are
-- sent, and the steps of collecting, sending, completing and loading.
-- Assumes nothing.
use mathlib.Core.Path.{◌≡◌, refl, ◌∙◌}
use Prim.Native.Nat.{ℕ, ◌≤◌, ◌<◌, ◌+◌, ◌*◌, ◌/◌, ◌%◌}
use native.Mathlib.Omega.{arith}
use mathlib.Core.Bool.{Bool, true, false, ◌&&◌, ◌||◌}
use lib.Bits.{bit_xor, xor_lt}
use lib.Dec.{eqb}
use borrow.Author.Tests.{eqb-true, eqb-false}
use Rattle.common.specs.Pick.{pick}
use Rattle.common.proofs.PickLaws.{by_either, pick_by, pick_no}
use Rattle.status.specs.declared.drives.Drive.{Drive}
use Rattle.status.specs.Drives.{Drives}
use Rattle.status.specs.declared.words.Outcome.{Outcome}
use Rattle.status.specs.declared.words.Word.{Word}
use Rattle.status.specs.Drives.{installed, reports, drive_of, with_drive, with_report, copy_report, copy_reports}
use Rattle.status.specs.Drives.{fresh_with}
use Rattle.status.specs.Drives.{fresh_drives, reset_drives}
use Rattle.status.specs.Words.{bit_of, no_outcome, primary_of, secondary_word, zero_word, reports_word}
use Rattle.link.specs.declared.state.Collected.{Collected}
use Rattle.link.specs.declared.state.Kind.{Kind}
use Rattle.link.specs.declared.state.Kind.TheVariants.{Load, Secondary, Completion, Change}
use Rattle.link.specs.declared.state.Send.{Send}
use Rattle.link.specs.declared.state.Phase.TheVariants.{Collecting}
use Rattle.link.specs.declared.state.Body.{Body}
use Rattle.link.specs.declared.state.Action.{Action}
use Rattle.link.specs.State.{Transition}
use Rattle.link.specs.State.{nothing_collected, with_drives, with_flags, with_outcome, with_selected}
use Rattle.link.specs.State.{with_current_drive}
use Rattle.link.specs.State.{current_drive, note_report, review, start_body, reset_state, keep_collecting, idle}
use Rattle.link.specs.Bytes.{ack, nack, load_lead, store_lead, most_noes}
use Rattle.link.specs.Frames.{string_of}
use Rattle.link.specs.Completion.{primary_now, send_word, send_interrupt, complete}
use Rattle.link.specs.Link.{whole_length, append_byte, is_good_string, first_byte, last_byte, next_byte, yes_to_send}
use Rattle.link.specs.Link.{give_up}
use Rattle.link.specs.Link.{no_to_send, collect_byte, answer_to_send, tick_after_review, idle_tick}
use Rattle.link.specs.Loads.{load_word, carry_out_load}
use Rattle.controller.specs.InRange.{DriveInRange, DrivesInRange, ResultInRange, WordInRange, BodyInRange}
use Rattle.controller.specs.InRange.{FrameInRange, CollectedInRange, IsPart, IsWhole, PartInRange, WholeInRange}
use Rattle.controller.specs.InRange.{SendInRange, PhaseInRange, ActionInRange, HandedInRange}
use Rattle.controller.specs.InRange.IsPart.{nothing, of_load, of_store}
use Rattle.controller.specs.InRange.IsWhole.{is_load, is_store}

-- ---- what a step leaves

pub record Within (t : Transition) : Type 0 where
  pub body : BodyInRange t.body
  pub phase : PhaseInRange t.phase
  pub action : ActionInRange t.action
  pub handed : HandedInRange t.handed

-- ---- the drives

pub drive_of_lem : (ds : Drives) (n : ℕ) → DrivesInRange ds → DriveInRange (drive_of ds n)
unfolding drive_of
drive_of_lem ds n all =
    pick_by (λ (d : Drive). DriveInRange d) (eqb n 0) (λ e. all.zero)
    (λ e. pick_by (λ (d : Drive). DriveInRange d) (eqb n 1) (λ f. all.one)
    (λ f. pick_by (λ (d : Drive). DriveInRange d) (eqb n 2) (λ g. all.two) (λ g. all.three)))

pub with_drive_lem : (ds : Drives) (n : ℕ) (d : Drive) → DrivesInRange ds → DriveInRange d
    → DrivesInRange (with_drive ds n d)
unfolding with_drive
with_drive_lem ds n d all one =
    pick_by (λ (d : Drives). DrivesInRange d) (eqb n 0)
    (λ e. record { zero = one; one = all.one; two = all.two; three = all.three })
    (λ e. pick_by (λ (d : Drives). DrivesInRange d) (eqb n 1)
    (λ f. record { zero = all.zero; one = one; two = all.two; three = all.three })
    (λ f. pick_by (λ (d : Drives). DrivesInRange d) (eqb n 2)
    (λ g. record { zero = all.zero; one = all.one; two = one; three = all.three })
    (λ g. record { zero = all.zero; one = all.one; two = all.two; three = one })))

pub with_report_lem : (d : Drive) (r : ℕ) → DriveInRange d → r < 256 → DriveInRange (with_report d r)
unfolding with_report
with_report_lem d r one byte =
    record {
      report = byte;
      reviewed = one.reviewed;
      track = one.track;
      density = one.density;
      gap = pick_by (λ (n : ℕ). n ≤ 3) (reports r installed) (λ there. one.gap) (λ gone. omega arith);
    }

copied : (d : Drive) → DriveInRange d → DriveInRange (copy_report d)
copied d one =
    record {
      report = one.report;
      reviewed = one.report;
      track = one.track;
      density = one.density;
      gap = one.gap;
    }

all_copied : (ds : Drives) → DrivesInRange ds → DrivesInRange (copy_reports ds)
unfolding copy_reports
all_copied ds all =
    record {
      zero = copied ds.zero all.zero;
      one = copied ds.one all.one;
      two = copied ds.two all.two;
      three = copied ds.three all.three;
    }

fresh_drive : (report : ℕ) → report < 256 → DriveInRange (fresh_with report)
fresh_drive report byte =
    record { report = byte; reviewed = byte; track = omega arith; density = omega arith; gap = omega arith }

fresh_drives_lem : DrivesInRange fresh_drives
unfolding fresh_drives
fresh_drives_lem =
    let one = fresh_drive 4 (omega arith) in
    record { zero = one; one = one; two = one; three = one }

reset_drives_lem : (ds : Drives) → DrivesInRange ds → DrivesInRange (reset_drives ds)
unfolding reset_drives
reset_drives_lem ds all =
    record {
      zero = fresh_drive _ all.zero.report;
      one = fresh_drive _ all.one.report;
      two = fresh_drive _ all.two.report;
      three = fresh_drive _ all.three.report;
    }

-- ---- the body with a part set anew

pub drives_set : (b : Body) (ds : Drives) → BodyInRange b → DrivesInRange ds → BodyInRange (with_drives b ds)
drives_set b ds whole all =
    record {
      drives = all;
      selected = whole.selected;
      result = whole.result;
      tertiary = whole.tertiary;
      quintary = whole.quintary;
    }

pub selected_set : (b : Body) (n : ℕ) → BodyInRange b → n ≤ 3 → BodyInRange (with_selected b n)
selected_set b n whole low =
    record {
      drives = whole.drives;
      selected = low;
      result = whole.result;
      tertiary = whole.tertiary;
      quintary = whole.quintary;
    }

pub flags_set : (b : Body) (changed enable : Bool) → BodyInRange b → BodyInRange (with_flags b changed enable)
flags_set b changed enable whole =
    record {
      drives = whole.drives;
      selected = whole.selected;
      result = whole.result;
      tertiary = whole.tertiary;
      quintary = whole.quintary;
    }

pub outcome_set : (b : Body) (o : Outcome) → BodyInRange b → ResultInRange o.result → BodyInRange (with_outcome b o)
outcome_set b o whole final =
    record {
      drives = whole.drives;
      selected = whole.selected;
      result = final;
      tertiary = whole.tertiary;
      quintary = whole.quintary;
    }

pub drive_set : (b : Body) (d : Drive) → BodyInRange b → DriveInRange d → BodyInRange (with_current_drive b d)
drive_set b d whole one = drives_set b _ whole (with_drive_lem b.drives b.selected d whole.drives one)

pub report_noted_lem : (b : Body) (n r : ℕ) → BodyInRange b → r < 256 → BodyInRange (note_report b n r)
report_noted_lem b n r whole byte =
    drives_set b _ whole
    (with_drive_lem b.drives n _ whole.drives
    (with_report_lem (drive_of b.drives n) r (drive_of_lem b.drives n whole.drives) byte))

reviewed : (b : Body) → BodyInRange b → BodyInRange (review b)
unfolding review
reviewed b whole =
    flags_set (with_drives b (copy_reports b.drives)) _ _
    (drives_set b _ whole (all_copied b.drives whole.drives))

pub zeros : WordInRange zero_word
zeros = record { b0 = omega arith; b1 = omega arith; b2 = omega arith; b3 = omega arith }

no_result : (count : ℕ) → count ≤ 65535 → ResultInRange (no_outcome count).result
unfolding no_outcome
no_result count most = record { code = omega arith; motion = omega arith; count = most }

pub cleared : (b : Body) → BodyInRange b → BodyInRange (with_outcome b (no_outcome b.outcome.result.count))
cleared b whole = outcome_set b _ whole (no_result _ whole.result.count)

started : (ds : Drives) → DrivesInRange ds → BodyInRange (start_body ds)
unfolding start_body
started ds all =
    record {
      drives = all;
      selected = omega arith;
      result = no_result 0 (omega arith);
      tertiary = zeros;
      quintary = zeros;
    }

-- ---- nothing collected

none_collected : PartInRange nothing_collected
none_collected =
    record {
      bytes =
          record {
            length = omega arith;
            c0 = omega arith;
            c1 = omega arith;
            c2 = omega arith;
            c3 = omega arith;
            c4 = omega arith;
            c5 = omega arith;
            c6 = omega arith;
            c7 = omega arith;
          };
      part = nothing refl;
    }

pub fresh_body : BodyInRange (start_body fresh_drives)
fresh_body = started fresh_drives fresh_drives_lem

pub fresh_phase : PhaseInRange (Collecting nothing_collected)
unfolding PhaseInRange
fresh_phase = none_collected

pub reset_within : (b : Body) → BodyInRange b → Within (reset_state b)
unfolding reset_state ActionInRange HandedInRange
reset_within b whole =
    record {
      body = started _ (reset_drives_lem b.drives whole.drives);
      phase = fresh_phase;
      action = tt;
      handed = tt;
    }

pub idle_within : (b : Body) (action : Action) → BodyInRange b → ActionInRange action → Within (idle b action)
unfolding idle HandedInRange
idle_within b action whole quiet =
    record { body = reviewed b whole; phase = fresh_phase; action = quiet; handed = tt }

-- ---- the words

bit_most : (set : Bool) (weight : ℕ) → bit_of set weight ≤ weight
unfolding bit_of
bit_most set weight = pick_by (λ (n : ℕ). n ≤ weight) set (λ yes. omega arith) (λ no. omega arith)

primary_first_lem : (changed enable retry : Bool) (track selected : ℕ)
    → bit_of changed 128 + bit_of enable 64 + bit_of retry 32 + track % 8 * 4 + selected % 4 < 256
primary_first_lem changed enable retry track selected =
    omega (arith, bit_most changed 128, bit_most enable 64, bit_most retry 32)

primary_second_lem : (mark : Bool) (motion code : ℕ) → bit_of mark 128 + motion % 4 * 32 + code % 32 < 256
primary_second_lem mark motion code = omega (arith, bit_most mark 128)

primary_third_lem : (parity overflow underflow wdl rdl supplied counted : Bool) (density : ℕ)
    → bit_of parity 128 + bit_of overflow 64 + bit_of underflow 32 + bit_of wdl 16 + bit_of rdl 8 + bit_of supplied 4
    + bit_of counted 2
    + density % 2
    < 256
primary_third_lem parity overflow underflow wdl rdl supplied counted density =
    omega (
      arith,
      bit_most parity 128,
      bit_most overflow 64,
      bit_most underflow 32,
      bit_most wdl 16,
      bit_most rdl 8,
      bit_most supplied 4,
      bit_most counted 2,
    )

primary_now_lem : (b : Body) → BodyInRange b → WordInRange (primary_now b)
unfolding primary_now primary_of
primary_now_lem b whole =
    let o = b.outcome in
    record {
      b0 = primary_first_lem b.changed b.enable o.retry (current_drive b).track b.selected;
      b1 = primary_second_lem o.mark o.result.motion o.result.code;
      b2 =
          primary_third_lem o.parity o.overflow o.underflow o.wdl o.rdl o.supplied o.counted
          (current_drive b).density;
      b3 = (drive_of_lem b.drives b.selected whole.drives).report;
    }

secondary_word_lem : (count : ℕ) → WordInRange (secondary_word count)
unfolding secondary_word
secondary_word_lem count = record { b0 = omega arith; b1 = omega arith; b2 = omega arith; b3 = omega arith }

reports_word_lem : (ds : Drives) → DrivesInRange ds → WordInRange (reports_word ds)
unfolding reports_word
reports_word_lem ds all =
    record { b0 = all.zero.report; b1 = all.one.report; b2 = all.two.report; b3 = all.three.report }

load_word_lem : (b : Body) (operation : ℕ) → BodyInRange b → WordInRange (load_word b operation)
unfolding load_word
load_word_lem b operation whole =
    pick_by (λ (w : Word). WordInRange w) (eqb operation 0)
    (λ e. record { b0 = omega arith; b1 = omega arith; b2 = omega arith; b3 = omega arith })
    (λ e. pick_by (λ (w : Word). WordInRange w) (eqb operation 1) (λ f. primary_now_lem b whole)
    (λ f. pick_by (λ (w : Word). WordInRange w) (eqb operation 2) (λ g. secondary_word_lem _)
    (λ g. pick_by (λ (w : Word). WordInRange w) (eqb operation 3) (λ h. whole.tertiary)
    (λ h. pick_by (λ (w : Word). WordInRange w) (eqb operation 4) (λ k. reports_word_lem b.drives whole.drives)
    (λ k. whole.quintary)))))

-- ---- strings

xor_byte_lem : (a b : ℕ) → a < 256 → b < 256 → bit_xor a b < 256
xor_byte_lem a b = xor_lt 8 a b

string_of_lem : (lead : ℕ) (w : Word) → lead < 256 → WordInRange w → FrameInRange (string_of lead w)
unfolding string_of
string_of_lem lead w byte word =
    record {
      b0 = byte;
      b1 = word.b0;
      b2 = word.b1;
      b3 = word.b2;
      b4 = word.b3;
      b5 =
          xor_byte_lem _ _
          (xor_byte_lem _ _ (xor_byte_lem _ _ (xor_byte_lem _ _ byte word.b0) word.b1) word.b2)
          word.b3;
    }

sent_within : (b : Body) (kind : Kind) (lead : ℕ) (w : Word) → BodyInRange b → lead < 256 → WordInRange w
    → Within (send_word b kind lead w)
unfolding send_word PhaseInRange ActionInRange HandedInRange
sent_within b kind lead w whole byte word =
    let string = string_of_lem lead w byte word in
    record { body = whole; phase = record { bytes = string; noes = omega arith }; action = string; handed = tt }

interrupt_within : (b : Body) → BodyInRange b → Within (send_interrupt b)
unfolding send_interrupt
interrupt_within b whole =
    pick_by Within b.outcome.counted
    (λ counted. sent_within b Secondary _ _ whole (omega arith) (secondary_word_lem _))
    (λ none. sent_within b Completion _ _ whole (omega arith) (primary_now_lem b whole))

pub completed_within : (b : Body) (asked : Bool) → BodyInRange b → Within (complete b asked)
unfolding complete ActionInRange
completed_within b asked whole =
    pick_by Within asked (λ yes. interrupt_within _ (flags_set (review b) _ _ (reviewed b whole)))
    (λ no. idle_within b _ whole tt)

pub given_up_within : (b : Body) (kind : Kind) → BodyInRange b → Within (give_up b kind)
unfolding give_up ActionInRange
given_up_within b Load whole = idle_within b _ whole tt
given_up_within b Secondary whole = idle_within b _ whole tt
given_up_within b Completion whole = idle_within b _ whole tt
given_up_within b Change whole = idle_within _ _ (flags_set b _ _ whole) tt

accepted_within : (b : Body) (kind : Kind) → BodyInRange b → Within (yes_to_send b kind)
unfolding yes_to_send ActionInRange
accepted_within b Load whole = idle_within b _ whole tt
accepted_within b Secondary whole = sent_within b Completion _ _ whole (omega arith) (primary_now_lem b whole)
accepted_within b Completion whole = idle_within _ _ (flags_set b _ _ whole) tt
accepted_within b Change whole = idle_within _ _ (flags_set b _ _ whole) tt

-- "After the fifth no .. the send is given up": a send that goes again has had four at most
said_no_within : (b : Body) (s : Send) → BodyInRange b → SendInRange s → Within (no_to_send b s)
unfolding no_to_send PhaseInRange ActionInRange HandedInRange
said_no_within b s whole held =
    pick_by Within (eqb s.noes most_noes) (λ fifth. given_up_within b s.kind whole)
    (λ again.
    let few = held.noes in
    let other = eqb-false s.noes most_noes again in
    record {
      body = whole;
      phase = record { bytes = held.bytes; noes = omega arith };
      action = held.bytes;
      handed = tt;
    })

pub send_within : (b : Body) (byte : ℕ) (s : Send) → BodyInRange b → SendInRange s → Within (answer_to_send b byte s)
unfolding answer_to_send
send_within b byte s whole held =
    pick_by Within (eqb byte ack) (λ yes. accepted_within b s.kind whole) (λ no. said_no_within b s whole held)

-- ---- collecting

byte_or : (test : Bool) (one other : ℕ) → one < 256 → other < 256 → pick test one other < 256
byte_or test one other low too = pick_by (λ (n : ℕ). n < 256) test (λ yes. low) (λ no. too)

appended : (s : Collected) (byte : ℕ) → CollectedInRange s → byte < 256 → s.length < 8
    → CollectedInRange (append_byte s byte)
unfolding append_byte
appended s byte bytes low room =
    record {
      length = omega arith;
      c0 = byte_or _ byte _ low bytes.c0;
      c1 = byte_or _ byte _ low bytes.c1;
      c2 = byte_or _ byte _ low bytes.c2;
      c3 = byte_or _ byte _ low bytes.c3;
      c4 = byte_or _ byte _ low bytes.c4;
      c5 = byte_or _ byte _ low bytes.c5;
      c6 = byte_or _ byte _ low bytes.c6;
      c7 = byte_or _ byte _ low bytes.c7;
    }

collecting_within : (b : Body) (s : Collected) → BodyInRange b → PartInRange s → Within (keep_collecting b s)
unfolding PhaseInRange ActionInRange HandedInRange
collecting_within b s whole part = record { body = whole; phase = part; action = tt; handed = tt }

first_part : (byte : ℕ) → (eqb byte load_lead || eqb byte store_lead) ≡ true
    → IsPart (append_byte nothing_collected byte)
unfolding append_byte pick
first_part byte =
    by_either (eqb byte load_lead) (eqb byte store_lead) (λ load. of_load (eqb-true byte 0x62 load) (omega arith))
    (λ store. of_store (eqb-true byte 0x64 store) (omega arith))

first_byte_within : (b : Body) (s : Collected) (byte : ℕ) → BodyInRange b → PartInRange s → byte < 256
    → Within (first_byte b s byte)
unfolding first_byte ActionInRange
first_byte_within b s byte whole part low =
    pick_by Within (eqb byte load_lead || eqb byte store_lead)
    (λ lead. collecting_within b _ whole
    (record {
      bytes = appended nothing_collected byte none_collected.bytes low (omega arith);
      part = first_part byte lead;
    }))
    (λ none. pick_by Within (eqb byte nack) (λ ignored. collecting_within b s whole part)
    (λ other. idle_within b _ whole (omega arith)))

last_byte_within : (b : Body) (s : Collected) → BodyInRange b → WholeInRange s → Within (last_byte b s)
unfolding last_byte PhaseInRange ActionInRange HandedInRange
last_byte_within b s whole string =
    pick_by Within (is_good_string s)
    (λ good. record { body = whole; phase = string; action = omega arith; handed = tt })
    (λ bad. idle_within b _ whole (omega arith))

-- the lead stays when a further byte comes
lead_stays : (s : Collected) (byte : ℕ) → eqb s.length 0 ≡ false → (append_byte s byte).c0 ≡ s.c0
unfolding append_byte
lead_stays s byte further = pick_no byte s.c0 further

load_length_lem : (lead : ℕ) → lead ≡ 0x62 → whole_length lead ≡ 4
unfolding whole_length pick
load_length_lem lead is = rw is

store_length : (lead : ℕ) → lead ≡ 0x64 → whole_length lead ≡ 8
unfolding whole_length pick
store_length lead is = rw is

module _ (b : Body) (s : Collected) (byte : ℕ) (whole : BodyInRange b) (bytes : CollectedInRange s) (low : byte < 256)
    (further : eqb s.length 0 ≡ false) where
  more : s.length < 8 → CollectedInRange (append_byte s byte)
  more = appended s byte bytes low

  longer : (append_byte s byte).length ≡ s.length + 1
  unfolding append_byte
  longer = refl

  -- the string has one byte more, of as many as its lead says
  further_byte : (n : ℕ) → whole_length s.c0 ≡ n → s.length < n → n ≤ 8
      → ((append_byte s byte).length ≡ n → IsWhole (append_byte s byte))
      → ((append_byte s byte).length < n → IsPart (append_byte s byte))
      → Within (next_byte b s byte)
  unfolding next_byte
  further_byte n long short most whole_is part_is =
      let one_more = longer in
      let bytes = more (omega arith) in
      pick_by Within (eqb (s.length + 1) (whole_length s.c0))
      (λ all. last_byte_within b _ whole
      (record {
        bytes = bytes;
        whole = whole_is (longer ∙ eqb-true (s.length + 1) (whole_length s.c0) all ∙ long);
      }))
      (λ some. let other = eqb-false (s.length + 1) (whole_length s.c0) some in
      collecting_within b _ whole (record { bytes = bytes; part = part_is (omega arith) }))

  next_byte_by : IsPart s → Within (next_byte b s byte)
  next_byte_by (nothing none) = absurd (eqb-false s.length 0 further none)
  next_byte_by (of_load lead short) =
      let same = lead_stays s byte further ∙ lead in
      further_byte 4 (load_length_lem s.c0 lead) short (omega arith) (is_load same) (of_load same)
  next_byte_by (of_store lead short) =
      let same = lead_stays s byte further ∙ lead in
      further_byte 8 (store_length s.c0 lead) short (omega arith) (is_store same) (of_store same)

pub byte_within : (b : Body) (s : Collected) (byte : ℕ) → BodyInRange b → PartInRange s → byte < 256
    → Within (collect_byte b s byte)
unfolding collect_byte
byte_within b s byte whole part low =
    pick_by Within (eqb s.length 0) (λ first. first_byte_within b s byte whole part low)
    (λ further. next_byte_by b s byte whole part.bytes low further part.part)

-- ---- ticks and loads

pub tick_within : (b : Body) (s : Collected) → BodyInRange b → PartInRange s → Within (idle_tick b (Collecting s))
unfolding idle_tick tick_after_review
tick_within b s whole part =
    let again = reviewed b whole in
    pick_by Within ((review b).changed && (review b).enable)
    (λ due. sent_within (review b) Change _ _ again (omega arith) (primary_now_lem (review b) again))
    (λ none. collecting_within (review b) s again part)

pub loaded_within : (b : Body) (address : ℕ) → BodyInRange b → Within (carry_out_load b address)
unfolding carry_out_load ActionInRange
loaded_within b address whole =
    pick_by Within (eqb (address / 16 % 8) 6) (λ six. idle_within b _ whole tt)
    (λ below. pick_by Within (eqb (address / 16 % 8) 7) (λ seven. idle_within b _ whole tt)
    (λ other. sent_within b Load _ _ whole (omega arith) (load_word_lem b _ whole)))
