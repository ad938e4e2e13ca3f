-- The parts of the state (document 01, The link; The drives): a string from the host, the body, reports and review, the
-- start and the reset form. Records have no update: the few definitions that set a part of the body anew spell it once
-- each.
-- Assumes nothing.
use Rattle.std.specs.Prelude.{ℕ, Bool, true, false, Option, None, ◌||◌}
use Rattle.status.specs.declared.drives.Drive.{Drive}
use Rattle.status.specs.Drives.{Drives}
use Rattle.status.specs.declared.words.Outcome.{Outcome}
use Rattle.status.specs.declared.words.ResultRecord.{ResultRecord}
use Rattle.status.specs.declared.words.Word.{Word}
use Rattle.status.specs.Drives.{drive_of, with_drive, with_report, any_differs, copy_reports, reset_drives}
use Rattle.status.specs.Words.{no_outcome, zero_word}
use Rattle.operations.specs.declared.operation.Operation.{Operation}
use Rattle.operations.specs.declared.store.Store.{Store}
use Rattle.link.specs.declared.state.Collected.{Collected}
use Rattle.link.specs.declared.state.Phase.{Phase}
use Rattle.link.specs.declared.state.Phase.TheVariants.{Collecting, AckOffered, Sending, GoOffered, DataAwaited}
use Rattle.link.specs.declared.state.Phase.TheVariants.{ResultAwaited, EndOffered}
use Rattle.link.specs.declared.state.Body.{Body}
use Rattle.link.specs.declared.state.Action.{Action}
use Rattle.link.specs.declared.state.Action.TheVariants.{Nothing}

-- what a step hands back of a store: nothing, or the record of one whose code it settled
abbrev pub Handed : Type 0
Handed = Option ResultRecord

-- what a step that is carried out leaves: the body, the phase, what it has the controller do, and the record of a store
-- whose code it settled
pub record Transition : Type 0 where
  pub body : Body
  pub phase : Phase
  pub action : Action
  pub handed : Handed

-- that of a step in place, by what it leaves of a body and a phase: it settles no code
abbrev pub left : Body → Phase → Action → Transition
left b phase action = record { body = b; phase = phase; action = action; handed = None }

-- ---- the phases: a value by what a phase holds where it is of one kind, and another otherwise

abbrev pub when_collecting {ℓ} : {A : Type ℓ} → (Collected → A) → A → Phase → A
when_collecting value otherwise (Collecting s) = value s
when_collecting value otherwise (AckOffered s) = otherwise
when_collecting value otherwise (Sending send) = otherwise
when_collecting value otherwise (GoOffered store) = otherwise
when_collecting value otherwise (DataAwaited store) = otherwise
when_collecting value otherwise (ResultAwaited operation store) = otherwise
when_collecting value otherwise (EndOffered interrupt) = otherwise

abbrev pub when_ack_offered {ℓ} : {A : Type ℓ} → (Collected → A) → A → Phase → A
when_ack_offered value otherwise (AckOffered s) = value s
when_ack_offered value otherwise (Collecting s) = otherwise
when_ack_offered value otherwise (Sending send) = otherwise
when_ack_offered value otherwise (GoOffered store) = otherwise
when_ack_offered value otherwise (DataAwaited store) = otherwise
when_ack_offered value otherwise (ResultAwaited operation store) = otherwise
when_ack_offered value otherwise (EndOffered interrupt) = otherwise

-- a store is in hand: GO is offered to it, or its data or its result is awaited
abbrev pub when_in_hand {ℓ} : {A : Type ℓ} → (Store → A) → (Store → A) → (Operation → Store → A) → A → Phase → A
when_in_hand at_go at_data at_result otherwise (GoOffered store) = at_go store
when_in_hand at_go at_data at_result otherwise (DataAwaited store) = at_data store
when_in_hand at_go at_data at_result otherwise (ResultAwaited operation store) = at_result operation store
when_in_hand at_go at_data at_result otherwise (Collecting s) = otherwise
when_in_hand at_go at_data at_result otherwise (AckOffered s) = otherwise
when_in_hand at_go at_data at_result otherwise (Sending send) = otherwise
when_in_hand at_go at_data at_result otherwise (EndOffered interrupt) = otherwise

abbrev pub when_data_awaited {ℓ} : {A : Type ℓ} → (Store → A) → A → Phase → A
when_data_awaited value otherwise = when_in_hand (λ store. otherwise) value (λ operation store. otherwise) otherwise

abbrev pub when_result_awaited {ℓ} : {A : Type ℓ} → (Operation → Store → A) → A → Phase → A
when_result_awaited value otherwise = when_in_hand (λ store. otherwise) (λ store. otherwise) value otherwise

-- ---- a string from the host

-- a string of which no byte has come
abbrev pub nothing_collected : Collected
nothing_collected = record { length = 0; c0 = 0; c1 = 0; c2 = 0; c3 = 0; c4 = 0; c5 = 0; c6 = 0; c7 = 0 }

-- "Store: lead, address, four operand bytes (high first), unused, check."
unfoldable pub store_of : Collected → Store
store_of s = record { address = s.c1; first = s.c2; second = s.c3; third = s.c4; fourth = s.c5 }

-- "A good string offers ACK #06. Then taken carries it out": the string whose ACK is offered; in every other phase
-- there is none
unfoldable pub offered : Phase → Collected
offered = when_ack_offered (λ s. s) nothing_collected

-- ---- the body with one part, or parts that change together, set anew

-- the four drives
abbrev pub with_drives : Body → Drives → Body
with_drives b drives =
    record {
      drives = drives;
      selected = b.selected;
      changed = b.changed;
      enable = b.enable;
      outcome = b.outcome;
      tertiary = b.tertiary;
      quintary = b.quintary;
    }

-- the selected drive
abbrev pub with_selected : Body → ℕ → Body
with_selected b selected =
    record {
      drives = b.drives;
      selected = selected;
      changed = b.changed;
      enable = b.enable;
      outcome = b.outcome;
      tertiary = b.tertiary;
      quintary = b.quintary;
    }

-- changed and enable
abbrev pub with_flags : Body → Bool → Bool → Body
with_flags b changed enable =
    record {
      drives = b.drives;
      selected = b.selected;
      changed = changed;
      enable = enable;
      outcome = b.outcome;
      tertiary = b.tertiary;
      quintary = b.quintary;
    }

-- what a store sets of primary, and secondary
abbrev pub with_outcome : Body → Outcome → Body
with_outcome b outcome =
    record {
      drives = b.drives;
      selected = b.selected;
      changed = b.changed;
      enable = b.enable;
      outcome = outcome;
      tertiary = b.tertiary;
      quintary = b.quintary;
    }

-- the other status words
abbrev pub with_words : Body → Word → Word → Body
with_words b tertiary quintary =
    record {
      drives = b.drives;
      selected = b.selected;
      changed = b.changed;
      enable = b.enable;
      outcome = b.outcome;
      tertiary = tertiary;
      quintary = quintary;
    }

-- ---- the drives

-- the record of the selected drive
abbrev pub current_drive : Body → Drive
current_drive b = drive_of b.drives b.selected

-- another record for it
abbrev pub with_current_drive : Body → Drive → Body
with_current_drive b drive = with_drives b (with_drive b.drives b.selected drive)

-- a report of one of the drives: "A report without 32 makes that gap 3."
abbrev pub note_report : Body → ℕ → ℕ → Body
note_report b number report =
    with_drives b (with_drive b.drives number (with_report (drive_of b.drives number) report))

-- "Review sets changed if any report differs from its copy, then copies all four."
unfoldable pub review : Body → Body
review b = with_flags (with_drives b (copy_reports b.drives)) (b.changed || any_differs b.drives) b.enable

-- ---- start and reset

-- "drive 0 selected, changed set, enable clear, all else 0"
unfoldable pub start_body : Drives → Body
start_body drives =
    record {
      drives = drives;
      selected = 0;
      changed = true;
      enable = false;
      outcome = no_outcome 0;
      tertiary = zero_word;
      quintary = zero_word;
    }

-- "Reset, by call or store, gives this but keeps reports, copied as reviewed.", collecting
unfoldable pub reset_state : Body → Transition
reset_state b =
    record {
      body = start_body (reset_drives b.drives);
      phase = Collecting nothing_collected;
      action = Nothing;
      handed = None;
    }

-- ---- collecting

-- the phase stays, and there is no action
abbrev pub keep_phase : Body → Phase → Transition
keep_phase b phase = record { body = b; phase = phase; action = Nothing; handed = None }

-- this much of a string has come, and there is no action
abbrev pub keep_collecting : Body → Collected → Transition
keep_collecting b s = keep_phase b (Collecting s)

-- "review, collecting", with nothing collected
unfoldable pub idle : Body → Action → Transition
idle b action = record { body = review b; phase = Collecting nothing_collected; action = action; handed = None }
