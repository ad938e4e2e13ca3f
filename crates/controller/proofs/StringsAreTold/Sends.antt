-- What is sent and what is reviewed, as the list tells it: the words, a review, a string, a completion, the end of a
-- send, a tick, a load and a byte of a string from the host.
-- Assumes nothing.
use mathlib.Core.Path.{◌≡◌, refl, sym, ap, ap₂, subst, ◌∙◌}
use Prim.Native.Nat.{ℕ, ◌≤◌, ◌+◌, ◌/◌, ◌%◌}
use native.Mathlib.Omega.{arith}
use mathlib.Core.Bool.{Bool, true, false, not, ◌&&◌, ◌||◌}
use mathlib.Core.List.{[], ◌∷◌}
use lib.Dec.{eqb}
use borrow.Author.Tests.{eqb-true, eqb-false}
use Rattle.common.specs.Pick.{pick}
use Rattle.common.proofs.PickLaws.{by_test, pick_by}
use Rattle.status.specs.declared.drives.Drive.{Drive}
use Rattle.status.specs.Drives.{Drives}
use Rattle.status.specs.declared.words.ResultRecord.{ResultRecord}
use Rattle.status.specs.declared.words.Word.{Word}
use Rattle.status.specs.Drives.{drive_of, with_drive, copy_report, copy_reports, any_differs}
use Rattle.status.specs.Words.{bit_of, primary_of, secondary_word, reports_word}
use Rattle.status.proofs.DriveLaws.{put_same, put_other, reviewed_drive}
use Rattle.operations.specs.declared.store.Store.{Store}
use Rattle.operations.specs.After.{with_code}
use Rattle.operations.specs.Store.{asks_interrupt}
use Rattle.transfers.specs.declared.after.Words.{Words}
use Rattle.link.specs.declared.frames.Frame.{Frame}
use Rattle.link.specs.declared.state.Collected.{Collected}
use Rattle.link.specs.declared.state.Kind.{Kind}
use Rattle.link.specs.declared.state.Kind.TheVariants.{Load, Secondary, Completion, Change}
use Rattle.link.specs.declared.state.Send.{Send}
use Rattle.link.specs.declared.state.Phase.{Phase}
use Rattle.link.specs.declared.state.Phase.TheVariants.{Collecting, AckOffered, Sending, GoOffered, DataAwaited}
use Rattle.link.specs.declared.state.Phase.TheVariants.{ResultAwaited, EndOffered}
use Rattle.link.specs.declared.state.Body.{Body}
use Rattle.link.specs.declared.state.Action.{Action}
use Rattle.link.specs.declared.state.Action.TheVariants.{Nothing, Byte}
use Rattle.std.specs.Prelude.{None}
use Rattle.link.specs.State.{Transition}
use Rattle.link.specs.Bytes.{nack, load_lead, store_lead, interrupt}
use Rattle.link.specs.Frames.{string_of}
use Rattle.link.specs.State.{with_flags, with_outcome, current_drive, review, idle}
use Rattle.link.specs.Completion.{primary_now, send_word, send_interrupt, complete}
use Rattle.link.specs.Link.{whole_length, append_byte, is_good_string, first_byte, last_byte, next_byte, yes_to_send}
use Rattle.link.specs.Link.{give_up}
use Rattle.link.specs.Link.{no_to_send, collect_byte, answer_to_send, tick_after_review, idle_tick}
use Rattle.link.specs.Loads.{load_word, carry_out_load}
use Rattle.link.proofs.FrameLaws.{string_checks}
use Rattle.controller.specs.Stores.{hand_back, settle, end_with}
use Rattle.controller.specs.Records.{words_of}
use Rattle.controller.specs.Ledger.{Ledger}
use Rattle.controller.specs.Sent.{Awaited, Wire, quiet, flagged, speaks, differs, reviewed, primary, secondary}
use Rattle.controller.specs.Sent.{word_asked, string_with, interrupts, informs, completes, asks, ticks, replies}
use Rattle.controller.specs.Sent.{accepted, given_up, answered, collects, strings_of, xor_of, AllCheck}
use Rattle.controller.specs.Sent.Awaited.{nothing, ack as ack_waits, go, end, sent}
use Rattle.controller.proofs.DrivesAreALedger.{told, Agrees, Agreeing, pick_pair}

-- ---- the list and the state

-- the flags and the reviewed copies
pub record FlagsAre (told_changed told_enable : Bool) (copies : ℕ → ℕ) (is_changed is_enabled : Bool)
    (drives : Drives) :
    Type 0 where
  pub changed : is_changed ≡ told_changed
  pub enable : is_enabled ≡ told_enable
  pub copy : (d : ℕ) → d ≤ 3 → (drive_of drives d).reviewed ≡ copies d

abbrev pub Flags : Wire → Body → Type 0
Flags f b = FlagsAre f.changed f.enable f.copy b.changed b.enable b.drives

-- what waits for an answer in a phase
unfoldable pub awaited_in : Phase → Awaited
awaited_in (Collecting s) = nothing
awaited_in (AckOffered s) = ack_waits
awaited_in (Sending s) = sent s
awaited_in (GoOffered store) = go
awaited_in (DataAwaited store) = nothing
awaited_in (ResultAwaited operation store) = nothing
awaited_in (EndOffered asked) = end asked

-- a string that waits for an answer
unfoldable pub HeldChecks : Awaited → Type 0
HeldChecks (sent s) = xor_of s.bytes ≡ 0
HeldChecks nothing = Unit
HeldChecks ack_waits = Unit
HeldChecks go = Unit
HeldChecks (end asked) = Unit

-- the drives and the words
pub record AgreedOn (l : Ledger) (w : Words) (selected : ℕ) (four : Drives) (these : Words) : Type 0 where
  pub drives : Agrees l selected four
  pub words : these ≡ w

abbrev pub Agreed : Ledger → Words → Body → Type 0
Agreed l w b = AgreedOn l w b.selected b.drives (words_of b)

pub record Told (f : Wire) (t : Transition) : Type 0 where
  pub flags : Flags f t.body
  pub awaited : f.awaited ≡ awaited_in t.phase
  pub sends : strings_of t.action ≡ f.sends
  pub checks : AllCheck f.sends
  pub held : HeldChecks f.awaited

-- two choices by tests that are the same
pub pick_alike : {A B : Type 0} (P : A → B → Type 0) (t u : Bool) {x x' : A} {y y' : B} → t ≡ u → (u ≡ true → P x y)
    → (u ≡ false → P x' y') → P (pick t x x') (pick u y y')
pick_alike P t u {x} {x'} {y} {y'} same first second =
    subst (λ (v : Bool). P (pick v x x') (pick u y y')) (sym same) (pick_pair P u first second)

-- ---- drives with one set anew

-- a record that keeps its copy
pub copy_kept :
    (drives : Drives) (n : ℕ) (drive : Drive) → n ≤ 3 → drive.reviewed ≡ (drive_of drives n).reviewed
    → (d : ℕ) → d ≤ 3 → (drive_of (with_drive drives n drive) d).reviewed ≡ (drive_of drives d).reviewed
copy_kept drives n drive within same d low =
    by_test (eqb d n)
    (λ is.
    subst (λ (m : ℕ). (drive_of (with_drive drives n drive) m).reviewed ≡ (drive_of drives m).reviewed)
    (sym (eqb-true d n is))
    (ap (λ (x : Drive). x.reviewed) (put_same drives drive n within) ∙ same))
    (λ other.
    ap (λ (x : Drive). x.reviewed) (put_other drives drive n d within low (λ e. eqb-false d n other (sym e))))

pub reports_agree : (l : Ledger) (selected : ℕ) (drives : Drives) → Agrees l selected drives
    → (d : ℕ) → d ≤ 3 → (drive_of drives d).report ≡ (l.tape d).report
reports_agree l selected drives agrees d low = ap (λ (x : Drive). x.report) (agrees.drive d low)

module _ (l : Ledger) (w : Words) where
  abbrev pub Tells : Wire → Transition → Type 0
  Tells f t = Agreed l w t.body → Told f t

  -- ---- the words

  primary_said : (f : Wire) (b : Body) → Flags f b → Agreed l w b → primary_now b ≡ primary f l w
  unfolding primary_now primary_of bit_of primary
  primary_said f b flags agreed =
      let agrees = agreed.drives in
      let current : copy_report (current_drive b) ≡ told (l.tape l.selected) =
      agrees.drive b.selected agrees.low ∙ ap (λ (n : ℕ). told (l.tape n)) agrees.selected in
      ap₂ (λ (changed enable : Bool). primary_of changed enable b.outcome b.selected (copy_report (current_drive b)))
      flags.changed flags.enable
      ∙ ap (λ (v : Words). primary_of f.changed f.enable v.outcome b.selected (copy_report (current_drive b)))
      agreed.words
      ∙ ap₂ (λ (n : ℕ) (drive : Drive). primary_of f.changed f.enable w.outcome n drive) agrees.selected
      current

  secondary_said : (b : Body) → Agreed l w b → secondary_word b.outcome.result.count ≡ secondary w
  unfolding secondary_word secondary
  secondary_said b agreed = ap (λ (v : Words). secondary_word v.outcome.result.count) agreed.words

  reports_said :
      (b : Body)
      → Agreed l w b
      → reports_word b.drives
      ≡ record {
        b0 = (l.tape 0).report;
        b1 = (l.tape 1).report;
        b2 = (l.tape 2).report;
        b3 = (l.tape 3).report;
      }
  unfolding reports_word drive_of pick
  reports_said b agreed =
      let said = reports_agree l b.selected b.drives agreed.drives in
      ap₂
      (λ (n m : ℕ).
      record { b0 = n; b1 = m; b2 = (drive_of b.drives 2).report; b3 = (drive_of b.drives 3).report })
      (said 0 (omega arith)) (said 1 (omega arith))
      ∙ ap₂ (λ (n m : ℕ). record { b0 = (l.tape 0).report; b1 = (l.tape 1).report; b2 = n; b3 = m })
      (said 2 (omega arith)) (said 3 (omega arith))

  asked_said : (f : Wire) (b : Body) (n : ℕ) → Flags f b → Agreed l w b → load_word b n ≡ word_asked f l w n
  unfolding load_word word_asked
  asked_said f b n flags agreed =
      ap (pick (eqb n 0) _)
      (ap₂ (pick (eqb n 1)) (primary_said f b flags agreed)
      (ap₂ (pick (eqb n 2)) (secondary_said b agreed)
      (ap₂ (pick (eqb n 3)) (ap (λ (v : Words). v.tertiary) agreed.words)
      (ap₂ (pick (eqb n 4)) (reports_said b agreed) (ap (λ (v : Words). v.quintary) agreed.words)))))

  string_said : (lead : ℕ) (word : Word) → string_of lead word ≡ string_with lead word
  unfolding string_of string_with
  string_said lead word = refl

  string_with_checks : (lead : ℕ) (word : Word) → xor_of (string_with lead word) ≡ 0
  string_with_checks lead word =
      ap (λ (x : Frame). xor_of x) (sym (string_said lead word)) ∙ string_checks lead word

  -- ---- review

  reviewed_flags : (f : Wire) (b : Body) → Flags f b → Agreeing l (review b) → Flags (reviewed f l) (review b)
  unfolding review reviewed any_differs drive_of pick
  reviewed_flags f b flags agrees =
      let copied : (d : ℕ) → d ≤ 3 → drive_of (copy_reports b.drives) d ≡ copy_report (drive_of b.drives d) =
      reviewed_drive b.drives in
      let said : (d : ℕ) → d ≤ 3 → (drive_of b.drives d).report ≡ (l.tape d).report =
      λ d low. sym (ap (λ (x : Drive). x.report) (copied d low)) ∙ reports_agree l _ _ agrees d low in
      let unlike : (d : ℕ) → d ≤ 3
      → not (eqb (drive_of b.drives d).report (drive_of b.drives d).reviewed) ≡ differs f l d =
      λ d low. ap₂ (λ (n m : ℕ). not (eqb n m)) (said d low) (flags.copy d low) in
      record {
        changed =
            ap₂ ◌||◌ flags.changed
            (ap₂ ◌||◌ (ap₂ ◌||◌ (ap₂ ◌||◌ (unlike 0 (omega arith)) (unlike 1 (omega arith))) (unlike 2 (omega arith)))
            (unlike 3 (omega arith)));
        enable = flags.enable;
        copy = λ d low. ap (λ (x : Drive). x.reviewed) (copied d low) ∙ said d low;
      }

  pub idle_told : (f : Wire) (b : Body) (action : Action) → Flags f b → strings_of action ≡ []
      → Tells (reviewed f l) (idle b action)
  unfolding idle awaited_in HeldChecks AllCheck reviewed
  idle_told f b action flags none agreed =
      record {
        flags = reviewed_flags f b flags agreed.drives;
        awaited = refl;
        sends = none;
        checks = tt;
        held = tt;
      }

  -- ---- what is sent

  sent_told : (f : Wire) (b : Body) (kind : Kind) (lead : ℕ) (word said : Word) → Flags f b → word ≡ said
      → Told (speaks f kind (string_with lead said) 0) (send_word b kind lead word)
  unfolding send_word awaited_in HeldChecks AllCheck strings_of
  sent_told f b kind lead word said flags same =
      let string : string_of lead word ≡ string_with lead said =
      string_said lead word ∙ ap (string_with lead) same in
      record {
        flags = flags;
        awaited = ap (λ (x : Frame). sent (record { kind = kind; bytes = x; noes = 0 })) (sym string);
        sends = ap (λ (x : Frame). x ∷ []) string;
        checks = (string_with_checks lead said, tt);
        held = string_with_checks lead said;
      }

  interrupts_told : (f : Wire) (b : Body) (kind : Kind) → Flags f b → Agreed l w b
      → Told (interrupts f l w kind) (send_word b kind interrupt (primary_now b))
  unfolding interrupts
  interrupts_told f b kind flags agreed = sent_told f b kind 0x69 _ _ flags (primary_said f b flags agreed)

  informs_told : (f : Wire) (b : Body) → Flags f b → Agreed l w b → Told (informs f l w) (send_interrupt b)
  unfolding informs send_interrupt
  informs_told f b flags agreed =
      pick_alike Told w.outcome.counted b.outcome.counted
      (sym (ap (λ (v : Words). v.outcome.counted) agreed.words))
      (λ counted. sent_told f b Secondary 0x68 _ _ flags (secondary_said b agreed))
      (λ none. interrupts_told f b Completion flags agreed)

  informed_body : (b : Body) → (send_interrupt b).body ≡ b
  unfolding send_interrupt send_word
  informed_body b =
      pick_by (λ (t : Transition). t.body ≡ b) b.outcome.counted (λ counted. refl) (λ none. refl)

  pub completed_told : (f : Wire) (b : Body) (asked : Bool) → Flags f b
      → Tells (completes f l w asked) (complete b asked)
  unfolding completes complete strings_of HeldChecks AllCheck
  completed_told f b asked flags =
      pick_pair Tells asked
      (λ yes agreed.
      let cleared = with_flags (review b) (review b).changed false in
      let now : Agreed l w cleared = subst (Agreed l w) (informed_body cleared) agreed in
      let fresh_flags = reviewed_flags f b flags now.drives in
      informs_told _ cleared
      (record { changed = fresh_flags.changed; enable = refl; copy = fresh_flags.copy }) now)
      (λ no. idle_told f b Nothing flags refl)

  handed_told : (f : Wire) (t : Transition) (final : ResultRecord) → Tells f t → Tells f (hand_back t final)
  handed_told f t final tells agreed =
      let told = tells agreed in
      record {
        flags = told.flags;
        awaited = told.awaited;
        sends = told.sends;
        checks = told.checks;
        held = told.held;
      }

  pub settled_told : (f : Wire) (b : Body) (store : Store) → Flags f b
      → Tells (completes f l w (asks store)) (settle b store)
  unfolding settle asks_interrupt
  settled_told f b store flags = handed_told _ _ _ (completed_told f b (asks store) flags)

  pub ended_told : (f : Wire) (b : Body) (store : Store) (code : ℕ) → Flags f b
      → Tells (completes f l w (asks store)) (end_with b store code)
  unfolding end_with
  ended_told f b store code flags =
      settled_told f (with_outcome b (with_code b.outcome code)) store flags

  pub given_up_told : (f : Wire) (b : Body) (kind : Kind) → Flags f b → Tells (given_up f l kind) (give_up b kind)
  unfolding given_up give_up strings_of HeldChecks AllCheck
  given_up_told f b Load flags = idle_told f b Nothing flags refl
  given_up_told f b Secondary flags = idle_told f b Nothing flags refl
  given_up_told f b Completion flags = idle_told f b Nothing flags refl
  given_up_told f b Change flags =
      idle_told (flagged f f.changed false) (with_flags b b.changed false) Nothing
      (record { changed = flags.changed; enable = refl; copy = flags.copy }) refl

  accepted_told : (f : Wire) (b : Body) (kind : Kind) → Flags f b → Tells (accepted f l w kind) (yes_to_send b kind)
  unfolding accepted yes_to_send send_word strings_of HeldChecks AllCheck
  accepted_told f b Load flags = idle_told f b Nothing flags refl
  accepted_told f b Secondary flags = interrupts_told f b Completion flags
  accepted_told f b Completion flags =
      idle_told (flagged f false f.enable) (with_flags b false b.enable) Nothing
      (record { changed = refl; enable = flags.enable; copy = flags.copy }) refl
  accepted_told f b Change flags =
      idle_told (flagged f false false) (with_flags b false false) Nothing
      (record { changed = refl; enable = refl; copy = flags.copy }) refl

  pub answered_told : (f : Wire) (b : Body) (value : ℕ) (s : Send) → Flags f b → xor_of s.bytes ≡ 0
      → Tells (answered f l w value s) (answer_to_send b value s)
  unfolding answered answer_to_send no_to_send awaited_in HeldChecks AllCheck strings_of
  answered_told f b value s flags xor =
      pick_pair Tells (eqb value 0x06) (λ accepts. accepted_told f b s.kind flags)
      (λ refuses.
      pick_pair Tells (eqb s.noes 4) (λ fifth. given_up_told f b s.kind flags)
      (λ again agreed. record { flags = flags; awaited = refl; sends = refl; checks = (xor, tt); held = xor }))

  tick_body : (b : Body) (phase : Phase) → (idle_tick b phase).body ≡ review b
  unfolding idle_tick tick_after_review send_word
  tick_body b phase =
      pick_by (λ (t : Transition). t.body ≡ review b) ((review b).changed && (review b).enable) (λ due. refl)
      (λ none. refl)

  pub tick_told : (f : Wire) (b : Body) (s : Collected) → Flags f b → Tells (ticks f l w) (idle_tick b (Collecting s))
  unfolding ticks idle_tick tick_after_review awaited_in strings_of reviewed HeldChecks AllCheck
  tick_told f b s flags agreed =
      let now : Agreed l w (review b) = subst (Agreed l w) (tick_body b (Collecting s)) agreed in
      let later = reviewed_flags f b flags now.drives in
      pick_alike Told ((reviewed f l).changed && (reviewed f l).enable) ((review b).changed && (review b).enable)
      (sym (ap₂ ◌&&◌ later.changed later.enable))
      (λ due. interrupts_told (reviewed f l) (review b) Change later now)
      (λ none. record { flags = later; awaited = refl; sends = refl; checks = tt; held = tt })

  pub loaded_told : (f : Wire) (b : Body) (address : ℕ) → Flags f b
      → Tells (replies f l w (address / 16 % 8)) (carry_out_load b address)
  unfolding replies carry_out_load send_word strings_of HeldChecks AllCheck
  loaded_told f b address flags =
      pick_pair Tells (eqb (address / 16 % 8) 6) (λ six. idle_told f b Nothing flags refl)
      (λ below. pick_pair Tells (eqb (address / 16 % 8) 7) (λ seven. idle_told f b Nothing flags refl)
      (λ other agreed. sent_told f b Load 0x66 _ _ flags (asked_said f b (address / 16 % 8) flags agreed)))

  -- ---- a byte of a string from the host

  module _ (f : Wire) (b : Body) (flags : Flags f b) where
    abbrev Collects : Transition → Type 0
    Collects t = Tells (collects f l t.action) t

    kept_told : (s : Collected) (agreed : Agreed l w b)
        → Told (quiet f nothing) (record { body = b; phase = Collecting s; action = Nothing; handed = None })
    unfolding awaited_in strings_of HeldChecks AllCheck
    kept_told s agreed = record { flags = flags; awaited = refl; sends = refl; checks = tt; held = tt }

    wrong_told : Collects (idle b (Byte nack))
    unfolding collects idle strings_of pick HeldChecks AllCheck
    wrong_told = idle_told f b (Byte nack) flags refl

    pub byte_told : (s : Collected) (value : ℕ) → Collects (collect_byte b s value)
    unfolding collect_byte first_byte next_byte last_byte collects awaited_in strings_of pick HeldChecks AllCheck
    byte_told s value =
        pick_by Collects (eqb s.length 0)
        (λ first.
        pick_by Collects (eqb value load_lead || eqb value store_lead) (λ lead. kept_told _)
        (λ other. pick_by Collects (eqb value nack) (λ ignored. kept_told _) (λ wrong. wrong_told)))
        (λ further.
        pick_by Collects (eqb (s.length + 1) (whole_length s.c0))
        (λ last.
        pick_by Collects (is_good_string (append_byte s value))
        (λ good agreed. record { flags = flags; awaited = refl; sends = refl; checks = tt; held = tt })
        (λ bad. wrong_told))
        (λ part. kept_told _))
