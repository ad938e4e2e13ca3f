-- Two states that are alike for a drive, both idle or both in the midst of the same store of that drive, answer every
-- call of a transaction alike: both refuse it or neither does, and the next states are alike again. Of the rest of the
-- state only what is damaged in it must be.
-- Assumes nothing.
use mathlib.Core.Path.{◌≡◌, refl, sym, ap, ap₂, subst, ◌∙◌}
use Prim.Native.Nat.{ℕ, ◌≤◌, ◌+◌, ◌/◌, ◌%◌}
use native.Mathlib.Omega.{arith}
use mathlib.Core.Bool.{Bool, true, false, not, ◌&&◌, ◌||◌, false≢true, true≢false}
use mathlib.Core.List.{List, [], ◌∷◌}
use lib.Dec.{leb, eqb}
use lib.ListN.{length}
use borrow.Author.Tests.{eqb-true, eqb-false, leb-false}
use Rattle.common.specs.Pick.{pick}
use Rattle.common.proofs.PickLaws.{by_test, both_hold, pick_yes, pick_no}
use Rattle.status.specs.declared.drives.Drive.{Drive}
use Rattle.status.specs.Drives.{Drives}
use Rattle.status.specs.declared.words.Word.{Word}
use Rattle.status.specs.declared.words.ResultRecord.{ResultRecord}
use Rattle.link.specs.declared.frames.Frame.{Frame}
use Rattle.status.specs.Drives.{drive_of, with_drive, with_gap, with_track, with_guard, with_density, copy_report}
use Rattle.status.specs.Drives.{reports}
use Rattle.status.specs.Drives.{bot, gap_proper, gap_lost}
use Rattle.status.specs.Words.{no_outcome}
use Rattle.status.proofs.DriveLaws.{put_same, put_other, reviewed_drive}
use Rattle.operations.specs.declared.operation.Operation.{Operation}
use Rattle.operations.specs.declared.operation.Operation.TheVariants.{CheckBytes, Write}
use Rattle.operations.specs.declared.decode.Decoded.{Decoded}
use Rattle.operations.specs.declared.decode.Decoded.TheVariants.{Reset, Code, Track, Enable, Guard, Density, Operate}
use Rattle.operations.specs.declared.course.Course.{Course}
use Rattle.operations.specs.declared.store.Store.{Store}
use Rattle.operations.specs.Codes.{illegal_motion, no_go}
use Rattle.operations.specs.Operation.{same_operation, move_of, counts_bytes, offers_end}
use Rattle.operations.specs.Test.{may_move}
use Rattle.operations.specs.Store.{asks_interrupt, names_drive, named_drive, names_unknown, selected_by, asked_for}
use Rattle.operations.specs.Store.{asked_in}
use Rattle.operations.specs.Course.{test_of, course_of}
use Rattle.operations.specs.After.{motion_of}
use Rattle.link.specs.declared.state.Collected.{Collected}
use Rattle.link.specs.declared.state.Kind.{Kind}
use Rattle.link.specs.declared.state.Kind.TheVariants.{Load, Secondary, Completion, Change}
use Rattle.link.specs.declared.state.Phase.{Phase}
use Rattle.link.specs.declared.state.Phase.TheVariants.{Collecting, AckOffered, Sending, GoOffered, DataAwaited}
use Rattle.link.specs.declared.state.Phase.TheVariants.{ResultAwaited, EndOffered}
use Rattle.link.specs.declared.state.Body.{Body}
use Rattle.link.specs.declared.state.Action.{Action}
use Rattle.link.specs.declared.state.Action.TheVariants.{Nothing}
use Rattle.link.specs.State.{Transition}
use Rattle.link.specs.Bytes.{ack, nack, load_lead, store_lead, most_noes}
use Rattle.link.specs.State.{store_of, with_selected, with_flags, current_drive, review, idle, offered}
use Rattle.link.specs.State.{nothing_collected}
use Rattle.link.specs.Completion.{send_word, send_interrupt, complete}
use Rattle.link.specs.Link.{whole_length, append_byte, is_good_string, first_byte, last_byte, next_byte, yes_to_send}
use Rattle.link.specs.Link.{give_up}
use Rattle.link.specs.Link.{no_to_send, collect_byte, answer_to_send}
use Rattle.link.specs.Loads.{carry_out_load}
use Rattle.link.specs.Damaged.{sound_drive, sound_drives, sound_body, sound_part, sound_phase, is_sound}
use Rattle.transfers.specs.Results.{Verdict}
use Rattle.transfers.specs.Data.{Host, data_refusal, data_words, settle_data}
use Rattle.transfers.specs.Results.{Result, result_refusal, is_gone, reads_gcr, verdict_of, wrote_well, result_count}
use Rattle.transfers.specs.Results.{result_bits, with_retry, result_words, result_gap, settle_result}
use Rattle.controller.specs.declared.controller.Controller.{Controller}
use Rattle.controller.specs.Told.{Reply}
use Rattle.controller.specs.Controller.{carried, refused, is_idle_in}
use Rattle.controller.specs.Stores.{settle, end_with, end_operation, order_move, past_test, begin, follow}
use Rattle.controller.specs.Stores.{clear_outcome, carry_out_on, carry_out, no_to_go, yes_to_go, answer_to_go}
use Rattle.controller.specs.Records.{Answer, words_of, with_after, data_done, result_done}
use Rattle.controller.specs.Machine.{byte_in, broken_in, hand_in, taken_in, data_for, data_in, result_for, result_in}
use Rattle.controller.specs.Machine.{byte_call, broken_call, hand_call, taken_call, data_call, result_call}
use Rattle.controller.specs.Machine.{carry_out_string, plain, unchanged, Call, Exchange, step, run}
use Rattle.controller.specs.Machine.Call.{byte, taken, broken, report, host_data, result, tick, reset, hand}
use Rattle.controller.specs.Lists.{not_refused, holds_store, held_store, brings_store, store_brought, carries_out}
use Rattle.controller.specs.Lists.{after}
use Rattle.controller.specs.Separation.{asks_reset, resets, is_reset, admits, admitted_from}
use Rattle.controller.specs.JobOrder.{stores_from, is_report, reports_fixed}
use Rattle.controller.specs.AnyOrder.{is_own, all_own}
use Rattle.operations.proofs.DensityLaws.{by_density}
use Rattle.controller.proofs.Steps.{stated}

-- a claim of two choices by the same test
pick_two : {A : Type 0} (P : A → A → Type 0) (t u : Bool) {x y z w : A} → t ≡ u → (t ≡ true → P x z)
    → (t ≡ false → P y w) → P (pick t x y) (pick u z w)
unfolding pick
pick_two P true true same f g = f refl
pick_two P false false same f g = g refl
pick_two P true false same f g = absurd (true≢false same)
pick_two P false true same f g = absurd (false≢true same)

-- ---- alike

-- of the drive all but the reviewed copy is the same; the tests of damage have the same outcomes
pub record Bodies (d : ℕ) (all more : Drives) (chosen too : ℕ) (r s : ResultRecord) : Type 0 where
  pub own : d ≤ 3 → copy_report (drive_of all d) ≡ copy_report (drive_of more d)
  pub drives : (e : ℕ)
      → e ≤ 3 → sound_drive (copy_report (drive_of all e)) ≡ sound_drive (copy_report (drive_of more e))
  pub selected : leb chosen 3 ≡ leb too 3
  pub motion : leb r.motion 3 ≡ leb s.motion 3
  pub code : leb r.code 31 ≡ leb s.code 31
  pub count : leb r.count 65535 ≡ leb s.count 65535

abbrev pub BodiesOf : ℕ → Body → Body → Type 0
BodiesOf d b o = Bodies d b.drives o.drives b.selected o.selected b.outcome.result o.outcome.result

-- in the midst of a store of the drive
pub record Chosen (d n m : ℕ) (k l : Bool) : Type 0 where
  pub low : d ≤ 3
  pub one : n ≡ d
  pub two : m ≡ d
  pub counted : k ≡ l

abbrev pub ChosenOf : ℕ → Body → Body → Type 0
ChosenOf d b o = Chosen d b.selected o.selected b.outcome.counted o.outcome.counted

-- the same in hand, but for the bytes of a string that is sent and what is left of one that was collected
pub data Phases (d n m : ℕ) (k l : Bool) : Phase → Phase → Type 0 where
  idling : (s t : Collected) → eqb s.length 0 ≡ true → eqb t.length 0 ≡ true
      → Phases d n m k l (Collecting s) (Collecting t)
  collecting : (s : Collected) → Phases d n m k l (Collecting s) (Collecting s)
  offering : (s : Collected) → Phases d n m k l (AckOffered s) (AckOffered s)
  sending : (kind : Kind) (noes : ℕ) (bytes more : Frame)
      → Phases d n m k l (Sending (record { kind = kind; bytes = bytes; noes = noes }))
      (Sending (record { kind = kind; bytes = more; noes = noes }))
  going : (store : Store) → Chosen d n m k l → Phases d n m k l (GoOffered store) (GoOffered store)
  writing : (store : Store) → Chosen d n m k l → Phases d n m k l (DataAwaited store) (DataAwaited store)
  moving : (operation : Operation) (store : Store) → Chosen d n m k l
      → Phases d n m k l (ResultAwaited operation store) (ResultAwaited operation store)
  ending : (interrupt : Bool) → k ≡ l → Phases d n m k l (EndOffered interrupt) (EndOffered interrupt)

abbrev pub PhasesOf : ℕ → Body → Body → Phase → Phase → Type 0
PhasesOf d b o p q = Phases d b.selected o.selected b.outcome.counted o.outcome.counted p q

pub record Alike (d : ℕ) (c other : Controller) : Type 0 where
  pub bodies : BodiesOf d c.body other.body
  pub phases : PhasesOf d c.body other.body c.phase other.phase

abbrev Transitions : ℕ → Transition → Transition → Type 0
Transitions d t u = Alike d (stated t.body t.phase) (stated u.body u.phase)

-- ---- damage

module _ (d : ℕ) (b o : Body) (alike : BodiesOf d b o) where
  pub body_damage : sound_body b ≡ sound_body o
  unfolding sound_body sound_drives sound_drive drive_of pick
  body_damage =
      let test0 = alike.drives 0 (omega arith) in
      let test1 = alike.drives 1 (omega arith) in
      let test2 = alike.drives 2 (omega arith) in
      let test3 = alike.drives 3 (omega arith) in
      ap₂ (λ (s t : Bool). s && t) (ap₂ (λ (s t : Bool). s && t) test0
      (ap₂ (λ (s t : Bool). s && t) test1 (ap₂ (λ (s t : Bool). s && t) test2 test3)))
      (ap₂ (λ (s t : Bool). s && t) alike.selected
      (ap₂ (λ (s t : Bool). s && t) alike.motion (ap₂ (λ (s t : Bool). s && t) alike.code alike.count)))

phase_damage : {d n m : ℕ} {k l : Bool} {p q : Phase} → Phases d n m k l p q → sound_phase p ≡ sound_phase q
unfolding sound_phase sound_part
phase_damage (idling s t none nothing) = rw (none, nothing)
phase_damage (collecting s) = refl
phase_damage (offering s) = refl
phase_damage (sending kind noes bytes more) = refl
phase_damage (going store chosen) = refl
phase_damage (writing store chosen) = refl
phase_damage (moving operation store chosen) = refl
phase_damage (ending interrupt same) = refl

pub damage : (d : ℕ) (c o : Controller) → Alike d c o → is_sound c.body c.phase ≡ is_sound o.body o.phase
unfolding is_sound
damage d c o alike =
    ap₂ (λ (s t : Bool). s && t) (body_damage d c.body o.body alike.bodies) (phase_damage alike.phases)

-- ---- steps of the link

-- a review copies reports
pub copied : (b : Body) (e : ℕ) → e ≤ 3 → copy_report (drive_of (review b).drives e) ≡ copy_report (drive_of b.drives e)
unfolding review
copied b e few = ap (λ (x : Drive). copy_report x) (reviewed_drive b.drives e few)

module _ (d : ℕ) where
  reviewed : (b o : Body) → BodiesOf d b o → BodiesOf d (review b) (review o)
  unfolding review
  reviewed b o alike =
      record {
        own = λ low. copied b d low ∙ alike.own low ∙ sym (copied o d low);
        drives = λ e few. ap sound_drive (copied b e few) ∙ alike.drives e few ∙ sym (ap sound_drive (copied o e few));
        selected = alike.selected;
        motion = alike.motion;
        code = alike.code;
        count = alike.count;
      }

  idles : (b o : Body) (action other : Action) → BodiesOf d b o → Transitions d (idle b action) (idle o other)
  unfolding idle
  idles b o action other alike = record { bodies = reviewed b o alike; phases = collecting nothing_collected }

  sends : (b o : Body) (kind : Kind) (lead : ℕ) (word other : Word) → BodiesOf d b o
      → Transitions d (send_word b kind lead word) (send_word o kind lead other)
  unfolding send_word
  sends b o kind lead word other alike = record { bodies = alike; phases = sending kind 0 _ _ }

  interrupts : (b o : Body) → BodiesOf d b o → b.outcome.counted ≡ o.outcome.counted
      → Transitions d (send_interrupt b) (send_interrupt o)
  unfolding send_interrupt
  interrupts b o alike counted =
      pick_two (Transitions d) b.outcome.counted o.outcome.counted counted
      (λ yes. sends b o Secondary _ _ _ alike) (λ no. sends b o Completion _ _ _ alike)

  completed : (b o : Body) (interrupt : Bool) → BodiesOf d b o → b.outcome.counted ≡ o.outcome.counted
      → Transitions d (complete b interrupt) (complete o interrupt)
  unfolding complete review
  completed b o interrupt alike counted =
      pick_two (Transitions d) interrupt interrupt refl (λ yes. interrupts _ _ (reviewed b o alike) counted)
      (λ no. idles b o Nothing Nothing alike)

  given_up_lem : (b o : Body) (kind : Kind) → BodiesOf d b o → Transitions d (give_up b kind) (give_up o kind)
  unfolding give_up
  given_up_lem b o Load alike = idles b o Nothing Nothing alike
  given_up_lem b o Secondary alike = idles b o Nothing Nothing alike
  given_up_lem b o Completion alike = idles b o Nothing Nothing alike
  given_up_lem b o Change alike =
      idles (with_flags b b.changed false) (with_flags o o.changed false) Nothing Nothing alike

  accepted : (b o : Body) (kind : Kind) → BodiesOf d b o → Transitions d (yes_to_send b kind) (yes_to_send o kind)
  unfolding yes_to_send
  accepted b o Load alike = idles b o Nothing Nothing alike
  accepted b o Secondary alike = sends b o Completion _ _ _ alike
  accepted b o Completion alike =
      idles (with_flags b false b.enable) (with_flags o false o.enable) Nothing Nothing alike
  accepted b o Change alike = idles (with_flags b false false) (with_flags o false false) Nothing Nothing alike

  answered : (b o : Body) (value : ℕ) (kind : Kind) (noes : ℕ) (bytes more : Frame) → BodiesOf d b o
      → Transitions d (answer_to_send b value (record { kind = kind; bytes = bytes; noes = noes }))
      (answer_to_send o value (record { kind = kind; bytes = more; noes = noes }))
  unfolding answer_to_send no_to_send
  answered b o value kind noes bytes more alike =
      pick_two (Transitions d) (eqb value ack) (eqb value ack) refl (λ yes. accepted b o kind alike)
      (λ no. pick_two (Transitions d) (eqb noes most_noes) (eqb noes most_noes)
      refl (λ most. given_up_lem b o kind alike)
      (λ again. record { bodies = alike; phases = sending kind (noes + 1) bytes more }))

  first : (b o : Body) (s t : Collected) (value : ℕ) → BodiesOf d b o → PhasesOf d b o (Collecting s) (Collecting t)
      → Transitions d (first_byte b s value) (first_byte o t value)
  unfolding first_byte
  first b o s t value alike kept =
      let starts = eqb value load_lead || eqb value store_lead in
      pick_two (Transitions d) starts starts refl (λ yes. record { bodies = alike; phases = collecting _ })
      (λ no. pick_two (Transitions d) (eqb value nack) (eqb value nack) refl
      (λ ignored. record { bodies = alike; phases = kept }) (λ wrong. idles b o _ _ alike))

  further : (b o : Body) (s : Collected) (value : ℕ) → BodiesOf d b o
      → Transitions d (next_byte b s value) (next_byte o s value)
  unfolding next_byte last_byte
  further b o s value alike =
      let whole = eqb (s.length + 1) (whole_length s.c0) in
      let good = is_good_string (append_byte s value) in
      pick_two (Transitions d) whole whole refl
      (λ last. pick_two (Transitions d) good good refl (λ yes. record { bodies = alike; phases = offering _ })
      (λ no. idles b o _ _ alike))
      (λ more. record { bodies = alike; phases = collecting _ })

  loads : (b o : Body) (address : ℕ)
      → BodiesOf d b o → Transitions d (carry_out_load b address) (carry_out_load o address)
  unfolding carry_out_load
  loads b o address alike =
      let six = eqb (address / 16 % 8) 6 in
      let seven = eqb (address / 16 % 8) 7 in
      pick_two (Transitions d) six six refl (λ yes. idles b o _ _ alike)
      (λ no. pick_two (Transitions d) seven seven refl (λ yes. idles b o _ _ alike)
      (λ other. sends b o Load _ _ _ alike))

  -- ---- steps of a store

  -- another record for the selected drive
  placed : (b o : Body) (x y : Drive) → BodiesOf d b o → ChosenOf d b o → copy_report x ≡ copy_report y
      → Bodies d (with_drive b.drives b.selected x) (with_drive o.drives o.selected y) b.selected
      o.selected b.outcome.result o.outcome.result
  placed b o x y alike chosen same =
      let low = chosen.low in
      let put : (c : Body) (z : Drive) → c.selected ≡ d
      → copy_report (drive_of (with_drive c.drives c.selected z) d) ≡ copy_report z =
      λ c z e. ap (λ (n : ℕ). copy_report (drive_of (with_drive c.drives n z) d)) e ∙ ap (λ (w : Drive). copy_report w)
      (put_same c.drives z d low)
      in
      let left : (c : Body) (z : Drive) (e : ℕ) → c.selected ≡ d → e ≤ 3 → (d ≡ e → ⊥)
      → copy_report (drive_of (with_drive c.drives c.selected z) e) ≡ copy_report (drive_of c.drives e) =
      λ c z e at few other. ap (λ (n : ℕ). copy_report (drive_of (with_drive c.drives n z) e)) at
      ∙ ap (λ (w : Drive). copy_report w) (put_other c.drives z d e low few other)
      in
      let own = put b x chosen.one ∙ same ∙ sym (put o y chosen.two) in
      record {
        own = λ few. own;
        drives =
            λ e few. by_test (eqb d e)
            (λ is. subst (λ (n : ℕ). sound_drive (copy_report (drive_of (with_drive b.drives b.selected x) n))
            ≡ sound_drive (copy_report (drive_of (with_drive o.drives o.selected y) n))) (eqb-true d e is)
            (ap sound_drive own))
            (λ other. ap sound_drive (left b x e chosen.one few (eqb-false d e other)) ∙ alike.drives e few
            ∙ sym (ap sound_drive (left o y e chosen.two few (eqb-false d e other))));
        selected = alike.selected;
        motion = alike.motion;
        code = alike.code;
        count = alike.count;
      }

  settles : (b o : Body) (store : Store) → BodiesOf d b o → b.outcome.counted ≡ o.outcome.counted
      → Transitions d (settle b store) (settle o store)
  unfolding settle
  settles b o store alike counted =
      let ended = completed b o (asks_interrupt store) alike counted in
      record { bodies = ended.bodies; phases = ended.phases }

  -- another code, with motion 00
  coded : (b o : Body) (code : ℕ) → BodiesOf d b o
      → Bodies d b.drives o.drives b.selected o.selected
      (record { code = code; motion = 0; count = b.outcome.result.count })
      (record { code = code; motion = 0; count = o.outcome.result.count })
  coded b o code alike =
      record {
        own = alike.own;
        drives = alike.drives;
        selected = alike.selected;
        motion = refl;
        code = refl;
        count = alike.count;
      }

  ends : (b o : Body) (store : Store) (code : ℕ) → BodiesOf d b o → b.outcome.counted ≡ o.outcome.counted
      → Transitions d (end_with b store code) (end_with o store code)
  unfolding end_with
  ends b o store code alike counted = settles _ _ store (coded b o code alike) counted

  pub record Ready (b o : Body) : Type 0 where
    pub bodies : BodiesOf d b o
    pub chosen : ChosenOf d b o

  past : (b o : Body) (operation : Operation) → Ready b o → Ready (past_test b operation) (past_test o operation)
  unfolding past_test
  past b o operation ready =
      pick_two Ready (counts_bytes operation) (counts_bytes operation) refl
      (λ counts. record {
        bodies =
            record {
              own = ready.bodies.own;
              drives = ready.bodies.drives;
              selected = ready.bodies.selected;
              motion = ready.bodies.motion;
              code = ready.bodies.code;
              count = refl;
            };
        chosen = ready.chosen;
      })
      (λ none. ready)

  begins : (b o : Body) (operation : Operation) (store : Store) → Ready b o
      → Transitions d (begin b operation store) (begin o operation store)
  unfolding begin order_move
  begins b o operation store before =
      let ready = past b o operation before in
      let write = same_operation operation Write in
      let check = same_operation operation CheckBytes in
      pick_two (Transitions d) write write refl
      (λ yes. record { bodies = ready.bodies; phases = going store ready.chosen })
      (λ no. pick_two (Transitions d) check check refl
      (λ yes. record { bodies = ready.bodies; phases = moving CheckBytes store ready.chosen })
      (λ other. record { bodies = ready.bodies; phases = moving operation store ready.chosen }))

  tracked : (x y : Drive) (track : ℕ) → copy_report x ≡ copy_report y
      → copy_report (with_track x track) ≡ copy_report (with_track y track)
  unfolding with_track
  tracked x y track same =
      pick_two (λ (s t : Drive). copy_report s ≡ copy_report t) (eqb x.track track) (eqb y.track track)
      (ap (λ (z : Drive). eqb z.track track) same) (λ old. same)
      (λ new. ap (λ (z : Drive). record {
        report = z.report;
        reviewed = z.report;
        track = track;
        density = z.density;
        gap = pick (reports z.report bot) gap_proper gap_lost;
        guard = z.guard;
      }) same)

  -- by what is asked for
  follows : (b o : Body) (store : Store) (asked : Decoded) → asks_reset asked ≡ false → Ready b o
      → Transitions d (follow b store (course_of (drive_of b.drives d) asked))
      (follow o store (course_of (drive_of o.drives d) asked))
  unfolding follow course_of test_of asks_reset
  follows b o store Reset keeps ready = absurd (true≢false keeps)
  follows b o store (Code code) keeps ready = ends b o store code ready.bodies ready.chosen.counted
  follows b o store (Track track) keeps ready =
      settles _ _ store (placed b o _ _ ready.bodies ready.chosen
      (tracked _ _ track (ready.bodies.own ready.chosen.low))) ready.chosen.counted
  follows b o store (Enable enable) keeps ready =
      settles (with_flags b b.changed enable) (with_flags o o.changed enable) store ready.bodies
      ready.chosen.counted
  follows b o store (Guard guard) keeps ready =
      settles _ _ store (placed b o _ _ ready.bodies ready.chosen
      (ap (λ (x : Drive). with_guard x guard) (ready.bodies.own ready.chosen.low))) ready.chosen.counted
  follows b o store (Density density) keeps ready =
      settles _ _ store (placed b o _ _ ready.bodies ready.chosen
      (ap (λ (x : Drive). with_density x density) (ready.bodies.own ready.chosen.low))) ready.chosen.counted
  follows b o store (Operate operation) keeps ready =
      pick_two (λ (x y : Course). Transitions d (follow b store x) (follow o store y)) _ _
      (ap (λ (x : Drive). may_move (move_of operation) x.report x.guard x.gap)
      (ready.bodies.own ready.chosen.low))
      (λ may. begins b o operation store ready)
      (λ not. ends b o store illegal_motion ready.bodies ready.chosen.counted)

  pub record OfDrive (store : Store) : Type 0 where
    pub names : names_drive store ≡ true
    pub named : named_drive store ≡ d
    pub keeps : resets store ≡ false

  -- on the drive
  carries_on : (b o : Body) (store : Store) → d ≤ 3 → asks_reset (asked_for store) ≡ false → OfDrive store
      → BodiesOf d b o → Transitions d (carry_out_on (clear_outcome b) store d) (carry_out_on (clear_outcome o) store d)
  unfolding carry_out_on clear_outcome no_outcome asks_reset
  carries_on b o store low keeps mine alike =
      let asked : ℕ → Decoded = λ density. asked_in store density in
      let at = with_selected (clear_outcome b) d in
      let too = with_selected (clear_outcome o) d in
      let density = (drive_of b.drives d).density in
      let stays = by_density (λ (x : Decoded). asks_reset x ≡ false) density (asked_for store) keeps
      (λ operation is. refl) in
      subst (λ (n : ℕ). Transitions d (follow at store (course_of (drive_of b.drives d) (asked density)))
      (follow too store (course_of (drive_of o.drives d) (asked n))))
      (ap (λ (x : Drive). x.density) (alike.own low))
      (follows at too store (asked density) stays
      (record {
        bodies =
            record {
              own = alike.own;
              drives = alike.drives;
              selected = refl;
              motion = refl;
              code = refl;
              count = alike.count;
            };
        chosen = record { low = low; one = refl; two = refl; counted = refl };
      }))

  carries : (b o : Body) (store : Store) → OfDrive store → BodiesOf d b o
      → Transitions d (carry_out b store) (carry_out o store)
  unfolding carry_out clear_outcome selected_by no_outcome names_unknown resets
  carries b o store mine alike =
      let is : (n : ℕ) → selected_by store n ≡ d = λ n. pick_yes (named_drive store) n mine.names ∙ mine.named in
      let few : names_unknown store ≡ false → leb 4 (named_drive store) ≡ false = λ known.
      ap (λ (t : Bool). t && leb 4 (named_drive store)) (sym mine.names) ∙ known in
      let at = clear_outcome b in
      let too = clear_outcome o in
      pick_two (Transitions d) (names_unknown store) (names_unknown store) refl
      (λ unknown. ends at too store _
      (record {
        own = alike.own;
        drives = alike.drives;
        selected = alike.selected;
        motion = refl;
        code = refl;
        count = alike.count;
      }) refl)
      (λ known. subst (λ (n : ℕ). Transitions d (carry_out_on at store n)
      (carry_out_on too store (selected_by store o.selected))) (sym (is b.selected))
      (subst (λ (n : ℕ). Transitions d (carry_out_on at store d) (carry_out_on too store n)) (sym (is o.selected))
      (carries_on b o store (omega (arith, leb-false 4 (named_drive store) (few known), mine.named))
      (ap (λ (t : Bool). not t && asks_reset (asked_for store)) (sym (few known)) ∙ mine.keeps) mine alike)))

  go_refused : (b o : Body) (store : Store) → Ready b o → Transitions d (no_to_go b store) (no_to_go o store)
  unfolding no_to_go
  go_refused b o store ready =
      record { bodies = coded b o no_go ready.bodies; phases = ending (asks_interrupt store) ready.chosen.counted }

  go_answered_lem : (b o : Body) (value : ℕ) (store : Store) → Ready b o
      → Transitions d (answer_to_go b value store) (answer_to_go o value store)
  unfolding answer_to_go yes_to_go
  go_answered_lem b o value store ready =
      pick_two (Transitions d) (eqb value ack) (eqb value ack) refl
      (λ yes. record { bodies = ready.bodies; phases = writing store ready.chosen })
      (λ no. go_refused b o store ready)

  operation_ends : (b o : Body) (operation : Operation) (store : Store) → BodiesOf d b o
      → b.outcome.counted ≡ o.outcome.counted
      → Transitions d (end_operation b operation store) (end_operation o operation store)
  unfolding end_operation
  operation_ends b o operation store alike counted =
      pick_two (Transitions d) (offers_end operation) (offers_end operation) refl
      (λ offers. record { bodies = alike; phases = ending (asks_interrupt store) counted })
      (λ none. settles b o store alike counted)

  -- ---- calls

  pub record Answers (x y : Answer) : Type 0 where
    pub refusal : x.reply.refusal ≡ y.reply.refusal
    pub next : Alike d x.reply.controller y.reply.controller

  done : (t u : Transition) → Transitions d t u → Answers (plain (carried t)) (plain (carried u))
  done t u turns = record { refusal = refl; next = turns }

  turned : (number : ℕ) (space check : List ℕ) (c o : Controller) → Alike d c o
      → Answers (unchanged number c space check) (unchanged number o space check)
  turned number space check c o alike = record { refusal = refl; next = alike }

  -- the drive that is selected
  current : (b o : Body) → Ready b o → copy_report (current_drive b) ≡ copy_report (current_drive o)
  current b o ready =
      ap (λ (n : ℕ). copy_report (drive_of b.drives n)) ready.chosen.one ∙ ready.bodies.own ready.chosen.low
      ∙ sym (ap (λ (n : ℕ). copy_report (drive_of o.drives n)) ready.chosen.two)

  module _ (b o : Body) (store : Store) (ready : Ready b o) where
    wrote : (host : Host) (space check : List ℕ)
        → Answers (data_for (stated b (DataAwaited store)) b (current_drive b) store host space check)
        (data_for (stated o (DataAwaited store)) o (current_drive o) store host space check)
    unfolding data_for data_refusal data_done settle_data data_words order_move
    wrote host space check =
        let number : Drive → ℕ = λ drive. data_refusal drive store (length host.bytes) host.place (length space)
        (length check) in
        let same : number (current_drive b) ≡ number (current_drive o) = ap number (current b o ready) in
        pick_two Answers (eqb (number (current_drive b)) 0) (eqb (number (current_drive o)) 0)
        (ap (λ (n : ℕ). eqb n 0) same)
        (λ good. record {
          refusal = refl;
          next = record { bodies = ready.bodies; phases = moving Write store ready.chosen };
        })
        (λ bad. record {
          refusal = same;
          next = record { bodies = ready.bodies; phases = writing store ready.chosen };
        })

    counts : (verdict : Verdict) (operation : Operation) (n m : ℕ) → leb n 65535 ≡ leb m 65535
        → leb (result_count verdict operation store n) 65535 ≡ leb (result_count verdict operation store m) 65535
    unfolding result_count
    counts verdict operation n m same =
        let P : ℕ → ℕ → Type 0 = λ x y. leb x 65535 ≡ leb y 65535 in
        pick_two P verdict.supplied verdict.supplied refl (λ yes. refl)
        (λ no. pick_two P verdict.used verdict.used refl (λ yes. refl)
        (λ no. pick_two P (wrote_well operation verdict.code) (wrote_well operation verdict.code) refl (λ yes. refl)
        (λ no. same)))

    moved : (operation : Operation) (r : Result) (space check : List ℕ)
        → Answers (result_for (stated b (ResultAwaited operation store)) b (current_drive b)
        operation store r space check)
        (result_for (stated o (ResultAwaited operation store)) o (current_drive o) operation store r space check)
    unfolding result_for result_refusal result_done settle_result result_words result_bits with_retry verdict_of is_gone
        reads_gcr result_gap
    moved operation r space check =
        let number : Drive → ℕ = λ drive. result_refusal drive operation store r (length check) in
        let same : number (current_drive b) ≡ number (current_drive o) = ap number (current b o ready) in
        let verdict : Drive → Verdict = λ drive. verdict_of drive operation store r in
        let verdicts : verdict (current_drive b) ≡ verdict (current_drive o) = ap verdict (current b o ready) in
        let after_of : Body → Body = λ x. with_after x
        (settle_result (words_of x) (current_drive x) operation store r (length space) check) in
        let at = placed b o (with_gap (current_drive b)
        (result_gap (current_drive b) operation (verdict (current_drive b)).code))
        (with_gap (current_drive o) (result_gap (current_drive o) operation (verdict (current_drive o)).code))
        ready.bodies ready.chosen
        (ap (λ (x : Drive). with_gap x (result_gap x operation (verdict x).code)) (current b o ready)) in
        pick_two Answers (eqb (number (current_drive b)) 0) (eqb (number (current_drive o)) 0)
        (ap (λ (n : ℕ). eqb n 0) same)
        (λ good. record {
          refusal = refl;
          next = operation_ends (after_of b) (after_of o) operation store
              (record {
                own = at.own;
                drives = at.drives;
                selected = at.selected;
                motion = ap (λ (v : Verdict). leb (motion_of (move_of operation) v.code) 3) verdicts;
                code = ap (λ (v : Verdict). leb v.code 31) verdicts;
                count =
                    ap (λ (v : Verdict). leb (result_count v operation store b.outcome.result.count) 65535) verdicts
                    ∙ counts (verdict (current_drive o)) operation _ _ ready.bodies.count;
              })
              (ap₂ (λ (t : Bool) (v : Verdict). t || (v.supplied || (v.used || wrote_well operation v.code)))
              ready.chosen.counted verdicts);
        })
        (λ bad. record {
          refusal = same;
          next = record { bodies = ready.bodies; phases = moving operation store ready.chosen };
        })

  module _ (b o : Body) (alike : BodiesOf d b o) where
    byte_in_lem : {p q : Phase} (value : ℕ) → PhasesOf d b o p q
        → Answers (plain (byte_in (stated b p) b value p)) (plain (byte_in (stated o q) o value q))
    unfolding byte_in collect_byte
    byte_in_lem value (idling s t none nothing) =
        done _ _ (pick_two (Transitions d) _ _ (none ∙ sym nothing)
        (λ yes. first b o s t value alike (idling s t none nothing)) (λ no. absurd (false≢true (sym no ∙ none))))
    byte_in_lem value (collecting s) =
        done _ _ (pick_two (Transitions d) (eqb s.length 0) (eqb s.length 0) refl
        (λ yes. first b o s s value alike (collecting s)) (λ no. further b o s value alike))
    byte_in_lem value (offering s) = done _ _ (idles b o _ _ alike)
    byte_in_lem value (sending kind noes bytes more) = done _ _ (answered b o value kind noes bytes more alike)
    byte_in_lem value (going store chosen) =
        done _ _ (go_answered_lem b o value store (record { bodies = alike; chosen = chosen }))
    byte_in_lem value (writing store chosen) =
        turned _ [] [] _ _ (record { bodies = alike; phases = writing store chosen })
    byte_in_lem value (moving operation store chosen) =
        turned _ [] [] _ _ (record { bodies = alike; phases = moving operation store chosen })
    byte_in_lem value (ending interrupt same) = done _ _ (completed b o interrupt alike same)

    broken_in_lem : {p q : Phase} → PhasesOf d b o p q
        → Answers (plain (broken_in (stated b p) b p)) (plain (broken_in (stated o q) o q))
    unfolding broken_in
    broken_in_lem (idling s t none nothing) = done _ _ (idles b o _ _ alike)
    broken_in_lem (collecting s) = done _ _ (idles b o _ _ alike)
    broken_in_lem (offering s) = done _ _ (idles b o _ _ alike)
    broken_in_lem (sending kind noes bytes more) = done _ _ (given_up_lem b o kind alike)
    broken_in_lem (going store chosen) = done _ _ (go_refused b o store (record { bodies = alike; chosen = chosen }))
    broken_in_lem (writing store chosen) = turned _ [] [] _ _ (record { bodies = alike; phases = writing store chosen })
    broken_in_lem (moving operation store chosen) =
        turned _ [] [] _ _ (record { bodies = alike; phases = moving operation store chosen })
    broken_in_lem (ending interrupt same) = done _ _ (completed b o interrupt alike same)

    taken_in_lem : {p q : Phase} → PhasesOf d b o p q
        → ((taken_in (stated b p) b p).refusal ≡ 0 → holds_store (stated b p) ≡ true
        → OfDrive (held_store (stated b p)))
        → Answers (plain (taken_in (stated b p) b p)) (plain (taken_in (stated o q) o q))
    unfolding taken_in carry_out_string holds_store offered
    taken_in_lem (idling s t none nothing) mine =
        turned _ [] [] _ _ (record { bodies = alike; phases = idling s t none nothing })
    taken_in_lem (collecting s) mine = turned _ [] [] _ _ (record { bodies = alike; phases = collecting s })
    taken_in_lem (offering s) mine =
        done _ _ (pick_two (Transitions d) (eqb s.c0 load_lead) (eqb s.c0 load_lead) refl
        (λ load. loads b o s.c1 alike)
        (λ other. carries b o _ (mine refl (ap not other)) alike))
    taken_in_lem (sending kind noes bytes more) mine =
        turned _ [] [] _ _ (record { bodies = alike; phases = sending kind noes bytes more })
    taken_in_lem (going store chosen) mine = turned _ [] [] _ _ (record { bodies = alike; phases = going store chosen })
    taken_in_lem (writing store chosen) mine =
        turned _ [] [] _ _ (record { bodies = alike; phases = writing store chosen })
    taken_in_lem (moving operation store chosen) mine =
        turned _ [] [] _ _ (record { bodies = alike; phases = moving operation store chosen })
    taken_in_lem (ending interrupt same) mine =
        turned _ [] [] _ _ (record { bodies = alike; phases = ending interrupt same })

    hand_in_lem : {p q : Phase} (store : Store) → PhasesOf d b o p q
        → ((hand_in (stated b p) b store p).refusal ≡ 0 → OfDrive store)
        → Answers (plain (hand_in (stated b p) b store p)) (plain (hand_in (stated o q) o store q))
    unfolding hand_in
    hand_in_lem store (idling s t none nothing) mine =
        pick_two (λ (x y : Reply). Answers (plain x) (plain y)) _ _ (none ∙ sym nothing)
        (λ yes. done _ _ (carries b o store (mine (ap (λ (x : Reply). x.refusal) (pick_yes _ _ none))) alike))
        (λ no. absurd (false≢true (sym no ∙ none)))
    hand_in_lem store (collecting s) mine =
        pick_two (λ (x y : Reply). Answers (plain x) (plain y)) (eqb s.length 0) (eqb s.length 0) refl
        (λ yes. done _ _ (carries b o store (mine (ap (λ (x : Reply). x.refusal) (pick_yes _ _ yes))) alike))
        (λ no. turned _ [] [] _ _ (record { bodies = alike; phases = collecting s }))
    hand_in_lem store (offering s) mine = turned _ [] [] _ _ (record { bodies = alike; phases = offering s })
    hand_in_lem store (sending kind noes bytes more) mine =
        turned _ [] [] _ _ (record { bodies = alike; phases = sending kind noes bytes more })
    hand_in_lem store (going held chosen) mine =
        turned _ [] [] _ _ (record { bodies = alike; phases = going held chosen })
    hand_in_lem store (writing held chosen) mine =
        turned _ [] [] _ _ (record { bodies = alike; phases = writing held chosen })
    hand_in_lem store (moving operation held chosen) mine =
        turned _ [] [] _ _ (record { bodies = alike; phases = moving operation held chosen })
    hand_in_lem store (ending interrupt same) mine =
        turned _ [] [] _ _ (record { bodies = alike; phases = ending interrupt same })

    data_in_lem : {p q : Phase} (host : Host) (space check : List ℕ) → PhasesOf d b o p q
        → Answers (data_in (stated b p) b host space check p) (data_in (stated o q) o host space check q)
    unfolding data_in
    data_in_lem host space check (idling s t none nothing) =
        turned _ space check _ _ (record { bodies = alike; phases = idling s t none nothing })
    data_in_lem host space check (collecting s) =
        turned _ space check _ _ (record { bodies = alike; phases = collecting s })
    data_in_lem host space check (offering s) =
        turned _ space check _ _ (record { bodies = alike; phases = offering s })
    data_in_lem host space check (sending kind noes bytes more) =
        turned _ space check _ _ (record { bodies = alike; phases = sending kind noes bytes more })
    data_in_lem host space check (going store chosen) =
        turned _ space check _ _ (record { bodies = alike; phases = going store chosen })
    data_in_lem host space check (writing store chosen) =
        wrote b o store (record { bodies = alike; chosen = chosen }) host space check
    data_in_lem host space check (moving operation store chosen) =
        turned _ space check _ _ (record { bodies = alike; phases = moving operation store chosen })
    data_in_lem host space check (ending interrupt same) =
        turned _ space check _ _ (record { bodies = alike; phases = ending interrupt same })

    result_in_lem : {p q : Phase} (r : Result) (space check : List ℕ) → PhasesOf d b o p q
        → Answers (result_in (stated b p) b r space check p) (result_in (stated o q) o r space check q)
    unfolding result_in
    result_in_lem r space check (idling s t none nothing) =
        turned _ space check _ _ (record { bodies = alike; phases = idling s t none nothing })
    result_in_lem r space check (collecting s) =
        turned _ space check _ _ (record { bodies = alike; phases = collecting s })
    result_in_lem r space check (offering s) = turned _ space check _ _ (record { bodies = alike; phases = offering s })
    result_in_lem r space check (sending kind noes bytes more) =
        turned _ space check _ _ (record { bodies = alike; phases = sending kind noes bytes more })
    result_in_lem r space check (going store chosen) =
        turned _ space check _ _ (record { bodies = alike; phases = going store chosen })
    result_in_lem r space check (writing store chosen) =
        turned _ space check _ _ (record { bodies = alike; phases = writing store chosen })
    result_in_lem r space check (moving operation store chosen) =
        moved b o store (record { bodies = alike; chosen = chosen }) operation r space check
    result_in_lem r space check (ending interrupt same) =
        turned _ space check _ _ (record { bodies = alike; phases = ending interrupt same })

  -- ---- a step

  module _ (c o : Controller) (alike : Alike d c o) where
    whole : (x y : Answer) (space check : List ℕ) → (is_sound c.body c.phase ≡ true → Answers x y)
        → Answers (pick (is_sound c.body c.phase) x (unchanged 1 c space check))
        (pick (is_sound o.body o.phase) y (unchanged 1 o space check))
    whole x y space check shown =
        pick_two Answers _ _ (damage d c o alike) shown (λ hurt. turned 1 space check c o alike)

    replies : (x y : Reply) → (is_sound c.body c.phase ≡ true → Answers (plain x) (plain y))
        → Answers (plain (pick (is_sound c.body c.phase) x (refused 1 c)))
        (plain (pick (is_sound o.body o.phase) y (refused 1 o)))
    replies x y shown =
        pick_two (λ (x y : Reply). Answers (plain x) (plain y)) _ _ (damage d c o alike) shown
        (λ hurt. turned 1 [] [] c o alike)

    pub step_alike : (call : Call) → is_own call ≡ true
        → ((step c call).reply.refusal ≡ 0 → brings_store c call ≡ true → OfDrive (store_brought c call))
        → Answers (step c call) (step o call)
    unfolding step byte_call broken_call hand_call taken_call data_call result_call is_own brings_store store_brought
    step_alike (byte value) own mine =
        replies _ _ (λ sound. byte_in_lem c.body o.body alike.bodies value alike.phases)
    step_alike taken own mine =
        replies _ _ (λ sound. taken_in_lem c.body o.body alike.bodies alike.phases
        (λ none holds. mine (ap (λ (x : Reply). x.refusal) (pick_yes _ _ sound) ∙ none) holds))
    step_alike broken own mine = replies _ _ (λ sound. broken_in_lem c.body o.body alike.bodies alike.phases)
    step_alike (report drive r) own mine = absurd (false≢true own)
    step_alike (host_data host space check) own mine =
        whole _ _ space check (λ sound. data_in_lem c.body o.body alike.bodies host space check alike.phases)
    step_alike (result r space check) own mine =
        whole _ _ space check (λ sound. result_in_lem c.body o.body alike.bodies r space check alike.phases)
    step_alike tick own mine = absurd (false≢true own)
    step_alike reset own mine = absurd (false≢true own)
    step_alike (hand store) own mine =
        replies _ _ (λ sound. hand_in_lem c.body o.body alike.bodies store alike.phases
        (λ none. mine (ap (λ (x : Reply). x.refusal) (pick_yes _ _ sound) ∙ none) refl))

  -- ---- a list of calls

  -- each store is the drive's
  unfoldable pub AllOf : List Store → Type 0
  AllOf [] = Unit
  AllOf (store ∷ stores) = OfDrive store × AllOf stores

  offered_alike : {n m : ℕ} {k l : Bool} {p q : Phase} → Phases d n m k l p q → offered p ≡ offered q
  unfolding offered
  offered_alike (idling s t none nothing) = refl
  offered_alike (collecting s) = refl
  offered_alike (offering s) = refl
  offered_alike (sending kind noes bytes more) = refl
  offered_alike (going store chosen) = refl
  offered_alike (writing store chosen) = refl
  offered_alike (moving operation store chosen) = refl
  offered_alike (ending interrupt same) = refl

  pub idle_alike : {n m : ℕ} {k l : Bool} {p q : Phase} → Phases d n m k l p q → is_idle_in p ≡ is_idle_in q
  unfolding is_idle_in
  idle_alike (idling s t none nothing) = none ∙ sym nothing
  idle_alike (collecting s) = refl
  idle_alike (offering s) = refl
  idle_alike (sending kind noes bytes more) = refl
  idle_alike (going store chosen) = refl
  idle_alike (writing store chosen) = refl
  idle_alike (moving operation store chosen) = refl
  idle_alike (ending interrupt same) = refl

  module _ (c o : Controller) (same : offered c.phase ≡ offered o.phase) where
    brings_alike : (call : Call) → brings_store c call ≡ brings_store o call
    unfolding brings_store holds_store
    brings_alike taken = ap (λ (s : Collected). not (eqb s.c0 load_lead)) same
    brings_alike (hand store) = refl
    brings_alike (byte value) = refl
    brings_alike broken = refl
    brings_alike (report drive r) = refl
    brings_alike (host_data host space check) = refl
    brings_alike (result r space check) = refl
    brings_alike tick = refl
    brings_alike reset = refl

    brought_alike : (call : Call) → store_brought c call ≡ store_brought o call
    unfolding store_brought
    brought_alike taken = ap store_of same
    brought_alike (hand store) = refl
    brought_alike (byte value) = refl
    brought_alike broken = refl
    brought_alike (report drive r) = refl
    brought_alike (host_data host space check) = refl
    brought_alike (result r space check) = refl
    brought_alike tick = refl
    brought_alike reset = refl

  pub record Runs (c o : Controller) (xs ys : List Exchange) : Type 0 where
    pub stores : stores_from c xs ≡ stores_from o ys
    pub admitted : admitted_from c xs ≡ admitted_from o ys
    pub fixed : reports_fixed xs ≡ reports_fixed ys
    pub ends : Alike d (after c xs) (after o ys)

  pub runs_alike : (calls : List Call) (c o : Controller) → all_own calls ≡ true → AllOf (stores_from c (run c calls))
      → Alike d c o → Runs c o (run c calls) (run o calls)
  unfolding run stores_from admitted_from reports_fixed after all_own AllOf carries_out not_refused admits
  runs_alike [] c o own mine alike = record { stores = refl; admitted = refl; fixed = refl; ends = alike }
  runs_alike (call ∷ calls) c o own mine alike =
      let x : Exchange = record { call = call; answer = step c call } in
      let y : Exchange = record { call = call; answer = step o call } in
      let (own_call, own_calls) = both_hold (is_own call) (all_own calls) own in
      let answers = step_alike c o alike call own_call
      (λ none brings. (subst AllOf (pick_yes _ _ (ap₂ (λ (n : ℕ) (t : Bool). eqb n 0 && t) none brings)) mine).0)
      in
      let next = (step c call).reply.controller in
      let next_too = (step o call).reply.controller in
      let rest_mine : AllOf (stores_from next (run next calls)) =
      by_test (carries_out c x) (λ yes. (subst AllOf (pick_yes _ _ yes) mine).1)
      (λ no. subst AllOf (pick_no _ _ no) mine)
      in
      let rest = runs_alike calls next next_too own_calls rest_mine answers.next in
      let same = offered_alike alike.phases in
      let turned_away : not_refused x ≡ not_refused y = ap (λ (n : ℕ). eqb n 0) answers.refusal in
      let carries_too : carries_out c x ≡ carries_out o y = ap₂ (λ (s t : Bool). s && t) turned_away
      (brings_alike c o same call) in
      let brought = brought_alike c o same call in
      record {
        stores =
            ap₂ (λ (t : Bool) (store : Store). pick t (store ∷ stores_from next (run next calls))
            (stores_from next (run next calls))) carries_too brought
            ∙ ap (λ (l : List Store). pick (carries_out o y) (store_brought o call ∷ l) l) rest.stores;
        admitted =
            ap₂ (λ (s t : Bool). s && t)
            (ap₂ (λ (t : Bool) (store : Store). pick t (names_drive store && not (resets store))
            (not (not_refused x && is_reset call))) carries_too brought
            ∙ ap (λ (t : Bool). pick (carries_out o y)
            (names_drive (store_brought o call) && not (resets (store_brought o call))) (not (t && is_reset call)))
            turned_away)
            rest.admitted;
        fixed = ap₂ (λ (s t : Bool). not (s && is_report call) && t) turned_away rest.fixed;
        ends = rest.ends;
      }
