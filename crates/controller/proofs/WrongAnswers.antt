-- For each of the nine calls, and for the function that makes a fresh controller, two wrong answers that its contract
-- does not allow, by value or in place. The contracts are `Allows` (Demands/Contracts.antt), as the toolchain reads
-- them from the functions.
-- Assumes nothing.
use mathlib.Core.Path.{◌≡◌, refl, sym, ap, subst, ◌∙◌}
use mathlib.Core.Bool.{Bool, true, false, not, ◌&&◌, ◌||◌, false≢true, true≢false, and-false}
use mathlib.Core.List.{List}
use Prim.Native.Nat.{ℕ, ◌+◌, ◌≤◌, ◌<◌}
use native.Mathlib.Omega.{arith}
use lib.Dec.{leb, ltb, eqb}
use lib.ListN.{length}
use borrow.Author.Tests.{eqb-false, eqb-true, ne_eqb, not-false, le-leb, le-ltb, leb-false}
use Rattle.common.specs.Pick.{pick}
use Rattle.common.proofs.PickLaws.{pick_by, not_refused_lem}
use Rattle.marks.specs.Scan.{scan_marks}
use Rattle.marks.proofs.FindingLaws.{stop_found}
use Rattle.transfers.specs.declared.expected.Expected.{Expected}
use Rattle.transfers.specs.declared.expected.Expected.TheVariants.{Nothing as NoImage}
use Rattle.transfers.specs.Expected.{whole_code, expected_whole, expected_of, unmarked_refusal, image_refusal}
use Rattle.status.specs.declared.drives.Drive.{Drive}
use Rattle.link.specs.declared.frames.Frame.{Frame}
use Rattle.status.specs.Drives.{reports, drive_of, fresh_drives, reset_drives}
use Rattle.status.proofs.DriveLaws.{put_other, by_four}
use Rattle.operations.specs.declared.operation.Operation.TheVariants.{Read}
use Rattle.operations.specs.declared.store.Store.{Store}
use Rattle.operations.specs.Codes.{illegal_drive, unrecoverable}
use Rattle.operations.specs.Store.{asks_interrupt, names_drive, named_drive, names_unknown, thrown_away, held_count}
use Rattle.operations.specs.Store.{supplied_count}
use Rattle.records.specs.Place.{is_place}
use Rattle.records.proofs.ImageLaws.{image_length_lem, image_holds}
use Rattle.records.proofs.PlaceLaws.{written_length}
use Rattle.transfers.specs.Data.{Host, record_bytes, data_refusal, needed_bytes, bad_byte, runs_short, data_words}
use Rattle.transfers.specs.Data.{settle_data}
use Rattle.transfers.specs.Results.{result_of, result_refusal, is_gone, marks_read, code_reported, final_code}
use Rattle.transfers.specs.Results.{verdict_of}
use Rattle.transfers.specs.Results.{wrote_well, result_bits, with_retry, result_words, settle_result}
use Rattle.link.specs.declared.state.Collected.{Collected}
use Rattle.link.specs.declared.state.Kind.{Kind}
use Rattle.link.specs.declared.state.Kind.TheVariants.{Load, Secondary, Completion, Change}
use Rattle.link.specs.declared.state.Send.{Send}
use Rattle.link.specs.declared.state.Phase.{Phase}
use Rattle.link.specs.declared.state.Phase.TheVariants.{Collecting, AckOffered, Sending, GoOffered, DataAwaited}
use Rattle.link.specs.declared.state.Phase.TheVariants.{ResultAwaited, EndOffered}
use Rattle.link.specs.declared.state.Body.{Body}
use Rattle.link.specs.declared.state.Action.{Action}
use Rattle.link.specs.declared.state.Action.TheVariants.{Nothing, Byte, Text, Order}
use Rattle.link.specs.State.{Transition}
use Rattle.link.proofs.PhaseLaws.{each_phase}
use Rattle.link.specs.State.{when_ack_offered, store_of, start_body, reset_state, review, idle}
use Rattle.link.specs.Bytes.{ack, nack, load_lead, store_lead}
use Rattle.link.specs.Completion.{send_word, send_interrupt, complete}
use Rattle.link.specs.Link.{whole_length, append_byte, is_good_string, first_byte, last_byte, next_byte, give_up}
use Rattle.link.specs.Link.{collect_byte}
use Rattle.link.specs.Link.{tick_after_review, idle_tick}
use Rattle.link.specs.Damaged.{is_sound}
use Rattle.controller.specs.declared.controller.Controller.{Controller}
use Rattle.controller.specs.Told.{Reply}
use Rattle.controller.specs.Controller.{fresh}
use Rattle.controller.specs.Stores.{settle, end_with, order_move, end_operation, carry_out}
use Rattle.controller.specs.Records.{Answer, data_done, result_done}
use Rattle.controller.specs.Machine.{byte_in, broken_in, tick_in, hand_in, byte_call, broken_call, tick_call, hand_call}
use Rattle.controller.specs.Machine.{carry_out_string, taken_in, taken_call, report_call, reset_call}
use Rattle.controller.specs.Machine.{data_for, data_in, data_call, result_for, result_in, result_call, Call, step}
use Rattle.controller.specs.Machine.Call.{byte, taken, broken, report, host_data, result, tick, reset, hand}
use Rattle.controller.proofs.controller.Controller.fresh.Reads as fresh-reads
use Rattle.controller.proofs.Demands.Contracts.{Allows, answers_are_steps}

-- no answer that the contract of either of the call's functions allows is wrong in this way
abbrev pub Excludes : Controller → Call → (Answer → Type 0) → Type 0
Excludes c call Wrong = (answer : Answer) → Allows c call answer → Wrong answer → ⊥

-- since the machine's answer is not
excluded : (c : Controller) (call : Call) (Wrong : Answer → Type 0) → (Wrong (step c call) → ⊥) → Excludes c call Wrong
excluded c call Wrong never answer allowed =
    subst (λ (a : Answer). Wrong a → ⊥) (sym (answers_are_steps c call answer allowed)) never

-- a state in a phase
abbrev at : Body → Phase → Controller
at b phase = record { body = b; phase = phase }

-- two actions are told apart by a number for each
abbrev numbered : Action → ℕ
numbered Nothing = 256
numbered (Byte b) = b
numbered (Text s) = 257
numbered (Order s) = 258

another : {x y : Action} → eqb (numbered x) (numbered y) ≡ false → x ≡ y → ⊥
another unlike e = eqb-false _ _ unlike (ap numbered e)

-- a number that is not 0
nonzero : (n : ℕ) → eqb n 0 ≡ false → n ≡ 0 → ⊥
nonzero n unlike = eqb-false n 0 unlike

-- ---- byte

-- the lead of a load is answered by NACK, though nothing was collected
pub byte_nack_to_a_load : (b : Body) (s : Collected) → s.length ≡ 0
    → Excludes (at b (Collecting s)) (byte load_lead) (λ a. a.reply.action ≡ Byte nack)
unfolding step byte_call byte_in collect_byte first_byte pick
byte_nack_to_a_load b s empty =
    excluded _ _ _
    (pick_by (λ (r : Reply). r.action ≡ Byte nack → ⊥) (is_sound b (Collecting s))
    (λ sane. subst (λ (n : ℕ). (pick (eqb n 0) (first_byte b s load_lead) (next_byte b s load_lead)).action ≡ Byte nack
    → ⊥)
    (sym empty) (another refl))
    (λ hurt. another refl))

-- ACK is offered for a string that does not check
pub byte_ack_to_a_bad_string :
    (b : Body) (s : Collected) (value : ℕ)
    → is_good_string (append_byte s value) ≡ false
    → Excludes (at b (Collecting s)) (byte value) (λ a. a.reply.action ≡ Byte ack)
unfolding step byte_call byte_in collect_byte first_byte next_byte last_byte idle
byte_ack_to_a_bad_string b s value bad =
    excluded _ _ _
    (pick_by (λ (r : Reply). r.action ≡ Byte ack → ⊥) (is_sound b (Collecting s))
    (λ sane. pick_by none (eqb s.length 0)
    (λ first. pick_by none (eqb value load_lead || eqb value store_lead) (λ lead. another refl)
    (λ other. pick_by none (eqb value nack) (λ ignored. another refl) (λ any. another refl)))
    (λ further. pick_by none (eqb (s.length + 1) (whole_length s.c0))
    (λ last. pick_by none (is_good_string (append_byte s value)) (λ good. absurd (false≢true (sym bad ∙ good)))
    (λ wrong. another refl))
    (λ part. another refl)))
    (λ hurt. another refl))
  where
    none : Transition → Type 0
    none t = t.action ≡ Byte ack → ⊥

-- ---- taken

-- the one phase in which taken is carried out
abbrev offers_ack : Phase → Bool
offers_ack = when_ack_offered (λ s. true) false

-- it is refused in the others
taken_in_refuses : (c : Controller) (b : Body) (phase : Phase) → offers_ack phase ≡ false
    → (taken_in c b phase).refusal ≡ 0 → ⊥
unfolding taken_in
taken_in_refuses c b =
    each_phase (λ (phase : Phase). offers_ack phase ≡ false → (taken_in c b phase).refusal ≡ 0 → ⊥)
    (λ s ack. nonzero 2 refl) (λ s ack. absurd (true≢false ack))
    (λ send ack. nonzero 2 refl) (λ store ack. nonzero 2 refl) (λ store ack. nonzero 2 refl)
    (λ operation store ack. nonzero 2 refl)
    (λ interrupt ack. nonzero 2 refl)

-- it is carried out with no ACK offered
pub taken_with_no_ack : (b : Body) (phase : Phase) → offers_ack phase ≡ false
    → Excludes (at b phase) taken (λ a. a.reply.refusal ≡ 0)
unfolding step taken_call
taken_with_no_ack b phase ack =
    excluded _ _ _
    (pick_by (λ (r : Reply). r.refusal ≡ 0 → ⊥) (is_sound b phase) (λ sane. taken_in_refuses (at b phase) b phase ack)
    (λ hurt. nonzero 1 refl))

-- such a store ends with code 01
ended_coded : (b : Body) (store : Store) → (end_with b store illegal_drive).body.outcome.result.code ≡ 0 → ⊥
unfolding end_with settle complete send_interrupt send_word idle review pick
ended_coded b store =
    pick_by (λ (t : Transition). t.body.outcome.result.code ≡ 0 → ⊥) (asks_interrupt store)
    (λ asked. pick_by (λ (t : Transition). t.body.outcome.result.code ≡ 0 → ⊥) b.outcome.counted
    (λ counted. nonzero 1 refl) (λ none. nonzero 1 refl))
    (λ quiet. nonzero 1 refl)

named_above : (b : Body) (store : Store) → names_drive store ≡ true → 4 ≤ named_drive store
    → (carry_out b store).body.outcome.result.code ≡ 0 → ⊥
unfolding carry_out names_unknown pick
named_above b store names high = simp (names, le-leb 4 (named_drive store) high) (ended_coded _ store)

-- a store that names a drive above 3 goes without code 01
pub taken_drive_4_with_code_00 :
    (b : Body) (s : Collected)
    → (s.c0 ≡ load_lead → ⊥)
    → names_drive (store_of s) ≡ true
    → 4 ≤ named_drive (store_of s)
    → Excludes (at b (AckOffered s)) taken
    (λ a. (a.reply.refusal ≡ 0) × (a.reply.controller.body.outcome.result.code ≡ 0))
unfolding step taken_call taken_in carry_out_string
taken_drive_4_with_code_00 b s lead names high =
    excluded _ _ _
    (pick_by (λ (r : Reply). (r.refusal ≡ 0) × (r.controller.body.outcome.result.code ≡ 0) → ⊥)
    (is_sound b (AckOffered s))
    (λ sane w. pick_by (λ (t : Transition). t.body.outcome.result.code ≡ 0 → ⊥) (eqb s.c0 load_lead)
    (λ load. absurd (lead (eqb-true _ _ load)))
    (λ stored. named_above b (store_of s) names high) w.1)
    (λ hurt w. nonzero 1 refl w.0))

-- ---- hand

-- it is carried out while a string is collected
pub hand_while_a_string_is_collected :
    (b : Body) (s : Collected) (store : Store) → (s.length ≡ 0 → ⊥)
    → Excludes (at b (Collecting s)) (hand store) (λ a. a.reply.refusal ≡ 0)
unfolding step hand_call hand_in
hand_while_a_string_is_collected b s store some =
    excluded _ _ _
    (pick_by (λ (r : Reply). r.refusal ≡ 0 → ⊥) (is_sound b (Collecting s))
    (λ sane. pick_by (λ (r : Reply). r.refusal ≡ 0 → ⊥) (eqb s.length 0) (λ none. absurd (some (eqb-true _ 0 none)))
    (λ part. nonzero 4 refl))
    (λ hurt. nonzero 1 refl))

-- a store that names a drive above 3 goes without code 01
pub hand_drive_4_with_code_00 :
    (b : Body) (s : Collected) (store : Store)
    → names_drive store ≡ true
    → 4 ≤ named_drive store
    → Excludes (at b (Collecting s)) (hand store)
    (λ a. (a.reply.refusal ≡ 0) × (a.reply.controller.body.outcome.result.code ≡ 0))
unfolding step hand_call hand_in
hand_drive_4_with_code_00 b s store names high =
    excluded _ _ _
    (pick_by (λ (r : Reply). (r.refusal ≡ 0) × (r.controller.body.outcome.result.code ≡ 0) → ⊥)
    (is_sound b (Collecting s))
    (λ sane. pick_by (λ (r : Reply). (r.refusal ≡ 0) × (r.controller.body.outcome.result.code ≡ 0) → ⊥)
    (eqb s.length 0)
    (λ none w. named_above b store names high w.1) (λ part w. nonzero 4 refl w.0))
    (λ hurt w. nonzero 1 refl w.0))

-- ---- broken

-- it is carried out while data is awaited
pub broken_while_data_is_awaited : (b : Body) (store : Store)
    → Excludes (at b (DataAwaited store)) broken (λ a. a.reply.refusal ≡ 0)
unfolding step broken_call broken_in
broken_while_data_is_awaited b store =
    excluded _ _ _
    (pick_by (λ (r : Reply). r.refusal ≡ 0 → ⊥) (is_sound b (DataAwaited store)) (λ sane. nonzero 2 refl)
    (λ hurt. nonzero 1 refl))

-- changed stays set, whatever was sent
given_up_changed : (b : Body) (kind : Kind) → b.changed ≡ true → (give_up b kind).body.changed ≡ false → ⊥
unfolding give_up idle review
given_up_changed b Load changed = rw changed true≢false
given_up_changed b Secondary changed = rw changed true≢false
given_up_changed b Completion changed = rw changed true≢false
given_up_changed b Change changed = rw changed true≢false

-- a string that was not accepted clears changed
pub broken_clears_changed : (b : Body) (s : Send) → b.changed ≡ true
    → Excludes (at b (Sending s)) broken (λ a. a.reply.controller.body.changed ≡ false)
unfolding step broken_call broken_in
broken_clears_changed b s changed =
    excluded _ _ _
    (pick_by (λ (r : Reply). r.controller.body.changed ≡ false → ⊥) (is_sound b (Sending s))
    (λ sane. given_up_changed b s.kind changed)
    (λ hurt. rw changed true≢false))

-- ---- report

-- a report for one drive changes another
pub report_changes_another_drive :
    (c : Controller) (n d value : ℕ) → d ≤ 3 → (n ≡ d → ⊥)
    → Excludes c (report n value)
    (λ a. drive_of a.reply.controller.body.drives d ≡ drive_of c.body.drives d → ⊥)
unfolding step report_call
report_changes_another_drive c n d value low other =
    excluded _ _ _
    (λ wrong. wrong
    (pick_by (λ (r : Reply). drive_of r.controller.body.drives d ≡ drive_of c.body.drives d)
    (is_sound c.body c.phase)
    (λ sane. pick_by (λ (r : Reply). drive_of r.controller.body.drives d ≡ drive_of c.body.drives d) (leb 4 n)
    (λ high. refl)
    (λ few. let below = leb-false 4 n few in put_other c.body.drives _ n d (omega arith) low other))
    (λ hurt. refl)))

-- a report for a drive above 3 is taken
pub report_of_drive_4 : (c : Controller) (n value : ℕ) → 4 ≤ n
    → Excludes c (report n value) (λ a. a.reply.refusal ≡ 0)
unfolding step report_call
report_of_drive_4 c n value high =
    excluded _ _ _
    (pick_by (λ (r : Reply). r.refusal ≡ 0 → ⊥) (is_sound c.body c.phase)
    (λ sane. pick_by (λ (r : Reply). r.refusal ≡ 0 → ⊥) (leb 4 n) (λ above. nonzero 5 refl)
    (λ few. absurd (false≢true (sym few ∙ le-leb 4 n high))))
    (λ hurt. nonzero 1 refl))

-- ---- data

-- a record has the bytes that its store says
record_length : (store : Store) (host : Host) → length (record_bytes store host) ≡ held_count store
record_length store host = written_length host.bytes host.place (thrown_away store) (held_count store)

-- bit 18 goes by what bit 16 does not
one_bit : (parity underflow short bad : Bool) → parity ≡ false → underflow ≡ false → (parity || bad) ≡ true
    → (underflow || (short && not bad)) ≡ true → ⊥
one_bit true underflow short bad p u e f = false≢true (sym p)
one_bit false true short bad p u e f = false≢true (sym u)
one_bit false false short false p u e f = false≢true e
one_bit false false true true p u e f = false≢true f
one_bit false false false true p u e f = false≢true f

abbrev both_bits : Answer → Type 0
both_bits a =
    (a.reply.controller.body.outcome.parity ≡ true) × (a.reply.controller.body.outcome.underflow ≡ true)

module _ (c : Controller) (b : Body) (drive : Drive) (store : Store) (host : Host) (space check : List ℕ) where
  abbrev short : Answer → Type 0
  short a = (a.reply.refusal ≡ 0) × (a.bytes < 2 + held_count store) → ⊥

  data_for_short : short (data_for c b drive store host space check)
  unfolding data_for data_done settle_data
  data_for_short =
      let bytes = record_bytes store host in
      pick_by short (eqb (data_refusal drive store (length host.bytes) host.place (length space) (length check)) 0)
      (λ good w. omega (
        arith,
        w.1,
        image_length_lem bytes drive.density,
        image_holds (length bytes)
            drive.density,
        record_length store host,
      ))
      (λ refused w. eqb-false _ 0 refused w.0)

  -- at most one of both bits
  data_for_bits : c.body ≡ b → b.outcome.parity ≡ false → b.outcome.underflow ≡ false
      → both_bits (data_for c b drive store host space check) → ⊥
  unfolding data_for data_done settle_data data_words runs_short order_move
  data_for_bits same no_parity no_underflow =
      pick_by (λ (a : Answer). both_bits a → ⊥)
      (eqb (data_refusal drive store (length host.bytes) host.place (length space) (length check)) 0)
      (λ good w. one_bit b.outcome.parity b.outcome.underflow (ltb (length host.bytes) (needed_bytes store))
      (bad_byte store host.place)
      no_parity no_underflow w.0 w.1)
      (λ refused w. false≢true (sym no_parity ∙ ap (λ (x : Body). x.outcome.parity) (sym same) ∙ w.0))

  -- the place is looked at
  data_for_place : length host.bytes ≤ host.place → (host.place ≡ 65791 → ⊥)
      → (data_for c b drive store host space check).reply.refusal ≡ 0 → ⊥
  unfolding data_for data_done data_refusal is_place
  data_for_place behind some =
      pick_by (λ (a : Answer). a.reply.refusal ≡ 0 → ⊥)
      (eqb (data_refusal drive store (length host.bytes) host.place (length space) (length check)) 0)
      (λ good none.
      let checked = not_refused_lem _ _ _ (λ r. omega arith) (eqb-true _ 0 good) in
      let room = not_refused_lem _ _ _ (λ r. omega arith) checked.1 in
      let found = not_refused_lem _ _ _ (λ r. omega arith) room.1 in
      let lost : not (is_place (length host.bytes) host.place)
      ≡ true = simp (le-ltb host.place (length host.bytes) behind, ne_eqb host.place 65791 some) in
      false≢true (sym found.0 ∙ lost))
      (λ refused none. eqb-false _ 0 refused none)

  -- the space is as it was
  data_for_refused : ((data_for c b drive store host space check).reply.refusal ≡ 0 → ⊥)
      → (data_for c b drive store host space check).space ≡ space
  unfolding data_for data_done
  data_for_refused =
      pick_by (λ (a : Answer). (a.reply.refusal ≡ 0 → ⊥) → a.space ≡ space)
      (eqb (data_refusal drive store (length host.bytes) host.place (length space) (length check)) 0)
      (λ good some. absurd (some refl)) (λ refused some. refl)

-- fewer bytes are given than the count and the bytes of the record
pub data_image_cut_short :
    (b : Body) (store : Store) (host : Host) (space check : List ℕ)
    → Excludes (at b (DataAwaited store)) (host_data host space check)
    (λ a. (a.reply.refusal ≡ 0) × (a.bytes < 2 + held_count store))
unfolding step data_call data_in
data_image_cut_short b store host space check =
    excluded _ _ _
    (pick_by (λ (a : Answer). (a.reply.refusal ≡ 0) × (a.bytes < 2 + held_count store) → ⊥)
    (is_sound b (DataAwaited store))
    (λ sane. data_for_short _ b _ store host space check) (λ hurt w. nonzero 1 refl w.0))

-- bits 16 and 18 are both set, where neither was before
pub data_bad_byte_and_underflow :
    (b : Body) (store : Store) (host : Host) (space check : List ℕ) → b.outcome.parity ≡ false
    → b.outcome.underflow ≡ false
    → Excludes (at b (DataAwaited store)) (host_data host space check) both_bits
unfolding step data_call data_in
data_bad_byte_and_underflow b store host space check no_parity no_underflow =
    excluded _ _ _
    (pick_by (λ (a : Answer). both_bits a → ⊥) (is_sound b (DataAwaited store))
    (λ sane. data_for_bits _ b _ store host space check refl no_parity no_underflow)
    (λ hurt w. false≢true (sym no_parity ∙ w.0)))

-- a place that is not in the host bytes, and is not 65,791, is taken
pub data_place_behind_the_bytes :
    (b : Body) (store : Store) (host : Host) (space check : List ℕ) → length host.bytes ≤ host.place
    → (host.place ≡ 65791 → ⊥)
    → Excludes (at b (DataAwaited store)) (host_data host space check) (λ a. a.reply.refusal ≡ 0)
unfolding step data_call data_in
data_place_behind_the_bytes b store host space check behind some =
    excluded _ _ _
    (pick_by (λ (a : Answer). a.reply.refusal ≡ 0 → ⊥) (is_sound b (DataAwaited store))
    (λ sane. data_for_place _ b _ store host space check behind some) (λ hurt. nonzero 1 refl))

-- the same, whatever the phase
data_in_refused :
    (c : Controller) (b : Body) (host : Host) (space check : List ℕ) (phase : Phase)
    → ((data_in c b host space check phase).reply.refusal ≡ 0 → ⊥)
    → (data_in c b host space check phase).space ≡ space
unfolding data_in
data_in_refused c b host space check (DataAwaited store) = data_for_refused c b _ store host space check
data_in_refused c b host space check (Collecting s) = λ some. refl
data_in_refused c b host space check (AckOffered s) = λ some. refl
data_in_refused c b host space check (Sending s) = λ some. refl
data_in_refused c b host space check (GoOffered store) = λ some. refl
data_in_refused c b host space check (ResultAwaited operation store) = λ some. refl
data_in_refused c b host space check (EndOffered interrupt) = λ some. refl

-- a refused call writes into the space
pub data_refused_but_written :
    (c : Controller) (host : Host) (space check : List ℕ)
    → Excludes c (host_data host space check) (λ a. (a.reply.refusal ≡ 0 → ⊥) × (a.space ≡ space → ⊥))
unfolding step data_call
data_refused_but_written c host space check =
    excluded _ _ _
    (λ w. w.1
    (pick_by (λ (a : Answer). (a.reply.refusal ≡ 0 → ⊥) → a.space ≡ space) (is_sound c.body c.phase)
    (λ sane. data_in_refused c c.body host space check c.phase) (λ hurt some. refl) w.0))

-- ---- result

-- with a mark the image is empty
no_image : (store : Store) (density code : ℕ) → expected_of Read store density code true ≡ NoImage
unfolding expected_of expected_whole pick
no_image store density code = simp (and-false (whole_code code))

marked_empty : (drive : Drive) (store : Store) (code late : ℕ) (image marks : List ℕ) (check : ℕ)
    → result_refusal drive Read store (result_of code true late image marks) check ≡ 0 → eqb (length image) 0 ≡ true
unfolding result_refusal image_refusal unmarked_refusal
marked_empty drive store code late image marks check good =
    let six = not_refused_lem _ _ _ (nonzero 6 refl) good in
    let seven = not_refused_lem _ _ _ (nonzero 7 refl) six.1 in
    let eight = not_refused_lem _ _ _ (nonzero 8 refl) seven.1 in
    let none = ap (λ (x : Expected). image_refusal image marks x) (no_image store drive.density code) in
    not-false _ (not_refused_lem _ _ _ (nonzero 9 refl) (sym none ∙ eight.1)).0

module _ (c : Controller) (b : Body) (drive : Drive) (store : Store) (code late : ℕ) (image marks space check : List ℕ)
  where
    abbrev counts : Answer → Type 0
    counts a = a.reply.controller.body.outcome.counted ≡ true → ⊥

    -- a mark counts nothing, whatever drive moved
    mark_counts_nothing : c.body.outcome.counted ≡ false → b.outcome.counted ≡ false
        → counts (result_for c b drive Read store (result_of code true late image marks) space check)
    unfolding result_for result_done settle_result result_words verdict_of supplied_count end_operation with_retry
        result_bits wrote_well pick
    mark_counts_nothing clear before =
        pick_by counts (eqb (result_refusal drive Read store (result_of code true late image marks) (length check)) 0)
        (λ good. simp
        (before, marked_empty drive store code late image marks (length check) (eqb-true _ 0 good), and-false)
        false≢true)
        (λ refused. simp clear false≢true)

    module _ (mark : Bool) where
      abbrev well : Answer → Type 0
      well a = (a.reply.refusal ≡ 0) × (a.reply.controller.body.outcome.result.code ≡ 0) → ⊥

      -- a scan that stops is told, whatever drive moved
      two_bad_told : ltb (scan_marks marks).stop (length marks) ≡ true
          → well (result_for c b drive Read store (result_of code mark late image marks) space check)
      unfolding result_for result_done settle_result result_words verdict_of code_reported marks_read end_operation
          with_retry result_bits final_code pick
      two_bad_told stopped =
          pick_by well (eqb (result_refusal drive Read store (result_of code mark late image marks) (length check)) 0)
          (λ good w. pick_by (λ (n : ℕ). n ≡ 0 → ⊥) (is_gone drive Read) (λ gone. nonzero 7 refl)
          (λ there. simp (stop_found marks, stopped) (nonzero unrecoverable refl)) w.1)
          (λ refused w. eqb-false _ 0 refused w.0)

-- bit 22 is set by a read that found a mark
pub result_counts_a_mark :
    (b : Body) (store : Store) (code late : ℕ) (image marks space check : List ℕ)
    → b.outcome.counted ≡ false
    → Excludes (at b (ResultAwaited Read store)) (result (result_of code true late image marks) space check)
    (λ a. a.reply.controller.body.outcome.counted ≡ true)
unfolding step result_call result_in
result_counts_a_mark b store code late image marks space check before =
    excluded _ _ _
    (pick_by (λ (a : Answer). a.reply.controller.body.outcome.counted ≡ true → ⊥)
    (is_sound b (ResultAwaited Read store))
    (λ sane. mark_counts_nothing _ b _ store code late image marks space check before before)
    (λ hurt. simp before false≢true))

-- a record with two bad blockettes of one parity is told as good
pub result_two_bad_told_as_good :
    (b : Body) (store : Store) (code late : ℕ) (mark : Bool) (image marks space check : List ℕ)
    → ltb (scan_marks marks).stop (length marks) ≡ true
    → Excludes (at b (ResultAwaited Read store)) (result (result_of code mark late image marks) space check)
    (λ a. (a.reply.refusal ≡ 0) × (a.reply.controller.body.outcome.result.code ≡ 0))
unfolding step result_call result_in
result_two_bad_told_as_good b store code late mark image marks space check stopped =
    excluded _ _ _
    (pick_by (λ (a : Answer). (a.reply.refusal ≡ 0) × (a.reply.controller.body.outcome.result.code ≡ 0) → ⊥)
    (is_sound b (ResultAwaited Read store))
    (λ sane. two_bad_told _ b _ store code late image marks space check mark stopped) (λ hurt w. nonzero 1 refl w.0))

-- ---- tick

-- it is carried out while a string is sent
pub tick_during_a_send : (b : Body) (s : Send) → Excludes (at b (Sending s)) tick (λ a. a.reply.refusal ≡ 0)
unfolding step tick_call tick_in
tick_during_a_send b s =
    excluded _ _ _
    (pick_by (λ (r : Reply). r.refusal ≡ 0 → ⊥) (is_sound b (Sending s)) (λ sane. nonzero 4 refl)
    (λ hurt. nonzero 1 refl))

-- nothing is sent, whatever the phase
tick_in_quiet : (c : Controller) (b : Body) (s : Frame) (phase : Phase) → b.enable ≡ false
    → (tick_in c b phase).action ≡ Text s → ⊥
unfolding tick_in idle_tick tick_after_review review pick
tick_in_quiet c b s (Collecting string) clear =
    pick_by (λ (r : Reply). r.action ≡ Text s → ⊥) (eqb string.length 0)
    (λ idle. simp (clear, and-false) (another refl)) (λ part. another refl)
tick_in_quiet c b s (AckOffered string) clear = another refl
tick_in_quiet c b s (Sending send) clear = another refl
tick_in_quiet c b s (GoOffered store) clear = another refl
tick_in_quiet c b s (DataAwaited store) clear = another refl
tick_in_quiet c b s (ResultAwaited operation store) clear = another refl
tick_in_quiet c b s (EndOffered interrupt) clear = another refl

-- an interrupt is sent with enable clear
pub tick_interrupts_without_enable : (c : Controller) (s : Frame) → c.body.enable ≡ false
    → Excludes c tick (λ a. a.reply.action ≡ Text s)
unfolding step tick_call
tick_interrupts_without_enable c s clear =
    excluded _ _ _
    (pick_by (λ (r : Reply). r.action ≡ Text s → ⊥) (is_sound c.body c.phase)
    (λ sane. tick_in_quiet c c.body s c.phase clear) (λ hurt. another refl))

-- ---- reset

-- a drive's report is lost
pub reset_loses_a_report :
    (c : Controller) (d : ℕ) → d ≤ 3
    → Excludes c reset
    (λ a. (drive_of a.reply.controller.body.drives d).report ≡ (drive_of c.body.drives d).report → ⊥)
unfolding step reset_call reset_state start_body reset_drives drive_of pick
reset_loses_a_report c d low =
    excluded _ _ _
    (λ wrong. wrong
    (pick_by (λ (r : Reply). (drive_of r.controller.body.drives d).report ≡ (drive_of c.body.drives d).report)
    (is_sound c.body c.phase)
    (λ sane. by_four (λ n. (drive_of (reset_drives c.body.drives) n).report ≡ (drive_of c.body.drives n).report)
    refl refl refl refl d low) (λ hurt. refl)))

-- a gap is still taken for proper
pub reset_keeps_a_gap : (c : Controller) (d : ℕ) → d ≤ 3
    → Excludes c reset (λ a. (a.reply.refusal ≡ 0) × ((drive_of a.reply.controller.body.drives d).gap ≡ 0))
unfolding step reset_call reset_state start_body reset_drives drive_of pick
reset_keeps_a_gap c d low =
    excluded _ _ _
    (pick_by (λ (r : Reply). (r.refusal ≡ 0) × ((drive_of r.controller.body.drives d).gap ≡ 0) → ⊥)
    (is_sound c.body c.phase)
    (λ sane w. by_four (λ n. (drive_of (reset_drives c.body.drives) n).gap ≡ 0 → ⊥) (nonzero 3 refl) (nonzero 3 refl)
    (nonzero 3 refl) (nonzero 3 refl) d low w.1)
    (λ hurt w. nonzero 1 refl w.0))

-- ---- fresh_controller

module _ (c : Controller) (made : fresh-reads.Post tt tt c tt) (d : ℕ) (low : d ≤ 3) where
  -- a tape is installed before a drive reported one
  pub fresh_with_a_tape : reports (drive_of c.body.drives d).report 32 ≡ true → ⊥
  unfolding fresh start_body fresh_drives drive_of reports pick
  fresh_with_a_tape =
      subst (λ (x : Controller). reports (drive_of x.body.drives d).report 32 ≡ true → ⊥) (sym made)
      (by_four (λ n. reports (drive_of fresh_drives n).report 32 ≡ true → ⊥)
      false≢true false≢true false≢true false≢true d low)

  -- a gap is taken for proper
  pub fresh_with_a_proper_gap : (drive_of c.body.drives d).gap ≡ 0 → ⊥
  unfolding fresh start_body fresh_drives drive_of pick
  fresh_with_a_proper_gap =
      subst (λ (x : Controller). (drive_of x.body.drives d).gap ≡ 0 → ⊥) (sym made)
      (by_four (λ n. (drive_of fresh_drives n).gap ≡ 0 → ⊥) (nonzero 3 refl) (nonzero 3 refl) (nonzero 3 refl)
      (nonzero 3 refl) d low)
