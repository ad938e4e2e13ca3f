-- What is carried out as a store or a load is what came over the link: `carried_out_as_received`, over the
-- definitions.
-- Assumes nothing.
use mathlib.Core.Path.{◌≡◌, refl, sym, ap, subst, ◌∙◌}
use Prim.Native.Nat.{ℕ, zero, suc, ◌≤◌, ◌+◌, ◌/◌, ◌%◌}
use native.Mathlib.Omega.{arith}
use mathlib.Core.Bool.{Bool, true, false, ◌&&◌, ◌||◌, false≢true}
use mathlib.Core.List.{List, [], ◌∷◌, ◌++◌}
use lib.Bits.{bit_xor}
use lib.Dec.{leb, eqb}
use lib.ListN.{length}
use borrow.Author.Tests.{eqb-true, eqb-false, ne_eqb, not-true, not-false}
use Rattle.common.specs.Pick.{pick}
use Rattle.common.proofs.PickLaws.{pick_by, pick_yes, pick_no}
use Rattle.status.specs.declared.words.Word.{Word}
use Rattle.operations.specs.declared.operation.Operation.{Operation}
use Rattle.operations.specs.declared.operation.Operation.TheVariants.{CheckBytes, Write}
use Rattle.operations.specs.declared.course.Course.{Course}
use Rattle.operations.specs.declared.course.Course.TheVariants.{Reset, End, Enable, Set, Begin}
use Rattle.operations.specs.declared.store.Store.{Store}
use Rattle.operations.specs.Operation.{same_operation, offers_end}
use Rattle.operations.specs.Store.{asks_interrupt, names_unknown}
use Rattle.link.specs.declared.state.Collected.{Collected}
use Rattle.link.specs.declared.state.Kind.{Kind}
use Rattle.link.specs.declared.state.Kind.TheVariants.{Load, Secondary, Completion, Change}
use Rattle.link.specs.declared.state.Send.{Send}
use Rattle.link.specs.declared.state.Phase.{Phase}
use Rattle.link.specs.declared.state.Phase.TheVariants.{Collecting, AckOffered, Sending, GoOffered, DataAwaited}
use Rattle.link.specs.declared.state.Phase.TheVariants.{ResultAwaited, EndOffered}
use Rattle.link.proofs.PhaseLaws.{by_collecting, by_ack_offered, by_data_awaited, by_result_awaited}
use Rattle.link.specs.declared.state.Body.{Body}
use Rattle.link.specs.declared.state.Action.{Action}
use Rattle.link.specs.State.{Transition}
use Rattle.link.specs.State.{store_of, offered, nothing_collected, current_drive, review, idle, reset_state}
use Rattle.link.specs.State.{when_collecting}
use Rattle.link.specs.State.{when_ack_offered}
use Rattle.link.specs.Bytes.{ack, nack, load_lead, store_lead, most_noes}
use Rattle.link.specs.Completion.{send_word, send_interrupt, complete}
use Rattle.link.specs.Link.{whole_length, append_byte, load_xor, is_good_string, first_byte, last_byte, next_byte}
use Rattle.link.specs.Link.{yes_to_send}
use Rattle.link.specs.Link.{give_up, no_to_send, collect_byte, answer_to_send, tick_after_review, idle_tick}
use Rattle.link.specs.Loads.{carry_out_load}
use Rattle.link.specs.Damaged.{is_sound}
use Rattle.transfers.specs.Data.{Host, data_refusal}
use Rattle.transfers.specs.Results.{Result, result_refusal}
use Rattle.controller.specs.declared.controller.Controller.{Controller}
use Rattle.controller.specs.Told.{Reply}
use Rattle.controller.specs.Controller.{fresh, carried, refused}
use Rattle.controller.specs.Stores.{settle, end_with, end_operation, order_move, begin, follow, carry_out_on}
use Rattle.controller.specs.Stores.{carry_out, no_to_go, yes_to_go, answer_to_go}
use Rattle.controller.specs.Records.{Answer, data_done, result_done}
use Rattle.controller.specs.Machine.{byte_in, broken_in, tick_in, hand_in, byte_call, broken_call, tick_call, hand_call}
use Rattle.controller.specs.Machine.{carry_out_string, taken_in, taken_call, report_noted, report_call, reset_call}
use Rattle.controller.specs.Machine.{data_for, data_in, data_call, result_for, result_in, result_call, Call}
use Rattle.controller.specs.Machine.{step, run}
use Rattle.controller.specs.Machine.Call.{byte, taken, broken, report, host_data, result, tick, reset, hand}
use Rattle.controller.specs.Lists.{not_refused, holds_store}
use Rattle.controller.proofs.Steps.{stated}
use Rattle.controller.specs.Received.{came_by, came, StoreReceived, LoadReceived, ReceivedFor}
use Rattle.controller.specs.Received.{ReceivedFrom, CarriedOutAsReceived}

-- ---- the bytes of a string

nth : ℕ → Collected → ℕ
nth zero s = s.c0
nth (suc zero) s = s.c1
nth (suc (suc zero)) s = s.c2
nth (suc (suc (suc zero))) s = s.c3
nth (suc (suc (suc (suc zero)))) s = s.c4
nth (suc (suc (suc (suc (suc zero))))) s = s.c5
nth (suc (suc (suc (suc (suc (suc zero)))))) s = s.c6
nth (suc (suc (suc (suc (suc (suc (suc n))))))) s = s.c7

-- the first n, last first
newest : ℕ → Collected → List ℕ
newest zero s = []
newest (suc n) s = nth n s ∷ newest n s

by_eight : (P : ℕ → Type 0) → P 0 → P 1 → P 2 → P 3 → P 4 → P 5 → P 6 → P 7 → (n : ℕ) → n ≤ 7 → P n
by_eight P p0 p1 p2 p3 p4 p5 p6 p7 zero h = p0
by_eight P p0 p1 p2 p3 p4 p5 p6 p7 (suc zero) h = p1
by_eight P p0 p1 p2 p3 p4 p5 p6 p7 (suc (suc zero)) h = p2
by_eight P p0 p1 p2 p3 p4 p5 p6 p7 (suc (suc (suc zero))) h = p3
by_eight P p0 p1 p2 p3 p4 p5 p6 p7 (suc (suc (suc (suc zero)))) h = p4
by_eight P p0 p1 p2 p3 p4 p5 p6 p7 (suc (suc (suc (suc (suc zero))))) h = p5
by_eight P p0 p1 p2 p3 p4 p5 p6 p7 (suc (suc (suc (suc (suc (suc zero)))))) h = p6
by_eight P p0 p1 p2 p3 p4 p5 p6 p7 (suc (suc (suc (suc (suc (suc (suc zero))))))) h = p7
by_eight P p0 p1 p2 p3 p4 p5 p6 p7 (suc (suc (suc (suc (suc (suc (suc (suc n)))))))) h = absurd (omega arith)

abbrev sized : Collected → ℕ → Collected
sized s n = record {
  length = n;
  c0 = s.c0;
  c1 = s.c1;
  c2 = s.c2;
  c3 = s.c3;
  c4 = s.c4;
  c5 = s.c5;
  c6 = s.c6;
  c7 = s.c7;
}

appended : (s : Collected) (b n : ℕ) → n ≤ 7 → newest (n + 1) (append_byte (sized s n) b) ≡ b ∷ newest n s
unfolding append_byte pick newest nth
appended s b = by_eight (λ n. newest (n + 1) (append_byte (sized s n) b)
    ≡ b ∷ newest n s) refl refl refl refl refl refl refl refl

-- ---- what is held

record Partial (bytes : List ℕ) (s : Collected) : Type 0 where
  pub few : s.length ≤ 7
  pub room : (s.length ≡ 0 → ⊥) → s.length + 1 ≤ whole_length s.c0
  pub lead : (s.length ≡ 0 → ⊥) → (eqb s.c0 0x62 || eqb s.c0 0x64) ≡ true
  pub earlier : List ℕ
  pub sent : bytes ≡ newest s.length s ++ earlier

record Whole (bytes : List ℕ) (s : Collected) : Type 0 where
  pub load : eqb s.c0 0x62 ≡ true → LoadReceived bytes s.c1
  pub store : eqb s.c0 0x62 ≡ false → StoreReceived bytes (store_of s)

unfoldable Held : List ℕ → Phase → Type 0
Held bytes phase = when_collecting (Partial bytes) (when_ack_offered (Whole bytes) Unit phase) phase

blank : (bytes : List ℕ) (s : Collected) → s.length ≡ 0 → Partial bytes s
unfolding newest
blank bytes s none =
    record {
      few = omega arith;
      room = λ some. absurd (some none);
      lead = λ some. absurd (some none);
      earlier = bytes;
      sent = ap (λ (n : ℕ). newest n s ++ bytes) (sym none);
    }

-- ---- a whole string

whole :
    (bytes earlier : List ℕ) (s : Collected)
    → bytes ≡ newest (whole_length s.c0) s ++ earlier
    → (eqb s.c0 0x62 || eqb s.c0 0x64) ≡ true
    → is_good_string s ≡ true
    → Whole bytes s
unfolding whole_length is_good_string load_xor store_of newest nth
whole bytes earlier s sent lead good =
    record {
      load =
          λ is.
          let lead_is : s.c0 ≡ 0x62 = eqb-true s.c0 0x62 is in
          record {
            unused = s.c2;
            check = s.c3;
            earlier = earlier;
            came =
                sent ∙ ap (λ (n : ℕ). newest n s ++ earlier) (pick_yes 4 8 is)
                ∙ ap (λ (n : ℕ). s.c3 ∷ s.c2 ∷ s.c1 ∷ n ∷ earlier) lead_is;
            xor =
                ap (λ (n : ℕ). bit_xor (bit_xor (bit_xor n s.c1) s.c2) s.c3) (sym lead_is)
                ∙ sym (pick_yes _ _ is) ∙ eqb-true _ 0 good;
          };
      store =
          λ other.
          let lead_is : s.c0 ≡ 0x64 = eqb-true s.c0 0x64
          (sym (ap (λ (t : Bool). t || eqb s.c0 0x64) other) ∙ lead) in
          record {
            unused = s.c6;
            check = s.c7;
            earlier = earlier;
            came =
                sent ∙ ap (λ (n : ℕ). newest n s ++ earlier) (pick_no 4 8 other)
                ∙ ap (λ (n : ℕ). s.c7 ∷ s.c6 ∷ s.c5 ∷ s.c4 ∷ s.c3 ∷ s.c2 ∷ s.c1 ∷ n ∷ earlier) lead_is;
            xor =
                ap (λ (n : ℕ). bit_xor (bit_xor (bit_xor (bit_xor (bit_xor (bit_xor (bit_xor n s.c1) s.c2) s.c3)
                s.c4) s.c5) s.c6) s.c7) (sym lead_is)
                ∙ sym (pick_no _ _ other) ∙ eqb-true _ 0 good;
          };
    }

idle_held : (bytes : List ℕ) (b : Body) (action : Action) → Held bytes (idle b action).phase
unfolding idle Held
idle_held bytes b action = blank bytes nothing_collected refl

first_held : (bytes : List ℕ) (b : Body) (s : Collected) (value : ℕ) → s.length ≡ 0
    → Held (value ∷ bytes) (first_byte b s value).phase
unfolding first_byte append_byte Held whole_length newest nth pick
first_held bytes b s value none =
    pick_by (λ (t : Transition). Held (value ∷ bytes) t.phase) (eqb value load_lead || eqb value store_lead)
    (λ lead.
    record {
      few = omega arith;
      room = λ some. pick_by (λ (n : ℕ). 2 ≤ n) (eqb value load_lead) (λ is. omega arith) (λ other. omega arith);
      lead = λ some. lead;
      earlier = bytes;
      sent = refl;
    })
    (λ other. pick_by (λ (t : Transition). Held (value ∷ bytes) t.phase) (eqb value nack)
    (λ ignored. blank (value ∷ bytes) s none) (λ wrong. idle_held (value ∷ bytes) b _))

whole_most : (lead : ℕ) → whole_length lead ≤ 8
unfolding whole_length
whole_most lead = pick_by (λ (n : ℕ). n ≤ 8) (eqb lead load_lead) (λ is. omega arith) (λ other. omega arith)

module _ (bytes : List ℕ) (b : Body) (s : Collected) (value : ℕ) (some : s.length ≡ 0 → ⊥)
    (before : Partial bytes s) where
  same_lead : (append_byte s value).c0 ≡ s.c0
  unfolding append_byte
  same_lead = pick_no value s.c0 (ne_eqb s.length 0 some)

  longer : value ∷ bytes ≡ newest (s.length + 1) (append_byte s value) ++ before.earlier
  longer =
      ap (λ (l : List ℕ). value ∷ l) before.sent
      ∙ ap (λ (l : List ℕ). l ++ before.earlier) (sym (appended s value s.length before.few))

  lead_again : (eqb (append_byte s value).c0 0x62 || eqb (append_byte s value).c0 0x64) ≡ true
  lead_again = ap (λ (n : ℕ). eqb n 0x62 || eqb n 0x64) same_lead ∙ before.lead some

  kept : eqb (s.length + 1) (whole_length s.c0) ≡ false → Partial (value ∷ bytes) (append_byte s value)
  unfolding append_byte
  kept part =
      let (room, apart, most) : ((s.length + 1 ≤ whole_length s.c0) × (s.length + 1 ≡ whole_length s.c0 → ⊥)
      × (whole_length s.c0 ≤ 8)) =
      (before.room some, eqb-false _ _ part, whole_most s.c0) in
      record {
        few = omega arith;
        room = λ more. subst (λ (n : ℕ). s.length + 1 + 1 ≤ whole_length n) (sym same_lead) (omega arith);
        lead = λ more. lead_again;
        earlier = before.earlier;
        sent = longer;
      }

  next_held : Held (value ∷ bytes) (next_byte b s value).phase
  unfolding next_byte last_byte Held
  next_held =
      pick_by (λ (t : Transition). Held (value ∷ bytes) t.phase) (eqb (s.length + 1) (whole_length s.c0))
      (λ last.
      pick_by (λ (t : Transition). Held (value ∷ bytes) t.phase) (is_good_string (append_byte s value))
      (λ good.
      whole (value ∷ bytes) before.earlier (append_byte s value)
      (longer
      ∙ ap (λ (n : ℕ). newest n (append_byte s value) ++ before.earlier)
      (eqb-true _ _ last ∙ ap (λ (n : ℕ). whole_length n) (sym same_lead)))
      lead_again good)
      (λ bad. idle_held (value ∷ bytes) b _))
      (λ part. kept part)

byte_held : (bytes : List ℕ) (b : Body) (s : Collected) (value : ℕ) → Partial bytes s
    → Held (value ∷ bytes) (collect_byte b s value).phase
unfolding collect_byte
byte_held bytes b s value before =
    pick_by (λ (t : Transition). Held (value ∷ bytes) t.phase) (eqb s.length 0)
    (λ first. first_held bytes b s value (eqb-true _ 0 first))
    (λ further. next_held bytes b s value (eqb-false _ 0 further) before)

-- ---- whatever else is done leaves nothing collected

module _ (bytes : List ℕ) where
  abbrev Blank : Transition → Type 0
  Blank t = Held bytes t.phase

  sent_blank : (b : Body) (kind : Kind) (lead : ℕ) (word : Word) → Blank (send_word b kind lead word)
  unfolding send_word Held
  sent_blank b kind lead word = tt

  completed_blank : (b : Body) (interrupt : Bool) → Blank (complete b interrupt)
  unfolding complete send_interrupt
  completed_blank b interrupt =
      pick_by Blank interrupt (λ asked. pick_by Blank (review b).outcome.counted (λ counted. sent_blank _ _ _ _)
      (λ none. sent_blank _ _ _ _)) (λ silent. idle_held bytes b _)

  settled_blank : (b : Body) (store : Store) → Blank (settle b store)
  unfolding settle
  settled_blank b store = completed_blank b (asks_interrupt store)

  coded_blank : (b : Body) (store : Store) (code : ℕ) → Blank (end_with b store code)
  unfolding end_with
  coded_blank b store code = settled_blank _ store

  ended_blank : (b : Body) (operation : Operation) (store : Store) → Blank (end_operation b operation store)
  unfolding end_operation Held
  ended_blank b operation store = pick_by Blank (offers_end operation) (λ offers. tt) (λ none. settled_blank b store)

  begun_blank : (b : Body) (operation : Operation) (store : Store) → Blank (begin b operation store)
  unfolding begin order_move Held
  begun_blank b operation store =
      pick_by Blank (same_operation operation Write) (λ writes. tt)
      (λ other. pick_by Blank (same_operation operation CheckBytes) (λ checks. tt) (λ moves. tt))

  followed_blank : (b : Body) (store : Store) (course : Course) → Blank (follow b store course)
  unfolding follow reset_state Held
  followed_blank b store Reset = blank bytes nothing_collected refl
  followed_blank b store (End code) = coded_blank b store code
  followed_blank b store (Enable enable) = settled_blank _ store
  followed_blank b store (Set drive) = settled_blank _ store
  followed_blank b store (Begin operation) = begun_blank b operation store

  carried_blank : (b : Body) (store : Store) → Blank (carry_out b store)
  unfolding carry_out carry_out_on
  carried_blank b store = pick_by Blank (names_unknown store) (λ unknown. coded_blank _ store _)
      (λ known. followed_blank _ store _)

  loaded_blank : (b : Body) (address : ℕ) → Blank (carry_out_load b address)
  unfolding carry_out_load
  loaded_blank b address =
      pick_by Blank (eqb (address / 16 % 8) 6) (λ six. idle_held bytes b _)
      (λ below. pick_by Blank (eqb (address / 16 % 8) 7) (λ seven. idle_held bytes b _) (λ other. sent_blank _ _ _ _))

  given_up_blank : (b : Body) (kind : Kind) → Blank (give_up b kind)
  unfolding give_up
  given_up_blank b Load = idle_held bytes b _
  given_up_blank b Secondary = idle_held bytes b _
  given_up_blank b Completion = idle_held bytes b _
  given_up_blank b Change = idle_held bytes _ _

  accepted_blank : (b : Body) (kind : Kind) → Blank (yes_to_send b kind)
  unfolding yes_to_send
  accepted_blank b Load = idle_held bytes b _
  accepted_blank b Secondary = sent_blank _ _ _ _
  accepted_blank b Completion = idle_held bytes _ _
  accepted_blank b Change = idle_held bytes _ _

  answered_blank : (b : Body) (value : ℕ) (s : Send) → Blank (answer_to_send b value s)
  unfolding answer_to_send no_to_send Held
  answered_blank b value s =
      pick_by Blank (eqb value ack) (λ accepts. accepted_blank b s.kind)
      (λ refuses. pick_by Blank (eqb s.noes most_noes) (λ fifth. given_up_blank b s.kind) (λ again. tt))

  go_blank : (b : Body) (value : ℕ) (store : Store) → Blank (answer_to_go b value store)
  unfolding answer_to_go yes_to_go no_to_go Held
  go_blank b value store = pick_by Blank (eqb value ack) (λ accepts. tt) (λ refuses. tt)

  no_go_blank : (b : Body) (store : Store) → Blank (no_to_go b store)
  unfolding no_to_go Held
  no_go_blank b store = tt

  tick_blank : (b : Body) (s : Collected) → s.length ≡ 0 → Blank (idle_tick b (Collecting s))
  unfolding idle_tick tick_after_review Held
  tick_blank b s none = pick_by Blank ((review b).changed && (review b).enable) (λ due. sent_blank _ _ _ _)
      (λ quiet. blank bytes s none)

-- ---- each call

record Goes (bytes : List ℕ) (c : Controller) (call : Call) (r : Reply) : Type 0 where
  pub received : eqb r.refusal 0 ≡ true → ReceivedFor bytes c call
  pub held : Held (pick (eqb r.refusal 0) (came_by bytes call) bytes) r.controller.phase

module _ (bytes : List ℕ) (b : Body) (phase : Phase) (before : Held bytes phase) where
  abbrev c : Controller
  c = stated b phase

  refuses : (call : Call) (number : ℕ) → eqb number 0 ≡ false → Goes bytes c call (refused number c)
  refuses call number some =
      record {
        received = λ none. absurd (false≢true (sym some ∙ none));
        held = subst (λ (l : List ℕ). Held l phase) (sym (pick_no (came_by bytes call) bytes some)) before;
      }

  -- a turn of a call that takes nothing
  goes : (call : Call) (t : Transition) → ReceivedFor bytes c call → Held (came_by bytes call) t.phase
      → Goes bytes c call (carried t)
  unfolding pick
  goes call t sent held = record { received = λ none. sent; held = held }

  sound : (call : Call) (r : Reply) → Goes bytes c call r → Goes bytes c call (pick (is_sound b phase) r (refused 1 c))
  sound call r shown = pick_by (Goes bytes c call) (is_sound b phase) (λ sane. shown) (λ hurt. refuses call 1 refl)

byte_in_lem : (bytes : List ℕ) (b : Body) (value : ℕ) (phase : Phase) → Held bytes phase
    → Goes bytes (stated b phase) (byte value) (byte_in (stated b phase) b value phase)
unfolding byte_in ReceivedFor came_by Held
byte_in_lem bytes b value (Collecting s) h =
    goes bytes b (Collecting s) h (byte value) _ tt (byte_held bytes b s value h)
byte_in_lem bytes b value (AckOffered s) h = goes bytes b (AckOffered s) h (byte value) _ tt (idle_held _ b _)
byte_in_lem bytes b value (Sending s) h = goes bytes b (Sending s) h (byte value) _ tt (answered_blank _ b value s)
byte_in_lem bytes b value (GoOffered store) h = goes bytes b (GoOffered store) h (byte value) _ tt
    (go_blank _ b value store)
byte_in_lem bytes b value (DataAwaited store) h = refuses bytes b (DataAwaited store) h (byte value) 2 refl
byte_in_lem bytes b value (ResultAwaited operation store) h = refuses bytes b (ResultAwaited operation store) h
    (byte value) 2 refl
byte_in_lem bytes b value (EndOffered interrupt) h = goes bytes b (EndOffered interrupt) h (byte value) _ tt
    (completed_blank _ b interrupt)

broken_in_lem : (bytes : List ℕ) (b : Body) (phase : Phase) → Held bytes phase
    → Goes bytes (stated b phase) broken (broken_in (stated b phase) b phase)
unfolding broken_in ReceivedFor came_by Held
broken_in_lem bytes b (Collecting s) h = goes bytes b (Collecting s) h broken _ tt (idle_held _ b _)
broken_in_lem bytes b (AckOffered s) h = goes bytes b (AckOffered s) h broken _ tt (idle_held _ b _)
broken_in_lem bytes b (Sending s) h = goes bytes b (Sending s) h broken _ tt (given_up_blank _ b s.kind)
broken_in_lem bytes b (GoOffered store) h = goes bytes b (GoOffered store) h broken _ tt (no_go_blank _ b store)
broken_in_lem bytes b (DataAwaited store) h = refuses bytes b (DataAwaited store) h broken 2 refl
broken_in_lem bytes b (ResultAwaited operation store) h =
    refuses bytes b (ResultAwaited operation store) h broken 2 refl
broken_in_lem bytes b (EndOffered interrupt) h = goes bytes b (EndOffered interrupt) h broken _ tt
    (completed_blank _ b interrupt)

module _ (bytes : List ℕ) (b : Body) where
  abbrev Going : Call → Phase → Reply → Type 0
  Going call phase r = Held bytes phase → Goes bytes (stated b phase) call r

  tick_in_lem : (phase : Phase) → Going tick phase (tick_in (stated b phase) b phase)
  unfolding tick_in ReceivedFor came_by Held
  tick_in_lem =
      by_collecting (Going tick) _ (λ phase h. refuses bytes b phase h tick 4 refl) _
      (λ s h. pick_by (Goes bytes (stated b (Collecting s)) tick) (eqb s.length 0)
      (λ none. goes bytes b (Collecting s) h tick _ tt (tick_blank _ b s (eqb-true _ 0 none)))
      (λ part. refuses bytes b (Collecting s) h tick 4 refl))

  hand_in_lem : (store : Store) (phase : Phase) → Going (hand store) phase (hand_in (stated b phase) b store phase)
  unfolding hand_in ReceivedFor came_by Held
  hand_in_lem store =
      by_collecting (Going (hand store)) _ (λ phase h. refuses bytes b phase h (hand store) 4 refl) _
      (λ s h. pick_by (Goes bytes (stated b (Collecting s)) (hand store)) (eqb s.length 0)
      (λ none. goes bytes b (Collecting s) h (hand store) _ tt (carried_blank _ b store))
      (λ part. refuses bytes b (Collecting s) h (hand store) 4 refl))

  taken_in_lem : (phase : Phase) → Going taken phase (taken_in (stated b phase) b phase)
  unfolding taken_in carry_out_string offered holds_store ReceivedFor came_by Held
  taken_in_lem =
      by_ack_offered (Going taken) _ (λ phase h. refuses bytes b phase h taken 2 refl) _
      (λ s h. goes bytes b (AckOffered s) h taken _
      (record { store = λ holds. h.store (not-true _ holds); load = λ none. h.load (not-false _ none) })
      (pick_by (λ (t : Transition). Held bytes t.phase) (eqb s.c0 load_lead)
      (λ load. loaded_blank bytes b s.c1) (λ other. carried_blank bytes b (store_of s))))

  module _ (space check : List ℕ) where
    data_in_lem : (host : Host) (phase : Phase)
        → Going (host_data host space check) phase (data_in (stated b phase) b host space check phase).reply
    unfolding data_in data_for data_done order_move ReceivedFor came_by Held
    data_in_lem host =
        by_data_awaited (λ (phase : Phase) (a : Answer). Going (host_data host space check) phase a.reply) _
        (λ phase h. refuses bytes b phase h (host_data host space check) 3 refl) _
        (λ store h.
        pick_by (λ (a : Answer). Goes bytes (stated b (DataAwaited store)) (host_data host space check) a.reply)
        (eqb (data_refusal (current_drive b) store (length host.bytes) host.place (length space) (length check)) 0)
        (λ good. goes bytes b (DataAwaited store) h (host_data host space check) (order_move _ Write store) tt tt)
        (λ some. refuses bytes b (DataAwaited store) h (host_data host space check) _ some))

    result_in_lem : (r : Result) (phase : Phase)
        → Going (result r space check) phase (result_in (stated b phase) b r space check phase).reply
    unfolding result_in result_for result_done ReceivedFor came_by Held
    result_in_lem r =
        by_result_awaited (λ (phase : Phase) (a : Answer). Going (result r space check) phase a.reply) _
        (λ phase h. refuses bytes b phase h (result r space check) 3 refl) _
        (λ operation store h.
        pick_by
        (λ (a : Answer). Goes bytes (stated b (ResultAwaited operation store)) (result r space check) a.reply)
        (eqb (result_refusal (current_drive b) operation store r (length check)) 0)
        (λ good. goes bytes b (ResultAwaited operation store) h (result r space check)
        (end_operation _ operation store) tt (ended_blank bytes _ operation store))
        (λ some. refuses bytes b (ResultAwaited operation store) h (result r space check) _ some))

each : (bytes : List ℕ) (c : Controller) (call : Call) → Held bytes c.phase → Goes bytes c call (step c call).reply
unfolding step byte_call broken_call tick_call hand_call taken_call report_call reset_call data_call result_call
    reset_state ReceivedFor came_by Held
each bytes c (byte value) h = sound bytes c.body c.phase h (byte value) _
    (byte_in_lem bytes c.body value c.phase h)
each bytes c broken h = sound bytes c.body c.phase h broken _ (broken_in_lem bytes c.body c.phase h)
each bytes c tick h = sound bytes c.body c.phase h tick _ (tick_in_lem bytes c.body c.phase h)
each bytes c (hand store) h = sound bytes c.body c.phase h (hand store) _
    (hand_in_lem bytes c.body store c.phase h)
each bytes c taken h = sound bytes c.body c.phase h taken _ (taken_in_lem bytes c.body c.phase h)
each bytes c reset h = sound bytes c.body c.phase h reset _
    (goes bytes c.body c.phase h reset _ tt (blank bytes nothing_collected refl))
each bytes c (report n r) h =
    sound bytes c.body c.phase h (report n r) _
    (pick_by (Goes bytes c (report n r)) (leb 4 n) (λ high. refuses bytes c.body c.phase h (report n r) 5 refl)
    (λ few. goes bytes c.body c.phase h (report n r) (report_noted c n r) tt h))
each bytes c (host_data host space check) h =
    pick_by (λ (a : Answer). Goes bytes c (host_data host space check) a.reply) (is_sound c.body c.phase)
    (λ sane. data_in_lem bytes c.body space check host c.phase h)
    (λ hurt. refuses bytes c.body c.phase h (host_data host space check) 1 refl)
each bytes c (result r space check) h =
    pick_by (λ (a : Answer). Goes bytes c (result r space check) a.reply) (is_sound c.body c.phase)
    (λ sane. result_in_lem bytes c.body space check r c.phase h)
    (λ hurt. refuses bytes c.body c.phase h (result r space check) 1 refl)

received_from : (calls : List Call) (bytes : List ℕ) (c : Controller)
    → Held bytes c.phase → ReceivedFrom bytes c (run c calls)
unfolding run ReceivedFrom came not_refused
received_from [] bytes c before = tt
received_from (call ∷ calls) bytes c before =
    let here = each bytes c call before in (
      here.received,
      received_from calls _ (step c call).reply.controller
          here.held,
    )

pub carried_out_as_received : (calls : List Call) → CarriedOutAsReceived (run fresh calls)
unfolding fresh Held
carried_out_as_received calls = received_from calls [] fresh (blank [] nothing_collected refl)
