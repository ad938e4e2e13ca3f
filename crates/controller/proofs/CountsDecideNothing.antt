-- What becomes of a store that bears a count does not hang on the count: whatever two bytes say it, the store is
-- carried out alike.
-- Assumes nothing.
use mathlib.Core.Path.{◌≡◌, refl, sym, ap, subst, ◌∙◌}
use Prim.Native.Nat.{ℕ, ◌/◌, ◌%◌}
use mathlib.Core.Bool.{Bool, true, false, ◌&&◌, ◌||◌}
use lib.Dec.{eqb}
use borrow.Author.Tests.{eqb-true}
use Rattle.common.specs.Pick.{pick}
use Rattle.common.proofs.PickLaws.{by_either, both_hold}
use Rattle.status.specs.Drives.{drive_of}
use Rattle.operations.specs.declared.operation.Operation.{Operation}
use Rattle.operations.specs.declared.operation.Operation.TheVariants.{Write, CheckBytes}
use Rattle.operations.specs.declared.store.Store.{Store}
use Rattle.operations.specs.declared.decode.Decoded.{Decoded}
use Rattle.operations.specs.declared.course.Course.{Course}
use Rattle.operations.specs.declared.course.Course.TheVariants.{Reset, End, Enable, Set, Begin}
use Rattle.operations.specs.Operation.{same_operation}
use Rattle.operations.specs.Decode.{decode_of, in_density}
use Rattle.operations.specs.Store.{asks_interrupt, names_drive, named_drive, names_unknown, selected_by, asked_for}
use Rattle.operations.specs.Store.{asked_in}
use Rattle.operations.specs.Course.{course_of}
use Rattle.link.specs.declared.state.Collected.{Collected}
use Rattle.link.specs.declared.state.Phase.{Phase}
use Rattle.link.specs.declared.state.Phase.TheVariants.{AckOffered}
use Rattle.link.specs.declared.state.Body.{Body}
use Rattle.std.specs.Prelude.{None}
use Rattle.link.specs.State.{Transition}
use Rattle.link.specs.Bytes.{load_lead}
use Rattle.link.specs.Damaged.{sound_lead, sound_string, sound_phase, is_sound}
use Rattle.link.specs.Loads.{carry_out_load}
use Rattle.link.specs.State.{store_of, with_selected}
use Rattle.link.proofs.PhaseLaws.{each_phase}
use Rattle.controller.specs.declared.controller.Controller.{Controller}
use Rattle.controller.specs.Told.{Reply}
use Rattle.controller.specs.Controller.{carried, refused}
use Rattle.controller.specs.Stores.{settle, end_with, offer_go, await_check_bytes, order_move, past_test, begin, follow}
use Rattle.controller.specs.Stores.{clear_outcome, carry_out_on, carry_out}
use Rattle.controller.specs.Machine.{plain, carry_out_string, taken_in, taken_call, hand_in, hand_call, step}
use Rattle.controller.specs.Machine.Call.{taken, hand}
use Rattle.controller.specs.LongCounts.{bears_count, with_count, with_string_count, SettledAlike}

-- two transitions that leave one body and hand back one record
abbrev Alike : Transition → Transition → Type 0
Alike one other = (one.body ≡ other.body) × (one.handed ≡ other.handed)

-- two replies with one refusal besides
abbrev RepliesAlike : Reply → Reply → Type 0
RepliesAlike one other = SettledAlike (plain one) (plain other)

pick_alike : {A : Type 0} (P : A → A → Type 0) (test : Bool) (a b x y : A) → P a x → P b y
    → P (pick test a b) (pick test x y)
unfolding pick
pick_alike P true a b x y one two = one
pick_alike P false a b x y one two = two

carried_reply : (one two : Transition) → Alike one two → RepliesAlike (carried one) (carried two)
carried_reply one two alike = record { refusal = refl; body = alike.0; handed = alike.1 }

-- what a store with a count asks for does not hang on its last byte
decoded_alike : (operation first last other : ℕ)
    → (eqb operation 5 || (eqb operation 4 && eqb first 0x80)) ≡ true
    → decode_of operation first last ≡ decode_of operation first other
unfolding decode_of pick
decoded_alike operation first last other bears =
    by_either (eqb operation 5) (eqb operation 4 && eqb first 0x80) (λ writes. rw (eqb-true operation 5 writes))
    (λ supplies. rw (eqb-true operation 4 (both_hold _ _ supplies).0)) bears

-- one of three ways
each_way : (P : Transition → Type 0) (s t : Bool) (x y z : Transition) → P x → P y → P z
    → P (pick s x (pick t y z))
unfolding pick
each_way P true t x y z one two three = one
each_way P false true x y z one two three = two
each_way P false false x y z one two three = three

-- however an operation begins, it leaves one body and hands back nothing
Begun : Body → Operation → Transition → Type 0
Begun b operation t = (t.body ≡ past_test b operation) × (t.handed ≡ None)

begun : (b : Body) (operation : Operation) (held : Store) → Begun b operation (begin b operation held)
unfolding Begun begin order_move
begun b operation held =
    each_way (Begun b operation) (same_operation operation Write) (same_operation operation CheckBytes)
    (offer_go (past_test b operation) held) (await_check_bytes (past_test b operation) held)
    (order_move (past_test b operation) operation held) (refl, refl) (refl, refl) (refl, refl)

module _ (store : Store) (high low : ℕ) (bears : bears_count store ≡ true) where
  abbrev other : Store
  other = with_count store high low

  asked_alike : (density : ℕ) → asked_in store density ≡ asked_in other density
  unfolding asked_for bears_count
  asked_alike density =
      ap (in_density density) (decoded_alike (store.address / 16 % 8) store.first store.fourth low bears)

  followed_alike : (b : Body) (course : Course) → Alike (follow b store course) (follow b other course)
  unfolding follow end_with settle asks_interrupt Begun
  followed_alike b Reset = (refl, refl)
  followed_alike b (End code) = (refl, refl)
  followed_alike b (Enable enable) = (refl, refl)
  followed_alike b (Set drive) = (refl, refl)
  followed_alike b (Begin operation) =
      let one = begun b operation store in
      let two = begun b operation other in
      (one.0 ∙ sym two.0, one.1 ∙ sym two.1)

  carried_alike : (b : Body) → Alike (carry_out b store) (carry_out b other)
  unfolding carry_out carry_out_on names_unknown names_drive named_drive selected_by end_with settle asks_interrupt
  carried_alike b =
      let cleared = clear_outcome b in
      let selected = selected_by store b.selected in
      let drive = drive_of cleared.drives selected in
      pick_alike Alike (names_unknown store) (end_with cleared store 0x01) (carry_out_on cleared store selected)
      (end_with cleared other 0x01) (carry_out_on cleared other selected) (refl, refl)
      (subst
      (λ (d : Decoded). Alike (carry_out_on cleared store selected)
      (follow (with_selected cleared selected) other (course_of drive d)))
      (asked_alike drive.density)
      (followed_alike (with_selected cleared selected) (course_of drive (asked_in store drive.density))))

  pub handed_alike : (c : Controller) → SettledAlike (step c (hand store)) (step c (hand other))
  unfolding step hand_call hand_in
  handed_alike c =
      let b = c.body in
      let same : (number : ℕ) → RepliesAlike (refused number c) (refused number c) = λ number.
      record { refusal = refl; body = refl; handed = refl } in
      let P : Phase → Type 0 = λ phase. RepliesAlike (hand_in c b store phase) (hand_in c b other phase) in
      pick_alike RepliesAlike (is_sound b c.phase) (hand_in c b store c.phase) (refused 1 c)
      (hand_in c b other c.phase) (refused 1 c)
      (each_phase P
      (λ s. pick_alike RepliesAlike (eqb s.length 0) (carried (carry_out b store)) (refused 4 c)
      (carried (carry_out b other)) (refused 4 c)
      (carried_reply (carry_out b store) (carry_out b other) (carried_alike b)) (same 4))
      (λ s. same 4) (λ send. same 4) (λ held. same 4) (λ held. same 4) (λ operation held. same 4) (λ interrupt. same 4)
      c.phase)
      (same 1)

-- a string that is taken, in the same way
pub taken_alike : (b : Body) (s : Collected) (high low : ℕ) → bears_count (store_of s) ≡ true
    → SettledAlike (step (record { body = b; phase = AckOffered s }) taken)
    (step (record { body = b; phase = AckOffered (with_string_count s high low) }) taken)
unfolding step taken_call taken_in carry_out_string store_of is_sound sound_phase sound_string sound_lead
taken_alike b s high low bears =
    let t = with_string_count s high low in
    let one : Controller = record { body = b; phase = AckOffered s } in
    let other : Controller = record { body = b; phase = AckOffered t } in
    pick_alike RepliesAlike (is_sound b (AckOffered s)) (carried (carry_out_string b s)) (refused 1 one)
    (carried (carry_out_string b t)) (refused 1 other)
    (carried_reply (carry_out_string b s) (carry_out_string b t)
    (pick_alike Alike (eqb s.c0 load_lead) (carry_out_load b s.c1) (carry_out b (store_of s))
    (carry_out_load b s.c1) (carry_out b (store_of t)) (refl, refl) (carried_alike (store_of s) high low bears b)))
    (record { refusal = refl; body = refl; handed = refl })
