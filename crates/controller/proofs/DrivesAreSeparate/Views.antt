-- What is seen of one drive in the controller, and what it is for a call to be followed by the machine of one drive.
-- Assumes nothing.
use mathlib.Core.Path.{◌≡◌, refl, sym, ap, ap₂, ◌∙◌}
use Prim.Native.Nat.{ℕ, ◌≤◌}
use mathlib.Core.Bool.{true, false}
use mathlib.Core.List.{List, [], ◌∷◌, ◌++◌, append-nil}
use lib.Dec.{eqb}
use borrow.Author.Tests.{eq-eqb}
use Rattle.common.specs.Pick.{pick}
use Rattle.common.proofs.PickLaws.{by_test, pick_both, pick_yes, pick_no}
use Rattle.operations.specs.declared.operation.Operation.{Operation}
use Rattle.operations.specs.declared.operation.Operation.TheVariants.{Write}
use Rattle.operations.specs.declared.decode.Decoded.TheVariants.{Operate}
use Rattle.operations.specs.declared.store.Store.{Store}
use Rattle.link.specs.declared.state.Phase.{Phase}
use Rattle.link.specs.declared.state.Body.{Body}
use Rattle.link.specs.State.{when_in_hand}
use Rattle.controller.specs.declared.controller.Controller.{Controller}
use Rattle.link.specs.declared.state.Action.{Action}
use Rattle.link.specs.declared.state.Action.TheVariants.{Nothing, Byte, Text, Order}
use Rattle.link.specs.State.{Transition}
use Rattle.operations.specs.Store.{names_drive, named_drive, asked_for}
use Rattle.controller.specs.Controller.{carried, refused}
use Rattle.controller.specs.Machine.{Call, Exchange}
use Rattle.controller.specs.Lists.{not_refused}
use Rattle.controller.specs.Separation.{Event, Output, is_of, event_of, events_of, orders_for, bytes_given, transfer_of}
use Rattle.controller.specs.Separation.{outputs_of}
use Rattle.controller.proofs.DrivesAreSeparate.OneDrive.{Hand, View, resting, operand, told, gives, told_all}
use Rattle.controller.proofs.DrivesAreSeparate.OneDrive.{gives_all}
use Rattle.controller.proofs.DrivesAreSeparate.OneDrive.Hand.{empty, go_offered, data_awaited, result_awaited}
use Rattle.controller.proofs.Steps.Resting.{by_free, seen, Free, NoOrder, Rests}

-- ---- the view of a drive

-- a store without its address
abbrev pub bare : Store → Store
bare store = operand store.first store.second store.third store.fourth

unfoldable pub hand_in : Phase → Hand
hand_in =
    when_in_hand (λ store. go_offered (bare store)) (λ store. data_awaited (bare store))
    (λ operation store. result_awaited operation (bare store)) empty

-- what is in hand is the drive's if the last store named it
abbrev pub view_of : ℕ → Store → Controller → View
view_of d last c = record { drive = seen d c.body; hand = pick (is_of d last) (hand_in c.phase) empty }

-- what is in hand is the last store's, whose drive is selected
pub record Held (last : Store) (selected : ℕ) (operation : Operation) (store : Store) : Type 0 where
  pub same : store ≡ last
  pub selects : selected ≡ named_drive last
  pub names : names_drive last ≡ true
  pub low : named_drive last ≤ 3
  pub asks : asked_for last ≡ Operate operation

unfoldable pub InHand : Store → ℕ → Phase → Type 0
InHand last selected = when_in_hand (Held last selected Write) (Held last selected Write) (Held last selected) Unit

-- where nothing is in hand
pub free_held : (last : Store) (selected : ℕ) (phase : Phase) → Free phase → InHand last selected phase
unfolding InHand
free_held last selected = by_free (InHand last selected) (λ s. tt) (λ s. tt) (λ s. tt) (λ interrupt. tt)

pub free_hand : (phase : Phase) → Free phase → hand_in phase ≡ empty
unfolding hand_in
free_hand = by_free (λ (phase : Phase). hand_in phase ≡ empty) (λ s. refl) (λ s. refl) (λ s. refl) (λ interrupt. refl)

pub free_view : (d : ℕ) (last : Store) (c : Controller) → Free c.phase → view_of d last c ≡ resting (seen d c.body)
free_view d last c free =
    ap (λ (hand : Hand). record { drive = seen d c.body; hand = hand })
    (ap (λ (hand : Hand). pick (is_of d last) hand empty) (free_hand c.phase free) ∙ pick_both (is_of d last) empty)

pub rests_view :
    (d : ℕ)
    → d ≤ 3
    → (last : Store) (b : Body) (t : Transition)
    → Rests b t
    → view_of d last (carried t).controller ≡ resting (seen d b)
rests_view d low last b t rests =
    free_view d last (carried t).controller rests.free ∙ ap resting (rests.same.drive d low)

-- no order at all is none for the drive
pub none_for : (d : ℕ) (action : Action) → NoOrder action → orders_for d action ≡ []
unfolding orders_for NoOrder
none_for d Nothing none = refl
none_for d (Byte b) none = refl
none_for d (Text string) none = refl
none_for d (Order order) none = absurd none

-- ---- a call follows

-- With v seen of drive d before, call x and its answer show what the machine of one drive does; `store` is the store it
-- belongs to.
pub record Follows (d : ℕ) (v : View) (store : Store) (c : Controller) (x : Exchange) : Type 0 where
  pub view : view_of d store x.answer.reply.controller ≡ told_all v (events_of d store c x)
  pub given : outputs_of d store x ≡ gives_all d v (events_of d store c x)
  pub held : InHand store x.answer.reply.controller.body.selected x.answer.reply.controller.phase

module _ (d : ℕ) (store : Store) (c : Controller) (call : Call) where
  -- a refused call: nothing moves
  pub refused_follows :
      (number bytes : ℕ) (space check : List ℕ)
      → eqb number 0 ≡ false
      → InHand store c.body.selected c.phase
      → Follows d (view_of d store c) store c
      (record {
        call = call;
        answer = record { reply = refused number c; bytes = bytes; space = space; check = check };
      })
  unfolding events_of outputs_of not_refused told_all gives_all orders_for
  refused_follows number bytes space check refusal held =
      let none = pick_no (event_of d store c call) [] refusal in
      record {
        view = ap (told_all (view_of d store c)) (sym none);
        given =
            ap (λ (l : List Output). l ++ []) (pick_no (transfer_of d store _ call) [] refusal)
            ∙ ap (gives_all d (view_of d store c)) (sym none);
        held = held;
      }

-- an answer that does to the drive what an event does, and one that does nothing to it
pub record Does (d : ℕ) (v : View) (event : Event) (store : Store) (x : Exchange) : Type 0 where
  pub done : x.answer.reply.refusal ≡ 0
  pub view : view_of d store x.answer.reply.controller ≡ told v event
  pub given : transfer_of d store (bytes_given x) x.call ++ orders_for d x.answer.reply.action ≡ gives d v event

pub record Passes (d : ℕ) (v : View) (store : Store) (x : Exchange) : Type 0 where
  pub view : view_of d store x.answer.reply.controller ≡ v
  pub transfer : transfer_of d store (bytes_given x) x.call ≡ []
  pub quiet : orders_for d x.answer.reply.action ≡ []

abbrev pub HeldBy : Store → Exchange → Type 0
HeldBy store x = InHand store x.answer.reply.controller.body.selected x.answer.reply.controller.phase

module _ (d : ℕ) (store : Store) (c : Controller) (v : View) (x : Exchange) where
  -- a call that is no event of the drive
  pub passes_follows : event_of d store c x.call ≡ [] → Passes d v store x → HeldBy store x → Follows d v store c x
  unfolding events_of outputs_of told_all gives_all
  passes_follows made passes held =
      let test = not_refused x in
      let none = ap (λ (l : List Event). pick test l []) made ∙ pick_both test [] in
      record {
        view = passes.view ∙ ap (told_all v) (sym none);
        given =
            ap₂ (λ (l m : List Output). l ++ m)
            (ap (λ (l : List Output). pick test l []) passes.transfer ∙ pick_both test []) passes.quiet
            ∙ ap (gives_all d v) (sym none);
        held = held;
      }

  -- a call that is one
  pub does_follows :
      (event : Event)
      → event_of d store c x.call ≡ event ∷ []
      → Does d v event store x
      → HeldBy store x
      → Follows d v store c x
  unfolding events_of outputs_of not_refused told_all gives_all
  does_follows event made does held =
      let test = eq-eqb x.answer.reply.refusal 0 does.done in
      let one = pick_yes (event_of d store c x.call) [] test ∙ made in
      record {
        view = does.view ∙ ap (told_all v) (sym one);
        given =
            ap (λ (l : List Output). l ++ orders_for d x.answer.reply.action)
            (pick_yes (transfer_of d store _ x.call) [] test)
            ∙ does.given ∙ sym (append-nil (gives d v event)) ∙ ap (gives_all d v) (sym one);
        held = held;
      }

  -- a call that is one if its store is the drive's own
  pub owned_follows :
      (event : Event)
      → event_of d store c x.call ≡ pick (is_of d store) (event ∷ []) []
      → (is_of d store ≡ true → Does d v event store x)
      → (is_of d store ≡ false → Passes d v store x)
      → HeldBy store x
      → Follows d v store c x
  owned_follows event made own other held =
      by_test (is_of d store) (λ yes. does_follows event (made ∙ pick_yes (event ∷ []) [] yes) (own yes) held)
      (λ no. passes_follows (made ∙ pick_no (event ∷ []) [] no) (other no) held)
