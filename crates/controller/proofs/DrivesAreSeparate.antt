-- Demand 3 over the definitions: what a drive ends with and was given is a function of its own history alone, so two
-- lists with the same history of a drive agree on it.
-- Assumes nothing.
pub mod OneDrive
pub mod Views
pub mod Stores
pub mod Calls
pub mod EachCall
use mathlib.Core.Path.{◌≡◌, refl, sym, ap, ap₂, ◌∙◌}
use Prim.Native.Nat.{ℕ, ◌≤◌}
use mathlib.Core.Bool.{true}
use mathlib.Core.List.{List, [], ◌∷◌, ◌++◌, append_assoc}
use Rattle.common.proofs.PickLaws.{both_hold}
use Rattle.status.specs.declared.drives.Drive.{Drive}
use Rattle.status.specs.Drives.{copy_report}
use Rattle.operations.specs.declared.store.Store.{Store}
use Rattle.controller.specs.declared.controller.Controller.{Controller}
use Rattle.controller.specs.Controller.{fresh}
use Rattle.controller.specs.Machine.{Call, Exchange, step, run}
use Rattle.controller.specs.Lists.{last_store, no_store, after}
use Rattle.controller.specs.Separation.{Event, Output, events_of, history_from, outputs_from, admits, admitted_from}
use Rattle.controller.specs.Separation.{EndsAlike, Separate}
use Rattle.controller.proofs.DrivesAreSeparate.OneDrive.{View, told, gives, told_all, gives_all}
use Rattle.controller.proofs.Steps.Resting.{seen}
use Rattle.controller.proofs.DrivesAreSeparate.Views.{view_of, InHand}
use Rattle.controller.proofs.DrivesAreSeparate.EachCall.{step_follows}

-- ---- one event after another

told_append : (v : View) (events more : List Event) → told_all v (events ++ more) ≡ told_all (told_all v events) more
unfolding told_all
told_append v [] more = refl
told_append v (event ∷ events) more = told_append (told v event) events more

gives_append :
    (d : ℕ) (v : View) (events more : List Event)
    → gives_all d v (events ++ more) ≡ gives_all d v events ++ gives_all d (told_all v events) more
unfolding told_all gives_all
gives_append d v [] more = refl
gives_append d v (event ∷ events) more =
    ap (λ (l : List Output). gives d v event ++ l) (gives_append d (told v event) events more)
    ∙ sym (append_assoc (gives d v event) (gives_all d (told v event) events)
    (gives_all d (told_all (told v event) events) more))

-- ---- a whole list

-- the machine of one drive, over the drive's history, ends where the controller has the drive, and gives what the
-- controller gave it
pub record Determined (d : ℕ) (last : Store) (c : Controller) (xs : List Exchange) : Type 0 where
  pub drive : seen d (after c xs).body ≡ (told_all (view_of d last c) (history_from d last c xs)).drive
  pub given : outputs_from d last c xs ≡ gives_all d (view_of d last c) (history_from d last c xs)

pub determined :
    (d : ℕ)
    → d ≤ 3
    → (calls : List Call) (last : Store) (c : Controller)
    → InHand last c.body.selected c.phase
    → admitted_from c (run c calls) ≡ true
    → Determined d last c (run c calls)
unfolding run after history_from outputs_from admitted_from told_all gives_all
determined d low [] last c held admits = record { drive = refl; given = refl }
determined d low (call ∷ calls) last c held admitted =
    let x : Exchange = record { call = call; answer = step c call } in
    let next = (step c call).reply.controller in
    let later = last_store last c x in
    let (first, others) = both_hold (admits c x) (admitted_from next (run next calls)) admitted in
    let follows = step_follows d low c call last held first in
    let rest = determined d low calls later next follows.held others in
    let v = view_of d last c in
    let events = events_of d later c x in
    let more = history_from d later next (run next calls) in
    record {
      drive =
          rest.drive
          ∙ ap (λ (w : View). (told_all w more).drive) follows.view
          ∙ sym (ap (λ (w : View). w.drive) (told_append v events more));
      given =
          ap₂ (λ (l m : List Output). l ++ m) follows.given
          (rest.given ∙ ap (λ (w : View). gives_all d w more) follows.view)
          ∙ sym (gives_append d v events more);
    }

-- ---- the theorem

-- drives of which the same is seen end alike
pub seen_alike : (one other : Drive) → copy_report one ≡ copy_report other → EndsAlike one other
seen_alike one other same =
    record {
      track = ap (λ (x : Drive). x.track) same;
      density = ap (λ (x : Drive). x.density) same;
      gap = ap (λ (x : Drive). x.gap) same;
      guard = ap (λ (x : Drive). x.guard) same;
    }

pub drives_are_separate : (calls others : List Call) → Separate (run fresh calls) (run fresh others)
unfolding fresh InHand
drives_are_separate calls others d low admitted_one admitted_two same =
    let one = determined d low calls no_store fresh tt admitted_one in
    let two = determined d low others no_store fresh tt admitted_two in
    let drive = one.drive ∙ ap (λ (events : List Event). (told_all (view_of d no_store fresh) events).drive) same
    ∙ sym two.drive in
    record {
      ends = seen_alike _ _ drive;
      given = one.given ∙ ap (gives_all d (view_of d no_store fresh)) same ∙ sym two.given;
    }
