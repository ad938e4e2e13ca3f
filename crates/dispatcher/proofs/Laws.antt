-- Laws of the dispatcher's own tests.
-- Assumes nothing.
use mathlib.Core.Path.{◌≡◌, refl, sym, ap, ◌∙◌}
use mathlib.Core.Bool.{Bool, true, false, not, ◌||◌, false≢true}
use Prim.Native.Nat.{ℕ, ◌≤◌, ◌<◌}
use native.Mathlib.Omega.{arith}
use lib.Dec.{eqb}
use borrow.Author.Tests.{leb-false, eq-eqb, not-true, not-false}
use Rattle.common.proofs.PickLaws.{both_hold, pick_yes, not_refused_lem}
use Rattle.operations.specs.declared.store.Store.{Store}
use Rattle.link.specs.declared.state.Phase.{Phase}
use Rattle.link.proofs.PhaseLaws.{each_phase}
use Rattle.link.specs.Damaged.{is_sound}
use Rattle.controller.specs.declared.controller.Controller.{Controller}
use Rattle.controller.specs.Told.{Reply}
use Rattle.controller.specs.Machine as machine
use Rattle.queues.specs.Jobs.{are_sound, queue_of}
use Rattle.queues.proofs.JobLaws.{Ranges, sound_ranges}
use Rattle.dispatcher.specs.declared.dispatcher.Dispatcher.{Dispatcher}
use Rattle.dispatcher.specs.Dispatcher.{is_whole, queue_refusal, hand_over}
use Rattle.controller.specs.Controller.{is_idle_in, is_idle}

-- two tests of which neither holds
pub neither : (a b : Bool) → (a || b) ≡ false → (a ≡ false) × (b ≡ false)
neither true b e = absurd (false≢true (sym e))
neither false b e = (refl, e)

-- the queues of a state that is whole
pub whole_queues : (d : Dispatcher) → is_whole d ≡ true → are_sound d.queues ≡ true
unfolding is_whole
whole_queues d whole = (both_hold _ _ whole).0

pub whole_ranges : (d : Dispatcher) → is_whole d ≡ true → Ranges d.queues
whole_ranges d whole = sound_ranges d.queues (whole_queues d whole)

-- a store that is not refused finds room
pub queue_room : (d : Dispatcher) (job : ℕ) (store : Store) → queue_refusal d job store ≡ 0
    → (queue_of d.queues job).length < 8
unfolding queue_refusal
queue_room d job store e =
    let whole = not_refused_lem _ _ _ (λ z. omega arith) e in
    let taken = not_refused_lem _ _ _ (λ z. omega arith) whole.1 in
    let room = not_refused_lem _ _ _ (λ z. omega arith) taken.1 in
    leb-false _ _ room.0

-- and its job is one of the four
pub queue_low : (d : Dispatcher) (job : ℕ) (store : Store) → queue_refusal d job store ≡ 0 → job ≤ 3
unfolding queue_refusal
queue_low d job store e =
    let whole = not_refused_lem _ _ _ (λ z. omega arith) e in
    let taken = not_refused_lem _ _ _ (λ z. omega arith) whole.1 in
    let low = leb-false 4 job (neither _ _ (neither _ _ taken.0).0).0 in
    omega arith

-- a state that is whole and idle takes a store
idle_hand : (c : Controller) (store : Store) (phase : Phase) → is_idle_in phase ≡ true
    → (machine.hand_in c c.body store phase).refusal ≡ 0
unfolding is_idle_in machine.hand_in
idle_hand c store =
    each_phase (λ (phase : Phase). is_idle_in phase ≡ true → (machine.hand_in c c.body store phase).refusal ≡ 0)
    (λ s idle. ap (λ (r : Reply). r.refusal) (pick_yes _ _ idle)) (λ s. busy) (λ send. busy) (λ held. busy)
    (λ held. busy) (λ operation held. busy) (λ interrupt. busy)
  where
    busy : {A : Type 0} → false ≡ true → A
    busy idle = absurd (false≢true idle)

pub hand_accepted : (d : Dispatcher) (job : ℕ) → is_whole d ≡ true → is_idle d.controller ≡ true
    → eqb (hand_over d job).refusal 0 ≡ true
unfolding is_whole hand_over machine.hand_call
hand_accepted d job whole idle =
    let c = d.controller in
    let hurt = machine.is_damaged c in
    let sound = not-false (is_sound c.body c.phase)
    (not-true hurt (both_hold (are_sound d.queues) (not hurt) whole).1) in
    eq-eqb _ 0 (ap (λ (r : Reply). r.refusal) (pick_yes _ _ sound) ∙ idle_hand c _ c.phase idle)
