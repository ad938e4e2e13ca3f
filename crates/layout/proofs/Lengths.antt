-- How many bytes the parts of a state have, and the whole.
-- Assumes nothing.
use mathlib.Core.Path.{◌≡◌, refl}
use lib.ListN.{length, length-append}
use Rattle.link.specs.declared.state.Body.{Body}
use Rattle.link.specs.declared.state.Phase.{Phase}
use Rattle.link.specs.declared.state.Phase.TheVariants.{Collecting, AckOffered, Sending, GoOffered, DataAwaited}
use Rattle.link.specs.declared.state.Phase.TheVariants.{ResultAwaited, EndOffered}
use Rattle.queues.specs.declared.queue.Queue.{Queue}
use Rattle.dispatcher.specs.declared.dispatcher.Dispatcher.{Dispatcher}
use Rattle.layout.specs.Places.{state_length, head_length, phase_length, queue_length}
use Rattle.layout.specs.Writing.{head_bytes, phase_bytes, queue_bytes, state_bytes}

pub head_length_lem : (b : Body) → length (head_bytes b) ≡ head_length
unfolding head_bytes
head_length_lem b = refl

pub phase_length_lem : (p : Phase) → length (phase_bytes p) ≡ phase_length
unfolding phase_bytes
phase_length_lem (Collecting s) = refl
phase_length_lem (AckOffered s) = refl
phase_length_lem (Sending send) = refl
phase_length_lem (GoOffered store) = refl
phase_length_lem (DataAwaited store) = refl
phase_length_lem (ResultAwaited operation store) = refl
phase_length_lem (EndOffered interrupt) = refl

pub queue_length_lem : (q : Queue) → length (queue_bytes q) ≡ queue_length
unfolding queue_bytes
queue_length_lem q = refl

pub state_length_lem : (d : Dispatcher) → length (state_bytes d) ≡ state_length
unfolding state_bytes
state_length_lem d =
    simp (length-append, head_length_lem d.controller.body, phase_length_lem d.controller.phase, queue_length_lem)
