-- What a tick and a handing come to, by whether the controller is idle.
-- Assumes nothing.
use mathlib.Core.Path.{◌≡◌, refl}
use Rattle.common.specs.Pick.{pick}
use Rattle.common.specs.Refusals.{not_idle}
use Rattle.operations.specs.declared.store.Store.{Store}
use Rattle.link.specs.declared.state.Phase.{Phase}
use Rattle.link.specs.declared.state.Phase.TheVariants.{Collecting, AckOffered, Sending, GoOffered, DataAwaited}
use Rattle.link.specs.declared.state.Phase.TheVariants.{ResultAwaited, EndOffered}
use Rattle.link.specs.declared.state.Body.{Body}
use Rattle.link.specs.Link.{idle_tick}
use Rattle.controller.specs.declared.controller.Controller.{Controller}
use Rattle.controller.specs.Controller.{is_idle_in, carried, refused}
use Rattle.controller.specs.Stores.{carry_out}
use Rattle.controller.specs.Machine.{tick_in, hand_in}

module _ (c : Controller) (b : Body) where
  pub tick_by_idle : (phase : Phase)
      → tick_in c b phase ≡ pick (is_idle_in phase) (carried (idle_tick b phase)) (refused not_idle c)
  unfolding tick_in is_idle_in pick
  tick_by_idle (Collecting s) = refl
  tick_by_idle (AckOffered s) = refl
  tick_by_idle (Sending send) = refl
  tick_by_idle (GoOffered store) = refl
  tick_by_idle (DataAwaited store) = refl
  tick_by_idle (ResultAwaited operation store) = refl
  tick_by_idle (EndOffered interrupt) = refl

  pub hand_by_idle : (store : Store) (phase : Phase)
      → hand_in c b store phase ≡ pick (is_idle_in phase) (carried (carry_out b store)) (refused not_idle c)
  unfolding hand_in is_idle_in pick
  hand_by_idle store (Collecting s) = refl
  hand_by_idle store (AckOffered s) = refl
  hand_by_idle store (Sending send) = refl
  hand_by_idle store (GoOffered held) = refl
  hand_by_idle store (DataAwaited held) = refl
  hand_by_idle store (ResultAwaited operation held) = refl
  hand_by_idle store (EndOffered interrupt) = refl
