-- The calls that a script comes to are the same from every idle state with the same of its drive.
-- Assumes nothing.
use mathlib.Core.Path.{◌≡◌, refl, sym, ap, ap₂, ◌∙◌}
use Prim.Native.Nat.{ℕ, zero, suc}
use mathlib.Core.Bool.{Bool, true, false, false≢true}
use mathlib.Core.List.{List, [], ◌∷◌}
use Rattle.common.specs.Pick.{pick}
use Rattle.operations.specs.Store.{named_drive}
use Rattle.link.specs.declared.state.Phase.{Phase}
use Rattle.link.specs.declared.state.Phase.TheVariants.{Collecting, AckOffered, Sending, GoOffered, DataAwaited}
use Rattle.link.specs.declared.state.Phase.TheVariants.{ResultAwaited, EndOffered}
use Rattle.controller.specs.declared.controller.Controller.{Controller}
use Rattle.controller.specs.Controller.{is_idle}
use Rattle.controller.specs.Machine.{Call, step}
use Rattle.controller.specs.Machine.Call.{hand}
use Rattle.controller.specs.Lists.{brings_store, store_brought}
use Rattle.controller.specs.AnyOrder.{is_own}
use Rattle.controller.specs.Scripts.{Script, answer_in, play, Admitted, ScriptSteady}
use Rattle.controller.proofs.GoesAlike.{Alike, Phases, idle_alike, step_alike}
use Rattle.controller.proofs.GoesAlike.Phases.{idling, collecting, offering, sending, going, writing, moving}
use Rattle.controller.proofs.GoesAlike.Phases.{ending}
use Rattle.controller.proofs.AnyOrder.{start_alike, drive_same}

module _ (script : Script) where
  answers_alike : {d n m : ℕ} {k l : Bool} {p q : Phase} → Phases d n m k l p q
      → answer_in script p ≡ answer_in script q
  unfolding answer_in
  answers_alike (idling s t none nothing) = refl
  answers_alike (collecting s) = refl
  answers_alike (offering s) = refl
  answers_alike (sending kind noes bytes more) = refl
  answers_alike (going store chosen) = refl
  answers_alike (writing store chosen) = refl
  answers_alike (moving operation store chosen) = refl
  answers_alike (ending interrupt same) = refl

  -- an answer may stand in a transaction, and brings no store
  answer_own : (c : Controller) (phase : Phase) → (is_own (answer_in script phase) ≡ true)
      × (brings_store c (answer_in script phase) ≡ false)
  unfolding answer_in is_own brings_store
  answer_own c (Collecting s) = (refl, refl)
  answer_own c (AckOffered s) = (refl, refl)
  answer_own c (Sending s) = (refl, refl)
  answer_own c (GoOffered store) = (refl, refl)
  answer_own c (DataAwaited store) = (refl, refl)
  answer_own c (ResultAwaited operation store) = (refl, refl)
  answer_own c (EndOffered interrupt) = (refl, refl)

  plays_alike : (d n : ℕ) (c o : Controller) → Alike d c o → play n script c ≡ play n script o
  unfolding play
  plays_alike d zero c o alike = refl
  plays_alike d (suc n) c o alike =
      let call = answer_in script c.phase in
      let (own, none) = answer_own c c.phase in
      let answers = step_alike d c o alike call own (λ done brings. absurd (false≢true (sym none ∙ brings))) in
      ap₂ (λ (t : Bool) (l : List Call). pick t [] (call ∷ l)) (idle_alike d alike.phases)
      (plays_alike d n _ _ answers.next)
      ∙ ap (λ (x : Call). pick (is_idle o) [] (x ∷ play n script (step o x).reply.controller))
      (answers_alike alike.phases)

pub script_steady : (script : Script) → Admitted script → ScriptSteady script
unfolding is_own brings_store store_brought
script_steady script admitted c other meet =
    let d = named_drive script.store in
    let start = start_alike d c other meet.idle meet.idle_too meet.sound meet.sound_too
    (λ low. drive_same _ _ (meet.same low)) in
    let answers = step_alike d c other start (hand script.store) refl
    (λ done brings. record { names = admitted.names; named = refl; keeps = admitted.keeps }) in
    ap (λ (l : List Call). hand script.store ∷ l) (plays_alike script d 6 _ _ answers.next)
