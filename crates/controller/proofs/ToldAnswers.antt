-- Each answer of the machine is told by one of the program: by a call that is carried out, or by a refusal of its own.
-- Assumes nothing.
use Rattle.std.specs.Prelude.{◌≡◌, ℕ, List, Ok, Err, eqb, refl}
use Rattle.common.specs.Pick.{pick}
use Rattle.common.proofs.PickLaws.{pick_by}
use Rattle.common.proofs.RefusalLaws.{refused_not_done}
use mathlib.Core.Path.{subst}
use Rattle.common.specs.declared.refusals.Refusal.{Refusal}
use Rattle.common.specs.declared.refusals.Refusal.TheVariants.{StateDamaged, LinkNotAwaited, TransferNotAwaited}
use Rattle.common.specs.declared.refusals.Refusal.TheVariants.{NotIdle, NoSuchDrive, CheckStoreLength}
use Rattle.common.specs.declared.refusals.Refusal.TheVariants.{CodeNotListed, FlagsAgainstRule, WrongLength}
use Rattle.common.specs.declared.refusals.Refusal.TheVariants.{MarkValue, SpaceShort, NoSuchPlace}
use Rattle.common.specs.Told.{number_of}
use Rattle.records.specs.Whole.{layout_refusal, whole_refusal}
use Rattle.status.specs.declared.drives.Drive.{Drive}
use Rattle.operations.specs.declared.operation.Operation.{Operation}
use Rattle.operations.specs.declared.store.Store.{Store}
use Rattle.link.specs.declared.state.Phase.{Phase}
use Rattle.link.specs.declared.state.Phase.TheVariants.{Collecting, AckOffered, Sending, GoOffered, DataAwaited}
use Rattle.link.specs.declared.state.Phase.TheVariants.{ResultAwaited, EndOffered}
use Rattle.link.specs.declared.state.Body.{Body}
use Rattle.link.specs.State.{Transition}
use Rattle.link.specs.Damaged.{is_sound}
use Rattle.transfers.specs.declared.expected.Expected.{Expected}
use Rattle.transfers.specs.declared.expected.Expected.TheVariants.{Whole, Supplied, Count, Nothing}
use Rattle.transfers.specs.Expected.{image_refusal, unmarked_refusal}
use Rattle.transfers.specs.Data.{Host, data_refusal}
use Rattle.transfers.specs.Results.{Result, result_refusal}
use Rattle.controller.specs.declared.controller.Controller.{Controller}
use Rattle.controller.specs.declared.controller.Answer.{Answer as Told}
use Rattle.controller.specs.declared.controller.Given.{Given}
use Rattle.controller.specs.declared.controller.Reply.{Reply as Replied}
use Rattle.controller.specs.Told.{Reply, told}
use Rattle.controller.specs.Controller.{carried, refused}
use Rattle.controller.specs.Records.{Answer, answered, data_done, result_done}
use Rattle.controller.specs.Machine.{byte_in, broken_in, tick_in, taken_in, hand_in, data_for, data_in, result_for}
use Rattle.controller.specs.Machine.{result_in}
use Rattle.controller.specs.Machine.{byte_call, taken_call, broken_call, report_call, data_call, result_call, tick_call}
use Rattle.controller.specs.Machine.{reset_call, hand_call, unchanged}

-- ---- calls that are lent nothing

pub record ToldBy (r : Reply) : Type 0 where
  pub reply : Replied Controller Told
  pub same : told reply ≡ r

carried_told : (t : Transition) → ToldBy (carried t)
carried_told t =
    record {
      reply =
          record {
            state = record { body = t.body; phase = t.phase };
            answer = Ok (record { action = t.action; handed = t.handed });
          };
      same = refl;
    }

refused_told : (e : Refusal) (c : Controller) → ToldBy (refused (number_of e) c)
refused_told e c = record { reply = record { state = c; answer = Err e }; same = refl }

-- a call on a state that may be damaged
call_told : (c : Controller) (r : Reply) → ToldBy r → ToldBy (pick (is_sound c.body c.phase) r (refused 1 c))
call_told c r told_r =
    pick_by ToldBy (is_sound c.body c.phase) (λ sane. told_r) (λ damaged. refused_told StateDamaged c)

module _ (c : Controller) where
  byte_in_told : (b : Body) (byte : ℕ) (phase : Phase) → ToldBy (byte_in c b byte phase)
  unfolding byte_in
  byte_in_told b byte (Collecting s) = carried_told _
  byte_in_told b byte (AckOffered s) = carried_told _
  byte_in_told b byte (Sending s) = carried_told _
  byte_in_told b byte (GoOffered store) = carried_told _
  byte_in_told b byte (DataAwaited store) = refused_told LinkNotAwaited c
  byte_in_told b byte (ResultAwaited operation store) = refused_told LinkNotAwaited c
  byte_in_told b byte (EndOffered interrupt) = carried_told _

  pub byte_told : (byte : ℕ) → ToldBy (byte_call c byte)
  unfolding byte_call
  byte_told byte = call_told c _ (byte_in_told c.body byte c.phase)

  broken_in_told : (b : Body) (phase : Phase) → ToldBy (broken_in c b phase)
  unfolding broken_in
  broken_in_told b (Collecting s) = carried_told _
  broken_in_told b (AckOffered s) = carried_told _
  broken_in_told b (Sending s) = carried_told _
  broken_in_told b (GoOffered store) = carried_told _
  broken_in_told b (DataAwaited store) = refused_told LinkNotAwaited c
  broken_in_told b (ResultAwaited operation store) = refused_told LinkNotAwaited c
  broken_in_told b (EndOffered interrupt) = carried_told _

  pub broken_told : ToldBy (broken_call c)
  unfolding broken_call
  broken_told = call_told c _ (broken_in_told c.body c.phase)

  tick_in_told : (b : Body) (phase : Phase) → ToldBy (tick_in c b phase)
  unfolding tick_in
  tick_in_told b (Collecting s) =
      pick_by ToldBy (eqb s.length 0) (λ none. carried_told _) (λ some. refused_told NotIdle c)
  tick_in_told b (AckOffered s) = refused_told NotIdle c
  tick_in_told b (Sending s) = refused_told NotIdle c
  tick_in_told b (GoOffered store) = refused_told NotIdle c
  tick_in_told b (DataAwaited store) = refused_told NotIdle c
  tick_in_told b (ResultAwaited operation store) = refused_told NotIdle c
  tick_in_told b (EndOffered interrupt) = refused_told NotIdle c

  pub tick_told : ToldBy (tick_call c)
  unfolding tick_call
  tick_told = call_told c _ (tick_in_told c.body c.phase)

  hand_in_told : (b : Body) (held : Store) (phase : Phase) → ToldBy (hand_in c b held phase)
  unfolding hand_in
  hand_in_told b held (Collecting s) =
      pick_by ToldBy (eqb s.length 0) (λ none. carried_told _) (λ some. refused_told NotIdle c)
  hand_in_told b held (AckOffered s) = refused_told NotIdle c
  hand_in_told b held (Sending s) = refused_told NotIdle c
  hand_in_told b held (GoOffered store) = refused_told NotIdle c
  hand_in_told b held (DataAwaited store) = refused_told NotIdle c
  hand_in_told b held (ResultAwaited operation store) = refused_told NotIdle c
  hand_in_told b held (EndOffered interrupt) = refused_told NotIdle c

  pub hand_told : (held : Store) → ToldBy (hand_call c held)
  unfolding hand_call
  hand_told held = call_told c _ (hand_in_told c.body held c.phase)

  taken_in_told : (b : Body) (phase : Phase) → ToldBy (taken_in c b phase)
  unfolding taken_in
  taken_in_told b (AckOffered s) = carried_told _
  taken_in_told b (Collecting s) = refused_told LinkNotAwaited c
  taken_in_told b (Sending s) = refused_told LinkNotAwaited c
  taken_in_told b (GoOffered store) = refused_told LinkNotAwaited c
  taken_in_told b (DataAwaited store) = refused_told LinkNotAwaited c
  taken_in_told b (ResultAwaited operation store) = refused_told LinkNotAwaited c
  taken_in_told b (EndOffered interrupt) = refused_told LinkNotAwaited c

  pub taken_told : ToldBy (taken_call c)
  unfolding taken_call
  taken_told = call_told c _ (taken_in_told c.body c.phase)

  pub report_told : (drive bits : ℕ) → ToldBy (report_call c drive bits)
  unfolding report_call
  report_told drive bits =
      call_told c _ (pick_by ToldBy _ (λ above. refused_told NoSuchDrive c) (λ there. carried_told _))

  pub reset_told : ToldBy (reset_call c)
  unfolding reset_call
  reset_told = call_told c _ (carried_told _)

-- ---- calls that are lent space

-- none, or the number of a refusal
data Named (n : ℕ) : Type 0 where
  none : n ≡ 0 → Named n
  one : (e : Refusal) → number_of e ≡ n → Named n

data_named : (drive : Drive) (store : Store) (handed place space check : ℕ)
    → Named (data_refusal drive store handed place space check)
unfolding data_refusal
data_named drive store handed place space check =
    pick_by Named _ (λ h. one CheckStoreLength refl)
    (λ h. pick_by Named _ (λ h. one SpaceShort refl)
    (λ h. pick_by Named _ (λ h. one NoSuchPlace refl) (λ h. none refl)))

layout_named : (image marks : List ℕ) (count density : ℕ) → Named (layout_refusal image marks count density)
unfolding layout_refusal
layout_named image marks count density =
    pick_by Named _ (λ h. one WrongLength refl)
    (λ h. pick_by Named _ (λ h. one WrongLength refl) (λ h. pick_by Named _ (λ h. none refl) (λ h. one MarkValue refl)))

whole_named : (image marks : List ℕ) (density : ℕ) → Named (whole_refusal image marks density)
unfolding whole_refusal
whole_named image marks density = pick_by Named _ (λ h. one WrongLength refl) (λ h. layout_named image marks _ density)

unmarked_named : (image marks : List ℕ) (n : ℕ) → Named (unmarked_refusal image marks n)
unfolding unmarked_refusal
unmarked_named image marks n =
    pick_by Named _ (λ h. one WrongLength refl)
    (λ h. pick_by Named _ (λ h. none refl) (λ h. one WrongLength refl))

image_named : (image marks : List ℕ) (expected : Expected) → Named (image_refusal image marks expected)
unfolding image_refusal
image_named image marks (Whole density) = whole_named image marks density
image_named image marks (Supplied count) = layout_named image marks count _
image_named image marks Count = unmarked_named image marks 2
image_named image marks Nothing = unmarked_named image marks 0

result_named : (drive : Drive) (operation : Operation) (store : Store) (r : Result) (check : ℕ)
    → Named (result_refusal drive operation store r check)
unfolding result_refusal
result_named drive operation store r check =
    pick_by Named _ (λ h. one CheckStoreLength refl)
    (λ h. pick_by Named _ (λ h. one CodeNotListed refl)
    (λ h. pick_by Named _ (λ h. one FlagsAgainstRule refl) (λ h. image_named r.image r.marks _)))

-- an answer that a value of the program tells, with what the call left in the lent space and in the check store
pub record GivenBy (answer : Answer) : Type 0 where
  pub reply : Replied Controller Given
  pub same : answer ≡ answered reply answer.space answer.check

given : (t : Transition) (bytes : ℕ) (space check : List ℕ)
    → GivenBy (record { reply = carried t; bytes = bytes; space = space; check = check })
given t bytes space check =
    record {
      reply =
          record {
            state = record { body = t.body; phase = t.phase };
            answer = Ok (record { answer = record { action = t.action; handed = t.handed }; bytes = bytes });
          };
      same = refl;
    }

withheld : (e : Refusal) (c : Controller) (space check : List ℕ) → GivenBy (unchanged (number_of e) c space check)
withheld e c space check = record { reply = record { state = c; answer = Err e }; same = refl }

-- a test that is passed, or that refuses
tested : (n : ℕ) (c : Controller) (space check : List ℕ) (answer : Answer) → Named n → GivenBy answer
    → GivenBy (pick (eqb n 0) answer (unchanged n c space check))
unfolding pick
tested n c space check answer (none h) told_answer = rw h told_answer
tested n c space check answer (one e h) told_answer =
    subst (λ (m : ℕ). GivenBy (pick (eqb m 0) answer (unchanged m c space check))) h
    (rw (refused_not_done e) (withheld e c space check))

module _ (c : Controller) where
  lent_told : (space check : List ℕ) (answer : Answer) → GivenBy answer
      → GivenBy (pick (is_sound c.body c.phase) answer (unchanged 1 c space check))
  lent_told space check answer told_answer =
      pick_by GivenBy (is_sound c.body c.phase) (λ sane. told_answer) (λ damaged. withheld StateDamaged c space check)

  data_in_told : (b : Body) (host : Host) (space check : List ℕ) (phase : Phase)
      → GivenBy (data_in c b host space check phase)
  unfolding data_in data_for data_done
  data_in_told b host space check (DataAwaited store) =
      tested _ c space check _ (data_named _ store _ _ _ _) (given _ _ _ _)
  data_in_told b host space check (Collecting s) = withheld TransferNotAwaited c space check
  data_in_told b host space check (AckOffered s) = withheld TransferNotAwaited c space check
  data_in_told b host space check (Sending s) = withheld TransferNotAwaited c space check
  data_in_told b host space check (GoOffered store) = withheld TransferNotAwaited c space check
  data_in_told b host space check (ResultAwaited operation store) = withheld TransferNotAwaited c space check
  data_in_told b host space check (EndOffered interrupt) = withheld TransferNotAwaited c space check

  pub data_told : (host : Host) (space check : List ℕ) → GivenBy (data_call c host space check)
  unfolding data_call
  data_told host space check = lent_told space check _ (data_in_told c.body host space check c.phase)

  result_in_told : (b : Body) (r : Result) (space check : List ℕ) (phase : Phase)
      → GivenBy (result_in c b r space check phase)
  unfolding result_in result_for result_done
  result_in_told b r space check (ResultAwaited operation store) =
      tested _ c space check _ (result_named _ operation store r _) (given _ _ _ _)
  result_in_told b r space check (Collecting s) = withheld TransferNotAwaited c space check
  result_in_told b r space check (AckOffered s) = withheld TransferNotAwaited c space check
  result_in_told b r space check (Sending s) = withheld TransferNotAwaited c space check
  result_in_told b r space check (GoOffered store) = withheld TransferNotAwaited c space check
  result_in_told b r space check (DataAwaited store) = withheld TransferNotAwaited c space check
  result_in_told b r space check (EndOffered interrupt) = withheld TransferNotAwaited c space check

  pub result_told : (r : Result) (space check : List ℕ) → GivenBy (result_call c r space check)
  unfolding result_call
  result_told r space check = lent_told space check _ (result_in_told c.body r space check c.phase)
