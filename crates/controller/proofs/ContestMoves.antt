-- A write with code 0 leaves gap 0 and one with another code does not, a skip reverse that does not lose the tape
-- leaves gap 0, and a guarded drive is written from gap 0 alone (`contest_moves`, over the definitions).
-- Assumes nothing.
use mathlib.Core.Path.{◌≡◌, refl, sym, ap, subst, ◌∙◌}
use Prim.Native.Nat.{ℕ, ◌≤◌}
use native.Mathlib.Omega.{arith}
use mathlib.Core.Bool.{false}
use mathlib.Core.List.{List, [], ◌∷◌}
use lib.ListN.{length}
use borrow.Author.Tests.{eq-eqb, ne_eqb}
use Rattle.common.specs.Pick.{pick}
use Rattle.common.proofs.PickLaws.{by_test, pick_yes}
use Rattle.status.specs.declared.drives.Drive.{Drive}
use Rattle.status.specs.declared.words.ResultRecord.{ResultRecord}
use Rattle.status.specs.Drives.{drive_of}
use Rattle.operations.specs.declared.operation.Operation.{Operation}
use Rattle.operations.specs.declared.store.Store.{Store}
use Rattle.link.specs.declared.state.Phase.TheVariants.{Collecting, AckOffered, ResultAwaited}
use Rattle.link.specs.declared.state.Body.{Body}
use Rattle.link.specs.declared.state.Action.{Action}
use Rattle.link.specs.declared.state.Action.TheVariants.{Nothing, Byte, Text, Order}
use Rattle.link.specs.State.{Handed}
use Rattle.std.specs.Prelude.{None, Some}
use Rattle.link.specs.State.{store_of, current_drive, reset_state}
use Rattle.transfers.specs.Results.{Result, settle_result}
use Rattle.controller.specs.declared.controller.Controller.{Controller}
use Rattle.controller.specs.Controller.{fresh, carried}
use Rattle.controller.specs.Stores.{end_operation, order_move, carry_out, yes_to_go, no_to_go}
use Rattle.controller.specs.Records.{words_of, with_after, data_done, result_done}
use Rattle.controller.specs.Machine.{data_in, result_in, Call, Exchange, plain, step, run}
use Rattle.controller.specs.Machine.Call.{taken, result, hand}
use Rattle.controller.specs.Lists.{not_refused}
use Rattle.controller.specs.Ledger.{entered, among, Tape, motion_made, gap_left, Ledger, operation_of, ledger_ended}
use Rattle.controller.specs.Ledger.{ledger_call, ledger_after, ledger_fresh, ActionAllowed}
use Rattle.controller.specs.ContestMoves.{Moved, MovedBy, FromProper, MovesFrom, ContestMoves}
use Rattle.controller.proofs.Steps.{stated, exchanged, turn_of, SaysNo, OfRefusals, OfLink, OfStores, OfHandings}
use Rattle.controller.proofs.Steps.{OfNo, OfData, OfResults, Kinds, data_for_lem, result_for_lem, by_step}
use Rattle.controller.proofs.Steps.SaysNo.{byte_refused}
use Rattle.controller.proofs.DrivesAreALedger.{Kept, KeptBy, Keeps, keeping, fresh_kept, ended_hands}

-- ---- the gap that is left

module _ (f l code gap : ℕ) where
  write_gap : code ≡ 0 → gap_left 5 f l code gap ≡ 0
  unfolding gap_left motion_made among pick
  write_gap zero = ap (λ (n : ℕ). gap_left 5 f l n gap) zero

  -- whether it loses the tape or not
  spoiled_gap : (code ≡ 0 → ⊥) → gap_left 5 f l code gap ≡ 0 → ⊥
  unfolding gap_left motion_made pick
  spoiled_gap some is =
      by_test (among code (0x6 ∷ 0x7 ∷ 0x8 ∷ 0x9 ∷ 0x17 ∷ 0x18 ∷ []))
      (λ lost. let z : 3 ≡ 0 = sym (rw lost) ∙ is in omega arith)
      (λ kept. let z : 2 ≡ 0 = sym (rw (kept, ne_eqb code 0 some)) ∙ is in omega arith)

  reverse_gap : among code (0x6 ∷ 0x7 ∷ 0x8 ∷ 0x9 ∷ 0x17 ∷ 0x18 ∷ []) ≡ false → gap_left 3 f 0x21 code gap ≡ 0
  unfolding gap_left motion_made among pick
  reverse_gap kept = rw kept

-- ---- every call

abbrev MovesBy : Controller → Exchange → Type 0
MovesBy c x =
    (l : Ledger)
    → KeptBy (ledger_after l c x) (turn_of x.answer.reply)
    → MovedBy (ledger_after l c x)
    (drive_of x.answer.reply.controller.body.drives (ledger_after l c x).selected) x.call
    x.answer.reply.handed

taken_moves : (l : Ledger) (drive : Drive) (h : Handed) → MovedBy l drive taken h
unfolding MovedBy
taken_moves l drive None = tt
taken_moves l drive (Some final) = tt

hand_moves : (l : Ledger) (drive : Drive) (store : Store) (h : Handed) → MovedBy l drive (hand store) h
unfolding MovedBy
hand_moves l drive store None = tt
hand_moves l drive store (Some final) = tt

stores_case : OfStores MovesBy
stores_case b s lead l kept =
    let t = carry_out b (store_of s) in
    let later = ledger_after l (stated b (AckOffered s)) (exchanged taken (plain (carried t))) in
    taken_moves later (drive_of t.body.drives later.selected) t.handed

handings_case : OfHandings MovesBy
handings_case b s store l kept =
    let t = carry_out b store in
    let later = ledger_after l (stated b (Collecting s)) (exchanged (hand store) (plain (carried t))) in
    hand_moves later (drive_of t.body.drives later.selected) store t.handed

refusals_case : OfRefusals MovesBy
unfolding MovedBy
refusals_case c call number space check some at_space at_check l kept = tt

link_case : OfLink MovesBy
unfolding MovedBy
link_case c call t is free rests strings none l kept = subst (MovedBy _ _ call) (sym none) tt

no_case : OfNo MovesBy
unfolding no_to_go MovedBy
no_case b held call (byte_refused value refuses) l kept = tt
no_case b held call SaysNo.link_broke l kept = tt

writes_case : OfData MovesBy
unfolding data_in data_done order_move MovedBy
writes_case b held host space check =
    data_for_lem MovesBy refusals_case b held _ host space check (λ l kept. tt)

-- the gap of the drive that moved
left_gap : (l : Ledger) (final : ResultRecord) (now : Drive) (selected : ℕ) → selected ≡ l.selected
    → now.gap ≡ ((ledger_ended l (Some final)).tape selected).gap
    → now.gap ≡ gap_left (operation_of l.store) l.store.first l.store.fourth final.code
    (l.tape l.selected).gap
unfolding ledger_ended entered
left_gap l final now selected same is =
    is ∙ ap (λ (t : Tape). t.gap) (pick_yes _ _ (eq-eqb selected l.selected same))

gap_moves : (l : Ledger) (final : ResultRecord) (drive : Drive) (gap : ℕ)
    → drive.gap ≡ gap_left (operation_of l.store) l.store.first l.store.fourth final.code gap
    → Moved l drive final
gap_moves l final drive gap is =
    let f = l.store.first in
    let n = l.store.fourth in
    record {
      written = λ writes zero. is ∙ ap (λ (o : ℕ). gap_left o f n final.code gap) writes
          ∙ write_gap f n final.code gap zero;
      spoiled =
          λ writes some proper. spoiled_gap f n final.code gap some
          (ap (λ (o : ℕ). gap_left o f n final.code gap) (sym writes) ∙ sym is ∙ proper);
      reversed =
          λ controls reverse kept. is ∙ ap (λ (o : ℕ). gap_left o f n final.code gap) controls
          ∙ ap (λ (k : ℕ). gap_left 3 f k final.code gap) reverse ∙ reverse_gap f n final.code gap kept;
    }

module _ (b : Body) (operation : Operation) (held : Store) (r : Result) (space check : List ℕ) where
  abbrev left : Body
  left = with_after b (settle_result (words_of b) (current_drive b) operation held r (length space) check)

  ended : MovesBy (stated b (ResultAwaited operation held))
      (exchanged (result r space check) (result_done b (current_drive b) operation held r space check))
  unfolding result_done ledger_after ledger_call ledger_ended not_refused MovedBy pick
  ended l kept =
      let t = end_operation left operation held in
      let hands = ended_hands left operation held in
      let final = left.outcome.result in
      subst
      (λ (h : Handed). KeptBy (ledger_ended l h) t
      → MovedBy (ledger_ended l h) (drive_of t.body.drives (ledger_ended l h).selected) (result r space check) h)
      (sym hands)
      (λ one.
      let drive = drive_of t.body.drives l.selected in
      let low : l.selected ≤ 3 = subst (λ (n : ℕ). n ≤ 3) one.kept.agrees.selected one.kept.agrees.low in
      gap_moves (ledger_ended l (Some final)) final drive (l.tape l.selected).gap
      (left_gap l final drive l.selected refl
      (ap (λ (x : Drive). x.gap) (one.kept.agrees.drive l.selected low))))
      kept

results_case : OfResults MovesBy
unfolding result_in
results_case b operation held r space check =
    result_for_lem MovesBy refusals_case b held _ operation r space check
    (λ good. ended b operation held r space check)

moving : Kinds MovesBy
unfolding yes_to_go reset_state MovedBy
moving =
    record {
      refusals = refusals_case;
      link = link_case;
      stores = stores_case;
      handings = handings_case;
      reports = λ c n r within l kept. tt;
      yes = λ b held value accepts l kept. tt;
      no = no_case;
      writes = writes_case;
      results = results_case;
      resets = λ c l kept. tt;
    }

-- an order 50 that goes out was allowed
from_proper : (l : Ledger) (action : Action) → ActionAllowed l action → FromProper l action
unfolding ActionAllowed FromProper among
from_proper l (Order order) allows =
    λ writes. allows.allowed.unguarded (ap (λ (n : ℕ). among n (0x50 ∷ 0x24 ∷ 0x60 ∷ [])) writes)
from_proper l Nothing allows = tt
from_proper l (Byte b) allows = tt
from_proper l (Text string) allows = tt

-- ---- every list

moves_from : (calls : List Call) (l : Ledger) (c : Controller) → Kept l c.body c.phase
    → MovesFrom l c (run c calls)
unfolding run MovesFrom
moves_from [] l c before = tt
moves_from (call ∷ calls) l c before =
    let x = exchanged call (step c call) in
    let kept = by_step Keeps keeping c call l before in (
      record {
        moved = by_step MovesBy moving c call l kept;
        proper = from_proper (ledger_after l c x) (step c call).reply.action kept.tells;
      },
      moves_from calls (ledger_after l c x) (step c call).reply.controller kept.kept,
    )

pub contest_moves : (calls : List Call) → ContestMoves (run fresh calls)
contest_moves calls = moves_from calls ledger_fresh fresh fresh_kept
