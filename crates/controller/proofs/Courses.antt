-- What a store comes to, by what it asks for: the course that is followed is the one of the drive selected, and an
-- operation begins in one of three ways.
-- Assumes nothing.
use mathlib.Core.Path.{◌≡◌, refl}
use mathlib.Core.Bool.{true, false}
use Rattle.common.specs.Pick.{pick}
use Rattle.common.proofs.PickLaws.{pick_by}
use Rattle.status.specs.declared.words.Outcome.{Outcome}
use Rattle.operations.specs.declared.operation.Operation.{Operation}
use Rattle.operations.specs.declared.operation.Operation.TheVariants.{Read, CheckBytes, SuppliedCount, Write, Erase}
use Rattle.operations.specs.declared.operation.Operation.TheVariants.{Rewind, FastForward, SkipForward, SkipReverse}
use Rattle.operations.specs.declared.operation.Operation.TheVariants.{SearchForward, SearchReverse, WriteMark}
use Rattle.operations.specs.declared.decode.Decoded.{Decoded}
use Rattle.operations.specs.declared.decode.Decoded.TheVariants.{Operate}
use Rattle.operations.specs.declared.course.Course.{Course}
use Rattle.operations.specs.declared.store.Store.{Store}
use Rattle.operations.specs.Codes.{illegal_motion}
use Rattle.operations.specs.Operation.{move_of, moves_tape, same_operation}
use Rattle.operations.specs.Test.{may_move}
use Rattle.operations.specs.Course.{test_of, course_of}
use Rattle.link.specs.declared.state.Body.{Body}
use Rattle.link.specs.State.{Transition}
use Rattle.link.specs.State.{with_outcome, current_drive}
use Rattle.controller.specs.Stores.{end_with, offer_go, await_check_bytes, order_move, past_test, begin, follow}

-- by what is asked for, with the drive selected
abbrev pub decoded : Body → Store → Decoded → Transition
decoded b store asked = follow b store (course_of (current_drive b) asked)

-- a claim of an operation, from the claim past the tape test and the claim of code 04
pub by_test_of :
    (P : Transition → Type 0) (b : Body) (store : Store) (operation : Operation)
    → P (begin b operation store)
    → P (end_with b store illegal_motion)
    → P (decoded b store (Operate operation))
unfolding follow course_of test_of
by_test_of P b store operation begins ends =
    pick_by (λ (course : Course). P (follow b store course))
    (may_move (move_of operation) (current_drive b).report (current_drive b).guard (current_drive b).gap)
    (λ may. begins) (λ not. ends)

-- an operation that is ordered at once: no write, which offers GO first, and no check bytes, which move no tape
pub record OrderedAtOnce (operation : Operation) : Type 0 where
  pub other : same_operation operation Write ≡ false
  pub moving : same_operation operation CheckBytes ≡ false
  pub moves : moves_tape (move_of operation) ≡ true

at_once :
    {operation : Operation}
    → same_operation operation Write ≡ false
    → same_operation operation CheckBytes ≡ false
    → moves_tape (move_of operation) ≡ true
    → OrderedAtOnce operation
at_once other moving moves = record { other = other; moving = moving; moves = moves }

-- a claim of the beginning of every operation: "A write offers GO", "Check bytes give no order but await a result", and
-- any other is ordered; of the outcome, the count alone may be another then
pub by_beginning :
    (P : Operation → Transition → Type 0) (b : Body) (store : Store)
    → ((o : Outcome) → o.counted ≡ b.outcome.counted → P Write (offer_go (with_outcome b o) store))
    → P CheckBytes (await_check_bytes b store)
    → ((operation : Operation) (o : Outcome)
    → o.counted ≡ b.outcome.counted
    → OrderedAtOnce operation
    → P operation (order_move (with_outcome b o) operation store))
    → (operation : Operation)
    → P operation (begin b operation store)
unfolding begin past_test moves_tape pick
by_beginning P b store go check orders Write = go _ refl
by_beginning P b store go check orders CheckBytes = check
by_beginning P b store go check orders Read = orders Read _ refl (at_once refl refl refl)
by_beginning P b store go check orders SuppliedCount = orders SuppliedCount _ refl (at_once refl refl refl)
by_beginning P b store go check orders Erase = orders Erase b.outcome refl (at_once refl refl refl)
by_beginning P b store go check orders Rewind = orders Rewind b.outcome refl (at_once refl refl refl)
by_beginning P b store go check orders FastForward = orders FastForward b.outcome refl (at_once refl refl refl)
by_beginning P b store go check orders SkipForward = orders SkipForward _ refl (at_once refl refl refl)
by_beginning P b store go check orders SkipReverse = orders SkipReverse _ refl (at_once refl refl refl)
by_beginning P b store go check orders SearchForward = orders SearchForward b.outcome refl (at_once refl refl refl)
by_beginning P b store go check orders SearchReverse = orders SearchReverse b.outcome refl (at_once refl refl refl)
by_beginning P b store go check orders WriteMark = orders WriteMark b.outcome refl (at_once refl refl refl)
