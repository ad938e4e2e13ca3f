-- Stores (document 01, Stores): "Carrying out: clear primary bits 2 and 8-22; a named drive above 3 is code 01 with
-- selection unchanged, else select it; decode; test. A code here ends the store with motion 00."
-- Assumes nothing.
use Rattle.std.specs.Prelude.{ℕ, eqb}
use Rattle.common.specs.Pick.{pick}
use Rattle.link.specs.declared.frames.Frame.{Frame}
use Rattle.status.specs.Drives.{drive_of}
use Rattle.status.specs.declared.words.ResultRecord.{ResultRecord}
use Rattle.status.specs.Words.{no_outcome, with_count}
use Rattle.link.specs.Frames.{order_of}
use Rattle.operations.specs.declared.operation.Operation.{Operation}
use Rattle.operations.specs.declared.operation.Operation.TheVariants.{CheckBytes, Write}
use Rattle.operations.specs.declared.store.Store.{Store}
use Rattle.operations.specs.declared.course.Course.{Course}
use Rattle.operations.specs.declared.course.Course.TheVariants.{Reset, End, Enable, Set, Begin}
use Rattle.operations.specs.Codes.{illegal_drive, no_go}
use Rattle.operations.specs.After.{with_code}
use Rattle.operations.specs.Operation.{same_operation, order_byte, counts_bytes, offers_end}
use Rattle.operations.specs.Store.{asks_interrupt, names_unknown, selected_by, asked_in}
use Rattle.operations.specs.Course.{course_of}
use Rattle.link.specs.declared.state.Phase.TheVariants.{GoOffered, DataAwaited, ResultAwaited, EndOffered}
use Rattle.link.specs.declared.state.Body.{Body}
use Rattle.link.specs.declared.state.Action.TheVariants.{Nothing, Byte, Order}
use Rattle.std.specs.Prelude.{None, Some}
use Rattle.link.specs.State.{Transition}
use Rattle.link.specs.Bytes.{ack, go, end_of_record}
use Rattle.link.specs.State.{with_selected, with_flags, with_outcome, with_current_drive, current_drive, reset_state}
use Rattle.link.specs.Completion.{complete}

-- ---- the end of a store

-- "Hand that record back beside the answer of the call that settles the code" (document 02, request 4)
abbrev pub hand_back : Transition → ResultRecord → Transition
hand_back transition result =
    record {
      body = transition.body;
      phase = transition.phase;
      action = transition.action;
      handed = Some result;
    }

-- a store is done, with the code that its record has, and completed
unfoldable pub settle : Body → Store → Transition
settle b store = hand_back (complete b (asks_interrupt store)) b.outcome.result

-- "A code here ends the store with motion 00."
unfoldable pub end_with : Body → Store → ℕ → Transition
end_with b store code = settle (with_outcome b (with_code b.outcome code)) store

-- "Read, write and check bytes offer EOR when a result came or GO failed": the code is settled
abbrev pub offer_end : Body → Store → Transition
offer_end b store =
    record {
      body = b;
      phase = EndOffered (asks_interrupt store);
      action = Byte end_of_record;
      handed = Some b.outcome.result;
    }

-- "Read, write and check bytes offer EOR when a result came"; the others are completed at once
unfoldable pub end_operation : Body → Operation → Store → Transition
end_operation b operation store = pick (offers_end operation) (offer_end b store) (settle b store)

-- ---- the beginning of an operation

-- "A motion order is six bytes: operation (..), drive, track, density, last two operand bytes."
unfoldable pub motion_order : Body → Operation → Store → Frame
motion_order b operation store =
    order_of (order_byte operation) b.selected (current_drive b).track (current_drive b).density store.third
    store.fourth

-- the move is ordered, and its result awaited
unfoldable pub order_move : Body → Operation → Store → Transition
order_move b operation store =
    record {
      body = b;
      phase = ResultAwaited operation store;
      action = Order (motion_order b operation store);
      handed = None;
    }

-- "A write offers GO"
abbrev pub offer_go : Body → Store → Transition
offer_go b store = record { body = b; phase = GoOffered store; action = Byte go; handed = None }

-- "Check bytes give no order but await a result."
abbrev pub await_check_bytes : Body → Store → Transition
await_check_bytes b store =
    record { body = b; phase = ResultAwaited CheckBytes store; action = Nothing; handed = None }

-- "Past the test, read, skip and write set secondary to 0."
unfoldable pub past_test : Body → Operation → Body
past_test b operation = pick (counts_bytes operation) (with_outcome b (with_count b.outcome 0)) b

-- past the test, an operation begins
unfoldable pub begin : Body → Operation → Store → Transition
begin b operation store =
    pick (same_operation operation Write) (offer_go (past_test b operation) store)
    (pick (same_operation operation CheckBytes) (await_check_bytes (past_test b operation) store)
    (order_move (past_test b operation) operation store))

-- ---- the answers to GO

-- "A write offers GO; a no is code 05, motion 00, then EOR."; "Hand that record back beside the answer of the call that
-- settles the code: .. the GO no" (document 02, request 4)
unfoldable pub no_to_go : Body → Store → Transition
no_to_go b store = offer_end (with_outcome b (with_code b.outcome no_go)) store

-- "After a yes, the data call ..": it is awaited
unfoldable pub yes_to_go : Body → Store → Transition
yes_to_go b store = record { body = b; phase = DataAwaited store; action = Nothing; handed = None }

-- "anything but #06 is a no"
unfoldable pub answer_to_go : Body → ℕ → Store → Transition
answer_to_go b byte store = pick (eqb byte ack) (yes_to_go b store) (no_to_go b store)

-- ---- a store is carried out

-- its course is followed; "0: reset, then collecting, with no completion."
unfoldable pub follow : Body → Store → Course → Transition
follow b store Reset = reset_state b
follow b store (End code) = end_with b store code
follow b store (Enable enable) = settle (with_flags b b.changed enable) store
follow b store (Set drive) = settle (with_current_drive b drive) store
follow b store (Begin operation) = begin b operation store

-- "clear primary bits 2 and 8-22"
unfoldable pub clear_outcome : Body → Body
clear_outcome b = with_outcome b (no_outcome b.outcome.result.count)

-- "decode; test", of a store that selects this drive, by its density and its record
unfoldable pub carry_out_on : Body → Store → ℕ → Transition
carry_out_on b store selected =
    let drive = drive_of b.drives selected in
    follow (with_selected b selected) store (course_of drive (asked_in store drive.density))

-- "Carrying out: clear ..; a named drive above 3 is code 01 with selection unchanged, else select it; decode; test."
unfoldable pub carry_out : Body → Store → Transition
carry_out b store =
    pick (names_unknown store) (end_with (clear_outcome b) store illegal_drive)
    (carry_out_on (clear_outcome b) store (selected_by store b.selected))
