-- The machine of one drive: what a drive does is a function of its own history alone. Its state is the drive's record,
-- without the reviewed copy, and what its last store has in hand. A means of the proof of separation, and no part of
-- what is claimed.
-- Assumes nothing.
use Prim.Native.Nat.{ℕ}
use mathlib.Core.Bool.{Bool, true, false, ◌||◌}
use mathlib.Core.List.{List, [], ◌∷◌, ◌++◌}
use Rattle.common.specs.Pick.{pick}
use Rattle.operations.specs.declared.operation.Operation.{Operation}
use Rattle.operations.specs.declared.operation.Operation.TheVariants.{CheckBytes, Write}
use Rattle.operations.specs.declared.decode.Decoded.{Decoded}
use Rattle.operations.specs.declared.decode.Decoded.TheVariants.{Reset, Code, Track, Enable, Guard, Density, Operate}
use Rattle.operations.specs.Operation.{move_of, order_byte, same_operation, is_read}
use Rattle.operations.specs.Decode.{decode_of, in_density}
use Rattle.operations.specs.Test.{may_move}
use Rattle.records.specs.Image.{image_of}
use Rattle.status.specs.declared.drives.Drive.{Drive}
use Rattle.status.specs.Drives.{with_gap, with_report, copy_report, with_track, with_density, with_guard}
use Rattle.link.specs.Frames.{order_of}
use Rattle.operations.specs.declared.store.Store.{Store}
use Rattle.transfers.specs.Data.{Host, record_bytes}
use Rattle.transfers.specs.Results.{Result, verdict_of, delivered, fitting, result_gap}
use Rattle.controller.specs.Separation.{Event, Output}
use Rattle.controller.specs.Separation.Event.{report_came, store_came, go_answered, data_came, result_came}
use Rattle.controller.specs.Separation.Output.{motion, image, delivery}

-- what a store of the drive has in hand, with its operand
pub data Hand : Type 0 where
  empty : Hand
  go_offered : Store → Hand
  data_awaited : Store → Hand
  result_awaited : Operation → Store → Hand

pub record View : Type 0 where
  pub drive : Drive
  pub hand : Hand

-- nothing in hand
abbrev pub resting : Drive → View
resting drive = record { drive = drive; hand = empty }

-- a store without its address
abbrev pub operand : ℕ → ℕ → ℕ → ℕ → Store
operand first second third fourth =
    record { address = 0; first = first; second = second; third = third; fourth = fourth }

-- ---- a store

unfoldable pub hand_for : Operation → Store → Hand
hand_for operation store = pick (same_operation operation Write) (go_offered store) (result_awaited operation store)

unfoldable pub begins : Drive → Store → Decoded → View
begins drive store Reset = resting drive
begins drive store (Code code) = resting drive
begins drive store (Track track) = resting (copy_report (with_track drive track))
begins drive store (Enable enable) = resting drive
begins drive store (Guard guard) = resting (copy_report (with_guard drive guard))
begins drive store (Density density) = resting (copy_report (with_density drive density))
begins drive store (Operate operation) =
    record {
      drive = drive;
      hand =
          pick (may_move (move_of operation) drive.report drive.guard drive.gap) (hand_for operation store) empty;
    }

abbrev order_to : ℕ → Drive → Operation → Store → List Output
order_to d drive operation store =
    motion (order_of (order_byte operation) d drive.track drive.density store.third store.fourth) ∷ []

-- a write is ordered by its data call, and check bytes never are
unfoldable pub first_order : ℕ → Drive → Store → Operation → List Output
first_order d drive store operation =
    pick (same_operation operation Write || same_operation operation CheckBytes) [] (order_to d drive operation store)

unfoldable pub given_at_store : ℕ → Drive → Store → Decoded → List Output
given_at_store d drive store Reset = []
given_at_store d drive store (Code code) = []
given_at_store d drive store (Track track) = []
given_at_store d drive store (Enable enable) = []
given_at_store d drive store (Guard guard) = []
given_at_store d drive store (Density density) = []
given_at_store d drive store (Operate operation) =
    pick (may_move (move_of operation) drive.report drive.guard drive.gap) (first_order d drive store operation)
    []

-- ---- GO, data and result

unfoldable pub hand_after_go : Bool → Hand → Hand
hand_after_go true (go_offered store) = data_awaited store
hand_after_go true empty = empty
hand_after_go true (data_awaited store) = empty
hand_after_go true (result_awaited operation store) = empty
hand_after_go false hand = empty

unfoldable pub hand_after_data : Hand → Hand
hand_after_data (data_awaited store) = result_awaited Write store
hand_after_data empty = empty
hand_after_data (go_offered store) = empty
hand_after_data (result_awaited operation store) = empty

unfoldable pub given_at_data : ℕ → Drive → Host → Hand → List Output
given_at_data d drive host (data_awaited store) =
    image (image_of (record_bytes store host) drive.density) ∷ order_to d drive Write store
given_at_data d drive host empty = []
given_at_data d drive host (go_offered store) = []
given_at_data d drive host (result_awaited operation store) = []

-- the drive with the gap that a result leaves
abbrev pub moved : Drive → Operation → Store → Result → Drive
moved drive operation store r = with_gap drive (result_gap drive operation (verdict_of drive operation store r).code)

unfoldable pub drive_after_result : Drive → Result → Hand → Drive
drive_after_result drive r (result_awaited operation store) = copy_report (moved drive operation store r)
drive_after_result drive r empty = drive
drive_after_result drive r (go_offered store) = drive
drive_after_result drive r (data_awaited store) = drive

unfoldable pub given_at_result : Drive → Result → ℕ → Hand → List Output
given_at_result drive r space (result_awaited operation store) =
    pick (is_read operation) (delivery (fitting (delivered drive operation store r []) space) ∷ []) []
given_at_result drive r space empty = []
given_at_result drive r space (go_offered store) = []
given_at_result drive r space (data_awaited store) = []

-- ---- an event and a history

unfoldable pub told : View → Event → View
told v (report_came r) = record { drive = copy_report (with_report v.drive r); hand = v.hand }
told v (store_came operation first second third fourth) =
    begins v.drive (operand first second third fourth)
    (in_density v.drive.density (decode_of operation first fourth))
told v (go_answered answer) = record { drive = v.drive; hand = hand_after_go answer v.hand }
told v (data_came host) = record { drive = v.drive; hand = hand_after_data v.hand }
told v (result_came r space) = resting (drive_after_result v.drive r v.hand)

unfoldable pub gives : ℕ → View → Event → List Output
gives d v (report_came r) = []
gives d v (store_came operation first second third fourth) =
    given_at_store d v.drive (operand first second third fourth)
    (in_density v.drive.density (decode_of operation first fourth))
gives d v (go_answered answer) = []
gives d v (data_came host) = given_at_data d v.drive host v.hand
gives d v (result_came r space) = given_at_result v.drive r space v.hand

unfoldable pub told_all : View → List Event → View
told_all v [] = v
told_all v (event ∷ events) = told_all (told v event) events

unfoldable pub gives_all : ℕ → View → List Event → List Output
gives_all d v [] = []
gives_all d v (event ∷ events) = gives d v event ++ gives_all d (told v event) events
