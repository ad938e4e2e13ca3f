-- The bytes of an answer: the action, the record of a settled store, and how many bytes are given.
-- Assumes nothing.
use Rattle.std.specs.Prelude.{ℕ, ◌+◌, ◌*◌, ◌/◌, ◌%◌, Bool, true, false, List, [], ◌∷◌, eqb}
use mir.Val.{bool_byte}
use Rattle.common.specs.Pick.{pick}
use Rattle.status.specs.declared.words.ResultRecord.{ResultRecord}
use Rattle.link.specs.declared.frames.Frame.{Frame}
use Rattle.link.specs.declared.state.Action.{Action}
use Rattle.link.specs.declared.state.Action.TheVariants.{Nothing, Byte, Text, Order}
use Rattle.link.specs.State.{Handed}
use Rattle.std.specs.Prelude.{None, Some}
use Rattle.layout.specs.Places.{action_place, settled_place, given_place}
use Rattle.layout.specs.Reading.{byte_at, flag_at, count_at}

-- the kind of an action
unfoldable pub action_kind : Action → ℕ
action_kind Nothing = 0
action_kind (Byte byte) = 1
action_kind (Text frame) = 2
action_kind (Order frame) = 3

-- its six bytes: a byte that is offered stands first, and zeros behind it
unfoldable pub action_frame : Action → Frame
action_frame Nothing = record { b0 = 0; b1 = 0; b2 = 0; b3 = 0; b4 = 0; b5 = 0 }
action_frame (Byte byte) = record { b0 = byte; b1 = 0; b2 = 0; b3 = 0; b4 = 0; b5 = 0 }
action_frame (Text frame) = frame
action_frame (Order frame) = frame

-- whether a store's code is settled, and its record; zeros where none is
unfoldable pub is_settled : Handed → Bool
is_settled None = false
is_settled (Some result) = true

unfoldable pub settled_record : Handed → ResultRecord
settled_record None = record { code = 0; motion = 0; count = 0 }
settled_record (Some result) = result

-- counts have the high byte first
unfoldable pub answer_bytes : Action → Handed → ℕ → List ℕ
answer_bytes action handed given =
    let f = action_frame action in
    let r = settled_record handed in
    action_kind action ∷ f.b0 ∷ f.b1 ∷ f.b2 ∷ f.b3 ∷ f.b4 ∷ f.b5
    ∷ bool_byte (is_settled handed) ∷ r.code ∷ r.motion ∷ r.count / 256 % 256 ∷ r.count % 256
    ∷ given / 16777216 % 256 ∷ given / 65536 % 256 ∷ given / 256 % 256 ∷ given % 256 ∷ []

-- ---- and what they tell

-- the action
abbrev pub frame_of : List ℕ → Frame
frame_of s =
    record {
      b0 = byte_at s (action_place + 1);
      b1 = byte_at s (action_place + 2);
      b2 = byte_at s (action_place + 3);
      b3 = byte_at s (action_place + 4);
      b4 = byte_at s (action_place + 5);
      b5 = byte_at s (action_place + 6);
    }

unfoldable pub action_of : List ℕ → Action
action_of s =
    let kind = byte_at s action_place in
    pick (eqb kind 0) Nothing
    (pick (eqb kind 1) (Byte (byte_at s (action_place + 1)))
    (pick (eqb kind 2) (Text (frame_of s)) (Order (frame_of s))))

-- the record of a settled store
unfoldable pub handed_of : List ℕ → Handed
handed_of s =
    pick (flag_at s settled_place)
    (Some
    (record {
      code = byte_at s (settled_place + 1);
      motion = byte_at s (settled_place + 2);
      count = count_at s (settled_place + 3);
    }))
    None

-- how many bytes are given
unfoldable pub given_of : List ℕ → ℕ
given_of s = count_at s given_place * 65536 + count_at s (given_place + 2)
