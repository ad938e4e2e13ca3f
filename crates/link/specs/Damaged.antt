-- A damaged state (document 01, Turned back): "1 a field out of range (track, gap, selected drive, motion 0-3; density
-- 0-1; code 0-31; noes so far 0-4; secondary 0-65,535; a held count 0-16,384; a held operation one of the eleven; a
-- string's lead #62 or #64, its bytes fewer than its length, or all once ACK is offered; all else may have any value)".
-- Document 02, request 1: "a held operation is one of the twelve", by its type; and so is a held count 0-65,535
-- (document 02, requests 3 and 10), the two operand bytes of a store.
-- Assumes nothing.
use Rattle.std.specs.Prelude.{Bool, true, ◌&&◌, ◌||◌, leb, ltb, eqb}
use Rattle.status.specs.declared.drives.Drive.{Drive}
use Rattle.status.specs.Drives.{Drives}
use Rattle.status.specs.Drives.{last_drive, last_track, gap_lost, gcr}
use Rattle.status.specs.Words.{last_motion, last_code, count_limit}
use Rattle.link.specs.declared.state.Collected.{Collected}
use Rattle.link.specs.declared.state.Phase.{Phase}
use Rattle.link.specs.declared.state.Phase.TheVariants.{Collecting, AckOffered, Sending, GoOffered, DataAwaited}
use Rattle.link.specs.declared.state.Phase.TheVariants.{ResultAwaited, EndOffered}
use Rattle.link.specs.declared.state.Body.{Body}
use Rattle.link.specs.Bytes.{load_lead, store_lead, most_noes}
use Rattle.link.specs.Link.{whole_length}

-- "track, gap .. 0-3; density 0-1"
unfoldable pub sound_drive : Drive → Bool
sound_drive d = leb d.track last_track && (leb d.gap gap_lost && leb d.density gcr)

-- of all four
unfoldable pub sound_drives : Drives → Bool
sound_drives d = sound_drive d.zero && (sound_drive d.one && (sound_drive d.two && sound_drive d.three))

-- "selected drive, motion 0-3; .. code 0-31; .. secondary 0-65,535"
unfoldable pub sound_body : Body → Bool
sound_body b =
    let result = b.outcome.result in
    sound_drives b.drives
    && (leb b.selected last_drive
    && (leb result.motion last_motion && (leb result.code last_code && leb result.count count_limit)))

-- "a string's lead #62 or #64"
unfoldable pub sound_lead : Collected → Bool
sound_lead s = eqb s.c0 load_lead || eqb s.c0 store_lead

-- "its bytes fewer than its length", nothing collected included
unfoldable pub sound_part : Collected → Bool
sound_part s = eqb s.length 0 || (sound_lead s && ltb s.length (whole_length s.c0))

-- "or all once ACK is offered"
unfoldable pub sound_string : Collected → Bool
sound_string s = sound_lead s && eqb s.length (whole_length s.c0)

-- what is held in the phase; "noes so far 0-4"; "all else may have any value"
unfoldable pub sound_phase : Phase → Bool
sound_phase (Collecting s) = sound_part s
sound_phase (AckOffered s) = sound_string s
sound_phase (Sending send) = leb send.noes most_noes
sound_phase (GoOffered store) = true
sound_phase (DataAwaited store) = true
sound_phase (ResultAwaited operation store) = true
sound_phase (EndOffered interrupt) = true

-- no field out of range
unfoldable pub is_sound : Body → Phase → Bool
is_sound b phase = sound_body b && sound_phase phase
