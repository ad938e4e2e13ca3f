-- The data call (document 01, Stores; Records), as far as it concerns one drive: the image that it builds, what fills
-- the check store, the words that it leaves, and its refusals.
-- Assumes nothing.
use Rattle.std.specs.Prelude.{ℕ, ◌+◌, ◌*◌, Bool, not, ◌&&◌, List, ltb, eqb, length, take, drop, replicate}
use Rattle.common.specs.Pick.{pick}
use Rattle.common.specs.Refusals.{done, check_store_length, space_short, no_such_place}
use Rattle.blockettes.specs.Blockettes.{blockette_length, checks_length}
use Rattle.records.specs.Image.{blockette_count, image_length, image_of}
use Rattle.records.specs.Place.{is_place, written_bytes}
use Rattle.status.specs.declared.drives.Drive.{Drive}
use Rattle.status.specs.Words.{zero_word}
use Rattle.operations.specs.declared.store.Store.{Store}
use Rattle.operations.specs.Store.{thrown_away, held_count}
use Rattle.transfers.specs.declared.after.Words.{Words}
use Rattle.transfers.specs.declared.data.HostBytes.{HostBytes}
use Rattle.transfers.specs.declared.after.Written.{Written}
use Rattle.status.specs.Drives.{is_gcr}
use Rattle.status.specs.Words.{with_host_errors}

-- "check store (512 bytes, lent to data and result calls only)"
abbrev pub check_store : ℕ
check_store = checks_length

-- What is handed in for a write: the host's bytes, and "which host byte came with bad parity": its "place, counted from
-- 0 over all bytes handed in, or 65,535 plus 256 for none" (document 02, request 6).
pub record Host : Type 0 where
  pub bytes : List ℕ
  pub place : ℕ

-- of these two
abbrev pub host_of : List ℕ → ℕ → Host
host_of bytes place = record { bytes = bytes; place = place }

-- the two as they come together
abbrev pub host_with : HostBytes → Host
host_with host = host_of host.bytes.now host.place

-- "6 check store not 512; .. 11 the data call's .. image space .. short"; "15 a place that is neither in the host bytes
-- nor the value for none, after 11"
unfoldable pub data_refusal : Drive → Store → ℕ → ℕ → ℕ → ℕ → ℕ
data_refusal drive store handed place space check =
    pick (not (eqb check check_store)) check_store_length
    (pick (ltb space (image_length (held_count store) drive.density)) space_short
    (pick (not (is_place handed place)) no_such_place done))

-- the bytes of the record: behind those thrown away, "zeros fill, ..; more are not looked at", and zeros behind a bad
-- one
abbrev pub record_bytes : Store → Host → List ℕ
record_bytes store host = written_bytes host.bytes host.place (thrown_away store) (held_count store)

-- "the data call builds the image"
abbrev pub write_image : Store → Host → ℕ → List ℕ
write_image store host density = image_of (record_bytes store host) density

-- "check store then takes both check blockettes, or zeros for c = 0": the last 512 bytes of an image
unfoldable pub check_bytes : List ℕ → ℕ → List ℕ
check_bytes image c =
    pick (eqb c 0) (replicate check_store 0) (take check_store (drop (2 + blockette_length * blockette_count c) image))

-- the check store afterwards, "at a GCR data call"
abbrev pub data_check : Drive → Store → List ℕ → List ℕ → List ℕ
data_check drive store image check = pick (is_gcr drive) (check_bytes image (held_count store)) check

-- the bytes that a store needs: "thrown away plus count"
unfoldable pub needed_bytes : Store → ℕ
needed_bytes store = thrown_away store + held_count store

-- A bad byte among these, one thrown away too. "A place past the bytes that the store needs counts as none"; 65,791 is
-- past those of every store.
unfoldable pub bad_byte : Store → ℕ → Bool
bad_byte store place = ltb place (needed_bytes store)

-- "fewer host bytes than thrown away plus count"; "Underflow is flagged only where the host ran out before any bad
-- byte"
unfoldable pub runs_short : Store → Host → Bool
runs_short store host = ltb (length host.bytes) (needed_bytes store) && not (bad_byte store host.place)

-- "bit 16 is set"; ".. bit 18"; "at a GCR data call, tertiary, quintary .. are zeroed"
unfoldable pub data_words : Words → Drive → Store → Host → Words
data_words words drive store host =
    record {
      outcome = with_host_errors words.outcome (bad_byte store host.place) (runs_short store host);
      tertiary = pick (is_gcr drive) zero_word words.tertiary;
      quintary = pick (is_gcr drive) zero_word words.quintary;
    }

-- the words, and how long the image is
unfoldable pub settle_data : Words → Drive → Store → Host → Written
settle_data words drive store host =
    record { words = data_words words drive store host; bytes = length (write_image store host drive.density) }
