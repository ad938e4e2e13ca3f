-- At every data call of a list that is not refused, the image of the bytes that the host sent is given
-- (`writes_record`, over the definitions).
-- Assumes nothing.
use mathlib.Core.Path.{◌≡◌, refl, sym, ap, ap₂, subst, ◌∙◌}
use Prim.Native.Nat.{ℕ, ◌+◌, ◌-◌, ◌*◌, ◌≤◌}
use native.Mathlib.Omega.{arith}
use mathlib.Core.List.{List, [], ◌∷◌, ◌++◌}
use lib.Dec.{leb, ltb}
use lib.ListN.{length, take, drop, get_or, length-take, get_or-eq_default}
use lib.Seq.{get_or-take, get_or-drop, take_all}
use borrow.Author.Tests.{ltb-false, leb-true, leb-false}
use Rattle.common.specs.Pick.{pick}
use Rattle.common.specs.Space.{overwrite, filled}
use Rattle.common.proofs.PickLaws.{by_test, pick_yes, pick_no}
use Rattle.records.specs.Image.{image_of}
use Rattle.records.specs.Place.{as_came, written_bytes}
use Rattle.records.proofs.PlaceLaws.{written_length}
use Rattle.status.specs.declared.drives.Drive.{Drive}
use Rattle.status.specs.Drives.{copy_report}
use Rattle.operations.specs.declared.store.Store.{Store}
use Rattle.operations.specs.Store.{thrown_away, held_count}
use Rattle.link.specs.declared.state.Body.{Body}
use Rattle.link.specs.State.{current_drive}
use Rattle.transfers.specs.Data.{Host, host_of, data_refusal, record_bytes, write_image, settle_data}
use Rattle.transfers.proofs.DataLaws.{data_ready, record_image_length}
use Rattle.controller.specs.Controller.{fresh}
use Rattle.controller.specs.Records.{data_done}
use Rattle.controller.specs.Machine.{Call, run}
use Rattle.controller.specs.Ledger.{Ledger, tape_now}
use Rattle.controller.specs.OnTape.{bytes_by, image_on_tape}
use Rattle.controller.specs.Recorded.{byte_sent, bytes_sent, Recorded, WritesRecord}
use Rattle.controller.proofs.DrivesAreALedger.{told}
use Rattle.controller.proofs.OnTapeLaws.{by_bytes, padded_at, image_is}
use Rattle.controller.proofs.EachCall.{current_is, at_transfers}

-- ---- the bytes that are written, each by its place

abbrev three : Store
three = record { address = 0x59; first = 0; second = 2; third = 0; fourth = 3 }

abbrev six : List ℕ
six = 0x11 ∷ 0x22 ∷ 0x33 ∷ 0x44 ∷ 0x55 ∷ 0x66 ∷ []

-- those that came up to a bad one, and zeros behind it
came_at : (host : Host) (place : ℕ)
    → get_or (take (as_came (length host.bytes) host.place) host.bytes) place 0 ≡ byte_sent host place
unfolding as_came byte_sent
came_at host place =
    let bytes = host.bytes in
    let bad = host.place in
    by_test (ltb bad (length bytes))
    (λ inside.
    ap (λ (n : ℕ). get_or (take n bytes) place 0) (pick_yes (bad + 1) (length bytes) inside)
    ∙ by_test (leb place bad)
    (λ early. get_or-take (bad + 1) bytes place 0 (let low = leb-true place bad early in omega arith)
    ∙ sym (pick_yes _ _ early))
    (λ late.
    let past = leb-false place bad late in
    get_or-eq_default (take (bad + 1) bytes) 0 (simp length-take (omega arith)) ∙ sym (pick_no _ _ late)))
    (λ outside.
    let none = ltb-false bad (length bytes) outside in
    ap (λ (n : ℕ). get_or (take n bytes) place 0) (pick_no (bad + 1) (length bytes) outside)
    ∙ ap (λ (l : List ℕ). get_or l place 0) (take_all (length bytes) bytes (omega arith))
    ∙ by_test (leb place bad) (λ early. sym (pick_yes _ _ early))
    (λ late.
    let past = leb-false place bad late in
    let behind : length bytes ≤ place = omega arith in
    get_or-eq_default bytes 0 behind ∙ sym (pick_no _ _ late)))

-- what a record holds
record_is : (store : Store) (host : Host) → bytes_sent store host ≡ record_bytes store host
unfolding written_bytes filled thrown_away held_count
record_is store host =
    let count = store.third * 256 + store.fourth in
    let came = take (as_came (length host.bytes) host.place) host.bytes in
    by_bytes _ count (record_bytes store host)
    (written_length host.bytes host.place store.second count)
    (λ i below.
    let part = take count (drop store.second came) in
    padded_at part (count - length part) i
    ∙ get_or-take count (drop store.second came) i 0 below
    ∙ get_or-drop store.second came i 0
    ∙ came_at host (store.second + i))

-- two of six thrown away and three counted, with the byte at place 3 bad: it is written, and then a zero; with one of
-- those thrown away, zeros alone
pub bytes_sent_cases :
    (bytes_sent three (host_of six 3) ≡ 0x33 ∷ 0x44 ∷ 0 ∷ [])
    × (bytes_sent three (host_of six 1) ≡ 0 ∷ 0 ∷ 0 ∷ [])
    × (bytes_sent three (host_of six 65791) ≡ 0x33 ∷ 0x44 ∷ 0x55 ∷ [])
unfolding bytes_by byte_sent pick
bytes_sent_cases = (refl, refl, refl)

-- its image
pub recorded_is : (store : Store) (host : Host) (density : ℕ)
    → image_on_tape (bytes_sent store host) density ≡ write_image store host density
recorded_is store host density =
    image_is (bytes_sent store host) density ∙ ap (λ (l : List ℕ). image_of l density) (record_is store host)

-- ---- over every list

data_records :
    (l : Ledger) (b : Body) (held : Store) (host : Host) (space check : List ℕ)
    → copy_report (current_drive b) ≡ told (tape_now l)
    → held ≡ l.store
    → data_refusal (current_drive b) held (length host.bytes) host.place (length space) (length check) ≡ 0
    → Recorded l host space (data_done b (current_drive b) held host space check)
unfolding data_done settle_data overwrite
data_records l b held host space check current same good =
    let density : (current_drive b).density ≡ (tape_now l).density = ap (λ (d : Drive). d.density) current in
    let image : write_image held host (current_drive b).density
    ≡ image_on_tape (bytes_sent l.store host) (tape_now l).density =
    sym (recorded_is held host (current_drive b).density)
    ∙ ap₂ (λ (s : Store) (n : ℕ). image_on_tape (bytes_sent s host) n) same density in
    let ready = data_ready (current_drive b) held (length host.bytes) host.place (length space) (length check)
    good in
    record {
      room =
          subst (λ (n : ℕ). n ≤ length space) (ap length image)
          (rw (record_image_length held host (current_drive b).density) ready.1);
      number = ap length image;
      there =
          ap (λ (x : List ℕ). x ++ drop (length (write_image held host (current_drive b).density)) space) image;
    }

pub writes_record : (calls : List Call) → WritesRecord (run fresh calls)
writes_record =
    at_transfers (λ l answer host space check. Recorded l host space answer) (λ l answer r space check. Unit)
    (λ l b held host space check agrees. data_records l b held host space check (current_is l b agrees))
    (λ l b operation held r space check agrees asks same clear good. tt)
