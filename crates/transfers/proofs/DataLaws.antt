-- Laws of the data call: the part of an image that its check bytes are, what is known of a call that is not refused,
-- and the record that a write makes.
-- Assumes nothing.
use borrow.Author.Tests.{ne_eqb, eqb-true, ltb-false, not-false}
use mathlib.Core.Path.{◌≡◌, sym, ap, ap₂, ◌∙◌}
use mathlib.Core.Bool.{true}
use mathlib.Core.List.{List, ◌++◌}
use Prim.Native.Nat.{ℕ, ◌+◌, ◌-◌, ◌*◌, ◌≤◌, min}
use native.Mathlib.Omega.{arith}
use lib.ListN.{length, take, drop, length-take, length-drop}
use Rattle.common.specs.Space.{overwrite, filled}
use Rattle.common.proofs.SpaceLaws.{overwritten_all}
use Rattle.common.proofs.Parts.{part_within}
use Rattle.common.proofs.PickLaws.{pick_no, not_refused_lem}
use Rattle.records.specs.Image.{blockette_count, has_blockettes, image_length, image_of}
use Rattle.records.specs.Place.{as_came, written_bytes}
use Rattle.records.proofs.ImageLaws.{length_gcr, image_length_lem}
use Rattle.records.proofs.PlaceLaws.{written_length}
use Rattle.status.specs.declared.drives.Drive.{Drive}
use Rattle.operations.specs.declared.store.Store.{Store}
use Rattle.operations.specs.Store.{thrown_away, held_count}
use Rattle.status.specs.Drives.{is_gcr}
use Rattle.transfers.specs.Data.{check_store, Host, check_bytes, record_bytes, data_refusal}

-- ---- check bytes

-- how long a GCR image with blockettes is
checked_length : (count density : ℕ) → (count ≡ 0 → ⊥) → (density ≡ 0 → ⊥)
    → image_length count density ≡ 2 + 256 * (blockette_count count + 2)
unfolding has_blockettes
checked_length count density some gcr =
    let has : has_blockettes count density ≡ true = simp (ne_eqb count 0 some, ne_eqb density 0 gcr) in
    length_gcr count density has

-- its check bytes are its last 512
module _ (image : List ℕ) (count n : ℕ) (some : count ≡ 0 → ⊥) (many : n ≡ blockette_count count)
    (whole : length image ≡ image_length count 1) where
  pub checks_left : length image ≡ 2 + 256 * n + check_store
  checks_left =
      let long : image_length count 1
      ≡ 2 + 256 * (blockette_count count + 2) = checked_length count 1 some (λ z. omega arith) in
      omega arith

  checks_length_lem : length (take (length image - (2 + 256 * n)) (drop (2 + 256 * n) image)) ≡ check_store
  checks_length_lem = let left = checks_left in simp (length-take, length-drop) (omega arith)

  pub check_part : (check : List ℕ) → length check ≡ check_store
      → overwrite (take (length image - (2 + 256 * n)) (drop (2 + 256 * n) image)) check ≡ check_bytes image count
  unfolding check_bytes
  check_part check e =
      let left = checks_left in
      let last : length image - (2 + 256 * n) ≡ check_store = omega arith in
      overwritten_all _ check (omega (arith, checks_length_lem))
      ∙ ap₂ (λ (k m : ℕ). take k (drop (2 + 256 * m) image)) last many
      ∙ sym (pick_no _ _ (ne_eqb count 0 some))

-- every density but 0 is GCR
pub gcr_alike : (drive : Drive) (count : ℕ) → is_gcr drive ≡ true
    → image_length count drive.density ≡ image_length count 1
unfolding image_length has_blockettes
gcr_alike drive count e = simp e

-- ---- a data call that is not refused

pub data_ready :
    (drive : Drive) (store : Store) (handed place space check : ℕ)
    → data_refusal drive store handed place space check ≡ 0
    → (check ≡ check_store) × (image_length (held_count store) drive.density ≤ space)
unfolding data_refusal
data_ready drive store handed place space check e =
    let a = not_refused_lem _ _ _ (λ r. omega arith) e in
    let b = not_refused_lem _ _ _ (λ r. omega arith) a.1 in
    (eqb-true _ _ (not-false _ a.0), ltb-false _ _ b.0)

-- ---- the record of a write

module _ (store : Store) (host : Host) where
  pub record_image_length : (density : ℕ)
      → length (image_of (record_bytes store host) density) ≡ image_length (held_count store) density
  record_image_length density =
      image_length_lem (record_bytes store host) density
      ∙ ap (λ (k : ℕ). image_length k density)
      (written_length host.bytes host.place (thrown_away store) (held_count store))

  -- the bytes that came, from where they are not thrown away, as many as are counted or there are
  pub record_part : (came : List ℕ) (from end count : ℕ)
      → came ≡ take (as_came (length host.bytes) host.place) host.bytes
      → count ≡ held_count store → from ≡ min (length came) store.second → end ≡ min (length came) (from + count)
      → filled (take (end - from) (drop from came)) count ≡ record_bytes store host
  unfolding written_bytes thrown_away
  record_part came from end count front is f e =
      ap (λ (x : List ℕ). filled x count) (part_within came store.second count from end f e)
      ∙ ap₂ (λ (k : ℕ) (x : List ℕ). filled (take k (drop store.second x)) k) is front

-- ---- what is given

-- an image given at the start of a space
pub image_overwritten : (space image last : List ℕ) (needed : ℕ) → last ≡ image → needed ≡ length image
    → last ++ drop needed space ≡ overwrite image space
unfolding overwrite
image_overwritten space image last needed e long = ap₂ (λ (x : List ℕ) (k : ℕ). x ++ drop k space) e long
