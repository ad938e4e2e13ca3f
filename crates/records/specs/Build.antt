-- The builder: "bytes and a density (any but 0 is GCR) to an image" (document 01, Loads, restorer, session), and a
-- place (document 02, request 6).
-- Assumes nothing.
use Rattle.std.specs.Prelude.{ℕ, not, List, ltb, eqb, length}
use Rattle.common.specs.Pick.{pick}
use Rattle.common.specs.Space.{overwrite}
use Rattle.common.specs.Refusals.{done, wrong_length, space_short, no_such_place}
use Rattle.records.specs.Count.{limit}
use Rattle.records.specs.Image.{image_of, image_length}
use Rattle.records.specs.Place.{is_place, written_bytes}

-- "host bytes too many for the builder, keep refusal 9" (document 02, request 10); "11 the .. builder's image space ..
-- short", lowest first; "15 a place that is neither in the host bytes nor the value for none, after 11"
unfoldable pub build_refusal : ℕ → ℕ → ℕ → ℕ → ℕ
build_refusal c density place space =
    pick (ltb limit c) wrong_length
    (pick (ltb space (image_length c density)) space_short (pick (not (is_place c place)) no_such_place done))

-- "The builder takes a place too, counted over its own bytes": what it writes of them
abbrev pub built_bytes : List ℕ → ℕ → List ℕ
built_bytes bytes place = written_bytes bytes place 0 (length bytes)

-- the image space afterwards: as it was where the call is refused
unfoldable pub build_into : List ℕ → ℕ → ℕ → List ℕ → List ℕ
build_into bytes density place space =
    pick (eqb (build_refusal (length bytes) density place (length space)) done)
    (overwrite (image_of (built_bytes bytes place) density) space) space
