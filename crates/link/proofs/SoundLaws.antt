-- What a sound state says of the phase it is in: how long a string is that is being collected, and how many noes a send
-- has.
-- Assumes nothing.
use Prim.Native.Nat.{ℕ, ◌≤◌, ◌<◌}
use native.Mathlib.Omega.{arith}
use mathlib.Core.Path.{◌≡◌}
use mathlib.Core.Bool.{true, ◌&&◌}
use lib.Dec.{ltb, eqb}
use borrow.Author.Tests.{ltb-true, leb-true, eqb-true}
use Rattle.common.proofs.PickLaws.{by_either, both_hold, pick_by}
use Rattle.link.specs.declared.state.Collected.{Collected}
use Rattle.link.specs.declared.state.Send.{Send}
use Rattle.link.specs.declared.state.Phase.{Phase}
use Rattle.link.specs.declared.state.Phase.TheVariants.{Collecting, Sending}
use Rattle.link.specs.declared.state.Body.{Body}
use Rattle.link.specs.Bytes.{load_lead, store_length, most_noes}
use Rattle.link.specs.Link.{whole_length}
use Rattle.link.specs.Damaged.{sound_body, sound_lead, sound_part, sound_phase, is_sound}

whole_at_most : (lead : ℕ) → whole_length lead ≤ store_length
unfolding whole_length
whole_at_most lead = pick_by (λ n. n ≤ store_length) (eqb lead load_lead) (λ load. omega arith) (λ store. omega arith)

part_short : (s : Collected) → sound_part s ≡ true → s.length < store_length
unfolding sound_part
part_short s =
    let whole = whole_length s.c0 in
    by_either (eqb s.length 0) (sound_lead s && ltb s.length whole)
    (λ none. omega (arith, eqb-true s.length 0 none))
    (λ some. omega (
      arith,
      ltb-true s.length whole (both_hold (sound_lead s) (ltb s.length whole) some).1,
      whole_at_most
          s.c0,
    ))

phase_holds : (b : Body) (phase : Phase) → is_sound b phase ≡ true → sound_phase phase ≡ true
unfolding is_sound
phase_holds b phase whole = (both_hold (sound_body b) (sound_phase phase) whole).1

-- a string that is being collected has room for a byte
pub collecting_short : (b : Body) (phase : Phase) (s : Collected) → is_sound b phase ≡ true → phase ≡ Collecting s
    → s.length < store_length
unfolding sound_phase
collecting_short b phase s whole told = part_short s (rw told at (phase_holds b phase whole))

-- a send has had four noes at most
pub noes_few : (b : Body) (phase : Phase) (send : Send) → is_sound b phase ≡ true → phase ≡ Sending send
    → send.noes ≤ most_noes
unfolding sound_phase
noes_few b phase send whole told = leb-true _ _ (rw told at (phase_holds b phase whole))
