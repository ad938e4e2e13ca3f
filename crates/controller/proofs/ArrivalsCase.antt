-- An example of stores in any order, by the link and by hand: those of the other example, one by hand and two by the
-- link, and in another order the other way round, with two stores for drives 6 and 7 among them.
-- Assumes nothing.
use mathlib.Core.Path.{◌≡◌, refl}
use mathlib.Core.Bool.{Bool, true, false}
use mathlib.Core.List.{List, [], ◌∷◌}
use Prim.Native.Nat.{ℕ, zero, suc, ◌≤◌, ◌<◌}
use native.Mathlib.Omega.{arith}
use Rattle.common.specs.Pick.{pick}
use Rattle.status.proofs.DriveLaws.{by_four}
use Rattle.operations.specs.Decode.{control_of, read_of, decode_of}
use Rattle.operations.specs.Store.{names_drive, named_drive, asked_for}
use Rattle.controller.specs.Controller.{fresh}
use Rattle.controller.specs.Machine.{run}
use Rattle.controller.specs.Machine.Call.{report}
use Rattle.controller.specs.Separation.{asks_reset, resets}
use Rattle.controller.specs.AnyOrder.{all_calls}
use Rattle.controller.specs.Scripts.{Script, none_refused, own_scripts}
use Rattle.controller.specs.InRange.{InRange, BytesIn, AllBytesIn, Bytes}
use Rattle.controller.specs.Arrivals.{Arrival, arrivals_of, scripts_of, ScriptOfBytes, AllAdmitted, AllOfBytes}
use Rattle.controller.proofs.StaysInRange.{list_stays_in_range, fresh_in_range}
use Rattle.controller.proofs.TicksRest.{all_done}
use Rattle.controller.proofs.Arrivals.{InAnyOrder, arrives, arrivals_in_any_order}
use Rattle.controller.proofs.AnyOrderCase.{taped, alone, enable_on_zero, guard_on_one, write_on_zero, in_one_order}
use Rattle.controller.proofs.AnyOrderCase.{any_order_case}

-- with or without a tick before it, by the link, with this unused byte, or by hand
abbrev linked : Bool → ℕ → Script → Arrival
linked ticks unused script = record { ticks = ticks; by_link = true; unused = unused; script = script }

abbrev handed : Bool → Script → Arrival
handed ticks script = record { ticks = ticks; by_link = false; unused = 0; script = script }

abbrev in_one_way : List Arrival
in_one_way = linked true 0x00 guard_on_one ∷ handed false enable_on_zero ∷ linked false 0xFF write_on_zero ∷ []

-- a guard for drive 7, and a store of operation 0 for drive 6, which resets nothing
abbrev in_another : List Arrival
in_another =
    handed false (alone 0x3F 0x0B) ∷ linked false 0x12 enable_on_zero ∷ handed true guard_on_one
    ∷ linked false 0x00 (alone 0x8E 0x00) ∷ handed false write_on_zero ∷ []

taped_in_range : InRange taped
unfolding run AllBytesIn BytesIn
taped_in_range =
    (list_stays_in_range fresh (report 0 0x22 ∷ report 1 0x22 ∷ [])
    fresh_in_range (omega arith, (omega arith, tt))).ends

two_bytes : Bytes (0x4F ∷ 0x4B ∷ [])
two_bytes zero inside = omega arith
two_bytes (suc zero) inside = omega arith
two_bytes (suc (suc i)) inside = absurd (omega arith)

no_bytes : Bytes []
no_bytes i inside = absurd (omega arith)

of_bytes : (address value : ℕ) → address < 256 → value < 256 → ScriptOfBytes (alone address value)
of_bytes address value low too =
    record {
      store = record { address = low; first = omega arith; second = omega arith; third = omega arith; fourth = too };
      go = omega arith;
      host = two_bytes;
      result = record { code = omega arith; late = omega arith; image = no_bytes; marks = no_bytes };
    }

all_of_bytes : AllOfBytes in_one_way
unfolding AllOfBytes
all_of_bytes = (
  of_bytes 0x39 0x0B (omega arith) (omega arith),
  (of_bytes 0x38 0x09 (omega arith) (omega arith), (of_bytes 0xD8 0x02 (omega arith) (omega arith), tt)),
)

one_admitted : AllAdmitted in_one_way
unfolding AllAdmitted names_drive named_drive resets asks_reset asked_for decode_of control_of read_of pick
one_admitted = (
  record { names = refl; keeps = refl },
  (record { names = refl; keeps = refl }, (record { names = refl; keeps = refl }, tt)),
)

other_admitted : AllAdmitted in_another
unfolding AllAdmitted names_drive named_drive resets asks_reset asked_for decode_of control_of read_of pick
other_admitted = (
  record { names = refl; keeps = refl },
  (
    record { names = refl; keeps = refl },
    (
      record { names = refl; keeps = refl },
      (record { names = refl; keeps = refl }, (record { names = refl; keeps = refl }, tt)),
    ),
  ),
)

-- it goes as by hand, so none of its calls is refused
none_refused_lem : none_refused (run taped (all_calls taped (arrivals_of in_one_way))) ≡ true
unfolding scripts_of
none_refused_lem =
    (arrives taped in_one_way any_order_case.idle any_order_case.sound one_admitted
    (all_done taped in_one_order any_order_case.idle any_order_case.sound any_order_case.done)).unrefused

own_order : (d : ℕ) → d ≤ 3 → own_scripts d (scripts_of in_one_way) ≡ own_scripts d (scripts_of in_another)
unfolding own_scripts scripts_of named_drive pick
own_order =
    by_four (λ d. own_scripts d (scripts_of in_one_way) ≡ own_scripts d (scripts_of in_another)) refl refl refl refl

-- so they are completed in the other order too
pub completed_in_another : InAnyOrder taped in_one_way in_another
completed_in_another =
    arrivals_in_any_order taped in_one_way in_another any_order_case.idle taped_in_range one_admitted other_admitted
    all_of_bytes none_refused_lem own_order
