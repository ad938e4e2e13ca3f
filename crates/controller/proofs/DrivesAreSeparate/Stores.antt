-- A store that is carried out is followed by the machine of one drive: it begins on the drive that it names and leaves
-- the others alone.
-- Assumes nothing.
use mathlib.Core.Path.{◌≡◌, refl, sym, ap, ap₂, subst, subst₂, ◌∙◌}
use Prim.Native.Nat.{ℕ, ◌≤◌}
use native.Mathlib.Omega.{arith}
use mathlib.Core.Bool.{Bool, true, false, not, ◌&&◌, ◌||◌, true≢false, false≢true}
use mathlib.Core.List.{List, [], ◌∷◌}
use lib.Dec.{leb, eqb}
use borrow.Author.Tests.{eqb-true, eqb-false, eq-eqb, ne_eqb, leb-false, leb-true}
use Rattle.common.specs.Pick.{pick}
use Rattle.common.proofs.PickLaws.{by_test, pick_yes, pick_no}
use Rattle.operations.specs.declared.operation.Operation.{Operation}
use Rattle.operations.specs.declared.course.Course.{Course}
use Rattle.operations.specs.declared.decode.Decoded.{Decoded}
use Rattle.operations.specs.declared.decode.Decoded.TheVariants.{Reset, Code, Track, Enable, Guard, Density, Operate}
use Rattle.operations.specs.Operation.{move_of, order_byte}
use Rattle.operations.specs.Test.{may_move}
use Rattle.status.specs.declared.drives.Drive.{Drive}
use Rattle.status.specs.Drives.{Drives}
use Rattle.status.specs.Drives.{drive_of, copy_report, with_track, with_density, with_guard}
use Rattle.link.specs.Frames.{order_of}
use Rattle.status.proofs.DriveLaws.{put_same, put_other}
use Rattle.operations.specs.declared.store.Store.{Store}
use Rattle.link.specs.declared.state.Body.{Body}
use Rattle.controller.specs.declared.controller.Controller.{Controller}
use Rattle.link.specs.declared.state.Action.TheVariants.{Order}
use Rattle.link.specs.State.{Transition}
use Rattle.link.specs.State.{with_selected, with_flags, with_outcome, with_current_drive}
use Rattle.operations.specs.Codes.{illegal_drive, illegal_motion}
use Rattle.operations.specs.Store.{names_drive, named_drive, names_unknown, selected_by, asked_for, asked_in}
use Rattle.operations.specs.Course.{test_of, course_of}
use Rattle.operations.proofs.DensityLaws.{by_density, asked_operation}
use Rattle.controller.specs.Controller.{carried}
use Rattle.controller.specs.Stores.{end_with, motion_order, order_move, begin, follow, clear_outcome, carry_out_on}
use Rattle.controller.specs.Stores.{carry_out}
use Rattle.controller.specs.Machine.{Call, plain}
use Rattle.controller.specs.Machine.Call.{taken}
use Rattle.controller.specs.Lists.{holds_store}
use Rattle.controller.specs.Separation.{Output, is_of, store_event, event_of, orders_for, transfer_of, asks_reset}
use Rattle.controller.specs.Separation.{resets}
use Rattle.controller.specs.Separation.Output.{motion}
use Rattle.controller.proofs.DrivesAreSeparate.OneDrive.{Hand, View, resting, hand_for, begins, first_order}
use Rattle.controller.proofs.DrivesAreSeparate.OneDrive.{given_at_store, told, gives}
use Rattle.controller.proofs.DrivesAreSeparate.OneDrive.Hand.{empty, result_awaited}
use Rattle.controller.proofs.Courses.{decoded, by_test_of, by_beginning}
use Rattle.controller.proofs.Steps.Resting.{seen, Rests, ended_rests, settled_rests}
use Rattle.controller.proofs.DrivesAreSeparate.Views.{Follows, Held, InHand, bare, free_hand, free_held, hand_in}
use Rattle.controller.proofs.DrivesAreSeparate.Views.{none_for, owned_follows, rests_view, view_of}

-- ---- a store is carried out

-- a step that begins a store of the drive: what is seen of it then, and what it is given
pub record Starts (d : ℕ) (v : View) (out : List Output) (t : Transition) : Type 0 where
  pub view : record { drive = seen d t.body; hand = hand_in t.phase } ≡ v
  pub given : orders_for d t.action ≡ out

-- a step that leaves the drive alone
pub record Leaves (d : ℕ) (drive : Drive) (t : Transition) : Type 0 where
  pub same : seen d t.body ≡ drive
  pub quiet : orders_for d t.action ≡ []

module _ (d : ℕ) (low : d ≤ 3) (b : Body) (t : Transition) (rests : Rests b t) where
  rests_leave : Leaves d (seen d b) t
  rests_leave = record { same = rests.same.drive d low; quiet = none_for d t.action rests.quiet }

  rests_start : Starts d (resting (seen d b)) [] t
  rests_start =
      record {
        view =
            ap₂ (λ (drive : Drive) (hand : Hand). record { drive = drive; hand = hand }) (rests.same.drive d low)
            (free_hand t.phase rests.free);
        given = none_for d t.action rests.quiet;
      }

choose_start :
    (d : ℕ) (may : Bool) (drive : Drive) (hand : Hand) (out : List Output) (b : Body) (store : Store)
    (course other : Course)
    → Starts d (record { drive = drive; hand = hand }) out (follow b store course)
    → Starts d (resting drive) [] (follow b store other)
    → Starts d (record { drive = drive; hand = pick may hand empty }) (pick may out [])
    (follow b store (pick may course other))
unfolding pick
choose_start d true drive hand out b store course other moves ends = moves
choose_start d false drive hand out b store course other moves ends = ends

-- an order is given to the drive whose number it bears
order_own :
    (d : ℕ) (drives : Drives) (n code third fourth : ℕ)
    → n ≡ d
    → orders_for d (Order (order_of code n (drive_of drives n).track (drive_of drives n).density third fourth))
    ≡ motion (order_of code d (drive_of drives d).track (drive_of drives d).density third fourth) ∷ []
unfolding orders_for order_of
order_own d drives n code third fourth e =
    subst
    (λ (m : ℕ).
    orders_for d (Order (order_of code m (drive_of drives m).track (drive_of drives m).density third fourth))
    ≡ motion (order_of code d (drive_of drives d).track (drive_of drives d).density third fourth) ∷ [])
    (sym e) (pick_yes _ [] (eq-eqb d d refl))

module _ (d : ℕ) (store : Store) where
  pub ordered_own :
      (b : Body) (operation : Operation)
      → b.selected ≡ d
      → Starts d (record { drive = seen d b; hand = result_awaited operation (bare store) })
      (motion (order_of (order_byte operation) d (seen d b).track (seen d b).density store.third store.fourth)
      ∷ []) (order_move b operation store)
  unfolding order_move motion_order hand_in
  ordered_own b operation e =
      record {
        view = refl;
        given = order_own d b.drives b.selected (order_byte operation) store.third store.fourth e;
      }

  pub ordered_other : (b : Body) (operation : Operation) → (b.selected ≡ d → ⊥)
      → Leaves d (seen d b) (order_move b operation store)
  unfolding order_move motion_order orders_for order_of
  ordered_other b operation other = record { same = refl; quiet = pick_no _ [] (ne_eqb b.selected d other) }

  module _ (b : Body) (n : ℕ) where
    begun_own :
        n ≡ d → (operation : Operation)
        → Starts d (record { drive = seen d b; hand = hand_for operation (bare store) })
        (first_order d (seen d b) (bare store) operation) (begin (with_selected b n) operation store)
    unfolding hand_for first_order hand_in orders_for pick
    begun_own e =
        by_beginning
        (λ operation t. Starts d (record { drive = seen d b; hand = hand_for operation (bare store) })
        (first_order d (seen d b) (bare store) operation) t)
        (with_selected b n) store (λ o same. record { view = refl; given = refl })
        (record { view = refl; given = refl })
        (λ operation o same ordered.
        subst₂ (λ (hand : Hand) (out : List Output). Starts d (record { drive = seen d b; hand = hand }) out
        (order_move (with_outcome (with_selected b n) o) operation store))
        (sym (pick_no _ _ ordered.other))
        (sym (pick_no _ _ (ap₂ (λ (s t : Bool). s || t) ordered.other ordered.moving)))
        (ordered_own (with_outcome (with_selected b n) o) operation e))

    begun_other : (n ≡ d → ⊥) → (operation : Operation)
        → Leaves d (seen d b) (begin (with_selected b n) operation store)
    unfolding orders_for
    begun_other other =
        by_beginning (λ operation t. Leaves d (seen d b) t) (with_selected b n) store
        (λ o same. record { same = refl; quiet = refl })
        (record { same = refl; quiet = refl })
        (λ operation o same ordered. ordered_other (with_outcome (with_selected b n) o) operation other)

    begun_held :
        (operation : Operation)
        → Held store n operation store
        → InHand store (begin (with_selected b n) operation store).body.selected
        (begin (with_selected b n) operation store).phase
    unfolding order_move InHand
    begun_held =
        by_beginning (λ operation t. Held store n operation store → InHand store t.body.selected t.phase)
        (with_selected b n) store
        (λ o same held. held) (λ held. held) (λ operation o same ordered held. held)

-- a track and a density are set alike whatever the reviewed copy is
tracked_seen : (drive : Drive) (track : ℕ)
    → copy_report (with_track drive track) ≡ copy_report (with_track (copy_report drive) track)
unfolding with_track
tracked_seen drive track =
    let seen_of : Drive → Drive = λ (x : Drive). copy_report x in
    by_test (eqb drive.track track)
    (λ same. ap seen_of (pick_yes drive _ same) ∙ sym (ap seen_of (pick_yes (copy_report drive) _ same)))
    (λ new. ap seen_of (pick_no drive _ new) ∙ sym (ap seen_of (pick_no (copy_report drive) _ new)))

-- the record that is set is the selected drive's
pub set_own :
    (d : ℕ)
    → d ≤ 3
    → (b : Body) (n : ℕ) (set : Drive → Drive)
    → n ≡ d
    → seen d (with_current_drive (with_selected b n) (set (drive_of b.drives n)))
    ≡ copy_report (set (drive_of b.drives d))
set_own d low b n set e =
    subst (λ (m : ℕ). seen d (with_current_drive (with_selected b m) (set (drive_of b.drives m)))
    ≡ copy_report (set (drive_of b.drives d))) (sym e)
    (ap (λ (x : Drive). copy_report x) (put_same b.drives (set (drive_of b.drives d)) d low))

pub set_other : (d : ℕ) → d ≤ 3 → (b : Body) (drive : Drive) → b.selected ≤ 3 → (b.selected ≡ d → ⊥)
    → seen d (with_current_drive b drive) ≡ seen d b
set_other d low b drive within other =
    ap (λ (x : Drive). copy_report x) (put_other b.drives drive b.selected d within low other)

module _ (d : ℕ) (low : d ≤ 3) (store : Store) (b : Body) (n : ℕ) where
  abbrev selecting : Body
  selecting = with_selected b n

  decoded_own :
      n ≡ d → (decode : Decoded)
      → asks_reset decode ≡ false
      → Starts d (begins (seen d b) (bare store) decode) (given_at_store d (seen d b) (bare store) decode)
      (decoded selecting store decode)
  unfolding follow course_of test_of begins given_at_store asks_reset
  decoded_own e Reset keeps = absurd (true≢false keeps)
  decoded_own e (Code code) keeps = rests_start d low _ _ (ended_rests selecting store code)
  decoded_own e (Track track) keeps =
      subst (λ (drive : Drive). Starts d (resting drive) [] (decoded selecting store (Track track)))
      (set_own d low b n (λ (x : Drive). with_track x track) e ∙ tracked_seen (drive_of b.drives d) track)
      (rests_start d low _ _
      (settled_rests (with_current_drive selecting (with_track (drive_of b.drives n) track)) store))
  decoded_own e (Enable enable) keeps =
      rests_start d low _ _ (settled_rests (with_flags selecting b.changed enable) store)
  decoded_own e (Guard guard) keeps =
      subst (λ (drive : Drive). Starts d (resting drive) [] (decoded selecting store (Guard guard)))
      (set_own d low b n (λ (x : Drive). with_guard x guard) e)
      (rests_start d low _ _
      (settled_rests (with_current_drive selecting (with_guard (drive_of b.drives n) guard)) store))
  decoded_own e (Density density) keeps =
      subst (λ (drive : Drive). Starts d (resting drive) [] (decoded selecting store (Density density)))
      (set_own d low b n (λ (x : Drive). with_density x density) e)
      (rests_start d low _ _
      (settled_rests (with_current_drive selecting (with_density (drive_of b.drives n) density)) store))
  decoded_own e (Operate operation) keeps =
      subst
      (λ (m : ℕ). Starts d
      (record {
        drive = seen d b;
        hand = pick
            (may_move (move_of operation) (drive_of b.drives m).report (drive_of b.drives m).guard
            (drive_of b.drives m).gap) (hand_for operation (bare store)) empty;
      })
      (pick (may_move (move_of operation) (drive_of b.drives m).report (drive_of b.drives m).guard
      (drive_of b.drives m).gap) (first_order d (seen d b) (bare store) operation) [])
      (decoded selecting store (Operate operation)))
      e
      (choose_start d
      (may_move (move_of operation) (drive_of b.drives n).report (drive_of b.drives n).guard
      (drive_of b.drives n).gap) (seen d b) (hand_for operation (bare store))
      (first_order d (seen d b) (bare store) operation) _ _ _ _
      (begun_own d store b n e operation) (rests_start d low _ _ (ended_rests selecting store illegal_motion)))

  decoded_other :
      n ≤ 3 → (n ≡ d → ⊥) → (decode : Decoded) → asks_reset decode ≡ false
      → Leaves d (seen d b) (decoded selecting store decode)
  unfolding follow course_of asks_reset
  decoded_other within other Reset keeps = absurd (true≢false keeps)
  decoded_other within other (Code code) keeps = rests_leave d low _ _ (ended_rests selecting store code)
  decoded_other within other (Track track) keeps =
      subst (λ (drive : Drive). Leaves d drive (decoded selecting store (Track track)))
      (set_other d low selecting (with_track (drive_of b.drives n) track) within other)
      (rests_leave d low _ _
      (settled_rests (with_current_drive selecting (with_track (drive_of b.drives n) track)) store))
  decoded_other within other (Enable enable) keeps =
      rests_leave d low _ _ (settled_rests (with_flags selecting b.changed enable) store)
  decoded_other within other (Guard guard) keeps =
      subst (λ (drive : Drive). Leaves d drive (decoded selecting store (Guard guard)))
      (set_other d low selecting (with_guard (drive_of b.drives n) guard) within other)
      (rests_leave d low _ _
      (settled_rests (with_current_drive selecting (with_guard (drive_of b.drives n) guard)) store))
  decoded_other within other (Density density) keeps =
      subst (λ (drive : Drive). Leaves d drive (decoded selecting store (Density density)))
      (set_other d low selecting (with_density (drive_of b.drives n) density) within other)
      (rests_leave d low _ _
      (settled_rests (with_current_drive selecting (with_density (drive_of b.drives n) density)) store))
  decoded_other within other (Operate operation) keeps =
      by_test_of (Leaves d (seen d b)) selecting store operation (begun_other d store b n other operation)
      (rests_leave d low _ _ (ended_rests selecting store illegal_motion))

  decoded_held :
      (decode : Decoded)
      → asks_reset decode ≡ false
      → ((operation : Operation) → decode ≡ Operate operation → Held store n operation store)
      → InHand store (decoded selecting store decode).body.selected (decoded selecting store decode).phase
  unfolding follow course_of asks_reset
  decoded_held Reset keeps held = absurd (true≢false keeps)
  decoded_held (Code code) keeps held = free_held store _ _ (ended_rests selecting store code).free
  decoded_held (Track track) keeps held =
      free_held store _ _
      (settled_rests (with_current_drive selecting (with_track (drive_of b.drives n) track)) store).free
  decoded_held (Enable enable) keeps held =
      free_held store _ _ (settled_rests (with_flags selecting b.changed enable) store).free
  decoded_held (Guard guard) keeps held =
      free_held store _ _
      (settled_rests (with_current_drive selecting (with_guard (drive_of b.drives n) guard)) store).free
  decoded_held (Density density) keeps held =
      free_held store _ _
      (settled_rests (with_current_drive selecting (with_density (drive_of b.drives n) density)) store).free
  decoded_held (Operate operation) keeps held =
      by_test_of (λ (t : Transition). InHand store t.body.selected t.phase) selecting store operation
      (begun_held d store b n operation (held operation refl))
      (free_held store _ _ (ended_rests selecting store illegal_motion).free)

-- ---- the calls that belong to a store

module _ (d : ℕ) (store : Store) (c : Controller) where
  pub own_view : (v : View) → is_of d store ≡ true → record { drive = seen d c.body; hand = hand_in c.phase } ≡ v
      → view_of d store c ≡ v
  own_view v own same =
      ap (λ (hand : Hand). record { drive = seen d c.body; hand = hand }) (pick_yes (hand_in c.phase) empty own)
      ∙ same

  pub other_view : (drive : Drive) → is_of d store ≡ false → seen d c.body ≡ drive → view_of d store c ≡ resting drive
  other_view drive other same =
      ap₂ (λ (x : Drive) (hand : Hand). record { drive = x; hand = hand }) same
      (pick_no (hand_in c.phase) empty other)

-- the drive that a store names
pub own_number : (d : ℕ) (store : Store) → names_drive store ≡ true → is_of d store ≡ true → named_drive store ≡ d
unfolding is_of
own_number d store names own =
    eqb-true (named_drive store) d (subst (λ (t : Bool). (t && eqb (named_drive store) d) ≡ true) names own)

pub other_number : (d : ℕ) (store : Store) → names_drive store ≡ true → is_of d store ≡ false
    → named_drive store ≡ d → ⊥
unfolding is_of
other_number d store names other =
    eqb-false (named_drive store) d (subst (λ (t : Bool). (t && eqb (named_drive store) d) ≡ false) names other)

-- ---- a store is taken or handed over

pub carried_event :
    (d : ℕ) (store : Store) (c : Controller)
    → holds_store c ≡ true
    → event_of d store c taken ≡ pick (is_of d store) (store_event store ∷ []) []
unfolding event_of
carried_event d store c holds = ap (λ (t : Bool). pick (t && is_of d store) (store_event store ∷ []) []) holds

-- of a call that brings the store, whichever it is
module _ (d : ℕ) (low : d ≤ 3) (c : Controller) (store : Store) (call : Call)
    (event : event_of d store c call ≡ pick (is_of d store) (store_event store ∷ []) [])
    (still : (bytes : List ℕ) → transfer_of d store bytes call ≡ []) (names : names_drive store ≡ true) where
  -- what is answered to it
  abbrev answered : Transition → Type 0
  answered t = Follows d (resting (seen d c.body)) store c (record { call = call; answer = plain (carried t) })

  -- what it asks for of a drive, by that drive's density
  abbrev asked_on : ℕ → Decoded
  asked_on n = asked_in store (drive_of c.body.drives n).density

  -- no drive of this number: no drive is concerned
  unknown_follows : (b : Body) → b.drives ≡ c.body.drives → 4 ≤ named_drive store
      → answered (end_with b store illegal_drive)
  unfolding transfer_of
  unknown_follows b same high =
      let rests = ended_rests b store illegal_drive in
      let differs : named_drive store ≡ d → ⊥ = λ e. omega arith in
      owned_follows d store c _ _ (store_event store) event (λ own. absurd (differs (own_number d store names own)))
      (λ other. record {
        view =
            rests_view d low store _ _ rests ∙ ap (λ (drives : Drives). resting (copy_report (drive_of drives d))) same;
        transfer = still _;
        quiet = none_for d _ rests.quiet;
      })
      (free_held store _ _ rests.free)

  decoded_follows :
      named_drive store ≤ 3
      → asks_reset (asked_for store) ≡ false
      → answered
      (decoded (with_selected (clear_outcome c.body) (named_drive store)) store (asked_on (named_drive store)))
  unfolding clear_outcome transfer_of told gives store_event asked_for asks_reset
  decoded_follows within keeps =
      let b = clear_outcome c.body in
      let asked = asked_on (named_drive store) in
      let stays = by_density (λ (x : Decoded). asks_reset x ≡ false) _ (asked_for store) keeps (λ operation is. refl) in
      let next = (carried (decoded (with_selected b (named_drive store)) store asked)).controller in
      owned_follows d store c _ _ (store_event store) event
      (λ own.
      let e = own_number d store names own in
      let starts = decoded_own d low store b (named_drive store) e asked stays in
      record {
        done = refl;
        view =
            own_view d store next _ own (starts.view ∙ ap (λ (n : ℕ). begins (seen d b) (bare store) (asked_on n)) e);
        given = rw still (starts.given ∙ ap (λ (n : ℕ). given_at_store d (seen d b) (bare store) (asked_on n)) e);
      })
      (λ other. let leaves = decoded_other d low store b (named_drive store) within (other_number d store names other)
      asked stays in
      record { view = other_view d store next _ other leaves.same; transfer = still _; quiet = leaves.quiet })
      (decoded_held d low store b (named_drive store) asked stays
      (λ (operation : Operation) (asks : asked ≡ Operate operation).
      record {
        same = refl;
        selects = refl;
        names = names;
        low = within;
        asks = asked_operation _ (asked_for store) operation asks;
      }))

  -- the drive is named
  choose_follows :
      (naming above : Bool) (ended : Transition) (turned : ℕ → Transition) (selected : ℕ)
      → naming ≡ true
      → (above ≡ true → answered ended)
      → (above ≡ false → answered (turned (named_drive store)))
      → answered (pick (naming && above) ended (turned (pick naming (named_drive store) selected)))
  unfolding pick
  choose_follows true true ended turned selected e ends turns = ends refl
  choose_follows true false ended turned selected e ends turns = turns refl
  choose_follows false above ended turned selected e ends turns = absurd (false≢true e)

  pub carried_follows : resets store ≡ false → answered (carry_out c.body store)
  unfolding carry_out carry_out_on clear_outcome names_unknown selected_by resets
  carried_follows keeps =
      choose_follows (names_drive store) (leb 4 (named_drive store)) _
      (λ n. decoded (with_selected (clear_outcome c.body) n) store (asked_on n)) _ names
      (λ high. unknown_follows _ refl (leb-true 4 (named_drive store) high))
      (λ few. let below = leb-false 4 (named_drive store) few in decoded_follows (omega arith)
      (subst (λ (t : Bool). (not t && asks_reset (asked_for store)) ≡ false) few keeps))
