-- A report, an answer to GO, a data call and a result are followed by the machine of one drive.
-- Assumes nothing.
use mathlib.Core.Path.{◌≡◌, refl, sym, ap, ap₂, subst, ◌∙◌}
use Prim.Native.Nat.{ℕ, ◌≤◌}
use mathlib.Core.Bool.{Bool, true, false, ◌&&◌}
use mathlib.Core.List.{List, [], ◌∷◌, ◌++◌, append-nil}
use lib.Dec.{eqb}
use lib.ListN.{length, take}
use borrow.Author.Tests.{eqb-true, eqb-false}
use Rattle.common.specs.Pick.{pick}
use Rattle.common.specs.Space.{overwrite}
use Rattle.common.proofs.SpaceLaws.{overwritten_front}
use Rattle.common.proofs.PickLaws.{by_test, pick_yes, pick_no}
use Rattle.operations.specs.declared.operation.Operation.{Operation}
use Rattle.operations.specs.declared.operation.Operation.TheVariants.{Read, CheckBytes, SuppliedCount, Write, Erase}
use Rattle.operations.specs.declared.operation.Operation.TheVariants.{Rewind, FastForward, SkipForward, SkipReverse}
use Rattle.operations.specs.declared.operation.Operation.TheVariants.{SearchForward, SearchReverse, WriteMark}
use Rattle.operations.specs.declared.decode.Decoded.{Decoded}
use Rattle.operations.specs.Operation.{is_read}
use Rattle.records.specs.Image.{image_of}
use Rattle.records.specs.Place.{written_bytes}
use Rattle.status.specs.declared.drives.Drive.{Drive}
use Rattle.status.specs.Drives.{drive_of, with_report, copy_report}
use Rattle.operations.specs.declared.store.Store.{Store}
use Rattle.link.specs.declared.state.Phase.TheVariants.{GoOffered, DataAwaited, ResultAwaited}
use Rattle.link.specs.declared.state.Body.{Body}
use Rattle.controller.specs.declared.controller.Controller.{Controller}
use Rattle.link.specs.State.{with_selected, current_drive}
use Rattle.operations.specs.Store.{asked_for, thrown_away, held_count}
use Rattle.link.specs.Bytes.{ack}
use Rattle.controller.specs.Controller.{carried}
use Rattle.controller.specs.Stores.{order_move, yes_to_go, no_to_go}
use Rattle.transfers.specs.Data.{Host, record_bytes, write_image, settle_data}
use Rattle.transfers.specs.Results.{Result, is_gone, code_reported, record_count, used_count, verdict_of}
use Rattle.transfers.specs.Results.{delivered_bytes}
use Rattle.transfers.specs.Results.{delivered, fitting, result_gap, settle_result}
use Rattle.controller.specs.Records.{words_of, with_status, with_after, data_done, result_done}
use Rattle.controller.specs.Machine.{report_noted, Call, plain}
use Rattle.controller.specs.Machine.Call.{byte, report, host_data, result}
use Rattle.controller.specs.Lists.{asks_for, asks_read}
use Rattle.controller.specs.Separation.{Output, is_of, awaits_go, event_of, orders_for, bytes_given, transfer_of}
use Rattle.controller.specs.Separation.Event.{report_came, go_answered, data_came, result_came}
use Rattle.controller.specs.Separation.Output.{image, delivery}
use Rattle.controller.proofs.DrivesAreSeparate.OneDrive.{Hand, resting, hand_after_go, hand_after_data}
use Rattle.controller.proofs.DrivesAreSeparate.OneDrive.{given_at_data, moved, drive_after_result, given_at_result}
use Rattle.controller.proofs.DrivesAreSeparate.OneDrive.{told, gives}
use Rattle.controller.proofs.DrivesAreSeparate.OneDrive.Hand.{empty, go_offered, data_awaited, result_awaited}
use Rattle.controller.proofs.Steps.Resting.{seen, go_refused_rests, ending_rests}
use Rattle.controller.proofs.DrivesAreSeparate.Views.{Follows, Held, InHand, bare, does_follows, free_held}
use Rattle.controller.proofs.DrivesAreSeparate.Views.{hand_in, none_for, owned_follows, passes_follows}
use Rattle.controller.proofs.DrivesAreSeparate.Views.{rests_view, view_of}
use Rattle.controller.proofs.DrivesAreSeparate.Stores.{ordered_other, ordered_own, other_number, other_view}
use Rattle.controller.proofs.DrivesAreSeparate.Stores.{own_number, own_view, set_other, set_own}

-- ---- a report

module _ (d : ℕ) (low : d ≤ 3) (last : Store) (c : Controller) (n r : ℕ) where
  pub report_follows :
      n ≤ 3
      → InHand last c.body.selected c.phase
      → Follows d (view_of d last c)
      last c (record { call = report n r; answer = plain (carried (report_noted c n r)) })
  unfolding event_of transfer_of orders_for told gives with_report
  report_follows within held =
      by_test (eqb n d)
      (λ same. does_follows d last c _ _ (report_came r) (pick_yes (report_came r ∷ []) [] same)
      (record {
        done = refl;
        view =
            ap (λ (drive : Drive). record { drive = drive; hand = (view_of d last c).hand })
            (set_own d low c.body n (λ (x : Drive). with_report x r) (eqb-true n d same));
        given = refl;
      })
      held)
      (λ other. passes_follows d last c _ _ (pick_no (report_came r ∷ []) [] other)
      (record {
        view =
            ap (λ (drive : Drive). record { drive = drive; hand = (view_of d last c).hand })
            (set_other d low (with_selected c.body n) (with_report (drive_of c.body.drives n) r) within
            (eqb-false n d other));
        transfer = refl;
        quiet = refl;
      })
      held)

-- ---- GO

module _ (d : ℕ) (low : d ≤ 3) (last : Store) (b : Body) (store : Store) where
  abbrev offered : Controller
  offered = record { body = b; phase = GoOffered store }

  pub go_taken_follows :
      (value : ℕ)
      → eqb value ack ≡ true
      → Held last b.selected Write store
      → Follows d (view_of d last offered) last offered
      (record { call = byte value; answer = plain (carried (yes_to_go b store)) })
  unfolding event_of awaits_go transfer_of orders_for told gives yes_to_go hand_in hand_after_go InHand
  go_taken_follows value accepts held =
      owned_follows d last offered _ _ (go_answered (eqb value ack)) refl
      (λ own. record {
        done = refl;
        view =
            ap (λ (hand : Hand). record { drive = seen d b; hand = hand })
            (pick_yes (data_awaited (bare store)) empty own
            ∙ sym (ap₂ hand_after_go accepts (pick_yes (go_offered (bare store)) empty own)));
        given = refl;
      })
      (λ other. record {
        view =
            ap (λ (hand : Hand). record { drive = seen d b; hand = hand })
            (pick_no (data_awaited (bare store)) empty other ∙ sym (pick_no (go_offered (bare store)) empty other));
        transfer = refl;
        quiet = refl;
      })
      held

  -- a no, by a byte or a broken link
  pub go_refused_follows :
      (call : Call) (accepts : Bool)
      → event_of d last offered call ≡ pick (is_of d last) (go_answered accepts ∷ []) []
      → transfer_of d last [] call ≡ []
      → accepts ≡ false
      → Follows d (view_of d last offered) last offered
      (record { call = call; answer = plain (carried (no_to_go b store)) })
  unfolding told gives hand_after_go bytes_given
  go_refused_follows call accepts made nothing refuses =
      let rests = go_refused_rests b store in
      owned_follows d last offered _ _ (go_answered accepts) made
      (λ own. record {
        done = refl;
        view =
            rests_view d low last b _ rests
            ∙ sym (ap (λ (t : Bool). record { drive = seen d b; hand = hand_after_go t (view_of d last offered).hand })
            refuses);
        given = ap₂ (λ (l m : List Output). l ++ m) nothing (none_for d _ rests.quiet);
      })
      (λ other.
      record {
        view = rests_view d low last b _ rests ∙ sym (other_view d last offered _ other refl);
        transfer = nothing;
        quiet = none_for d _ rests.quiet;
      })
      (free_held last _ _ rests.free)

-- ---- the data call

module _ (d : ℕ) (last : Store) (b : Body) (store : Store) (host : Host) (space check : List ℕ) where
  abbrev awaiting : Controller
  awaiting = record { body = b; phase = DataAwaited store }

  pub data_follows :
      Held last b.selected Write store
      → Follows d (view_of d last awaiting) last awaiting
      (record { call = host_data host space check; answer = data_done b (current_drive b) store host space check })
  unfolding event_of transfer_of bytes_given told gives data_done settle_data hand_in hand_after_data given_at_data
      written_bytes thrown_away held_count InHand order_move
  data_follows held =
      let body = with_status b (settle_data (words_of b) (current_drive b) store host).words in
      let written = write_image store host (current_drive b).density in
      let next = (carried (order_move body Write store)).controller in
      owned_follows d last awaiting _ _ (data_came host) refl
      (λ own.
      let e : b.selected ≡ d = held.selects ∙ own_number d last held.names own in
      let starts = ordered_own d store body Write e in
      let hand = pick_yes (data_awaited (bare store)) empty own in
      record {
        done = refl;
        view =
            own_view d last next _ own starts.view
            ∙ sym (ap (λ (h : Hand). record { drive = seen d b; hand = hand_after_data h }) hand);
        given =
            ap₂ (λ (l m : List Output). l ++ m)
            (pick_yes _ [] own ∙ ap (λ (l : List ℕ). image l ∷ [])
            (overwritten_front written space
            ∙ ap (λ (n : ℕ). image_of (record_bytes store host) (drive_of b.drives n).density) e))
            starts.given
            ∙ sym (ap (given_at_data d (seen d b) host) hand);
      })
      (λ other.
      let leaves = ordered_other d store body Write
      (λ e. other_number d last held.names other (sym held.selects ∙ e)) in
      record {
        view = other_view d last next _ other leaves.same ∙ sym (other_view d last awaiting _ other refl);
        transfer = pick_no _ [] other;
        quiet = leaves.quiet;
      })
      held

-- ---- the result

-- a read's bytes depend on the drive's report and on nothing else of the state
read_seen :
    (operation : Operation) (drive : Drive) (store : Store) (r : Result) (check : List ℕ) (space : ℕ)
    → pick (is_read operation) (delivery (fitting (delivered drive operation store r check) space) ∷ []) []
    ≡ pick (is_read operation)
    (delivery (fitting (delivered (copy_report drive) operation (bare store) r []) space) ∷ []) []
unfolding delivered_bytes verdict_of is_gone used_count record_count held_count pick
read_seen Read drive store r check space = refl
read_seen CheckBytes drive store r check space = refl
read_seen SuppliedCount drive store r check space = refl
read_seen Write drive store r check space = refl
read_seen Erase drive store r check space = refl
read_seen Rewind drive store r check space = refl
read_seen FastForward drive store r check space = refl
read_seen SkipForward drive store r check space = refl
read_seen SkipReverse drive store r check space = refl
read_seen SearchForward drive store r check space = refl
read_seen SearchReverse drive store r check space = refl
read_seen WriteMark drive store r check space = refl

module _ (d : ℕ) (low : d ≤ 3) (last : Store) (b : Body) (operation : Operation) (store : Store) (r : Result)
    (space check : List ℕ) where
  abbrev moving : Controller
  moving = record { body = b; phase = ResultAwaited operation store }

  pub result_follows :
      Held last b.selected operation store
      → Follows d (view_of d last moving) last moving
      (record { call = result r space check; answer = result_done b (current_drive b) operation store r space check })
  unfolding event_of transfer_of bytes_given told gives result_done settle_result verdict_of result_gap is_gone
      code_reported held_count hand_in drive_after_result given_at_result asks_for asks_read
  result_follows held =
      let bytes = delivered (current_drive b) operation store r check in
      let body = with_after b (settle_result (words_of b) (current_drive b) operation store r (length space) check) in
      let rests = ending_rests body operation store in
      let fits = fitting bytes (length space) in
      owned_follows d last moving _ _ (result_came r (length space)) refl
      (λ own.
      let e : b.selected ≡ d = held.selects ∙ own_number d last held.names own in
      let hand = pick_yes (result_awaited operation (bare store)) empty own in
      record {
        done = refl;
        view =
            rests_view d low last body _ rests
            ∙ ap resting (set_own d low b b.selected (λ (x : Drive). moved x operation store r) e)
            ∙ sym (ap (λ (h : Hand). resting (drive_after_result (seen d b) r h)) hand);
        given =
            ap₂ (λ (l m : List Output). l ++ m)
            (ap₂ (λ (t : Bool) (asks : Decoded). pick (t && asks_read asks)
            (delivery (take (length fits) (overwrite fits space)) ∷ []) []) own held.asks
            ∙ ap (λ (l : List ℕ). pick (is_read operation) (delivery l ∷ []) [])
            (overwritten_front fits space
            ∙ ap (λ (n : ℕ). fitting (delivered (drive_of b.drives n) operation store r check) (length space)) e)
            ∙ read_seen operation (drive_of b.drives d) store r check (length space))
            (none_for d _ rests.quiet)
            ∙ append-nil _
            ∙ sym (ap (given_at_result (seen d b) r (length space)) hand);
      })
      (λ other.
      let within = subst (λ (n : ℕ). n ≤ 3) (sym held.selects) held.low in
      let differs : b.selected ≡ d → ⊥ = λ e. other_number d last held.names other (sym held.selects ∙ e) in
      record {
        view =
            rests_view d low last body _ rests
            ∙ ap resting (set_other d low b (moved (current_drive b) operation store r) within differs)
            ∙ sym (other_view d last moving _ other refl);
        transfer = pick_no _ [] (ap (λ (t : Bool). t && asks_read (asked_for last)) other);
        quiet = none_for d _ rests.quiet;
      })
      (free_held last _ _ rests.free)
