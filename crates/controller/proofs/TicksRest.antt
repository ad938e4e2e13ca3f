-- A tick between transactions, answered where it sends an interrupt, rests from every idle and undamaged state.
-- Assumes nothing.
use mathlib.Core.Path.{◌≡◌, refl, sym, ap, ap₂, subst, ◌∙◌}
use Prim.Native.Nat.{ℕ, ◌≤◌}
use mathlib.Core.Bool.{Bool, true, false, not, ◌&&◌, and-false}
use mathlib.Core.List.{List, [], ◌∷◌, ◌++◌}
use lib.Dec.{leb, eqb}
use Rattle.common.specs.Pick.{pick}
use Rattle.common.proofs.PickLaws.{by_test, both_hold, pick_yes, pick_no, pick_by}
use Rattle.link.specs.declared.state.Collected.{Collected}
use Rattle.link.specs.declared.state.Kind.TheVariants.{Change}
use Rattle.link.specs.declared.state.Phase.{Phase}
use Rattle.link.specs.declared.state.Phase.TheVariants.{Collecting}
use Rattle.link.specs.declared.state.Body.{Body}
use Rattle.link.specs.State.{Transition}
use Rattle.link.specs.declared.state.Action.TheVariants.{Nothing}
use Rattle.link.specs.Bytes.{ack, interrupt}
use Rattle.link.specs.State.{with_flags, review, idle, nothing_collected}
use Rattle.link.specs.Completion.{send_word, primary_now}
use Rattle.link.specs.Link.{yes_to_send, answer_to_send, tick_after_review, idle_tick}
use Rattle.link.specs.Damaged.{sound_drive, sound_body, sound_part, sound_phase, is_sound}
use Rattle.controller.specs.declared.controller.Controller.{Controller}
use Rattle.controller.specs.Told.{Reply}
use Rattle.controller.specs.Controller.{is_idle_in, is_idle, carried}
use Rattle.controller.specs.Records.{Answer}
use Rattle.controller.specs.Machine.{tick_in, tick_call, byte_in, byte_call, Call, Exchange, plain, step, run}
use Rattle.controller.specs.Machine.Call.{byte, tick}
use Rattle.controller.specs.Lists.{not_refused, brings_store, carries_out, after}
use Rattle.controller.specs.Separation.{is_reset, admits, admitted_from}
use Rattle.controller.specs.JobOrder.{stores_from, is_report, reports_fixed}
use Rattle.operations.specs.Store.{named_drive}
use Rattle.controller.specs.AnyOrder.{Sound, after_calls, Transaction, Rests, Entry, begun, after_entry, after_all}
use Rattle.controller.specs.AnyOrder.{AllDone, AllRest, own_transactions, all_calls, SameInOrder}
use Rattle.controller.specs.Scripts.{Script, transaction_of, pause, Scheduled, entry_of, entries_of, AllScriptsDone}
use Rattle.controller.specs.Scripts.{own_scripts, ScriptsInAnyOrder, none_refused}
use Rattle.controller.proofs.Steps.{stated}
use Rattle.controller.proofs.GoesAlike.{body_damage, copied}
use Rattle.controller.proofs.ScriptsGoAlike.{script_steady}
use Rattle.controller.proofs.AnyOrder.{idles, any_order, any_order_of_drives, AllAnywhere}

-- ---- calls of the link

-- a tick or a byte carries out no store, no report and no reset
unfoldable Links : Call → Type 0
Links call = (c : Controller) → (brings_store c call ≡ false) × ((is_reset call ≡ false) × (is_report call ≡ false))

linked : (c : Controller) (call : Call) (calls : List Call) → Links call → Rests (step c call).reply.controller calls
    → Rests c (call ∷ calls)
unfolding Links run stores_from admitted_from reports_fixed after carries_out admits
linked c call calls links rests =
    let x : Exchange = record { call = call; answer = step c call } in
    let (brings, (resets, reports)) = links c in
    let none : carries_out c x ≡ false = ap (λ (t : Bool). not_refused x && t) brings ∙ and-false (not_refused x) in
    record {
      none = pick_no _ _ none ∙ rests.none;
      admitted =
          ap₂ (λ (s t : Bool). s && t)
          (pick_no _ _ none ∙ ap (λ (t : Bool). not (not_refused x && t)) resets ∙ ap not (and-false (not_refused x)))
          rests.admitted;
      fixed =
          ap₂ (λ (s t : Bool). not s && t) (ap (λ (t : Bool). not_refused x && t) reports ∙ and-false (not_refused x))
          rests.fixed;
      idle = rests.idle;
      sound = rests.sound;
    }

nothing_more : (c : Controller) → is_idle c ≡ true → Sound c → Rests c []
unfolding run stores_from admitted_from reports_fixed after
nothing_more c is sound = record { none = refl; admitted = refl; fixed = refl; idle = is; sound = sound }

-- ---- the tick

review_sound : (b : Body) → sound_body (review b) ≡ sound_body b
unfolding review
review_sound b =
    body_damage 0 (review b) b
    (record {
      own = λ low. copied b 0 low;
      drives = λ e few. ap sound_drive (copied b e few);
      selected = refl;
      motion = refl;
      code = refl;
      count = refl;
    })

pub sound_of : (b : Body) (phase : Phase) → sound_body b ≡ true → sound_phase phase ≡ true → is_sound b phase ≡ true
unfolding is_sound
sound_of b phase body held = ap₂ (λ (s t : Bool). s && t) body held

module _ (b : Body) (s : Collected) (empty : eqb s.length 0 ≡ true) (body : sound_body b ≡ true) where
  abbrev at : Controller
  at = stated b (Collecting s)

  still : sound_phase (Collecting s) ≡ true
  unfolding sound_phase sound_part
  still = rw empty

  -- what a tick comes to
  ticked_so : step at tick ≡ plain (carried (idle_tick b (Collecting s)))
  unfolding step tick_call tick_in
  ticked_so = ap (λ (r : Reply). plain r) (pick_yes _ _ (sound_of b (Collecting s) body still) ∙ pick_yes _ _ empty)

  ticked : (step at tick).reply.controller ≡ (carried (idle_tick b (Collecting s))).controller
  ticked = ap (λ (a : Answer). a.reply.controller) ticked_so

  abbrev sent : Controller
  sent = (carried (send_word (review b) Change interrupt (primary_now (review b)))).controller

  abbrev rested : Controller
  rested = (carried (idle (with_flags (review b) false false) Nothing)).controller

  rested_idle : is_idle rested ≡ true
  unfolding idle is_idle_in
  rested_idle = refl

  rested_sound : Sound rested
  unfolding idle sound_body sound_phase sound_part
  rested_sound =
      sound_of (review (with_flags (review b) false false)) (Collecting nothing_collected)
      (review_sound (with_flags (review b) false false) ∙ review_sound b ∙ body) refl

  accepted_so : step sent (byte ack) ≡ plain (carried (idle (with_flags (review b) false false) Nothing))
  unfolding step byte_call byte_in answer_to_send yes_to_send send_word sound_phase pick
  accepted_so =
      ap (λ (r : Reply). plain r)
      (pick_yes _ _ (sound_of (review b) (send_word (review b) Change interrupt (primary_now (review b))).phase
      (review_sound b ∙ body) refl))

  accepted : (step sent (byte ack)).reply.controller ≡ rested
  accepted = ap (λ (a : Answer). a.reply.controller) accepted_so

  -- the answer to an interrupt
  accepts : Rests sent (byte ack ∷ [])
  unfolding send_word Links brings_store is_reset is_report
  accepts =
      linked _ (byte ack) [] (λ c. (refl, (refl, refl)))
      (subst (λ (k : Controller). Rests k []) (sym accepted) (nothing_more rested rested_idle rested_sound))

  pauses : Rests at (pause at)
  unfolding pause Links brings_store is_reset is_report idle_tick tick_after_review send_word is_idle_in pick
  pauses =
      let P : Controller → Type 0 = λ k. Rests k (pick (is_idle k) [] (byte ack ∷ [])) in
      linked at tick _ (λ c. (refl, (refl, refl)))
      (subst P (sym ticked)
      (pick_by (λ (t : Transition). P (carried t).controller) ((review b).changed && (review b).enable)
      (λ sends. accepts)
      (λ quiet. subst (λ (calls : List Call). Rests (stated (review b) (Collecting s)) calls)
      (sym (pick_yes [] (byte ack ∷ []) empty))
      (nothing_more (stated (review b) (Collecting s)) empty
      (sound_of (review b) (Collecting s) (review_sound b ∙ body) still)))))

  -- none of its calls is refused
  unrefused : none_refused (run at (pause at)) ≡ true
  unfolding pause run none_refused not_refused idle_tick tick_after_review send_word is_idle_in pick
  unrefused =
      let P : Answer → Type 0 = λ a. (eqb a.reply.refusal 0
      && none_refused (run a.reply.controller (pick (is_idle a.reply.controller) [] (byte ack ∷ [])))) ≡ true in
      subst P (sym ticked_so)
      (pick_by (λ (t : Transition). P (plain (carried t))) ((review b).changed && (review b).enable)
      (λ sends. ap (λ (a : Answer). eqb a.reply.refusal 0 && true) accepted_so)
      (λ quiet. ap (λ (calls : List Call). none_refused (run (stated (review b) (Collecting s)) calls))
      (pick_yes [] (byte ack ∷ []) empty)))

pub pause_unrefused : (c : Controller) (ticks : Bool) → is_idle c ≡ true → Sound c
    → none_refused (run c (pick ticks (pause c) [])) ≡ true
unfolding is_sound run none_refused
pause_unrefused c ticks is sound =
    pick_by (λ (calls : List Call). none_refused (run c calls) ≡ true) ticks
    (λ yes. let here = idles c.phase is in
    subst (λ (p : Phase). none_refused (run (stated c.body p) (pause (stated c.body p))) ≡ true) (sym here.is)
    (unrefused c.body here.string here.empty
    (both_hold (sound_body c.body) (sound_phase c.phase) sound).0))
    (λ no. refl)

pub all_rest : (c : Controller) (scripts : List Scheduled) → AllRest c (entries_of scripts)
unfolding AllRest entries_of is_sound
all_rest c [] = tt
all_rest c (scheduled ∷ scripts) = (
  λ is sound. pick_by (Rests c) scheduled.ticks
      (λ yes. let here = idles c.phase is in
      subst (λ (p : Phase). Rests (stated c.body p) (pause (stated c.body p))) (sym here.is)
      (pauses c.body here.string here.empty
      (both_hold (sound_body c.body) (sound_phase c.phase) sound).0))
      (λ no. nothing_more c is sound),
  all_rest (after_entry c (entry_of scheduled)) scripts,
)

pub all_done : (c : Controller) (scripts : List Scheduled) → is_idle c ≡ true → Sound c → AllScriptsDone c scripts
    → AllDone c (entries_of scripts)
unfolding AllDone AllRest AllScriptsDone entries_of
all_done c [] is sound all = tt
all_done c (scheduled ∷ scripts) is sound (admitted, (by, all)) =
    let (rests, others) = all_rest c (scheduled ∷ scripts) in (
      rests is sound,
      (
        record { steady = script_steady scheduled.script admitted; by = by },
        all_done (after_entry c (entry_of scheduled)) scripts by.completes.ends by.sound all,
      ),
    )

-- ---- the theorem

transactions_of : List Script → List Transaction
transactions_of [] = []
transactions_of (script ∷ scripts) = transaction_of script ∷ transactions_of scripts

own_transactions_lem : (d : ℕ) (scripts : List Scheduled)
    → own_transactions d (entries_of scripts) ≡ transactions_of (own_scripts d scripts)
unfolding own_transactions entries_of own_scripts transactions_of pick
own_transactions_lem d [] = refl
own_transactions_lem d (scheduled ∷ scripts) =
    by_test (eqb (named_drive scheduled.script.store) d)
    (λ own.
    rw own (ap (λ (l : List Transaction). transaction_of scheduled.script ∷ l) (own_transactions_lem d scripts)))
    (λ other. rw other (own_transactions_lem d scripts))

pub scripts_in_any_order : (c : Controller) (scripts others : List Scheduled) → ScriptsInAnyOrder c scripts others
scripts_in_any_order c scripts others is sound all same =
    any_order c (entries_of scripts) (entries_of others) is sound (all_done c scripts is sound all) (all_rest c others)
    (λ d. own_transactions_lem d scripts ∙ ap transactions_of (same d) ∙ sym (own_transactions_lem d others))

-- only the order of the four drives is kept, where the others are done anywhere
pub scripts_among_drives : (c : Controller) (scripts others : List Scheduled) → is_idle c ≡ true → Sound c
    → AllScriptsDone c scripts
    → AllAnywhere (λ d. leb d 3) (entries_of others)
    → ((d : ℕ) → d ≤ 3 → own_scripts d scripts ≡ own_scripts d others)
    → SameInOrder c (entries_of scripts) (entries_of others)
scripts_among_drives c scripts others is sound all anywhere same =
    any_order_of_drives c (entries_of scripts) (entries_of others) is sound (all_done c scripts is sound all)
    (all_rest c others) anywhere
    (λ d low. own_transactions_lem d scripts ∙ ap transactions_of (same d low) ∙ sym (own_transactions_lem d others))

-- ---- the whole list of calls

after_both : (c : Controller) (calls more : List Call)
    → after_calls c (calls ++ more) ≡ after_calls (after_calls c calls) more
unfolding run after
after_both c [] more = refl
after_both c (call ∷ calls) more = after_both (step c call).reply.controller calls more

nothing_after : (c : Controller) → after_calls c [] ≡ c
unfolding run after
nothing_after c = refl

pub all_calls_after : (c : Controller) (entries : List Entry)
    → after_calls c (all_calls c entries) ≡ after_all c entries
unfolding all_calls after_all
all_calls_after c [] = nothing_after c
all_calls_after c (entry ∷ entries) =
    let at = begun c entry in
    after_both c (entry.before c) _
    ∙ after_both at (entry.transaction.calls at) _
    ∙ all_calls_after (after_entry c entry) entries

pub all_done_idle : (c : Controller) (entries : List Entry) → is_idle c ≡ true → AllDone c entries
    → is_idle (after_all c entries) ≡ true
unfolding AllDone after_all
all_done_idle c [] is all = is
all_done_idle c (entry ∷ entries) is (rests, (done, all)) =
    all_done_idle (after_entry c entry) entries done.by.completes.ends all
