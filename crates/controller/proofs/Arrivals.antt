-- Completed stores in any order, by the link or by hand, of bytes, with those of drive 4-7 anywhere: what a store does
-- is the same however it comes, a store that names drive 4-7 is done wherever it begins, and a list of bytes stays in
-- range.
-- Assumes nothing.
use mathlib.Core.Path.{◌≡◌, refl, sym, ap, ap₂, subst, subst₂, ◌∙◌}
use Prim.Native.Nat.{ℕ, zero, suc, ◌≤◌}
use native.Mathlib.Omega.{arith}
use mathlib.Core.Bool.{Bool, true, false, not, ◌&&◌, and-false, and_assoc, false≢true}
use mathlib.Core.List.{List, [], ◌∷◌, ◌++◌}
use lib.Dec.{leb, eqb}
use borrow.Author.Tests.{eqb-false, leb-false, le-leb}
use Rattle.common.specs.Pick.{pick}
use Rattle.common.proofs.PickLaws.{by_test, both_hold, pick_yes, pick_no, pick_by}
use Rattle.status.specs.Drives.{drive_of, any_differs, copy_reports, fresh_drives}
use Rattle.status.specs.Words.{no_outcome}
use Rattle.operations.specs.declared.store.Store.{Store}
use Rattle.operations.specs.Store.{asks_interrupt, names_drive, named_drive, names_unknown}
use Rattle.operations.specs.After.{with_code}
use Rattle.link.specs.declared.state.Phase.{Phase}
use Rattle.link.specs.declared.state.Phase.TheVariants.{Collecting, AckOffered, Sending, GoOffered, DataAwaited}
use Rattle.link.specs.declared.state.Phase.TheVariants.{ResultAwaited, EndOffered}
use Rattle.link.specs.declared.state.Body.{Body}
use Rattle.link.specs.State.{Transition}
use Rattle.link.specs.State.{with_outcome, review, start_body, idle}
use Rattle.link.specs.Completion.{send_word, send_interrupt, complete}
use Rattle.link.specs.Link.{yes_to_send, answer_to_send}
use Rattle.link.specs.Damaged.{sound_drive, sound_drives, sound_body, sound_part, sound_phase, is_sound}
use Rattle.controller.specs.declared.controller.Controller.{Controller}
use Rattle.controller.specs.Controller.{fresh, is_idle_in, is_idle, carried}
use Rattle.controller.specs.Stores.{hand_back, settle, end_with, clear_outcome, carry_out}
use Rattle.controller.specs.Records.{Answer}
use Rattle.controller.specs.Machine.{byte_in, byte_call, Call, Exchange, step, run}
use Rattle.controller.specs.Machine.Call.{tick, hand}
use Rattle.controller.specs.Lists.{not_refused, brings_store, store_brought, carries_out, after}
use Rattle.controller.specs.Separation.{is_reset, resets, admits, admitted_from, EndsAlike}
use Rattle.controller.specs.JobOrder.{stores_from, first_of, is_report, reports_fixed, Completes}
use Rattle.controller.specs.AnyOrder.{is_own, all_own, after_calls, Sound, DoneBy, Done, begun}
use Rattle.controller.specs.AnyOrder.{after_all, AllDone, AllRest, all_calls}
use Rattle.controller.specs.Scripts.{Script, answer_in, play, script_calls, transaction_of, none_refused, pause}
use Rattle.controller.specs.Scripts.{Admitted, entries_of, AllScriptsDone, own_scripts}
use Rattle.controller.specs.InRange.{InRange, BytesIn, AllBytesIn}
use Rattle.controller.specs.Arrivals.{Arrival, link_calls, arrival_calls, arrival_of, arrivals_of, scripts_of}
use Rattle.controller.specs.Arrivals.{AllAdmitted, ScriptOfBytes, AllOfBytes, AllCompleted}
use Rattle.controller.proofs.AnyOrder.{by_own_drive, AllAnywhere}
use Rattle.controller.proofs.ScriptsGoAlike.{script_steady}
use Rattle.controller.proofs.SixAnswers.{six_suffice}
use Rattle.controller.proofs.RefusedCalls.{steps_refused_unchanged}
use Rattle.controller.proofs.TicksRest.{all_rest, pause_unrefused, scripts_among_drives, all_done_idle}
use Rattle.controller.proofs.ByLink.{Goes, goes_same, link_as_hand, link_ends, hand_told}
use Rattle.controller.proofs.StaysInRange.{in_range_sound, list_stays_in_range, fresh_in_range}

-- ---- the answers of a script

-- they may stand in a transaction, and bring no store, no report and no reset
record Quiet (c : Controller) (calls : List Call) : Type 0 where
  own : all_own calls ≡ true
  stores : stores_from c (run c calls) ≡ []
  admitted : admitted_from c (run c calls) ≡ true
  fixed : reports_fixed (run c calls) ≡ true

record Answers (c : Controller) (call : Call) : Type 0 where
  own : is_own call ≡ true
  brings : brings_store c call ≡ false
  resets_none : is_reset call ≡ false
  reports_none : is_report call ≡ false

quiet_none : (c : Controller) → Quiet c []
unfolding all_own run stores_from admitted_from reports_fixed
quiet_none c = record { own = refl; stores = refl; admitted = refl; fixed = refl }

quiet_one : (c : Controller) (call : Call) (calls : List Call) → Answers c call
    → Quiet (step c call).reply.controller calls
    → Quiet c (call ∷ calls)
unfolding all_own run stores_from admitted_from reports_fixed carries_out admits
quiet_one c call calls answers rest =
    let x : Exchange = record { call = call; answer = step c call } in
    let next = (step c call).reply.controller in
    let none : carries_out c x ≡ false = rw answers.brings (and-false (not_refused x)) in
    record {
      own = rw answers.own rest.own;
      stores = pick_no _ _ none ∙ rest.stores;
      admitted =
          ap (λ (t : Bool). t && admitted_from next (run next calls))
          (pick_no _ _ none
          ∙ ap (λ (t : Bool). not (not_refused x && t)) answers.resets_none
          ∙ ap not (and-false (not_refused x)))
          ∙ rest.admitted;
      fixed =
          ap (λ (t : Bool). not (not_refused x && t) && reports_fixed (run next calls)) answers.reports_none
          ∙ ap (λ (t : Bool). not t && reports_fixed (run next calls)) (and-false (not_refused x))
          ∙ rest.fixed;
    }

module _ (script : Script) where
  answers_by : (c : Controller) (phase : Phase) → Answers c (answer_in script phase)
  unfolding answer_in is_own brings_store is_reset is_report
  answers_by c (Collecting s) = record { own = refl; brings = refl; resets_none = refl; reports_none = refl }
  answers_by c (AckOffered s) = record { own = refl; brings = refl; resets_none = refl; reports_none = refl }
  answers_by c (Sending s) = record { own = refl; brings = refl; resets_none = refl; reports_none = refl }
  answers_by c (GoOffered store) = record { own = refl; brings = refl; resets_none = refl; reports_none = refl }
  answers_by c (DataAwaited store) = record { own = refl; brings = refl; resets_none = refl; reports_none = refl }
  answers_by c (ResultAwaited operation store) =
      record { own = refl; brings = refl; resets_none = refl; reports_none = refl }
  answers_by c (EndOffered interrupt) = record { own = refl; brings = refl; resets_none = refl; reports_none = refl }

  play_quiet : (n : ℕ) (c : Controller) → Quiet c (play n script c)
  unfolding play
  play_quiet zero c = quiet_none c
  play_quiet (suc n) c =
      pick_by (Quiet c) (is_idle c) (λ rests. quiet_none c)
      (λ busy. quiet_one c _ _ (answers_by c c.phase) (play_quiet n _))

  -- an answer that is refused is refused again, and the controller stays where it is
  stuck : (n : ℕ) (c : Controller) → is_idle c ≡ false
      → eqb (step c (answer_in script c.phase)).reply.refusal 0 ≡ false
      → is_idle (after_calls c (play n script c)) ≡ false
  unfolding play run after
  stuck zero c busy bad = busy
  stuck (suc n) c busy bad =
      let call = answer_in script c.phase in
      let same = (steps_refused_unchanged c call (eqb-false _ 0 bad)).state in
      ap (λ (l : List Call). is_idle (after_calls c l)) (pick_no _ _ busy)
      ∙ ap (λ (k : Controller). is_idle (after_calls k (play n script k))) same
      ∙ stuck n c busy bad

  play_unrefused : (n : ℕ) (c : Controller) → is_idle (after_calls c (play n script c)) ≡ true
      → none_refused (run c (play n script c)) ≡ true
  unfolding play run after none_refused not_refused
  play_unrefused zero c ends = refl
  play_unrefused (suc n) c ends =
      let call = answer_in script c.phase in
      let next = (step c call).reply.controller in
      by_test (is_idle c) (λ rests. ap (λ (l : List Call). none_refused (run c l)) (pick_yes _ _ rests))
      (λ busy.
      let goes_on : is_idle (after_calls next (play n script next)) ≡ true =
      sym (ap (λ (l : List Call). is_idle (after_calls c l)) (pick_no _ _ busy)) ∙ ends in
      ap (λ (l : List Call). none_refused (run c l)) (pick_no _ _ busy)
      ∙ by_test (eqb (step c call).reply.refusal 0)
      (λ good. ap (λ (t : Bool). t && none_refused (run next (play n script next))) good
      ∙ play_unrefused n next goes_on)
      (λ bad. absurd (false≢true (sym (stuck (suc n) c busy bad) ∙ ends))))

-- ---- a store that is handed over, with its answers

module _ (c : Controller) (script : Script) (admitted : Admitted script) (rests : is_idle c ≡ true)
    (sound : Sound c) where
  abbrev store : Store
  store = script.store

  abbrev told : List Call → Answer → List Exchange
  told calls a = record { call = hand store; answer = a } ∷ run a.reply.controller calls

  -- it is carried out
  hand_stores : (calls : List Call) → Quiet (step c (hand store)).reply.controller calls
      → stores_from c (run c (hand store ∷ calls)) ≡ store ∷ []
  unfolding run stores_from carries_out not_refused brings_store store_brought pick
  hand_stores calls quiet =
      let is = hand_told c store 0 rests sound in
      ap (λ (a : Answer). stores_from c (told calls a)) is
      ∙ ap (λ (l : List Store). store ∷ l)
      (sym (ap (λ (a : Answer). stores_from a.reply.controller (run a.reply.controller calls)) is)
      ∙ quiet.stores)

  named : (names_drive store && not (resets store)) ≡ true
  named = rw (admitted.names, admitted.keeps)

  hand_admitted : (calls : List Call) → Quiet (step c (hand store)).reply.controller calls
      → admitted_from c (run c (hand store ∷ calls)) ≡ true
  unfolding run admitted_from admits carries_out not_refused brings_store store_brought pick
  hand_admitted calls quiet =
      let is = hand_told c store 0 rests sound in
      let next = (carried (carry_out c.body store)).controller in
      ap (λ (a : Answer). admitted_from c (told calls a)) is
      ∙ ap (λ (t : Bool). t && admitted_from next (run next calls)) named
      ∙ sym (ap (λ (a : Answer). admitted_from a.reply.controller (run a.reply.controller calls)) is)
      ∙ quiet.admitted

  hand_fixed : (calls : List Call) → Quiet (step c (hand store)).reply.controller calls
      → reports_fixed (run c (hand store ∷ calls)) ≡ true
  unfolding run reports_fixed not_refused is_report
  hand_fixed calls quiet =
      let is = hand_told c store 0 rests sound in
      ap (λ (a : Answer). reports_fixed (told calls a)) is
      ∙ sym (ap (λ (a : Answer). reports_fixed (run a.reply.controller calls)) is)
      ∙ quiet.fixed

  -- its handing is not refused
  hand_unrefused : (calls : List Call)
      → none_refused (run c (hand store ∷ calls))
      ≡ none_refused (run (step c (hand store)).reply.controller calls)
  unfolding run none_refused not_refused
  hand_unrefused calls =
      let is = hand_told c store 0 rests sound in
      ap (λ (a : Answer). none_refused (told calls a)) is
      ∙ sym (ap (λ (a : Answer). none_refused (run a.reply.controller calls)) is)

  -- where none of its answers is refused either, it ends idle
  unrefused_idle : none_refused (run c (script_calls script c)) ≡ true
      → is_idle (after_calls c (script_calls script c)) ≡ true
  unrefused_idle = six_suffice c script

  -- and where it ends idle, none is refused
  idle_unrefused : is_idle (after_calls c (script_calls script c)) ≡ true
      → none_refused (run c (script_calls script c)) ≡ true
  unfolding run after
  idle_unrefused ends =
      let next = (step c (hand store)).reply.controller in
      hand_unrefused (play 6 script next) ∙ play_unrefused script 6 next ends

  -- one that ends idle and undamaged is done
  script_done : is_idle (after_calls c (script_calls script c)) ≡ true → Sound (after_calls c (script_calls script c))
      → DoneBy c (named_drive store) (script_calls script c)
  unfolding all_own is_own first_of
  script_done ends fine =
      let quiet = play_quiet script 6 (step c (hand store)).reply.controller in
      let only = hand_stores _ quiet in
      record {
        own = quiet.own;
        completes =
            record {
              one = only ∙ ap (λ (l : List Store). first_of l ∷ []) (sym only);
              admitted = hand_admitted _ quiet;
              fixed = hand_fixed _ quiet;
              ends = ends;
            };
        names = ap (λ (l : List Store). named_drive (first_of l)) only;
        sound = fine;
      }

-- ---- however it comes

-- what is told of its calls is what is told of those of its script
comes_alike : (c : Controller) (arrival : Arrival) → is_idle c ≡ true → Sound c
    → Goes c c (arrival_calls arrival c) (script_calls arrival.script c)
unfolding run after
comes_alike c arrival rests sound =
    let script = arrival.script in
    let store = script.store in
    pick_by (λ (l : List Call). Goes c c (l ++ play 6 script (after_calls c l)) (script_calls script c)) arrival.by_link
    (λ linked. subst (λ (k : Controller). Goes c c (link_calls store arrival.unused ++ play 6 script k)
    (script_calls script c)) (sym (link_ends c store arrival.unused rests sound))
    (link_as_hand c store arrival.unused rests sound _))
    (λ handed. goes_same c _)

completes_too : (c o : Controller) (calls more : List Call) → Goes c o calls more → Completes o (run o more)
    → Completes c (run c calls)
completes_too c o calls more goes completes =
    record {
      one = goes.stores ∙ completes.one ∙ ap (λ (l : List Store). first_of l ∷ []) (sym goes.stores);
      admitted = goes.admitted ∙ completes.admitted;
      fixed = goes.fixed ∙ completes.fixed;
      ends = ap (λ (k : Controller). is_idle k) goes.ends ∙ completes.ends;
    }

-- ---- calls of bytes

unfoldable CallsOfBytes : List Call → Type 0
CallsOfBytes [] = Unit
CallsOfBytes (call ∷ calls) = BytesIn call × CallsOfBytes calls

exchanges_of_bytes : (c : Controller) (calls : List Call) → CallsOfBytes calls → AllBytesIn (run c calls)
unfolding run CallsOfBytes AllBytesIn
exchanges_of_bytes c [] bytes = tt
exchanges_of_bytes c (call ∷ calls) (first, others) =
    (first, exchanges_of_bytes (step c call).reply.controller calls others)

stays : (c : Controller) (calls : List Call) → CallsOfBytes calls → InRange c → InRange (after_calls c calls)
stays c calls bytes fine = (list_stays_in_range c calls fine (exchanges_of_bytes c calls bytes)).ends

pause_of_bytes : (c : Controller) (ticks : Bool) → CallsOfBytes (pick ticks (pause c) [])
unfolding pause CallsOfBytes BytesIn
pause_of_bytes c ticks =
    pick_by CallsOfBytes ticks
    (λ yes. (
      tt,
      pick_by CallsOfBytes (is_idle (step c tick).reply.controller) (λ quiet. tt) (λ sends. (omega arith, tt)),
    ))
    (λ no. tt)

module _ (script : Script) (bytes : ScriptOfBytes script) where
  answer_of_bytes : (phase : Phase) → BytesIn (answer_in script phase)
  unfolding answer_in BytesIn
  answer_of_bytes (Collecting s) = tt
  answer_of_bytes (AckOffered s) = tt
  answer_of_bytes (Sending s) = omega arith
  answer_of_bytes (GoOffered store) = bytes.go
  answer_of_bytes (DataAwaited store) = bytes.host
  answer_of_bytes (ResultAwaited operation store) = bytes.result
  answer_of_bytes (EndOffered interrupt) = omega arith

  play_of_bytes : (n : ℕ) (c : Controller) → CallsOfBytes (play n script c)
  unfolding play CallsOfBytes
  play_of_bytes zero c = tt
  play_of_bytes (suc n) c =
      pick_by CallsOfBytes (is_idle c) (λ rests. tt) (λ busy. (answer_of_bytes c.phase, play_of_bytes n _))

  script_of_bytes : (c : Controller) → CallsOfBytes (script_calls script c)
  unfolding CallsOfBytes BytesIn
  script_of_bytes c = (bytes.store, play_of_bytes 6 _)

-- ---- drives 4-7

-- "a named drive above 3 is code 01": a store for one of them, from a fresh controller, ends idle and undamaged
module _ (script : Script) where
  abbrev coded : Body
  coded = with_outcome (clear_outcome fresh.body) (with_code (clear_outcome fresh.body).outcome 1)

  abbrev ended : Bool → Controller
  ended asked = (carried (hand_back (complete coded asked) coded.outcome.result)).controller

  ended_rests : (asked : Bool) → (is_idle (after_calls (ended asked) (play 6 script (ended asked))) ≡ true)
      × Sound (after_calls (ended asked) (play 6 script (ended asked)))
  unfolding play run after answer_in step byte_call byte_in answer_to_send yes_to_send complete send_interrupt send_word
      idle review clear_outcome no_outcome fresh start_body fresh_drives any_differs copy_reports is_idle_in is_sound
      sound_body sound_drives sound_drive sound_phase sound_part pick
  ended_rests true = (refl, refl)
  ended_rests false = (refl, refl)

fresh_idle : is_idle fresh ≡ true
unfolding fresh is_idle_in
fresh_idle = refl

fresh_sound : Sound fresh
fresh_sound = in_range_sound fresh fresh_in_range

unknown_ends : (script : Script) → names_unknown script.store ≡ true
    → (step fresh (hand script.store)).reply.controller ≡ ended script (asks_interrupt script.store)
unfolding carry_out end_with settle
unknown_ends script unknown =
    ap (λ (a : Answer). a.reply.controller) (hand_told fresh script.store 0 fresh_idle fresh_sound)
    ∙ ap (λ (t : Transition). (carried t).controller) (pick_yes _ _ unknown)

pub unknown_done : (script : Script) → Admitted script → leb (named_drive script.store) 3 ≡ false
    → (o : Controller) → is_idle o ≡ true → Sound o → Done o (transaction_of script)
unfolding names_unknown run after
unknown_done script admitted high o rests sound =
    let store = script.store in
    let above = leb-false (named_drive store) 3 high in
    let four : leb 4 (named_drive store) ≡ true = le-leb 4 (named_drive store) (omega arith) in
    let ends = unknown_ends script (rw (admitted.names, four)) in
    let (ends_idle, ends_sound) = ended_rests script (asks_interrupt store) in
    let P : Controller → Type 0 = λ k. (is_idle (after_calls k (play 6 script k)) ≡ true)
    × Sound (after_calls k (play 6 script k)) in
    let (here_idle, here_sound) = subst P (sym ends) (ends_idle, ends_sound) in
    (by_own_drive fresh o (transaction_of script)
    (record {
      idle = fresh_idle;
      idle_too = rests;
      sound = fresh_sound;
      sound_too = sound;
      same = λ low. absurd (omega arith);
    })
    (record {
      steady = script_steady script admitted;
      by = script_done fresh script admitted fresh_idle fresh_sound here_idle here_sound;
    })).0

all_anywhere : (others : List Arrival) → AllAdmitted others
    → AllAnywhere (λ d. leb d 3) (entries_of (scripts_of others))
unfolding AllAnywhere AllAdmitted entries_of scripts_of
all_anywhere [] admitted = tt
all_anywhere (arrival ∷ more) (first, others) =
    (λ high. unknown_done arrival.script first high, all_anywhere more others)

-- ---- the lists

-- of two lists one after the other
none_of_both : (c : Controller) (calls more : List Call)
    → none_refused (run c (calls ++ more))
    ≡ (none_refused (run c calls) && none_refused (run (after_calls c calls) more))
unfolding run after none_refused
none_of_both c [] more = refl
none_of_both c (call ∷ calls) more =
    let next = (step c call).reply.controller in
    let x : Exchange = record { call = call; answer = step c call } in
    ap (λ (t : Bool). not_refused x && t) (none_of_both next calls more)
    ∙ sym (and_assoc (not_refused x) (none_refused (run next calls)) (none_refused (run (after_calls next calls) more)))

both_none : (c : Controller) (calls more : List Call) → none_refused (run c (calls ++ more)) ≡ true
    → (none_refused (run c calls) ≡ true) × (none_refused (run (after_calls c calls) more) ≡ true)
both_none c calls more none =
    both_hold (none_refused (run c calls)) (none_refused (run (after_calls c calls) more))
    (sym (none_of_both c calls more) ∙ none)

record Scripted (c : Controller) (arrivals : List Arrival) : Type 0 where
  done : AllScriptsDone c (scripts_of arrivals)
  same : after_all c (arrivals_of arrivals) ≡ after_all c (entries_of (scripts_of arrivals))

scripted : (c : Controller) (arrivals : List Arrival) → is_idle c ≡ true → InRange c → AllAdmitted arrivals
    → AllOfBytes arrivals
    → none_refused (run c (all_calls c (arrivals_of arrivals))) ≡ true
    → Scripted c arrivals
unfolding AllAdmitted AllOfBytes AllScriptsDone AllRest arrivals_of scripts_of entries_of after_all all_calls
scripted c [] rests fine admitted bytes none = record { done = tt; same = refl }
scripted c (arrival ∷ more) rests fine (names, admitted) (low, bytes) none =
    let script = arrival.script in
    let at = begun c (arrival_of arrival) in
    let before = (all_rest c (scripts_of (arrival ∷ more))).0 rests (in_range_sound c fine) in
    let fine_at : InRange at = stays c _ (pause_of_bytes c arrival.ticks) fine in
    let goes = comes_alike at arrival before.idle before.sound in
    let alike = goes.ends in
    let next = after_calls at (script_calls script at) in
    let fine_next : InRange next = stays at _ (script_of_bytes script low at) fine_at in
    let left = all_calls (after_calls at (arrival_calls arrival at)) (arrivals_of more) in
    let behind = (both_none c (pick arrival.ticks (pause c) []) (arrival_calls arrival at ++ left) none).1 in
    let (none_here, others) = both_none at (arrival_calls arrival at) left behind in
    let ends_next = unrefused_idle at script names before.idle before.sound (sym goes.unrefused ∙ none_here) in
    let rest = scripted next more ends_next fine_next admitted bytes
    (subst (λ (k : Controller). none_refused (run k (all_calls k (arrivals_of more))) ≡ true) alike others) in
    record {
      done = (
        names,
        (
          script_done at script names before.idle before.sound ends_next (in_range_sound next fine_next),
          rest.done,
        ),
      );
      same = ap (λ (k : Controller). after_all k (arrivals_of more)) alike ∙ rest.same;
    }

pub record Arrives (c : Controller) (others : List Arrival) : Type 0 where
  pub unrefused : none_refused (run c (all_calls c (arrivals_of others))) ≡ true
  pub completed : AllCompleted c others
  pub same : after_all c (arrivals_of others) ≡ after_all c (entries_of (scripts_of others))

pub arrives : (c : Controller) (others : List Arrival) → is_idle c ≡ true → Sound c → AllAdmitted others
    → AllDone c (entries_of (scripts_of others))
    → Arrives c others
unfolding AllDone AllAdmitted AllCompleted arrivals_of scripts_of entries_of after_all all_calls run none_refused
arrives c [] rests sound admitted done = record { unrefused = refl; completed = tt; same = refl }
arrives c (arrival ∷ more) rests sound (names, admitted) (before, (done, others)) =
    let script = arrival.script in
    let at = begun c (arrival_of arrival) in
    let goes = comes_alike at arrival before.idle before.sound in
    let next = after_calls at (script_calls script at) in
    let rest = arrives next more done.by.completes.ends done.by.sound admitted others in
    let none = goes.unrefused
    ∙ idle_unrefused at script names before.idle before.sound done.by.completes.ends in
    let rest_none = subst (λ (k : Controller). none_refused (run k (all_calls k (arrivals_of more))) ≡ true)
    (sym goes.ends) rest.unrefused in
    record {
      unrefused =
          none_of_both c (pick arrival.ticks (pause c) []) _
          ∙ ap₂ (λ (s t : Bool). s && t) (pause_unrefused c arrival.ticks rests sound)
          (none_of_both at (arrival_calls arrival at) _ ∙ ap₂ (λ (s t : Bool). s && t) none rest_none);
      completed = (
        completes_too at at _ _ goes done.by.completes,
        subst (λ (k : Controller). AllCompleted k more) (sym goes.ends) rest.completed,
      );
      same = ap (λ (k : Controller). after_all k (arrivals_of more)) goes.ends ∙ rest.same;
    }

-- ---- the theorem

pub record InAnyOrder (c : Controller) (arrivals others : List Arrival) : Type 0 where
  pub unrefused : none_refused (run c (all_calls c (arrivals_of others))) ≡ true
  pub completed : AllCompleted c others
  pub idle : is_idle (after_all c (arrivals_of others)) ≡ true
  pub ends : (d : ℕ) → d ≤ 3
      → EndsAlike (drive_of (after_all c (arrivals_of arrivals)).body.drives d)
      (drive_of (after_all c (arrivals_of others)).body.drives d)

pub arrivals_in_any_order : (c : Controller) (arrivals others : List Arrival) → is_idle c ≡ true → InRange c
    → AllAdmitted arrivals
    → AllAdmitted others
    → AllOfBytes arrivals
    → none_refused (run c (all_calls c (arrivals_of arrivals))) ≡ true
    → ((d : ℕ) → d ≤ 3 → own_scripts d (scripts_of arrivals) ≡ own_scripts d (scripts_of others))
    → InAnyOrder c arrivals others
arrivals_in_any_order c arrivals others rests fine admitted admitted_too bytes none same =
    let here = scripted c arrivals rests fine admitted bytes none in
    let both = scripts_among_drives c (scripts_of arrivals) (scripts_of others) rests (in_range_sound c fine) here.done
    (all_anywhere others admitted_too) same in
    let there = arrives c others rests (in_range_sound c fine) admitted_too both.done in
    record {
      unrefused = there.unrefused;
      completed = there.completed;
      idle =
          subst (λ (k : Controller). is_idle k ≡ true) (sym there.same)
          (all_done_idle c (entries_of (scripts_of others)) rests both.done);
      ends =
          λ d low.
          subst₂ (λ (k l : Controller). EndsAlike (drive_of k.body.drives d) (drive_of l.body.drives d))
          (sym here.same) (sym there.same)
          (both.ends d low);
    }
