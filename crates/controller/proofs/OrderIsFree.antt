-- Job order among drives, over the definitions: what a completed store does to its drive is a function of that drive
-- and of the store alone, and it does nothing to another. So the four drives end as their own stores, in their own
-- order, leave them.
-- Assumes nothing.
use mathlib.Core.Path.{◌≡◌, refl, sym, ap, ap₂, subst, ◌∙◌}
use Prim.Native.Nat.{ℕ, ◌≤◌}
use mathlib.Core.Bool.{Bool, true, false, not, ◌&&◌, false≢true, and-false}
use mathlib.Core.List.{List, [], ◌∷◌, ◌++◌}
use lib.Dec.{eqb}
use borrow.Author.Tests.{eqb-true}
use Rattle.common.specs.Pick.{pick}
use Rattle.common.proofs.PickLaws.{by_test, both_hold, pick_yes, pick_no, pick_both}
use Rattle.status.specs.declared.drives.Drive.{Drive}
use Rattle.operations.specs.declared.store.Store.{Store}
use Rattle.operations.specs.Store.{names_drive, named_drive}
use Rattle.link.specs.declared.state.Phase.{Phase}
use Rattle.link.proofs.PhaseLaws.{each_phase}
use Rattle.controller.specs.declared.controller.Controller.{Controller}
use Rattle.controller.specs.Controller.{is_idle_in, is_idle}
use Rattle.controller.specs.Machine.{Call, Exchange, run}
use Rattle.controller.specs.Machine.Call.{byte, taken, broken, report, host_data, result, tick, reset, hand}
use Rattle.controller.specs.Lists.{not_refused, holds_store, store_brought, carries_out, last_store, no_store, after}
use Rattle.controller.specs.Separation.{Event, is_of, awaits_go, event_of, events_of, history_from}
use Rattle.controller.specs.Separation.Event.{report_came, store_came, go_answered, data_came, result_came}
use Rattle.controller.specs.JobOrder.{stores_from, first_of, is_report, reports_fixed, Completes, CompletedStore}
use Rattle.controller.specs.JobOrder.{without_length, without_lengths, completed_by, all_of, AllComplete}
use Rattle.controller.specs.JobOrder.{completed_stores, own_stores, SameOwnOrder, OrderIsFree}
use Rattle.controller.proofs.Steps.Resting.{Free, seen}
use Rattle.controller.proofs.DrivesAreSeparate.OneDrive.{View, resting, told, told_all}
use Rattle.controller.proofs.DrivesAreSeparate.Views.{free_held, free_view}
use Rattle.controller.proofs.DrivesAreSeparate.{determined, seen_alike}

-- ---- an idle state

pub idle_free : (phase : Phase) → is_idle_in phase ≡ true → Free phase
unfolding is_idle_in Free
idle_free =
    each_phase (λ (phase : Phase). is_idle_in phase ≡ true → Free phase) (λ s idle. tt) (λ s idle. tt) (λ send idle. tt)
    (λ store idle. absurd (false≢true idle)) (λ store idle. absurd (false≢true idle))
    (λ operation store idle. absurd (false≢true idle)) (λ interrupt idle. tt)

-- ---- the space that is lent

told_without : (v : View) (event : Event) → told v (without_length event) ≡ told v event
unfolding told without_length
told_without v (report_came r) = refl
told_without v (store_came operation first second third fourth) = refl
told_without v (go_answered answer) = refl
told_without v (data_came host) = refl
told_without v (result_came r length) = refl

told_all_without : (v : View) (events : List Event) → told_all v (without_lengths events) ≡ told_all v events
unfolding told_all without_lengths
told_all_without v [] = refl
told_all_without v (event ∷ events) =
    ap (λ (w : View). told_all w (without_lengths events)) (told_without v event)
    ∙ told_all_without (told v event) events

-- ---- another drive

module _ (d : ℕ) where
  -- no store of these is the drive's
  unfoldable pub NoneOf : List Store → Type 0
  NoneOf [] = Unit
  NoneOf (store ∷ stores) = (is_of d store ≡ false) × NoneOf stores

  -- a call that belongs to another drive's store, and is no report, is no event of the drive
  no_event : (store : Store) (c : Controller) (call : Call) → is_of d store ≡ false → is_report call ≡ false
      → event_of d store c call ≡ []
  unfolding event_of is_report
  no_event store c (report drive r) other plain = absurd (false≢true (sym plain))
  no_event store c taken other plain =
      pick_no _ [] (ap (λ (t : Bool). holds_store c && t) other ∙ and-false (holds_store c))
  no_event store c (byte b) other plain =
      pick_no _ [] (ap (λ (t : Bool). awaits_go c.phase && t) other ∙ and-false (awaits_go c.phase))
  no_event store c broken other plain =
      pick_no _ [] (ap (λ (t : Bool). awaits_go c.phase && t) other ∙ and-false (awaits_go c.phase))
  no_event store c (host_data host space check) other plain = pick_no _ [] other
  no_event store c (result r space check) other plain = pick_no _ [] other
  no_event store c (hand given) other plain = pick_no _ [] other
  no_event store c tick other plain = refl
  no_event store c reset other plain = refl

  no_events : (store : Store) (c : Controller) (x : Exchange) → is_of d store ≡ false
      → not (not_refused x && is_report x.call) ≡ true → events_of d store c x ≡ []
  unfolding events_of
  no_events store c x other fixed =
      by_test (is_report x.call)
      (λ report. pick_no _ []
      (by_test (not_refused x)
      (λ done. absurd (false≢true (ap₂ (λ (s t : Bool). not (s && t)) (sym done) (sym report) ∙ fixed)))
      (λ refused. refused)))
      (λ plain. ap (λ (l : List Event). pick (not_refused x) l []) (no_event store c x.call other plain)
      ∙ pick_both (not_refused x) [])

  -- a list without reports, and without a store of the drive, is not in its history
  pub no_history :
      (xs : List Exchange) (last : Store) (c : Controller)
      → is_of d last ≡ false
      → NoneOf (stores_from c xs)
      → reports_fixed xs ≡ true
      → history_from d last c xs ≡ []
  unfolding NoneOf history_from stores_from reports_fixed last_store
  no_history [] last c other none fixed = refl
  no_history (x ∷ xs) last c other none fixed =
      let next = x.answer.reply.controller in
      let (first, others) = both_hold (not (not_refused x && is_report x.call)) (reports_fixed xs) fixed in
      let at : (later : Store) → is_of d later ≡ false → NoneOf (stores_from next xs)
      → events_of d later c x ++ history_from d later next xs ≡ [] =
      λ later foreign rest. ap₂ (λ (l m : List Event). l ++ m) (no_events later c x foreign first)
      (no_history xs later next foreign rest others)
      in
      by_test (carries_out c x)
      (λ yes. let (brought, rest) = subst NoneOf (pick_yes _ _ yes) none in
      subst (λ (later : Store). events_of d later c x ++ history_from d later next xs ≡ []) (sym (pick_yes _ _ yes))
      (at (store_brought c x.call) brought rest))
      (λ no. subst (λ (later : Store). events_of d later c x ++ history_from d later next xs ≡ [])
      (sym (pick_no _ _ no))
      (at last other (subst NoneOf (pick_no _ _ no) none)))

-- ---- a completed store

-- before the first store nothing is any drive's
pub none_names : (d : ℕ) → is_of d no_store ≡ false
unfolding is_of names_drive
none_names d = refl

after_append : (c : Controller) (xs ys : List Exchange) → after c (xs ++ ys) ≡ after (after c xs) ys
unfolding after
after_append c [] ys = refl
after_append c (x ∷ xs) ys = after_append x.answer.reply.controller xs ys

-- a drive after one store with these events
abbrev ended_by : Drive → List Event → Drive
ended_by drive events = (told_all (resting drive) events).drive

module _ (d : ℕ) (low : d ≤ 3) where
  module _ (c : Controller) (calls : List Call) (idle : is_idle c ≡ true) (completes : Completes c (run c calls)) where
    -- by its history
    ended : seen d (after c (run c calls)).body ≡ ended_by (seen d c.body) (history_from d no_store c (run c calls))
    ended =
        let free = idle_free c.phase idle in
        (determined d low calls no_store c (free_held no_store c.body.selected c.phase free)
        completes.admitted).drive
        ∙ ap (λ (v : View). (told_all v (history_from d no_store c (run c calls))).drive) (free_view d no_store c free)

    -- its own store
    own_ended : eqb (named_drive (first_of (stores_from c (run c calls)))) d ≡ true
        → seen d (after c (run c calls)).body ≡ ended_by (seen d c.body) (completed_by c (run c calls)).events
    unfolding completed_by
    own_ended own =
        ended
        ∙ ap (λ (e : ℕ). ended_by (seen d c.body) (history_from e no_store c (run c calls))) (sym (eqb-true _ d own))
        ∙ sym (ap (λ (v : View). v.drive) (told_all_without (resting (seen d c.body)) _))

    -- a store of another
    pub other_ended : eqb (named_drive (first_of (stores_from c (run c calls)))) d ≡ false
        → seen d (after c (run c calls)).body ≡ seen d c.body
    unfolding NoneOf is_of told_all
    other_ended other =
        let store = first_of (stores_from c (run c calls)) in
        let none : NoneOf d (store ∷ []) =
        (ap (λ (t : Bool). names_drive store && t) other ∙ and-false (names_drive store), tt) in
        ended
        ∙ ap (ended_by (seen d c.body))
        (no_history d (run c calls) no_store c (none_names d) (subst (NoneOf d) (sym completes.one) none)
        completes.fixed)

-- ---- a list of them

-- the runs of lists of calls, one after the other
unfoldable pub runs : Controller → List (List Call) → List (List Exchange)
runs c [] = []
runs c (calls ∷ others) = run c calls ∷ runs (after c (run c calls)) others

-- a drive after its own stores
all_ended_by : Drive → List CompletedStore → Drive
all_ended_by drive [] = drive
all_ended_by drive (store ∷ stores) = all_ended_by (ended_by drive store.events) stores

all_ended :
    (d : ℕ)
    → d ≤ 3
    → (c : Controller) (stores : List (List Call))
    → is_idle c ≡ true
    → AllComplete c (runs c stores)
    → seen d (after c (all_of (runs c stores))).body
    ≡ all_ended_by (seen d c.body) (own_stores d (completed_stores c (runs c stores)))
unfolding runs AllComplete completed_stores own_stores all_of after all_ended_by completed_by
all_ended d low c [] idle complete = refl
all_ended d low c (calls ∷ others) idle (completes, rest) =
    let xs = run c calls in
    let next = after c xs in
    let more = runs next others in
    let stores = own_stores d (completed_stores next more) in
    let whole : seen d (after c (xs ++ all_of more)).body ≡ all_ended_by (seen d next.body) stores =
    ap (λ (k : Controller). seen d k.body) (after_append c xs (all_of more))
    ∙ all_ended d low next others completes.ends rest
    in
    by_test (eqb (named_drive (first_of (stores_from c xs))) d)
    (λ own. whole ∙ ap (λ (drive : Drive). all_ended_by drive stores) (own_ended d low c calls idle completes own)
    ∙ sym (ap (all_ended_by (seen d c.body)) (pick_yes _ _ own)))
    (λ other. whole ∙ ap (λ (drive : Drive). all_ended_by drive stores) (other_ended d low c calls idle completes other)
    ∙ sym (ap (all_ended_by (seen d c.body)) (pick_no _ _ other)))

-- ---- the theorem

pub order_is_free : (c : Controller) (stores others : List (List Call)) → OrderIsFree c (runs c stores) (runs c others)
order_is_free c stores others idle one two same d low =
    seen_alike _ _
    (all_ended d low c stores idle one ∙ ap (all_ended_by (seen d c.body)) (same d low)
    ∙ sym (all_ended d low c others idle two))

-- ---- the condition can be met

-- two neighbours that name different drives may change places
pub neighbours_change_places :
    (before : List CompletedStore) (one other : CompletedStore) (behind : List CompletedStore)
    → (one.drive ≡ other.drive → ⊥)
    → SameOwnOrder (before ++ (one ∷ other ∷ behind)) (before ++ (other ∷ one ∷ behind))
unfolding own_stores pick
neighbours_change_places [] one other behind unlike d low =
    by_test (eqb one.drive d)
    (λ mine. by_test (eqb other.drive d)
    (λ its. absurd (unlike (eqb-true _ d mine ∙ sym (eqb-true _ d its))))
    (λ foreign. rw (mine, foreign)))
    (λ foreign. by_test (eqb other.drive d) (λ its. rw (foreign, its)) (λ neither. rw (foreign, neither)))
neighbours_change_places (store ∷ before) one other behind unlike d low =
    ap (λ (l : List CompletedStore). pick (eqb store.drive d) (store ∷ l) l)
    (neighbours_change_places before one other behind unlike d low)
