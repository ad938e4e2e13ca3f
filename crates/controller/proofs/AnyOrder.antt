-- Transactions in any order that keeps each drive's own: whether a transaction is done, and what it does to its drive,
-- depends on that drive alone, and it does nothing to another. So each is done in the other order too, and the drives
-- end alike.
-- Assumes nothing.
use mathlib.Core.Path.{◌≡◌, refl, sym, ap, subst, ◌∙◌}
use Prim.Native.Nat.{ℕ, ◌≤◌}
use mathlib.Core.Bool.{Bool, true, false, not, ◌&&◌, false≢true}
use mathlib.Core.List.{List, [], ◌∷◌}
use lib.Dec.{leb, eqb}
use borrow.Author.Tests.{eqb-true, eq-eqb, ne_eqb, leb-true, le-leb, not-true}
use Rattle.common.specs.Pick.{pick}
use Rattle.common.proofs.PickLaws.{by_test, both_hold, pick_yes, pick_no}
use Rattle.status.specs.declared.drives.Drive.{Drive}
use Rattle.status.specs.Drives.{drive_of, copy_report, fresh_with}
use Rattle.status.proofs.DriveLaws.{by_four}
use Rattle.operations.specs.declared.store.Store.{Store}
use Rattle.operations.specs.Store.{names_drive, named_drive}
use Rattle.link.specs.declared.state.Collected.{Collected}
use Rattle.link.specs.declared.state.Phase.{Phase}
use Rattle.link.specs.declared.state.Phase.TheVariants.{Collecting, AckOffered, Sending, GoOffered, DataAwaited}
use Rattle.link.specs.declared.state.Phase.TheVariants.{ResultAwaited, EndOffered}
use Rattle.link.specs.declared.state.Body.{Body}
use Rattle.link.specs.Damaged.{sound_drive, sound_drives, sound_body, sound_phase, is_sound}
use Rattle.controller.specs.declared.controller.Controller.{Controller}
use Rattle.controller.specs.Controller.{is_idle_in, is_idle}
use Rattle.controller.specs.Machine.{Call, Exchange, run}
use Rattle.controller.specs.Lists.{carries_out, no_store}
use Rattle.controller.specs.Separation.{Event, history_from, resets, admits, admitted_from}
use Rattle.controller.specs.JobOrder.{stores_from, first_of}
use Rattle.controller.specs.AnyOrder.{Transaction, after_calls, after_transaction, Sound, DoneBy, Done, Rests}
use Rattle.controller.specs.AnyOrder.{Entry, begun, after_entry, AllDone, AllRest, after_all, own_transactions}
use Rattle.controller.specs.AnyOrder.{AnyOrder, SameDrive, ByOwnDrive, SameInOrder}
use Rattle.controller.proofs.Steps.Resting.{seen}
use Rattle.controller.proofs.DrivesAreSeparate.{determined, seen_alike}
use Rattle.controller.proofs.DrivesAreSeparate.OneDrive.{View, resting, told_all}
use Rattle.controller.proofs.DrivesAreSeparate.Views.{free_held, free_view}
use Rattle.controller.proofs.OrderIsFree.{idle_free, NoneOf, no_history, none_names, other_ended}
use Rattle.controller.proofs.GoesAlike.{Alike, PhasesOf, OfDrive, AllOf, runs_alike, idle_alike, damage}
use Rattle.controller.proofs.GoesAlike.Phases.{idling}

-- what a store of this number is carried out on: the drive's record, and above 3 nothing
kept : ℕ → Body → Drive
kept d b = pick (leb d 3) (seen d b) (fresh_with 0)

kept_seen : (d : ℕ) (b : Body) → d ≤ 3 → kept d b ≡ seen d b
unfolding kept
kept_seen d b low = pick_yes _ _ (le-leb d 3 low)

-- what is the same of the drive, if there is one, is kept
kept_same : (d : ℕ) (b o : Body) → (d ≤ 3 → seen d b ≡ seen d o) → kept d b ≡ kept d o
unfolding kept
kept_same d b o same =
    by_test (leb d 3) (λ few. pick_yes _ _ few ∙ same (leb-true d 3 few) ∙ sym (pick_yes _ _ few))
    (λ high. pick_no _ _ high ∙ sym (pick_no _ _ high))

same_kept : (d : ℕ) (b o : Body) → kept d b ≡ kept d o → d ≤ 3 → seen d b ≡ seen d o
same_kept d b o same low = sym (kept_seen d b low) ∙ same ∙ kept_seen d o low

-- the same of a drive, but for the reviewed copy
same_drive : (one other : Drive) → copy_report one ≡ copy_report other → SameDrive one other
same_drive one other same =
    record {
      report = ap (λ (x : Drive). x.report) same;
      track = ap (λ (x : Drive). x.track) same;
      density = ap (λ (x : Drive). x.density) same;
      gap = ap (λ (x : Drive). x.gap) same;
      guard = ap (λ (x : Drive). x.guard) same;
    }

pub drive_same : (one other : Drive) → SameDrive one other → copy_report one ≡ copy_report other
drive_same one other same = cc

-- ---- two idle states

-- every test of an undamaged state passes
record Undamaged (b : Body) : Type 0 where
  drives : (e : ℕ) → e ≤ 3 → sound_drive (seen e b) ≡ true
  selected : leb b.selected 3 ≡ true
  motion : leb b.outcome.result.motion 3 ≡ true
  code : leb b.outcome.result.code 31 ≡ true
  count : leb b.outcome.result.count 65535 ≡ true

undamaged : (b : Body) (phase : Phase) → is_sound b phase ≡ true → Undamaged b
unfolding is_sound sound_body sound_drives sound_drive drive_of pick
undamaged b phase sound =
    let (body, held) = both_hold (sound_body b) (sound_phase phase) sound in
    let (drives, tests) = both_hold _ _ body in
    let (d0, others) = both_hold _ _ drives in
    let (d1, last) = both_hold _ _ others in
    let (d2, d3) = both_hold _ _ last in
    let (selected, outcome) = both_hold _ _ tests in
    let (motion, result) = both_hold _ _ outcome in
    let (code, count) = both_hold _ _ result in
    record {
      drives = by_four (λ e. sound_drive (seen e b) ≡ true) d0 d1 d2 d3;
      selected = selected;
      motion = motion;
      code = code;
      count = count;
    }

pub record Idles (phase : Phase) : Type 0 where
  pub string : Collected
  pub is : phase ≡ Collecting string
  pub empty : eqb string.length 0 ≡ true

pub idles : (phase : Phase) → is_idle_in phase ≡ true → Idles phase
unfolding is_idle_in
idles (Collecting s) idle = record { string = s; is = refl; empty = idle }
idles (AckOffered s) idle = absurd (false≢true idle)
idles (Sending s) idle = absurd (false≢true idle)
idles (GoOffered store) idle = absurd (false≢true idle)
idles (DataAwaited store) idle = absurd (false≢true idle)
idles (ResultAwaited operation store) idle = absurd (false≢true idle)
idles (EndOffered interrupt) idle = absurd (false≢true idle)

-- with the same record of the drive they are alike
pub start_alike : (d : ℕ) (c o : Controller) → is_idle c ≡ true → is_idle o ≡ true → Sound c → Sound o
    → (d ≤ 3 → seen d c.body ≡ seen d o.body) → Alike d c o
start_alike d c o idle idle_too sound sound_too same =
    let one = undamaged c.body c.phase sound in
    let two = undamaged o.body o.phase sound_too in
    let here = idles c.phase idle in
    let there = idles o.phase idle_too in
    record {
      bodies =
          record {
            own = same;
            drives = λ e few. one.drives e few ∙ sym (two.drives e few);
            selected = one.selected ∙ sym two.selected;
            motion = one.motion ∙ sym two.motion;
            code = one.code ∙ sym two.code;
            count = one.count ∙ sym two.count;
          };
      phases =
          subst (λ (p : Phase). PhasesOf d c.body o.body p o.phase) (sym here.is)
          (subst (λ (q : Phase). PhasesOf d c.body o.body (Collecting here.string) q) (sym there.is)
          (idling here.string there.string here.empty there.empty));
    }

-- ---- one transaction

-- what is admitted of a store
AllAdmitted : List Store → Type 0
AllAdmitted [] = Unit
AllAdmitted (store ∷ stores) = ((names_drive store && not (resets store)) ≡ true) × AllAdmitted stores

admitted_stores : (c : Controller) (xs : List Exchange) → admitted_from c xs ≡ true → AllAdmitted (stores_from c xs)
unfolding admitted_from stores_from admits AllAdmitted
admitted_stores c [] admitted = tt
admitted_stores c (x ∷ xs) admitted =
    let (first, others) = both_hold (admits c x) _ admitted in
    let rest = admitted_stores x.answer.reply.controller xs others in
    by_test (carries_out c x)
    (λ yes. subst AllAdmitted (sym (pick_yes _ _ yes)) (sym (pick_yes _ _ yes) ∙ first, rest))
    (λ no. subst AllAdmitted (sym (pick_no _ _ no)) rest)

of_drive : (d : ℕ) (store : Store) → named_drive store ≡ d → (names_drive store && not (resets store)) ≡ true
    → OfDrive d store
of_drive d store named admitted =
    let (names, keeps) = both_hold (names_drive store) (not (resets store))
    admitted in record { names = names; named = named; keeps = not-true _ keeps }

record Again (d : ℕ) (c o : Controller) (transaction : Transaction) : Type 0 where
  done : Done o transaction
  ends : d ≤ 3 → seen d (after_transaction c transaction).body ≡ seen d (after_transaction o transaction).body

-- a transaction that is done from one idle state is done from every other with the same record of its drive
again : (c o : Controller) (transaction : Transaction) → is_idle c ≡ true → is_idle o ≡ true → Sound c → Sound o
    → (transaction.drive ≤ 3 → seen transaction.drive c.body ≡ seen transaction.drive o.body)
    → Done c transaction
    → Again transaction.drive c o transaction
unfolding AllOf AllAdmitted
again c o transaction idle idle_too sound sound_too same done =
    let calls = transaction.calls c in
    let xs = run c calls in
    let by = done.by in
    let only = by.completes.one in
    let (admitted, none) = subst AllAdmitted only (admitted_stores c xs by.completes.admitted) in
    let mine : AllOf transaction.drive (first_of (stores_from c xs) ∷ []) =
    (of_drive transaction.drive _ by.names admitted, tt) in
    let runs = runs_alike transaction.drive calls c o by.own (subst (AllOf transaction.drive) (sym only) mine)
    (start_alike transaction.drive c o idle idle_too sound sound_too same)
    in
    let there : DoneBy o transaction.drive calls =
    record {
      own = by.own;
      completes =
          record {
            one = sym runs.stores ∙ only ∙ ap (λ (l : List Store). first_of l ∷ []) runs.stores;
            admitted = sym runs.admitted ∙ by.completes.admitted;
            fixed = sym runs.fixed ∙ by.completes.fixed;
            ends = sym (idle_alike transaction.drive runs.ends.phases) ∙ by.completes.ends;
          };
      names = ap (λ (l : List Store). named_drive (first_of l)) (sym runs.stores) ∙ by.names;
      sound = sym (damage transaction.drive _ _ runs.ends) ∙ by.sound;
    }
    in
    let chosen = done.steady c o
    (record {
      idle = idle;
      idle_too = idle_too;
      sound = sound;
      sound_too = sound_too;
      same = λ low. same_drive _ _
          (same low);
    })
    in
    record {
      done = record { steady = done.steady; by = subst (DoneBy o transaction.drive) chosen there };
      ends =
          λ low. runs.ends.bodies.own low ∙ ap (λ (l : List Call). seen transaction.drive (after_calls o l).body)
          chosen;
    }

-- a transaction of another drive
passes : (d : ℕ) (c : Controller) (transaction : Transaction) → is_idle c ≡ true → Done c transaction
    → eqb transaction.drive d ≡ false → kept d (after_transaction c transaction).body ≡ kept d c.body
passes d c transaction idle done other =
    kept_same d _ _ (λ low. other_ended d low c (transaction.calls c) idle done.by.completes
    (ap (λ (n : ℕ). eqb n d) done.by.names ∙ other))

-- what comes between transactions
between : (d : ℕ) (c : Controller) (calls : List Call) → is_idle c ≡ true → Rests c calls
    → kept d (after_calls c calls).body ≡ kept d c.body
unfolding NoneOf told_all
between d c calls idle rests =
    let free = idle_free c.phase idle in
    kept_same d _ _
    (λ low. (determined d low calls no_store c (free_held no_store c.body.selected c.phase free) rests.admitted
    ).drive
    ∙ ap (λ (v : View). (told_all v (history_from d no_store c (run c calls))).drive) (free_view d no_store c free)
    ∙ ap (λ (events : List Event). (told_all (resting (seen d c.body)) events).drive)
    (no_history d (run c calls) no_store c (none_names d) (subst (NoneOf d) (sym rests.none) tt) rests.fixed))

-- ---- the transactions of one drive

-- from every idle state with this record of the drive the first is done, and so on with the record that it leaves, to
-- the last
record DoneFrom (d : ℕ) (drive next : Drive) (transaction : Transaction) : Type 0 where
  does : (o : Controller) → is_idle o ≡ true → Sound o → kept d o.body ≡ drive
      → Done o transaction × (kept d (after_transaction o transaction).body ≡ next)

DoneOn : ℕ → Drive → Drive → List Transaction → Type 0
DoneOn d drive last [] = drive ≡ last
DoneOn d drive last (transaction ∷ transactions) =
    (next : Drive) × (DoneFrom d drive next transaction × DoneOn d next last transactions)

done_from : (d : ℕ) (c : Controller) (transaction : Transaction) → is_idle c ≡ true → Sound c → Done c transaction
    → transaction.drive ≡ d → DoneFrom d (kept d c.body) (kept d (after_transaction c transaction).body) transaction
done_from d c transaction idle sound done is =
    subst (λ (n : ℕ). DoneFrom n (kept n c.body) (kept n (after_transaction c transaction).body) transaction) is
    (record {
      does =
          λ o idle_too sound_too same.
          let more = again c o transaction idle idle_too sound sound_too
          (same_kept transaction.drive c.body o.body (sym same)) done in
          (more.done, sym (kept_same transaction.drive _ _ more.ends));
    })

own_done : (d : ℕ) (c : Controller) (transactions : List Entry) → is_idle c ≡ true → AllDone c transactions
    → DoneOn d (kept d c.body) (kept d (after_all c transactions).body) (own_transactions d transactions)
unfolding AllDone after_all own_transactions DoneOn
own_done d c [] idle all = refl
own_done d c (entry ∷ transactions) idle (rests, (done, all)) =
    let transaction = entry.transaction in
    let at = begun c entry in
    let next = after_entry c entry in
    let last = kept d (after_all next transactions).body in
    let rest = own_done d next transactions done.by.completes.ends all in
    subst (λ (drive : Drive). DoneOn d drive last (own_transactions d (entry ∷ transactions)))
    (between d c (entry.before c) idle rests)
    (by_test (eqb transaction.drive d)
    (λ own. subst (DoneOn d (kept d at.body) last) (sym (pick_yes _ _ own)) (
      kept d next.body,
      (
        done_from d at transaction rests.idle rests.sound done
            (eqb-true transaction.drive d own),
        rest,
      ),
    ))
    (λ other. subst (DoneOn d (kept d at.body) last) (sym (pick_no _ _ other))
    (subst (λ (drive : Drive). DoneOn d drive last (own_transactions d transactions))
    (passes d at transaction rests.idle done other) rest)))

-- ---- the other order

-- a transaction of a number of which no order is kept is done wherever it begins idle and undamaged
unfoldable pub AllAnywhere : (ℕ → Bool) → List Entry → Type 0
AllAnywhere ordered [] = Unit
AllAnywhere ordered (entry ∷ entries) =
    (ordered entry.transaction.drive ≡ false → (o : Controller) → is_idle o ≡ true → Sound o
    → Done o entry.transaction)
    × AllAnywhere ordered entries

module _ (ordered : ℕ → Bool) where
  record Ends (o : Controller) (others : List Entry) (last : ℕ → Drive) : Type 0 where
    done : AllDone o others
    ends : (d : ℕ) → ordered d ≡ true → kept d (after_all o others).body ≡ last d

  -- what is left to be done, drive by drive
  Left : Controller → (ℕ → Drive) → List Entry → Type 0
  Left o last others = (d : ℕ) → ordered d ≡ true → DoneOn d (kept d o.body) (last d) (own_transactions d others)

  -- the first is done, and the rest is left
  first_done : (entry : Entry) (others : List Entry) (at : Controller) (last : ℕ → Drive) → is_idle at ≡ true → Sound at
      → (ordered entry.transaction.drive ≡ false → Done at entry.transaction)
      → Left at last (entry ∷ others)
      → Done at entry.transaction × Left (after_transaction at entry.transaction) last others
  unfolding own_transactions DoneOn Left
  first_done entry others at last idle sound anywhere left =
      let transaction = entry.transaction in
      let n = transaction.drive in
      let next = after_transaction at transaction in
      let others_left : Done at transaction → (d : ℕ) → ordered d ≡ true → eqb n d ≡ false
      → DoneOn d (kept d next.body) (last d) (own_transactions d others) =
      λ done d mine other. subst (λ (drive : Drive). DoneOn d drive (last d) (own_transactions d others))
      (sym (passes d at transaction idle done other))
      (subst (DoneOn d (kept d at.body) (last d)) (pick_no _ _ other) (left d mine))
      in
      by_test (ordered n)
      (λ own_order.
      let (after_it, (does, rest)) = subst (DoneOn n (kept n at.body) (last n)) (pick_yes _ _ (eq-eqb n n refl))
      (left n own_order) in
      let (done, ends) = does.does at idle sound refl in (
        done,
        λ d mine. by_test (eqb n d)
            (λ own. subst (λ (e : ℕ). DoneOn e (kept e next.body) (last e) (own_transactions e others))
            (eqb-true n d own)
            (subst (λ (drive : Drive). DoneOn n drive (last n) (own_transactions n others)) (sym ends) rest))
            (others_left done d mine),
      ))
      (λ free. let done = anywhere free in (
        done,
        λ d mine. others_left done d mine (ne_eqb n d (λ e. false≢true (sym free ∙ ap ordered e ∙ mine))),
      ))

  reordered : (others : List Entry) (o : Controller) (last : ℕ → Drive) → is_idle o ≡ true → Sound o → AllRest o others
      → AllAnywhere ordered others
      → Left o last others
      → Ends o others last
  unfolding AllDone AllRest AllAnywhere after_all DoneOn own_transactions Left
  reordered [] o last idle sound rest anywhere left = record { done = tt; ends = left }
  reordered (entry ∷ others) o last idle sound (first, all) (free, anywhere) left =
      let at = begun o entry in
      let rests = first idle sound in
      let (done, more_left) = first_done entry others at last rests.idle rests.sound
      (λ none. free none at rests.idle rests.sound)
      (λ d mine. subst (λ (drive : Drive). DoneOn d drive (last d) (own_transactions d (entry ∷ others)))
      (sym (between d o (entry.before o) idle rests)) (left d mine))
      in
      let more = reordered others (after_entry o entry) last done.by.completes.ends done.by.sound all anywhere
      more_left
      in
      record { done = (rests, (done, more.done)); ends = more.ends }

-- ---- the theorems

pub by_own_drive : (c other : Controller) (transaction : Transaction) → ByOwnDrive c other transaction
by_own_drive c other transaction meet done =
    let more = again c other transaction meet.idle meet.idle_too meet.sound meet.sound_too
    (λ low. drive_same _ _ (meet.same low)) done in
    (more.done, λ low. same_drive _ _ (more.ends low))

-- of all transactions whose own order is kept, where the others are done anywhere
ordered_among : (ordered : ℕ → Bool) (c : Controller) (transactions others : List Entry) → is_idle c ≡ true → Sound c
    → AllDone c transactions
    → AllRest c others
    → AllAnywhere ordered others
    → ((d : ℕ) → ordered d ≡ true → own_transactions d transactions ≡ own_transactions d others)
    → Ends ordered c others (λ d. kept d (after_all c transactions).body)
unfolding Left
ordered_among ordered c transactions others idle sound all rest anywhere same =
    let last : ℕ → Drive = λ d. kept d (after_all c transactions).body in
    reordered ordered others c last idle sound rest anywhere
    (λ d mine. subst (DoneOn d (kept d c.body) (last d)) (same d mine) (own_done d c transactions idle all))

all_ordered : (entries : List Entry) → AllAnywhere (λ d. true) entries
unfolding AllAnywhere
all_ordered [] = tt
all_ordered (entry ∷ entries) = (λ free. absurd (false≢true (sym free)), all_ordered entries)

pub any_order : (c : Controller) (transactions others : List Entry) → AnyOrder c transactions others
any_order c transactions others idle sound all rest same =
    let more = ordered_among (λ d. true) c transactions others idle sound all rest (all_ordered others)
    (λ d mine. same d) in
    record { done = more.done; ends = λ d low. seen_alike _ _ (same_kept d _ _ (sym (more.ends d refl)) low) }

-- only the order of the four drives is kept
pub any_order_of_drives : (c : Controller) (transactions others : List Entry) → is_idle c ≡ true → Sound c
    → AllDone c transactions
    → AllRest c others
    → AllAnywhere (λ d. leb d 3) others
    → ((d : ℕ) → d ≤ 3 → own_transactions d transactions ≡ own_transactions d others)
    → SameInOrder c transactions others
any_order_of_drives c transactions others idle sound all rest anywhere same =
    let more = ordered_among (λ d. leb d 3) c transactions others idle sound all rest anywhere
    (λ d mine. same d (leb-true d 3 mine)) in
    record {
      done = more.done;
      ends = λ d low. seen_alike _ _ (same_kept d _ _ (sym (more.ends d (le-leb d 3 low))) low);
    }
