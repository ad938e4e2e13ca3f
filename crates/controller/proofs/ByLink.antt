-- A store that comes by the link, as eight bytes whose ACK is taken, is carried out as one that is handed over: from an
-- idle and undamaged state the same is answered, and the same follows.
-- Assumes nothing.
use mathlib.Core.Path.{◌≡◌, refl, sym, ap, subst, ◌∙◌}
use Prim.Native.Nat.{ℕ}
use mathlib.Core.Bool.{Bool, true, false, not, ◌&&◌, and-false}
use mathlib.Core.List.{List, [], ◌∷◌, ◌++◌}
use lib.Bits.{xor_self}
use lib.Dec.{eqb}
use Rattle.common.specs.Pick.{pick}
use Rattle.common.proofs.PickLaws.{both_hold, pick_yes, pick_no}
use Rattle.operations.specs.declared.store.Store.{Store}
use Rattle.link.specs.declared.state.Collected.{Collected}
use Rattle.link.specs.declared.state.Phase.{Phase}
use Rattle.link.specs.declared.state.Phase.TheVariants.{Collecting, AckOffered}
use Rattle.link.specs.declared.state.Body.{Body}
use Rattle.link.specs.State.{Transition}
use Rattle.link.specs.State.{store_of, offered, keep_collecting}
use Rattle.link.specs.Link.{whole_length, append_byte, load_xor, is_good_string, first_byte, last_byte, next_byte}
use Rattle.link.specs.Link.{collect_byte}
use Rattle.link.specs.Damaged.{sound_body, sound_lead, sound_part, sound_string, sound_phase, is_sound}
use Rattle.controller.specs.declared.controller.Controller.{Controller}
use Rattle.controller.specs.Told.{Reply}
use Rattle.controller.specs.Controller.{is_idle, carried}
use Rattle.controller.specs.Stores.{carry_out}
use Rattle.controller.specs.Records.{Answer}
use Rattle.controller.specs.Machine.{byte_in, byte_call, carry_out_string, taken_in, taken_call, hand_in, hand_call}
use Rattle.controller.specs.Machine.{Call}
use Rattle.controller.specs.Machine.{Exchange, plain, step, run}
use Rattle.controller.specs.Machine.Call.{byte, taken, hand}
use Rattle.controller.specs.Lists.{not_refused, holds_store, brings_store, store_brought, carries_out, after}
use Rattle.controller.specs.Separation.{is_reset, admits, admitted_from}
use Rattle.controller.specs.JobOrder.{stores_from, is_report, reports_fixed}
use Rattle.controller.specs.AnyOrder.{after_calls, Sound}
use Rattle.controller.specs.Scripts.{none_refused}
use Rattle.controller.specs.Arrivals.{check_byte, link_calls, last_answer, AsHandedOver}
use Rattle.controller.proofs.Steps.{stated}
use Rattle.controller.proofs.AnyOrder.{idles}
use Rattle.controller.proofs.TicksRest.{sound_of}

-- ---- two lists of calls, of which the same is told

pub record Goes (c o : Controller) (calls more : List Call) : Type 0 where
  pub stores : stores_from c (run c calls) ≡ stores_from o (run o more)
  pub admitted : admitted_from c (run c calls) ≡ admitted_from o (run o more)
  pub fixed : reports_fixed (run c calls) ≡ reports_fixed (run o more)
  pub unrefused : none_refused (run c calls) ≡ none_refused (run o more)
  pub ends : after_calls c calls ≡ after_calls o more

pub goes_same : (c : Controller) (calls : List Call) → Goes c c calls calls
goes_same c calls = record { stores = refl; admitted = refl; fixed = refl; unrefused = refl; ends = refl }

goes_on : (c o k : Controller) (calls more others : List Call) → Goes c o calls more → Goes o k more others
    → Goes c k calls others
goes_on c o k calls more others first second =
    record {
      stores = first.stores ∙ second.stores;
      admitted = first.admitted ∙ second.admitted;
      fixed = first.fixed ∙ second.fixed;
      unrefused = first.unrefused ∙ second.unrefused;
      ends = first.ends ∙ second.ends;
    }

-- what a byte leaves that is not refused
record Leads (c : Controller) (value : ℕ) (o : Controller) : Type 0 where
  state : (step c (byte value)).reply.controller ≡ o
  taken_in : (step c (byte value)).reply.refusal ≡ 0

-- a byte that is collected brings nothing by itself
byte_goes : (c o : Controller) (value : ℕ) (calls : List Call) → Leads c value o → Goes c o (byte value ∷ calls) calls
unfolding run stores_from admitted_from reports_fixed none_refused after carries_out not_refused admits brings_store
    is_reset is_report
byte_goes c o value calls step_leads =
    let leads = step_leads.state in
    let x : Exchange = record { call = byte value; answer = step c (byte value) } in
    let next = (step c (byte value)).reply.controller in
    let none : carries_out c x ≡ false = and-false (not_refused x) in
    record {
      stores = pick_no _ _ none ∙ ap (λ (k : Controller). stores_from k (run k calls)) leads;
      admitted =
          ap (λ (t : Bool). t && admitted_from next (run next calls))
          (pick_no _ _ none ∙ ap not (and-false (not_refused x)))
          ∙ ap (λ (k : Controller). admitted_from k (run k calls)) leads;
      fixed =
          ap (λ (t : Bool). not t && reports_fixed (run next calls)) (and-false (not_refused x))
          ∙ ap (λ (k : Controller). reports_fixed (run k calls)) leads;
      unrefused =
          ap (λ (n : ℕ). eqb n 0 && none_refused (run next calls)) step_leads.taken_in
          ∙ ap (λ (k : Controller). none_refused (run k calls)) leads;
      ends = ap (λ (k : Controller). after_calls k calls) leads;
    }

-- ---- the string as it comes

abbrev string : ℕ → ℕ → ℕ → ℕ → ℕ → ℕ → ℕ → ℕ → Collected
string n a f s t u v w = record { length = n; c0 = 0x64; c1 = a; c2 = f; c3 = s; c4 = t; c5 = u; c6 = v; c7 = w }

module _ (b : Body) (s : Collected) (empty : eqb s.length 0 ≡ true) (body : sound_body b ≡ true) (store : Store)
    (unused : ℕ) where
  abbrev at0 : Controller
  at0 = stated b (Collecting s)

  abbrev at1 : Controller
  at1 = stated b (Collecting (string 1 0 0 0 0 0 0 0))

  abbrev at2 : Controller
  at2 = stated b (Collecting (string 2 store.address 0 0 0 0 0 0))

  abbrev at3 : Controller
  at3 = stated b (Collecting (string 3 store.address store.first 0 0 0 0 0))

  abbrev at4 : Controller
  at4 = stated b (Collecting (string 4 store.address store.first store.second 0 0 0 0))

  abbrev at5 : Controller
  at5 = stated b (Collecting (string 5 store.address store.first store.second store.third 0 0 0))

  abbrev at6 : Controller
  at6 =
      stated b
      (Collecting (string 6 store.address store.first store.second store.third store.fourth 0 0))

  abbrev at7 : Controller
  at7 =
      stated b
      (Collecting (string 7 store.address store.first store.second store.third store.fourth unused 0))

  abbrev whole : Collected
  whole =
      string 8 store.address store.first store.second store.third store.fourth unused
      (check_byte store unused)

  abbrev at8 : Controller
  at8 = stated b (AckOffered whole)

  collected : (p : Collected) (value : ℕ) (t : Transition) → sound_part p ≡ true → collect_byte b p value ≡ t
      → Leads (stated b (Collecting p)) value (carried t).controller
  unfolding step byte_call byte_in sound_phase
  collected p value t part e =
      let told = pick_yes _ _ (sound_of b (Collecting p) body part) ∙ ap (λ (x : Transition). carried x) e in
      record { state = ap (λ (r : Reply). r.controller) told; taken_in = ap (λ (r : Reply). r.refusal) told }

  empty_part : sound_part s ≡ true
  unfolding sound_part
  empty_part = rw empty

  first_leads : Leads at0 0x64 at1
  unfolding collect_byte first_byte append_byte pick
  first_leads = collected s 0x64 (keep_collecting b (string 1 0 0 0 0 0 0 0)) empty_part (pick_yes _ _ empty)

  second_leads : Leads at1 store.address at2
  unfolding collect_byte next_byte append_byte whole_length sound_part sound_lead pick
  second_leads = collected _ store.address (keep_collecting b _) refl refl

  third_leads : Leads at2 store.first at3
  unfolding collect_byte next_byte append_byte whole_length sound_part sound_lead pick
  third_leads = collected _ store.first (keep_collecting b _) refl refl

  fourth_leads : Leads at3 store.second at4
  unfolding collect_byte next_byte append_byte whole_length sound_part sound_lead pick
  fourth_leads = collected _ store.second (keep_collecting b _) refl refl

  fifth_leads : Leads at4 store.third at5
  unfolding collect_byte next_byte append_byte whole_length sound_part sound_lead pick
  fifth_leads = collected _ store.third (keep_collecting b _) refl refl

  sixth_leads : Leads at5 store.fourth at6
  unfolding collect_byte next_byte append_byte whole_length sound_part sound_lead pick
  sixth_leads = collected _ store.fourth (keep_collecting b _) refl refl

  seventh_leads : Leads at6 unused at7
  unfolding collect_byte next_byte append_byte whole_length sound_part sound_lead pick
  seventh_leads = collected _ unused (keep_collecting b _) refl refl

  good : is_good_string whole ≡ true
  unfolding is_good_string load_xor pick
  good = ap (λ (n : ℕ). eqb n 0) (xor_self (check_byte store unused))

  eighth_leads : Leads at7 (check_byte store unused) at8
  unfolding collect_byte next_byte append_byte last_byte whole_length sound_part sound_lead pick
  eighth_leads =
      collected
      (string 7 store.address store.first store.second store.third store.fourth unused 0)
      (check_byte store unused) _ refl (pick_yes _ _ good)

  -- the ACK is taken, and the store handed over
  abbrev done : Answer
  done = plain (carried (carry_out b store))

  taken_is : step at8 taken ≡ done
  unfolding step taken_call taken_in carry_out_string store_of sound_phase sound_string sound_lead whole_length pick
  taken_is = ap (λ (r : Reply). plain r) (pick_yes _ _ (sound_of b (AckOffered whole) body refl))

  hand_is : step at0 (hand store) ≡ done
  unfolding step hand_call hand_in sound_phase
  hand_is =
      ap (λ (r : Reply). plain r) (pick_yes _ _ (sound_of b (Collecting s) body empty_part) ∙ pick_yes _ _ empty)

  abbrev told : Controller → Call → List Call → Answer → List Exchange
  told c call calls a = record { call = call; answer = a } ∷ run a.reply.controller calls

  taken_goes : (calls : List Call) → Goes at8 at0 (taken ∷ calls) (hand store ∷ calls)
  unfolding run stores_from admitted_from reports_fixed none_refused after carries_out not_refused admits brings_store
      store_brought holds_store offered store_of is_reset is_report pick
  taken_goes calls =
      record {
        stores =
            ap (λ (a : Answer). stores_from at8 (told at8 taken calls a)) taken_is
            ∙ sym (ap (λ (a : Answer). stores_from at0 (told at0 (hand store) calls a)) hand_is);
        admitted =
            ap (λ (a : Answer). admitted_from at8 (told at8 taken calls a)) taken_is
            ∙ sym (ap (λ (a : Answer). admitted_from at0 (told at0 (hand store) calls a)) hand_is);
        fixed =
            ap (λ (a : Answer). reports_fixed (told at8 taken calls a)) taken_is
            ∙ sym (ap (λ (a : Answer). reports_fixed (told at0 (hand store) calls a)) hand_is);
        unrefused =
            ap (λ (a : Answer). none_refused (told at8 taken calls a)) taken_is
            ∙ sym (ap (λ (a : Answer). none_refused (told at0 (hand store) calls a)) hand_is);
        ends =
            ap (λ (a : Answer). after_calls a.reply.controller calls) taken_is
            ∙ sym (ap (λ (a : Answer). after_calls a.reply.controller calls) hand_is);
      }

  all_go : (calls : List Call) → Goes at0 at0 (link_calls store unused ++ calls) (hand store ∷ calls)
  all_go calls =
      goes_on at0 at1 at0 _ _ _ (byte_goes at0 at1 _ _ first_leads)
      (goes_on at1 at2 at0 _ _ _ (byte_goes at1 at2 _ _ second_leads)
      (goes_on at2 at3 at0 _ _ _ (byte_goes at2 at3 _ _ third_leads)
      (goes_on at3 at4 at0 _ _ _ (byte_goes at3 at4 _ _ fourth_leads)
      (goes_on at4 at5 at0 _ _ _ (byte_goes at4 at5 _ _ fifth_leads)
      (goes_on at5 at6 at0 _ _ _ (byte_goes at5 at6 _ _ sixth_leads)
      (goes_on at6 at7 at0 _ _ _ (byte_goes at6 at7 _ _ seventh_leads)
      (goes_on at7 at8 at0 _ _ _ (byte_goes at7 at8 _ _ eighth_leads) (taken_goes calls))))))))

  -- the last answer, whatever stood before
  record Last (c : Controller) (calls : List Call) : Type 0 where
    is : (answer : Answer) → last_answer answer (run c calls) ≡ step at0 (hand store)

  last_by : (c o : Controller) (value : ℕ) (calls : List Call) → Leads c value o → Last o calls
      → Last c (byte value ∷ calls)
  unfolding last_answer run
  last_by c o value calls leads rest =
      record {
        is =
            λ answer.
            ap (λ (k : Controller). last_answer (step c (byte value)) (run k calls)) leads.state
            ∙ rest.is (step c (byte value));
      }

  last_taken : Last at8 (taken ∷ [])
  unfolding last_answer run
  last_taken = record { is = λ answer. taken_is ∙ sym hand_is }

  all_answer : Last at0 (link_calls store unused)
  all_answer =
      last_by at0 at1 _ _ first_leads (last_by at1 at2 _ _ second_leads (last_by at2 at3 _ _ third_leads
      (last_by at3 at4 _ _ fourth_leads (last_by at4 at5 _ _ fifth_leads (last_by at5 at6 _ _ sixth_leads
      (last_by at6 at7 _ _ seventh_leads (last_by at7 at8 _ _ eighth_leads last_taken)))))))

-- ---- from every idle and undamaged state

module _ (c : Controller) (store : Store) (unused : ℕ) (idle : is_idle c ≡ true) (sound : Sound c) where
  pub link_as_hand : (calls : List Call) → Goes c c (link_calls store unused ++ calls) (hand store ∷ calls)
  unfolding is_sound
  link_as_hand calls =
      let here = idles c.phase idle in
      subst (λ (p : Phase). Goes (stated c.body p) (stated c.body p) (link_calls store unused ++ calls)
      (hand store ∷ calls)) (sym here.is)
      (all_go c.body here.string here.empty (both_hold (sound_body c.body) (sound_phase c.phase) sound).0
      store unused calls)

  pub link_ends : after_calls c (link_calls store unused) ≡ (step c (hand store)).reply.controller
  unfolding run after
  link_ends = (link_as_hand []).ends

  pub hand_told : step c (hand store) ≡ plain (carried (carry_out c.body store))
  unfolding is_sound
  hand_told =
      let here = idles c.phase idle in
      subst (λ (p : Phase). step (stated c.body p) (hand store) ≡ plain (carried (carry_out c.body store)))
      (sym here.is)
      (hand_is c.body here.string here.empty (both_hold (sound_body c.body) (sound_phase c.phase) sound).0
      store unused)

pub as_handed_over : (c : Controller) (store : Store) (unused : ℕ)
    → AsHandedOver c (run c (link_calls store unused)) (step c (hand store))
unfolding is_sound
as_handed_over c store unused idle sound =
    let here = idles c.phase idle in (
      subst (λ (p : Phase). last_answer (step (stated c.body p) (hand store))
          (run (stated c.body p) (link_calls store unused)) ≡ step (stated c.body p) (hand store)) (sym here.is)
          ((all_answer c.body here.string here.empty
          (both_hold (sound_body c.body) (sound_phase c.phase) sound).0 store unused).is _),
      link_ends c store unused idle sound,
    )
