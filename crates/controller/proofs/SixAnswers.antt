-- Six answers are enough: each answer of a script that is not refused brings the controller nearer to idle.
-- Assumes nothing.
use mathlib.Core.Path.{◌≡◌, refl, sym, subst, ◌∙◌}
use Prim.Native.Nat.{ℕ, zero, suc, ◌≤◌, ◌+◌}
use native.Mathlib.Omega.{arith}
use mathlib.Core.Bool.{Bool, true, false, false≢true, true≢false}
use mathlib.Core.List.{List, [], ◌∷◌}
use lib.Dec.{eqb}
use borrow.Author.Tests.{eqb-true, eq-eqb}
use Rattle.common.specs.Pick.{pick}
use Rattle.common.proofs.PickLaws.{by_test, both_hold, pick_yes, pick_no, pick_by}
use Rattle.operations.specs.declared.operation.Operation.{Operation}
use Rattle.operations.specs.declared.operation.Operation.TheVariants.{CheckBytes, Write}
use Rattle.operations.specs.declared.course.Course.{Course}
use Rattle.operations.specs.declared.course.Course.TheVariants.{Reset, End, Enable, Set, Begin}
use Rattle.operations.specs.declared.store.Store.{Store}
use Rattle.operations.specs.Operation.{same_operation, offers_end}
use Rattle.operations.specs.Store.{asks_interrupt, names_unknown}
use Rattle.link.specs.declared.state.Kind.{Kind}
use Rattle.link.specs.declared.state.Kind.TheVariants.{Load, Secondary, Completion, Change}
use Rattle.link.specs.declared.state.Phase.{Phase}
use Rattle.link.specs.declared.state.Phase.TheVariants.{Collecting, AckOffered, Sending, GoOffered, DataAwaited}
use Rattle.link.specs.declared.state.Phase.TheVariants.{ResultAwaited, EndOffered}
use Rattle.link.specs.declared.state.Body.{Body}
use Rattle.link.specs.State.{Transition}
use Rattle.link.specs.Bytes.{ack}
use Rattle.link.specs.State.{reset_state, review, idle}
use Rattle.link.specs.Completion.{send_word, send_interrupt, complete}
use Rattle.link.specs.Link.{yes_to_send, answer_to_send}
use Rattle.controller.specs.declared.controller.Controller.{Controller}
use Rattle.controller.specs.Told.{Reply}
use Rattle.controller.specs.Controller.{is_idle_in, is_idle, refused}
use Rattle.controller.specs.Stores.{settle, end_with, end_operation, order_move, begin, follow, carry_out_on, carry_out}
use Rattle.controller.specs.Stores.{no_to_go, yes_to_go, answer_to_go}
use Rattle.controller.specs.Records.{Answer, data_done, result_done}
use Rattle.controller.specs.Machine.{byte_in, data_for, data_in, result_for, result_in, byte_call, data_call}
use Rattle.controller.specs.Machine.{result_call}
use Rattle.controller.specs.Machine.{hand_call, unchanged, Call, Exchange, plain, step, run}
use Rattle.controller.specs.Machine.Call.{hand}
use Rattle.controller.specs.Lists.{not_refused, after}
use Rattle.controller.specs.AnyOrder.{after_calls}
use Rattle.controller.specs.Scripts.{Script, answer_in, play, script_calls, none_refused, SixSuffice}
use Rattle.controller.proofs.Steps.{stated}
use Rattle.controller.proofs.IdleLaws.{hand_by_idle}

-- ---- how many answers a phase takes at most; 7 where none of a script's helps

rank_of : Kind → ℕ
rank_of Load = 1
rank_of Secondary = 2
rank_of Completion = 1
rank_of Change = 1

rank : Phase → ℕ
rank (Collecting s) = pick (eqb s.length 0) 0 7
rank (AckOffered s) = 7
rank (Sending send) = rank_of send.kind
rank (EndOffered interrupt) = 3
rank (ResultAwaited operation store) = 4
rank (DataAwaited store) = 5
rank (GoOffered store) = 6

some : (kind : Kind) → 1 ≤ rank_of kind
unfolding rank_of
some Load = omega arith
some Secondary = omega arith
some Completion = omega arith
some Change = omega arith

never : {A : Type 0} (k m : ℕ) → m + 1 ≤ k → k ≤ m → A
never k m more most = absurd (omega (arith, more, most))

rank_idle : (phase : Phase) → rank phase ≤ 0 → is_idle_in phase ≡ true
unfolding rank is_idle_in
rank_idle (Collecting s) low =
    by_test (eqb s.length 0) (λ yes. yes)
    (λ no. never 7 0 (omega arith) (subst (λ (k : ℕ). k ≤ 0) (pick_no 0 7 no) low))
rank_idle (AckOffered s) low = never 7 0 (omega arith) low
rank_idle (Sending send) low = never (rank_of send.kind) 0 (some send.kind) low
rank_idle (EndOffered interrupt) low = never 3 0 (omega arith) low
rank_idle (ResultAwaited operation store) low = never 4 0 (omega arith) low
rank_idle (DataAwaited store) low = never 5 0 (omega arith) low
rank_idle (GoOffered store) low = never 6 0 (omega arith) low

-- one fewer than before
lower : (k m n : ℕ) → k + 1 ≤ m → m ≤ suc n → k ≤ n
lower k m n less most = omega (arith, less, most)

-- two at most, of three or more before
under : (k m n : ℕ) → k ≤ 2 → 3 ≤ m → m ≤ suc n → k ≤ n
under k m n few some most = omega (arith, few, some, most)

up : (k : ℕ) → k ≤ 2 → k ≤ 6
up k few = omega (arith, few)

any : (n : ℕ) → 0 ≤ n
any n = omega arith

-- ---- what a transition leaves

abbrev Leaves : ℕ → Transition → Type 0
Leaves n t = rank t.phase ≤ n

complete_low : (b : Body) (asked : Bool) → Leaves 2 (complete b asked)
unfolding complete send_interrupt send_word idle review rank rank_of pick
complete_low b true =
    pick_by (Leaves 2) b.outcome.counted (λ counted. omega arith) (λ none. omega arith)
complete_low b false = any 2

settle_low : (b : Body) (store : Store) → Leaves 2 (settle b store)
unfolding settle
settle_low b store = complete_low b (asks_interrupt store)

begin_low : (b : Body) (operation : Operation) (store : Store) → Leaves 6 (begin b operation store)
unfolding begin order_move rank
begin_low b operation store =
    let six : 6 ≤ 6 = omega arith in
    let four : 4 ≤ 6 = omega arith in
    pick_by (Leaves 6) (same_operation operation Write) (λ write. six)
    (λ no. pick_by (Leaves 6) (same_operation operation CheckBytes) (λ check. four) (λ move. four))

follow_low : (b : Body) (store : Store) (course : Course) → Leaves 6 (follow b store course)
unfolding follow reset_state end_with rank pick
follow_low b store Reset = any 6
follow_low b store (End code) = up _ (settle_low _ store)
follow_low b store (Enable enable) = up _ (settle_low _ store)
follow_low b store (Set drive) = up _ (settle_low _ store)
follow_low b store (Begin operation) = begin_low b operation store

carry_low : (b : Body) (store : Store) → Leaves 6 (carry_out b store)
unfolding carry_out carry_out_on end_with
carry_low b store =
    pick_by (Leaves 6) (names_unknown store) (λ unknown. up _ (settle_low _ store)) (λ known. follow_low _ store _)

-- ---- what a call leaves, where it is not refused

Low : ℕ → Answer → Type 0
Low n a = a.reply.refusal ≡ 0 → rank a.reply.controller.phase ≤ n

refused_low : (n number : ℕ) (c : Controller) (space check : List ℕ) → eqb number 0 ≡ false
    → Low n (unchanged number c space check)
unfolding Low
refused_low n number c space check some none = absurd (false≢true (sym some ∙ eq-eqb number 0 none))

whole : (n : ℕ) (sound : Bool) (c : Controller) (r : Reply) → Low n (plain r)
    → Low n (plain (pick sound r (refused 1 c)))
whole n sound c r low =
    pick_by (λ (x : Reply). Low n (plain x)) sound (λ yes. low) (λ no. refused_low n 1 c [] [] refl)

lent : (n : ℕ) (sound : Bool) (c : Controller) (a : Answer) (space check : List ℕ) → Low n a
    → Low n (pick sound a (unchanged 1 c space check))
lent n sound c a space check low = pick_by (Low n) sound (λ yes. low) (λ no. refused_low n 1 c space check refl)

hand_low : (c : Controller) (store : Store) → Low 6 (step c (hand store))
unfolding step hand_call Low
hand_low c store =
    whole 6 _ c _
    (subst (λ (r : Reply). Low 6 (plain r)) (sym (hand_by_idle c c.body store c.phase))
    (pick_by (λ (r : Reply). Low 6 (plain r)) (is_idle_in c.phase) (λ idle none. carry_low c.body store)
    (λ busy. refused_low 6 4 c [] [] refl)))

-- ---- the answers of a script

accept_low : (b : Body) (kind : Kind) (n : ℕ) → rank_of kind ≤ suc n → Leaves n (yes_to_send b kind)
unfolding yes_to_send send_word idle rank rank_of pick
accept_low b Load n most = any n
accept_low b Secondary n most = lower 1 2 n (omega arith) most
accept_low b Completion n most = any n
accept_low b Change n most = any n

module _ (script : Script) where
  answer_low : (b : Body) (phase : Phase) (n : ℕ) → rank phase ≤ suc n → suc n ≤ 6 → is_idle_in phase ≡ false
      → Low n (step (stated b phase) (answer_in script phase))
  unfolding step byte_call data_call result_call byte_in data_in result_in answer_in answer_to_send answer_to_go
      yes_to_go no_to_go data_for data_done result_for result_done end_operation order_move rank is_idle_in Low
  answer_low b (Collecting s) n most few busy =
      let seven : 7 ≤ suc n = subst (λ (k : ℕ). k ≤ suc n) (pick_no 0 7 busy) most in
      λ none. never 7 6 (omega arith) (omega (arith, seven, few))
  answer_low b (AckOffered s) n most few busy =
      let seven : 7 ≤ suc n = most in λ none. never 7 6 (omega arith) (omega (arith, seven, few))
  answer_low b (Sending send) n most few busy =
      whole n _ _ _
      (λ none. pick_by (Leaves n) (eqb ack ack) (λ yes. accept_low b send.kind n most)
      (λ no. absurd (true≢false no)))
  answer_low b (GoOffered store) n most few busy =
      whole n _ _ _
      (λ none. pick_by (Leaves n) (eqb script.go ack) (λ yes. lower 5 6 n (omega arith) most)
      (λ no. lower 3 6 n (omega arith) most))
  answer_low b (DataAwaited store) n most few busy =
      lent n _ _ _ _ _
      (pick_by (Low n) _ (λ good none. lower 4 5 n (omega arith) most)
      (λ bad. refused_low n _ (stated b (DataAwaited store)) script.image_space script.data_check bad))
  answer_low b (ResultAwaited operation store) n most few busy =
      lent n _ _ _ _ _
      (pick_by (Low n) _
      (λ good none. pick_by (Leaves n) (offers_end operation) (λ offers. lower 3 4 n (omega arith) most)
      (λ settles. under _ 4 n (settle_low _ store) (omega arith) most))
      (λ bad. refused_low n _ (stated b (ResultAwaited operation store)) script.host_space script.result_check bad))
  answer_low b (EndOffered interrupt) n most few busy =
      whole n _ _ _ (λ none. under _ 3 n (complete_low b interrupt) (omega arith) most)

  plays_idle : (n : ℕ) (c : Controller) → rank c.phase ≤ n → n ≤ 6
      → none_refused (run c (play n script c)) ≡ true
      → is_idle (after_calls c (play n script c)) ≡ true
  unfolding play run after none_refused not_refused Low
  plays_idle zero c most few none = rank_idle c.phase most
  plays_idle (suc n) c most few none =
      let call = answer_in script c.phase in
      let next = (step c call).reply.controller in
      let calls = call ∷ play n script next in
      let x : Exchange = record { call = call; answer = step c call } in
      by_test (is_idle c)
      (λ idle. subst (λ (l : List Call). is_idle (after_calls c l) ≡ true) (sym (pick_yes [] calls idle)) idle)
      (λ busy.
      let (done, others) = both_hold (not_refused x) (none_refused (run next (play n script next)))
      (subst (λ (l : List Call). none_refused (run c l) ≡ true) (pick_no [] calls busy) none) in
      subst (λ (l : List Call). is_idle (after_calls c l) ≡ true) (sym (pick_no [] calls busy))
      (plays_idle n next (answer_low c.body c.phase n most few busy (eqb-true _ 0 done)) (omega (arith, few))
      others))

pub six_suffice : (c : Controller) (script : Script) → SixSuffice c (run c (script_calls script c))
unfolding run after none_refused not_refused Low
six_suffice c script none =
    let call = hand script.store in
    let next = (step c call).reply.controller in
    let x : Exchange = record { call = call; answer = step c call } in
    let (done, others) = both_hold (not_refused x) (none_refused (run next (play 6 script next))) none in
    plays_idle script 6 next
    (hand_low c script.store (eqb-true _ 0 done)) (omega arith) others
