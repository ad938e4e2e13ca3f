-- What the marks come to in document 01's words is what the scan finds, and every list of marks comes to one of the
-- three (`marks_come_to`).
-- Assumes nothing.
use mathlib.Core.Path.{◌≡◌, refl, sym, ap, ◌∙◌}
use Prim.Native.Nat.{ℕ, zero, suc, ◌+◌, ◌-◌, ◌%◌, ◌≤◌, ◌<◌}
use native.Mathlib.Omega.{arith}
use mathlib.Core.Bool.{true, false, not, ◌||◌}
use mathlib.Core.List.{List, [], ◌∷◌}
use lib.Dec.{ltb, eqb}
use lib.ListN.{length, get_or, drop}
use borrow.Author.Count.{below_more}
use borrow.Author.Tests.{ltb-true, ltb-false, eqb-true, eqb-false, not-true, ne_eqb}
use Rattle.common.specs.Pick.{pick}
use Rattle.common.proofs.PickLaws.{by_test, pick_yes, pick_no}
use Rattle.marks.specs.Marks.{is_error, Once, torn_marks}
use Rattle.marks.specs.Scan.{is_found, findings_of}
use Rattle.marks.proofs.StopLaws.{IsSecond, never_once, stops_at, stop_told, unstopped, nothing_found, something_found}
use Rattle.controller.specs.Marked.{IsBad, NoneBad, number_at, parity_at, TwoBad, AtMostOne, StopsAt, ComeTo}
use Rattle.controller.specs.Marked.ComeTo.{all_good, some_mended, scan_stopped}

-- ---- a bad one is an error

error_is : (mark : ℕ) → (mark ≡ 15 → ⊥) → is_error mark ≡ true
unfolding is_error
error_is mark other = ap not (ne_eqb mark 15 other)

bad_is : (mark : ℕ) → is_error mark ≡ true → mark ≡ 15 → ⊥
unfolding is_error
bad_is mark error = eqb-false mark 15 (not-true (eqb mark 15) error)

-- ---- the parity of a number is that of how many follow

parity_is : (m place : ℕ) → 2 ≤ m → place < m → number_at (m - 2) place % 2 ≡ (m - 1 - place) % 2
unfolding number_at
parity_is m place two below =
    by_test (ltb place (m - 2))
    (λ data_one.
    let early = ltb-true place (m - 2) data_one in
    ap (λ (n : ℕ). n % 2) (pick_yes (m - 2 - 1 - place) (m - 2 + 1 - place) data_one) ∙ omega arith)
    (λ check_one.
    let late = ltb-false place (m - 2) check_one in
    ap (λ (n : ℕ). n % 2) (pick_no (m - 2 - 1 - place) (m - 2 + 1 - place) check_one) ∙ omega arith)

module _ (marks : List ℕ) where
  second_of : (i j : ℕ) → TwoBad marks i j → IsSecond marks i j
  second_of i j two =
      let order = two.order in
      let below = two.two.0 in
      record {
        earlier = order;
        below = below;
        one = error_is _ two.one.1;
        two = error_is _ two.two.1;
        alike =
            sym (parity_is (length marks) i (omega arith) two.one.0) ∙ two.parity
            ∙ parity_is (length marks) j (omega arith) below;
      }

  two_of : (i j : ℕ) → IsSecond marks i j → TwoBad marks i j
  two_of i j second =
      let order = second.earlier in
      let below = second.below in
      let before : i < length marks = omega arith in
      record {
        order = order;
        one = (before, bad_is _ second.one);
        two = (below, bad_is _ second.two);
        parity =
            parity_is (length marks) i (omega arith) before ∙ second.alike
            ∙ sym (parity_is (length marks) j (omega arith) below);
      }

  once_of : AtMostOne marks → Once marks
  once_of none = never_once marks (λ i j second. none i j (two_of i j second))

  -- ---- what is found

  -- nothing
  module _ (none : NoneBad marks) where
    none_once : Once marks
    none_once = once_of (λ i j two. none i two.one)

    pub good_unstopped : is_found (findings_of marks).stop ≡ false
    good_unstopped = unstopped marks none_once

    pub good_unfound : (is_found (findings_of marks).odd || is_found (findings_of marks).even) ≡ false
    good_unfound = nothing_found marks none_once (λ i below bad. none i (below, bad_is _ bad))

  -- one of a parity, or of each
  module _ (place : ℕ) (bad : IsBad marks place) (most : AtMostOne marks) where
    pub mended_unstopped : is_found (findings_of marks).stop ≡ false
    mended_unstopped = unstopped marks (once_of most)

    pub mended_found : (is_found (findings_of marks).odd || is_found (findings_of marks).even) ≡ true
    mended_found = something_found marks (once_of most) place bad.0 (error_is _ bad.1)

  -- two of a parity
  module _ (stop : ℕ) (stops : StopsAt marks stop) where
    abbrev never : (i j : ℕ) → j < stop → IsSecond marks i j → ⊥
    never i j less second = stops.before i j less (two_of i j second)

    pub stopped_there : (findings_of marks).place ≡ stop
    unfolding findings_of
    stopped_there = stops_at marks stops.first stop (second_of _ stop stops.second) never

    pub stopped_found : is_found (findings_of marks).stop ≡ true
    stopped_found = stop_told marks stops.first stop (second_of _ stop stops.second) never

-- ---- a first blockette that is torn

pub torn_is : (marks : List ℕ) → (length marks ≡ 0 → ⊥) → torn_marks marks ≡ 0 ∷ drop 1 marks
unfolding torn_marks
torn_is [] some = absurd (some refl)
torn_is (mark ∷ marks) some = refl

pub torn_bad : (marks : List ℕ) → IsBad (0 ∷ marks) 0
torn_bad marks = (omega arith, λ same. omega arith)

-- it alone is bad where the others are good
pub torn_alone : (marks : List ℕ) → NoneBad marks → AtMostOne (0 ∷ marks)
torn_alone marks none i zero two = absurd (omega (arith, two.order))
torn_alone marks none i (suc j) two = none j (omega (arith, two.two.0), two.two.1)

-- ---- every list of marks comes to one of the three

module _ {A : Type 0} (marks : List ℕ) where
  decide_bad : (i : ℕ) → (IsBad marks i → A) → ((IsBad marks i → ⊥) → A) → A
  decide_bad i is not_it =
      by_test (ltb i (length marks))
      (λ inside. by_test (eqb (get_or marks i 0) 15)
      (λ good. not_it (λ bad. bad.1 (eqb-true (get_or marks i 0) 15 good)))
      (λ other. is (ltb-true i (length marks) inside, eqb-false (get_or marks i 0) 15 other)))
      (λ outside. not_it (λ bad. omega (arith, ltb-false i (length marks) outside, bad.0)))

  decide_two : (i j : ℕ) → i < j → (TwoBad marks i j → A) → ((TwoBad marks i j → ⊥) → A) → A
  decide_two i j order is not_it =
      by_test (eqb (parity_at marks i) (parity_at marks j))
      (λ same.
      decide_bad i
      (λ one. decide_bad j
      (λ two. is (record { order = order; one = one; two = two; parity = eqb-true _ _ same }))
      (λ good. not_it (λ both. good both.two)))
      (λ good. not_it (λ both. good both.one)))
      (λ other. not_it (λ both. eqb-false _ _ other both.parity))

  -- below a place there is no bad one, or one
  find_bad : (n : ℕ) → (((i : ℕ) → i < n → IsBad marks i → ⊥) → A) → ((i : ℕ) → IsBad marks i → A) → A
  find_bad zero none some = none (λ i below bad. omega arith)
  find_bad (suc n) none some =
      find_bad n
      (λ before. decide_bad n (some n)
      (λ good. none (λ i below. below_more (λ (k : ℕ). IsBad marks k → ⊥) n before good i (omega arith)))) some

  find_first : (j n : ℕ) → n ≤ j → (((i : ℕ) → i < n → TwoBad marks i j → ⊥) → A) → ((i : ℕ) → TwoBad marks i j → A) → A
  find_first j zero within none some = none (λ i below two. omega arith)
  find_first j (suc n) within none some =
      find_first j n (omega arith)
      (λ before. decide_two n j (omega arith) (some n)
      (λ other. none (λ i below. below_more (λ (k : ℕ). TwoBad marks k j → ⊥) n before other i (omega arith)))) some

  find_stop : (n : ℕ) → (((i j : ℕ) → j < n → TwoBad marks i j → ⊥) → A) → ((stop : ℕ) → StopsAt marks stop → A) → A
  find_stop zero none some = none (λ i j below two. omega arith)
  find_stop (suc n) none some =
      find_stop n
      (λ before. find_first n n (omega arith)
      (λ first_none. none (λ i j below.
      below_more (λ (k : ℕ). TwoBad marks i k → ⊥) n (λ k less. before i k less)
      (λ two. first_none i two.order two) j (omega arith)))
      (λ i two. some n (record { first = i; second = two; before = before })))
      some

pub marks_come_to : (marks : List ℕ) → ComeTo marks
marks_come_to marks =
    find_stop marks (length marks)
    (λ none. find_bad marks (length marks) (λ good. all_good (λ i bad. good i bad.0 bad))
    (λ i bad. some_mended i bad (λ one other two. none one other two.two.0 two)))
    scan_stopped

-- "c = 600, .. 6 on 2, 4 on 0": the scan stops at the third blockette
pub stops_at_the_third : StopsAt (6 ∷ 15 ∷ 4 ∷ 15 ∷ 15 ∷ []) 2
unfolding number_at pick
stops_at_the_third =
    record {
      first = 0;
      second =
          record {
            order = omega arith;
            one = (omega arith, λ same. omega arith);
            two = (omega arith, λ same. omega arith);
            parity = refl;
          };
      before = none;
    }
  where
    none : (i j : ℕ) → j < 2 → TwoBad (6 ∷ 15 ∷ 4 ∷ 15 ∷ 15 ∷ []) i j → ⊥
    none i zero below two = omega (arith, two.order)
    none i (suc zero) below two = two.two.1 refl
    none i (suc (suc j)) below two = omega arith
