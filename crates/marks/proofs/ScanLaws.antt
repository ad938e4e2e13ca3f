-- What the scan finds: it reaches the end and finds the only error of each parity, or stops at the second of one; by
-- induction over the marks that are left with what is known of the places found so far. So in marks with at most one
-- error of each parity it reaches the end.
-- Assumes nothing.
use Prim.Native.Nat.{ℕ, zero, suc, ◌≤◌, ◌<◌, ◌-◌, ◌%◌}
use native.Mathlib.Decide.{ℕ_discrete}
use native.Mathlib.Omega.{arith}
use mathlib.Core.Bool.{Bool, true, false, not, false≢true}
use mathlib.Core.List.{List, [], ◌∷◌}
use mathlib.Core.Logic.{◌⊎◌, inl, inr, ⊎_elim}
use mathlib.Core.Path.{◌≡◌, refl, sym, ap, subst, ◌∙◌}
use borrow.Author.Count.{below_more}
use borrow.Author.Tests.{eqb-true, eqb-false, ne_eqb, ltb-true, ltb-false}
use lib.Dec.{T, eqb, ltb}
use lib.ListN.{length, get_or, drop, replicate, length-drop, length-replicate, get_or-replicate}
use lib.Seq.{drop-cons}
use Rattle.common.specs.Pick.{pick}
use Rattle.common.proofs.PickLaws.{pick_by}
use Rattle.marks.specs.Marks.{legal_mark, legal_marks, is_error, Once}
use Rattle.marks.specs.Scan.{scan_from, scan_marks}
use Rattle.marks.specs.declared.Scan.{Scan}

-- ---- marks with at most one error of each parity

-- an error of a parity at a place is the place
abbrev pub IsOnly : List ℕ → ℕ → ℕ → ℕ → Type 0
IsOnly marks parity place j = is_error (get_or marks j 0) ≡ true → (length marks - 1 - j) % 2 ≡ parity → place ≡ j

-- the place found for a parity before the place `at`: if there is one, an error of that parity, and the only one so far
pub record Found (marks : List ℕ) (parity at place : ℕ) : Type 0 where
  pub before : place < length marks → place < at
  pub error : place < length marks → is_error (get_or marks place 0) ≡ true
  pub of_parity_lem : place < length marks → (length marks - 1 - place) % 2 ≡ parity
  pub only : (j : ℕ) → j < at → IsOnly marks parity place j

-- the scan comes to the end, and knows the only error of each parity
pub record ScannedOnce (marks : List ℕ) : Type 0 where
  pub stop : (scan_marks marks).stop ≡ length marks
  pub odd : Found marks 1 (length marks) (scan_marks marks).odd
  pub even : Found marks 0 (length marks) (scan_marks marks).even

-- or it stops at an error, with another of its parity before it
pub record Stopped (marks : List ℕ) (r : Scan) : Type 0 where
  pub below : r.stop < length marks
  pub other : ℕ
  pub earlier : other < r.stop
  pub other_error : is_error (get_or marks other 0) ≡ true
  pub error : is_error (get_or marks r.stop 0) ≡ true
  pub one_parity : (length marks - 1 - other) % 2 ≡ (length marks - 1 - r.stop) % 2

module _ (marks : List ℕ) (parity : ℕ) where
  -- nothing is found at the start
  pub found_none : Found marks parity 0 (length marks)
  found_none =
      record {
        before = omega arith;
        error = λ h. absurd (omega arith);
        of_parity_lem = λ h. absurd (omega arith);
        only = λ j h. absurd (omega arith);
      }

  module _ (at place : ℕ) (f : Found marks parity at place) where
    -- what is no error of the parity changes nothing
    pub found_still : (is_error (get_or marks at 0) ≡ true → (length marks - 1 - at) % 2 ≡ parity → ⊥)
        → Found marks parity (suc at) place
    found_still none =
        record {
          before = λ h. omega (arith, f.before h);
          error = f.error;
          of_parity_lem = f.of_parity_lem;
          only = λ j h. below_more (IsOnly marks parity place) at f.only (λ e p. absurd (none e p)) j (omega arith);
        }

    module _ (below : at < length marks) (e : is_error (get_or marks at 0) ≡ true)
        (p : (length marks - 1 - at) % 2 ≡ parity) where
      -- the first error of the parity is found
      pub found_here : length marks ≤ place → Found marks parity (suc at) at
      found_here none =
          record {
            before = omega arith;
            error = λ h. e;
            of_parity_lem = λ h. p;
            only =
                λ j h.
                below_more (IsOnly marks parity at) at (λ k l ek pk. absurd (omega (arith, f.only k l ek pk)))
                (λ ek pk. refl) j (omega arith);
          }

      -- at a second the scan stops
      found_twice : (odd even : ℕ) → place < length marks
          → Stopped marks (record { odd = odd; even = even; stop = at })
      found_twice odd even one =
          record {
            below = below;
            other = place;
            earlier = f.before one;
            other_error = f.error one;
            error = e;
            one_parity = f.of_parity_lem one ∙ sym p;
          }

    -- at the end
    found_end : length marks ≤ at → Found marks parity (length marks) place
    found_end end =
        record
        { before = λ h. h; error = f.error; of_parity_lem = f.of_parity_lem; only = λ j h. f.only j (omega arith) }

-- at the end of the scan
abbrev Done : List ℕ → Scan → Type 0
Done marks r = (r.stop ≡ length marks) × Found marks 1 (length marks) r.odd × Found marks 0 (length marks) r.even

abbrev Ended : List ℕ → Scan → Type 0
Ended marks r = Done marks r ⊎ Stopped marks r

-- a scan of the marks that are left, from what is found before the place `at`, comes to such an end
abbrev Ends : List ℕ → List ℕ → ℕ → Type 0
Ends marks rest at =
    (odd even : ℕ) → Found marks 1 at odd → Found marks 0 at even
    → Ended marks (scan_from rest at (length marks) odd even)

module _ (marks : List ℕ) (at mark : ℕ) (rest : List ℕ) (left : drop at marks ≡ mark ∷ rest) where
  -- the first of the marks that are left
  pub next_after : length marks - at ≡ suc (length rest)
  next_after = simp length-drop at (ap length left)

  pub next_below : at < length marks
  next_below = omega (arith, next_after)

  next_mark : get_or marks at 0 ≡ mark
  next_mark = cc (drop-cons marks at 0 next_below)

  pub next_rest : drop (suc at) marks ≡ rest
  next_rest = cc (drop-cons marks at 0 next_below)

  pub next_error : {b : Bool} → is_error mark ≡ b → is_error (get_or marks at 0) ≡ b
  next_error h = ap is_error next_mark ∙ h

  pub next_good : is_error mark ≡ false → is_error (get_or marks at 0) ≡ true → ⊥
  next_good good bad = subst T (sym bad ∙ next_error good) tt

  pub next_odd : eqb (length rest % 2) 1 ≡ true → (length marks - 1 - at) % 2 ≡ 1
  next_odd h = omega (arith, next_after, eqb-true (length rest % 2) 1 h)

  pub next_even : eqb (length rest % 2) 1 ≡ false → (length marks - 1 - at) % 2 ≡ 0
  next_even h = omega (arith, next_after, eqb-false (length rest % 2) 1 h)

  -- what the scan does at it
  module _ (go : Ends marks rest (suc at)) (odd even : ℕ) (o : Found marks 1 at odd)
      (e : Found marks 0 at even) where
    turn_good : is_error mark ≡ false → Ended marks (scan_from rest (suc at) (length marks) odd even)
    turn_good good =
        let none = next_good good in
        go odd even (found_still marks 1 at odd o (λ bad _. none bad))
        (found_still marks 0 at even e (λ bad _. none bad))

    turn_odd : is_error mark ≡ true → eqb (length rest % 2) 1 ≡ true
        → Ended marks
        (pick (ltb odd (length marks)) (record { odd = odd; even = even; stop = at })
        (scan_from rest (suc at) (length marks) at even))
    turn_odd bad is_odd =
        let b = next_error bad in
        let p = next_odd is_odd in
        pick_by (Ended marks) (ltb odd (length marks))
        (λ h. inr (found_twice marks 1 at odd o next_below b p odd even (ltb-true odd (length marks) h)))
        (λ h. go at even (found_here marks 1 at odd o next_below b p (ltb-false odd (length marks) h))
        (found_still marks 0 at even e (λ _ q. omega arith)))

    turn_even : is_error mark ≡ true → eqb (length rest % 2) 1 ≡ false
        → Ended marks
        (pick (ltb even (length marks)) (record { odd = odd; even = even; stop = at })
        (scan_from rest (suc at) (length marks) odd at))
    turn_even bad is_even =
        let b = next_error bad in
        let p = next_even is_even in
        pick_by (Ended marks) (ltb even (length marks))
        (λ h. inr (found_twice marks 0 at even e next_below b p odd even (ltb-true even (length marks) h)))
        (λ h. go odd at (found_still marks 1 at odd o (λ _ q. omega arith))
        (found_here marks 0 at even e next_below b p (ltb-false even (length marks) h)))

ends : (marks rest : List ℕ) (at : ℕ) → drop at marks ≡ rest → Ends marks rest at
unfolding scan_from
ends marks [] at left odd even o e =
    let end : length marks ≤ at = omega (arith, simp length-drop at (ap length left)) in
    inl (refl, found_end marks 1 at odd o end, found_end marks 0 at even e end)
ends marks (mark ∷ rest) at left odd even o e =
    let go = ends marks rest (suc at) (next_rest marks at mark rest left) in
    pick_by (Ended marks) (is_error mark)
    (λ bad. pick_by (Ended marks) (eqb (length rest % 2) 1) (turn_odd marks at mark rest left go odd even o e bad)
    (turn_even marks at mark rest left go odd even o e bad))
    (turn_good marks at mark rest left go odd even o e)

pub scanned : (marks : List ℕ) → ScannedOnce marks ⊎ Stopped marks (scan_marks marks)
unfolding scan_marks
scanned marks =
    let n = length marks in
    ⊎_elim (λ d. inl (record { stop = d.0; odd = d.1; even = d.2 })) inr
    (ends marks marks 0 refl n n (found_none marks 1) (found_none marks 0))

-- an end that is reached has at most one error of each parity before it
pub reached_once : (marks : List ℕ) → ScannedOnce marks → Once marks
reached_once marks reached i j below_i below_j bad_i bad_j same =
    elim (ℕ_discrete ((length marks - 1 - i) % 2) 1) [
      | yes odd ↦
          sym (reached.odd.only i below_i bad_i odd) ∙ reached.odd.only j below_j bad_j (sym same ∙ odd)
      | no other ↦
          let even : (length marks - 1 - i) % 2 ≡ 0 = omega arith in
          sym (reached.even.only i below_i bad_i even) ∙ reached.even.only j below_j bad_j (sym same ∙ even)
    ]

pub scanned_once : (marks : List ℕ) → Once marks → ScannedOnce marks
scanned_once marks once =
    ⊎_elim (λ (reached : ScannedOnce marks). reached)
    (λ (s : Stopped marks (scan_marks marks)).
    let before : s.other < length marks = omega (arith, s.earlier, s.below) in
    absurd (omega (
      arith,
      s.earlier,
      once s.other (scan_marks marks).stop before s.below s.other_error s.error s.one_parity,
    )))
    (scanned marks)

-- ---- good marks

-- a mark that is no error is good
good_mark : (mark : ℕ) → (is_error mark ≡ true → ⊥) → mark ≡ 15
unfolding is_error
good_mark mark none = elim (ℕ_discrete mark 15) [ yes e ↦ e | no other ↦ absurd (none (ap not (ne_eqb mark 15 other))) ]

-- so is a place of the parity of an error that is found, if it is another
pub beside_good : (marks : List ℕ) (parity place : ℕ) → Found marks parity (length marks) place → place < length marks
    → (j : ℕ) → j < length marks
    → (length marks - 1 - j) % 2 ≡ (length marks - 1 - place) % 2 → (j ≡ place → ⊥) → get_or marks j 0 ≡ 15
beside_good marks parity place found some j below same other =
    good_mark (get_or marks j 0) (λ error. other (sym (found.only j below error (same ∙ found.of_parity_lem some))))

-- and one that the scan has not found
pub not_found_good : (marks : List ℕ) → ScannedOnce marks → (j : ℕ)
    → j < length marks → (j ≡ (scan_marks marks).odd → ⊥)
    → (j ≡ (scan_marks marks).even → ⊥)
    → get_or marks j 0 ≡ 15
not_found_good marks once j below not_odd not_even =
    good_mark (get_or marks j 0)
    (λ error. elim (ℕ_discrete ((length marks - 1 - j) % 2) 1) [
      | yes odd ↦ not_odd (sym (once.odd.only j below error odd))
      | no other ↦ let even : (length marks - 1 - j) % 2
          ≡ 0 = omega arith in not_even (sym (once.even.only j below error even))
    ])

-- marks that are all good are legal
pub good_legal : (n : ℕ) → legal_marks (replicate n 15) ≡ true
unfolding legal_marks legal_mark
good_legal zero = refl
good_legal (suc n) = good_legal n

-- and none is an error
pub good_once : (n : ℕ) → Once (replicate n 15)
unfolding is_error
good_once n i j hi hj ei ej same =
    let below : i < n = rw length-replicate at hi in
    absurd (false≢true (ap is_error (sym (get_or-replicate n i 15 0 below)) ∙ ei))
