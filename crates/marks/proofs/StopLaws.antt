-- Where the scan stops: at the first place that holds the second error of its parity (`stops_at`), by the same
-- induction as in ScanLaws; and what it tells where there is no error, or none that stops it.
-- Assumes nothing.
use Prim.Native.Nat.{ℕ, ◌≤◌, ◌<◌, ◌-◌, ◌%◌}
use Prim.Native.Nat.{suc}
use native.Mathlib.Decide.{ℕ_discrete}
use native.Mathlib.Omega.{arith}
use mathlib.Core.Bool.{Bool, true, false, ◌||◌, or-true}
use mathlib.Core.List.{List, [], ◌∷◌}
use mathlib.Core.Path.{◌≡◌, refl, sym, ap, ◌∙◌}
use borrow.Author.Tests.{ltb-true, ltb-false, lt-ltb, le-ltb}
use lib.Dec.{eqb, ltb}
use lib.ListN.{length, get_or, drop, length-drop}
use Rattle.common.specs.Pick.{pick}
use Rattle.common.proofs.PickLaws.{by_test, pick_by}
use Rattle.marks.specs.Marks.{is_error, Once}
use Rattle.marks.specs.Scan.{scan_from, scan_marks, is_found, findings_of}
use Rattle.marks.specs.declared.Scan.{Scan}
use Rattle.marks.proofs.ScanLaws.{Found, ScannedOnce, scanned_once, found_none, found_still, found_here}
use Rattle.marks.proofs.ScanLaws.{next_below, next_rest, next_error, next_good, next_odd, next_even}
use Rattle.marks.proofs.FindingLaws.{found_below, stop_found}

-- ---- two errors of one parity

pub record IsSecond (marks : List ℕ) (first second : ℕ) : Type 0 where
  pub earlier : first < second
  pub below : second < length marks
  pub one : is_error (get_or marks first 0) ≡ true
  pub two : is_error (get_or marks second 0) ≡ true
  pub alike : (length marks - 1 - first) % 2 ≡ (length marks - 1 - second) % 2

-- where there are none, each parity has at most one
pub never_once : (marks : List ℕ) → ((i j : ℕ) → IsSecond marks i j → ⊥) → Once marks
never_once marks never i j hi hj ei ej same =
    elim (ℕ_discrete i j) [
      | yes e ↦ e
      | no other ↦
          by_test (ltb i j)
          (λ less. absurd (never i j
          (record { earlier = ltb-true i j less; below = hj; one = ei; two = ej; alike = same })))
          (λ more.
          let past = ltb-false i j more in
          absurd (never j i
          (record { earlier = omega arith; below = hi; one = ej; two = ei; alike = sym same })))
    ]

module _ (marks : List ℕ) (first stop : ℕ) (second : IsSecond marks first stop)
    (never : (i j : ℕ) → j < stop → IsSecond marks i j → ⊥) where
  abbrev Halts : List ℕ → ℕ → Type 0
  Halts rest at =
      (odd even : ℕ) → Found marks 1 at odd → Found marks 0 at even
      → (scan_from rest at (length marks) odd even).stop ≡ stop

  -- an error at the place `at`, where one of its parity was found before, or none was
  module _ (parity at place : ℕ) (f : Found marks parity at place) (reached : at ≤ stop)
      (e : is_error (get_or marks at 0) ≡ true)
      (p : (length marks - 1 - at) % 2 ≡ parity) where
    halted : place < length marks → at ≡ stop
    halted some =
        elim (ℕ_discrete at stop) [
          | yes same ↦ same
          | no other ↦
              absurd (never place at (omega arith)
              (record {
                earlier = f.before some;
                below = omega (arith, second.below);
                one = f.error some;
                two = e;
                alike = f.of_parity_lem some ∙ sym p;
              }))
        ]

    passed_on : length marks ≤ place → at < stop
    passed_on none =
        elim (ℕ_discrete at stop) [
          | yes same ↦
              let parities : (length marks - 1 - first) % 2 ≡ parity =
              second.alike ∙ ap (λ (n : ℕ). (length marks - 1 - n) % 2) (sym same) ∙ p in
              let found : place ≡ first = f.only first (omega (arith, second.earlier)) second.one parities in
              absurd (omega (arith, second.earlier, second.below))
          | no other ↦ omega arith
        ]

  module _ (at mark : ℕ) (rest : List ℕ) (left : drop at marks ≡ mark ∷ rest) (reached : at ≤ stop)
      (go : at < stop → Halts rest (suc at)) (odd even : ℕ) (o : Found marks 1 at odd) (e : Found marks 0 at even) where
    turn_good : is_error mark ≡ false → (scan_from rest (suc at) (length marks) odd even).stop ≡ stop
    turn_good good =
        let none = next_good marks at mark rest left good in
        let on : at < stop = elim (ℕ_discrete at stop) [
          | yes same ↦ absurd (none (ap (λ (n : ℕ). is_error (get_or marks n 0)) same ∙ second.two))
          | no other ↦ omega arith
        ] in
        go on odd even (found_still marks 1 at odd o (λ bad _. none bad))
        (found_still marks 0 at even e (λ bad _. none bad))

    turn_odd : is_error mark ≡ true → eqb (length rest % 2) 1 ≡ true
        → (pick (ltb odd (length marks)) (record { odd = odd; even = even; stop = at })
        (scan_from rest (suc at) (length marks) at even)).stop
        ≡ stop
    turn_odd bad is_odd =
        let b = next_error marks at mark rest left bad in
        let p = next_odd marks at mark rest left is_odd in
        pick_by (λ (s : Scan). s.stop ≡ stop) (ltb odd (length marks))
        (λ h. halted 1 at odd o reached b p (ltb-true odd (length marks) h))
        (λ h.
        let none = ltb-false odd (length marks) h in
        go (passed_on 1 at odd o reached b p none) at even
        (found_here marks 1 at odd o (next_below marks at mark rest left) b p none)
        (found_still marks 0 at even e (λ _ q. omega arith)))

    turn_even : is_error mark ≡ true → eqb (length rest % 2) 1 ≡ false
        → (pick (ltb even (length marks)) (record { odd = odd; even = even; stop = at })
        (scan_from rest (suc at) (length marks) odd at)).stop
        ≡ stop
    turn_even bad is_even =
        let b = next_error marks at mark rest left bad in
        let p = next_even marks at mark rest left is_even in
        pick_by (λ (s : Scan). s.stop ≡ stop) (ltb even (length marks))
        (λ h. halted 0 at even e reached b p (ltb-true even (length marks) h))
        (λ h.
        let none = ltb-false even (length marks) h in
        go (passed_on 0 at even e reached b p none) odd at
        (found_still marks 1 at odd o (λ _ q. omega arith))
        (found_here marks 0 at even e (next_below marks at mark rest left) b p none))

  halts : (rest : List ℕ) (at : ℕ) → drop at marks ≡ rest → at ≤ stop → Halts rest at
  unfolding scan_from
  halts [] at left reached odd even o e =
      absurd (omega (arith, simp length-drop at (ap length left), second.below))
  halts (mark ∷ rest) at left reached odd even o e =
      let go : at < stop → Halts rest (suc at) = λ on. halts rest (suc at) (next_rest marks at mark rest left) on in
      pick_by (λ (s : Scan). s.stop ≡ stop) (is_error mark)
      (λ bad. pick_by (λ (s : Scan). s.stop ≡ stop) (eqb (length rest % 2) 1)
      (turn_odd at mark rest left reached go odd even o e bad)
      (turn_even at mark rest left reached go odd even o e bad))
      (turn_good at mark rest left reached go odd even o e)

  -- the scan stops there
  pub stops_at : (scan_marks marks).stop ≡ stop
  unfolding scan_marks
  stops_at =
      halts marks 0 refl (omega arith) (length marks) (length marks) (found_none marks 1) (found_none marks 0)

  -- and tells so
  pub stop_told : is_found (findings_of marks).stop ≡ true
  stop_told =
      stop_found marks ∙ ap (λ (n : ℕ). ltb n (length marks)) stops_at ∙ lt-ltb stop (length marks) second.below

-- ---- what is told where nothing stops it

module _ (marks : List ℕ) (once : Once marks) where
  scanned : ScannedOnce marks
  scanned = scanned_once marks once

  pub unstopped : is_found (findings_of marks).stop ≡ false
  unstopped =
      stop_found marks ∙ ap (λ (n : ℕ). ltb n (length marks)) scanned.stop
      ∙ le-ltb (length marks) (length marks) (omega arith)

  -- no error is found where there is none
  module _ (none : (i : ℕ) → i < length marks → is_error (get_or marks i 0) ≡ true → ⊥) where
    absent : (parity place : ℕ) → Found marks parity (length marks) place → ltb place (length marks) ≡ false
    absent parity place f =
        by_test (ltb place (length marks))
        (λ some. let there = ltb-true place (length marks) some in absurd (none place there (f.error there)))
        (λ gone. gone)

    pub nothing_found : (is_found (findings_of marks).odd || is_found (findings_of marks).even) ≡ false
    unfolding findings_of
    nothing_found =
        rw (
          found_below marks (scan_marks marks).odd,
          found_below marks (scan_marks marks).even,
          absent 1 _ scanned.odd,
          absent 0 _ scanned.even,
        )

  -- and one is, where there is one
  module _ (i : ℕ) (below : i < length marks) (bad : is_error (get_or marks i 0) ≡ true) where
    present : (parity place : ℕ) → Found marks parity (length marks) place → (length marks - 1 - i) % 2 ≡ parity
        → ltb place (length marks) ≡ true
    present parity place f own =
        lt-ltb place (length marks) (let same : place ≡ i = f.only i below bad own in omega arith)

    pub something_found : (is_found (findings_of marks).odd || is_found (findings_of marks).even) ≡ true
    unfolding findings_of
    something_found =
        elim (ℕ_discrete ((length marks - 1 - i) % 2) 1) [
          | yes odd ↦ rw (found_below marks (scan_marks marks).odd, present 1 _ scanned.odd odd)
          | no other ↦
              let even : (length marks - 1 - i) % 2 ≡ 0 = omega arith in
              ap (λ (t : Bool). is_found (findings_of marks).odd || t)
              (found_below marks (scan_marks marks).even ∙ present 0 _ scanned.even even)
              ∙ or-true (is_found (findings_of marks).odd)
        ]
