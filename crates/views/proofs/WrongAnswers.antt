-- For each public function, two wrong answers that its contract does not allow.
-- Assumes nothing.
use mathlib.Core.Path.{◌≡◌, sym, ap, subst, ◌∙◌}
use mathlib.Core.List.{List, [], ◌∷◌}
use Prim.Native.Nat.{ℕ, ◌≤◌, ◌<◌}
use native.Mathlib.Omega.{arith}
use lib.ListN.{length, take, get_or, length-take}
use lib.Seq.{get_or-take, length-take-le}
use contract.Lifetimes.{Lfts}
use denote.Bor.{Bor}
use denote.Ref.{MutBor, at_last}
use Rattle.std.proofs.Common.{Some, Result}
use Rattle.common.specs.declared.refusals.Refusal.{Refusal}
use Rattle.common.specs.Pick.{pick}
use Rattle.status.specs.declared.words.ResultRecord.{ResultRecord}
use Rattle.views.specs.declared.view.View as view
use Rattle.views.specs.Told.{View, told}
use Rattle.views.specs.View.{codes_of, is_recoverable, tally, counts_of, count_bytes, stretch_count}
use Rattle.views.specs.Places.{stretch_at, unrecoverable_at, LeastWithMost, IsFirst}
use Rattle.views.specs.Held.{held_end, held_codes, held_view, held_view_into}
use Rattle.views.proofs.Along.{admitted, codes_length}
use Rattle.views.proofs.view.moving_view.Reads as f-reads
use Rattle.views.proofs.Demands.{Allows, refusal_is, ok, each_stretch_is_counted_afresh, the_first_has_most}

-- ---- moving_view

module _ (run : List ResultRecord) (width : ℕ) (space : List ℕ) (r : View) (after : List ℕ)
    (allowed : Allows run width space r after) where
  -- of two stretches with as many codes 16 the later is given
  pub moving_view_gives_the_later_of_two : (first second : ℕ) → r.refusal ≡ 0 → first < second
      → unrecoverable_at width (codes_of run) first ≡ unrecoverable_at width (codes_of run) second
      → r.first ≡ Some second
      → ⊥
  unfolding IsFirst
  moving_view_gives_the_later_of_two first second done earlier alike wrong =
      let right : LeastWithMost width (codes_of run) second = subst (IsFirst width (codes_of run)) wrong
      (the_first_has_most run width space r after allowed done) in
      omega (arith, right.min first earlier, alike)

-- codes 15 are read in decimal: a record with code 0F is counted as one with code 15
pub moving_view_reads_codes_in_decimal : (motion count : ℕ) (space : List ℕ) (r : View) (after : List ℕ)
    → Allows (record { code = 15; motion = motion; count = count } ∷ []) 1 space r after → r.refusal ≡ 0
    → get_or after 0 0 ≡ 1 → ⊥
unfolding codes_of stretch_at counts_of count_bytes tally is_recoverable stretch_count pick
moving_view_reads_codes_in_decimal motion count space r after allowed done wrong =
    let fresh = (each_stretch_is_counted_afresh (record { code = 15; motion = motion; count = count } ∷ [])
    1 space r after allowed done).1 0 (omega arith) in
    let right : get_or after 0 0
    ≡ 0 = sym (get_or-take 3 after 0 0 (omega arith)) ∙ ap (λ (l : List ℕ). get_or l 0 0) fresh in
    omega (arith, right, wrong)

-- ---- moving_view, of a run that is held in an array

-- the view of so many of its records
abbrev HeldAllows : List ResultRecord → ℕ → ℕ → List ℕ → View → List ℕ → Type 0
HeldAllows run count width space r after =
    (r ≡ held_view run count width (length space)) × (after ≡ held_view_into run count width space)

-- it is what `moving_view` allows of the slice of them
pub held_is_lent : (run : List ResultRecord) (count width : ℕ) (space : List ℕ) (r : View) (after : List ℕ)
    → Allows (take (held_end count) run) width space r after → HeldAllows run count width space r after
unfolding held_view held_view_into held_codes
held_is_lent run count width space r after allowed = allowed

-- and these are the words of its contract, of the slice of them
pub these_are_its_words : (κs : Lfts 2) (run : List ResultRecord) (count width : ℕ) (lent : Bor (List ResultRecord))
    (out : MutBor (List ℕ)) (answer : Result view.View Refusal) (after : List ℕ)
    → lent.now ≡ take (held_end count) run
    → f-reads.Post κs (lent, (width, (out, tt))) answer (lent, (width, (at_last out after, tt)))
    ≡ HeldAllows run count width out.now (told answer) after
unfolding held_view held_view_into held_codes
these_are_its_words κs run count width lent out answer after held =
    ap (λ (records : List ResultRecord). Allows records width out.now (told answer) after) held

module _ (run : List ResultRecord) (count width : ℕ) (space : List ℕ) (r : View) (after : List ℕ)
    (allowed : HeldAllows run count width space r after) where
  -- it is the view of the run that is held
  as_lent : Allows (take (held_end count) run) width space r after
  unfolding held_view held_view_into held_codes
  as_lent = allowed

  -- records behind the count are looked at: of no record there is a stretch
  pub held_view_looks_behind_the_count : count ≡ 0 → r.refusal ≡ 0 → 1 ≤ r.stretches → ⊥
  unfolding held_end stretch_count codes_of
  held_view_looks_behind_the_count none done wrong =
      omega (
        arith,
        none,
        wrong,
        (each_stretch_is_counted_afresh (take (held_end count) run) width space r after as_lent done).0,
        (ok (take (held_end count) run) width space r after as_lent done).some,
        codes_length (take (held_end count) run),
        length-take (held_end count) run,
      )

  -- a run above 65,535 records is taken
  pub held_view_takes_a_run_above_the_limit : length run ≡ 65536 → 65535 < count → r.refusal ≡ 0 → ⊥
  unfolding held_end
  held_view_takes_a_run_above_the_limit whole many done =
      omega (
        arith,
        (admitted width (length (codes_of (take (held_end count) run))) (length space)
            (sym (refusal_is _ width space r after as_lent) ∙ done)).short,
        codes_length (take (held_end count) run),
        length-take-le (held_end count) run (omega (arith, whole)),
      )
