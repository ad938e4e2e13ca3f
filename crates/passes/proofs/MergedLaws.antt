-- What a merged pass holds at each place, which of its marks are errors, and when no blockette is good in both and
-- unlike.
-- Assumes nothing.
use mathlib.Core.Path.{◌≡◌, refl, sym, ap, ap₂, ◌∙◌}
use Prim.Native.Nat.{ℕ, zero, suc, ◌+◌, ◌*◌, ◌≤◌, ◌<◌}
use native.Mathlib.Nat.{le_of_eq, lt_of_not-le, mul-suc, one-mul, mul-le-mul_left}
use native.Mathlib.Decide.{dec_le}
use native.Mathlib.Omega.{arith}
use mathlib.Core.Bool.{Bool, true, false, not, ◌&&◌}
use mathlib.Core.List.{List, [], ◌∷◌, ◌++◌}
use lib.Dec.{eqb}
use lib.ListN.{length, get_or, take, drop, length-drop}
use lib.Seq.{take_all, drop_at, take-append-le, drop-append-le, get_or-take, get_or-drop}
use borrow.Author.Tests.{eq-eqb, eqb-true, not-false}
use Rattle.common.proofs.PickLaws.{by_test, pick_by, pick_yes, pick_no}
use Rattle.blockettes.specs.Blockettes.{blockette_at}
use Rattle.blockettes.proofs.Checked.{blockette_length_lem}
use Rattle.marks.specs.Marks.{legal_mark, legal_marks, is_error}
use Rattle.marks.proofs.LegalLaws.{each_legal, all_legal}
use Rattle.passes.specs.Passes.{same_bytes, clash_at, clashes, takes_second, merged_mark, merged_marks}
use Rattle.passes.specs.Passes.{joined, merged_at, merged_blockettes}
use Rattle.passes.proofs.PassLaws.{none_found, joined_length, merged_length}

-- ---- parts one behind the other

-- each of k elements stands at k times its place
pub joined_part : (part : ℕ → List ℕ) (k n : ℕ) → ((place : ℕ) → place < n → length (part place) ≡ k) → (place : ℕ)
    → place < n
    → take k (drop (k * place) (joined part n)) ≡ part place
unfolding joined
joined_part part k zero each place below = absurd (omega arith)
joined_part part k (suc n) each place below =
    let front = joined part n in
    let earlier_each : (p : ℕ) → p < n → length (part p) ≡ k = λ p b. each p (omega arith) in
    let long : length front ≡ k * n = joined_length part k n earlier_each in
    elim (dec_le n place) [
      | yes last ↦
          let same : place ≡ n = omega arith in
          ap (λ (p : ℕ). take k (drop (k * p) (front ++ part n))) same
          ∙ ap (take k) (drop_at front (part n) (k * n) long)
          ∙ take_all k (part n) (le_of_eq (each n (omega arith)))
          ∙ ap part (sym same)
      | no earlier ↦
          let before : place < n = lt_of_not-le earlier in
          let fits : k * suc place ≤ k * n = mul-le-mul_left k before in
          let next : k * suc place ≡ k * place + k = mul-suc k place in
          let start : k * place ≤ length front = omega (arith, long, fits, next) in
          let room : k ≤ length (drop (k * place) front) = simp length-drop (omega (arith, long, fits, next)) in
          ap (take k) (drop-append-le (k * place) front (part n) start)
          ∙ take-append-le k (drop (k * place) front) (part n) room
          ∙ joined_part part k n earlier_each place before
    ]

-- a single element at its place
pub joined_element : (element : ℕ → ℕ) (n place : ℕ) → place < n
    → get_or (joined (λ p. element p ∷ []) n) place 0 ≡ element place
joined_element element n place below =
    let all = joined (λ p. element p ∷ []) n in
    let here : 1 * place + 0 ≡ place = omega arith in
    sym (ap (λ (k : ℕ). get_or all k 0) here)
    ∙ sym (get_or-drop (1 * place) all 0 0)
    ∙ sym (get_or-take 1 (drop (1 * place) all) 0 0 (omega arith))
    ∙ ap (λ (l : List ℕ). get_or l 0 0) (joined_part (λ p. element p ∷ []) 1 n (λ p b. refl) place below)

-- ---- the merged marks

pub marks_length : (first_marks second_marks : List ℕ)
    → length (merged_marks first_marks second_marks) ≡ length first_marks
unfolding merged_marks
marks_length first_marks second_marks =
    joined_length _ 1 (length first_marks) (λ place below. refl) ∙ one-mul (length first_marks)

module _ (first_marks second_marks : List ℕ) (place : ℕ) (below : place < length first_marks) where
  pub mark_at : get_or (merged_marks first_marks second_marks) place 0
      ≡ merged_mark (get_or first_marks place 0) (get_or second_marks place 0)
  unfolding merged_marks
  mark_at =
      joined_element (λ p. merged_mark (get_or first_marks p 0) (get_or second_marks p 0))
      (length first_marks) place below

-- "A merged blockette is bad only if both passes had it bad", and good exactly if one had it good
pub mark_bad : (first_mark second_mark : ℕ)
    → is_error (merged_mark first_mark second_mark) ≡ (is_error first_mark && is_error second_mark)
unfolding merged_mark takes_second
mark_bad first_mark second_mark =
    by_test (is_error first_mark)
    (λ bad.
    by_test (is_error second_mark)
    (λ bad_too. ap is_error (pick_no second_mark first_mark (ap₂ (λ (a b : Bool). a && not b) bad bad_too)) ∙ bad
    ∙ sym (ap₂ ◌&&◌ bad bad_too))
    (λ good. ap is_error (pick_yes second_mark first_mark (ap₂ (λ (a b : Bool). a && not b) bad good)) ∙ good
    ∙ sym (ap₂ ◌&&◌ bad good)))
    (λ good.
    ap is_error (pick_no second_mark first_mark (ap (λ (a : Bool). a && not (is_error second_mark)) good)) ∙ good
    ∙ sym (ap (λ (a : Bool). a && is_error second_mark) good))

-- legal marks merge to legal ones
pub merged_legal : (first_marks second_marks : List ℕ) → length second_marks ≡ length first_marks
    → legal_marks first_marks ≡ true
    → legal_marks second_marks ≡ true → legal_marks (merged_marks first_marks second_marks) ≡ true
unfolding merged_mark
merged_legal first_marks second_marks as_many one two =
    all_legal (merged_marks first_marks second_marks)
    (λ place within.
    let below : place < length first_marks = omega (arith, marks_length first_marks second_marks) in
    ap legal_mark (mark_at first_marks second_marks place below)
    ∙ pick_by (λ (m : ℕ). legal_mark m ≡ true) (takes_second (get_or first_marks place 0) (get_or second_marks place 0))
    (λ other. each_legal second_marks two place (omega arith))
    (λ own. each_legal first_marks one place below))

-- ---- the merged blockettes

-- one that is marked good is what the pass holds that it comes from
pub merged_good : (first second built : List ℕ) (first_mark second_mark place : ℕ)
    → merged_mark first_mark second_mark ≡ 15
    → (first_mark ≡ 15 → blockette_at first place ≡ built) → (second_mark ≡ 15 → blockette_at second place ≡ built)
    → merged_at first first_mark second second_mark place ≡ built
unfolding merged_mark merged_at
merged_good first second built first_mark second_mark place fine one two =
    by_test (takes_second first_mark second_mark)
    (λ other. pick_yes _ _ other ∙ two (sym (pick_yes second_mark first_mark other) ∙ fine))
    (λ own. pick_no _ _ own ∙ one (sym (pick_no second_mark first_mark own) ∙ fine))

module _ (first first_marks second second_marks : List ℕ) (long : length first ≡ 256 * length first_marks)
    (as_long : length second ≡ 256 * length first_marks) where
  part_length : (place : ℕ) → place < length first_marks
      → length (merged_at first (get_or first_marks place 0) second (get_or second_marks place 0) place) ≡ 256
  part_length place below =
      merged_length first second (get_or first_marks place 0) (get_or second_marks place 0) place
      (blockette_length_lem first place (omega arith)) (blockette_length_lem second place (omega arith))

  pub blockettes_length : length (merged_blockettes first first_marks second second_marks) ≡ 256 * length first_marks
  unfolding merged_blockettes
  blockettes_length = joined_length _ 256 (length first_marks) part_length

  pub merged_at_lem : (place : ℕ) → place < length first_marks
      → blockette_at (merged_blockettes first first_marks second second_marks) place
      ≡ merged_at first (get_or first_marks place 0) second (get_or second_marks place 0) place
  unfolding merged_blockettes blockette_at
  merged_at_lem place below = joined_part _ 256 (length first_marks) part_length place below

-- ---- no clash

-- a string is the same as itself
pub same_itself : (l : List ℕ) → same_bytes l l ≡ true
unfolding same_bytes
same_itself [] = refl
same_itself (x ∷ xs) = ap₂ ◌&&◌ (eq-eqb x x refl) (same_itself xs)

-- a mark that is no error is 15
pub good_mark : (mark : ℕ) → is_error mark ≡ false → mark ≡ 15
unfolding is_error
good_mark mark fine = eqb-true mark 15 (not-false (eqb mark 15) fine)

-- two passes that each hold the built bytes where they are good
pub none_clash : (first first_marks second second_marks built : List ℕ)
    → ((place : ℕ) → place < length first_marks → get_or first_marks place 0 ≡ 15
    → blockette_at first place ≡ blockette_at built place)
    → ((place : ℕ) → place < length first_marks → get_or second_marks place 0 ≡ 15
    → blockette_at second place ≡ blockette_at built place)
    → clashes first first_marks second second_marks ≡ false
unfolding clashes clash_at
none_clash first first_marks second second_marks built one two =
    none_found _ (length first_marks)
    (λ place below.
    let f = get_or first_marks place 0 in
    let s = get_or second_marks place 0 in
    by_test (is_error f)
    (λ bad. ap
    (λ (b : Bool). not b
    && (not (is_error s) && not (same_bytes (blockette_at first place) (blockette_at second place)))) bad)
    (λ good.
    by_test (is_error s)
    (λ bad. ap₂
    (λ (a b : Bool). not a && (not b && not (same_bytes (blockette_at first place) (blockette_at second place))))
    good bad)
    (λ good_too.
    let alike : blockette_at second place
    ≡ blockette_at first place = two place below (good_mark s good_too) ∙ sym (one place below (good_mark f good)) in
    ap₂ (λ (a b : Bool). not a && (not b && not (same_bytes (blockette_at first place) (blockette_at second place))))
    good good_too
    ∙ ap (λ (l : List ℕ). not (same_bytes (blockette_at first place) l)) alike
    ∙ ap not (same_itself (blockette_at first place)))))
