-- The refusals of the functions for C are those of the tables in `Refused.antt`, and the lengths those written there.
-- Assumes nothing.
use mathlib.Core.Path.{◌≡◌, refl, sym, ap, ap₂, ◌∙◌}
use Prim.Native.Nat.{ℕ, ◌+◌, ◌-◌, ◌*◌, ◌/◌, ◌%◌, ◌≤◌, ◌<◌}
use native.Mathlib.Omega.{arith}
use mathlib.Core.Bool.{Bool, true, false, not, ◌||◌, false≢true}
use mathlib.Core.List.{List, [], ◌∷◌}
use mathlib.Core.Logic.{⊎_elim}
use lib.Dec.{leb, ltb, eqb}
use lib.ListN.{length, take, drop, get_or}
use lib.Seq.{drop-drop}
use borrow.Author.Tests.{ltb-true, ltb-false, lt-ltb, le-ltb, leb-true, le-leb, eqb-true, eqb-false, eq-eqb}
use borrow.Author.Tests.{ne_eqb, not-true}
use Rattle.common.specs.Pick.{pick}
use Rattle.common.specs.FirstOf.{FirstOf}
use Rattle.common.proofs.PickLaws.{by_test, pick_yes, pick_no}
use Rattle.common.proofs.FirstOfLaws.{by_holding, by_failing, by_below, by_unlike}
use Rattle.marks.specs.Marks.{legal_mark, legal_marks, is_error}
use Rattle.marks.specs.Scan.{scan_marks}
use Rattle.marks.proofs.LegalLaws.{each_legal, illegal_found}
use Rattle.marks.proofs.ScanLaws.{ScannedOnce, Stopped, scanned, reached_once}
use Rattle.blockettes.specs.Blockettes.{blockette_at}
use Rattle.passes.specs.Passes.{clashes}
use Rattle.passes.proofs.ClashLaws.{clash_found, clash_holds}
use Rattle.records.specs.Count.{limit, unrotated, count_of}
use Rattle.records.specs.Image.{blockette_count, has_blockettes, image_length, mark_count}
use Rattle.records.specs.Place.{is_place}
use Rattle.records.specs.Build.{build_refusal}
use Rattle.records.specs.Whole.{layout_refusal, whole_refusal}
use Rattle.records.specs.Restore.{restore_refusal}
use Rattle.records.specs.Merge.{Pass, pass_refusal, either_refused, pair_refusal, room_refusal, merge_refusal}
use Rattle.records.specs.Interface.{image_length_within, mark_count_within, image_count, scan_refusal}
use Rattle.records.specs.Verify.{unfit_even, unfit_odd, check_fits, unfit_checks, verify}
use Rattle.records.specs.Refused.{said_count, marks_in, length_in, number_at, MarkValue, TwoBad, GoodAndUnlike}
use Rattle.records.specs.Refused.{BuildRefused, RestoreRefused, MergeRefused, ScanRefused, LengthTold, MarksTold}
use Rattle.records.specs.Refused.{CountTold, CheckFits, HasChecks, VerifyTold}
use Rattle.records.proofs.VerifyLaws.{Fits, verified, verified_empty, verified_wrong, unfit_by, is_fits}
use Rattle.records.proofs.VerifyLaws.{is_unfit}

-- ---- the numbers that are written out are those of the definitions

pub said : (image : List ℕ) → count_of image ≡ said_count image
unfolding count_of unrotated said_count
said image = refl

pub marks_in_lem : (c : ℕ) → mark_count c 1 ≡ marks_in c
unfolding mark_count has_blockettes blockette_count marks_in pick
marks_in_lem c = by_test (eqb c 0) (λ none. simp none) (λ some. simp some)

pub length_in_lem : (c density : ℕ) → image_length c density ≡ length_in c density
unfolding image_length has_blockettes blockette_count length_in marks_in pick
length_in_lem c density =
    by_test (eqb density 0) (λ mfm. simp mfm)
    (λ gcr.
    by_test (eqb c 0) (λ none. simp (gcr, none) (omega (arith, eqb-true c 0 none))) (λ some. simp (gcr, some)))

-- ---- marks

-- a mark that is legal is 1 to 9 or 15
no_mark : (mark : ℕ) → legal_mark mark ≡ false → ((1 ≤ mark) × (mark ≤ 9) → ⊥) × (mark ≡ 15 → ⊥)
unfolding legal_mark
no_mark mark illegal = (
  λ within. false≢true (sym illegal ∙ simp (le-leb 1 mark within.0, le-leb mark 9 within.1)),
  λ good. false≢true (sym illegal ∙ rw good),
)

a_mark : (mark : ℕ) → legal_mark mark ≡ true → ((1 ≤ mark) × (mark ≤ 9) → ⊥) → (mark ≡ 15 → ⊥) → ⊥
unfolding legal_mark
a_mark mark legal outside bad =
    by_test (leb 1 mark)
    (λ some.
    by_test (leb mark 9) (λ few. outside (leb-true 1 mark some, leb-true mark 9 few))
    (λ many. false≢true (simp (some, many, ne_eqb mark 15 bad) at legal)))
    (λ none. false≢true (simp (none, ne_eqb mark 15 bad) at legal))

module _ (marks : List ℕ) where
  mark_value_lem : legal_marks marks ≡ false → MarkValue marks
  mark_value_lem illegal =
      let found = illegal_found marks illegal in
      let outside = no_mark (get_or marks found.0 0) found.2 in
      (found.0, found.1, outside.0, outside.1)

  value_refused : MarkValue marks → legal_marks marks ≡ false
  value_refused wrong =
      by_test (legal_marks marks)
      (λ legal. absurd (a_mark _ (each_legal marks legal wrong.0 wrong.1) wrong.2 wrong.3))
      (λ illegal. illegal)

  -- two numbers have one parity where as many others follow them
  abbrev OneParity : ℕ → ℕ → Type 0
  OneParity one other = (length marks - 1 - one) % 2 ≡ (length marks - 1 - other) % 2

  parity_at_lem : (place : ℕ) → place < length marks → 2 ≤ length marks
      → number_at (length marks - 2) place % 2 ≡ (length marks - 1 - place) % 2
  unfolding number_at pick
  parity_at_lem place below some =
      by_test (ltb place (length marks - 2))
      (λ of_data. simp of_data (omega (arith, ltb-true place (length marks - 2) of_data)))
      (λ of_check. simp of_check (omega (arith, ltb-false place (length marks - 2) of_check)))

  bad_mark : (place : ℕ) → is_error (get_or marks place 0) ≡ true → get_or marks place 0 ≡ 15 → ⊥
  unfolding is_error
  bad_mark place error good = eqb-false _ 15 (not-true _ error) good

  mark_bad : (place : ℕ) → (get_or marks place 0 ≡ 15 → ⊥) → is_error (get_or marks place 0) ≡ true
  unfolding is_error
  mark_bad place bad = ap not (ne_eqb _ 15 bad)

  -- the scan stops exactly where there are two bad of one parity
  stops_at_two : ltb (scan_marks marks).stop (length marks) ≡ true → TwoBad marks
  stops_at_two stops =
      let before = ltb-true (scan_marks marks).stop (length marks) stops in
      ⊎_elim (λ (reached : ScannedOnce marks). absurd (omega (arith, before, reached.stop)))
      (λ (s : Stopped marks (scan_marks marks)).
      let stop = (scan_marks marks).stop in
      let one_below : s.other < length marks = omega (arith, s.earlier, s.below) in
      let some : 2 ≤ length marks = omega (arith, s.earlier, s.below) in (
        s.other,
        stop,
        s.earlier,
        s.below,
        bad_mark s.other s.other_error,
        bad_mark stop s.error,
        parity_at_lem s.other one_below some ∙ s.one_parity ∙ sym (parity_at_lem stop s.below some),
      ))
      (scanned marks)

  two_stop : TwoBad marks → ltb (scan_marks marks).stop (length marks) ≡ true
  two_stop two =
      let one = two.0 in
      let other = two.1 in
      let one_below : one < length marks = omega (arith, two.2, two.3) in
      let some : 2 ≤ length marks = omega (arith, two.2, two.3) in
      let same : OneParity one other = sym (parity_at_lem one one_below some)
      ∙ two.6 ∙ parity_at_lem other two.3 some in
      ⊎_elim
      (λ (reached : ScannedOnce marks).
      absurd (omega (
        arith,
        two.2,
        reached_once marks reached one other one_below two.3 (mark_bad one two.4) (mark_bad other two.5) same,
      )))
      (λ (s : Stopped marks (scan_marks marks)). lt-ltb _ _ s.below) (scanned marks)

-- ---- the builder

-- neither in the bytes nor none
module _ (c place : ℕ) where
  no_place : is_place c place ≡ false → (place < c → ⊥) × (place ≡ 65791 → ⊥)
  unfolding is_place
  no_place fails = (
    λ inside. false≢true (sym fails ∙ rw (lt-ltb place c inside)),
    λ none. by_test (ltb place c) (λ t. false≢true (sym fails ∙ rw t))
        (λ t. false≢true (sym fails ∙ rw (t, eq-eqb place 65791 none))),
  )

  place_refused : (place < c → ⊥) × (place ≡ 65791 → ⊥) → is_place c place ≡ false
  unfolding is_place
  place_refused wrong =
      by_test (ltb place c) (λ inside. absurd (wrong.0 (ltb-true place c inside)))
      (λ outside. rw (outside, ne_eqb place 65791 wrong.1))

pub build_refused : (c density place space : ℕ)
    → BuildRefused c density place space (build_refusal c density place space)
unfolding FirstOf build_refusal limit pick
build_refused c density place space =
    let l = length_in_lem c density in
    by_below 65535 c (λ many. simp many)
    (λ few.
    by_below space (length_in c density) (λ short. simp (few, l, short))
    (λ room.
    by_failing (is_place c place) (no_place c place) (place_refused c place) (λ wrong. simp (few, l, room, wrong))
    (λ right. simp (few, l, room, right))))

-- ---- an image and its marks

module _ (image marks : List ℕ) where
  abbrev count : ℕ
  count = said_count image

  whole_is : whole_refusal image marks 1
      ≡ pick (ltb (length image) 2) 9
      (pick (not (eqb (length image) (length_in count 1))) 9
      (pick (not (eqb (length marks) (marks_in count))) 9 (pick (legal_marks marks) 0 10)))
  unfolding whole_refusal layout_refusal
  whole_is =
      ap₂
      (λ (l m : ℕ). pick (ltb (length image) 2) 9
      (pick (not (eqb (length image) l)) 9 (pick (not (eqb (length marks) m)) 9 (pick (legal_marks marks) 0 10))))
      (ap (λ (n : ℕ). image_length n 1) (said image) ∙ length_in_lem count 1)
      (ap (λ (n : ℕ). mark_count n 1) (said image) ∙ marks_in_lem count)

  module _ (two : ltb (length image) 2 ≡ false) where
    module _ (long : eqb (length image) (length_in count 1) ≡ true) where
      wrong_marks : eqb (length marks) (marks_in count) ≡ false → whole_refusal image marks 1 ≡ 9
      unfolding pick
      wrong_marks wrong = whole_is ∙ simp (two, long, wrong)

      by_marks : eqb (length marks) (marks_in count) ≡ true
          → whole_refusal image marks 1 ≡ pick (legal_marks marks) 0 10
      unfolding pick
      by_marks marked = whole_is ∙ simp (two, long, marked)

    wrong_long : eqb (length image) (length_in count 1) ≡ false → whole_refusal image marks 1 ≡ 9
    unfolding pick
    wrong_long wrong = whole_is ∙ simp (two, wrong)

  too_short : ltb (length image) 2 ≡ true → whole_refusal image marks 1 ≡ 9
  unfolding pick
  too_short short = whole_is ∙ simp short

  -- ---- the restorer

  pub restore_refused : (space : ℕ) → RestoreRefused image marks space (restore_refusal image marks space)
  unfolding FirstOf restore_refusal pick
  restore_refused space =
      let s = said image in
      by_below (length image) 2 (λ short. simp (too_short short))
      (λ two.
      by_unlike (length image) (length_in count 1) (λ wrong. simp (wrong_long two wrong))
      (λ long.
      by_unlike (length marks) (marks_in count) (λ wrong. simp (wrong_marks two long wrong))
      (λ marked.
      by_failing (legal_marks marks) (mark_value_lem marks) (value_refused marks)
      (λ illegal. simp (by_marks two long marked, illegal))
      (λ legal.
      let passed = by_marks two long marked in
      by_below space count (λ short. simp (passed, legal, s, short))
      (λ room.
      by_holding (ltb (scan_marks marks).stop (length marks)) (stops_at_two marks) (two_stop marks)
      (λ stops. simp (passed, legal, s, room, stops))
      (λ ends. simp (passed, legal, s, room, ends)))))))

-- ---- merging

-- what it answers, by the refusals of the two passes
module _ (one other pair room : ℕ) where
  abbrev answer : ℕ
  answer =
      pick (eqb one 9 || eqb other 9) 9
      (pick (eqb one 10 || eqb other 10) 10 (pick (not (eqb pair 0)) pair room))

  nine_first : one ≡ 9 → answer ≡ 9
  unfolding pick
  nine_first e = simp e

  nine_second : other ≡ 9 → answer ≡ 9
  unfolding pick
  nine_second e = by_test (eqb one 9) (λ t. simp t) (λ t. simp (t, e))

  ten_first : one ≡ 10 → (other ≡ 9 → ⊥) → answer ≡ 10
  unfolding pick
  ten_first e not_nine = simp (e, ne_eqb other 9 not_nine)

  ten_second : one ≡ 0 → other ≡ 10 → answer ≡ 10
  unfolding pick
  ten_second e f = simp (e, f)

legal_or_ten : (legal : Bool) → ◌≡◌ {A = ℕ} (pick legal 0 10) 9 → ⊥
unfolding pick
legal_or_ten true e = omega arith
legal_or_ten false e = omega arith

-- the blockettes that are compared are those that are written out
blockette_at_lem : (image : List ℕ) (place : ℕ)
    → blockette_at (drop 2 image) place ≡ take 256 (drop (2 + 256 * place) image)
unfolding blockette_at
blockette_at_lem image place = ap (take 256) (drop-drop (256 * place) 2 image)

module _ (first second : Pass) where
  abbrev clash : Bool
  clash = clashes (drop 2 first.image) first.marks (drop 2 second.image) second.marks

  clash_told : clash ≡ true → GoodAndUnlike first second
  clash_told holds =
      let found = clash_found (drop 2 first.image) first.marks (drop 2 second.image) second.marks holds in
      let place = found.0 in (
        place,
        found.1,
        found.2,
        found.3,
        λ same. found.4 (blockette_at_lem first.image place ∙ same ∙ sym (blockette_at_lem second.image place)),
      )

  told_clash : GoodAndUnlike first second → clash ≡ true
  told_clash unlike =
      let place = unlike.0 in
      clash_holds (drop 2 first.image) first.marks (drop 2 second.image) second.marks (
        place,
        unlike.1,
        unlike.2,
        unlike.3,
        λ same. unlike.4 (sym (blockette_at_lem first.image place) ∙ same ∙ blockette_at_lem second.image place),
      )

  abbrev c : ℕ
  c = said_count first.image

  abbrev d : ℕ
  d = said_count second.image

  abbrev counts : Bool
  counts = eqb (count_of first.image) (count_of second.image)

  -- the last four lines, of two passes that are whole
  last_lines : (image_space marks_space : ℕ) → pass_refusal first ≡ 0 → pass_refusal second ≡ 0
      → length first.image ≡ length_in c 1 → length first.marks ≡ marks_in c
      → FirstOf
      ((13, c ≡ d → ⊥)
      ∷ (14, GoodAndUnlike first second)
      ∷ (11, image_space < length_in c 1)
      ∷ (11, marks_space < marks_in c)
      ∷ [])
      (merge_refusal first second image_space marks_space)
  unfolding FirstOf merge_refusal either_refused pair_refusal pick
  last_lines image_space marks_space one other long marked =
      let same : (b : Bool) → eqb c d ≡ b → counts ≡ b = λ b e.
      ap₂ eqb (said first.image) (said second.image) ∙ e in
      by_unlike c d (λ differ. simp (one, other, same false differ))
      (λ alike.
      by_holding clash clash_told told_clash (λ unlike. simp (one, other, same true alike, unlike))
      (λ like.
      by_below image_space (length_in c 1) (λ short. simp (one, other, same true alike, like, long, short))
      (λ image_room.
      by_below marks_space (marks_in c)
      (λ short. simp (one, other, same true alike, like, long, image_room, marked, short))
      (λ marks_room. simp (one, other, same true alike, like, long, image_room, marked, marks_room)))))

  pub merge_refused : (image_space marks_space : ℕ)
      → MergeRefused first second image_space marks_space (merge_refusal first second image_space marks_space)
  unfolding FirstOf merge_refusal either_refused
  merge_refused image_space marks_space =
      let f = first.image in
      let fm = first.marks in
      let s = second.image in
      let sm = second.marks in
      let pair = pair_refusal first second in
      let room = room_refusal first image_space marks_space in
      let nine = nine_first (pass_refusal first) (pass_refusal second) pair room in
      let nine' = nine_second (pass_refusal first) (pass_refusal second) pair room in
      by_below (length f) 2 (λ short. nine (too_short f fm short))
      (λ two.
      by_unlike (length f) (length_in c 1) (λ wrong. nine (wrong_long f fm two wrong))
      (λ long.
      by_unlike (length fm) (marks_in c) (λ wrong. nine (wrong_marks f fm two long wrong))
      (λ marked.
      by_below (length s) 2 (λ short. nine' (too_short s sm short))
      (λ two'.
      by_unlike (length s) (length_in d 1) (λ wrong. nine' (wrong_long s sm two' wrong))
      (λ long'.
      by_unlike (length sm) (marks_in d) (λ wrong. nine' (wrong_marks s sm two' long' wrong))
      (λ marked'.
      let one = by_marks f fm two long marked in
      let other = by_marks s sm two' long' marked' in
      by_failing (legal_marks fm) (mark_value_lem fm) (value_refused fm)
      (λ illegal.
      ten_first _ _ pair room (one ∙ pick_no 0 10 illegal) (λ e. legal_or_ten (legal_marks sm) (sym other ∙ e)))
      (λ legal.
      by_failing (legal_marks sm) (mark_value_lem sm) (value_refused sm)
      (λ illegal. ten_second _ _ pair room (one ∙ pick_yes 0 10 legal) (other ∙ pick_no 0 10 illegal))
      (λ legal'. last_lines image_space marks_space (one ∙ pick_yes 0 10 legal) (other ∙ pick_yes 0 10 legal')
      (eqb-true _ _ long) (eqb-true _ _ marked)))))))))

-- ---- the scan, and what is told of a count

pub scan_refused : (space : ℕ) → ScanRefused space (scan_refusal space)
unfolding FirstOf scan_refusal
scan_refused space = by_below space 9 (λ short. pick_yes 11 0 short) (λ room. pick_no 11 0 room)

pub length_told : (c density : ℕ) → LengthTold c density (image_length_within c density)
unfolding image_length_within limit
length_told c density =
    record {
      above = λ many. pick_yes 0 _ (lt-ltb 65535 c many);
      within = λ few. pick_no 0 _ (le-ltb 65535 c few) ∙ length_in_lem c density;
    }

pub marks_told : (c density : ℕ) → MarksTold c density (mark_count_within c density)
unfolding mark_count_within limit mark_count has_blockettes pick
marks_told c density =
    record {
      above = λ many. pick_yes 0 _ (lt-ltb 65535 c many);
      mfm = λ none. by_test (ltb 65535 c) (λ many. simp many) (λ few. simp (few, none));
      gcr = λ some few. simp (le-ltb 65535 c few, ne_eqb density 0 some) (marks_in_lem c);
    }

pub count_told : (image : List ℕ) → CountTold image (image_count image)
unfolding image_count
count_told image =
    record {
      short = λ few. pick_yes 65536 _ (lt-ltb _ 2 few);
      said = λ some. pick_no 65536 _ (le-ltb _ 2 some) ∙ said image;
    }

-- ---- the check blockettes of an image

length_empty : image_length 0 1 ≡ 2
unfolding image_length has_blockettes pick
length_empty = refl

module _ (image : List ℕ) where
  -- those that are compared are those that are written out
  fits_of : (parity : ℕ) → CheckFits image parity → Fits (drop 2 image) (blockette_count (said_count image)) parity
  unfolding blockette_count
  fits_of parity same = same ∙ sym (blockette_at_lem image ((said_count image + 255) / 256 + 1 - parity))

  of_fits : (parity : ℕ) → Fits (drop 2 image) (blockette_count (said_count image)) parity → CheckFits image parity
  unfolding blockette_count
  of_fits parity same = same ∙ blockette_at_lem image ((said_count image + 255) / 256 + 1 - parity)

  long_as_said : length image ≡ length_in (said_count image) 1 → length image ≡ image_length (count_of image) 1
  long_as_said long =
      long ∙ sym (length_in_lem (said_count image) 1) ∙ ap (λ (k : ℕ). image_length k 1) (sym (said image))

  -- an image with check blockettes, by what their tests say
  by_checks : (even odd : Bool) → HasChecks image
      → check_fits (drop 2 image) (blockette_count (said_count image)) 0 ≡ even
      → check_fits (drop 2 image) (blockette_count (said_count image)) 1 ≡ odd
      → verify image ≡ pick even 0 unfit_even + pick odd 0 unfit_odd
  by_checks even odd has e o =
      verified image (long_as_said has.0) (λ none. omega (arith, has.1, said image))
      ∙ ap (λ (k : ℕ). unfit_checks (drop 2 image) (blockette_count k)) (said image)
      ∙ unfit_by (drop 2 image) (blockette_count (said_count image)) even odd e o

  fits : (parity : ℕ) → CheckFits image parity
      → check_fits (drop 2 image) (blockette_count (said_count image)) parity ≡ true
  fits parity same =
      is_fits (drop 2 image) (blockette_count (said_count image)) parity (fits_of parity same)

  unfit : (parity : ℕ) → (CheckFits image parity → ⊥)
      → check_fits (drop 2 image) (blockette_count (said_count image)) parity ≡ false
  unfit parity other =
      is_unfit (drop 2 image) (blockette_count (said_count image)) parity (λ same. other (of_fits parity same))

  pub verify_told : VerifyTold image (verify image)
  unfolding verify pick
  verify_told =
      record {
        short = λ few. pick_yes 9 _ (lt-ltb _ 2 few);
        wrong = λ other. verified_wrong image
            (λ long. other (long ∙ ap (λ (k : ℕ). image_length k 1) (said image) ∙ length_in_lem (said_count image) 1));
        empty = λ two none.
            let no_count = said image ∙ none in
            verified_empty image (two ∙ sym (ap (λ (k : ℕ). image_length k 1) no_count ∙ length_empty)) no_count;
        fit = λ has e o. by_checks true true has (fits 0 e) (fits 1 o);
        even = λ has e o. by_checks false true has (unfit 0 e) (fits 1 o);
        odd = λ has e o. by_checks true false has (fits 0 e) (unfit 1 o);
        neither = λ has e o. by_checks false false has (unfit 0 e) (unfit 1 o);
      }
