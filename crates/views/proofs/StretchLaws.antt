-- Laws of the stretches: what one code more brings.
-- Assumes nothing.
use mathlib.Core.Path.{◌≡◌, refl, sym, ap, ◌∙◌}
use Prim.Native.Nat.{ℕ, zero, suc, ◌+◌, ◌-◌, ◌*◌, ◌≤◌, ◌<◌, max}
use native.Mathlib.Omega.{arith}
use mathlib.Core.Bool.{true, false}
use mathlib.Core.List.{List, [], ◌∷◌, ◌++◌, append-nil, append_assoc}
use lib.ListN.{length, take, drop, length-append}
use lib.Seq.{take-append-le, take_at}
use lib.Dec.{eqb, ltb}
use borrow.Author.Tests.{ltb-true, ltb-false, lt-ltb, le-ltb, eqb-true, eqb-false, eq-eqb, ne_eqb}
use Rattle.common.specs.Pick.{pick}
use Rattle.common.proofs.PickLaws.{by_test, pick_yes, pick_no}
use Rattle.views.specs.View.{stretches, stretch_count, counts_of, count_bytes, stretches_bytes, unrecoverables}
use Rattle.views.specs.View.{greatest, place_of}

-- a claim, by which of two numbers is less
pub by_less : {P : Type 0} (a b : ℕ) → (ltb a b ≡ true → a < b → P) → (ltb a b ≡ false → b ≤ a → P) → P
by_less a b less more = by_test (ltb a b) (λ t. less t (ltb-true a b t)) (λ t. more t (ltb-false a b t))

-- ---- the stretches

pub stretches_short : (width : ℕ) (cs : List ℕ) → length cs < width → stretches width cs ≡ []
unfolding stretches
stretches_short width [] l = refl
stretches_short width (c ∷ cs) l = pick_yes _ _ (lt-ltb _ _ l)

pub stretches_long : (width c : ℕ) (cs : List ℕ) → width ≤ length (c ∷ cs)
    → stretches width (c ∷ cs) ≡ take width (c ∷ cs) ∷ stretches width cs
unfolding stretches
stretches_long width c cs l = pick_no _ _ (le-ltb _ _ l)

pub stretches_length : (width : ℕ) (cs : List ℕ) → 1 ≤ width
    → length (stretches width cs) ≡ stretch_count width (length cs)
unfolding stretch_count
stretches_length width [] some = rw (stretches_short width [] some) (omega arith)
stretches_length width (c ∷ cs) some = by_less (length (c ∷ cs)) width
    (λ t l. rw (stretches_short width (c ∷ cs) l) (omega (arith, l)))
    (λ t l. rw (stretches_long width c cs l, stretches_length width cs some) (omega (arith, l)))

-- the first code of a run, where the width is 1
alone : (width c : ℕ) → 1 ≤ width → width ≤ 0 + 1
    → stretches width (c ∷ []) ≡ stretches width [] ++ (drop (0 + 1 - width) (c ∷ []) ∷ [])
unfolding stretches pick
alone zero c some l = absurd (omega (arith, some))
alone (suc zero) c some l = refl
alone (suc (suc n)) c some l = absurd (omega (arith, l))

abbrev More : ℕ → ℕ → List ℕ → Type 0
More width c cs =
    stretches width (cs ++ (c ∷ [])) ≡ stretches width cs ++ (drop (length cs + 1 - width) (cs ++ (c ∷ [])) ∷ [])

module _ (width c x : ℕ) (xs : List ℕ) (l : width ≤ length (x ∷ xs) + 1) where
  abbrev all : List ℕ
  all = x ∷ (xs ++ (c ∷ []))

  long : length all ≡ length xs + 2
  long = rw (length-append) (omega arith)

  first : stretches width all ≡ take width all ∷ stretches width (xs ++ (c ∷ []))
  first = stretches_long width x (xs ++ (c ∷ [])) (rw long (omega (arith, l)))

  -- the first stretch of the run
  module _ (short : length (x ∷ xs) < width) where
    as_wide : length all ≡ width
    as_wide = omega (arith, long, l, short)

    everything : take width all ≡ all
    everything = ap (take width) (sym (append-nil all)) ∙ take_at all [] width as_wide

    none_before : 0 ≡ length (x ∷ xs) + 1 - width
    none_before = omega (arith, short)

    first_one : More width c (x ∷ xs)
    first_one =
        first ∙ ap (λ (ss : List (List ℕ)). take width all ∷ ss)
        (stretches_short width (xs ++ (c ∷ [])) (rw (length-append) (omega (arith, short))))
        ∙ ap (λ (s : List ℕ). s ∷ []) (everything ∙ ap (λ (n : ℕ). drop n all) none_before)
        ∙ ap (λ (ss : List (List ℕ)). ss ++ (drop (length (x ∷ xs) + 1 - width) all ∷ []))
        (sym (stretches_short width (x ∷ xs) short))

  -- one of those after it
  module _ (fits : width ≤ length (x ∷ xs)) where
    one_before : suc (length xs + 1 - width) ≡ length (x ∷ xs) + 1 - width
    one_before = omega (arith, fits)

    next_one : More width c xs → More width c (x ∷ xs)
    next_one rest =
        first
        ∙ (λ j. take-append-le width (x ∷ xs) (c ∷ []) fits j ∷ rest j)
        ∙ ap (λ (n : ℕ). take width (x ∷ xs) ∷ (stretches width xs ++ (drop n all ∷ []))) one_before
        ∙ ap (λ (ss : List (List ℕ)). ss ++ (drop (length (x ∷ xs) + 1 - width) all ∷ []))
        (sym (stretches_long width x xs fits))

pub stretches_more : (width c : ℕ) (cs : List ℕ) → 1 ≤ width → width ≤ length cs + 1 → More width c cs
stretches_more width c [] some l = alone width c some l
stretches_more width c (x ∷ xs) some l = by_less (length (x ∷ xs)) width
    (λ _ short. first_one width c x xs l short)
    (λ _ fits. next_one width c x xs l fits (stretches_more width c xs some (omega (arith, fits))))

-- ---- what is written of them

pub bytes_more : (ss : List (List ℕ)) (s : List ℕ)
    → stretches_bytes (ss ++ (s ∷ [])) ≡ stretches_bytes ss ++ count_bytes (counts_of s)
unfolding stretches_bytes
bytes_more [] s = append-nil (count_bytes (counts_of s))
bytes_more (t ∷ ss) s =
    ap (λ (bs : List ℕ). count_bytes (counts_of t) ++ bs) (bytes_more ss s)
    ∙ sym (append_assoc (count_bytes (counts_of t)) (stretches_bytes ss) (count_bytes (counts_of s)))

pub bytes_length : (ss : List (List ℕ)) → length (stretches_bytes ss) ≡ 3 * length ss
unfolding stretches_bytes count_bytes
bytes_length [] = refl
bytes_length (s ∷ ss) = rw (bytes_length ss) (omega arith)

-- ---- the first with most

pub unrecoverables_more : (ss : List (List ℕ)) (s : List ℕ)
    → unrecoverables (ss ++ (s ∷ [])) ≡ unrecoverables ss ++ ((counts_of s).unrecoverable ∷ [])
unfolding unrecoverables
unrecoverables_more [] s = refl
unrecoverables_more (t ∷ ss) s = ap (λ (ns : List ℕ). (counts_of t).unrecoverable ∷ ns) (unrecoverables_more ss s)

pub unrecoverables_length : (ss : List (List ℕ)) → length (unrecoverables ss) ≡ length ss
unfolding unrecoverables
unrecoverables_length [] = refl
unrecoverables_length (s ∷ ss) = ap suc (unrecoverables_length ss)

greatest_append : (ns : List ℕ) (n : ℕ) → greatest (ns ++ (n ∷ [])) ≡ max (greatest ns) n
unfolding greatest
greatest_append [] n = omega arith
greatest_append (m ∷ ns) n = rw (greatest_append ns n) (omega arith)

pub greatest_more : (ns : List ℕ) (n : ℕ) → pick (ltb (greatest ns) n) n (greatest ns) ≡ greatest (ns ++ (n ∷ []))
greatest_more ns n = by_less (greatest ns) n
    (λ t l. pick_yes _ _ t ∙ sym (greatest_append ns n ∙ omega (arith, l)))
    (λ t l. pick_no _ _ t ∙ sym (greatest_append ns n ∙ omega (arith, l)))

-- a place is found, or looked for further on
pub place_hit : (g n : ℕ) (ns : List ℕ) → n ≡ g → place_of g (n ∷ ns) ≡ 0
unfolding place_of
place_hit g n ns e = pick_yes _ _ (eq-eqb n g e)

pub place_miss : (g n : ℕ) (ns : List ℕ) → (n ≡ g → ⊥) → place_of g (n ∷ ns) ≡ 1 + place_of g ns
unfolding place_of
place_miss g n ns e = pick_no _ _ (ne_eqb n g e)

greatest_later : (n : ℕ) (ns : List ℕ) → n < greatest ns → greatest (n ∷ ns) ≡ greatest ns
unfolding greatest
greatest_later n ns l = omega (arith, l)

greatest_first : (n : ℕ) (ns : List ℕ) → greatest ns ≤ n → greatest (n ∷ ns) ≡ n
unfolding greatest
greatest_first n ns l = omega (arith, l)

of_nothing : (n : ℕ) → greatest [] ≤ n
unfolding greatest
of_nothing n = omega arith

first_is_found : (n : ℕ) (ns : List ℕ) → greatest ns ≤ n → place_of (greatest (n ∷ ns)) (n ∷ ns) ≡ 0
first_is_found n ns l = place_hit (greatest (n ∷ ns)) n ns (sym (greatest_first n ns l))

below : (n m : ℕ) (ns : List ℕ) → greatest (m ∷ ns) < n → (m < n) × (greatest ns < n)
unfolding greatest
below n m ns l = (omega (arith, l), omega (arith, l))

none_more : (n : ℕ) → n ≤ greatest [] → place_of (greatest []) (n ∷ []) ≡ place_of (greatest []) []
unfolding greatest place_of
none_more n l = place_hit 0 n [] (omega (arith, l))

-- the greatest of some is among them
pub place_within : (n : ℕ) (ns : List ℕ) → place_of (greatest (n ∷ ns)) (n ∷ ns) < length (n ∷ ns)
place_within n [] = rw (first_is_found n [] (of_nothing n)) (omega arith)
place_within n (m ∷ ns) = by_less n (greatest (m ∷ ns))
    (λ _ l. rw (greatest_later n (m ∷ ns) l, place_miss (greatest (m ∷ ns)) n (m ∷ ns) (λ e. omega (arith, e, l)))
    (omega (arith, place_within m ns)))
    (λ _ l. rw (first_is_found n (m ∷ ns) l) (omega arith))

-- a place that is found stays, whatever comes after
place_stays : (g : ℕ) (ns ms : List ℕ) → place_of g ns < length ns → place_of g (ns ++ ms) ≡ place_of g ns
place_stays g [] ms l = absurd (omega (arith, l))
place_stays g (n ∷ ns) ms l = by_test (eqb n g)
    (λ t. place_hit g n (ns ++ ms) (eqb-true n g t) ∙ sym (place_hit g n ns (eqb-true n g t)))
    (λ t. place_miss g n (ns ++ ms) (eqb-false n g t)
    ∙ ap (λ (p : ℕ). 1 + p) (place_stays g ns ms (omega (arith, l, place_miss g n ns (eqb-false n g t))))
    ∙ sym (place_miss g n ns (eqb-false n g t)))

-- one that is more than all is found at the end
place_at_end : (n : ℕ) (ns : List ℕ) → greatest ns < n → place_of n (ns ++ (n ∷ [])) ≡ length ns
place_at_end n [] l = place_hit n n [] refl
place_at_end n (m ∷ ns) l =
    place_miss n m (ns ++ (n ∷ [])) (λ e. omega (arith, e, below n m ns l))
    ∙ ap (λ (p : ℕ). 1 + p) (place_at_end n ns (below n m ns l).1) ∙ omega arith

pub place_more : (ns : List ℕ) (n : ℕ)
    → pick (ltb (greatest ns) n) (length ns) (place_of (greatest ns) ns)
    ≡ place_of (greatest (ns ++ (n ∷ []))) (ns ++ (n ∷ []))
place_more ns n = by_less (greatest ns) n
    (λ t l. pick_yes _ _ t
    ∙ sym (ap (λ (g : ℕ). place_of g (ns ++ (n ∷ []))) (greatest_append ns n ∙ omega (arith, l))
    ∙ place_at_end n ns l))
    (λ t l. pick_no _ _ t
    ∙ sym (ap (λ (g : ℕ). place_of g (ns ++ (n ∷ []))) (greatest_append ns n ∙ omega (arith, l)) ∙ stays ns l))
  where
    stays : (ns : List ℕ) → n ≤ greatest ns → place_of (greatest ns) (ns ++ (n ∷ [])) ≡ place_of (greatest ns) ns
    stays [] l = none_more n l
    stays (m ∷ ns) l = place_stays (greatest (m ∷ ns)) (m ∷ ns) (n ∷ []) (place_within m ns)
