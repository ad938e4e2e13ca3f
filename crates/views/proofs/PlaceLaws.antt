-- Laws of a view, place by place.
-- Assumes nothing.
use mathlib.Core.Path.{◌≡◌, refl, sym, ap, subst, ◌∙◌}
use Prim.Native.Nat.{ℕ, zero, suc, ◌+◌, ◌*◌, ◌≤◌, ◌<◌}
use native.Mathlib.Omega.{arith}
use mathlib.Core.List.{List, [], ◌∷◌, ◌++◌}
use lib.ListN.{length, take, drop, get_or}
use lib.Dec.{eqb}
use borrow.Author.Tests.{eqb-true, eqb-false}
use Rattle.common.specs.Space.{overwrite}
use Rattle.common.proofs.PickLaws.{by_test}
use Rattle.views.specs.View.{stretches, counts_of, count_bytes, stretches_bytes, unrecoverables, greatest, place_of}
use Rattle.views.specs.View.{stretch_count, first_most}
use Rattle.views.specs.Places.{stretch_at, unrecoverable_at, EachIsFresh, LeastWithMost, IsFirst}
use Rattle.views.proofs.StretchLaws.{by_less, stretches_short, stretches_long, stretches_length}
use Rattle.views.proofs.StretchLaws.{unrecoverables_length, place_hit, place_miss, place_within}

-- ---- the stretch at a place

stretches_none : (width : ℕ) → stretches width [] ≡ []
unfolding stretches
stretches_none width = refl

place_none : (g : ℕ) → place_of g [] ≡ 0
unfolding place_of
place_none g = refl

stretches_at : (width : ℕ) (cs : List ℕ) (place : ℕ) → place < length (stretches width cs)
    → get_or (stretches width cs) place [] ≡ stretch_at width cs place
unfolding stretch_at
stretches_at width [] place l = absurd (omega (arith, l, ap length (stretches_none width)))
stretches_at width (c ∷ cs) zero l = by_less (length (c ∷ cs)) width
    (λ _ short. absurd (omega (arith, l, ap length (stretches_short width (c ∷ cs) short))))
    (λ _ long. ap (λ (ss : List (List ℕ)). get_or ss 0 []) (stretches_long width c cs long))
stretches_at width (c ∷ cs) (suc place) l = by_less (length (c ∷ cs)) width
    (λ _ short. absurd (omega (arith, l, ap length (stretches_short width (c ∷ cs) short))))
    (λ _ long. ap (λ (ss : List (List ℕ)). get_or ss (suc place) []) (stretches_long width c cs long)
    ∙ stretches_at width cs place (omega (arith, l, ap length (stretches_long width c cs long))))

-- ---- its bytes

thrice : (n : ℕ) → 3 * suc n ≡ suc (suc (suc (3 * n)))
thrice n = omega arith

bytes_at : (ss : List (List ℕ)) (place : ℕ) (rest : List ℕ) → place < length ss
    → take 3 (drop (3 * place) (stretches_bytes ss ++ rest)) ≡ count_bytes (counts_of (get_or ss place []))
unfolding stretches_bytes count_bytes
bytes_at [] place rest l = absurd (omega (arith, l))
bytes_at (s ∷ ss) zero rest l = refl
bytes_at (s ∷ ss) (suc place) rest l = rw (thrice place) (bytes_at ss place rest (omega (arith, l)))

-- ---- the least place with the greatest number

at_place : (g : ℕ) (ns : List ℕ) → place_of g ns < length ns → get_or ns (place_of g ns) 0 ≡ g
at_place g [] l = absurd (omega (arith, l))
at_place g (n ∷ ns) l = by_test (eqb n g)
    (λ t. ap (λ (p : ℕ). get_or (n ∷ ns) p 0) (place_hit g n ns (eqb-true n g t)) ∙ eqb-true n g t)
    (λ t. ap (λ (p : ℕ). get_or (n ∷ ns) p 0) (place_miss g n ns (eqb-false n g t) ∙ next)
    ∙ at_place g ns (omega (arith, l, place_miss g n ns (eqb-false n g t))))
  where
    next : 1 + place_of g ns ≡ suc (place_of g ns)
    next = omega arith

before_place : (g : ℕ) (ns : List ℕ) (other : ℕ) → other < place_of g ns → get_or ns other 0 ≡ g → ⊥
before_place g [] other l e = omega (arith, l, place_none g)
before_place g (n ∷ ns) zero l e = omega (arith, l, place_hit g n ns e)
before_place g (n ∷ ns) (suc other) l e = by_test (eqb n g)
    (λ t. omega (arith, l, place_hit g n ns (eqb-true n g t)))
    (λ t. before_place g ns other (omega (arith, l, place_miss g n ns (eqb-false n g t))) e)

none_greater : (ns : List ℕ) (other : ℕ) → get_or ns other 0 ≤ greatest ns
unfolding greatest
none_greater [] other = omega arith
none_greater (n ∷ ns) zero = omega arith
none_greater (n ∷ ns) (suc other) = omega (arith, none_greater ns other)

unrecoverables_at : (ss : List (List ℕ)) (place : ℕ) → place < length ss
    → get_or (unrecoverables ss) place 0 ≡ (counts_of (get_or ss place [])).unrecoverable
unfolding unrecoverables
unrecoverables_at [] place l = absurd (omega (arith, l))
unrecoverables_at (s ∷ ss) zero l = refl
unrecoverables_at (s ∷ ss) (suc place) l = unrecoverables_at ss place (omega (arith, l))

-- ---- of a view

module _ (width : ℕ) (codes : List ℕ) (some : 1 ≤ width) where
  abbrev ss : List (List ℕ)
  ss = stretches width codes

  abbrev ns : List ℕ
  ns = unrecoverables ss

  many : length ss ≡ stretch_count width (length codes)
  many = stretches_length width codes some

  pub each_is_fresh : (space : List ℕ) → EachIsFresh width codes (overwrite (stretches_bytes ss) space)
  unfolding overwrite
  each_is_fresh space place l =
      bytes_at ss place (drop (length (stretches_bytes ss)) space) (rw many l)
      ∙ ap (λ (s : List ℕ). count_bytes (counts_of s)) (stretches_at width codes place (rw many l))

  counted_at : (place : ℕ) → place < length ss → get_or ns place 0 ≡ unrecoverable_at width codes place
  unfolding unrecoverable_at
  counted_at place l =
      unrecoverables_at ss place l ∙ ap (λ (s : List ℕ). (counts_of s).unrecoverable) (stretches_at width codes place l)

  least_with_most : place_of (greatest ns) ns < length ns → LeastWithMost width codes (place_of (greatest ns) ns)
  least_with_most l = record {
    is_one = omega (arith, l, counted, many);
    most = λ other h. omega (arith, none_greater ns other, here, counted_at other (rw many h));
    min =
        λ other h. omega
        (arith, none_greater ns other, here, counted_at other (omega (arith, h, l, counted)), unlike other h);
  }
    where
      counted : length ns ≡ length ss
      counted = unrecoverables_length ss

      here : greatest ns ≡ unrecoverable_at width codes (place_of (greatest ns) ns)
      here = sym (at_place (greatest ns) ns l) ∙ counted_at (place_of (greatest ns) ns) (rw counted at l)

      unlike : (other : ℕ) → other < place_of (greatest ns) ns → get_or ns other 0 < greatest ns
      unlike other h = strict (none_greater ns other) (before_place (greatest ns) ns other h)
        where
          strict : {a b : ℕ} → a ≤ b → (a ≡ b → ⊥) → a < b
          strict h n = omega (arith, h, n)

  is_first_of : (ms : List ℕ) → ns ≡ ms → IsFirst width codes (first_most ms)
  unfolding IsFirst first_most stretch_count
  is_first_of [] e = omega (arith, many, unrecoverables_length ss, ap length e)
  is_first_of (m ∷ ms) e = subst (λ (l : List ℕ). LeastWithMost width codes (place_of (greatest l) l)) e
      (least_with_most (subst (λ (l : List ℕ). place_of (greatest l) l < length l) (sym e) (place_within m ms)))

  pub is_first : IsFirst width codes (first_most ns)
  is_first = is_first_of ns refl
