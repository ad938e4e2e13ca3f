-- Spoiled records there are: a built image is one, with nothing spoiled, and each stays one where one more blockette
-- holds other bytes and is marked, as long as its parity has no other error. So there are records with an odd and an
-- even blockette that are really spoiled.
-- Assumes nothing.
use mathlib.Core.Path.{◌≡◌, refl, sym, ap, ◌∙◌}
use mathlib.Core.Bool.{true, false≢true}
use mathlib.Core.List.{List, [], ◌∷◌}
use Prim.Native.Nat.{ℕ, zero, suc, ◌+◌, ◌-◌, ◌*◌, ◌%◌, ◌≤◌, ◌<◌}
use native.Mathlib.Decide.{ℕ_discrete}
use native.Mathlib.Omega.{arith}
use lib.ListN.{length, take, drop, set, get_or, replicate, length-append, length-drop, length-set, length-replicate}
use lib.ListN.{get_or-replicate}
use lib.Seq.{take_at, drop_at, length-take-le, get_or-take, get_or-drop, get_or-set_same, get_or-set_other, ext_get_or}
use borrow.Author.Tests.{le-leb}
use Rattle.common.proofs.PickLaws.{both_hold}
use Rattle.blockettes.specs.Blockettes.{blockette_at}
use Rattle.blockettes.proofs.Checked.{blockette_length_lem}
use Rattle.marks.specs.Marks.{legal_mark, legal_marks, is_error, Once}
use Rattle.marks.proofs.ScanLaws.{good_legal, good_once}
use Rattle.records.specs.Image.{blockette_count, image_of, mark_count}
use Rattle.records.specs.Restore.{written_at}
use Rattle.records.specs.Spoiled.{Shown, Spoiled, spoiled_at}
use Rattle.records.proofs.ImageLaws.{image_length_lem, marks_fill, marks_of}
use Rattle.records.proofs.Mending.{written_length, written_in, written_elsewhere}

-- ---- one mark more

-- "1-9 an error"
pub record IsBad (mark : ℕ) : Type 0 where
  pub low : 1 ≤ mark
  pub high : mark ≤ 9

bad_legal : (mark : ℕ) → IsBad mark → legal_mark mark ≡ true
unfolding legal_mark
bad_legal mark bad = simp (le-leb 1 mark bad.low, le-leb mark 9 bad.high)

set_legal : (marks : List ℕ) (place mark : ℕ) → legal_mark mark ≡ true → legal_marks marks ≡ true
    → legal_marks (set marks place mark) ≡ true
unfolding legal_marks
set_legal [] place mark new old = old
set_legal (m ∷ marks) zero mark new old = simp (new, (both_hold (legal_mark m) (legal_marks marks) old).1)
set_legal (m ∷ marks) (suc place) mark new old =
    let both = both_hold (legal_mark m) (legal_marks marks) old in
    simp (both.0, set_legal marks place mark new both.1)

-- ---- one blockette more

-- a byte of a blockette
byte_of : (bytes : List ℕ) (place i : ℕ)
    → i < 256 → get_or (blockette_at bytes place) i 0 ≡ get_or bytes (256 * place + i) 0
unfolding blockette_at
byte_of bytes place i h = get_or-take 256 (drop (256 * place) bytes) i 0 h ∙ get_or-drop (256 * place) bytes i 0

module _ (bytes new : List ℕ) (place : ℕ) (full : length new ≡ 256) (room : 256 * place + 256 ≤ length bytes) where
  -- the blockette that is written, and another
  blockette_written : blockette_at (written_at bytes (256 * place) new) place ≡ new
  blockette_written =
      let after = written_at bytes (256 * place) new in
      let kept : length after ≡ length bytes = written_length bytes new (256 * place) (omega arith) in
      let long : length (blockette_at after place) ≡ 256 = blockette_length_lem after place (omega arith) in
      ext_get_or 0 (blockette_at after place) new (long ∙ sym full)
      (λ i h. byte_of after place i (omega arith) ∙ written_in bytes new (256 * place) i (omega arith) (omega arith))

  blockette_kept : (other : ℕ) → (other ≡ place → ⊥) → 256 * other + 256 ≤ length bytes
      → blockette_at (written_at bytes (256 * place) new) other ≡ blockette_at bytes other
  blockette_kept other differs inside =
      let after = written_at bytes (256 * place) new in
      let kept : length after ≡ length bytes = written_length bytes new (256 * place) (omega arith) in
      let long : length (blockette_at after other) ≡ 256 = blockette_length_lem after other (omega arith) in
      ext_get_or 0 (blockette_at after other) (blockette_at bytes other)
      (long ∙ sym (blockette_length_lem bytes other inside))
      (λ i h.
      let small : i < 256 = omega arith in
      byte_of after other i small
      ∙ written_elsewhere bytes new place full (256 * other + i) (omega arith) (λ here. differs (omega arith))
      ∙ sym (byte_of bytes other i small))

-- an image with room for the blockette
module _ (image new : List ℕ) (place : ℕ) (full : length new ≡ 256) (room : 2 + (256 * place + 256) ≤ length image)
  where
    front : length (take 2 image) ≡ 2
    front = length-take-le 2 image (omega arith)

    body_room : 256 * place + 256 ≤ length (drop 2 image)
    body_room = simp length-drop (omega arith)

    pub spoiled_front : take 2 (spoiled_at image place new) ≡ take 2 image
    unfolding spoiled_at
    spoiled_front = take_at (take 2 image) _ 2 front

    spoiled_body : drop 2 (spoiled_at image place new) ≡ written_at (drop 2 image) (256 * place) new
    unfolding spoiled_at
    spoiled_body = drop_at (take 2 image) _ 2 front

    pub spoiled_length : length (spoiled_at image place new) ≡ length image
    unfolding spoiled_at
    spoiled_length =
        let kept : length (written_at (drop 2 image) (256 * place) new) ≡ length (drop 2 image) =
        written_length (drop 2 image) new (256 * place) (omega (arith, body_room))
        in
        simp (length-append, front, kept, length-drop) (omega arith)

    -- the spoiled blockette holds the bytes, and the others stand as they were
    pub spoiled_here : blockette_at (drop 2 (spoiled_at image place new)) place ≡ new
    spoiled_here =
        ap (λ (l : List ℕ). blockette_at l place) spoiled_body
        ∙ blockette_written (drop 2 image) new place full body_room

    pub spoiled_elsewhere : (other : ℕ) → (other ≡ place → ⊥) → 2 + (256 * other + 256) ≤ length image
        → blockette_at (drop 2 (spoiled_at image place new)) other ≡ blockette_at (drop 2 image) other
    spoiled_elsewhere other differs inside =
        ap (λ (l : List ℕ). blockette_at l other) spoiled_body
        ∙ blockette_kept (drop 2 image) new place full body_room other differs (simp length-drop (omega arith))

-- ---- spoiled records

-- a built image with every blockette marked good
pub spoiled_nowhere : (bytes : List ℕ)
    → Spoiled (image_of bytes 1) (image_of bytes 1) (replicate (mark_count (length bytes) 1) 15)
spoiled_nowhere bytes =
    let n = mark_count (length bytes) 1 in
    record {
      shown = record {
        whole = refl;
        count = refl;
        marked =
            image_length_lem bytes 1 ∙ marks_fill (length bytes)
            ∙ ap (λ (k : ℕ). 2 + 256 * k) (sym (length-replicate n 15));
        legal = good_legal n;
        good = λ place below fine. refl;
      };
      once = good_once n;
    }

-- one blockette more that holds other bytes and is marked
module _ (built image marks new : List ℕ) (place mark : ℕ) (s : Shown built image marks) (full : length new ≡ 256)
    (bad : IsBad mark)
    (below : place < length marks) where
  inside : (p : ℕ) → p < length marks → 2 + (256 * p + 256) ≤ length image
  inside p h = omega (arith, s.whole, s.marked)

  more_good : (p : ℕ) → p < length marks → get_or (set marks place mark) p 0 ≡ 15
      → blockette_at (drop 2 (spoiled_at image place new)) p ≡ blockette_at (drop 2 built) p
  more_good p h fine =
      elim (ℕ_discrete p place) [
        | yes here ↦
            let is_mark : get_or (set marks place mark) p 0 ≡ mark =
            ap (λ (k : ℕ). get_or (set marks place mark) k 0) here ∙ get_or-set_same marks place mark 0 below
            in
            absurd (omega (arith, bad.high))
        | no other ↦
            spoiled_elsewhere image new place full (inside place below) p other (inside p h)
            ∙ s.good p h (sym (get_or-set_other marks place p mark 0 other) ∙ fine)
      ]

  pub shown_more : Shown built (spoiled_at image place new) (set marks place mark)
  shown_more =
      let as_many : length (set marks place mark) ≡ length marks = length-set marks place mark in
      record {
        whole = spoiled_length image new place full (inside place below) ∙ s.whole;
        count = spoiled_front image new place full (inside place below) ∙ s.count;
        marked = s.marked ∙ ap (λ (k : ℕ). 2 + 256 * k) (sym as_many);
        legal = set_legal marks place mark (bad_legal mark bad) s.legal;
        good = λ p h fine. more_good p (omega arith) fine;
      }

-- one error more, where its parity has none yet
module _ (marks : List ℕ) (place mark : ℕ) (o : Once marks)
    (alone : (j : ℕ) → j < length marks → is_error (get_or marks j 0) ≡ true
    → (length marks - 1 - j) % 2 ≡ (length marks - 1 - place) % 2 → ⊥) where
  still_error : (j : ℕ) → (j ≡ place → ⊥) → is_error (get_or (set marks place mark) j 0) ≡ true
      → is_error (get_or marks j 0) ≡ true
  still_error j other e = sym (ap is_error (get_or-set_other marks place j mark 0 other)) ∙ e

  more_once : (i j : ℕ) → i < length marks → j < length marks → is_error (get_or (set marks place mark) i 0) ≡ true
      → is_error (get_or (set marks place mark) j 0) ≡ true → (length marks - 1 - i) % 2 ≡ (length marks - 1 - j) % 2
      → i ≡ j
  more_once i j hi hj ei ej same =
      elim (ℕ_discrete i place) [
        | yes first ↦
            elim (ℕ_discrete j place) [
              | yes second ↦ first ∙ sym second
              | no other ↦ absurd (alone j hj (still_error j other ej) (omega arith))
            ]
        | no another ↦
            elim (ℕ_discrete j place) [
              | yes second ↦ absurd (alone i hi (still_error i another ei) (omega arith))
              | no other ↦ o i j hi hj (still_error i another ei) (still_error j other ej) same
            ]
      ]

  pub once_more : Once (set marks place mark)
  once_more =
      let as_many : length (set marks place mark) ≡ length marks = length-set marks place mark in rw as_many more_once

-- ---- an odd and an even blockette spoiled

pub no_error : (n j : ℕ) → j < n → is_error (get_or (replicate n 15) j 0) ≡ true → ⊥
unfolding is_error
no_error n j h e = false≢true (ap is_error (sym (get_or-replicate n j 15 0 h)) ∙ e)

-- the marks of a record whose first two blockettes are bad
abbrev pub two_bad : List ℕ → ℕ → ℕ → List ℕ
two_bad bytes first second = set (set (replicate (mark_count (length bytes) 1) 15) 0 first) 1 second

-- its image, where they hold these bytes
abbrev pub two_spoiled : List ℕ → List ℕ → List ℕ → List ℕ
two_spoiled bytes first second = spoiled_at (spoiled_at (image_of bytes 1) 0 first) 1 second

module _ (bytes first second : List ℕ) (mark₁ mark₂ : ℕ) (some : 0 < length bytes) (full₁ : length first ≡ 256)
    (full₂ : length second ≡ 256)
    (bad₁ : IsBad mark₁) (bad₂ : IsBad mark₂) where
  -- a record of at least one byte has three blockettes or more
  three : 3 ≤ mark_count (length bytes) 1
  unfolding blockette_count
  three = omega (arith, marks_of (length bytes) some)

  one_spoiled : Spoiled (image_of bytes 1) (spoiled_at (image_of bytes 1) 0 first)
      (set (replicate (mark_count (length bytes) 1) 15) 0 mark₁)
  one_spoiled =
      let n = mark_count (length bytes) 1 in
      let goods : List ℕ = replicate n 15 in
      let long : length goods ≡ n = length-replicate n 15 in
      let before = spoiled_nowhere bytes in
      record {
        shown =
            shown_more (image_of bytes 1) (image_of bytes 1) goods first 0 mark₁ before.shown full₁ bad₁
            (omega (arith, three));
        once = once_more goods 0 mark₁ before.once (λ j h e same. no_error n j (omega arith) e);
      }

  -- Any bytes in the first two blockettes, one odd and one even, with any marks of an error.
  pub two_spoiled_lem : Spoiled (image_of bytes 1) (two_spoiled bytes first second) (two_bad bytes mark₁ mark₂)
  two_spoiled_lem =
      let n = mark_count (length bytes) 1 in
      let goods : List ℕ = replicate n 15 in
      let long : length (set goods 0 mark₁) ≡ n = length-set goods 0 mark₁ ∙ length-replicate n 15 in
      record {
        shown =
            shown_more (image_of bytes 1) (spoiled_at (image_of bytes 1) 0 first) (set goods 0 mark₁) second 1 mark₂
            one_spoiled.shown full₂ bad₂
            (omega (arith, three));
        once =
            once_more (set goods 0 mark₁) 1 mark₂ one_spoiled.once
            (λ j h e same.
            let other : (j ≡ 0 → ⊥) = λ zeroth. omega (arith, three) in
            no_error n j (omega arith) (sym (ap is_error (get_or-set_other goods 0 j mark₁ 0 other)) ∙ e));
      }

  -- They hold these bytes.
  room : 2 + (256 * 1 + 256) ≤ length (image_of bytes 1)
  room = omega (arith, image_length_lem bytes 1, marks_fill (length bytes), three)

  pub first_holds : blockette_at (drop 2 (two_spoiled bytes first second)) 0 ≡ first
  first_holds =
      let one = spoiled_at (image_of bytes 1) 0 first in
      let kept : length one ≡ length (image_of bytes 1) = one_spoiled.shown.whole in
      spoiled_elsewhere one second 1 full₂ (omega (arith, room)) 0 (λ same. omega arith) (omega (arith, room))
      ∙ spoiled_here (image_of bytes 1) first 0 full₁ (omega (arith, room))

  pub second_holds : blockette_at (drop 2 (two_spoiled bytes first second)) 1 ≡ second
  second_holds =
      let one = spoiled_at (image_of bytes 1) 0 first in
      let kept : length one ≡ length (image_of bytes 1) = one_spoiled.shown.whole in
      spoiled_here one second 1 full₂ (omega (arith, room))

-- ---- every record of at least one byte can be spoiled

-- an image whose first two blockettes, one odd and one even, hold other bytes than were built
pub record ReallySpoiled (built image marks : List ℕ) : Type 0 where
  pub spoiled : Spoiled built image marks
  pub first : blockette_at (drop 2 image) 0 ≡ blockette_at (drop 2 built) 0 → ⊥
  pub second : blockette_at (drop 2 image) 1 ≡ blockette_at (drop 2 built) 1 → ⊥

-- a blockette that is another than this one, in its first byte
unfoldable pub another : List ℕ → List ℕ
another blockette = replicate 256 ((get_or blockette 0 0 + 1) % 256)

pub another_full : (blockette : List ℕ) → length (another blockette) ≡ 256
unfolding another
another_full blockette = length-replicate 256 ((get_or blockette 0 0 + 1) % 256)

pub another_differs : (blockette : List ℕ) → another blockette ≡ blockette → ⊥
unfolding another
another_differs blockette same =
    let first : (get_or blockette 0 0 + 1) % 256 ≡ get_or blockette 0 0 = ap (λ (l : List ℕ). get_or l 0 0) same in
    omega arith

-- with any marks of an error
pub records_are_spoiled : (bytes : List ℕ) (mark₁ mark₂ : ℕ) → 0 < length bytes → IsBad mark₁ → IsBad mark₂
    → (image : List ℕ) × ReallySpoiled (image_of bytes 1) image (two_bad bytes mark₁ mark₂)
records_are_spoiled bytes mark₁ mark₂ some bad₁ bad₂ =
    let first = blockette_at (drop 2 (image_of bytes 1)) 0 in
    let second = blockette_at (drop 2 (image_of bytes 1)) 1 in
    let full₁ = another_full first in
    let full₂ = another_full second in (
      two_spoiled bytes (another first) (another second),
      record {
        spoiled = two_spoiled_lem bytes (another first) (another second) mark₁ mark₂ some full₁ full₂ bad₁ bad₂;
        first =
            λ same. another_differs first
            (sym (first_holds bytes (another first) (another second) mark₁ mark₂ some full₁ full₂ bad₁ bad₂) ∙ same);
        second =
            λ same. another_differs second
            (sym (second_holds bytes (another first) (another second) mark₁ mark₂ some full₁ full₂ bad₁ bad₂) ∙ same);
      },
    )
