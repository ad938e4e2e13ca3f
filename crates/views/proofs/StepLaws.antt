-- Laws of the window along a run: what one code more makes of it.
-- Assumes nothing.
use mathlib.Core.Path.{◌≡◌, sym, ap, subst, ◌∙◌}
use Prim.Native.Nat.{ℕ, ◌+◌, ◌-◌, ◌*◌, ◌≤◌, ◌<◌}
use native.Mathlib.Numerals.{add-one}
use native.Mathlib.Omega.{arith}
use mathlib.Core.List.{List, [], ◌∷◌, ◌++◌, append_assoc}
use lib.ListN.{length, drop, replicate, length-append, length-drop, length-replicate}
use lib.Seq.{drop-drop, drop-append-le, drop-append-add, take_at, drop_at, sets-eq}
use lib.Dec.{ltb}
use borrow.Author.Tests.{ltb-true, ltb-false}
use Rattle.common.specs.Pick.{pick}
use Rattle.common.specs.Space.{overwrite}
use Rattle.common.proofs.PickLaws.{by_test}
use Rattle.views.specs.declared.counts.Counts.{Counts}
use Rattle.views.specs.declared.window.Window.{Window}
use Rattle.views.specs.View.{counts_of, count_bytes, stretches, stretches_bytes, unrecoverables}
use Rattle.views.specs.Window.{held, Shifted, with_stretch, placed, put3, placed_into, Gave, After}
use Rattle.views.proofs.StretchLaws.{stretches_short, stretches_more, bytes_more, bytes_length}
use Rattle.views.proofs.StretchLaws.{unrecoverables_more, unrecoverables_length, greatest_more, place_more}

-- ---- one stretch more

-- three bytes after those that are given
two_more : (n : ℕ) → n + 2 ≡ n + 1 + 1
two_more n = omega arith

given_more : (bs space : List ℕ) (n : ℕ) (c : Counts) → length bs ≡ n → n + 3 ≤ length space
    → put3 (overwrite bs space) n c ≡ overwrite (bs ++ count_bytes c) space
unfolding put3 overwrite count_bytes
given_more bs space n c e l =
    rw (two_more n, add-one (n + 1), add-one n)
    (sets-eq (c.recoverable ∷ c.unrecoverable ∷ c.others ∷ []) (bs ++ drop (length bs) space) n room
    ∙ ap (λ (x : List ℕ). x ++ count_bytes c ++ drop (n + 3) (bs ++ drop (length bs) space))
    (take_at bs (drop (length bs) space) n e)
    ∙ ap (λ (x : List ℕ). bs ++ count_bytes c ++ x) tail)
  where
    room : n + 3 ≤ length (bs ++ drop (length bs) space)
    room = rw (length-append, length-drop) (omega arith)

    tail : drop (n + 3) (bs ++ drop (length bs) space) ≡ drop (length (bs ++ count_bytes c)) space
    tail =
        sym (drop-drop 3 n (bs ++ drop (length bs) space)) ∙ ap (drop 3) (drop_at bs (drop (length bs) space) n e)
        ∙ drop-drop 3 (length bs) space ∙ ap (λ (m : ℕ). drop m space) (sym (length-append bs (count_bytes c)))

overwritten_length : (bs space : List ℕ) → length bs ≤ length space → length (overwrite bs space) ≡ length space
unfolding overwrite
overwritten_length bs space h = rw (length-append, length-drop) (omega arith)

-- the space stays as long as it was lent
pub space_length : (ss : List (List ℕ)) (space : List ℕ) (w : Window) (out : List ℕ) → Gave ss space w out
    → length out ≡ length space
space_length ss space w out g =
    ap length g.gives ∙ overwritten_length (stretches_bytes ss) space (rw (bytes_length ss) g.room)

gave_more : (ss : List (List ℕ)) (s space : List ℕ) (w : Window) (out : List ℕ) → Gave ss space w out
    → w.counts ≡ counts_of s → 3 * w.stretches + 3 ≤ length out
    → Gave (ss ++ (s ∷ [])) space (with_stretch w) (put3 out (3 * w.stretches) w.counts)
unfolding with_stretch
gave_more ss s space w out g e l = record {
  count = rw (length-append) (ap (λ (n : ℕ). n + 1) g.count);
  most = rw (unrecoverables_more ss s, g.most, e) (greatest_more (unrecoverables ss) (counts_of s).unrecoverable);
  first =
      rw (unrecoverables_more ss s, g.most, g.first, e, g.count, ← unrecoverables_length ss)
      (place_more (unrecoverables ss) (counts_of s).unrecoverable);
  gives = rw (bytes_more ss s, g.gives, e, g.count)
      (given_more (stretches_bytes ss) space (3 * length ss) (counts_of s) (bytes_length ss)
      (omega (arith, l, g.count, space_length ss space w out g)));
  room = rw (length-append) (omega (arith, l, g.count, space_length ss space w out g));
}

-- ---- one code more

next_held : (width code : ℕ) (codes : List ℕ) → 1 ≤ width
    → drop 1 (drop (length codes) (replicate width 0 ++ codes)) ++ (code ∷ [])
    ≡ drop (length codes + 1) (replicate width 0 ++ (codes ++ (code ∷ [])))
next_held width code codes some =
    ap (λ (x : List ℕ). x ++ (code ∷ [])) (drop-drop 1 (length codes) (replicate width 0 ++ codes))
    ∙ sym (drop-append-le (length codes + 1) (replicate width 0 ++ codes) (code ∷ []) room)
    ∙ ap (drop (length codes + 1)) (append_assoc (replicate width 0) codes (code ∷ []))
  where
    room : length codes + 1 ≤ length (replicate width 0 ++ codes)
    room = rw (length-append, length-replicate) (omega arith)

full_held : (width : ℕ) (codes : List ℕ) → width ≤ length codes
    → drop (length codes) (replicate width 0 ++ codes) ≡ drop (length codes - width) codes
full_held width codes l =
    ap (λ (n : ℕ). drop n (replicate width 0 ++ codes)) parts
    ∙ drop-append-add (replicate width 0) codes (length codes - width)
  where
    parts : length codes ≡ length {A = ℕ} (replicate width 0) + (length codes - width)
    parts = rw (length-replicate {A = ℕ} width 0) (omega arith)

module _ (width : ℕ) (codes space : List ℕ) (w : Window) (out : List ℕ) (u : After width codes space w out) (code : ℕ)
    (m : Window) (sh : Shifted w code m) where
  abbrev more : List ℕ
  more = codes ++ (code ∷ [])

  some : 1 ≤ width
  some = rw u.wide at u.whole.some

  long : length more ≡ length codes + 1
  long = length-append codes (code ∷ [])

  wide : m.width ≡ width
  wide = sh.width ∙ u.wide

  taken : m.taken ≡ length more
  taken = sh.taken ∙ ap (λ (n : ℕ). n + 1) u.taken ∙ sym long

  holds : held m ≡ drop (length more) (replicate width 0 ++ more)
  holds =
      sh.holds ∙ ap (λ (x : List ℕ). drop 1 x ++ (code ∷ [])) u.holds ∙ next_held width code codes some
      ∙ ap (λ (n : ℕ). drop n (replicate width 0 ++ more)) (sym long)

  gave : Gave (stretches width codes) space m out
  gave = record {
    count = sh.stretches ∙ u.gave.count;
    most = sh.most ∙ u.gave.most;
    first = sh.first ∙ u.gave.first;
    gives = u.gave.gives;
    room = u.gave.room;
  }

  not_full : m.taken < m.width → After width more space m out
  not_full h = record {
    whole = sh.whole;
    wide = wide;
    taken = taken;
    holds = holds;
    gave =
        subst (λ (ss : List (List ℕ)). Gave ss space m out)
        (stretches_short width codes (omega (arith, h, wide, taken, long))
        ∙ sym (stretches_short width more (omega (arith, h, wide, taken, long)))) gave;
  }

  module _ (h : m.width ≤ m.taken) (room : 3 * m.stretches + 3 ≤ length out) where
    stretch : held m ≡ drop (length codes + 1 - width) more
    stretch = holds ∙ full_held width more (omega (arith, h, wide, taken)) ∙ ap (λ (n : ℕ). drop (n - width) more) long

    full : After width more space (with_stretch m) (put3 out (3 * m.stretches) m.counts)
    unfolding with_stretch held
    full = record {
      whole =
          record {
            some = sh.whole.some;
            few = sh.whole.few;
            within = sh.whole.within;
            long = sh.whole.long;
            counts = sh.whole.counts;
          };
      wide = wide;
      taken = taken;
      holds = holds;
      gave = subst (λ (ss : List (List ℕ)). Gave ss space (with_stretch m) (put3 out (3 * m.stretches) m.counts))
          (sym (stretches_more width code codes some (omega (arith, h, wide, taken, long))))
          (gave_more (stretches width codes) (drop (length codes + 1 - width) more) space m out gave
          (sh.whole.counts ∙ ap counts_of stretch) room);
    }

  pub one_more : (r : Window) (zs : List ℕ) → (m.width ≤ m.taken → 3 * m.stretches + 3 ≤ length out) → r ≡ placed m
      → zs ≡ placed_into m out → After width more space r zs
  unfolding placed placed_into pick
  one_more r zs room e f = by_test (ltb m.taken m.width)
      (λ t. rw (e, f, t) (not_full (ltb-true m.taken m.width t)))
      (λ t. rw (e, f, t) (full (ltb-false m.taken m.width t) (room (ltb-false m.taken m.width t))))
