-- Laws of the window: what it holds after one code more, and what it then counts.
-- Assumes nothing.
use mathlib.Core.Path.{◌≡◌, refl, sym, ap, ◌∙◌}
use Prim.Native.Nat.{ℕ, suc, ◌+◌, ◌≤◌, ◌<◌}
use native.Mathlib.Numerals.{add-one}
use native.Mathlib.Omega.{arith}
use mathlib.Core.Bool.{Bool}
use mathlib.Core.Logic.{◌⊎◌, inl, inr}
use mathlib.Core.List.{List, [], ◌∷◌, ◌++◌, append-nil, append_assoc}
use lib.ListN.{length, take, drop, set, get_or, length-append, length-drop, length-set, drop_of_length-le}
use lib.Seq.{drop-cons, get_or-take, take-set-lt, drop-set-lt, take-suc-set, length-take-le}
use Rattle.views.specs.declared.counts.Counts.{Counts}
use Rattle.views.specs.declared.window.Window.{Window}
use Rattle.views.specs.View.{is_recoverable, is_unrecoverable, is_other, tally, counts_of}
use Rattle.views.specs.Window.{Counted, counts_after, held, Whole, Shifted}
use Rattle.views.proofs.CountLaws.{tally_le, present, counts_move}

-- ---- the ring: w places of s, the oldest at a
abbrev later : List ℕ → ℕ → ℕ → List ℕ
later s w a = drop (suc a) (take w s) ++ take a s

module _ (s : List ℕ) (w a : ℕ) (inside : a < w) (long : w ≤ length s) where
  within : a < length (take w s)
  within = rw (length-take-le w s long) inside

  oldest_first : drop a (take w s) ++ take a s ≡ get_or s a 0 ∷ later s w a
  oldest_first =
      ap (λ (l : List ℕ). l ++ take a s) (drop-cons (take w s) a 0 within)
      ∙ ap (λ (x : ℕ). x ∷ later s w a) (get_or-take w s a 0 inside)

  goes_on : (c : ℕ) → drop (a + 1) (take w (set s a c)) ++ take (a + 1) (set s a c) ≡ later s w a ++ (c ∷ [])
  goes_on c =
      rw (
        add-one a,
        take-set-lt w s a c inside,
        drop-set-lt (suc a) (take w s) a c (omega arith),
        take-suc-set s a c
            (omega arith),
      )
      (sym (append_assoc (drop (suc a) (take w s)) (take a s) (c ∷ [])))

  goes_around : (c : ℕ) → a + 1 ≡ w → drop 0 (take w (set s a c)) ++ take 0 (set s a c) ≡ later s w a ++ (c ∷ [])
  goes_around c e =
      append-nil (take w (set s a c)) ∙ ap (λ (n : ℕ). take n (set s a c)) (sym e ∙ add-one a)
      ∙ take-suc-set s a c (omega arith)
      ∙ ap (λ (l : List ℕ). l ++ take a s ++ (c ∷ []))
      (sym (drop_of_length-le (take w s) {i = suc a} (rw (length-take-le w s long) (omega (arith, e)))))

-- ---- a window after one code more
module _ (w : Window) (is : Whole w) where
  abbrev leaving : ℕ
  leaving = get_or w.codes w.oldest 0

  abbrev rest : List ℕ
  rest = later w.codes w.width w.oldest

  enough : w.width ≤ length w.codes
  enough = rw is.long is.few

  held_cons : held w ≡ leaving ∷ rest
  unfolding held
  held_cons = oldest_first w.codes w.width w.oldest is.within enough

  held_length : length (held w) ≡ w.width
  unfolding held
  held_length =
      rw (
        length-append,
        length-drop,
        length-take-le w.width w.codes enough,
        length-take-le w.oldest w.codes
            (omega (arith, is.within, enough)),
      )
      (omega (arith, is.within))

  -- what `counts_after` asks
  counted : (test : ℕ → Bool) (n : ℕ) → n ≡ tally test (held w) → Counted n (test leaving)
  counted test n e = (
    omega (arith, e, tally_le test (held w), held_length, is.few),
    λ h. rw (e, held_cons) (present test leaving rest h),
  )

  pub can_count : Counted w.counts.recoverable (is_recoverable leaving)
      × (Counted w.counts.unrecoverable (is_unrecoverable leaving) × Counted w.counts.others (is_other leaving))
  unfolding counts_of
  can_count = (
    counted is_recoverable _ (ap (λ (n : Counts). n.recoverable) is.counts),
    (
      counted is_unrecoverable _ (ap (λ (n : Counts). n.unrecoverable) is.counts),
      counted is_other _
          (ap (λ (n : Counts). n.others) is.counts),
    ),
  )

  abbrev Next : ℕ → Type 0
  Next next = ((w.oldest + 1 ≡ w.width) × (next ≡ 0)) ⊎ ((w.oldest + 1 ≡ w.width → ⊥) × (next ≡ w.oldest + 1))

  module _ (code next : ℕ) (counts : Counts) where
    abbrev moved : Window
    moved = record {
      codes = set w.codes w.oldest code;
      width = w.width;
      oldest = next;
      taken = w.taken + 1;
      counts = counts;
      stretches = w.stretches;
      most = w.most;
      first = w.first;
    }

    new_held : Next next → held moved ≡ rest ++ (code ∷ [])
    unfolding held
    new_held (inl e) = rw e.1 (goes_around w.codes w.width w.oldest is.within enough code e.0)
    new_held (inr e) = rw e.1 (goes_on w.codes w.width w.oldest is.within enough code)

    inside : Next next → next < w.width
    inside (inl e) = omega (arith, e.1, is.some)
    inside (inr e) = omega (arith, e.0, e.1, is.within)

    pub shifts : Next next → counts ≡ counts_after w.counts leaving code → Shifted w code moved
    shifts h e = record {
      whole = record {
        some = is.some;
        few = is.few;
        within = inside h;
        long = length-set w.codes w.oldest code ∙ is.long;
        counts =
            e ∙ ap (λ (n : Counts). counts_after n leaving code) (is.counts ∙ ap counts_of held_cons)
            ∙ counts_move leaving code rest ∙ ap counts_of (sym (new_held h));
      };
      holds = new_held h ∙ ap (λ (l : List ℕ). drop 1 l ++ (code ∷ [])) (sym held_cons);
      width = refl;
      taken = refl;
      stretches = refl;
      most = refl;
      first = refl;
    }
