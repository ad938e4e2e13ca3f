-- The moving view on its way along a run: so many records have gone through its window.
-- Assumes nothing.
use mathlib.Core.Path.{◌≡◌, refl, sym, ap, subst, ◌∙◌}
use Prim.Native.Nat.{ℕ, zero, suc, ◌+◌, ◌-◌, ◌*◌, ◌≤◌, ◌<◌}
use native.Mathlib.Numerals.{add-one}
use native.Mathlib.Omega.{arith}
use mathlib.Core.Bool.{true, false, not, ◌&&◌}
use mathlib.Core.List.{List, [], ◌∷◌, ◌++◌, append-nil}
use lib.ListN.{length, get_or, take, replicate}
use lib.Seq.{take_all, take-suc, length-take-le}
use lib.Dec.{eqb, leb, ltb}
use borrow.Author.Tests.{leb-true, ltb-false, not-false, eq-eqb, ne_eqb}
use Rattle.std.proofs.Common.{None, Some, Ok, Err}
use Rattle.std.proofs.lemmas.List.{take-replicate}
use Rattle.common.specs.declared.refusals.Refusal.{Refusal}
use Rattle.common.specs.Told.{number_of}
use Rattle.common.proofs.RefusalLaws.{refused_not_done}
use Rattle.common.specs.Pick.{pick}
use Rattle.common.specs.Space.{overwrite}
use Rattle.common.proofs.PickLaws.{both_hold, not_refused_lem, pick_yes, pick_no}
use Rattle.status.specs.declared.words.ResultRecord.{ResultRecord}
use Rattle.views.specs.declared.window.Window.{Window}
use Rattle.views.specs.declared.view.View.{View}
use Rattle.views.specs.Told.{told}
use Rattle.views.specs.View.{codes_of, stretches, stretches_bytes, unrecoverables, greatest, place_of, first_most}
use Rattle.views.specs.View.{stretch_count, view_refusal, Admitted, moving_view, moving_view_into, counts_of}
use Rattle.views.specs.Window.{held, Whole, Gave, After, open_window, view_of}
use Rattle.views.proofs.CountLaws.{counts_zeros}
use Rattle.views.proofs.StretchLaws.{stretches_length}

abbrev pub blank : ResultRecord
blank = record { code = 0; motion = 0; count = 0 }

-- what `step` asks, and what it ensures
pub record Asked (w : Window) (out : List ℕ) : Type 0 where
  pub whole : Whole w
  pub few_taken : w.taken < 65535
  pub few_stretches : w.stretches < 65535
  pub room : w.width ≤ w.taken + 1 → 3 * w.stretches + 3 ≤ length out

abbrev pub Stepped : List ℕ → Window → ℕ → Window → List ℕ → Type 0
Stepped out w code r zs =
    (width : ℕ) (codes space : List ℕ) → After width codes space w out → After width (codes ++ (code ∷ [])) space r zs

-- ---- the codes of a run

pub codes_length : (rs : List ResultRecord) → length (codes_of rs) ≡ length rs
unfolding codes_of
codes_length [] = refl
codes_length (r ∷ rs) = ap suc (codes_length rs)

codes_at : (rs : List ResultRecord) (i : ℕ) → get_or (codes_of rs) i 0 ≡ (get_or rs i blank).code
unfolding codes_of
codes_at [] i = refl
codes_at (r ∷ rs) zero = refl
codes_at (r ∷ rs) (suc i) = codes_at rs i

codes_more : (rs : List ResultRecord) (i : ℕ) → i < length rs
    → take i (codes_of rs) ++ ((get_or rs i blank).code ∷ []) ≡ take (i + 1) (codes_of rs)
codes_more rs i l =
    ap (λ (c : ℕ). take i (codes_of rs) ++ (c ∷ [])) (sym (codes_at rs i))
    ∙ sym (take-suc (codes_of rs) i 0 (rw (codes_length rs) l)) ∙ ap (λ (n : ℕ). take n (codes_of rs)) (sym (add-one i))

-- ---- what is known where nothing is refused

pub admitted : (width count room : ℕ) → view_refusal width count room ≡ 0 → Admitted width count room
unfolding view_refusal
admitted width count room e = record {
  some = leb-true 1 width one.0;
  few = leb-true width 64 one.1;
  short = ltb-false 65535 count more.0;
  space = ltb-false room (3 * stretch_count width count) last.0;
}
  where
    range : (not (leb 1 width && leb width 64) ≡ false)
        × (◌≡◌ {A = ℕ} (pick (ltb 65535 count) 19 (pick (ltb room (3 * stretch_count width count)) 11 0)) 0)
    range =
        not_refused_lem (not (leb 1 width && leb width 64)) 18
        (pick (ltb 65535 count) 19 (pick (ltb room (3 * stretch_count width count)) 11 0)) (λ x. omega arith) e

    one : (leb 1 width ≡ true) × (leb width 64 ≡ true)
    one = both_hold (leb 1 width) (leb width 64) (not-false (leb 1 width && leb width 64) range.0)

    more : (ltb 65535 count ≡ false) × (◌≡◌ {A = ℕ} (pick (ltb room (3 * stretch_count width count)) 11 0) 0)
    more =
        not_refused_lem (ltb 65535 count) 19 (pick (ltb room (3 * stretch_count width count)) 11 0) (λ x. omega arith)
        range.1

    last : (ltb room (3 * stretch_count width count) ≡ false) × (◌≡◌ {A = ℕ} 0 0)
    last = not_refused_lem (ltb room (3 * stretch_count width count)) 11 0 (λ x. omega arith) more.1

-- ---- the window before the first record: it holds codes 0

module _ (width : ℕ) (some : 1 ≤ width) (few : width ≤ 64) where
  first_held : held (open_window width) ≡ replicate width 0
  unfolding held open_window
  first_held = append-nil (take width (replicate 64 0)) ∙ take-replicate width 64 0 few

  -- as after no code
  pub starts : (space : List ℕ) → After width [] space (open_window width) space
  unfolding open_window stretches unrecoverables greatest place_of stretches_bytes overwrite
  starts space = record {
    whole = record {
      some = some;
      few = few;
      within = some;
      long = refl;
      counts = counts_zeros width ∙ ap counts_of (sym first_held);
    };
    wide = refl;
    taken = refl;
    holds = first_held ∙ sym (append-nil (replicate width 0));
    gave = record { count = refl; most = refl; first = refl; gives = refl; room = omega arith };
  }

-- ---- what the window answers

first_is : (ss : List (List ℕ))
    → pick (eqb (length ss) 0) None (Some (place_of (greatest (unrecoverables ss)) (unrecoverables ss)))
    ≡ first_most (unrecoverables ss)
unfolding unrecoverables first_most pick
first_is [] = refl
first_is (s ∷ ss) = pick_no _ _ (ne_eqb (suc (length ss)) 0 (λ e. omega (arith, e)))

answers : (ss : List (List ℕ)) (space : List ℕ) (w : Window) (out : List ℕ) → Gave ss space w out
    → told (Ok (view_of w)) ≡ record { refusal = 0; stretches = length ss; first = first_most (unrecoverables ss) }
unfolding view_of
answers ss space w out g = rw (g.count, g.first, ← first_is ss)

module _ (width : ℕ) (rs : List ResultRecord) (space : List ℕ) (ok : Admitted width (length rs) (length space))
    (done : 0 ≡ view_refusal width (length rs) (length space)) where
  -- so many records have gone through the window
  abbrev pub Along : ℕ → Window → List ℕ → Type 0
  Along i w out = After width (take i (codes_of rs)) space w out

  so_many : (i : ℕ) → i ≤ length rs → length (take i (codes_of rs)) ≡ i
  so_many i l = length-take-le i (codes_of rs) (rw (codes_length rs) l)

  pub asks : (i : ℕ) (w : Window) (out : List ℕ) → Along i w out → i < length rs → length out ≡ length space
      → Asked w out
  unfolding stretch_count
  asks i w out u l e = record {
    whole = u.whole;
    few_taken = omega (arith, u.taken, so_many i k, ok.short, l);
    few_stretches = omega (arith, count, ok.short, ok.some, l);
    room = λ f. omega (arith, e, count, ok.space, l, f, u.taken, u.wide, so_many i k);
  }
    where
      k : i ≤ length rs
      k = omega (arith, l)

      count : w.stretches ≡ i + 1 - width
      count =
          u.gave.count ∙ stretches_length width (take i (codes_of rs)) ok.some
          ∙ ap (λ (n : ℕ). n + 1 - width) (so_many i k)

  pub onward : (i : ℕ) (w : Window) (out : List ℕ) → Along i w out → i < length rs → (r : Window) (zs : List ℕ)
      → Stepped out w (get_or rs i blank).code r zs → Along (i + 1) r zs
  onward i w out u l r zs s =
      subst (λ (codes : List ℕ). After width codes space r zs) (codes_more rs i l)
      (s width (take i (codes_of rs)) space u)

  pub ends : (i : ℕ) (w : Window) (out : List ℕ) → Along i w out → length rs ≤ i → (r : View) → r ≡ view_of w
      → (told (Ok r) ≡ moving_view width (codes_of rs) (length space))
      × (out ≡ moving_view_into width (codes_of rs) space)
  unfolding moving_view moving_view_into
  ends i w out u l r e = (
    rw e (answers (stretches width (codes_of rs)) space w out gave) ∙ sym (pick_yes _ _ test),
    gave.gives ∙ sym (pick_yes _ _ test),
  )
    where
      test : eqb (view_refusal width (length (codes_of rs)) (length space)) 0 ≡ true
      test = rw (codes_length rs) (eq-eqb (view_refusal width (length rs) (length space)) 0 (sym done))

      all : take i (codes_of rs) ≡ codes_of rs
      all = take_all i (codes_of rs) (omega (arith, l, codes_length rs))

      gave : Gave (stretches width (codes_of rs)) space w out
      gave = subst (λ (codes : List ℕ). Gave (stretches width codes) space w out) all u.gave

-- where the view is refused nothing is done
pub refused_view : (width : ℕ) (rs : List ResultRecord) (space : List ℕ) (e : Refusal)
    → number_of e ≡ view_refusal width (length rs) (length space)
    → (told (Err e) ≡ moving_view width (codes_of rs) (length space))
    × (space ≡ moving_view_into width (codes_of rs) space)
unfolding moving_view moving_view_into
refused_view width rs space e says =
    (rw same (sym (pick_no _ _ test)), sym (pick_no _ _ test))
  where
    same : number_of e ≡ view_refusal width (length (codes_of rs)) (length space)
    same = says ∙ ap (λ (n : ℕ). view_refusal width n (length space)) (sym (codes_length rs))

    test : eqb (view_refusal width (length (codes_of rs)) (length space)) 0 ≡ false
    test = rw (← same) (refused_not_done e)
