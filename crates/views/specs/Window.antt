-- The window that moves along a run. No paper knows of it: what is promised of the view is in `View.antt`.
-- Assumes nothing.
use Rattle.std.specs.Prelude.{ℕ, ◌+◌, ◌-◌, ◌*◌, ◌≤◌, ◌<◌, ◌≡◌, Bool, true, List, [], ◌∷◌, ◌++◌, eqb, ltb, length, take}
use Rattle.std.specs.Prelude.{drop, replicate, set, None, Some}
use Rattle.common.specs.Pick.{pick}
use Rattle.common.specs.Space.{overwrite}
use Rattle.views.specs.Limits.{width_limit, stretch_bytes}
use Rattle.views.specs.View.{is_recoverable, is_unrecoverable, is_other, counts_of, stretches, stretches_bytes}
use Rattle.views.specs.View.{unrecoverables, greatest, place_of}
use Rattle.views.specs.declared.counts.Counts.{Counts}
use Rattle.views.specs.declared.window.Window.{Window}
use Rattle.views.specs.declared.view.View.{View}

-- ---- counts

-- a count that can be counted on: a code that leaves is among what it counts
abbrev pub Counted : ℕ → Bool → Type 0
Counted n leaving = (n ≤ width_limit) × (leaving ≡ true → 1 ≤ n)

-- a count, after one code leaves and one enters: whether each is counted
unfoldable pub recounted : ℕ → Bool → Bool → ℕ
recounted n leaving entering = n - pick leaving 1 0 + pick entering 1 0

-- the counts, after one code leaves and one enters
unfoldable pub counts_after : Counts → ℕ → ℕ → Counts
counts_after n leaving entering = record {
  recoverable = recounted n.recoverable (is_recoverable leaving) (is_recoverable entering);
  unrecoverable = recounted n.unrecoverable (is_unrecoverable leaving) (is_unrecoverable entering);
  others = recounted n.others (is_other leaving) (is_other entering);
}

-- ---- one record more

-- the codes that a window holds, the oldest first
unfoldable pub held : Window → List ℕ
held w = drop w.oldest (take w.width w.codes) ++ take w.oldest w.codes

-- a window that counts what it holds
pub record Whole (w : Window) : Type 0 where
  pub some : 1 ≤ w.width
  pub few : w.width ≤ width_limit
  pub within : w.oldest < w.width
  pub long : length w.codes ≡ width_limit
  pub counts : w.counts ≡ counts_of (held w)

-- a window after a code is taken in and the oldest let out
pub record Shifted (w : Window) (code : ℕ) (r : Window) : Type 0 where
  pub whole : Whole r
  pub holds : held r ≡ drop 1 (held w) ++ (code ∷ [])
  pub width : r.width ≡ w.width
  pub taken : r.taken ≡ w.taken + 1
  pub stretches : r.stretches ≡ w.stretches
  pub most : r.most ≡ w.most
  pub first : r.first ≡ w.first

-- a window after its stretch is given
unfoldable pub with_stretch : Window → Window
with_stretch w = record {
  codes = w.codes;
  width = w.width;
  oldest = w.oldest;
  taken = w.taken;
  counts = w.counts;
  stretches = w.stretches + 1;
  most = pick (ltb w.most w.counts.unrecoverable) w.counts.unrecoverable w.most;
  first = pick (ltb w.most w.counts.unrecoverable) w.stretches w.first;
}

-- where it is full
unfoldable pub placed : Window → Window
placed w = pick (ltb w.taken w.width) w (with_stretch w)

-- three bytes from a place of a space on
unfoldable pub put3 : List ℕ → ℕ → Counts → List ℕ
put3 space at n = set (set (set space at n.recoverable) (at + 1) n.unrecoverable) (at + 2) n.others

unfoldable pub placed_into : Window → List ℕ → List ℕ
placed_into w space = pick (ltb w.taken w.width) space (put3 space (stretch_bytes * w.stretches) w.counts)

-- ---- a run

-- a window that gave some stretches, and the lent space as it then is
pub record Gave (ss : List (List ℕ)) (space : List ℕ) (w : Window) (out : List ℕ) : Type 0 where
  pub count : w.stretches ≡ length ss
  pub most : w.most ≡ greatest (unrecoverables ss)
  pub first : w.first ≡ place_of (greatest (unrecoverables ss)) (unrecoverables ss)
  pub gives : out ≡ overwrite (stretches_bytes ss) space
  pub room : stretch_bytes * length ss ≤ length space

-- a window after some codes: it holds the last of them, and gave every full stretch
pub record After (width : ℕ) (codes space : List ℕ) (w : Window) (out : List ℕ) : Type 0 where
  pub whole : Whole w
  pub wide : w.width ≡ width
  pub taken : w.taken ≡ length codes
  pub holds : held w ≡ drop (length codes) (replicate width 0 ++ codes)
  pub gave : Gave (stretches width codes) space w out

-- the window before the first record
unfoldable pub open_window : ℕ → Window
open_window width = record {
  codes = replicate width_limit 0;
  width = width;
  oldest = 0;
  taken = 0;
  counts = record { recoverable = 0; unrecoverable = 0; others = 0 };
  stretches = 0;
  most = 0;
  first = 0;
}

-- what a window answers after the last record
unfoldable pub view_of : Window → View
view_of w = record { stretches = w.stretches; first = pick (eqb w.stretches 0) None (Some w.first) }
