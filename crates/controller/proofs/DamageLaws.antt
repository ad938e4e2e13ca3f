-- Laws of the test that each call begins with: whether the state is damaged.
-- Assumes nothing.
use mathlib.Core.Path.{◌≡◌, sym, ◌∙◌}
use mathlib.Core.Bool.{Bool, true, false, not}
use borrow.Author.Tests.{not-true, not-false}
use Rattle.link.specs.Damaged.{is_sound}
use Rattle.controller.specs.declared.controller.Controller.{Controller}

module _ (c : Controller) {test : Bool} (is : test ≡ not (is_sound c.body c.phase)) where
  pub damaged : test ≡ true → is_sound c.body c.phase ≡ false
  damaged h = not-true _ (sym is ∙ h)

  pub undamaged : test ≡ false → is_sound c.body c.phase ≡ true
  undamaged h = not-false _ (sym is ∙ h)
