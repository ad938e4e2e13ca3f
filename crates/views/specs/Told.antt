-- The answer of a moving view as the definitions have it, with the manual's number of a refusal: a refused view gives
-- no stretch and no first.
-- Assumes nothing.
use Rattle.std.specs.Prelude.{ℕ, Option, None, Result, Ok, Err}
use Rattle.common.specs.declared.refusals.Refusal.{Refusal}
use Rattle.common.specs.Refusals.{done}
use Rattle.common.specs.Told.{number_of}
use Rattle.views.specs.declared.view.View as view

-- the first stretch with most codes 16, or none
abbrev pub First : Type 0
First = Option ℕ

pub record View : Type 0 where
  pub refusal : ℕ
  pub stretches : ℕ
  pub first : First

-- what is answered
abbrev pub told : Result view.View Refusal → View
told (Ok v) = record { refusal = done; stretches = v.stretches; first = v.first }
told (Err e) = record { refusal = number_of e; stretches = 0; first = None }
