-- The fresh controller, and what a call hands back (document 01, The link; Turned back).
-- Assumes nothing.
use Rattle.std.specs.Prelude.{ℕ, Bool, false, eqb}
use Rattle.status.specs.Drives.{fresh_drives}
use Rattle.link.specs.declared.state.Phase.{Phase}
use Rattle.link.specs.declared.state.Phase.TheVariants.{Collecting}
use Rattle.link.specs.declared.state.Action.TheVariants.{Nothing}
use Rattle.std.specs.Prelude.{None}
use Rattle.link.specs.State.{Transition}
use Rattle.link.specs.State.{when_collecting, nothing_collected, start_body}
use Rattle.controller.specs.declared.controller.Controller.{Controller}
use Rattle.controller.specs.Told.{Reply, Transfer}

-- "Fresh: .. collecting."
unfoldable pub fresh : Controller
fresh = record { body = start_body fresh_drives; phase = Collecting nothing_collected }

-- "idle .. (nothing collected)": nothing is offered, sent or awaited either
unfoldable pub is_idle_in : Phase → Bool
is_idle_in = when_collecting (λ s. eqb s.length 0) false

abbrev pub is_idle : Controller → Bool
is_idle c = is_idle_in c.phase

-- a call that is carried out
abbrev pub carried : Transition → Reply
carried transition =
    record {
      controller = record { body = transition.body; phase = transition.phase };
      action = transition.action;
      refusal = 0;
      handed = transition.handed;
    }

-- "state and buffers unchanged, no action"; "Any call that settles no code, a refused one .., hands back none."
-- (document 02, request 4)
abbrev pub refused : ℕ → Controller → Reply
refused number c = record { controller = c; action = Nothing; refusal = number; handed = None }

-- a refused data or result call gives no bytes
abbrev pub refused_transfer : ℕ → Controller → Transfer
refused_transfer number c = record { reply = refused number c; bytes = 0 }
