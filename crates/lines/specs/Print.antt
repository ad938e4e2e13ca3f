-- What the session prints for a line (document 01, Loads, restorer, session): "It prints refusal,action (- none, A
-- byte, P string, M order),its bytes,bytes delivered or image. An unreadable line prints ?,-,,". Each text ends with
-- its #0A.
-- Assumes nothing.
use Rattle.std.specs.Prelude.{ℕ, Result, Ok, Err, List, [], ◌∷◌, ◌++◌}
use Rattle.text.specs.Characters.{comma, line_feed, none_sign, unreadable_sign}
use Rattle.text.specs.Print.{bytes_text, refusal_text}
use Rattle.lines.specs.Characters.{byte_sign, string_sign, order_sign}
use Rattle.common.specs.declared.refusals.Refusal.{Refusal}
use Rattle.controller.specs.declared.controller.Answer.{Answer}
use Rattle.link.specs.declared.frames.Frame.{Frame}
use Rattle.link.specs.declared.state.Action.{Action}
use Rattle.link.specs.declared.state.Action.TheVariants.{Nothing, Byte, Text, Order}

-- "action (- none, A byte, P string, M order)"
unfoldable pub action_letter : Action → ℕ
action_letter Nothing = none_sign
action_letter (Byte b) = byte_sign
action_letter (Text s) = string_sign
action_letter (Order s) = order_sign

-- the bytes of a string or an order
unfoldable pub six_bytes : Frame → List ℕ
six_bytes s = s.b0 ∷ s.b1 ∷ s.b2 ∷ s.b3 ∷ s.b4 ∷ s.b5 ∷ []

-- and their text
abbrev pub six_text : Frame → List ℕ
six_text s = bytes_text (six_bytes s)

-- "its bytes"
unfoldable pub action_bytes : Action → List ℕ
action_bytes Nothing = []
action_bytes (Byte b) = b ∷ []
action_bytes (Text s) = six_bytes s
action_bytes (Order s) = six_bytes s

-- and their text
abbrev pub action_text : Action → List ℕ
action_text action = bytes_text (action_bytes action)

-- "refusal,action (- none, A byte, P string, M order),its bytes", each with its comma
unfoldable pub head_text : ℕ → Action → List ℕ
head_text refusal action =
    refusal_text refusal ++ (comma ∷ action_letter action ∷ comma ∷ (action_text action ++ (comma ∷ [])))

-- the action that a call's answer has its caller take
abbrev pub action_of : Result Answer Refusal → Action
action_of (Ok a) = a.action
action_of (Err e) = Nothing

-- "refusal,action .. ,its bytes,bytes delivered or image", without the line's end
unfoldable pub fields_text : ℕ → Action → List ℕ → List ℕ
fields_text refusal action bytes = head_text refusal action ++ bytes_text bytes

-- "refusal,action .. ,its bytes,bytes delivered or image"
unfoldable pub answer_text : ℕ → Action → List ℕ → List ℕ
answer_text refusal action bytes = head_text refusal action ++ (bytes_text bytes ++ (line_feed ∷ []))

-- the same of a call that gives no bytes
abbrev pub reply_text : ℕ → Action → List ℕ
reply_text refusal action = answer_text refusal action []

-- "An unreadable line prints ?,-,,"
unfoldable pub unreadable_text : List ℕ
unreadable_text = unreadable_sign ∷ comma ∷ none_sign ∷ comma ∷ comma ∷ line_feed ∷ []
