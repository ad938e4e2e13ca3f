-- Lists of the functions' calls, each getting the bytes that the last one left, and what is seen of them: the
-- dispatcher's exchanges.
-- Assumes nothing.
use Rattle.std.specs.Prelude.{◌≡◌, ℕ, List, [], ◌∷◌, eqb}
use Rattle.common.specs.Pick.{pick}
use Rattle.link.specs.declared.state.Action.TheVariants.{Nothing}
use Rattle.std.specs.Prelude.{None}
use Rattle.dispatcher.specs.Dispatcher.{Answer}
use Rattle.dispatcher.specs.Lists as dispatcher
use Rattle.dispatcher.specs.Lists.{Call}
use Rattle.dispatcher.specs.Refused.{lent_space, lent_check}
use Rattle.dispatcher.specs.InRange.{AllBytesIn}
use Rattle.layout.specs.Reading.{state_of}
use Rattle.layout.specs.Answers.{action_of, handed_of, given_of}
use Rattle.firmware.specs.Calls.{Left}

-- a call, what the answer's bytes were before it, and what it left
pub record Exchange : Type 0 where
  pub call : Call
  pub before : List ℕ
  pub left : Left

-- ---- what is seen of it

-- the state that its bytes hold; and where the call is not refused, what the answer's bytes tell
unfoldable pub seen_answer : Left → Answer
seen_answer l =
    let carried = eqb l.ended.refusal 0 in
    record {
      reply =
          record {
            dispatcher = state_of l.ended.state;
            action = pick carried (action_of l.ended.answer) Nothing;
            refusal = l.ended.refusal;
            handed = pick carried (handed_of l.ended.answer) None;
          };
      bytes = pick carried (given_of l.ended.answer) 0;
      space = l.space;
      check = l.check;
    }

abbrev pub seen : Exchange → dispatcher.Exchange
seen x = record { call = x.call; answer = seen_answer x.left }

-- in a list, in order
unfoldable pub seen_in : List Exchange → List dispatcher.Exchange
seen_in [] = []
seen_in (x ∷ xs) = seen x ∷ seen_in xs

-- the bytes that a list leaves of a state
unfoldable pub bytes_after : List ℕ → List Exchange → List ℕ
bytes_after state [] = state
bytes_after state (x ∷ xs) = bytes_after x.left.ended.state xs

-- ---- what a C program can hand in

-- bytes, as C's types have it
abbrev pub AllFromC : List Exchange → Type 0
AllFromC xs = AllBytesIn (seen_in xs)

-- ---- a refused call

-- state, answer, lent space and check store are as they were
pub record Unchanged (state : List ℕ) (call : Call) (answer : List ℕ) (l : Left) : Type 0 where
  pub state_same : l.ended.state ≡ state
  pub answer_same : l.ended.answer ≡ answer
  pub space_same : l.space ≡ lent_space call
  pub check_same : l.check ≡ lent_check call
