-- Separation of the drives, for anything that the dispatcher sends: "the separation of drives holds for anything that
-- the dispatcher sends while nothing resets the controller and every store from the link names its drive; the queueing
-- and the handing calls then stand in its lists too." (document 02, request 8)
-- Assumes nothing.
use Rattle.std.specs.Prelude.{◌≡◌, Bool, true, ◌&&◌, List, [], ◌∷◌, ◌++◌, ℕ, ◌≤◌}
use Rattle.common.specs.Pick.{pick}
use Rattle.controller.specs.declared.controller.Controller.{Controller}
use Rattle.controller.specs.Records as records
use Rattle.controller.specs.Machine as machine
use Rattle.controller.specs.Separation.{history, Agree, admits}
use Rattle.operations.specs.declared.store.Store.{Store}
use Rattle.dispatcher.specs.declared.dispatcher.Dispatcher.{Dispatcher}
use Rattle.dispatcher.specs.Dispatcher.{Answer, fresh_dispatcher}
use Rattle.dispatcher.specs.Lists.{Call, Exchange, not_refused}
use Rattle.dispatcher.specs.Lists.Call.{queue, hand, passed}
use Rattle.dispatcher.specs.JobLedger.{JobLedger, fresh_ledger, next, ledger_after}

-- ---- what reaches the controller

-- its answer, without the queues
abbrev pub own_answer : Answer → records.Answer
own_answer a =
    record {
      reply =
          record {
            controller = a.reply.dispatcher.controller;
            action = a.reply.action;
            refusal = a.reply.refusal;
            handed = a.reply.handed;
          };
      bytes = a.bytes;
      space = a.space;
      check = a.check;
    }

abbrev pub own_exchange : machine.Call → Answer → machine.Exchange
own_exchange call a = record { call = call; answer = own_answer a }

-- a store that is handed over, or none
unfoldable pub sent_at : Answer → List Store → List machine.Exchange
sent_at a [] = []
sent_at a (store ∷ stores) = own_exchange (machine.hand store) a ∷ []

-- a call comes to none of the controller's calls, or to one with its answer: a handing not refused to that of the store
-- which is next by the ledger of the jobs, and a call that is passed on to itself, refused or not
unfoldable pub sent_by : JobLedger → Bool → Answer → Call → List machine.Exchange
sent_by l accepted a (queue job store) = []
sent_by l accepted a hand = pick accepted (sent_at a (next l)) []
sent_by l accepted a (passed call) = own_exchange call a ∷ []

-- in a list, in order
unfoldable pub sent_from : JobLedger → List Exchange → List machine.Exchange
sent_from l [] = []
sent_from l (x ∷ xs) = sent_by l (not_refused x) x.answer x.call ++ sent_from (ledger_after l x) xs

-- the controller's list in a list of the dispatcher's, from a fresh one
abbrev pub sent : List Exchange → List machine.Exchange
sent = sent_from fresh_ledger

-- ---- the condition on a list

-- what is passed on resets nothing, and its stores name their drives; of what the dispatcher hands over nothing is
-- asked
unfoldable pub admits_own : Controller → Answer → Call → Bool
admits_own c a (passed call) = admits c (own_exchange call a)
admits_own c a (queue job store) = true
admits_own c a hand = true

unfoldable pub admitted_from : Dispatcher → List Exchange → Bool
admitted_from d [] = true
admitted_from d (x ∷ xs) =
    admits_own d.controller x.answer x.call && admitted_from x.answer.reply.dispatcher xs

abbrev pub admitted : List Exchange → Bool
admitted = admitted_from fresh_dispatcher

-- ---- the claim

-- a drive with the same history in both lists, its stores carried out having come by the link or by hand, ends alike
-- and was given alike
abbrev pub Separate : List Exchange → List Exchange → Type 0
Separate xs ys =
    (drive : ℕ)
    → drive ≤ 3
    → admitted xs ≡ true
    → admitted ys ≡ true
    → history drive (sent xs) ≡ history drive (sent ys)
    → Agree drive (sent xs) (sent ys)
