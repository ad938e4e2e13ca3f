-- Fairness: "A store with j of its own job's before it is handed over within 4 times (j+1) handings that are not
-- refused, whatever the other jobs queue." (document 02, request 8). Of every state whose queues are sound, and of
-- whatever is called after it.
-- Assumes nothing.
use Rattle.std.specs.Prelude.{◌≡◌, List, [], ◌∷◌, ◌++◌, ℕ, ◌+◌, ◌*◌, ◌≤◌, length, take}
use Rattle.common.specs.Pick.{pick}
use Rattle.operations.specs.declared.store.Store.{Store}
use Rattle.dispatcher.specs.declared.dispatcher.Dispatcher.{Dispatcher}
use Rattle.dispatcher.specs.Lists.{Call, Exchange, not_refused, line, handed_in}
use Rattle.dispatcher.specs.Lists.Call.{queue, hand, passed}

-- a handing
unfoldable pub is_handing : Call → ℕ
is_handing hand = 1
is_handing (queue job store) = 0
is_handing (passed call) = 0

-- how many handings were not refused
unfoldable pub handings : List Exchange → ℕ
handings [] = 0
handings (x ∷ xs) = pick (not_refused x) (is_handing x.call) 0 + handings xs

-- where a store waits behind others of its job, and so many handings are not refused, what is handed over of the job
-- begins with those others and then it
abbrev pub Fair : Dispatcher → List Exchange → Type 0
Fair d xs =
    (job : ℕ) (before behind : List Store) (store : Store)
    → job ≤ 3
    → line job d ≡ before ++ store ∷ behind
    → 4 * (length before + 1) ≤ handings xs
    → take (length before + 1) (handed_in job d xs) ≡ before ++ (store ∷ [])
