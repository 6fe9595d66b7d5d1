-- Steps of the first process of a view.
use Rattle.std.specs.Prelude.{◌≡◌, ℕ, zero, suc, ◌<◌, Bool, is_some, IsTrue, List, ◌∷◌, ◌++◌, [], None}
use Rattle.events.specs.declared.event.Call.{Call}
use Rattle.events.specs.declared.event.Reply.{Reply}
use Rattle.events.specs.declared.event.Event.TheVariants.{Answer}
use Rattle.events.specs.Logs.{Stamped}
use Rattle.art_core.specs.declared.process.Process.{Process}
use Rattle.running.specs.declared.view.View.{View}
use Rattle.running.specs.Views.{Numbered, next_of, advanced, invoking, AllStamps}

abbrev pub first_number : List Numbered → ℕ
first_number [] = 0
first_number (x ∷ xs) = x.0

-- the number of the first process, which is the least
abbrev pub least_process : View → ℕ
least_process v = first_number v.processes

-- the first process has an open call
abbrev pub is_open : View → Bool
is_open v = is_some (next_of v)

-- n steps of the first process, each of its open call
abbrev pub Ran : ℕ → View → View → Type 0
Ran zero v w = w ≡ v
Ran (suc n) v w = IsTrue (is_open v) × ((found : ℕ) × Ran n (advanced v found) w)

-- the first process has no open call, and the last event in its log is the response with this reply
pub record HasReplied (reply : Reply) (v : View) : Type 0 where
  pub number : ℕ
  pub process : Process
  pub others : List Numbered
  pub is : v.processes ≡ (number, process) ∷ others
  pub idle : process.call ≡ None
  pub earlier : List Stamped
  pub stamp : ℕ
  pub log : process.log ≡ earlier ++ (stamp, Answer number reply) ∷ []

-- the first process has invoked the call, and nothing else differs. It is one step of the core,
-- with a stamp greater than all that were shown
pub record HasInvoked (call : Call) (old new : View) : Type 0 where
  pub stamp : ℕ
  pub is : new ≡ invoking call old stamp
  pub later : AllStamps (λ earlier. earlier < stamp) old
