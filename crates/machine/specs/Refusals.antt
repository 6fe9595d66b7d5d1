-- Why a turn is refused.
use Rattle.std.specs.Prelude.{◌≡◌, ℕ, ◌<◌, ◌≤◌, length, slice_get, None, IsSome, IsSomeAnd}
use Rattle.art_core.specs.Core.{Plan, State, next_move}
use Rattle.plans.specs.declared.fault.MachineFault.{MachineFault}
use Rattle.plans.specs.declared.fault.MachineFault.TheVariants.{NoProcess, NothingToDo, TurnLimit, Memory, TooLong, NotJson, Shape}
use Rattle.plans.specs.declared.fault.MachineFault.TheVariants.{StartRefused}

-- process p has something to do: an open call, or one of its script to begin
abbrev pub HasMove : Plan → State → ℕ → Type 0
HasMove plan s p = IsSomeAnd (slice_get s.processes p) (λ q. IsSome (next_move plan p q))

-- In this state, with this many turns left, a turn of p is refused for this cause: there is no such
-- process; else it has nothing to do; else no turn is left.
abbrev pub IsRefusedIn : Plan → State → ℕ → ℕ → MachineFault → Type 0
IsRefusedIn plan s left p NoProcess = length s.processes ≤ p
IsRefusedIn plan s left p NothingToDo = IsSomeAnd (slice_get s.processes p) (λ q. next_move plan p q ≡ None)
IsRefusedIn plan s left p TurnLimit = HasMove plan s p × (left ≡ 0)
IsRefusedIn plan s left p Memory = HasMove plan s p × (0 < left)
IsRefusedIn plan s left p TooLong = ⊥
IsRefusedIn plan s left p NotJson = ⊥
IsRefusedIn plan s left p Shape = ⊥
IsRefusedIn plan s left p StartRefused = ⊥
