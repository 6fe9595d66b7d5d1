-- The turns that a machine has made.
use Rattle.replays.proofs.Common.{◌∙◌, ◌≡◌, ◌<◌, ℕ, List, [], ◌∷◌, ◌++◌, ap, refl, arith, IsSomeAnd, IsSome, Option, Some, None, is_some, slice_get}
use Rattle.replays.proofs.Common.{slice_get_within, Process, Plan, State, step, next_move, Gives, run_on, run-on-append, Machine, Shows, HasMove}
use Rattle.replays.proofs.Common.{IsRefusedIn, MachineFault}
use Rattle.events.proofs.NumberLemmas.{some_at}
use Rattle.plans.specs.declared.fault.MachineFault.TheVariants as faults

-- turns that a machine has made, from the first state on
pub record HasTurned (plan : Plan) (first : State) (turns : List ℕ) (m : Machine) : Type 0 where
  pub state : State
  pub gives : Gives plan first turns state
  pub shows : Shows plan m state

-- turns that a machine has made, and one more
pub turned-more : (plan : Plan) (first : State) (turns : List ℕ) (p : ℕ) (m next : Machine) (h : HasTurned plan first turns m)
    → IsSomeAnd (step plan h.state p) (λ s. Shows plan next s) → HasTurned plan first (turns ++ p ∷ []) next
turned-more plan first turns p m next h stepped =
    let x = some_at (step plan h.state p) (λ s. Shows plan next s) stepped in
    record {
      state = x.0;
      gives = run-on-append plan (Some first) turns (p ∷ [])
          ∙ (ap (λ o. run_on plan o (p ∷ [])) h.gives ∙ ap (λ o. run_on plan o []) x.1);
      shows = x.2;
    }

-- a process that has something to do, with a turn left, is refused only if memory runs out
pub only-memory : (plan : Plan) (s : State) (left p : ℕ) (fault : MachineFault) → HasMove plan s p → 0 < left
    → IsRefusedIn plan s left p fault → fault ≡ faults.Memory
only-memory plan s left p faults.NoProcess move some refused =
    let x = some_at (slice_get s.processes p) (λ q. IsSome (next_move plan p q)) move in
    let within = slice_get_within s.processes p x.0 x.1 in
    absurd (omega arith)
only-memory plan s left p faults.NothingToDo move some refused = absurd (go (slice_get s.processes p) move refused)
  where
    go : (o : Option Process) → IsSomeAnd o (λ q. IsSome (next_move plan p q)) → IsSomeAnd o (λ q. next_move plan p q ≡ None) → ⊥
    go None move none = move
    go (Some q) move none = let e = ap (λ o. is_some o) none in cc
only-memory plan s left p faults.TurnLimit move some refused = absurd (omega arith)
only-memory plan s left p faults.Memory move some refused = refl
only-memory plan s left p faults.TooLong move some refused = absurd refused
only-memory plan s left p faults.NotJson move some refused = absurd refused
only-memory plan s left p faults.Shape move some refused = absurd refused
only-memory plan s left p faults.StartRefused move some refused = absurd refused
