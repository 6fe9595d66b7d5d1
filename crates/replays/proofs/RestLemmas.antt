-- What is known of processes by their next steps.
use Rattle.replays.proofs.Common.{◌≡◌, ◌≤◌, ◌<◌, ◌⊎◌, ℕ, List, length, refl, sym, subst, inl, inr, arith, ◌≢◌, Option, Some, None, IsSome, IsSomeAnd}
use Rattle.replays.proofs.Common.{slice_get, slice_get_past, Process, Plan, State, Move, next_move, next_step_of, step_by, HasMove, DoesNotGoOn}
use Rattle.replays.proofs.Common.{NoneGoesOn}
use Rattle.std.proofs.lemmas.Bool.{cases_lt}
use Rattle.machine.specs.declared.next_steps.NextStep.{NextStep}
use Rattle.machine.specs.declared.next_steps.NextStep.TheVariants.{Nothing}

-- a process whose next step is one has something to do
pub has-move : (plan : Plan) (s : State) (p : ℕ) → next_step_of plan p (slice_get s.processes p) ≢ Nothing → HasMove plan s p
has-move plan s p some = go (slice_get s.processes p) some
  where
    moves : (o : Option Move) → step_by o ≢ Nothing → IsSome o
    moves None some = absurd (some refl)
    moves (Some m) some = refl

    go : (o : Option Process) → next_step_of plan p o ≢ Nothing → IsSomeAnd o (λ q. IsSome (next_move plan p q))
    go None some = absurd (some refl)
    go (Some q) some = moves (next_move plan p q) some

-- what does not go on does not with equal words and steps
pub rests : (found words : List ℕ) (step next : NextStep) → found ≡ words → step ≡ next → DoesNotGoOn found step → DoesNotGoOn words next
rests found words step next a b h = subst (λ l. DoesNotGoOn l next) a (subst (λ x. DoesNotGoOn found x) b h)

-- if none of the processes goes on, none does: past them there is none
pub none-goes-on : (plan : Plan) (s : State) (n : ℕ) → length s.processes ≤ n
    → ((p : ℕ) → p < n → DoesNotGoOn s.words (next_step_of plan p (slice_get s.processes p))) → NoneGoesOn plan s
none-goes-on plan s n few below = λ p. at p (cases_lt p n)
  where
    at : (p : ℕ) → (p < n) ⊎ (n ≤ p) → DoesNotGoOn s.words (next_step_of plan p (slice_get s.processes p))
    at p (inl h) = below p h
    at p (inr h) = subst (λ o. DoesNotGoOn s.words (next_step_of plan p o)) (sym (slice_get_past s.processes p (omega arith))) tt
