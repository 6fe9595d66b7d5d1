-- The next step of a process is that of what its runner does.
use Rattle.machine.proofs.Common.{◌≡◌, ◌≤◌, ℕ, [], length, refl, ap, sym, subst, ◌∙◌, arith, Option, Some, None, slice_get, slice_get_past, Call}
use Rattle.machine.proofs.Common.{Reply, Idle, Going, Answered, Task, FitsDoing, rest_of, next-asks, access_of, Process, Plan, State, begun}
use Rattle.machine.proofs.Common.{invocation, move_from, move_of, next_in, Machine, Runner, FitsProcess, Shows, HasNothingToDo}
use Rattle.art_rows.specs.declared.access.Access.{Access as Accessed}
use Rattle.machine.specs.declared.next_steps.NextStep.{NextStep}
use Rattle.machine.specs.declared.next_steps.NextStep.TheVariants.{Nothing, Stamp, Access}
use Rattle.machine.specs.NextSteps.{next_step_of, step_by}
use Rattle.machine.proofs.MachineLemmas.{process-at}

module _ (plan : Plan) (p : ℕ) (q : Process) (r : Runner) (fits : FitsProcess plan p r q) where
  -- what it does next where it has no open call
  begins : r.doing ≡ Idle → (o : Option Call) → slice_get r.script.items r.begun ≡ o → next_step_of plan p (Some q) ≡ step_by (invocation o)
  begins idle o is =
      let none : q.call ≡ None = subst (λ doing. FitsDoing plan.shape plan.variant doing q.call q.got) idle fits.doing in
      ap step_by (ap (move_from plan p q) none
      ∙ ap invocation (ap (λ o. next_in o (length (begun q))) fits.script ∙ (ap (slice_get r.script.items) fits.begun ∙ is)))

  pub next-nothing : HasNothingToDo r → Nothing ≡ next_step_of plan p (Some q)
  next-nothing h = sym (begins h.idle None h.over)

  pub next-stamp : r.doing ≡ Idle → (HasNothingToDo r → ⊥) → Stamp ≡ next_step_of plan p (Some q)
  next-stamp idle works = go (slice_get r.script.items r.begun) refl
    where
      go : (o : Option Call) → slice_get r.script.items r.begun ≡ o → Stamp ≡ next_step_of plan p (Some q)
      go None is = absurd (works (record { idle = idle; over = is }))
      go (Some call) is = sym (begins idle (Some call) is)

  pub next-access : (task : Task) (a : Accessed) → r.doing ≡ Going task → access_of (rest_of task []) ≡ Some a
      → Access a ≡ next_step_of plan p (Some q)
  next-access task a going asks =
      let d = subst (λ doing. FitsDoing plan.shape plan.variant doing q.call q.got) going fits.doing in
      let asked = next-asks plan.shape plan.variant d.0 q.got (rest_of task) d.2 a asks in
      sym (ap step_by (ap (move_from plan p q) d.1 ∙ ap (λ t. Some (move_of t)) asked.1))

  pub next-answer : (reply : Reply) → r.doing ≡ Answered reply → Stamp ≡ next_step_of plan p (Some q)
  next-answer reply answered =
      let d = subst (λ doing. FitsDoing plan.shape plan.variant doing q.call q.got) answered fits.doing in
      sym (ap step_by (ap (move_from plan p q) d.1 ∙ ap (λ t. Some (move_of t)) d.2))

module _ (m : Machine) (p : ℕ) (plan : Plan) (s : State) (shows : Shows plan m s) where
  pub step-at : (r : Runner) → slice_get m.runners.items p ≡ Some r → (step : NextStep)
      → ((q : Process) → FitsProcess plan p r q → step ≡ next_step_of plan p (Some q))
      → step ≡ next_step_of plan p (slice_get s.processes p)
  step-at r here step is =
      let x = process-at m.shape m.variant m.words.items m.runners.items p r here plan s shows in
      is x.0 x.2 ∙ sym (ap (next_step_of plan p) x.1)

  pub step-past : length m.runners.items ≤ p → Nothing ≡ next_step_of plan p (slice_get s.processes p)
  step-past past = sym (ap (next_step_of plan p) (slice_get_past s.processes p (let many = shows.many in omega arith)))
