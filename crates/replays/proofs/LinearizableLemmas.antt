-- The history of a replay of a full tree is linearizable: its turns are a schedule, and they are few.
use Rattle.replays.proofs.Common.{◌≡◌, ◌⊎◌, ℕ, zero, suc, ◌+◌, List, [], ◌∷◌, ◌++◌, length, map, sum, refl, sym, ap, subst, ◌∙◌, arith, ⊎_elim}
use Rattle.replays.proofs.Common.{length-append, replicate, same_Some, length-replicate, HistoryView, Item, CoupledIsLinearizable}
use Rattle.replays.proofs.Common.{OptimisticIsLinearizable, Plan, State, idle, opened_on, step, IsRun, run_on, Gives, StartsOn, all_steps, nowhere}
use Rattle.replays.proofs.Common.{one-step, run-on-append, ReplayView, IsReplay, plan_in, Records}
use Rattle.std.proofs.Common.{Option, Some, None}
use Rattle.orders.specs.Orders.{IsLinearizableHistory}
use Rattle.art_rows.specs.declared.variant.Variant.TheVariants.{Coupled, Optimistic}
use Rattle.art_core.specs.NamedTurns.{process_of_item, AreMadeWhole}

-- each turn is one step
steps-are-turns : (plan : Plan) (schedule : List ℕ) (first s : State) → Gives plan first schedule s
    → all_steps s ≡ all_steps first + length schedule
steps-are-turns plan [] first s h = let same = ap all_steps (same_Some first s h) in omega arith
steps-are-turns plan (p ∷ schedule) first s h = go (step plan first p) refl (steps-are-turns plan schedule) h
  where
    go : (o : Option State) → step plan first p ≡ o
        → ((next t : State) → run_on plan (Some next) schedule ≡ Some t → all_steps t ≡ all_steps next + length schedule)
        → run_on plan o schedule ≡ Some s → all_steps s ≡ all_steps first + suc (length schedule)
    go None e later k = absurd (nowhere plan schedule s k)
    go (Some next) e later k = let rest = later next s k in omega (arith, one-step plan first p next e)

no-steps : (n : ℕ) → sum (map (λ q. q.steps) (replicate n idle)) ≡ 0
no-steps zero = refl
no-steps (suc n) = no-steps n

-- the turns that items name are a schedule
given : (plan : Plan) (items : List Item) (first : State) (made : ℕ) (s : State) → AreMadeWhole plan items first made s
    → (schedule : List ℕ) × (length schedule ≡ made) × Gives plan first schedule s
given plan [] first made s h = ([], sym h.0, ap Some h.1)
given plan (item ∷ items) first made s h =
    let later = given plan items h.2 h.1 s h.4 in
    let here = replicate h.0 (process_of_item item) in (
      here ++ later.0,
      length-append here later.0 ∙ omega (arith, length-replicate h.0 (process_of_item item), later.1, h.5),
      run-on-append plan (Some first) here later.0 ∙ ap (λ o. run_on plan o later.0) h.3.turns.gives ∙ later.2,
    )

module _ (r : ReplayView) (words : List ℕ) (history : HistoryView) (within : IsReplay r) (starts : StartsOn r.shape r.variant r.start words)
    (records : Records (plan_in r) r.schedule (opened_on (plan_in r) words) r.limit r.start history) where
  turns : (schedule : List ℕ) × (length schedule ≡ records.made) × Gives (plan_in r) (opened_on (plan_in r) words) schedule records.state
  turns = given (plan_in r) r.schedule (opened_on (plan_in r) words) records.made records.state records.turns

  run : IsRun (plan_in r) r.start words turns.0 records.state
  run = record {
    within = within.plan;
    start_within = within.start;
    starts = starts;
    gives = turns.2;
    few_steps = omega (
      arith,
      steps-are-turns (plan_in r) turns.0 (opened_on (plan_in r) words) records.state turns.2,
      no-steps (length r.scripts),
      turns.1,
      records.few,
      within.few_turns,
    );
  }

  pub linearizable : CoupledIsLinearizable → OptimisticIsLinearizable → (r.variant ≡ Coupled) ⊎ (r.variant ≡ Optimistic)
      → IsLinearizableHistory history
  linearizable coupled optimistic full =
      subst IsLinearizableHistory (sym records.recorded) (⊎_elim (λ is. coupled (plan_in r) r.start words turns.0 records.state run is)
      (λ is. optimistic (plan_in r) r.start words turns.0 records.state run is) full)
