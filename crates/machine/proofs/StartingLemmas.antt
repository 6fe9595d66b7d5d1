-- A machine that inserts pairs until nothing is left to do.
use Rattle.machine.proofs.Common.{[], ◌∷◌, ◌≡◌, ℕ, ◌+◌, ◌*◌, ◌<◌, ◌≤◌, List, length, take, refl, sym, ap, subst, ◌∙◌, arith, inl, inr, get_or, IsTrue}
use Rattle.machine.proofs.Common.{slice_get, replicate, filter_map, Contains, All, length-replicate, length-map, get_or-map, take_more}
use Rattle.machine.proofs.Common.{Contains-get_or, Contains-push_cases, some_at, Call, Insert, Stamped, Contents, Shape, Variant, is_tree_call, Item}
use Rattle.machine.proofs.Common.{Turns, Process, Plan, State, answered, next_move, opened, AreMade, AreInsertedIn, inserts, start_plan, IsPlan}
use Rattle.machine.proofs.Common.{run-lengths, Machine, MachineFault, HasMadeItem, HasStoppedIn, IsOpened}
use Rattle.std.proofs.Common.{Some, None}
use Rattle.events.proofs.FilterLemmas.{Contains-filter_map, Contains-from_filter_map}
use Rattle.art_schedules.specs.maps.Ends.{StartsEnd}
use Rattle.art_core.proofs.StartLemmas.{run-steps}
use Rattle.machine.specs.declared.starting.TheConstants.{START_TURNS}
use Rattle.machine.specs.Starting.{HasInserted, IsNotOpened}
use Rattle.events.specs.declared.event.Reply.TheVariants as replies
use Rattle.plans.specs.declared.fault.MachineFault.TheVariants as faults

-- Refusals in a log.

module _ (log : List Stamped) (i : ℕ) (e : Stamped) (within : i < length log) (is : e ≡ get_or log i e) where
  pub refusal-found : answered e.1 ≡ Some replies.Refused → Contains (filter_map (λ e. answered e.1) log) replies.Refused
  refusal-found a =
      Contains-filter_map (λ e. answered e.1) log e replies.Refused
      (subst (λ x. Contains log x) (sym is) (Contains-get_or log i e within)) a

  pub no-refusal-yet : (Contains (filter_map (λ e. answered e.1) (take i log)) replies.Refused → ⊥)
      → (answered e.1 ≡ Some replies.Refused → ⊥)
      → Contains (filter_map (λ e. answered e.1) (take (i + 1) log)) replies.Refused → ⊥
  no-refusal-yet none other h =
      let x = Contains-from_filter_map (λ e. answered e.1) (take (i + 1) log) replies.Refused h in
      elim (Contains-push_cases (take i log) (get_or log i e) x.0 (subst (λ es. Contains es x.0) (take_more log i e within) x.1)) [
        | inl before ↦ none (Contains-filter_map (λ e. answered e.1) (take i log) x.0 replies.Refused before x.2)
        | inr same ↦ other (ap (λ e. answered e.1) (is ∙ same) ∙ x.2)
      ]

-- The inserts are calls that trees can do.

pub insert-fits : (start : Contents) (i : ℕ) → All (λ call. IsTrue (is_tree_call call)) (inserts start) → i < length start
    → IsTrue (is_tree_call (Insert (get_or start i (0, 0)).0 (get_or start i (0, 0)).1))
insert-fits start i all within =
    subst (λ call. IsTrue (is_tree_call call)) (get_or-map (λ pair. Insert pair.0 pair.1) start i (0, 0) (Insert 0 0) within)
    (all i (Insert 0 0) (omega (arith, within, length-map start (λ pair. Insert pair.0 pair.1))))

-- The run of the inserts: it names one turn more than there are.

module _ (shape : Shape) (variant : Variant) (start : Contents) where
  abbrev plan : Plan
  plan = start_plan shape variant start

  abbrev pub all_turns : Item
  all_turns = Turns 0 (START_TURNS + 1)

  inserted-in : (s : State) (process : Process) (made : ℕ) → AreMade plan all_turns (opened plan) made s → made ≤ START_TURNS
      → slice_get s.processes 0 ≡ Some process → AreInsertedIn shape variant start s process
  inserted-in s process made turns few is = record {
    schedule = replicate made 0;
    gives = turns.gives;
    few_steps = omega (arith, few, run-steps plan (replicate made 0) (opened plan) s turns.gives, length-replicate {A = ℕ} made 0);
    is_process = is;
  }

  -- the machine is opened for the inserts alone
  pub opens : (scripts : List (List Call)) (m : Machine) → scripts ≡ inserts start ∷ [] → IsOpened shape variant scripts START_TURNS m
      → IsOpened shape variant (inserts start ∷ []) START_TURNS m
  opens scripts m one h = subst (λ scripts. IsOpened shape variant scripts START_TURNS m) one h

  module _ (left : ℕ) (next : Machine) (has : left ≡ START_TURNS) where
    pub not-made : HasMadeItem plan all_turns (opened plan) left next → ⊥
    not-made h = let costs = h.costs in h.turns.over (omega (arith, has))

    pub all-inserted : (fault : MachineFault) → fault ≡ faults.NothingToDo → HasStoppedIn plan all_turns (opened plan) left fault next
        → HasInserted shape variant start next
    all-inserted fault is stops =
        let h = subst (λ fault. HasStoppedIn plan all_turns (opened plan) left fault next) is stops in
        let x = some_at (slice_get h.state.processes 0) (λ q. next_move plan 0 q ≡ None) h.refused in
        let costs = h.costs in
        record {
          state = h.state;
          process = x.0;
          inserted = inserted-in h.state x.0 h.made h.turns (omega (arith, has)) x.1;
          all = x.2;
          shows = h.shows;
        }

    -- the inserts are over before the turns are
    pub not-opened : StartsEnd → IsPlan plan → 1002 * length start < START_TURNS → (fault : MachineFault) → (fault ≡ faults.NothingToDo → ⊥)
        → HasStoppedIn plan all_turns (opened plan) left fault next → IsNotOpened shape variant start fault
    not-opened ends within enough faults.NoProcess other h =
        let one = (run-lengths plan (replicate h.made 0) (opened plan) h.state h.turns.gives).1 in let none =
        h.refused in absurd (omega (arith, one, none))
    not-opened ends within enough faults.NothingToDo other h = absurd (other refl)
    not-opened ends within enough faults.TurnLimit other h =
        let costs = h.costs in
        let over = h.refused.1 in
        let most = ends shape variant start within (replicate h.made 0) h.state h.turns.gives in
        let long = length-replicate {A = ℕ} h.made 0 in
        absurd (omega (arith, costs, over, has, most, long, enough))
    not-opened ends within enough faults.Memory other h = tt
    not-opened ends within enough faults.TooLong other h = absurd h.refused
    not-opened ends within enough faults.NotJson other h = absurd h.refused
    not-opened ends within enough faults.Shape other h = absurd h.refused
    not-opened ends within enough faults.StartRefused other h = absurd h.refused
