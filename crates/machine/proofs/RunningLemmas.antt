-- A run makes the turns that its items name.
use Rattle.machine.proofs.Common.{◌≡◌, ℕ, ◌+◌, ◌≤◌, Bool, true, false, not, nat_eq, IsTrue, List, [], ◌∷◌, ◌++◌, length, take, refl, sym, ap, subst}
use Rattle.machine.proofs.Common.{◌∙◌, arith, eqb-true, eq-eqb, ◌↔◌, slice_get, IsSomeAnd, slice_get_past, some_at, Item, End, Until, Process, Plan}
use Rattle.machine.proofs.Common.{State, step, process_of_item, next_point, point_in, finished_count, WantsTurn, AreMade, Runner, Machine}
use Rattle.machine.proofs.Common.{MachineFault, FitsProcess, Shows, turns_left, IsRefusedIn, HasMadeItem, HasMadeAll, HasStoppedIn, HasStoppedAt}
use Rattle.std.proofs.Common.{Option, Some, None}
use Rattle.art_rows.specs.declared.access.Point.{Point}
use Rattle.art_core.proofs.NamedTurnLemmas.{made-more, whole-more}
use Rattle.machine.proofs.MachineLemmas.{process-at}

-- What a machine shows of a process.

module _ (m : Machine) (p : ℕ) (plan : Plan) (s : State) (shows : Shows plan m s) where
  module _ (r : Runner) (here : slice_get m.runners.items p ≡ Some r) where
    pub finished-at : r.finished ≡ finished_count (slice_get s.processes p)
    finished-at =
        let x = process-at m.shape m.variant m.words.items m.runners.items p r here plan s shows in
        sym (ap finished_count x.1 ∙ x.2.finished)

    pub point-at : (point : Option Point) → ((q : Process) → FitsProcess plan p r q → point ≡ point_in plan q.got q.call)
        → point ≡ next_point plan (slice_get s.processes p)
    point-at point is =
        let x = process-at m.shape m.variant m.words.items m.runners.items p r here plan s shows in
        is x.0 x.2 ∙ sym (ap (next_point plan) x.1)

  module _ (past : length m.runners.items ≤ p) where
    pub absent : slice_get s.processes p ≡ None
    absent = slice_get_past s.processes p (let many = shows.many in omega arith)

    pub finished-past : 0 ≡ finished_count (slice_get s.processes p)
    finished-past = sym (ap finished_count absent)

    pub point-past : ◌≡◌ {A = Option Point} None (next_point plan (slice_get s.processes p))
    point-past = sym (ap (next_point plan) absent)

-- Whether an item names one turn more.

module _ (plan : Plan) (item : Item) (p : ℕ) (first now : State) (made before found : ℕ)
    (finds : found ≡ finished_count (slice_get now.processes p))
    (was : before ≡ finished_count (slice_get first.processes (process_of_item item))) where
  abbrev goes_as : Bool → Item → Type 0
  goes_as b i = before ≡ finished_count (slice_get first.processes (process_of_item i)) → IsTrue b ↔ WantsTurn plan i first made now

  pub wants-end : item ≡ End p → IsTrue (nat_eq found before) ↔ WantsTurn plan item first made now
  wants-end is = subst (goes_as (nat_eq found before)) (sym is)
      (λ was. (λ t. sym finds ∙ (eqb-true found before t ∙ was), λ h. eq-eqb found before (finds ∙ (h ∙ sym was)))) was

  module _ (point : Point) (is : item ≡ Until p point) where
    pub wants-answered : (found ≡ before → ⊥) → IsTrue (nat_eq found before) ↔ WantsTurn plan item first made now
    wants-answered other = subst (goes_as (nat_eq found before)) (sym is)
        (λ was. (λ t. absurd (other (eqb-true found before t)), λ h. absurd (other (finds ∙ (h.0 ∙ sym was))))) was

    pub wants-point : (at : Bool) (next : Option Point) → found ≡ before → next ≡ next_point plan (slice_get now.processes p)
        → IsTrue at ↔ (next ≡ Some point) → IsTrue (not at) ↔ WantsTurn plan item first made now
    wants-point at next same finds-point is-at = subst (goes_as (not at)) (sym is)
        (λ was. (
          λ t. (sym finds ∙ (same ∙ was), λ e. not-both at t (is-at.1 (finds-point ∙ e))),
          λ h. otherwise at (λ t. h.1 (sym finds-point ∙ is-at.0 t)),
        )) was
      where
        not-both : (b : Bool) → IsTrue (not b) → IsTrue b → ⊥
        not-both true h k = cc
        not-both false h k = cc

        otherwise : (b : Bool) → (IsTrue b → ⊥) → IsTrue (not b)
        otherwise true h = absurd (h refl)
        otherwise false h = refl

-- Turns of one item.

pub record HasMadeTurns (plan : Plan) (item : Item) (first : State) (made : ℕ) (m : Machine) : Type 0 where
  pub state : State
  pub turns : AreMade plan item first made state
  pub shows : Shows plan m state

pub turns-more : (plan : Plan) (item : Item) (s : State) (made : ℕ) (m next : Machine) (h : HasMadeTurns plan item s made m)
    → WantsTurn plan item s made h.state → IsSomeAnd (step plan h.state (process_of_item item)) (λ t. Shows plan next t)
    → HasMadeTurns plan item s (made + 1) next
turns-more plan item s made m next h wants stepped =
    let x = some_at (step plan h.state (process_of_item item)) (λ t. Shows plan next t) stepped in
    record { state = x.0; turns = made-more plan item s made h.state x.0 h.turns wants x.1; shows = x.2 }

pub turns-whole : (plan : Plan) (item : Item) (s : State) (left made : ℕ) (m : Machine) (h : HasMadeTurns plan item s made m)
    → (WantsTurn plan item s made h.state → ⊥) → turns_left m + made ≡ left → HasMadeItem plan item s left m
turns-whole plan item s left made m h over costs = record {
  state = h.state;
  made = made;
  turns = record { turns = h.turns; over = over };
  shows = h.shows;
  costs = costs;
}

pub turns-stopped : (plan : Plan) (item : Item) (s : State) (left made p : ℕ) (fault : MachineFault) (m next : Machine)
    (h : HasMadeTurns plan item s made m)
    → WantsTurn plan item s made h.state → p ≡ process_of_item item → turns_left m + made ≡ left → turns_left next ≡ turns_left m
    → Shows plan next h.state → IsRefusedIn plan h.state (turns_left m) p fault → HasStoppedIn plan item s left fault next
turns-stopped plan item s left made p fault m next h wants own costs same shows refused = record {
  state = h.state;
  made = made;
  turns = h.turns;
  wants = wants;
  refused = subst (λ n. IsRefusedIn plan h.state n (process_of_item item) fault) (sym same)
      (subst (λ p. IsRefusedIn plan h.state (turns_left m) p fault) own refused);
  shows = shows;
  costs = omega arith;
}

-- Items, one after another.

pub all-more : (plan : Plan) (items : List Item) (item : Item) (s : State) (left : ℕ) (m next : Machine)
    (h : HasMadeAll plan items s left m)
    → HasMadeItem plan item h.state (turns_left m) next → HasMadeAll plan (items ++ item ∷ []) s left next
all-more plan items item s left m next h k = record {
  state = k.state;
  made = h.made + k.made;
  turns = whole-more plan items item s h.state k.state h.made k.made h.turns k.turns;
  shows = k.shows;
  costs = let before = h.costs in let here = k.costs in omega arith;
}

pub all-stopped : (plan : Plan) (items : List Item) (place : ℕ) (item : Item) (s : State) (left : ℕ) (fault : MachineFault)
    (m next : Machine)
    (h : HasMadeAll plan (take place items) s left m) → slice_get items place ≡ Some item
    → HasStoppedIn plan item h.state (turns_left m) fault next
    → HasStoppedAt plan items s left place fault next
all-stopped plan items place item s left fault m next h is stops = record {
  item = item;
  is_item = is;
  between = h.state;
  made = h.made;
  before = h.turns;
  rest = turns_left m;
  costs = h.costs;
  stops = stops;
}
