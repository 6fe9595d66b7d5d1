-- The history of a machine is that of each state that it shows.
use Rattle.machine.proofs.Common.{◌≡◌, ℕ, suc, ◌+◌, List, [], ◌∷◌, ◌++◌, length, map, arith, refl, ap, sym, subst, ◌∙◌, ◌⊎◌, ⊎_elim, Some, slice_get}
use Rattle.machine.proofs.Common.{flat_map, ∥∥₁_elim, ∥∥₁_map, props, AreHistoryEvents, HistoryView, IsStart, events_by_stamp, Contents, Shape}
use Rattle.machine.proofs.Common.{Variant, Process, Plan, State, history_of, IsRun, IsSerial, logs-are-history, Runner, Machine, FitsProcess}
use Rattle.machine.proofs.Common.{IsReached, Shows, start_of, IsUnderWay}
use Rattle.events.specs.declared.event.Event.{Event}
use Rattle.events.specs.Operations.{operations}
use Rattle.orders.specs.Orders.{IsLegal, after_calls, IsLinearizableHistory}
use Rattle.art_rows.specs.declared.variant.Variant.TheVariants.{Coupled, Optimistic}
use Rattle.art_core.specs.Claims.{SerialIsMap, CoupledIsLinearizable, OptimisticIsLinearizable}
use Rattle.art_core.specs.Meaning.{Means, AllUnlocked}
use Rattle.machine.specs.Serial.{DoesTheMap}
use Rattle.machine.specs.Linearizable.{IsLinearizableIn}

is-run : (shape : Shape) (variant : Variant) (start : Contents) (left : ℕ) (words : List ℕ) (runners : List Runner)
    (u : IsUnderWay shape variant start left words runners) → IsRun u.plan start u.first u.schedule u.state
is-run shape variant start left words runners u =
    record {
      within = u.within;
      start_within = u.start_within;
      starts = u.starts;
      gives = u.gives;
      few_steps = let few =
          u.few in omega arith;
    }

pub reached : (m : Machine) → ∥ IsReached m ∥₁
reached m = ∥∥₁_map m.under_way (λ (u : IsUnderWay m.shape m.variant m.start.items m.left m.words.items m.runners.items). record {
  plan = u.plan;
  first = u.first;
  schedule = u.schedule;
  state = u.state;
  run = is-run m.shape m.variant m.start.items m.left m.words.items m.runners.items u;
  shows = u.shows;
})

same-logs : (plan : Plan) (base : ℕ) (runners : List Runner) (processes : List Process) → length processes ≡ length runners
    → ((i : ℕ) (r : Runner) (q : Process) → slice_get runners i ≡ Some r → slice_get processes i ≡ Some q → FitsProcess plan (base + i) r q)
    → flat_map (λ log. log) (map (λ q. q.log) processes) ≡ flat_map (λ r. r.log.items) runners
same-logs plan base [] [] same fits = refl
same-logs plan base [] (q ∷ qs) same fits = absurd (omega arith)
same-logs plan base (r ∷ rs) [] same fits = absurd (omega arith)
same-logs plan base (r ∷ rs) (q ∷ qs) same fits =
    ap (λ log. log ++ flat_map (λ log. log) (map (λ q. q.log) qs)) (fits 0 r q refl refl).log
    ∙ ap (λ es. r.log.items ++ es) (same-logs plan (base + 1) rs qs (omega arith)
    (λ i r q e f. subst (λ n. FitsProcess plan n r q) (omega arith) (fits (suc i) r q e f)))

pub shown-history : (plan : Plan) (m : Machine) (s : State) → Shows plan m s
    → history_of s ≡ events_by_stamp (flat_map (λ r. r.log.items) m.runners.items)
unfolding history_of
shown-history plan m s shows =
    ap events_by_stamp (same-logs plan 0 m.runners.items s.processes shows.many
    (λ i r q e f. subst (λ n. FitsProcess plan n r q) (omega arith) (shows.fits i r q e f)))

pub recorded-history : (m : Machine) → AreHistoryEvents (events_by_stamp (flat_map (λ r. r.log.items) m.runners.items))
recorded-history m = ∥∥₁_elim m.under_way (Prim.hlevel props)
    (λ (u : IsUnderWay m.shape m.variant m.start.items m.left m.words.items m.runners.items).
    subst AreHistoryEvents (shown-history u.plan m u.state u.shows)
    (logs-are-history u.plan m.start.items u.first u.schedule u.state
    (is-run m.shape m.variant m.start.items m.left m.words.items m.runners.items u)))

-- the starting pairs are some that a history may start with
pub recorded-start : (m : Machine) → IsStart m.start.items
recorded-start m = ∥∥₁_elim m.under_way (Prim.hlevel props)
    (λ (u : IsUnderWay m.shape m.variant m.start.items m.left m.words.items m.runners.items).
    let few = u.start_within.few in
    record { rising = u.start_within.rising; few = omega (arith, few) })

-- a serial history of a full tree is that of the map
pub does-the-map : SerialIsMap → (m : Machine) (h : HistoryView)
    → ((plan : Plan) (s : State) → Shows plan m s → h ≡ record { start = start_of m; events = history_of s }) → ∥ DoesTheMap m h ∥₁
does-the-map serial m h is = ∥∥₁_map (reached m) go
  where
    Legal : Contents → List Event → Type 0
    Legal start events = IsLegal start (operations events)

    after : HistoryView → Contents
    after h = after_calls h.start (operations h.events)

    go : IsReached m → DoesTheMap m h
    go r full serial_h =
        let same : h ≡ record { start = start_of m; events = history_of r.state } = is r.plan r.state r.shows in
        let (legal, unlocked, means) = serial r.plan (start_of m) r.first r.schedule r.state r.run
        (subst (λ v. (v ≡ Coupled) ⊎ (v ≡ Optimistic))
        (sym r.shows.variant) full)
        (subst IsSerial (ap (λ h. h.events) same) serial_h) in (
          subst (λ (h : HistoryView). Legal h.start h.events) (sym same) legal,
          subst (λ s. AllUnlocked s m.words.items) r.shows.shape (subst (AllUnlocked r.plan.shape) r.shows.words unlocked),
          subst (λ s. Means s m.words.items (after h)) r.shows.shape
              (subst (λ ws. Means r.plan.shape ws (after h)) r.shows.words
              (subst (λ (h : HistoryView). Means r.plan.shape r.state.words (after h)) (sym same) means)),
        )

-- a history of a full tree is linearizable
pub is-linearizable : CoupledIsLinearizable → OptimisticIsLinearizable → (m : Machine) (h : HistoryView)
    → ((plan : Plan) (s : State) → Shows plan m s → h ≡ record { start = start_of m; events = history_of s }) → ∥ IsLinearizableIn m h ∥₁
is-linearizable coupled optimistic m h is = ∥∥₁_map (reached m) go
  where
    go : IsReached m → IsLinearizableIn m h
    go r full =
        subst IsLinearizableHistory (sym (is r.plan r.state r.shows))
        (⊎_elim (λ v. coupled r.plan (start_of m) r.first r.schedule r.state r.run (r.shows.variant ∙ v))
        (λ v. optimistic r.plan (start_of m) r.first r.schedule r.state r.run (r.shows.variant ∙ v)) full)
