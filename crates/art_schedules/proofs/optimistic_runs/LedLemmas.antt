-- What fits each call of the optimistic tree is kept by each step of another process.
use Rattle.art_schedules.proofs.Common.{◌≡◌, ◌≢◌, ℕ, true, false, List, [], ◌∷◌, ◌++◌, length, refl, sym, ap, subst, ◌∙◌, inr, ⊎_elim, arith}
use Rattle.art_schedules.proofs.Common.{slice_index, Option, Some, None, same_Some, none-some, Call, Reply, Contents, Shape, Kind, is_obsolete}
use Rattle.art_schedules.proofs.Common.{Optimistic, is_insert, Stage, setting, CallAt, OnKey, OnScan, Process, Plan, State, Reached, IsClaimed}
use Rattle.art_schedules.proofs.Common.{Effect, IsAmong, IsGoneBy, IsOpen, Named, TreeGoesOn, calm_of, held_at_stage, holds, stage_of}
use Rattle.art_schedules.proofs.versions.KnownLemmas.{each-map}
use Rattle.art_schedules.proofs.Common.{KeepsTree, Status, Trace, IsTraceStep, AllFit, IsLedOn, set_at, the_plan, KnowsWay, AtWork, fresh_of}
use Rattle.art_schedules.proofs.Common.{Makes, HoldsReached, IsOther, AreTwoRows, Ghosts, IsWorld, IsFit, Seeks, Works, Finds, Walks}
use Rattle.art_schedules.proofs.Common.{OptimisticFits}
use Rattle.art_schedules.proofs.calm.CalmLemmas.{claimed-row}
use Rattle.art_schedules.proofs.calm.InductionLemmas.{IsStep, step-of-run}
use Rattle.art_schedules.proofs.stories.TreeLemmas.{tree-kept}
use Rattle.art_schedules.specs.optimistic_runs.OptimisticFits.{Ends}
use Rattle.art_schedules.proofs.optimistic_runs.PartLaws.{LawsOfParts}
use Rattle.art_schedules.proofs.optimistic_runs.SmallLemmas.{among-locks, apart-none, apart-by}
use Rattle.art_schedules.proofs.changes.EffectLemmas.{gone-reached}
use Rattle.art_schedules.proofs.stories.OpenLemmas.{set-cases, set-other}

-- the fresh row after a step: as before, or none, or one that was claimed in it
pub data FreshBehind (shape : Shape) (s t : State) (before fresh : Option Named) : Type 0 where
  SameFresh : fresh ≡ before → FreshBehind shape s t before fresh
  NoFresh : fresh ≡ None → FreshBehind shape s t before fresh
  NewFresh : (row : Named) → fresh ≡ Some row → ((kind : Kind) → IsClaimed shape s.words row.0 kind → ⊥)
      → IsClaimed shape t.words row.0 row.1
      → FreshBehind shape s t before fresh

-- the fresh row of the effect, or none, is this one
abbrev pub IsFreshOf : Option Effect → Option Named → Type 0
IsFreshOf None fresh = Unit {0}
IsFreshOf (Some e) fresh = fresh ≡ fresh_of e

module _ (laws : LawsOfParts) (shape : Shape) (scripts : List (List Call)) (start : Contents) (words : List ℕ) where
  abbrev plan : Plan
  plan = the_plan Optimistic shape scripts

  abbrev World : Ghosts → List ℕ → State → List ℕ → Type 0
  World g schedule s calm = IsWorld shape g s

  module _ (schedule : List ℕ) (tale : Trace) (p : ℕ) (s t : State) (g : Ghosts)
      (told : IsTraceStep plan start words schedule tale p s t (calm_of plan words schedule) (calm_of plan words (schedule ++ p ∷ [])))
      (world : IsWorld shape g s) (all : AllFit (OptimisticFits shape g) schedule s (calm_of plan words schedule)) where
    abbrev calm : List ℕ
    calm = calm_of plan words schedule

    abbrev after : List ℕ
    after = calm_of plan words (schedule ++ p ∷ [])

    abbrev m : Contents
    m = tale.pairs (length schedule)

    pub fact : IsStep Optimistic plan s p t
    fact = step-of-run Optimistic (inr refl) plan start words schedule p s t told.step.before refl told.step.made

    pub goes-makes : TreeGoesOn shape t.words calm after m None → Makes Optimistic shape s p calm after m None
    goes-makes k = record { goes = record { claims = k.claims; follows = k.follows; gone = λ b none. absurd none }; by = tt }

    pub keeps-makes : KeepsTree shape calm after → Makes Optimistic shape s p calm after m None
    keeps-makes k = goes-makes (tree-kept plan (inr refl) start words schedule tale p s t calm after told laws.kept_trees_follow k)

    pub gone-behind : (effect : Option Effect) → Makes Optimistic shape s p calm after m effect → (b : ℕ) → IsGoneBy effect b
        → is_obsolete (slice_index t.words b) ≡ true
    gone-behind None makes b gone = absurd gone
    gone-behind (Some e) makes b gone =
        let (k, r) = gone-reached shape calm after e makes.by.has b gone in
        told.change.obsolete b k (claimed-row shape s.words b k (told.calm_before.reached b k r).claimed) (makes.goes.gone b gone)

    pub makes-goes : (effect : Option Effect) → Makes Optimistic shape s p calm after m effect
        → TreeGoesOn shape t.words calm after m effect
    makes-goes None makes = record { claims = makes.goes.claims; follows = makes.goes.follows; gone = λ b x. absurd x }
    makes-goes (Some e) makes = record { claims = makes.goes.claims; follows = makes.goes.follows; gone = gone-behind (Some e) makes }

    -- each row that the process holds is one of the calm tree
    pub holds-reached : HoldsReached Optimistic shape s p calm
    holds-reached call q o h a = go (all p call q o).1.fit
      where
        on : (at : CallAt) → stage_of Optimistic shape call q ≡ at → IsAmong h (holds (setting shape Optimistic call) at)
        on at e = subst (λ x. IsAmong h (holds (setting shape Optimistic call) x)) e a

        ways : (found : Option Reply) (stage : Stage) → stage_of Optimistic shape call q ≡ OnKey stage
            → KnowsWay (setting shape Optimistic call) calm s.words found stage → Reached shape calm h.base h.kind
        ways found stage at k =
            among-locks (λ b l. Reached shape calm b l) (held_at_stage false (is_insert call) stage)
            (each-map (λ x o. o.1) (held_at_stage false (is_insert call) stage) k.rows) h (on (OnKey stage) at)

        go : {status : Status} → IsFit shape g s calm p call q status → Reached shape calm h.base h.kind
        go (Seeks stage scan none at k e) = ways None stage at k
        go (Finds stage reply scan none at k e) = ways (Some reply) stage at k
        go (Works stage at w e) = laws.workers_hold_reached (setting shape Optimistic call) s.words calm stage (g p) w h
            (on (OnKey stage) at)
        go (Ends stage reply none at end e) = laws.leavers_hold_reached (setting shape Optimistic call) s.words calm stage reply end h
            (on (OnKey stage) at)
        go (Walks low high at none is stage e) = absurd (on (OnScan low high at) stage)

    claims-rise : (b : ℕ) (k : Kind) → IsClaimed shape s.words b k → IsClaimed shape t.words b k
    claims-rise b k x = record { number = x.number; claimed = omega (arith, x.claimed, fact.steady.claims k); within = x.within; is = x.is }

    -- ---- what fits the other calls

    module _ (effect : Option Effect) (makes : Makes Optimistic shape s p calm after m effect) (fresh-is : IsFreshOf effect (g p))
        (f : Option Named) where
      is-other : (r : ℕ) → r ≢ p → IsOther effect (g r)
      is-other r apart = go effect fresh-is
        where
          none : (o : Option Named) → IsOther None o
          none None = tt
          none (Some row) = λ x. x

          go : (e : Option Effect) → IsFreshOf e (g p) → IsOther e (g r)
          go None is = none (g r)
          go (Some e) is =
              laws.effects_bring_theirs e (g r) (subst (λ o. AreTwoRows o (g r)) is (world.apart p r (λ x. apart (sym x))))

      other-fits : (r : ℕ) (call : Call) (q : Process) (status : Status) → r ≢ p → IsOpen s r call q → IsOpen t r call q
          → OptimisticFits shape g schedule s calm r call q status
          → OptimisticFits shape (set_at g p f) (schedule ++ p ∷ []) t after r call q status
      other-fits r call q status apart o behind x = record { tree = x.tree; fit = go x.fit }
        where
          same : set_at g p f r ≡ g r
          same = set-other g p f r apart

          way : (found : Option Reply) (stage : Stage) → stage_of Optimistic shape call q ≡ OnKey stage
              → KnowsWay (setting shape Optimistic call) calm s.words found stage
              → KnowsWay (setting shape Optimistic call) after t.words found stage
          way found stage at k =
              laws.other_steps_keep_ways plan start words schedule p s t told.step refl m effect
              (makes-goes effect makes) r call stage found apart (record { process = q; is_open = o; at = at }) behind k

          go : IsFit shape g s calm r call q status → IsFit shape (set_at g p f) t after r call q status
          go (Seeks stage scan none at k e) = Seeks stage scan (same ∙ none) at (way None stage at k) e
          go (Finds stage reply scan none at k e) = Finds stage reply scan (same ∙ none) at (way (Some reply) stage at k) e
          go (Works stage at w e) =
              Works stage at
              (subst (λ y. AtWork (setting shape Optimistic call) t.words after y stage) (sym same)
              (laws.others_keep_work plan start words schedule p s t told.claims m effect told.step told.rests makes holds-reached r apart
              call stage (g r)
              (record { process = q; is_open = o; at = at }) (is-other r apart) w).1)
              e
          go (Ends stage reply none at end e) =
              Ends stage reply (same ∙ none) at
              (laws.others_keep_ends plan start words schedule p s t told.claims m effect told.step told.rests makes holds-reached r apart
              call stage reply
              (record { process = q; is_open = o; at = at }) end).1
              e
          go (Walks low high at none is stage e) = Walks low high at (same ∙ none) is stage e

      -- ---- all of it

      pub led : FreshBehind shape s t (g p) f → (Own : Ghosts → Type 0) → Own (set_at g p f)
          → IsLedOn Ghosts World (OptimisticFits shape) g schedule p s t calm after Own
      led fresh Own own = record {
        next = set_at g p f;
        world = record { claimed = claimed; apart = apart };
        own = own;
        others = other-fits;
      }
        where
          own-claimed : (row : Named) → FreshBehind shape s t (g p) f → f ≡ Some row → IsClaimed shape t.words row.0 row.1
          own-claimed row (SameFresh e) x = claims-rise row.0 row.1 (world.claimed p row (sym e ∙ x))
          own-claimed row (NoFresh e) x = absurd (none-some row (sym e ∙ x))
          own-claimed row (NewFresh new e fresh there) x =
              subst (λ (y : Named). IsClaimed shape t.words y.0 y.1) (same_Some new row (sym e ∙ x)) there

          claimed : (r : ℕ) (row : Named) → set_at g p f r ≡ Some row → IsClaimed shape t.words row.0 row.1
          claimed r row e = ⊎_elim (λ x. own-claimed row fresh (sym x.1 ∙ e)) (λ x. claims-rise row.0 row.1
              (world.claimed r row (sym x.1 ∙ e)))
              (set-cases g p f r)

          own-apart : (r : ℕ) → r ≢ p → FreshBehind shape s t (g p) f → AreTwoRows f (g r) × AreTwoRows (g r) f
          own-apart r ne (SameFresh e) = (
            subst (λ o. AreTwoRows o (g r)) (sym e) (world.apart p r (λ x. ne (sym x))),
            subst (AreTwoRows (g r)) (sym e)
                (world.apart r p ne),
          )
          own-apart r ne (NoFresh e) =
              (subst (λ o. AreTwoRows o (g r)) (sym e) tt, subst (AreTwoRows (g r)) (sym e) (apart-none (g r)))
          own-apart r ne (NewFresh new e not there) = (
            apart-by f (g r) (λ row other a b. clash row other a b),
            apart-by (g r) f (λ other row b a same. clash row other a b (sym same)),
          )
            where
              clash : (row other : Named) → f ≡ Some row → g r ≡ Some other → row.0 ≢ other.0
              clash row other a b same =
                  not other.1
                  (subst (λ z. IsClaimed shape s.words z other.1)
                  (sym same ∙ ap (λ (y : Named). y.0) (sym (same_Some new row (sym e ∙ a))))
                  (world.claimed r other b))

          apart : (q r : ℕ) → q ≢ r → AreTwoRows (set_at g p f q) (set_at g p f r)
          apart q r ne = ⊎_elim
              (λ x. ⊎_elim
              (λ y. absurd (ne (x.0 ∙ sym y.0)))
              (λ y. put q r (sym x.1) (sym y.1) (own-apart r y.0 fresh).0)
              (set-cases g p f r))
              (λ x. ⊎_elim
              (λ y. put q r (sym x.1) (sym y.1) (own-apart q x.0 fresh).1)
              (λ y. put q r (sym x.1) (sym y.1) (world.apart q r ne))
              (set-cases g p f r))
              (set-cases g p f q)
            where
              put : (q r : ℕ) {a b : Option Named} → a ≡ set_at g p f q → b ≡ set_at g p f r → AreTwoRows a b
                  → AreTwoRows (set_at g p f q) (set_at g p f r)
              put q r {a} {b} x y h = subst (AreTwoRows (set_at g p f q)) y (subst (λ o. AreTwoRows o b) x h)
