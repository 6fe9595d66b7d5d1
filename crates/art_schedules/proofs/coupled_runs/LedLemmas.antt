-- What fits each call of the coupled tree is kept by each step of a run.
use Rattle.art_schedules.proofs.Common.{◌≡◌, ◌≢◌, ℕ, ◌+◌, true, false, List, [], ◌∷◌, ◌++◌, length, refl, sym, ap, subst, ◌∙◌, ⊎_elim, arith}
use Rattle.art_schedules.proofs.Common.{slice_index, Option, Some, None, same_Some, none-some, Call, Contents, Shape, Kind, claims_of}
use Rattle.art_schedules.proofs.Common.{is_obsolete, locked_word, claims-few, Coupled, Swap, Point, Asks, HeldRow, Hold, Outcome, Stage, Unlock}
use Rattle.art_schedules.proofs.Common.{Obsolete, setting, OnKey, call_turn, Process, Plan, State, IsClaimed, Named, IsOpen, stage_of, IsAtStage}
use Rattle.art_schedules.proofs.Common.{AsksFor, ComesInBy, Effect, HasFewClaims, IsGoneBy, KeepsTree, Status, TreeGoesOn, calm_of}
use Rattle.art_schedules.proofs.versions.KnownLemmas.{same-call}
use Rattle.art_schedules.proofs.Common.{Trace, IsTraceStep, AllFit, IsLedOn, set_at, the_plan, ObsoleteLeave, TakesLive, MakesLeave, LeavesBy}
use Rattle.art_schedules.proofs.Common.{HeldAreLive, IsCoupledStep, TakesReached, Makes, HoldsReached, IsOther, ghosts_with, IsWorking, HasNone}
use Rattle.art_schedules.proofs.Common.{OfScans, CoupledFits, ScansAreKept}
use Rattle.art_schedules.proofs.calm.CalmLemmas.{claimed-row}
use Rattle.art_schedules.proofs.coupled.MadeLemmas.{Facts, facts}
use Rattle.art_schedules.specs.coupled_runs.CoupledFits.{Ghosts, IsWorld, IsFit, Seeks, Works, Finds, Ends, Walks}
use Rattle.art_schedules.proofs.coupled_runs.PartLaws.{LawsOfParts}
use Rattle.art_schedules.proofs.changes.EffectLemmas.{gone-reached}
use Rattle.art_schedules.proofs.work.CallLemmas.{key-same}
use Rattle.art_schedules.proofs.stories.OpenLemmas.{set-cases, set-here, set-other, same-stage}

-- the fresh row after a step: as before, or none, or one that was claimed in it
pub data FreshBehind (shape : Shape) (s t : State) (before fresh : Option Named) : Type 0 where
  SameFresh : fresh ≡ before → FreshBehind shape s t before fresh
  NoFresh : fresh ≡ None → FreshBehind shape s t before fresh
  NewFresh : (row : Named) → fresh ≡ Some row → (IsClaimed shape s.words row.0 row.1 → ⊥) → IsClaimed shape t.words row.0 row.1
      → FreshBehind shape s t before fresh

module _ (laws : LawsOfParts) (shape : Shape) (scripts : List (List Call)) (start : Contents) (words : List ℕ) (Scans : OfScans)
    (scans : ScansAreKept (the_plan Coupled shape scripts) start words Scans) where
  abbrev plan : Plan
  plan = the_plan Coupled shape scripts

  abbrev World : Ghosts → List ℕ → State → List ℕ → Type 0
  World g schedule s calm = IsWorld shape g s calm

  module _ (schedule : List ℕ) (tale : Trace) (p : ℕ) (s t : State) (g : Ghosts)
      (told : IsTraceStep plan start words schedule tale p s t (calm_of plan words schedule) (calm_of plan words (schedule ++ p ∷ [])))
      (world : IsWorld shape g s (calm_of plan words schedule))
      (all : AllFit (CoupledFits shape Scans g) schedule s (calm_of plan words schedule)) where
    abbrev calm : List ℕ
    calm = calm_of plan words schedule

    abbrev after : List ℕ
    after = calm_of plan words (schedule ++ p ∷ [])

    abbrev m : Contents
    m = tale.pairs (length schedule)

    pub is-step : IsCoupledStep plan start words schedule p s t told.claims m
    is-step = record {
      coupled = refl;
      run = told.step;
      rests = told.rests;
      means = told.means;
    }

    pub fact : Facts shape s t p words calm after
    fact = facts plan start words schedule p s t told.claims m is-step

    few : HasFewClaims (fact.count + 2) after
    few k = let e = told.calm_after_step.low (claims_of k) (claims-few k) in let l = fact.behind.claims k in omega (arith, e, l)

    pub keeps-makes : KeepsTree shape calm after → Makes Coupled shape s p calm after m None
    keeps-makes k = record {
      goes = record {
        claims = fact.count + 2;
        follows = laws.kept_trees_follow shape told.claims (fact.count + 2) calm after m told.rests told.means k few;
        gone = λ b none. absurd none;
      };
      by = tt;
    }

    pub goes-makes : TreeGoesOn shape t.words calm after m None → Makes Coupled shape s p calm after m None
    goes-makes k = record { goes = record { claims = k.claims; follows = k.follows; gone = λ b none. absurd none }; by = tt }

    pub gone-behind : (effect : Option Effect) → Makes Coupled shape s p calm after m effect → (b : ℕ) → IsGoneBy effect b
        → is_obsolete (slice_index t.words b) ≡ true
    gone-behind None makes b gone = absurd gone
    gone-behind (Some e) makes b gone =
        let (k, r) = gone-reached shape calm after e makes.by.has b gone in
        told.change.obsolete b k (claimed-row shape s.words b k (told.calm_before.reached b k r).claimed) (makes.goes.gone b gone)

    pub makes-goes : (effect : Option Effect) → Makes Coupled shape s p calm after m effect → TreeGoesOn shape t.words calm after m effect
    makes-goes None makes = record { claims = makes.goes.claims; follows = makes.goes.follows; gone = λ b x. absurd x }
    makes-goes (Some e) makes = record { claims = makes.goes.claims; follows = makes.goes.follows; gone = gone-behind (Some e) makes }

    pub holds-reached : HoldsReached Coupled shape s p calm
    holds-reached call q o h a = ((all p call q o).1.rows h a).reached

    held-live : HeldAreLive shape s
    held-live r call q o h a = ((all r call q o).1.rows h a).live

    claims-rise : (b : ℕ) (k : Kind) → IsClaimed shape s.words b k → IsClaimed shape t.words b k
    claims-rise b k x = record { number = x.number; claimed = omega (arith, x.claimed, fact.steady.claims k); within = x.within; is = x.is }

    -- ---- the rows that are held after the step

    pub takes-none-live : (call : Call) (q : Process) → IsOpen s p call q
        → ((word v w : ℕ) (mark : Option Point)
        → call_turn (setting shape Coupled call) (stage_of Coupled shape call q) ≡ Asks (Swap word v w) mark → ⊥)
        → TakesLive shape s p × TakesReached shape s p calm
    takes-none-live call q o none = (λ h asks e. absurd (none-asked h asks), λ h asks e. absurd (none-asked h asks))
      where
        none-asked : (h : HeldRow) → AsksFor Coupled shape s p (Swap h.base h.kept (locked_word h.kept)) → ⊥
        none-asked h x =
            none h.base h.kept (locked_word h.kept) x.mark
            (ap (λ y. call_turn (setting shape Coupled y) (stage_of Coupled shape call q))
            (same-call s p call x.call q x.process o x.is_open)
            ∙ (ap (call_turn (setting shape Coupled x.call)) (same-stage Coupled shape s p call x.call q x.process o x.is_open) ∙ x.turn))

    -- ---- what fits the other calls

    module _ (effect : Option Effect) (makes : Makes Coupled shape s p calm after m effect)
        (fresh-is : (b : ℕ) (k : Kind) → ComesInBy effect b k → g.fresh p ≡ Some (b, k)) (f : Option Named) (l : Option ℕ) where
      is-other : (r : ℕ) → r ≢ p → (o : Option Named) → g.fresh r ≡ o → IsOther effect o
      is-other r apart None e = tt
      is-other r apart (Some row) e = λ x. apart (world.apart r p row e (fresh-is row.0 row.1 x))

      other-fits : (r : ℕ) (call : Call) (q : Process) (status : Status) → r ≢ p → IsOpen s r call q → IsOpen t r call q
          → CoupledFits shape Scans g schedule s calm r call q status
          → CoupledFits shape Scans (ghosts_with g p f l) (schedule ++ p ∷ []) t after r call q status
      other-fits r call q status apart o behind x = record {
        tree = x.tree;
        rows = laws.others_leave_good plan start words schedule p s t told.claims m m effect is-step
            (makes-goes effect makes) r call q apart o x.rows;
        fit = go x.fit;
      }
        where
          fresh-same : set_at g.fresh p f r ≡ g.fresh r
          fresh-same = set-other g.fresh p f r apart

          left-same : set_at g.leaving p l r ≡ g.leaving r
          left-same = set-other g.leaving p l r apart

          none-still : HasNone g r → HasNone (ghosts_with g p f l) r
          none-still n = (fresh-same ∙ n.0, left-same ∙ n.1)

          go : IsFit shape Scans g schedule s calm r call q status
              → IsFit shape Scans (ghosts_with g p f l) (schedule ++ p ∷ []) t after r call q status
          go (Seeks stage on none at knows e) =
              Seeks stage on (none-still none) at
              (laws.others_leave_ways plan start words schedule p s t told.claims m r call stage None m effect is-step apart
              (record { process = q; is_open = o; at = at }) knows (makes-goes effect makes)).1
              e
          go (Finds stage reply none at knows e) =
              Finds stage reply (none-still none) at
              (laws.others_leave_ways plan start words schedule p s t told.claims m r call stage (Some reply) m effect is-step
              apart
              (record { process = q; is_open = o; at = at }) knows (makes-goes effect makes)).1
              e
          go (Works stage at w e) =
              let kept = laws.others_keep_marked plan start words schedule p s t told.claims m effect told.step told.rests makes
              holds-reached r apart call stage
              (g.fresh r) (g.leaving r) (record { process = q; is_open = o; at = at }) (is-other r apart (g.fresh r) refl) w.0 w.1 in
              Works stage at
              (subst (λ y. IsWorking shape t.words after call stage y (set_at g.leaving p l r)) (sym fresh-same)
              (subst (IsWorking shape t.words after call stage (g.fresh r)) (sym left-same) kept))
              e
          go (Ends stage reply none at ends e) =
              Ends stage reply (none-still none) at
              (laws.others_keep_ends plan start words schedule p s t told.claims m effect told.step told.rests makes holds-reached r apart
              call stage reply
              (record { process = q; is_open = o; at = at }) ends).1
              e
          go (Walks low high at none stage x) =
              Walks low high at (none-still none) stage
              (scans.other schedule tale p s t calm after told effect makes r call q status apart o behind ((all r call q o).1.rows) x)

      -- ---- all of it

      pub led : FreshBehind shape s t (g.fresh p) f → LeavesBy shape s t p calm effect g.leaving (set_at g.leaving p l)
          → (Own : Ghosts → Type 0)
          → Own (ghosts_with g p f l) → IsLedOn Ghosts World (CoupledFits shape Scans) g schedule p s t calm after Own
      led fresh leaves Own own = record {
        next = ghosts_with g p f l;
        world = record { obsolete = obsolete; claimed = claimed; apart = apart };
        own = own;
        others = other-fits;
      }
        where
          obsolete : ObsoleteLeave shape t after (set_at g.leaving p l)
          obsolete =
              laws.obsolete_rows_leave plan start words schedule p s t told.claims m g.leaving (set_at g.leaving p l) m effect
              is-step (makes-goes effect makes) held-live leaves world.obsolete

          own-claimed : (row : Named) → FreshBehind shape s t (g.fresh p) f → f ≡ Some row → IsClaimed shape t.words row.0 row.1
          own-claimed row (SameFresh e) x = claims-rise row.0 row.1 (world.claimed p row (sym e ∙ x))
          own-claimed row (NoFresh e) x = absurd (none-some row (sym e ∙ x))
          own-claimed row (NewFresh new e fresh there) x =
              subst (λ (y : Named). IsClaimed shape t.words y.0 y.1) (same_Some new row (sym e ∙ x)) there

          claimed : (r : ℕ) (row : Named) → set_at g.fresh p f r ≡ Some row → IsClaimed shape t.words row.0 row.1
          claimed r row e = ⊎_elim (λ x. own-claimed row fresh (sym x.1 ∙ e)) (λ x. claims-rise row.0 row.1
              (world.claimed r row (sym x.1 ∙ e)))
              (set-cases g.fresh p f r)

          -- another process has the row of p only if p had it before
          mixed : (r : ℕ) (row : Named) → FreshBehind shape s t (g.fresh p) f → f ≡ Some row → g.fresh r ≡ Some row → p ≡ r
          mixed r row (SameFresh e) x y = world.apart p r row (sym e ∙ x) y
          mixed r row (NoFresh e) x y = absurd (none-some row (sym e ∙ x))
          mixed r row (NewFresh new e not there) x y =
              absurd (not (subst (λ (y : Named). IsClaimed shape s.words y.0 y.1) (sym (same_Some new row (sym e ∙ x)))
              (world.claimed r row y)))

          apart : (q r : ℕ) (row : Named) → set_at g.fresh p f q ≡ Some row → set_at g.fresh p f r ≡ Some row → q ≡ r
          apart q r row a b = ⊎_elim
              (λ x. ⊎_elim (λ y. x.0 ∙ sym y.0) (λ y. x.0 ∙ mixed r row fresh (sym x.1 ∙ a) (sym y.1 ∙ b)) (set-cases g.fresh p f r))
              (λ x. ⊎_elim (λ y. sym (y.0 ∙ mixed q row fresh (sym y.1 ∙ b) (sym x.1 ∙ a)))
              (λ y. world.apart q r row (sym x.1 ∙ a) (sym y.1 ∙ b))
              (set-cases g.fresh p f r))
              (set-cases g.fresh p f q)

    -- what the step has to do with obsolete rows, by the stage of the call on a key
    pub leaves-of : (call : Call) (q : Process) → IsOpen s p call q → (stage : Stage) → stage_of Coupled shape call q ≡ OnKey stage
        → (effect : Option Effect)
        → Makes Coupled shape s p calm after m effect → (l : Option ℕ) → ((h : Hold) → stage ≡ Obsolete h → MakesLeave shape calm h l)
        → ((h : Hold) (outcome : Option Outcome) (base : ℕ) → stage ≡ Unlock h outcome → g.leaving p ≡ Some base → IsGoneBy effect base)
        → ((base : ℕ) (kind : Kind) → ComesInBy effect base kind → is_obsolete (slice_index t.words base) ≡ false)
        → LeavesBy shape s t p calm effect g.leaving (set_at g.leaving p l)
    leaves-of call q o stage at effect makes l obsoletes unlocks fresh = record {
      others = λ r apart. set-other g.leaving p l r apart;
      makes = λ other h x. subst (MakesLeave shape calm h) (sym (set-here g.leaving p l)) (obsoletes h (is-stage other (Obsolete h) x));
      leaves = λ other h outcome base x e. unlocks h outcome base (is-stage other (Unlock h outcome) x) e;
      fresh = fresh;
    }
      where
        is-stage : (other : Call) (b : Stage) → IsAtStage Coupled shape s p other (OnKey b) → stage ≡ b
        is-stage other b x = key-same (sym at ∙ (same-stage Coupled shape s p call other q x.process o x.is_open ∙ x.at))

    -- what the step does to obsolete rows, if it is one of a scan or no call is open
    pub leaves-off : ((call : Call) (stage : Stage) → IsAtStage Coupled shape s p call (OnKey stage) → ⊥)
        → Makes Coupled shape s p calm after m None
        → LeavesBy shape s t p calm None g.leaving (set_at g.leaving p None)
    leaves-off off makes = record {
      others = λ r apart. set-other g.leaving p None r apart;
      makes = λ other h x. absurd (off other (Obsolete h) x);
      leaves = λ other h outcome base x e. absurd (off other (Unlock h outcome) x);
      fresh = λ base kind x. absurd x;
    }
