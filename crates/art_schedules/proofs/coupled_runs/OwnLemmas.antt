-- What a call of the coupled tree does in a step of its own.
use Rattle.art_schedules.proofs.Common.{◌≡◌, ◌⊎◌, ℕ, true, false, List, [], ◌∷◌, ◌++◌, length, refl, sym, ap, subst, ◌∙◌, inl, inr, ⊎_elim}
use Rattle.art_schedules.proofs.Common.{Option, Some, None, none-some, Call, Reply, Contents, Shape, Coupled, Access, Swap, Point, Asks}
use Rattle.art_schedules.proofs.Common.{is_tree_call, is_insert, is_scan, HeldRow, Hold, Stage, Unlock, Obsolete, Over, Work, setting, ScanAt}
use Rattle.art_schedules.proofs.Common.{turn_at, work_at, OnKey, OnScan, call_turn, Process, Plan, State, begun, opened_on, Each, Knows, holds}
use Rattle.art_schedules.proofs.Common.{IsAmong, IsAtStage, IsOpen, all_of, held_by, lock_of, locks_of, rows_of_hold, stage_of}
use Rattle.art_schedules.proofs.versions.KnownLemmas.{each-map}
use Rattle.art_schedules.proofs.Common.{calm_of, RowsOf, Effect, Status, Before, Found, Changed, HasNotChanged, Trace, IsTraceStep, AllFit}
use Rattle.art_schedules.proofs.Common.{IsLedOn, OwnStep, Changes, Next, Stays, FindsNow, MakesAccess, set_at, the_plan, IsHeldLive, TakesLive}
use Rattle.art_schedules.proofs.Common.{MakesLeave, LeavesBy, IsCoupledStep, HoldsGood, TakesReached, AtWork, AtEnd, Answering, Leaving, Makes}
use Rattle.art_schedules.proofs.Common.{IsRefused, TakesEffect, obsolete_by, WorkerStep, EnderStep, ghosts_with, IsWorking, HasNone, OfScans}
use Rattle.art_schedules.proofs.Common.{CoupledFits, ScansAreKept, BeginsWork, IsInTree}
use Rattle.events.specs.declared.event.Reply.TheVariants.{Refused}
use Rattle.art_schedules.proofs.work.OwnLemmas.{rows-known}
use Rattle.art_schedules.specs.stories.Fitting.{Keeps}
use Rattle.art_schedules.specs.coupled.Knows.{KnowsWay}
use Rattle.art_schedules.specs.coupled.Goes as goes
use Rattle.art_schedules.specs.coupled.Moments.{GoesFrom, StaysFrom}
use Rattle.art_schedules.specs.effects.Outcomes.{Works as WorksOn}
use Rattle.art_schedules.specs.coupled_runs.CoupledFits.{Ghosts, IsWorld, IsFit, Seeks, Works, Finds, Ends, Walks}
use Rattle.art_schedules.proofs.coupled_runs.PartLaws.{LawsOfParts}
use Rattle.art_schedules.specs.coupled_runs.KeptScans.{ScanStep}
use Rattle.art_schedules.proofs.coupled_runs.StageLemmas.{work-claimed}
use Rattle.art_schedules.proofs.coupled_runs.MarkBridgeLemmas.{fresh-is}
use Rattle.art_schedules.proofs.coupled_runs.LedLemmas as led
use Rattle.art_schedules.proofs.coupled.MoveLemmas.{works-hold}
use Rattle.art_schedules.proofs.work.CallLemmas.{key-scan}
use Rattle.art_schedules.proofs.stories.OpenLemmas.{set-here, same-stage}

-- an end takes no row
end-swaps : (shape : Shape) (real calm : List ℕ) (call : Call) (reply : Reply) (stage : Stage)
    → AtEnd (setting shape Coupled call) real calm reply stage
    → (word v w : ℕ) (mark : Option Point) → turn_at (setting shape Coupled call) stage ≡ Asks (Swap word v w) mark → ⊥
end-swaps shape real calm call reply stage (Answering o e at) word v w mark turn =
    go (ap (turn_at (setting shape Coupled call)) (sym at) ∙ turn)
  where
    go : turn_at (setting shape Coupled call) (Over o) ≡ Asks (Swap word v w) mark → ⊥
    go k = cc
end-swaps shape real calm call reply stage (Leaving o h e at rows same) word v w mark turn =
    go (ap (turn_at (setting shape Coupled call)) (sym at) ∙ turn)
  where
    go : turn_at (setting shape Coupled call) (Unlock h (Some o)) ≡ Asks (Swap word v w) mark → ⊥
    go k = cc

-- an end makes no row obsolete
end-keeps : (shape : Shape) (real calm : List ℕ) (call : Call) (reply : Reply) (h : Hold)
    → AtEnd (setting shape Coupled call) real calm reply (Obsolete h) → ⊥
end-keeps shape real calm call reply h (Answering o e at) = cc
end-keeps shape real calm call reply h (Leaving o k e at rows same) = cc

obsolete-named : (stage : Stage) (h : Hold) → stage ≡ Obsolete h → obsolete_by stage ≡ None → ⊥
obsolete-named stage h e n = none-some h.row.base (sym n ∙ ap obsolete_by e)

module _ (laws : LawsOfParts) (shape : Shape) (scripts : List (List Call)) (start : Contents) (words : List ℕ) (Scans : OfScans)
    (scans : ScansAreKept (the_plan Coupled shape scripts) start words Scans)
    (schedule : List ℕ) (tale : Trace) (p : ℕ) (s t : State) (g : Ghosts)
    (told : IsTraceStep (the_plan Coupled shape scripts) start words schedule tale p s t
    (calm_of (the_plan Coupled shape scripts) words schedule)
    (calm_of (the_plan Coupled shape scripts) words (schedule ++ p ∷ [])))
    (world : IsWorld shape g s (calm_of (the_plan Coupled shape scripts) words schedule))
    (all : AllFit (CoupledFits shape Scans g) schedule s (calm_of (the_plan Coupled shape scripts) words schedule)) where
  abbrev plan : Plan
  plan = the_plan Coupled shape scripts

  abbrev calm : List ℕ
  calm = calm_of plan words schedule

  abbrev after : List ℕ
  after = calm_of plan words (schedule ++ p ∷ [])

  abbrev m : Contents
  m = tale.pairs (length schedule)

  is-step : IsCoupledStep plan start words schedule p s t told.claims m
  is-step = led.is-step laws shape scripts start words Scans scans schedule tale p s t g told world all

  -- a call with its stage, and the process that it is after the step
  module _ (call : Call) (q later : Process) (a : Access) (status : Status) (made : MakesAccess plan s p t call q later a)
      (tree : is_tree_call call ≡ true) where
    abbrev Fit : Ghosts → Status → Type 0
    Fit next now = CoupledFits shape Scans next (schedule ++ p ∷ []) t after p call later now

    abbrev Behind : Option Effect → Status → Type 0
    Behind effect now =
        IsLedOn Ghosts (λ g schedule s calm. IsWorld shape g s calm) (CoupledFits shape Scans) g schedule p s t calm after
        (λ next. Fit next now)

    abbrev Answer : Type 0
    Answer = OwnStep plan words schedule tale p t calm after call q status Behind

    good : (effect : Option Effect) → Makes Coupled shape s p calm after m effect → TakesLive shape s p × TakesReached shape s p calm
        → HoldsGood shape after call later
    good effect makes takes =
        laws.good_rows_stay plan start words schedule p s t told.claims m m effect is-step
        (led.makes-goes laws shape scripts start words Scans scans schedule tale p s t g told world all effect makes)
        (λ c w o. (all p c w o).1.rows) takes.0
        takes.1 call later made.behind

    at-next : (other : Process) → IsOpen t p call other → (next : Stage) → stage_of Coupled shape call other ≡ OnKey next
        → stage_of Coupled shape call later ≡ OnKey next
    at-next other o next e = same-stage Coupled shape t p call call later other made.behind o ∙ e

    none-now : HasNone (ghosts_with g p None None) p
    none-now = (set-here g.fresh p None, set-here g.leaving p None)

    -- the call keeps the pairs, and has no fresh row after the step
    plain : (next : Status) → Makes Coupled shape s p calm after m None
        → Next plan (opened_on plan words) schedule tale p (length (begun q)) call status next
        → LeavesBy shape s t p calm None g.leaving (set_at g.leaving p None) → TakesLive shape s p × TakesReached shape s p calm
        → IsFit shape Scans (ghosts_with g p None None) (schedule ++ p ∷ []) t after p call later next → Answer
    plain next makes how leaves takes fit =
        Keeps next (led.makes-goes laws shape scripts start words Scans scans schedule tale p s t g told world all None makes) how
        (led.led laws shape scripts start words Scans scans schedule tale p s t g told world all None makes (λ b k x. absurd x) None None
        (led.NoFresh refl)
        leaves (λ ghost. Fit ghost next) (record { tree = tree; rows = good None makes takes; fit = fit }))

    leaves-plain : (stage : Stage) → stage_of Coupled shape call q ≡ OnKey stage → Makes Coupled shape s p calm after m None
        → ((h : Hold) → stage ≡ Obsolete h → ⊥) → g.leaving p ≡ None → LeavesBy shape s t p calm None g.leaving (set_at g.leaving p None)
    leaves-plain stage at makes keeps none =
        led.leaves-of laws shape scripts start words Scans scans schedule tale p s t g told world all call q made.here stage
        at None makes None
        (λ h e. absurd (keeps h e)) (λ h outcome base e x. absurd (none-some base (sym none ∙ x))) (λ base kind x. absurd x)

    -- ---- on its way

    seeks : (stage : Stage) → is_scan call ≡ false → HasNone g p → stage_of Coupled shape call q ≡ OnKey stage
        → KnowsWay (setting shape Coupled call) calm s.words None stage → status ≡ Before → Answer
    seeks stage on none at knows e = go from.goes
      where
        here : IsAtStage Coupled shape s p call (OnKey stage)
        here = record { process = q; is_open = made.here; at = at }

        from : GoesFrom shape call t p calm after m
        from = laws.calls_go_on plan start words schedule p s t told.claims m g.leaving call stage is-step world.obsolete tree on here knows

        makes : Makes Coupled shape s p calm after m None
        makes = led.keeps-makes laws shape scripts start words Scans scans schedule tale p s t g told world all from.keeps

        there : stage_of Coupled shape call later ≡ OnKey from.next
        there = at-next from.at.process from.at.is_open from.next from.at.at

        takes : TakesLive shape s p × TakesReached shape s p calm
        takes = (
          laws.ways_take_live plan start words schedule p s t told.claims m g.leaving call stage None is-step world.obsolete here knows,
          laws.ways_take_reached plan start words schedule p s t told.claims m call stage None is-step here knows,
        )

        leaves : LeavesBy shape s t p calm None g.leaving (set_at g.leaving p None)
        leaves = leaves-plain stage at makes
            (λ h f. let k : KnowsWay (setting shape Coupled call) calm s.words None (Obsolete h)
            = subst (KnowsWay (setting shape Coupled call) calm s.words None) f knows in k.way)
            none.1

        keeps-status : Next plan (opened_on plan words) schedule tale p (length (begun q)) call status Before
        keeps-status = Stays (sym e)

        works : (h : Hold) (w : Work) → from.next ≡ work_at (setting shape Coupled call) h w
            → BeginsWork (setting shape Coupled call) after h w
            → Each (IsHeldLive after t.words) (rows_of_hold h) → IsWorking shape t.words after call from.next None None
        works h w f begins each =
            subst (λ y. IsWorking shape t.words after call y None None) (sym f)
            (at-work, laws.workers_may_have_no_mark (setting shape Coupled call) t.words after None _ at-work)
          where
            known : Knows (RowsOf shape) (setting shape Coupled call) (OnKey (work_at (setting shape Coupled call) h w))
            known =
                subst (Knows (RowsOf shape) (setting shape Coupled call)) (there ∙ ap OnKey f)
                (rows-known Coupled shape _ t p call later
                (led.fact laws shape scripts start words Scans scans schedule tale p s t g told world all).behind made.behind)

            rows : held_by Coupled shape call later ≡ locks_of (rows_of_hold h)
            rows = ap (holds (setting shape Coupled call)) (there ∙ ap OnKey f)
                ∙ ap locks_of (works-hold (is_insert call) (setting shape Coupled call) h w)

            in-tree : (x : HeldRow) → IsAmong (lock_of x) (locks_of (rows_of_hold h)) → IsInTree shape after x
            in-tree x among =
                let r = good None makes takes (lock_of x) (subst (IsAmong (lock_of x)) (sym rows) among) in
                record { reached = r.reached; live = r.live }

            above : (o : Option HeldRow) → ((x : HeldRow) → IsAmong (lock_of x) (locks_of (all_of o)) → IsInTree shape after x)
                → Each (IsInTree shape after) (all_of o)
            above None f = tt
            above (Some x) f = (f x (inl refl), tt)

            at-work : AtWork (setting shape Coupled call) t.words after None (work_at (setting shape Coupled call) h w)
            at-work =
                laws.work_begins (setting shape Coupled call) t.words after h w told.calm_after_step.long known
                begins
                (in-tree h.row (inl refl), above h.above (λ x i. in-tree x (inr i)))
                (each-map (λ x o. o.same) (rows_of_hold h) each)

        go : goes.Goes (setting shape Coupled call) after t.words m from.next → Answer
        go (goes.GoesOn k) = plain Before makes keeps-status leaves takes (Seeks from.next on none-now there k refl)
        go (goes.Finds reply does k) =
            plain (Found reply) makes (FindsNow reply (subst HasNotChanged (sym e) tt) refl does) leaves takes
            (Finds from.next reply none-now there k refl)
        go (goes.Works h w f begins each) =
            plain Before makes keeps-status leaves takes (Works from.next there
            (subst (λ y. IsWorking shape t.words after call from.next y (set_at g.leaving p None p)) (sym (set-here g.fresh p None))
            (subst (IsWorking shape t.words after call from.next None) (sym (set-here g.leaving p None)) (works h w f begins each)))
            refl)

    -- ---- after the moment at which it found its reply

    finds : (stage : Stage) (reply : Reply) → HasNone g p → stage_of Coupled shape call q ≡ OnKey stage
        → KnowsWay (setting shape Coupled call) calm s.words (Some reply) stage → status ≡ Found reply → Answer
    finds stage reply none at knows e =
        plain (Found reply) makes (Stays (sym e))
        (leaves-plain stage at makes
        (λ h f. let k : KnowsWay (setting shape Coupled call) calm s.words (Some reply) (Obsolete h)
        = subst (KnowsWay (setting shape Coupled call) calm s.words (Some reply)) f knows in k.way)
        none.1) (
          laws.ways_take_live plan start words schedule p s t told.claims m g.leaving call stage (Some reply) is-step
              world.obsolete here knows,
          laws.ways_take_reached plan start words schedule p s t told.claims m call stage (Some reply) is-step here knows,
        )
        (Finds from.next reply none-now (at-next from.at.process from.at.is_open from.next from.at.at) from.knows refl)
      where
        here : IsAtStage Coupled shape s p call (OnKey stage)
        here = record { process = q; is_open = made.here; at = at }

        turn : turn_at (setting shape Coupled call) stage ≡ Asks a made.mark
        turn = ap (call_turn (setting shape Coupled call)) (sym at) ∙ made.asks

        from : StaysFrom shape call t p calm after reply
        from = laws.calls_stay plan start words schedule p s t told.claims m g.leaving call stage reply a made.mark is-step
            world.obsolete here knows turn

        makes : Makes Coupled shape s p calm after m None
        makes = led.keeps-makes laws shape scripts start words Scans scans schedule tale p s t g told world all from.keeps

    -- ---- after its effect, or refused

    ends : (stage : Stage) (reply : Reply) → HasNone g p → stage_of Coupled shape call q ≡ OnKey stage
        → AtEnd (setting shape Coupled call) s.words calm reply stage → (status ≡ Changed reply)
        ⊎ ((reply ≡ Refused) × (status ≡ Found Refused)) → Answer
    ends stage reply none at end e =
        plain status from.makes (Stays refl)
        (leaves-plain stage at from.makes (λ h f. end-keeps shape s.words calm call reply h
        (subst (AtEnd (setting shape Coupled call) s.words calm reply) f end)) none.1)
        (led.takes-none-live laws shape scripts start words Scans scans schedule tale p s t g told world all call q made.here
        (λ word v w mark k.
        end-swaps shape s.words calm call reply stage end word v w mark (ap (call_turn (setting shape Coupled call)) (sym at) ∙ k)))
        (Ends from.next reply none-now (at-next from.at.process from.at.is_open from.next from.at.at) from.ends e)
      where
        from : EnderStep plan s p t calm after m call reply
        from = laws.enders_go_on plan start words schedule p s t told.claims m
            told.step told.rests told.means call stage reply a made.mark
            (record { process = q; is_open = made.here; at = at }) end (ap (call_turn (setting shape Coupled call)) (sym at) ∙ made.asks)

    -- ---- at work

    works : (stage : Stage) → stage_of Coupled shape call q ≡ OnKey stage
        → IsWorking shape s.words calm call stage (g.fresh p) (g.leaving p)
        → status ≡ Before → Answer
    works stage at w e = go (laws.workers_go_on plan start words schedule p s t told.claims m
        told.step told.rests told.means
        call stage (g.fresh p) (g.leaving p)
        (record { process = q; is_open = made.here; at = at }) w.0 w.1)
      where
        takes : TakesLive shape s p × TakesReached shape s p calm
        takes = led.takes-none-live laws shape scripts start words Scans scans schedule tale p s t g told world all call q made.here
            (λ word v x mark k.
            (laws.workers_only_work (setting shape Coupled call) s.words calm (g.fresh p) stage w.0).0 word v x mark
            (ap (call_turn (setting shape Coupled call)) (sym at) ∙ k))

        unchanged : HasNotChanged status
        unchanged = subst HasNotChanged (sym e) tt

        obsoletes : (h : Hold) → stage ≡ Obsolete h → MakesLeave shape calm h (obsolete_by stage)
        obsoletes h f = subst (MakesLeave shape calm h) (sym (ap obsolete_by f)) (
          laws.obsolete_rows_hang (setting shape Coupled call) told.claims s.words calm (g.fresh p) h told.rests
              (subst (AtWork (setting shape Coupled call) s.words calm (g.fresh p)) f w.0),
          refl,
        )

        go : WorkerStep plan s p t calm after m call stage (g.fresh p) (g.leaving p) → Answer
        go (WorksOn next fresh there work goes makes, (left, marked)) =
            Keeps Before (led.makes-goes laws shape scripts start words Scans scans schedule tale p s t g told world all None
            makes) (Stays (sym e))
            (led.led laws shape scripts start words Scans scans schedule tale p s t g told world all None makes (λ b k x. absurd x) fresh
            (obsolete_by stage)
            (⊎_elim (λ x. led.SameFresh x) (λ x. led.NewFresh x.0 x.1 (x.2 x.0.1)
            (work-claimed (setting shape Coupled call) t.words after fresh next work x.0 x.1)) goes)
            (led.leaves-of laws shape scripts start words Scans scans schedule tale p s t g told world all call q made.here
            stage at None makes
            (obsolete_by stage) obsoletes (λ h outcome base f x. absurd (none-some base (sym left ∙ x))) (λ base kind x. absurd x))
            (λ ghost. Fit ghost Before)
            (record {
              tree = tree;
              rows = good None makes takes;
              fit = Works next (at-next there.process there.is_open next there.at)
                  (subst (λ y. IsWorking shape t.words after call next y (set_at g.leaving p (obsolete_by stage) p))
                  (sym (set-here g.fresh p fresh))
                  (subst (IsWorking shape t.words after call next fresh) (sym (set-here g.leaving p (obsolete_by stage))) (work, marked)))
                  refl;
            }))
        go (IsRefused next there end makes, (left, named)) =
            plain (Found Refused) makes (FindsNow Refused unchanged refl (inl refl, refl))
            (leaves-plain stage at makes (λ h f. obsolete-named stage h f named) left)
            takes
            (Ends next Refused none-now (at-next there.process there.is_open next there.at) end (inr (refl, refl)))
        go (TakesEffect next effect reply there end makes fresh pairs legal accepted live, (left, named)) =
            Changes effect reply (led.makes-goes laws shape scripts start words Scans scans schedule tale p s t g told world all
            (Some effect) makes) unchanged
            (legal, pairs) accepted
            (led.led laws shape scripts start words Scans scans schedule tale p s t g told world all (Some effect) makes
            (fresh-is effect (g.fresh p) fresh) None None (led.NoFresh refl)
            (led.leaves-of laws shape scripts start words Scans scans schedule tale p s t g told world all call q made.here stage at
            (Some effect) makes None
            (λ h f. absurd (obsolete-named stage h f named)) (λ h outcome base f x. left base x) live)
            (λ ghost. Fit ghost (Changed reply))
            (record {
              tree = tree;
              rows = good (Some effect) makes takes;
              fit = Ends next reply none-now (at-next there.process there.is_open next there.at) end (inl refl);
            }))

    -- ---- a scan

    walks : (low high : ℕ) (at : ScanAt) → HasNone g p → stage_of Coupled shape call q ≡ OnScan low high at
        → Scans schedule s calm p call q status → Answer
    walks low high at none stage x =
        plain from.next makes from.how
        (led.leaves-off laws shape scripts start words Scans scans schedule tale p s t g told world all off makes)
        (from.live, from.reached)
        (Walks from.low from.high from.at none-now from.stage from.fits)
      where
        from : ScanStep plan words schedule tale p s t calm after call q later status Scans
        from =
            scans.own schedule tale p s t calm after g.leaving told world.obsolete call q later a status made
            ((all p call q made.here).1.rows) low high at
            stage x

        makes : Makes Coupled shape s p calm after m None
        makes = led.keeps-makes laws shape scripts start words Scans scans schedule tale p s t g told world all from.keeps

        off : (other : Call) (b : Stage) → IsAtStage Coupled shape s p other (OnKey b) → ⊥
        off other b y = key-scan (sym y.at ∙ (same-stage Coupled shape s p other call y.process q y.is_open made.here ∙ stage))

    pub own-step : CoupledFits shape Scans g schedule s calm p call q status → Answer
    own-step x = go x.fit
      where
        go : IsFit shape Scans g schedule s calm p call q status → Answer
        go (Seeks stage on none at knows e) = seeks stage on none at knows e
        go (Works stage at w e) = works stage at w e
        go (Finds stage reply none at knows e) = finds stage reply none at knows e
        go (Ends stage reply none at end e) = ends stage reply none at end e
        go (Walks low high at none stage x) = walks low high at none stage x
