-- What a call of the optimistic tree does in a step of its own.
use Rattle.art_schedules.proofs.Common.{◌≡◌, ◌⊎◌, ℕ, true, false, List, [], ◌∷◌, ◌++◌, length, refl, sym, ap, subst, ◌∙◌, inl, inr, ⊎_elim}
use Rattle.art_schedules.proofs.Common.{Option, Some, None, Call, Scan, Reply, Contents, Shape, Optimistic, Access, Point, Asks, is_tree_call}
use Rattle.art_schedules.proofs.Common.{is_insert, is_scan, HeldRow, Hold, Outcome, Stage, Over, Work, setting, ScanAt, turn_at, work_at, OnKey}
use Rattle.art_schedules.proofs.Common.{OnScan, call_turn, call_after, Process, got_by, Plan, State, begun, opened_on, IsClaimed, Named, Each}
use Rattle.art_schedules.proofs.Common.{Effect, IsKept, IsOpen, KeepsTree, Knows, RowsOf, Status, calm_of, rows_of_hold, stage_of}
use Rattle.art_schedules.proofs.versions.KnownLemmas.{each-map}
use Rattle.art_schedules.proofs.Common.{Before, Found, Changed, HasNotChanged, Trace, IsTraceStep, AllFit, IsLedOn, OwnStep, Changes, Next, Stays}
use Rattle.art_schedules.proofs.Common.{Forgets, FindsNow, MakesAccess, set_at, the_plan, KnowsWay, IsHeldReached, StepsOn, BeginsWork, AtWork}
use Rattle.art_schedules.proofs.Common.{AtEnd, Makes, WorkStep, EndStep, Ghosts, IsWorld, IsFit, Seeks, Works, Finds, Walks, OptimisticFits}
use Rattle.events.specs.declared.event.Reply.TheVariants.{Refused}
use Rattle.art_schedules.proofs.calm.CalmLemmas.{kept-live}
use Rattle.art_schedules.proofs.work.OwnLemmas.{rows-known}
use Rattle.art_schedules.specs.stories.Fitting.{Keeps}
use Rattle.art_schedules.specs.optimistic.Goes as goes
use Rattle.art_schedules.specs.optimistic.Steps.{IsQuiet}
use Rattle.art_schedules.specs.effects.Outcomes as outcomes
use Rattle.art_schedules.specs.optimistic_runs.OptimisticFits.{Ends}
use Rattle.art_schedules.proofs.optimistic_runs.PartLaws.{LawsOfParts}
use Rattle.art_schedules.proofs.optimistic_runs.SmallLemmas.{work-kept, each-both}
use Rattle.art_schedules.proofs.optimistic_runs.LedLemmas as led
use Rattle.art_schedules.proofs.stories.OpenLemmas.{set-here, same-stage}

over-asks : (shape : Shape) (call : Call) (o : Outcome) (a : Access) (mark : Option Point)
    → turn_at (setting shape Optimistic call) (Over o) ≡ Asks a mark → ⊥
over-asks shape call o a mark e = cc

module _ (laws : LawsOfParts) (shape : Shape) (scripts : List (List Call)) (start : Contents) (words : List ℕ)
    (schedule : List ℕ) (tale : Trace) (p : ℕ) (s t : State) (g : Ghosts)
    (told : IsTraceStep (the_plan Optimistic shape scripts) start words schedule tale p s t
    (calm_of (the_plan Optimistic shape scripts) words schedule)
    (calm_of (the_plan Optimistic shape scripts) words (schedule ++ p ∷ [])))
    (world : IsWorld shape g s)
    (all : AllFit (OptimisticFits shape g) schedule s (calm_of (the_plan Optimistic shape scripts) words schedule)) where
  abbrev plan : Plan
  plan = the_plan Optimistic shape scripts

  abbrev calm : List ℕ
  calm = calm_of plan words schedule

  abbrev after : List ℕ
  after = calm_of plan words (schedule ++ p ∷ [])

  abbrev m : Contents
  m = tale.pairs (length schedule)

  module _ (call : Call) (q later : Process) (a : Access) (status : Status) (made : MakesAccess plan s p t call q later a)
      (tree : is_tree_call call ≡ true) where
    abbrev Fit : Ghosts → Status → Type 0
    Fit next now = OptimisticFits shape next (schedule ++ p ∷ []) t after p call later now

    abbrev Behind : Option Effect → Status → Type 0
    Behind effect now = IsLedOn Ghosts (λ g schedule s calm. IsWorld shape g s) (OptimisticFits shape) g schedule p s t calm after
        (λ next. Fit next now)

    abbrev Answer : Type 0
    Answer = OwnStep plan words schedule tale p t calm after call q status Behind

    at-next : (other : Process) → IsOpen t p call other → (next : Stage) → stage_of Optimistic shape call other ≡ OnKey next
        → stage_of Optimistic shape call later ≡ OnKey next
    at-next other o next e = same-stage Optimistic shape t p call call later other made.behind o ∙ e

    none-now : set_at g p None p ≡ None
    none-now = set-here g p None

    -- the call keeps the pairs, and has no fresh row after the step
    plain : (next : Status) → Makes Optimistic shape s p calm after m None
        → Next plan (opened_on plan words) schedule tale p (length (begun q)) call status next
        → IsFit shape (set_at g p None) t after p call later next → Answer
    plain next makes how fit =
        Keeps next (led.makes-goes laws shape scripts start words schedule tale p s t g told world all None makes) how
        (led.led laws shape scripts start words schedule tale p s t g told world all None makes tt None (led.NoFresh refl)
        (λ ghost. Fit ghost next) (record { tree = tree; fit = fit }))

    makes-of : KeepsTree shape calm after → Makes Optimistic shape s p calm after m None
    makes-of k = led.keeps-makes laws shape scripts start words schedule tale p s t g told world all k

    unchanged-before : status ≡ Before → HasNotChanged status
    unchanged-before e = subst HasNotChanged (sym e) tt

    -- ---- on its way

    seeks : (stage : Stage) → is_scan call ≡ false → g p ≡ None → stage_of Optimistic shape call q ≡ OnKey stage
        → KnowsWay (setting shape Optimistic call) calm s.words None stage → status ≡ Before → Answer
    seeks stage scan none at knows e = go from.1
      where
        from : (x : StepsOn plan words schedule p t call) × goes.Goes (setting shape Optimistic call) after t.words m x.next
        from = laws.own_steps_go_on plan start words schedule p s t told.step refl call stage
            (record { process = q; is_open = made.here; at = at }) tree scan told.claims m
            told.rests told.means knows

        makes : Makes Optimistic shape s p calm after m None
        makes = makes-of from.0.keeps

        there : stage_of Optimistic shape call later ≡ OnKey from.0.next
        there = at-next from.0.at.process from.0.at.is_open from.0.next from.0.at.at

        works : (h : Hold) (w : Work) → from.0.next ≡ work_at (setting shape Optimistic call) h w
            → BeginsWork (setting shape Optimistic call) after h w
            → Each (IsHeldReached shape after t.words) (rows_of_hold h)
            → AtWork (setting shape Optimistic call) t.words after None from.0.next
        works h w f begins each =
            subst (AtWork (setting shape Optimistic call) t.words after None) (sym f)
            (laws.work_begins (setting shape Optimistic call) t.words after h w told.calm_after_step.long known begins
            (each-map (λ (x : HeldRow) y. record {
              reached = y.0.1;
              live = kept-live Optimistic (RowsOf shape) x y.1 (inl refl);
            }) (rows_of_hold h)
            (each-both (IsHeldReached shape after t.words) (IsKept false (RowsOf shape)) (rows_of_hold h) each kept))
            (each-map (λ (x : HeldRow) y. y.0) (rows_of_hold h) each))
          where
            known : Knows (RowsOf shape) (setting shape Optimistic call) (OnKey (work_at (setting shape Optimistic call) h w))
            known =
                subst (Knows (RowsOf shape) (setting shape Optimistic call)) (there ∙ ap OnKey f)
                (rows-known Optimistic shape _ t p call later
                (led.fact laws shape scripts start words schedule tale p s t g told world all).behind made.behind)

            kept : Each (IsKept false (RowsOf shape)) (rows_of_hold h)
            kept = subst (Each (IsKept false (RowsOf shape))) (work-kept (is_insert call) (setting shape Optimistic call) h w) known.kept

        go : goes.Goes (setting shape Optimistic call) after t.words m from.0.next → Answer
        go (goes.GoesOn k) = plain Before makes (Stays (sym e)) (Seeks from.0.next scan none-now there k refl)
        go (goes.Finds reply does k) =
            plain (Found reply) makes (FindsNow reply (unchanged-before e) refl does) (Finds from.0.next reply scan none-now there k refl)
        go (goes.Works h w f begins each) =
            plain Before makes (Stays (sym e))
            (Works from.0.next there
            (subst (λ y. AtWork (setting shape Optimistic call) t.words after y from.0.next) (sym none-now) (works h w f begins each)) refl)

    -- ---- after the moment at which it found its reply

    finds : (stage : Stage) (reply : Reply) → is_scan call ≡ false → g p ≡ None → stage_of Optimistic shape call q ≡ OnKey stage
        → KnowsWay (setting shape Optimistic call) calm s.words (Some reply) stage → status ≡ Found reply → Answer
    finds stage reply scan none at knows e = ⊎_elim
        (λ k. plain (Found reply) makes (Stays (sym e)) (Finds from.0.next reply scan none-now there k refl))
        (λ k. plain Before makes (Forgets (subst HasNotChanged (sym e) tt) refl) (Seeks from.0.next scan none-now there k refl))
        from.1
      where
        from : (x : StepsOn plan words schedule p t call)
            × (KnowsWay (setting shape Optimistic call) after t.words (Some reply) x.next
            ⊎ KnowsWay (setting shape Optimistic call) after t.words None x.next)
        from = laws.own_findings_stay plan start words schedule p s t told.step refl call stage
            (record { process = q; is_open = made.here; at = at }) a made.mark
            (ap (call_turn (setting shape Optimistic call)) (sym at) ∙ made.asks) told.claims told.rests reply knows

        makes : Makes Optimistic shape s p calm after m None
        makes = makes-of from.0.keeps

        there : stage_of Optimistic shape call later ≡ OnKey from.0.next
        there = at-next from.0.at.process from.0.at.is_open from.0.next from.0.at.at

    -- ---- after its effect, or refused

    ends : (stage : Stage) (reply : Reply) → g p ≡ None → stage_of Optimistic shape call q ≡ OnKey stage
        → AtEnd (setting shape Optimistic call) s.words calm reply stage → (status ≡ Changed reply)
        ⊎ ((reply ≡ Refused) × (status ≡ Found Refused)) → Answer
    ends stage reply none at end e =
        go (laws.leavers_step plan start words schedule p s t told.claims m
        told.step told.rests told.means call stage reply
        (record { process = q; is_open = made.here; at = at }) end)
      where
        go : EndStep Optimistic shape s p t calm after m call reply stage → Answer
        go (outcomes.Leaves next there ends makes) =
            plain status makes (Stays refl) (Ends next reply none-now (at-next there.process there.is_open next there.at) ends e)
        go (outcomes.Answers o f is makes) =
            absurd (over-asks shape call o a made.mark
            (ap (turn_at (setting shape Optimistic call)) (sym is) ∙ (ap (call_turn (setting shape Optimistic call)) (sym at) ∙ made.asks)))

    -- ---- at work

    works : (stage : Stage) → stage_of Optimistic shape call q ≡ OnKey stage
        → AtWork (setting shape Optimistic call) s.words calm (g p) stage
        → status ≡ Before → Answer
    works stage at w e =
        go (laws.workers_step plan start words schedule p s t told.claims m
        told.step told.rests told.means call stage (g p)
        (record { process = q; is_open = made.here; at = at }) w)
      where
        fresh-claimed : (fresh : Option Named) (next : Stage)
            → AtWork (setting shape Optimistic call) t.words after fresh next → (row : Named)
            → fresh ≡ Some row → IsClaimed shape t.words row.0 row.1
        fresh-claimed fresh next work row f =
            laws.fresh_is_claimed (setting shape Optimistic call) t.words after next row
            (subst (λ y. AtWork (setting shape Optimistic call) t.words after y next) f work)

        go : WorkStep Optimistic shape s p t calm after m call (g p) → Answer
        go (outcomes.Works next fresh there work goes makes) =
            Keeps Before (led.makes-goes laws shape scripts start words schedule tale p s t g told world all None makes) (Stays (sym e))
            (led.led laws shape scripts start words schedule tale p s t g told world all None makes tt fresh
            (⊎_elim (λ x. led.SameFresh x) (λ x. led.NewFresh x.0 x.1 x.2 (fresh-claimed fresh next work x.0 x.1)) goes)
            (λ ghost. Fit ghost Before)
            (record {
              tree = tree;
              fit = Works next (at-next there.process there.is_open next there.at)
                  (subst (λ y. AtWork (setting shape Optimistic call) t.words after y next) (sym (set-here g p fresh)) work) refl;
            }))
        go (outcomes.IsRefused next there end makes) =
            plain (Found Refused) makes (FindsNow Refused (unchanged-before e) refl (inl refl, refl))
            (Ends next Refused none-now (at-next there.process there.is_open next there.at) end (inr (refl, refl)))
        go (outcomes.TakesEffect next effect reply there end makes fresh pairs legal accepted live) =
            Changes effect reply (led.makes-goes laws shape scripts start words schedule tale p s t g told world all (Some effect) makes)
            (unchanged-before e)
            (legal, pairs) accepted
            (led.led laws shape scripts start words schedule tale p s t g told world all (Some effect) makes fresh None (led.NoFresh refl)
            (λ ghost. Fit ghost (Changed reply))
            (record { tree = tree; fit = Ends next reply none-now (at-next there.process there.is_open next there.at) end (inl refl) }))

    -- ---- a scan

    walks : (low high : ℕ) (at : ScanAt) → g p ≡ None → call ≡ Scan low high → stage_of Optimistic shape call q ≡ OnScan low high at
        → status ≡ Before → Answer
    walks low high at none is stage e =
        plain Before makes (Stays (sym e))
        (Walks low high _ none-now is (made.stage ∙ ap (λ x. call_after (setting shape Optimistic call) x (got_by a s.words)) stage) refl)
      where
        quiet : IsQuiet Optimistic shape s p
        quiet other w o word value mark turn =
            laws.scans_store_nothing shape other low high at word value mark
            (ap (call_turn (setting shape Optimistic other)) (sym (same-stage Optimistic shape s p other call w q o made.here ∙ stage))
            ∙ turn)

        makes : Makes Optimistic shape s p calm after m None
        makes = makes-of (laws.quiet_steps_keep_trees plan start words schedule p s t told.step quiet told.claims told.rests)

    pub own-step : OptimisticFits shape g schedule s calm p call q status → Answer
    own-step x = go x.fit
      where
        go : IsFit shape g s calm p call q status → Answer
        go (Seeks stage scan none at knows e) = seeks stage scan none at knows e
        go (Finds stage reply scan none at knows e) = finds stage reply scan none at knows e
        go (Works stage at w e) = works stage at w e
        go (Ends stage reply none at end e) = ends stage reply none at end e
        go (Walks low high at none is stage e) = walks low high at none is stage e
