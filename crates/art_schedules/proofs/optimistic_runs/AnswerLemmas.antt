-- What an open call of the optimistic tree is answered.
use Rattle.art_schedules.proofs.Common.{◌≡◌, ℕ, ◌≤◌, true, List, [], ◌∷◌, ◌++◌, length, refl, sym, ap, subst, ◌∙◌, ⊎_elim, arith, Some}
use Rattle.art_schedules.proofs.Common.{same_Some, none-some, take-length, Call, Scan, Reply, Contents, Does, Shape, Optimistic, Answers}
use Rattle.art_schedules.proofs.Common.{reply_of, is_tree_call, Stage, Info, CheckLast, Unlock, Over, setting, reply_for, turn_at, OnKey}
use Rattle.art_schedules.proofs.Common.{call_turn, Process, Plan, State, begun, opened_on, known_reply, At, Gives, IsIn, IsOpen, stage_of}
use Rattle.art_schedules.proofs.Common.{AllFit, Before, Found, HasNotChanged, HasReply, IsInCall, IsTraceStep, Status, Trace, calm_of}
use Rattle.art_schedules.proofs.versions.StepLemmas.{next-turn}
use Rattle.art_schedules.proofs.Common.{Stays, FindsAt, AnswersCall, MeansAt, HasItsReply, the_plan, KnowsWay, AtWork, AtEnd, Answering, Leaving}
use Rattle.art_schedules.proofs.Common.{WorkStep, Ghosts, IsWorld, IsFit, Seeks, Works, Finds, Walks, OptimisticFits}
use Rattle.art_schedules.specs.scan_points.ScanPoints.{HasScanPoint}
use Rattle.art_schedules.specs.effects.Outcomes as outcomes
use Rattle.art_schedules.specs.optimistic_runs.OptimisticFits.{Ends}
use Rattle.art_schedules.proofs.optimistic_runs.PartLaws.{LawsOfParts}

-- an end is answered what it has
end-answers : (shape : Shape) (real calm : List ℕ) (call : Call) (reply answer : Reply) (stage : Stage)
    → AtEnd (setting shape Optimistic call) real calm reply stage
    → turn_at (setting shape Optimistic call) stage ≡ Answers answer → reply ≡ answer
end-answers shape real calm call reply answer stage (Answering o e at) turn = e
    ∙ go (ap (turn_at (setting shape Optimistic call)) (sym at) ∙ turn)
  where
    go : turn_at (setting shape Optimistic call) (Over o) ≡ Answers answer → reply_for o ≡ answer
    go k = cc
end-answers shape real calm call reply answer stage (Leaving o h e at rows same) turn =
    absurd (go (ap (turn_at (setting shape Optimistic call)) (sym at) ∙ turn))
  where
    go : turn_at (setting shape Optimistic call) (Unlock h (Some o)) ≡ Answers answer → ⊥
    go k = cc

-- what was found is what is answered
found-answers : (shape : Shape) (calm words : List ℕ) (call : Call) (reply answer : Reply) (stage : Stage)
    → KnowsWay (setting shape Optimistic call) calm words (Some reply) stage
    → turn_at (setting shape Optimistic call) stage ≡ Answers answer → reply ≡ answer
found-answers shape calm words call reply answer (Info d kept) k e = cc
found-answers shape calm words call reply answer (CheckLast n) k e = cc
found-answers shape calm words call reply answer (Over outcome) k e = k.way ∙ go e
  where
    go : turn_at (setting shape Optimistic call) (Over outcome) ≡ Answers answer → reply_for outcome ≡ answer
    go k = cc
found-answers shape calm words call reply answer stage k e = absurd k.way

module _ (laws : LawsOfParts) (shape : Shape) (scripts : List (List Call)) (start : Contents) (words : List ℕ)
    (schedule : List ℕ) (tale : Trace) (p : ℕ) (s t : State) (g : Ghosts)
    (told : IsTraceStep (the_plan Optimistic shape scripts) start words schedule tale p s t
    (calm_of (the_plan Optimistic shape scripts) words schedule)
    (calm_of (the_plan Optimistic shape scripts) words (schedule ++ p ∷ [])))
    (world : IsWorld shape g s)
    (all : AllFit (OptimisticFits shape g) schedule s (calm_of (the_plan Optimistic shape scripts) words schedule)) where
  abbrev plan : Plan
  plan = the_plan Optimistic shape scripts

  abbrev calm : List ℕ
  calm = calm_of plan words schedule

  abbrev after : List ℕ
  after = calm_of plan words (schedule ++ p ∷ [])

  abbrev m : Contents
  m = tale.pairs (length schedule)

  module _ (call : Call) (q : Process) (status : Status) (reply : Reply) (x : AnswersCall plan s p t call q reply)
      (tree : is_tree_call call ≡ true) where
    abbrev Answer : Type 0
    Answer = HasItsReply plan words schedule tale p call q status reply

    turn : (stage : Stage) → stage_of Optimistic shape call q ≡ OnKey stage → turn_at (setting shape Optimistic call) stage ≡ Answers reply
    turn stage at = ap (call_turn (setting shape Optimistic call)) (sym at) ∙ x.answers

    -- after the step the process is in no call
    closed : (other : Process) → IsOpen t p call other → ⊥
    closed other o = none-some call (sym x.idle ∙ (ap (λ (y : Process). y.call) (same_Some x.later other (sym x.own ∙ o.own)) ∙ o.is_open))

    works : (stage : Stage) → stage_of Optimistic shape call q ≡ OnKey stage
        → AtWork (setting shape Optimistic call) s.words calm (g p) stage → ⊥
    works stage at w =
        go (laws.workers_step plan start words schedule p s t told.claims m
        told.step told.rests told.means call stage (g p)
        (record { process = q; is_open = x.here; at = at }) w)
      where
        go : WorkStep Optimistic shape s p t calm after m call (g p) → ⊥
        go (outcomes.Works next fresh there work goes makes) = closed there.process there.is_open
        go (outcomes.IsRefused next there end makes) = closed there.process there.is_open
        go (outcomes.TakesEffect next effect reply there end makes fresh pairs legal accepted live) = closed there.process there.is_open

    known : known_reply plan q.got q.call ≡ Some reply
    known = ap (known_reply plan q.got) x.here.is_open ∙ ap reply_of (next-turn Optimistic shape call q ∙ x.answers)

    -- a scan has found its reply at its point, an earlier moment
    walks : (low high : ℕ) → call ≡ Scan low high → status ≡ Before → Answer
    walks low high is e =
        (Found reply, FindsAt reply point.t (subst HasNotChanged (sym e) tt) refl until within does, refl)
      where
        at-end : At plan (opened_on plan words) schedule (length schedule) s
        at-end = subst (λ l. Gives plan (opened_on plan words) l s) (sym (take-length schedule)) told.step.before.gives

        point : HasScanPoint plan words schedule (length schedule) p (length (begun q)) low high reply
        point = laws.answered_scans_have_points plan start words schedule s told.step.before refl (length schedule) s at-end p low high q
            reply x.here.own
            (x.here.is_open ∙ ap Some is) known

        until : point.t ≤ length schedule
        until = omega (arith, point.before)

        within : IsInCall plan (opened_on plan words) schedule point.t p (length (begun q)) call
        within = record { now = point.now; at = point.at; is_in = subst (IsIn point.now p (length (begun q))) (sym is) point.is_in }

        does : Does (tale.pairs point.t) call reply (tale.pairs point.t)
        does =
            let its : MeansAt plan words schedule point.t (tale.pairs point.t) = told.earlier point.t until in
            subst (λ c. Does (tale.pairs point.t) c reply (tale.pairs point.t)) (sym is)
            (point.replies its.claims (tale.pairs point.t) its.few its.rests its.means).1

    pub answered : OptimisticFits shape g schedule s calm p call q status → Answer
    answered fits = go fits.fit
      where
        go : IsFit shape g s calm p call q status → Answer
        go (Seeks stage scan none at k e) =
            let from = laws.own_steps_go_on plan start words schedule p s t told.step refl call stage
            (record { process = q; is_open = x.here; at = at }) tree scan told.claims m
            told.rests told.means k in
            absurd (closed from.0.at.process from.0.at.is_open)
        go (Finds stage found scan none at k e) = (
          status,
          Stays refl,
          subst (λ y. HasReply y reply) (sym e)
              (found-answers shape calm s.words call found reply stage k (turn stage at)),
        )
        go (Works stage at w e) = absurd (works stage at w)
        go (Ends stage known none at end e) = (
          status,
          Stays refl,
          ⊎_elim
              (λ k. subst (λ y. HasReply y reply) (sym k) (end-answers shape s.words calm call known reply stage end (turn stage at)))
              (λ k. subst (λ y. HasReply y reply) (sym k.1)
              (sym k.0 ∙ end-answers shape s.words calm call known reply stage end (turn stage at))) e,
        )
        go (Walks low high at none is stage e) = walks low high is e
