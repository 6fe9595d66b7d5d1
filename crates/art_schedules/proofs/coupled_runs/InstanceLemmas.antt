-- Every run of the coupled tree is linearizable, from the laws of the parts.
use Rattle.art_schedules.proofs.Common.{◌≡◌, ℕ, ◌+◌, true, false, List, [], ◌∷◌, ◌++◌, length, refl, sym, ap, subst, ◌∙◌, ⊎_elim, Option, Some}
use Rattle.art_schedules.proofs.Common.{None, same_Some, none-some, Call, Get, Insert, Remove, Scan, Replace, Reply, Contents, Shape, Coupled}
use Rattle.art_schedules.proofs.Common.{Access, Answers, is_scan, Hold, Outcome, Stage, Lock, Unlock, Obsolete, Over, Root, setting, reply_for}
use Rattle.art_schedules.proofs.Common.{turn_at, OnKey, call_turn, call_begun, call_after_words, Process, Plan, State, opened_on}
use Rattle.art_schedules.proofs.Common.{Before, CoupledIsLinearizable, IsAmong, IsAtStage, IsRun, Status, calm_of, holds, stage_of}
use Rattle.art_schedules.proofs.versions.KnownLemmas.{same-call}
use Rattle.art_schedules.proofs.Common.{HasReply, Trace, IsTraceStep, AllFit, IsLedOn, OwnStep, Stays, BeginsCall, MakesAccess, AnswersCall}
use Rattle.art_schedules.proofs.Common.{HasItsReply, set_at, the_plan, LeavesBy, HoldsGood, AtEnd, Answering, Leaving, Makes, ghosts_with}
use Rattle.art_schedules.proofs.Common.{HasNone, OfScans, CoupledFits, ScansAreKept, HaveScans, LedAreLinearizable, TreeGoesOn}
use Rattle.art_schedules.specs.coupled.Knows.{KnowsWay}
use Rattle.art_schedules.specs.coupled_runs.CoupledFits.{Ghosts, IsWorld, IsFit, Seeks, Works, Finds, Ends, Walks}
use Rattle.art_schedules.proofs.coupled_runs.PartLaws.{LawsOfParts}
use Rattle.art_schedules.specs.coupled_runs.Linear.{CoupledAreLed}
use Rattle.art_schedules.proofs.coupled_runs.LedLemmas as led
use Rattle.art_schedules.proofs.coupled_runs.OwnLemmas.{own-step}
use Rattle.art_schedules.proofs.calls.ScriptLemmas.{next-tree}
use Rattle.art_schedules.proofs.stories.OpenLemmas.{set-here, set-other, same-stage}

-- an end is answered what it has
end-answers : (shape : Shape) (real calm : List ℕ) (call : Call) (reply answer : Reply) (stage : Stage)
    → AtEnd (setting shape Coupled call) real calm reply stage
    → turn_at (setting shape Coupled call) stage ≡ Answers answer → reply ≡ answer
end-answers shape real calm call reply answer stage (Answering o e at) turn = e
    ∙ go (ap (turn_at (setting shape Coupled call)) (sym at) ∙ turn)
  where
    go : turn_at (setting shape Coupled call) (Over o) ≡ Answers answer → reply_for o ≡ answer
    go k = cc
end-answers shape real calm call reply answer stage (Leaving o h e at rows same) turn =
    absurd (go (ap (turn_at (setting shape Coupled call)) (sym at) ∙ turn))
  where
    go : turn_at (setting shape Coupled call) (Unlock h (Some o)) ≡ Answers answer → ⊥
    go k = cc

obsolete-asks : (shape : Shape) (call : Call) (h : Hold) (answer : Reply)
    → turn_at (setting shape Coupled call) (Obsolete h) ≡ Answers answer → ⊥
obsolete-asks shape call h answer e = cc

unlock-asks : (shape : Shape) (call : Call) (h : Hold) (outcome : Option Outcome) (answer : Reply)
    → turn_at (setting shape Coupled call) (Unlock h outcome) ≡ Answers answer → ⊥
unlock-asks shape call h outcome answer e = cc

-- what begins holds nothing
begun-holds : (shape : Shape) (call : Call) → holds (setting shape Coupled call) (call_begun (setting shape Coupled call)) ≡ []
begun-holds shape (Get key) = refl
begun-holds shape (Insert key value) = refl
begun-holds shape (Remove key) = refl
begun-holds shape (Replace key old new) = refl
begun-holds shape (Scan low high) = refl

module _ (laws : LawsOfParts) (shape : Shape) (scripts : List (List Call)) (start : Contents) (words : List ℕ) (Scans : OfScans)
    (scans : ScansAreKept (the_plan Coupled shape scripts) start words Scans) where
  abbrev plan : Plan
  plan = the_plan Coupled shape scripts

  abbrev World : Ghosts → List ℕ → State → List ℕ → Type 0
  World g schedule s calm = IsWorld shape g s calm

  module _ (schedule : List ℕ) (tale : Trace) (p : ℕ) (s t : State) (g : Ghosts) where
    abbrev here : List ℕ
    here = calm_of plan words schedule

    abbrev there : List ℕ
    there = calm_of plan words (schedule ++ p ∷ [])

    at-calm : (P : List ℕ → List ℕ → Type 0) → P here there → (x y : List ℕ) → x ≡ here → y ≡ there → P x y
    at-calm P h x y e f = subst (λ b. P x b) (sym f) (subst (λ a. P a there) (sym e) h)

    -- ---- a step of an open call

    abbrev OwnClause : List ℕ → List ℕ → Type 0
    OwnClause x y =
        (told : IsTraceStep plan start words schedule tale p s t x y) → IsWorld shape g s x → AllFit (CoupledFits shape Scans g) schedule s x
        → (call : Call) (q later : Process) (a : Access) (status : Status) → MakesAccess plan s p t call q later a
        → CoupledFits shape Scans g schedule s x p call q status
        → OwnStep plan words schedule tale p t x y call q status
        (λ effect now. IsLedOn Ghosts World (CoupledFits shape Scans) g schedule p s t x y
        (λ next. CoupledFits shape Scans next (schedule ++ p ∷ []) t y p call later now))

    pub owns : OwnClause here there
    owns told world all call q later a status made f =
        own-step laws shape scripts start words Scans scans schedule tale p s t g told world all call q later a status made f.tree f

    -- ---- a call begins

    abbrev BeginClause : List ℕ → List ℕ → Type 0
    BeginClause x y =
        (told : IsTraceStep plan start words schedule tale p s t x y) → IsWorld shape g s x → AllFit (CoupledFits shape Scans g) schedule s x
        → (call : Call) (q later : Process) → BeginsCall plan s p t call q later
        → TreeGoesOn shape t.words x y (tale.pairs (length schedule)) None
        → IsLedOn Ghosts World (CoupledFits shape Scans) g schedule p s t x y
        (λ next. CoupledFits shape Scans next (schedule ++ p ∷ []) t y p call later Before)

    pub begins : BeginClause here there
    begins told world all call q later b goes =
        led.led laws shape scripts start words Scans scans schedule tale p s t g told world all None makes (λ b k x. absurd x) None None
        (led.NoFresh refl)
        (led.leaves-off laws shape scripts start words Scans scans schedule tale p s t g told world all off makes)
        (λ ghost. CoupledFits shape Scans ghost (schedule ++ p ∷ []) t there p call later Before)
        (record {
          tree = next-tree plan told.step.before.within.calls p q call b.next;
          rows = rows;
          fit = fit call b
              (laws.calls_begin shape call there t.words);
        })
      where
        makes : Makes Coupled shape s p here there (tale.pairs (length schedule)) None
        makes = led.goes-makes laws shape scripts start words Scans scans schedule tale p s t g told world all goes

        off : (other : Call) (stage : Stage) → IsAtStage Coupled shape s p other (OnKey stage) → ⊥
        off other stage y =
            none-some other (sym b.idle ∙ (ap (λ (x : Process). x.call) (same_Some q y.process (sym b.own ∙ y.is_open.own))
            ∙ y.is_open.is_open))

        rows : HoldsGood shape there call later
        rows h a = absurd (subst (IsAmong h) (ap (holds (setting shape Coupled call)) b.stage ∙ begun-holds shape call) a)

        none : HasNone (ghosts_with g p None None) p
        none = (set-here g.fresh p None, set-here g.leaving p None)

        fit : (call : Call) → BeginsCall plan s p t call q later
            → (is_scan call ≡ false → (call_after_words (setting shape Coupled call) [] ≡ OnKey (Lock Root true))
            × KnowsWay (setting shape Coupled call) there t.words None (Lock Root true))
            → IsFit shape Scans (ghosts_with g p None None) (schedule ++ p ∷ []) t there p call later Before
        fit (Get key) b k = Seeks (Lock Root true) refl none b.stage (k refl).1 refl
        fit (Insert key value) b k = Seeks (Lock Root true) refl none b.stage (k refl).1 refl
        fit (Remove key) b k = Seeks (Lock Root true) refl none b.stage (k refl).1 refl
        fit (Replace key old new) b k = Seeks (Lock Root true) refl none b.stage (k refl).1 refl
        fit (Scan low high) b k = Walks low high _ none b.stage (scans.begins schedule tale p s t here there told low high q later b)

    -- ---- a call is answered

    abbrev AnswerClause : List ℕ → List ℕ → Type 0
    AnswerClause x y =
        (told : IsTraceStep plan start words schedule tale p s t x y) → IsWorld shape g s x → AllFit (CoupledFits shape Scans g) schedule s x
        → (call : Call) (q : Process) (status : Status) (reply : Reply) → AnswersCall plan s p t call q reply
        → CoupledFits shape Scans g schedule s x p call q status → TreeGoesOn shape t.words x y (tale.pairs (length schedule)) None
        → IsLedOn Ghosts World (CoupledFits shape Scans) g schedule p s t x y
        (λ next. HasItsReply plan words schedule tale p call q status reply)

    pub answers : AnswerClause here there
    answers told world all call q status reply x f goes =
        led.led laws shape scripts start words Scans scans schedule tale p s t g told world all None makes (λ b k x. absurd x) None None
        (led.NoFresh refl)
        leaves
        (λ ghost. HasItsReply plan words schedule tale p call q status reply) (go f.fit)
      where
        makes : Makes Coupled shape s p here there (tale.pairs (length schedule)) None
        makes = led.goes-makes laws shape scripts start words Scans scans schedule tale p s t g told world all goes

        at-answer : (other : Call) (b : Stage) → IsAtStage Coupled shape s p other (OnKey b)
            → turn_at (setting shape Coupled other) b ≡ Answers reply
        at-answer other b y =
            ap (call_turn (setting shape Coupled other)) (sym y.at ∙ same-stage Coupled shape s p other call y.process q y.is_open x.here)
            ∙ (ap (λ z. call_turn (setting shape Coupled z) (stage_of Coupled shape call q))
            (same-call s p other call y.process q y.is_open x.here)
            ∙ x.answers)

        leaves : LeavesBy shape s t p here None g.leaving (set_at g.leaving p None)
        leaves = record {
          others = λ r apart. set-other g.leaving p None r apart;
          makes = λ other h y. absurd (obsolete-asks shape other h reply (at-answer other (Obsolete h) y));
          leaves = λ other h outcome base y e. absurd (unlock-asks shape other h outcome reply (at-answer other (Unlock h outcome) y));
          fresh = λ base kind x. absurd x;
        }

        turn : (stage : Stage) → stage_of Coupled shape call q ≡ OnKey stage → turn_at (setting shape Coupled call) stage ≡ Answers reply
        turn stage at = ap (call_turn (setting shape Coupled call)) (sym at) ∙ x.answers

        go : IsFit shape Scans g schedule s here p call q status → HasItsReply plan words schedule tale p call q status reply
        go (Seeks stage on none at knows e) = absurd (laws.seekers_are_not_answered shape call here s.words stage reply
            knows (turn stage at))
        go (Works stage at w e) = absurd ((laws.workers_only_work (setting shape Coupled call) s.words here (g.fresh p) stage w.0).1
            reply (turn stage at))
        go (Finds stage found none at knows e) = (
          status,
          Stays refl,
          subst (λ y. HasReply y reply) (sym e)
              (sym (laws.found_is_answered shape call here s.words stage found reply knows (turn stage at))),
        )
        go (Ends stage known none at end e) = (
          status,
          Stays refl,
          ⊎_elim
              (λ k. subst (λ y. HasReply y reply) (sym k) (end-answers shape s.words here call known reply stage end (turn stage at)))
              (λ k. subst (λ y. HasReply y reply) (sym k.1)
              (sym k.0 ∙ end-answers shape s.words here call known reply stage end (turn stage at))) e,
        )
        go (Walks low high at none stage y) = scans.answers schedule tale p s t here there told call q status reply x y

  -- What fits each call is kept.
  pub calls-are-led : CoupledAreLed shape scripts start words Scans
  calls-are-led = record {
    first = λ run rest means. (
      record { fresh = λ p. None; leaving = λ p. None },
      record {
        obsolete = laws.rests_have_none shape (length start + 1) (opened_on plan words) (λ p. None) rest;
        claimed = λ p row e. absurd (none-some row e);
        apart = λ p r row e f. absurd (none-some row e);
      },
    );
    begins = λ schedule tale p s t calm after g told.
        at-calm schedule tale p s t g (BeginClause schedule tale p s t g) (begins schedule tale p s t g) calm after told.calm_is
        told.after_is told;
    own = λ schedule tale p s t calm after g told.
        at-calm schedule tale p s t g (OwnClause schedule tale p s t g) (owns schedule tale p s t g) calm after told.calm_is
        told.after_is told;
    answers = λ schedule tale p s t calm after g told.
        at-calm schedule tale p s t g (AnswerClause schedule tale p s t g) (answers schedule tale p s t g) calm after told.calm_is
        told.after_is told;
  }

-- Every run of the coupled tree is linearizable: from the laws, from what fits its scans and is kept, and from what stories give where what
-- fits each call is
-- kept.
pub coupled-is-linearizable : LawsOfParts
    → ((shape : Shape) (scripts : List (List Call)) (start : Contents) (words : List ℕ) → HaveScans shape scripts start words)
    → LedAreLinearizable → CoupledIsLinearizable
coupled-is-linearizable laws scans orders plan start words schedule s run coupled =
    let have = scans plan.shape plan.scripts start words in
    orders plan.shape plan.scripts start words have.0 (calls-are-led laws plan.shape plan.scripts start words have.0 have.1) schedule s
    (subst (λ v. IsRun (record { shape = plan.shape; variant = v; scripts = plan.scripts }) start words schedule s) coupled run)
