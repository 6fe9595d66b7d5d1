-- What fits an open scan of the coupled tree is kept by each step of a run.
use Rattle.art_schedules.proofs.Common.{◌≡◌, ◌≢◌, ◌⊎◌, inl, inr, ℕ, ◌+◌, List, [], ◌∷◌, ◌++◌, length, refl, sym, ap, subst, ◌∙◌, arith, Option}
use Rattle.art_schedules.proofs.Common.{None, false≢true, same_Some, Call, Scan, Reply, Contents, reply_to, Shape, claims_of, is_obsolete}
use Rattle.art_schedules.proofs.Common.{claims-few, Coupled, Access, Answers, HeldRow, Release, setting, ScanAt, scan_turn, scan_start, OnScan}
use Rattle.art_schedules.proofs.Common.{call_turn, Process, Plan, State, begun, opened_on, IsAmong, holds, IsOpen, stage_of, IsAtStage, calm_of}
use Rattle.art_schedules.proofs.Common.{Effect, IsGoneBy, pairs_by, ComesInBy, Follows, KeepsTree, Status, Before, Found, Changed, Trace}
use Rattle.art_schedules.proofs.Common.{IsTraceStep, Next, Stays, FindsNow, BeginsCall, MakesAccess, AnswersCall, HasItsReply, the_plan}
use Rattle.art_schedules.proofs.Common.{KnowsTree, ObsoleteLeave, IsCoupledStep, HoldsGood, Makes, ScanComes, ScanStays, rows_of_scan, HaveScans}
use Rattle.art_schedules.proofs.Common.{IsOver}
use Rattle.art_control_states.specs.declared.stage.ScanStep as stage
use Rattle.art_control_states.specs.declared.stage.ScanStep.TheVariants.{Over}
use Rattle.art_schedules.proofs.calm.VersionLemmas.{locked-same}
use Rattle.art_schedules.proofs.coupled.MadeLemmas.{Facts, facts}
use Rattle.art_schedules.specs.coupled_runs.KeptScans.{ScanStep}
use Rattle.art_schedules.specs.coupled_runs.ScanFits.{KnowsScan, IsKnownScan, CoupledScans}
use Rattle.art_schedules.proofs.coupled_runs.PartLaws.{LawsOfParts}

-- a walk is over, or is not
walked-or-not : (step : stage.ScanStep) → IsOver step ⊎ (IsOver step → ⊥)
walked-or-not (Release n) = inl tt
walked-or-not Over = inl tt
walked-or-not step = inr (λ w. w)

module _ (laws : LawsOfParts) (shape : Shape) (scripts : List (List Call)) (start : Contents) (words : List ℕ) where
  abbrev plan : Plan
  plan = the_plan Coupled shape scripts

  abbrev Scans : List ℕ → State → List ℕ → ℕ → Call → Process → Status → Type 0
  Scans = CoupledScans shape

  module _ (schedule : List ℕ) (tale : Trace) (p : ℕ) (s t : State) where
    abbrev here : List ℕ
    here = calm_of plan words schedule

    abbrev there : List ℕ
    there = calm_of plan words (schedule ++ p ∷ [])

    abbrev m : Contents
    m = tale.pairs (length schedule)

    -- what holds of the calm words of the run holds of these
    at-calm : (P : List ℕ → List ℕ → Type 0) → P here there → (x y : List ℕ) → x ≡ here → y ≡ there → P x y
    at-calm P h x y e f = subst (λ b. P x b) (sym f) (subst (λ a. P a there) (sym e) h)

    module _ (told : IsTraceStep plan start words schedule tale p s t here there) where
      is-step : IsCoupledStep plan start words schedule p s t told.claims m
      is-step = record {
        coupled = refl;
        run = told.step;
        rests = told.rests;
        means = told.means;
      }

      fact : Facts shape s t p words here there
      fact = facts plan start words schedule p s t told.claims m is-step

      -- a scan begins
      begun-scan : (low high : ℕ) (q later : Process) → BeginsCall plan s p t (Scan low high) q later
          → IsKnownScan shape t there (Scan low high) later Before
      begun-scan low high q later b = record {
        low = low;
        high = high;
        is = refl;
        at = scan_start (setting shape Coupled (Scan low high));
        stage = b.stage;
        knows = (
          λ w. w,
          (laws.scans_begin shape low high there t.words (fact.behind.long ∙ sym fact.then.long)).1,
          record { step = tt; way = tt },
        );
      }

      follows : KeepsTree shape here there → Follows shape (fact.count + 2) here there m (IsGoneBy None) (ComesInBy None)
      follows keeps = laws.kept_trees_follow shape told.claims (fact.count + 2) here there m told.rests told.means keeps (λ kind.
          let most = fact.behind.claims kind in omega (arith, most, fact.then.low (claims_of kind) (claims-few kind)))

      -- ---- its own step

      module _ (leaving : ℕ → Option ℕ) (leave : ObsoleteLeave shape s here leaving) (low high : ℕ) (q later : Process) (a : Access)
          (made : MakesAccess plan s p t (Scan low high) q later a) (x : ScanAt)
          (at : stage_of Coupled shape (Scan low high) q ≡ OnScan low high x) where
        abbrev its : Call
        its = Scan low high

        in-scan : IsAtStage Coupled shape s p (Scan low high) (OnScan low high x)
        in-scan = record { process = q; is_open = made.here; at = at }

        its-stage : (next : ScanAt) → IsAtStage Coupled shape t p (Scan low high) (OnScan low high next)
            → stage_of Coupled shape its later ≡ OnScan low high next
        its-stage next y = ap (stage_of Coupled shape its) (same_Some later y.process (sym made.behind.own ∙ y.is_open.own)) ∙ y.at

        steps : (status now : Status) (next : ScanAt) → ((IsOver x.step → ⊥) → KnowsTree shape here x)
            → IsAtStage Coupled shape t p (Scan low high) (OnScan low high next)
            → KeepsTree shape here there → Next plan (opened_on plan words) schedule tale p (length (begun q)) its status now
            → KnowsScan shape low high there t.words next now → ScanStep plan words schedule tale p s t here there its q later status Scans
        steps status now next tree y keeps how knows = record {
          low = low;
          high = high;
          at = next;
          stage = its-stage next y;
          next = now;
          keeps = keeps;
          how = how;
          fits = record { low = low; high = high; is = refl; at = next; stage = its-stage next y; knows = knows };
          live = laws.scans_take_live plan start words schedule p s t told.claims m leaving low high x is-step leave in-scan tree;
          reached = laws.scans_take_reached plan start words schedule p s t told.claims m low high x is-step in-scan tree;
        }

        own-scan : (status : Status) → KnowsScan shape low high here s.words x status
            → ScanStep plan words schedule tale p s t here there its q later status Scans
        own-scan Before k = go (walked-or-not comes.goes.next.step)
          where
            comes : ScanComes shape low high t p here there
            comes = laws.scans_come_on plan start words schedule p s t told.claims m leaving low high x is-step leave in-scan k.0 k.1 k.2

            go : IsOver comes.goes.next.step ⊎ (IsOver comes.goes.next.step → ⊥)
                → ScanStep plan words schedule tale p s t here there its q later Before Scans
            go (inl walked) =
                let f = follows comes.goes.keeps in
                steps Before (Found (reply_to m its)) comes.goes.next (λ open-yet. k.2) comes.goes.at comes.goes.keeps
                (FindsNow (reply_to m its) tt refl (inr refl, refl))
                (laws.walked_scans_find shape low high (fact.count + 2) there t.words m comes.goes.next f.rests f.means
                told.few comes.goes.walked walked)
            go (inr walking) =
                steps Before Before comes.goes.next (λ open-yet. k.2) comes.goes.at comes.goes.keeps (Stays refl)
                (walking, comes.goes.walked, comes.tree walking)
        own-scan (Found reply) k =
            steps (Found reply) (Found reply) stays.next (λ open-yet. absurd (open-yet k.walked)) stays.at stays.keeps
            (Stays refl) stays.found
          where
            stays : ScanStays shape low high t p here there reply
            stays = laws.found_scans_stay plan start words schedule p s t told.claims m low high x reply a made.mark is-step in-scan k
                (ap (call_turn (setting shape Coupled its)) (sym at) ∙ made.asks)
        own-scan (Changed reply) k = absurd k

      -- ---- a step of another process

      module _ (effect : Option Effect) (makes : Makes Coupled shape s p here there m effect) (r low high : ℕ) (q : Process) (apart : r ≢ p)
          (o : IsOpen s r (Scan low high) q) (good : HoldsGood shape here (Scan low high) q) (x : ScanAt)
          (at : stage_of Coupled shape (Scan low high) q ≡ OnScan low high x) where
        theirs : IsAtStage Coupled shape s r (Scan low high) (OnScan low high x)
        theirs = record { process = q; is_open = o; at = at }

        -- no row goes that the scan holds
        stay : (h : HeldRow) → IsAmong h (rows_of_scan shape low high x) → IsGoneBy effect h.base → ⊥
        stay h among gone =
            let a = subst (λ y. IsAmong h (holds (setting shape Coupled (Scan low high)) y)) (sym at) among in
            false≢true (sym (ap is_obsolete (fact.sound.locked r (Scan low high) q o h a) ∙ (locked-same h.kept ∙ (good h a).live))
            ∙ makes.goes.gone h.base gone)

        other-scan : (status : Status) → KnowsScan shape low high here s.words x status → KnowsScan shape low high there t.words x status
        other-scan Before k =
            let left = laws.others_leave_scans plan start words schedule p s t told.claims m r low high x is-step apart theirs in (
              k.0,
              left.1 k.1,
              laws.others_leave_trees plan start words schedule p s t told.claims m r low high x makes.goes.claims (pairs_by effect m)
                  effect is-step apart theirs
                  makes.goes.follows stay k.0 k.1 k.2,
            )
        other-scan (Found reply) k = (laws.others_leave_scans plan start words schedule p s t told.claims m r low high x is-step
            apart theirs).2 reply k
        other-scan (Changed reply) k = absurd k

    -- ---- of the calm words of the run

    abbrev BeginClause : List ℕ → List ℕ → Type 0
    BeginClause calm after =
        IsTraceStep plan start words schedule tale p s t calm after → (low high : ℕ) (q later : Process)
        → BeginsCall plan s p t (Scan low high) q later
        → Scans (schedule ++ p ∷ []) t after p (Scan low high) later Before

    pub begins : (calm after : List ℕ) → BeginClause calm after
    begins calm after told = at-calm BeginClause begun-scan calm after told.calm_is told.after_is told

    abbrev OwnClause : List ℕ → List ℕ → Type 0
    OwnClause calm after =
        (leaving : ℕ → Option ℕ) → IsTraceStep plan start words schedule tale p s t calm after
        → ObsoleteLeave shape s calm leaving → (call : Call)
        (q later : Process) (a : Access) (status : Status) → MakesAccess plan s p t call q later a → HoldsGood shape calm call q
        → (low high : ℕ) (at : ScanAt)
        → stage_of Coupled shape call q ≡ OnScan low high at → Scans schedule s calm p call q status
        → ScanStep plan words schedule tale p s t calm after call q later status Scans

    own-here : OwnClause here there
    own-here leaving told leave call q later a status made good low high at stage x =
        subst (λ y. MakesAccess plan s p t y q later a → stage_of Coupled shape y q ≡ OnScan x.low x.high x.at
        → ScanStep plan words schedule tale p s t here there y q later status Scans) (sym x.is)
        (λ access stands. own-scan told leaving leave x.low x.high q later a access x.at stands status x.knows) made x.stage

    pub own : (calm after : List ℕ) → OwnClause calm after
    own calm after leaving told = at-calm OwnClause own-here calm after told.calm_is told.after_is leaving told

    abbrev OtherClause : List ℕ → List ℕ → Type 0
    OtherClause calm after =
        IsTraceStep plan start words schedule tale p s t calm after → (effect : Option Effect) → Makes Coupled shape s p calm after m effect
        → (r : ℕ) (call : Call) (q : Process) (status : Status) → r ≢ p → IsOpen s r call q → IsOpen t r call q
        → HoldsGood shape calm call q
        → Scans schedule s calm r call q status → Scans (schedule ++ p ∷ []) t after r call q status

    other-here : OtherClause here there
    other-here told effect makes r call q status apart o then good x = record {
      low = x.low;
      high = x.high;
      is = x.is;
      at = x.at;
      stage = x.stage;
      knows =
          subst (λ y. IsOpen s r y q → HoldsGood shape here y q → stage_of Coupled shape y q ≡ OnScan x.low x.high x.at
          → KnowsScan shape x.low x.high there t.words x.at status) (sym x.is)
          (λ is rows stands. other-scan told effect makes r x.low x.high q apart is rows x.at stands status x.knows) o good x.stage;
    }

    pub other : (calm after : List ℕ) → OtherClause calm after
    other calm after told = at-calm OtherClause other-here calm after told.calm_is told.after_is told

    -- ---- its answer

    answer : (low high : ℕ) (calm : List ℕ) (q : Process) (reply : Reply) (x : ScanAt) (status : Status)
        → scan_turn (setting shape Coupled (Scan low high)) x ≡ Answers reply → KnowsScan shape low high calm s.words x status
        → HasItsReply plan words schedule tale p (Scan low high) q status reply
    answer low high calm q reply x Before turn k = absurd (laws.walking_scans_ask shape low high x reply k.0 turn)
    answer low high calm q reply x (Found found) turn k =
        (Found found, Stays refl, sym (laws.found_scans_answer shape low high calm s.words found reply x k turn))
    answer low high calm q reply x (Changed changed) turn k = absurd k

    pub answers : (calm : List ℕ) (call : Call) (q : Process) (status : Status) (reply : Reply) → AnswersCall plan s p t call q reply
        → Scans schedule s calm p call q status → HasItsReply plan words schedule tale p call q status reply
    answers calm call q status reply ended x =
        subst (λ y. call_turn (setting shape Coupled y) (stage_of Coupled shape y q) ≡ Answers reply
        → stage_of Coupled shape y q ≡ OnScan x.low x.high x.at
        → HasItsReply plan words schedule tale p y q status reply) (sym x.is)
        (λ turn at. answer x.low x.high calm q reply x.at status
        (ap (call_turn (setting shape Coupled (Scan x.low x.high))) (sym at) ∙ turn) x.knows)
        ended.answers x.stage

-- What fits open scans is kept by each step of a run.
pub scans-are-kept : LawsOfParts → (shape : Shape) (scripts : List (List Call)) (start : Contents) (words : List ℕ)
    → HaveScans shape scripts start words
scans-are-kept laws shape scripts start words = (
  CoupledScans shape,
  record {
    begins = λ schedule tale p s t calm after told. begins laws shape scripts start words schedule tale p s t calm after told;
    own = λ schedule tale p s t calm after leaving told. own laws shape scripts start words schedule tale p s t calm after leaving told;
    other = λ schedule tale p s t calm after told. other laws shape scripts start words schedule tale p s t calm after told;
    answers = λ schedule tale p s t calm after told. answers laws shape scripts start words schedule tale p s t calm;
  },
)
