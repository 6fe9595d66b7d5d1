-- A call at work, or at its end, while it steps.
use Rattle.art_schedules.proofs.Common.{ℕ, List, [], ◌∷◌, ◌++◌, sym, subst, Option, None, Call, Contents, Stage, setting, Plan, State}
use Rattle.art_schedules.proofs.Common.{ChildrenAreRead, calm_of, EffectsFollow, KeptTreesFollow, WaysSayValues, Named, WorkIsDone, AtWork}
use Rattle.art_schedules.proofs.Common.{Claiming, Going, Hanging, IsMarked, WorkerStep, WorkersStep, WorkersGoOn, LeaversStep}
use Rattle.art_schedules.proofs.effects.AroundLemmas.{around}
use Rattle.art_schedules.proofs.effects.MarkLemmas.{unmarked}
use Rattle.art_schedules.proofs.effects.ClaimStepLemmas.{claiming-step}
use Rattle.art_schedules.proofs.effects.GoingStepLemmas.{going-step}
use Rattle.art_schedules.proofs.effects.OwnEndLemmas.{hanging-step, end-step}

-- a step of process p in a run
module _ (plan : Plan) (words schedule : List ℕ) (p : ℕ) (s t : State) (m : Contents) (call : Call) (stage : Stage) where
  abbrev AtWorkNow : Option Named → Type 0
  AtWorkNow fresh = AtWork (setting plan.shape plan.variant call) s.words (calm_of plan words schedule) fresh stage

  abbrev StepsOn : Option Named → Option ℕ → Type 0
  StepsOn fresh left = WorkerStep plan s p t (calm_of plan words schedule) (calm_of plan words (schedule ++ p ∷ [])) m call stage fresh left

pub workers-go-on : ChildrenAreRead → KeptTreesFollow → EffectsFollow → WaysSayValues → WorkIsDone → WorkersGoOn
workers-go-on read trees effects says done plan start words schedule p s t n m last rest means call stage fresh left is work
    marked = go work marked
  where
    go : (work : AtWorkNow plan words schedule p s t m call stage fresh) → IsMarked left work
        → StepsOn plan words schedule p s t m call stage fresh left
    go (Claiming none g) marks =
        subst (StepsOn plan words schedule p s t m call stage fresh) (sym marks)
        (subst (λ z. StepsOn plan words schedule p s t m call stage z None) (sym none)
        (claiming-step read trees effects plan p s t (calm_of plan words schedule) (calm_of plan words (schedule ++ p ∷ []))
        (around plan start words schedule p s t last) n rest m means call is.process is.is_open stage is.at g))
    go (Going g) marks =
        subst (StepsOn plan words schedule p s t m call stage fresh) (sym marks)
        (going-step read trees effects done plan p s t (calm_of plan words schedule) (calm_of plan words (schedule ++ p ∷ []))
        (around plan start words schedule p s t last) n rest m means call is.process is.is_open stage is.at fresh g)
    go (Hanging g) marks =
        hanging-step read trees effects says plan p s t (calm_of plan words schedule) (calm_of plan words (schedule ++ p ∷ []))
        (around plan start words schedule p s t last) n rest m means call is.process is.is_open stage is.at fresh g left marks

pub workers-step : ChildrenAreRead → KeptTreesFollow → EffectsFollow → WaysSayValues → WorkIsDone → WorkersStep
workers-step read trees effects says done plan start words schedule p s t n m last rest means call stage fresh is work =
    (workers-go-on read trees effects says done plan start words schedule p s t n m last rest means call stage fresh None is work
    (unmarked (setting plan.shape plan.variant call) s.words (calm_of plan words schedule) fresh stage work)).0

pub leavers-step : ChildrenAreRead → KeptTreesFollow → EffectsFollow → WaysSayValues → LeaversStep
leavers-step read trees effects says plan start words schedule p s t n m last rest means call stage reply is end =
    end-step read trees effects says plan p s t (calm_of plan words schedule) (calm_of plan words (schedule ++ p ∷ []))
    (around plan start words schedule p s t last) n rest m means call is.process is.is_open stage is.at reply end
