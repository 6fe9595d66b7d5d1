-- Calm along a run.
use Rattle.art_schedules.proofs.Common.{◌≡◌, ℕ, ◌+◌, List, [], ◌∷◌, ◌++◌, refl, ap, sym, subst, ◌∙◌, same_Some, Option, Some, None, Contents}
use Rattle.art_schedules.proofs.Common.{Gives, IsFull, IsRun, Plan, State, nowhere, opened_on, run_on, step}
use Rattle.art_schedules.proofs.versions.FreshLemmas.{fresh-at}
use Rattle.art_schedules.proofs.versions.RunLemmas.{idle-idle, start-sound}
use Rattle.art_schedules.proofs.Common.{calm_after, calm_of, IsCalm, CalmStep}
use Rattle.art_schedules.specs.calm.Calm.{calm_after_step, calm_on}
use Rattle.art_schedules.specs.calm.Laws.{CalmGoes}
use Rattle.art_schedules.proofs.calm.SmallRunLemmas.{small-words}
use Rattle.art_schedules.proofs.calm.SettledLemmas.{settled-at}
use Rattle.art_schedules.proofs.calm.CalmLemmas.{calm-kept, calm-step, calm-first}
use Rattle.art_schedules.proofs.calm.InductionLemmas.{run-begins, last-step, before-last, along, step-of-run}

on-append : (plan : Plan) (schedule : List ℕ) (p : ℕ) (s t : State) (calm : List ℕ) → run_on plan (Some s) schedule ≡ Some t
    → calm_on plan (Some s) calm (schedule ++ p ∷ []) ≡ calm_after_step plan.shape (calm_on plan (Some s) calm schedule) (step plan t p)
on-append plan [] p s t calm e = go (step plan s p) refl
  where
    go : (o : Option State) → step plan s p ≡ o
        → calm_on plan (step plan s p) (calm_after_step plan.shape calm (step plan s p)) [] ≡ calm_after_step plan.shape calm (step plan t p)
    go None f =
        ap (λ o. calm_on plan o (calm_after_step plan.shape calm o) []) f
        ∙ (ap (calm_after_step plan.shape calm) (sym f) ∙ ap (λ u. calm_after_step plan.shape calm (step plan u p)) (same_Some _ _ e))
    go (Some u) f =
        ap (λ o. calm_on plan o (calm_after_step plan.shape calm o) []) f
        ∙ (ap (calm_after_step plan.shape calm) (sym f) ∙ ap (λ u. calm_after_step plan.shape calm (step plan u p)) (same_Some _ _ e))
on-append plan (q ∷ schedule) p s t calm e = go (step plan s q) refl (λ u. on-append plan schedule p u t)
  where
    go : (o : Option State) → step plan s q ≡ o
        → ((u : State) (calm : List ℕ) → run_on plan (Some u) schedule ≡ Some t
        → calm_on plan (Some u) calm (schedule ++ p ∷ []) ≡ calm_after_step plan.shape (calm_on plan (Some u) calm schedule) (step plan t p))
        → calm_on plan (Some s) calm ((q ∷ schedule) ++ p ∷ []) ≡ calm_after_step plan.shape
        (calm_on plan (Some s) calm (q ∷ schedule)) (step plan t p)
    go None f rest = absurd (nowhere plan schedule t (ap (λ o. run_on plan o schedule) (sym f) ∙ e))
    go (Some u) f rest =
        ap (λ o. calm_on plan o (calm_after_step plan.shape calm o) (schedule ++ p ∷ [])) f
        ∙ (rest u (calm_after plan.shape calm u.words) (ap (λ o. run_on plan o schedule) (sym f) ∙ e)
        ∙ ap (λ o. calm_after_step plan.shape (calm_on plan o (calm_after_step plan.shape calm o) schedule) (step plan t p)) (sym f))

-- after one step more
pub calm-next : (plan : Plan) (words schedule : List ℕ) (p : ℕ) (s t : State) → Gives plan (opened_on plan words) schedule s
    → step plan s p ≡ Some t
    → calm_of plan words (schedule ++ p ∷ []) ≡ calm_after plan.shape (calm_of plan words schedule) t.words
unfolding calm_of
calm-next plan words schedule p s t e f =
    on-append plan schedule p (opened_on plan words) s words e
    ∙ ap (calm_after_step plan.shape (calm_on plan (Some (opened_on plan words)) words schedule)) f

pub calm-goes : (plan : Plan) (words : List ℕ) → CalmGoes plan words
unfolding calm_of
calm-goes plan words = record {
  first = refl;
  next = λ schedule p t g.
      let b = before-last plan (opened_on plan words) t schedule p g in
      calm-next plan words schedule p b.state t b.gives b.step;
}

-- before the first step
begins : (plan : Plan) (start : Contents) (words schedule : List ℕ) (s : State) → IsRun plan start words schedule s
    → IsRun plan start words [] (opened_on plan words)
begins plan start words schedule s run = run-begins plan start words [] schedule (opened_on plan words) s run refl

pub calm-at : (plan : Plan) (start : Contents) (words schedule : List ℕ) (s : State) → IsRun plan start words schedule s
    → IsFull plan.variant
    → IsCalm plan.variant plan.shape words s (calm_of plan words schedule)
calm-at plan start words schedule s run full = along plan start words Holds first next schedule s run
  where
    Holds : List ℕ → State → Type 0
    Holds earlier u = IsCalm plan.variant plan.shape words u (calm_of plan words earlier)

    first : Holds [] (opened_on plan words)
    first =
        let begun = start-sound plan.variant full plan start words refl run.within.shape.root run.starts in
        let none = begins plan start words schedule s run in
        subst (IsCalm plan.variant plan.shape words (opened_on plan words)) (sym (calm-goes plan words).first)
        (calm-first plan.variant plan.shape begun.steps (opened_on plan words) begun.sound (idle-idle plan words)
        (settled-at plan.variant full plan start words [] (opened_on plan words) none refl)
        (fresh-at plan.variant full plan start words [] (opened_on plan words) none refl)
        (small-words plan start words [] (opened_on plan words) none))

    next : (earlier : List ℕ) (p : ℕ) (u v : State) → IsRun plan start words earlier u → IsRun plan start words (earlier ++ p ∷ []) v
        → step plan u p ≡ Some v
        → Holds earlier u → Holds (earlier ++ p ∷ []) v
    next earlier p u v before behind e here =
        let made = step-of-run plan.variant full plan start words earlier p u v before refl e in
        subst (IsCalm plan.variant plan.shape words v) (sym (calm-next plan words earlier p u v before.gives e))
        (calm-kept plan.variant plan.shape made.count (made.count + 1) u v made.before made.behind made.steady p made.rows
        (settled-at plan.variant full plan start words (earlier ++ p ∷ []) v behind refl) words (calm_of plan words earlier) here
        (fresh-at plan.variant full plan start words (earlier ++ p ∷ []) v behind refl)
        (small-words plan start words (earlier ++ p ∷ []) v behind))

pub step-at : (plan : Plan) (start : Contents) (words schedule : List ℕ) (p : ℕ) (s t : State)
    → IsRun plan start words (schedule ++ p ∷ []) t
    → IsFull plan.variant → Gives plan (opened_on plan words) schedule s
    → CalmStep plan.variant plan.shape s p t (calm_of plan words schedule) (calm_of plan words (schedule ++ p ∷ []))
step-at plan start words schedule p s t run full e =
    let before = run-begins plan start words schedule (p ∷ []) s t run e in
    let f = last-step plan (opened_on plan words) s t schedule p e run.gives in
    let made = step-of-run plan.variant full plan start words schedule p s t before refl f in
    subst (CalmStep plan.variant plan.shape s p t (calm_of plan words schedule)) (sym (calm-next plan words schedule p s t e f))
    (calm-step plan.variant plan.shape made.count (made.count + 1) s t made.before made.behind made.steady p made.rows
    (settled-at plan.variant full plan start words (schedule ++ p ∷ []) t run refl) words (calm_of plan words schedule)
    (calm-at plan start words schedule s before full) (settled-at plan.variant full plan start words schedule s before refl))

-- What holds before the first step, and is preserved by each step together with calm, holds after
-- each run.
pub along-calm : (plan : Plan) (start : Contents) (words : List ℕ) → IsFull plan.variant → (Holds : List ℕ → State → List ℕ → Type 0)
    → Holds [] (opened_on plan words) words
    → ((schedule : List ℕ) (p : ℕ) (s t : State) (calm after : List ℕ) → IsRun plan start words schedule s
    → IsRun plan start words (schedule ++ p ∷ []) t
    → step plan s p ≡ Some t → IsCalm plan.variant plan.shape words s calm → IsCalm plan.variant plan.shape words t after
    → CalmStep plan.variant plan.shape s p t calm after → Holds schedule s calm → Holds (schedule ++ p ∷ []) t after)
    → (schedule : List ℕ) (s : State) → IsRun plan start words schedule s → Holds schedule s (calm_of plan words schedule)
along-calm plan start words full Holds first next schedule s run =
    along plan start words (λ earlier u. Holds earlier u (calm_of plan words earlier))
    (subst (Holds [] (opened_on plan words)) (sym (calm-goes plan words).first) first)
    (λ earlier p u v before behind e here. next earlier p u v (calm_of plan words earlier)
    (calm_of plan words (earlier ++ p ∷ [])) before behind e
    (calm-at plan start words earlier u before full) (calm-at plan start words (earlier ++ p ∷ []) v behind full)
    (step-at plan start words earlier p u v behind full before.gives) here)
    schedule s run
