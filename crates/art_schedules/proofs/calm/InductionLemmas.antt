-- What holds before the first step and is kept by each step of a run holds after it.
use Rattle.art_schedules.proofs.Common.{◌≡◌, ℕ, ◌+◌, ◌^◌, ◌<◌, List, [], ◌∷◌, ◌++◌, length, refl, ap, sym, subst, ◌∙◌, arith, Option, Some, None}
use Rattle.art_schedules.proofs.Common.{append-nil, same_Some, Contents, Variant, Plan, State, opened_on, step, Gives, run_on, IsRun}
use Rattle.art_schedules.proofs.Common.{IsFull, IsSound, IsSteady, nowhere, run-on-append, run-steps, steps-rise}
use Rattle.art_schedules.proofs.versions.RunLemmas.{start-sound}
use Rattle.art_schedules.proofs.versions.StepLemmas.{one-step}
use Rattle.art_schedules.proofs.Common.{RowChange}
use Rattle.std.proofs.lemmas.List.{append_assoc}
use Rattle.art_schedules.proofs.versions.RunLemmas.{run-sound, later-part}
use Rattle.art_schedules.proofs.calm.ChangeLemmas.{row-change}

-- a part of a run from its beginning is a run
pub run-begins : (plan : Plan) (start : Contents) (words earlier later : List ℕ) (s t : State) → IsRun plan start words (earlier ++ later) t
    → Gives plan (opened_on plan words) earlier s → IsRun plan start words earlier s
run-begins plan start words earlier later s t run e = record {
  within = run.within;
  start_within = run.start_within;
  starts = run.starts;
  gives = e;
  few_steps =
      let rise = steps-rise plan later s t (later-part plan (opened_on plan words) s t earlier later e run.gives) in
      omega (arith, rise, run.few_steps);
}

-- the last step
pub last-step : (plan : Plan) (first s t : State) (schedule : List ℕ) (p : ℕ) → Gives plan first schedule s
    → Gives plan first (schedule ++ p ∷ []) t
    → step plan s p ≡ Some t
last-step plan first s t schedule p e g = go (step plan s p) (later-part plan first s t schedule (p ∷ []) e g)
  where
    go : (o : Option State) → run_on plan o [] ≡ Some t → o ≡ Some t
    go None f = absurd (nowhere plan [] t f)
    go (Some next) f = f

-- the state before it
pub record IsBefore (plan : Plan) (first : State) (schedule : List ℕ) (p : ℕ) (t : State) : Type 0 where
  pub state : State
  pub gives : Gives plan first schedule state
  pub step : step plan state p ≡ Some t

pub before-last : (plan : Plan) (first t : State) (schedule : List ℕ) (p : ℕ) → Gives plan first (schedule ++ p ∷ []) t
    → IsBefore plan first schedule p t
before-last plan first t schedule p g = go (run_on plan (Some first) schedule) refl
  where
    go : (o : Option State) → run_on plan (Some first) schedule ≡ o → IsBefore plan first schedule p t
    go None e = absurd (nowhere plan (p ∷ []) t (ap (λ o. run_on plan o (p ∷ [])) (sym e)
        ∙ (sym (run-on-append plan (Some first) schedule (p ∷ [])) ∙ g)))
    go (Some s) e = record { state = s; gives = e; step = last-step plan first s t schedule p e g }

module _ (plan : Plan) (start : Contents) (words : List ℕ) (Holds : List ℕ → State → Type 0)
    (at-first : Holds [] (opened_on plan words))
    (at-step : (schedule : List ℕ) (p : ℕ) (s t : State) → IsRun plan start words schedule s → IsRun plan start words (schedule ++ p ∷ []) t
    → step plan s p ≡ Some t → Holds schedule s → Holds (schedule ++ p ∷ []) t) where
  on : (later earlier : List ℕ) (s t : State) → IsRun plan start words (earlier ++ later) t
      → Gives plan (opened_on plan words) earlier s → Holds earlier s
      → Holds (earlier ++ later) t
  on [] earlier s t run e here =
      subst (λ l. Holds l t) (sym (append-nil earlier))
      (subst (Holds earlier) (same_Some s t (sym e ∙ subst (λ l. run_on plan (Some (opened_on plan words)) l ≡ Some t)
      (append-nil earlier) run.gives)) here)
  on (p ∷ later) earlier s t run e here = go (step plan s p) refl (on later (earlier ++ p ∷ []))
    where
      again : earlier ++ (p ∷ later) ≡ (earlier ++ p ∷ []) ++ later
      again = sym (append_assoc earlier (p ∷ []) later)

      whole : IsRun plan start words ((earlier ++ p ∷ []) ++ later) t
      whole = subst (λ l. IsRun plan start words l t) again run

      go : (o : Option State) → step plan s p ≡ o
          → ((u v : State) → IsRun plan start words ((earlier ++ p ∷ []) ++ later) v
          → Gives plan (opened_on plan words) (earlier ++ p ∷ []) u
          → Holds (earlier ++ p ∷ []) u → Holds ((earlier ++ p ∷ []) ++ later) v)
          → Holds (earlier ++ (p ∷ later)) t
      go None f rest =
          absurd (nowhere plan later t (ap (λ o. run_on plan o later) (sym f) ∙ later-part plan (opened_on plan words) s t earlier
          (p ∷ later) e run.gives))
      go (Some u) f rest =
          let gives : Gives plan (opened_on plan words) (earlier ++ p ∷ []) u =
          run-on-append plan (Some (opened_on plan words)) earlier (p ∷ [])
          ∙ (ap (λ o. run_on plan o (p ∷ [])) e ∙ ap (λ o. run_on plan o []) f) in
          let first = run-begins plan start words earlier (p ∷ later) s t run e in
          let next = run-begins plan start words (earlier ++ p ∷ []) later u t whole gives in
          subst (λ l. Holds l t) (sym again) (rest u t whole gives (at-step earlier p s u first next f here))

  pub along : (schedule : List ℕ) (s : State) → IsRun plan start words schedule s → Holds schedule s
  along schedule s run = on schedule [] (opened_on plan words) s run refl at-first

-- What is known of a step of a run.
pub record IsStep (variant : Variant) (plan : Plan) (s : State) (p : ℕ) (later : State) : Type 0 where
  pub count : ℕ
  pub few : count < 2 ^ 62
  pub before : IsSound variant plan.shape count s
  pub behind : IsSound variant plan.shape (count + 1) later
  pub steady : IsSteady variant plan.shape s later
  pub rows : RowChange variant plan.shape s p later

pub step-of-run : (variant : Variant) → IsFull variant → (plan : Plan) (start : Contents) (words schedule : List ℕ) (p : ℕ) (s t : State)
    → IsRun plan start words schedule s → plan.variant ≡ variant → step plan s p ≡ Some t → IsStep variant plan s p t
step-of-run variant full plan start words schedule p s t run v e =
    let begun = start-sound variant full plan start words v run.within.shape.root run.starts in
    let steps = run-steps plan schedule (opened_on plan words) s run.gives in
    let few : begun.steps + length schedule < 2 ^ 62 = omega (arith, begun.few, steps, run.few_steps) in
    let here = (run-sound variant full plan v run.within.shape.root schedule begun.steps (opened_on plan words) s few
    begun.sound run.gives).0 in
    let one = one-step variant full plan v run.within.shape.root (begun.steps + length schedule) few s here p t e in
    record {
      count = begun.steps + length schedule;
      few = few;
      before = here;
      behind = one.0;
      steady = one.1;
      rows = row-change variant full plan v run.within.shape.root (begun.steps + length schedule) few s here p t e;
    }
