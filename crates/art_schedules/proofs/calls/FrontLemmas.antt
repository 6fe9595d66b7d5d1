-- Moments of a run, as the ends of runs.
use Rattle.art_schedules.proofs.Common.{◌≡◌, ℕ, zero, suc, List, [], ◌∷◌, take, refl, sym, ap, ◌∙◌, subst, arith, min, opened_on, Gives}
use Rattle.art_schedules.proofs.Common.{MomentsEndRuns, FrontsHaveMoments}
use Rattle.art_schedules.proofs.calls.TraceLemmas.{few-before}

take-nil : (t : ℕ) → ◌≡◌ {A = List ℕ} (take t []) []
take-nil zero = refl
take-nil (suc t) = refl

take-take : (t u : ℕ) (xs : List ℕ) → take t (take u xs) ≡ take (min t u) xs
take-take t zero xs = let none : 0 ≡ min t 0 = omega arith in take-nil t ∙ ap (λ i. take i xs) none
take-take zero (suc u) xs = let none : 0 ≡ min 0 (suc u) = omega arith in ap (λ i. take i xs) none
take-take (suc t) (suc u) [] = sym (take-nil (min (suc t) (suc u)))
take-take (suc t) (suc u) (x ∷ xs) =
    let one_less : min (suc t) (suc u) ≡ suc (min t u) = omega arith in
    ap (λ zs. x ∷ zs) (take-take t u xs) ∙ sym (ap (λ i. take i (x ∷ xs)) one_less)

pub front-moments : FrontsHaveMoments
front-moments plan first schedule t u now =
    let same = take-take t u schedule in
    (λ h. subst (λ xs. Gives plan first xs now) same h, λ h. subst (λ xs. Gives plan first xs now) (sym same) h)

pub runs-until : MomentsEndRuns
runs-until plan start words schedule s t now run at =
    let less = few-before plan (opened_on plan words) schedule s run.gives t now at in
    let few = run.few_steps in
    record {
      within = run.within;
      start_within = run.start_within;
      starts = run.starts;
      gives = at;
      few_steps = omega arith;
    }
