-- Calls that are taken back, the last one first.
use Rattle.follow_fronts.proofs.Common.{◌≡◌, ℕ, List, [], ◌∷◌, ◌++◌, refl, sym, ap, ◌∙◌, subst, ⊎_elim, Contains, append-nil, append_assoc, reverse-append}
use Rattle.follow_fronts.proofs.Common.{Contains-push_cases, Operation, Contents, places, Stands, IsFromOn, Front}
use Rattle.std.specs.Prelude.{reverse}

-- a front from which these calls were taken back, so far
pub record IsBackTo (start : Contents) (calls : List Operation) (path : List ℕ) (place : ℕ) (front : Front) (again : List ℕ) : Type 0 where
  pub stands : Stands calls front
  pub same_start : front.start ≡ start
  pub path_is : path ≡ places front.levels.items ++ reverse again
  pub from_on : (Contains (places front.levels.items) place → ⊥) → IsFromOn place (reverse again)

pub back-none : (calls : List Operation) (place : ℕ) (front : Front) (again : List ℕ) → again ≡ [] → Stands calls front
    → IsBackTo front.start calls (places front.levels.items) place front again
back-none calls place front again none stands =
    subst (IsBackTo front.start calls (places front.levels.items) place front) (sym none) (record {
      stands = stands;
      same_start = refl;
      path_is = sym (append-nil (places front.levels.items));
      from_on = λ out. tt;
    })

pub back-more : (start : Contents) (calls : List Operation) (path : List ℕ) (place : ℕ) (front later : Front) (again more : List ℕ) (n : ℕ)
    → IsBackTo start calls path place front again → Contains (places front.levels.items) place → Stands calls later
    → later.start ≡ front.start
    → places front.levels.items ≡ places later.levels.items ++ n ∷ [] → more ≡ again ++ n ∷ []
    → IsBackTo start calls path place later more
back-more start calls path place front later again more n h has stands start_is popped more_is =
    let turned : reverse more ≡ n ∷ reverse again = ap reverse more_is ∙ reverse-append again (n ∷ []) in
    record {
      stands = stands;
      same_start = start_is ∙ h.same_start;
      path_is = h.path_is ∙ ap (λ xs. xs ++ reverse again) popped ∙ append_assoc (places later.levels.items) (n ∷ []) (reverse again)
          ∙ ap (λ xs. places later.levels.items ++ xs) (sym turned);
      from_on = λ out. subst (IsFromOn place) (sym turned)
          (⊎_elim (λ old. absurd (out old)) (λ same. same)
          (Contains-push_cases (places later.levels.items) n place (subst (λ p. Contains p place) popped has)));
    }
