-- Whether a configuration was visited can be decided.
use Rattle.search.proofs.Common.{◌≡◌, Bool, true, false, List, [], ◌∷◌, subst, inl, inr, ⊎_elim, ◌⊎◌, ◌↔◌, Contains, IsTrue, both_ways, cases_Bool}
use Rattle.search.proofs.Common.{Configuration, Contains-first, Contains-later, Contains-nil, Contains-cases, is_same, Decides-is_same}

pub visited_or_not : (visited : List Configuration) (c : Configuration) → Contains visited c ⊎ (Contains visited c → ⊥)
visited_or_not [] c = inr (λ h. Contains-nil c h)
visited_or_not (d ∷ visited) c = by_cases (visited_or_not visited c)
  where
    found : is_same d c ≡ true → Contains (d ∷ visited) c
    found e = subst (Contains (d ∷ visited)) ((Decides-is_same d c).0 e) (Contains-first d visited)

    none : is_same d c ≡ false → (Contains visited c → ⊥) → Contains (d ∷ visited) c → ⊥
    none e out h = ⊎_elim (λ is. both_ways (is_same d c) e ((Decides-is_same d c).1 is)) out (Contains-cases d visited c h)

    by_cases : Contains visited c ⊎ (Contains visited c → ⊥) → Contains (d ∷ visited) c ⊎ (Contains (d ∷ visited) c → ⊥)
    by_cases (inl within) = inl (Contains-later d visited c within)
    by_cases (inr out) = ⊎_elim (λ e. inl (found e)) (λ e. inr (none e out)) (cases_Bool (is_same d c))

-- a configuration that is not new was visited
pub not_new : (config : Configuration) (visited : List Configuration) (new : Bool) → IsTrue new ↔ (Contains visited config → ⊥) → new ≡ false
    → Contains visited config
not_new config visited new h is = ⊎_elim (λ within. within) (λ out. absurd (both_ways new is (h.1 out))) (visited_or_not visited config)
