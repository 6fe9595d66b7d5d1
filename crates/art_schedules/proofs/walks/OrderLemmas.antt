-- Lists in order, and their members.
use Rattle.art_schedules.proofs.Common.{◌≡◌, List, [], ◌∷◌, refl, sym, ap, ◌∙◌, subst, ⊎_elim, All, AllPairs, Contains, All-contains, AllPairs-head}
use Rattle.art_schedules.proofs.Common.{AllPairs-tail, Contains-first, Contains-later, Contains-nil, Contains-cases}

-- A list in an order by which no two elements come before each other is determined by its members.
module _ {X : Type 0} (R : X → X → Type 0) (asymmetric : (x y : X) → R x y → R y x → ⊥) where
  -- the first of two such lists is the same
  same_first : (x : X) (xs : List X) (y : X) (ys : List X) → All (R x) xs → All (R y) ys → Contains (y ∷ ys) x → Contains (x ∷ xs) y → x ≡ y
  same_first x xs y ys low_x low_y in_ys in_xs =
      ⊎_elim (λ is. sym is)
      (λ later. ⊎_elim (λ is. is) (λ back. absurd (asymmetric y x (All-contains (R y) ys x low_y later)
      (All-contains (R x) xs y low_x back)))
      (Contains-cases x xs y in_xs)) (Contains-cases y ys x in_ys)

  -- the members of such a list after its first are those of another with the same first
  members_after : (x : X) (xs ys : List X) → All (R x) xs → ((z : X) → Contains (x ∷ xs) z → Contains (x ∷ ys) z) → (z : X)
      → Contains xs z → Contains ys z
  members_after x xs ys low same z h =
      ⊎_elim (λ is. (let own = subst (R x) (sym is) (All-contains (R x) xs z low h) in absurd (asymmetric x x own own))) (λ later. later)
      (Contains-cases x ys z (same z (Contains-later x xs z h)))

  pub same_members-same : (xs ys : List X) → AllPairs R xs → AllPairs R ys → ((z : X) → Contains xs z → Contains ys z)
      → ((z : X) → Contains ys z → Contains xs z)
      → xs ≡ ys
  same_members-same [] [] up_x up_y to from = refl
  same_members-same [] (y ∷ ys) up_x up_y to from = absurd (Contains-nil y (from y (Contains-first y ys)))
  same_members-same (x ∷ xs) [] up_x up_y to from = absurd (Contains-nil x (to x (Contains-first x xs)))
  same_members-same (x ∷ xs) (y ∷ ys) up_x up_y to from =
      let low_x = AllPairs-head R x xs up_x in
      let low_y = AllPairs-head R y ys up_y in
      let one = same_first x xs y ys low_x low_y (to x (Contains-first x xs)) (from y (Contains-first y ys)) in
      let low = subst (λ k. All (R k) ys) (sym one) low_y in
      let rest = same_members-same xs ys (AllPairs-tail R x xs up_x) (AllPairs-tail R y ys up_y)
      (members_after x xs ys low_x (λ z h. subst (λ k. Contains (k ∷ ys) z) (sym one) (to z h)))
      (members_after x ys xs low (λ z h. from z (subst (λ k. Contains (k ∷ ys) z) one h))) in
      ap (λ k. k ∷ xs) one ∙ ap (λ zs. y ∷ zs) rest
