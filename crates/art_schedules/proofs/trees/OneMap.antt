-- Maps of the same pairs are one.
use Rattle.art_schedules.proofs.Common.{◌≡◌, ℕ, ◌<◌, [], ◌∷◌, refl, sym, ap, ◌∙◌, subst, ⊎_elim, arith, All-contains, AllPairs-head, AllPairs-tail}
use Rattle.art_schedules.proofs.Common.{Contains-first, Contains-later, Contains-nil, Contains-cases, Contents, IsRising, MapsAreOne}
use Rattle.std.proofs.Common.{All, Contains}

-- a pair has a lower key
abbrev Less : ℕ × ℕ → ℕ × ℕ → Type 0
Less a b = a.0 < b.0

same_first : (x : ℕ × ℕ) (xs : Contents) (y : ℕ × ℕ) (ys : Contents) → All (Less x) xs → All (Less y) ys → Contains (y ∷ ys) x
    → Contains (x ∷ xs) y → x ≡ y
same_first x xs y ys low_x low_y in_ys in_xs =
    ⊎_elim (λ is. sym is) (λ later. ⊎_elim (λ is. is) (λ back. clash later back) (Contains-cases x xs y in_xs))
    (Contains-cases y ys x in_ys)
  where
    clash : Contains ys x → Contains xs y → x ≡ y
    clash later back = absurd (omega (arith, All-contains (Less y) ys x low_y later, All-contains (Less x) xs y low_x back))

members_after : (x : ℕ × ℕ) (xs ys : Contents) → All (Less x) xs → ((p : ℕ × ℕ) → Contains (x ∷ xs) p → Contains (x ∷ ys) p) → (p : ℕ × ℕ)
    → Contains xs p → Contains ys p
members_after x xs ys low same p h = ⊎_elim
    (λ is. absurd (omega (arith, subst (λ q. x.0 < q.0) (sym is) (All-contains (Less x) xs p low h))))
    (λ later. later) (Contains-cases x ys p (same p (Contains-later x xs p h)))

same_map : (xs ys : Contents) → IsRising xs → IsRising ys → ((p : ℕ × ℕ) → Contains xs p → Contains ys p)
    → ((p : ℕ × ℕ) → Contains ys p → Contains xs p)
    → xs ≡ ys
same_map [] [] up_x up_y to from = refl
same_map [] (y ∷ ys) up_x up_y to from = absurd (Contains-nil y (from y (Contains-first y ys)))
same_map (x ∷ xs) [] up_x up_y to from = absurd (Contains-nil x (to x (Contains-first x xs)))
same_map (x ∷ xs) (y ∷ ys) up_x up_y to from =
    let low_x = AllPairs-head Less x xs up_x in
    let low_y = AllPairs-head Less y ys up_y in
    let one = same_first x xs y ys low_x low_y (to x (Contains-first x xs)) (from y (Contains-first y ys)) in
    let low = subst (λ p. All (Less p) ys) (sym one) low_y in
    let rest = same_map xs ys (AllPairs-tail Less x xs up_x) (AllPairs-tail Less y ys up_y)
    (members_after x xs ys low_x (λ p h. subst (λ q. Contains (q ∷ ys) p) (sym one) (to p h)))
    (members_after x ys xs low (λ p h. from p (subst (λ q. Contains (q ∷ ys) p) one h))) in
    ap (λ p. p ∷ xs) one ∙ ap (λ zs. y ∷ zs) rest

pub maps-are-one : MapsAreOne
maps-are-one s words m n here there =
    same_map m n here.rising there.rising
    (λ p is. (there.all p.0 p.1).1 ((here.all p.0 p.1).0 is)) (λ p is. (here.all p.0 p.1).1 ((there.all p.0 p.1).0 is))
