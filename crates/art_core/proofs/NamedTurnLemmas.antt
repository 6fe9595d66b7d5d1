-- The turns that items name, one after another.
use Rattle.art_core.proofs.Common.{◌≡◌, ℕ, ◌+◌, List, [], ◌∷◌, ◌++◌, refl, sym, ap, subst, ◌∙◌, arith, inl, inr, replicate, same_Some, Item}
use Rattle.art_core.proofs.Common.{Plan, State, step, run_on, Gives, process_of_item, WantsTurn, AreMade, IsMadeWhole}
use Rattle.std.proofs.Common.{Some}
use Rattle.std.proofs.lemmas.Bool.{cases_lt}
use Rattle.std.proofs.lemmas.List.{replicate_more}
use Rattle.art_core.specs.NamedTurns.{AreMadeWhole}
use Rattle.art_core.specs.Laws.{NamedTurnsAreOne}
use Rattle.art_core.proofs.RunLemmas.{run-on-append}

pub made-none : (plan : Plan) (item : Item) (first : State) → AreMade plan item first 0 first
made-none plan item first = record { gives = refl; wanted = λ earlier s below gives. absurd (omega arith) }

module _ (plan : Plan) (item : Item) (first : State) where
  same-state : (n m : ℕ) (s t : State) → n ≡ m → Gives plan first (replicate n (process_of_item item)) s
      → Gives plan first (replicate m (process_of_item item)) t → s ≡ t
  same-state n m s t e g h = same_Some s t (sym g ∙ (ap (λ k. run_on plan (Some first) (replicate k (process_of_item item))) e ∙ h))

  pub made-more : (made : ℕ) (now next : State) → AreMade plan item first made now → WantsTurn plan item first made now
      → step plan now (process_of_item item) ≡ Some next → AreMade plan item first (made + 1) next
  made-more made now next h wants steps = record {
    gives = ap (run_on plan (Some first)) (sym (replicate_more made (process_of_item item)))
        ∙ (run-on-append plan (Some first) (replicate made (process_of_item item)) (process_of_item item ∷ [])
        ∙ (ap (λ o. run_on plan o (process_of_item item ∷ [])) h.gives ∙ ap (λ o. run_on plan o []) steps));
    wanted = λ earlier s below gives. elim (cases_lt earlier made) [
      | inl before ↦ h.wanted earlier s before gives
      | inr last ↦ let e : made ≡ earlier = omega arith in
          subst (λ s. WantsTurn plan item first earlier s) (same-state made earlier now s e h.gives gives)
          (subst (λ n. WantsTurn plan item first n now) e wants)
    ];
  }

-- one item more was made whole
pub whole-more : (plan : Plan) (items : List Item) (item : Item) (first between now : State) (n m : ℕ)
    → AreMadeWhole plan items first n between
    → IsMadeWhole plan item between m now → AreMadeWhole plan (items ++ item ∷ []) first (n + m) now
whole-more plan [] item first between now n m h whole =
    (m, 0, now, subst (λ s. IsMadeWhole plan item s m now) (sym h.1) whole, (refl, refl), let none = h.0 in omega arith)
whole-more plan (i ∷ is) item first between now n m h whole =
    (h.0, h.1 + m, h.2, h.3, whole-more plan is item h.2 between now h.1 m h.4 whole, let sum = h.5 in omega arith)

-- There is one way only.

one-item : (plan : Plan) (item : Item) (first s t : State) (n m : ℕ) → IsMadeWhole plan item first n s → IsMadeWhole plan item first m t
    → (n ≡ m) × (s ≡ t)
one-item plan item first s t n m h k = elim (cases_lt n m) [
  | inl less ↦ absurd (h.over (k.turns.wanted n s less h.turns.gives))
  | inr more ↦ elim (cases_lt m n) [
    | inl less ↦ absurd (k.over (h.turns.wanted m t less k.turns.gives))
    | inr same ↦ let e : n ≡ m = omega arith in (e, same-state plan item first n m s t e h.turns.gives k.turns.gives)
  ]
]

pub one-list : NamedTurnsAreOne
one-list plan [] first s t n m h k = (let p = h.0 in let q = k.0 in omega arith, sym h.1 ∙ k.1)
one-list plan (item ∷ items) first s t n m h k =
    let here = one-item plan item first h.2 k.2 h.0 k.0 h.3 k.3 in
    let later = one-list plan items k.2 s t h.1 k.1 (subst (λ b. AreMadeWhole plan items b h.1 s) here.1 h.4) k.4 in
    (let p = h.5 in let q = k.5 in let u = here.0 in let v = later.0 in omega arith, later.1)
