-- Calls that are left after an answer.
use Rattle.follow_pasts.proofs.Common.{◌≡◌, ℕ, ◌+◌, ◌<◌, List, [], ◌∷◌, ◌++◌, take, drop, Some, inl, inr, refl, sym, ap, ◌∙◌, subst, ⊎_elim, arith}
use Rattle.follow_pasts.proofs.Common.{slice_get, All, AllPairs, Any, Contains, remove, All-nil, All-cons, All-head, All-tail, All-weaker, All-append}
use Rattle.follow_pasts.proofs.Common.{Contains-append_left, Contains-append_right, Contains-append_cases, AllPairs-cons, slice_get_within, Any-first}
use Rattle.follow_pasts.proofs.Common.{Any-later, AllPairs-append, AllPairs-front, AllPairs-back, AllPairs-head, AllPairs-tail, AllPairs-across}
use Rattle.follow_pasts.proofs.Common.{Contains-at, Contains-cases, Contains-later, Operation, Response, Contents, IsAnswer, Mended, Order, NoOrder}
use Rattle.follow_pasts.proofs.Common.{Spent, KeptPast, AreLeftAfter, IsLeftKept}
use Rattle.follow_pasts.proofs.AnswerLemmas.{parts_here, remove_parts, rising_without, set_parts}
use Rattle.follow_orders.specs.Views as views

abbrev Rises : Operation → Operation → Type 0
Rises x y = x.inv < y.inv

-- all are left as they were
pub left_same : (operation : Operation) (calls : List Operation) → AllPairs (λ a b. a.inv < b.inv) calls → AreLeftAfter operation calls calls
left_same operation calls rising = record { rising = rising; each = λ o has. inl has }

front_has : (calls : List Operation) (place : ℕ) (a : Operation) → slice_get calls place ≡ Some a → (o : Operation)
    → Contains (take place calls) o → Contains calls o
front_has calls place a at o has = subst (λ (l : List Operation). Contains l o) (sym (parts_here calls place a at))
    (Contains-append_left (take place calls) (a ∷ drop (place + 1) calls) o has)

back_has : (calls : List Operation) (place : ℕ) (a : Operation) → slice_get calls place ≡ Some a → (o : Operation)
    → Contains (drop (place + 1) calls) o → Contains calls o
back_has calls place a at o has = subst (λ (l : List Operation). Contains l o) (sym (parts_here calls place a at))
    (Contains-append_right (take place calls) (a ∷ drop (place + 1) calls) o (Contains-later a (drop (place + 1) calls) o has))

-- one is left no more
pub left_removed : (operation : Operation) (calls : List Operation) (place : ℕ) (a : Operation) → slice_get calls place ≡ Some a
    → AllPairs (λ x y. x.inv < y.inv) calls → AreLeftAfter operation calls (remove calls place)
left_removed operation calls place a at rising = record {
  rising = rising_without calls place (slice_get_within calls place a at) rising;
  each = λ o has. inl (⊎_elim (front_has calls place a at o) (back_has calls place a at o)
      (Contains-append_cases (take place calls) (drop (place + 1) calls) o
      (subst (λ (l : List Operation). Contains l o) (remove_parts calls place) has)));
}

-- one has the answer
pub left_set : (operation : Operation) (calls more : List Operation) (place : ℕ) (a : Operation) → slice_get calls place ≡ Some a
    → a.inv ≡ operation.inv → AllPairs (λ x y. x.inv < y.inv) calls → more ≡ take place calls ++ operation ∷ drop (place + 1) calls
    → AreLeftAfter operation calls more
left_set operation calls more place a at same rising is = record {
  rising = subst (AllPairs Rises) (sym is)
      (AllPairs-append Rises front (operation ∷ back) (AllPairs-front Rises front (a ∷ back) all)
      (AllPairs-cons Rises operation back
      (All-weaker (Rises a) (Rises operation) (λ y h. omega (arith, h, same)) back (AllPairs-head Rises a back (AllPairs-back Rises front (a ∷ back) all)))
      (AllPairs-tail Rises a back (AllPairs-back Rises front (a ∷ back) all)))
      (All-weaker (λ (x : Operation). All (Rises x) (a ∷ back)) (λ (x : Operation). All (Rises x) (operation ∷ back))
      (λ x h. let here = All-head (Rises x) a back h in
      All-cons (Rises x) operation back (omega (arith, here, same)) (All-tail (Rises x) a back h)) front
      (AllPairs-across Rises front (a ∷ back) all)));
  each = λ o has. ⊎_elim (λ early. inl (front_has calls place a at o early))
      (λ late. ⊎_elim (λ own. inr (ap (λ (x : Operation). x.response) (sym own), (a, Contains-at calls place a at, same ∙ ap (λ (x : Operation). x.inv) own))) (λ later. inl (back_has calls place a at o later))
      (Contains-cases operation back o late))
      (Contains-append_cases front (operation ∷ back) o (subst (λ (l : List Operation). Contains l o) is has));
}
  where
    front : List Operation
    front = take place calls

    back : List Operation
    back = drop (place + 1) calls

    all : AllPairs Rises (front ++ a ∷ back)
    all = subst (AllPairs Rises) (parts_here calls place a at) rising

-- what is left after an answer depends only on the answer
pub left_as : (operation other : Operation) (calls more : List Operation) → other.response ≡ operation.response
    → AreLeftAfter other calls more → AreLeftAfter operation calls more
left_as operation other calls more same h = record {
  rising = h.rising;
  each = λ o has. ⊎_elim (λ old. inl old) (λ own. inr (own.0 ∙ same, own.1)) (h.each o has);
}

-- the call at a place has the answer
pub left_answered : (operation : Operation) (calls : List Operation) (place : ℕ) (a : Operation) (r : Response) → slice_get calls place ≡ Some a
    → operation.response ≡ Some r → AllPairs (λ x y. x.inv < y.inv) calls → AreLeftAfter operation calls (views.answered calls place r)
left_answered operation calls place a r at same rising =
    left_as operation (views.answered_call a r) calls (views.answered calls place r) (sym same)
    (left_set (views.answered_call a r) calls (views.answered calls place r) place a at refl rising
    (ap (views.set_answer calls place r) at ∙ set_parts calls place (views.answered_call a r) (slice_get_within calls place a at)))

-- whatever is known of the calls that are left
pub left_kept : (operation : Operation) (calls more : List Operation) (start : Contents) (budget : ℕ) (kept : Mended)
    → AreLeftAfter operation calls more → IsAnswer start more budget kept → IsLeftKept operation calls kept
left_kept operation calls more start budget (Order next) left answer = subst (AreLeftAfter operation calls) (sym answer.same_calls) left
left_kept operation calls more start budget (NoOrder start_back calls_back) left answer = tt
left_kept operation calls more start budget (Spent start_back calls_back) left answer = tt

-- what is known of one past holds of a list of it
pub left_of_one : (operation : Operation) (calls : List Operation) (next : KeptPast) → AreLeftAfter operation calls next.left
    → All (λ p. AreLeftAfter operation calls p.left) (next ∷ [])
left_of_one operation calls next h =
    All-cons (λ (p : KeptPast). AreLeftAfter operation calls p.left) next [] h (All-nil (λ (p : KeptPast). AreLeftAfter operation calls p.left))

-- what is left after each past of a list is left after one of another list
abbrev pub AreLeftOf : Operation → List KeptPast → List KeptPast → Type 0
AreLeftOf operation pasts nexts = All (λ next. Any (λ past. AreLeftAfter operation past.left next.left) pasts) nexts

Any-front : {X : Type 0} (P : X → Type 0) (xs ys : List X) → Any P xs → Any P (xs ++ ys)
Any-front P xs ys h =
    let there = Contains-append_left xs ys h.1 (h.0, h.2, h.3) in
    (there.0, h.1, there.1, there.2, h.4)

Any-back : {X : Type 0} (P : X → Type 0) (xs ys : List X) → Any P ys → Any P (xs ++ ys)
Any-back P [] ys h = h
Any-back P (x ∷ xs) ys h = Any-later P x (xs ++ ys) (Any-back P xs ys h)

pub left_more : (operation : Operation) (fronts nexts more : List KeptPast) (past : KeptPast) → AreLeftOf operation fronts nexts
    → All (λ p. AreLeftAfter operation past.left p.left) more → AreLeftOf operation (fronts ++ past ∷ []) (nexts ++ more)
left_more operation fronts nexts more past done one =
    All-append (Of (fronts ++ past ∷ [])) nexts more
    (All-weaker (Of fronts) (Of (fronts ++ past ∷ []))
    (λ next h. Any-front (λ (p : KeptPast). AreLeftAfter operation p.left next.left) fronts (past ∷ []) h) nexts done)
    (All-weaker (λ (p : KeptPast). AreLeftAfter operation past.left p.left) (Of (fronts ++ past ∷ []))
    (λ next h. Any-back (λ (p : KeptPast). AreLeftAfter operation p.left next.left) fronts (past ∷ [])
    (Any-first (λ (p : KeptPast). AreLeftAfter operation p.left next.left) past [] h)) more one)
  where
    Of : List KeptPast → KeptPast → Type 0
    Of pasts next = Any (λ past. AreLeftAfter operation past.left next.left) pasts
