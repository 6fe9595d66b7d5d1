-- Calls that have an order have points: the places in it.
use Rattle.art_schedules.proofs.Common.{◌≡◌, ℕ, zero, suc, ◌+◌, ◌<◌, Bool, true, false, List, [], ◌∷◌, ◌++◌, length, take, drop, refl, sym, ap}
use Rattle.art_schedules.proofs.Common.{◌∙◌, subst, inr, ⊎_elim, arith, ◌==◌, if◌then◌else◌, slice_get, IsSome, AllPairs, Contains, false≢true}
use Rattle.art_schedules.proofs.Common.{false_from_ne_true, cases_order, take-append-drop, All-contains, none-some, same_Some, slice_get_within}
use Rattle.art_schedules.proofs.Common.{Operation, precedes, Contents, after_calls, IsLegal, calls_at, IsOrder, place_of-Contains}
use Rattle.art_schedules.proofs.Common.{slice_get-below, after_calls-append, calls_at-append, calls_at-push, DoesCall, HasPoint, OneLeads}
use Rattle.art_schedules.proofs.Common.{HasPoints}
use Rattle.std.proofs.Common.{Option, Some, None}
use Rattle.std.specs.Prelude.{◌≢◌}
use Rattle.std.proofs.lemmas.Bool.{eq-eqb, eqb-true}
use Rattle.std.proofs.lemmas.List.{take_more}
use Rattle.std.proofs.lemmas.Option.{get_or_from_slice_get}
use Rattle.events.specs.Precedence.{NonePrecedesItself}
use Rattle.events.proofs.Lists.{AllPairs-head, AllPairs-tail, Contains-at}
use Rattle.events.proofs.FilterLemmas.{AllPairs-at}
use Rattle.orders.proofs.CallsAtLemmas.{slice_get-calls_at}
use Rattle.orders.proofs.OrderLemmas.{IsLegal-front, IsLegal-back}
use Rattle.orders.proofs.LegalLemmas.{DoesCall-from_legal}
use Rattle.art_schedules.specs.points.Points.{PointsKeepPrecedence}
use Rattle.art_schedules.specs.points.Laws.{OrdersGivePoints}

-- one place later
abbrev one_later : Option ℕ → Option ℕ
one_later None = None
one_later (Some p) = Some (suc p)

-- the first place of a number
abbrev place_in : List ℕ → ℕ → Option ℕ
place_in [] n = None
place_in (m ∷ numbers) n = if m == n then Some 0 else one_later (place_in numbers n)

one_later-some : (o : Option ℕ) (p : ℕ) → one_later o ≡ Some (suc p) → o ≡ Some p
one_later-some None p h = absurd (none-some (suc p) h)
one_later-some (Some q) p h = let e : suc q ≡ suc p = same_Some (suc q) (suc p) h in let f : q ≡ p = omega arith in ap Some f

one_later-zero : (o : Option ℕ) → one_later o ≡ Some 0 → ⊥
one_later-zero None h = none-some 0 h
one_later-zero (Some q) h = let e : suc q ≡ 0 = same_Some (suc q) 0 h in omega arith

-- the number is at its place
at_place : (numbers : List ℕ) (n p : ℕ) → place_in numbers n ≡ Some p → slice_get numbers p ≡ Some n
at_place [] n p h = absurd (none-some p h)
at_place (m ∷ numbers) n p h = by_test (m == n) refl (λ q. at_place numbers n q) p h
  where
    by_test : (b : Bool) → (m == n) ≡ b → ((q : ℕ) → place_in numbers n ≡ Some q → slice_get numbers q ≡ Some n) → (p : ℕ)
        → (if b then Some 0 else one_later (place_in numbers n)) ≡ Some p → slice_get (m ∷ numbers) p ≡ Some n
    by_test true e later zero h = ap Some (eqb-true m n e)
    by_test true e later (suc p) h = let f : 0 ≡ suc p = same_Some 0 (suc p) h in absurd (omega arith)
    by_test false e later zero h = absurd (one_later-zero (place_in numbers n) h)
    by_test false e later (suc p) h = later p (one_later-some (place_in numbers n) p h)

-- numbers that differ each have the place where they are
place_at : (numbers : List ℕ) (n p : ℕ) → AllPairs (λ m n. m ≢ n) numbers → slice_get numbers p ≡ Some n → place_in numbers n ≡ Some p
place_at [] n p distinct h = absurd (none-some n h)
place_at (m ∷ numbers) n zero distinct h = rw (eq-eqb m n (same_Some m n h)) refl
place_at (m ∷ numbers) n (suc p) distinct h =
    let differ = All-contains (λ k. m ≢ k) numbers n (AllPairs-head (λ m n. m ≢ n) m numbers distinct) (Contains-at numbers p n h) in
    rw (
      false_from_ne_true (m == n) (λ same. differ (eqb-true m n same)),
      place_at numbers n p
          (AllPairs-tail (λ m n. m ≢ n) m numbers distinct) h,
    ) refl

module _ (start : Contents) (calls : List Operation) (alone : NonePrecedesItself calls) (order : List ℕ)
    (is : IsOrder start calls order) where
  -- the pairs before a place
  abbrev pairs_before : ℕ → Contents
  pairs_before p = after_calls start (calls_at calls (take p order))

  -- the call at a place of the order
  call_at : (n p : ℕ) (a : Operation) → HasPoint calls (place_in order) n a p → slice_get (calls_at calls order) p ≡ Some a
  call_at n p a has = slice_get-calls_at calls order p n is.legal_order.known (at_place order n p has.point) ∙ has.call

  place_complete : (n : ℕ) → Contains order n → IsSome (place_in order n)
  place_complete n among =
      let (p, here) = place_of-Contains order n among in
      rw (place_at order n p is.legal_order.distinct here) refl

  place_precedence : PointsKeepPrecedence calls (place_in order)
  place_precedence m n p q a b here there before = ⊎_elim
      (λ same. let e = same_Some a b (sym (call_at m p a here) ∙ (ap (slice_get (calls_at calls order)) same ∙ call_at n q b there)) in
      absurd (false≢true (sym (All-contains (λ a. precedes a a ≡ false) calls a alone (Contains-at calls m a here.call))
      ∙ subst (λ (x : Operation). precedes a x ≡ true) (sym e) before)))
      (λ differ. ⊎_elim (λ less. less)
      (λ more. absurd (false≢true (sym (AllPairs-at (λ a b. precedes b a ≡ false) (calls_at calls order) q p b a
      is.legal_order.precedence more
      (call_at n q b there) (call_at m p a here)) ∙ before))) differ)
      (cases_order p q)

  place_effect : (p : ℕ) → p < length order → OneLeads calls (place_in order) p (pairs_before p) (pairs_before (p + 1))
  place_effect p within =
      let (n, here) = slice_get-below order p within in
      let (a, call) = slice_get-below calls n (All-contains (λ n. n < length calls) order n is.legal_order.known
      (Contains-at order p n here)) in
      let step : take (p + 1) order ≡ take p order ++ n ∷ [] =
      take_more order p n within ∙ ap (λ k. take p order ++ k ∷ []) (get_or_from_slice_get order p n n here) in
      let upto : calls_at calls (take (p + 1) order) ≡ calls_at calls (take p order) ++ a ∷ [] =
      ap (calls_at calls) step ∙ calls_at-push calls (take p order) n a call in
      let parts : calls_at calls order ≡ (calls_at calls (take p order) ++ a ∷ []) ++ calls_at calls (drop (p + 1) order) =
      ap (calls_at calls) (sym (take-append-drop (p + 1) order)) ∙ (calls_at-append calls (take (p + 1) order) (drop (p + 1) order)
      ∙ ap (λ xs. xs ++ calls_at calls (drop (p + 1) order)) upto) in
      let front = IsLegal-front start (calls_at calls (take p order) ++ a ∷ []) (calls_at calls (drop (p + 1) order))
      (subst (IsLegal start) parts is.legal_order.legal) in
      let last = IsLegal-back start (calls_at calls (take p order)) (a ∷ []) front in
      record {
        number = n;
        call = a;
        has = record { call = call; point = place_at order n p is.legal_order.distinct here };
        leads =
            subst (DoesCall (pairs_before p) a.call a.response)
            (sym (ap (after_calls start) upto ∙ after_calls-append start (calls_at calls (take p order)) (a ∷ [])))
            (DoesCall-from_legal (pairs_before p) a.call a.response last.0);
        others = λ m b has differ. absurd (differ (same_Some m n (sym (at_place order m p has.point) ∙ here)));
      }

  points_of_order : HasPoints start calls
  points_of_order = record {
    points = place_in order;
    bound = length order;
    pairs = pairs_before;
    begins = refl;
    complete = λ n done. place_complete n (is.complete n done);
    below = λ n p a has. slice_get_within order p n (at_place order n p has.point);
    precedence = place_precedence;
    effects = λ p within. inr (place_effect p within);
  }

pub points_by_place : OrdersGivePoints
points_by_place start calls alone (order, is) = points_of_order start calls alone order is
