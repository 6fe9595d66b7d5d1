-- One step of calls that are seated, by places of lists.
use Rattle.explain_histories.proofs.Common.{◌≡◌, ℕ, ◌+◌, ◌<◌, ◌≤◌, max, List, [], ◌∷◌, ◌++◌, length, get_or, take, drop, Option, Some, None, sym, ap}
use Rattle.explain_histories.proofs.Common.{◌∙◌, subst, arith, Contains, IsSomeAnd, slice_get, none-some, same_Some, slice_get-get_or, Event, Invoke}
use Rattle.explain_histories.proofs.Common.{Answer, Reply, Operation, Contains-at, greatest_more, some_at, place_in, reply_at, begun_of, NoneEndsBefore}
use Rattle.explain_histories.proofs.Common.{MayFollow, IsFirstAmong, AreSeatedAs, NoEventsHave, Seat}
use Rattle.events.proofs.Places.{parts_at}
use Rattle.explain_histories.proofs.BeginLemmas.{begun_seated}
use Rattle.explain_histories.proofs.EndLemmas.{ended_seated}
use Rattle.explain_histories.proofs.OtherLemmas.{may_follow, no_process}
use Rattle.explain_histories.proofs.SeatedLemmas.{has_answer}

-- the seat at a place, and its place of an answer
ends_at : (seats : List Seat) (at limit : ℕ) (s : Seat) → at < length seats → s ≡ get_or seats at s
    → IsSomeAnd (slice_get seats at) (λ s. IsSomeAnd s.res (λ res. res < limit))
    → Contains seats s × ((res : ℕ) × (s.res ≡ Some res) × (res < limit))
ends_at seats at limit s within is ends =
    let here : slice_get seats at ≡ Some s = slice_get-get_or seats at s within ∙ ap (λ (s : Seat). Some s) (sym is) in
    let (t, t_at, its) = some_at (slice_get seats at) (λ (s : Seat). IsSomeAnd s.res (λ res. res < limit)) ends in
    let same : t ≡ s = same_Some t s (sym t_at ∙ here) in (
      Contains-at seats at s here,
      some_at s.res (λ res. res < limit) (subst (λ (s : Seat). IsSomeAnd s.res (λ res. res < limit)) same its),
    )

module _ (calls : List Operation) (count limit : ℕ) (free : List ℕ) (seats : List Seat) (events : List Event) (at : ℕ) (s : Seat)
    (within : at < length seats) (is : s ≡ get_or seats at s) (h : AreSeatedAs calls count limit free seats events)
    (ends : IsSomeAnd (slice_get seats at) (λ s. IsSomeAnd s.res (λ res. res < limit))) where
  pub has_reply : reply_at calls s.number ≡ None → ⊥
  has_reply none =
      let (s_is, (res, res_is, early)) = ends_at seats at limit s within is ends in
      let (a, r, a_at, answered, same, given) = has_answer calls count limit free seats events h s s_is res res_is in
      none-some r.reply (sym none ∙ given)

  pub end_step : (reply : Reply) (after_free : List ℕ) (after_seats : List Seat) (after : List Event) → reply_at calls s.number ≡ Some reply
      → after_free ≡ free ++ s.process ∷ [] → after_seats ≡ take at seats ++ drop (at + 1) seats
      → after ≡ events ++ Answer s.process reply ∷ [] → AreSeatedAs calls count limit after_free after_seats after
  end_step reply after_free after_seats after reply_is free_is seats_is events_are =
      let (s_is, (res, res_is, early)) = ends_at seats at limit s within is ends in
      let (a, r, a_at, answered, same, given) = has_answer calls count limit free seats events h s s_is res res_is in
      let one : r.reply ≡ reply = same_Some r.reply reply (sym given ∙ reply_is) in
      let seated = ended_seated calls count limit free (take at seats) s (drop (at + 1) seats) events
      (subst (λ (l : List Seat). AreSeatedAs calls count limit free l events) (parts_at seats at s within is) h) a r a_at answered
      (omega (arith, same, early)) in
      let by_free = subst (λ (f : List ℕ). AreSeatedAs calls count limit f (take at seats ++ drop (at + 1) seats)
      (events ++ Answer s.process r.reply ∷ [])) (sym free_is) seated in
      let by_seats = subst (λ (l : List Seat). AreSeatedAs calls count limit after_free l (events ++ Answer s.process r.reply ∷ []))
      (sym seats_is) by_free in
      subst (λ (l : List Event). AreSeatedAs calls count limit after_free after_seats l)
      (ap (λ (q : Reply). events ++ Answer s.process q ∷ []) one ∙ sym events_are) by_seats

module _ (calls : List Operation) (count place : ℕ) (all : List ℕ) (seats : List Seat) (events : List Event) (within : count < length calls)
    (h : AreSeatedAs calls count place all seats events) (none : NoneEndsBefore place seats) (place_is : place ≡ begun_of calls (count + 1))
    (follows : IsSomeAnd (slice_get calls count) (λ a. MayFollow calls count place a)) where
  pub none_free : all ≡ [] → NoEventsHave calls
  none_free empty others history alike =
      let (a, a_at, its) = some_at (slice_get calls count) (λ (a : Operation). MayFollow calls count place a) follows in
      no_process calls others history alike count place seats events
      (subst (λ (f : List ℕ). AreSeatedAs calls count place f seats events) empty h) a a_at place_is none

  pub begin_step : (p : ℕ) (a : Operation) (res : Option ℕ) (free : List ℕ) (after_seats : List Seat) (after : List Event)
      → a ≡ get_or calls count a → res ≡ place_in a.response → all ≡ free ++ p ∷ []
      → after_seats ≡ seats ++ record { number = count; process = p; res = res } ∷ [] → after ≡ events ++ Invoke p a.call ∷ []
      → AreSeatedAs calls (count + 1) place free after_seats after
  begin_step p a res free after_seats after is res_is free_is seats_are events_are =
      let here : slice_get calls count ≡ Some a = slice_get-get_or calls count a within ∙ ap (λ (a : Operation). Some a) (sym is) in
      let (b, b_at, its) = some_at (slice_get calls count) (λ (a : Operation). MayFollow calls count place a) follows in
      let may = subst (λ (a : Operation). MayFollow calls count place a) (same_Some b a (sym b_at ∙ here)) its in
      let seated = begun_seated calls count place free p seats events
      (subst (λ (f : List ℕ). AreSeatedAs calls count place f seats events) free_is h) a here place_is none may in
      let by_seats = subst (λ (l : List Seat). AreSeatedAs calls (count + 1) place free l (events ++ Invoke p a.call ∷ []))
      (ap (λ (r : Option ℕ). seats ++ record { number = count; process = p; res = r } ∷ []) (sym res_is) ∙ sym seats_are) seated in
      subst (λ (l : List Event). AreSeatedAs calls (count + 1) place free after_seats l) (sym events_are) by_seats

-- the first answer of all is before a higher limit
pub first_ends : (seats : List Seat) (at res limit : ℕ) → IsFirstAmong seats seats (at, res)
    → IsSomeAnd (slice_get seats at) (λ s. IsSomeAnd s.res (λ r. r < limit + (res + 1)))
first_ends seats at res limit h =
    let (s, s_at, is) = some_at (slice_get seats at) (λ (s : Seat). s.res ≡ Some res) h.0 in
    rw s_at (rw is (omega arith))

-- ---- whether the call at a place may follow the calls before it

pub follows_at : (calls : List Operation) (number place : ℕ) (a : Operation) → number < length calls → a ≡ get_or calls number a
    → MayFollow calls number place a → IsSomeAnd (slice_get calls number) (λ a. MayFollow calls number place a)
follows_at calls number place a within is h =
    let here : slice_get calls number ≡ Some a = slice_get-get_or calls number a within ∙ ap (λ (a : Operation). Some a) (sym is) in
    subst (λ (o : Option Operation). IsSomeAnd o (λ a. MayFollow calls number place a)) (sym here) h

pub refused_at : (calls : List Operation) (number place : ℕ) (a : Operation) → number < length calls → a ≡ get_or calls number a
    → place ≡ begun_of calls (number + 1) → (MayFollow calls number place a → ⊥) → NoEventsHave calls
refused_at calls number place a within is place_is refused others history alike =
    let here : slice_get calls number ≡ Some a = slice_get-get_or calls number a within ∙ ap (λ (a : Operation). Some a) (sym is) in
    refused (may_follow calls others history alike number place a here place_is)

-- the last place at which one of the first calls begins, with one more
pub begun_more : (calls : List Operation) (number begun : ℕ) (a : Operation) → number < length calls → begun ≡ begun_of calls number
    → max begun (get_or calls number a).inv ≡ begun_of calls (number + 1)
begun_more calls number begun a within begun_is =
    ap (λ (m : ℕ). max m (get_or calls number a).inv) begun_is ∙ sym (greatest_more (λ (a : Operation). a.inv) calls number a within)

pub begun_rises : (calls : List Operation) (number : ℕ) (a : Operation) → number < length calls → begun_of calls number ≤ begun_of calls (number + 1)
begun_rises calls number a within = let more = greatest_more (λ (a : Operation). a.inv) calls number a within in omega arith
