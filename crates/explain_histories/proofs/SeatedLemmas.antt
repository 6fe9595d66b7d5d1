-- What events come to where all calls have begun and no open one is left that ends.
use Rattle.explain_histories.proofs.Common.{◌≡◌, ℕ, ◌<◌, ◌≤◌, true, List, length, get_or, Option, Some, None, refl, sym, ap, ◌∙◌, ⊎_elim, inl, inr}
use Rattle.explain_histories.proofs.Common.{subst, arith, All, Contains, IfSome, nat_lt, nat_le, slice_get, and_from, lt-ltb, le-leb, All-contains}
use Rattle.explain_histories.proofs.Common.{All-weaker, none-some, same_Some, Event, Invoke, Answer, Operation, Response, Reply, has_range, pair_count}
use Rattle.explain_histories.proofs.Common.{is_shaped, is_small, AreHistoryEvents, process_limit, pair_limit, operations, length-operations_from}
use Rattle.explain_histories.proofs.Common.{slice_get-below, AreAlike, reply_in, place_in, reply_at, IsSeat, IsAnsweredAs, IsEventOf, AreSeatedAs}
use Rattle.explain_histories.proofs.Common.{AreEventsWith, Seat}
use Rattle.std.proofs.lemmas.List.Sums.{list_all-from_AllPass}
use Rattle.explain_histories.proofs.OtherLemmas.{all_shaped, all_small, few_calls}
use Rattle.explain_histories.proofs.PartLemmas.{answered_parts}

-- what was answered before a limit was so before a higher one
answered_higher : (limit higher : ℕ) (o q : Option Response) → limit ≤ higher → IsAnsweredAs limit o q → IsAnsweredAs higher o q
answered_higher limit higher (Some r) (Some s) up h = (h.0, omega (arith, h.1))
answered_higher limit higher None None up h = absurd h
answered_higher limit higher None (Some s) up h = absurd h
answered_higher limit higher (Some r) None up h = absurd h

pub seated_higher : (calls : List Operation) (count limit higher : ℕ) (free : List ℕ) (seats : List Seat) (events : List Event) → limit ≤ higher
    → AreSeatedAs calls count limit free seats events → AreSeatedAs calls count higher free seats events
seated_higher calls count limit higher free seats events up h = record {
  within = h.within;
  size = h.size;
  call = h.call;
  status = λ n a c a_at c_at. ⊎_elim (λ pending. inl pending) (λ answered. inr (answered_higher limit higher a.response c.response up answered))
      (h.status n a c a_at c_at);
  precedence = h.precedence;
  seats = h.seats;
  rising = h.rising;
  apart = h.apart;
  free_known = h.free_known;
  free_idle = h.free_idle;
  free_apart = h.free_apart;
  all_processes = h.all_processes;
  well_formed = h.well_formed;
  own = h.own;
}

-- an open call that ends has an answer
pub has_answer : (calls : List Operation) (count limit : ℕ) (free : List ℕ) (seats : List Seat) (events : List Event)
    → AreSeatedAs calls count limit free seats events → (s : Seat) → Contains seats s → (res : ℕ) → s.res ≡ Some res
    → (a : Operation) × (r : Response) × (slice_get calls s.number ≡ Some a) × (a.response ≡ Some r) × (r.res ≡ res)
    × (reply_at calls s.number ≡ Some r.reply)
has_answer calls count limit free seats events h s s_is res is =
    let (a, a_at) = slice_get-below calls s.number (omega (arith, k.within, h.within)) in of a a_at a.response refl
  where
    k : IsSeat calls count events s
    k = All-contains (IsSeat calls count events) seats s h.seats s_is

    of : (a : Operation) → slice_get calls s.number ≡ Some a → (o : Option Response) → a.response ≡ o
        → (a : Operation) × (r : Response) × (slice_get calls s.number ≡ Some a) × (a.response ≡ Some r) × (r.res ≡ res)
        × (reply_at calls s.number ≡ Some r.reply)
    of a a_at None pending =
        absurd (none-some res (sym (ap place_in pending) ∙ (k.res a a_at ∙ is)))
    of a a_at (Some r) answered = (
      a,
      r,
      a_at,
      answered,
      same_Some r.res res (sym (ap place_in answered) ∙ (k.res a a_at ∙ is)),
      rw a_at (ap reply_in answered),
    )

-- if all calls have begun and none that is open ends, they are those of the events
pub seated_alike : (calls : List Operation) (limit : ℕ) (free : List ℕ) (seats : List Seat) (events : List Event)
    → AreSeatedAs calls (length calls) limit free seats events → All (λ s. s.res ≡ None) seats → AreAlike calls (operations events)
seated_alike calls limit free seats events h pending = record {
  size = sym h.size;
  same = λ n a c a_at c_at. (h.call n a c a_at c_at, same_reply n a c a_at c_at);
  precedence = h.precedence;
}
  where
    open_reply : (o q : Option Response) → place_in o ≡ None → q ≡ None → reply_in o ≡ reply_in q
    open_reply None q none is = sym (ap reply_in is)
    open_reply (Some r) q none is = absurd (none-some r.res (sym none))

    same_reply : (n : ℕ) (a c : Operation) → slice_get calls n ≡ Some a → slice_get (operations events) n ≡ Some c
        → reply_in a.response ≡ reply_in c.response
    same_reply n a c a_at c_at = ⊎_elim
        (λ (s, s_is, number, is_open).
        let k = All-contains (IsSeat calls (length calls) events) seats s h.seats s_is in
        open_reply a.response c.response
        (k.res a (ap (slice_get calls) number ∙ a_at) ∙ All-contains (λ (s : Seat). s.res ≡ None) seats s pending s_is) is_open)
        (λ answered.
        let (r, s, a_is, c_is, same, early) = answered_parts limit a.response c.response answered in
        ap reply_in a_is ∙ (ap (λ (reply : Reply). Some reply) same ∙ sym (ap reply_in c_is)))
        (h.status n a c a_at c_at)

-- these are events of a history if any events are that make such calls
pub seated_history : (calls : List Operation) (limit : ℕ) (free : List ℕ) (seats : List Seat) (events others : List Event)
    → AreSeatedAs calls (length calls) limit free seats events → AreHistoryEvents others → AreAlike calls (operations others)
    → AreHistoryEvents events
seated_history calls limit free seats events others h history alike = record {
  shaped = list_all-from_AllPass is_shaped events (All-weaker (IsEventOf calls) (λ (e : Event). is_shaped e ≡ true) shaped events h.own);
  small = list_all-from_AllPass is_small events (All-weaker (IsEventOf calls) (λ (e : Event). is_small e ≡ true) small events h.own);
  calls = let few = few_calls calls others history alike in omega (arith, few, length-operations_from 0 events, h.size);
  well_formed = h.well_formed;
}
  where
    member : (n : ℕ) (a : Operation) → n < length calls → get_or calls n a ≡ a → Contains calls a
    member n a within is = (n, within, is)

    shaped : (e : Event) → IsEventOf calls e → is_shaped e ≡ true
    shaped (Invoke p call) (known, (n, a, within, is, same)) =
        ap has_range (sym same) ∙ all_shaped calls others history alike a (member n a within is)
    shaped (Answer p reply) own = refl

    small : (e : Event) → IsEventOf calls e → is_small e ≡ true
    small (Invoke p call) own = lt-ltb p process_limit own.0
    small (Answer p reply) (known, (n, a, within, is, same)) =
        and_from (nat_lt p process_limit) (nat_le (pair_count reply) pair_limit) (lt-ltb p process_limit known)
        (le-leb (pair_count reply) pair_limit (few a.response same (all_small calls others history alike a (member n a within is))))
      where
        few : (o : Option Response) → reply_in o ≡ Some reply → IfSome o (λ response. pair_count response.reply ≤ pair_limit)
            → pair_count reply ≤ pair_limit
        few None none h = absurd (none-some reply none)
        few (Some r) is h = subst (λ (reply : Reply). pair_count reply ≤ pair_limit) (same_Some r.reply reply is) h

pub seated_events : (calls : List Operation) (limit : ℕ) (free : List ℕ) (seats : List Seat) (events : List Event)
    → AreSeatedAs calls (length calls) limit free seats events → All (λ s. s.res ≡ None) seats → AreEventsWith calls events
seated_events calls limit free seats events h pending = record {
  alike = seated_alike calls limit free seats events h pending;
  history = λ others history alike. seated_history calls limit free seats events others h history alike;
}
