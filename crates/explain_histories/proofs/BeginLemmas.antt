-- One call more begins, by a process that is free.
use Rattle.explain_histories.proofs.Common.{◌≡◌, ◌≢◌, ℕ, ◌+◌, ◌<◌, ◌≤◌, false, List, [], ◌∷◌, ◌++◌, length, take, Option, Some, None, refl, sym, ap}
use Rattle.explain_histories.proofs.Common.{◌∙◌, ⊎_elim, inl, inr, subst, arith, ◌⊎◌, All, Contains, IfSome, IsSomeAnd, is_some, slice_get, lt-ltb}
use Rattle.explain_histories.proofs.Common.{false≢true, length_push, All-contains, All-push, All-head, Contains-append_left, Contains-append_right}
use Rattle.explain_histories.proofs.Common.{all_pairs_push, same_Some, slice_get_within, get_or_from_slice_get, Event, Invoke, Operation, Response}
use Rattle.explain_histories.proofs.Common.{has_open_call, process_limit, operations, is_before, precedes, IsWellFormed-push, All-front, All-back}
use Rattle.explain_histories.proofs.Common.{All-from_contains, AllPairs-front, AllPairs-across, Contains-first, Contains-take, place-push}
use Rattle.explain_histories.proofs.Common.{slice_get-append_left, slice_get-middle, begun_at, completed_at, operations-invoke, place_in, begun_of}
use Rattle.explain_histories.proofs.Common.{NoneEndsBefore, EndsOutside, MayFollow, IsSeat, IsOpenOrAnswered, IsEventOf, AreSeatedAs, Seat}
use Rattle.explain_histories.proofs.OpenLemmas.{other_open, own_open, open_on}
use Rattle.explain_histories.proofs.PartLemmas.{not_before, behind_as_kept, kept_behind, begun_bound, answered_parts}

module _ (calls : List Operation) (count place : ℕ) (free : List ℕ) (p : ℕ) (seats : List Seat) (events : List Event)
    (h : AreSeatedAs calls count place (free ++ p ∷ []) seats events) (a : Operation) (here : slice_get calls count ≡ Some a)
    (place_is : place ≡ begun_of calls (count + 1)) (none : NoneEndsBefore place seats) (follows : MayFollow calls count place a) where
  abbrev e : Event
  e = Invoke p a.call

  abbrev then : List Event
  then = events ++ Invoke p a.call ∷ []

  abbrev seat : Seat
  seat = record { number = count; process = p; res = place_in a.response }

  abbrev new : Operation
  new = begun_at (length events) a.call

  abbrev before : List Operation
  before = operations events

  ops_are : operations then ≡ before ++ new ∷ []
  ops_are = operations-invoke events p a.call

  idle : has_open_call p events ≡ false
  idle =
      let P : ℕ → Type 0 = λ q. has_open_call q events ≡ false in
      All-head P p [] (All-back P free (p ∷ []) h.free_idle)

  known : p < process_limit
  known =
      let P : ℕ → Type 0 = λ q. q < process_limit in
      All-head P p [] (All-back P free (p ∷ []) h.free_known)

  -- a call after the invocation was there, or is the new one
  new_cases : (n : ℕ) (b c : Operation) → slice_get calls n ≡ Some b → slice_get (operations then) n ≡ Some c
      → (slice_get before n ≡ Some c) ⊎ ((n ≡ count) × (c ≡ new) × (b ≡ a))
  new_cases n b c b_at c_at = ⊎_elim
      (λ old. inl old)
      (λ (len, is).
      let at : n ≡ count = sym len ∙ h.size in
      inr (at, is, same_Some b a (sym b_at ∙ (ap (slice_get calls) at ∙ here))))
      (place-push before new n c (subst (λ (l : List Operation). slice_get l n ≡ Some c) ops_are c_at))

  begun_before : (n : ℕ) (b : Operation) → n < count + 1 → slice_get calls n ≡ Some b → b.inv ≤ place
  begun_before n b less b_at = let bound = begun_bound calls (count + 1) n b less b_at in omega arith

  number_below : (n : ℕ) (c : Operation) → slice_get (operations then) n ≡ Some c → n < count + 1
  number_below n c c_at =
      let within = slice_get_within (operations then) n c c_at in
      omega (arith, within, ap length ops_are, length_push before new, h.size)

  -- a call that was there precedes the new one where it is answered
  old_before : (i : ℕ) (x c : Operation) → slice_get calls i ≡ Some x → slice_get before i ≡ Some c
      → is_before x.response a.inv ≡ is_before c.response (length events)
  old_before i x c x_at c_at = ⊎_elim
      (λ (s, s_is, number, pending).
      let k = All-contains (IsSeat calls count events) seats s h.seats s_is in
      let late = behind_as_kept x.response s.res place (k.res x (ap (slice_get calls) number ∙ x_at))
      (All-contains (λ (s : Seat). IfSome s.res (λ res. place ≤ res)) seats s none s_is) in
      not_before x.response place a.inv late (begun_before count a (omega arith) here) ∙ sym (ap (λ (o : Option Response). is_before o (length events)) pending))
      (λ answered.
      let (r, s, x_is, c_is, same, early) = answered_parts place x.response c.response answered in
      let behind = (completed_at events [] i c c_at (ap (λ (o : Option Response). is_some o) c_is)).1 in
      let less : i < count = omega (arith, slice_get_within before i c c_at, h.size) in
      let outside : IfSome x.response (λ response. (response.res < a.inv) ⊎ (place ≤ response.res)) =
      All-contains (EndsOutside a.inv place) (take count calls) x follows.1 (Contains-take calls count i x less x_at) in
      let ended : r.res < a.inv = ⊎_elim (λ (l : r.res < a.inv). l) (λ (l : place ≤ r.res). absurd (omega arith))
      (subst (λ (o : Option Response). IfSome o (λ response. (response.res < a.inv) ⊎ (place ≤ response.res))) x_is outside) in
      (ap (λ (o : Option Response). is_before o a.inv) x_is ∙ lt-ltb r.res a.inv ended) ∙ sym behind)
      (h.status i x c x_at c_at)

  begun_precedence : (i j : ℕ) (x y c d : Operation) → slice_get calls i ≡ Some x → slice_get calls j ≡ Some y
      → slice_get (operations then) i ≡ Some c → slice_get (operations then) j ≡ Some d → precedes x y ≡ precedes c d
  begun_precedence i j x y c d x_at y_at c_at d_at = ⊎_elim
      (λ c_old. ⊎_elim
      (λ d_old. h.precedence i j x y c d x_at y_at c_old d_old)
      (λ (at, d_is, y_is).
      ap (λ (b : Operation). is_before x.response b.inv) y_is
      ∙ (old_before i x c x_at c_old ∙ sym (ap (λ (b : Operation). is_before c.response b.inv) d_is)))
      (new_cases j y d y_at d_at))
      (λ (at, c_is, x_is).
      ap (λ (b : Operation). is_before b.response y.inv) x_is
      ∙ (not_before a.response place y.inv follows.0 (begun_before j y (number_below j d d_at) y_at)
      ∙ sym (ap (λ (b : Operation). is_before b.response d.inv) c_is)))
      (new_cases i x c x_at c_at)

  begun_status : (n : ℕ) (b c : Operation) → slice_get calls n ≡ Some b → slice_get (operations then) n ≡ Some c
      → IsOpenOrAnswered place (seats ++ seat ∷ []) n b c
  begun_status n b c b_at c_at = ⊎_elim
      (λ old. ⊎_elim
      (λ (s, s_is, number, pending). inl (s, Contains-append_left seats (seat ∷ []) s s_is, number, pending))
      (λ answered. inr answered)
      (h.status n b c b_at old))
      (λ (at, c_is, b_is). inl (
        seat,
        Contains-append_right seats (seat ∷ []) seat (Contains-first seat []),
        sym at,
        ap (λ (x : Operation). x.response) c_is,
      ))
      (new_cases n b c b_at c_at)

  -- the open calls stay where they are
  seat_stays : (t : Seat) → Contains seats t → IsSeat calls (count + 1) then t
  seat_stays t t_is =
      let k = All-contains (IsSeat calls count events) seats t h.seats t_is in
      let late : IfSome t.res (λ res. place ≤ res) = All-contains (λ (s : Seat). IfSome s.res (λ res. place ≤ res)) seats t none t_is in
      let other : p ≢ t.process = λ same.
      false≢true (sym idle ∙ (ap (λ (q : ℕ). has_open_call q events) same ∙ k.waits)) in
      let same_call : slice_get (operations then) t.number ≡ slice_get before t.number =
      ap (λ (l : List Operation). slice_get l t.number) ops_are
      ∙ slice_get-append_left before (new ∷ []) t.number (omega (arith, k.within, h.size)) in
      record {
        within = omega (arith, k.within);
        process = k.process;
        res = k.res;
        later = subst (λ (n : ℕ). IfSome t.res (λ res. n ≤ res)) place_is late;
        waits = other_open t.process events e other ∙ k.waits;
        place = open_on events e t.number t.process other k.place
            (subst (λ (o : Option Operation). IsSomeAnd o (λ c. (c.inv ≡ length k.place.before) × (c.response ≡ None))) (sym same_call)
            k.place.is_call);
      }

  new_seat : IsSeat calls (count + 1) then seat
  new_seat =
      let at : slice_get (operations then) count ≡ Some new =
      ap (λ (l : List Operation). slice_get l count) ops_are
      ∙ (ap (slice_get (before ++ new ∷ [])) (sym h.size) ∙ slice_get-middle before new []) in
      record {
        within = omega arith;
        process = known;
        res = λ b b_at. ap (λ (x : Operation). place_in x.response) (same_Some b a (sym b_at ∙ here));
        later = subst (λ (n : ℕ). IfSome (place_in a.response) (λ res. n ≤ res)) place_is (kept_behind a.response place follows.0);
        waits = own_open events e;
        place = record {
          before = events;
          call = a.call;
          between = [];
          parts = refl;
          silent = refl;
          is_call = subst (λ (o : Option Operation). IsSomeAnd o (λ c. (c.inv ≡ length events) × (c.response ≡ None))) (sym at) (refl, refl);
        };
      }

  free_stays : (q : ℕ) → Contains free q → has_open_call q then ≡ false
  free_stays q q_is =
      let Idle : ℕ → Type 0 = λ q. has_open_call q events ≡ false in
      let was = All-contains Idle free q (All-front Idle free (p ∷ []) h.free_idle) q_is in
      let across = AllPairs-across (λ (m : ℕ) (n : ℕ). m ≢ n) free (p ∷ []) h.free_apart in
      let apart : q ≢ p = All-head (λ (n : ℕ). q ≢ n) p [] (All-contains (λ (m : ℕ). All (λ (n : ℕ). m ≢ n) (p ∷ [])) free q across q_is) in
      other_open q events e (λ same. apart (sym same)) ∙ was

  pub begun_seated : AreSeatedAs calls (count + 1) place free (seats ++ seat ∷ []) then
  begun_seated = record {
    within = let less = slice_get_within calls count a here in omega arith;
    size = ap length ops_are ∙ (length_push before new ∙ ap (λ n. n + 1) h.size);
    call = λ n b c b_at c_at. ⊎_elim
        (λ old. h.call n b c b_at old)
        (λ (at, c_is, b_is). ap (λ (x : Operation). x.call) b_is ∙ sym (ap (λ (x : Operation). x.call) c_is))
        (new_cases n b c b_at c_at);
    status = begun_status;
    precedence = begun_precedence;
    seats = All-push (IsSeat calls (count + 1) then) seats seat (All-from_contains (IsSeat calls (count + 1) then) seats seat_stays) new_seat;
    rising = all_pairs_push (λ (s : Seat) (t : Seat). s.number < t.number) seats seat h.rising (λ k d within. (h.seats k d within).within);
    apart = all_pairs_push (λ (s : Seat) (t : Seat). s.process ≢ t.process) seats seat h.apart (λ k d within same.
        false≢true (sym idle ∙ (ap (λ (q : ℕ). has_open_call q events) (sym same) ∙ (h.seats k d within).waits)));
    free_known = All-front (λ (q : ℕ). q < process_limit) free (p ∷ []) h.free_known;
    free_idle = All-from_contains (λ (q : ℕ). has_open_call q then ≡ false) free free_stays;
    free_apart = AllPairs-front (λ (m : ℕ) (n : ℕ). m ≢ n) free (p ∷ []) h.free_apart;
    all_processes = omega (arith, length_push free p, length_push seats seat, h.all_processes);
    well_formed = IsWellFormed-push events e h.well_formed idle;
    own = All-push (IsEventOf calls) events e h.own
        (known, (count, a, slice_get_within calls count a here, get_or_from_slice_get calls count a a here, refl));
  }
