-- One of the open calls ends, and its process is free.
use Rattle.explain_histories.proofs.Common.{◌≡◌, ◌≢◌, ℕ, ◌<◌, ◌≤◌, Bool, true, false, not, cond, ◌==◌, List, [], ◌∷◌, ◌++◌, length, map, Option, Some}
use Rattle.explain_histories.proofs.Common.{None, refl, sym, ap, ap₂, ◌∙◌, ⊎_elim, inl, inr, subst, arith, IsTrue, AllPairs, Contains, IsSomeAnd}
use Rattle.explain_histories.proofs.Common.{slice_get, option_map, cases_eq, eq-eqb, ne_eqb, le-ltb, false≢true, length_push, length-append, length-map}
use Rattle.explain_histories.proofs.Common.{All-contains, All-push, all_pairs_push, none-some, same_Some, slice_get-map, slice_get_within}
use Rattle.explain_histories.proofs.Common.{get_or_from_slice_get, Event, Answer, Reply, Operation, Response, events_of, events_alternate, has_open_call}
use Rattle.explain_histories.proofs.Common.{process_limit, operations, is_before, precedes, IsWellFormed-push, inv_rises, AllPairs-weaker}
use Rattle.explain_histories.proofs.Common.{All-from_contains, Contains-around, Contains-at, some_at, reply_in, answered_at, invoked_before}
use Rattle.explain_histories.proofs.Common.{operations-answer, begun_of, IsSeat, IsAnsweredAs, IsOpenOrAnswered, IsEventOf, AreSeatedAs, Seat}
use Rattle.explain_histories.proofs.OpenLemmas.{other_open, own_open, open_on}
use Rattle.explain_histories.proofs.PartLemmas.{All-middle, AllPairs-without, Contains-with, others_apart, one_number, not_before, behind_as_kept}
use Rattle.explain_histories.proofs.PartLemmas.{begun_bound}

-- what a map makes of an element comes from one
from_map : {X : Type 0} (f : X → X) (o : Option X) (y : X) → option_map f o ≡ Some y → (x : X) × (o ≡ Some x) × (y ≡ f x)
from_map f None y h = absurd (none-some y h)
from_map f (Some x) y h = (x, refl, sym (same_Some (f x) y h))

-- an answer changes neither the call nor its place
answered_inv : (inv place : ℕ) (reply : Reply) (c : Operation) → (answered_at inv place reply c).inv ≡ c.inv
answered_inv inv place reply c = by_test (c.inv == inv)
  where
    by_test : (t : Bool) → (cond t (record { call = c.call; inv = c.inv; response = Some (record { res = place; reply = reply }) }) c).inv ≡ c.inv
    by_test true = refl
    by_test false = refl

answered_call : (inv place : ℕ) (reply : Reply) (c : Operation) → (answered_at inv place reply c).call ≡ c.call
answered_call inv place reply c = by_test (c.inv == inv)
  where
    by_test : (t : Bool) → (cond t (record { call = c.call; inv = c.inv; response = Some (record { res = place; reply = reply }) }) c).call ≡ c.call
    by_test true = refl
    by_test false = refl

module _ (calls : List Operation) (count limit : ℕ) (free : List ℕ) (front : List Seat) (s : Seat) (back : List Seat) (events : List Event)
    (h : AreSeatedAs calls count limit free (front ++ s ∷ back) events) (a : Operation) (r : Response)
    (here : slice_get calls s.number ≡ Some a) (response_is : a.response ≡ Some r) (ends : r.res < limit) where
  abbrev e : Event
  e = Answer s.process r.reply

  abbrev then : List Event
  then = events ++ Answer s.process r.reply ∷ []

  abbrev before : List Operation
  before = operations events

  its : IsSeat calls count events s
  its = All-middle (IsSeat calls count events) front s back h.seats

  abbrev given : Operation → Operation
  given = answered_at (length its.place.before) (length events) r.reply

  ops_are : operations then ≡ map given before
  ops_are =
      let o = its.place in
      let turns = subst (λ (l : List Event). IsTrue (events_alternate false (events_of s.process l))) o.parts (h.well_formed s.process) in
      subst (λ (l : List Event). operations (l ++ Answer s.process r.reply ∷ [])
      ≡ map (answered_at (length o.before) (length l) r.reply) (operations l)) (sym o.parts)
      (operations-answer o.before o.between s.process o.call r.reply turns o.silent)

  new_at : (n : ℕ) (c : Operation) → slice_get (operations then) n ≡ Some c → (b : Operation) × (slice_get before n ≡ Some b) × (c ≡ given b)
  new_at n c c_at =
      from_map given (slice_get before n) c
      (sym (slice_get-map given before n) ∙ subst (λ (l : List Operation). slice_get l n ≡ Some c) ops_are c_at)

  -- the call that ends is answered
  own_call : (c : Operation) → slice_get before s.number ≡ Some c → (given c).response ≡ Some (record { res = length events; reply = r.reply })
  own_call c c_at =
      let (b, b_at, is) = some_at (slice_get before s.number) (λ b. (b.inv ≡ length its.place.before) × (b.response ≡ None)) its.place.is_call in
      let at : c.inv ≡ length its.place.before = ap (λ (x : Operation). x.inv) (same_Some c b (sym c_at ∙ b_at)) ∙ is.0 in
      rw (eq-eqb c.inv (length its.place.before) at) refl

  -- another one stays
  other_call : (n : ℕ) (c : Operation) → n ≢ s.number → slice_get before n ≡ Some c → given c ≡ c
  other_call n c differs c_at =
      let (b, b_at, is) = some_at (slice_get before s.number) (λ b. (b.inv ≡ length its.place.before) × (b.response ≡ None)) its.place.is_call in
      let elsewhere : c.inv ≢ length its.place.before = λ same.
      differs (one_number before n s.number c b (inv_rises events) c_at b_at (same ∙ sym is.0)) in
      rw (ne_eqb c.inv (length its.place.before) elsewhere) refl

  ended_status : (n : ℕ) (b c : Operation) → slice_get calls n ≡ Some b → slice_get (operations then) n ≡ Some c
      → IsOpenOrAnswered limit (front ++ back) n b c
  ended_status n b c b_at c_at =
      let (d, d_at, c_is) = new_at n c c_at in
      ⊎_elim
      (λ same.
      let b_is : b.response ≡ Some r =
      ap (λ (x : Operation). x.response) (same_Some b a (sym b_at ∙ (ap (slice_get calls) same ∙ here))) ∙ response_is in
      let c_response : c.response ≡ Some (record { res = length events; reply = r.reply }) =
      ap (λ (x : Operation). x.response) c_is ∙ own_call d (ap (slice_get before) (sym same) ∙ d_at) in
      inr (subst (λ (o : Option Response). IsAnsweredAs limit o c.response) (sym b_is)
      (subst (λ (q : Option Response). IsAnsweredAs limit (Some r) q) (sym c_response) (refl, ends))))
      (λ differs.
      let c_stays : c ≡ d = c_is ∙ other_call n d differs d_at in
      ⊎_elim
      (λ (t, t_is, number, pending). ⊎_elim
      (λ (one : s ≡ t). absurd (differs (sym number ∙ sym (ap (λ (u : Seat). u.number) one))))
      (λ left. inl (t, left, number, ap (λ (x : Operation). x.response) c_stays ∙ pending))
      (Contains-around front s back t t_is))
      (λ answered. inr (subst (λ (x : Operation). IsAnsweredAs limit b.response x.response) (sym c_stays) answered))
      (h.status n b d b_at d_at))
      (cases_eq n s.number)

  ended_precedence : (i j : ℕ) (x y c d : Operation) → slice_get calls i ≡ Some x → slice_get calls j ≡ Some y
      → slice_get (operations then) i ≡ Some c → slice_get (operations then) j ≡ Some d → precedes x y ≡ precedes c d
  ended_precedence i j x y c d x_at y_at c_at d_at =
      let (c0, c0_at, c_is) = new_at i c c_at in
      let (d0, d0_at, d_is) = new_at j d d_at in
      let d_inv : d.inv ≡ d0.inv = ap (λ (z : Operation). z.inv) d_is ∙ answered_inv (length its.place.before) (length events) r.reply d0 in
      ⊎_elim
      (λ same.
      let begun : y.inv ≤ begun_of calls count = begun_bound calls count j y (omega (arith, slice_get_within before j d0 d0_at, h.size)) y_at in
      let late = behind_as_kept x.response s.res (begun_of calls count) (its.res x (ap (slice_get calls) (sym same) ∙ x_at)) its.later in
      let c_response : c.response ≡ Some (record { res = length events; reply = r.reply }) =
      ap (λ (z : Operation). z.response) c_is ∙ own_call c0 (ap (slice_get before) (sym same) ∙ c0_at) in
      let less = invoked_before 0 events d0 (Contains-at before j d0 d0_at) in
      not_before x.response (begun_of calls count) y.inv late begun
      ∙ sym (ap₂ (λ (o : Option Response) (n : ℕ). is_before o n) c_response d_inv ∙ le-ltb (length events) d0.inv (omega arith)))
      (λ differs.
      let c_stays : c ≡ c0 = c_is ∙ other_call i c0 differs c0_at in
      h.precedence i j x y c0 d0 x_at y_at c0_at d0_at
      ∙ sym (ap₂ (λ (o : Option Response) (n : ℕ). is_before o n) (ap (λ (z : Operation). z.response) c_stays) d_inv))
      (cases_eq i s.number)

  seat_stays : (t : Seat) → Contains (front ++ back) t → IsSeat calls count then t
  seat_stays t t_is =
      let k = All-contains (IsSeat calls count events) (front ++ s ∷ back) t h.seats (Contains-with front s back t t_is) in
      let apart : t.process ≢ s.process = others_apart (λ (u : Seat). u.process) front s back t h.apart t_is in
      let distinct : AllPairs (λ (u : Seat) (v : Seat). u.number ≢ v.number) (front ++ s ∷ back) =
      AllPairs-weaker (λ (u : Seat) (v : Seat). u.number < v.number) (λ (u : Seat) (v : Seat). u.number ≢ v.number) (front ++ s ∷ back)
      (λ u v u_is v_is less same. omega (arith, less, same)) h.rising in
      let another : t.number ≢ s.number = others_apart (λ (u : Seat). u.number) front s back t distinct t_is in
      let (c, c_at, is) = some_at (slice_get before t.number) (λ c. (c.inv ≡ length k.place.before) × (c.response ≡ None)) k.place.is_call in
      let at : slice_get (operations then) t.number ≡ Some c =
      ap (λ (l : List Operation). slice_get l t.number) ops_are
      ∙ (slice_get-map given before t.number ∙ (ap (option_map given) c_at ∙ ap Some (other_call t.number c another c_at))) in
      let other : s.process ≢ t.process = λ same. apart (sym same) in
      record {
        within = k.within;
        process = k.process;
        res = k.res;
        later = k.later;
        waits = other_open t.process events e other ∙ k.waits;
        place = open_on events e t.number t.process other k.place
            (subst (λ (o : Option Operation). IsSomeAnd o (λ c. (c.inv ≡ length k.place.before) × (c.response ≡ None))) (sym at) is);
      }

  free_stays : (q : ℕ) → Contains free q → has_open_call q then ≡ false
  free_stays q q_is =
      let was = All-contains (λ (q : ℕ). has_open_call q events ≡ false) free q h.free_idle q_is in
      other_open q events e (λ same. false≢true (sym was ∙ (ap (λ (p : ℕ). has_open_call p events) (sym same) ∙ its.waits))) ∙ was

  pub ended_seated : AreSeatedAs calls count limit (free ++ s.process ∷ []) (front ++ back) then
  ended_seated = record {
    within = h.within;
    size = ap length ops_are ∙ (length-map before given ∙ h.size);
    call = λ n b c b_at c_at.
        let (d, d_at, c_is) = new_at n c c_at in
        h.call n b d b_at d_at
        ∙ sym (ap (λ (x : Operation). x.call) c_is ∙ answered_call (length its.place.before) (length events) r.reply d);
    status = ended_status;
    precedence = ended_precedence;
    seats = All-from_contains (IsSeat calls count then) (front ++ back) seat_stays;
    rising = AllPairs-without (λ (u : Seat) (v : Seat). u.number < v.number) front s back h.rising;
    apart = AllPairs-without (λ (u : Seat) (v : Seat). u.process ≢ v.process) front s back h.apart;
    free_known = All-push (λ (q : ℕ). q < process_limit) free s.process h.free_known its.process;
    free_idle = All-push (λ (q : ℕ). has_open_call q then ≡ false) free s.process
        (All-from_contains (λ (q : ℕ). has_open_call q then ≡ false) free free_stays) (own_open events e);
    free_apart = all_pairs_push (λ (p : ℕ) (q : ℕ). p ≢ q) free s.process h.free_apart (λ k d within same.
        false≢true (sym (h.free_idle k d within) ∙ (ap (λ (p : ℕ). has_open_call p events) same ∙ its.waits)));
    all_processes = omega (
      arith,
      length_push free s.process,
      length-append front back,
      length-append front (s ∷ back),
      h.all_processes,
    );
    well_formed = IsWellFormed-push events e h.well_formed (ap not its.waits);
    own = All-push (IsEventOf calls) events e h.own
        (its.process, (s.number, a, slice_get_within calls s.number a here, get_or_from_slice_get calls s.number a a here, ap reply_in response_is));
  }
