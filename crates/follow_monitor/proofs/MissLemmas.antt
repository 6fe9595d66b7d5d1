-- Nothing is missed in the pasts of a part that is kept: a get that begins and is answered is left in each of them, and the parts decide.
use Rattle.follow_monitor.proofs.Common.{invoked_before, operations-invoke, begun_at, answered_at, IsWellFormed-push, All-from_contains, IsWellFormed}
use Rattle.follow_monitor.proofs.Common.{has_open_call, operations, Get, Event, Answer, Invoke, Reply, Operation, IsKeptFirst, first_of, IsWithRead}
use Rattle.follow_monitor.proofs.Common.{KeptPart, AreKept, IsOwn, PartGoesOn, is_refusal, HasKeysIn, KeptPast, IsOpenCall, read_after}
use Rattle.follow_monitor.proofs.Common.{NothingIsMissed, Contents, IsRising, IsLinearizable, ◌≡◌, ℕ, suc, ◌<◌, true, false, List, [], ◌∷◌, ◌++◌, map}
use Rattle.follow_monitor.proofs.Common.{length, Some, append-nil, refl, sym, ap, ◌∙◌, subst, arith, eq-eqb, ne_eqb, append_assoc, length_push}
use Rattle.follow_monitor.proofs.Common.{All-nil, All-head, All-tail, All-contains, AllZip, All, Contains, any_from_map}
use Rattle.std.proofs.Common.{eqb-true}
use Rattle.follow_laws.proofs.KeptAnswerLemmas.{reads_are_answered}
use Rattle.follow_laws.proofs.KeptDecideLemmas.{kept_parts_decide}
use Rattle.follow_laws.proofs.KeptEventLemmas.{reads_begin}
use Rattle.follow_monitor.proofs.CallLemmas.{answered_calls}
use Rattle.follow_monitor.proofs.OpenLemmas.{opened}

-- a past with a read at its end
abbrev with_read : Operation → KeptPast → KeptPast
with_read o past = record { pairs = past.pairs; left = past.left ++ o ∷ []; found = past.found }

all_with_read : (o : Operation) (pasts : List KeptPast) → All (λ past. All (λ p. p.inv < o.inv) past.left) pasts
    → AllZip (IsWithRead o) pasts (map (with_read o) pasts)
all_with_read o [] less = tt
all_with_read o (past ∷ pasts) less = (
  (
    past.left,
    [],
    sym (append-nil past.left),
    All-head (λ (q : KeptPast). All (λ p. p.inv < o.inv) q.left) past pasts less,
    All-nil (λ (p : Operation). o.inv < p.inv),
    refl,
  ),
  all_with_read o pasts (All-tail (λ (q : KeptPast). All (λ p. p.inv < o.inv) q.left) past pasts less),
)

other_stays : (n place : ℕ) (reply : Reply) (a : Operation) → a.inv < n → answered_at n place reply a ≡ a
other_stays n place reply a less = rw (ne_eqb a.inv n (λ same. omega (arith, less, same))) refl

own_changes : (n place : ℕ) (reply : Reply) (a : Operation) → a.inv ≡ n
    → answered_at n place reply a ≡ record { call = a.call; inv = a.inv; response = Some (record { res = place; reply = reply }) }
own_changes n place reply a same = rw (eq-eqb a.inv n same) refl

others_stay : (n place : ℕ) (reply : Reply) (calls : List Operation) (o : Operation) → All (λ a. a.inv < n) calls
    → map (answered_at n place reply) (calls ++ o ∷ []) ≡ calls ++ answered_at n place reply o ∷ []
others_stay n place reply [] o less = refl
others_stay n place reply (a ∷ calls) o less =
    ap (λ (x : Operation). x ∷ map (answered_at n place reply) (calls ++ o ∷ []))
    (other_stays n place reply a (All-head (λ (b : Operation). b.inv < n) a calls less))
    ∙ ap (λ (l : List Operation). a ∷ l) (others_stay n place reply calls o (All-tail (λ (b : Operation). b.inv < n) a calls less))

module _ (start : Contents) (events : List Event) (part : KeptPart) (rest : List KeptPart) (process key : ℕ) (reply : Reply)
    (rising : IsRising start) (well : IsWellFormed events) (kept : AreKept start (length events) (operations events) (part ∷ rest))
    (idle : has_open_call process events ≡ false) (here : part.keys key ≡ true) (accepted : is_refusal reply ≡ false) where
  abbrev begun : List Event
  begun = events ++ Invoke process (Get key) ∷ []

  abbrev o : Operation
  o = begun_at (length events) (Get key)

  abbrev read : Operation
  read = read_after events key reply

  own : IsOpenCall begun process (length events) (Get key)
  own = opened events process (Get key) (IsWellFormed-push events (Invoke process (Get key)) well idle)

  first : IsKeptFirst start (length events) (operations events) part rest
  first = first_of start (length events) (operations events) part rest kept

  before : (a : Operation) → Contains (operations events) a → a.inv < length events
  before a a_in = let less = invoked_before 0 events a a_in in omega (arith, less)

  answered_then : answered_at (length events) (length begun) reply o ≡ read
  answered_then =
      own_changes (length events) (length begun) reply o refl
      ∙ ap (λ (n : ℕ). record { call = Get key; inv = length events; response = Some (record { res = n; reply = reply }) })
      (let longer = length_push events (Invoke process (Get key)) in omega (arith, longer))

  calls_then : operations (begun ++ Answer process reply ∷ []) ≡ operations events ++ read ∷ []
  calls_then =
      answered_calls begun process (length events) (Get key) reply own
      ∙ (ap (map (answered_at (length events) (length begun) reply)) (operations-invoke events process (Get key))
      ∙ (others_stay (length events) (length begun) reply (operations events) o
      (All-from_contains (λ (a : Operation). a.inv < length events) (operations events) before)
      ∙ ap (λ (x : Operation). operations events ++ x ∷ []) answered_then))

  left_before : All (λ past. All (λ p. p.inv < read.inv) past.left) part.pasts
  left_before = All-from_contains (λ (past : KeptPast). All (λ p. p.inv < read.inv) past.left) part.pasts (λ past past_in.
      All-from_contains (λ (p : Operation). p.inv < read.inv) past.left (λ p p_in. before p
      (All-contains (Contains (operations events)) past.left p
      (All-contains (IsOwn part.keys (operations events)) part.pasts past first.own past_in).of_calls.left p_in)))

  keys_in : HasKeysIn part.keys o
  keys_in other concerned = subst (λ (k : ℕ). part.keys k ≡ true) (eqb-true key other concerned) here

  kept_then : AreKept start (suc (suc (length events))) (operations events ++ read ∷ [])
      (record { keys = part.keys; pasts = map (with_read read) part.pasts } ∷ rest)
  kept_then =
      reads_are_answered start (suc (length events)) (operations events) [] part rest o (record { res = suc (length events); reply = reply })
      (map (with_read read) part.pasts) refl refl accepted refl tt (omega arith) here keys_in (all_with_read read part.pasts left_before)
      (reads_begin start (length events) (operations events) (part ∷ rest) o refl refl refl kept)

  goes_on : IsLinearizable start (operations (begun ++ Answer process reply ∷ []))
      → PartGoesOn (record { keys = part.keys; pasts = map (with_read read) part.pasts })
  goes_on order =
      let then : KeptPart = record { keys = part.keys; pasts = map (with_read read) part.pasts } in
      All-head PartGoesOn then rest
      ((kept_parts_decide start (begun ++ Answer process reply ∷ []) (suc (suc (length events))) (then ∷ rest) rising
      (subst (λ (l : List Operation). AreKept start (suc (suc (length events))) l (then ∷ rest)) (sym calls_then) kept_then)).0 order)

pub nothing_is_missed : NothingIsMissed
nothing_is_missed start events part rest process key reply rising well kept idle here accepted order =
    any_from_map (with_read (read_after events key reply)) (λ (past : KeptPast). IsLinearizable past.pairs past.left) part.pasts
    (goes_on start events part rest process key reply rising well kept idle here accepted
    (subst (λ (l : List Event). IsLinearizable start (operations l))
    (sym (append_assoc events (Invoke process (Get key) ∷ []) (Answer process reply ∷ []))) order))
