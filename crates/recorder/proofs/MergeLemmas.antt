-- The logs of all passes, put together, are a history.
use Rattle.recorder.proofs.Common.{◌≡◌, ◌≢◌, ℕ, ◌+◌, ◌*◌, ◌<◌, ◌≤◌, ◌==◌, Bool, true, false, ◌&&◌, cond, List, [], ◌∷◌, ◌++◌, length, map, filter}
use Rattle.recorder.proofs.Common.{refl, sym, ap, ◌∙◌, arith, subst, inl, inr, ⊎_elim, ne_eqb, ◌⊎◌, All, AllPairs, Contains, flat_map, sum_by}
use Rattle.recorder.proofs.Common.{list_all, append-nil, nil_from_length, sum_by-cons, sum_by-append, get_or-le-sum_by, flat_map-cons, All-head}
use Rattle.recorder.proofs.Common.{All-tail, All-weaker, All-contains, filter-append, AllPairs-head, AllPairs-tail, All-from_contains, Contains-nil}
use Rattle.recorder.proofs.Common.{Contains-cases, filter_all, filter_none, Event, process_of, is_invocation, events_of, events_alternate, IsWellFormed}
use Rattle.recorder.proofs.Common.{is_shaped, is_small, call_count, AreHistoryEvents, Stamped, by_stamp, events_by_stamp, Pass, events_in, StampsRise}
use Rattle.recorder.proofs.Common.{process_number, log_of, events_by, draws_of, history_of}
use Rattle.std.proofs.Common.{eq-eqb}
use Rattle.std.proofs.lemmas.Bool.Decides.{eqb_tells}
use Rattle.std.proofs.lemmas.List.Folds.{list_all-append}
use Rattle.events.specs.Limits.{call_limit}
use Rattle.events.proofs.SortLemmas.{rises}
use Rattle.events.proofs.MergeLemmas.{by_stamp-rising, filter-by_stamp, all-by_stamp, sum-by_stamp}
use Rattle.recorder.proofs.RecordLemmas.{no-events}
use Rattle.recorder.proofs.PassLemmas.{draws-are}

-- two passes are of processes that differ
abbrev pub Differ : Pass → Pass → Type 0
Differ a b = process_number a ≢ process_number b

-- the passes are of processes that differ
abbrev pub AreApart : List Pass → Type 0
AreApart passes = AllPairs Differ passes

-- whether a stamped event is of a process
abbrev is_of : ℕ → Stamped → Bool
is_of q e = process_of e.1 == q

-- the events of all passes, pass after pass
abbrev pub together : List Pass → List Stamped
together passes = flat_map (λ log. log) (map log_of passes)

-- one log is put before the others
cons-together : (p : Pass) (passes : List Pass) → together (p ∷ passes) ≡ log_of p ++ together passes
cons-together p passes = flat_map-cons (λ log. log) (log_of p) (map log_of passes)

pub together-is : (passes : List Pass) → flat_map log_of passes ≡ together passes
together-is [] = refl
together-is (p ∷ passes) = flat_map-cons log_of p passes ∙ (ap (λ l. log_of p ++ l) (together-is passes) ∙ sym (cons-together p passes))

-- Lists of stamped events.

filter-events : (q : ℕ) (es : List Stamped) → events_of q (events_in es) ≡ events_in (filter (is_of q) es)
filter-events q [] = refl
filter-events q (e ∷ es) =
    ap (λ rest. cond (process_of e.1 == q) (e.1 ∷ rest) rest) (filter-events q es)
    ∙ same (process_of e.1 == q)
  where
    same : (b : Bool) → cond b (e.1 ∷ events_in (filter (is_of q) es)) (events_in (filter (is_of q) es))
        ≡ events_in (cond b (e ∷ filter (is_of q) es) (filter (is_of q) es))
    same true = refl
    same false = refl

all-events : (test : Event → Bool) (es : List Stamped) → list_all test (events_in es) ≡ list_all (λ e. test e.1) es
all-events test [] = refl
all-events test (e ∷ es) = ap (λ b. test e.1 && b) (all-events test es)

count-events : (es : List Stamped) → call_count (events_in es) ≡ sum_by (λ e. cond (is_invocation e.1) 1 0) es
count-events [] = refl
count-events (e ∷ es) =
    sum_by-cons (λ x. cond (is_invocation x) 1 0) e.1 (events_in es)
    ∙ (ap (λ n. cond (is_invocation e.1) 1 0 + n) (count-events es) ∙ sym (sum_by-cons (λ e. cond (is_invocation e.1) 1 0) e es))

rises-from : (low : ℕ) (es : List Stamped) → All (λ e. low ≤ e.0) es → StampsRise es → rises low es
rises-from low [] above up = tt
rises-from low (e ∷ es) above up = (
  All-head (λ e. low ≤ e.0) e es above,
  rises-from e.0 es (All-weaker (λ b. e.0 < b.0) (λ b. e.0 ≤ b.0) (λ b lt. omega arith) es (AllPairs-head (λ a b. a.0 < b.0) e es up))
      (AllPairs-tail (λ a b. a.0 < b.0) e es up),
)

in-order : (es : List Stamped) → StampsRise es → by_stamp es ≡ es
in-order es up = by_stamp-rising 0 es (rises-from 0 es (λ k d within. omega arith) up)

-- What is kept of one process.

own-kept : (q : ℕ) (p : Pass) → process_number p ≡ q → filter (is_of q) (log_of p) ≡ log_of p
own-kept q p same =
    filter_all (is_of q) (log_of p)
    (All-weaker (λ e. process_of e.1 ≡ process_number p) (λ e. is_of q e ≡ true) (λ e own. eq-eqb (process_of e.1) q (own ∙ same))
    (log_of p) p.recorded.own)

others-dropped : (q : ℕ) (p : Pass) → process_number p ≢ q → filter (is_of q) (log_of p) ≡ []
others-dropped q p other =
    filter_none (is_of q) (log_of p)
    (All-weaker (λ e. process_of e.1 ≡ process_number p) (λ e. is_of q e ≡ false)
    (λ e own. ne_eqb (process_of e.1) q (λ same. other (sym own ∙ same))) (log_of p) p.recorded.own)

filter-together : (q : ℕ) (p : Pass) (passes : List Pass)
    → filter (is_of q) (together (p ∷ passes)) ≡ filter (is_of q) (log_of p) ++ filter (is_of q) (together passes)
filter-together q p passes = ap (filter (is_of q)) (cons-together p passes) ∙ filter-append (is_of q) (log_of p) (together passes)

all-dropped : (q : ℕ) (passes : List Pass) → All (λ p. process_number p ≢ q) passes → filter (is_of q) (together passes) ≡ []
all-dropped q [] h = refl
all-dropped q (p ∷ passes) h =
    filter-together q p passes
    ∙ (ap (λ l. l ++ filter (is_of q) (together passes)) (others-dropped q p (All-head (λ p. process_number p ≢ q) p passes h))
    ∙ all-dropped q passes (All-tail (λ p. process_number p ≢ q) p passes h))

-- among passes that are apart, a process has nothing, or one pass
one-log : (q : ℕ) (passes : List Pass) → AreApart passes
    → (filter (is_of q) (together passes) ≡ []) ⊎ ((p : Pass) × (process_number p ≡ q) × (filter (is_of q) (together passes) ≡ log_of p))
one-log q [] apart = inl refl
one-log q (p ∷ passes) apart = elim (eqb_tells (process_number p) q) [
  | inl h ↦
      let others = All-weaker (λ b. process_number p ≢ process_number b) (λ b. process_number b ≢ q)
      (λ b ne same. ne (h.1 ∙ sym same)) passes
      (AllPairs-head Differ p passes apart) in
      inr (
        p,
        h.1,
        filter-together q p passes
            ∙ (ap (λ l. l ++ filter (is_of q) (together passes)) (own-kept q p h.1)
            ∙ (ap (λ l. log_of p ++ l) (all-dropped q passes others) ∙ append-nil (log_of p))),
      )
  | inr h ↦
      let first = filter-together q p passes ∙ ap (λ l. l ++ filter (is_of q) (together passes)) (others-dropped q p h.1) in
      elim (one-log q passes (AllPairs-tail Differ p passes apart)) [
        | inl none ↦ inl (first ∙ none)
        | inr one ↦ inr (one.0, one.1, first ∙ one.2)
      ]
]

-- among passes that are apart, what is recorded of a process that has one is its log
own-log : (passes : List Pass) → AreApart passes → (p : Pass) → Contains passes p
    → filter (is_of (process_number p)) (together passes) ≡ log_of p
own-log [] apart p there = absurd (Contains-nil p there)
own-log (x ∷ passes) apart p there =
    let q = process_number p in
    let first = filter-together q x passes in
    let apart_first = AllPairs-head Differ x passes apart in
    ⊎_elim
    (λ same.
    let others = All-weaker (Differ x) (λ b. process_number b ≢ q) (λ b ne e. ne (ap process_number same ∙ sym e)) passes apart_first in
    first
    ∙ (ap (λ l. l ++ filter (is_of q) (together passes)) (own-kept q x (ap process_number same))
    ∙ (ap (λ l. log_of x ++ l) (all-dropped q passes others) ∙ (append-nil (log_of x) ∙ ap log_of same))))
    (λ among.
    first
    ∙ (ap (λ l. l ++ filter (is_of q) (together passes)) (others-dropped q x (All-contains (Differ x) passes p apart_first among))
    ∙ own-log passes (AllPairs-tail Differ x passes apart) p among))
    (Contains-cases x passes p there)

module _ (passes : List Pass) (apart : AreApart passes) where
  own-events : (q : ℕ) → events_of q (history_of passes) ≡ events_in (by_stamp (filter (is_of q) (together passes)))
  own-events q = filter-events q (by_stamp (together passes)) ∙ ap events_in (filter-by_stamp (is_of q) (together passes))

  -- the events of each pass are those of its process
  pub own-apart : All (λ p. events_of (process_number p) (history_of passes) ≡ events_by p) passes
  own-apart = All-from_contains (λ p. events_of (process_number p) (history_of passes) ≡ events_by p) passes (λ p there.
      own-events (process_number p)
      ∙ (ap (λ es. events_in (by_stamp es)) (own-log passes apart p there) ∙ ap events_in (in-order (log_of p) p.recorded.rises)))

  well-formed : IsWellFormed (history_of passes)
  well-formed q = elim (one-log q passes apart) [
    | inl none ↦ ap (events_alternate false) (own-events q ∙ ap (λ es. events_in (by_stamp es)) none)
    | inr one ↦
        let p = one.0 in
        let its = own-events q ∙ (ap (λ es. events_in (by_stamp es)) one.2 ∙ ap events_in (in-order (log_of p) p.recorded.rises)) in
        let alone = filter-events q (log_of p) ∙ ap events_in (own-kept q p one.1) in
        ap (events_alternate false) (its ∙ sym alone) ∙ p.recorded.history.well_formed q
  ]

all-together : (test : Event → Bool) (passes : List Pass) → ((p : Pass) → list_all test (events_by p) ≡ true)
    → list_all (λ e. test e.1) (together passes) ≡ true
all-together test [] h = refl
all-together test (p ∷ passes) h =
    ap (list_all (λ e. test e.1)) (cons-together p passes)
    ∙ (list_all-append (λ e. test e.1) (log_of p) (together passes)
    ∙ (ap (λ b. b && list_all (λ e. test e.1) (together passes)) (sym (all-events test (log_of p)) ∙ h p) ∙ all-together test passes h))

all-passed : (test : Event → Bool) (passes : List Pass) → ((p : Pass) → list_all test (events_by p) ≡ true)
    → list_all test (history_of passes) ≡ true
all-passed test passes h = all-events test (by_stamp (together passes))
    ∙ all-by_stamp (λ e. test e.1) (together passes) (all-together test passes h)

-- each call has two draws
calls-of-one : (p : Pass) → 2 * call_count (events_by p) ≤ draws_of p
calls-of-one p = let a = p.recorded.begun_is in let b = p.recorded.few in let c = draws-are p in omega arith

calls-together : (passes : List Pass) → 2 * sum_by (λ e. cond (is_invocation e.1) 1 0) (together passes) ≤ sum_by draws_of passes
calls-together [] =
    let none : sum_by (λ (e : Stamped). cond (is_invocation e.1) 1 0) [] ≡ 0 = refl in
    omega arith
calls-together (p ∷ passes) =
    let a = ap (sum_by (λ e. cond (is_invocation e.1) 1 0)) (cons-together p passes) in
    let b = sum_by-append (λ e. cond (is_invocation e.1) 1 0) (log_of p) (together passes) in
    let c = count-events (log_of p) in
    let d = calls-of-one p in
    let e = sum_by-cons draws_of p passes in
    let f = calls-together passes in
    omega arith

calls-within : (passes : List Pass) → 2 * call_count (history_of passes) ≤ sum_by draws_of passes
calls-within passes =
    let a = count-events (by_stamp (together passes)) in
    let b = sum-by_stamp (λ e. cond (is_invocation e.1) 1 0) (together passes) in
    let c = calls-together passes in
    omega arith

-- passes that are apart and have few draws make a history
pub AreHistoryEvents-apart : (passes : List Pass) → AreApart passes → sum_by draws_of passes ≤ 2 * call_limit
    → AreHistoryEvents (history_of passes)
AreHistoryEvents-apart passes apart few = record {
  shaped = all-passed is_shaped passes (λ p. p.recorded.history.shaped);
  small = all-passed is_small passes (λ p. p.recorded.history.small);
  calls = let c = calls-within passes in omega arith;
  well_formed = well-formed passes apart;
}

-- passes without draws have no events
pub nothing-together : (passes : List Pass) → sum_by draws_of passes ≡ 0 → together passes ≡ []
nothing-together [] none = refl
nothing-together (p ∷ passes) none =
    let split = sum_by-cons draws_of p passes in
    let rest = nothing-together passes (omega arith) in
    let empty : length (log_of p) ≡ 0 = let a = draws-are p in let b = p.draws in omega arith in
    cons-together p passes ∙ (ap (λ l. l ++ together passes) (nil_from_length (log_of p) empty) ∙ rest)

pub AreHistoryEvents-nothing : (passes : List Pass) → sum_by draws_of passes ≡ 0 → AreHistoryEvents (history_of passes)
AreHistoryEvents-nothing passes none = subst AreHistoryEvents (sym (ap events_by_stamp (nothing-together passes none))) no-events

pub own-nothing : (passes : List Pass) → sum_by draws_of passes ≡ 0
    → All (λ p. events_of (process_number p) (history_of passes) ≡ events_by p) passes
own-nothing passes none = All-from_contains (λ p. events_of (process_number p) (history_of passes) ≡ events_by p) passes (λ p there.
    let least = get_or-le-sum_by draws_of passes there.0 p there.1 in
    let same = ap draws_of there.2 in
    let empty : length (log_of p) ≡ 0 = let a = draws-are p in let b = p.draws in omega arith in
    ap (λ es. events_of (process_number p) (events_by_stamp es)) (nothing-together passes none)
    ∙ sym (ap events_in (nil_from_length (log_of p) empty)))
