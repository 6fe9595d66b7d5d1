-- What a state logs is a history: each event is stamped higher than all before it, and is sound after them.
use Rattle.art_core.proofs.Common.{◌≡◌, ◌≢◌, ℕ, zero, suc, ◌+◌, ◌*◌, ◌%◌, ◌^◌, ◌<◌, ◌≤◌, Bool, true, false, cond, arith, refl, sym, List, []}
use Rattle.art_core.proofs.Common.{◌∷◌, ◌++◌, length, map, ap, subst, ◌∙◌, inl, inr, eq-eqb, get_or-set_other, get_or-set_same, Option, Some}
use Rattle.art_core.proofs.Common.{None, is_some, All, slice_get, slice_index, slice_set, replicate, flat_map, filter_map, sum_by, AllZip}
use Rattle.art_core.proofs.Common.{length-set, length-append, sum-map, sum_by-set, sum_by-cons, slice_get_within, get_or_from_slice_get}
use Rattle.art_core.proofs.Common.{none-some, same_Some, zip_left, Call, Invoke, Answer, AreBelow, Shape, opening, table_words, Variant, Point}
use Rattle.art_core.proofs.Common.{act, word_of, Turn, Asks, Answers, act-stays, Process, Plan, State, Move, Invokes, Makes, Responds, begun}
use Rattle.art_core.proofs.Common.{moved, word_of_move, after_move, idle, opened, opened_on, history_of, move_of, invoked, next_in, next_call}
use Rattle.art_core.proofs.Common.{next_move, move_from, invocation, moved_by, step_of, step, run_on, StartsOn, start_plan, IsPlan}
use Rattle.std.proofs.Common.{◌==◌, ◌&&◌, ne_eqb, IsTrue, sum}
use Rattle.std.specs.Prelude.{◌⊎◌, nat_lt, nat_le}
use Rattle.std.proofs.lemmas.Bool.{lt-leb, lt-ltb, le-leb}
use Rattle.std.proofs.lemmas.List.{length-replicate, map-set}
use Rattle.std.proofs.lemmas.List.Folds.{sum_by-replicate}
use Rattle.std.proofs.lemmas.Nat.{mod-mul-add}
use Rattle.events.proofs.Lists.{All-at}
use Rattle.events.specs.declared.event.Call.TheVariants.{Get, Insert, Remove, Scan, Replace}
use Rattle.events.specs.declared.event.Reply.{Reply}
use Rattle.events.specs.declared.event.Event.{Event}
use Rattle.events.specs.Events.{process_of, is_invocation}
use Rattle.events.specs.Histories.{AreHistoryEvents, has_range, call_count, pair_count}
use Rattle.events.specs.HistoryFaults.{has_open_call, fault_after}
use Rattle.events.specs.Limits.{call_limit, pair_limit, process_limit}
use Rattle.events.proofs.HistoryLemmas.{AreHistoryEvents-push, has_open_call-push, call_count-push}
use Rattle.events.specs.Logs.{events_by_stamp, history_of_logs}
use Rattle.events.proofs.GrowthLemmas.{history-push, below-push}
use Rattle.map_object.specs.MapObject.{Contents}
use Rattle.art_rows.specs.declared.access.Access.{Access}
use Rattle.art_rows.specs.TreeCalls.{is_tree_call}
use Rattle.art_rows.proofs.AccessLemmas.{act-small}
use Rattle.art_core.specs.Runs.{HasFewSteps}
use Rattle.art_core.specs.Claims.{LogsAreHistory}
use Rattle.art_core.proofs.RunLemmas.{begun-more}

mod-small : (a w : ℕ) → a < w → a % w ≡ a
mod-small a w h = ap (λ x. x % w) (omega arith) ∙ mod-mul-add 0 w a h

-- Lists with one item changed.

sum-changed : {A : Type 0} (f : A → ℕ) (xs : List A) (p : ℕ) (x y : A) → slice_get xs p ≡ Some x
    → sum (map f (slice_set xs p y)) + f x ≡ sum (map f xs) + f y
sum-changed f xs p x y h =
    let within = slice_get_within xs p x h in
    let e = sum_by-set f xs p y x within in
    let at = ap f (get_or_from_slice_get xs p x x h) in
    omega (arith, e, at, sum-map f (slice_set xs p y), sum-map f xs)

pub map-same : {A B : Type 0} (f : A → B) (xs : List A) (p : ℕ) (x y : A) → slice_get xs p ≡ Some x → f y ≡ f x
    → map f (slice_set xs p y) ≡ map f xs
map-same f [] p x y h e = refl
map-same f (z ∷ zs) zero x y h e = ap (λ b. b ∷ map f zs) (e ∙ sym (ap f (same_Some z x h)))
map-same f (z ∷ zs) (suc p) x y h e = ap (λ bs. f z ∷ bs) (map-same f zs p x y h e)

zip-set : {A B : Type 0} (R : A → B → Type 0) (xs : List A) (ys : List B) (p : ℕ) (x : A) → AllZip R xs ys
    → ((y : B) → slice_get ys p ≡ Some y → R x y) → AllZip R (slice_set xs p x) ys
zip-set R [] ys p x h new = h
zip-set R (z ∷ zs) [] p x h new = absurd h
zip-set R (z ∷ zs) (y ∷ ys) zero x h new = (new y refl, h.1)
zip-set R (z ∷ zs) (y ∷ ys) (suc p) x h new = (h.0, zip-set R zs ys p x h.1 new)

zip-length : {A B : Type 0} (R : A → B → Type 0) (xs : List A) (ys : List B) → AllZip R xs ys → length xs ≡ length ys
zip-length R [] [] h = refl
zip-length R [] (y ∷ ys) h = absurd h
zip-length R (x ∷ xs) [] h = absurd h
zip-length R (x ∷ xs) (y ∷ ys) h = ap suc (zip-length R xs ys h.1)

suc-other : (i p : ℕ) → (i ≡ p → ⊥) → suc i ≡ suc p → ⊥
suc-other i p h e = h (omega arith)

pub changed-at : {A : Type 0} (xs : List A) (p : ℕ) (x : A) (i : ℕ) (a : A) → slice_get (slice_set xs p x) i ≡ Some a
    → ((i ≡ p) × (a ≡ x)) ⊎ ((i ≡ p → ⊥) × (slice_get xs i ≡ Some a))
changed-at [] p x i a h = absurd (none-some a h)
changed-at (z ∷ zs) zero x zero a h = inl (refl, sym (same_Some x a h))
changed-at (z ∷ zs) zero x (suc i) a h = inr (λ e. omega arith, h)
changed-at (z ∷ zs) (suc p) x zero a h = inr (λ e. omega arith, h)
changed-at (z ∷ zs) (suc p) x (suc i) a h = elim (changed-at zs p x i a h) [
  | inl t ↦ inl (ap suc t.0, t.1)
  | inr t ↦ inr (suc-other i p t.0, t.1)
]

-- What holds of each state that a schedule gives, after few steps.

abbrev pub has_begun : Process → List Call → Type 0
has_begun q script = length (begun q) ≤ length script

abbrev pub logged : List Process → List Event
logged ps = history_of_logs (map (λ q. q.log) ps)

pub record IsLogged (plan : Plan) (s : State) : Type 0 where
  pub table : length s.words ≡ table_words plan.shape
  pub scripts : AllZip has_begun s.processes plan.scripts
  pub clock : slice_index s.words 0 ≤ sum (map (λ q. q.steps) s.processes)
  pub stamps : AreBelow (slice_index s.words 0) (flat_map (λ log. log) (map (λ q. q.log) s.processes))
  pub calls : call_count (logged s.processes) ≡ sum (map (λ q. length (begun q)) s.processes)
  pub opens : (i : ℕ) (q : Process) → slice_get s.processes i ≡ Some q → has_open_call i (logged s.processes) ≡ is_some q.call
  pub history : AreHistoryEvents (logged s.processes)

pub calls-within : (processes : List Process) (scripts : List (List Call)) → AllZip has_begun processes scripts
    → sum (map (λ q. length (begun q)) processes) ≤ sum (map (λ script. length script) scripts)
calls-within processes scripts h =
    subst (λ n. n ≤ sum (map (λ script. length script) scripts)) (sym (sum-map (λ q. length (begun q)) processes))
    (subst (λ n. sum_by (λ q. length (begun q)) processes ≤ n) (sym (sum-map (λ script. length script) scripts)) (go processes scripts h))
  where
    go : (ps : List Process) (ss : List (List Call)) → AllZip has_begun ps ss
        → sum_by (λ q. length (begun q)) ps ≤ sum_by (λ script. length script) ss
    go [] [] k = omega arith
    go [] (y ∷ ys) k = absurd k
    go (x ∷ xs) [] k = absurd k
    go (x ∷ xs) (y ∷ ys) k =
        let first : length (begun x) ≤ length y = k.0 in
        let rest = go xs ys k.1 in
        omega (arith, sum_by-cons (λ q. length (begun q)) x xs, sum_by-cons (λ script. length script) y ys)

-- A stamp is drawn for an event in which nothing is wrong.

record IsDrawn (plan : Plan) (p : ℕ) (q q' : Process) (n : ℕ) (e : Event) : Type 0 where
  of_process : process_of e ≡ p
  log : q'.log ≡ q.log ++ (n, e) ∷ []
  call : is_some q'.call ≡ is_invocation e
  begins : length (begun q') ≡ length (begun q) + cond (is_invocation e) 1 0
  within : (script : List Call) → slice_get plan.scripts p ≡ Some script → length (begun q') ≤ length script
  steps : q'.steps ≡ q.steps + 1

module _ (plan : Plan) (s : State) (p : ℕ) (q q' : Process) (h : IsLogged plan s) (here : slice_get s.processes p ≡ Some q)
    (few : slice_index s.words 0 + 1 < 2 ^ 64) where
  abbrev n : ℕ
  n = slice_index s.words 0

  abbrev clocked : List ℕ
  clocked = slice_set s.words 0 ((n + 1) % 2 ^ 64)

  its-log : slice_get (map (λ q. q.log) s.processes) p ≡ Some q.log
  its-log = get-map s.processes p here
    where
      get-map : (ps : List Process) (i : ℕ) → slice_get ps i ≡ Some q → slice_get (map (λ q. q.log) ps) i ≡ Some q.log
      get-map [] i e = absurd (none-some q e)
      get-map (x ∷ xs) zero e = ap (λ q. Some q.log) (same_Some x q e)
      get-map (x ∷ xs) (suc i) e = get-map xs i e

  ticks : slice_index clocked 0 ≡ n + 1
  ticks =
      let some : 0 < length s.words = omega (arith, h.table) in
      get_or-set_same s.words 0 ((n + 1) % 2 ^ 64) 0 some ∙ mod-small (n + 1) (2 ^ 64) few

  module _ (e : Event) (d : IsDrawn plan p q q' n e) (sound : fault_after (logged s.processes) e ≡ None) where
    logs-are : map (λ q. q.log) (slice_set s.processes p q') ≡ slice_set (map (λ q. q.log) s.processes) p (q.log ++ (n, e) ∷ [])
    logs-are = map-set (λ q. q.log) s.processes p q' ∙ ap (λ log. slice_set (map (λ q. q.log) s.processes) p log) d.log

    more : logged (slice_set s.processes p q') ≡ logged s.processes ++ e ∷ []
    more = ap history_of_logs logs-are ∙ history-push (map (λ q. q.log) s.processes) p q.log (n, e) its-log h.stamps

    opens-more : (i : ℕ) (r : Process) → slice_get (slice_set s.processes p q') i ≡ Some r
        → has_open_call i (logged s.processes ++ e ∷ []) ≡ is_some r.call
    opens-more i r at = has_open_call-push i (logged s.processes) e ∙ elim (changed-at s.processes p q' i r at) [
      | inl t ↦ let own : (process_of e == i) ≡ true = eq-eqb (process_of e) i (d.of_process ∙ sym t.0) in
          rw own (sym (ap (λ r. is_some r.call) t.1 ∙ d.call))
      | inr t ↦ let other : (process_of e == i) ≡ false = ne_eqb (process_of e) i (λ same. t.0 (sym same ∙ d.of_process)) in
          rw other (h.opens i r t.1)
    ]

    draws : IsLogged plan (record { words = clocked; processes = slice_set s.processes p q' })
    draws = record {
      table = length-set s.words 0 ((n + 1) % 2 ^ 64) ∙ h.table;
      scripts = zip-set has_begun s.processes plan.scripts p q' h.scripts d.within;
      clock = omega (arith, ticks, h.clock, d.steps, sum-changed (λ q. q.steps) s.processes p q q' here);
      stamps = subst (λ k. AreBelow k (flat_map (λ log. log) (map (λ q. q.log) (slice_set s.processes p q')))) (sym ticks)
          (subst (λ logs. AreBelow (n + 1) (flat_map (λ log. log) logs)) (sym logs-are)
          (below-push (map (λ q. q.log) s.processes) p q.log (n, e) its-log h.stamps (n + 1) (omega arith)));
      calls = ap call_count more
          ∙ (call_count-push (logged s.processes) e
          ∙ omega (arith, h.calls, d.begins, sum-changed (λ q. length (begun q)) s.processes p q q' here));
      opens = λ i r at. ap (has_open_call i) more ∙ opens-more i r at;
      history = subst AreHistoryEvents (sym more) (AreHistoryEvents-push (logged s.processes) e h.history sound);
    }

  -- An access leaves the clock and the logs.
  module _ (word value : ℕ) (elsewhere : 0 < word) (log : q'.log ≡ q.log) (call : q'.call ≡ q.call) (steps : q'.steps ≡ q.steps + 1) where
    same : logged (slice_set s.processes p q') ≡ logged s.processes
    same = ap history_of_logs (map-same (λ q. q.log) s.processes p q q' here log)

    same-begun : begun q' ≡ begun q
    same-begun = ap (λ log. filter_map (λ e. invoked e.1) log) log

    stands : slice_index (slice_set s.words word value) 0 ≡ n
    stands = let other : 0 ≢ word = λ e. omega arith in get_or-set_other s.words word 0 value 0 other

    accesses : IsLogged plan (record { words = slice_set s.words word value; processes = slice_set s.processes p q' })
    accesses = record {
      table = length-set s.words word value ∙ h.table;
      scripts = zip-set has_begun s.processes plan.scripts p q' h.scripts
          (λ script at. subst (λ b. length b ≤ length script) (sym same-begun) (its-script script at));
      clock = omega (arith, stands, h.clock, steps, sum-changed (λ q. q.steps) s.processes p q q' here);
      stamps = subst (λ k. AreBelow k (flat_map (λ log. log) (map (λ q. q.log) (slice_set s.processes p q')))) (sym stands)
          (subst (λ logs. AreBelow n (flat_map (λ log. log) logs)) (sym (map-same (λ q. q.log) s.processes p q q' here log)) h.stamps);
      calls = ap call_count same
          ∙ (h.calls ∙ sym (ap (λ ns. sum ns) (map-same (λ q. length (begun q)) s.processes p q q' here (ap (λ b. length b) same-begun))));
      opens = λ i r at. ap (has_open_call i) same ∙ elim (changed-at s.processes p q' i r at) [
        | inl t ↦ subst (λ j. has_open_call j (logged s.processes) ≡ is_some r.call) (sym t.0)
            (h.opens p q here ∙ sym (ap (λ r. is_some r.call) t.1 ∙ ap (λ o. is_some o) call))
        | inr t ↦ h.opens i r t.1
      ];
      history = subst AreHistoryEvents (sym same) h.history;
    }
      where
        its-script : (script : List Call) → slice_get plan.scripts p ≡ Some script → length (begun q) ≤ length script
        its-script script at =
            let z = zip_left has_begun s.processes plan.scripts p q h.scripts here in
            subst (λ l. length (begun q) ≤ length l) (same_Some z.0 script (sym z.1 ∙ at)) z.2

-- Each move keeps it.

has-range : (call : Call) → IsTrue (is_tree_call call) → has_range call ≡ true
has-range (Get key) h = refl
has-range (Insert key value) h = refl
has-range (Remove key) h = refl
has-range (Replace key old new) h = refl
has-range (Scan low high) h = and-left (nat_le low high) _ h
  where
    and-left : (a b : Bool) → IsTrue (a && b) → a ≡ true
    and-left true b k = refl
    and-left false b k = absurd (no k)
      where
        no : IsTrue false → ⊥
        no x = cc

module _ (plan : Plan) (within : IsPlan plan) (s : State) (p : ℕ) (q : Process) (h : IsLogged plan s)
    (here : slice_get s.processes p ≡ Some q)
    (few : slice_index s.words 0 + 1 < 2 ^ 64) where
  abbrev now : ℕ
  now = slice_index s.words 0

  known : nat_lt p process_limit ≡ true
  known = let below = slice_get_within s.processes p q here in
      lt-ltb p process_limit (omega (arith, zip-length has_begun s.processes plan.scripts h.scripts, within.few_scripts))

  invokes : (call : Call) → q.call ≡ None → next_call plan p q ≡ Some call → IsLogged plan (moved s p q (Invokes call))
  invokes call idle next = draws plan s p q (after_move p (Invokes call) now q) h here few (Invoke p call) drawn sound
    where
      its-script : (o : Option (List Call)) → slice_get plan.scripts p ≡ o → next_in o (length (begun q)) ≡ Some call
          → (script : List Call) × (slice_get plan.scripts p ≡ Some script) × (slice_get script (length (begun q)) ≡ Some call)
      its-script None e k = absurd (none-some call k)
      its-script (Some script) e k = (script, e, k)

      script : (script : List Call) × (slice_get plan.scripts p ≡ Some script) × (slice_get script (length (begun q)) ≡ Some call)
      script = its-script (slice_get plan.scripts p) refl next

      is-call : IsTrue (is_tree_call call)
      is-call = All-at (λ call. IsTrue (is_tree_call call)) script.0 (length (begun q)) call
          (All-at (λ script. All (λ call. IsTrue (is_tree_call call)) script) plan.scripts p script.0 within.calls script.1) script.2

      one-more : length (begun (after_move p (Invokes call) now q)) ≡ length (begun q) + 1
      one-more = ap (λ l. length l) (begun-more q (now, Invoke p call)) ∙ length-append (begun q) (call ∷ [])

      drawn : IsDrawn plan p q (after_move p (Invokes call) now q) now (Invoke p call)
      drawn = record {
        of_process = refl;
        log = refl;
        call = refl;
        begins = one-more;
        within = λ other at. subst (λ l. length (begun (after_move p (Invokes call) now q)) ≤ length l)
            (same_Some script.0 other (sym script.1 ∙ at))
            (let below = slice_get_within script.0 (length (begun q)) call script.2 in omega (arith, one-more));
        steps = refl;
      }

      room : call_count (logged s.processes) < call_limit
      room =
          let zip = zip-set has_begun s.processes plan.scripts p (after_move p (Invokes call) now q) h.scripts drawn.within in
          omega (
            arith,
            h.calls,
            one-more,
            sum-changed (λ q. length (begun q)) s.processes p q (after_move p (Invokes call) now q) here,
            calls-within (slice_set s.processes p (after_move p (Invokes call) now q)) plan.scripts zip,
            within.few_calls,
          )

      sound : fault_after (logged s.processes) (Invoke p call) ≡ None
      sound =
          let ranged : has_range call ≡ true = has-range call is-call in
          let own : nat_lt p process_limit ≡ true = known in
          let left : nat_le call_limit (call_count (logged s.processes)) ≡ false =
          lt-leb call_limit (call_count (logged s.processes)) room in
          let turn : has_open_call p (logged s.processes) ≡ false = h.opens p q here ∙ ap (λ o. is_some o) idle in
          rw (ranged, own, left, turn) refl

  responds : (call : Call) (reply : Reply) → q.call ≡ Some call → act plan.shape plan.variant call q.got ≡ Answers reply
      → IsLogged plan (moved s p q (Responds reply))
  responds call reply open-call answers = draws plan s p q (after_move p (Responds reply) now q) h here few (Answer p reply) drawn sound
    where
      as-many : length (begun (after_move p (Responds reply) now q)) ≡ length (begun q)
      as-many = ap (λ l. length l) (begun-more q (now, Answer p reply)) ∙ length-append (begun q) [] ∙ omega arith

      drawn : IsDrawn plan p q (after_move p (Responds reply) now q) now (Answer p reply)
      drawn = record {
        of_process = refl;
        log = refl;
        call = refl;
        begins = as-many ∙ omega arith;
        within = λ script at.
            let z = zip_left has_begun s.processes plan.scripts p q h.scripts here in
            subst (λ n. n ≤ length script) (sym as-many)
            (subst (λ l. length (begun q) ≤ length l) (same_Some z.0 script (sym z.1 ∙ at)) z.2);
        steps = refl;
      }

      sound : fault_after (logged s.processes) (Answer p reply) ≡ None
      sound =
          let own : nat_lt p process_limit ≡ true = known in
          let small : nat_le (pair_count reply) pair_limit ≡ true = le-leb (pair_count reply) pair_limit
          (act-small plan.shape plan.variant call within.shape.root q.got reply answers) in
          let turn : has_open_call p (logged s.processes) ≡ true = h.opens p q here ∙ ap (λ o. is_some o) open-call in
          rw (own, small, turn) refl

  makes : (call : Call) (a : Access) (point : Option Point) → act plan.shape plan.variant call q.got ≡ Asks a point
      → IsLogged plan (moved s p q (Makes a))
  makes call a point asks =
      let stays = act-stays plan.shape plan.variant call within.shape.root q.got a point asks in
      accesses plan s p q (after_move p (Makes a) (slice_index s.words (word_of a)) q) h here few (word_of a) _ stays.0 refl refl refl

  pub one-drawn : (o : Option Call) (m : Move) → q.call ≡ o → move_from plan p q o ≡ Some m → IsLogged plan (moved s p q m)
  one-drawn None m e k = begins (next_call plan p q) refl k
    where
      begins : (o : Option Call) → next_call plan p q ≡ o → invocation o ≡ Some m → IsLogged plan (moved s p q m)
      begins None f l = absurd (none-some m l)
      begins (Some call) f l = subst (λ m. IsLogged plan (moved s p q m)) (same_Some (Invokes call) m l) (invokes call e f)
  one-drawn (Some call) m e k = goes (act plan.shape plan.variant call q.got) refl k
    where
      goes : (t : Turn) → act plan.shape plan.variant call q.got ≡ t → ◌≡◌ {A = Option Move} (Some (move_of t)) (Some m)
          → IsLogged plan (moved s p q m)
      goes (Asks a point) f l = subst (λ m. IsLogged plan (moved s p q m)) (same_Some (Makes a) m l) (makes call a point f)
      goes (Answers reply) f l = subst (λ m. IsLogged plan (moved s p q m)) (same_Some (Responds reply) m l) (responds call reply e f)

-- a move after few steps
pub one-move : (plan : Plan) (within : IsPlan plan) (s : State) (p : ℕ) (q : Process) (h : IsLogged plan s)
    (here : slice_get s.processes p ≡ Some q)
    → sum (map (λ q. q.steps) s.processes) + 1 < 2 ^ 61
    → (o : Option Call) (m : Move) → q.call ≡ o → move_from plan p q o ≡ Some m → IsLogged plan (moved s p q m)
one-move plan within s p q h here few = let small : slice_index s.words 0 + 1 < 2 ^ 64 =
    omega (arith, h.clock) in one-drawn plan within s p q h here small

-- A step is a move of a process.

pub record IsMoved (plan : Plan) (s : State) (p : ℕ) (next : State) : Type 0 where
  pub process : Process
  pub here : slice_get s.processes p ≡ Some process
  pub move : Move
  pub is_next : next_move plan p process ≡ Some move
  pub is : next ≡ moved s p process move

pub is-moved : (plan : Plan) (s : State) (p : ℕ) (next : State) → step plan s p ≡ Some next → IsMoved plan s p next
unfolding step
is-moved plan s p next h = go (slice_get s.processes p) refl h
  where
    moves : (q : Process) → slice_get s.processes p ≡ Some q → (o : Option Move) → next_move plan p q ≡ o → moved_by s p q o ≡ Some next
        → IsMoved plan s p next
    moves q e None f k = absurd (none-some next k)
    moves q e (Some m) f k = record { process = q; here = e; move = m; is_next = f; is = sym (same_Some (moved s p q m) next k) }

    go : (o : Option Process) → slice_get s.processes p ≡ o → step_of plan s p o ≡ Some next → IsMoved plan s p next
    go None e k = absurd (none-some next k)
    go (Some q) e k = moves q e (next_move plan p q) refl k

abbrev pub all_steps : State → ℕ
all_steps s = sum (map (λ q. q.steps) s.processes)

steps-after : (p n : ℕ) (m : Move) (q : Process) → (after_move p m n q).steps ≡ q.steps + 1
steps-after p n (Invokes call) q = refl
steps-after p n (Makes a) q = refl
steps-after p n (Responds reply) q = refl

-- a step is one step more
pub one-step : (plan : Plan) (s : State) (p : ℕ) (next : State) → step plan s p ≡ Some next → all_steps next ≡ all_steps s + 1
one-step plan s p next h =
    let m = is-moved plan s p next h in
    let n = slice_index s.words (word_of_move m.move) in
    ap all_steps m.is
    ∙ omega (
      arith,
      steps-after p n m.move m.process,
      sum-changed (λ q. q.steps) s.processes p m.process (after_move p m.move n m.process) m.here,
    )

pub nowhere : (plan : Plan) (schedule : List ℕ) (s : State) → run_on plan None schedule ≡ Some s → ⊥
nowhere plan [] s h = none-some s h
nowhere plan (p ∷ schedule) s h = none-some s h

pub steps-rise : (plan : Plan) (schedule : List ℕ) (first s : State) → run_on plan (Some first) schedule ≡ Some s
    → all_steps first ≤ all_steps s
steps-rise plan [] first s h = let same = ap all_steps (same_Some first s h) in omega arith
steps-rise plan (p ∷ schedule) first s h = go (step plan first p) refl (steps-rise plan schedule) h
  where
    go : (o : Option State) → step plan first p ≡ o
        → ((next s : State) → run_on plan (Some next) schedule ≡ Some s → all_steps next ≤ all_steps s)
        → run_on plan o schedule ≡ Some s → all_steps first ≤ all_steps s
    go None e later k = absurd (nowhere plan schedule s k)
    go (Some next) e later k = let rest = later next s k in omega (arith, one-step plan first p next e)

-- Each state of a schedule is logged, the opening one first.

pub logged-on : (plan : Plan) → IsPlan plan → (schedule : List ℕ) (first s : State) → IsLogged plan first
    → run_on plan (Some first) schedule ≡ Some s
    → HasFewSteps s → IsLogged plan s
logged-on plan within [] first s h gives few = subst (IsLogged plan) (same_Some first s gives) h
logged-on plan within (p ∷ schedule) first s h gives few = go (step plan first p) refl (λ next. logged-on plan within schedule next s) gives
  where
    go : (o : Option State) → step plan first p ≡ o
        → ((next : State) → IsLogged plan next → run_on plan (Some next) schedule ≡ Some s → HasFewSteps s → IsLogged plan s)
        → run_on plan o schedule ≡ Some s → IsLogged plan s
    go None e later k = absurd (nowhere plan schedule s k)
    go (Some next) e later k =
        let m = is-moved plan first p next e in
        let bound = steps-rise plan schedule next s k in
        let fewer : all_steps first + 1 < 2 ^ 61 = omega (arith, one-step plan first p next e) in
        later next (subst (IsLogged plan) (sym m.is)
        (one-move plan within first p m.process h m.here fewer m.process.call m.move refl m.is_next)) k few

pub no-logs : (n : ℕ) → flat_map (λ log. log) (map (λ q. q.log) (replicate n idle)) ≡ []
no-logs zero = refl
no-logs (suc n) = no-logs n

none-begun : (scripts : List (List Call)) → AllZip has_begun (replicate (length scripts) idle) scripts
none-begun [] = tt
none-begun (script ∷ scripts) = (omega arith, none-begun scripts)

pub all-idle : (n i : ℕ) (q : Process) → slice_get (replicate n idle) i ≡ Some q → q ≡ idle
all-idle zero i q e = absurd (none-some q e)
all-idle (suc n) zero q e = sym (same_Some idle q e)
all-idle (suc n) (suc i) q e = all-idle n i q e

sum-none : (f : Process → ℕ) (n : ℕ) → f idle ≡ 0 → sum (map f (replicate n idle)) ≡ 0
sum-none f n e = sum-map f (replicate n idle) ∙ (sum_by-replicate f n idle ∙ (ap (λ k. n * k) e ∙ omega arith))

-- before the first step, on words of the table with the clock at 0
pub opened-logged : (plan : Plan) (words : List ℕ) → length words ≡ table_words plan.shape → slice_index words 0 ≡ 0
    → IsLogged plan (opened_on plan words)
opened-logged plan words long zeroed =
    let n = length plan.scripts in
    let none : logged (replicate n idle) ≡ [] = ap events_by_stamp (no-logs n) in
    record {
      table = long;
      scripts = none-begun plan.scripts;
      clock = subst (λ k. k ≤ sum (map (λ q. q.steps) (replicate n idle))) (sym zeroed) (omega arith);
      stamps = subst (AreBelow _) (sym (no-logs n)) tt;
      calls = ap call_count none ∙ sym (sum-none (λ q. length (begun q)) n refl);
      opens = λ i q at. ap (has_open_call i) none ∙ sym (ap (λ q. is_some q.call) (all-idle n i q at));
      history = subst AreHistoryEvents (sym none) (record { shaped = refl; small = refl; calls = omega arith; well_formed = λ p. refl });
    }

-- A step changes words and processes, and not how many there are.

pub step-lengths : (plan : Plan) (s : State) (p : ℕ) (next : State) → step plan s p ≡ Some next
    → (length next.words ≡ length s.words) × (length next.processes ≡ length s.processes)
step-lengths plan s p next h =
    let m = is-moved plan s p next h in (
      ap (λ t. length t.words) m.is ∙ length-set s.words (word_of_move m.move) _,
      ap (λ t. length t.processes) m.is ∙ length-set s.processes p _,
    )

pub run-lengths : (plan : Plan) (schedule : List ℕ) (first s : State) → run_on plan (Some first) schedule ≡ Some s
    → (length s.words ≡ length first.words) × (length s.processes ≡ length first.processes)
run-lengths plan [] first s h = let same = sym (same_Some first s h) in (ap (λ t. length t.words) same, ap (λ t. length t.processes) same)
run-lengths plan (p ∷ schedule) first s h = go (step plan first p) refl (run-lengths plan schedule) h
  where
    go : (o : Option State) → step plan first p ≡ o
        → ((next s : State) → run_on plan (Some next) schedule ≡ Some s
        → (length s.words ≡ length next.words) × (length s.processes ≡ length next.processes))
        → run_on plan o schedule ≡ Some s → (length s.words ≡ length first.words) × (length s.processes ≡ length first.processes)
    go None e later k = absurd (nowhere plan schedule s k)
    go (Some next) e later k =
        let rest = later next s k in
        let here = step-lengths plan first p next e in
        (rest.0 ∙ here.0, rest.1 ∙ here.1)

pub opening-length : (shape : Shape) → length (opening shape) ≡ table_words shape
opening-length shape =
    length-set (slice_set (replicate (table_words shape) 0) 4 1) _ 3
    ∙ (length-set (replicate (table_words shape) 0) 4 1 ∙ length-replicate (table_words shape) 0)

pub start-length : (shape : Shape) (variant : Variant) (start : Contents) (words : List ℕ) → StartsOn shape variant start words
    → length words ≡ table_words shape
start-length shape variant start words h =
    let plan = start_plan shape variant start in
    ap (λ w. length w) h.leaves
    ∙ (length-set h.state.words 0 0 ∙ ((run-lengths plan h.inserted.schedule (opened plan) h.state h.inserted.gives).0
    ∙ opening-length shape))

pub start-clock : (shape : Shape) (variant : Variant) (start : Contents) (words : List ℕ) → StartsOn shape variant start words
    → slice_index words 0 ≡ 0
start-clock shape variant start words h = ap (λ w. slice_index w 0) h.leaves ∙ at-zero h.state.words
  where
    at-zero : (ws : List ℕ) → slice_index (slice_set ws 0 0) 0 ≡ 0
    at-zero [] = refl
    at-zero (w ∷ ws) = refl

pub logs-are-history : LogsAreHistory
unfolding history_of
logs-are-history plan start words schedule s run =
    let first = opened-logged plan words (start-length plan.shape plan.variant start words run.starts)
    (start-clock plan.shape plan.variant start words run.starts) in
    (logged-on plan run.within schedule (opened_on plan words) s first run.gives run.few_steps).history
