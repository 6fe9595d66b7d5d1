-- The passes of all processes after their scripts, and the history that they make.
use Rattle.running.proofs.Common.{◌≡◌, ℕ, ◌<◌, Bool, true, false, List, [], ◌∷◌, length, map, Ok, Err, inl, inr, refl, sym, ap, ◌∙◌, arith}
use Rattle.running.specs.Drives.{invoked}
use Rattle.running.proofs.Common.{subst, All, Contains, Result, IfOk, flat_map, slice_get, slice_index_or, list_all, range_with_len, and_parts}
use Rattle.running.proofs.Common.{lt-ltb}
use Rattle.running.proofs.Common.{ltb-true, cases_lt, get_or-map, length-map, All-head, All-tail, All-cons, All-nil, All-weaker, All-contains}
use Rattle.running.proofs.Common.{get_or-range_with_len, length-range_with_len, slice_get-get_or, get_or_from_slice_get, slice_get_within, same_Some}
use Rattle.running.proofs.Common.{slice_get-below, Call, Reply, Event, Memory, process_of, events_of, ends_waiting, with_no_start, by_stamp, Pass}
use Rattle.running.proofs.Common.{process_number, log_of, events_by, processes_of, IsPassOf, HasProcesses, HasFinished, IsDriveOf}
use Rattle.running.proofs.Common.{AreOwn, AnswersFit, HasRecordedScript, IsPassAfter, EachIsAfter, AreAfter}
use Rattle.std.proofs.Common.{nat_lt, Some}
use Rattle.std.proofs.lemmas.List.Concat.{flat_map-cons}
use Rattle.std.proofs.lemmas.List.Folds.{list_all-append, list_all-map}
use Rattle.events.proofs.MergeLemmas.{all-by_stamp}
use Rattle.recorder.specs.declared.recorders.Recorder.{Recorder}
use Rattle.recorder.specs.Recorders.{HasOwnEvents, history_of}
use Rattle.recorder.specs.Closing.{IsOneOfEach}
use Rattle.running.proofs.ScriptLemmas.{own-events}
use Rattle.running.proofs.AnswerLemmas.{events_of-none, AreAnswered-own}

-- two facts of a value, if there is one, give a third
pub both-of : {A E : Type 0} (r : Result A E) (P Q S : A → Type 0) → ((a : A) → P a → Q a → S a) → IfOk r P → IfOk r Q → IfOk r S
both-of (Ok a) P Q S h p q = h a p q
both-of (Err e) P Q S h p q = tt

-- a function of the item at a place
pub at-mapped : {X Y : Type 0} (f : X → Y) (xs : List X) (i : ℕ) (x : X) → i < length xs → x ≡ slice_index_or xs i x
    → slice_get (map f xs) i ≡ Some (f x)
at-mapped f xs i x within is =
    let inside : i < length (map f xs) = omega (arith, within, length-map xs f) in
    slice_get-get_or (map f xs) i (f x) inside ∙ ap Some (get_or-map f xs i x (f x) within ∙ ap f (sym is))

-- the number of the process of the pass at a place
pub process-at : (passes : List Pass) (n i : ℕ) (x : Pass) → map process_number passes ≡ range_with_len 0 n → i < length passes
    → x ≡ slice_index_or passes i x
    → process_number x ≡ i
process-at passes n i x numbers within is =
    let many : length passes ≡ n = omega (arith, ap length numbers, length-map passes process_number, length-range_with_len 0 n) in
    let here = get_or-map process_number passes i x 0 within in
    let there = get_or-range_with_len 0 n i 0 (omega arith) in
    let same = ap (λ l. slice_index_or l i 0) numbers in
    omega (arith, ap process_number is, here, same, there)

-- a process did its own of the scripts
pub after-script : (may_answer : Call → Reply → Type 0) (r : Recorder) (scripts : List (List Call)) (script : List Call) (n : ℕ)
    (done : Result Pass Memory)
    → slice_get scripts n ≡ Some script → IfOk done (IsPassOf r) → IfOk done (λ p. process_number p ≡ n)
    → IfOk done (HasRecordedScript may_answer script)
    → IfOk done (IsPassAfter may_answer r scripts n)
after-script may_answer r scripts script n (Ok p) at own process recorded = record {
  own = own;
  process_is = process;
  recorded = λ other there. subst (λ s. HasRecordedScript may_answer s p) (same_Some script other (sym at ∙ there)) recorded;
}
after-script may_answer r scripts script n (Err e) at own process recorded = tt

abbrev pub Ok-pass : Pass → Result Pass Memory
Ok-pass pass = Ok pass

pub length-values : (done : List (Result Pass Memory)) (passes : List Pass) → done ≡ map (λ pass. Ok pass) passes
    → length done ≡ length passes
length-values done passes all = ap length all ∙ length-map passes Ok-pass

-- what all processes gave back, if memory ran out in none
pub each-pass : (may_answer : Call → Reply → Type 0) (r : Recorder) (scripts : List (List Call)) (done : List (Result Pass Memory))
    (passes : List Pass)
    → EachIsAfter may_answer r scripts done → done ≡ map (λ pass. Ok pass) passes
    → AreAfter may_answer r scripts passes
each-pass may_answer r scripts done passes each all process d within =
    let inside : process < length done = let many = length-values done passes all in omega arith in
    let is : slice_index_or done process (Ok d) ≡ Ok (slice_index_or passes process d) =
    ap (λ l. slice_index_or l process (Ok d)) all ∙ get_or-map (λ pass. Ok pass) passes process d (Ok d) within in
    subst (λ o. IfOk o (IsPassAfter may_answer r scripts process)) is (each process (Ok d) inside)

-- what all items pass
list_all-from_All : {X : Type 0} (f : X → Bool) (xs : List X) → All (λ x. f x ≡ true) xs → list_all f xs ≡ true
list_all-from_All f [] h = refl
list_all-from_All f (x ∷ xs) h = rw (All-head (λ x. f x ≡ true) x xs h) (list_all-from_All f xs (All-tail (λ x. f x ≡ true) x xs h))

All-from_list_all : {X : Type 0} (f : X → Bool) (xs : List X) → list_all f xs ≡ true → All (λ x. f x ≡ true) xs
All-from_list_all f [] h = All-nil (λ x. f x ≡ true)
All-from_list_all f (x ∷ xs) h =
    let parts = and_parts (f x) (list_all f xs) h in All-cons (λ x. f x ≡ true) x xs parts.0 (All-from_list_all f xs parts.1)

-- Events of processes below a number, in all logs and in their history.

module _ (n : ℕ) where
  abbrev is_known : Event → Bool
  is_known e = nat_lt (process_of e) n

  log-known : (p : Pass) → AreOwn p → process_number p < n → list_all (λ e. is_known e.1) (log_of p) ≡ true
  log-known p own below =
      sym (list_all-map is_known (λ e. e.1) (log_of p))
      ∙ list_all-from_All is_known (events_by p)
      (All-weaker (λ e. process_of e ≡ process_number p) (λ e. is_known e ≡ true)
      (λ e same. lt-ltb (process_of e) n (omega arith)) (events_by p) own)

  logs-known : (passes : List Pass) → All (λ p. AreOwn p × (process_number p < n)) passes
      → list_all (λ e. is_known e.1) (flat_map (λ log. log) (map log_of passes)) ≡ true
  logs-known [] h = refl
  logs-known (p ∷ passes) h =
      let here = All-head (λ p. AreOwn p × (process_number p < n)) p passes h in
      let rest = logs-known passes (All-tail (λ p. AreOwn p × (process_number p < n)) p passes h) in
      ap (list_all (λ e. is_known e.1)) (flat_map-cons (λ log. log) (log_of p) (map log_of passes))
      ∙ (list_all-append (λ e. is_known e.1) (log_of p) (flat_map (λ log. log) (map log_of passes))
      ∙ rw (log-known p here.0 here.1, rest) refl)

  -- in the history of passes of processes below n, each event is of such a process
  pub history-known : (passes : List Pass) → All (λ p. AreOwn p × (process_number p < n)) passes
      → All (λ e. process_of e < n) (history_of passes)
  history-known passes h =
      let all = flat_map (λ log. log) (map log_of passes) in
      All-weaker (λ e. is_known e ≡ true) (λ e. process_of e < n) (λ e known. ltb-true (process_of e) n known) (history_of passes)
      (All-from_list_all is_known (history_of passes)
      (list_all-map is_known (λ e. e.1) (by_stamp all) ∙ all-by_stamp (λ e. is_known e.1) all (logs-known passes h)))

-- The passes of all processes, by process.

module _ (may_answer : Call → Reply → Type 0) (r : Recorder) (scripts : List (List Call)) (passes : List Pass)
    (each : AreAfter may_answer r scripts passes)
    (many : length passes ≡ length scripts) where
  pub are-own : All (IsPassOf r) passes
  are-own k d within = (each k d within).own

  -- each process has one
  pub one-of-each : processes_of r ≡ length scripts → IsOneOfEach r passes
  one-of-each processes = record { many = many ∙ sym processes; processes = there }
    where
      at-process : (d p : ℕ) → p < length (map process_number passes) → slice_index_or (map process_number passes) p d ≡ p
      at-process d p below =
          let within : p < length passes = omega (arith, below, length-map passes process_number) in
          let x = slice_get-below passes p within in
          get_or-map process_number passes p x.0 d within ∙ (each p x.0 within).process_is

      there : HasProcesses (processes_of r) passes
      there p below =
          let within : p < length (map process_number passes) = omega (arith, below, many, processes, length-map passes process_number) in (
            p,
            within,
            at-process p p within,
          )

  -- the pass of a process, with what it recorded
  pub pass-of : (p : ℕ) (script : List Call) → slice_get scripts p ≡ Some script → (x : Pass) × Contains passes x × (process_number x ≡ p)
      × HasRecordedScript may_answer script x
  pass-of p script at =
      let below : p < length passes = omega (arith, many, slice_get_within scripts p script at) in
      let there = slice_get-below passes p below in
      let here = each p there.0 below in
      let is : slice_index_or passes p there.0 ≡ there.0 = get_or_from_slice_get passes p there.0 there.0 there.1 in
      let after : IsPassAfter may_answer r scripts p there.0 = subst (IsPassAfter may_answer r scripts p) is here in
      (there.0, (p, below, is), after.process_is, after.recorded script at)

  -- all of it is known
  are-known : All (λ p. AreOwn p × (process_number p < length scripts)) passes
  are-known k d within =
      let below : k < length scripts = omega (arith, many, within) in
      let after = each k d within in
      let script = slice_get-below scripts k below in
      ((after.recorded script.0 script.1).own, let same = after.process_is in omega arith)

  -- the history is what is recorded of the scripts
  pub drive-of : HasOwnEvents passes → IsDriveOf may_answer scripts (with_no_start (history_of passes))
  drive-of own = record {
    start = refl;
    processes = history-known (length scripts) passes are-known;
    finished = finished;
    answered =
        AreAnswered-own may_answer (history_of passes) answers;
  }
    where
      its-events : (p : ℕ) (script : List Call) → slice_get scripts p ≡ Some script
          → (x : Pass) × (events_of p (history_of passes) ≡ events_by x) × (process_number x ≡ p) × HasRecordedScript may_answer script x
      its-events p script at =
          let pass = pass-of p script at in
          let x = pass.0 in (
            x,
            subst (λ q. events_of q (history_of passes) ≡ events_by x) pass.2
                (All-contains (λ p. events_of (process_number p) (history_of passes) ≡ events_by p) passes x own pass.1),
            pass.2,
            pass.3,
          )

      finished : (p : ℕ) (script : List Call) → slice_get scripts p ≡ Some script → HasFinished (history_of passes) p script
      finished p script at =
          let pass = its-events p script at in
          let x = pass.0 in
          let recorded = pass.3 in
          let kept : events_of p (events_by x) ≡ events_by x =
          subst (λ q. events_of q (events_by x) ≡ events_by x) pass.2 (own-events x recorded.own) in
          let same : events_of p (history_of passes) ≡ events_of p (events_by x) = pass.1 ∙ sym kept in
          let done : HasFinished (events_by x) p script = subst (λ q. HasFinished (events_by x) q script) pass.2 recorded.finished in
          record { calls = ap invoked same ∙ done.calls; completed = ap (ends_waiting false) same ∙ done.completed }

      -- a process that has no script has no events
      answers : (p : ℕ) → AnswersFit may_answer (events_of p (history_of passes))
      answers p = elim (cases_lt p (length scripts)) [
        | inr above ↦ rw (events_of-none (length scripts) p (history_of passes) (history-known (length scripts) passes are-known) above) tt
        | inl below ↦ let script = slice_get-below scripts p below in
            let pass = its-events p script.0 script.1 in
            subst (AnswersFit may_answer) (sym pass.1) pass.3.answered
      ]
