-- The history of an arena that closes after all processes did their scripts.
use Rattle.running.proofs.Common.{◌≡◌, ℕ, ◌^◌, ◌<◌, ◌⊎◌, inl, inr, ⊎_elim, false, List, [], ◌∷◌, ◌++◌, length, map, refl, sym, ap, ◌∙◌, arith}
use Rattle.std.proofs.Common.{Some}
use Rattle.running.proofs.Common.{subst, All, EachIndex, filter_map, slice_get, slice_index_or, range_with_len, get_or-map, length-map}
use Rattle.running.proofs.Common.{get_or-range_with_len, length-range_with_len, slice_get_within, slice_get-below, Call, Event, Invoke, Answer}
use Rattle.running.proofs.Common.{events_of, ends_waiting, HistoryView, Stamped, Process, begun, idle, Setup, View, Numbered, numbers_of}
use Rattle.running.proofs.Common.{HasOwnEvents}
use Rattle.running.proofs.Common.{HasFinished, HasStopped, most_calls, Arena, shows, opened_for, setup_with, IsHistoryOf, HoldsAll, IsHandedBack}
use Rattle.running.proofs.Common.{IsArenaDriveOf, IsLimited, IsLinearizableIn, HasAnsweredAll, HasStoppedIn, HasDone, HasDoneOwn, WantsMemory}
use Rattle.art_rows.specs.declared.table.Shape.{Shape}
use Rattle.art_rows.specs.declared.variant.Variant.{Variant}
use Rattle.art_core.specs.Core.{invoked}
use Rattle.running.specs.declared.group.Pass.{Pass}
use Rattle.running.specs.declared.fault.ArenaClose.{ArenaClose}
use Rattle.running.proofs.FewStepLemmas.{few-steps}
use Rattle.running.specs.Drives as drives
use Rattle.running.specs.declared.fault.ArenaClose.TheVariants as faults

-- the calls that are invoked in a log are those that its process began
calls-logged : (log : List Stamped) → drives.invoked (map (λ e. e.1) log) ≡ filter_map (λ e. invoked e.1) log
calls-logged [] = refl
calls-logged ((stamp, Invoke p call) ∷ log) = ap (λ l. call ∷ l) (calls-logged log)
calls-logged ((stamp, Answer p reply) ∷ log) = calls-logged log

-- if the events of a process are those of its log, it did in them what its log says
ended-in : (setup : Setup) (events : List Event) (p number limit : ℕ) (q : Process) (script : List Call)
    → events_of p events ≡ map (λ e. e.1) q.log
    → HasDone setup number limit script q
    → HasFinished events p script ⊎ HasStopped events p script
ended-in setup events p number limit q script its done =
    let calls : drives.invoked (events_of p events) ≡ begun q = ap drives.invoked its ∙ calls-logged q.log in
    ⊎_elim (λ (h : HasAnsweredAll script q). inl
    (record { calls = calls ∙ h.calls; completed = ap (ends_waiting false) its ∙ h.completed }))
    (λ (h : HasStoppedIn script q). inr (record {
      rest = h.rest;
      calls = ap (λ l. l ++ h.rest) calls ∙ h.calls;
      pending = ap
          (ends_waiting false) its ∙ h.pending;
    }))
    done.ended

-- the process at a place has its number
numbered-at : (xs : List Numbered) (n k : ℕ) (d : Numbered) → numbers_of xs ≡ range_with_len 0 n → k < length xs
    → (slice_index_or xs k d).0 ≡ k
numbered-at xs n k d numbers within =
    let many : length xs ≡ n = omega (arith, ap length numbers, length-map xs (λ (x : Numbered). x.0), length-range_with_len 0 n) in
    let here = get_or-map (λ (x : Numbered). x.0) xs k d 0 within in
    let there = get_or-range_with_len 0 n k 0 (omega arith) in
    let same = ap (λ l. slice_index_or l k 0) numbers in
    omega (arith, here, same, there)

module _ (WasPassed : ℕ → Type 0) (shape : Shape) (variant : Variant) (limit : ℕ) (scripts : List (List Call)) (v : View)
    (history : HistoryView)
    (gives : IsHistoryOf (setup_with shape variant (length scripts) (most_calls scripts)) v history)
    (own : HasOwnEvents (setup_with shape variant (length scripts) (most_calls scripts)) v history.events)
    (done : All (HasDoneOwn WasPassed (setup_with shape variant (length scripts) (most_calls scripts)) limit scripts) v.processes)
    (small : limit < 2 ^ 32)
    (order : IsLinearizableIn (setup_with shape variant (length scripts) (most_calls scripts)) v history) where
  many : length v.processes ≡ length scripts
  many = omega (arith, ap length own.numbers, length-map v.processes (λ (x : Numbered). x.0), length-range_with_len 0 (length scripts))

  number : (k : ℕ) (d : Numbered) → k < length v.processes → (slice_index_or v.processes k d).0 ≡ k
  number k d within = numbered-at v.processes (length scripts) k d own.numbers within

  -- the process at a place did the script there
  did : (k : ℕ) (d : Numbered) (script : List Call) → k < length v.processes → slice_get scripts k ≡ Some script
      → HasDone (setup_with shape variant (length scripts) (most_calls scripts)) (slice_index_or v.processes k d).0 limit script
      (slice_index_or v.processes k d).1
  did k d script within at = (done k d within).did script (ap (slice_get scripts) (number k d within) ∙ at)

  ended : (p : ℕ) (script : List Call) → slice_get scripts p ≡ Some script → HasFinished history.events p script
      ⊎ HasStopped history.events p script
  ended p script at =
      let within : p < length v.processes = omega (arith, many, slice_get_within scripts p script at) in
      let x = slice_index_or v.processes p (0, idle) in
      let its = own.each p (0, idle) within in
      ended-in (setup_with shape variant (length scripts) (most_calls scripts)) history.events p x.0 limit x.1 script
      (ap (λ n. events_of n history.events) (sym (number p (0, idle) within)) ∙ its)
      (did p (0, idle) script within at)

  limited : All (IsLimited (setup_with shape variant (length scripts) (most_calls scripts)) limit) v.processes
  limited k d within =
      let script = slice_get-below scripts k (omega (arith, many, within)) in
      (did k d script.0 within script.1).limited

  -- each passed the gate
  pub passed : EachIndex scripts WasPassed
  passed p within =
      let here : p < length v.processes = omega (arith, many, within) in
      subst WasPassed (number p (0, idle) here) (done p (0, idle) here).passed

  -- the history is one of a drive
  pub drive-of : IsArenaDriveOf shape variant limit scripts history
  drive-of = record {
    view = v;
    gives = gives;
    limited = limited;
    linearizable = λ is. order is
        (λ words. few-steps (setup_with shape variant (length scripts) (most_calls scripts)) limit v words small gives.within limited);
    processes = own.known;
    ended = ended;
  }

-- an arena whose group holds all processes was not closed only because memory ran out
pub memory-wanted : (a : Arena) (p : Pass) (fault : ArenaClose) → HoldsAll (opened_for a) (shows p) → IsHandedBack a p fault
    → WantsMemory fault
memory-wanted a p (faults.StillOut back given) all h = absurd (h.1 all)
memory-wanted a p (faults.Memory back given) all h = tt
