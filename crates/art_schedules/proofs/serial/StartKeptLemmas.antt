-- What stamps and calls that run alone keep, runs from starting pairs keep: the pairs were inserted by one process alone.
use Rattle.art_schedules.proofs.Common.{◌≡◌, ℕ, ◌+◌, ◌<◌, ◌≤◌, List, [], ◌∷◌, ◌++◌, length, arith, sym, ap, subst, ◌∙◌, append_assoc}
use Rattle.art_schedules.proofs.Common.{All, append-nil, length-map, All-nil, All-cons, All-head, All-tail, All-contains, All-from_contains, Call}
use Rattle.art_schedules.proofs.Common.{Insert, Reply, call_limit, operations, Contents, IsRising, after, after_reply, put, above, IsLegal}
use Rattle.art_schedules.proofs.Common.{after_calls, after_reply-answer, Shape, opening, IsWithinLimits, Variant, is_tree_call, Plan, State}
use Rattle.art_schedules.proofs.Common.{history_of, inserts, start_plan, IsPlan, IsSerial, IsRunOn, calls_in}
use Rattle.std.proofs.Common.{◌≢◌, IsTrue, map}
use Rattle.events.proofs.Lists.{AllPairs-across}
use Rattle.events.specs.declared.event.Reply.TheVariants as replies
use Rattle.map_object.specs.MapObject.{below}
use Rattle.map_object.proofs.MapLemmas.{below_gap, above_gap}
use Rattle.art_core.specs.Starts.{StartsOn}
use Rattle.art_core.specs.Plans.{IsRun}
use Rattle.art_core.proofs.HistoryLemmas.{opening-length, start-length, start-clock}
use Rattle.art_core.proofs.StartLemmas.{clock-at-zero}
use Rattle.art_schedules.proofs.serial.SoleProcessLemmas.{sole-runs-script}
use Rattle.art_schedules.proofs.serial.KeptLemmas.{Said, IsKept, after_done, run-keeps, serial-keeps}

-- Inserts by rising key.

first-call : {c d : Call} {cs ds : List Call} → c ∷ cs ≡ d ∷ ds → c ≡ d
first-call e = cc

later-calls : {c d : Call} {cs ds : List Call} → c ∷ cs ≡ d ∷ ds → cs ≡ ds
later-calls e = cc

no-calls : {c : Call} {cs : List Call} → c ∷ cs ≡ [] → ⊥
no-calls e = cc

some-call : {c : Call} {cs : List Call} → [] ≡ c ∷ cs → ⊥
some-call e = cc

-- a key above all others is inserted after them
put-last : (m : Contents) (key value : ℕ) (start : Contents) → IsRising (m ++ (key, value) ∷ start)
    → put key value m ≡ m ++ (key, value) ∷ []
put-last m key value start rising =
    let none = All-nil (λ (pair : ℕ × ℕ). key < pair.0) in
    let below-is : below key m ≡ m = ap (below key) (sym (append-nil m)) ∙ below_gap key m [] lower none in
    let above-is : above key m ≡ [] = ap (above key) (sym (append-nil m)) ∙ above_gap key m [] lower none in
    ap (λ l. l ++ (key, value) ∷ above key m) below-is ∙ ap (λ l. m ++ (key, value) ∷ l) above-is
  where
    lower : All (λ (pair : ℕ × ℕ). pair.0 < key) m
    lower = All-from_contains (λ (pair : ℕ × ℕ). pair.0 < key) m (λ pair in-it. All-head (λ (b : ℕ × ℕ). pair.0 < b.0) (key, value) start
        (All-contains (λ (a : ℕ × ℕ). All (λ (b : ℕ × ℕ). a.0 < b.0) ((key, value) ∷ start)) m pair
        (AllPairs-across (λ (a b : ℕ × ℕ). a.0 < b.0) m ((key, value) ∷ start) rising) in-it))

after-inserts : (m start : Contents) (done : List (Call × Reply)) → map (λ c. c.0) done ≡ inserts start
    → All (λ reply. reply ≢ replies.Refused) (map (λ c. c.1) done)
    → IsRising (m ++ start) → after_done m done ≡ m ++ start
after-inserts m [] [] calls accepted rising = sym (append-nil m)
after-inserts m [] (c ∷ done) calls accepted rising = absurd (no-calls calls)
after-inserts m ((key, value) ∷ start) [] calls accepted rising = absurd (some-call calls)
after-inserts m ((key, value) ∷ start) (c ∷ done) calls accepted rising =
    let answered = All-head (λ reply. reply ≢ replies.Refused) c.1 (map (λ c. c.1) done) accepted in
    let one : after_reply m c.0 c.1 ≡ m ++ (key, value) ∷ [] = after_reply-answer m c.0 c.1 answered
    ∙ (ap (after m) (first-call calls) ∙ put-last m key value start rising) in
    let same = append_assoc m ((key, value) ∷ []) start in
    ap (λ n. after_done n done) one
    ∙ (after-inserts (m ++ (key, value) ∷ []) start done (later-calls calls)
    (All-tail (λ reply. reply ≢ replies.Refused) c.1 (map (λ c. c.1) done) accepted) (subst IsRising (sym same) rising)
    ∙ same)

-- The plan of the inserts is within the limits.
pub start-within : (shape : Shape) (variant : Variant) (start : Contents) → IsWithinLimits shape
    → All (λ call. IsTrue (is_tree_call call)) (inserts start)
    → length start ≤ call_limit → IsPlan (start_plan shape variant start)
start-within shape variant start within calls few = record {
  shape = within;
  some_script = omega arith;
  few_scripts = omega arith;
  few_calls = omega (arith, length-map start (λ pair. Insert pair.0 pair.1));
  calls = All-cons (λ script. All (λ call. IsTrue (is_tree_call call)) script) (inserts start) [] calls
      (All-nil (λ script. All (λ call. IsTrue (is_tree_call call)) script));
}

module _ (claim : Said) where
  -- what is said of an empty table is said of one with the starting pairs
  pub start-keeps : (shape : Shape) (variant : Variant) (start : Contents) (words : List ℕ)
      → IsPlan (start_plan shape variant start) → IsRising start
      → StartsOn shape variant start words → IsKept shape variant claim → claim 0 (opening shape) [] → claim (length start) words start
  start-keeps shape variant start words within rising starts kept said =
      let plan = start_plan shape variant start in
      let i = starts.inserted in
      let run : IsRunOn plan (opening shape) i.schedule starts.state = record {
        within = within;
        table = opening-length shape;
        clock_zero = clock-at-zero shape;
        gives = i.gives;
        few_steps = i.few_steps;
      } in
      let sole = sole-runs-script shape variant (inserts start) (opening shape) i.schedule starts.state starts.process run
      i.is_process starts.all in
      let done = sole.0 in
      let h = sole.1 in
      let as-many : length done ≡ length start = sym (length-map done (λ c. c.0))
      ∙ (ap (λ l. length l) h.calls ∙ length-map start (λ pair. Insert pair.0 pair.1)) in
      let few : 0 + length done ≤ call_limit = omega (arith, h.alone.few, within.few_calls) in
      let k = run-keeps shape variant claim kept 0 (opening shape) [] said done starts.state.words h.alone.run h.alone.calls few in
      let pairs = after-inserts [] start done h.calls
      (subst (All (λ reply. reply ≢ replies.Refused)) (sym h.replies) starts.accepted) rising in
      let at-end : claim (length start) starts.state.words start =
      subst (λ n. claim n starts.state.words start) (omega (arith, as-many))
      (subst (claim (0 + length done) starts.state.words) pairs k.is_said) in
      subst (λ w. claim (length start) w start) (sym starts.leaves) (kept.resets (length start) starts.state.words start at-end)

-- The history of a serial run from starting pairs is legal, and what is said of an empty table stays so.
pub serial-run-keeps : (plan : Plan) (start : Contents) (words schedule : List ℕ) (s : State) (claim : Said)
    → IsRun plan start words schedule s
    → IsSerial (history_of s) → IsKept plan.shape plan.variant claim → claim 0 (opening plan.shape) []
    → IsLegal start (operations (history_of s))
    × claim (length start + length (operations (history_of s))) s.words (after_calls start (operations (history_of s)))
serial-run-keeps plan start words schedule s claim run serial kept said =
    let few : length start + calls_in plan ≤ call_limit = run.start_within.few in
    let within = start-within plan.shape plan.variant start run.within.shape run.start_within.calls (omega arith) in
    let started = start-keeps claim plan.shape plan.variant start words within run.start_within.rising run.starts kept said in
    let on : IsRunOn plan words schedule s = record {
      within = run.within;
      table = start-length plan.shape plan.variant start words run.starts;
      clock_zero = start-clock plan.shape plan.variant start words run.starts;
      gives = run.gives;
      few_steps = run.few_steps;
    } in
    serial-keeps plan words schedule s claim (length start) start on serial few kept started
