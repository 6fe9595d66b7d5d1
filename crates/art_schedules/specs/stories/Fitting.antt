-- Statuses that fit what is known of each open call of a full tree, by calm, and the steps that
-- keep them.
use Rattle.std.specs.Prelude.{◌≡◌, ◌≢◌, ℕ, ◌+◌, ◌≤◌, List, [], ◌∷◌, ◌++◌, length, take, slice_get, slice_index, Option, Some, None}
use Rattle.std.specs.Prelude.{◌==◌, if◌then◌else◌}
use Rattle.events.specs.declared.event.Call.{Call}
use Rattle.events.specs.declared.event.Reply.{Reply}
use Rattle.events.specs.declared.event.Reply.TheVariants as replies
use Rattle.events.specs.Limits.{pair_limit}
use Rattle.map_object.specs.MapObject.{Contents, Does}
use Rattle.art_rows.specs.declared.table.Shape.{Shape}
use Rattle.art_rows.specs.declared.access.Access.{Access}
use Rattle.art_rows.specs.declared.access.Point.{Point}
use Rattle.art_rows.specs.Steps.{Turn, Asks, Answers}
use Rattle.art_rows.specs.declared.variant.Variant.{Variant}
use Rattle.art_control_states.specs.Calls.{call_turn, call_after, call_begun}
use Rattle.art_control_states.specs.Stages.{setting}
use Rattle.art_core.specs.declared.process.Process.{Process}
use Rattle.art_core.specs.Accesses.{got_by, words_after}
use Rattle.art_core.specs.Core.{Plan, State, begun, next_call, opened_on}
use Rattle.art_core.specs.Plans.{IsRun}
use Rattle.art_core.specs.Meaning.{Means}
use Rattle.art_schedules.specs.trees.Trees.{IsAtRest}
use Rattle.art_schedules.specs.versions.Versions.{IsOpen, stage_of}
use Rattle.art_schedules.specs.calm.Calm.{calm_of, IsCalm}
use Rattle.art_schedules.specs.calm.Changes.{CalmStep, IsRunStep}
use Rattle.art_schedules.specs.changes.Effects.{Effect, pairs_after}
use Rattle.art_schedules.specs.changes.Courses.{TreeGoesOn}
use Rattle.art_schedules.specs.stories.Stories.{Status, Before, Found, Changed, HasNotChanged, HasReply, Trace, IsInCall}

-- the plan of these scripts, on a tree of this variant
abbrev pub the_plan : Variant → Shape → List (List Call) → Plan
the_plan variant shape scripts = record { shape = shape; variant = variant; scripts = scripts }

-- At moment u of the schedule calm is a tree at rest, and means these pairs, which are no more than a scan may answer.
pub record MeansAt (plan : Plan) (words schedule : List ℕ) (u : ℕ) (m : Contents) : Type 0 where
  pub claims : ℕ
  pub rests : IsAtRest plan.shape claims (calm_of plan words (take u schedule))
  pub means : Means plan.shape (calm_of plan words (take u schedule)) m
  pub few : length m ≤ pair_limit

-- A step of a run with a tale, with calm before and after it.
pub record IsTraceStep (plan : Plan) (start : Contents) (words schedule : List ℕ) (tale : Trace) (p : ℕ) (s t : State)
    (calm after : List ℕ) : Type 0 where
  pub step : IsRunStep plan start words schedule p s t
  pub calm_is : calm ≡ calm_of plan words schedule
  pub after_is : after ≡ calm_of plan words (schedule ++ p ∷ [])
  pub calm_before : IsCalm plan.variant plan.shape words s calm
  pub calm_after_step : IsCalm plan.variant plan.shape words t after
  pub change : CalmStep plan.variant plan.shape s p t calm after
  pub claims : ℕ
  pub rests : IsAtRest plan.shape claims calm
  pub means : Means plan.shape calm (tale.pairs (length schedule))
  pub few : length (tale.pairs (length schedule)) ≤ pair_limit
  pub earlier : (u : ℕ) → u ≤ length schedule → MeansAt plan words schedule u (tale.pairs u)

-- What becomes of the status in a step that keeps the pairs. It stays, or what was found is
-- forgotten, or a reply is found: in the pairs as they are now, or as they were at an earlier
-- moment within the call.
pub data Next (plan : Plan) (first : State) (schedule : List ℕ) (tale : Trace) (p calls : ℕ) (call : Call)
    (status next : Status) : Type 0 where
  Stays : next ≡ status → Next plan first schedule tale p calls call status next
  Forgets : HasNotChanged status → next ≡ Before → Next plan first schedule tale p calls call status next
  FindsNow : (reply : Reply) → HasNotChanged status → next ≡ Found reply
      → Does (tale.pairs (length schedule)) call reply (tale.pairs (length schedule))
      → Next plan first schedule tale p calls call status next
  FindsAt : (reply : Reply) → (u : ℕ) → HasNotChanged status → next ≡ Found reply → u ≤ length schedule
      → IsInCall plan first schedule u p calls call
      → Does (tale.pairs u) call reply (tale.pairs u) → Next plan first schedule tale p calls call status next

-- If it is answered, its status is, or becomes, one that has the reply.
abbrev pub HasItsReply : Plan → List ℕ → List ℕ → Trace → ℕ → Call → Process → Status → Reply → Type 0
HasItsReply plan words schedule tale p call q status reply =
    (next : Status) × Next plan (opened_on plan words) schedule tale p (length (begun q)) call status next × HasReply next reply

-- What an open call does in a step of its own: it keeps the pairs, or changes them as it does with
-- this reply. `Behind` is what has to hold after the step, by its effect and the status then.
pub data OwnStep (plan : Plan) (words schedule : List ℕ) (tale : Trace) (p : ℕ) (t : State) (calm after : List ℕ) (call : Call)
    (q : Process) (status : Status)
    (Behind : Option Effect → Status → Type 0) : Type 0 where
  Keeps : (next : Status) → TreeGoesOn plan.shape t.words calm after (tale.pairs (length schedule)) None
      → Next plan (opened_on plan words) schedule tale p (length (begun q)) call status next → Behind None next
      → OwnStep plan words schedule tale p t calm after call q status Behind
  Changes : (effect : Effect) → (reply : Reply) → TreeGoesOn plan.shape t.words calm after (tale.pairs (length schedule)) (Some effect)
      → HasNotChanged status
      → Does (tale.pairs (length schedule)) call reply (pairs_after effect (tale.pairs (length schedule))) → reply ≢ replies.Refused
      → Behind (Some effect) (Changed reply) → OwnStep plan words schedule tale p t calm after call q status Behind

-- what an open call does next
abbrev pub turn_of : Plan → Call → Process → Turn
turn_of plan call q = call_turn (setting plan.shape plan.variant call) (stage_of plan.variant plan.shape call q)

-- Process p, which is in no call, begins this one in the step.
pub record BeginsCall (plan : Plan) (s : State) (p : ℕ) (t : State) (call : Call) (q later : Process) : Type 0 where
  pub own : slice_get s.processes p ≡ Some q
  pub idle : q.call ≡ None
  pub next : next_call plan p q ≡ Some call
  pub behind : IsOpen t p call later
  pub stage : stage_of plan.variant plan.shape call later ≡ call_begun (setting plan.shape plan.variant call)
  pub words : (word : ℕ) → word ≢ 0 → slice_index t.words word ≡ slice_index s.words word

-- Process p, which is in this call, makes this access of it in the step, and is at the next stage
-- after it.
pub record MakesAccess (plan : Plan) (s : State) (p : ℕ) (t : State) (call : Call) (q later : Process) (a : Access) : Type 0 where
  pub here : IsOpen s p call q
  pub behind : IsOpen t p call later
  pub mark : Option Point
  pub asks : call_turn (setting plan.shape plan.variant call) (stage_of plan.variant plan.shape call q) ≡ Asks a mark
  pub words : t.words ≡ words_after a s.words
  pub got : later.got ≡ q.got ++ got_by a s.words ∷ []
  pub stage : stage_of plan.variant plan.shape call later
      ≡ call_after (setting plan.shape plan.variant call) (stage_of plan.variant plan.shape call q) (got_by a s.words)

-- Process p answers this call with this reply in the step.
pub record AnswersCall (plan : Plan) (s : State) (p : ℕ) (t : State) (call : Call) (q : Process) (reply : Reply) : Type 0 where
  pub here : IsOpen s p call q
  pub answers : turn_of plan call q ≡ Answers reply
  pub later : Process
  pub own : slice_get t.processes p ≡ Some later
  pub idle : later.call ≡ None
  pub words : (word : ℕ) → word ≢ 0 → slice_index t.words word ≡ slice_index s.words word

-- each open call has a status that fits
abbrev pub AllFit : (List ℕ → State → List ℕ → ℕ → Call → Process → Status → Type 0) → List ℕ → State → List ℕ → Type 0
AllFit Fits schedule s calm = (p : ℕ) (call : Call) (q : Process) → IsOpen s p call q → (status : Status)
    × Fits schedule s calm p call q status

-- ---- what fits all calls together: a ghost, which the steps change, something of the whole state, and of each call, with the ghost

-- with another value at one number
abbrev pub set_at : {A : Type 0} → (ℕ → A) → ℕ → A → ℕ → A
set_at f p a r = if r == p then a else f r

-- something of the whole state, by ghost, schedule, state and calm
abbrev pub OfState : Type 0 → Type 1
OfState Ghost = Ghost → List ℕ → State → List ℕ → Type 0

-- a statement on a ghost, the state, an open call of a process, and its status
abbrev pub OfCall : Type 0 → Type 1
OfCall Ghost = Ghost → List ℕ → State → List ℕ → ℕ → Call → Process → Status → Type 0

-- After the step of p, some ghost has this, and what fits each other call still fits it.
pub record IsLedOn (Ghost : Type 0) (World : OfState Ghost) (Fits : OfCall Ghost) (ghost : Ghost) (schedule : List ℕ) (p : ℕ) (s t : State)
    (calm after : List ℕ) (Own : Ghost → Type 0) : Type 0 where
  pub next : Ghost
  pub world : World next (schedule ++ p ∷ []) t after
  pub own : Own next
  pub others : (r : ℕ) (call : Call) (q : Process) (status : Status) → r ≢ p → IsOpen s r call q → IsOpen t r call q
      → Fits ghost schedule s calm r call q status → Fits next (schedule ++ p ∷ []) t after r call q status

-- All of it holds before the first step, and each step preserves it: one that begins a call, one
-- that makes an access of it, and one that answers it with the reply of its status.
pub record AreLed (plan : Plan) (start : Contents) (words : List ℕ) (Ghost : Type 0) (World : OfState Ghost)
    (Fits : OfCall Ghost) : Type 0 where
  pub first : IsRun plan start words [] (opened_on plan words) → IsAtRest plan.shape (length start + 1) words → Means plan.shape words start
      → (ghost : Ghost) × World ghost [] (opened_on plan words) words
  pub begins : (schedule : List ℕ) (tale : Trace) (p : ℕ) (s t : State) (calm after : List ℕ) (ghost : Ghost)
      → IsTraceStep plan start words schedule tale p s t calm after → World ghost schedule s calm → AllFit (Fits ghost) schedule s calm
      → (call : Call) (q later : Process) → BeginsCall plan s p t call q later
      → TreeGoesOn plan.shape t.words calm after (tale.pairs (length schedule)) None
      → IsLedOn Ghost World Fits ghost schedule p s t calm after (λ next. Fits next (schedule ++ p ∷ []) t after p call later Before)
  pub own : (schedule : List ℕ) (tale : Trace) (p : ℕ) (s t : State) (calm after : List ℕ) (ghost : Ghost)
      → IsTraceStep plan start words schedule tale p s t calm after → World ghost schedule s calm → AllFit (Fits ghost) schedule s calm
      → (call : Call) (q later : Process) (a : Access) (status : Status) → MakesAccess plan s p t call q later a
      → Fits ghost schedule s calm p call q status
      → OwnStep plan words schedule tale p t calm after call q status
      (λ effect now. IsLedOn Ghost World Fits ghost schedule p s t calm after
      (λ next. Fits next (schedule ++ p ∷ []) t after p call later now))
  pub answers : (schedule : List ℕ) (tale : Trace) (p : ℕ) (s t : State) (calm after : List ℕ) (ghost : Ghost)
      → IsTraceStep plan start words schedule tale p s t calm after → World ghost schedule s calm → AllFit (Fits ghost) schedule s calm
      → (call : Call) (q : Process) (status : Status) (reply : Reply) → AnswersCall plan s p t call q reply
      → Fits ghost schedule s calm p call q status → TreeGoesOn plan.shape t.words calm after (tale.pairs (length schedule)) None
      → IsLedOn Ghost World Fits ghost schedule p s t calm after (λ next. HasItsReply plan words schedule tale p call q status reply)
