-- What the state of the monitor says of the calls so far.
use Rattle.std.specs.Prelude.{◌≡◌, ◌⊎◌, ◌↔◌, ℕ, suc, true, false, List, ◌∷◌, map, Option, None, Some, All, Contains, ⊤}
use Rattle.std.specs.List.{AllZip}
use Rattle.events.specs.declared.event.Call.{Call}
use Rattle.events.specs.declared.event.Reply.{Reply}
use Rattle.events.specs.declared.operation.Operation.{Operation}
use Rattle.events.specs.declared.operation.Response.{Response}
use Rattle.events.specs.Keys.{low_key, high_key, may_change}
use Rattle.map_object.specs.MapObject.{Contents}
use Rattle.follow_laws.specs.Left.{HasKeysIn, answered}
use Rattle.follow_laws.specs.Events.{AreAfterAnswer, IsWithRead}
use Rattle.follow_laws.specs.KeptParts.{KeptPart, AreKept}
use Rattle.follow_laws.specs.KeptReached.{HasPasts}
use Rattle.follow_laws.specs.Pasts.{KeptPast}
use Rattle.follow_cuts.specs.PartCuts.{kept_of}
use Rattle.follow_pasts.specs.Pasts.{IsDead, AreDoubtful}
use Rattle.follow_pasts.specs.Ranges.{covered}
use Rattle.follow_pasts.specs.declared.moments.OpenRead.{OpenRead}
use Rattle.follow_parts.specs.declared.state.EndedPart.{EndedPart}
use Rattle.follow_parts.specs.Views.{PartsView, kept_parts}
use Rattle.follow_parts.specs.declared.state.Answered.{Answered}
use Rattle.follow_parts.specs.declared.state.Answered.TheVariants.{Going, Lost, Spent, Unknown}

-- a call as it begins at a place, a response at a place, and a call with it
abbrev pub begun : Call → ℕ → Operation
begun call inv = record { call = call; inv = inv; response = None }

abbrev pub response_at : Reply → ℕ → Response
response_at reply res = record { res = res; reply = reply }

abbrev pub reported : Reply → ℕ → Option Response
reported reply res = Some (response_at reply res)

abbrev pub is_reported : Operation → Reply → ℕ → Operation
is_reported o reply res = answered (response_at reply res) o

-- the pending reads of the calls, with their keys
abbrev pub AreReadsOf : List Operation → List OpenRead → Type 0
AreReadsOf calls reads =
    (inv low high : ℕ)
    → Contains reads (record { inv = inv; low = low; high = high })
    ↔ ((o : Operation) × Contains calls o × (o.inv ≡ inv) × (o.response ≡ None) × (may_change o.call ≡ false) × (low_key o.call ≡ low)
    × (high_key o.call ≡ high))

-- the state after the events of these calls, from these pairs
pub record IsStateOf (start : Contents) (calls : List Operation) (s : PartsView) : Type 0 where
  pub kept : AreKept start s.now calls (kept_parts s)
  pub reads : AreReadsOf calls s.reads

-- one event more was counted
abbrev pub IsCounted : PartsView → PartsView → Type 0
IsCounted old new = new.now ≡ suc old.now

-- the pasts of a part that does not go on
abbrev pub pasts_of : EndedPart → List KeptPast
pasts_of ended = map kept_of ended.pasts.items

-- a part that does not go on and others represent the calls, and each of the others has a past
pub record IsKeptBeside (start : Contents) (now : ℕ) (calls : List Operation) (ended : EndedPart) : Type 0 where
  pub others : List KeptPart
  pub are_kept : AreKept start now calls (record { keys = covered ended.ranges.items; pasts = pasts_of ended } ∷ others)
  pub some : All HasPasts others

-- what an answer makes of the state
abbrev pub IsAnswered : Contents → ℕ → PartsView → List Operation → Answered → Type 0
IsAnswered start budget old calls (Going next) = IsStateOf start calls next × IsCounted old next
IsAnswered start budget old calls (Lost ended) = IsKeptBeside start (suc old.now) calls ended × All IsDead (pasts_of ended)
IsAnswered start budget old calls (Spent ended) = IsKeptBeside start (suc old.now) calls ended × AreDoubtful budget (pasts_of ended)
IsAnswered start budget old calls Unknown = ⊥

-- what an answer makes of the pasts of a part: a call that may change the map is answered in each, and may end some (`AreAfterAnswer`); a read is
-- left in each
abbrev pub AreWithAnswer : Operation → Response → List KeptPast → List KeptPast → Type 0
AreWithAnswer o response pasts nexts =
    ((may_change o.call ≡ true) × AreAfterAnswer o response pasts nexts)
    ⊎ ((may_change o.call ≡ false) × AllZip (IsWithRead (answered response o)) pasts nexts)

-- A part ended by an answer has all keys of the call. Before the answer, pasts of its keys and other parts represented the calls, and each part
-- had a past. The pasts of the ended part are those with the answer, and no others.
pub record IsEndedBy (start : Contents) (now : ℕ) (calls : List Operation) (o : Operation) (response : Response) (ended : EndedPart) : Type 0 where
  pub keys : HasKeysIn (covered ended.ranges.items) o
  pub pasts : List KeptPast
  pub others : List KeptPart
  pub are_kept : AreKept start now calls (record { keys = covered ended.ranges.items; pasts = pasts } ∷ others)
  pub some : All HasPasts (record { keys = covered ended.ranges.items; pasts = pasts } ∷ others)
  pub with_answer : AreWithAnswer o response pasts (pasts_of ended)

-- a part that does not go on is ended by the answer
abbrev pub HasEndedBy : Contents → ℕ → List Operation → Operation → Response → Answered → Type 0
HasEndedBy start now calls o response (Going next) = ⊤
HasEndedBy start now calls o response (Lost ended) = IsEndedBy start now calls o response ended
HasEndedBy start now calls o response (Spent ended) = IsEndedBy start now calls o response ended
HasEndedBy start now calls o response Unknown = ⊤
