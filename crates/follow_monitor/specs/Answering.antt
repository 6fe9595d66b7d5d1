-- What the parts make of an answer.
use Rattle.std.specs.Prelude.{◌≡◌, ◌⊎◌, ℕ, suc, List, [], ◌∷◌, ◌++◌, All, ⊤}
use Rattle.events.specs.declared.event.Call.{Call}
use Rattle.events.specs.declared.event.Reply.{Reply}
use Rattle.events.specs.declared.operation.Operation.{Operation}
use Rattle.map_object.specs.MapObject.{Contents}
use Rattle.follow_laws.specs.KeptSteps.{PartGoesOn}
use Rattle.follow_pasts.specs.Pasts.{IsDead, AreDoubtful}
use Rattle.follow_parts.specs.Keeping.{begun, IsCounted, IsEndedBy, IsKeptBeside, IsStateOf, pasts_of, response_at}
use Rattle.follow_parts.specs.Views.{PartsView, kept_parts}
use Rattle.follow_parts.specs.declared.state.EndedPart.{EndedPart}
use Rattle.follow_monitor.specs.Calls.{MayReply}
use Rattle.follow_monitor.specs.declared.answering.Judged.{Judged}
use Rattle.follow_monitor.specs.declared.answering.Judged.TheVariants.{Going, Lost, Spent}
use Rattle.follow_monitor.specs.declared.open_calls.OpenCall.{OpenCall}

-- parts represent calls, and an open one of these is pending
pub record IsPendingIn (known : OpenCall) (parts : PartsView) : Type 0 where
  pub start : Contents
  pub front : List Operation
  pub back : List Operation
  pub state : IsStateOf start (front ++ begun known.call known.event ∷ back) parts

-- no map answers the call so, and there is no past; or some map does, and the part has no past with an order
abbrev pub IsLostPart : Contents → ℕ → List Operation → Call → Reply → EndedPart → Type 0
IsLostPart start place calls call reply part =
    ((MayReply call reply → ⊥) × (part.pasts.items ≡ []))
    ⊎ (MayReply call reply × IsKeptBeside start place calls part × All IsDead (pasts_of part))

-- what the parts make of an answer, and the calls with it
abbrev pub AreAnswered : Contents → ℕ → PartsView → List Operation → Call → Reply → Judged → Type 0
AreAnswered start budget old calls call reply (Going next) = IsStateOf start calls next × IsCounted old next × All PartGoesOn (kept_parts next)
AreAnswered start budget old calls call reply (Lost part) = IsLostPart start (suc old.now) calls call reply part
AreAnswered start budget old calls call reply (Spent part) =
    MayReply call reply × IsKeptBeside start (suc old.now) calls part × AreDoubtful budget (pasts_of part)

-- if some map answers the call so, a part that does not go on is ended by the answer
abbrev pub IsPartEndedBy : Contents → ℕ → List Operation → Operation → Reply → Judged → Type 0
IsPartEndedBy start now calls o reply (Going next) = ⊤
IsPartEndedBy start now calls o reply (Lost part) = MayReply o.call reply → IsEndedBy start now calls o (response_at reply now) part
IsPartEndedBy start now calls o reply (Spent part) = IsEndedBy start now calls o (response_at reply now) part
