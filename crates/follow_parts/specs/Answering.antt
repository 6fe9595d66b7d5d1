-- What an answer makes of the pasts of a part.
use Rattle.std.specs.Prelude.{◌≡◌, ℕ, List, [], ◌∷◌, map, Any, ⊤}
use Rattle.events.specs.declared.operation.Operation.{Operation}
use Rattle.events.specs.declared.operation.Response.{Response}
use Rattle.follow_orders.specs.Answers.{IsAnswer}
use Rattle.follow_laws.specs.Pasts.{KeptPast}
use Rattle.follow_laws.specs.Events.{IsAfterAnswer, AreAfterAnswer}
use Rattle.follow_cuts.specs.PartCuts.{found_at}
use Rattle.follow_cuts.specs.declared.past.Found.{Found}
use Rattle.follow_pasts.specs.declared.pasts.GoneOn.{GoneOn}
use Rattle.follow_pasts.specs.Pasts.{AreGoneOn, AreLeftAfter, IsLeftKept}
use Rattle.follow_parts.specs.declared.answering.First.{First}
use Rattle.follow_parts.specs.declared.answering.First.TheVariants.{Known, Against, Unknown}

-- the calls that are left of a first past after an answer, if they are known
abbrev pub IsLeftFirst : Operation → List Operation → First → Type 0
IsLeftFirst operation calls (Known kept) = IsLeftKept operation calls kept
IsLeftFirst operation calls Against = ⊤
IsLeftFirst operation calls Unknown = ⊤

-- what is known of a first past after an answer: an order of its calls, or that they have none; or it is lost
abbrev pub IsFirst : ℕ → Operation → Response → KeptPast → List Found → First → Type 0
IsFirst budget o response past found (Known kept) =
    (next : KeptPast) × IsAfterAnswer o response past (next ∷ []) × IsAnswer next.pairs next.left budget kept × (next.found ≡ map found_at found)
IsFirst budget o response past found Against = IsAfterAnswer o response past []
IsFirst budget o response past found Unknown = ⊥

-- calls are what an answer left of one of these pasts
abbrev pub IsLeftOfOne : Operation → List KeptPast → List Operation → Type 0
IsLeftOfOne operation pasts left = Any (λ past. AreLeftAfter operation past.left left) pasts

-- a call was answered in all of some pasts, and these have gone on
pub record HaveGoneOnWith (budget : ℕ) (o : Operation) (response : Response) (pasts : List KeptPast) (next : GoneOn) : Type 0 where
  pub nexts : List KeptPast
  pub after : AreAfterAnswer o response pasts nexts
  pub gone : AreGoneOn budget nexts next
