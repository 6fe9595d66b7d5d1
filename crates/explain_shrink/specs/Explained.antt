-- Explanations of calls without order: a few of the calls that have no order either.
use Rattle.std.specs.Prelude.{◌≡◌, ℕ, ◌==◌, ◌<◌, ◌≤◌, ◌-◌, true, not, nat_lt, if◌then◌else◌, List, [], ◌∷◌, length, map, filter, drop, All, Option, Some, None}
use Rattle.std.specs.List.{AllZip}
use Rattle.events.specs.declared.operation.Operation.{Operation}
use Rattle.events.specs.Precedence.{NonePrecedesItself}
use Rattle.map_object.specs.MapObject.{Contents}
use Rattle.orders.specs.Orders.{IsOrder, IsLinearizable}
use Rattle.memo.specs.Counts.{ReachesMoreThan}
use Rattle.call_effects.specs.TimeCuts.{InvocationsRise}
use Rattle.explain_shrink.specs.Rest.{rest_of, are_held}
use Rattle.explain_shrink.specs.Relaxed.{IsRelaxed}
use Rattle.explain_shrink.specs.declared.explanation.Reason.{Reason}
use Rattle.explain_shrink.specs.declared.explanation.Reason.TheVariants as reasons
use Rattle.explain_shrink.specs.declared.explanation.Explanation.{Explanation}
use Rattle.explain_shrink.specs.declared.explanation.Without.{Without}
use Rattle.explain_shrink.specs.declared.explanation.Without.TheVariants.{Rest, Kept}
use Rattle.explain_shrink.specs.declared.explanation.Reduction.{Reduction}
use Rattle.explain_shrink.specs.declared.explanation.Reduction.TheVariants.{Less, Least}

-- some of the calls, each as it is or without its answer, that have no order. None of the calls
-- left out could mend that: each order of all calls would contain one of these (the law
-- RelaxedCallsHaveOrders)
pub record AreEnough (start : Contents) (calls kept : List Operation) : Type 0 where
  pub relaxed : IsRelaxed calls kept
  pub rise : InvocationsRise kept
  pub apart : NonePrecedesItself kept
  pub none : IsLinearizable start kept → ⊥

-- why calls are not left out, if the calls that were invoked at these places stay. The calls that
-- stay, without the answers that depend on what the others put, have an order. Or their search took
-- more than the budget. Or one of them without an answer waits for what the others may put
abbrev pub IsReasonFor : Contents → ℕ → List Operation → List ℕ → Reason → Type 0
IsReasonFor start budget calls places (reasons.Order order) = IsOrder start (rest_of places calls) order.items
IsReasonFor start budget calls places reasons.Spent = ReachesMoreThan start (rest_of places calls) budget
IsReasonFor start budget calls places reasons.Held = are_held places calls ≡ true

-- the places at which some calls were invoked, except one call
abbrev pub others_than : List Operation → ℕ → List ℕ
others_than kept place = map (λ (b : Operation). b.inv) (filter (λ b. not (b.inv == place)) kept)

-- why one of the calls that stay is not left out
abbrev pub IsReasonForOne : Contents → ℕ → List Operation → List Operation → Operation → Reason → Type 0
IsReasonForOne start budget calls kept a reason = IsReasonFor start budget calls (others_than kept a.inv) reason

-- a few calls that are enough, with the reason why each of them stays
pub record IsExplanation (start : Contents) (calls : List Operation) (budget : ℕ) (e : Explanation) : Type 0 where
  pub enough : AreEnough start calls e.calls.items
  pub minimal : AllZip (IsReasonForOne start budget calls e.calls.items) e.calls.items e.reasons.items

-- the places at which the last calls were invoked, this many of them
abbrev pub last_places : ℕ → List Operation → List ℕ
last_places count calls = map (λ (a : Operation). a.inv) (drop (length calls - count) calls)

-- this many of the last calls do not show at a budget that all calls have no order, for some reason
abbrev pub IsUnshown : Contents → ℕ → List Operation → ℕ → Type 0
IsUnshown start budget calls count = (reason : Reason) × IsReasonFor start budget calls (last_places count calls) reason

-- how many of the last calls are tried
abbrev pub sizes_tried : List ℕ
sizes_tried = 8 ∷ 16 ∷ 32 ∷ 64 ∷ 128 ∷ 256 ∷ []

-- the most configurations that a search meets if it is to leave out many calls at once
abbrev pub few_configurations : ℕ → ℕ
few_configurations budget = if nat_lt budget 16384 then budget else 16384

-- the explanation of calls: a few that are enough, so all have no order. Or there is none, if none
-- of the numbers of last calls that are tried shows it
abbrev pub IsExplained : Contents → List Operation → ℕ → Option Explanation → Type 0
IsExplained start calls budget (Some e) = IsExplanation start calls budget e
IsExplained start calls budget None = All (IsUnshown start (few_configurations budget) calls) sizes_tried

-- the result of leaving calls out: the calls that stay are enough, and are no more than the places.
-- Otherwise the reason why they stay
pub record IsRest (start : Contents) (calls : List Operation) (places : List ℕ) (rest : List Operation) : Type 0 where
  pub enough : AreEnough start calls rest
  pub fewer : length rest ≤ length places

abbrev pub IsWithout : Contents → List Operation → List ℕ → ℕ → Without → Type 0
IsWithout start calls places budget (Rest rest) = IsRest start calls places rest.items
IsWithout start calls places budget (Kept reason) = IsReasonFor start budget calls places reason

-- the result of a look at each call that stays: fewer calls that are enough, or a reason for each
abbrev pub IsReduction : Contents → List Operation → List Operation → ℕ → Reduction → Type 0
IsReduction start calls kept budget (Less rest) = AreEnough start calls rest.items × (length rest.items < length kept)
IsReduction start calls kept budget (Least reasons) = AllZip (IsReasonForOne start budget calls kept) kept reasons.items
