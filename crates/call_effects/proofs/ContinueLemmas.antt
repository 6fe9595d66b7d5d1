-- The calls of the first events of a list, and the same calls in the whole list.
use Rattle.call_effects.proofs.Common.{◌≡◌, ℕ, suc, ◌+◌, ◌<◌, ◌≤◌, true, List, [], ◌∷◌, ◌++◌, length, Option, Some, None, sym, ap, ◌∙◌, ⊎_elim, arith}
use Rattle.call_effects.proofs.Common.{slice_get, is_some, Contains, lt-ltb, false≢true, All-contains, Call, Event, Invoke, Answer, Operation, Response}
use Rattle.call_effects.proofs.Common.{operation_of, operations_from, operations, is_completed, is_before, inv-at_least, Contains-at, place_of-Contains}
use Rattle.call_effects.proofs.Common.{Contains-nil, Contains-cases}
use Rattle.events.proofs.ExtensionLemmas.{IsExtendedResponse, extended_at}

-- calls of events from a place on are invoked there or later
pub invoked_from : (i : ℕ) (events : List Event) (b : Operation) → Contains (operations_from i events) b → i ≤ b.inv
invoked_from i events b is = All-contains (λ a. i ≤ a.inv) (operations_from i events) b (inv-at_least i events) is

-- calls of events up to a place are invoked before it
pub invoked_before : (i : ℕ) (events : List Event) (b : Operation) → Contains (operations_from i events) b → b.inv < i + length events
invoked_before i [] b is = absurd (Contains-nil b is)
invoked_before i (Answer p reply ∷ events) b is = let less = invoked_before (suc i) events b is in omega arith
invoked_before i (Invoke p call ∷ events) b is = ⊎_elim
    (λ same. let at = ap (λ (a : Operation). a.inv) same in omega arith)
    (λ later. let less = invoked_before (suc i) events b later in omega arith)
    (Contains-cases (operation_of p call i events) (operations_from (suc i) events) b is)

-- a call by its parts
abbrev operation : Call → ℕ → Option Response → Operation
operation call inv response = record { call = call; inv = inv; response = response }

-- a completed call stays as it is, at its number, and its response is among the events so far
pub completed_at : (events more : List Event) (n : ℕ) (a : Operation) → slice_get (operations events) n ≡ Some a → is_completed a ≡ true
    → (slice_get (operations (events ++ more)) n ≡ Some a) × (is_before a.response (length events) ≡ true)
completed_at events more n a here completed =
    let (b, there, extended) = extended_at 0 (length events) events more n a (omega arith) here in
    let at = same_response a.response b.response completed extended.response in
    let one : a ≡ b = same_operation a b extended.call extended.inv at.0 in
    (there ∙ ap Some (sym one), at.1)
  where
    same_response : (part whole : Option Response) → is_some part ≡ true → IsExtendedResponse (length events) part whole
        → (part ≡ whole) × (is_before part (length events) ≡ true)
    same_response None whole some h = absurd (false≢true some)
    same_response (Some r) whole some h = (sym h.0, lt-ltb r.res (length events) h.1)

    same_operation : (a b : Operation) → a.call ≡ b.call → a.inv ≡ b.inv → a.response ≡ b.response → a ≡ b
    same_operation a b call inv response =
        ap (λ c. operation c a.inv a.response) call
        ∙ (ap (λ i. operation b.call i a.response) inv ∙ ap (λ r. operation b.call b.inv r) response)

pub completed_stays : (events more : List Event) (a : Operation) → Contains (operations events) a → is_completed a ≡ true
    → Contains (operations (events ++ more)) a × (is_before a.response (length events) ≡ true)
completed_stays events more a is completed =
    let (n, here) = place_of-Contains (operations events) a is in
    let (there, before) = completed_at events more n a here completed in (Contains-at (operations (events ++ more)) n a there, before)
