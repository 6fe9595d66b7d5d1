-- The calls of the first events of a list, and the same calls in the whole list.
use Rattle.events.proofs.Common.{◌≡◌, ℕ, zero, suc, ◌+◌, ◌<◌, ◌≤◌, Bool, true, false, cond, ◌==◌, List, [], ◌∷◌, ◌++◌, length, Option, Some, None}
use Rattle.events.proofs.Common.{refl, subst, arith, slice_get, ⊤, none-some, same_Some, Event, Invoke, Answer, Operation, Response, response_from}
use Rattle.events.proofs.Common.{operation_of, operations_from}

-- a response before a place is the same in the whole; where there is none, the whole may have any
abbrev pub IsExtendedResponse : ℕ → Option Response → Option Response → Type 0
IsExtendedResponse place None whole = ⊤
IsExtendedResponse place (Some response) whole = (whole ≡ Some response) × (response.res < place)

-- a call of the events before a place, and the same call in the whole
pub record IsExtended (place : ℕ) (a b : Operation) : Type 0 where
  pub call : a.call ≡ b.call
  pub inv : a.inv ≡ b.inv
  pub response : IsExtendedResponse place a.response b.response

response_from-extended : (p i place : ℕ) (events more : List Event) → i + length events ≤ place
    → IsExtendedResponse place (response_from p i events) (response_from p i (events ++ more))
response_from-extended p i place [] more within = tt
response_from-extended p i place (Invoke q call ∷ events) more within = response_from-extended p (suc i) place events more (omega arith)
response_from-extended p i place (Answer q reply ∷ events) more within =
    first_or (q == p) (record { res = i; reply = reply }) _ _ (omega arith)
    (response_from-extended p (suc i) place events more (omega arith))
  where
    first_or : (b : Bool) (x : Response) (part whole : Option Response) → x.res < place → IsExtendedResponse place part whole
        → IsExtendedResponse place (cond b (Some x) part) (cond b (Some x) whole)
    first_or true x part whole before rest = (refl, before)
    first_or false x part whole before rest = rest

-- the calls of the whole at the places at which its first events have calls
pub extended_at : (i place : ℕ) (events more : List Event) (n : ℕ) (a : Operation) → i + length events ≤ place
    → slice_get (operations_from i events) n ≡ Some a
    → (b : Operation) × (slice_get (operations_from i (events ++ more)) n ≡ Some b) × IsExtended place a b
extended_at i place [] more n a within here = absurd (none-some a here)
extended_at i place (Answer p reply ∷ events) more n a within here = extended_at (suc i) place events more n a (omega arith) here
extended_at i place (Invoke p call ∷ events) more (suc n) a within here = extended_at (suc i) place events more n a (omega arith) here
extended_at i place (Invoke p call ∷ events) more zero a within here = (
  operation_of p call i (events ++ more),
  refl,
  subst (λ b. IsExtended place b (operation_of p call i (events ++ more))) (same_Some (operation_of p call i events) a here) (record {
    call = refl;
    inv = refl;
    response = response_from-extended p (suc i) place events more (omega arith);
  }),
)
