-- The events at which calls are invoked and answered.
use Rattle.draw_picture.proofs.Common.{◌≡◌, ℕ, suc, ◌==◌, Bool, true, false, cond, List, [], ◌∷◌, ◌++◌, length, Some, ◌∙◌, subst, arith, IfSome, All}
use Rattle.draw_picture.proofs.Common.{slice_get, append_assoc, length-append, All-nil, All-cons, slice_get-middle, Event, Invoke, Answer, Operation}
use Rattle.draw_picture.proofs.Common.{Response, response_from, operation_of, operations_from, operations}

-- the event at a response's place is that response
pub record IsAnswerAt (events : List Event) (response : Response) : Type 0 where
  pub process : ℕ
  pub event : slice_get events response.res ≡ Some (Answer process response.reply)

-- the events at a call's places are its invocation and its response
pub record IsCallIn (events : List Event) (a : Operation) : Type 0 where
  pub process : ℕ
  pub invoked : slice_get events a.inv ≡ Some (Invoke process a.call)
  pub answered : IfSome a.response (IsAnswerAt events)

-- one event of the rest more in the front
moved : (P : ℕ → List Event → Type 0) (front : List Event) (e : Event) (events : List Event)
    → P (length (front ++ e ∷ [])) ((front ++ e ∷ []) ++ events)
    → P (suc (length front)) (front ++ e ∷ events)
moved P front e events h =
    let size : length (front ++ e ∷ []) ≡ suc (length front) = length-append front (e ∷ []) ∙ omega arith in
    subst (λ n. P n (front ++ e ∷ events)) size (subst (P (length (front ++ e ∷ []))) (append_assoc front (e ∷ []) events) h)

response-at : (p : ℕ) (front events : List Event) → IfSome (response_from p (length front) events) (IsAnswerAt (front ++ events))
response-at p front [] = tt
response-at p front (Invoke q call ∷ events) =
    moved (λ n all. IfSome (response_from p n events) (IsAnswerAt all)) front (Invoke q call) events
    (response-at p (front ++ Invoke q call ∷ []) events)
response-at p front (Answer q reply ∷ events) =
    first_or (q == p) (record { process = q; event = slice_get-middle front (Answer q reply) events })
    (moved (λ n all. IfSome (response_from p n events) (IsAnswerAt all)) front (Answer q reply) events
    (response-at p (front ++ Answer q reply ∷ []) events))
  where
    first_or : (b : Bool) → IsAnswerAt (front ++ Answer q reply ∷ events) (record { res = length front; reply = reply })
        → IfSome (response_from p (suc (length front)) events) (IsAnswerAt (front ++ Answer q reply ∷ events))
        → IfSome (cond b (Some (record { res = length front; reply = reply })) (response_from p (suc (length front)) events))
        (IsAnswerAt (front ++ Answer q reply ∷ events))
    first_or true h k = h
    first_or false h k = k

calls-at : (front events : List Event) → All (IsCallIn (front ++ events)) (operations_from (length front) events)
calls-at front [] = All-nil (IsCallIn (front ++ []))
calls-at front (Answer p reply ∷ events) =
    moved (λ n all. All (IsCallIn all) (operations_from n events)) front (Answer p reply) events
    (calls-at (front ++ Answer p reply ∷ []) events)
calls-at front (Invoke p call ∷ events) =
    All-cons (IsCallIn (front ++ Invoke p call ∷ events)) (operation_of p call (length front) events)
    (operations_from (suc (length front)) events)
    (record {
      process = p;
      invoked = slice_get-middle front (Invoke p call) events;
      answered =
          moved (λ n all. IfSome (response_from p n events) (IsAnswerAt all)) front (Invoke p call) events
          (response-at p (front ++ Invoke p call ∷ []) events);
    })
    (moved (λ n all. All (IsCallIn all) (operations_from n events)) front (Invoke p call) events
    (calls-at (front ++ Invoke p call ∷ []) events))

-- each call of a history is invoked and answered by its events
pub calls-in : (events : List Event) → All (IsCallIn events) (operations events)
calls-in events = calls-at [] events
