-- What an answer makes of a first past.
use Rattle.follow_parts.proofs.Common.{◌≡◌, ℕ, ◌+◌, ◌<◌, false, List, ◌∷◌, ◌++◌, map, take, drop, Option, None, Some, refl, sym, ap, ◌∙◌, is_some, slice_get}
use Rattle.follow_parts.proofs.Common.{slice_set, All, AllPairs, All-weaker, slice_get_within, Operation, Response, Contents, IsKnownIn, found_at, Found}
use Rattle.follow_parts.proofs.Common.{IsAnswerOf, is_the_call, set_parts, IsCallBefore}
use Rattle.follow_orders.specs.Views as views

-- calls, with an answer of the one at a place
pub answered_parts : (calls : List Operation) (place : ℕ) (a o operation : Operation) (r response : Response)
    → slice_get calls place ≡ Some a → a ≡ o → r ≡ response → IsAnswerOf o response operation
    → views.answered calls place r ≡ take place calls ++ operation ∷ drop (place + 1) calls
answered_parts calls place a o operation r response at the same answer =
    ap (views.set_answer calls place r) at
    ∙ (ap (λ (x : Operation). slice_set calls place (views.answered_call x r)) the
    ∙ (ap (λ (x : Response). slice_set calls place (views.answered_call o x)) same
    ∙ (ap (λ (x : Operation). slice_set calls place x) (sym answer.is)
    ∙ set_parts calls place operation (slice_get_within calls place a at))))

-- the call that is answered is pending
pub the_call_waits : (pairs : Contents) (calls : List Operation) (found : List Found) (place : ℕ) (a o operation : Operation)
    (response : Response) → AllPairs (λ x y. x.inv < y.inv) calls → slice_get calls place ≡ Some a → a.inv ≡ operation.inv
    → IsAnswerOf o response operation → IsKnownIn o (record { pairs = pairs; left = calls; found = map found_at found })
    → is_some a.response ≡ false
the_call_waits pairs calls found place a o operation response rising at same answer known =
    let own : operation.inv ≡ o.inv = ap (λ (x : Operation). x.inv) answer.is in
    let the : a ≡ o = is_the_call pairs calls found place a o rising at (same ∙ own) known in
    ap (λ (x : Operation). is_some x.response) the ∙ ap (λ (x : Option Response). is_some x) answer.pending

pub not_some : (r : Option Response) → is_some r ≡ false → r ≡ None
not_some None is = refl
not_some (Some response) is = cc

above_of : (place : ℕ) (r : Option Response) → ((response : Response) → r ≡ Some response → response.res < place) → views.IsAbove place r
above_of place None ended = tt
above_of place (Some response) ended = ended response refl

-- a pending call may be answered, if all events of the calls are before its answer
pub may_be_answered : (calls : List Operation) (place : ℕ) (a : Operation) (r : Response) → slice_get calls place ≡ Some a
    → is_some a.response ≡ false → All (IsCallBefore r.res) calls → views.MayBeAnswered calls place r
may_be_answered calls place a r at waits before = record {
  call = a;
  here = at;
  pending = not_some a.response waits;
  after_invocations = All-weaker (IsCallBefore r.res) (λ (x : Operation). x.inv < r.res) (λ x h. h.begun) calls before;
  after_responses = All-weaker (IsCallBefore r.res) (λ (x : Operation). views.IsAbove r.res x.response)
      (λ x h. above_of r.res x.response h.ended) calls before;
}
