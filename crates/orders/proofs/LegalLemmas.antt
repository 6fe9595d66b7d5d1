-- The legal lists of calls are those that the object does in turn, and what they lead to is one list of pairs.
use Rattle.orders.proofs.Common.{◌≡◌, List, [], ◌∷◌, Option, Some, None, inr, refl, sym, subst, ◌∙◌, Call, Operation, Response, Contents, reply_to}
use Rattle.orders.proofs.Common.{reply_to_answers, after_reply-answer, tells_all, after_call, after_calls, IsLegalCall, IsLegal, DoesCall, Leads}

-- one call: legal, with the pairs after it, is to be done
pub DoesCall-from_legal : (m : Contents) (call : Call) (response : Option Response) → IsLegalCall m call response
    → DoesCall m call response (after_call m call response)
DoesCall-from_legal m call None legal =
    let answered = reply_to_answers m call in
    (reply_to m call, answered, (inr (tells_all m call (reply_to m call) refl), sym (after_reply-answer m call (reply_to m call) answered)))
DoesCall-from_legal m call (Some response) legal = (legal, refl)

pub legal_from_DoesCall : (m : Contents) (call : Call) (response : Option Response) (next : Contents) → DoesCall m call response next
    → IsLegalCall m call response
    × (next ≡ after_call m call response)
legal_from_DoesCall m call None next does = (tt, does.2.1 ∙ after_reply-answer m call does.0 does.1)
legal_from_DoesCall m call (Some response) next does = does

-- a legal list of calls leads to the pairs after it
pub Leads-from_legal : (m : Contents) (calls : List Operation) → IsLegal m calls → Leads m calls (after_calls m calls)
Leads-from_legal m [] legal = refl
Leads-from_legal m (a ∷ calls) legal = (
  after_call m a.call a.response,
  DoesCall-from_legal m a.call a.response legal.0,
  Leads-from_legal
      (after_call m a.call a.response) calls legal.1,
)

-- calls that lead anywhere are a legal list, and lead to the pairs after it
pub legal_from_Leads : (m m2 : Contents) (calls : List Operation) → Leads m calls m2 → IsLegal m calls × (m2 ≡ after_calls m calls)
legal_from_Leads m m2 [] leads = (tt, leads)
legal_from_Leads m m2 (a ∷ calls) leads =
    let first = legal_from_DoesCall m a.call a.response leads.0 leads.1 in
    let rest = legal_from_Leads (after_call m a.call a.response) m2 calls
    (subst (λ (next : Contents). Leads next calls m2) first.1 leads.2) in
    ((first.0, rest.0), rest.1)
