use Rattle.orders.proofs.Common.{subst, sym, Contents, Leads}
use Rattle.orders.proofs.LegalLemmas.{Leads-from_legal, legal_from_Leads}
use Rattle.orders.proofs.laws.legal_lists_lead.Goals as goal

pub returns : goal.returns
returns c =
    λ m m2 calls. (
      legal_from_Leads m m2 calls,
      λ legal. subst (λ (last : Contents). Leads m calls last) (sym legal.1)
          (Leads-from_legal m calls legal.0),
    )
