-- Orders of calls within a range of keys, and pairs of it.
use Rattle.call_effects.proofs.Common.{ℕ, List, [], ◌∷◌, sym, subst, ◌↔◌, All, All-head, All-tail, Operation, Contents, within, after_call, IsLegal}
use Rattle.call_effects.proofs.Common.{IsInside, within-after_call, IsLegalCall-within}

-- ---- calls within a range

module _ (low high : ℕ) where
  pub legal_within : (calls : List Operation) (m : Contents) → All (λ a. IsInside low high a.call) calls
      → IsLegal m calls ↔ IsLegal (within low high m) calls
  legal_within [] m inside = (λ h. h, λ h. h)
  legal_within (a ∷ calls) m inside =
      let here = All-head (λ a. IsInside low high a.call) a calls inside in
      let first = IsLegalCall-within low high m a.call a.response here in
      let rest = legal_within calls (after_call m a.call a.response) (All-tail (λ a. IsInside low high a.call) a calls inside) in
      let same = within-after_call low high m a.call a.response here in (
        λ h. (first.0 h.0, subst (λ (n : Contents). IsLegal n calls) same (rest.0 h.1)),
        λ h. (first.1 h.0, rest.1 (subst (λ (n : Contents). IsLegal n calls) (sym same) h.1)),
      )
