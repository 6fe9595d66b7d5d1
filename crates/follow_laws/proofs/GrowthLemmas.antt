-- Calls that grow.
use Rattle.follow_laws.proofs.Common.{◌≡◌, ℕ, ◌≤◌, inl, inr, sym, ◌∙◌, subst, ⊎_elim, arith, KeyedCall, IsAnsweredAs, IsLater, GrowthGoesOn}

-- an answer after a later place is one after an earlier
answered_after : (place next : ℕ) (a b : KeyedCall) → place ≤ next → IsAnsweredAs next a b → IsAnsweredAs place a b
answered_after place next a b less h = record {
  pending = h.pending;
  accepted = h.accepted;
  fits = h.fits;
  later = λ res is. let after : next ≤ res = h.later res is in omega arith;
  does = h.does;
}

-- an answer after an answer, which left the call pending, is an answer
answered_twice : (place next : ℕ) (a b c : KeyedCall) → place ≤ next → IsAnsweredAs place a b → IsAnsweredAs next b c → IsAnsweredAs place a c
answered_twice place next a b c less h i = record {
  pending = h.pending;
  accepted = h.accepted;
  fits = h.fits;
  later = λ res is. let after : next ≤ res = i.later res is in omega arith;
  does = λ accepted key value. i.does accepted key value ∙ h.does i.accepted key value;
}

pub later_twice : (place next : ℕ) (a b c : KeyedCall) → place ≤ next → IsLater place a b → IsLater next b c → IsLater place a c
later_twice place next a b c less h i = record {
  inv = i.inv ∙ h.inv;
  concerns = λ key. i.concerns key ∙ h.concerns key;
  response = ⊎_elim
      (λ same. ⊎_elim (λ again. inl (again ∙ same))
      (λ answered. inr (answered_after place next a c less (subst (λ (d : KeyedCall). IsAnsweredAs next d c) same answered))) i.response)
      (λ answered. ⊎_elim (λ again. inr (subst (λ (d : KeyedCall). IsAnsweredAs place a d) (sym again) answered))
      (λ other. inr (answered_twice place next a b c less answered other)) i.response)
      h.response;
}

pub growth_on : GrowthGoesOn
growth_on place next calls more most less g h = record {
  begun = g.begun;
  ended = g.ended;
  stay = λ a is.
      let (b, b_in, b_later) = g.stay a is in
      let (c, c_in, c_later) = h.stay b b_in in
      (c, c_in, later_twice place next a b c less b_later c_later);
  come = λ c is.
      ⊎_elim
      (λ old.
      ⊎_elim (λ older. inl (older.0, older.1, later_twice place next older.0 old.0 c less older.2 old.2))
      (λ new. let same : c.inv ≡ old.0.inv = old.2.inv in inr (omega arith))
      (g.come old.0 old.1))
      (λ new. inr (omega arith))
      (h.come c is);
  alone = g.alone;
  formed = h.formed;
  apart = h.apart;
}
