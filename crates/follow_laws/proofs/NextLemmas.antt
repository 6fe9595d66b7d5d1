-- Orders that go on by a call that is taken at some keys.
use Rattle.follow_laws.proofs.Common.{◌≡◌, ℕ, Bool, true, false, ◌&&◌, ◌||◌, ◌==◌, cond, List, map, Option, inl, inr, refl, sym, ap, ◌∙◌, subst, ◌⊎◌}
use Rattle.follow_laws.proofs.Common.{Contains, and_parts, eqb-true, eq-eqb, All-contains, All-from_contains, KeyedCall, no_effect, IsNoEffect}
use Rattle.follow_laws.proofs.Common.{IsFormed, FitInTurn, IsLater, HaveGrown, Choice, rest_of, Agrees, GoesOn, Keys, IsAt, IsAfterCall}
use Rattle.follow_laws.proofs.DeadLemmas.{bool_cases}
use Rattle.follow_laws.proofs.EffectRestLemmas.{none_none, later_stands}
use Rattle.follow_laws.proofs.OrderLemmas.{same_call}
use Rattle.follow_laws.proofs.MaskLemmas.{masked_by, order_masked, quiet_masked}
use Rattle.follow_laws.proofs.PartLemmas.{instead}

-- what is taken besides: a call, at those of these keys that it concerns
abbrev pub taken_by : Keys → KeyedCall → ℕ → ℕ → Bool
taken_by keys a inv key = keys key && ((inv == a.inv) && a.concerns key)

-- All that is known of a choice that is `past` at some keys, of a call, now and later, and of the past after the call.
pub record IsTaken (keys : Keys) (place : ℕ) (calls more : List KeyedCall) (past next w : Choice) (a d : KeyedCall) : Type 0 where
  pub same : IsAt keys past w
  pub after : IsAfterCall keys past a next
  pub grown : HaveGrown place calls more
  pub in_more : Contains more d
  pub later : IsLater place a d
  pub accepted : d.refused ≡ false

pub or_none : (t : Bool) → t ≡ (t || false)
or_none true = refl
or_none false = refl

module _ (keys : Keys) (place : ℕ) (calls more : List KeyedCall) (past next w : Choice) (a d : KeyedCall)
    (at : IsTaken keys place calls more past next w a d) where
  pub taken_next : (inv key : ℕ) → (instead keys next w).taken inv key ≡ (w.taken inv key || taken_by keys a inv key)
  taken_next inv key = by_key (bool_cases (keys key))
    where
      by_key : (keys key ≡ true) ⊎ (keys key ≡ false)
          → cond (keys key) (next.taken inv key) (w.taken inv key) ≡ (w.taken inv key || (keys key && ((inv == a.inv) && a.concerns key)))
      by_key (inl is) =
          rw is (at.after.taken inv key is ∙ ap (λ (t : Bool). t || ((inv == a.inv) && a.concerns key)) (sym (at.same.taken inv key is)))
      by_key (inr is) = rw is (or_none (w.taken inv key))

  -- the keys hold what the call leaves there
  pub rest_leaves : (key : ℕ) → keys key ≡ true → ((rest_of w d).effect key).fits (w.holds key) ≡ true
      → next.holds key ≡ ((rest_of w d).effect key).leaves (w.holds key)
  rest_leaves key is fits =
      let stands = later_stands place w a d at.later at.accepted in
      at.after.holds key is
      ∙ ap (λ (v : Option ℕ). (cond (past.taken a.inv key) no_effect (a.effect key)).leaves v) (sym (at.same.holds key is))
      ∙ ap (λ (t : Bool). (cond t no_effect (a.effect key)).leaves (w.holds key)) (sym (at.same.taken a.inv key is))
      ∙ stands.leaves key (w.holds key) fits

  -- at the keys nothing more of it is left
  pub taken_none : (key : ℕ) → keys key ≡ true → IsNoEffect ((masked_by (taken_by keys a) (rest_of w d)).effect key)
  taken_none key is = by_concerns (bool_cases (a.concerns key))
    where
      named : (d.inv == a.inv) ≡ true
      named = eq-eqb d.inv a.inv at.later.inv

      formed : IsFormed d
      formed = All-contains IsFormed more d at.grown.formed at.in_more

      rest_none : d.concerns key ≡ false → IsNoEffect ((rest_of w d).effect key)
      rest_none out = by_taken (bool_cases (w.taken d.inv key))
        where
          by_taken : (w.taken d.inv key ≡ true) ⊎ (w.taken d.inv key ≡ false) → IsNoEffect (cond (w.taken d.inv key) no_effect (d.effect key))
          by_taken (inl taken) = rw taken none_none
          by_taken (inr untaken) = rw untaken (formed.elsewhere key out)

      by_concerns : (a.concerns key ≡ true) ⊎ (a.concerns key ≡ false)
          → IsNoEffect (cond (keys key && ((d.inv == a.inv) && a.concerns key)) no_effect ((rest_of w d).effect key))
      by_concerns (inl there) = rw (is, named, there) none_none
      by_concerns (inr out) = rw (is, named, out) (rest_none (at.later.concerns key ∙ out))

  -- all calls agree with it
  agrees_next : ((key : ℕ) → keys key ≡ true → ((rest_of w d).effect key).fits (w.holds key) ≡ true) → (e : KeyedCall) → Contains more e
      → Agrees w e → Agrees (instead keys next w) e
  agrees_next fits e e_in agrees = record {
    accepted = λ key taken. accepted key (bool_cases (w.taken e.inv key)) (sym (taken_next e.inv key) ∙ taken);
    fits = λ key taken. fits_at key (bool_cases (w.taken e.inv key)) (sym (taken_next e.inv key) ∙ taken);
  }
    where
      new : (key : ℕ) → w.taken e.inv key ≡ false → (w.taken e.inv key || taken_by keys a e.inv key) ≡ true
          → (keys key ≡ true) × (e ≡ d) × (a.concerns key ≡ true)
      new key untaken taken =
          let more_taken : (keys key && ((e.inv == a.inv) && a.concerns key)) ≡ true = rw untaken at taken in
          let (is, others) = and_parts (keys key) ((e.inv == a.inv) && a.concerns key) more_taken in
          let (named, there) = and_parts (e.inv == a.inv) (a.concerns key) others in
          (is, same_call more e d at.grown.apart.distinct e_in at.in_more (eqb-true e.inv a.inv named ∙ sym at.later.inv), there)

      accepted : (key : ℕ) → (w.taken e.inv key ≡ true) ⊎ (w.taken e.inv key ≡ false)
          → (w.taken e.inv key || taken_by keys a e.inv key) ≡ true → e.refused ≡ false
      accepted key (inl before) taken = agrees.accepted key before
      accepted key (inr untaken) taken = ap (λ (z : KeyedCall). z.refused) (new key untaken taken).1 ∙ at.accepted

      found_before : (key : ℕ) → w.taken e.inv key ≡ true → (keys key ≡ true) ⊎ (keys key ≡ false)
          → cond (keys key) (next.found e.inv key) (w.found e.inv key) ≡ w.found e.inv key
      found_before key before (inl is) =
          let past_taken : past.taken e.inv key ≡ true = sym (at.same.taken e.inv key is) ∙ before in
          rw is (at.after.found_before e.inv key is past_taken ∙ sym (at.same.found e.inv key is past_taken))
      found_before key before (inr is) = rw is refl

      found_now : (key : ℕ) → w.taken e.inv key ≡ false → keys key ≡ true → e ≡ d → a.concerns key ≡ true
          → cond (keys key) (next.found e.inv key) (w.found e.inv key) ≡ w.holds key
      found_now key untaken is one there =
          let e_inv : e.inv ≡ a.inv = ap (λ (z : KeyedCall). z.inv) one ∙ at.later.inv in
          let past_untaken : past.taken a.inv key ≡ false =
          sym (at.same.taken a.inv key is) ∙ subst (λ (n : ℕ). w.taken n key ≡ false) e_inv untaken in
          rw is (ap (λ (n : ℕ). next.found n key) e_inv ∙ at.after.found key is past_untaken there ∙ sym (at.same.holds key is))

      fits_at : (key : ℕ) → (w.taken e.inv key ≡ true) ⊎ (w.taken e.inv key ≡ false)
          → (w.taken e.inv key || taken_by keys a e.inv key) ≡ true
          → (e.effect key).fits (cond (keys key) (next.found e.inv key) (w.found e.inv key)) ≡ true
      fits_at key (inl before) taken =
          subst (λ (v : Option ℕ). (e.effect key).fits v ≡ true) (sym (found_before key before (bool_cases (keys key)))) (agrees.fits key before)
      fits_at key (inr untaken) taken =
          let (is, one, there) = new key untaken taken in
          let rest_fits : (cond (w.taken e.inv key) no_effect (e.effect key)).fits (w.holds key) ≡ true =
          subst (λ (z : KeyedCall). (cond (w.taken z.inv key) no_effect (z.effect key)).fits (w.holds key) ≡ true) (sym one) (fits key is) in
          let e_fits : (e.effect key).fits (w.holds key) ≡ true = rw untaken at rest_fits in
          subst (λ (v : Option ℕ). (e.effect key).fits v ≡ true) (sym (found_now key untaken is one there)) e_fits

  -- the choice goes on, if the order does at the keys
  pub goes_on_next : (goes_on : GoesOn w more) → ((key : ℕ) → keys key ≡ true → ((rest_of w d).effect key).fits (w.holds key) ≡ true)
      → ((key : ℕ) → keys key ≡ true → FitInTurn key (next.holds key) (map (masked_by (taken_by keys a)) goes_on.1.0))
      → GoesOn (instead keys next w) more
  goes_on_next goes_on fits fit = (
    All-from_contains (Agrees (instead keys next w)) more (λ e e_in.
        agrees_next fits e e_in (All-contains (Agrees w) more e goes_on.0 e_in)),
    (
      map (masked_by (taken_by keys a)) goes_on.1.0,
      order_masked w (instead keys next w) (taken_by keys a) more goes_on.1.0 taken_next goes_on.1.1 (λ key. by_key key (bool_cases (keys key))),
    ),
  )
    where
      by_key : (key : ℕ) → (keys key ≡ true) ⊎ (keys key ≡ false)
          → FitInTurn key (cond (keys key) (next.holds key) (w.holds key)) (map (masked_by (taken_by keys a)) goes_on.1.0)
      by_key key (inl is) =
          subst (λ (t : Bool). FitInTurn key (cond t (next.holds key) (w.holds key)) (map (masked_by (taken_by keys a)) goes_on.1.0)) (sym is)
          (fit key is)
      by_key key (inr is) =
          subst (λ (t : Bool). FitInTurn key (cond t (next.holds key) (w.holds key)) (map (masked_by (taken_by keys a)) goes_on.1.0)) (sym is)
          (quiet_masked (taken_by keys a) key goes_on.1.0 (w.holds key) (λ x x_in. inl (rw is refl)) (goes_on.1.1.fit key))
