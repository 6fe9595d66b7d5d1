-- A read that was answered is taken out of an order: `read_comes`, if it fits what the keys hold. `read_fits` and `read_quiet`: what is left of
-- it by a choice fits, and is quiet.
use Rattle.follow_laws.proofs.Common.{◌≡◌, ℕ, Bool, true, false, ◌&&◌, ◌==◌, cond, List, ◌∷◌, map, Option, inl, inr, refl, sym, ap, ◌∙◌, subst}
use Rattle.follow_laws.proofs.Common.{⊎_elim, ◌⊎◌, Contains, and_parts, eqb-true, All-head, Contains-from_map, Contains-first, Contains-later}
use Rattle.follow_laws.proofs.Common.{Contains-cases, KeyedCall, is_completed, no_effect, FitInTurn, HaveGrown, Choice, rest_of, GoesOn, SomeGoesOn}
use Rattle.follow_laws.proofs.Common.{Keys, IsQuiet, Part, IsAt, IsOneOf, ShareKeys, choices_of, IsAfterCall, IsReadAt}
use Rattle.follow_laws.proofs.DeadLemmas.{bool_cases}
use Rattle.follow_laws.proofs.OrderLemmas.{same_call}
use Rattle.follow_laws.proofs.FirstLemmas.{completed_stays}
use Rattle.follow_laws.proofs.MaskLemmas.{masked_by, quiet_masked}
use Rattle.follow_laws.proofs.NextLemmas.{taken_by, IsTaken, rest_leaves, goes_on_next}
use Rattle.follow_laws.proofs.PartLemmas.{instead, with_instead, with_other}

-- a quiet read is taken out of an order
module _ (keys : Keys) (place : ℕ) (calls more : List KeyedCall) (past next w : Choice) (b : KeyedCall) (same : IsAt keys past w)
    (grown : HaveGrown place calls more) (b_in : Contains more b) (accepted : b.refused ≡ false) (read : IsReadAt keys past b)
    (fits : (key : ℕ) → keys key ≡ true → ((rest_of past b).effect key).fits (past.holds key) ≡ true) (after : IsAfterCall keys past b next) where
  pub read_fits : (key : ℕ) → keys key ≡ true → ((rest_of w b).effect key).fits (w.holds key) ≡ true
  read_fits key is =
      subst (λ (t : Bool). (cond t no_effect (b.effect key)).fits (w.holds key) ≡ true) (sym (same.taken b.inv key is))
      (subst (λ (v : Option ℕ). (cond (past.taken b.inv key) no_effect (b.effect key)).fits v ≡ true) (sym (same.holds key is)) (fits key is))

  pub read_quiet : (key : ℕ) → keys key ≡ true → IsQuiet (rest_of w b) key
  read_quiet key is value fit =
      ap (λ (t : Bool). (cond t no_effect (b.effect key)).leaves value) (same.taken b.inv key is)
      ∙ read key is value (subst (λ (t : Bool). (cond t no_effect (b.effect key)).fits value ≡ true) (same.taken b.inv key is) fit)

  read_taken : IsTaken keys place calls more past next w b b
  read_taken = record {
    same = same;
    after = after;
    grown = grown;
    in_more = b_in;
    later = record { inv = refl; concerns = λ key. refl; response = inl refl };
    accepted = accepted;
  }

  pub read_goes_on : GoesOn w more → GoesOn (instead keys next w) more
  read_goes_on goes_on =
      goes_on_next keys place calls more past next w b b read_taken goes_on read_fits (λ key is.
      subst (λ (v : Option ℕ). FitInTurn key v (map (masked_by (taken_by keys b)) goes_on.1.0))
      (sym (rest_leaves keys place calls more past next w b b read_taken key is (read_fits key is)
      ∙ read_quiet key is (w.holds key) (read_fits key is)))
      (quiet_masked (taken_by keys b) key goes_on.1.0 (w.holds key)
      (λ x x_in. quiet x key is (Contains-from_map (rest_of w) more x (goes_on.1.1.known x x_in)) (bool_cases (taken_by keys b x.inv key)))
      (goes_on.1.1.fit key)))
    where
      quiet : (x : KeyedCall) (key : ℕ) → keys key ≡ true → (e : KeyedCall) × Contains more e × (rest_of w e ≡ x)
          → (taken_by keys b x.inv key ≡ true) ⊎ (taken_by keys b x.inv key ≡ false) → (taken_by keys b x.inv key ≡ false) ⊎ IsQuiet x key
      quiet x key is some (inr out) = inl out
      quiet x key is (e, e_in, e_is) (inl taken) =
          let (there, others) = and_parts (keys key) ((x.inv == b.inv) && b.concerns key) taken in
          let (named, concerned) = and_parts (x.inv == b.inv) (b.concerns key) others in
          let one : e ≡ b = same_call more e b grown.apart.distinct e_in b_in (ap (λ (z : KeyedCall). z.inv) e_is ∙ eqb-true x.inv b.inv named) in
          inr (subst (λ (z : KeyedCall). IsQuiet z key) (ap (λ (z : KeyedCall). rest_of w z) (sym one) ∙ e_is) (read_quiet key is))

-- a choice that has taken the read goes on
pub read_comes : (place : ℕ) (calls : List KeyedCall) (keys : Keys) (past next : Choice) (others : List Choice) (rest : List Part) (b : KeyedCall)
    → Contains calls b → is_completed b ≡ true → b.refused ≡ false → IsReadAt keys past b
    → ((key : ℕ) → keys key ≡ true → ((rest_of past b).effect key).fits (past.holds key) ≡ true) → IsAfterCall keys past b next
    → ShareKeys (record { keys = keys; pasts = past ∷ others } ∷ rest)
    → (w : Choice) (more : List KeyedCall) → choices_of (record { keys = keys; pasts = past ∷ others } ∷ rest) w → HaveGrown place calls more
    → GoesOn w more → SomeGoesOn (choices_of (record { keys = keys; pasts = next ∷ others } ∷ rest)) more
read_comes place calls keys past next others rest b b_in completed accepted read fits after shared w more w_is grown goes_on =
    let (p, p_in, same) = All-head (λ part. IsOneOf part.keys part.pasts w) (record { keys = keys; pasts = past ∷ others }) rest w_is in
    ⊎_elim
    (λ first. (
      instead keys next w,
      with_instead keys (past ∷ others) (next ∷ others) rest next w shared (Contains-first next others) w_is,
      read_goes_on keys place calls more past next w b (subst (λ (q : Choice). IsAt keys q w) (sym first) same) grown
          (completed_stays place calls more b grown b_in completed) accepted read fits after goes_on,
    ))
    (λ other. (w, with_other keys (past ∷ others) (next ∷ others) rest w p w_is (Contains-later next others p other) same, goes_on))
    (Contains-cases past others p p_in)
