-- Orders of calls, up to a place.
use Rattle.follow_laws.proofs.Common.{◌≡◌, ℕ, ◌<◌, ◌≤◌, Bool, true, false, nat_lt, List, [], ◌∷◌, ◌++◌, Option, Some, None, inl, inr, refl, sym, ap}
use Rattle.follow_laws.proofs.Common.{◌∙◌, subst, ⊎_elim, arith, ◌≢◌, ◌⊎◌, All, Contains, ltb-true, ltb-false, lt-ltb, All-nil, All-cons}
use Rattle.follow_laws.proofs.Common.{All-contains, Contains-append_cases, AllPairs-head, AllPairs-tail, AllPairs-back, Contains-nil, Contains-cases}
use Rattle.follow_laws.proofs.Common.{KeyedCall, ends_before, precedes, AreDistinct, KeepPrecedence}

-- only one call has a name
pub same_call : (calls : List KeyedCall) (a b : KeyedCall) → AreDistinct calls → Contains calls a → Contains calls b → a.inv ≡ b.inv → a ≡ b
same_call [] a b distinct a_in b_in same = absurd (Contains-nil a a_in)
same_call (x ∷ calls) a b distinct a_in b_in same =
    ⊎_elim
    (λ first. ⊎_elim (λ other. sym first ∙ other)
    (λ later. absurd (All-contains (λ y. x.inv ≢ y.inv) calls b (AllPairs-head (λ y z. y.inv ≢ z.inv) x calls distinct) later
    (ap (λ (y : KeyedCall). y.inv) first ∙ same)))
    (Contains-cases x calls b b_in))
    (λ later. ⊎_elim
    (λ other. absurd (All-contains (λ y. x.inv ≢ y.inv) calls a (AllPairs-head (λ y z. y.inv ≢ z.inv) x calls distinct) later
    (ap (λ (y : KeyedCall). y.inv) other ∙ sym same)))
    (λ further. same_call calls a b (AllPairs-tail (λ y z. y.inv ≢ z.inv) x calls distinct) later further same)
    (Contains-cases x calls b b_in))
    (Contains-cases x calls a a_in)

-- what ends before an earlier place ends before a later one
pub ends_sooner : (res : Option ℕ) (place later : ℕ) → place ≤ later → ends_before res place ≡ true → ends_before res later ≡ true
ends_sooner None place later less h = h
ends_sooner (Some res) place later less h = let before : res < place = ltb-true res place h in lt-ltb res later (omega arith)

pub ends_at : (res : Option ℕ) (at place : ℕ) → res ≡ Some at → at < place → ends_before res place ≡ true
ends_at res at place is before = rw is (lt-ltb at place before)

-- an order up to the first call that began at a place or later
pub record IsSplitAt (place : ℕ) (order early late : List KeyedCall) : Type 0 where
  pub parts : order ≡ early ++ late
  pub begun : All (λ a. a.inv < place) early
  pub rest : (late ≡ []) ⊎ ((x : KeyedCall) × (others : List KeyedCall) × (late ≡ x ∷ others) × (place ≤ x.inv))

split_cons : (place : ℕ) (a : KeyedCall) (order : List KeyedCall) (b : Bool) → nat_lt a.inv place ≡ b
    → (early : List KeyedCall) × (late : List KeyedCall) × IsSplitAt place order early late
    → (early : List KeyedCall) × (late : List KeyedCall) × IsSplitAt place (a ∷ order) early late
split_cons place a order true is (early, late, split) = (
  a ∷ early,
  late,
  record {
    parts = ap (λ (xs : List KeyedCall). a ∷ xs) split.parts;
    begun = All-cons (λ x. x.inv < place) a early (ltb-true a.inv place is) split.begun;
    rest = split.rest;
  },
)
split_cons place a order false is (early, late, split) = (
  [],
  a ∷ order,
  record {
    parts = refl;
    begun = All-nil (λ x. x.inv < place);
    rest = inr (a, order, refl, ltb-false a.inv place is);
  },
)

pub split_at : (place : ℕ) (order : List KeyedCall) → (early : List KeyedCall) × (late : List KeyedCall) × IsSplitAt place order early late
split_at place [] = ([], [], record { parts = refl; begun = All-nil (λ x. x.inv < place); rest = inl refl })
split_at place (a ∷ order) = split_cons place a order (nat_lt a.inv place) refl (split_at place order)

-- a call that ended before the place is in the first part, if none precedes itself
pub ended_early : (place : ℕ) (order early late : List KeyedCall) (a : KeyedCall) → IsSplitAt place order early late → KeepPrecedence order
    → precedes a a ≡ false → ends_before a.res place ≡ true → Contains order a → Contains early a
ended_early place order early late a split keeps alone ended is =
    let whole = subst (λ (xs : List KeyedCall). Contains xs a) split.parts is in
    ⊎_elim (λ first. first)
    (λ second. ⊎_elim
    (λ none. absurd (Contains-nil a (subst (λ (xs : List KeyedCall). Contains xs a) none second)))
    (λ some. absurd (not_late some.0 some.1 some.3
    (subst (λ (xs : List KeyedCall). KeepPrecedence xs) some.2 (AllPairs-back (λ x y. precedes y x ≡ false) early late
    (subst (λ (xs : List KeyedCall). KeepPrecedence xs) split.parts keeps)))
    (subst (λ (xs : List KeyedCall). Contains xs a) some.2 second)))
    split.rest)
    (Contains-append_cases early late a whole)
  where
    not_late : (x : KeyedCall) (others : List KeyedCall) → place ≤ x.inv → KeepPrecedence (x ∷ others) → Contains (x ∷ others) a → ⊥
    not_late x others late_x keeps_x is_x =
        let before : precedes a x ≡ true = ends_sooner a.res place x.inv late_x ended in
        ⊎_elim
        (λ same. let itself : precedes a a ≡ true = subst (λ (y : KeyedCall). precedes a y ≡ true) same before in cc)
        (λ later. let never : precedes a x ≡ false = All-contains (λ y. precedes y x ≡ false) others a
        (AllPairs-head (λ y z. precedes z y ≡ false) x others keeps_x) later in cc)
        (Contains-cases x others a is_x)
