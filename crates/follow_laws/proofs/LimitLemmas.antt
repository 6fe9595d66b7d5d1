-- A kept past at some of its keys, up to a limit before which no pending read of these keys began. The operations say what is left there of the
-- calls that began before the limit.
use Rattle.follow_laws.proofs.Common.{◌≡◌, ℕ, ◌+◌, ◌<◌, ◌≤◌, Bool, true, false, not, ◌&&◌, List, [], ◌∷◌, None, inl, inr, refl, sym, ◌∙◌, subst}
use Rattle.follow_laws.proofs.Common.{⊎_elim, arith, ◌⊎◌, Contains, and_parts, cases_eq, All-head, Contains-nil, Contains-first, Contains-later}
use Rattle.follow_laws.proofs.Common.{Contains-cases, Operation, KeyedCall, concerns_key, keyed, AreKeyedCalls, Choice, at_first, rest_of, Keys}
use Rattle.follow_laws.proofs.Common.{IsAlikeAt, Part, IsAt, IsOneOf, choices_of, left_at, IsLeftAt, AreKnownAt, ArePartedBefore, AreAllLeft}
use Rattle.follow_laws.proofs.Common.{HasSomeKeyIn, HaveKeysTogether, KeptPast, IsPast, IsNameKept, OpenReadsBeganAfter}
use Rattle.follow_laws.proofs.DeadLemmas.{bool_cases}
use Rattle.follow_laws.proofs.EventLemmas.{not_both}
use Rattle.follow_laws.proofs.FewerLemmas.{AreAmong}
use Rattle.follow_laws.proofs.OrderLemmas.{same_call}
use Rattle.follow_laws.proofs.KnownLemmas.{calls_are_known}

-- ---- an operation of a name that has some key among these, or none

-- an operation as it is while it is pending
abbrev pending : Operation → Operation
pending o = record { inv = o.inv; call = o.call; response = None }

some_key : (keys : Keys) (o : Operation) → HasSomeKeyIn keys o ⊎ (HasSomeKeyIn keys o → ⊥)
some_key keys o =
    ⊎_elim
    (λ has. inl has)
    (λ none. inr (λ has. not_both (concerns_key o.call has.0) has.2 (none has.0 has.1)))
    (calls_are_known keys (o.inv + 1) (at_first (λ (key : ℕ). None)) (pending o ∷ []) (keyed (pending o)) (Contains-first (keyed (pending o)) [])
    (omega arith) refl)

-- an operation of this name that has some key among these
abbrev pub IsNamed : Keys → ℕ → Operation → Type 0
IsNamed keys inv o = (o.inv ≡ inv) × HasSomeKeyIn keys o

is_named : (keys : Keys) (inv : ℕ) (o : Operation) → IsNamed keys inv o ⊎ (IsNamed keys inv o → ⊥)
is_named keys inv o =
    ⊎_elim
    (λ same. ⊎_elim (λ has. inl (same, has)) (λ none. inr (λ both. none both.1)) (some_key keys o))
    (λ differ. inr (λ both. differ both.0))
    (cases_eq o.inv inv)

pub named_or_none : (keys : Keys) (inv : ℕ) (left : List Operation)
    → ((o : Operation) × Contains left o × IsNamed keys inv o) ⊎ ((o : Operation) → Contains left o → IsNamed keys inv o → ⊥)
named_or_none keys inv [] = inr (λ o o_in named. Contains-nil o o_in)
named_or_none keys inv (o ∷ left) = by_first (is_named keys inv o) (named_or_none keys inv left)
  where
    by_first : IsNamed keys inv o ⊎ (IsNamed keys inv o → ⊥)
        → ((p : Operation) × Contains left p × IsNamed keys inv p) ⊎ ((p : Operation) → Contains left p → IsNamed keys inv p → ⊥)
        → ((p : Operation) × Contains (o ∷ left) p × IsNamed keys inv p)
        ⊎ ((p : Operation) → Contains (o ∷ left) p → IsNamed keys inv p → ⊥)
    by_first (inl named) rest = inl (o, Contains-first o left, named)
    by_first (inr differ) (inl (p, p_in, named)) = inl (p, Contains-later o left p p_in, named)
    by_first (inr differ) (inr none) = inr (λ p p_in named. ⊎_elim
        (λ same. differ (subst (IsNamed keys inv) (sym same) named))
        (λ later. none p later named)
        (Contains-cases o left p p_in))

-- if the first of the parts has one past, a choice of the parts is this past at its keys
only_past : (keys : Keys) (past : Choice) (rest : List Part) (w : Choice) → choices_of (record { keys = keys; pasts = past ∷ [] } ∷ rest) w
    → IsAt keys past w
only_past keys past rest w w_is =
    let (p, p_in, at_p) = All-head (λ part. IsOneOf part.keys part.pasts w) (record { keys = keys; pasts = past ∷ [] }) rest w_is in
    ⊎_elim (λ first. subst (λ (q : Choice). IsAt keys q w) (sym first) at_p) (λ later. absurd (Contains-nil p later)) (Contains-cases past [] p p_in)

-- ---- calls that began before the limit

false_of : (b : Bool) → not b ≡ true → b ≡ false
false_of true is = sym is
false_of false is = refl

-- All that is known of a past and of the limit.
pub record IsPastBefore (keys some : Keys) (limit : ℕ) (calls : List KeyedCall) (kept : KeptPast) (past : Choice) : Type 0 where
  pub is : IsPast keys calls kept past
  pub apart : AreKeyedCalls calls
  pub among : AreAmong some keys
  pub together : HaveKeysTogether some limit kept.left
  pub late : OpenReadsBeganAfter keys limit calls kept

module _ (keys some : Keys) (limit : ℕ) (calls : List KeyedCall) (kept : KeptPast) (past : Choice)
    (at : IsPastBefore keys some limit calls kept past) where
  -- each call is among the operations, if something of it is left
  pub all_left : AreAllLeft keys past limit calls kept.left
  all_left a a_in early accepted is_left =
      ⊎_elim (λ shown. shown) (λ open_read. by_late (at.late a is_left.0 a_in open_read is_left.1 concerned)) (at.is.whole a a_in accepted is_left)
    where
      concerned : a.concerns is_left.0 ≡ true
      concerned = (and_parts (not (past.taken a.inv is_left.0)) (a.concerns is_left.0) is_left.2).1

      -- a pending read that is kept was not taken; therefore it is left
      by_late : (limit ≤ a.inv) ⊎ IsNameKept kept a → (o : Operation) × Contains kept.left o × IsAlikeAt keys (left_at keys past a) (keyed o)
      by_late (inl later) = absurd (omega arith)
      by_late (inr (inl (o, o_in, same))) =
          let (b, b_in, b_accepted, b_left, alike) = at.is.owned o o_in in
          let one : b ≡ a = same_call calls b a at.apart.distinct b_in a_in (sym alike.inv ∙ same) in
          (o, o_in, subst (λ (z : KeyedCall). IsAlikeAt keys (left_at keys past z) (keyed o)) one alike)
      by_late (inr (inr (f, f_in, named, here))) =
          let taken = (at.is.found.right f f_in).1 in
          let own : past.taken a.inv is_left.0 ≡ true =
          subst (λ (n : ℕ). past.taken n is_left.0 ≡ true) named
          (subst (λ (k : ℕ). past.taken f.inv k ≡ true) (here is_left.0 concerned) taken) in
          absurd (not_both (past.taken a.inv is_left.0) own
          (false_of (past.taken a.inv is_left.0) (and_parts (not (past.taken a.inv is_left.0)) (a.concerns is_left.0) is_left.2).0))

  -- an operation that has some key among these has all keys of its call there
  keys_inside : (o : Operation) (a : KeyedCall) → Contains kept.left o → Contains calls a → a.inv ≡ o.inv → o.inv < limit → HasSomeKeyIn some o
      → (key : ℕ) → a.concerns key ≡ true → some key ≡ true
  keys_inside o a o_in a_in same early has key concerned = at.together o o_in early has key (at.is.own o a o_in a_in same key concerned)

  -- the call of an operation that has some key there is left there
  pub left_there : (o : Operation) → Contains kept.left o → o.inv < limit → HasSomeKeyIn some o
      → (a : KeyedCall) × Contains calls a × (a.refused ≡ false) × IsLeftAt some past a × IsAlikeAt keys (left_at keys past a) (keyed o)
  left_there o o_in early has =
      let (a, a_in, accepted, is_left, alike) = at.is.owned o o_in in
      let concerned : a.concerns is_left.0 ≡ true = (and_parts (not (past.taken a.inv is_left.0)) (a.concerns is_left.0) is_left.2).1 in
      (a, a_in, accepted, (is_left.0, keys_inside o a o_in a_in (sym alike.inv) early has is_left.0 concerned, is_left.2), alike)

  -- if something of a call is left there, it has an operation that has some key there
  named_there : (a : KeyedCall) → Contains calls a → a.inv < limit → a.refused ≡ false → IsLeftAt some past a
      → (o : Operation) × Contains kept.left o × IsNamed some a.inv o
  named_there a a_in early accepted is_left =
      let (o, o_in, alike) = all_left a a_in early accepted (is_left.0, at.among is_left.0 is_left.1, is_left.2) in
      let concerned : a.concerns is_left.0 ≡ true = (and_parts (not (past.taken a.inv is_left.0)) (a.concerns is_left.0) is_left.2).1 in
      (o, o_in, (alike.inv, (is_left.0, is_left.1, at.is.own o a o_in a_in (sym alike.inv) is_left.0 concerned)))

  pub known_at : AreKnownAt some limit past calls
  known_at a a_in early accepted =
      ⊎_elim
      (λ found.
      let (o, o_in, named) = found in
      let same : o.inv ≡ a.inv = named.0 in
      let (b, b_in, b_accepted, is_left, alike) = left_there o o_in (omega arith) named.1 in
      let one : b ≡ a = same_call calls b a at.apart.distinct b_in a_in (sym alike.inv ∙ same) in
      inl (subst (IsLeftAt some past) one is_left))
      (λ none. inr (λ key here. ⊎_elim
      (λ left.
      let (o, o_in, named) = named_there a a_in early accepted (key, here, left) in
      absurd (none o o_in named))
      (λ free. free)
      (bool_cases ((rest_of past a).concerns key))))
      (named_or_none some a.inv kept.left)

  -- a call is left only at these keys, or only at others
  pub parted_before : (rest : List Part) → ArePartedBefore some limit (record { keys = keys; pasts = past ∷ [] } ∷ rest) calls
  parted_before rest w b w_is b_in early accepted =
      ⊎_elim
      (λ is_left.
      let (o, o_in, named) = named_there b b_in early accepted is_left in
      let same : o.inv ≡ b.inv = named.0 in
      inl (λ key out. ⊎_elim
      (λ left.
      absurd (not_both (some key) (keys_inside o b o_in b_in (sym same) (omega arith) named.1 key
      (and_parts (not (w.taken b.inv key)) (b.concerns key) left).1) out))
      (λ free. free)
      (bool_cases ((rest_of w b).concerns key))))
      (λ none. inr (λ key here.
      subst (λ (t : Bool). (not t && b.concerns key) ≡ false) (sym ((only_past keys past rest w w_is).taken b.inv key (at.among key here)))
      (none key here)))
      (known_at b b_in early accepted)
