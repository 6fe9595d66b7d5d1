-- What is kept of a past after an operation that is left.
use Rattle.follow_laws.proofs.Common.{◌≡◌, ℕ, ◌==◌, true, false, not, ◌&&◌, List, [], Option, Some, None, inl, inr, refl, sym, ap, ◌∙◌, subst, ⊎_elim}
use Rattle.follow_laws.proofs.Common.{◌⊎◌, ◌↔◌, All, Contains, is_some, and_parts, and_from, or_right, or_cases, not-true, eqb-true, eq-eqb, ne_eqb}
use Rattle.follow_laws.proofs.Common.{All-contains, All-from_contains, Contains-nil, Contains-first, Contains-cases, Contains-filter}
use Rattle.follow_laws.proofs.Common.{Contains-from_filter, Operation, Response, low_key, high_key, Contents, value_at, KeyedCall, is_completed}
use Rattle.follow_laws.proofs.Common.{place_of, keyed, AreKeyedCalls, Choice, rest_of, Keys, IsAlikeAt, AgreesAt, left_at, IsLeftAt, IsAfterCall}
use Rattle.follow_laws.proofs.Common.{AreLeftCalls, AreOfLeftCalls, without_call, HasKeysIn, HaveTheirKeys, FoundAt, KeptPast, AreAllKept}
use Rattle.follow_laws.proofs.Common.{ArePointsOrAnswered, AreFound, IsPast, found_by, IsPastAfter, after_call}
use Rattle.follow_laws.proofs.DeadLemmas.{bool_cases}
use Rattle.follow_laws.proofs.EventLemmas.{not_both}
use Rattle.follow_laws.proofs.OrderLemmas.{same_call}
use Rattle.follow_laws.proofs.OnePastLemmas.{one_key}

-- what an operation found that is pending
abbrev pub found_at : Contents → Operation → FoundAt
found_at pairs o = record { inv = o.inv; key = low_key o.call; value = value_at pairs (low_key o.call) }

from_found : (pairs : Contents) (o : Operation) (response : Option Response) (f : FoundAt) → Contains (found_by pairs o response) f
    → (response ≡ None) × (found_at pairs o ≡ f)
from_found pairs o None f f_in =
    (refl, ⊎_elim (λ same. same) (λ later. absurd (Contains-nil f later)) (Contains-cases (found_at pairs o) [] f f_in))
from_found pairs o (Some response) f f_in = absurd (Contains-nil f f_in)

no_response : (response : Option Response) → is_some (place_of response) ≡ false → response ≡ None
no_response None pending = refl
no_response (Some response) pending = cc

-- the operations without one
pub from_others : (inv : ℕ) (left : List Operation) (q : Operation) → Contains (without_call inv left) q → Contains left q × (q.inv ≡ inv → ⊥)
from_others inv left q q_in =
    let parts = Contains-from_filter (λ (p : Operation). not (p.inv == inv)) left q q_in in
    (parts.0, λ same. not_both (q.inv == inv) (eq-eqb q.inv inv same) (not-true (q.inv == inv) parts.1))

pub other_operation : (inv : ℕ) (left : List Operation) (q : Operation) → Contains left q → (q.inv ≡ inv → ⊥) → Contains (without_call inv left) q
other_operation inv left q q_in other =
    Contains-filter (λ (p : Operation). not (p.inv == inv)) left q q_in (ap not (ne_eqb q.inv inv other))

-- All that is known when a call is taken from a past: of the past, the call, its operation, and the
-- past that comes next.
pub record IsStep (keys : Keys) (calls : List KeyedCall) (kept : KeptPast) (past after : Choice) (a : KeyedCall) (o : Operation) : Type 0 where
  pub is : IsPast keys calls kept past
  pub apart : AreKeyedCalls calls
  pub a_in : Contains calls a
  pub o_in : Contains kept.left o
  pub alike : IsAlikeAt keys (left_at keys past a) (keyed o)
  pub taken : IsAfterCall keys past a after
  pub left : AreLeftCalls keys after calls (after_call kept.pairs o.call o.response) (without_call o.inv kept.left)
  pub owned : AreOfLeftCalls keys after calls (without_call o.inv kept.left)
  pub agrees : All (AgreesAt keys after) calls

module _ (keys : Keys) (calls : List KeyedCall) (kept : KeptPast) (past after : Choice) (a : KeyedCall) (o : Operation)
    (step : IsStep keys calls kept past after a o) where
  -- ---- what is taken

  taken_before : (inv key : ℕ) → keys key ≡ true → past.taken inv key ≡ true → after.taken inv key ≡ true
  taken_before inv key here old = step.taken.taken inv key here ∙ rw old refl

  taken_now : (key : ℕ) → keys key ≡ true → a.concerns key ≡ true → after.taken a.inv key ≡ true
  taken_now key here concerned =
      step.taken.taken a.inv key here
      ∙ or_right (past.taken a.inv key) ((a.inv == a.inv) && a.concerns key)
      (and_from (a.inv == a.inv) (a.concerns key) (eq-eqb a.inv a.inv refl) concerned)

  old_or_new : (inv key : ℕ) → keys key ≡ true → after.taken inv key ≡ true
      → (past.taken inv key ≡ true) ⊎ ((inv ≡ a.inv) × (a.concerns key ≡ true))
  old_or_new inv key here taken =
      ⊎_elim
      (λ old. inl old)
      (λ new. let parts = and_parts (inv == a.inv) (a.concerns key) new in inr (eqb-true inv a.inv parts.0, parts.1))
      (or_cases (past.taken inv key) ((inv == a.inv) && a.concerns key) (sym (step.taken.taken inv key here) ∙ taken))

  untaken_before : (inv key : ℕ) → keys key ≡ true → after.taken inv key ≡ false → past.taken inv key ≡ false
  untaken_before inv key here free =
      ⊎_elim
      (λ old. absurd (not_both (after.taken inv key) (taken_before inv key here old) free))
      (λ so. so)
      (bool_cases (past.taken inv key))

  -- ---- what is left

  -- a call is another one, if something of it is left
  left_other : (b : KeyedCall) → Contains calls b → IsLeftAt keys after b → b.inv ≡ a.inv → ⊥
  left_other b b_in is_left same =
      let one : b ≡ a = same_call calls b a step.apart.distinct b_in step.a_in same in
      let itself : (rest_of after a).concerns is_left.0 ≡ true =
      subst (λ (z : KeyedCall). (rest_of after z).concerns is_left.0 ≡ true) one is_left.2 in
      let parts = and_parts (not (after.taken a.inv is_left.0)) (a.concerns is_left.0) itself in
      not_both (after.taken a.inv is_left.0) (taken_now is_left.0 is_left.1 parts.1) (not-true (after.taken a.inv is_left.0) parts.0)

  whole_after : AreAllKept keys after calls (without_call o.inv kept.left)
  whole_after b b_in accepted is_left =
      let parts = and_parts (not (after.taken b.inv is_left.0)) (b.concerns is_left.0) is_left.2 in
      let free : past.taken b.inv is_left.0 ≡ false =
      untaken_before b.inv is_left.0 is_left.1 (not-true (after.taken b.inv is_left.0) parts.0) in
      ⊎_elim
      (λ shown.
      let (q, q_in, q_is) = shown in
      let q_other = other_operation o.inv kept.left q q_in (λ same.
      left_other b b_in is_left (sym q_is.inv ∙ same ∙ step.alike.inv)) in
      let (c, c_in, c_accepted, c_left, c_is) = step.owned q q_other in
      let one : c ≡ b = same_call calls c b step.apart.distinct c_in b_in (sym c_is.inv ∙ q_is.inv) in
      inl (q, q_other, subst (λ (z : KeyedCall). IsAlikeAt keys (left_at keys after z) (keyed q)) one c_is))
      (λ open_read. inr open_read)
      (step.is.whole b b_in accepted (is_left.0, is_left.1, rw free parts.1))

  own_after : HaveTheirKeys calls (without_call o.inv kept.left)
  own_after q b q_in b_in same key concerned = step.is.own q b (from_others o.inv kept.left q q_in).0 b_in same key concerned

  within_after : All (HasKeysIn keys) (without_call o.inv kept.left)
  within_after = All-from_contains (HasKeysIn keys) (without_call o.inv kept.left) (λ q q_in.
      All-contains (HasKeysIn keys) kept.left q step.is.within (from_others o.inv kept.left q q_in).0)

  points_after : ArePointsOrAnswered (without_call o.inv kept.left)
  points_after = All-from_contains (λ q. (q.response ≡ None) → low_key q.call ≡ high_key q.call) (without_call o.inv kept.left) (λ q q_in.
      All-contains (λ p. (p.response ≡ None) → low_key p.call ≡ high_key p.call) kept.left q step.is.points
      (from_others o.inv kept.left q q_in).0)

  untaken_after : (q : Operation) (key : ℕ) → Contains (without_call o.inv kept.left) q → keys key ≡ true → after.taken q.inv key ≡ false
  untaken_after q key q_in here =
      let (inside, other) = from_others o.inv kept.left q q_in in
      ⊎_elim
      (λ taken. ⊎_elim
      (λ old. absurd (not_both (past.taken q.inv key) old (step.is.untaken q key inside here)))
      (λ new. absurd (other (new.0 ∙ sym step.alike.inv)))
      (old_or_new q.inv key here taken))
      (λ free. free)
      (bool_cases (after.taken q.inv key))

  known_after : (inv key : ℕ) → keys key ≡ true → after.taken inv key ≡ true
      → (b : KeyedCall) × Contains calls b × (b.inv ≡ inv) × (b.concerns key ≡ true)
  known_after inv key here taken =
      ⊎_elim
      (λ old. step.is.known inv key here old)
      (λ new. (a, step.a_in, sym new.0, new.1))
      (old_or_new inv key here taken)

  -- ---- what was found

  -- a key at which the call was left
  left_key : (key : ℕ) × (keys key ≡ true) × (past.taken a.inv key ≡ false) × (a.concerns key ≡ true)
  left_key =
      let (c, c_in, c_accepted, c_left, c_is) = step.is.owned o step.o_in in
      let one : c ≡ a = same_call calls c a step.apart.distinct c_in step.a_in (sym c_is.inv ∙ step.alike.inv) in
      let is_left : IsLeftAt keys past a = subst (IsLeftAt keys past) one c_left in
      let parts = and_parts (not (past.taken a.inv is_left.0)) (a.concerns is_left.0) is_left.2 in
      (is_left.0, is_left.1, not-true (past.taken a.inv is_left.0) parts.0, parts.1)

  -- a pending operation has one key
  own_key : o.response ≡ None → (key : ℕ) → a.concerns key ≡ true → low_key o.call ≡ key
  own_key pending key concerned =
      one_key o.call key
      (All-contains (λ p. (p.response ≡ None) → low_key p.call ≡ high_key p.call) kept.left o step.is.points step.o_in pending)
      (step.is.own o a step.o_in step.a_in (sym step.alike.inv) key concerned)

  -- what is noted of a call that was found there
  abbrev IsRight : FoundAt → Type 0
  IsRight f = (keys f.key ≡ true) × (after.taken f.inv f.key ≡ true) × (after.found f.inv f.key ≡ f.value)

  found_right : o.response ≡ None → IsRight (found_at kept.pairs o)
  found_right pending =
      let (key, here, free, concerned) = left_key in
      let same : key ≡ low_key o.call = sym (own_key pending key concerned) in
      subst (λ (k : ℕ). (keys k ≡ true) × (after.taken o.inv k ≡ true) × (after.found o.inv k ≡ value_at kept.pairs k)) same
      (subst (λ (n : ℕ). (keys key ≡ true) × (after.taken n key ≡ true) × (after.found n key ≡ value_at kept.pairs key)) (sym step.alike.inv)
      (here, taken_now key here concerned, step.taken.found key here free concerned ∙ sym (step.is.alike.same key here)))

  found_after : (found : List FoundAt)
      → ((f : FoundAt) → Contains found f ↔ (Contains kept.found f ⊎ Contains (found_by kept.pairs o o.response) f))
      → AreFound keys after calls found
  found_after found each = record {
    right = λ f f_in. ⊎_elim
        (λ old.
        let before = step.is.found.right f old in (
          before.0,
          taken_before f.inv f.key before.0 before.1,
          step.taken.found_before f.inv f.key before.0 before.1 ∙ before.2,
        ))
        (λ new. let parts = from_found kept.pairs o o.response f new in subst IsRight parts.1 (found_right parts.0))
        ((each f).0 f_in);
    whole = λ b key b_in pending here taken. ⊎_elim
        (λ old. let (f, f_in, f_inv, f_key) = step.is.found.whole b key b_in pending here old in (f, (each f).1 (inl f_in), f_inv, f_key))
        (λ new.
        let one : b ≡ a = same_call calls b a step.apart.distinct b_in step.a_in new.0 in
        let no_place : is_some a.res ≡ false = subst (λ (z : KeyedCall). is_completed z ≡ false) one pending in
        let none : o.response ≡ None = no_response o.response (ap is_some step.alike.res ∙ no_place) in
        let f = found_at kept.pairs o in
        let noted : Contains (found_by kept.pairs o o.response) f =
        subst (λ (r : Option Response). Contains (found_by kept.pairs o r) f) (sym none) (Contains-first f []) in
        (f, (each f).1 (inr noted), step.alike.inv ∙ sym new.0, own_key none key new.1))
        (old_or_new b.inv key here taken);
  }

  pub is_past_after : (next : KeptPast) → IsPastAfter kept o next → IsPast keys calls next after
  is_past_after next next_is = record {
    alike = rw (next_is.pairs, next_is.left) step.left;
    owned = rw next_is.left step.owned;
    whole = rw next_is.left whole_after;
    agrees = step.agrees;
    own = rw next_is.left own_after;
    within = rw next_is.left within_after;
    points = rw next_is.left points_after;
    untaken = rw next_is.left untaken_after;
    known = known_after;
    found = found_after next.found next_is.found;
  }
