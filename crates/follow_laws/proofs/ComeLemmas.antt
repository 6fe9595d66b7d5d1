-- Operations that may come next: what they do to a map is what their calls do at the keys.
use Rattle.follow_laws.proofs.Common.{◌≡◌, ℕ, ◌<◌, ◌==◌, Bool, true, false, nat_lt, not, ◌||◌, ◌&&◌, cond, List, Option, Some, None, inl, inr, refl}
use Rattle.follow_laws.proofs.Common.{sym, ap, ◌∙◌, subst, ⊎_elim, arith, ◌⊎◌, All, Contains, ltb-true, ltb-false, eqb-true, eq-eqb, ne_eqb, not-true}
use Rattle.follow_laws.proofs.Common.{and_parts, or_cases, cases_eq, All-contains, AllPairs-filter, All-from_contains, Contains-filter}
use Rattle.follow_laws.proofs.Common.{Contains-from_filter, Operation, Contents, value_at, IsLegalCall, after_call, KeyedCall, Effect, IsFormed}
use Rattle.follow_laws.proofs.Common.{IsNoEffect, no_effect, ends_before, precedes, concerns_key, keyed, AreKeyedCalls, HasForm, Choice, rest_of}
use Rattle.follow_laws.proofs.Common.{Keys, IsWithin, IsAlikeAt, OperationsMayCome, OperationsComeNext, AreLeftCalls, AreOfLeftCalls, AreAllLeft}
use Rattle.follow_laws.proofs.Common.{HasSomeKeyIn, OperationMayCome, without_call, HasKeysIn, HaveTheirKeys, AgreesAt, left_at, IsLeftAt}
use Rattle.follow_laws.proofs.Common.{NoneIsLeftAt, MayComeNext, IsAfterCall, rising_kept}
use Rattle.follow_laws.proofs.BridgeLemmas.{same_precedes}
use Rattle.follow_laws.proofs.DeadLemmas.{bool_cases}
use Rattle.follow_laws.proofs.EffectLemmas.{step_of}
use Rattle.follow_laws.proofs.EffectRestLemmas.{none_none, none_or}
use Rattle.follow_laws.proofs.OrderLemmas.{same_call}
use Rattle.follow_laws.proofs.DecideLemmas.{formed_rest}
use Rattle.follow_laws.proofs.PartLemmas.{none_left_out}
use Rattle.follow_laws.proofs.UniteLemmas.{outside}
use Rattle.events.specs.Precedence as events

-- a call that precedes another began before it
began_before : (a b : KeyedCall) → precedes b b ≡ false → precedes b a ≡ true → b.inv < a.inv
began_before a b alone before = by_res b.res refl
  where
    by_res : (res : Option ℕ) → b.res ≡ res → b.inv < a.inv
    by_res None e = cc
    by_res (Some r) e =
        let first : r < a.inv = ltb-true r a.inv (rw e at before) in
        let not_first : nat_lt r b.inv ≡ false = rw e at alone in
        let bound = ltb-false r b.inv not_first in
        omega arith

module _ (keys : Keys) (past : Choice) (calls : List KeyedCall) (pairs : Contents) (left : List Operation) (a : KeyedCall) (o : Operation)
    (are : AreLeftCalls keys past calls pairs left) (alike : IsAlikeAt keys (left_at keys past a) (keyed o)) where
  effect_here : (key : ℕ) → keys key ≡ true → (left_at keys past a).effect key ≡ (rest_of past a).effect key
  effect_here key is = rw is refl

  -- at keys of the part, the operation does to the map what is left of the call does to what they hold
  fits_here : (key : ℕ) → keys key ≡ true
      → ((keyed o).effect key).fits (value_at pairs key) ≡ ((rest_of past a).effect key).fits (past.holds key)
  fits_here key is =
      alike.fits key (value_at pairs key) is ∙ ap (λ (e : Effect). e.fits (value_at pairs key)) (effect_here key is)
      ∙ ap (λ (v : Option ℕ). ((rest_of past a).effect key).fits v) (are.same key is)

  leaves_here : (key : ℕ) → keys key ≡ true
      → ((keyed o).effect key).leaves (value_at pairs key) ≡ ((rest_of past a).effect key).leaves (past.holds key)
  leaves_here key is =
      alike.leaves key (value_at pairs key) is ∙ ap (λ (e : Effect). e.leaves (value_at pairs key)) (effect_here key is)
      ∙ ap (λ (v : Option ℕ). ((rest_of past a).effect key).leaves v) (are.same key is)

  legal : Contains left o → ((key : ℕ) → keys key ≡ true → ((keyed o).effect key).fits (value_at pairs key) ≡ true)
      → IsLegalCall pairs o.call o.response
  legal o_in fits = (step_of pairs o are.rises).fits.1 (
    All-contains (λ b. HasForm b.call b.response) left o are.forms o_in,
    λ key. ⊎_elim
        (λ here. fits key here)
        (λ out. subst (λ (v : Option ℕ). ((keyed o).effect key).fits v ≡ true) (sym (are.nothing key out)) (alike.fits_none key out))
        (bool_cases (keys key)),
  )

  fits : IsLegalCall pairs o.call o.response → (key : ℕ) → keys key ≡ true → ((rest_of past a).effect key).fits (past.holds key) ≡ true
  fits is_legal key is = sym (fits_here key is) ∙ ((step_of pairs o are.rises).fits.0 is_legal).1 key

-- precedence of operations is that of their calls
same_before : (keys : Keys) (past : Choice) (a b : KeyedCall) (o q : Operation) → IsAlikeAt keys (left_at keys past a) (keyed o)
    → IsAlikeAt keys (left_at keys past b) (keyed q) → events.precedes q o ≡ precedes b a
same_before keys past a b o q o_is q_is =
    sym (same_precedes q o) ∙ ap (λ (r : Option ℕ). ends_before r o.inv) q_is.res ∙ ap (λ (n : ℕ). ends_before b.res n) o_is.inv

module _ (keys some : Keys) (past : Choice) (calls : List KeyedCall) (left : List Operation) (own : HaveTheirKeys calls left) (a : KeyedCall)
    (o : Operation) (a_in : Contains calls a) (o_in : Contains left o) (alike : IsAlikeAt keys (left_at keys past a) (keyed o)) where
  -- an operation has each key at which its call is left
  own_key : (key : ℕ) → (rest_of past a).concerns key ≡ true → concerns_key o.call key ≡ true
  own_key key there = own o a o_in a_in (sym alike.inv) key (and_parts (not (past.taken a.inv key)) (a.concerns key) there).1

  -- the call is left only at some of the keys, if the operation has no others
  left_within : HasKeysIn some o → IsWithin some (left_at keys past a)
  left_within inside key out = ⊎_elim
      (λ there.
      let is : some key ≡ true = inside key (own_key key (and_parts (keys key) ((rest_of past a).concerns key) there).1) in
      cc)
      (λ free. free)
      (bool_cases ((left_at keys past a).concerns key))

  left_at_some : HasKeysIn some o → IsLeftAt keys past a → IsLeftAt some past a
  left_at_some inside is_left = (is_left.0, inside is_left.0 (own_key is_left.0 is_left.2), is_left.2)

pub operations_may_come : OperationsMayCome
operations_may_come keys some past limit calls pairs left among apart are of_calls all_left own together = (forth, back)
  where
    none_first : (a : KeyedCall) (o q : Operation) → a.inv < limit → IsAlikeAt keys (left_at keys past a) (keyed o)
        → MayComeNext some past calls a → Contains left q → HasSomeKeyIn some q → events.precedes q o ≡ true → ⊥
    none_first a o q less alike may q_in concerned before =
        let (b, b_in, accepted, is_left, q_is) = of_calls q q_in in
        let calls_before : precedes b a ≡ true = sym (same_before keys past a b o q alike q_is) ∙ before in
        let sooner = began_before a b (All-contains (λ c. precedes c c ≡ false) calls b apart.last b_in) calls_before in
        let same = q_is.inv in
        let here = left_at_some keys some past calls left own b q b_in q_in q_is (together q q_in (omega arith) concerned) is_left in
        ⊎_elim
        (λ refused. let never : true ≡ false = sym refused ∙ accepted in cc)
        (λ none. let never : true ≡ false = sym here.2 ∙ none here.0 here.1 in cc)
        (may.first b b_in calls_before)

    forth : (a : KeyedCall) → Contains calls a → a.inv < limit → MayComeNext some past calls a
        → (o : Operation) × Contains left o × IsAlikeAt keys (left_at keys past a) (keyed o) × IsWithin some (left_at keys past a)
        × OperationMayCome some pairs left o
    forth a a_in less may =
        let (o, o_in, alike) = all_left a a_in less may.accepted (may.is_left.0, among may.is_left.0 may.is_left.1, may.is_left.2) in
        let concerned : HasSomeKeyIn some o =
        (may.is_left.0, may.is_left.1, own_key keys some past calls left own a o a_in o_in alike may.is_left.0 may.is_left.2) in
        let same = alike.inv in
        let inside : HasKeysIn some o = together o o_in (omega arith) concerned in (
          o,
          o_in,
          alike,
          left_within keys some past calls left own a o a_in o_in alike inside,
          record {
            concerned = concerned;
            legal = legal keys past calls pairs left a o are alike o_in (λ key is. ⊎_elim
                (λ here. fits_here keys past calls pairs left a o are alike key is ∙ may.fits key here)
                (λ out. (outside some o inside key out).fits (value_at pairs key))
                (bool_cases (some key)));
            first = λ q q_in has. ⊎_elim
                (λ before. absurd (none_first a o q less alike may q_in has before))
                (λ is. is)
                (bool_cases (events.precedes q o));
          },
        )

    back : (o : Operation) → Contains left o → o.inv < limit → OperationMayCome some pairs left o
        → (a : KeyedCall) × Contains calls a × IsAlikeAt keys (left_at keys past a) (keyed o) × IsWithin some (left_at keys past a)
        × MayComeNext some past calls a
    back o o_in less may =
        let (a, a_in, accepted, is_left, alike) = of_calls o o_in in
        let inside : HasKeysIn some o = together o o_in less may.concerned in (
          a,
          a_in,
          alike,
          left_within keys some past calls left own a o a_in o_in alike inside,
          record {
            is_left = left_at_some keys some past calls left own a o a_in o_in alike inside is_left;
            accepted = accepted;
            fits = λ key is. fits keys past calls pairs left a o are alike may.legal key (among key is);
            first = λ b b_in before. ⊎_elim (λ refused. inl refused) (λ told. inr (none a alike b b_in before told)) (bool_cases b.refused);
          },
        )
      where
        none : (a : KeyedCall) → IsAlikeAt keys (left_at keys past a) (keyed o) → (b : KeyedCall) → Contains calls b → precedes b a ≡ true
            → b.refused ≡ false → NoneIsLeftAt some past b
        none a alike b b_in before told key is = ⊎_elim
            (λ concerned.
            let sooner = began_before a b (All-contains (λ c. precedes c c ≡ false) calls b apart.last b_in) before in
            let same = alike.inv in
            let (q, q_in, q_is) = all_left b b_in (omega arith) told (key, among key is, concerned) in
            let has : HasSomeKeyIn some q = (key, is, own_key keys some past calls left own b q b_in q_in q_is key concerned) in
            let never : true ≡ false = sym before ∙ sym (same_before keys past a b o q alike q_is) ∙ may.first q q_in has in cc)
            (λ free. free)
            (bool_cases ((rest_of past b).concerns key))

-- ---- what is left after a call

-- whether a call is taken after another: as before, if that is a different call
as_before : (taken same concerned : Bool) → same ≡ false → (taken || (same && concerned)) ≡ taken
as_before true same concerned other = refl
as_before false true concerned other = cc
as_before false false concerned other = refl

-- whether a call is taken after itself: at each key that it concerns
taken_now : (taken same concerned : Bool) → same ≡ true → concerned ≡ true → (taken || (same && concerned)) ≡ true
taken_now true same concerned here there = refl
taken_now false true concerned here there = there
taken_now false false concerned here there = cc

-- what is taken has no effect any more
taken_none : (taken : Bool) (e : Effect) → taken ≡ true → IsNoEffect (cond taken no_effect e)
taken_none true e is = none_none
taken_none false e is = cc

module _ (keys : Keys) (past : Choice) (calls : List KeyedCall) (a : KeyedCall) (next : Choice) (apart : AreKeyedCalls calls)
    (a_in : Contains calls a) (after : IsAfterCall keys past a next) where
  -- as much of another call is left as before
  other_taken : (b : KeyedCall) → (b.inv ≡ a.inv → ⊥) → (key : ℕ) → keys key ≡ true → next.taken b.inv key ≡ past.taken b.inv key
  other_taken b other key is =
      after.taken b.inv key is ∙ as_before (past.taken b.inv key) (b.inv == a.inv) (a.concerns key) (ne_eqb b.inv a.inv other)

  other_concerns : (b : KeyedCall) → (b.inv ≡ a.inv → ⊥) → (key : ℕ) → keys key ≡ true
      → (rest_of next b).concerns key ≡ (rest_of past b).concerns key
  other_concerns b other key is = ap (λ (t : Bool). not t && b.concerns key) (other_taken b other key is)

  other_effect : (b : KeyedCall) → (b.inv ≡ a.inv → ⊥) → (key : ℕ) → (left_at keys next b).effect key ≡ (left_at keys past b).effect key
  other_effect b other key = by_key (keys key) (λ is. other_taken b other key is)
    where
      by_key : (here : Bool) → (here ≡ true → next.taken b.inv key ≡ past.taken b.inv key)
          → cond here (cond (next.taken b.inv key) no_effect (b.effect key)) no_effect
          ≡ cond here (cond (past.taken b.inv key) no_effect (b.effect key)) no_effect
      by_key true same = ap (λ (t : Bool). cond t no_effect (b.effect key)) (same refl)
      by_key false same = refl

  other_alike : (b : KeyedCall) (y : KeyedCall) → (b.inv ≡ a.inv → ⊥) → IsAlikeAt keys (left_at keys past b) y
      → IsAlikeAt keys (left_at keys next b) y
  other_alike b y other alike = record {
    inv = alike.inv;
    res = alike.res;
    fits = λ key value is. alike.fits key value is ∙ ap (λ (e : Effect). e.fits value) (sym (other_effect b other key));
    leaves = λ key value is. alike.leaves key value is ∙ ap (λ (e : Effect). e.leaves value) (sym (other_effect b other key));
    none = λ key out. none_left_out keys next b key out;
    fits_none = alike.fits_none;
    leaves_none = alike.leaves_none;
  }

  -- nothing is left of the call itself
  itself_taken : (key : ℕ) → keys key ≡ true → a.concerns key ≡ true → next.taken a.inv key ≡ true
  itself_taken key is concerned =
      after.taken a.inv key is ∙ taken_now (past.taken a.inv key) (a.inv == a.inv) (a.concerns key) (eq-eqb a.inv a.inv refl) concerned

  itself_none : IsFormed a → (key : ℕ) → IsNoEffect ((left_at keys next a).effect key)
  itself_none formed key = ⊎_elim
      (λ here. ⊎_elim
      (λ concerned. rw here (taken_none (next.taken a.inv key) (a.effect key) (itself_taken key here concerned)))
      (λ free. rw here (none_or (next.taken a.inv key) (a.effect key) (formed.elsewhere key free)))
      (bool_cases (a.concerns key)))
      (λ out. none_left_out keys next a key out)
      (bool_cases (keys key))

  -- a call is another one, if something of it is left
  left_other : (b : KeyedCall) → Contains calls b → IsLeftAt keys next b → b.inv ≡ a.inv → ⊥
  left_other b b_in (key, is, concerned) same =
      let one : b ≡ a = same_call calls b a apart.distinct b_in a_in same in
      let itself : (rest_of next a).concerns key ≡ true = subst (λ (z : KeyedCall). (rest_of next z).concerns key ≡ true) one concerned in
      let parts = and_parts (not (next.taken a.inv key)) (a.concerns key) itself in
      let never : true ≡ false = sym (itself_taken key is parts.1) ∙ not-true (next.taken a.inv key) parts.0 in
      cc

  -- the calls agree with what it found
  agree_after : (fits : (key : ℕ) → keys key ≡ true → ((rest_of past a).effect key).fits (past.holds key) ≡ true) → a.refused ≡ false
      → All (AgreesAt keys past) calls → All (AgreesAt keys next) calls
  agree_after fits accepted agree = All-from_contains (AgreesAt keys next) calls (λ b b_in.
      let before = All-contains (AgreesAt keys past) calls b agree b_in in record {
        accepted = λ key is taken. by_taken b b_in key is taken
            (λ old. before.accepted key is old)
            (λ one fresh concerned. subst (λ (z : KeyedCall). z.refused ≡ false) (sym one) accepted);
        fits = λ key is taken. by_taken b b_in key is taken
            (λ old. subst (λ (v : Option ℕ). (b.effect key).fits v ≡ true) (sym (after.found_before b.inv key is old)) (before.fits key is old))
            (λ one fresh concerned. subst (λ (z : KeyedCall). (z.effect key).fits (next.found z.inv key) ≡ true) (sym one)
            (subst (λ (v : Option ℕ). (a.effect key).fits v ≡ true) (sym (after.found key is fresh concerned)) (fits_fresh key is fresh)));
      })
    where
      fits_fresh : (key : ℕ) → keys key ≡ true → past.taken a.inv key ≡ false → (a.effect key).fits (past.holds key) ≡ true
      fits_fresh key is fresh = let whole = fits key is in rw fresh at whole

      by_taken : {P : Type 0} (b : KeyedCall) → Contains calls b → (key : ℕ) → keys key ≡ true → next.taken b.inv key ≡ true
          → (past.taken b.inv key ≡ true → P) → (b ≡ a → past.taken a.inv key ≡ false → a.concerns key ≡ true → P) → P
      by_taken b b_in key is taken old new = ⊎_elim
          (λ before. old before)
          (λ fresh. ⊎_elim
          (λ before. old before)
          (λ now.
          let parts = and_parts (b.inv == a.inv) (a.concerns key) now in
          let one : b ≡ a = same_call calls b a apart.distinct b_in a_in (eqb-true b.inv a.inv parts.0) in
          new one (subst (λ (z : KeyedCall). past.taken z.inv key ≡ false) one fresh) parts.1)
          (or_cases (past.taken b.inv key) ((b.inv == a.inv) && a.concerns key) (sym (after.taken b.inv key is) ∙ taken)))
          (bool_cases (past.taken b.inv key))

-- the operations without one
other_operation : (inv : ℕ) (left : List Operation) (q : Operation) → Contains left q → (q.inv ≡ inv → ⊥) → Contains (without_call inv left) q
other_operation inv left q q_in other =
    Contains-filter (λ (p : Operation). not (p.inv == inv)) left q q_in (ap not (ne_eqb q.inv inv other))

from_others : (inv : ℕ) (left : List Operation) (q : Operation) → Contains (without_call inv left) q → Contains left q × (q.inv ≡ inv → ⊥)
from_others inv left q q_in =
    let parts = Contains-from_filter (λ (p : Operation). not (p.inv == inv)) left q q_in in (
      parts.0,
      λ same. let never : true ≡ false = sym (eq-eqb q.inv inv same) ∙ not-true (q.inv == inv) parts.1 in cc,
    )

-- what becomes of a past by a call
abbrev next_of : Choice → KeyedCall → Choice
next_of past a = record {
  taken = λ inv key. past.taken inv key || ((inv == a.inv) && a.concerns key);
  found = λ inv key. cond (past.taken inv key) (past.found inv key) (past.holds key);
  holds = λ key. ((rest_of past a).effect key).leaves (past.holds key);
}

after_next : (keys : Keys) (past : Choice) (a : KeyedCall) → IsAfterCall keys past a (next_of past a)
after_next keys past a = record {
  taken = λ inv key is. refl;
  holds = λ key is. refl;
  found_before = λ inv key is taken. rw taken refl;
  found = λ key is fresh concerned. rw fresh refl;
}

module _ (keys : Keys) (past : Choice) (limit : ℕ) (calls : List KeyedCall) (pairs : Contents) (left : List Operation) (a : KeyedCall) (o : Operation)
    (next : Choice) (apart : AreKeyedCalls calls) (are : AreLeftCalls keys past calls pairs left) (a_in : Contains calls a)
    (alike : IsAlikeAt keys (left_at keys past a) (keyed o)) (after : IsAfterCall keys past a next) where
  -- a call whose operation is another is another
  call_of_other : (b : KeyedCall) (q : Operation) → IsAlikeAt keys (left_at keys past b) (keyed q) → (q.inv ≡ o.inv → ⊥) → b.inv ≡ a.inv → ⊥
  call_of_other b q q_is other same = other (q_is.inv ∙ same ∙ sym alike.inv)

  operation_of_other : (b : KeyedCall) (q : Operation) → IsAlikeAt keys (left_at keys past b) (keyed q) → (b.inv ≡ a.inv → ⊥) → q.inv ≡ o.inv → ⊥
  operation_of_other b q q_is other same = other (sym q_is.inv ∙ same ∙ alike.inv)

  left_after : IsFormed a → AreLeftCalls keys next calls (after_call pairs o.call o.response) (without_call o.inv left)
  left_after formed = record {
    rises = rising_kept pairs o are.rises;
    same = λ key is. (step_of pairs o are.rises).leaves key ∙ leaves_here keys past calls pairs left a o are alike key is ∙ sym (after.holds key is);
    nothing = λ key out. (step_of pairs o are.rises).leaves key
        ∙ ap (λ (v : Option ℕ). ((keyed o).effect key).leaves v) (are.nothing key out) ∙ alike.leaves_none key out;
    rising = AllPairs-filter (λ p q. p.inv < q.inv) (λ (p : Operation). not (p.inv == o.inv)) left are.rising;
    forms = All-from_contains (λ q. HasForm q.call q.response) (without_call o.inv left) (λ q q_in.
        All-contains (λ p. HasForm p.call p.response) left q are.forms (from_others o.inv left q q_in).0);
    there = λ b b_in. there b b_in (cases_eq b.inv a.inv);
    back = λ q q_in.
        let (inside, other) = from_others o.inv left q q_in in
        let (b, b_in, q_is) = are.back q inside in
        (b, b_in, other_alike keys past calls a next apart a_in after b (keyed q) (call_of_other b q q_is other) q_is);
  }
    where
      there : (b : KeyedCall) → Contains calls b → (b.inv ≡ a.inv) ⊎ (b.inv ≡ a.inv → ⊥)
          → ((key : ℕ) → IsNoEffect ((left_at keys next b).effect key))
          ⊎ ((q : Operation) × Contains (without_call o.inv left) q × IsAlikeAt keys (left_at keys next b) (keyed q))
      there b b_in (inl same) =
          let one : b ≡ a = same_call calls b a apart.distinct b_in a_in same in
          inl (subst (λ (z : KeyedCall). (key : ℕ) → IsNoEffect ((left_at keys next z).effect key)) (sym one)
          (itself_none keys past calls a next apart a_in after formed))
      there b b_in (inr other) = ⊎_elim
          (λ none. inl (λ key.
          subst (λ (e : Effect). IsNoEffect e) (sym (other_effect keys past calls a next apart a_in after b other key)) (none key)))
          (λ some.
          let (q, q_in, q_is) = some in
          inr (
            q,
            other_operation o.inv left q q_in (operation_of_other b q q_is other),
            other_alike keys past calls a next apart a_in after b (keyed q) other q_is,
          ))
          (are.there b b_in)

  of_calls_after : AreOfLeftCalls keys past calls left → AreOfLeftCalls keys next calls (without_call o.inv left)
  of_calls_after of_calls q q_in =
      let (inside, unlike) = from_others o.inv left q q_in in
      let (b, b_in, accepted, is_left, q_is) = of_calls q inside in
      let other = call_of_other b q q_is unlike in (
        b,
        b_in,
        accepted,
        (is_left.0, is_left.1, other_concerns keys past calls a next apart a_in after b other is_left.0 is_left.1 ∙ is_left.2),
        other_alike keys past calls a next apart a_in after b (keyed q) other q_is,
      )

  all_left_after : AreAllLeft keys past limit calls left → AreAllLeft keys next limit calls (without_call o.inv left)
  all_left_after all_left b b_in less accepted is_left =
      let other = left_other keys past calls a next apart a_in after b b_in is_left in
      let (q, q_in, q_is) = all_left b b_in less accepted
      (is_left.0, is_left.1, sym (other_concerns keys past calls a next apart a_in after b other is_left.0 is_left.1) ∙ is_left.2) in (
        q,
        other_operation o.inv left q q_in (operation_of_other b q q_is other),
        other_alike keys past calls a next apart a_in after b (keyed q) other q_is,
      )

pub operations_come_next : OperationsComeNext
operations_come_next keys some past limit calls pairs left a o apart formed are of_calls all_left agree a_in alike within may =
    let next = next_of past a in
    let after = after_next keys past a in (
      next,
      after,
      left_after keys past limit calls pairs left a o next apart are a_in alike after (All-contains IsFormed calls a formed a_in),
      of_calls_after keys past limit calls pairs left a o next apart are a_in alike after of_calls,
      all_left_after keys past limit calls pairs left a o next apart are a_in alike after all_left,
      agree_after keys past calls a next apart a_in after fits_all may.accepted agree,
    )
  where
    -- at the other keys nothing is left of it
    fits_all : (key : ℕ) → keys key ≡ true → ((rest_of past a).effect key).fits (past.holds key) ≡ true
    fits_all key is = ⊎_elim
        (λ here. may.fits key here)
        (λ out.
        let free : (keys key && (rest_of past a).concerns key) ≡ false = within key out in
        ((formed_rest past a (All-contains IsFormed calls a formed a_in)).elsewhere key (rw is at free)).fits (past.holds key))
        (bool_cases (some key))
