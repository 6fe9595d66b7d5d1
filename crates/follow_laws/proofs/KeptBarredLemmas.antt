-- Pasts at a past moment: those that come next at some keys, though operations that have some of these have others too. They are barred there.
use Rattle.follow_laws.proofs.Common.{◌≡◌, ℕ, ◌+◌, ◌<◌, ◌==◌, true, false, not, List, Option, Some, inl, inr, refl, sym, ap, ◌∙◌, subst, ⊎_elim}
use Rattle.follow_laws.proofs.Common.{arith, ◌⊎◌, All, Contains, AllZip, and_parts, eqb-true, eq-eqb, All-contains, Operation, value_at, KeyedCall}
use Rattle.follow_laws.proofs.Common.{Effect, IsFormed, IsNoEffect, ends_before, precedes, place_of, keyed, AreKeyedCalls, Choice, rest_of, Keys}
use Rattle.follow_laws.proofs.Common.{IsAlikeAt, left_at, IsLeftAt, NoneIsLeftAt, MayComeNext, IsAfterCall, AreKnownAt, IsBarredAt, AreOwnOrBarred}
use Rattle.follow_laws.proofs.Common.{AreAllLeft, HasSomeKeyIn, OperationMayCome, HasKeysIn, KeptPast, IsPast, IsPastAfter, OpenReadsBeganAfter}
use Rattle.follow_laws.proofs.Common.{UnbarredPastsComeNext, IsBarredBy, AreOwnOrBarredBy, is_before}
use Rattle.follow_laws.proofs.BridgeLemmas.{same_precedes}
use Rattle.follow_laws.proofs.CallLemmas.{begun_first}
use Rattle.follow_laws.proofs.ComeLemmas.{operations_may_come}
use Rattle.follow_laws.proofs.DeadLemmas.{bool_cases}
use Rattle.follow_laws.proofs.EventLemmas.{not_both}
use Rattle.follow_laws.proofs.FewerLemmas.{AreAmong}
use Rattle.follow_laws.proofs.FirstLemmas.{begun_before}
use Rattle.follow_laws.proofs.OrderLemmas.{same_call, ends_at, ends_sooner}
use Rattle.follow_laws.proofs.CutLemmas.{outside_none}
use Rattle.follow_laws.proofs.BarredLemmas.{unbarred_calls_come_next}
use Rattle.follow_laws.proofs.LimitLemmas.{IsPastBefore, named_or_none, all_left, parted_before}
use Rattle.follow_laws.proofs.KeptNextLemmas.{ComesNext, each_one, zip_weaker, zip_there, zip_back, next_by, one_call}

-- All that is known of a past at some of whose keys operations are barred, and of the first that ended.
record IsPastAt (keys some : Keys) (res : ℕ) (calls : List KeyedCall) (kept : KeptPast) (past : Choice) (ended : Operation) : Type 0 where
  is : IsPast keys calls kept past
  apart : AreKeyedCalls calls
  formed : All IsFormed calls
  among : AreAmong some keys
  ended_in : Contains kept.left ended
  ended_at : place_of ended.response ≡ Some res
  concerned : HasSomeKeyIn some ended
  first : All (λ o. is_before o.response res ≡ false) kept.left
  own : AreOwnOrBarredBy some (res + 1) kept.pairs kept.left
  late : OpenReadsBeganAfter keys (res + 1) calls kept

module _ (keys some : Keys) (res : ℕ) (calls : List KeyedCall) (kept : KeptPast) (past : Choice) (ended : Operation)
    (at : IsPastAt keys some res calls kept past ended) where
  -- at all keys of the part nothing ties an operation to others
  whole : IsPastBefore keys keys (res + 1) calls kept past
  whole = record {
    is = at.is;
    apart = at.apart;
    among = λ key here. here;
    together = λ o o_in early has. All-contains (HasKeysIn keys) kept.left o at.is.within o_in;
    late = at.late;
  }

  every : AreAllLeft keys past (res + 1) calls kept.left
  every = all_left keys keys (res + 1) calls kept past whole

  -- an operation has each key at which its call is left
  has_key : (a : KeyedCall) (o : Operation) → Contains calls a → Contains kept.left o → IsAlikeAt keys (left_at keys past a) (keyed o) → (key : ℕ)
      → (rest_of past a).concerns key ≡ true → (keyed o).concerns key ≡ true
  has_key a o a_in o_in alike key left =
      at.is.own o a o_in a_in (sym alike.inv) key (and_parts (not (past.taken a.inv key)) (a.concerns key) left).1

  -- if it is barred, so is its call
  barred_call : (a : KeyedCall) (o : Operation) → IsAlikeAt keys (left_at keys past a) (keyed o) → IsBarredBy some kept.pairs o
      → IsBarredAt some past a
  barred_call a o alike (key, is, never) = (
    key,
    is,
    ap (λ (v : Option ℕ). ((rest_of past a).effect key).fits v) (sym (at.is.alike.same key (at.among key is)))
        ∙ ap (λ (e : Effect). e.fits (value_at kept.pairs key)) (sym (effect_here (at.among key is)))
        ∙ sym (alike.fits key (value_at kept.pairs key) (at.among key is)) ∙ never,
  )
    where
      effect_here : keys key ≡ true → (left_at keys past a).effect key ≡ (rest_of past a).effect key
      effect_here here = rw here refl

  -- a call that is barred at the keys is left there
  barred_left : (a : KeyedCall) → Contains calls a → IsBarredAt some past a → IsLeftAt some past a
  barred_left a a_in (key, is, never) = ⊎_elim
      (λ left. (key, is, left))
      (λ none.
      let nothing : IsNoEffect ((rest_of past a).effect key) =
      outside_none (λ (k : ℕ). key == k) past a (All-contains IsFormed calls a at.formed a_in)
      (λ k same. subst (λ (n : ℕ). (rest_of past a).concerns n ≡ false) (eqb-true key k same) none) key (eq-eqb key key refl) in
      absurd (not_both (((rest_of past a).effect key).fits (past.holds key)) (nothing.fits (past.holds key)) never))
      (bool_cases ((rest_of past a).concerns key))

  -- the call of an operation of some of the keys is left there
  left_there : (o : Operation) → Contains kept.left o → o.inv < res + 1 → HasSomeKeyIn some o
      → (a : KeyedCall) × Contains calls a × (a.refused ≡ false) × IsLeftAt some past a × IsAlikeAt keys (left_at keys past a) (keyed o)
  left_there o o_in early has =
      let (a, a_in, accepted, is_left, alike) = at.is.owned o o_in in (
        a,
        a_in,
        accepted,
        ⊎_elim
            (λ inside. (is_left.0, inside is_left.0 (has_key a o a_in o_in alike is_left.0 is_left.2), is_left.2))
            (λ barred. barred_left a a_in (barred_call a o alike barred))
            (at.own o o_in early has),
        alike,
      )

  -- a call that is left at some of the keys has an operation that has one of them
  operation_there : (a : KeyedCall) → Contains calls a → a.inv < res + 1 → a.refused ≡ false → IsLeftAt some past a
      → (o : Operation) × Contains kept.left o × IsAlikeAt keys (left_at keys past a) (keyed o) × HasSomeKeyIn some o
  operation_there a a_in early accepted (key, is, left) =
      let (o, o_in, alike) = every a a_in early accepted (key, at.among key is, left) in
      (o, o_in, alike, (key, is, has_key a o a_in o_in alike key left))

  known_there : AreKnownAt some (res + 1) past calls
  known_there a a_in early accepted =
      ⊎_elim
      (λ found.
      let (o, o_in, named) = found in
      let same : o.inv ≡ a.inv = named.0 in
      let (b, b_in, b_accepted, is_left, alike) = left_there o o_in (omega (arith, same, early)) named.1 in
      let one : b ≡ a = same_call calls b a at.apart.distinct b_in a_in (sym alike.inv ∙ same) in
      inl (subst (IsLeftAt some past) one is_left))
      (λ none. inr (λ key here. ⊎_elim
      (λ left.
      let (o, o_in, alike, has) = operation_there a a_in early accepted (key, here, left) in
      absurd (none o o_in (alike.inv, has)))
      (λ free. free)
      (bool_cases ((rest_of past a).concerns key))))
      (named_or_none some a.inv kept.left)

  own_there : AreOwnOrBarred keys some (res + 1) past calls
  own_there b b_in early accepted is_left =
      let (o, o_in, alike, has) = operation_there b b_in early accepted is_left in
      let same : o.inv ≡ b.inv = alike.inv in
      ⊎_elim
      (λ inside. inl (λ key out. ⊎_elim
      (λ left.
      absurd (not_both (some key)
      (inside key (has_key b o b_in o_in alike key (and_parts (keys key) ((rest_of past b).concerns key) left).1)) out))
      (λ free. free)
      (bool_cases ((left_at keys past b).concerns key))))
      (λ barred. inr (barred_call b o alike barred))
      (at.own o o_in (omega (arith, same, early)) has)

  -- nothing is left of a call that ended before that answer
  none_before : (b : KeyedCall) → Contains calls b → ends_before b.res res ≡ true → (b.refused ≡ true) ⊎ NoneIsLeftAt keys past b
  none_before b b_in before = ⊎_elim
      (λ refused. inl refused)
      (λ accepted. inr (λ key here. ⊎_elim
      (λ left.
      let early : b.inv < res + 1 = begun_before b.res b.inv (res + 1) (ends_sooner b.res res (res + 1) (omega arith) before)
      (All-contains (λ a. precedes a a ≡ false) calls b at.apart.last b_in) in
      let (o, o_in, alike) = every b b_in early accepted (key, here, left) in
      absurd (not_both (is_before o.response res) (sym (place_before o) ∙ ap (λ (r : Option ℕ). ends_before r res) alike.res ∙ before)
      (All-contains (λ p. is_before p.response res ≡ false) kept.left o at.first o_in)))
      (λ free. free)
      (bool_cases ((rest_of past b).concerns key))))
      (bool_cases b.refused)
    where
      place_before : (o : Operation) → ends_before (place_of o.response) res ≡ is_before o.response res
      place_before o = same_precedes o (record { inv = res; call = o.call; response = o.response })

  ended_early : ended.inv < res + 1
  ended_early =
      let (e, e_in, accepted, is_left, alike) = at.is.owned ended at.ended_in in
      let same : ended.inv ≡ e.inv = alike.inv in
      let first : e.inv < res + 1 =
      begun_before e.res e.inv (res + 1) (ends_at e.res res (res + 1) (sym alike.res ∙ at.ended_at) (omega arith))
      (All-contains (λ a. precedes a a ≡ false) calls e at.apart.last e_in) in
      omega (arith, same, first)

  -- an operation that may come next began before that answer
  early_next : (o : Operation) → OperationMayCome keys kept.pairs kept.left o → o.inv < res + 1
  early_next o may_come =
      begun_before (place_of ended.response) o.inv (res + 1) (ends_at (place_of ended.response) res (res + 1) at.ended_at (omega arith))
      (same_precedes ended o ∙ may_come.first ended at.ended_in (at.concerned.0, at.among at.concerned.0 at.concerned.1, at.concerned.2))

  -- a call that is left at some of the keys, and may come next, is that of an operation by which a past comes next
  call_there : (nexts : List KeptPast) (pasts : List Choice)
      → ((o : Operation) → Contains kept.left o → HasSomeKeyIn some o → OperationMayCome keys kept.pairs kept.left o
      → (next : KeptPast) × Contains nexts next × IsPastAfter kept o next)
      → AllZip (ComesNext keys keys calls kept past) nexts pasts → (a : KeyedCall) → Contains calls a → a.inv < res + 1
      → IsLeftAt some past a → MayComeNext keys past calls a → (after : Choice) × Contains pasts after × IsAfterCall keys past a after
  call_there nexts pasts come zip a a_in early is_left may =
      let (o, o_in, alike, within, may_come) =
      (operations_may_come keys keys past (res + 1) calls kept.pairs kept.left (λ key here. here) at.apart at.is.alike at.is.owned every at.is.own
      whole.together).0 a a_in early may in
      let (next, next_in, next_is) =
      come o o_in (is_left.0, is_left.1, has_key a o a_in o_in alike is_left.0 is_left.2) may_come in
      let (after, after_in, each) = zip_there (ComesNext keys keys calls kept past) nexts pasts next zip next_in in
      let one : each.1.call ≡ a =
      one_call keys keys (res + 1) calls kept past at.formed whole a o each.0 next after a_in o_in alike next_is each.1 in
      (after, after_in, subst (λ (z : KeyedCall). IsAfterCall keys past z after) one each.1.taken)

pub unbarred_pasts_come_next : UnbarredPastsComeNext
unbarred_pasts_come_next
    held place res calls keys some kept past others rest nexts ended apart formed among ended_in ended_at concerned first own late is come reached
    stand =
    let before = whole keys some res calls kept past ended at in
    let (pasts, zip) = each_one (ComesNext keys keys calls kept past) nexts (λ next next_in.
    let (o, o_in, may_come, next_is) = reached next next_in in
    let (after, each) =
    next_by keys keys (res + 1) calls kept past formed before o next o_in (early_next keys some res calls kept past ended at o may_come) may_come
    next_is in
    (after, (o, each))) in
    let (e, e_in, accepted, is_left, alike) =
    left_there keys some res calls kept past ended at ended ended_in (ended_early keys some res calls kept past ended at) concerned in
    let e_at : e.res ≡ Some res = sym alike.res ∙ ended_at in (
      pasts,
      zip_weaker (ComesNext keys keys calls kept past) (IsPast keys calls) nexts pasts (λ next after each. each.1.is) zip,
      unbarred_calls_come_next held place res calls keys some past others pasts rest e among e_in e_at accepted is_left
          (none_before keys some res calls kept past ended at) (known_there keys some res calls kept past ended at)
          (parted_before keys keys (res + 1) calls kept past before rest) (own_there keys some res calls kept past ended at)
          (λ a a_in a_left may. call_there keys some res calls kept past ended at nexts pasts come zip a a_in
          (begun_first keys (res + 1) calls past e a e_in (ends_at e.res res (res + 1) e_at (omega arith)) accepted
          (is_left.0, among is_left.0 is_left.1, is_left.2) may) a_left may)
          (λ after after_in.
          let (next, next_in, each) = zip_back (ComesNext keys keys calls kept past) nexts pasts after zip after_in in
          (each.1.call, each.1.call_in, each.1.may, each.1.taken))
          stand,
    )
  where
    at : IsPastAt keys some res calls kept past ended
    at = record {
      is = is;
      apart = apart;
      formed = formed;
      among = among;
      ended_in = ended_in;
      ended_at = ended_at;
      concerned = concerned;
      first = first;
      own = own;
      late = late;
    }
