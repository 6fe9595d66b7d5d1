-- What is said of keys may be so, since the pasts of a part of the state are reached (`kept_pasts_are_reached`).
use Rattle.follow_violations.proofs.Common.{Contains-from_map, Contains-map, All-from_contains, Contains-first, Contains-filter, Contains-from_filter}
use Rattle.follow_violations.proofs.Common.{low_key, high_key, may_change, Call, Get, Insert, Remove, Scan, Replace, Operation, Response, IsKeptFirst}
use Rattle.follow_violations.proofs.Common.{first_of, Keys, KeptPart, IsOwn, concerns_key, keyed, KeptPast, IsPast, HasKey, IsKeyLoss, IsLastPut}
use Rattle.follow_violations.proofs.Common.{IsNamed, IsOnlyKey, IsOriginIn, IsPutBy, ReportsOther, MayHave, ValuesAreReached, KeyViolation, Origin}
use Rattle.follow_violations.proofs.Common.{Put, IsKeptBeside, pasts_of, covered, Contents, IsRising, ◌≡◌, ℕ, ◌≤◌, Bool, true, ◌==◌, not, List, ◌∷◌}
use Rattle.follow_violations.proofs.Common.{filter, map, Option, Some, None, sym, ◌∙◌, subst, inl, inr, refl, ⊎_elim, arith, is_some, ◌&&◌, and_from}
use Rattle.follow_violations.proofs.Common.{and_parts, eq-eqb, le-leb, leb-true, All-contains, Contains-append_right, ◌⊎◌, nat_le, All, Any, Contains}
use Rattle.call_effects.proofs.SetLemmas.{same_call}
use Rattle.explain_reads_from.specs.External.{is_put}
use Rattle.explain_reads_from.specs.Writers.{is_undone}
use Rattle.explain_shrink.specs.Tells.{put_by}
use Rattle.follow_laws.specs.KeptReached.{IsReached}
use Rattle.follow_laws.specs.Left.{HasKeysIn}
use Rattle.follow_violations.specs.Puts.{IsPutOf}
use Rattle.follow_parts.specs.declared.state.EndedPart.{EndedPart}
use Rattle.std.proofs.Common.{eqb-true}
use Rattle.follow_laws.proofs.KeptNextLemmas.{zip_there}
use Rattle.follow_laws.proofs.KeptReachLemmas.{kept_pasts_are_reached}
use Rattle.follow_violations.proofs.AnyLemmas.{any_in, any_of}

-- ---- keys of calls

-- a call concerns each of its keys
concerned : (call : Call) (key : ℕ) → low_key call ≤ key → key ≤ high_key call → concerns_key call key ≡ true
concerned (Get own) key low high = eq-eqb own key (omega (arith, low, high))
concerned (Insert own value) key low high = eq-eqb own key (omega (arith, low, high))
concerned (Remove own) key low high = eq-eqb own key (omega (arith, low, high))
concerned (Scan from to) key low high = and_from (nat_le from key) (nat_le key to) (le-leb from key low) (le-leb key to high)
concerned (Replace own expected value) key low high = eq-eqb own key (omega (arith, low, high))

-- whether a call has a key
abbrev has_key : ℕ → Operation → Bool
has_key key o = nat_le (low_key o.call) key && nat_le key (high_key o.call)

to_test : (key : ℕ) (o : Operation) → HasKey o key → has_key key o ≡ true
to_test key o has =
    and_from (nat_le (low_key o.call) key) (nat_le key (high_key o.call)) (le-leb (low_key o.call) key has.low) (le-leb key (high_key o.call) has.high)

of_test : (key : ℕ) (o : Operation) → has_key key o ≡ true → HasKey o key
of_test key o is =
    let both = and_parts (nat_le (low_key o.call) key) (nat_le key (high_key o.call)) is in
    record { low = leb-true (low_key o.call) key both.0; high = leb-true key (high_key o.call) both.1 }

-- a call that puts a value may change the map, at its only key
puts_change : (call : Call) (value : ℕ) → is_put (put_by call) value ≡ true → (may_change call ≡ true) × (high_key call ≡ low_key call)
puts_change (Get own) value is = cc
puts_change (Insert own put) value is = (refl, refl)
puts_change (Remove own) value is = (refl, refl)
puts_change (Scan from to) value is = cc
puts_change (Replace own expected put) value is = (refl, refl)

-- ---- answers

answered_or_not : (r : Option Response) → (r ≡ None) ⊎ (is_some r ≡ true)
answered_or_not None = inl refl
answered_or_not (Some response) = inr refl

-- ---- a part that is kept

module _ (start : Contents) (place : ℕ) (calls : List Operation) (ended : EndedPart) (rising : IsRising start)
    (beside : IsKeptBeside start place calls ended) where
  abbrev keys : Keys
  keys = covered ended.ranges.items

  abbrev pasts : List KeptPast
  pasts = pasts_of ended

  abbrev part : KeptPart
  part = record { keys = keys; pasts = pasts }

  first : IsKeptFirst start place calls part beside.others
  first = first_of start place calls part beside.others beside.are_kept

  reached : All (IsReached start calls keys) pasts
  reached = kept_pasts_are_reached start place calls part beside.others rising beside.are_kept beside.some

  -- the keys that are named are the part's
  named_here : (key : ℕ) → IsNamed pasts key → keys key ≡ true
  named_here key named =
      let (past, past_in, some) = any_in (λ (p : KeptPast). Any (λ (o : Operation). IsOnlyKey o key ⊎ ReportsOther p.pairs o key) p.left) pasts named in
      let (o, o_in, how) = any_in (λ (o : Operation). IsOnlyKey o key ⊎ ReportsOther past.pairs o key) past.left some in
      let has : HasKey o key = ⊎_elim
      (λ only. record { low = omega (arith, only.0); high = omega (arith, only.1) })
      (λ other. other.has_key) how in
      let (choice, choice_in, is) = zip_there (IsPast keys (map keyed calls)) pasts first.pasts past first.are_pasts past_in in
      All-contains (HasKeysIn keys) past.left o is.within o_in key (concerned o.call key has.low has.high)

  -- a call of the known puts that is not left in a past was taken there
  put_taken : (past : KeptPast) → Contains pasts past → (it : IsReached start calls keys past) (key value event : ℕ) (puts : List Put)
      → keys key ≡ true → All (λ p. Any (λ o. IsPutOf o p) calls) puts → IsLastPut past.left puts key value event
      → (o : Operation) × Contains it.order o × IsPutOf o (record { key = key; value = value; event = event })
  put_taken past past_in it key value event puts here known is =
      let p = is.put in
      let p_in : Contains puts p =
      subst (λ (l : List Put). Contains l p) (sym is.parts) (Contains-append_right is.before (p ∷ is.after) p (Contains-first p is.after)) in
      let (o, o_in, put) = any_in (λ (a : Operation). IsPutOf a p) calls
      (All-contains (λ (q : Put). Any (λ (a : Operation). IsPutOf a q) calls) puts p known p_in) in
      let writes_it = and_parts (low_key o.call == p.key)
      (is_put (put_by o.call) p.value && not (is_undone o.call o.response)) put.writes_it in
      let own : low_key o.call ≡ p.key = eqb-true (low_key o.call) p.key writes_it.0 in
      let changes = puts_change o.call p.value (and_parts (is_put (put_by o.call) p.value) (not (is_undone o.call o.response)) writes_it.1).0 in
      let has : keys (low_key o.call) ≡ true = subst (λ (k : ℕ). keys k ≡ true) (sym (own ∙ is.is.key_is)) here in
      let not_left : Contains past.left o → ⊥ = λ left.
      is.is.not_left (any_of (λ (a : Operation). a.inv ≡ p.event) past.left o left (sym put.event_is)) in
      let taken : Contains it.order o = ⊎_elim
      (λ (pending : o.response ≡ None). ⊎_elim
      (λ left. absurd (not_left left))
      (λ (f, f_in, f_own, f_key).
      let found = it.found f f_in in
      let there : Contains it.order found.call =
      subst (λ (l : List Operation). Contains l found.call) (sym found.parts)
      (Contains-append_right found.front (found.call ∷ found.back) found.call (Contains-first found.call found.back)) in
      subst (λ (a : Operation). Contains it.order a)
      (same_call calls found.call o first.are_calls.rising (it.known found.call there) o_in (found.own ∙ f_own)) there)
      ((All-contains (IsOwn keys calls) pasts past first.own past_in).whole o o_in pending changes.0 has))
      (λ (completed : is_some o.response ≡ true). ⊎_elim
      (λ left. absurd (not_left left))
      (λ there. there)
      (it.whole o o_in completed (low_key o.call, has, concerned o.call (low_key o.call) (omega arith) (omega (arith, changes.1)))))
      (answered_or_not o.response) in (
        o,
        taken,
        subst (λ (k : ℕ). IsPutOf o (record { key = k; value = value; event = event })) is.is.key_is
            (subst (λ (v : ℕ). IsPutOf o (record { key = p.key; value = v; event = event })) is.is.value_is
            (subst (λ (e : ℕ). IsPutOf o (record { key = p.key; value = p.value; event = e })) is.event_is put)),
      )

  -- the invocations of the calls of a key that are left in a past
  abbrev left_at : ℕ → KeptPast → List ℕ
  left_at key past = map (λ o. o.inv) (filter (has_key key) past.left)

  -- what is said of a key in a past
  may_have : (puts : List Put) (loss : KeyViolation) → keys loss.key ≡ true → All (λ p. Any (λ o. IsPutOf o p) calls) puts → IsKeyLoss pasts puts loss
      → (origin : Origin) → Contains loss.from.items origin → MayHave start calls loss.key loss.invoked.items origin
  may_have puts loss here known is origin origin_there =
      let (past, past_in, past_is) = any_in (λ (p : KeptPast). IsOriginIn puts loss.key p origin) pasts ((is.from origin).0 origin_there) in
      let it : IsReached start calls keys past = All-contains (IsReached start calls keys) pasts past reached past_in in record {
        order = it.order;
        left_after = left_at loss.key past;
        known = it.known;
        distinct = it.distinct;
        precedence = it.precedence;
        legal = it.legal;
        leaves = it.leaves loss.key here ∙ past_is.value_is;
        some = All-from_contains (Contains loss.invoked.items) (left_at loss.key past) (λ inv inv_in.
            let (o, o_here, inv_is) = Contains-from_map (λ (a : Operation). a.inv) (filter (has_key loss.key) past.left) inv inv_in in
            let (o_in, has) = Contains-from_filter (has_key loss.key) past.left o o_here in
            (is.invoked inv).1
            (any_of (λ (p : KeptPast). Any (λ (a : Operation). (a.inv ≡ inv) × HasKey a loss.key) p.left) pasts past past_in
            (any_of (λ (a : Operation). (a.inv ≡ inv) × HasKey a loss.key) past.left o o_in (inv_is, of_test loss.key o has))));
        taken = λ o o_in inv_in.
            let (b, b_here, inv_is) = Contains-from_map (λ (a : Operation). a.inv) (filter (has_key loss.key) past.left) o.inv inv_in in
            let b_in : Contains past.left b = (Contains-from_filter (has_key loss.key) past.left b b_here).0 in
            let b_call : Contains calls b =
            All-contains (Contains calls) past.left b (All-contains (IsOwn keys calls) pasts past first.own past_in).of_calls.left b_in in
            it.taken o o_in
            (subst (Contains past.left) (same_call calls b o first.are_calls.rising b_call (it.known o o_in) inv_is) b_in);
        whole = λ o o_in completed has. ⊎_elim
            (λ (left : Contains past.left o). inr (Contains-map (λ (a : Operation). a.inv) (filter (has_key loss.key) past.left) o
            (Contains-filter (has_key loss.key) past.left o left (to_test loss.key o has))))
            (λ (taken : Contains it.order o). inl taken)
            (it.whole o o_in completed (loss.key, here, concerned o.call loss.key has.low has.high));
        writer = λ value event has_value has_put. put_taken past past_in it loss.key value event puts here known
            (subst (λ (v : Option ℕ). IsPutBy past.left puts loss.key v (Some event)) has_value
            (subst (IsPutBy past.left puts loss.key origin.value) has_put past_is.put_is));
      }

pub values_are_reached : ValuesAreReached
values_are_reached start place calls ended own puts losses rising beside own_here known are =
    All-from_contains
    (λ loss. (covered ended.ranges.items loss.key ≡ true) × All (MayHave start calls loss.key loss.invoked.items) loss.from.items) losses
    (λ loss loss_in.
    let here : covered ended.ranges.items loss.key ≡ true = ⊎_elim
    (λ named. named_here start place calls ended rising beside loss.key named)
    (λ is_own. own_here loss.key is_own)
    ((are.named loss.key).0 (any_of (λ (l : KeyViolation). l.key ≡ loss.key) losses loss loss_in refl)) in
    let is : IsKeyLoss (pasts_of ended) puts loss = All-contains (IsKeyLoss (pasts_of ended) puts) losses loss are.each loss_in in (
      here,
      All-from_contains (MayHave start calls loss.key loss.invoked.items) loss.from.items
          (may_have start place calls ended rising beside puts loss here known is),
    ))
