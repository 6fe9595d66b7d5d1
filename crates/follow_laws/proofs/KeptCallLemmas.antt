-- The calls of a stream before an event, and after it: a call began (`calls_begun`), or was answered (`calls_answered`). And what a call is by
-- its kind: `reads_leave`, `one_key_of`, `own_key_of`, `form_of`.
use Rattle.events.specs.declared.event.Reply.TheVariants as replies
use Rattle.follow_laws.proofs.Common.{◌≡◌, ℕ, suc, ◌<◌, ◌≤◌, ◌==◌, ◌&&◌, nat_le, nat_lt, Bool, true, false, cond, List, [], ◌∷◌, ◌++◌, map, Option}
use Rattle.follow_laws.proofs.Common.{None, Some, inl, inr, refl, sym, ap, ◌∙◌, subst, ⊎_elim, arith, ◌≢◌, ◌⊎◌, All, AllPairs, Contains, eq-eqb}
use Rattle.follow_laws.proofs.Common.{leb-true, le-leb, ltb-true, and_parts, and_from, false_from_ne_true, map-append, All-nil, All-cons}
use Rattle.follow_laws.proofs.Common.{All-contains, Contains-append_left, Contains-append_cases, AllPairs-cons, none-some, same_Some, AllPairs-map}
use Rattle.follow_laws.proofs.Common.{AllPairs-from_map, AllPairs-weaker, Contains-map, Contains-from_map, AllPairs-nil, AllPairs-append}
use Rattle.follow_laws.proofs.Common.{All-from_contains, Contains-nil, Contains-cases, Contains-around, Operation, Response, low_key, high_key}
use Rattle.follow_laws.proofs.Common.{may_change, Contents, value_at, after, after_call, after_call_cases, KeyedCall, IsFormed, no_effect}
use Rattle.follow_laws.proofs.Common.{point_effect, effect_of_key, told_effect, read_of, effect_at, concerns_key, place_of, is_refusal, keyed}
use Rattle.follow_laws.proofs.Common.{precedes, AreDistinct, HasForm, IsRead, answered, AreCallsBefore, Call, Get, Insert, Remove, Scan, Replace}
use Rattle.follow_laws.proofs.Common.{Reply, value_after, value_after_reply, LeaveTheSame, IsLater, HaveGrown}
use Rattle.follow_laws.proofs.EventLemmas.{beside, middle}
use Rattle.follow_laws.proofs.GrowLemmas.{formed, open_fits}
use Rattle.follow_laws.proofs.OnePastLemmas.{one_key}

-- ---- kinds of calls

-- a call that may change the map has one key
pub one_key_of : (call : Call) → may_change call ≡ true → low_key call ≡ high_key call
one_key_of (Get own) changes = refl
one_key_of (Insert own value) changes = refl
one_key_of (Remove own) changes = refl
one_key_of (Scan low high) changes = let never : false ≡ true = changes in cc
one_key_of (Replace own expected value) changes = refl

pub low_is_not_above : (call : Call) → may_change call ≡ true → low_key call ≤ high_key call
low_is_not_above call changes = let same : low_key call ≡ high_key call = one_key_of call changes in omega (arith, same)

pub own_key_of : (call : Call) (key : ℕ) → may_change call ≡ true → concerns_key call key ≡ true → low_key call ≡ key
own_key_of call key changes concerned = one_key call key (one_key_of call changes) concerned

-- a call whose least key is not above its greatest concerns it
pub has_low_key : (call : Call) → low_key call ≤ high_key call → concerns_key call (low_key call) ≡ true
has_low_key (Get own) some = eq-eqb own own refl
has_low_key (Insert own value) some = eq-eqb own own refl
has_low_key (Remove own) some = eq-eqb own own refl
has_low_key (Scan low high) some =
    let first : low ≤ low = omega arith in
    and_from (nat_le low low) (nat_le low high) (le-leb low low first) (le-leb low high some)
has_low_key (Replace own expected value) some = eq-eqb own own refl

-- a call that concerns some key concerns its least key
pub concerns_low_key : (call : Call) (key : ℕ) → concerns_key call key ≡ true → concerns_key call (low_key call) ≡ true
concerns_low_key (Get own) key concerned = eq-eqb own own refl
concerns_low_key (Insert own value) key concerned = eq-eqb own own refl
concerns_low_key (Remove own) key concerned = eq-eqb own own refl
concerns_low_key (Scan low high) key concerned =
    let parts = and_parts (nat_le low key) (nat_le key high) concerned in
    let first : low ≤ key = leb-true low key parts.0 in
    let second : key ≤ high = leb-true key high parts.1 in
    has_low_key (Scan low high) (omega (arith, first, second))
concerns_low_key (Replace own expected value) key concerned = eq-eqb own own refl

-- a call that may change the map may be answered in any form
pub form_of : (call : Call) (response : Option Response) → may_change call ≡ true → HasForm call response
form_of (Get own) response changes = tt
form_of (Insert own value) response changes = tt
form_of (Remove own) response changes = tt
form_of (Scan low high) response changes = let never : false ≡ true = changes in cc
form_of (Replace own expected value) response changes = tt

pub form_of_pending : (call : Call) → HasForm call None
form_of_pending (Get own) = tt
form_of_pending (Insert own value) = tt
form_of_pending (Remove own) = tt
form_of_pending (Scan low high) = tt
form_of_pending (Replace own expected value) = tt

-- ---- what calls leave

-- an answer that is no refusal leaves what the call leaves
accepted_leaves : (value : Option ℕ) (call : Call) (reply : Reply) → is_refusal reply ≡ false
    → value_after_reply value call reply ≡ value_after value call
accepted_leaves value call replies.None accepted = refl
accepted_leaves value call (replies.Some reported) accepted = refl
accepted_leaves value call (replies.Pairs pairs) accepted = refl
accepted_leaves value call replies.Refused accepted = cc
accepted_leaves value call replies.Done accepted = refl
accepted_leaves value call replies.Found accepted = refl
accepted_leaves value call replies.Other accepted = refl

point_leaves : (own : ℕ) (call : Call) (response : Response) (key : ℕ) → is_refusal response.reply ≡ false
    → LeaveTheSame (effect_of_key own call None key) (effect_of_key own call (Some response) key)
point_leaves own call response key accepted value = by_test (own == key)
  where
    by_test : (b : Bool) → (cond b (point_effect call (Some response)) no_effect).leaves value ≡ (cond b (point_effect call None) no_effect).leaves value
    by_test true = accepted_leaves value call response.reply accepted
    by_test false = refl

-- a scan leaves what it finds
scan_leaves : (low high : ℕ) (reply : Reply) (key : ℕ) (value : Option ℕ) → (told_effect low high reply key).leaves value ≡ value
scan_leaves low high replies.None key value = refl
scan_leaves low high (replies.Some reported) key value = refl
scan_leaves low high (replies.Pairs pairs) key value = by_test (nat_le low key && nat_le key high)
  where
    by_test : (b : Bool) → (cond b (read_of (value_at pairs key)) no_effect).leaves value ≡ value
    by_test true = refl
    by_test false = refl
scan_leaves low high replies.Refused key value = refl
scan_leaves low high replies.Done key value = refl
scan_leaves low high replies.Found key value = refl
scan_leaves low high replies.Other key value = refl

answered_leaves : (call : Call) (response : Response) (key : ℕ) → is_refusal response.reply ≡ false
    → LeaveTheSame (effect_at call None key) (effect_at call (Some response) key)
answered_leaves (Get own) response key accepted = point_leaves own (Get own) response key accepted
answered_leaves (Insert own new) response key accepted = point_leaves own (Insert own new) response key accepted
answered_leaves (Remove own) response key accepted = point_leaves own (Remove own) response key accepted
answered_leaves (Scan low high) response key accepted = scan_leaves low high response.reply key
answered_leaves (Replace own expected new) response key accepted = point_leaves own (Replace own expected new) response key accepted

-- a get leaves what it finds
get_leaves : (own : ℕ) (response : Option Response) (value : Option ℕ) → (point_effect (Get own) response).leaves value ≡ value
get_leaves own None value = refl
get_leaves own (Some response) value = by_reply response.reply
  where
    by_reply : (reply : Reply) → value_after_reply value (Get own) reply ≡ value
    by_reply replies.None = refl
    by_reply (replies.Some reported) = refl
    by_reply (replies.Pairs pairs) = refl
    by_reply replies.Refused = refl
    by_reply replies.Done = refl
    by_reply replies.Found = refl
    by_reply replies.Other = refl

read_leaves : (call : Call) (response : Option Response) (key : ℕ) (value : Option ℕ) → may_change call ≡ false
    → (effect_at call response key).leaves value ≡ value
read_leaves (Get own) response key value read = by_test (own == key)
  where
    by_test : (b : Bool) → (cond b (point_effect (Get own) response) no_effect).leaves value ≡ value
    by_test true = get_leaves own response value
    by_test false = refl
read_leaves (Insert own new) response key value read = let never : true ≡ false = read in cc
read_leaves (Remove own) response key value read = let never : true ≡ false = read in cc
read_leaves (Scan low high) None key value read = refl
read_leaves (Scan low high) (Some response) key value read = scan_leaves low high response.reply key value
read_leaves (Replace own expected new) response key value read = let never : true ≡ false = read in cc

-- a read leaves the map as it is, answered or not
after_read : (pairs : Contents) (call : Call) → may_change call ≡ false → after pairs call ≡ pairs
after_read pairs (Get own) read = refl
after_read pairs (Insert own value) read = let never : true ≡ false = read in cc
after_read pairs (Remove own) read = let never : true ≡ false = read in cc
after_read pairs (Scan low high) read = refl
after_read pairs (Replace own expected value) read = let never : true ≡ false = read in cc

pub reads_keep : (pairs : Contents) (call : Call) (response : Option Response) → may_change call ≡ false → after_call pairs call response ≡ pairs
reads_keep pairs call response read = after_call_cases (λ n. n ≡ pairs) pairs call response refl (after_read pairs call read)

pub reads_leave : (o : Operation) → may_change o.call ≡ false → IsRead (keyed o)
reads_leave o read key value fits = read_leaves o.call o.response key value read

-- ---- calls of a stream

-- what is known of each call before an event
record IsCallBefore (place : ℕ) (a : Operation) : Type 0 where
  begun : a.inv < place
  ended : (res : ℕ) → place_of a.response ≡ Some res → res < place
  last : precedes (keyed a) (keyed a) ≡ false
  form : HasForm a.call a.response

each_before : (place : ℕ) (calls : List Operation) → AreCallsBefore place calls → (a : Operation) → Contains calls a → IsCallBefore place a
each_before place calls are a a_in = record {
  begun = All-contains (λ x. x.inv < place) (map keyed calls) (keyed a) are.grown.begun (Contains-map keyed calls a a_in);
  ended = λ res is. are.grown.ended (keyed a) res (Contains-map keyed calls a a_in) is;
  last = All-contains (λ x. precedes x x ≡ false) (map keyed calls) (keyed a) are.grown.apart.last (Contains-map keyed calls a a_in);
  form = All-contains (λ x. HasForm x.call x.response) calls a are.forms a_in;
}

later_itself : (place : ℕ) (x : KeyedCall) → IsLater place x x
later_itself place x = record { inv = refl; concerns = λ key. refl; response = inl refl }

calls_from_each : (place : ℕ) (calls : List Operation) → AllPairs (λ a b. a.inv < b.inv) calls
    → ((a : Operation) → Contains calls a → IsCallBefore place a) → AreCallsBefore place calls
calls_from_each place calls rising each = record {
  grown = record {
    begun = All-from_contains (λ x. x.inv < place) (map keyed calls) (λ x x_in.
        let (a, a_in, same) = Contains-from_map keyed calls x x_in in subst (λ (y : KeyedCall). y.inv < place) same (each a a_in).begun);
    ended = λ x res x_in is.
        let (a, a_in, same) = Contains-from_map keyed calls x x_in in
        (each a a_in).ended res (subst (λ (y : KeyedCall). y.res ≡ Some res) (sym same) is);
    stay = λ x x_in. (x, x_in, later_itself place x);
    come = λ x x_in. inl (x, x_in, later_itself place x);
    alone = distinct;
    formed = All-from_contains IsFormed (map keyed calls) (λ x x_in.
        let (a, a_in, same) = Contains-from_map keyed calls x x_in in subst (λ (y : KeyedCall). IsFormed y) same (formed a));
    apart = record {
      distinct = distinct;
      last = All-from_contains (λ x. precedes x x ≡ false) (map keyed calls) (λ x x_in.
          let (a, a_in, same) = Contains-from_map keyed calls x x_in in
          subst (λ (y : KeyedCall). precedes y y ≡ false) same (each a a_in).last);
    };
  };
  rising = rising;
  forms = All-from_contains (λ a. HasForm a.call a.response) calls (λ a a_in. (each a a_in).form);
}
  where
    distinct : AreDistinct (map keyed calls)
    distinct = AllPairs-map (λ x y. x.inv ≢ y.inv) keyed calls
        (AllPairs-weaker (λ a b. a.inv < b.inv) (λ a b. a.inv ≢ b.inv) calls (λ a b a_in b_in less same. omega arith) rising)

-- before any event there are none
pub no_calls : AreCallsBefore 0 []
no_calls = calls_from_each 0 [] (AllPairs-nil (λ a b. a.inv < b.inv)) (λ a a_in. absurd (Contains-nil a a_in))

-- the calls after an event, and that they are those before it, and such as began
pub record AreCallsAfter (place : ℕ) (calls more : List Operation) : Type 0 where
  pub are_calls : AreCallsBefore (suc place) more
  pub grown : HaveGrown place (map keyed calls) (map keyed more)

calls_after : (place : ℕ) (calls more : List Operation) → AreCallsBefore place calls → AreCallsBefore (suc place) more
    → ((a : Operation) → Contains calls a → (b : Operation) × Contains more b × IsLater place (keyed a) (keyed b))
    → ((b : Operation) → Contains more b → ((a : Operation) × Contains calls a × IsLater place (keyed a) (keyed b)) ⊎ (place ≤ b.inv))
    → AreCallsAfter place calls more
calls_after place calls more before after stay come = record {
  are_calls = after;
  grown = record {
    begun = before.grown.begun;
    ended = before.grown.ended;
    stay = λ x x_in.
        let (a, a_in, same) = Contains-from_map keyed calls x x_in in
        let (b, b_in, later) = stay a a_in in
        (keyed b, Contains-map keyed more b b_in, subst (λ (y : KeyedCall). IsLater place y (keyed b)) same later);
    come = λ y y_in.
        let (b, b_in, same) = Contains-from_map keyed more y y_in in
        ⊎_elim
        (λ old. inl (
          keyed old.0,
          Contains-map keyed calls old.0 old.1,
          subst (λ (z : KeyedCall). IsLater place (keyed old.0) z) same old.2,
        ))
        (λ new. inr (subst (λ (z : KeyedCall). place ≤ z.inv) same new))
        (come b b_in);
    alone = before.grown.alone;
    formed = after.grown.formed;
    apart = after.grown.apart;
  };
}

-- ---- a call began

pub last_or_old : {X : Type 0} (xs : List X) (x z : X) → Contains (xs ++ x ∷ []) z → Contains xs z ⊎ (x ≡ z)
last_or_old xs x z h =
    ⊎_elim (λ old. inl old) (λ new. ⊎_elim (λ same. inr same) (λ never. absurd (Contains-nil z never)) (Contains-cases x [] z new))
    (Contains-append_cases xs (x ∷ []) z h)

pub keyed_begun : (calls : List Operation) (o : Operation) → map keyed (calls ++ o ∷ []) ≡ map keyed calls ++ keyed o ∷ []
keyed_begun calls o = map-append keyed calls (o ∷ [])

pub calls_begun : (place : ℕ) (calls : List Operation) (o : Operation) → o.inv ≡ place → o.response ≡ None
    → AreCallsBefore place calls → AreCallsAfter place calls (calls ++ o ∷ [])
calls_begun place calls o at pending are =
    calls_after place calls (calls ++ o ∷ []) are (calls_from_each (suc place) (calls ++ o ∷ []) rising each)
    (λ a a_in. (a, Contains-append_left calls (o ∷ []) a a_in, later_itself place (keyed a)))
    (λ b b_in. ⊎_elim
    (λ old. inl (b, old, later_itself place (keyed b)))
    (λ same. inr (subst (λ (c : Operation). place ≤ c.inv) same (omega (arith, at))))
    (last_or_old calls o b b_in))
  where
    rising : AllPairs (λ a b. a.inv < b.inv) (calls ++ o ∷ [])
    rising = AllPairs-append (λ a b. a.inv < b.inv) calls (o ∷ []) are.rising
        (AllPairs-cons (λ a b. a.inv < b.inv) o [] (All-nil (λ b. o.inv < b.inv)) (AllPairs-nil (λ a b. a.inv < b.inv)))
        (All-from_contains (λ a. All (λ b. a.inv < b.inv) (o ∷ [])) calls (λ a a_in.
        let less : a.inv < place = (each_before place calls are a a_in).begun in
        All-cons (λ b. a.inv < b.inv) o [] (omega (arith, less, at)) (All-nil (λ b. a.inv < b.inv))))

    itself : IsCallBefore (suc place) o
    itself = record {
      begun = omega (arith, at);
      ended = λ res is. absurd (none-some res (sym (ap place_of pending) ∙ is));
      last = rw pending refl;
      form = subst (λ (r : Option Response). HasForm o.call r) (sym pending) (form_of_pending o.call);
    }

    each : (a : Operation) → Contains (calls ++ o ∷ []) a → IsCallBefore (suc place) a
    each a a_in = ⊎_elim
        (λ old.
        let before = each_before place calls are a old in
        let less : a.inv < place = before.begun in record {
          begun = omega (arith, less);
          ended = λ res is. let less : res < place = before.ended res is in omega (arith, less);
          last = before.last;
          form = before.form;
        })
        (λ same. subst (λ (b : Operation). IsCallBefore (suc place) b) same itself)
        (last_or_old calls o a a_in)

-- ---- a call was answered

pub keyed_around : (front back : List Operation) (o : Operation) → map keyed (front ++ o ∷ back) ≡ map keyed front ++ keyed o ∷ map keyed back
keyed_around front back o = map-append keyed front (o ∷ back)

answered_later : (place : ℕ) (o : Operation) (response : Response) → o.response ≡ None → response.res ≡ place
    → IsLater place (keyed o) (keyed (answered response o))
answered_later place o response pending at = record {
  inv = refl;
  concerns = λ key. refl;
  response = inr (record {
    pending = rw pending refl;
    accepted = rw pending refl;
    fits = λ key value. rw pending (open_fits o.call key value);
    later = λ res is. let same : response.res ≡ res = same_Some response.res res is in omega (arith, same, at);
    does = λ accepted key. rw pending (answered_leaves o.call response key accepted);
  });
}

pub calls_answered : (place : ℕ) (front back : List Operation) (o : Operation) (response : Response) → o.response ≡ None → response.res ≡ place
    → HasForm o.call (Some response) → AreCallsBefore place (front ++ o ∷ back)
    → AreCallsAfter place (front ++ o ∷ back) (front ++ answered response o ∷ back)
calls_answered place front back o response pending at form are =
    calls_after place (front ++ o ∷ back) (front ++ answered response o ∷ back) are
    (calls_from_each (suc place) (front ++ answered response o ∷ back) rising each)
    (λ a a_in. ⊎_elim
    (λ same. (
      answered response o,
      middle front (answered response o) back,
      subst (λ (c : Operation). IsLater place (keyed c) (keyed (answered response o))) same (answered_later place o response pending at),
    ))
    (λ rest. (a, beside front (answered response o) back a rest, later_itself place (keyed a)))
    (Contains-around front o back a a_in))
    (λ b b_in. inl (⊎_elim
    (λ same. (
      o,
      middle front o back,
      subst (λ (c : Operation). IsLater place (keyed o) (keyed c)) same (answered_later place o response pending at),
    ))
    (λ rest. (b, beside front o back b rest, later_itself place (keyed b)))
    (Contains-around front (answered response o) back b b_in)))
  where
    rising : AllPairs (λ a b. a.inv < b.inv) (front ++ answered response o ∷ back)
    rising = AllPairs-from_map (λ m n. m < n) (λ (a : Operation). a.inv) (front ++ answered response o ∷ back)
        (subst (λ (names : List ℕ). AllPairs (λ m n. m < n) names)
        (map-append (λ (a : Operation). a.inv) front (o ∷ back)
        ∙ sym (map-append (λ (a : Operation). a.inv) front (answered response o ∷ back)))
        (AllPairs-map (λ m n. m < n) (λ (a : Operation). a.inv) (front ++ o ∷ back) are.rising))

    begun : o.inv < place
    begun = (each_before place (front ++ o ∷ back) are o (middle front o back)).begun

    itself : IsCallBefore (suc place) (answered response o)
    itself = record {
      begun = omega (arith, begun);
      ended = λ res is. let same : response.res ≡ res = same_Some response.res res is in omega (arith, same, at);
      last = false_from_ne_true (nat_lt response.res o.inv) (λ less.
          let below : response.res < o.inv = ltb-true response.res o.inv less in omega (arith, below, begun, at));
      form = form;
    }

    each : (a : Operation) → Contains (front ++ answered response o ∷ back) a → IsCallBefore (suc place) a
    each a a_in = ⊎_elim
        (λ same. subst (λ (b : Operation). IsCallBefore (suc place) b) same itself)
        (λ rest.
        let before = each_before place (front ++ o ∷ back) are a (beside front o back a rest) in
        let less : a.inv < place = before.begun in record {
          begun = omega (arith, less);
          ended = λ res is. let less : res < place = before.ended res is in omega (arith, less);
          last = before.last;
          form = before.form;
        })
        (Contains-around front (answered response o) back a a_in)
