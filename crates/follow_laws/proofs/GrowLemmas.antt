-- The calls of events, and of these with further events.
use Rattle.events.specs.declared.event.Reply.TheVariants as replies
use Rattle.follow_laws.proofs.Common.{◌≡◌, ℕ, suc, ◌+◌, ◌<◌, ◌≤◌, ◌==◌, ◌&&◌, nat_le, Bool, true, false, cond, List, [], ◌∷◌, ◌++◌, map, length}
use Rattle.follow_laws.proofs.Common.{Option, Some, None, inl, inr, refl, sym, ap, ◌∙◌, subst, ⊎_elim, arith, ◌≢◌, ◌⊎◌, Contains, All-contains}
use Rattle.follow_laws.proofs.Common.{none-some, same_Some, AllPairs-map, AllPairs-weaker, Contains-map, Contains-from_map, All-from_contains}
use Rattle.follow_laws.proofs.Common.{Contains-nil, Contains-first, Contains-later, Contains-cases, Call, Get, Insert, Remove, Scan, Replace, Reply}
use Rattle.follow_laws.proofs.Common.{Operation, Response, operations, operations_from, operation_of, response_from, value_at, value_after}
use Rattle.follow_laws.proofs.Common.{value_after_reply, inv_rises, inv-at_least, NonePrecedesItself-operations, KeyedCall, Effect, IsFormed}
use Rattle.follow_laws.proofs.Common.{IsNoEffect, no_effect, keyed, place_of, is_refused, is_refusal, concerns_key, effect_at, effect_of_key}
use Rattle.follow_laws.proofs.Common.{point_effect, told_effect, read_of, precedes, AreDistinct, LeaveTheSame, IsAnsweredAs, IsLater, HaveGrown}
use Rattle.follow_laws.proofs.Common.{CallsGrow}
use Rattle.events.specs.declared.event.Event.{Event}
use Rattle.events.specs.declared.event.Event.TheVariants.{Invoke, Answer}
use Rattle.follow_laws.proofs.BridgeLemmas.{same_precedes}
use Rattle.follow_laws.proofs.EffectRestLemmas.{none_none}
use Rattle.events.specs.Precedence as precedence

-- ---- effects

none_cond : (b : Bool) (e : Effect) → (b ≡ true → IsNoEffect e) → IsNoEffect (cond b e no_effect)
none_cond true e none = none refl
none_cond false e none = none_none

-- elsewhere
point_elsewhere : (own : ℕ) (call : Call) (response : Option Response) (key : ℕ) → (own == key) ≡ false
    → IsNoEffect (effect_of_key own call response key)
point_elsewhere own call response key other = rw other none_none

told_elsewhere : (low high : ℕ) (reply : Reply) (key : ℕ) → (nat_le low key && nat_le key high) ≡ false → IsNoEffect (told_effect low high reply key)
told_elsewhere low high replies.None key out = none_none
told_elsewhere low high (replies.Some value) key out = none_none
told_elsewhere low high (replies.Pairs pairs) key out = rw out none_none
told_elsewhere low high replies.Refused key out = none_none
told_elsewhere low high replies.Done key out = none_none
told_elsewhere low high replies.Found key out = none_none
told_elsewhere low high replies.Other key out = none_none

elsewhere : (call : Call) (response : Option Response) (key : ℕ) → concerns_key call key ≡ false → IsNoEffect (effect_at call response key)
elsewhere (Get own) response key out = point_elsewhere own (Get own) response key out
elsewhere (Insert own value) response key out = point_elsewhere own (Insert own value) response key out
elsewhere (Remove own) response key out = point_elsewhere own (Remove own) response key out
elsewhere (Scan low high) None key out = none_none
elsewhere (Scan low high) (Some response) key out = told_elsewhere low high response.reply key out
elsewhere (Replace own expected value) response key out = point_elsewhere own (Replace own expected value) response key out

-- if the call was refused
refused_point : (own : ℕ) (call : Call) (res : ℕ) (reply : Reply) (key : ℕ) → is_refusal reply ≡ true
    → IsNoEffect (effect_of_key own call (Some (record { res = res; reply = reply })) key)
refused_point own call res reply key refused = none_cond (own == key) (point_effect call (Some (record { res = res; reply = reply })))
    (λ here. none reply refused)
  where
    none : (r : Reply) → is_refusal r ≡ true → IsNoEffect (point_effect call (Some (record { res = res; reply = r })))
    none replies.None never = cc
    none (replies.Some value) never = cc
    none (replies.Pairs pairs) never = cc
    none replies.Refused is = record { fits = λ value. refl; leaves = λ value. refl }
    none replies.Done never = cc
    none replies.Found never = cc
    none replies.Other never = cc

refused_scan : (low high : ℕ) (reply : Reply) (key : ℕ) → is_refusal reply ≡ true → IsNoEffect (told_effect low high reply key)
refused_scan low high replies.None key refused = none_none
refused_scan low high (replies.Some value) key refused = none_none
refused_scan low high (replies.Pairs pairs) key refused = cc
refused_scan low high replies.Refused key refused = none_none
refused_scan low high replies.Done key refused = none_none
refused_scan low high replies.Found key refused = none_none
refused_scan low high replies.Other key refused = none_none

refused_none : (call : Call) (response : Option Response) (key : ℕ) → is_refused response ≡ true → IsNoEffect (effect_at call response key)
refused_none call None key never = cc
refused_none (Get own) (Some response) key is = refused_point own (Get own) response.res response.reply key is
refused_none (Insert own value) (Some response) key is = refused_point own (Insert own value) response.res response.reply key is
refused_none (Remove own) (Some response) key is = refused_point own (Remove own) response.res response.reply key is
refused_none (Scan low high) (Some response) key is = refused_scan low high response.reply key is
refused_none (Replace own expected value) (Some response) key is =
    refused_point own (Replace own expected value) response.res response.reply key is

pub formed : (a : Operation) → IsFormed (keyed a)
formed a = record {
  elsewhere = λ key out. elsewhere a.call a.response key out;
  refusal = λ is key. refused_none a.call a.response key is;
}

-- a pending call fits all
open_point : (own : ℕ) (call : Call) (key : ℕ) (value : Option ℕ) → (effect_of_key own call None key).fits value ≡ true
open_point own call key value = by_test (own == key)
  where
    by_test : (b : Bool) → (cond b (point_effect call None) no_effect).fits value ≡ true
    by_test true = refl
    by_test false = refl

pub open_fits : (call : Call) (key : ℕ) (value : Option ℕ) → (effect_at call None key).fits value ≡ true
open_fits (Get own) key value = open_point own (Get own) key value
open_fits (Insert own new) key value = open_point own (Insert own new) key value
open_fits (Remove own) key value = open_point own (Remove own) key value
open_fits (Scan low high) key value = refl
open_fits (Replace own expected new) key value = open_point own (Replace own expected new) key value

-- a pending call leaves what it leaves when it is answered
accepted_behind : (value : Option ℕ) (call : Call) (reply : Reply) → is_refusal reply ≡ false → value_after_reply value call reply ≡ value_after value call
accepted_behind value call replies.None accepted = refl
accepted_behind value call (replies.Some told) accepted = refl
accepted_behind value call (replies.Pairs pairs) accepted = refl
accepted_behind value call replies.Refused accepted = cc
accepted_behind value call replies.Done accepted = refl
accepted_behind value call replies.Found accepted = refl
accepted_behind value call replies.Other accepted = refl

point_same : (own : ℕ) (call : Call) (response : Response) (key : ℕ) → is_refusal response.reply ≡ false
    → LeaveTheSame (effect_of_key own call None key) (effect_of_key own call (Some response) key)
point_same own call response key accepted value = by_test (own == key)
  where
    by_test : (b : Bool) → (cond b (point_effect call (Some response)) no_effect).leaves value ≡ (cond b (point_effect call None) no_effect).leaves value
    by_test true = accepted_behind value call response.reply accepted
    by_test false = refl

told_same : (low high : ℕ) (reply : Reply) (key : ℕ) (value : Option ℕ) → (told_effect low high reply key).leaves value ≡ value
told_same low high replies.None key value = refl
told_same low high (replies.Some told) key value = refl
told_same low high (replies.Pairs pairs) key value = by_test (nat_le low key && nat_le key high)
  where
    by_test : (b : Bool) → (cond b (read_of (value_at pairs key)) no_effect).leaves value ≡ value
    by_test true = refl
    by_test false = refl
told_same low high replies.Refused key value = refl
told_same low high replies.Done key value = refl
told_same low high replies.Found key value = refl
told_same low high replies.Other key value = refl

answered_same : (call : Call) (response : Response) (key : ℕ) → is_refusal response.reply ≡ false
    → LeaveTheSame (effect_at call None key) (effect_at call (Some response) key)
answered_same (Get own) response key accepted = point_same own (Get own) response key accepted
answered_same (Insert own new) response key accepted = point_same own (Insert own new) response key accepted
answered_same (Remove own) response key accepted = point_same own (Remove own) response key accepted
answered_same (Scan low high) response key accepted = told_same low high response.reply key
answered_same (Replace own expected new) response key accepted = point_same own (Replace own expected new) response key accepted

-- ---- events

-- the response of a call, and that with further events from a place on
abbrev GrowsResponse : ℕ → Option Response → Option Response → Type 0
GrowsResponse place part whole =
    ((whole ≡ part) × ((r : Response) → part ≡ Some r → r.res < place)) ⊎ ((part ≡ None) × ((r : Response) → whole ≡ Some r → place ≤ r.res))

first_later : (p i : ℕ) (events : List Event) (r : Response) → response_from p i events ≡ Some r → i ≤ r.res
first_later p i [] r is = absurd (none-some r is)
first_later p i (Invoke q call ∷ events) r is = let later = first_later p (suc i) events r is in omega (arith, later)
first_later p i (Answer q reply ∷ events) r is = by_test (q == p) is (λ further. let later = first_later p (suc i) events r further in omega (arith, later))
  where
    by_test : (b : Bool) → cond b (Some (record { res = i; reply = reply })) (response_from p (suc i) events) ≡ Some r
        → (response_from p (suc i) events ≡ Some r → i ≤ r.res) → i ≤ r.res
    by_test true e further =
        let same : i ≡ r.res = ap (λ (s : Response). s.res) (same_Some (record { res = i; reply = reply }) r e) in omega arith
    by_test false e further = further e

response_grows : (p i place : ℕ) (events more : List Event) → i + length events ≡ place
    → GrowsResponse place (response_from p i events) (response_from p i (events ++ more))
response_grows p i place [] more at = inr (refl, λ r is. let later = first_later p i more r is in omega (arith, later))
response_grows p i place (Invoke q call ∷ events) more at = response_grows p (suc i) place events more (omega arith)
response_grows p i place (Answer q reply ∷ events) more at = by_test (q == p) (response_grows p (suc i) place events more (omega arith))
  where
    by_test : (b : Bool) → GrowsResponse place (response_from p (suc i) events) (response_from p (suc i) (events ++ more))
        → GrowsResponse place (cond b (Some (record { res = i; reply = reply })) (response_from p (suc i) events))
        (cond b (Some (record { res = i; reply = reply })) (response_from p (suc i) (events ++ more)))
    by_test true rest = inl (
      refl,
      λ r is.
          let same : i ≡ r.res = ap (λ (s : Response). s.res) (same_Some (record { res = i; reply = reply }) r is) in omega arith,
    )
    by_test false rest = rest

-- a call, and what it is with further events
record Grows (place : ℕ) (a b : Operation) : Type 0 where
  call : b.call ≡ a.call
  inv : b.inv ≡ a.inv
  begun : a.inv < place
  response : GrowsResponse place a.response b.response

first_grows : (p : ℕ) (call : Call) (i place : ℕ) (events more : List Event) → suc i + length events ≡ place
    → Grows place (operation_of p call i events) (operation_of p call i (events ++ more))
first_grows p call i place events more at = record {
  call = refl;
  inv = refl;
  begun = omega arith;
  response = response_grows p (suc i) place events more at;
}

calls_stay : (i place : ℕ) (events more : List Event) → i + length events ≡ place → (a : Operation) → Contains (operations_from i events) a
    → (b : Operation) × Contains (operations_from i (events ++ more)) b × Grows place a b
calls_stay i place [] more at a a_in = absurd (Contains-nil a a_in)
calls_stay i place (Answer p reply ∷ events) more at a a_in = calls_stay (suc i) place events more (omega arith) a a_in
calls_stay i place (Invoke p call ∷ events) more at a a_in =
    ⊎_elim
    (λ same. (
      operation_of p call i (events ++ more),
      Contains-first (operation_of p call i (events ++ more)) (operations_from (suc i) (events ++ more)),
      subst (λ (c : Operation). Grows place c (operation_of p call i (events ++ more))) same (first_grows p call i place events more (omega arith)),
    ))
    (λ later.
    let (b, b_in, grows) = calls_stay (suc i) place events more (omega arith) a later in
    (b, Contains-later (operation_of p call i (events ++ more)) (operations_from (suc i) (events ++ more)) b b_in, grows))
    (Contains-cases (operation_of p call i events) (operations_from (suc i) events) a a_in)

calls_come : (i place : ℕ) (events more : List Event) → i + length events ≡ place → (b : Operation)
    → Contains (operations_from i (events ++ more)) b → ((a : Operation) × Contains (operations_from i events) a × Grows place a b) ⊎ (place ≤ b.inv)
calls_come i place [] more at b b_in =
    let later = All-contains (λ c. i ≤ c.inv) (operations_from i more) b (inv-at_least i more) b_in in inr (omega (arith, later))
calls_come i place (Answer p reply ∷ events) more at b b_in = calls_come (suc i) place events more (omega arith) b b_in
calls_come i place (Invoke p call ∷ events) more at b b_in =
    ⊎_elim
    (λ same. inl (
      operation_of p call i events,
      Contains-first (operation_of p call i events) (operations_from (suc i) events),
      subst (λ (c : Operation). Grows place (operation_of p call i events) c) same (first_grows p call i place events more (omega arith)),
    ))
    (λ later. ⊎_elim
    (λ old. inl (old.0, Contains-later (operation_of p call i events) (operations_from (suc i) events) old.0 old.1, old.2))
    (λ new. inr new)
    (calls_come (suc i) place events more (omega arith) b later))
    (Contains-cases (operation_of p call i (events ++ more)) (operations_from (suc i) (events ++ more)) b b_in)

-- a call as the keys see it, with further events
same_operation : (a b : Operation) → b.call ≡ a.call → b.inv ≡ a.inv → b.response ≡ a.response → b ≡ a
same_operation a b call inv response =
    ap (λ (c : Call). made c b.inv b.response) call ∙ ap (λ (n : ℕ). made a.call n b.response) inv ∙ ap (λ (r : Option Response). made a.call a.inv r) response
  where
    made : Call → ℕ → Option Response → Operation
    made c n r = record { call = c; inv = n; response = r }

keyed_later : (place : ℕ) (a b : Operation) → Grows place a b → IsLater place (keyed a) (keyed b)
keyed_later place a b grows = record {
  inv = grows.inv;
  concerns = λ key. ap (λ (c : Call). concerns_key c key) grows.call;
  response = ⊎_elim
      (λ same. inl (ap keyed (same_operation a b grows.call grows.inv same.0)))
      (λ pending. by_response b.response refl pending.0 pending.1)
      grows.response;
}
  where
    by_response : (r : Option Response) → b.response ≡ r → a.response ≡ None → ((s : Response) → b.response ≡ Some s → place ≤ s.res)
        → (keyed b ≡ keyed a) ⊎ IsAnsweredAs place (keyed a) (keyed b)
    by_response None b_is a_is later = inl (ap keyed (same_operation a b grows.call grows.inv (b_is ∙ sym a_is)))
    by_response (Some s) b_is a_is later = inr (record {
      pending = rw a_is refl;
      accepted = rw a_is refl;
      fits = λ key value. rw a_is (open_fits a.call key value);
      later = λ res is. let after = later s b_is in let same : s.res ≡ res = place_is res (rw b_is at is) in omega (arith, after);
      does = λ accepted key.
          let here : is_refusal s.reply ≡ false = rw b_is at accepted in
          rw (a_is, b_is) (subst (λ (c : Call). LeaveTheSame (effect_at a.call None key) (effect_at c (Some s) key)) (sym grows.call)
          (answered_same a.call s key here));
    })
      where
        place_is : (res : ℕ) → Some s.res ≡ Some res → s.res ≡ res
        place_is res e = same_Some s.res res e

grown_from_zero : (events more : List Event)
    → HaveGrown (length events) (map keyed (operations events)) (map keyed (operations (events ++ more)))
grown_from_zero events more = record {
  begun = All-from_contains (λ x. x.inv < length events) (map keyed (operations events)) (λ x x_in.
      let (a, a_in, a_is) = Contains-from_map keyed (operations events) x x_in in
      let (b, b_in, grows) = calls_stay 0 (length events) events more (omega arith) a a_in in
      subst (λ (y : KeyedCall). y.inv < length events) a_is grows.begun);
  ended = λ x res x_in is.
      let (a, a_in, a_is) = Contains-from_map keyed (operations events) x x_in in
      let (b, b_in, grows) = calls_stay 0 (length events) events more (omega arith) a a_in in
      let place : place_of a.response ≡ Some res = subst (λ (y : KeyedCall). y.res ≡ Some res) (sym a_is) is in
      ended_before a.response b.response res place grows.response;
  stay = λ x x_in.
      let (a, a_in, a_is) = Contains-from_map keyed (operations events) x x_in in
      let (b, b_in, grows) = calls_stay 0 (length events) events more (omega arith) a a_in in (
        keyed b,
        Contains-map keyed (operations (events ++ more)) b b_in,
        subst (λ (y : KeyedCall). IsLater (length events) y (keyed b)) a_is (keyed_later (length events) a b grows),
      );
  come = λ y y_in.
      let (b, b_in, b_is) = Contains-from_map keyed (operations (events ++ more)) y y_in in
      ⊎_elim
      (λ old. inl (
        keyed old.0,
        Contains-map keyed (operations events) old.0 old.1,
        subst (λ (z : KeyedCall). IsLater (length events) (keyed old.0) z) b_is (keyed_later (length events) old.0 b old.2),
      ))
      (λ new. inr (subst (λ (z : KeyedCall). length events ≤ z.inv) b_is new))
      (calls_come 0 (length events) events more (omega arith) b b_in);
  alone = distinct events;
  formed = All-from_contains IsFormed (map keyed (operations (events ++ more))) (λ y y_in.
      let (b, b_in, b_is) = Contains-from_map keyed (operations (events ++ more)) y y_in in
      subst (λ (z : KeyedCall). IsFormed z) b_is (formed b));
  apart = record {
    distinct = distinct (events ++ more);
    last = All-from_contains (λ y. precedes y y ≡ false) (map keyed (operations (events ++ more))) (λ y y_in.
        let (b, b_in, b_is) = Contains-from_map keyed (operations (events ++ more)) y y_in in
        subst (λ (z : KeyedCall). precedes z z ≡ false) b_is
        (same_precedes b b ∙ All-contains (λ a. precedence.precedes a a ≡ false) (operations (events ++ more)) b
        (NonePrecedesItself-operations (events ++ more)) b_in));
  };
}
  where
    distinct : (some : List Event) → AreDistinct (map keyed (operations some))
    distinct some = AllPairs-map (λ x y. x.inv ≢ y.inv) keyed (operations some)
        (AllPairs-weaker (λ a b. a.inv < b.inv) (λ a b. a.inv ≢ b.inv) (operations some) (λ a b a_in b_in less same. omega arith) (inv_rises some))

    ended_before : (r s : Option Response) (res : ℕ) → place_of r ≡ Some res → GrowsResponse (length events) r s → res < length events
    ended_before None s res never grows = absurd (none-some res never)
    ended_before (Some r) s res is grows =
        let same : r.res ≡ res = same_Some r.res res is in
        ⊎_elim (λ kept. let before = kept.1 r refl in omega (arith, before)) (λ pending. cc) grows

pub grow : CallsGrow
grow events more = grown_from_zero events more
