-- If calls have an order, what their answers report was put by one of them, or was there at the
-- start.
use Rattle.events.specs.declared.event.Reply.TheVariants as replies
use Rattle.std.proofs.Common.{◌≡◌, ℕ, Bool, true, false, not, List, [], ◌∷◌, ◌++◌, Option, Some, None, refl, ap, ap₂, sym, ◌∙◌, inl, inr, subst, true≢false}
use Rattle.std.proofs.Common.{⊎_elim, arith}
use Rattle.std.specs.Prelude.{◌⊎◌, ◌<◌, ◌==◌, ◌&&◌, cond, IsTrue, IsSomeAnd, slice_get, Contains}
use Rattle.std.proofs.lemmas.Bool.{cases_Bool, eq-eqb, eqb-true}
use Rattle.std.proofs.lemmas.Bool.Decides.{nat_tests}
use Rattle.std.proofs.lemmas.List.Elements.{All-contains, Contains-append_cases}
use Rattle.std.proofs.lemmas.Option.{none-some, same_Some}
use Rattle.events.specs.declared.event.Call.{Call}
use Rattle.events.specs.declared.event.Call.TheVariants.{Get, Insert, Remove, Scan, Replace}
use Rattle.events.specs.declared.event.Reply.{Reply}
use Rattle.events.specs.declared.operation.Operation.{Operation}
use Rattle.events.specs.declared.operation.Response.{Response}
use Rattle.events.specs.Precedence.{is_completed}
use Rattle.events.specs.Keys.{low_key, high_key}
use Rattle.events.proofs.FilterLemmas.{Contains-filter_map, Contains-from_filter_map}
use Rattle.events.proofs.Lists.{AllPairs-head, AllPairs-tail, Contains-at, Contains-cases, Contains-first, Contains-from_filter, Contains-later}
use Rattle.events.proofs.Lists.{Contains-around, Contains-nil, place_of-Contains}
use Rattle.map_object.specs.MapObject.{Contents, IsRising, value_at, is_just, is_value, is_none_or_other, below, above, put, value_reply}
use Rattle.map_object.specs.MapObject.{after, after_reply, IsLegalReply}
use Rattle.orders.specs.Orders.{IsLegal, IsLegalCall, after_call, calls_at}
use Rattle.explain_shrink.specs.Tells.{put_by}
use Rattle.explain_reads_from.specs.Reported.{pairs_reported, pairs_reported_by, all_reported}
use Rattle.explain_reads_from.specs.External.{is_put}
use Rattle.explain_reads_from.specs.Writers.{says_undone, is_undone, writes}
use Rattle.explain_reads_from.specs.Laws.{WhatIsReportedWasPut}

-- ---- different kinds of replies

abbrev is_refused : Reply → Bool
is_refused replies.None = false
is_refused (replies.Some value) = false
is_refused (replies.Pairs pairs) = false
is_refused replies.Refused = true
is_refused replies.Done = false
is_refused replies.Found = false
is_refused replies.Other = false

abbrev is_list : Reply → Bool
is_list replies.None = false
is_list (replies.Some value) = false
is_list (replies.Pairs pairs) = true
is_list replies.Refused = false
is_list replies.Done = false
is_list replies.Found = false
is_list replies.Other = false

abbrev listed : Reply → List (ℕ × ℕ)
listed replies.None = []
listed (replies.Some value) = []
listed (replies.Pairs pairs) = pairs
listed replies.Refused = []
listed replies.Done = []
listed replies.Found = []
listed replies.Other = []

abbrev found_in : Reply → Option ℕ
found_in replies.None = None
found_in (replies.Some value) = Some value
found_in (replies.Pairs pairs) = None
found_in replies.Refused = None
found_in replies.Done = None
found_in replies.Found = None
found_in replies.Other = None

found_of : (o : Option ℕ) → found_in (value_reply o) ≡ o
found_of None = refl
found_of (Some value) = refl

no_list : (o : Option ℕ) → is_list (value_reply o) ≡ false
no_list None = refl
no_list (Some value) = refl

-- ---- the value at a key is in a pair

value_there : (m : Contents) (key value : ℕ) → value_at m key ≡ Some value → Contains m (key, value)
value_there [] key value is = absurd (none-some value is)
value_there ((k, v) ∷ m) key value is = ⊎_elim
    (λ (same : (k == key) ≡ true).
    let found : Some v ≡ Some value = rw same at is in
    let pair : (k, v) ≡ (key, value) = ap₂ (λ (a b : ℕ). (a, b)) (eqb-true k key same) (same_Some v value found) in
    subst (Contains ((k, v) ∷ m)) pair (Contains-first (k, v) m))
    (λ (other : (k == key) ≡ false).
    let found : value_at m key ≡ Some value = rw other at is in
    Contains-later (k, v) m (key, value) (value_there m key value found))
    (cases_Bool (k == key))

-- if keys rise, a pair has the value at its key
value_here : (m : Contents) (pair : ℕ × ℕ) → IsRising m → Contains m pair → value_at m pair.0 ≡ Some pair.1
value_here [] pair rising is = absurd (Contains-nil pair is)
value_here ((k, v) ∷ m) pair rising is = ⊎_elim
    (λ first. subst (λ (q : ℕ × ℕ). value_at ((k, v) ∷ m) q.0 ≡ Some q.1) first (rw (eq-eqb k k refl) refl))
    (λ later.
    let less : k < pair.0 = All-contains (λ (q : ℕ × ℕ). k < q.0) m pair (AllPairs-head (λ (a b : ℕ × ℕ). a.0 < b.0) (k, v) m rising) later in
    let other : (k == pair.0) ≡ false = grind (arith, nat_tests) in
    rw other (value_here m pair (AllPairs-tail (λ (a b : ℕ × ℕ). a.0 < b.0) (k, v) m rising) later))
    (Contains-cases (k, v) m pair is)

-- ---- what a legal reply reports is there

value_found : (m : Contents) (key value : ℕ) (whole : Reply) → whole ≡ value_reply (value_at m key) → replies.Some value ≡ whole
    → Contains m (key, value)
value_found m key value whole whole_is is =
    value_there m key value (sym (ap found_in (is ∙ whole_is) ∙ found_of (value_at m key)))

some_there : (m : Contents) (call : Call) (value : ℕ) → IsLegalReply m call (replies.Some value) → Contains m (low_key call, value)
some_there m call value (inl refused) = absurd (true≢false (sym (ap is_refused refused)))
some_there m (Get key) value (inr is) = value_found m key value _ refl is
some_there m (Insert key own) value (inr is) = value_found m key value _ refl is
some_there m (Remove key) value (inr is) = value_found m key value _ refl is
some_there m (Scan low high) value (inr is) = absurd (true≢false (ap is_value is))
some_there m (Replace key expected own) value (inr is) = value_found m key value _ refl is

no_pairs : (o : Option ℕ) (pairs : List (ℕ × ℕ)) → replies.Pairs pairs ≡ value_reply o → ⊥
no_pairs o pairs is = true≢false (ap is_list is ∙ no_list o)

pairs_there : (m : Contents) (call : Call) (pairs : List (ℕ × ℕ)) (pair : ℕ × ℕ) → IsLegalReply m call (replies.Pairs pairs)
    → Contains pairs pair → Contains m pair
pairs_there m call pairs pair (inl refused) there = absurd (true≢false (sym (ap is_refused refused)))
pairs_there m (Get key) pairs pair (inr is) there = absurd (no_pairs (value_at m key) pairs is)
pairs_there m (Insert key own) pairs pair (inr is) there = absurd (no_pairs (value_at m key) pairs is)
pairs_there m (Remove key) pairs pair (inr is) there = absurd (no_pairs (value_at m key) pairs is)
pairs_there m (Scan low high) pairs pair (inr is) there =
    (Contains-from_filter _ m pair (subst (λ (l : List (ℕ × ℕ)). Contains l pair) (ap listed is) there)).0
pairs_there m (Replace key expected own) pairs pair (inr is) there = absurd (no_pairs (value_at m key) pairs is)

only_one : (one : Bool) (first pair : ℕ × ℕ) → Contains (cond one (first ∷ []) []) pair → first ≡ pair
only_one true first pair is = ⊎_elim (λ same. same) (λ later. absurd (Contains-nil pair later)) (Contains-cases first [] pair is)
only_one false first pair is = absurd (Contains-nil pair is)

told_there : (m : Contents) (call : Call) (reply : Reply) (pair : ℕ × ℕ) → IsLegalReply m call reply → Contains (pairs_reported call reply) pair
    → Contains m pair
told_there m call replies.None pair legal told = absurd (Contains-nil pair told)
told_there m call (replies.Some value) pair legal told =
    subst (Contains m) (only_one (low_key call == high_key call) (low_key call, value) pair told) (some_there m call value legal)
told_there m call (replies.Pairs pairs) pair legal told = pairs_there m call pairs pair legal told
told_there m call replies.Refused pair legal told = absurd (Contains-nil pair told)
told_there m call replies.Done pair legal told = absurd (Contains-nil pair told)
told_there m call replies.Found pair legal told = absurd (Contains-nil pair told)
told_there m call replies.Other pair legal told = absurd (Contains-nil pair told)

call_told_there : (m : Contents) (call : Call) (response : Option Response) (pair : ℕ × ℕ) → IsLegalCall m call response
    → Contains (pairs_reported_by call response) pair → Contains m pair
call_told_there m call None pair legal told = absurd (Contains-nil pair told)
call_told_there m call (Some response) pair legal told = told_there m call response.reply pair legal told

-- ---- what is there after a call was there before it, or the call puts it

-- a pair that is kept was there
kept_there : (m : Contents) (key : ℕ) (pair : ℕ × ℕ) → Contains (below key m ++ above key m) pair → Contains m pair
kept_there m key pair is = ⊎_elim
    (λ low. (Contains-from_filter _ m pair low).0) (λ high. (Contains-from_filter _ m pair high).0)
    (Contains-append_cases (below key m) (above key m) pair is)

put_or_there : (m : Contents) (key value : ℕ) (pair : ℕ × ℕ) → Contains (put key value m) pair → ((key, value) ≡ pair) ⊎ Contains m pair
put_or_there m key value pair is = ⊎_elim
    (λ here. inl here) (λ kept. inr (kept_there m key pair kept))
    (Contains-around (below key m) (key, value) (above key m) pair is)

-- a call that puts this value at this key writes the pair where it was done
puts_it : (key value : ℕ) (undone : Bool) (pair : ℕ × ℕ) → (key, value) ≡ pair → undone ≡ false
    → (key == pair.0 && (value == pair.1 && not undone)) ≡ true
puts_it key value undone pair is done =
    subst (λ (q : ℕ × ℕ). (key == q.0 && (value == q.1 && not undone)) ≡ true) is (rw (eq-eqb key key refl, eq-eqb value value refl, done) refl)

no_truth : IsTrue false → ⊥
no_truth is = true≢false (sym is)

insert_done : (m : Contents) (key value : ℕ) (reply : Reply) → is_refused reply ≡ false → IsLegalReply m (Insert key value) reply
    → says_undone (Insert key value) reply ≡ false
insert_done m key value replies.None taken legal = refl
insert_done m key value (replies.Some found) taken legal = refl
insert_done m key value (replies.Pairs pairs) taken legal = refl
insert_done m key value replies.Refused taken legal = absurd (true≢false taken)
insert_done m key value replies.Done taken legal = refl
insert_done m key value replies.Found taken legal = refl
insert_done m key value replies.Other taken (inl refused) = absurd (true≢false (sym (ap is_refused refused)))
insert_done m key value replies.Other taken (inr misses) = absurd (no_truth misses)

-- a replace that finds the value that it expects is not answered otherwise
none_expected : (o : Option ℕ) (expected : ℕ) → replies.None ≡ value_reply o → is_just o expected ≡ true → ⊥
none_expected None expected is just = true≢false (sym just)
none_expected (Some value) expected is just = true≢false (sym (ap is_value is))

some_expected : (o : Option ℕ) (expected found : ℕ) → replies.Some found ≡ value_reply o → is_just o expected ≡ true
    → not (expected == found) ≡ false
some_expected None expected found is just = absurd (true≢false (sym just))
some_expected (Some value) expected found is just =
    let same : found ≡ value = same_Some found value (ap found_in is) in
    ap not (eq-eqb expected found (sym (same ∙ eqb-true value expected just)))

other_expected : (o : Option ℕ) (expected : ℕ) → IsTrue (is_none_or_other expected (value_reply o)) → is_just o expected ≡ true → ⊥
other_expected None expected is just = true≢false (sym just)
other_expected (Some value) expected is just = true≢false (sym is ∙ ap not just)

replace_done : (m : Contents) (key expected value : ℕ) (reply : Reply) → is_refused reply ≡ false
    → IsLegalReply m (Replace key expected value) reply → is_just (value_at m key) expected ≡ true
    → says_undone (Replace key expected value) reply ≡ false
replace_done m key expected value replies.None taken (inl refused) just = absurd (true≢false (sym (ap is_refused refused)))
replace_done m key expected value replies.None taken (inr is) just = absurd (none_expected (value_at m key) expected is just)
replace_done m key expected value (replies.Some found) taken (inl refused) just = absurd (true≢false (sym (ap is_refused refused)))
replace_done m key expected value (replies.Some found) taken (inr is) just = some_expected (value_at m key) expected found is just
replace_done m key expected value (replies.Pairs pairs) taken legal just = refl
replace_done m key expected value replies.Refused taken legal just = absurd (true≢false taken)
replace_done m key expected value replies.Done taken legal just = refl
replace_done m key expected value replies.Found taken legal just = refl
replace_done m key expected value replies.Other taken (inl refused) just = absurd (true≢false (sym (ap is_refused refused)))
replace_done m key expected value replies.Other taken (inr is) just = absurd (other_expected (value_at m key) expected is just)

-- whether a call puts a pair, where its answer says that it was not done or does not say so
abbrev puts_unless : ℕ × ℕ → Call → Bool → Bool
puts_unless pair call undone = low_key call == pair.0 && (is_put (put_by call) pair.1 && not undone)

-- what a call leaves that is done
left_by_call : (m : Contents) (call : Call) (undone : Bool) (pair : ℕ × ℕ)
    → ((key value : ℕ) → call ≡ Insert key value → undone ≡ false)
    → ((key expected value : ℕ) → call ≡ Replace key expected value → is_just (value_at m key) expected ≡ true → undone ≡ false)
    → Contains (after m call) pair → Contains m pair ⊎ (puts_unless pair call undone ≡ true)
left_by_call m (Get key) undone pair inserted replaced is = inl is
left_by_call m (Insert key value) undone pair inserted replaced is = ⊎_elim
    (λ here. inr (puts_it key value undone pair here (inserted key value refl))) (λ there. inl there) (put_or_there m key value pair is)
left_by_call m (Remove key) undone pair inserted replaced is = inl (kept_there m key pair is)
left_by_call m (Scan low high) undone pair inserted replaced is = inl is
left_by_call m (Replace key expected value) undone pair inserted replaced is = ⊎_elim
    (λ (just : is_just (value_at m key) expected ≡ true).
    let done : Contains (put key value m) pair = rw just at is in
    ⊎_elim (λ here. inr (puts_it key value undone pair here (replaced key expected value refl just))) (λ there. inl there)
    (put_or_there m key value pair done))
    (λ (other : is_just (value_at m key) expected ≡ false). let same : Contains m pair = rw other at is in inl same)
    (cases_Bool (is_just (value_at m key) expected))

-- what an answered call leaves
left_by_reply : (m : Contents) (call : Call) (reply : Reply) (pair : ℕ × ℕ) → is_refused reply ≡ false → IsLegalReply m call reply
    → Contains (after m call) pair → Contains m pair ⊎ (puts_unless pair call (says_undone call reply) ≡ true)
left_by_reply m call reply pair taken legal is =
    left_by_call m call (says_undone call reply) pair
    (λ key value same.
    ap (λ (c : Call). says_undone c reply) same
    ∙ insert_done m key value reply taken (subst (λ (c : Call). IsLegalReply m c reply) same legal))
    (λ key expected value same just.
    ap (λ (c : Call). says_undone c reply) same
    ∙ replace_done m key expected value reply taken (subst (λ (c : Call). IsLegalReply m c reply) same legal) just)
    is

left_behind : (m : Contents) (call : Call) (reply : Reply) (pair : ℕ × ℕ) → IsLegalReply m call reply
    → Contains (after_reply m call reply) pair → Contains m pair ⊎ (puts_unless pair call (says_undone call reply) ≡ true)
left_behind m call replies.None pair legal is = left_by_reply m call replies.None pair refl legal is
left_behind m call (replies.Some value) pair legal is = left_by_reply m call (replies.Some value) pair refl legal is
left_behind m call (replies.Pairs pairs) pair legal is = left_by_reply m call (replies.Pairs pairs) pair refl legal is
left_behind m call replies.Refused pair legal is = inl is
left_behind m call replies.Done pair legal is = left_by_reply m call replies.Done pair refl legal is
left_behind m call replies.Found pair legal is = left_by_reply m call replies.Found pair refl legal is
left_behind m call replies.Other pair legal is = left_by_reply m call replies.Other pair refl legal is

there_or_put : (m : Contents) (call : Call) (response : Option Response) (pair : ℕ × ℕ) → IsLegalCall m call response
    → Contains (after_call m call response) pair → Contains m pair ⊎ (puts_unless pair call (is_undone call response) ≡ true)
there_or_put m call None pair legal is = left_by_call m call false pair (λ key value same. refl) (λ key expected value same just. refl) is
there_or_put m call (Some response) pair legal is = left_behind m call response.reply pair legal is

-- ---- calls in turn

-- what a call of a legal list reports was there before them, or one of them puts it
in_turn : (m : Contents) (calls : List Operation) (a : Operation) (pair : ℕ × ℕ) → IsLegal m calls → Contains calls a
    → Contains (pairs_reported_by a.call a.response) pair
    → Contains m pair ⊎ ((b : Operation) × Contains calls b × (writes pair b ≡ true))
in_turn m [] a pair legal there told = absurd (Contains-nil a there)
in_turn m (b ∷ calls) a pair legal there told = ⊎_elim
    (λ same.
    inl (call_told_there m b.call b.response pair legal.0
    (subst (λ (c : Operation). Contains (pairs_reported_by c.call c.response) pair) (sym same) told)))
    (λ later. ⊎_elim
    (λ behind. ⊎_elim (λ before. inl before) (λ put. inr (b, Contains-first b calls, put))
    (there_or_put m b.call b.response pair legal.0 behind))
    (λ (c, known, put). inr (c, Contains-later b calls c known, put))
    (in_turn (after_call m b.call b.response) calls a pair legal.1 later told))
    (Contains-cases b calls a there)

-- the call that reports a pair
teller : (calls : List Operation) (pair : ℕ × ℕ) → Contains (all_reported calls) pair
    → (a : Operation) × Contains calls a × Contains (pairs_reported_by a.call a.response) pair
teller [] pair told = absurd (Contains-nil pair told)
teller (a ∷ calls) pair told = ⊎_elim
    (λ here. (a, Contains-first a calls, here))
    (λ later. let (b, known, tells) = teller calls pair later in (b, Contains-later a calls b known, tells))
    (Contains-append_cases (pairs_reported_by a.call a.response) (all_reported calls) pair told)

-- the call that reports a pair has an answer
completed : (call : Call) (response : Option Response) (inv : ℕ) (pair : ℕ × ℕ) → Contains (pairs_reported_by call response) pair
    → IsTrue (is_completed (record { call = call; inv = inv; response = response }))
completed call None inv pair told = absurd (Contains-nil pair told)
completed call (Some response) inv pair told = refl

pub what_is_reported_was_put : WhatIsReportedWasPut
what_is_reported_was_put start calls pair rising (order, is) told =
    let (a, known, tells) = teller calls pair told in
    let (n, at) = place_of-Contains calls a known in
    let done = subst (λ (o : Option Operation). IsSomeAnd o (λ b. IsTrue (is_completed b))) (sym at)
    (completed a.call a.response a.inv pair tells) in
    let taken = Contains-filter_map (slice_get calls) order n a (is.complete n done) at in
    ⊎_elim
    (λ there. let here = value_here start pair rising there in inl (rw here (eq-eqb pair.1 pair.1 refl)))
    (λ (b, there, put).
    let (k, in_order, b_at) = Contains-from_filter_map (slice_get calls) order b there in
    inr (b, Contains-at calls k b b_at, put))
    (in_turn start (calls_at calls order) a pair is.legal_order.legal taken tells)
