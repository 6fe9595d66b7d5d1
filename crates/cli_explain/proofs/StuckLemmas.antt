-- After the longest front of few calls none can come next.
use Rattle.cli_explain.proofs.Common.{◌≡◌, ℕ, ◌<◌, Bool, true, false, not, List, [], ◌∷◌, length, Option, Some, None, refl, sym, ap, ap₂, ◌∙◌, ⊎_elim}
use Rattle.cli_explain.proofs.Common.{subst, arith, ◌==◌, ◌||◌, is_some, slice_get, All, Contains, list_any, both_ways, not-true, cases_Bool}
use Rattle.cli_explain.proofs.Common.{cases_order, eq-eqb, eqb-true, or_cases, or_left, or_right, false≢true, All-head, All-tail, All-weaker}
use Rattle.cli_explain.proofs.Common.{none-some, same_Some, slice_get_within, Operation, Response, may_change, operations, belongs, precedes}
use Rattle.cli_explain.proofs.Common.{Contains-filter_map, Contains-from_filter_map, AllPairs-at, All-from_contains, Contains-at, Contains-cases}
use Rattle.cli_explain.proofs.Common.{Contains-filter, Contains-from_filter, Contains-first, Contains-later, Contains-nil, place_of-Contains}
use Rattle.cli_explain.proofs.Common.{Contents, after_reply, IsLegalReply, after_call, after_calls, calls_at, IsLegalCall, at_places, All-at_places}
use Rattle.cli_explain.proofs.Common.{IsSegmentView, BelongsAt-below, IsSegmentView-segment_of, reply_in, AreAlike, RangesSuffice, as_long_as}
use Rattle.cli_explain.proofs.Common.{is_taken, is_preceded, left_by, next_of, NoNextCallIsLegal}
use Rattle.events.specs.declared.event.Call.{Call}
use Rattle.events.specs.declared.event.Reply.{Reply}
use Rattle.events.proofs.NumberLemmas.{slice_get-below}
use Rattle.call_effects.specs.TimeCuts.{InvocationsRise}
use Rattle.cli_explain.proofs.LongestLemmas.{no_front_is_longer}
use Rattle.cli_explain.proofs.WholeLemmas.{whole_has_no_order, whole_front_goes_on}

-- ---- a test that an element passes

any_from : {X : Type 0} (test : X → Bool) (xs : List X) (x : X) → Contains xs x → test x ≡ true → list_any test xs ≡ true
any_from test [] x is passes = absurd (Contains-nil x is)
any_from test (y ∷ xs) x is passes = ⊎_elim
    (λ same. or_left (test y) (list_any test xs) (ap test same ∙ passes))
    (λ later. or_right (test y) (list_any test xs) (any_from test xs x later passes))
    (Contains-cases y xs x is)

any_of : {X : Type 0} (test : X → Bool) (xs : List X) → list_any test xs ≡ true → (x : X) × Contains xs x × (test x ≡ true)
any_of test [] h = absurd (false≢true h)
any_of test (y ∷ xs) h = ⊎_elim
    (λ here. (y, Contains-first y xs, here))
    (λ later. let (x, is, passes) = any_of test xs later in (x, Contains-later y xs x is, passes))
    (or_cases (test y) (list_any test xs) h)

-- ---- calls that are alike

completed_as : (r s : Option Response) → reply_in r ≡ reply_in s → is_some r ≡ is_some s
completed_as None None same = refl
completed_as None (Some s) same = absurd (none-some s.reply same)
completed_as (Some r) None same = absurd (none-some r.reply (sym same))
completed_as (Some r) (Some s) same = refl

after_as : (m : Contents) (call : Call) (r s : Option Response) → reply_in r ≡ reply_in s → after_call m call r ≡ after_call m call s
after_as m call None None same = refl
after_as m call None (Some s) same = absurd (none-some s.reply same)
after_as m call (Some r) None same = absurd (none-some r.reply (sym same))
after_as m call (Some r) (Some s) same = ap (after_reply m call) (same_Some r.reply s.reply same)

legal_as : (m : Contents) (call : Call) (r s : Option Response) → reply_in r ≡ reply_in s → IsLegalCall m call r → IsLegalCall m call s
legal_as m call None None same h = h
legal_as m call None (Some s) same h = absurd (none-some s.reply same)
legal_as m call (Some r) None same h = absurd (none-some r.reply (sym same))
legal_as m call (Some r) (Some s) same h = subst (λ (reply : Reply). IsLegalReply m call reply) (same_Some r.reply s.reply same) h

after_alike : (calls others : List Operation) (order : List ℕ) (m : Contents) → AreAlike calls others → All (λ n. n < length calls) order
    → after_calls m (calls_at calls order) ≡ after_calls m (calls_at others order)
after_alike calls others [] m alike known = refl
after_alike calls others (n ∷ order) m alike known =
    let below = All-head (λ n. n < length calls) n order known in
    let (a, a_at) = slice_get-below calls n below in
    let (b, b_at) = slice_get-below others n (subst (λ size. n < size) alike.size below) in
    let same = alike.same n a b a_at b_at in
    let here : after_call m a.call a.response ≡ after_call m b.call b.response =
    after_as m a.call a.response b.response same.1 ∙ ap (λ (call : Call). after_call m call b.response) same.0 in
    rw (a_at, b_at) (
    after_alike calls others order (after_call m a.call a.response) alike (All-tail (λ n. n < length calls) n order known)
    ∙ ap (λ (k : Contents). after_calls k (calls_at others order)) here
    )

-- ---- calls by number

-- two calls that were invoked at one place are one
one_number : (calls : List Operation) (j k : ℕ) (a b : Operation) → InvocationsRise calls → slice_get calls j ≡ Some a
    → slice_get calls k ≡ Some b → a.inv ≡ b.inv → j ≡ k
one_number calls j k a b rise a_at b_at same = ⊎_elim
    (λ is. is)
    (λ apart. ⊎_elim
    (λ before. absurd (omega (arith, AllPairs-at (λ (a b : Operation). a.inv < b.inv) calls j k a b rise before a_at b_at)))
    (λ behind. absurd (omega (arith, AllPairs-at (λ (a b : Operation). a.inv < b.inv) calls k j b a rise behind b_at a_at)))
    apart)
    (cases_order j k)

-- a call is taken exactly where its number is in the front
taken_from : (calls : List Operation) (front : List ℕ) (n : ℕ) (a : Operation) → slice_get calls n ≡ Some a → Contains front n
    → is_taken (calls_at calls front) a ≡ true
taken_from calls front n a a_at there =
    any_from (λ (b : Operation). b.inv == a.inv) (calls_at calls front) a (Contains-filter_map (slice_get calls) front n a there a_at)
    (eq-eqb a.inv a.inv refl)

taken_is : (calls : List Operation) (front : List ℕ) (n : ℕ) (a : Operation) → InvocationsRise calls → slice_get calls n ≡ Some a
    → is_taken (calls_at calls front) a ≡ true → Contains front n
taken_is calls front n a rise a_at h =
    let (b, is, same) = any_of (λ (b : Operation). b.inv == a.inv) (calls_at calls front) h in
    let (j, there, b_at) = Contains-from_filter_map (slice_get calls) front b is in
    subst (Contains front) (one_number calls j n b a rise b_at a_at (eqb-true b.inv a.inv same)) there

-- a call that comes next is left, and none that is left precedes it
record ComesNext (calls taken : List Operation) (a : Operation) : Type 0 where
  here : Contains calls a
  left : is_taken taken a ≡ false
  free : is_preceded (left_by taken calls) a ≡ false

comes_next : (calls taken : List Operation) (a : Operation) → Contains (next_of taken calls) a → ComesNext calls taken a
comes_next calls taken a next =
    let among = Contains-from_filter (λ (b : Operation). not (is_preceded (left_by taken calls) b)) (left_by taken calls) a next in
    let all = Contains-from_filter (λ (b : Operation). not (is_taken taken b)) calls a among.0 in
    record {
      here = all.0;
      left = not-true (is_taken taken a) all.1;
      free = not-true (is_preceded (left_by taken calls) a) among.1;
    }

-- what precedes it is taken
preceding_taken : (calls : List Operation) (front : List ℕ) (k : ℕ) (a b : Operation) → InvocationsRise calls
    → ComesNext calls (calls_at calls front) a → slice_get calls k ≡ Some b → precedes b a ≡ true → Contains front k
preceding_taken calls front k a b rise next b_at before =
    let taken = calls_at calls front in
    ⊎_elim
    (λ is. taken_is calls front k b rise b_at is)
    (λ is_left.
    let among = Contains-filter (λ (c : Operation). not (is_taken taken c)) calls b (Contains-at calls k b b_at) (ap not is_left) in
    absurd (both_ways (is_preceded (left_by taken calls) a) next.free
    (any_from (λ (c : Operation). precedes c a) (left_by taken calls) b among before)))
    (cases_Bool (is_taken taken b))

pub no_next_call_is_legal : RangesSuffice → NoNextCallIsLegal
no_next_call_is_legal suffice budget start calls history front a rise told h within next a_belongs legal =
    let alike = told.has_calls.alike in
    let refuted = told.refuted in
    let start_is = told.has_calls.start_is in
    let s = h.segment in
    let others = operations history.events in
    let places = h.longest.places in
    let below_others = λ (n : ℕ) (is : Contains s.numbers n). BelongsAt-below others n ((h.whole.members n).0 is) in
    let view : IsSegmentView s =
    subst IsSegmentView (sym h.whole.view) (IsSegmentView-segment_of history s.numbers told.has_calls.is_history
    h.whole.not_empty h.whole.rising (All-from_contains (λ n. n < length others) s.numbers below_others)) in
    let all_within : All (λ p. p < length s.numbers) places =
    subst (λ size. All (λ p. p < size) places) view.one_call_each h.longest.is_front.known in
    let known : All (λ n. n < length calls) front = subst (All (λ n. n < length calls)) (sym h.longest.is)
    (All-weaker (Contains s.numbers) (λ n. n < length calls)
    (λ n is. subst (λ size. n < size) (sym alike.size) (below_others n is)) (at_places s.numbers places)
    (All-at_places s.numbers places all_within)) in
    let comes = comes_next calls (calls_at calls front) a next in
    let (n, a_at) = place_of-Contains calls a comes.here in
    let (b, b_at) = slice_get-below others n (subst (λ size. n < size) alike.size (slice_get_within calls n a a_at)) in
    let same = alike.same n a b a_at b_at in
    let b_belongs : belongs b ≡ true =
    sym (ap₂ (λ (t : Bool) (call : Call). t || may_change call) (completed_as a.response b.response same.1) same.0) ∙ a_belongs in
    let pairs : after_calls start (calls_at calls front) ≡ after_calls history.start (calls_at others (at_places s.numbers places)) =
    after_alike calls others front start alike known
    ∙ (ap (λ (m : Contents). after_calls m (calls_at others front)) (sym start_is)
    ∙ ap (λ (l : List ℕ). after_calls history.start (calls_at others l)) h.longest.is) in
    let pairs_then = after_calls history.start (calls_at others (at_places s.numbers places)) in
    let (other, is_front, longer) = whole_front_goes_on history.start others s h.whole view places h.longest.is_front n b b_at b_belongs
    (λ there. both_ways (is_taken (calls_at calls front) a) comes.left
    (taken_from calls front n a a_at (subst (λ (l : List ℕ). Contains l n) (sym h.longest.is) there)))
    (λ k k_belongs before.
    let (c, d, c_at, d_at, earlier) = before in
    let (e, e_at) = slice_get-below calls k (subst (λ size. k < size) (sym alike.size) (slice_get_within others k c c_at)) in
    let same_call : d ≡ b = same_Some d b (sym d_at ∙ b_at) in
    let first : precedes e a ≡ true =
    alike.precedence k n e a c b e_at a_at c_at b_at ∙ subst (λ (o : Operation). precedes c o ≡ true) same_call earlier in
    subst (λ (l : List ℕ). Contains l k) h.longest.is (preceding_taken calls front k a e rise comes e_at first))
    (subst (λ (call : Call). IsLegalCall pairs_then call b.response) same.0
    (legal_as pairs_then a.call a.response b.response same.1
    (subst (λ (m : Contents). IsLegalCall m a.call a.response) pairs legal))) in
    let no_order = whole_has_no_order history.start others s h.whole view suffice refuted in
    omega (
      arith,
      longer,
      as_long_as s front places h.longest.is,
      no_front_is_longer budget s front other view.none_precedes_itself no_order within h.longest is_front,
    )
