-- If one of some calls misses another, they have no order: after the one that is missed its key
-- never again has what the first reports.
use Rattle.events.specs.declared.event.Reply.TheVariants as replies
use Rattle.std.proofs.Common.{◌≡◌, ℕ, Bool, true, false, not, List, [], ◌∷◌, Option, Some, None, refl, ap, sym, ◌∙◌, inl, inr, subst, ⊎_elim}
use Rattle.std.proofs.Common.{true≢false}
use Rattle.std.specs.Prelude.{◌⊎◌, ◌≢◌, ◌==◌, ◌&&◌, ◌||◌, if◌then◌else◌, nat_le, All, AllPairs, Contains}
use Rattle.std.specs.List.{list_any}
use Rattle.std.proofs.lemmas.Bool.{false≢true, both_ways, and_from, and_parts, eq-eqb, eqb-true, leb-true, not-false, not-true}
use Rattle.std.proofs.lemmas.List.Elements.{All-contains, All-head, All-tail}
use Rattle.std.proofs.lemmas.Option.{none-some, same_Some}
use Rattle.events.specs.declared.event.Call.{Call}
use Rattle.events.specs.declared.event.Call.TheVariants.{Get, Insert, Remove, Scan, Replace}
use Rattle.events.specs.declared.event.Reply.{Reply}
use Rattle.events.specs.declared.operation.Operation.{Operation}
use Rattle.events.specs.declared.operation.Response.{Response}
use Rattle.events.specs.Keys.{low_key, high_key}
use Rattle.events.specs.PlainHistories.{is_replace}
use Rattle.events.specs.Precedence.{is_completed, precedes}
use Rattle.events.specs.Told.{is_complete}
use Rattle.events.proofs.Lists.{AllPairs-head, AllPairs-tail, Contains-cases, Contains-first, Contains-later, Contains-nil}
use Rattle.map_object.specs.MapObject.{Contents, IsRising, value_at, is_just, value_reply, put, after, reply_to}
use Rattle.map_object.specs.MapObject.{IsAllOrPartOf}
use Rattle.map_object.proofs.TellLemmas.{after_reply-answer, whole_from_tells}
use Rattle.orders.specs.Orders.{after_call, IsLegal, IsLegalCall, KeepsPrecedence}
use Rattle.call_effects.proofs.SetLemmas.{set_from_linearizable}
use Rattle.call_effects.proofs.ValueLemmas.{rising_kept}
use Rattle.explain_shrink.specs.Tells.{names_key, depends_on, is_told_by, put_by, put_of, is_sure, tells_put, tells_put_at}
use Rattle.explain_shrink.proofs.AgreeLemmas.{is_blank, told_value, put_value, removed_value, gone_step}
use Rattle.explain_shrink.proofs.AnyLemmas.{any_of, none_of}
use Rattle.explain_reads_from.specs.Laws.{MissedCallsRefute, OneIsMissedAtAKey}
use Rattle.explain_reads_from.specs.Missed.{left_by, says_found, is_contradicted, contradicts, may_mend, contradicts_later, is_missed, missed_from}
use Rattle.explain_reads_from.specs.Writers.{says_undone, is_undone}

-- ---- what a call leaves at its key

chosen : {X : Type 0} (test : Bool) (o : Option X) (x : X) → (if test then o else None) ≡ Some x → (test ≡ true) × (o ≡ Some x)
chosen true o x is = (refl, is)
chosen false o x is = absurd (none-some x is)

-- a replace that did not say that it was not done found the value that it expects
found_expected : (o : Option ℕ) (key expected value : ℕ) → says_undone (Replace key expected value) (value_reply o) ≡ false
    → is_just o expected ≡ true
found_expected None key expected value done = absurd (true≢false done)
found_expected (Some found) key expected value done =
    eq-eqb found expected (sym (eqb-true expected found (not-false (expected == found) done)))

value_behind : (m : Contents) (call : Call) (reply : Reply) (value : Option ℕ) → IsAllOrPartOf call (reply_to m call) reply
    → (not (is_replace call) || is_complete reply) ≡ true → says_undone call reply ≡ false → put_by call ≡ Some value
    → value_at (after m call) (low_key call) ≡ value
value_behind m (Get key) reply value tells sure done puts = absurd (none-some value puts)
value_behind m (Insert key put) reply value tells sure done puts = put_value m key put ∙ same_Some (Some put) value puts
value_behind m (Remove key) reply value tells sure done puts = removed_value m key ∙ same_Some None value puts
value_behind m (Scan low high) reply value tells sure done puts = absurd (none-some value puts)
value_behind m (Replace key expected new) reply value tells sure done puts =
    let is = whole_from_tells (Replace key expected new) (value_reply (value_at m key)) reply sure tells in
    let found = found_expected (value_at m key) key expected new
    (subst (λ r. says_undone (Replace key expected new) r ≡ false) is done) in
    ap (λ t. value_at (if t then put key new m else m) key) found ∙ (put_value m key new ∙ same_Some (Some new) value puts)

left_there : (m : Contents) (call : Call) (response : Option Response) (value : Option ℕ) → IsLegalCall m call response
    → (if is_sure call response && not (is_undone call response) then put_by call else None) ≡ Some value
    → value_at (after_call m call response) (low_key call) ≡ value
left_there m call None value legal left = absurd (none-some value left)
left_there m call (Some response) value legal left =
    let (passes, puts) =
    chosen (is_sure call (Some response) && not (is_undone call (Some response))) (put_by call) value left in
    let (sure, undone) = and_parts (is_sure call (Some response)) (not (is_undone call (Some response))) passes in
    let done = not-true (says_undone call response.reply) undone in
    let answered : response.reply ≢ replies.Refused = λ refused.
    false≢true (sym done ∙ ap (says_undone call) refused) in
    let tells : IsAllOrPartOf call (reply_to m call) response.reply = ⊎_elim (λ refused. absurd (answered refused)) (λ t. t) legal in
    ap (λ (n : Contents). value_at n (low_key call)) (after_reply-answer m call response.reply answered)
    ∙ value_behind m call response.reply value tells sure done puts

-- ---- a call at a map, and what its answer reports of a key

some_left : (call : Call) (response : Option Response) (key : ℕ) (left : Option (Option ℕ)) → is_contradicted call response key left ≡ true
    → (value : Option ℕ) × (left ≡ Some value)
some_left call None key left gainsaid = absurd (false≢true gainsaid)
some_left call (Some response) key None gainsaid = absurd (false≢true gainsaid)
some_left call (Some response) key (Some value) gainsaid = (value, refl)

-- what was left there is not what it reports
untold_left : (call : Call) (response : Option Response) (key : ℕ) (value : Option ℕ) → is_contradicted call response key (Some value) ≡ true
    → is_told_by call response key value ≡ false
untold_left call None key value gainsaid = absurd (false≢true gainsaid)
untold_left call (Some response) key value gainsaid =
    not-true (depends_on call response.reply key value)
    (and_parts (says_found response.reply) (not (depends_on call response.reply key value)) gainsaid).1

sees : (call : Call) (reply : Reply) → says_found reply ≡ true → is_blank call reply ≡ false
sees call replies.None says = refl
sees call (replies.Some value) says = refl
sees call (replies.Pairs pairs) says = refl
sees call replies.Refused says = refl
sees call replies.Done says = absurd (false≢true says)
sees call replies.Found says = refl
sees call replies.Other says = refl

-- if it is legal it reports what is there
tells_there : (m : Contents) (call : Call) (response : Option Response) (key : ℕ) (left : Option (Option ℕ))
    → is_contradicted call response key left ≡ true → names_key call key ≡ true → IsLegalCall m call response
    → is_told_by call response key (value_at m key) ≡ true
tells_there m call None key left gainsaid names legal = absurd (false≢true gainsaid)
tells_there m call (Some response) key None gainsaid names legal = absurd (false≢true gainsaid)
tells_there m call (Some response) key (Some value) gainsaid names legal =
    let says = (and_parts (says_found response.reply) (not (depends_on call response.reply key value)) gainsaid).0 in
    let inside = and_parts (nat_le (low_key call) key) (nat_le key (high_key call)) names in
    told_value m call response.reply key (leb-true (low_key call) key inside.0) (leb-true key (high_key call) inside.1)
    (sees call response.reply says)
    (⊎_elim (λ refused. absurd (false≢true (sym (ap says_found refused) ∙ says))) (λ t. t) legal)

-- ---- the key of the call that is missed, from this call on

-- after a call a key has the value that it had, or the one that the call puts
kept_or_put : (m : Contents) (c : Operation) (key : ℕ) → IsRising m → IsLegalCall m c.call c.response
    → (value_at (after_call m c.call c.response) key ≡ value_at m key)
    ⊎ ((low_key c.call ≡ key) × (put_of c.call c.response ≡ Some (value_at (after_call m c.call c.response) key)))
kept_or_put m c key rising legal =
    gone_step (λ k value. (low_key c.call ≡ k) × (put_of c.call c.response ≡ Some value)) m m c.call c.response rising legal
    (λ value is. (refl, is)) (λ k. inl refl) key

and_fails : (a b : Bool) → a ≡ true → (a && b) ≡ false → b ≡ false
and_fails true b is fails = fails
and_fails false b is fails = absurd (false≢true is)

fails_unless : (b : Bool) → (b ≡ true → ⊥) → b ≡ false
fails_unless true none = absurd (none refl)
fails_unless false none = refl

-- a call that may not mend it, after the one that is missed and before the first, puts nothing
-- there that this one reports
not_mended : (same here tells earlier later : Bool) → same ≡ false → here ≡ true → earlier ≡ false → later ≡ false
    → (not same && (here && (tells && (not earlier && not later)))) ≡ false → tells ≡ false
not_mended same here false earlier later apart at behind before none = refl
not_mended true here true earlier later apart at behind before none = absurd (true≢false apart)
not_mended false false true earlier later apart at behind before none = absurd (false≢true at)
not_mended false true true true later apart at behind before none = absurd (true≢false behind)
not_mended false true true false true apart at behind before none = absurd (true≢false before)
not_mended false true true false false apart at behind before none = absurd (true≢false none)

module _ (calls : List Operation) (r b : Operation) (names : names_key r.call (low_key b.call) ≡ true)
    (gainsaid : is_contradicted r.call r.response (low_key b.call) (left_by b) ≡ true) (precede : precedes b r ≡ true)
    (apart : precedes r r ≡ false) (unmended : (c : Operation) → Contains calls c → may_mend r b c ≡ false) where
  -- the key has a value that the first does not report
  abbrev IsUntold : Contents → Type 0
  IsUntold m = is_told_by r.call r.response (low_key b.call) (value_at m (low_key b.call)) ≡ false

  -- what a call puts that may not mend it
  put_untold : (c : Operation) (value : Option ℕ) → Contains calls c → (c.inv ≡ r.inv → ⊥) → precedes c b ≡ false → precedes r c ≡ false
      → low_key c.call ≡ low_key b.call → put_of c.call c.response ≡ Some value
      → is_told_by r.call r.response (low_key b.call) value ≡ false
  put_untold c value known other behind before here puts =
      let untold : tells_put r c ≡ false = not_mended (c.inv == r.inv) (low_key c.call == low_key b.call) (tells_put r c)
      (precedes c b) (precedes r c) (fails_unless (c.inv == r.inv) (λ same. other (eqb-true c.inv r.inv same)))
      (eq-eqb (low_key c.call) (low_key b.call) here) behind before (unmended c known) in
      let at_key : tells_put_at r (low_key b.call) (Some value) ≡ false =
      subst (λ k. tells_put_at r k (Some value) ≡ false) here
      (subst (λ o. tells_put_at r (low_key c.call) o ≡ false) puts untold) in
      and_fails (names_key r.call (low_key b.call)) (is_told_by r.call r.response (low_key b.call) value) names at_key

  untold_kept : (m : Contents) (c : Operation) → IsRising m → IsLegalCall m c.call c.response → Contains calls c → (c.inv ≡ r.inv → ⊥)
      → precedes c b ≡ false → precedes r c ≡ false → IsUntold m → IsUntold (after_call m c.call c.response)
  untold_kept m c rising legal known other behind before untold = ⊎_elim
      (λ same. subst (λ o. is_told_by r.call r.response (low_key b.call) o ≡ false) (sym same) untold)
      (λ (here, puts).
      put_untold c (value_at (after_call m c.call c.response) (low_key b.call)) known other behind before here puts)
      (kept_or_put m c (low_key b.call) rising legal)

  -- no list that comes after the one that is missed has the first
  none_behind : (order : List Operation) (m : Contents) → IsRising m → IsLegal m order → Contains order r
      → All (λ c. precedes c b ≡ false) order → KeepsPrecedence order → AllPairs (λ c d. c.inv ≢ d.inv) order → All (Contains calls) order
      → IsUntold m → ⊥
  none_behind [] m rising legal here behind precedence distinct known untold = Contains-nil r here
  none_behind (c ∷ order) m rising legal here behind precedence distinct known untold = ⊎_elim
      (λ same.
      both_ways (is_told_by r.call r.response (low_key b.call) (value_at m (low_key b.call))) untold
      (tells_there m r.call r.response (low_key b.call) (left_by b) gainsaid names
      (subst (λ (o : Operation). IsLegalCall m o.call o.response) same legal.0)))
      (λ later.
      none_behind order (after_call m c.call c.response) (rising_kept m c rising) legal.1 later
      (All-tail (λ d. precedes d b ≡ false) c order behind) (AllPairs-tail (λ d e. precedes e d ≡ false) c order precedence)
      (AllPairs-tail (λ d e. d.inv ≢ e.inv) c order distinct) (All-tail (Contains calls) c order known)
      (untold_kept m c rising legal.0 (All-head (Contains calls) c order known)
      (All-contains (λ d. c.inv ≢ d.inv) order r (AllPairs-head (λ d e. d.inv ≢ e.inv) c order distinct) later)
      (All-head (λ d. precedes d b ≡ false) c order behind)
      (All-contains (λ d. precedes d c ≡ false) order r (AllPairs-head (λ d e. precedes e d ≡ false) c order precedence) later)
      untold))
      (Contains-cases c order r here)

  untold_first : (m : Contents) → IsLegalCall m b.call b.response → IsUntold (after_call m b.call b.response)
  untold_first m legal =
      let (value, is) = some_left r.call r.response (low_key b.call) (left_by b) gainsaid in
      subst (λ o. is_told_by r.call r.response (low_key b.call) o ≡ false) (sym (left_there m b.call b.response value legal is))
      (untold_left r.call r.response (low_key b.call) value
      (subst (λ o. is_contradicted r.call r.response (low_key b.call) o ≡ true) is gainsaid))

  -- no legal list has both calls
  none_with : (order : List Operation) (m : Contents) → IsRising m → IsLegal m order → Contains order b → Contains order r
      → KeepsPrecedence order → AllPairs (λ c d. c.inv ≢ d.inv) order → All (Contains calls) order → ⊥
  none_with [] m rising legal missed here precedence distinct known = Contains-nil r here
  none_with (c ∷ order) m rising legal missed here precedence distinct known = ⊎_elim
      (λ first. ⊎_elim
      (λ same. both_ways (precedes r r) apart (subst (λ (o : Operation). precedes o r ≡ true) (sym first ∙ same) precede))
      (λ later.
      none_behind order (after_call m c.call c.response) (rising_kept m c rising) legal.1 later
      (subst (λ (o : Operation). All (λ d. precedes d o ≡ false) order) first
      (AllPairs-head (λ d e. precedes e d ≡ false) c order precedence)) (AllPairs-tail (λ d e. precedes e d ≡ false) c order precedence)
      (AllPairs-tail (λ d e. d.inv ≢ e.inv) c order distinct) (All-tail (Contains calls) c order known)
      (subst (λ (o : Operation). IsUntold (after_call m o.call o.response)) (sym first)
      (untold_first m (subst (λ (o : Operation). IsLegalCall m o.call o.response) first legal.0))))
      (Contains-cases c order r here))
      (λ later_missed. ⊎_elim
      (λ same.
      both_ways (precedes b r)
      (subst (λ (o : Operation). precedes b o ≡ false) same
      (All-contains (λ d. precedes d c ≡ false) order b (AllPairs-head (λ d e. precedes e d ≡ false) c order precedence) later_missed))
      precede)
      (λ later.
      none_with order (after_call m c.call c.response) (rising_kept m c rising) legal.1 later_missed later
      (AllPairs-tail (λ d e. precedes e d ≡ false) c order precedence) (AllPairs-tail (λ d e. d.inv ≢ e.inv) c order distinct)
      (All-tail (Contains calls) c order known))
      (Contains-cases c order r here))
      (Contains-cases c order b missed)

-- ---- the calls that one misses

-- what is in a list that may have one more in front is this one, or is after it
first_or_later : {X : Type 0} (test : Bool) (x : X) (rest : List X) (y : X) → Contains (if test then x ∷ rest else rest) y
    → ((test ≡ true) × (x ≡ y)) ⊎ Contains rest y
first_or_later true x rest y is = ⊎_elim (λ same. inl (refl, same)) (λ later. inr later) (Contains-cases x rest y is)
first_or_later false x rest y is = inr is

-- one that is missed is missed of some calls after which others began
missed_is : (all : List Operation) (r : Operation) (calls : List Operation) (b : Operation) → Contains (missed_from all r calls) b
    → Contains calls b × ((later : List Operation) × (is_missed all r b later ≡ true))
missed_is all r [] b is = absurd (Contains-nil b is)
missed_is all r (x ∷ later) b is = ⊎_elim
    (λ (passes, same). (
      subst (Contains (x ∷ later)) same (Contains-first x later),
      (later, subst (λ (o : Operation). is_missed all r o later ≡ true) same passes),
    ))
    (λ next. let found = missed_is all r later b next in (Contains-later x later b found.0, found.1))
    (first_or_later (is_missed all r x later) x (missed_from all r later) b is)

-- a call that contradicts another has an answer, and so has the other
gainsaid_answered : (call : Call) (response : Option Response) (key : ℕ) (left : Option (Option ℕ)) (inv : ℕ)
    → is_contradicted call response key left ≡ true → is_completed (record { call = call; inv = inv; response = response }) ≡ true
gainsaid_answered call None key left inv gainsaid = absurd (false≢true gainsaid)
gainsaid_answered call (Some response) key left inv gainsaid = refl

precedes_answered : (b r : Operation) → precedes b r ≡ true → is_completed b ≡ true
precedes_answered b r = by_response b.response
  where
    by_response : (response : Option Response)
        → precedes (record { call = b.call; inv = b.inv; response = response }) r ≡ true
        → is_completed (record { call = b.call; inv = b.inv; response = response }) ≡ true
    by_response None before = absurd (false≢true before)
    by_response (Some response) before = refl

pub missed_calls_refute : MissedCallsRefute
missed_calls_refute start calls r b rising rise apart r_known b_missed has_order =
    let (b_known, (later, missed)) = missed_is calls r calls b b_missed in
    let (against, rest) = and_parts (contradicts r b) (not (contradicts_later r b later) && not (list_any (may_mend r b) calls)) missed in
    let (last, whole) = and_parts (not (contradicts_later r b later)) (not (list_any (may_mend r b) calls)) rest in
    let unmended = not-true (list_any (may_mend r b) calls) whole in
    let (precede, named) = and_parts (precedes b r)
    (names_key r.call (low_key b.call) && is_contradicted r.call r.response (low_key b.call) (left_by b)) against in
    let (names, gainsaid) = and_parts (names_key r.call (low_key b.call))
    (is_contradicted r.call r.response (low_key b.call) (left_by b)) named in
    let (left, (order, o, is)) = set_from_linearizable start calls rise has_order in
    none_with calls r b names gainsaid precede (All-contains (λ a. precedes a a ≡ false) calls r apart r_known)
    (λ c known. none_of (may_mend r b) calls c unmended known) order start rising o.legal
    (o.complete b b_known (precedes_answered b r precede))
    (o.complete r r_known (gainsaid_answered r.call r.response (low_key b.call) (left_by b) r.inv gainsaid)) o.precedence o.distinct
    o.known

-- ---- one of each key

-- If a later call at the same key is missed, the earlier one is not.
not_before : (all : List Operation) (r : Operation) (later : List Operation) (a b : Operation) → is_missed all r a later ≡ true
    → Contains (missed_from all r later) b → low_key a.call ≡ low_key b.call → ⊥
not_before all r later a b first next same =
    let (b_known, (rest, missed)) = missed_is all r later b next in
    let against = (and_parts (contradicts r b) (not (contradicts_later r b rest) && not (list_any (may_mend r b) all)) missed).0 in
    let others = (and_parts (contradicts r a) (not (contradicts_later r a later) && not (list_any (may_mend r a) all)) first).1 in
    let none = not-true (contradicts_later r a later)
    (and_parts (not (contradicts_later r a later)) (not (list_any (may_mend r a) all)) others).0 in
    both_ways (contradicts_later r a later) none
    (any_of (λ c. low_key c.call == low_key a.call && contradicts r c) later b b_known
    (and_from (low_key b.call == low_key a.call) (contradicts r b) (eq-eqb (low_key b.call) (low_key a.call) (sym same)) against))

one_from : (all : List Operation) (r : Operation) (calls : List Operation) (a b : Operation) → Contains (missed_from all r calls) a
    → Contains (missed_from all r calls) b → low_key a.call ≡ low_key b.call → a ≡ b
one_from all r [] a b a_is b_is same = absurd (Contains-nil a a_is)
one_from all r (x ∷ later) a b a_is b_is same = ⊎_elim
    (λ (passes, a_first). ⊎_elim
    (λ (again, b_first). sym a_first ∙ b_first)
    (λ b_later. absurd (not_before all r later x b passes b_later (ap (λ (o : Operation). low_key o.call) a_first ∙ same)))
    (first_or_later (is_missed all r x later) x (missed_from all r later) b b_is))
    (λ a_later. ⊎_elim
    (λ (passes, b_first). absurd (not_before all r later x a passes a_later (ap (λ (o : Operation). low_key o.call) b_first ∙ sym same)))
    (λ b_later. one_from all r later a b a_later b_later same)
    (first_or_later (is_missed all r x later) x (missed_from all r later) b b_is))
    (first_or_later (is_missed all r x later) x (missed_from all r later) a a_is)

pub one_is_missed_at_a_key : OneIsMissedAtAKey
one_is_missed_at_a_key calls r a b = one_from calls r calls a b
