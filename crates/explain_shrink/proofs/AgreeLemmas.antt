-- Two maps that agree except for values that some calls do not report: what each call makes of
-- them.
use Rattle.events.specs.declared.event.Reply.TheVariants as replies
use Rattle.explain_shrink.proofs.Common.{◌≡◌, ℕ, ◌≤◌, Bool, true, false, nat_le, cond, ◌&&◌, ◌++◌, Option, Some, None, refl, sym, ap, ◌∙◌, subst, inl}
use Rattle.explain_shrink.proofs.Common.{inr, ⊎_elim, arith, ◌⊎◌, ◌≢◌, ◌==◌, ◌||◌, not, is_some, if◌then◌else◌, both_ways, and_from, and_parts, le-leb}
use Rattle.explain_shrink.proofs.Common.{eq-eqb, false≢true, not-false, not-true, Operation, Response, low_key, high_key, may_change, Contents, IsRising}
use Rattle.explain_shrink.proofs.Common.{value_at, below, above, put, is_just, value_reply, reply_to, after, after_reply, is_value, is_none_or_other}
use Rattle.explain_shrink.proofs.Common.{misses, IsAllOrPartOf, IsLegalReply, after_call, IsLegalCall, IsOut, in_or_out, same_within, value_left, names_key}
use Rattle.explain_shrink.proofs.Common.{is_same, waits_for, depends_on, depends_on_value, put_by, put_of, is_sure}
use Rattle.events.specs.declared.event.Call.{Call}
use Rattle.events.specs.declared.event.Call.TheVariants.{Get, Insert, Remove, Scan, Replace}
use Rattle.events.specs.declared.event.Reply.{Reply}
use Rattle.events.specs.PlainHistories.{is_replace}
use Rattle.events.specs.Told.{is_complete}
use Rattle.map_object.proofs.MapLemmas.{AreBelow-below, AreAbove-above, value_at_found, value_at_gap}
use Rattle.map_object.proofs.TellLemmas.{after_reply-answer, tells_answers, whole_from_tells}
use Rattle.orders.proofs.RangeLemmas.{value_at-within}
use Rattle.call_effects.specs.Replies.{says_unchanged}
use Rattle.call_effects.proofs.ReplyLemmas.{unchanged}

-- two maps have the same value at each key, or one that is hidden
abbrev pub Agree : (ℕ → Option ℕ → Type 0) → Contents → Contents → Type 0
Agree Hidden m n = (key : ℕ) → (value_at m key ≡ value_at n key) ⊎ Hidden key (value_at m key)

-- a call reports no value that is hidden, and waits for none
abbrev pub IsBlind : (ℕ → Option ℕ → Type 0) → Operation → Type 0
IsBlind Hidden b = (key : ℕ) (value : Option ℕ) → Hidden key value → depends_on_value b key value ≡ false

-- two maps have the same values at the keys of a call
abbrev AgreeOn : Call → Contents → Contents → Type 0
AgreeOn call m n = (key : ℕ) → low_key call ≤ key → key ≤ high_key call → value_at m key ≡ value_at n key

-- ---- the value at a key after a call

pub put_value : (m : Contents) (key value : ℕ) → value_at (put key value m) key ≡ Some value
put_value m key value = value_at_found key value (below key m) (above key m) (AreBelow-below m key) (AreAbove-above m key)

pub removed_value : (m : Contents) (key : ℕ) → value_at (below key m ++ above key m) key ≡ None
removed_value m key = value_at_gap key (below key m) (above key m) (AreBelow-below m key) (AreAbove-above m key)

-- keys that a call does not name are left
left_alone : (m : Contents) (call : Call) (key : ℕ) → IsOut (low_key call) (high_key call) key
    → value_at (after m call) key ≡ value_at m key
left_alone m call key out = value_left m (record { call = call; inv = 0; response = None }) key out

-- a call that finds the same values leaves the same
same_here : (m n : Contents) (call : Call) → AgreeOn call m n → AgreeOn call (after m call) (after n call)
same_here m n (Get at) same key low high = same key low high
same_here m n (Scan lo hi) same key low high = same key low high
same_here m n (Insert at value) same key low high =
    let here : at ≡ key = omega arith in
    subst (λ k. value_at (put at value m) k ≡ value_at (put at value n) k) here (put_value m at value ∙ sym (put_value n at value))
same_here m n (Remove at) same key low high =
    let here : at ≡ key = omega arith in
    subst (λ k. value_at (below at m ++ above at m) k ≡ value_at (below at n ++ above at n) k) here
    (removed_value m at ∙ sym (removed_value n at))
same_here m n (Replace at expected value) same key low high =
    let here : at ≡ key = omega arith in
    let found : value_at m at ≡ value_at n at = same at (omega arith) (omega arith) in
    subst (λ k. value_at (after m (Replace at expected value)) k ≡ value_at (after n (Replace at expected value)) k) here
    (subst (λ o. value_at (after m (Replace at expected value)) at ≡ value_at (if is_just o expected then put at value n else n) at) found
    (replaced (is_just (value_at m at) expected) found))
  where
    replaced : (t : Bool) → value_at m at ≡ value_at n at
        → value_at (cond t (put at value m) m) at ≡ value_at (cond t (put at value n) n) at
    replaced true found = put_value m at value ∙ sym (put_value n at value)
    replaced false found = found

-- a call that leaves the same at its keys keeps the maps in agreement
agree_set : (Hidden : ℕ → Option ℕ → Type 0) (m n : Contents) (call : Call) → Agree Hidden m n → AgreeOn call (after m call) (after n call)
    → Agree Hidden (after m call) (after n call)
agree_set Hidden m n call agree same key = ⊎_elim
    (λ inside. inl (same key inside.0 inside.1))
    (λ out. ⊎_elim
    (λ is. inl (left_alone m call key out ∙ (is ∙ sym (left_alone n call key out))))
    (λ hidden. inr (subst (Hidden key) (sym (left_alone m call key out)) hidden))
    (agree key))
    (in_or_out (low_key call) (high_key call) key)

agree_both : (Hidden : ℕ → Option ℕ → Type 0) (m n : Contents) (call : Call) → Agree Hidden m n → AgreeOn call m n
    → Agree Hidden (after m call) (after n call)
agree_both Hidden m n call agree same = agree_set Hidden m n call agree (same_here m n call same)

-- ---- a call that is no replace

-- a call that is no replace makes the same of whatever it finds
whole_agree : (Hidden : ℕ → Option ℕ → Type 0) (m n : Contents) (call : Call) → is_replace call ≡ false → Agree Hidden m n
    → Agree Hidden (after m call) (after n call)
whole_agree Hidden m n (Get at) plain agree = agree
whole_agree Hidden m n (Scan lo hi) plain agree = agree
whole_agree Hidden m n (Insert at value) plain agree =
    agree_set Hidden m n (Insert at value) agree (λ key low high. let is : at ≡ key = omega arith in
    subst (λ k. value_at (put at value m) k ≡ value_at (put at value n) k) is (put_value m at value ∙ sym (put_value n at value)))
whole_agree Hidden m n (Remove at) plain agree =
    agree_set Hidden m n (Remove at) agree (λ key low high. let is : at ≡ key = omega arith in
    subst (λ k. value_at (below at m ++ above at m) k ≡ value_at (below at n ++ above at n) k) is
    (removed_value m at ∙ sym (removed_value n at)))
whole_agree Hidden m n (Replace at expected value) plain agree = absurd (false≢true (sym plain))

-- if it may change the map, it leaves the same value at its key
whole_same : (m n : Contents) (call : Call) → is_replace call ≡ false → may_change call ≡ true
    → value_at (after m call) (low_key call) ≡ value_at (after n call) (low_key call)
whole_same m n (Get at) plain changes = absurd (false≢true changes)
whole_same m n (Scan lo hi) plain changes = absurd (false≢true changes)
whole_same m n (Insert at value) plain changes = put_value m at value ∙ sym (put_value n at value)
whole_same m n (Remove at) plain changes = removed_value m at ∙ sym (removed_value n at)
whole_same m n (Replace at expected value) plain changes = absurd (false≢true (sym plain))

-- ---- a completed call that stays

is_same_refl : (value : Option ℕ) → is_same value value ≡ true
is_same_refl None = refl
is_same_refl (Some value) = eq-eqb value value refl

told_reply : (call : Call) (value : Option ℕ) (key : ℕ) → depends_on call (value_reply value) key value ≡ true
told_reply call None key = refl
told_reply call (Some value) key = eq-eqb value value refl

-- what a map answers reports its values
whole_value : (m : Contents) (call : Call) (key : ℕ) → low_key call ≤ key → key ≤ high_key call
    → depends_on call (reply_to m call) key (value_at m key) ≡ true
whole_value m (Get at) key low high =
    let here : at ≡ key = omega arith in
    subst (λ k. depends_on (Get at) (value_reply (value_at m at)) key (value_at m k) ≡ true) here (told_reply (Get at) (value_at m at) key)
whole_value m (Insert at value) key low high =
    let here : at ≡ key = omega arith in
    subst (λ k. depends_on (Insert at value) (value_reply (value_at m at)) key (value_at m k) ≡ true) here
    (told_reply (Insert at value) (value_at m at) key)
whole_value m (Remove at) key low high =
    let here : at ≡ key = omega arith in
    subst (λ k. depends_on (Remove at) (value_reply (value_at m at)) key (value_at m k) ≡ true) here
    (told_reply (Remove at) (value_at m at) key)
whole_value m (Scan lo hi) key low high =
    subst (λ o. is_same o (value_at m key) ≡ true) (sym (value_at-within lo hi m key low high)) (is_same_refl (value_at m key))
whole_value m (Replace at expected value) key low high =
    let here : at ≡ key = omega arith in
    subst (λ k. depends_on (Replace at expected value) (value_reply (value_at m at)) key (value_at m k) ≡ true) here
    (told_reply (Replace at expected value) (value_at m at) key)

-- the answer that a call found a value depends on whether there is one
found_some : (o : Option ℕ) → is_value (value_reply o) ≡ true → is_some o ≡ true
found_some None found = found
found_some (Some value) found = refl

found_value : (m : Contents) (call : Call) (key : ℕ) → low_key call ≤ key → key ≤ high_key call → is_value (reply_to m call) ≡ true
    → (is_replace call || is_some (value_at m key)) ≡ true
found_value m (Get at) key low high found =
    let here : at ≡ key = omega arith in
    subst (λ k. is_some (value_at m k) ≡ true) here (found_some (value_at m at) found)
found_value m (Insert at value) key low high found =
    let here : at ≡ key = omega arith in
    subst (λ k. is_some (value_at m k) ≡ true) here (found_some (value_at m at) found)
found_value m (Remove at) key low high found =
    let here : at ≡ key = omega arith in
    subst (λ k. is_some (value_at m k) ≡ true) here (found_some (value_at m at) found)
found_value m (Scan lo hi) key low high found = absurd (false≢true found)
found_value m (Replace at expected value) key low high found = refl

-- the answer that a replace found another value depends on each value but the one that it expects
other_not : (expected : ℕ) (o : Option ℕ) → is_none_or_other expected (value_reply o) ≡ true → not (is_just o expected) ≡ true
other_not expected None other = refl
other_not expected (Some value) other = other

other_value : (m : Contents) (call : Call) (key : ℕ) → low_key call ≤ key → key ≤ high_key call → misses call (reply_to m call) ≡ true
    → (is_replace call && not (waits_for call (value_at m key))) ≡ true
other_value m (Get at) key low high other = absurd (false≢true other)
other_value m (Insert at value) key low high other = absurd (false≢true other)
other_value m (Remove at) key low high other = absurd (false≢true other)
other_value m (Scan lo hi) key low high other = absurd (false≢true other)
other_value m (Replace at expected value) key low high other =
    let here : at ≡ key = omega arith in
    subst (λ k. not (is_just (value_at m k) expected) ≡ true) here (other_not expected (value_at m at) other)

-- whether the answer says only that a call was done, which makes the same of whatever it finds
abbrev pub is_blank : Call → Reply → Bool
is_blank call replies.None = false
is_blank call (replies.Some value) = false
is_blank call (replies.Pairs pairs) = false
is_blank call replies.Refused = false
is_blank call replies.Done = not (is_replace call)
is_blank call replies.Found = false
is_blank call replies.Other = false

blank_done : (call : Call) (reply : Reply) → is_blank call reply ≡ true → (reply ≡ replies.Done) × (is_replace call ≡ false)
blank_done call replies.None blank = absurd (false≢true blank)
blank_done call (replies.Some value) blank = absurd (false≢true blank)
blank_done call (replies.Pairs pairs) blank = absurd (false≢true blank)
blank_done call replies.Refused blank = absurd (false≢true blank)
blank_done call replies.Done blank = (refl, not-true (is_replace call) blank)
blank_done call replies.Found blank = absurd (false≢true blank)
blank_done call replies.Other blank = absurd (false≢true blank)

-- each other answer depends on the values that it reports
pub told_value : (m : Contents) (call : Call) (reply : Reply) (key : ℕ) → low_key call ≤ key → key ≤ high_key call
    → is_blank call reply ≡ false → IsAllOrPartOf call (reply_to m call) reply → depends_on call reply key (value_at m key) ≡ true
told_value m call replies.None key low high sees depends_on_value =
    subst (λ r. depends_on call r key (value_at m key) ≡ true) (sym depends_on_value) (whole_value m call key low high)
told_value m call (replies.Some value) key low high sees depends_on_value =
    subst (λ r. depends_on call r key (value_at m key) ≡ true) (sym depends_on_value) (whole_value m call key low high)
told_value m call (replies.Pairs pairs) key low high sees depends_on_value =
    subst (λ r. depends_on call r key (value_at m key) ≡ true) (sym depends_on_value) (whole_value m call key low high)
told_value m call replies.Refused key low high sees depends_on_value =
    subst (λ r. depends_on call r key (value_at m key) ≡ true) (sym depends_on_value) (whole_value m call key low high)
told_value m call replies.Done key low high sees depends_on_value = not-false (is_replace call) sees
told_value m call replies.Found key low high sees depends_on_value = found_value m call key low high depends_on_value
told_value m call replies.Other key low high sees depends_on_value = other_value m call key low high depends_on_value

named : (call : Call) (key : ℕ) → low_key call ≤ key → key ≤ high_key call → names_key call key ≡ true
named call key low high = and_from (nat_le (low_key call) key) (nat_le key (high_key call)) (le-leb (low_key call) key low)
    (le-leb key (high_key call) high)

-- maps agree on the keys of a call that reports the values of one of them
agree_on : (Hidden : ℕ → Option ℕ → Type 0) (m n : Contents) (call : Call) (inv res : ℕ) (reply : Reply)
    → IsBlind Hidden (record { call = call; inv = inv; response = Some (record { res = res; reply = reply }) })
    → is_blank call reply ≡ false → IsAllOrPartOf call (reply_to m call) reply → Agree Hidden m n → AgreeOn call m n
agree_on Hidden m n call inv res reply blind sees is agree key low high = ⊎_elim
    (λ same. same)
    (λ hidden. absurd (both_ways _ (blind key (value_at m key) hidden)
    (and_from (names_key call key) (depends_on call reply key (value_at m key)) (named call key low high)
    (told_value m call reply key low high sees is))))
    (agree key)

-- maps that agree on the keys of a call give it the same reply
same_reply : (m n : Contents) (call : Call) → IsRising m → IsRising n → AgreeOn call m n → reply_to m call ≡ reply_to n call
same_reply m n (Get key) m_rises n_rises same = ap value_reply (same key (omega arith) (omega arith))
same_reply m n (Insert key value) m_rises n_rises same = ap value_reply (same key (omega arith) (omega arith))
same_reply m n (Remove key) m_rises n_rises same = ap value_reply (same key (omega arith) (omega arith))
same_reply m n (Scan low high) m_rises n_rises same = ap replies.Pairs (same_within low high m n m_rises n_rises same)
same_reply m n (Replace key expected value) m_rises n_rises same = ap value_reply (same key (omega arith) (omega arith))

-- ---- a call that says that it put something

put_by_none : (call : Call) → may_change call ≡ false → put_by call ≡ None
put_by_none (Get key) h = refl
put_by_none (Insert key value) h = absurd (false≢true (sym h))
put_by_none (Remove key) h = absurd (false≢true (sym h))
put_by_none (Scan low high) h = refl
put_by_none (Replace key expected value) h = absurd (false≢true (sym h))

-- a call that changes nothing puts nothing
pub put_none : (call : Call) (response : Option Response) → may_change call ≡ false → put_of call response ≡ None
put_none call None h = put_by_none call h
put_none call (Some response) h = by_test (says_unchanged call response.reply)
  where
    by_test : (t : Bool) → (if t then None else put_by call) ≡ None
    by_test true = refl
    by_test false = put_by_none call h

-- one that puts something may change the map
pub put_changes : (call : Call) (response : Option Response) → is_some (put_of call response) ≡ true → may_change call ≡ true
put_changes call response puts = by_test (may_change call) refl
  where
    by_test : (t : Bool) → may_change call ≡ t → may_change call ≡ true
    by_test true e = e
    by_test false e = absurd (false≢true (subst (λ (o : Option (Option ℕ)). is_some o ≡ true) (put_none call response e) puts))

put_says : (call : Call) (reply : Reply) (res : ℕ) → is_some (put_of call (Some (record { res = res; reply = reply }))) ≡ true
    → says_unchanged call reply ≡ false
put_says call reply res puts = by_test (says_unchanged call reply) refl puts
  where
    by_test : (t : Bool) → says_unchanged call reply ≡ t → is_some (if t then None else put_by call) ≡ true
        → says_unchanged call reply ≡ false
    by_test true e h = absurd (false≢true h)
    by_test false e h = e

refused_says : (call : Call) → says_unchanged call replies.Refused ≡ true
refused_says (Get key) = refl
refused_says (Scan low high) = refl
refused_says (Insert key value) = refl
refused_says (Remove key) = refl
refused_says (Replace key expected value) = refl

-- a call that puts something was not refused
put_answered : (call : Call) (reply : Reply) (res : ℕ) → is_some (put_of call (Some (record { res = res; reply = reply }))) ≡ true
    → reply ≢ replies.Refused
put_answered call reply res puts refused =
    false≢true (sym (put_says call reply res puts) ∙ (ap (says_unchanged call) refused ∙ refused_says call))

-- a call that is known to have put something was answered
pub sure_answered : (call : Call) (response : Option Response) → is_sure call response ≡ true → is_some response ≡ true
sure_answered call None sure = sure
sure_answered call (Some response) sure = refl

-- maps that agree on the keys of a call have the same value at its key
at_key : (m n : Contents) (call : Call) → may_change call ≡ true → AgreeOn call m n → value_at m (low_key call) ≡ value_at n (low_key call)
at_key m n (Get key) h same = absurd (false≢true h)
at_key m n (Insert key value) h same = same key (omega arith) (omega arith)
at_key m n (Remove key) h same = same key (omega arith) (omega arith)
at_key m n (Scan low high) h same = absurd (false≢true h)
at_key m n (Replace key expected value) h same = same key (omega arith) (omega arith)

-- maps after a call: they agree, and where it says that it put something they have the same value at its key
pub record IsAfter (Hidden : ℕ → Option ℕ → Type 0) (call : Call) (response : Option Response) (m n : Contents) : Type 0 where
  pub agree : Agree Hidden m n
  pub same : (is_some (put_of call response) && is_sure call response) ≡ true → value_at m (low_key call) ≡ value_at n (low_key call)

-- what a completed call that stays comes to at the other map
pub record IsStep (Hidden : ℕ → Option ℕ → Type 0) (m n : Contents) (call : Call) (response : Option Response) : Type 0 where
  pub legal : IsLegalCall n call response
  pub follows : IsAfter Hidden call response (after_call m call response) (after_call n call response)

pub stays_step : (Hidden : ℕ → Option ℕ → Type 0) (m n : Contents) (call : Call) (inv res : ℕ) (reply : Reply)
    → IsBlind Hidden (record { call = call; inv = inv; response = Some (record { res = res; reply = reply }) }) → IsRising m → IsRising n
    → IsLegalReply m call reply → Agree Hidden m n → IsStep Hidden m n call (Some (record { res = res; reply = reply }))
stays_step Hidden m n call inv res reply blind m_rises n_rises legal agree = ⊎_elim
    (λ refused. record {
      legal = inl refused;
      follows = record {
        agree = subst (λ (r : Reply). Agree Hidden (after_reply m call r) (after_reply n call r)) (sym refused) agree;
        same = λ puts. absurd (put_answered call reply res (may_put puts) refused);
      };
    })
    (λ depends_on_value. answered depends_on_value (is_blank call reply) refl)
    legal
  where
    may_put : (is_some (put_of call (Some (record { res = res; reply = reply }))) && is_sure call (Some (record { res = res; reply = reply })))
        ≡ true → is_some (put_of call (Some (record { res = res; reply = reply }))) ≡ true
    may_put puts = (and_parts (is_some (put_of call (Some (record { res = res; reply = reply }))))
        (is_sure call (Some (record { res = res; reply = reply }))) puts).0

    -- one that is done at both
    both_done : reply ≢ replies.Refused → IsLegalReply n call reply → Agree Hidden (after m call) (after n call)
        → (may_change call ≡ true → value_at (after m call) (low_key call) ≡ value_at (after n call) (low_key call))
        → IsStep Hidden m n call (Some (record { res = res; reply = reply }))
    both_done done fits behind same =
        let m_is = after_reply-answer m call reply done in
        let n_is = after_reply-answer n call reply done in
        record {
          legal = fits;
          follows = record {
            agree = subst (λ (a : Contents). Agree Hidden a (after_reply n call reply)) (sym m_is)
                (subst (λ (b : Contents). Agree Hidden (after m call) b) (sym n_is) behind);
            same = λ puts. ap (λ (a : Contents). value_at a (low_key call)) m_is
                ∙ (same (put_changes call (Some (record { res = res; reply = reply })) (may_put puts))
                ∙ sym (ap (λ (a : Contents). value_at a (low_key call)) n_is));
          };
        }

    answered : IsAllOrPartOf call (reply_to m call) reply → (t : Bool) → is_blank call reply ≡ t
        → IsStep Hidden m n call (Some (record { res = res; reply = reply }))
    answered depends_on_value true blank =
        let (done, plain) = blank_done call reply blank in
        both_done (tells_answers m call reply depends_on_value) (subst (λ (r : Reply). IsLegalReply n call r) (sym done) (inr tt))
        (whole_agree Hidden m n call plain agree) (whole_same m n call plain)
    answered depends_on_value false sees =
        let same = agree_on Hidden m n call inv res reply blind sees depends_on_value agree in
        both_done (tells_answers m call reply depends_on_value)
        (inr (subst (λ (whole : Reply). IsAllOrPartOf call whole reply) (same_reply m n call m_rises n_rises same) depends_on_value))
        (agree_both Hidden m n call agree same)
        (λ changes. at_key (after m call) (after n call) call changes (same_here m n call same))

-- ---- a call that stays without its answer

-- a call was done, or changed nothing
after_either : (m : Contents) (call : Call) (response : Option Response) → (after_call m call response ≡ m)
    ⊎ (after_call m call response ≡ after m call)
after_either m call None = inr refl
after_either m call (Some response) = by_reply response.reply
  where
    by_reply : (reply : Reply) → (after_reply m call reply ≡ m) ⊎ (after_reply m call reply ≡ after m call)
    by_reply replies.None = inr refl
    by_reply (replies.Some value) = inr refl
    by_reply (replies.Pairs pairs) = inr refl
    by_reply replies.Refused = inl refl
    by_reply replies.Done = inr refl
    by_reply replies.Found = inr refl
    by_reply replies.Other = inr refl

-- a pending call is done at the other map too, or left out there
open_done : (Hidden : ℕ → Option ℕ → Type 0) (m n : Contents) (call : Call) (inv : ℕ)
    → IsBlind Hidden (record { call = call; inv = inv; response = None })
    → Agree Hidden m n → Agree Hidden (after m call) (after n call) ⊎ Agree Hidden (after m call) n
open_done Hidden m n (Get key) inv blind agree = inr agree
open_done Hidden m n (Scan low high) inv blind agree = inr agree
open_done Hidden m n (Insert at value) inv blind agree = inl (whole_agree Hidden m n (Insert at value) refl agree)
open_done Hidden m n (Remove at) inv blind agree = inl (whole_agree Hidden m n (Remove at) refl agree)
open_done Hidden m n (Replace at expected value) inv blind agree = ⊎_elim
    (λ same. inl (agree_both Hidden m n (Replace at expected value) agree (λ key low high. let is : at ≡ key = omega arith in
    subst (λ k. value_at m k ≡ value_at n k) is same)))
    (λ hidden. inr (by_test (is_just (value_at m at) expected) refl (blind at (value_at m at) hidden)))
    (agree at)
  where
    by_test : (t : Bool) → is_just (value_at m at) expected ≡ t
        → (names_key (Replace at expected value) at && is_just (value_at m at) expected) ≡ false
        → Agree Hidden (if is_just (value_at m at) expected then put at value m else m) n
    by_test true found none =
        absurd (both_ways _ none (and_from (names_key (Replace at expected value) at) (is_just (value_at m at) expected)
        (named (Replace at expected value) at (omega arith) (omega arith)) found))
    by_test false found none = rw found agree

-- a replace that says that it put its value found the one that it expected
found_expected : (m : Contents) (at expected value : ℕ) (reply : Reply) → reply ≡ value_reply (value_at m at)
    → says_unchanged (Replace at expected value) reply ≡ false → is_just (value_at m at) expected ≡ true
found_expected m at expected value reply is says =
    by_value (value_at m at) (subst (λ (r : Reply). says_unchanged (Replace at expected value) r ≡ false) is says)
  where
    by_eq : (t : Bool) → (not t || (expected == value)) ≡ false → t ≡ true
    by_eq true h = refl
    by_eq false h = absurd (false≢true (sym h))

    by_value : (o : Option ℕ) → says_unchanged (Replace at expected value) (value_reply o) ≡ false → is_just o expected ≡ true
    by_value None h = absurd (false≢true (sym h))
    by_value (Some found) h = by_eq (found == expected) h

-- one that says that it put something is done at the other map too, and leaves the same value at its key
put_done : (Hidden : ℕ → Option ℕ → Type 0) (m n : Contents) (call : Call) (inv : ℕ) (reply : Reply)
    → IsBlind Hidden (record { call = call; inv = inv; response = None }) → may_change call ≡ true
    → (not (is_replace call) || is_complete reply) ≡ true → IsAllOrPartOf call (reply_to m call) reply
    → says_unchanged call reply ≡ false → Agree Hidden m n
    → Agree Hidden (after m call) (after n call) × (value_at (after m call) (low_key call) ≡ value_at (after n call) (low_key call))
put_done Hidden m n (Get key) inv reply blind changes sure depends_on_value says agree = absurd (false≢true changes)
put_done Hidden m n (Scan low high) inv reply blind changes sure depends_on_value says agree = absurd (false≢true changes)
put_done Hidden m n (Insert at value) inv reply blind changes sure depends_on_value says agree = (
  whole_agree Hidden m n (Insert at value) refl agree,
  whole_same m n (Insert at value) refl refl,
)
put_done Hidden m n (Remove at) inv reply blind changes sure depends_on_value says agree = (
  whole_agree Hidden m n (Remove at) refl agree,
  whole_same m n (Remove at) refl refl,
)
put_done Hidden m n (Replace at expected value) inv reply blind changes sure depends_on_value says agree = ⊎_elim
    (λ same.
    let here : AgreeOn (Replace at expected value) m n = λ key low high. let is : at ≡ key = omega arith in
    subst (λ k. value_at m k ≡ value_at n k) is same in (
      agree_both Hidden m n (Replace at expected value) agree here,
      at_key (after m (Replace at expected value)) (after n (Replace at expected value)) (Replace at expected value) refl
          (same_here m n (Replace at expected value) here),
    ))
    (λ hidden. absurd (both_ways _ (blind at (value_at m at) hidden)
    (and_from (names_key (Replace at expected value) at) (is_just (value_at m at) expected)
    (named (Replace at expected value) at (omega arith) (omega arith))
    (found_expected m at expected value reply
    (whole_from_tells (Replace at expected value) (value_reply (value_at m at)) reply sure depends_on_value) says))))
    (agree at)

pub open_step : (Hidden : ℕ → Option ℕ → Type 0) (m n : Contents) (call : Call) (inv : ℕ) (response : Option Response)
    → IsBlind Hidden (record { call = call; inv = inv; response = None }) → IsLegalCall m call response → Agree Hidden m n
    → IsAfter Hidden call response (after_call m call response) (after n call)
    ⊎ IsAfter Hidden call response (after_call m call response) n
open_step Hidden m n call inv None blind legal agree = ⊎_elim
    (λ done. inl (record { agree = done; same = λ puts. absurd (unsure puts) }))
    (λ one. inr (record { agree = one; same = λ puts. absurd (unsure puts) }))
    (open_done Hidden m n call inv blind agree)
  where
    unsure : (is_some (put_of call None) && false) ≡ true → ⊥
    unsure puts = false≢true (and_parts (is_some (put_of call None)) false puts).1
open_step Hidden m n call inv (Some response) blind legal agree = by_test puts_surely refl
  where
    puts_surely : Bool
    puts_surely = is_some (put_of call (Some response)) && is_sure call (Some response)

    left : Contents
    left = after_reply m call response.reply

    silent : (next : Contents) → puts_surely ≡ false → Agree Hidden left next → IsAfter Hidden call (Some response) left next
    silent next e done = record { agree = done; same = λ puts. absurd (false≢true (sym e ∙ puts)) }

    loud : puts_surely ≡ true → IsAfter Hidden call (Some response) left (after n call)
    loud e =
        let (may, sure) = and_parts (is_some (put_of call (Some response))) (is_sure call (Some response)) e in
        let answered = put_answered call response.reply response.res may in
        let depends_on_value : IsAllOrPartOf call (reply_to m call) response.reply = ⊎_elim (λ refused. absurd (answered refused)) (λ t. t) legal in
        let done = put_done Hidden m n call inv response.reply blind (put_changes call (Some response) may) sure depends_on_value
        (put_says call response.reply response.res may) agree in
        let m_is = after_reply-answer m call response.reply answered in
        record {
          agree = subst (λ (a : Contents). Agree Hidden a (after n call)) (sym m_is) done.0;
          same = λ puts. ap (λ (a : Contents). value_at a (low_key call)) m_is ∙ done.1;
        }

    by_test : (t : Bool) → puts_surely ≡ t
        → IsAfter Hidden call (Some response) left (after n call) ⊎ IsAfter Hidden call (Some response) left n
    by_test true e = inl (loud e)
    by_test false e = ⊎_elim
        (λ still. inr (silent n e (subst (λ (a : Contents). Agree Hidden a n) (sym still) agree)))
        (λ done. ⊎_elim
        (λ both. inl (silent (after n call) e (subst (λ (a : Contents). Agree Hidden a (after n call)) (sym done) both)))
        (λ one. inr (silent n e (subst (λ (a : Contents). Agree Hidden a n) (sym done) one)))
        (open_done Hidden m n call inv blind agree))
        (after_either m call (Some response))

-- ---- a call that is left out

-- what is put is hidden
abbrev IsPutHidden : (ℕ → Option ℕ → Type 0) → ℕ → Option (Option ℕ) → Type 0
IsPutHidden Hidden key o = (value : Option ℕ) → o ≡ Some value → Hidden key value

-- a value at its key that is hidden
agree_hidden : (Hidden : ℕ → Option ℕ → Type 0) (m n : Contents) (call : Call) → Agree Hidden m n
    → ((key : ℕ) → low_key call ≤ key → key ≤ high_key call → Hidden key (value_at (after m call) key))
    → Agree Hidden (after m call) n
agree_hidden Hidden m n call agree hidden key = ⊎_elim
    (λ inside. inr (hidden key inside.0 inside.1))
    (λ out. subst (λ o. (o ≡ value_at n key) ⊎ Hidden key o) (sym (left_alone m call key out)) (agree key))
    (in_or_out (low_key call) (high_key call) key)

gone_done : (Hidden : ℕ → Option ℕ → Type 0) (m n : Contents) (call : Call) → IsPutHidden Hidden (low_key call) (put_by call)
    → Agree Hidden m n → Agree Hidden (after m call) n
gone_done Hidden m n (Get key) hides agree = agree
gone_done Hidden m n (Scan low high) hides agree = agree
gone_done Hidden m n (Insert at value) hides agree =
    agree_hidden Hidden m n (Insert at value) agree (λ key low high. let is : at ≡ key = omega arith in
    subst (λ k. Hidden k (value_at (put at value m) k)) is (subst (Hidden at) (sym (put_value m at value)) (hides (Some value) refl)))
gone_done Hidden m n (Remove at) hides agree =
    agree_hidden Hidden m n (Remove at) agree (λ key low high. let is : at ≡ key = omega arith in
    subst (λ k. Hidden k (value_at (below at m ++ above at m) k)) is
    (subst (Hidden at) (sym (removed_value m at)) (hides None refl)))
gone_done Hidden m n (Replace at expected value) hides agree = by_test (is_just (value_at m at) expected) refl
  where
    by_test : (t : Bool) → is_just (value_at m at) expected ≡ t
        → Agree Hidden (if is_just (value_at m at) expected then put at value m else m) n
    by_test true found = rw found
        (agree_hidden Hidden m n (Insert at value) agree (λ key low high. let is : at ≡ key = omega arith in
        subst (λ k. Hidden k (value_at (put at value m) k)) is
        (subst (Hidden at) (sym (put_value m at value)) (hides (Some value) refl))))
    by_test false found = rw found agree

pub gone_step : (Hidden : ℕ → Option ℕ → Type 0) (m n : Contents) (call : Call) (response : Option Response) → IsRising m
    → IsLegalCall m call response
    → ((value : Option ℕ) → put_of call response ≡ Some value → Hidden (low_key call) value)
    → Agree Hidden m n → Agree Hidden (after_call m call response) n
gone_step Hidden m n call None rising legal hides agree = gone_done Hidden m n call hides agree
gone_step Hidden m n call (Some response) rising legal hides agree = by_test (says_unchanged call response.reply) refl
  where
    by_test : (t : Bool) → says_unchanged call response.reply ≡ t → Agree Hidden (after_reply m call response.reply) n
    by_test true says = subst (λ (a : Contents). Agree Hidden a n) (sym (unchanged m call response.reply rising says legal)) agree
    by_test false says = ⊎_elim
        (λ still. subst (λ (a : Contents). Agree Hidden a n) (sym still) agree)
        (λ done. subst (λ (a : Contents). Agree Hidden a n) (sym done)
        (gone_done Hidden m n call (λ value is. hides value (rw says is)) agree))
        (after_either m call (Some response))
