-- If a call leaves the map as it is, a reply that reports all says so.
use Rattle.events.specs.declared.event.Reply.TheVariants as replies
use Rattle.search_choices.proofs.Common.{◌≡◌, ℕ, Bool, true, false, not, ◌==◌, Option, Some, None, ◌++◌, refl, sym, ap, ◌∙◌, subst, inl, inr, eqb-true}
use Rattle.search_choices.proofs.Common.{if◌then◌else◌, false≢true, same_Some, Call, Get, Insert, Remove, Scan, Replace, Reply, Response, Contents}
use Rattle.search_choices.proofs.Common.{IsRising, value_at, below, above, put, is_just, value_reply, reply_to, after, after_reply, IsLegalReply}
use Rattle.search_choices.proofs.Common.{AreBelow-below, AreAbove-above, value_at_found, value_at_gap, after_call, IsLegalCall, says_unchanged}
use Rattle.search_choices.proofs.Common.{unchanged, is_told_response, ToldCallsLeaveAll}
use Rattle.std.proofs.Common.{◌||◌, eq-eqb}
use Rattle.events.specs.Told.{is_complete}

value_put : (m : Contents) (key value : ℕ) → put key value m ≡ m → value_at m key ≡ Some value
value_put m key value is =
    ap (λ n. value_at n key) (sym is) ∙ value_at_found key value (below key m) (above key m) (AreBelow-below m key) (AreAbove-above m key)

value_removed : (m : Contents) (key : ℕ) → below key m ++ above key m ≡ m → value_at m key ≡ None
value_removed m key is = ap (λ n. value_at n key) (sym is)
    ∙ value_at_gap key (below key m) (above key m) (AreBelow-below m key) (AreAbove-above m key)

replaced_says : (m : Contents) (key expected value : ℕ) (o : Option ℕ) → value_at m key ≡ o
    → (if is_just o expected then put key value m else m) ≡ m
    → says_unchanged (Replace key expected value) (value_reply o) ≡ true
replaced_says m key expected value None is same = refl
replaced_says m key expected value (Some found) is same = by_test (found == expected) refl
  where
    by_test : (t : Bool) → (found == expected) ≡ t → not (found == expected) || (expected == value) ≡ true
    by_test false e = rw e refl
    by_test true e =
        let put_same : put key value m ≡ m = rw e at same in
        let found_is : found ≡ value = same_Some found value (sym is ∙ value_put m key value put_same) in
        rw e (eq-eqb expected value (sym (eqb-true found expected e) ∙ found_is))

said_by : (m : Contents) (call : Call) (reply : Reply) → reply ≡ reply_to m call → after m call ≡ m → says_unchanged call reply ≡ true
said_by m (Get key) reply is same = subst (λ r. says_unchanged (Get key) r ≡ true) (sym is) (get (value_at m key))
  where
    get : (o : Option ℕ) → says_unchanged (Get key) (value_reply o) ≡ true
    get None = refl
    get (Some value) = refl
said_by m (Scan low high) reply is same = subst (λ r. says_unchanged (Scan low high) r ≡ true) (sym is) refl
said_by m (Insert key value) reply is same =
    subst (λ r. says_unchanged (Insert key value) r ≡ true) (sym (is ∙ ap value_reply (value_put m key value same)))
    (eq-eqb value value refl)
said_by m (Remove key) reply is same =
    subst (λ r. says_unchanged (Remove key) r ≡ true) (sym (is ∙ ap value_reply (value_removed m key same))) refl
said_by m (Replace key expected value) reply is same =
    subst (λ r. says_unchanged (Replace key expected value) r ≡ true) (sym is)
    (replaced_says m key expected value (value_at m key) refl same)

refused_says : (call : Call) → says_unchanged call replies.Refused ≡ true
refused_says (Get key) = refl
refused_says (Scan low high) = refl
refused_says (Insert key value) = refl
refused_says (Remove key) = refl
refused_says (Replace key expected value) = refl

said : (m : Contents) (call : Call) (reply : Reply) → is_complete reply ≡ true → IsLegalReply m call reply → after_reply m call reply ≡ m
    → says_unchanged call reply ≡ true
said m call replies.Refused told legal same = refused_says call
said m call replies.None told (inl is) same = cc
said m call replies.None told (inr is) same = said_by m call replies.None is same
said m call (replies.Some value) told (inl is) same = cc
said m call (replies.Some value) told (inr is) same = said_by m call (replies.Some value) is same
said m call (replies.Pairs pairs) told (inl is) same = cc
said m call (replies.Pairs pairs) told (inr is) same = said_by m call (replies.Pairs pairs) is same
said m call replies.Done told legal same = absurd (false≢true told)
said m call replies.Found told legal same = absurd (false≢true told)
said m call replies.Other told legal same = absurd (false≢true told)

-- a call whose response reports all leaves all rising pairs as they are at which its reply is legal, where it leaves some so
leaves_by : (m n : Contents) (call : Call) (response : Option Response) → is_told_response response ≡ true → IsLegalCall m call response
    → after_call m call response ≡ m → IsRising n → IsLegalCall n call response → after_call n call response ≡ n
leaves_by m n call None told legal same rising there = absurd (false≢true told)
leaves_by m n call (Some response) told legal same rising there =
    unchanged n call response.reply rising (said m call response.reply told legal same) there

pub told_leave_all : ToldCallsLeaveAll
told_leave_all m a told legal same n rising there = leaves_by m n a.call a.response told legal same rising there
