-- If its reply says so, a call leaves the pairs as they are.
use Rattle.events.specs.declared.event.Reply.TheVariants as replies
use Rattle.call_effects.proofs.Common.{◌≡◌, ℕ, Bool, true, false, not, ◌==◌, ◌||◌, Option, Some, None, ◌++◌, refl, sym, ap, ◌∙◌, subst, inl, inr}
use Rattle.call_effects.proofs.Common.{⊎_elim, arith, if◌then◌else◌, is_some, IsSomeAnd, false≢true, not-true, or_right, cases_order, Call, Get, Insert}
use Rattle.call_effects.proofs.Common.{Remove, Scan, Replace, Reply, Response, low_key, high_key, Contents, IsRising, value_at, below, above, put}
use Rattle.call_effects.proofs.Common.{is_just, value_reply, reply_to, after, after_reply, is_none_or_other, misses, IsLegalReply, AreBelow-below}
use Rattle.call_effects.proofs.Common.{AreAbove-above, value_at_found, value_at_gap, IsRising-insert, IsRising-remove, after_call, IsLegalCall}
use Rattle.call_effects.proofs.Common.{begun_at}
use Rattle.std.proofs.Common.{eqb-true}
use Rattle.call_effects.specs.Replies.{says_unchanged}
use Rattle.call_effects.proofs.ValueLemmas.{same_pairs, value_left}

-- pairs that a call of one key leaves the value at that key of, it leaves as they are
same_after : (m : Contents) (key : ℕ) (call : Call) → low_key call ≡ key → high_key call ≡ key → IsRising m → IsRising (after m call)
    → value_at (after m call) key ≡ value_at m key → after m call ≡ m
same_after m key call low high rising rises same = same_pairs (after m call) m rises rising (λ other. ⊎_elim
    (λ here. subst (λ (k : ℕ). value_at (after m call) k ≡ value_at m k) here same)
    (λ apart. value_left m (begun_at 0 call) other (⊎_elim (λ less. inr (omega (arith, high, less))) (λ more. inl (omega (arith, low, more))) apart))
    (cases_order key other))

-- a value that is there is put again
put_again : (m : Contents) (key value : ℕ) → IsRising m → value_at m key ≡ Some value → put key value m ≡ m
put_again m key value rising is = same_after m key (Insert key value) refl refl rising (IsRising-insert m rising key value)
    (value_at_found key value (below key m) (above key m) (AreBelow-below m key) (AreAbove-above m key) ∙ sym is)

-- a key that is not there is removed
remove_again : (m : Contents) (key : ℕ) → IsRising m → value_at m key ≡ None → below key m ++ above key m ≡ m
remove_again m key rising is = same_after m key (Remove key) refl refl rising (IsRising-remove m rising key)
    (value_at_gap key (below key m) (above key m) (AreBelow-below m key) (AreAbove-above m key) ∙ sym is)

insert_again : (m : Contents) (key value : ℕ) (o : Option ℕ) → IsRising m → value_at m key ≡ o
    → says_unchanged (Insert key value) (value_reply o) ≡ true → put key value m ≡ m
insert_again m key value None rising is says = absurd (false≢true says)
insert_again m key value (Some found) rising is says = put_again m key value rising (is ∙ ap Some (eqb-true found value says))

nothing_again : (m : Contents) (key : ℕ) (o : Option ℕ) → IsRising m → value_at m key ≡ o
    → says_unchanged (Remove key) (value_reply o) ≡ true → below key m ++ above key m ≡ m
nothing_again m key None rising is says = remove_again m key rising is
nothing_again m key (Some found) rising is says = absurd (false≢true says)

not_or : (a b : Bool) → not a || b ≡ true → a ≡ true → b ≡ true
not_or true b h is = h
not_or false b h is = absurd (false≢true is)

-- a replace that put what it found, or did not find what it expected, changes nothing
replace_again : (m : Contents) (key expected value : ℕ) (o : Option ℕ) → IsRising m → value_at m key ≡ o
    → says_unchanged (Replace key expected value) (value_reply o) ≡ true → (if is_just o expected then put key value m else m) ≡ m
replace_again m key expected value None rising is says = refl
replace_again m key expected value (Some found) rising is says = by_test (found == expected) refl
  where
    by_test : (t : Bool) → (found == expected) ≡ t → (if found == expected then put key value m else m) ≡ m
    by_test false e = rw e refl
    by_test true e =
        let expected_is : expected ≡ value = eqb-true expected value (not_or (found == expected) (expected == value) says e) in
        rw e (put_again m key value rising (is ∙ ap Some (eqb-true found expected e ∙ expected_is)))

-- if the reply says so, a call changes nothing
unchanged_by : (m : Contents) (call : Call) (reply : Reply) → IsRising m → says_unchanged call reply ≡ true → reply ≡ reply_to m call
    → after m call ≡ m
unchanged_by m (Get key) reply rising says is = refl
unchanged_by m (Scan low high) reply rising says is = refl
unchanged_by m (Insert key value) reply rising says is =
    insert_again m key value (value_at m key) rising refl (subst (λ r. says_unchanged (Insert key value) r ≡ true) is says)
unchanged_by m (Remove key) reply rising says is =
    nothing_again m key (value_at m key) rising refl (subst (λ r. says_unchanged (Remove key) r ≡ true) is says)
unchanged_by m (Replace key expected value) reply rising says is =
    replace_again m key expected value (value_at m key) rising refl
    (subst (λ r. says_unchanged (Replace key expected value) r ≡ true) is says)

-- a replace by the value that it expects changes nothing, whatever it found
same_says : (expected value : ℕ) (key : ℕ) (o : Option ℕ) → (expected == value) ≡ true
    → says_unchanged (Replace key expected value) (value_reply o) ≡ true
same_says expected value key None same = refl
same_says expected value key (Some found) same = or_right (not (found == expected)) (expected == value) same

same_again : (m : Contents) (key expected value : ℕ) → IsRising m → (expected == value) ≡ true
    → after m (Replace key expected value) ≡ m
same_again m key expected value rising same =
    replace_again m key expected value (value_at m key) rising refl (same_says expected value key (value_at m key) same)

-- a replace that found another value changes nothing
missed : (expected : ℕ) (o : Option ℕ) → is_none_or_other expected (value_reply o) ≡ true → is_just o expected ≡ false
missed expected None h = refl
missed expected (Some found) h = not-true (found == expected) h

-- a call changes nothing, too, if its answer is partial and says so
unchanged_done : (m : Contents) (call : Call) → IsRising m → says_unchanged call replies.Done ≡ true → after m call ≡ m
unchanged_done m (Get key) rising says = refl
unchanged_done m (Scan low high) rising says = refl
unchanged_done m (Insert key value) rising says = absurd (false≢true says)
unchanged_done m (Remove key) rising says = absurd (false≢true says)
unchanged_done m (Replace key expected value) rising says = same_again m key expected value rising says

unchanged_found : (m : Contents) (call : Call) → IsRising m → says_unchanged call replies.Found ≡ true → after m call ≡ m
unchanged_found m (Get key) rising says = refl
unchanged_found m (Scan low high) rising says = refl
unchanged_found m (Insert key value) rising says = absurd (false≢true says)
unchanged_found m (Remove key) rising says = absurd (false≢true says)
unchanged_found m (Replace key expected value) rising says = same_again m key expected value rising says

unchanged_other : (m : Contents) (call : Call) → misses call (reply_to m call) ≡ true → after m call ≡ m
unchanged_other m (Get key) other = refl
unchanged_other m (Scan low high) other = refl
unchanged_other m (Insert key value) other = absurd (false≢true other)
unchanged_other m (Remove key) other = absurd (false≢true other)
unchanged_other m (Replace key expected value) other = rw (missed expected (value_at m key) other) refl

pub unchanged : (m : Contents) (call : Call) (reply : Reply) → IsRising m → says_unchanged call reply ≡ true → IsLegalReply m call reply
    → after_reply m call reply ≡ m
unchanged m call replies.Refused rising says legal = refl
unchanged m call replies.None rising says (inl is) = cc
unchanged m call replies.None rising says (inr is) = unchanged_by m call replies.None rising says is
unchanged m call (replies.Some value) rising says (inl is) = cc
unchanged m call (replies.Some value) rising says (inr is) = unchanged_by m call (replies.Some value) rising says is
unchanged m call (replies.Pairs pairs) rising says (inl is) = cc
unchanged m call (replies.Pairs pairs) rising says (inr is) = unchanged_by m call (replies.Pairs pairs) rising says is
unchanged m call replies.Done rising says legal = unchanged_done m call rising says
unchanged m call replies.Found rising says legal = unchanged_found m call rising says
unchanged m call replies.Other rising says (inl is) = cc
unchanged m call replies.Other rising says (inr is) = unchanged_other m call is

-- a call that says so has ended
pub read_completed : (call : Call) (response : Option Response) → IsSomeAnd response (λ r. says_unchanged call r.reply ≡ true)
    → is_some response ≡ true
read_completed call None says = absurd says
read_completed call (Some r) says = refl

-- a call that says so leaves the pairs as they are
pub read_leaves : (m : Contents) (call : Call) (response : Option Response) → IsSomeAnd response (λ r. says_unchanged call r.reply ≡ true)
    → IsRising m → IsLegalCall m call response → after_call m call response ≡ m
read_leaves m call None says rising legal = absurd says
read_leaves m call (Some r) says rising legal = unchanged m call r.reply rising says legal
