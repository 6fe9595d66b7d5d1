-- A read leaves each key as it is.
use Rattle.events.specs.declared.event.Reply.TheVariants as replies
use Rattle.follow_cuts.proofs.Common.{◌≡◌, ℕ, Bool, true, false, not, ◌==◌, ◌||◌, ◌&&◌, cond, Option, Some, None, refl, sym, ap, ◌∙◌, eqb-true, eq-eqb}
use Rattle.follow_cuts.proofs.Common.{nat_le, IsSomeAnd, false≢true, not-true, Call, Get, Insert, Remove, Scan, Replace, Operation, Response, value_at}
use Rattle.follow_cuts.proofs.Common.{is_just, value_reply, is_none_or_other, says_unchanged, no_effect, is_answer, point_effect, told_effect}
use Rattle.follow_cuts.proofs.Common.{effect_at, effect_of_key, read_of, keyed}
use Rattle.events.specs.declared.event.Reply.{Reply}
use Rattle.call_effects.specs.Replies.{IsRead as IsQuietCall}
use Rattle.call_effects.specs.Values.{value_after, value_after_reply}
use Rattle.follow_laws.specs.Apart.{IsRead}

just_is : (value : Option ℕ) (told : ℕ) → is_just value told ≡ true → value ≡ Some told
just_is None told h = absurd (false≢true h)
just_is (Some found) told h = ap Some (eqb-true found told h)

none_is : (value : Option ℕ) → is_answer (Remove 0) replies.None value ≡ true → value ≡ None
none_is None h = refl
none_is (Some found) h = absurd (false≢true h)

missed : (expected : ℕ) (value : Option ℕ) → is_none_or_other expected (value_reply value) ≡ true → is_just value expected ≡ false
missed expected None h = refl
missed expected (Some found) h = not-true (found == expected) h

not_or : (a b : Bool) → not a || b ≡ true → a ≡ true → b ≡ true
not_or true b h is = h
not_or false b h is = absurd (false≢true is)

-- a replace by what it expects leaves what it finds
same_replaced : (value : Option ℕ) (expected new : ℕ) → (is_just value expected ≡ true → expected ≡ new)
    → value_after value (Replace 0 expected new) ≡ value
same_replaced value expected new same = by_test (is_just value expected) refl
  where
    by_test : (t : Bool) → is_just value expected ≡ t → cond (is_just value expected) (Some new) value ≡ value
    by_test true e = rw e (ap Some (sym (same e)) ∙ sym (just_is value expected e))
    by_test false e = rw e refl

unchanged_value : (call : Call) (reply : Reply) (value : Option ℕ) → says_unchanged call reply ≡ true → is_answer call reply value ≡ true
    → value_after_reply value call reply ≡ value
unchanged_value call replies.Refused value says fits = refl
unchanged_value (Get key) replies.None value says fits = refl
unchanged_value (Get key) (replies.Some told) value says fits = refl
unchanged_value (Get key) (replies.Pairs pairs) value says fits = refl
unchanged_value (Get key) replies.Done value says fits = refl
unchanged_value (Get key) replies.Found value says fits = refl
unchanged_value (Get key) replies.Other value says fits = refl
unchanged_value (Scan low high) replies.None value says fits = refl
unchanged_value (Scan low high) (replies.Some told) value says fits = refl
unchanged_value (Scan low high) (replies.Pairs pairs) value says fits = refl
unchanged_value (Scan low high) replies.Done value says fits = refl
unchanged_value (Scan low high) replies.Found value says fits = refl
unchanged_value (Scan low high) replies.Other value says fits = refl
unchanged_value (Insert key new) replies.None value says fits = absurd (false≢true says)
unchanged_value (Insert key new) (replies.Some told) value says fits = ap Some (sym (eqb-true told new says)) ∙ sym (just_is value told fits)
unchanged_value (Insert key new) (replies.Pairs pairs) value says fits = absurd (false≢true fits)
unchanged_value (Insert key new) replies.Done value says fits = absurd (false≢true says)
unchanged_value (Insert key new) replies.Found value says fits = absurd (false≢true says)
unchanged_value (Insert key new) replies.Other value says fits = absurd (false≢true fits)
unchanged_value (Remove key) replies.None value says fits = sym (none_is value fits)
unchanged_value (Remove key) (replies.Some told) value says fits = absurd (false≢true says)
unchanged_value (Remove key) (replies.Pairs pairs) value says fits = absurd (false≢true fits)
unchanged_value (Remove key) replies.Done value says fits = absurd (false≢true says)
unchanged_value (Remove key) replies.Found value says fits = absurd (false≢true says)
unchanged_value (Remove key) replies.Other value says fits = absurd (false≢true fits)
unchanged_value (Replace key expected new) replies.None value says fits =
    same_replaced value expected new (λ just. cc (none_is value fits, just_is value expected just))
unchanged_value (Replace key expected new) (replies.Some told) value says fits =
    same_replaced value expected new (λ just.
    let one : told ≡ expected = cc (just_is value told fits, just_is value expected just) in
    let tested : (told == expected) ≡ true = rw one (eq-eqb expected expected refl) in
    eqb-true expected new (not_or (told == expected) (expected == new) says tested))
unchanged_value (Replace key expected new) (replies.Pairs pairs) value says fits = absurd (false≢true fits)
unchanged_value (Replace key expected new) replies.Done value says fits = same_replaced value expected new (λ just. eqb-true expected new says)
unchanged_value (Replace key expected new) replies.Found value says fits = same_replaced value expected new (λ just. eqb-true expected new says)
unchanged_value (Replace key expected new) replies.Other value says fits =
    same_replaced value expected new (λ just. absurd (false≢true (sym (missed expected value fits) ∙ just)))

point_unchanged : (own : ℕ) (call : Call) (response : Response) (key : ℕ) (value : Option ℕ) → says_unchanged call response.reply ≡ true
    → (effect_of_key own call (Some response) key).fits value ≡ true → (effect_of_key own call (Some response) key).leaves value ≡ value
point_unchanged own call response key value says = by_test (own == key)
  where
    by_test : (b : Bool) → (cond b (point_effect call (Some response)) no_effect).fits value ≡ true
        → (cond b (point_effect call (Some response)) no_effect).leaves value ≡ value
    by_test true fits = unchanged_value call response.reply value says fits
    by_test false fits = refl

told_same : (low high : ℕ) (reply : Reply) (key : ℕ) (value : Option ℕ) → (told_effect low high reply key).leaves value ≡ value
told_same low high replies.None key value = refl
told_same low high (replies.Some told) key value = refl
told_same low high (replies.Pairs pairs) key value = by_test (nat_le low key && nat_le key high)
  where
    by_test : (b : Bool) → (cond b (read_of (value_at pairs key)) no_effect).leaves value ≡ value
    by_test true = refl
    by_test false = refl
told_same low high replies.Refused key value = refl
told_same low high replies.Done key value = refl
told_same low high replies.Found key value = refl
told_same low high replies.Other key value = refl

answered_read : (call : Call) (response : Response) (key : ℕ) (value : Option ℕ) → says_unchanged call response.reply ≡ true
    → (effect_at call (Some response) key).fits value ≡ true → (effect_at call (Some response) key).leaves value ≡ value
answered_read (Get own) response key value says = point_unchanged own (Get own) response key value says
answered_read (Insert own new) response key value says = point_unchanged own (Insert own new) response key value says
answered_read (Remove own) response key value says = point_unchanged own (Remove own) response key value says
answered_read (Scan low high) response key value says = λ fits. told_same low high response.reply key value
answered_read (Replace own expected new) response key value says = point_unchanged own (Replace own expected new) response key value says

read_at : (call : Call) (response : Option Response) → IsSomeAnd response (λ r. says_unchanged call r.reply ≡ true) → (key : ℕ)
    (value : Option ℕ) → (effect_at call response key).fits value ≡ true → (effect_at call response key).leaves value ≡ value
read_at call None says key value = absurd says
read_at call (Some response) says key value = answered_read call response key value says

pub quiet_read : (o : Operation) → IsQuietCall o → IsRead (keyed o)
quiet_read o quiet key value fits = read_at o.call o.response quiet key value fits
