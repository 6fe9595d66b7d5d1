-- What replies report of the answer that the map gives: complete ones report all of it.
use Rattle.events.specs.declared.event.Reply.TheVariants as replies
use Rattle.std.proofs.Common.{◌≡◌, ◌≢◌, ℕ, true, Option, Some, None, refl, sym, subst}
use Rattle.events.specs.declared.event.Call.{Call}
use Rattle.events.specs.declared.event.Call.TheVariants.{Get, Insert, Remove, Scan, Replace}
use Rattle.events.specs.declared.event.Reply.{Reply}
use Rattle.events.specs.Told.{is_complete}
use Rattle.map_object.specs.MapObject.{Contents, value_at, value_reply, reply_to, after, after_reply, IsAllOrPartOf, IsLegalReply}

-- a value or none is no refusal
pub value_answers : (value : Option ℕ) → value_reply value ≢ replies.Refused
value_answers None e = cc
value_answers (Some value) e = cc

-- what the map gives is never `refused`
pub reply_to_answers : (m : Contents) (call : Call) → reply_to m call ≢ replies.Refused
reply_to_answers m (Get key) e = value_answers (value_at m key) e
reply_to_answers m (Insert key value) e = value_answers (value_at m key) e
reply_to_answers m (Remove key) e = value_answers (value_at m key) e
reply_to_answers m (Scan low high) e = cc
reply_to_answers m (Replace key expected value) e = value_answers (value_at m key) e

-- a value, or none, is a complete reply
value_told : (value : Option ℕ) → is_complete (value_reply value) ≡ true
value_told None = refl
value_told (Some value) = refl

pub reply_to_told : (m : Contents) (call : Call) → is_complete (reply_to m call) ≡ true
reply_to_told m (Get key) = value_told (value_at m key)
reply_to_told m (Insert key value) = value_told (value_at m key)
reply_to_told m (Remove key) = value_told (value_at m key)
reply_to_told m (Scan low high) = refl
reply_to_told m (Replace key expected value) = value_told (value_at m key)

-- a complete reply reports of the whole answer if it is that answer, and only then
tells_by : (call : Call) (whole : Reply) → is_complete whole ≡ true → IsAllOrPartOf call whole whole
tells_by call replies.None told = refl
tells_by call (replies.Some value) told = refl
tells_by call (replies.Pairs pairs) told = refl
tells_by call replies.Refused told = refl
tells_by call replies.Done told = tt
tells_by call replies.Found told = cc
tells_by call replies.Other told = cc

pub tells_all : (m : Contents) (call : Call) (reply : Reply) → reply ≡ reply_to m call → IsAllOrPartOf call (reply_to m call) reply
tells_all m call reply is = subst (λ (r : Reply). IsAllOrPartOf call (reply_to m call) r) (sym is) (tells_by call (reply_to m call) (reply_to_told m call))

pub whole_from_tells : (call : Call) (whole reply : Reply) → is_complete reply ≡ true → IsAllOrPartOf call whole reply → reply ≡ whole
whole_from_tells call whole replies.None told tells = tells
whole_from_tells call whole (replies.Some value) told tells = tells
whole_from_tells call whole (replies.Pairs pairs) told tells = tells
whole_from_tells call whole replies.Refused told tells = tells
whole_from_tells call whole replies.Done told tells = cc
whole_from_tells call whole replies.Found told tells = cc
whole_from_tells call whole replies.Other told tells = cc

-- a reply that reports of what the map gives is no refusal
pub tells_answers : (m : Contents) (call : Call) (reply : Reply) → IsAllOrPartOf call (reply_to m call) reply → reply ≢ replies.Refused
tells_answers m call replies.None tells e = cc
tells_answers m call (replies.Some value) tells e = cc
tells_answers m call (replies.Pairs pairs) tells e = cc
tells_answers m call replies.Refused tells e = reply_to_answers m call (sym tells)
tells_answers m call replies.Done tells e = cc
tells_answers m call replies.Found tells e = cc
tells_answers m call replies.Other tells e = cc

-- a call that is not refused is done
pub after_reply-answer : (m : Contents) (call : Call) (reply : Reply) → reply ≢ replies.Refused → after_reply m call reply ≡ after m call
after_reply-answer m call replies.None answered = refl
after_reply-answer m call (replies.Some value) answered = refl
after_reply-answer m call (replies.Pairs pairs) answered = refl
after_reply-answer m call replies.Refused answered = absurd (answered refl)
after_reply-answer m call replies.Done answered = refl
after_reply-answer m call replies.Found answered = refl
after_reply-answer m call replies.Other answered = refl
