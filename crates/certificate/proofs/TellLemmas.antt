-- What partial answers report, by the value at the key.
use Rattle.certificate.proofs.Common.{◌≡◌, ℕ, not, Option, Some, None, IsTrue, inr, refl, ⊎_elim, Call, Get, Insert, Remove, Scan, Replace, Contents}
use Rattle.certificate.proofs.Common.{value_at, is_just, value_reply, reply_to, is_none_or_other, after_reply-answer, ◌↔◌, is_some, is_value, misses}
use Rattle.certificate.proofs.Common.{AnswersDoCalls, PartialAnswers}
use Rattle.certificate.specs.Finds.{FindsValue, MissesValue}

pub answers_do : AnswersDoCalls
answers_do m call reply legal answered = after_reply-answer m call reply answered

-- a value or none, as a reply
is_value-reply : (value : Option ℕ) → is_value (value_reply value) ≡ is_some value
is_value-reply None = refl
is_value-reply (Some value) = refl

is_other-reply : (expected : ℕ) (value : Option ℕ) → is_none_or_other expected (value_reply value) ≡ not (is_just value expected)
is_other-reply expected None = refl
is_other-reply expected (Some value) = refl

-- at each call
finds : (m : Contents) (call : Call) → IsTrue (is_value (reply_to m call)) ↔ FindsValue m call
finds m (Get key) = rw (is_value-reply (value_at m key)) (λ h. h, λ h. h)
finds m (Insert key value) = rw (is_value-reply (value_at m key)) (λ h. h, λ h. h)
finds m (Remove key) = rw (is_value-reply (value_at m key)) (λ h. h, λ h. h)
finds m (Scan low high) = (λ h. cc, λ h. absurd h)
finds m (Replace key expected value) = rw (is_value-reply (value_at m key)) (λ h. h, λ h. h)

misses_value : (m : Contents) (call : Call) → IsTrue (misses call (reply_to m call)) ↔ MissesValue m call
misses_value m (Get key) = (λ h. cc, λ h. absurd h)
misses_value m (Insert key value) = (λ h. cc, λ h. absurd h)
misses_value m (Remove key) = (λ h. cc, λ h. absurd h)
misses_value m (Scan low high) = (λ h. cc, λ h. absurd h)
misses_value m (Replace key expected value) = rw (is_other-reply expected (value_at m key)) (λ h. h, λ h. h)

pub tell_by_value : PartialAnswers
tell_by_value m call = record {
  done = inr tt;
  found = (λ legal. ⊎_elim (λ refused. cc) (finds m call).0 legal, λ found. inr ((finds m call).1 found));
  other = (λ legal. ⊎_elim (λ refused. cc) (misses_value m call).0 legal, λ missed. inr ((misses_value m call).1 missed));
}
