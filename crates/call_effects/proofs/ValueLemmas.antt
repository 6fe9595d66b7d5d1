-- Pairs by the values at their keys.
use Rattle.events.specs.declared.event.Reply.TheVariants as replies
use Rattle.call_effects.proofs.Common.{◌≡◌, ℕ, ◌<◌, ◌≤◌, Bool, true, false, cond, List, [], ◌∷◌, Option, Some, None, sym, ap, ◌∙◌, inl, inr, ⊎_elim}
use Rattle.call_effects.proofs.Common.{arith, ◌⊎◌, false_from_ne_true, AllPairs-filter, Call, Get, Insert, Remove, Scan, Replace, Reply, Operation}
use Rattle.call_effects.proofs.Common.{Response, low_key, high_key, Contents, IsRising, value_at, within, put, is_just, after, after_reply}
use Rattle.call_effects.proofs.Common.{IsRising-insert, IsRising-remove, after_call, after_calls, filter_excluded, in_range, bounds, value_at-within}
use Rattle.call_effects.proofs.Common.{within_left_call}
pub use Rattle.map_object.proofs.ValueLemmas.{same_pairs}
pub use Rattle.orders.proofs.RangeLemmas.{in_range_from, within_bounds}

-- a key is outside a range
abbrev pub IsOut : ℕ → ℕ → ℕ → Type 0
IsOut low high key = (key < low) ⊎ (high < key)

-- a key is outside a range or in it
pub in_or_out : (low high key : ℕ) → ((low ≤ key) × (key ≤ high)) ⊎ IsOut low high key
in_or_out low high key = grind arith

-- ---- the pairs of a range

-- the pairs of a range rise
pub within_rises : (low high : ℕ) (m : Contents) → IsRising m → IsRising (within low high m)
within_rises low high m rising = AllPairs-filter (λ (a : ℕ × ℕ) (b : ℕ × ℕ). a.0 < b.0) (λ (pair : ℕ × ℕ). in_range low
    high pair.0) m rising

-- a value at a key is one of the pairs of that key alone
pub value_alone : (m : Contents) (key : ℕ) → value_at m key ≡ value_at (within key key m) key
value_alone m key = sym (value_at-within key key m key (omega arith) (omega arith))

-- outside its range, the pairs of a range have no values
pub value_outside : (low high : ℕ) (m : Contents) (key : ℕ) → IsOut low high key → value_at (within low high m) key ≡ None
value_outside low high m key out =
    value_alone (within low high m) key ∙ ap (λ (n : Contents). value_at n key)
    (filter_excluded (λ (pair : ℕ × ℕ). in_range key key pair.0) (λ (pair : ℕ × ℕ). in_range low high pair.0) m
    (λ pair at. let b = bounds key key pair.0 at in
    false_from_ne_true (in_range low high pair.0) (λ inside. let c = bounds low high pair.0 inside in
    ⊎_elim (λ less. omega (arith, less, b, c)) (λ more. omega (arith, more, b, c)) out)))

-- pairs that agree in a range have the same pairs there
pub same_within : (low high : ℕ) (m n : Contents) → IsRising m → IsRising n
    → ((key : ℕ) → low ≤ key → key ≤ high → value_at m key ≡ value_at n key) → within low high m ≡ within low high n
same_within low high m n m_rises n_rises same =
    same_pairs (within low high m) (within low high n) (within_rises low high m m_rises) (within_rises low high n n_rises)
    (λ key. ⊎_elim
    (λ here. value_at-within low high m key here.0 here.1 ∙ (same key here.0 here.1 ∙ sym (value_at-within low high n key here.0 here.1)))
    (λ out. value_outside low high m key out ∙ sym (value_outside low high n key out)) (in_or_out low high key))

-- ---- calls

-- a call leaves the value at a key that it does not name
pub value_left : (m : Contents) (a : Operation) (key : ℕ) → IsOut (low_key a.call) (high_key a.call) key
    → value_at (after_call m a.call a.response) key ≡ value_at m key
value_left m a key out =
    value_alone (after_call m a.call a.response) key
    ∙ (ap (λ (n : Contents). value_at n key) (within_left_call key key m a.call a.response (⊎_elim (λ less. inr (inr less))
    (λ more. inr (inl more)) out))
    ∙ sym (value_alone m key))

-- what holds of pairs, and of them after a call, holds after the call with any response
pub after_call_cases : (P : Contents → Type 0) (m : Contents) (call : Call) (response : Option Response) → P m → P (after m call)
    → P (after_call m call response)
after_call_cases P m call None h k = k
after_call_cases P m call (Some response) h k = by_reply response.reply
  where
    by_reply : (reply : Reply) → P (after_reply m call reply)
    by_reply replies.None = k
    by_reply (replies.Some value) = k
    by_reply (replies.Pairs pairs) = k
    by_reply replies.Refused = h
    by_reply replies.Done = k
    by_reply replies.Found = k
    by_reply replies.Other = k

after_rises : (m : Contents) (call : Call) → IsRising m → IsRising (after m call)
after_rises m (Get key) h = h
after_rises m (Insert key value) h = IsRising-insert m h key value
after_rises m (Remove key) h = IsRising-remove m h key
after_rises m (Scan low high) h = h
after_rises m (Replace key expected value) h = either (is_just (value_at m key) expected)
  where
    either : (b : Bool) → IsRising (cond b (put key value m) m)
    either true = IsRising-insert m h key value
    either false = h

-- pairs by rising key stay so
pub rising_kept : (m : Contents) (a : Operation) → IsRising m → IsRising (after_call m a.call a.response)
rising_kept m a h = after_call_cases IsRising m a.call a.response h (after_rises m a.call h)

pub rising_after : (calls : List Operation) (m : Contents) → IsRising m → IsRising (after_calls m calls)
rising_after [] m h = h
rising_after (a ∷ calls) m h = rising_after calls (after_call m a.call a.response) (rising_kept m a h)
