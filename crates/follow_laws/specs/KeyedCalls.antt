-- Calls as the keys see them. At each key, a call with its answer fits some values that the key may
-- hold, or that it holds none, and leaves one there. At each key of its range, a scan is a read of
-- what it reported there.
use Rattle.events.specs.declared.event.Reply.TheVariants as replies
use Rattle.std.specs.Prelude.{◌≡◌, ℕ, ◌==◌, ◌&&◌, Bool, true, false, nat_lt, nat_le, if◌then◌else◌, Option, Some, None, is_some, is_none}
use Rattle.events.specs.declared.event.Call.{Call}
use Rattle.events.specs.declared.event.Call.TheVariants.{Get, Insert, Remove, Scan, Replace}
use Rattle.events.specs.declared.event.Reply.{Reply}
use Rattle.events.specs.declared.operation.Operation.{Operation}
use Rattle.events.specs.declared.operation.Response.{Response}
use Rattle.map_object.specs.MapObject.{value_at, is_just, value_reply, misses}
use Rattle.call_effects.specs.Values.{value_after, value_after_reply}

-- what a call is at one key: which values, or none, it may have met to be answered as it was, and what it leaves
pub record Effect : Type 0 where
  pub fits : Option ℕ → Bool
  pub leaves : Option ℕ → Option ℕ

-- at a key that a call has nothing to do with
abbrev pub no_effect : Effect
no_effect = record { fits = λ value. true; leaves = λ value. value }

-- such an effect, however it is given
pub record IsNoEffect (e : Effect) : Type 0 where
  pub fits : (value : Option ℕ) → e.fits value ≡ true
  pub leaves : (value : Option ℕ) → e.leaves value ≡ value

-- a call: the places of its invocation and of its response, if it has one; whether it was refused; the keys that it concerns, whatever its
-- answer; its effect at each key
pub record KeyedCall : Type 0 where
  pub inv : ℕ
  pub res : Option ℕ
  pub refused : Bool
  pub concerns : ℕ → Bool
  pub effect : ℕ → Effect

-- it has no effect at other keys, and none at all if it was refused
pub record IsFormed (a : KeyedCall) : Type 0 where
  pub elsewhere : (key : ℕ) → a.concerns key ≡ false → IsNoEffect (a.effect key)
  pub refusal : a.refused ≡ true → (key : ℕ) → IsNoEffect (a.effect key)

-- whether two values, or none, are the same
abbrev pub is_same_value : Option ℕ → Option ℕ → Bool
is_same_value None None = true
is_same_value None (Some b) = false
is_same_value (Some a) None = false
is_same_value (Some a) (Some b) = a == b

-- whether a call of one key may be answered so if the key holds this value, or none
abbrev pub is_answer : Call → Reply → Option ℕ → Bool
is_answer call replies.None value = is_none value
is_answer call (replies.Some told) value = is_just value told
is_answer call (replies.Pairs pairs) value = false
is_answer call replies.Refused value = true
is_answer call replies.Done value = true
is_answer call replies.Found value = is_some value
is_answer call replies.Other value = misses call (value_reply value)

-- the effect of a call of one key at that key
abbrev pub point_effect : Call → Option Response → Effect
point_effect call None = record { fits = λ value. true; leaves = λ value. value_after value call }
point_effect call (Some response) =
    record { fits = is_answer call response.reply; leaves = λ value. value_after_reply value call response.reply }

-- the effect of a scan at a key: if it reported pairs, and the key is in its range, a read of what
-- they have there
abbrev pub read_of : Option ℕ → Effect
read_of told = record { fits = is_same_value told; leaves = λ value. value }

abbrev pub told_effect : ℕ → ℕ → Reply → ℕ → Effect
told_effect low high replies.None key = no_effect
told_effect low high (replies.Some value) key = no_effect
told_effect low high (replies.Pairs pairs) key = if nat_le low key && nat_le key high then read_of (value_at pairs key) else no_effect
told_effect low high replies.Refused key = no_effect
told_effect low high replies.Done key = no_effect
told_effect low high replies.Found key = no_effect
told_effect low high replies.Other key = no_effect

abbrev pub scan_effect : ℕ → ℕ → Option Response → ℕ → Effect
scan_effect low high None key = no_effect
scan_effect low high (Some response) key = told_effect low high response.reply key

-- the effect of a call of the key `own` at a key
abbrev pub effect_of_key : ℕ → Call → Option Response → ℕ → Effect
effect_of_key own call response key = if own == key then point_effect call response else no_effect

-- the effect of a call at each key
abbrev pub effect_at : Call → Option Response → ℕ → Effect
effect_at (Get own) response = effect_of_key own (Get own) response
effect_at (Insert own value) response = effect_of_key own (Insert own value) response
effect_at (Remove own) response = effect_of_key own (Remove own) response
effect_at (Scan low high) response = scan_effect low high response
effect_at (Replace own expected value) response = effect_of_key own (Replace own expected value) response

-- the keys that it concerns
abbrev pub concerns_key : Call → ℕ → Bool
concerns_key (Get own) key = own == key
concerns_key (Insert own value) key = own == key
concerns_key (Remove own) key = own == key
concerns_key (Scan low high) key = nat_le low key && nat_le key high
concerns_key (Replace own expected value) key = own == key

-- the place of a response, and whether it refuses the call
abbrev pub place_of : Option Response → Option ℕ
place_of None = None
place_of (Some response) = Some response.res

abbrev pub is_refusal : Reply → Bool
is_refusal replies.None = false
is_refusal (replies.Some value) = false
is_refusal (replies.Pairs pairs) = false
is_refusal replies.Refused = true
is_refusal replies.Done = false
is_refusal replies.Found = false
is_refusal replies.Other = false

abbrev pub is_refused : Option Response → Bool
is_refused None = false
is_refused (Some response) = is_refusal response.reply

-- a call of a history as the keys see it
abbrev pub keyed : Operation → KeyedCall
keyed a = record {
  inv = a.inv;
  res = place_of a.response;
  refused = is_refused a.response;
  concerns = concerns_key a.call;
  effect = effect_at a.call a.response;
}

-- a call with a response is completed; one precedes another if its response comes before the
-- invocation of the other
abbrev pub is_completed : KeyedCall → Bool
is_completed a = is_some a.res

abbrev pub ends_before : Option ℕ → ℕ → Bool
ends_before None place = false
ends_before (Some res) place = nat_lt res place

abbrev pub precedes : KeyedCall → KeyedCall → Bool
precedes a b = ends_before a.res b.inv
