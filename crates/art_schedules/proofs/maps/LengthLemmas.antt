-- A call adds one pair to the map at most.
use Rattle.art_schedules.proofs.Common.{◌≡◌, ℕ, suc, ◌+◌, ◌≤◌, Bool, true, false, cond, [], ◌∷◌, length, refl, arith, length-append}
use Rattle.art_schedules.proofs.Common.{Call, Get, Insert, Remove, Scan, Replace, Reply, Contents, value_at, above, put, is_just, after}
use Rattle.art_schedules.proofs.Common.{after_reply}
use Rattle.std.proofs.Common.{nat_lt, ltb-true, if◌then◌else◌}
use Rattle.events.specs.declared.event.Reply.TheVariants as replies
use Rattle.map_object.specs.MapObject.{below}

-- no pair is both below a key and above it
sides-few : (key : ℕ) (m : Contents) → length (below key m) + length (above key m) ≤ length m
sides-few key [] = omega arith
sides-few key (pair ∷ m) = go (nat_lt pair.0 key) (nat_lt key pair.0) not-both (sides-few key m)
  where
    not-both : nat_lt pair.0 key ≡ true → nat_lt key pair.0 ≡ true → ⊥
    not-both low high = omega (arith, ltb-true pair.0 key low, ltb-true key pair.0 high)

    go : (a b : Bool) → (a ≡ true → b ≡ true → ⊥) → length (below key m) + length (above key m) ≤ length m
        → length (cond a (pair ∷ below key m) (below key m)) + length (cond b (pair ∷ above key m) (above key m)) ≤ suc (length m)
    go true true apart le = absurd (apart refl refl)
    go true false apart le = omega (arith, le)
    go false true apart le = omega (arith, le)
    go false false apart le = omega (arith, le)

put-few : (key value : ℕ) (m : Contents) → length (put key value m) ≤ length m + 1
put-few key value m = omega (arith, length-append (below key m) ((key, value) ∷ above key m), sides-few key m)

pub after-few : (m : Contents) (call : Call) → length (after m call) ≤ length m + 1
after-few m (Get key) = omega arith
after-few m (Insert key value) = put-few key value m
after-few m (Remove key) = omega (arith, length-append (below key m) (above key m), sides-few key m)
after-few m (Scan low high) = omega arith
after-few m (Replace key expected value) = go (is_just (value_at m key) expected)
  where
    go : (b : Bool) → length (if b then put key value m else m) ≤ length m + 1
    go true = put-few key value m
    go false = omega arith

-- however it was answered
pub after_reply-few : (m : Contents) (call : Call) (reply : Reply) → length (after_reply m call reply) ≤ length m + 1
after_reply-few m call replies.None = after-few m call
after_reply-few m call (replies.Some value) = after-few m call
after_reply-few m call (replies.Pairs pairs) = after-few m call
after_reply-few m call replies.Refused = omega arith
after_reply-few m call replies.Done = after-few m call
after_reply-few m call replies.Found = after-few m call
after_reply-few m call replies.Other = after-few m call
