-- What a call of a cache leaves of the value at its key: at the lossy map, and as it is recorded at the map.
use Rattle.certificate.proofs.Common.{◌≡◌, ℕ, ◌<◌, ◌≤◌, nat_lt, Bool, true, false, cond, Option, Some, None, IsTrue, inl, inr, refl, sym, ap, ◌==◌}
use Rattle.certificate.proofs.Common.{◌∙◌, ⊎_elim, arith, ◌⊎◌, ⊤, ne_eqb, lt-ltb, le-ltb, cases_Bool, cases_lt, false≢true, none-some, same_Some}
use Rattle.certificate.proofs.Common.{Call, Get, Insert, Remove, Scan, Replace, Reply, is_just, is_none_or_other, value_reply, IsAllOrPartOf}
use Rattle.certificate.proofs.Common.{recorded_call, recorded_reply, CallBelow, ReplyBelow}
use Rattle.std.specs.Prelude.{not}
use Rattle.events.specs.declared.event.Reply.TheVariants as replies

-- the value after a call
abbrev pub next : Call → Option ℕ → Option ℕ
next (Get key) x = x
next (Insert key value) x = Some value
next (Remove key) x = None
next (Scan low high) x = x
next (Replace key expected value) x = cond (is_just x expected) (Some value) x

-- the value after a call with this answer
abbrev pub next_reply : Call → Reply → Option ℕ → Option ℕ
next_reply call replies.Refused x = x
next_reply call reply x = next call x

-- a call of one key may have this answer at this value
abbrev pub LegalAt : Call → Reply → Option ℕ → Type 0
LegalAt call reply x = (reply ≡ replies.Refused) ⊎ IsAllOrPartOf call (value_reply x) reply

-- a call names one key
abbrev pub IsPoint : Call → Type 0
IsPoint (Get key) = ⊤
IsPoint (Insert key value) = ⊤
IsPoint (Remove key) = ⊤
IsPoint (Scan low high) = ⊥
IsPoint (Replace key expected value) = ⊤

-- no value, or this one
abbrev pub AtMost : Option ℕ → Option ℕ → Type 0
AtMost x y = (x ≡ None) ⊎ (x ≡ y)

-- only no value is answered as none
no_value : (x : Option ℕ) → replies.None ≡ value_reply x → x ≡ None
no_value None h = refl
no_value (Some v) h = cc

-- a replace that does not find the value that it expects
not_expected : (expected : ℕ) (x : Option ℕ) → IsTrue (is_none_or_other expected (value_reply x)) → is_just x expected ≡ false
not_expected expected None h = refl
not_expected expected (Some v) h = ⊎_elim (λ same. absurd (false≢true (sym (ap not same) ∙ h))) (λ other. other) (cases_Bool (v == expected))

other_value : (expected : ℕ) (x : Option ℕ) → is_just x expected ≡ false → IsTrue (is_none_or_other expected (value_reply x))
other_value expected None h = refl
other_value expected (Some v) h = rw h refl

-- ---- from the lossy map to the map

-- what is recorded of a call is legal, and leaves at least what is left at the lossy map
pub record Goes (fresh : ℕ) (call : Call) (reply : Reply) (x y : Option ℕ) : Type 0 where
  pub legal : LegalAt (recorded_call fresh call reply) (recorded_reply call reply) y
  pub most : AtMost (next_reply call reply x) (next_reply (recorded_call fresh call reply) (recorded_reply call reply) y)

goes_same : (fresh : ℕ) (call : Call) (reply : Reply) (y : Option ℕ) → LegalAt call reply y → Goes fresh call reply y y
goes_same fresh (Get key) replies.None y legal =
    record { legal = inr tt; most = inl (⊎_elim (λ refused. cc) (no_value y) legal) }
goes_same fresh (Get key) (replies.Some value) y legal = record { legal = legal; most = inr refl }
goes_same fresh (Get key) (replies.Pairs pairs) y legal = record { legal = legal; most = inr refl }
goes_same fresh (Get key) replies.Refused y legal = record { legal = legal; most = inr refl }
goes_same fresh (Get key) replies.Done y legal = record { legal = legal; most = inr refl }
goes_same fresh (Get key) replies.Found y legal = record { legal = legal; most = inr refl }
goes_same fresh (Get key) replies.Other y legal = record { legal = legal; most = inr refl }
goes_same fresh (Insert key new) replies.None y legal = record { legal = inr tt; most = inr refl }
goes_same fresh (Insert key new) (replies.Some value) y legal = record { legal = legal; most = inr refl }
goes_same fresh (Insert key new) (replies.Pairs pairs) y legal = record { legal = legal; most = inr refl }
goes_same fresh (Insert key new) replies.Refused y legal = record { legal = legal; most = inr refl }
goes_same fresh (Insert key new) replies.Done y legal = record { legal = legal; most = inr refl }
goes_same fresh (Insert key new) replies.Found y legal = record { legal = legal; most = inr refl }
goes_same fresh (Insert key new) replies.Other y legal = record { legal = legal; most = inr refl }
goes_same fresh (Remove key) replies.None y legal = record { legal = inr tt; most = inr refl }
goes_same fresh (Remove key) (replies.Some value) y legal = record { legal = legal; most = inr refl }
goes_same fresh (Remove key) (replies.Pairs pairs) y legal = record { legal = legal; most = inr refl }
goes_same fresh (Remove key) replies.Refused y legal = record { legal = legal; most = inr refl }
goes_same fresh (Remove key) replies.Done y legal = record { legal = legal; most = inr refl }
goes_same fresh (Remove key) replies.Found y legal = record { legal = legal; most = inr refl }
goes_same fresh (Remove key) replies.Other y legal = record { legal = legal; most = inr refl }
goes_same fresh (Scan low high) reply y legal = record { legal = legal; most = inr refl }
goes_same fresh (Replace key expected new) replies.None y legal =
    let none = ⊎_elim (λ refused. cc) (no_value y) legal in record { legal = inr tt; most = inl (rw none refl) }
goes_same fresh (Replace key expected new) (replies.Some value) y legal = record { legal = legal; most = inr refl }
goes_same fresh (Replace key expected new) (replies.Pairs pairs) y legal = record { legal = legal; most = inr refl }
goes_same fresh (Replace key expected new) replies.Refused y legal = record { legal = legal; most = inr refl }
goes_same fresh (Replace key expected new) replies.Done y legal = record { legal = legal; most = inr refl }
goes_same fresh (Replace key expected new) replies.Found y legal = record { legal = legal; most = inr refl }
goes_same fresh (Replace key expected new) replies.Other y legal =
    let other = ⊎_elim (λ refused. cc) (not_expected expected y) legal in record { legal = inr tt; most = inr (rw other refl) }

goes_none : (fresh : ℕ) (call : Call) (reply : Reply) (y : Option ℕ) → IsPoint call → LegalAt call reply None → Goes fresh call reply None y
goes_none fresh (Get key) replies.None y point legal = record { legal = inr tt; most = inl refl }
goes_none fresh (Get key) (replies.Some value) y point legal = absurd (⊎_elim (λ refused. cc) (λ tells. cc) legal)
goes_none fresh (Get key) (replies.Pairs pairs) y point legal = absurd (⊎_elim (λ refused. cc) (λ tells. cc) legal)
goes_none fresh (Get key) replies.Refused y point legal = record { legal = inl refl; most = inl refl }
goes_none fresh (Get key) replies.Done y point legal = record { legal = inr tt; most = inl refl }
goes_none fresh (Get key) replies.Found y point legal = absurd (⊎_elim (λ refused. cc) (λ tells. cc) legal)
goes_none fresh (Get key) replies.Other y point legal = absurd (⊎_elim (λ refused. cc) (λ tells. cc) legal)
goes_none fresh (Insert key new) replies.None y point legal = record { legal = inr tt; most = inr refl }
goes_none fresh (Insert key new) (replies.Some value) y point legal = absurd (⊎_elim (λ refused. cc) (λ tells. cc) legal)
goes_none fresh (Insert key new) (replies.Pairs pairs) y point legal = absurd (⊎_elim (λ refused. cc) (λ tells. cc) legal)
goes_none fresh (Insert key new) replies.Refused y point legal = record { legal = inl refl; most = inl refl }
goes_none fresh (Insert key new) replies.Done y point legal = record { legal = inr tt; most = inr refl }
goes_none fresh (Insert key new) replies.Found y point legal = absurd (⊎_elim (λ refused. cc) (λ tells. cc) legal)
goes_none fresh (Insert key new) replies.Other y point legal = absurd (⊎_elim (λ refused. cc) (λ tells. cc) legal)
goes_none fresh (Remove key) replies.None y point legal = record { legal = inr tt; most = inl refl }
goes_none fresh (Remove key) (replies.Some value) y point legal = absurd (⊎_elim (λ refused. cc) (λ tells. cc) legal)
goes_none fresh (Remove key) (replies.Pairs pairs) y point legal = absurd (⊎_elim (λ refused. cc) (λ tells. cc) legal)
goes_none fresh (Remove key) replies.Refused y point legal = record { legal = inl refl; most = inl refl }
goes_none fresh (Remove key) replies.Done y point legal = record { legal = inr tt; most = inl refl }
goes_none fresh (Remove key) replies.Found y point legal = absurd (⊎_elim (λ refused. cc) (λ tells. cc) legal)
goes_none fresh (Remove key) replies.Other y point legal = absurd (⊎_elim (λ refused. cc) (λ tells. cc) legal)
goes_none fresh (Scan low high) reply y point legal = absurd point
goes_none fresh (Replace key expected new) replies.None y point legal = record { legal = inr tt; most = inl refl }
goes_none fresh (Replace key expected new) (replies.Some value) y point legal = absurd (⊎_elim (λ refused. cc) (λ tells. cc) legal)
goes_none fresh (Replace key expected new) (replies.Pairs pairs) y point legal = absurd (⊎_elim (λ refused. cc) (λ tells. cc) legal)
goes_none fresh (Replace key expected new) replies.Refused y point legal = record { legal = inl refl; most = inl refl }
goes_none fresh (Replace key expected new) replies.Done y point legal = record { legal = inr tt; most = inl refl }
goes_none fresh (Replace key expected new) replies.Found y point legal = absurd (⊎_elim (λ refused. cc) (λ tells. cc) legal)
goes_none fresh (Replace key expected new) replies.Other y point legal = record { legal = inr tt; most = inl refl }

pub goes : (fresh : ℕ) (call : Call) (reply : Reply) (x y : Option ℕ) → IsPoint call → AtMost x y → LegalAt call reply x
    → Goes fresh call reply x y
goes fresh call reply x y point (inl none) legal =
    rw none (goes_none fresh call reply y point (rw none at legal))
goes fresh call reply x y point (inr same) legal = rw same (goes_same fresh call reply y (rw same at legal))

-- ---- from the map to the lossy map

-- a value that is not fresh
abbrev pub shown : ℕ → Option ℕ → Option ℕ
shown bound None = None
shown bound (Some v) = cond (nat_lt v bound) (Some v) None

pub shown_below : (bound v : ℕ) → v < bound → shown bound (Some v) ≡ Some v
shown_below bound v h = rw (lt-ltb v bound h) refl

shown_fresh : (bound v : ℕ) → bound ≤ v → shown bound (Some v) ≡ None
shown_fresh bound v h = rw (le-ltb v bound h) refl

-- there is a value, or none in its place, at which the call may be answered as it was, and leaves what is not fresh of what is left at the map
pub record Comes (bound fresh : ℕ) (call : Call) (reply : Reply) (y : Option ℕ) : Type 0 where
  pub x : Option ℕ
  pub most : AtMost x (shown bound y)
  pub legal : LegalAt call reply x
  pub next : next_reply call reply x ≡ shown bound (next_reply (recorded_call fresh call reply) (recorded_reply call reply) y)

-- what a call that is recorded as it is leaves of a value that is not fresh is not fresh
next_shown : (bound : ℕ) (call : Call) (y : Option ℕ) → CallBelow bound call → shown bound y ≡ y → next call y ≡ shown bound (next call y)
next_shown bound (Get key) y low is = sym is
next_shown bound (Insert key value) y low is = sym (shown_below bound value low)
next_shown bound (Remove key) y low is = refl
next_shown bound (Scan from to) y low is = sym is
next_shown bound (Replace key expected value) y low is = either (is_just y expected)
  where
    either : (b : Bool) → cond b (Some value) y ≡ shown bound (cond b (Some value) y)
    either true = sym (shown_below bound value low.1)
    either false = sym is

-- if it finds a fresh value at the map and none at the lossy map, it leaves what is not fresh
next_fresh : (bound : ℕ) (call : Call) (v : ℕ) → CallBelow bound call → bound ≤ v → next call None ≡ shown bound (next call (Some v))
next_fresh bound (Get key) v low high = sym (shown_fresh bound v high)
next_fresh bound (Insert key value) v low high = sym (shown_below bound value low)
next_fresh bound (Remove key) v low high = refl
next_fresh bound (Scan from to) v low high = sym (shown_fresh bound v high)
next_fresh bound (Replace key expected value) v low high =
    rw (ne_eqb v expected (λ same. let less = low.0 in omega arith)) (sym (shown_fresh bound v high))

-- if the value is not fresh, the call leaves what is not fresh of what it leaves at the map
comes_same : (bound : ℕ) (call : Call) (reply : Reply) (y : Option ℕ) → CallBelow bound call → shown bound y ≡ y
    → next_reply call reply y ≡ shown bound (next_reply call reply y)
comes_same bound call replies.None y low is = next_shown bound call y low is
comes_same bound call (replies.Some value) y low is = next_shown bound call y low is
comes_same bound call (replies.Pairs pairs) y low is = next_shown bound call y low is
comes_same bound call replies.Refused y low is = sym is
comes_same bound call replies.Done y low is = next_shown bound call y low is
comes_same bound call replies.Found y low is = next_shown bound call y low is
comes_same bound call replies.Other y low is = next_shown bound call y low is

-- if it is fresh, the call may have its answer where there is none
hides : (bound : ℕ) (call : Call) (reply : Reply) (v : ℕ) → CallBelow bound call → ReplyBelow bound reply → bound ≤ v
    → (reply ≡ replies.Found → ⊥) → (reply ≡ replies.Other → ⊥) → LegalAt call reply (Some v)
    → LegalAt call reply None × (next_reply call reply None ≡ shown bound (next_reply call reply (Some v)))
hides bound call replies.None v low told high found other legal = absurd (⊎_elim (λ refused. cc) (λ tells. cc) legal)
hides bound call (replies.Some value) v low told high found other legal =
    absurd (⊎_elim (λ refused. cc) (λ (tells : replies.Some value ≡ replies.Some v). let same : value ≡ v = cc in omega arith) legal)
hides bound call (replies.Pairs pairs) v low told high found other legal = absurd (⊎_elim (λ refused. cc) (λ tells. cc) legal)
hides bound call replies.Refused v low told high found other legal = (inl refl, sym (shown_fresh bound v high))
hides bound call replies.Done v low told high found other legal = (inr tt, next_fresh bound call v low high)
hides bound call replies.Found v low told high found other legal = absurd (found refl)
hides bound call replies.Other v low told high found other legal = absurd (other refl)

-- A call that is recorded as it is may have its answer at the lossy map.
record ComesSame (bound : ℕ) (call : Call) (reply : Reply) (y : Option ℕ) : Type 0 where
  x : Option ℕ
  most : AtMost x (shown bound y)
  legal : LegalAt call reply x
  next : next_reply call reply x ≡ shown bound (next_reply call reply y)

comes_kept : (bound : ℕ) (call : Call) (reply : Reply) (y : Option ℕ) → CallBelow bound call → ReplyBelow bound reply
    → (reply ≡ replies.Found → shown bound y ≡ y) → (reply ≡ replies.Other → ⊥) → LegalAt call reply y → ComesSame bound call reply y
comes_kept bound call reply None low told found other legal =
    record { x = None; most = inl refl; legal = legal; next = comes_same bound call reply None low refl }
comes_kept bound call reply (Some v) low told found other legal = ⊎_elim
    (λ less. let is = shown_below bound v less in
    record { x = Some v; most = inr (sym is); legal = legal; next = comes_same bound call reply (Some v) low is })
    (λ high. let (none, next) = hides bound call reply v low told high (λ is. none-some v (sym (shown_fresh bound v high) ∙ found is)) other legal in
    record { x = None; most = inl refl; legal = none; next = next })
    (cases_lt v bound)

module _ (bound fresh : ℕ) (high : bound ≤ fresh) where
  -- a replace that found another value, or none, leaves a fresh value where it would have found the one that it expects
  comes_other : (key expected new : ℕ) (y : Option ℕ) → (t : Bool) → is_just y expected ≡ t
      → Comes bound fresh (Replace key expected new) replies.Other y
  comes_other key expected new y true e = record {
    x = None;
    most = inl refl;
    legal = inr refl;
    next = rw e (sym (shown_fresh bound fresh high));
  }
  comes_other key expected new y false e =
      let other = shown_other y e in
      record {
        x = shown bound y;
        most = inr refl;
        legal = inr (other_value expected (shown bound y) other);
        next = rw (other, e) refl;
      }
    where
      shown_other : (x : Option ℕ) → is_just x expected ≡ false → is_just (shown bound x) expected ≡ false
      shown_other None h = refl
      shown_other (Some v) h = either (nat_lt v bound)
        where
          either : (b : Bool) → is_just (cond b (Some v) None) expected ≡ false
          either true = h
          either false = refl

  pub comes : (call : Call) (reply : Reply) (y : Option ℕ) → IsPoint call → CallBelow bound call → ReplyBelow bound reply
      → (reply ≡ replies.Found → shown bound y ≡ y) → LegalAt (recorded_call fresh call reply) (recorded_reply call reply) y
      → Comes bound fresh call reply y
  comes (Get key) replies.None y point low told found legal = record { x = None; most = inl refl; legal = inr refl; next = refl }
  comes (Get key) (replies.Some value) y point low told found legal =
      let k = comes_kept bound (Get key) (replies.Some value) y low told found (λ is. cc) legal in
      record { x = k.x; most = k.most; legal = k.legal; next = k.next }
  comes (Get key) (replies.Pairs pairs) y point low told found legal =
      let k = comes_kept bound (Get key) (replies.Pairs pairs) y low told found (λ is. cc) legal in
      record { x = k.x; most = k.most; legal = k.legal; next = k.next }
  comes (Get key) replies.Refused y point low told found legal =
      let k = comes_kept bound (Get key) replies.Refused y low told found (λ is. cc) legal in
      record { x = k.x; most = k.most; legal = k.legal; next = k.next }
  comes (Get key) replies.Done y point low told found legal =
      let k = comes_kept bound (Get key) replies.Done y low told found (λ is. cc) legal in
      record { x = k.x; most = k.most; legal = k.legal; next = k.next }
  comes (Get key) replies.Found y point low told found legal =
      let k = comes_kept bound (Get key) replies.Found y low told found (λ is. cc) legal in
      record { x = k.x; most = k.most; legal = k.legal; next = k.next }
  comes (Get key) replies.Other y point low told found legal = absurd (⊎_elim (λ refused. cc) (λ tells. cc) legal)
  comes (Insert key new) replies.None y point low told found legal =
      record { x = None; most = inl refl; legal = inr refl; next = sym (shown_below bound new low) }
  comes (Insert key new) (replies.Some value) y point low told found legal =
      let k = comes_kept bound (Insert key new) (replies.Some value) y low told found (λ is. cc) legal in
      record { x = k.x; most = k.most; legal = k.legal; next = k.next }
  comes (Insert key new) (replies.Pairs pairs) y point low told found legal =
      let k = comes_kept bound (Insert key new) (replies.Pairs pairs) y low told found (λ is. cc) legal in
      record { x = k.x; most = k.most; legal = k.legal; next = k.next }
  comes (Insert key new) replies.Refused y point low told found legal =
      let k = comes_kept bound (Insert key new) replies.Refused y low told found (λ is. cc) legal in
      record { x = k.x; most = k.most; legal = k.legal; next = k.next }
  comes (Insert key new) replies.Done y point low told found legal =
      let k = comes_kept bound (Insert key new) replies.Done y low told found (λ is. cc) legal in
      record { x = k.x; most = k.most; legal = k.legal; next = k.next }
  comes (Insert key new) replies.Found y point low told found legal =
      let k = comes_kept bound (Insert key new) replies.Found y low told found (λ is. cc) legal in
      record { x = k.x; most = k.most; legal = k.legal; next = k.next }
  comes (Insert key new) replies.Other y point low told found legal = absurd (⊎_elim (λ refused. cc) (λ tells. cc) legal)
  comes (Remove key) replies.None y point low told found legal = record { x = None; most = inl refl; legal = inr refl; next = refl }
  comes (Remove key) (replies.Some value) y point low told found legal =
      let k = comes_kept bound (Remove key) (replies.Some value) y low told found (λ is. cc) legal in
      record { x = k.x; most = k.most; legal = k.legal; next = k.next }
  comes (Remove key) (replies.Pairs pairs) y point low told found legal =
      let k = comes_kept bound (Remove key) (replies.Pairs pairs) y low told found (λ is. cc) legal in
      record { x = k.x; most = k.most; legal = k.legal; next = k.next }
  comes (Remove key) replies.Refused y point low told found legal =
      let k = comes_kept bound (Remove key) replies.Refused y low told found (λ is. cc) legal in
      record { x = k.x; most = k.most; legal = k.legal; next = k.next }
  comes (Remove key) replies.Done y point low told found legal =
      let k = comes_kept bound (Remove key) replies.Done y low told found (λ is. cc) legal in
      record { x = k.x; most = k.most; legal = k.legal; next = k.next }
  comes (Remove key) replies.Found y point low told found legal =
      let k = comes_kept bound (Remove key) replies.Found y low told found (λ is. cc) legal in
      record { x = k.x; most = k.most; legal = k.legal; next = k.next }
  comes (Remove key) replies.Other y point low told found legal = absurd (⊎_elim (λ refused. cc) (λ tells. cc) legal)
  comes (Scan from to) reply y point low told found legal = absurd point
  comes (Replace key expected new) replies.None y point low told found legal =
      record { x = None; most = inl refl; legal = inr refl; next = refl }
  comes (Replace key expected new) (replies.Some value) y point low told found legal =
      let k = comes_kept bound (Replace key expected new) (replies.Some value) y low told found (λ is. cc) legal in
      record { x = k.x; most = k.most; legal = k.legal; next = k.next }
  comes (Replace key expected new) (replies.Pairs pairs) y point low told found legal =
      let k = comes_kept bound (Replace key expected new) (replies.Pairs pairs) y low told found (λ is. cc) legal in
      record { x = k.x; most = k.most; legal = k.legal; next = k.next }
  comes (Replace key expected new) replies.Refused y point low told found legal =
      let k = comes_kept bound (Replace key expected new) replies.Refused y low told found (λ is. cc) legal in
      record { x = k.x; most = k.most; legal = k.legal; next = k.next }
  comes (Replace key expected new) replies.Done y point low told found legal =
      let k = comes_kept bound (Replace key expected new) replies.Done y low told found (λ is. cc) legal in
      record { x = k.x; most = k.most; legal = k.legal; next = k.next }
  comes (Replace key expected new) replies.Found y point low told found legal =
      let k = comes_kept bound (Replace key expected new) replies.Found y low told found (λ is. cc) legal in
      record { x = k.x; most = k.most; legal = k.legal; next = k.next }
  comes (Replace key expected new) replies.Other y point low told found legal =
      comes_other key expected new y (is_just y expected) refl

-- ---- what a recorded call leaves

-- a call puts no fresh value
next_low : (bound : ℕ) (call : Call) (y : Option ℕ) (v : ℕ) → CallBelow bound call → bound ≤ v → next call y ≡ Some v → y ≡ Some v
next_low bound (Get key) y v low high h = h
next_low bound (Insert key value) y v low high h = absurd (let same = same_Some value v h in omega arith)
next_low bound (Remove key) y v low high h = cc
next_low bound (Scan from to) y v low high h = h
next_low bound (Replace key expected value) y v low high h = either (is_just y expected) h
  where
    either : (b : Bool) → cond b (Some value) y ≡ Some v → y ≡ Some v
    either true k = absurd (let same = same_Some value v k in let less = low.1 in omega arith)
    either false k = k

-- a fresh value that a recorded call leaves was there before, or the call was a replace that found another one
pub left_fresh : (bound fresh : ℕ) (call : Call) (reply : Reply) (y : Option ℕ) (v : ℕ) → CallBelow bound call → bound ≤ v
    → next_reply (recorded_call fresh call reply) (recorded_reply call reply) y ≡ Some v → (y ≡ Some v) ⊎ (reply ≡ replies.Other)
left_fresh bound fresh call replies.Other y v low high h = inr refl
left_fresh bound fresh (Get key) replies.None y v low high h = cc
left_fresh bound fresh (Insert key new) replies.None y v low high h = inl (next_low bound (Insert key new) y v low high h)
left_fresh bound fresh (Remove key) replies.None y v low high h = cc
left_fresh bound fresh (Scan from to) replies.None y v low high h = inl (next_low bound (Scan from to) y v low high h)
left_fresh bound fresh (Replace key expected new) replies.None y v low high h = cc
left_fresh bound fresh (Get key) (replies.Some value) y v low high h = inl h
left_fresh bound fresh (Insert key new) (replies.Some value) y v low high h = inl (next_low bound (Insert key new) y v low high h)
left_fresh bound fresh (Remove key) (replies.Some value) y v low high h = cc
left_fresh bound fresh (Scan from to) (replies.Some value) y v low high h = inl h
left_fresh bound fresh (Replace key expected new) (replies.Some value) y v low high h =
    inl (next_low bound (Replace key expected new) y v low high h)
left_fresh bound fresh (Get key) (replies.Pairs pairs) y v low high h = inl h
left_fresh bound fresh (Insert key new) (replies.Pairs pairs) y v low high h = inl (next_low bound (Insert key new) y v low high h)
left_fresh bound fresh (Remove key) (replies.Pairs pairs) y v low high h = cc
left_fresh bound fresh (Scan from to) (replies.Pairs pairs) y v low high h = inl h
left_fresh bound fresh (Replace key expected new) (replies.Pairs pairs) y v low high h =
    inl (next_low bound (Replace key expected new) y v low high h)
left_fresh bound fresh (Get key) replies.Refused y v low high h = inl h
left_fresh bound fresh (Insert key new) replies.Refused y v low high h = inl h
left_fresh bound fresh (Remove key) replies.Refused y v low high h = inl h
left_fresh bound fresh (Scan from to) replies.Refused y v low high h = inl h
left_fresh bound fresh (Replace key expected new) replies.Refused y v low high h = inl h
left_fresh bound fresh (Get key) replies.Done y v low high h = inl h
left_fresh bound fresh (Insert key new) replies.Done y v low high h = inl (next_low bound (Insert key new) y v low high h)
left_fresh bound fresh (Remove key) replies.Done y v low high h = cc
left_fresh bound fresh (Scan from to) replies.Done y v low high h = inl h
left_fresh bound fresh (Replace key expected new) replies.Done y v low high h =
    inl (next_low bound (Replace key expected new) y v low high h)
left_fresh bound fresh (Get key) replies.Found y v low high h = inl h
left_fresh bound fresh (Insert key new) replies.Found y v low high h = inl (next_low bound (Insert key new) y v low high h)
left_fresh bound fresh (Remove key) replies.Found y v low high h = cc
left_fresh bound fresh (Scan from to) replies.Found y v low high h = inl h
left_fresh bound fresh (Replace key expected new) replies.Found y v low high h =
    inl (next_low bound (Replace key expected new) y v low high h)
