-- Calls of a cache at pairs: at the lossy map, and at the map that is called as it is recorded.
use Rattle.certificate.proofs.Common.{◌≡◌, ℕ, ◌<◌, ◌≤◌, nat_lt, nat_le, ◌&&◌, Bool, true, false, cond, [], ◌∷◌, ◌++◌, filter, Option, Some, None, inl}
use Rattle.certificate.proofs.Common.{inr, refl, sym, ap, ◌∙◌, ⊎_elim, arith, All, ne_eqb, lt-ltb, le-ltb, cases_lt, eqb-true, le-leb, leb-true}
use Rattle.certificate.proofs.Common.{and_parts, and_from, none-some, same_Some, All-head, All-tail, AllPairs-filter, Call, Get, Insert, Remove, Scan}
use Rattle.certificate.proofs.Common.{Replace, Reply, low_key, Contents, IsRising, value_at, within, is_just, after, after_reply, left, ◌==◌, is_some}
use Rattle.certificate.proofs.Common.{below, above, put}
use Rattle.std.proofs.Common.{eq-eqb}
use Rattle.map_object.proofs.MapLemmas.{IsRising-insert, IsRising-remove}
use Rattle.map_object.proofs.ValueLemmas.{same_pairs}
use Rattle.certificate.proofs.CacheValueLemmas.{next, next_reply, IsPoint, AtMost}
use Rattle.events.specs.declared.event.Reply.TheVariants as replies

-- ---- values at keys

-- among the pairs whose keys pass a test a key that passes has its value, and another one none
value_at-filter : (p : ℕ → Bool) (m : Contents) (key : ℕ) → value_at (filter (λ pair. p pair.0) m) key ≡ cond (p key) (value_at m key) None
value_at-filter p [] key = either None (p key)
  where
    either : (x : Option ℕ) (b : Bool) → x ≡ cond b x x
    either x true = refl
    either x false = refl
value_at-filter p ((k, v) ∷ m) key = by_test (k == key) refl (value_at-filter p m key)
  where
    by_test : (t : Bool) → (k == key) ≡ t → value_at (filter (λ pair. p pair.0) m) key ≡ cond (p key) (value_at m key) None
        → value_at (cond (p k) ((k, v) ∷ filter (λ pair. p pair.0) m) (filter (λ pair. p pair.0) m)) key
        ≡ cond (p key) (cond (k == key) (Some v) (value_at m key)) None
    by_test true e rest = rw e (here (p k) refl)
      where
        same : k ≡ key
        same = eqb-true k key e

        here : (b : Bool) → p k ≡ b → value_at (cond b ((k, v) ∷ filter (λ pair. p pair.0) m) (filter (λ pair. p pair.0) m)) key
            ≡ cond (p key) (Some v) None
        here true passes = rw (e, ap p (sym same) ∙ passes) refl
        here false fails = let out : p key ≡ false = ap p (sym same) ∙ fails in rw out (rw out at rest)
    by_test false e rest = rw e (there (p k))
      where
        there : (b : Bool) → value_at (cond b ((k, v) ∷ filter (λ pair. p pair.0) m) (filter (λ pair. p pair.0) m)) key
            ≡ cond (p key) (value_at m key) None
        there true = rw e rest
        there false = rest

-- the first of two lists of pairs that has a value of a key gives it
value_at-first : (xs ys : Contents) (key v : ℕ) → value_at xs key ≡ Some v → value_at (xs ++ ys) key ≡ Some v
value_at-first [] ys key v h = absurd (none-some v h)
value_at-first ((k, w) ∷ xs) ys key v h = by_test (k == key) h (value_at-first xs ys key v)
  where
    by_test : (t : Bool) → cond t (Some w) (value_at xs key) ≡ Some v → (value_at xs key ≡ Some v → value_at (xs ++ ys) key ≡ Some v)
        → cond t (Some w) (value_at (xs ++ ys) key) ≡ Some v
    by_test true g rest = g
    by_test false g rest = rest g

value_at-second : (xs ys : Contents) (key : ℕ) → value_at xs key ≡ None → value_at (xs ++ ys) key ≡ value_at ys key
value_at-second [] ys key h = refl
value_at-second ((k, w) ∷ xs) ys key h = by_test (k == key) h (value_at-second xs ys key)
  where
    by_test : (t : Bool) → cond t (Some w) (value_at xs key) ≡ None → (value_at xs key ≡ None → value_at (xs ++ ys) key ≡ value_at ys key)
        → cond t (Some w) (value_at (xs ++ ys) key) ≡ value_at ys key
    by_test true g rest = cc
    by_test false g rest = rest g

-- the pairs below a key and above it
value_at-lower : (m : Contents) (key other : ℕ) → other < key → value_at (below key m) other ≡ value_at m other
value_at-lower m key other h = value_at-filter (λ k. nat_lt k key) m other ∙ rw (lt-ltb other key h) refl

value_at-not_lower : (m : Contents) (key other : ℕ) → key ≤ other → value_at (below key m) other ≡ None
value_at-not_lower m key other h = value_at-filter (λ k. nat_lt k key) m other ∙ rw (le-ltb other key h) refl

value_at-upper : (m : Contents) (key other : ℕ) → key < other → value_at (above key m) other ≡ value_at m other
value_at-upper m key other h = value_at-filter (λ k. nat_lt key k) m other ∙ rw (lt-ltb key other h) refl

value_at-not_upper : (m : Contents) (key other : ℕ) → other ≤ key → value_at (above key m) other ≡ None
value_at-not_upper m key other h = value_at-filter (λ k. nat_lt key k) m other ∙ rw (le-ltb key other h) refl

-- what a value is, if there is one
either_value : (x y : Option ℕ) (z : Option ℕ) → (x ≡ None → y ≡ z) → ((v : ℕ) → x ≡ Some v → y ≡ z) → y ≡ z
either_value None y z none some = none refl
either_value (Some v) y z none some = some v refl

-- without a key, and with a value put there
value_at-removed : (m : Contents) (key : ℕ) → value_at (below key m ++ above key m) key ≡ None
value_at-removed m key = value_at-second (below key m) (above key m) key (value_at-not_lower m key key (omega arith))
    ∙ value_at-not_upper m key key (omega arith)

value_at-not_removed : (m : Contents) (key other : ℕ) → (key ≡ other → ⊥) → value_at (below key m ++ above key m) other ≡ value_at m other
value_at-not_removed m key other differ = ⊎_elim
    (λ less. either_value (value_at m other) (value_at (below key m ++ above key m) other) (value_at m other)
    (λ none. value_at-second (below key m) (above key m) other (value_at-lower m key other less ∙ none)
    ∙ (value_at-not_upper m key other (omega arith) ∙ sym none))
    (λ v some. value_at-first (below key m) (above key m) other v (value_at-lower m key other less ∙ some) ∙ sym some))
    (λ more. let above_it : key < other = more_than more in
    value_at-second (below key m) (above key m) other (value_at-not_lower m key other (omega arith)) ∙ value_at-upper m key other above_it)
    (cases_lt other key)
  where
    more_than : key ≤ other → key < other
    more_than h = ⊎_elim (λ less. less) (λ le. absurd (differ (omega arith))) (cases_lt key other)

value_at-put : (m : Contents) (key value : ℕ) → value_at (put key value m) key ≡ Some value
value_at-put m key value = value_at-second (below key m) ((key, value) ∷ above key m) key (value_at-not_lower m key key (omega arith))
    ∙ rw (eq-eqb key key refl) refl

value_at-not_put : (m : Contents) (key value other : ℕ) → (key ≡ other → ⊥) → value_at (put key value m) other ≡ value_at m other
value_at-not_put m key value other differ =
    either_value (value_at (below key m) other) (value_at (put key value m) other) (value_at m other)
    (λ none. value_at-second (below key m) ((key, value) ∷ above key m) other none
    ∙ (rw (ne_eqb key other differ) (sym (value_at-second (below key m) (above key m) other none)) ∙ value_at-not_removed m key other differ))
    (λ v some. value_at-first (below key m) ((key, value) ∷ above key m) other v some
    ∙ (sym (value_at-first (below key m) (above key m) other v some) ∙ value_at-not_removed m key other differ))

-- after a call its key has what the call leaves there, and another key what it had
pub value_at-own : (m : Contents) (call : Call) → IsPoint call → value_at (after m call) (low_key call) ≡ next call (value_at m (low_key call))
value_at-own m (Get key) point = refl
value_at-own m (Insert key value) point = value_at-put m key value
value_at-own m (Remove key) point = value_at-removed m key
value_at-own m (Scan low high) point = absurd point
value_at-own m (Replace key expected value) point = either (is_just (value_at m key) expected)
  where
    either : (b : Bool) → value_at (cond b (put key value m) m) key ≡ cond b (Some value) (value_at m key)
    either true = value_at-put m key value
    either false = refl

pub value_at-other : (m : Contents) (call : Call) (other : ℕ) → (low_key call ≡ other → ⊥) → value_at (after m call) other ≡ value_at m other
value_at-other m (Get key) other differ = refl
value_at-other m (Insert key value) other differ = value_at-not_put m key value other differ
value_at-other m (Remove key) other differ = value_at-not_removed m key other differ
value_at-other m (Scan low high) other differ = refl
value_at-other m (Replace key expected value) other differ = either (is_just (value_at m key) expected)
  where
    either : (b : Bool) → value_at (cond b (put key value m) m) other ≡ value_at m other
    either true = value_at-not_put m key value other differ
    either false = refl

-- ---- the same of calls that were answered

-- what is related to all that a call leaves is related to what it leaves with a reply
after_either : (P : Contents → Option ℕ → Type 0) (m : Contents) (call : Call) (reply : Reply) (x : Option ℕ) → P m x → P (after m call) (next call x)
    → P (after_reply m call reply) (next_reply call reply x)
after_either P m call replies.None x h k = k
after_either P m call (replies.Some value) x h k = k
after_either P m call (replies.Pairs pairs) x h k = k
after_either P m call replies.Refused x h k = h
after_either P m call replies.Done x h k = k
after_either P m call replies.Found x h k = k
after_either P m call replies.Other x h k = k

pub value_at-own_reply : (m : Contents) (call : Call) (reply : Reply) → IsPoint call
    → value_at (after_reply m call reply) (low_key call) ≡ next_reply call reply (value_at m (low_key call))
value_at-own_reply m call reply point =
    after_either (λ n x. value_at n (low_key call) ≡ x) m call reply (value_at m (low_key call)) refl (value_at-own m call point)

pub value_at-other_reply : (m : Contents) (call : Call) (reply : Reply) (other : ℕ) → (low_key call ≡ other → ⊥)
    → value_at (after_reply m call reply) other ≡ value_at m other
value_at-other_reply m call reply other differ =
    after_either (λ n x. value_at n other ≡ value_at m other) m call reply None refl (value_at-other m call other differ)

pub value_at-scan_reply : (m : Contents) (low high : ℕ) (reply : Reply) (key : ℕ)
    → value_at (after_reply m (Scan low high) reply) key ≡ value_at m key
value_at-scan_reply m low high reply key =
    after_either (λ n x. value_at n key ≡ value_at m key) m (Scan low high) reply None refl refl

-- pairs stay sorted by key
after_rises : (m : Contents) (call : Call) → IsRising m → IsRising (after m call)
after_rises m (Get key) h = h
after_rises m (Insert key value) h = IsRising-insert m h key value
after_rises m (Remove key) h = IsRising-remove m h key
after_rises m (Scan low high) h = h
after_rises m (Replace key expected value) h = either (is_just (value_at m key) expected)
  where
    either : (b : Bool) → IsRising (cond b (put key value m) m)
    either true = IsRising-insert m h key value
    either false = h

pub reply_rises : (m : Contents) (call : Call) (reply : Reply) → IsRising m → IsRising (after_reply m call reply)
reply_rises m call reply h = after_either (λ n x. IsRising n) m call reply None h (after_rises m call h)

pub left_rises : (stays : ℕ → Bool) (m : Contents) → IsRising m → IsRising (left stays m)
left_rises stays m h = AllPairs-filter (λ (a : ℕ × ℕ) (b : ℕ × ℕ). a.0 < b.0) (λ (pair : ℕ × ℕ). stays pair.0) m h

-- ---- what is left

-- no other value is left
pub left_most : (stays : ℕ → Bool) (m : Contents) (key : ℕ) → AtMost (value_at (left stays m) key) (value_at m key)
left_most stays m key = rw (value_at-filter stays m key) (either (stays key))
  where
    either : (b : Bool) → AtMost (cond b (value_at m key) None) (value_at m key)
    either true = inr refl
    either false = inl refl

-- any values can be left
pub left_as : (target : ℕ → Option ℕ) (m : Contents) → ((key : ℕ) → AtMost (target key) (value_at m key)) → (key : ℕ)
    → value_at (left (λ k. is_some (target k)) m) key ≡ target key
left_as target m h key = value_at-filter (λ k. is_some (target k)) m key ∙ either (target key) (h key)
  where
    either : (x : Option ℕ) → AtMost x (value_at m key) → cond (is_some x) (value_at m key) None ≡ x
    either None most = refl
    either (Some v) (inl none) = cc
    either (Some v) (inr is) = sym is

-- ---- ranges

-- pairs by rising key that have the same values in a range have the same pairs there
pub same_within : (low high : ℕ) (m n : Contents) → IsRising m → IsRising n
    → ((key : ℕ) → low ≤ key → key ≤ high → value_at m key ≡ value_at n key) → within low high m ≡ within low high n
same_within low high m n m_rises n_rises same =
    let p = λ (k : ℕ). nat_le low k && nat_le k high in
    same_pairs (within low high m) (within low high n) (left_rises p m m_rises) (left_rises p n n_rises)
    (λ key. value_at-filter p m key ∙ (at_key (p key) key refl ∙ sym (value_at-filter p n key)))
  where
    at_key : (b : Bool) (key : ℕ) → (nat_le low key && nat_le key high) ≡ b → cond b (value_at m key) None ≡ cond b (value_at n key) None
    at_key true key e =
        let parts = and_parts (nat_le low key) (nat_le key high) e in
        same key (leb-true low key parts.0) (leb-true key high parts.1)
    at_key false key e = refl

-- a key of a range has its value among the pairs there
pub value_at-within : (low high : ℕ) (m : Contents) (key : ℕ) → low ≤ key → key ≤ high → value_at (within low high m) key ≡ value_at m key
value_at-within low high m key from to =
    value_at-filter (λ k. nat_le low k && nat_le k high) m key
    ∙ rw (and_from (nat_le low key) (nat_le key high) (le-leb low key from) (le-leb key high to)) refl

-- each value of pairs below a bound is below it
pub value_below : (bound : ℕ) (m : Contents) (key v : ℕ) → All (λ pair. pair.1 < bound) m → value_at m key ≡ Some v → v < bound
value_below bound [] key v h is = absurd (none-some v is)
value_below bound ((k, w) ∷ m) key v h is = by_test (k == key) is (value_below bound m key v (All-tail (λ (pair : ℕ × ℕ). pair.1 < bound) (k, w) m h))
  where
    by_test : (t : Bool) → cond t (Some w) (value_at m key) ≡ Some v → (value_at m key ≡ Some v → v < bound) → v < bound
    by_test true g rest =
        let low : w < bound = All-head (λ (pair : ℕ × ℕ). pair.1 < bound) (k, w) m h in
        let same : w ≡ v = same_Some w v g in omega arith
    by_test false g rest = rest g
