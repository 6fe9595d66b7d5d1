-- The map by key ranges: what a call does to the pairs of a range.
use Rattle.events.specs.declared.event.Reply.TheVariants as replies
use Rattle.orders.proofs.Common.{◌≡◌, ℕ, ◌<◌, ◌≤◌, Bool, true, false, ◌==◌, ◌&&◌, nat_le, nat_lt, cond, [], ◌∷◌, ◌++◌, Some, None, Option, get_or}
use Rattle.orders.proofs.Common.{refl, sym, ap, ◌∙◌, inl, inr, ⊎_elim, arith, ◌⊎◌, ◌↔◌, All, false≢true, and_parts, and_from, and_left, and_right}
use Rattle.orders.proofs.Common.{leb-true, le-leb, lt-leb, lt-ltb, le-ltb, eqb-true, cases_Bool, append-nil, filter-append, filter_passes, Call, Get}
use Rattle.orders.proofs.Common.{Insert, Remove, Scan, Replace, Contents, value_at, below, above, within, put, is_just, value_reply, reply_to, after}
use Rattle.orders.proofs.Common.{after_reply, after_call, IsLegalCall, low_key, high_key, may_change, filter_comm, filter_implied, filter_excluded}
use Rattle.orders.proofs.Common.{Reply, Response}

-- whether a key is from low to high
abbrev pub in_range : ℕ → ℕ → ℕ → Bool
in_range low high key = nat_le low key && nat_le key high

-- a key from low to high passes the test
pub in_range_from : (low high key : ℕ) → low ≤ key → key ≤ high → in_range low high key ≡ true
in_range_from low high key above below = and_from (nat_le low key) (nat_le key high) (le-leb low key above) (le-leb key high below)

-- a key that passes the test is from low to high
pub bounds : (low high key : ℕ) → in_range low high key ≡ true → (low ≤ key) × (key ≤ high)
bounds low high key h = let parts = and_parts (nat_le low key) (nat_le key high) h in (leb-true low key parts.0, leb-true key high parts.1)

-- the pairs of a range are in it
pub within_bounds : (low high : ℕ) (m : Contents) → All (λ pair. (low ≤ pair.0) × (pair.0 ≤ high)) (within low high m)
within_bounds low high m k d inside =
    bounds low high (get_or (within low high m) k d).0 (filter_passes (λ (pair : ℕ × ℕ). in_range low high pair.0) m k d inside)

-- a value that is not at its key may be left out
value_at_cond : (b : Bool) (k value : ℕ) (m : Contents) (key : ℕ) → (k == key) ≡ false
    → value_at (cond b ((k, value) ∷ m) m) key ≡ value_at m key
value_at_cond true k value m key other = rw other refl
value_at_cond false k value m key other = refl

-- a key of a range has the same value among the pairs of the range
pub value_at-within : (low high : ℕ) (m : Contents) (key : ℕ) → low ≤ key → key ≤ high → value_at (within low high m) key ≡ value_at m key
value_at-within low high [] key lo hi = refl
value_at-within low high ((k, value) ∷ m) key lo hi = ⊎_elim
    (λ same. rw (eqb-true k key same) (rw (in_range_from low high key lo hi) (rw (rw (eqb-true k key same) at same) refl)))
    (λ other. value_at_cond (in_range low high k) k value (within low high m) key other
    ∙ (value_at-within low high m key lo hi ∙ rw other refl))
    (cases_Bool (k == key))

-- an insert within a range is one among its pairs
pub within-insert : (low high : ℕ) (m : Contents) (key value : ℕ) → low ≤ key → key ≤ high
    → within low high (after m (Insert key value)) ≡ after (within low high m) (Insert key value)
within-insert low high m key value lo hi =
    let p = λ (pair : ℕ × ℕ). in_range low high pair.0 in
    filter-append p (below key m) ((key, value) ∷ above key m)
    ∙ rw (in_range_from low high key lo hi, filter_comm p (λ pair. nat_lt pair.0 key) m, filter_comm p (λ pair. nat_lt key pair.0) m) refl

-- a removal within a range is one among its pairs
pub within-remove : (low high : ℕ) (m : Contents) (key : ℕ) → low ≤ key → key ≤ high
    → within low high (after m (Remove key)) ≡ after (within low high m) (Remove key)
within-remove low high m key lo hi =
    let p = λ (pair : ℕ × ℕ). in_range low high pair.0 in
    filter-append p (below key m) (above key m)
    ∙ rw (filter_comm p (λ pair. nat_lt pair.0 key) m, filter_comm p (λ pair. nat_lt key pair.0) m) refl

-- a replacement within a range is one among its pairs
within-replace : (low high : ℕ) (m : Contents) (key expected value : ℕ) → low ≤ key → key ≤ high
    → within low high (after m (Replace key expected value)) ≡ after (within low high m) (Replace key expected value)
within-replace low high m key expected value lo hi =
    within_either (is_just (value_at m key) expected)
    ∙ rw (value_at-within low high m key lo hi) refl
  where
    within_either : (b : Bool) → within low high (cond b (put key value m) m) ≡ cond b (put key value (within low high m))
        (within low high m)
    within_either true = within-insert low high m key value lo hi
    within_either false = refl

-- a range within a range has its pairs there
pub within-within : (low high a b : ℕ) (m : Contents) → low ≤ a → b ≤ high → within a b (within low high m) ≡ within a b m
within-within low high a b m lo hi =
    filter_implied (λ pair. in_range a b pair.0) (λ pair. in_range low high pair.0) m
    (λ pair h. let at = bounds a b pair.0 h in in_range_from low high pair.0 (omega arith) (omega arith))

-- all keys of a call are from low to high
pub record IsInside (low high : ℕ) (call : Call) : Type 0 where
  pub low_inside : low ≤ low_key call
  pub high_inside : high_key call ≤ high

-- a call leaves the pairs from low to high: it changes nothing, or all its keys are below or above them
abbrev pub IsOutside : ℕ → ℕ → Call → Type 0
IsOutside low high call = (may_change call ≡ false) ⊎ ((high_key call < low) ⊎ (high < low_key call))

-- a call within a range is answered by the pairs of the range
pub reply_to-within : (low high : ℕ) (m : Contents) (call : Call) → IsInside low high call
    → reply_to (within low high m) call ≡ reply_to m call
reply_to-within low high m (Get key) h = ap value_reply (value_at-within low high m key h.low_inside h.high_inside)
reply_to-within low high m (Insert key value) h = ap value_reply (value_at-within low high m key h.low_inside h.high_inside)
reply_to-within low high m (Remove key) h = ap value_reply (value_at-within low high m key h.low_inside h.high_inside)
reply_to-within low high m (Replace key expected value) h = ap value_reply (value_at-within low high m key h.low_inside h.high_inside)
reply_to-within low high m (Scan a b) h = ap replies.Pairs (within-within low high a b m h.low_inside h.high_inside)

-- a call within a range changes the pairs of the range as it does all
pub within-after : (low high : ℕ) (m : Contents) (call : Call) → IsInside low high call
    → within low high (after m call) ≡ after (within low high m) call
within-after low high m (Get key) h = refl
within-after low high m (Insert key value) h = within-insert low high m key value h.low_inside h.high_inside
within-after low high m (Remove key) h = within-remove low high m key h.low_inside h.high_inside
within-after low high m (Scan a b) h = refl
within-after low high m (Replace key expected value) h = within-replace low high m key expected value h.low_inside h.high_inside

-- what is below a key that is below a range is not in the range
within-below_low : (low high : ℕ) (m : Contents) (key : ℕ) → key < low → within low high (below key m) ≡ []
within-below_low low high m key out =
    filter_excluded (λ pair. in_range low high pair.0) (λ pair. nat_lt pair.0 key) m
    (λ pair h. let at = bounds low high pair.0 h in le-ltb pair.0 key (omega arith))

-- what is above a key that is above a range is not in the range
within-above_high : (low high : ℕ) (m : Contents) (key : ℕ) → high < key → within low high (above key m) ≡ []
within-above_high low high m key out =
    filter_excluded (λ pair. in_range low high pair.0) (λ pair. nat_lt key pair.0) m
    (λ pair h. let at = bounds low high pair.0 h in le-ltb key pair.0 (omega arith))

-- a range lies above each key that is below it
within-above_low : (low high : ℕ) (m : Contents) (key : ℕ) → key < low → within low high (above key m) ≡ within low high m
within-above_low low high m key out =
    filter_implied (λ pair. in_range low high pair.0) (λ pair. nat_lt key pair.0) m
    (λ pair h. let at = bounds low high pair.0 h in lt-ltb key pair.0 (omega arith))

-- a range lies below each key that is above it
within-below_high : (low high : ℕ) (m : Contents) (key : ℕ) → high < key → within low high (below key m) ≡ within low high m
within-below_high low high m key out =
    filter_implied (λ pair. in_range low high pair.0) (λ pair. nat_lt pair.0 key) m
    (λ pair h. let at = bounds low high pair.0 h in lt-ltb pair.0 key (omega arith))

-- a key outside a range is not in it
in_range-outside : (low high key : ℕ) → (key < low) ⊎ (high < key) → in_range low high key ≡ false
in_range-outside low high key (inl out) = and_left (nat_le low key) (nat_le key high) (lt-leb low key out)
in_range-outside low high key (inr out) = and_right (nat_le low key) (nat_le key high) (lt-leb key high out)

-- the pairs of a range, around a key outside it
around : (low high : ℕ) (m : Contents) (key : ℕ) → (key < low) ⊎ (high < key)
    → within low high (below key m) ++ within low high (above key m) ≡ within low high m
around low high m key (inl out) = rw (within-below_low low high m key out) (within-above_low low high m key out)
around low high m key (inr out) = rw (within-above_high low high m key out) (append-nil (within low high (below key m)) ∙ within-below_high
    low high m key out)

-- an insert outside a range leaves its pairs
within-insert_outside : (low high : ℕ) (m : Contents) (key value : ℕ) → (key < low) ⊎ (high < key)
    → within low high (after m (Insert key value)) ≡ within low high m
within-insert_outside low high m key value out =
    filter-append (λ pair. in_range low high pair.0) (below key m) ((key, value) ∷ above key m)
    ∙ rw (in_range-outside low high key out) (around low high m key out)

-- a removal outside a range leaves its pairs
within-remove_outside : (low high : ℕ) (m : Contents) (key : ℕ) → (key < low) ⊎ (high < key)
    → within low high (after m (Remove key)) ≡ within low high m
within-remove_outside low high m key out = filter-append (λ pair. in_range low high pair.0) (below key m) (above key m)
    ∙ around low high m key out

-- a replacement outside a range leaves its pairs
within-replace_outside : (low high : ℕ) (m : Contents) (key expected value : ℕ) → (key < low) ⊎ (high < key)
    → within low high (after m (Replace key expected value)) ≡ within low high m
within-replace_outside low high m key expected value out = either (is_just (value_at m key) expected)
  where
    either : (b : Bool) → within low high (cond b (put key value m) m) ≡ within low high m
    either true = within-insert_outside low high m key value out
    either false = refl

-- a call outside a range leaves the pairs of the range
pub within_left : (low high : ℕ) (m : Contents) (call : Call) → IsOutside low high call → within low high (after m call) ≡ within low high m
within_left low high m (Get key) h = refl
within_left low high m (Insert key value) h = ⊎_elim (λ same. absurd (false≢true (sym same))) (λ out. within-insert_outside low high
    m key value out) h
within_left low high m (Remove key) h = ⊎_elim (λ same. absurd (false≢true (sym same))) (λ out. within-remove_outside low high m key out) h
within_left low high m (Scan a b) h = refl
within_left low high m (Replace key expected value) h =
    ⊎_elim (λ same. absurd (false≢true (sym same))) (λ out. within-replace_outside low high m key expected value out) h

-- what holds after a call and where nothing changed holds after it was answered so
after_reply_either : (P : Contents → Contents → Type 0) (m n : Contents) (call : Call) (reply : Reply) → P m n
    → P (after m call) (after n call)
    → P (after_reply m call reply) (after_reply n call reply)
after_reply_either P m n call replies.None same changed = changed
after_reply_either P m n call (replies.Some value) same changed = changed
after_reply_either P m n call (replies.Pairs pairs) same changed = changed
after_reply_either P m n call replies.Refused same changed = same
after_reply_either P m n call replies.Done same changed = changed
after_reply_either P m n call replies.Found same changed = changed
after_reply_either P m n call replies.Other same changed = changed

-- what holds after a call holds after a call of a history
after_call_either : (P : Contents → Contents → Type 0) (m n : Contents) (call : Call) (response : Option Response) → P m n
    → P (after m call) (after n call)
    → P (after_call m call response) (after_call n call response)
after_call_either P m n call None same changed = changed
after_call_either P m n call (Some r) same changed = after_reply_either P m n call r.reply same changed

-- a call of a history within a range changes the pairs of the range as it does all
pub within-after_call : (low high : ℕ) (m : Contents) (call : Call) (response : Option Response) → IsInside low high call
    → within low high (after_call m call response) ≡ after_call (within low high m) call response
within-after_call low high m call response h =
    after_call_either (λ all part. within low high all ≡ part) m (within low high m) call response refl (within-after low high m call h)

-- a call of a history outside a range leaves the pairs of the range
pub within_left_call : (low high : ℕ) (m : Contents) (call : Call) (response : Option Response) → IsOutside low high call
    → within low high (after_call m call response) ≡ within low high m
within_left_call low high m call response h =
    after_call_either (λ all same. within low high all ≡ within low high m) m m call response refl (within_left low high m call h)

-- a call within a range is legal where it is among the pairs of the range
pub IsLegalCall-within : (low high : ℕ) (m : Contents) (call : Call) (response : Option Response) → IsInside low high call
    → IsLegalCall m call response ↔ IsLegalCall (within low high m) call response
IsLegalCall-within low high m call None h = (λ legal. legal, λ legal. legal)
IsLegalCall-within low high m call (Some r) h =
    (λ legal. rw (reply_to-within low high m call h) legal, λ legal. rw (reply_to-within low high m call h) at legal)
