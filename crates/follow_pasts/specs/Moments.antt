-- From which moment on pending reads of keys began.
use Rattle.std.specs.Prelude.{◌≡◌, ◌≢◌, ℕ, ◌≤◌, ◌<◌, Bool, true, false, List, ◌++◌, ◌∷◌, Option, None, IfSome, MatchOption, All, Contains}
use Rattle.follow_pasts.specs.Ranges.{covered}
use Rattle.follow_pasts.specs.declared.ranges.Range.{Range}
use Rattle.follow_pasts.specs.declared.moments.OpenRead.{OpenRead}

-- pending reads of these keys began no earlier than a moment; or there are none
abbrev pub AreBegunAfter : List Range → List OpenRead → ℕ → Type 0
AreBegunAfter ranges reads moment =
    (read : OpenRead) → Contains reads read → read.inv < moment → (key : ℕ) → read.low ≤ key → key ≤ read.high → covered ranges key ≡ false

abbrev pub HaveNoRead : List Range → List OpenRead → Type 0
HaveNoRead ranges reads =
    (read : OpenRead) → Contains reads read → (key : ℕ) → read.low ≤ key → key ≤ read.high → covered ranges key ≡ false

-- a moment that is no later than another, if there is one, and than pending reads of these keys began; or there are none
abbrev pub IsEarlier : List Range → List OpenRead → Option ℕ → Option ℕ → Type 0
IsEarlier ranges reads first next =
    MatchOption next ((first ≡ None) × HaveNoRead ranges reads)
    (λ moment. AreBegunAfter ranges reads moment × IfSome first (λ was. moment ≤ was))

-- the pending read of an invocation was taken out, or there is none
abbrev pub HasEnded : ℕ → List OpenRead → List OpenRead → Bool → Type 0
HasEnded inv old new true =
    (front : List OpenRead) × (read : OpenRead) × (back : List OpenRead) × (old ≡ front ++ read ∷ back) × (read.inv ≡ inv)
    × (new ≡ front ++ back)
HasEnded inv old new false = (new ≡ old) × All (λ read. read.inv ≢ inv) old

-- a pending read of the invocation of this one was taken out, or this one is not pending
abbrev pub IsEnded : OpenRead → List OpenRead → List OpenRead → Bool → Type 0
IsEnded read old new true = HasEnded read.inv old new true
IsEnded read old new false = (new ≡ old) × All (λ other. other ≢ read) old
