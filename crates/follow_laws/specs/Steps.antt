-- Steps from a past at some keys: one more call is taken there.
use Rattle.std.specs.Prelude.{◌≡◌, ◌⊎◌, ℕ, ◌==◌, ◌<◌, true, false, ◌||◌, ◌&&◌, List, Contains}
use Rattle.follow_laws.specs.KeyedCalls.{KeyedCall, precedes}
use Rattle.follow_laws.specs.Choices.{Choice, rest_of}
use Rattle.follow_laws.specs.Cuts.{Keys, IsWithin, IsOutside}
use Rattle.follow_laws.specs.Apart.{IsQuiet}
use Rattle.follow_laws.specs.Parts.{Part, IsAt, choices_of, left_at}

-- something of a call is left at these keys
abbrev pub IsLeftAt : Keys → Choice → KeyedCall → Type 0
IsLeftAt keys past a = (key : ℕ) × (keys key ≡ true) × ((rest_of past a).concerns key ≡ true)

abbrev pub NoneIsLeftAt : Keys → Choice → KeyedCall → Type 0
NoneIsLeftAt keys past a = (key : ℕ) → keys key ≡ true → (rest_of past a).concerns key ≡ false

-- At these keys a call may come next: something of it is left there, it was not refused, and it
-- fits what the keys hold. Nothing is left there of a call that precedes it.
pub record MayComeNext (keys : Keys) (past : Choice) (calls : List KeyedCall) (a : KeyedCall) : Type 0 where
  pub is_left : IsLeftAt keys past a
  pub accepted : a.refused ≡ false
  pub fits : (key : ℕ) → keys key ≡ true → ((rest_of past a).effect key).fits (past.holds key) ≡ true
  pub first : (b : KeyedCall) → Contains calls b → precedes b a ≡ true → (b.refused ≡ true) ⊎ NoneIsLeftAt keys past b

-- what becomes of a past when a call is taken at these keys: it found what they held, and leaves what it leaves
pub record IsAfterCall (keys : Keys) (past : Choice) (a : KeyedCall) (next : Choice) : Type 0 where
  pub taken : (inv key : ℕ) → keys key ≡ true → next.taken inv key ≡ (past.taken inv key || ((inv == a.inv) && a.concerns key))
  pub holds : (key : ℕ) → keys key ≡ true → next.holds key ≡ ((rest_of past a).effect key).leaves (past.holds key)
  pub found_before : (inv key : ℕ) → keys key ≡ true → past.taken inv key ≡ true → next.found inv key ≡ past.found inv key
  pub found : (key : ℕ) → keys key ≡ true → past.taken a.inv key ≡ false → a.concerns key ≡ true → next.found a.inv key ≡ past.holds key

-- for the calls that began before a place, and were not refused, it is known whether something is
-- left of them at these keys
abbrev pub AreKnownAt : Keys → ℕ → Choice → List KeyedCall → Type 0
AreKnownAt keys place past calls =
    (a : KeyedCall) → Contains calls a → a.inv < place → a.refused ≡ false → IsLeftAt keys past a ⊎ NoneIsLeftAt keys past a

-- calls that began before a place, and were not refused, are left only at these keys, or only at others
abbrev pub ArePartedBefore : Keys → ℕ → List Part → List KeyedCall → Type 0
ArePartedBefore keys place parts calls =
    (w : Choice) (b : KeyedCall) → choices_of parts w → Contains calls b → b.inv < place → b.refused ≡ false
    → IsWithin keys (rest_of w b) ⊎ IsOutside keys (rest_of w b)

-- at one of these keys, what is left of a call does not fit what the key holds
abbrev pub IsBarredAt : Keys → Choice → KeyedCall → Type 0
IsBarredAt keys past a = (key : ℕ) × (keys key ≡ true) × (((rest_of past a).effect key).fits (past.holds key) ≡ false)

-- Take the calls that began before a place, were not refused, and are left at some of a part's
-- keys. They are left at no others of the part, or are barred at some of these.
abbrev pub AreOwnOrBarred : Keys → Keys → ℕ → Choice → List KeyedCall → Type 0
AreOwnOrBarred keys some place past calls =
    (b : KeyedCall) → Contains calls b → b.inv < place → b.refused ≡ false → IsLeftAt some past b
    → IsWithin some (left_at keys past b) ⊎ IsBarredAt some past b

-- a read at these keys, as far as it is left
abbrev pub IsReadAt : Keys → Choice → KeyedCall → Type 0
IsReadAt keys past a = (key : ℕ) → keys key ≡ true → IsQuiet (rest_of past a) key

-- nothing is left at the keys of a call that may change them, but of calls that it precedes
abbrev pub IsAtRest : Keys → Choice → List KeyedCall → KeyedCall → Type 0
IsAtRest keys past calls b =
    (a : KeyedCall) (key : ℕ) → Contains calls a → keys key ≡ true → b.concerns key ≡ true
    → IsQuiet (rest_of past a) key ⊎ (precedes b a ≡ true)

-- two parts and one of the keys of both: its pasts are all pairs of theirs
pub record AreJoined (part other both : Part) : Type 0 where
  pub keys : (key : ℕ) → both.keys key ≡ (part.keys key || other.keys key)
  pub pairs : (a b : Choice) → Contains part.pasts a → Contains other.pasts b
      → (c : Choice) × Contains both.pasts c × IsAt part.keys a c × IsAt other.keys b c
  pub each : (c : Choice) → Contains both.pasts c
      → (a : Choice) × (b : Choice) × Contains part.pasts a × Contains other.pasts b × IsAt part.keys a c × IsAt other.keys b c
