-- How far walks from pasts have come, as pasts that are kept.
use Rattle.std.specs.Prelude.{◌≡◌, ◌⊎◌, ◌↔◌, ℕ, ◌<◌, ◌≤◌, Bool, true, false, List, [], ◌∷◌, ◌++◌, length, map, Option, Some, None, slice_get, slice_index_or, slice_set, All, Contains, IfSome, IsSomeAnd, ⊤}
use Rattle.events.specs.declared.operation.Operation.{Operation}
use Rattle.map_object.specs.MapObject.{Contents, value_at}
use Rattle.events.specs.Precedence.{is_before}
use Rattle.orders.specs.Orders.{IsLegalCall, after_call}
use Rattle.call_effects.specs.Replies.{IsRead}
use Rattle.follow_laws.specs.KeyedCalls.{concerns_key, effect_at, place_of}
use Rattle.follow_laws.specs.Pasts.{KeptPast, IsPastAfter, found_by}
use Rattle.follow_laws.specs.Leads.{IsMadeOf}
use Rattle.follow_cuts.specs.PartCuts.{found_at, kept_of, AreShaped, Becomes, AreEnough, IsCutAt}
use Rattle.follow_cuts.specs.declared.cut.Cut.{Cut}
use Rattle.follow_cuts.specs.declared.cut.Cut.TheVariants.{Pasts, Spent}
use Rattle.follow_cuts.specs.declared.past.Found.{Found}
use Rattle.follow_cuts.specs.declared.past.Past.{Past}
use Rattle.follow_cuts.specs.declared.position.Position.{Position}
use Rattle.follow_cuts.specs.declared.branching.Branching.{Branching}

-- the calls that are not marked
abbrev pub left_of : List Operation → List Bool → List Operation
left_of [] taken = []
left_of (o ∷ calls) [] = o ∷ calls
left_of (o ∷ calls) (true ∷ taken) = left_of calls taken
left_of (o ∷ calls) (false ∷ taken) = o ∷ left_of calls taken

-- a call that is not marked, by its place
pub record IsLeftAt (calls : List Operation) (taken : List Bool) (n : ℕ) (o : Operation) : Type 0 where
  pub here : slice_get calls n ≡ Some o
  pub free : slice_index_or taken n false ≡ false

-- the calls from one place to before a later one are taken
pub record AreTaken (taken : List Bool) (from to : ℕ) : Type 0 where
  pub later : from < to
  pub within : to ≤ length taken
  pub each : (n : ℕ) → from ≤ n → n < to → slice_index_or taken n false ≡ true

-- what is kept of a past at a position of a walk from some calls
abbrev pub kept_at : List Operation → Position → KeptPast
kept_at calls position =
    record { pairs = position.map; left = left_of calls position.taken.items; found = map found_at position.found.items }

abbrev pub calls_of : Option Past → List Operation
calls_of None = []
calls_of (Some past) = past.calls.items

-- what is kept of one of the pasts at a position of a walk
abbrev pub kept_in : List Past → Position → KeptPast
kept_in pasts position = kept_at (calls_of (slice_get pasts position.base)) position

-- a walk from a past: its position is made of this past
pub record IsWalkFrom (past : Past) (position : Position) : Type 0 where
  pub marks : length position.taken.items ≡ length past.calls.items
  pub made_of : IsMadeOf (kept_of past) (kept_at past.calls.items position)

-- a walk from one of the pasts
abbrev pub IsFrom : List Past → Position → Type 0
IsFrom pasts position = IsSomeAnd (slice_get pasts position.base) (λ past. IsWalkFrom past position)

-- at a past, before any call
pub record IsAtStart (n : ℕ) (past : Past) (position : Position) : Type 0 where
  pub base : position.base ≡ n
  pub pairs : position.map ≡ past.map
  pub marks : length position.taken.items ≡ length past.calls.items
  pub none : All (λ mark. mark ≡ false) position.taken.items
  pub found : position.found.items ≡ past.found.items

-- a copy of a position
pub record IsCopy (position copy : Position) : Type 0 where
  pub base : copy.base ≡ position.base
  pub pairs : copy.map ≡ position.map
  pub taken : copy.taken.items ≡ position.taken.items
  pub found : copy.found.items ≡ position.found.items

-- after the call at a place
pub record IsAfterTaking (place : ℕ) (o : Operation) (old new : Position) : Type 0 where
  pub base : new.base ≡ old.base
  pub pairs : new.map ≡ after_call old.map o.call o.response
  pub taken : new.taken.items ≡ slice_set old.taken.items place true
  pub found : map found_at new.found.items ≡ map found_at old.found.items ++ found_by old.map o o.response

-- walks from one past that took the same calls, came to the same map, and found the same
pub record ArePositionsAlike (one other : Position) : Type 0 where
  pub base : one.base ≡ other.base
  pub taken : one.taken.items ≡ other.taken.items
  pub pairs : one.map ≡ other.map
  pub found : (f : Found) → Contains one.found.items f ↔ Contains other.found.items f

-- a position more, unless one that is alike was there
abbrev pub IsAdded : List Position → Position → List Position → Type 0
IsAdded old position new =
    (new ≡ old ++ position ∷ []) ⊎ ((new ≡ old) × ((other : Position) × Contains old other × ArePositionsAlike other position))

-- a call that is left, and was answered there, is the first that ended
pub record EndsFirst (answered : ℕ) (left : List Operation) (ended : Operation) : Type 0 where
  pub is_left : Contains left ended
  pub answer : place_of ended.response ≡ Some answered
  pub first : (o : Operation) → Contains left o → is_before o.response answered ≡ false

-- the call at this place ended first among those that are left
pub record IsFirstEnded (calls : List Operation) (taken : List Bool) (place answered : ℕ) : Type 0 where
  pub call : Operation
  pub is_left : IsLeftAt calls taken place call
  pub answer : place_of call.response ≡ Some answered
  pub first : (n : ℕ) (o : Operation) → IsLeftAt calls taken n o → is_before o.response answered ≡ false

-- the first call that ended, and when, among those of the past that a walk began at
abbrev pub IsFirstEndedIn : List Past → Position → ℕ → ℕ → Type 0
IsFirstEndedIn pasts position place answered =
    IsFirstEnded (calls_of (slice_get pasts position.base)) position.taken.items place answered

-- a call has some of these keys, or no others
abbrev pub HasSomeOf : List ℕ → Operation → Type 0
HasSomeOf keys o = (key : ℕ) × Contains keys key × (concerns_key o.call key ≡ true)

abbrev pub HasNoOthers : List ℕ → Operation → Type 0
HasNoOthers keys o = (key : ℕ) → concerns_key o.call key ≡ true → Contains keys key

-- a call concerns a key, and does not fit what the map holds there
abbrev pub Misses : Contents → Operation → ℕ → Type 0
Misses pairs o key = (concerns_key o.call key ≡ true) × ((effect_at o.call o.response key).fits (value_at pairs key) ≡ false)

-- a call misses some of these keys
abbrev pub MissesSomeOf : List ℕ → Contents → Operation → Type 0
MissesSomeOf keys pairs o = (key : ℕ) × Contains keys key × Misses pairs o key

-- these keys are not tied to others by a call: it has none of them, or no others, or it misses some of them
abbrev pub DoesNotTie : List ℕ → Contents → Operation → Type 0
DoesNotTie keys pairs o = HasSomeOf keys o → HasNoOthers keys o ⊎ MissesSomeOf keys pairs o

-- keys at which a walk branches: the call that ended first has one of them, and no call that is left, and began before that answer, ties them to
-- others
pub record AreBranchKeys (answered : ℕ) (kept : KeptPast) (ended : Operation) (keys : List ℕ) : Type 0 where
  pub concerned : HasSomeOf keys ended
  pub untied : (o : Operation) → Contains kept.left o → o.inv ≤ answered → DoesNotTie keys kept.pairs o

-- a walk branches by the calls that began before the first answer of those left, at some keys or at all
pub record IsBranching (kept : KeptPast) (b : Branching) : Type 0 where
  pub ended : Operation
  pub first : EndsFirst b.answered kept.left ended
  pub at_keys : IfSome b.keys (λ keys. AreBranchKeys b.answered kept ended keys.items)

-- a call has some of the keys at which a walk branches
abbrev pub HasBranchKey : Branching → Operation → Type 0
HasBranchKey b o = IfSome b.keys (λ keys. HasSomeOf keys.items o)

-- a call may come next: it is left, began no later than that answer, and the map allows its answer
pub record IsNextAt (answered : ℕ) (kept : KeptPast) (o : Operation) : Type 0 where
  pub is_left : Contains kept.left o
  pub early : o.inv ≤ answered
  pub legal : IsLegalCall kept.pairs o.call o.response

-- the call at a place may come next
pub record MayComeAt (answered : ℕ) (calls : List Operation) (position : Position) (place : ℕ) : Type 0 where
  pub call : Operation
  pub is_left : IsLeftAt calls position.taken.items place call
  pub early : call.inv ≤ answered
  pub legal : IsLegalCall position.map call.call call.response

-- the call at a place may come next, and is a read
pub record IsReadAt (answered : ℕ) (calls : List Operation) (position : Position) (place : ℕ) : Type 0 where
  pub may : MayComeAt answered calls position place
  pub quiet : IsRead may.call

-- the call at a place may come next, and has some of the keys at which a walk branches
pub record IsBranchAt (b : Branching) (calls : List Operation) (position : Position) (place : ℕ) : Type 0 where
  pub may : MayComeAt b.answered calls position place
  pub of_key : HasBranchKey b may.call

-- the pasts after each call that may come next, and has some of those keys
pub record AreNexts (b : Branching) (kept : KeptPast) (nexts : List KeptPast) : Type 0 where
  pub forth : (o : Operation) → IsNextAt b.answered kept o → HasBranchKey b o
      → (next : KeptPast) × Contains nexts next × IsPastAfter kept o next
  pub back : (next : KeptPast) → Contains nexts next → (o : Operation) × IsNextAt b.answered kept o × IsPastAfter kept o next

-- at each moment after that answer, these pasts may replace this one
abbrev pub BecomesAfter : ℕ → KeptPast → List KeptPast → Type 0
BecomesAfter answered kept nexts = (moment : ℕ) → answered < moment → Becomes moment (kept ∷ []) nexts

-- positions are added for these pasts, where none is alike
pub record AreAdded (pasts : List Past) (nexts : List KeptPast) (old new : List Position) : Type 0 where
  pub from_past : All (IsFrom pasts) new
  pub enough : AreEnough (map (kept_in pasts) old ++ nexts) (map (kept_in pasts) new)

-- walks have come to the moment
pub record AreEnded (pasts : List Past) (moment : ℕ) (ended : List Position) : Type 0 where
  pub from_past : All (IsFrom pasts) ended
  pub cut : All (λ position. IsCutAt moment (kept_in pasts position)) ended

-- walks have gone on: some to further positions, and some to the moment
pub record HaveGoneOn (pasts : List Past) (moment : ℕ) (before : List KeptPast) (next ended : List Position) : Type 0 where
  pub from_past : All (IsFrom pasts) next
  pub are_ended : AreEnded pasts moment ended
  pub becomes : Becomes moment before (map (kept_in pasts) next ++ map (kept_in pasts) ended)

-- the past that a walk has come to
pub record IsPastAt (calls : List Operation) (position : Position) (past : Past) : Type 0 where
  pub pairs : past.map ≡ position.map
  pub left : past.calls.items ≡ left_of calls position.taken.items
  pub found : past.found.items ≡ position.found.items

-- the pasts that walks have come to, no more than allowed
abbrev pub AreMadeOf : List Past → List Position → ℕ → Cut → Type 0
AreMadeOf pasts positions most (Pasts made) =
    AreShaped made.items × AreEnough (map (kept_in pasts) positions) (map kept_of made.items) × (length made.items ≤ most)
AreMadeOf pasts positions most Spent = ⊤
