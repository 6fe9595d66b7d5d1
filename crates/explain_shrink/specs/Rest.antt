-- The rest of calls if some stay and the others are left out: those that stay, without the answers
-- that depend on what one of the others put.
use Rattle.std.specs.Prelude.{ℕ, ◌&&◌, Bool, not, if◌then◌else◌, List, filter, filter_map, Option, Some, None}
use Rattle.std.specs.List.{list_any}
use Rattle.events.specs.declared.operation.Operation.{Operation}
use Rattle.events.specs.Precedence.{belongs, precedes}
use Rattle.events.specs.Lists.{has_number}
use Rattle.explain_shrink.specs.Tells.{tells_put}
use Rattle.explain_shrink.specs.Overwriting.{says_put, is_between}

-- a call without its answer
abbrev pub opened : Operation → Operation
opened a = record { call = a.call; inv = a.inv; response = None }

-- the calls that are left out if those stay that were invoked at some places
abbrev pub gone_of : List ℕ → List Operation → List Operation
gone_of places calls = filter (λ a. not (has_number places a.inv)) calls

-- the calls that stay and say that they put something
abbrev pub puts_of : List ℕ → List Operation → List Operation
puts_of places calls = filter (λ c. has_number places c.inv && says_put c) calls

-- whether one of these calls overwrites what a call put, before another call comes
abbrev pub is_overwritten : List Operation → Operation → Operation → Bool
is_overwritten puts a b = list_any (λ c. is_between a c b) puts

-- whether what is left of a call depends on what another one put. It does not if it precedes that
-- one, or if a call that stays overwrites it before
abbrev pub may_depend_on : List Operation → Operation → Operation → Operation → Bool
may_depend_on puts a b left = not (precedes b a) && (tells_put left a && not (is_overwritten puts a b))

-- whether a call depends on what one of those left out may have put
abbrev pub is_touched : List Operation → List Operation → Operation → Bool
is_touched puts gone b = list_any (λ a. may_depend_on puts a b b) gone

-- whether a call depends on what one of those left out may have put, and without its answer waits
-- for what one of them may put
abbrev pub is_held : List Operation → List Operation → Operation → Bool
is_held puts gone b = is_touched puts gone b && list_any (λ a. may_depend_on puts a b (opened b)) gone

-- a call, or nothing if it is a pending get or a pending scan
abbrev pub if_belongs : Operation → Option Operation
if_belongs b = if belongs b then Some b else None

-- what becomes of a call: nothing if it is left out, or if it becomes a pending get or scan.
-- Otherwise the call, without its answer if it depends on what one of those left out put
abbrev pub left_of : List ℕ → List Operation → List Operation → Operation → Option Operation
left_of places puts gone b =
    if has_number places b.inv then if_belongs (if is_touched puts gone b then opened b else b) else None

-- the calls that are left if those stay that were invoked at these places
abbrev pub rest_of : List ℕ → List Operation → List Operation
rest_of places calls = filter_map (left_of places (puts_of places calls) (gone_of places calls)) calls

-- whether the calls left out are held: one that stays waits for what one of them may put
abbrev pub are_held : List ℕ → List Operation → Bool
are_held places calls = list_any (λ b. has_number places b.inv && is_held (puts_of places calls) (gone_of places calls) b) calls
