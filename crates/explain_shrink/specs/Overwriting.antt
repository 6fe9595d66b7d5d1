-- Calls that overwrite, in each order of all calls, what another call put before them.
use Rattle.std.specs.Prelude.{◌==◌, ◌&&◌, Bool, nat_lt, is_some}
use Rattle.events.specs.declared.operation.Operation.{Operation}
use Rattle.events.specs.Keys.{low_key}
use Rattle.events.specs.Precedence.{precedes}
use Rattle.explain_shrink.specs.Tells.{put_of, is_sure}

-- whether a call was answered in a way that shows that it put something at its key
abbrev pub says_put : Operation → Bool
says_put c = is_some (put_of c.call c.response) && is_sure c.call c.response

-- whether a call of the first one's key is between two others in each order: the first precedes it,
-- and it precedes the second
abbrev pub is_between : Operation → Operation → Operation → Bool
is_between a c b = (precedes a c && precedes c b) && (nat_lt c.inv b.inv && (low_key c.call == low_key a.call))
