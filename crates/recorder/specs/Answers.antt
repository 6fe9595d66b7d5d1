-- The answers of a map that may refuse a call.
use Rattle.std.specs.Prelude.{◌≡◌, ◌⊎◌}
use Rattle.events.specs.declared.event.Call.{Call}
use Rattle.events.specs.declared.event.Reply.{Reply}
use Rattle.events.specs.declared.event.Reply.TheVariants.{Refused}
use Rattle.map_object.specs.MapObject.{Contents, IsRising, reply_to, after}
use Rattle.map_object.specs.Memory.{TakesMemory}

-- The map did the call and answered it. Or it refused the call and nothing changed; then the call
-- is a scan, or an insert at a new key. These calls take memory, and only a scan may list too many
-- pairs.
abbrev pub IsDoneOrRefused : Contents → Call → Reply → Contents → Type 0
IsDoneOrRefused old call reply new =
    ((reply ≡ reply_to old call) × (new ≡ after old call)) ⊎ ((reply ≡ Refused) × TakesMemory old call × (new ≡ old))

-- a map with rising keys does the call so, and has rising keys afterwards
pub record IsAnswerOf (call : Call) (reply : Reply) : Type 0 where
  pub old : Contents
  pub new : Contents
  pub rising : IsRising old
  pub rises : IsRising new
  pub done : IsDoneOrRefused old call reply new
