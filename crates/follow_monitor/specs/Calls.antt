-- Replies that some map gives to a call.
use Rattle.std.specs.Prelude.{Some}
use Rattle.events.specs.declared.event.Call.{Call}
use Rattle.events.specs.declared.event.Reply.{Reply}
use Rattle.follow_laws.specs.Forms.{HasForm}

-- a reply that some map may give a call: a scan pairs of its range, by rising key, or nothing that is reported
abbrev pub MayReply : Call → Reply → Type 0
MayReply call reply = HasForm call (Some (record { res = 0; reply = reply }))
