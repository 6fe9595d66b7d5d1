-- Answers that a scan may have of some map: pairs by rising key, from one key to another; or that it was done, or refused.
use Rattle.events.specs.declared.event.Reply.TheVariants as replies
use Rattle.std.specs.Prelude.{ℕ, ◌≤◌, List, Option, Some, None, All, ⊤}
use Rattle.events.specs.declared.event.Call.{Call}
use Rattle.events.specs.declared.event.Call.TheVariants.{Get, Insert, Remove, Scan, Replace}
use Rattle.events.specs.declared.event.Reply.{Reply}
use Rattle.events.specs.declared.operation.Operation.{Operation}
use Rattle.events.specs.declared.operation.Response.{Response}
use Rattle.map_object.specs.MapObject.{Contents, IsRising}

pub record ArePairsOf (low high : ℕ) (pairs : Contents) : Type 0 where
  pub rising : IsRising pairs
  pub within : All (λ pair. (low ≤ pair.0) × (pair.0 ≤ high)) pairs

abbrev pub IsScanReply : ℕ → ℕ → Reply → Type 0
IsScanReply low high replies.None = ⊥
IsScanReply low high (replies.Some value) = ⊥
IsScanReply low high (replies.Pairs pairs) = ArePairsOf low high pairs
IsScanReply low high replies.Refused = ⊤
IsScanReply low high replies.Done = ⊤
IsScanReply low high replies.Found = ⊥
IsScanReply low high replies.Other = ⊥

abbrev pub HasScanReply : ℕ → ℕ → Option Response → Type 0
HasScanReply low high None = ⊤
HasScanReply low high (Some response) = IsScanReply low high response.reply

-- a call that is a scan, and answered, is answered so
abbrev pub HasForm : Call → Option Response → Type 0
HasForm (Get key) response = ⊤
HasForm (Insert key value) response = ⊤
HasForm (Remove key) response = ⊤
HasForm (Scan low high) response = HasScanReply low high response
HasForm (Replace key expected value) response = ⊤

abbrev pub HaveForms : List Operation → Type 0
HaveForms calls = All (λ a. HasForm a.call a.response) calls
