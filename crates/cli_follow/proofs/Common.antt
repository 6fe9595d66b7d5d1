-- The names that most proofs of this crate cite, passed on from one place. Declares nothing.
pub use Rattle.std.proofs.Common.{All, Bool, Err, Global, IfOk, IsUtf8, List, None, Ok, Option, Result, Some, String, [], ap, append-nil}
pub use Rattle.std.proofs.Common.{append_assoc, arith, codes, cond, drop, false, get_or, inl, inr, length, length-drop, map, min, option_and_then}
pub use Rattle.std.proofs.Common.{option_map, refl, string_bytes, subst, suc, sym, take, true, zero, ℕ, ◌*◌, ◌++◌, ◌+◌, ◌-◌, ◌<◌, ◌==◌, ◌^◌, ◌∙◌, ◌∷◌}
pub use Rattle.std.proofs.Common.{◌≡◌, ◌≢◌, ◌≤◌}
pub use Rattle.std.proofs.lemmas.Bool.{false≢true}
pub use Rattle.std.proofs.lemmas.Bool.Decides.{nat_tests}
pub use Rattle.std.proofs.lemmas.List.{length-append, take_all}
pub use Rattle.std.proofs.lemmas.List.Elements.{All-cons, All-head, All-nil, All-tail}
pub use Rattle.std.proofs.lemmas.Result.{IfOk-weaker}
pub use Rattle.std.specs.Io.KnownBytes.{Consumes, IsAtEnd, prepend_known}
pub use Rattle.std.specs.Prelude.{IfErr, IfSome, MatchOption, decimal, is_some, nat_le, nat_lt}
pub use Rattle.events.specs.HistoryView.{HistoryView, with_event}
pub use Rattle.events.specs.declared.event.Call.{Call}
pub use Rattle.events.specs.declared.event.Event.{Event}
pub use Rattle.events.specs.declared.event.Event.TheVariants.{Answer, Invoke}
pub use Rattle.events.specs.declared.event.Reply.{Reply}
pub use Rattle.history_text.proofs.WrittenLemmas.{has_float-event}
pub use Rattle.history_text.specs.Texts.{call_data, event_data, number_data, pair_data, reply_data}
pub use Rattle.history_text.specs.declared.version.TextVersion.{TextVersion}
pub use Rattle.history_text.specs.declared.version.TextVersion.TheVariants.{One, Three, Two}
pub use Rattle.follow_violations.specs.OwnParts.{KeyCore, part_of}
pub use Rattle.follow_violations.specs.declared.loss.Violation.{Violation}
pub use Rattle.follow_violations.specs.declared.lost_keys.KeyViolation.{KeyViolation}
pub use Rattle.map_object.specs.MapObject.{Contents}
pub use Rattle.follow_monitor.specs.Faults.{event_limit, invocation_fault, shown}
pub use Rattle.follow_monitor.specs.Following.{IsFollowing}
pub use Rattle.follow_monitor.specs.Outcomes.{IsAnswered, IsLost, IsSpent}
pub use Rattle.follow_monitor.specs.declared.fault.FollowFault.{FollowFault}
pub use Rattle.orders.specs.Orders.{IsLinearizable}
pub use Rattle.cli_outcome.specs.declared.outcome.CommandOutcome.{CommandOutcome}
pub use Rattle.cli_outcome.specs.declared.outcome.CommandOutcome.TheVariants.{Answered, Failed, Memory, Noted, Refused, Words}
pub use Rattle.follow_pasts.specs.Pasts.{IsDead}
pub use Rattle.follow_parts.specs.Keeping.{pasts_of}
pub use Rattle.serde_json.specs.Data.{Data, array, member, no_members, object}
pub use Rattle.serde_json.specs.View.{items_of, view}
pub use Rattle.serde_json.specs.Written.{comma_if, compact_text, has_float, items_have_float, items_outline, items_text, outline}
pub use Rattle.explain_histories.specs.Values.{value_data}
pub use Rattle.stream_text.specs.Cuts.{Advances, BeginsTooLong, FindsEnd, HasNoLineFeed, TakesLine, before_lines, line_feed, lines_of}
pub use Rattle.stream_text.specs.LineLimits.{line_limit, number_limit}
pub use Rattle.stream_text.specs.Lines.{SpellsEvent, SpellsFirst, SpellsStart, as_event}
pub use Rattle.stream_text.specs.declared.event.StreamEvent.{StreamEvent}
pub use Rattle.cli_follow.specs.Answers.{IsFollowAnswer, IsJudgedAnswer, IsLostText, IsSmallLine, IsSpentText, IsStreamRefusal, IsWholeAnswer}
pub use Rattle.cli_follow.specs.Answers.{Judgement}
pub use Rattle.cli_follow.specs.EventLines.{CallHasWords, HasFewPairs, HasWords, IsWord, MayStand, ReplyHasWords, event_line}
pub use Rattle.cli_follow.specs.Followed.{FollowsStream, IsFollowed}
pub use Rattle.cli_follow.specs.Taken.{HasEnded, HasTaken, MayTake}
pub use Rattle.cli_follow.specs.Leaves.{IsAnsweredWith, IsLineRefusal, IsLostOutcome, IsManyRefusal, IsRefusalAfter, IsSpentOutcome}
pub use Rattle.cli_follow.specs.Leaves.{IsTurnRefusal, IsYesOutcome}
pub use Rattle.cli_follow.specs.Outcomes.{IsFollowOutcome, IsStreamOutcome}
pub use Rattle.cli_follow.specs.Reading.{AreLinesOf, HasRead}
pub use Rattle.cli_follow.specs.Refusals.{IsHintAfter, IsLineFaultAfter, StopsFor, line_fault_hint, line_fault_name, most_lines}
pub use Rattle.cli_follow.specs.Refusals.{stream_fault_line, too_many_name, turn_fault, turn_fault_name}
pub use Rattle.cli_follow.specs.Reports.{key_data, lost_data, spent_data, yes_line}
pub use Rattle.cli_follow.specs.Stops.{IsLostAt, IsSpentAt, IsStop}
pub use Rattle.cli_follow.specs.StreamTexts.{BeginsWith, SpellEvents, SpellFromStart, SpellStream}
pub use Rattle.cli_follow.specs.declared.followed.Followed.{Followed}
pub use Rattle.cli_follow.specs.declared.line_follower.LineFollower.{LineFollower}
pub use Rattle.cli_follow.specs.declared.line_follower.LineFollower.TheVariants.{Ended, Going}
