-- The names that most proofs of this crate cite, passed on from one place. Declares nothing.
pub use Rattle.std.proofs.Common.{Bool, Err, Global, IfOk, List, MatchResult, None, Ok, Option, Result, Some, String, Vec, [], ap, append-nil}
pub use Rattle.std.proofs.Common.{append_assoc, ap₂, arith, drop, false, inl, inr, length, map, not, option_map, refl, rules, string_bytes, subst}
pub use Rattle.std.proofs.Common.{sym, take, true, ℕ, ⊎_elim, ◌++◌, ◌+◌, ◌<◌, ◌∙◌, ◌∷◌, ◌≡◌, ◌≤◌}
pub use Rattle.std.proofs.lemmas.Bool.{both_ways, cases_Bool, cases_order, eq-eqb, eqb-true, false≢true, not-true, or_cases, or_left, or_right}
pub use Rattle.std.proofs.lemmas.List.{drop_all, drop_more, get_or_default, length-append, map-append, map_more, take_all, take_more}
pub use Rattle.std.proofs.lemmas.List.Elements.{All-contains, All-head, All-tail, All-weaker, Contains-get_or, Contains-push_cases, filter_map-append}
pub use Rattle.std.proofs.lemmas.Option.{none-some, same_Some, slice_get_within}
pub use Rattle.std.proofs.lemmas.Result.{IfOk-weaker}
pub use Rattle.std.specs.List.{cons_option, list_any, slice_index_or}
pub use Rattle.std.specs.Prelude.{All, Contains, IsSomeAnd, IsTrue, is_some, slice_get, slice_index, ◌==◌, ◌||◌, ◌≢◌}
pub use Rattle.call_effects.specs.Groups.{AreAlike, RangesSuffice, reply_in}
pub use Rattle.cli_judge.proofs.WholeHistories.{IsHistoryRefusal-whole, IsTextOf-whole}
pub use Rattle.cli_judge.specs.Answers.{IsHistoryRefusal, IsTextOf}
pub use Rattle.cli_outcome.proofs.ReadText.{IsRun-read}
pub use Rattle.cli_outcome.specs.Lines.{line}
pub use Rattle.cli_outcome.specs.Outcomes.{IsTextOutcome}
pub use Rattle.cli_outcome.specs.declared.outcome.Answer.{Answer}
pub use Rattle.cli_outcome.specs.declared.outcome.CommandOutcome.{CommandOutcome}
pub use Rattle.cli_outcome.specs.declared.outcome.CommandOutcome.TheVariants.{Answered, Failed, Memory, Noted, Refused, Words}
pub use Rattle.events.proofs.FilterLemmas.{Contains-filter_map, Contains-from_filter_map, Contains-map}
pub use Rattle.events.proofs.Lists.{All-from_contains, AllPairs-at, Contains-at, Contains-cases, Contains-filter, Contains-first}
pub use Rattle.events.proofs.Lists.{Contains-from_filter, Contains-later, Contains-nil, place_of-Contains}
pub use Rattle.events.specs.HistoryView.{HistoryView}
pub use Rattle.events.specs.Keys.{may_change}
pub use Rattle.events.specs.Operations.{operations}
pub use Rattle.events.specs.Precedence.{NonePrecedesItself, belongs, is_completed, precedes}
pub use Rattle.events.specs.declared.event.Event.{Event}
pub use Rattle.events.specs.declared.operation.Operation.{Operation}
pub use Rattle.events.specs.declared.operation.Response.{Response}
pub use Rattle.explain_locate.specs.Reports.{found_data, location_data}
pub use Rattle.explain_locate.specs.declared.location.Location.{Location}
pub use Rattle.explain_reads_from.specs.Missed.{missed_of, missed_writes}
pub use Rattle.explain_reads_from.specs.declared.missing.Missed.{Missed}
pub use Rattle.explain_shrink.specs.declared.explanation.Reason.{Reason}
pub use Rattle.history_text.proofs.WrittenLemmas.{has_float-call, has_float-reply, items_have_float-map}
pub use Rattle.history_text.specs.Limits.{text_limit}
pub use Rattle.history_text.specs.Texts.{list_data, pair_data}
pub use Rattle.map_object.specs.MapObject.{Contents, IsLegalReply, after_reply, reply_to, within}
pub use Rattle.orders.proofs.BelongingLemmas.{BelongsAt-below}
pub use Rattle.orders.proofs.PlaceLemmas.{All-at_places, Contains-place, IsCompletedAt-place, IsLegalOrder-numbers, at_places, calls_at-at_places}
pub use Rattle.orders.proofs.PlaceLemmas.{place_of, slice_get-at_place}
pub use Rattle.orders.proofs.SegmentViewLemmas.{All-calls_at, IsSegmentView-segment_of}
pub use Rattle.orders.specs.Orders.{IsCompletedAt, IsLegalCall, IsLegalOrder, IsLinearizable, IsOrder, after_call, after_calls, calls_at}
pub use Rattle.orders.specs.SegmentView.{IsSegmentView, NamesKeysWithin, SegmentView}
pub use Rattle.search.proofs.LongestLemmas.{as_long_as}
pub use Rattle.serde_json.specs.View.{view}
pub use Rattle.serde_json.specs.Written.{compact_text, has_float}
pub use Rattle.cli_explain.specs.Answers.{AreFew, AreFewLines, AreHistoryLines, AreOriginLines, IsExplainAnswer}
pub use Rattle.cli_explain.specs.Fronts.{event_data, front_data, is_preceded, is_taken, left_by, next_of, stuck_data, taken_data, unpreceded}
pub use Rattle.cli_explain.specs.Laws.{NoFrontIsLonger, NoNextCallIsLegal}
pub use Rattle.cli_explain.specs.LocationAnswers.{IsFoundAnswer, IsLocateAnswer, IsLocateAnswerWith, IsLocateOrderAnswer, answer_of_location}
pub use Rattle.cli_explain.specs.Origins.{origin_data, origin_lines, pair_origin_data, writer_data}
pub use Rattle.cli_explain.specs.OwnParts.{key_lines, loss_lines}
pub use Rattle.cli_explain.specs.Reports.{answer_data, call_line_data, kept_data, missed_data, missing_line_data, rows, was_answered}
