-- The names that most proofs of this crate cite, passed on from one place. Declares nothing.
pub use Rattle.std.proofs.Common.{Bool, Err, IfErr, IfOk, List, None, Ok, Option, Result, Some, [], ap, append-nil, append_assoc, ap₂, arith, codes}
pub use Rattle.std.proofs.Common.{drop, false, get_or, inl, inr, length, length-append, length-drop, length-take, ltb-true, map, min, nat_lt, refl}
pub use Rattle.std.proofs.Common.{subst, sym, take, take-append-drop, true, true≢false, ℕ, ◌++◌, ◌+◌, ◌-◌, ◌<◌, ◌==◌, ◌∙◌, ◌∷◌, ◌≡◌, ◌≢◌, ◌≤◌}
pub use Rattle.std.proofs.Math.Seq.{take-add}
pub use Rattle.std.proofs.lemmas.List.{drop-append-le, drop-drop, drop_all, drop_min, get_or-drop, get_or_default, length-take-le, map-append}
pub use Rattle.std.proofs.lemmas.List.{nil_from_length, take-take, take_all, take_at, take_more, take_rest}
pub use Rattle.std.proofs.lemmas.List.Elements.{All-append, All-head, All-tail, All-weaker}
pub use Rattle.std.proofs.lemmas.Result.{err_from_is_err_and}
pub use Rattle.std.specs.Io.KnownBytes.{Consumes, IsAtEnd, Keeps, prepend_known}
pub use Rattle.std.specs.List.{between}
pub use Rattle.std.specs.Prelude.{All, IfSome, IsTrue, ◌⊎◌}
pub use Rattle.std.specs.Str.{IsAscii, IsUtf8}
pub use Rattle.events.specs.Histories.{has_range, is_shaped}
pub use Rattle.events.specs.HistoryFaults.{is_above}
pub use Rattle.events.specs.Starts.{KeysRise}
pub use Rattle.events.specs.declared.event.Event.{Event}
pub use Rattle.history_text.proofs.DataLemmas.{first_names, list_data_injective, number_found}
pub use Rattle.history_text.proofs.DocumentLemmas.{IsPairData, one_pair, pairs_spelled, same_value, same_version}
pub use Rattle.history_text.proofs.TextLemmas.{pair_data_injective, pairs_injective}
pub use Rattle.history_text.specs.Texts.{AreSpelled, IsEventData, call_data, event_data, list_data, may_stand, number_data, pair_data, reply_data}
pub use Rattle.history_text.specs.declared.version.TextVersion.{TextVersion}
pub use Rattle.serde_json.specs.Data.{Data}
pub use Rattle.serde_json.specs.View.{view}
pub use Rattle.stream_text.specs.Cuts.{Advances, BeginsTooLong, HasNoLineFeed, TakesLine, line_feed, lines_of}
pub use Rattle.stream_text.specs.LineBuffers.{GrowsBy, LineBufferView}
pub use Rattle.stream_text.specs.LineFaults.{IsByteFault, IsEventFault, IsFirstFault, IsFirstLineFault, IsLineFault, IsStartFault, ShowsPairFault}
pub use Rattle.stream_text.specs.LineLaws.{FaultySpellsNoEvent, FaultySpellsNoFirst, HasOneFirstFault, HasOneLineFault, SpellsOneEvent}
pub use Rattle.stream_text.specs.LineLaws.{SpellsOneFirst, TakesFirstLine}
pub use Rattle.stream_text.specs.LineLimits.{line_limit, number_limit}
pub use Rattle.stream_text.specs.Lines.{IsFirstOf, IsLine, MayStandIn, NamesVersion, SpellsEvent, SpellsFirst, as_event, start_line_data}
pub use Rattle.stream_text.specs.Lines.{start_object}
pub use Rattle.stream_text.specs.declared.event.StreamEvent.{StreamEvent}
pub use Rattle.stream_text.specs.declared.line_fault.LineFault.{LineFault}
