-- The names that most proofs of this crate cite, passed on from one place. Declares nothing.
pub use Rattle.std.proofs.Common.{Bool, Err, IfErr, IfNone, IsUtf8, List, None, Ok, Option, Result, Some, [], ap, append-nil, append_assoc, ap₂}
pub use Rattle.std.proofs.Common.{arith, codes, cond, decimal, drop, false, get_or, inl, inr, is_some, leb-false, length, length-append, ltb-true}
pub use Rattle.std.proofs.Common.{map, max, nat_eq, nat_le, nat_lt, not, option_and_then, option_map, refl, subst, suc, sym, take, true, true≢false}
pub use Rattle.std.proofs.Common.{zero, ℕ, ⊎_elim, ◌&&◌, ◌*◌, ◌++◌, ◌+◌, ◌-◌, ◌<◌, ◌==◌, ◌^◌, ◌||◌, ◌∙◌, ◌∷◌, ◌≡◌, ◌≢◌, ◌≤◌}
pub use Rattle.std.proofs.lemmas.Bool.{and_parts, leb-true}
pub use Rattle.std.proofs.lemmas.Bool.Decides.{nat_tests}
pub use Rattle.std.proofs.lemmas.List.{drop-append-le, length-map, length-take-le, map-append, map_more, take-append-le, take_all}
pub use Rattle.std.proofs.lemmas.List.Folds.{list_all-append, list_all_at, list_all_more}
pub use Rattle.std.proofs.lemmas.Option.{MatchOption-at_some, none-some, same_Some}
pub use Rattle.std.proofs.lemmas.Result.{err_from_is_err_and}
pub use Rattle.std.proofs.lemmas.Str.{IsAscii-append, IsUtf8-append, IsUtf8-from_ascii, IsUtf8-string_bytes}
pub use Rattle.std.proofs.lemmas.Str.Ascii.{IsAscii-cons, IsAscii-nil}
pub use Rattle.std.specs.Char.{digit_value, encode_utf8, is_ascii_digit, is_digit}
pub use Rattle.std.specs.List.{list_all, prefix_len, starts_with}
pub use Rattle.std.specs.Prelude.{IfOk, IsTrue, ◌⊎◌}
pub use Rattle.std.specs.Str.{IsAscii}
pub use Rattle.events.specs.Histories.{AreHistoryEvents, IsHistory, call_count, has_range, is_shaped, is_small}
pub use Rattle.events.specs.HistoryFaults.{IsPairRefusedAfter, IsRefusedAfter, fault_after, has_open_call, is_above, is_call_too_many, is_out_of_turn}
pub use Rattle.events.specs.HistoryFaults.{pair_fault_after}
pub use Rattle.events.specs.HistoryView.{HistoryView}
pub use Rattle.events.specs.Limits.{process_limit, start_limit}
pub use Rattle.events.specs.PlainHistories.{has_no_pairs, is_plain, is_plain_event, is_replace}
pub use Rattle.events.specs.Starts.{IsStart}
pub use Rattle.events.specs.Told.{are_complete, is_complete, is_told_event}
pub use Rattle.events.specs.declared.event.Call.{Call}
pub use Rattle.events.specs.declared.event.Call.TheVariants.{Get, Insert, Remove, Replace, Scan}
pub use Rattle.events.specs.declared.event.Event.{Event}
pub use Rattle.events.specs.declared.event.Event.TheVariants.{Answer, Invoke}
pub use Rattle.events.specs.declared.event.Reply.{Reply}
pub use Rattle.events.specs.declared.fault.HistoryFault.{HistoryFault}
pub use Rattle.json.specs.Lex.{Class, Mode, backslash, between, class, fresh, in_escape, in_string, in_word, lex_byte, operator, operator_lexeme}
pub use Rattle.json.specs.Lex.{other, punctuate, quote, space, string_token, token, tokens}
unfoldable pub use Rattle.json.specs.Lex.{lex}
pub use Rattle.json.specs.Text.{Within, after_backslash, after_high, after_u, is_high_surrogate, is_low_surrogate, plain, prepend, surrogate_pair}
unfoldable pub use Rattle.json.specs.Text.{code_unit, content, short_escape}
pub use Rattle.json.specs.Token.{Token, bad}
pub use Rattle.serde_json.specs.Data.{Data, Items, Members, array, boolean, depth, float, item, items_depth, member, members_depth, negative}
pub use Rattle.serde_json.specs.Data.{no_items, no_members, null, number, object, string, unsigned}
pub use Rattle.serde_json.specs.Read.{max_depth, of_items, of_json, read}
pub use Rattle.serde_json.specs.View.{items_of, items_view, view}
pub use Rattle.serde_json.specs.Written.{comma_if, compact_text, has_float, items_have_float, items_outline, items_text, members_outline, outline}
pub use Rattle.serde_json.specs.declared.value.Value.{Value}
pub use Rattle.history_text.specs.Compact.{ArePlain, BeginsWith, EndsAs, IsCompact, IsPlain, SpellsCompactly}
pub use Rattle.history_text.specs.Limits.{text_limit}
pub use Rattle.history_text.specs.TextFaults.{AreEventsOfText, IsDocumentFault, IsFaultAfter, IsPairFaultAfter, IsTextFault, ShowsEventFault}
pub use Rattle.history_text.specs.TextFaults.{ShowsPairFault, SpellsNoEvent}
pub use Rattle.history_text.specs.TextLaws.{FaultySpellsNoHistory, HasOneFault, SpellsOneHistory}
pub use Rattle.history_text.specs.Texts.{AreSpelled, IsDocument, IsEventData, IsJson, SpellEvents, Spells, SpellsAs, call_data, document, event_data}
pub use Rattle.history_text.specs.Texts.{history_data, least_version, list_data, may_stand, noted_data, number_data, pair_data, reply_data}
pub use Rattle.history_text.specs.Texts.{start_data, start_pairs, written_start}
pub use Rattle.history_text.specs.ValueFaults.{IsFaultAmong, IsPairFaultAmong, IsPairValueFault, IsTurnData, IsValueFault, ShowsFaultAmong}
pub use Rattle.history_text.specs.ValueFaults.{ShowsPairFaultAmong, invocation_data, object_of_three, object_of_two, response_data}
pub use Rattle.history_text.specs.Versions.{has_start, version_number}
pub use Rattle.history_text.specs.WhiteSpace.{AreWhiteSpace, IsWhiteSpace}
pub use Rattle.history_text.specs.declared.version.TextVersion.{TextVersion}
pub use Rattle.history_text.specs.declared.version.TextVersion.TheVariants.{One, Three, Two}
