-- The names that most proofs of this crate cite, passed on from one place. Declares nothing.
pub use Rattle.std.proofs.Common.{Bool, Err, List, None, Ok, Option, Some, [], ap, append-nil, append_assoc, ap₂, arith, codes, cond, drop, false}
pub use Rattle.std.proofs.Common.{get_or, inl, inr, is_some, le-ltb, length, length-append, lt-ltb, ltb-false, map, min, nat_lt, not, refl}
pub use Rattle.std.proofs.Common.{slice_index, subst, suc, sym, take, true, true≢false, zero, ℕ, ⊎_elim, ◌&&◌, ◌++◌, ◌+◌, ◌-◌, ◌<◌, ◌==◌, ◌||◌, ◌∙◌}
pub use Rattle.std.proofs.Common.{◌∷◌, ◌≡◌, ◌≤◌}
pub use Rattle.std.proofs.lemmas.Bool.{and_parts, eqb-true, leb-true, ne_eqb, not-true, or_parts}
pub use Rattle.std.proofs.lemmas.List.{get_or-map, length-map, map-append, map_more}
pub use Rattle.std.proofs.lemmas.Option.{same_Some}
pub use Rattle.std.proofs.lemmas.Result.{IfOk-weaker, Ok-from_Ok_iff, OkIff-at_ok}
pub use Rattle.std.proofs.lemmas.Slice.Eq.{bytes_eq-Decides}
pub use Rattle.std.specs.Borrow.{Bor}
pub use Rattle.std.specs.List.{All, before_first, find, fold, list_all, list_any, position, position_or_len, slice_index_or}
pub use Rattle.std.specs.Option.{option_and_then, option_map, option_map_or, unwrap_or}
pub use Rattle.std.specs.Prelude.{IfErr, IfOk, IfSome, MatchResult, OnOk, Result, count_by, encode_utf8, nat_le, slice_get}
pub use Rattle.std.specs.Str.{bytes_eq, chars}
pub use Rattle.clap.proofs.FaultLemmas.{past, stopped_fault}
pub use Rattle.clap.proofs.ValueTestLemmas.{Accepts-accepts, accepts-Accepts}
pub use Rattle.clap.proofs.WalkLemmas.{first_value-rows, list_any-map, raw_values-rows, walk_stopped}
pub use Rattle.clap.specs.Facts.{explicit_source, parser_of_value, unwrap_or_range}
pub use Rattle.clap.specs.Faults.{action_fault, built_fault, bundle_fault, bundle_step_fault, check_fault, count_fault, default_fault, entered_fault}
pub use Rattle.clap.specs.Faults.{flag_word_fault, given_default_fault, has_free_rules, is_simple_and_free, level_fault, long_fault, option_fault}
pub use Rattle.clap.specs.Faults.{other_fault, positional_fault, react_fault, repeat_fault, set_fault, settle_fault, short_fault, step_fault}
pub use Rattle.clap.specs.Faults.{stray_fault, turn_fault, use_fault, values_fault, word_fault}
unfoldable pub use Rattle.clap.specs.Faults.{defaults_fault, flags_fault, walk_fault}
pub use Rattle.clap.specs.Kinds.{Kinds, check_kinds, or_else, range_kinds, request_kinds, value_kinds, values_kinds}
pub use Rattle.clap.specs.Lexer.{has_byte, long_of, short_of, usize_max}
pub use Rattle.clap.specs.Simple.{App, Shape, argument_words, built, built_leaf, entered, filled, filled_from, help_rule, help_shape, inherited}
pub use Rattle.clap.specs.Simple.{is_in_order, is_ready_leaf, is_simple_leaf, label_of, names_of, new_shape, rows_at, with_index}
pub use Rattle.clap.specs.Takes.{is_given}
pub use Rattle.clap.specs.ValueTests.{accepts}
pub use Rattle.clap.specs.Values.{reading_of, refused_kind}
pub use Rattle.clap.specs.Walk.{Held, Names, Outcome, Row, Rule, Step, Waiting, Walk, action_of, after_flag, after_step, answers_to, arg_by_id}
pub use Rattle.clap.specs.Walk.{arg_by_index, arg_by_long, arg_by_short, at_row, attached_value, bundle, bundle_step, count_of, counted, default_rows}
pub use Rattle.clap.specs.Walk.{done, finished, flag_met, has_row, idle, is_early_multiple, is_empty, is_pending, long_met, long_or_other}
pub use Rattle.clap.specs.Walk.{more_values, most_values, new_count, next, nothing_held, option, option_met, option_word, plain, plain_word}
pub use Rattle.clap.specs.Walk.{positional, positional_held, pushed, reacted, reading_by, refused, rows_after, settled, settled_rows, short_met}
pub use Rattle.clap.specs.Walk.{short_or_plain, stop_after, subcommand, subcommand_met, subcommand_or_other, takes_several, takes_values, texts}
pub use Rattle.clap.specs.Walk.{to_positional, trailing, used, used_as, used_by_id, value, values_or_missing, waits, walk, walk_from, walked_from}
pub use Rattle.clap.specs.Walk.{with_count, with_default, with_values, without, word_met}
unfoldable pub use Rattle.clap.specs.Walk.{bundle_met, walked}
pub use Rattle.clap.specs.Words.{HasKind, HasMatchesOf, Text, app_of, fault_of, first_of, first_value, found_of, is_simple, kind_of, matched_of}
pub use Rattle.clap.specs.Words.{raw_values, rows_of, subcommand_name_of, subcommand_of, subcommand_rows_of, takes, with_rule, with_subcommand}
pub use Rattle.clap.specs.declared.builder.value_parser.ValueParser.{ValueParser}
pub use Rattle.clap.specs.declared.builder.value_parser.ValueParser.TheVariants.{Unsigned}
pub use Rattle.clap.specs.declared.parser.matches.ArgMatches.{ArgMatches}
pub use Rattle.clap.specs.declared.parser.matches.Found.{Found}
pub use Rattle.clap.specs.declared.parser.matches.ValueSource.TheVariants.{CommandLine, DefaultValue}
pub use Rattle.command_line.specs.Commands.{calls_rule, calls_rules, leaf, missing_of, option_rule, parser_for, rules_for, table_app}
pub use Rattle.command_line.specs.Limits.{around_limit, budget_default, budget_limit, rows16_default, rows16_limit, rows256_default, rows256_limit}
pub use Rattle.command_line.specs.Limits.{rows48_default, rows48_limit, rows4_default, rows4_limit, shown_limit, steps_limit, u64_limit}
pub use Rattle.command_line.specs.Limits.{workers_default, workers_limit}
pub use Rattle.command_line.specs.Numbers.{IsNumber, IsNumberWithin, IsSpelled, number_of}
pub use Rattle.command_line.specs.Program.{bench_table, check_usage, draw_usage, drive_usage, explain_usage, follow_usage, generate_usage}
pub use Rattle.command_line.specs.Program.{judge_usage, locate_usage, number_flag, page_usage, schedule_usage, switch_flag, tree_flag}
unfoldable pub use Rattle.command_line.specs.Program.{bench_app}
pub use Rattle.command_line.specs.Requests.{AreCallsOf, AreFlagsOf, AreNumbersOf, AreWithinFrom, Asked, Asks, Fits, IsAskable, IsNumberOf, IsReadFrom}
pub use Rattle.command_line.specs.Requests.{IsRequestOf, Meets, StandsFor, are_named, asked_of, flags_of, has_named, is_named, numbers_from}
pub use Rattle.command_line.specs.Requests.{values_of}
pub use Rattle.command_line.specs.Tables.{Choice, Flag, Usage, among, are_flags, are_usages, choice_of, flag_named, flag_of, greatest_of, has_limits}
pub use Rattle.command_line.specs.Tables.{has_none, is_among, is_choice, is_flag_name, is_no_flag, is_table, least_of, place_named, switch}
pub use Rattle.command_line.specs.Tables.{switch_text, usage_named, usage_of, within}
pub use Rattle.command_line.specs.Words.{AreOptionsOf, Given, Gives, IsUse, IsValue, IsValueOf, has_option, has_required, option_words, text_given}
pub use Rattle.command_line.specs.Words.{value_given, value_words}
pub use Rattle.command_line.specs.declared.table.ValueOption.{ValueOption}
