-- The names that most proofs of this crate cite, passed on from one place. Declares nothing.
pub use Rattle.std.proofs.Common.{Bool, Err, IsTrue, List, Ok, [], ap, append_assoc, arith, cond, drop, eq-eqb, eqb, false, get_or, inl, inr, length}
pub use Rattle.std.proofs.Common.{map, nat_le, ne_eqb, refl, replicate, rules, set, subst, suc, sum, sym, take, true, zero, ℕ, ⊎_elim, ◌%◌, ◌*◌, ◌++◌}
pub use Rattle.std.proofs.Common.{◌+◌, ◌-◌, ◌<◌, ◌==◌, ◌^◌, ◌∙◌, ◌∷◌, ◌≡◌, ◌≢◌, ◌≤◌, ◌⊎◌}
pub use Rattle.std.proofs.Math.Nat.{mul-add, mul-le-mul}
pub use Rattle.std.proofs.lemmas.Bool.{and_parts, cases_lt, lt-ltb, ltb-false, ltb-true}
pub use Rattle.std.proofs.lemmas.List.{append-nil, flat_map_more, get_or-map, get_or_default, length-append, length-map, length-replicate, length-set}
pub use Rattle.std.proofs.lemmas.List.{length-take, map-append, map-set, map_push, nil_from_length, set-get_or, take-append-drop, take_all, take_more}
pub use Rattle.std.proofs.lemmas.List.Elements.{All-append, All-cons, All-contains, All-head, All-map, All-nil, All-push, All-rest, All-set, All-tail}
pub use Rattle.std.proofs.lemmas.List.Elements.{All-weaker, filter-append, filter_map-append}
pub use Rattle.std.proofs.lemmas.List.FromFn.{get_or-range_with_len, length-map-range_with_len, length-range_with_len, map-range_with_len_more}
pub use Rattle.std.proofs.lemmas.List.FromFn.{take-map-range_with_len}
pub use Rattle.std.proofs.lemmas.List.Sums.{sum-map, sum_by-cons, sum_by-take-drop, sum_by_push}
pub use Rattle.std.proofs.lemmas.Option.{get_or_from_slice_get, none-some, same_Some, slice_get-get_or, slice_get_within}
pub use Rattle.std.proofs.lemmas.Result.{IfOk-weaker}
pub use Rattle.std.specs.List.{list_all, range_with_len}
pub use Rattle.std.specs.Prelude.{All, AllPairs, Contains, EachIndex, IfOk, IfSome, MatchOption, None, Option, Result, Some, filter_map, flat_map}
pub use Rattle.std.specs.Prelude.{if◌then◌else◌, is_some, nat_lt, not, slice_get, slice_index, slice_index_or, slice_set, sum_by, vec_capacity}
pub use Rattle.std.specs.Prelude.{vec_len}
pub use Rattle.std.specs.Vec.Iter.{into_iter_items}
pub use Rattle.events.proofs.Lists.{All-at, AllPairs-head, AllPairs-nil, AllPairs-tail, filter_all, filter_none}
pub use Rattle.events.proofs.NumberLemmas.{greatest_bound, greatest_more, slice_get-below}
pub use Rattle.events.specs.Events.{events_of, is_invocation, process_of}
pub use Rattle.events.specs.Histories.{AreHistoryEvents}
pub use Rattle.events.specs.HistoryFaults.{ends_waiting}
pub use Rattle.events.specs.HistoryView.{HistoryView, with_no_start}
pub use Rattle.events.specs.Lists.{greatest}
pub use Rattle.events.specs.Logs.{Stamped, by_stamp, events_by_stamp, history_of_logs}
pub use Rattle.events.specs.declared.event.Call.{Call}
pub use Rattle.events.specs.declared.event.Event.{Event}
pub use Rattle.events.specs.declared.event.Event.TheVariants.{Answer, Invoke}
pub use Rattle.events.specs.declared.event.Reply.{Reply}
pub use Rattle.events.specs.declared.memory.Memory.{Memory}
unfoldable pub use Rattle.art_rows.specs.Act.{act}
pub use Rattle.art_rows.specs.Fits.{Fits, word_of}
pub use Rattle.art_rows.specs.Steps.{Answers, Asks, Rest, Turn, access_of, reply_of}
pub use Rattle.art_rows.specs.Table.{opening, table_words}
pub use Rattle.art_rows.specs.TreeCalls.{is_tree_call}
pub use Rattle.art_rows.specs.declared.access.Access.{Access}
pub use Rattle.art_rows.specs.declared.access.Access.TheVariants.{Add, Exchange, Load, Store}
pub use Rattle.art.specs.Doings.{FitsDoing, after_access}
pub use Rattle.art.specs.Tasks.{rest_of}
pub use Rattle.art.specs.declared.doing.Doing.TheVariants.{Answered, Going, Idle}
pub use Rattle.art_core.proofs.HistoryLemmas.{all-idle, changed-at, is-moved, logged, map-same, no-logs, nowhere, opening-length, start-clock}
pub use Rattle.art_core.proofs.RunLemmas.{begun-more, move-reached, run-on-append}
pub use Rattle.art_core.proofs.StampLemmas.{clocks-are-ahead}
pub use Rattle.art_core.proofs.StartLemmas.{no-start}
pub use Rattle.art_core.specs.Core.{Invokes, Makes, Move, Plan, Responds, State, after_move, begun, idle, invoked, move_of, moved, new_word, opened}
pub use Rattle.art_core.specs.Core.{word_of_move}
unfoldable pub use Rattle.art_core.specs.Core.{history_of}
pub use Rattle.art_core.specs.Laws.{IsClocked, MayMove, begun_plan}
pub use Rattle.art_core.specs.Plans.{IsPlan, IsRun}
pub use Rattle.art_core.specs.Runs.{Gives, HasFewSteps, run_on}
pub use Rattle.art_core.specs.declared.process.Process.{Process}
pub use Rattle.recorder.specs.Passes.{HasRecorded, calls_of, events_by, is_waiting, log_of, process_number}
pub use Rattle.recorder.specs.Recorders.{HasProcesses, IsPassOf, processes_of}
pub use Rattle.recorder.specs.declared.pass.Pass.{Pass}
pub use Rattle.running.specs.ArenaDrives.{DoesCall, DoesCalls, IsArenaDriveOf, IsLimited, alone}
pub use Rattle.running.specs.Closing.{HoldsAll, IsHandedBack, IsHistoryOf}
pub use Rattle.running.specs.Drives.{AreAnswered, HasFinished, HasStopped, IsDriveOf, calls_by, most_calls}
pub use Rattle.running.specs.Ends.{Ended, HasOwnEvents, Looks, plan_of, state_of}
pub use Rattle.running.specs.Fitting.{Fit, FitsProcess, IsBeside, IsFirst, Run, others_of}
pub use Rattle.running.specs.Groups.{IsGroupOf, opened_for, setup_with, shows}
pub use Rattle.running.specs.Linearizable.{IsLinearizableIn}
pub use Rattle.running.specs.Passes.{AnswersFit, AreAfter, AreOwn, EachIsAfter, HasRecordedScript, IsPassAfter, first_reply}
pub use Rattle.running.specs.Places.{IsPlaceOf, shown}
pub use Rattle.running.specs.Rule.{Above, AreReached, Draws, InvokesAsked, IsGiven, IsIn, Kept, MakesNextMove, Notes, Rises, Seated, both_parts}
pub use Rattle.running.specs.Rule.{first_view, given_part, kept_part, no_part, noted, times, times_in, with_asked}
pub use Rattle.running.specs.ScriptGroups.{HasAnsweredAll, HasDone, HasDoneOwn, HasStoppedIn, IsGroupAfter, IsReady, ShowsDone, WantsMemory, gathered}
pub use Rattle.running.specs.ScriptGroups.{is_pending, joined}
pub use Rattle.running.specs.Setups.{IsSetup}
pub use Rattle.running.specs.Steps.{HasInvoked, HasReplied, Ran, is_open, least_process}
pub use Rattle.running.specs.Views.{AllStamps, IsAnswered, Numbered, NumbersRise, advanced, all_idle, calls_left, invoking, is_idle, last_alone}
pub use Rattle.running.specs.Views.{left_of_first, merge, merged, moved_first, moved_if, next_in, next_of, numbers_of, open_move, placed, view}
pub use Rattle.running.specs.Views.{without_last}
pub use Rattle.running.specs.declared.arena.Arena.{Arena}
pub use Rattle.running.specs.declared.runner.Runner.{Runner}
pub use Rattle.running.specs.declared.view.Noted.{Noted}
pub use Rattle.running.specs.declared.view.Setup.{Setup}
pub use Rattle.running.specs.declared.view.View.{View}
pub use Rattle.atomic_table.proofs.Lists.{at_set, at_snoc, exchanged}
pub use Rattle.atomic_table.specs.Table.{Allows, Joins, Seen, Splits, Step, keeps, step, stepped}
