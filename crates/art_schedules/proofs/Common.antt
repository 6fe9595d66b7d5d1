-- The names that most proofs of this crate cite, passed on from one place. Declares nothing.
pub use Rattle.std.proofs.Common.{Bool, List, [], ap, append_assoc, ap₂, arith, cond, drop, eq-eqb, eqb-true, false, inl, inr, length, ne_eqb}
pub use Rattle.std.proofs.Common.{option_map, refl, subst, subst₂, suc, sym, take, take-take, true, zero, ℕ, ⊎_elim, ◌%◌, ◌*◌, ◌++◌, ◌+◌, ◌-◌, ◌/◌}
pub use Rattle.std.proofs.Common.{◌<◌, ◌^◌, ◌∙◌, ◌∷◌, ◌≡◌, ◌≢◌, ◌≤◌, ◌⊎◌}
pub use Rattle.std.proofs.Math.Seq.{take-length}
pub use Rattle.std.proofs.lemmas.Bool.{and_parts, cases_Bool, cases_eq, cases_lt, cases_order, eqb-false, false_from_ne_true, false≢true, le-leb}
pub use Rattle.std.proofs.lemmas.Bool.{le-ltb, lt-leb, lt-ltb, ltb-false, ltb-true, or_from, or_left, or_right, true≢false}
pub use Rattle.std.proofs.lemmas.Bool.Decides.{nat_tests}
pub use Rattle.std.proofs.lemmas.List.{append-nil, get_or-set_other, get_or-set_same, get_or_past, length-append, length-map, length-set, length-take}
pub use Rattle.std.proofs.lemmas.List.{set-get_or, take-append-drop, take-append-le}
pub use Rattle.std.proofs.lemmas.List.Concat.{flat_map-cons}
pub use Rattle.std.proofs.lemmas.List.Elements.{All-append, All-cons, All-contains, All-drop, All-get_or, All-head, All-nil, All-push, All-set}
pub use Rattle.std.proofs.lemmas.List.Elements.{All-tail, All-take, All-weaker, Contains-append_cases, Contains-append_left, Contains-append_right}
pub use Rattle.std.proofs.lemmas.List.Kept.{AllPairs-cons, AllPairs-filter, AllPairs-from_increasing}
pub use Rattle.std.proofs.lemmas.Option.{none-some, same_Some, slice_get-map, slice_get_within}
pub use Rattle.std.specs.List.{AllZip}
pub use Rattle.std.specs.List.Sorted.{IsStrictlyIncreasing}
pub use Rattle.std.specs.Prelude.{All, AllPairs, Contains, IfSome, IsSome, IsSomeAnd, IsTrue, None, Option, Some, filter, filter_map, flat_map}
pub use Rattle.std.specs.Prelude.{if◌then◌else◌, is_some, map, min, nat_le, nat_lt, set, slice_get, slice_index, slice_set, unwrap_or, ◌&&◌, ◌==◌}
pub use Rattle.std.specs.Prelude.{◌↔◌}
pub use Rattle.events.proofs.FilterLemmas.{Contains-filter, Contains-from_filter}
pub use Rattle.events.proofs.Lists.{All-at, All-from_contains, AllPairs-append, AllPairs-head, AllPairs-nil, AllPairs-tail, Contains-cases}
pub use Rattle.events.proofs.Lists.{Contains-first, Contains-later, Contains-nil, place_of-Contains}
pub use Rattle.events.proofs.NumberLemmas.{slice_get-below}
pub use Rattle.events.specs.Events.{process_of}
pub use Rattle.events.specs.Limits.{call_limit, pair_limit}
pub use Rattle.events.specs.Operations.{operations}
pub use Rattle.events.specs.Precedence.{is_before, is_completed, precedes}
pub use Rattle.events.specs.declared.event.Call.{Call}
pub use Rattle.events.specs.declared.event.Call.TheVariants.{Get, Insert, Remove, Replace, Scan}
pub use Rattle.events.specs.declared.event.Event.{Event}
pub use Rattle.events.specs.declared.event.Event.TheVariants.{Answer, Invoke}
pub use Rattle.events.specs.declared.event.Reply.{Reply}
pub use Rattle.events.specs.declared.operation.Operation.{Operation}
pub use Rattle.events.specs.declared.operation.Response.{Response}
pub use Rattle.map_object.proofs.TellLemmas.{after_reply-answer}
pub use Rattle.map_object.specs.MapObject.{Contents, Does, IsLegalReply, IsRising, above, after, after_reply, is_just, put, reply_to, value_at}
pub use Rattle.map_object.specs.MapObject.{within}
pub use Rattle.orders.proofs.LegalLemmas.{legal_from_DoesCall}
pub use Rattle.orders.proofs.OrderLemmas.{after_calls-append, calls_at-append, calls_at-push}
pub use Rattle.orders.specs.Leads.{DoesCall}
pub use Rattle.orders.specs.Orders.{IsLegal, IsOrder, after_calls, calls_at}
pub use Rattle.art_rows.proofs.AccessLemmas.{not_full}
pub use Rattle.art_rows.proofs.ByteLemmas.{entry_list-most, key_byte-small, keys16-few, keys4-few, low_byte-small, place-within}
pub use Rattle.art_rows.proofs.KindLemmas.{claims-few, code-few, first-some, first-two, keys-within, seven-words, some-words, two-words}
pub use Rattle.art_rows.proofs.ReaderLemmas.{most_of}
pub use Rattle.art_rows.proofs.TurnLemmas.{add-store, answers-asks, answers-same, asks-answers, asks-same, exchange-store, exchange-word}
pub use Rattle.art_rows.proofs.TurnLemmas.{exchanges-same, load-add, load-exchange, load-store, load-word, loads-same, store-add, store-exchange}
pub use Rattle.art_rows.proofs.TurnLemmas.{store-word, stores-same}
pub use Rattle.art_rows.proofs.WriterLemmas.{length-keys16, length-keys4, new_place-most}
unfoldable pub use Rattle.art_rows.specs.Act.{act, procedure}
pub use Rattle.art_rows.specs.Fits.{word_of}
unfoldable pub use Rattle.art_rows.specs.Optimistic.{step_down}
pub use Rattle.art_rows.specs.Rows.{Place, Setting, byte_at, is_full, is_insert, is_scan, key_of, leaves_out_check, lock_point, locks}
pub use Rattle.art_rows.specs.Rows.{path_differs_at, releases_early, root_row, row_of, takes_unchecked}
unfoldable pub use Rattle.art_rows.specs.Rows.{check, check_of, claim, find, find_among, find_child, find_in, find_indexed, load_child, lock}
unfoldable pub use Rattle.art_rows.specs.Rows.{take_row, unlock, unlock_all, unlock_obsolete, wait}
pub use Rattle.art_rows.specs.Scan.{Walked, bytes_of, can_lie, enter, has_row, with_leaf, with_row}
unfoldable pub use Rattle.art_rows.specs.Scan.{walk_child, walk_from, walk_in}
pub use Rattle.art_rows.specs.Steps.{Answers, Asks, Part, Rest, Turn, access, add, answer, each, exchange, first_at, give, load, load_at, marked}
pub use Rattle.art_rows.specs.Steps.{numbers, numbers_down, over, reply_of, start_again, store, store_at, ◌>>=◌, ◌>>◌}
pub use Rattle.art_rows.specs.Table.{IsWithinLimits, base_of, capacity, child_at, claims_of, clock, count_at, first_base, first_child, index_at}
pub use Rattle.art_rows.specs.Table.{info_at, is_base_of, keys_at, kind_at, more_keys_at, opening, root_base, row_words, rows_of, table_words}
pub use Rattle.art_rows.specs.TreeCalls.{is_tree_call}
pub use Rattle.art_rows.specs.Updates.{Under, keys_differ_at, new_entry, new_leaf, next_kind, overwriting, store_child}
unfoldable pub use Rattle.art_rows.specs.Updates.{copy_child, fill, grow, insert_beside, insert_in, make_room, pair, pair_in, put_in, spread_entry}
unfoldable pub use Rattle.art_rows.specs.Updates.{spread_index, store_index}
pub use Rattle.art_rows.specs.Words.{child_of, child_word, count_of, entries_of, entries_word, entry_of, first_difference, info_of, info_word}
pub use Rattle.art_rows.specs.Words.{is_locked, is_obsolete, key_bytes, keys16_of, keys16_word, keys4_of, keys4_word, kind_code, leaf_word}
pub use Rattle.art_rows.specs.Words.{locked_word, low_bytes, more_keys16_word, new_place, obsolete_word, packed, place_of, released_word, row_child}
pub use Rattle.art_rows.specs.Words.{row_word, with_key}
pub use Rattle.art_rows.specs.declared.access.Access.{Access}
pub use Rattle.art_rows.specs.declared.access.Access.TheVariants.{Add, Exchange as Swap, Load, Store}
pub use Rattle.art_rows.specs.declared.access.Point.{Point}
pub use Rattle.art_rows.specs.declared.table.Child.{Child}
pub use Rattle.art_rows.specs.declared.table.Child.TheVariants.{Empty, Leaf, Row, Row as ChildRow}
pub use Rattle.art_rows.specs.declared.table.Kind.{Kind}
pub use Rattle.art_rows.specs.declared.table.Kind.TheVariants.{FortyEight, Four, Full, Sixteen}
pub use Rattle.art_rows.specs.declared.table.Shape.{Shape}
pub use Rattle.art_rows.specs.declared.variant.Variant.{Variant}
pub use Rattle.art_rows.specs.declared.variant.Variant.TheVariants.{Coupled, Optimistic}
pub use Rattle.art_control_states.proofs.BehindLemmas.{behind, call_next}
pub use Rattle.art_control_states.specs.Automaton.{after_with, among_at, arrived_at, below_at, beside_work, between_turn, checked_at, copies_at}
pub use Rattle.art_control_states.specs.Automaton.{end_at, entered_at, entries_at, fill_at, find_at, find_turn, found_at, grow_count_turn}
pub use Rattle.art_control_states.specs.Automaton.{grow_keys_turn, grow_leaf_turn, grow_unlocked, hold_alone, indexed_at, insert_coupled}
pub use Rattle.art_control_states.specs.Automaton.{insert_unlocked, keys_at_after, keys_one, leaf_after, leaf_work, let_go_at, moves_at, no_value}
pub use Rattle.art_control_states.specs.Automaton.{overwrite_at, overwrite_unlocked, pair_after, pair_turn, pair_work, place_coupled, put_at}
pub use Rattle.art_control_states.specs.Automaton.{put_keys_after, put_keys_turn, release_at, seek_coupled, seek_unlocked, spreads_at, stage_after}
pub use Rattle.art_control_states.specs.Automaton.{start_at, store_of, take_alone, taken_at, turn_at, work_at}
pub use Rattle.art_control_states.specs.Calls.{CallAt, OnKey, OnScan, after_all, begun_as, call_after, call_after_words, call_begun, call_turn}
pub use Rattle.art_control_states.specs.Calls.{rest_at}
pub use Rattle.art_control_states.specs.Scans.{ScanAt, Walk, at, bytes_at, child_after, child_from, close_at, entry_at, entry_base, frame_at}
pub use Rattle.art_control_states.specs.Scans.{frame_of, in_word, index_at_list, keys16, keys_after_word, keys_turn, lies, on_way, place_slot}
pub use Rattle.art_control_states.specs.Scans.{release_rows, resume_at, scan_after, scan_start, scan_turn, slot_at, step_after, visit_at, visit_list}
pub use Rattle.art_control_states.specs.Scans.{walked, way_at, with_frame, with_held, word_test, words_at}
pub use Rattle.art_control_states.specs.Stages.{byte_in, count_in, finish, held, keys_after, keys_among, keys_in, leaf_place, new_child, old_child}
pub use Rattle.art_control_states.specs.Stages.{place_in, reply_for, root_place, row_at, rows_at, rows_held, setting, value_reply}
unfoldable pub use Rattle.art_control_states.specs.Stages.{part_of, rest_in}
pub use Rattle.art_control_states.specs.declared.stage.Down.{Down}
pub use Rattle.art_control_states.specs.declared.stage.Entry.{Entry}
pub use Rattle.art_control_states.specs.declared.stage.Finding.{Finding}
pub use Rattle.art_control_states.specs.declared.stage.Finding.TheVariants.{Has, Lacks}
pub use Rattle.art_control_states.specs.declared.stage.Frame.{Frame}
pub use Rattle.art_control_states.specs.declared.stage.Growing.{Growing}
pub use Rattle.art_control_states.specs.declared.stage.HeldRow.{HeldRow}
pub use Rattle.art_control_states.specs.declared.stage.Hold.{Hold}
pub use Rattle.art_control_states.specs.declared.stage.Keys.{Keys, Keys as KeyWords}
pub use Rattle.art_control_states.specs.declared.stage.Outcome.{Outcome}
pub use Rattle.art_control_states.specs.declared.stage.Outcome.TheVariants.{Refused, Value}
pub use Rattle.art_control_states.specs.declared.stage.Pair.{Pair}
pub use Rattle.art_control_states.specs.declared.stage.PairWord.{PairWord}
pub use Rattle.art_control_states.specs.declared.stage.Position.{Position}
pub use Rattle.art_control_states.specs.declared.stage.ScanStep.{ScanStep}
pub use Rattle.art_control_states.specs.declared.stage.ScanStep.TheVariants.{Child as LoadChild, FirstKeys, Index, Release, SecondKeys}
pub use Rattle.art_control_states.specs.declared.stage.Spread.{Spread}
pub use Rattle.art_control_states.specs.declared.stage.Stage.{Stage}
pub use Rattle.art_control_states.specs.declared.stage.Stage.TheVariants.{Between, Check, CheckLast, ClaimGrow, ClaimPair, Exchange, Find, FindCount}
pub use Rattle.art_control_states.specs.declared.stage.Stage.TheVariants.{FindKeys, FindMore, GrowCount, GrowInfo, GrowKeys, GrowLeaf, GrowLoad}
pub use Rattle.art_control_states.specs.declared.stage.Stage.TheVariants.{GrowStore, Hang, Info, Leave, LetGo, Lock, Obsolete, Over, PutCount}
pub use Rattle.art_control_states.specs.declared.stage.Stage.TheVariants.{PutKeys, PutLeaf, PutLoad, PutMore, PutStore, Slot, SpreadIndex, SpreadLoad}
pub use Rattle.art_control_states.specs.declared.stage.Stage.TheVariants.{SpreadStore, StorePair, Take, Unlock, Wait, Write}
pub use Rattle.art_control_states.specs.declared.stage.Taking.{Taking}
pub use Rattle.art_control_states.specs.declared.stage.Target.{Target}
pub use Rattle.art_control_states.specs.declared.stage.Target.TheVariants.{Below, Root, Taken}
pub use Rattle.art_control_states.specs.declared.stage.Work.{Work}
pub use Rattle.art_core.proofs.HistoryLemmas.{IsLogged, all-idle, changed-at, is-moved, logged, nowhere, opened-logged, start-clock, start-length}
pub use Rattle.art_core.proofs.HistoryLemmas.{steps-rise}
pub use Rattle.art_core.proofs.RunLemmas.{begun-more, run-on-append}
pub use Rattle.art_core.proofs.StartLemmas.{run-steps}
pub use Rattle.art_core.specs.Accesses.{changed, got_by, told, words_after}
pub use Rattle.art_core.specs.Claims.{CoupledIsLinearizable, OptimisticIsLinearizable}
pub use Rattle.art_core.specs.Core.{Invokes, Move, Plan, Responds, State, after_move, answered, begun, idle, invocation, invoked, known_reply}
pub use Rattle.art_core.specs.Core.{move_from, move_of, moved, moved_by, new_word, next_call, next_in, next_move, opened, opened_on, word_of_move}
unfoldable pub use Rattle.art_core.specs.Core.{history_of, step}
pub use Rattle.art_core.specs.Forms.{HasForm, IsTree, level_in, path_in}
pub use Rattle.art_core.specs.Meaning.{Hangs, Means, Reached, below, child_in, child_on, entry_slot, pairs_below, pairs_in, root, slot_of}
pub use Rattle.art_core.specs.Moments.{BeginsAttempt, Enters, HasGot}
pub use Rattle.art_core.specs.Plans.{IsPlan, IsRun, IsSerial}
pub use Rattle.art_core.specs.Runs.{At, Gives, HasFewSteps, run_on}
pub use Rattle.art_core.specs.Starts.{StartsOn, inserts, start_plan}
pub use Rattle.art_core.specs.declared.process.Process.{Process}
pub use Rattle.art_schedules.specs.alone.Alone.{Comes, RunsAlone, accesses, ends, goes, unlocked_rows}
pub use Rattle.art_schedules.specs.alone.Finding.{count_in_row, found_in, found_of_slot, keys_in_row}
pub use Rattle.art_schedules.specs.alone.Laws.{SeeksAreTheMaps, is_seek}
pub use Rattle.art_schedules.specs.calls.Effects.{ChangesNothing, ChangesOnce, HasOwnEffect, HaveEffects, IsInCallAt, IsStepOf, Pends}
pub use Rattle.art_schedules.specs.calls.Laws.{EffectsGiveOrders, FrontsHaveMoments, MomentsEndRuns, RunsHaveCalls}
pub use Rattle.art_schedules.specs.calls.RunCalls.{EndsAt, EndsWith, HasCalls, IsIn, IsRunCall, IsWithin, RunCall, last_step}
pub use Rattle.art_schedules.specs.calm.Calm.{IsCalm, is_busy}
unfoldable pub use Rattle.art_schedules.specs.calm.Calm.{calm_after, calm_of}
pub use Rattle.art_schedules.specs.calm.Changes.{AsksFor, CalmChange, CalmFilled, CalmReleased, CalmStays, CalmStep, HoldsThen, RowChange, RowFilled}
pub use Rattle.art_schedules.specs.calm.Changes.{RowReleased, RowTaken, RowWritten, RowsStay}
pub use Rattle.art_schedules.specs.changes.Courses.{ComesInBy, IsGoneBy, IsStill, TreeGoesOn, pairs_by}
pub use Rattle.art_schedules.specs.changes.Effects.{ComesIn, Effect, Fills, HangsGrown, HangsPair, HasEffect, IsGone, Keeps, PutsLeaf, RemovesLeaf}
pub use Rattle.art_schedules.specs.changes.Effects.{base_of_effect, kind_of_effect}
pub use Rattle.art_schedules.specs.changes.Follows.{Follows, HasFewClaims, KeepsTree}
pub use Rattle.art_schedules.specs.changes.Laws.{EffectsFollow, KeptTreesFollow, WaysSayValues}
pub use Rattle.art_schedules.specs.changes.Rows.{HasNewChild, OneRow}
pub use Rattle.art_schedules.specs.changes.Sayings.{IsSaidBy}
pub use Rattle.art_schedules.specs.changes.Written.{HasWordAt, IsUnreached}
pub use Rattle.art_schedules.specs.coupled.Good.{GoodRowsStay, HoldsGood, OthersLeaveGood, SeekersAreNotAnswered, TakesReached, WaysTakeReached}
pub use Rattle.art_schedules.specs.coupled.Knows.{IsHeldLive, KnowsAt, KnowsInfo, KnowsReply, KnowsTarget}
pub use Rattle.art_schedules.specs.coupled.Laws.{CallsBegin, CallsGoOn, CallsStay, FoundIsAnswered, ObsoleteRowsLeave, OthersLeaveWays, RestsHaveNone}
pub use Rattle.art_schedules.specs.coupled.Laws.{WaysTakeLive}
pub use Rattle.art_schedules.specs.coupled.Moments.{HeldAreLive, IsCoupledStep, IsLeaving, LeavesBy, MakesLeave, ObsoleteLeave, TakesLive}
pub use Rattle.art_schedules.specs.coupled.Scanning.{KnowsEntry, KnowsFrame, KnowsStep, KnowsTree, KnowsWords, StaysAt}
pub use Rattle.art_schedules.specs.coupled.Walks.{Alone, IsOfRows, IsOver, SameOn, WalksAreTheMaps}
pub use Rattle.art_schedules.specs.coupled_runs.CoupledFits.{CoupledFits, HasNone, IsWorking, OfScans, ghosts_with}
pub use Rattle.art_schedules.specs.coupled_runs.KeptScans.{ScansAreKept}
pub use Rattle.art_schedules.specs.coupled_runs.Linear.{HaveScans, LedAreLinearizable}
pub use Rattle.art_schedules.specs.effects.AtWork.{Answering, AtEnd, AtWork, Claiming, FillsAt, Going, Gone, Hanging, HasFilledFresh, HasNew}
pub use Rattle.art_schedules.specs.effects.AtWork.{IsClaiming, IsEffectOf, IsGoing, IsHanging, IsOld, IsPending, IsReleasing, Last, Leaving, Lower}
pub use Rattle.art_schedules.specs.effects.AtWork.{claims_row, fresh_of, growing_at, hold_at, writes_at}
pub use Rattle.art_schedules.specs.effects.Begins.{BeginsWork, IsOverwritten, upper_of, upper_row}
pub use Rattle.art_schedules.specs.effects.Laws.{EndersGoOn, LeaversStep, ObsoleteRowsHang, OthersKeepEnds, OthersKeepMarked, OthersKeepWork}
pub use Rattle.art_schedules.specs.effects.Laws.{WorkBegins, WorkersGoOn, WorkersMayHaveNoMark, WorkersOnlyWork, WorkersStep}
pub use Rattle.art_schedules.specs.effects.Marks.{EnderStep, IsMarked, IsMarkedBy, WorkerStep, obsolete_by}
pub use Rattle.art_schedules.specs.effects.Outcomes.{Answers as AnswersNow, AreTwoRows, EndStep, HoldsReached, IsOther, IsRefused, Leaves, Makes}
pub use Rattle.art_schedules.specs.effects.Outcomes.{TakesEffect, WorkStep}
pub use Rattle.art_schedules.specs.inserts.Laws.{InsertsAreTheMaps}
pub use Rattle.art_schedules.specs.inserts.Settled.{IsAfterInsert, IsInside, IsNew, IsNewRow, IsReleased}
pub use Rattle.art_schedules.specs.locked_scans.Laws.{FoundScansAnswer, FoundScansStay, OthersLeaveScans, OthersLeaveTrees, ScansBegin, ScansComeOn}
pub use Rattle.art_schedules.specs.locked_scans.Laws.{ScansTakeLive, ScansTakeReached, WalkedScansFind, WalkingScansAsk}
pub use Rattle.art_schedules.specs.locked_scans.Walking.{HasWalked, ScanComes, ScanGoes, ScanStays, rows_of_scan, unwaited}
pub use Rattle.art_schedules.specs.moments.Attempts.{IsValidated}
pub use Rattle.art_schedules.specs.moments.Gets.{IsCheckedGet}
pub use Rattle.art_schedules.specs.moments.Times.{GotAt}
pub use Rattle.art_schedules.specs.optimistic.Goes.{Agrees, Gets, Goes, GoesOn}
pub use Rattle.art_schedules.specs.optimistic.Knows.{AllStand, HangsBelow, IsBelow, IsCurrent, IsHeldReached, IsPast, IsReachedHere, KnowsPlace}
pub use Rattle.art_schedules.specs.optimistic.Knows.{KnowsStage, KnowsWay, hold_taken}
pub use Rattle.art_schedules.specs.optimistic.Laws.{WaysBegin}
pub use Rattle.art_schedules.specs.optimistic.Steps.{OtherStepsKeepWays, OwnFindingsStay, OwnStepsGoOn, QuietStepsKeepTrees, ScansStoreNothing}
pub use Rattle.art_schedules.specs.optimistic.Steps.{StepsOn}
pub use Rattle.art_schedules.specs.optimistic_runs.OptimisticFits.{Finds, Ghosts, IsFit, IsWorld, OptimisticFits, Seeks, Walks, Works}
pub use Rattle.art_schedules.specs.points.Points.{AllKeep, HasPoint, HasPoints, OneLeads, TakeEffect}
pub use Rattle.art_schedules.specs.scan_points.ScanPoints.{AnsweredScansHavePoints}
pub use Rattle.art_schedules.specs.serial.Serial.{IsDone, IsRunOn, SerialRun, calls_in, more, none, sole_plan, ticked}
pub use Rattle.art_schedules.specs.stories.Fitting.{AllFit, AnswersCall, AreLed, BeginsCall, Changes, FindsAt, FindsNow, Forgets, HasItsReply}
pub use Rattle.art_schedules.specs.stories.Fitting.{IsLedOn, IsTraceStep, MakesAccess, MeansAt, Next, OfCall, OfState, OwnStep, Stays, set_at}
pub use Rattle.art_schedules.specs.stories.Fitting.{the_plan}
pub use Rattle.art_schedules.specs.stories.Laws.{StartsAreAtRest, StoriesGiveOrders}
pub use Rattle.art_schedules.specs.stories.Stories.{Before, Changed, Found, HasKept, HasNotChanged, HasReply, HasStatus, IsInCall, IsOwnStep, IsStory}
pub use Rattle.art_schedules.specs.stories.Stories.{Status, Trace}
pub use Rattle.art_schedules.specs.trees.Children.{ChildrenAreRead}
pub use Rattle.art_schedules.specs.trees.Trees.{AreZeroPastClaims, ChangesAt, GrownRowsAreHung, HasRowInPlace, HasRowMore, HasRows, IsAtRest}
pub use Rattle.art_schedules.specs.trees.Trees.{IsClaimed, IsFree, IsGrown, IsPair, IsUnused, KeysPart, LeadsTo, LeavesArePut, LeavesAreRemoved}
pub use Rattle.art_schedules.specs.trees.Trees.{LeavesAreSmall, MapsAreOne, PairsAreHung, Parts, SameRow, SameTreesAreOne, TablesOpenAtRest}
pub use Rattle.art_schedules.specs.trees.Trees.{TreesAreWalked, WaysLeadToValues}
pub use Rattle.art_schedules.specs.versions.Effects.{AccessDoes, Answered, Claims, Ends, Has as Leads, IsAfterVersion, IsAmong, IsGoodAt, IsWith}
pub use Rattle.art_schedules.specs.versions.Effects.{Reads, Releases, Takes, With, Writes}
pub use Rattle.art_schedules.specs.versions.Holding.{Each, FitsFrame, FitsPlace, FitsScan, FitsStage, FitsWork, HangsIn, HasSlot, IsFound, IsKept}
pub use Rattle.art_schedules.specs.versions.Holding.{IsNamed, IsSlot, IsUnder, IsVersion, Knows, KnowsKey, KnowsRows, KnowsScanRows, Named, OfRows}
pub use Rattle.art_schedules.specs.versions.Holding.{child_rows, fills, holds, kept_at_place, kept_below, optimistic, row_filled, rows_found}
pub use Rattle.art_schedules.specs.versions.Holding.{rows_kept, rows_of_work}
pub use Rattle.art_schedules.specs.versions.Laws.{IsFull}
pub use Rattle.art_schedules.specs.versions.Locking.{all_of, held_at_place, held_at_stage, held_below, lock_of, locks_of, rows_of_hold}
pub use Rattle.art_schedules.specs.versions.Locking.{rows_of_target, scan_held, scan_locked}
pub use Rattle.art_schedules.specs.versions.Steady.{IsSteady, SameWords}
pub use Rattle.art_schedules.specs.versions.Versions.{AreDistinct, IsAtStage, IsHeld, IsOpen, IsSettled, IsSound, filled_by, held_by, stage_of}
pub use Rattle.art_schedules.specs.versions.Writers.{MayWrite, WritesOwn}
pub use Rattle.art_schedules.specs.walks.Walks.{ScansAreTheMaps}
pub use Rattle.art_schedules.specs.words.Keys.{place_moved}
pub use Rattle.art_schedules.specs.words.Laws.{VersionsSay, WordsAreReadBack, WordsAreSmall}
pub use Rattle.art_schedules.specs.words.Stored.{IsShort, IsStored}
pub use Rattle.art_schedules.specs.work.Laws.{WorkIsDone}
pub use Rattle.art_schedules.specs.work.Own.{ClaimsRow, IsHeldWord, IsWalked, LoadsHeld, ReadsHeld, ReadsWalked, ReleasesHeld, Replies, StoresOwn}
pub use Rattle.art_schedules.specs.work.Own.{TouchesOwn, is_claim, is_lock, is_work, may_release}
pub use Rattle.art_schedules.specs.work.Solo.{Solo, Step, Suits, claims, further, here, loads, stores}
pub use Rattle.art_schedules.specs.work.Ways.{HangsOnWay, HasChild, IsInTree, IsOnWay, IsSame, KnowsFinding, KnowsKeys, slot_in}
pub use Rattle.art_schedules.specs.work.Works.{FitsWords, GrownHangs, IsDoneBy, IsInsert, IsRelease, IsWorkDone, LacksByte, PairHangs, RowsOf}
pub use Rattle.art_schedules.specs.writes.Writes.{AreSmall, HasGrown, HasPair, HasPut, HasSameFields, IsApart, IsBeside, IsOutside, fresh_base}
