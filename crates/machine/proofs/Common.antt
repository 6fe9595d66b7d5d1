-- The names that most proofs of this crate cite, passed on from one place. Declares nothing.
pub use Rattle.std.proofs.Common.{Bool, IfOk, IsTrue, List, [], ap, append_assoc, arith, eq-eqb, eqb-true, false, get_or, inl, inr, length, map}
pub use Rattle.std.proofs.Common.{nat_eq, not, refl, rules, set, subst, suc, sum, sym, take, true, zero, ℕ, ⊎_elim, ◌%◌, ◌*◌, ◌++◌, ◌+◌, ◌-◌, ◌<◌}
pub use Rattle.std.proofs.Common.{◌^◌, ◌∙◌, ◌∷◌, ◌≡◌, ◌≤◌, ◌⊎◌}
pub use Rattle.std.proofs.Math.Logic.{∥∥₁_elim, ∥∥₁_map}
pub use Rattle.std.proofs.Props.{props}
pub use Rattle.std.proofs.lemmas.List.{append-nil, flat_map_more, get_or-map, length-append, length-map, length-replicate, length-set, take_all}
pub use Rattle.std.proofs.lemmas.List.{take_more, with_items_is}
pub use Rattle.std.proofs.lemmas.List.Elements.{Contains-get_or, Contains-push_cases, filter_map-append}
pub use Rattle.std.proofs.lemmas.Option.{none-some, same_Some, slice_get-get_or, slice_get_past, slice_get_within}
pub use Rattle.std.proofs.lemmas.Result.{IfOk-weaker, err_from_is_err_and}
pub use Rattle.std.specs.Prelude.{All, Contains, IsSome, IsSomeAnd, None, Option, Some, filter_map, flat_map, is_some, replicate, slice_get}
pub use Rattle.std.specs.Prelude.{slice_index, slice_set, ◌↔◌, ◌≢◌}
pub use Rattle.art.proofs.DoingLemmas.{fits-after, next-asks}
pub use Rattle.art.specs.Doings.{FitsDoing, IsFor, after_access}
pub use Rattle.art.specs.Tasks.{rest_of}
pub use Rattle.art.specs.declared.doing.Doing.TheVariants.{Answered, Going, Idle}
pub use Rattle.art.specs.declared.task.Task.{Task}
pub use Rattle.art_core.proofs.HistoryLemmas.{all-idle, logs-are-history, one-step, run-lengths, start-length}
pub use Rattle.art_core.specs.Core.{Invokes, Makes, Plan, Responds, State, after_move, answered, begun, finished, idle, invocation, invoked}
pub use Rattle.art_core.specs.Core.{move_from, move_of, moved, moved_by, next_in, next_move, opened, opened_on, step_of, word_of_move}
unfoldable pub use Rattle.art_core.specs.Core.{history_of, step}
pub use Rattle.art_core.specs.NamedTurns.{AreMade, WantsTurn, finished_count, next_point, point_in, process_of_item}
pub use Rattle.art_core.specs.Plans.{IsPlan, IsRun, IsSerial}
pub use Rattle.art_core.specs.Starts.{AreInsertedIn, inserts, start_plan}
pub use Rattle.art_core.specs.declared.item.Item.{Item}
pub use Rattle.art_core.specs.declared.item.Item.TheVariants.{End, Turns, Until}
pub use Rattle.art_core.specs.declared.process.Process.{Process}
pub use Rattle.art_rows.specs.declared.table.Shape.{Shape}
pub use Rattle.art_rows.specs.Steps.{Rest, access_of, reply_of}
pub use Rattle.art_rows.specs.TreeCalls.{is_tree_call}
pub use Rattle.art_rows.specs.declared.variant.Variant.{Variant}
pub use Rattle.events.specs.Histories.{AreHistoryEvents}
pub use Rattle.events.specs.HistoryView.{HistoryView}
pub use Rattle.events.specs.Starts.{IsStart}
pub use Rattle.events.specs.declared.event.Call.{Call}
pub use Rattle.events.specs.declared.event.Call.TheVariants.{Insert}
pub use Rattle.events.specs.declared.event.Reply.{Reply}
pub use Rattle.events.proofs.Lists.{All-at, All-from_contains}
pub use Rattle.events.proofs.NumberLemmas.{slice_get-below, some_at}
pub use Rattle.events.specs.Logs.{Stamped, events_by_stamp}
pub use Rattle.map_object.specs.MapObject.{Contents}
pub use Rattle.plans.specs.declared.fault.MachineFault.{MachineFault}
pub use Rattle.machine.specs.Fitting.{Advances, AreFor, FitsProcess, Moves, ShowsState}
pub use Rattle.machine.specs.Machines.{IsReached, Shows, start_of, turns_left}
pub use Rattle.machine.specs.Refusals.{HasMove, IsRefusedIn}
pub use Rattle.machine.specs.Running.{HasMadeAll, HasMadeItem, HasStoppedAt, HasStoppedIn, IsOpened, plan_of}
pub use Rattle.machine.specs.UnderWay.{IsUnderWay}
pub use Rattle.machine.specs.Working.{HasNothingToDo}
pub use Rattle.machine.specs.declared.machines.Machine.{Machine}
pub use Rattle.machine.specs.declared.runner.Runner.{Runner}
