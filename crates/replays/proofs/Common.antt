-- The names that most proofs of this crate cite, passed on from one place. Declares nothing.
pub use Rattle.std.proofs.Common.{Bool, Err, IfErr, IfOk, List, Ok, Result, [], ap, arith, false, get_or, if◌then◌else◌, inl, inr, length}
pub use Rattle.std.proofs.Common.{length-append, map, refl, subst, suc, sum, sym, take, true, zero, ℕ, ⊎_elim, ◌++◌, ◌+◌, ◌<◌, ◌∙◌, ◌∷◌, ◌≡◌, ◌≤◌}
pub use Rattle.std.proofs.Common.{◌⊎◌}
pub use Rattle.std.proofs.lemmas.List.{length-map, length-replicate, take_all, take_more}
pub use Rattle.std.proofs.lemmas.Option.{same_Some, slice_get_past, slice_get_within}
pub use Rattle.std.specs.Prelude.{IfSome, IsSome, IsSomeAnd, None, Option, Some, is_some, replicate, slice_get, ◌≢◌}
pub use Rattle.art_core.proofs.HistoryLemmas.{all_steps, nowhere, one-step, run-lengths}
pub use Rattle.art_core.proofs.RunLemmas.{run-on-append}
pub use Rattle.art_core.specs.Claims.{CoupledIsLinearizable, OptimisticIsLinearizable}
pub use Rattle.art_core.specs.Core.{Move, Plan, State, idle, next_move, opened, opened_on}
unfoldable pub use Rattle.art_core.specs.Core.{history_of, step}
pub use Rattle.art_core.specs.Plans.{IsPlan, IsRun}
pub use Rattle.art_core.specs.Runs.{Gives, run_on}
pub use Rattle.art_core.specs.Starts.{StartsOn}
pub use Rattle.art_core.specs.declared.item.Item.{Item}
pub use Rattle.art_core.specs.declared.process.Process.{Process}
pub use Rattle.events.specs.HistoryView.{HistoryView}
pub use Rattle.machine.specs.Machines.{Shows, turns_left}
pub use Rattle.machine.specs.NextSteps.{next_step_of, step_by}
pub use Rattle.machine.specs.Refusals.{HasMove, IsRefusedIn}
pub use Rattle.machine.specs.Running.{HasStoppedAt, IsOpened, plan_of}
pub use Rattle.machine.specs.declared.machines.Machine.{Machine}
pub use Rattle.map_object.specs.MapObject.{Contents}
pub use Rattle.plan_text.specs.Replays.{IsReplay, ReplayView, plan_in}
pub use Rattle.plans.specs.declared.fault.MachineFault.{MachineFault}
pub use Rattle.replays.specs.Drawn.{Name}
pub use Rattle.replays.specs.Played.{IsUnplayedFor, IsUnrecorded, Plays, Records, StopsAt, is_memory}
pub use Rattle.replays.specs.Rest.{DoesNotGoOn, NoneGoesOn}
