-- The names that most proofs of this crate cite, passed on from one place. Declares nothing.
pub use Rattle.std.proofs.Common.{Bool, List, [], ap, arith, cond, eq-eqb, false, get_or-set_other, get_or-set_same, inl, inr, length, map, refl}
pub use Rattle.std.proofs.Common.{subst, suc, sym, true, zero, ℕ, ◌%◌, ◌*◌, ◌++◌, ◌+◌, ◌<◌, ◌^◌, ◌∙◌, ◌∷◌, ◌≡◌, ◌≢◌, ◌≤◌}
pub use Rattle.std.proofs.lemmas.List.{length-append, length-set}
pub use Rattle.std.proofs.lemmas.List.Elements.{All-nil, filter_map-append}
pub use Rattle.std.proofs.lemmas.List.Sums.{sum-map, sum_by-cons, sum_by-set}
pub use Rattle.std.proofs.lemmas.Option.{get_or_from_slice_get, none-some, same_Some, slice_get_within}
pub use Rattle.std.specs.List.{AllZip}
pub use Rattle.std.specs.Prelude.{All, None, Option, Some, filter_map, flat_map, is_some, replicate, slice_get, slice_index, slice_set, sum_by}
pub use Rattle.art_core.specs.Core.{Invokes, Makes, Move, Plan, Responds, State, after_move, answered, begun, idle, invocation, invoked}
pub use Rattle.art_core.specs.Core.{move_from, move_of, moved, moved_by, next_call, next_in, next_move, opened, opened_on, step_of, word_of_move}
unfoldable pub use Rattle.art_core.specs.Core.{history_of, step}
pub use Rattle.art_core.specs.NamedTurns.{AreMade, IsMadeWhole, WantsTurn, process_of_item}
pub use Rattle.art_core.specs.Plans.{IsPlan}
pub use Rattle.art_core.specs.Runs.{Gives, run_on}
pub use Rattle.art_core.specs.Starts.{StartsOn, start_plan}
pub use Rattle.art_core.specs.declared.item.Item.{Item}
pub use Rattle.art_core.specs.declared.process.Process.{Process}
pub use Rattle.art_rows.specs.Table.{opening, table_words}
pub use Rattle.art_rows.specs.declared.table.Shape.{Shape}
pub use Rattle.art_rows.proofs.AccessLemmas.{act-stays}
unfoldable pub use Rattle.art_rows.specs.Act.{act}
pub use Rattle.art_rows.specs.Fits.{word_of}
pub use Rattle.art_rows.specs.Steps.{Answers, Asks, Turn}
pub use Rattle.art_rows.specs.declared.access.Point.{Point}
pub use Rattle.art_rows.specs.declared.variant.Variant.{Variant}
pub use Rattle.events.specs.declared.event.Call.{Call}
pub use Rattle.events.specs.declared.event.Event.TheVariants.{Answer, Invoke}
pub use Rattle.events.proofs.ZipLemmas.{zip_left}
pub use Rattle.events.proofs.GrowthLemmas.{AreBelow}
pub use Rattle.events.specs.Logs.{Stamped}
