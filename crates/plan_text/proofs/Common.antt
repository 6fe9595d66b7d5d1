-- The names that most proofs of this crate cite, passed on from one place. Declares nothing.
pub use Rattle.std.proofs.Common.{Bool, Err, IfErr, IfNone, IfOk, IfSome, List, None, Ok, OnErr, Option, Result, Some, [], ap, arith, codes, false}
pub use Rattle.std.proofs.Common.{get_or, inl, inr, is_some, length, map, nat_le, nat_lt, not, refl, string_bytes, subst, suc, sym, take, true}
pub use Rattle.std.proofs.Common.{true≢false, zero, ℕ, ◌&&◌, ◌*◌, ◌++◌, ◌+◌, ◌<◌, ◌^◌, ◌∙◌, ◌∷◌, ◌≡◌, ◌≤◌}
pub use Rattle.std.proofs.lemmas.Bool.{and_parts, leb-true, ltb-true}
pub use Rattle.std.proofs.lemmas.Fmt.{length-decimal-le}
pub use Rattle.std.proofs.lemmas.List.{length-append, map_more, map_push, take_all}
pub use Rattle.std.proofs.lemmas.List.Elements.{All-head, All-tail}
pub use Rattle.std.proofs.lemmas.List.Folds.{list_all-append, list_all-map, list_all_at}
pub use Rattle.std.proofs.lemmas.List.Sums.{AllPass-from_list_all, list_all-from_AllPass, sum_by-cons}
pub use Rattle.std.proofs.lemmas.Str.{IsUtf8-string_bytes}
pub use Rattle.std.specs.List.{list_all}
pub use Rattle.std.specs.Prelude.{All, IsTrue, decimal, sum, ◌⊎◌}
pub use Rattle.art_core.specs.Starts.{inserts}
pub use Rattle.art_core.specs.declared.item.Item.{Item}
pub use Rattle.art_core.specs.declared.item.Item.TheVariants.{End, Turns, Until}
pub use Rattle.art_rows.specs.declared.table.Shape.{Shape}
pub use Rattle.art_rows.specs.TreeCalls.{is_tree_call}
pub use Rattle.art_rows.specs.declared.access.Point.{Point}
pub use Rattle.art_rows.specs.declared.access.Point.TheVariants.{Answer, Check, Child, LockRoot, LockRow, Unlock}
pub use Rattle.art_rows.specs.declared.variant.Variant.{Variant}
pub use Rattle.art_rows.specs.declared.variant.Variant.TheVariants.{Coupled, EarlyRelease, LockUnchecked, Optimistic, ReadUnchecked, ScanUnvalidated}
pub use Rattle.events.specs.PlainHistories.{has_no_pairs, is_replace}
pub use Rattle.events.specs.declared.event.Call.{Call}
pub use Rattle.events.specs.declared.event.Call.TheVariants.{Get, Insert, Remove, Replace, Scan}
pub use Rattle.history_text.proofs.DataLemmas.{IfNone-mapped, four_items, length_as, list_data_injective, list_found, object_found, three_items}
pub use Rattle.history_text.proofs.DocumentLemmas.{same_value}
pub use Rattle.history_text.proofs.TextLemmas.{call_data_injective, map_injective, pairs_injective}
pub use Rattle.history_text.proofs.WrittenLemmas.{depth-call, has_float-call, items_depth-map, items_have_float-map}
pub use Rattle.history_text.specs.JsonFaults.{IsNoJson, IsTooLong}
pub use Rattle.history_text.specs.Limits.{text_limit}
pub use Rattle.history_text.specs.Texts.{IsJson, call_data, list_data, number_data, pair_data}
pub use Rattle.map_object.specs.MapObject.{Contents, IsRising}
pub use Rattle.plans.specs.Plans.{AreFew, AreScripts, AreTreeCalls}
unfoldable pub use Rattle.serde_json.proofs.OnLiterals.{serde_json_on_literals}
pub use Rattle.serde_json.specs.Data.{Data, Members, depth, items_depth, member, no_members, object, string}
pub use Rattle.serde_json.specs.Read.{max_depth}
pub use Rattle.serde_json.specs.View.{items_of, items_view, members_view, view}
pub use Rattle.serde_json.specs.Written.{comma_if, compact_text, has_float, items_have_float, items_text, members_text}
pub use Rattle.serde_json.specs.declared.value.Value.{Value}
pub use Rattle.plan_text.specs.PlanTexts.{SpellsPlan, SpellsPlanAs, are_plain_scripts, is_plain_script, plan_data, version_of}
pub use Rattle.plan_text.specs.ReplayTexts.{ArePartsOf, Parts, SpellsReplay, SpellsReplayAs, SpellsStart, document, item_data, last_members}
pub use Rattle.plan_text.specs.ReplayTexts.{other_members, point_name, rows_data, variant_name}
pub use Rattle.plan_text.specs.ReplayViews.{shown}
pub use Rattle.plan_text.specs.Replays.{IsReplay, ReplayView, is_item, turn_limit}
pub use Rattle.plan_text.specs.Scripts.{SpellsScripts, are_scripts, is_script, is_script_call, script_data, scripts_data}
pub use Rattle.plan_text.specs.WrittenReplays.{AreHeld, is_plain, written_data, written_parts, written_start}
