-- The names that most proofs of this crate cite, passed on from one place. Declares nothing.
pub use Rattle.std.proofs.Common.{All, Bool, List, None, Option, Some, [], ap, ap₂, arith, cond, drop, false, inl, inr, is_some, length, map, not}
pub use Rattle.std.proofs.Common.{refl, subst, suc, sym, take, true, ℕ, ⊎_elim, ◌*◌, ◌++◌, ◌+◌, ◌<◌, ◌||◌, ◌∙◌, ◌∷◌, ◌≡◌, ◌≤◌, ◌⊎◌}
pub use Rattle.std.proofs.lemmas.Bool.{cases_lt, le-ltb, leb-true, lt-leb}
pub use Rattle.std.proofs.lemmas.List.{length-take-le, map-append, map_more, take-append-drop, take_all, take_more}
pub use Rattle.std.proofs.lemmas.Option.{get_or_from_slice_get, none-some, same_Some, slice_get_within}
pub use Rattle.std.proofs.lemmas.Result.{IfOk-weaker}
pub use Rattle.std.specs.Prelude.{AllPairs, IfSome, IsSomeAnd, slice_get}
pub use Rattle.events.proofs.TimeLemmas.{NonePrecedesItself-operations, inv_rises, response_later}
pub use Rattle.events.specs.Histories.{AreHistoryEvents, IsHistory, call_count, has_range, is_shaped, is_small}
pub use Rattle.events.specs.HistoryView.{HistoryView}
pub use Rattle.events.specs.Operations.{operations}
pub use Rattle.events.specs.Precedence.{NonePrecedesItself}
pub use Rattle.events.specs.declared.event.Call.{Call}
pub use Rattle.events.specs.declared.event.Call.TheVariants.{Get, Insert, Remove, Replace, Scan}
pub use Rattle.events.specs.declared.event.Event.{Event}
pub use Rattle.events.specs.declared.event.Event.TheVariants.{Answer, Invoke}
pub use Rattle.events.specs.declared.event.Reply.{Reply}
pub use Rattle.events.specs.declared.operation.Operation.{Operation}
pub use Rattle.explain_shrink.specs.Explained.{IsExplained}
pub use Rattle.history_text.specs.Texts.{list_data, number_data}
pub use Rattle.judge.specs.Laws.{OneExactVerdict}
pub use Rattle.events.proofs.NumberLemmas.{IsSomeAnd-within, some_at}
pub use Rattle.follow_violations.specs.OwnParts.{KeyCore, key_core, part_of}
pub use Rattle.follow_violations.specs.declared.loss.Violation.{Violation}
pub use Rattle.map_object.specs.MapObject.{Contents}
pub use Rattle.follow_monitor.specs.Following.{IsFollowing}
pub use Rattle.follow_monitor.specs.Outcomes.{IsAnswered, IsKeptWith, IsLost, IsSpent}
pub use Rattle.orders.specs.Orders.{IsLinearizable, IsLinearizableHistory}
pub use Rattle.follow_monitor.specs.PrefixLaws.{AnswersHaveOneCall, HistoriesHaveFewEvents, OneEventGoesWrong, PrefixesAreHistories}
pub use Rattle.follow_monitor.specs.Prefixes.{GoesWrongAt, IsAnswerOf, prefix_of}
pub use Rattle.serde_json.specs.View.{items_of, view}
pub use Rattle.serde_json.specs.Written.{compact_text, has_float, items_have_float}
pub use Rattle.explain_locate.specs.Bisections.{IsBisected, IsJudged, IsJudgedWhole, IsLeftOpen, IsLostBetween, IsNo, IsRefutedWith, IsUndecided, IsYes}
pub use Rattle.explain_locate.specs.Bisections.{found, lower, spent, upper}
pub use Rattle.explain_locate.specs.Evidences.{IsLossEvidence, IsOwnEvidence, ShowsNoneUpTo}
pub use Rattle.explain_locate.specs.Laws.{DoNotContradict, LocationsAgree, OneLocationWhereJudged, OrdersAreFoundWhereJudged, Said, SaysNo, SaysUndecided}
pub use Rattle.explain_locate.specs.Laws.{SaysYes, said_by}
pub use Rattle.explain_locate.specs.Locations.{IsAnswerFollowed, IsDecidedByJudge, IsFoundAt, IsLocated, IsLostAt, IsUndecidedAt}
pub use Rattle.explain_locate.specs.Reports.{location_data, no_data, ordered_data}
pub use Rattle.explain_locate.specs.declared.location.Location.{Location}
pub use Rattle.explain_locate.specs.declared.location.Location.TheVariants.{Lost, No, Undecided, Yes}
