-- The names that most proofs of this crate cite, passed on from one place. Declares nothing.
pub use Rattle.std.proofs.Common.{Bool, IfOk, List, MatchOption, None, Option, Some, [], ap, arith, cond, drop, false, inl, inr, length, map, nat_le}
pub use Rattle.std.proofs.Common.{refl, subst, sym, take, true, ℕ, ⊎_elim, ◌&&◌, ◌++◌, ◌+◌, ◌-◌, ◌<◌, ◌∙◌, ◌∷◌, ◌≡◌, ◌≤◌}
pub use Rattle.std.proofs.lemmas.Bool.{and_from, and_parts, both_ways, eq-eqb, eqb-true, false≢true, le-leb, ltb-true, not-false, not-true}
pub use Rattle.std.proofs.lemmas.Bool.{not_from_false, or_left, or_parts, or_right}
pub use Rattle.std.proofs.lemmas.List.{length-drop, length-map, take_all, take_more}
pub use Rattle.std.proofs.lemmas.List.Elements.{All-contains, All-head, All-more, All-tail}
pub use Rattle.std.specs.List.{AllZip, list_any}
pub use Rattle.std.specs.Prelude.{All, AllPairs, Contains, filter, filter_map, if◌then◌else◌, is_some, nat_lt, not, ⊤, ◌==◌, ◌||◌, ◌≢◌, ◌⊎◌}
pub use Rattle.events.specs.Keys.{high_key, low_key, may_change}
pub use Rattle.events.specs.Precedence.{NonePrecedesItself, belongs, is_before, is_completed, precedes}
pub use Rattle.events.specs.declared.operation.Operation.{Operation}
pub use Rattle.events.specs.declared.operation.Response.{Response}
pub use Rattle.events.proofs.Lists.{All-from_contains, AllPairs-head, AllPairs-nil, AllPairs-tail, Contains-cases, Contains-filter, Contains-first}
pub use Rattle.events.proofs.Lists.{Contains-from_filter, Contains-later, Contains-nil, length-distinct}
pub use Rattle.events.specs.Lists.{has_number}
pub use Rattle.map_object.specs.MapObject.{Contents, IsLegalReply, IsRising, IsAllOrPartOf, above, after, after_reply, below, is_just, is_none_or_other}
pub use Rattle.map_object.specs.MapObject.{is_value, misses, put, reply_to, value_at, value_reply}
pub use Rattle.orders.specs.Orders.{IsLegal, IsLegalCall, IsLinearizable, KeepsPrecedence, after_call, after_calls}
pub use Rattle.call_effects.proofs.SetLemmas.{linearizable_from_set, same_call, set_from_linearizable}
pub use Rattle.call_effects.proofs.ValueLemmas.{IsOut, in_or_out, rising_kept, same_within, value_left}
pub use Rattle.call_effects.specs.TimeCuts.{InvocationsRise}
pub use Rattle.explain_shrink.specs.Explained.{AreEnough, IsReasonFor, IsReasonForOne, IsRest, IsUnshown, IsWithout, others_than, sizes_tried}
pub use Rattle.explain_shrink.specs.Overwriting.{is_between, says_put}
pub use Rattle.explain_shrink.specs.Relaxed.{IsCallOf, IsLeftOut, IsOverwritten, IsRelaxed}
pub use Rattle.explain_shrink.specs.Rest.{are_held, gone_of, if_belongs, is_held, is_overwritten, is_touched, left_of, may_depend_on, opened, puts_of, rest_of}
pub use Rattle.explain_shrink.specs.Tells.{depends_on, is_same, is_sure, names_key, put_by, put_of, depends_on_value, tells_put, tells_put_at, waits_for}
