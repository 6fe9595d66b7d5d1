-- The names that most proofs of this crate cite, passed on from one place. Declares nothing.
pub use Rattle.std.proofs.BoxSteps.Steps.{box_in, box_out}
pub use Rattle.std.proofs.Common.{All, Bool, List, None, Option, Result, Some, [], ap, append_assoc, arith, drop, false, get_or, inl, length, lit<}
pub use Rattle.std.proofs.Common.{map, min, refl, slice_set, subst, suc, sym, take, true, ℕ, ◌++◌, ◌+◌, ◌-◌, ◌<◌, ◌∙◌, ◌∷◌, ◌≡◌, ◌≢◌}
pub use Rattle.std.proofs.Math.Seq.{drop-append_seam, drop-cons, take-append-add, take-append_seam, take-length, take-suc}
pub use Rattle.std.proofs.ResultValues.{and_tt}
pub use Rattle.std.proofs.alloc.Calls.{Al, Goes-blank, handle_tells}
pub use Rattle.std.proofs.alloc.Shapes.{after}
pub use Rattle.std.proofs.cell.Inside.{Good, one}
pub use Rattle.std.proofs.lemmas.List.{append-nil, drop-drop, drop_all, length-append, length-drop, length-take, map_push, set-append_right, take_all}
pub use Rattle.std.proofs.raw_atomic.Walks.{leaves, proved, proved_at}
pub use Rattle.std.specs.Box.Ownership.{box_owns}
pub use Rattle.std.specs.Prelude.{IfOk, IfSome, option_map}
pub use Rattle.events.specs.HistoryView.{HistoryView, with_event}
pub use Rattle.events.specs.Operations.{operations}
pub use Rattle.events.specs.declared.event.Call.{Call}
pub use Rattle.events.specs.declared.event.Reply.{Reply}
pub use Rattle.orders.specs.Orders.{IsLinearizable, IsLinearizableHistory}
pub use Rattle.cli_outcome.specs.declared.outcome.Answer.TheVariants.{No, Undecided, Yes}
pub use Rattle.cli_outcome.specs.declared.outcome.CommandOutcome.{CommandOutcome}
pub use Rattle.cli_outcome.specs.declared.outcome.CommandOutcome.TheVariants.{Answered, Failed, Memory, Noted, Refused, Words}
pub use Rattle.cli_follow.specs.EventLines.{CallHasWords, IsWord, ReplyHasWords}
pub use Rattle.cli_follow.specs.Taken.{HasTaken}
pub use Rattle.cli_follow.specs.declared.line_follower.LineFollower.{LineFollower}
pub use Rattle.stream_text.specs.Cuts.{lines_of}
pub use Rattle.potzendai.specs.Calls.{IsBudget, IsCall, status_of, text_of, written}
pub use Rattle.potzendai.specs.Follows.{Follows, IsReportedSoFar, standing_of}
pub use Rattle.potzendai.specs.Handle.{boxed, heap, held}
pub use Rattle.potzendai.specs.Streams.{BeginUnlinearizable, SpellLinearizable}
pub use Rattle.potzendai.specs.Values.{call_line, call_of, reply_line, reply_of}
