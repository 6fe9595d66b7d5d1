-- The names that most proofs of this crate cite, passed on from one place. Declares nothing.
pub use Rattle.std.proofs.Common.{All, Err, IfOk, List, None, Ok, Option, Result, Some, [], ap, arith, below_more, fold, length, length-append}
pub use Rattle.std.proofs.Common.{length-set, map, refl, replicate, rules, slice_set, subst, suc, vec_len, zero, ℕ, ◌*◌, ◌++◌, ◌+◌, ◌<◌, ◌∙◌, ◌∷◌}
pub use Rattle.std.proofs.Common.{◌≡◌}
pub use Rattle.std.proofs.lemmas.List.{length-map, nil_from_length, replicate-append-replicate}
pub use Rattle.std.proofs.lemmas.List.Elements.{All-append, All-head, All-push, All-rest, All-tail, at_read}
pub use Rattle.std.proofs.lemmas.Result.{IfOk-weaker}
pub use Rattle.std.specs.List.{AllZip, HoldsAt}
pub use Rattle.std.specs.Prelude.{EachIndex}
pub use Rattle.std.specs.Vec.Iter.{into_iter_items}
pub use Rattle.search.specs.Exact.{IsExactAnswer}
pub use Rattle.search.specs.Found.{IsSoundAnswer}
pub use Rattle.search.specs.declared.found.Found.{Found}
pub use Rattle.orders.specs.SegmentView.{SegmentView}
pub use Rattle.tickets.specs.Hands.{counter, counter_of, left_of}
pub use Rattle.pool.specs.Answers.{AnswersOneOf}
pub use Rattle.pool.specs.Known.{IsExactIfKnown, WerePassedIfKnown, with_answer}
pub use Rattle.pool.specs.declared.worker.SegmentAnswer.{SegmentAnswer}
