use Rattle.std.proofs.Common.{◌≡◌, ℕ, ◌+◌, ◌<◌, List, ◌∷◌, ◌++◌, length, drop, sym, ap, ◌∙◌, append_assoc}
use Rattle.std.specs.List.{slice_index_or}
use Rattle.std.proofs.lemmas.List.{drop_more}
use Rattle.events.specs.declared.operation.Operation.{Operation}
use Rattle.explain_reads_from.specs.Missed.{missed_writes}
use Rattle.cli_draw.specs.Choices.{places_of, places_missed}
use Rattle.cli_draw.proofs.choice.push_missed.Goals as goal

-- one call more
missed-more : (calls few : List Operation) (i : ℕ) (call : Operation) (all places more : List ℕ) → i < length few
    → call ≡ slice_index_or few i call → all ≡ places ++ places_missed calls (drop i few)
    → more ≡ places ++ places_of (missed_writes call calls) → all ≡ more ++ places_missed calls (drop (i + 1) few)
missed-more calls few i call all places more below call_is before step =
    let next = places_of (missed_writes call calls) in
    let rest = places_missed calls (drop (i + 1) few) in
    let left : drop i few ≡ call ∷ drop (i + 1) few = drop_more few i call below ∙ ap (λ a. a ∷ drop (i + 1) few) (sym call_is) in
    before
    ∙ (ap (λ (l : List Operation). places ++ places_missed calls l) left
    ∙ (sym (append_assoc places next rest) ∙ ap (λ (l : List ℕ). l ++ rest) (sym step)))

pub loop-call-preserved : goal.loop-call-preserved
loop-call-preserved c =
    missed-more c.args.calls.now c.args.few.now c.loop-call.call-index c.call-item.result _ c.loop-call.places.items
    c.extend_from_slice.new.self.items c.loop-call-test.true c.call-item.is c.loop-call.invariant
    (c.in_ok-extend_from_slice.ensures.items
    ∙ ap (λ (l : List ℕ). c.loop-call.places.items ++ l) (c.deref.ensures.value ∙ c.in_ok-missed.ensures))
