use Rattle.std.proofs.Common.{◌≡◌, ℕ, ◌+◌, ◌<◌, List, ◌++◌, length, get_or, drop, refl, sym, ap, ◌∙◌, append_assoc, add-one, drop-cons}
use Rattle.events.specs.declared.operation.Operation.{Operation}
use Rattle.explain_reads_from.specs.Writers.{writers_of}
use Rattle.cli_draw.specs.Choices.{places_of, places_put}
use Rattle.cli_draw.proofs.choice.push_puts.Goals as goal

-- one pair more
puts-more : (calls : List Operation) (pairs : List (ℕ × ℕ)) (i : ℕ) (pair : ℕ × ℕ) (all places more : List ℕ) → i < length pairs
    → all ≡ places ++ places_put calls (drop i pairs) → more ≡ places ++ places_of (writers_of (get_or pairs i pair) calls)
    → all ≡ more ++ places_put calls (drop (i + 1) pairs)
puts-more calls pairs i pair all places more below before step =
    let next = places_of (writers_of (get_or pairs i pair) calls) in
    let rest = places_put calls (drop (i + 1) pairs) in
    let first : places_put calls (drop i pairs) ≡ next ++ rest = rw (add-one, drop-cons pairs i pair) refl in
    before ∙ (ap (λ (l : List ℕ). places ++ l) first ∙ (sym (append_assoc places next rest) ∙ ap (λ (l : List ℕ). l ++ rest) (sym step)))

pub loop-pair-preserved : goal.loop-pair-preserved
loop-pair-preserved c =
    puts-more c.args.calls.now c.args.pairs.now c.loop-pair.pair-index _ _ c.loop-pair.places.items c.extend_from_slice.new.self.items
    c.loop-pair-test.true c.loop-pair.invariant
    (c.in_ok-extend_from_slice.ensures.items
    ∙ ap (λ (l : List ℕ). c.loop-pair.places.items ++ l) (c.deref.ensures.value ∙ c.in_ok-put.ensures))
