use Rattle.std.proofs.Common.{◌≡◌, Bool, ℕ, arith, false, [], ◌++◌, ◌-◌, List, length, take, replicate, ap, sym, refl, ◌∙◌}
use Rattle.std.proofs.Common.{subst}
use Rattle.std.proofs.lemmas.List.{take_all}
use Rattle.search_choices.specs.Standing.{IsStateBut}
use Rattle.search_choices.proofs.StandingLemmas.{stands-open}
use Rattle.reduced_search.proofs.standing.open.Goals as goal

-- a list without items that grew
resized : (old new : List Bool) (n k : ℕ) → new ≡ take n old ++ replicate (n - k) false → old ≡ [] → k ≡ 0 → new ≡ replicate n false
resized old new n k is none zero =
    let all : n - k ≡ n = omega (arith, zero) in
    let front : take n old ≡ [] = take_all n old (omega (arith, ap length none)) ∙ none in
    is ∙ ap (λ xs. xs ++ replicate (n - k) false) front ∙ ap (λ j. replicate j false) all

pub returns-clause-stands : goal.returns-clause-stands
returns-clause-stands c =
    let calls = c.args.calls.now in
    let taken =
    resized c.new-taken.result.items c.resize.new.self.items (length calls) _ c.in_ok-resize.ensures.items c.new-taken.ensures.items
    c.new-taken.ensures.len in
    subst (λ xs. IsStateBut c.args.map calls c.new.result.items 0 c.args.map c.in_ok-memo.memo xs 0) (sym taken)
    (stands-open c.args.map calls c.new.result.items c.in_ok-memo.memo c.args.map c.new.ensures.items refl c.in_ok-memo.ensures)
