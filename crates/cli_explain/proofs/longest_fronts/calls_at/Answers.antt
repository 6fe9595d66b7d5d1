use Rattle.cli_explain.proofs.Common.{◌≡◌, ℕ, ◌+◌, ◌<◌, List, [], ◌∷◌, ◌++◌, length, take, Option, sym, ap, ◌∙◌, append-nil, Vec, Global, cons_option}
use Rattle.cli_explain.proofs.Common.{slice_index_or, slice_get, take_more, take_all, filter_map-append, Operation, calls_at}
use Rattle.cli_explain.proofs.longest_fronts.calls_at.Goals.{in-Some+in_ok-push, in_default}
use Rattle.cli_explain.proofs.longest_fronts.calls_at.Goals as goal

-- after the calls of the numbers so far, that of the next, where there is one
next_call : (calls taken : List Operation) (front : List ℕ) (i : ℕ) (found : Option Operation) → i < length front
    → taken ≡ calls_at calls (take i front) → found ≡ slice_get calls (slice_index_or front i 0)
    → taken ++ cons_option found [] ≡ calls_at calls (take (i + 1) front)
next_call calls taken front i found below so_far is =
    (λ j. so_far j ++ cons_option (is j) [])
    ∙ sym (ap (calls_at calls) (take_more front i 0 below)
    ∙ filter_map-append (slice_get calls) (take i front) (slice_index_or front i 0 ∷ []))

pub loop-number-preserved : goal.loop-number-preserved
loop-number-preserved c =
    let so_far = c.loop-number.taken.items in
    let items = λ (taken : Vec Operation Global). taken.items in
    let next = next_call c.args.calls.now so_far c.args.front.now c.loop-number.number-index c.in_ok-call.field-0
    c.loop-number-test.true c.loop-number.invariant c.in_ok-call.ensures in
    let with_found = λ (found : Option Operation). so_far ++ cons_option found [] in
    elim c.match-branch-2.branch [
      | in-Some+in_ok-push w ↦ ap items w.taken-is ∙ (w.in_ok-push.ensures.items ∙ (ap with_found (sym w.in-Some.is) ∙ next))
      | in_default w ↦ ap items w.taken-is ∙ (sym (append-nil so_far) ∙ (ap with_found (sym w.in_default.is) ∙ next))
    ]

pub returns : goal.returns
returns c = c.loop-number.invariant
    ∙ ap (calls_at c.args.calls.now) (take_all c.loop-number.number-index c.args.front.now c.loop-number-test.false)
