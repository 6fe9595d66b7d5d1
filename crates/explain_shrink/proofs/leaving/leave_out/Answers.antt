use Rattle.explain_shrink.proofs.Common.{◌≡◌, ◌∙◌, ◌&&◌, false, sym, subst, List, list_any, Operation, NonePrecedesItself, has_number, Contents}
use Rattle.explain_shrink.proofs.Common.{IsLinearizable, InvocationsRise, gone_of, is_held, are_held}
use Rattle.reduced_search.specs.declared.found.SearchEnd.{SearchEnd}
use Rattle.reduced_search.specs.Found.{IsFound}
use Rattle.explain_shrink.proofs.RestLemmas.{rest_rises, rest_apart}
use Rattle.explain_shrink.proofs.EnoughLemmas.{rest_enough}
use Rattle.explain_shrink.proofs.leaving.leave_out.Goals as goal

pub search_calls-requires-clause-rising : goal.search_calls-requires-clause-rising
search_calls-requires-clause-rising c =
    subst InvocationsRise (sym (c.deref-5.ensures.value ∙ c.in_ok-rest.ensures))
    (rest_rises c.args.places.now c.args.calls.now c.requires.rising)

pub search_calls-requires-clause-apart : goal.search_calls-requires-clause-apart
search_calls-requires-clause-apart c =
    subst NonePrecedesItself (sym (c.deref-5.ensures.value ∙ c.in_ok-rest.ensures))
    (rest_apart c.args.places.now c.args.calls.now c.requires.apart)

pub returns-in-NoOrder : goal.returns-in-NoOrder
returns-in-NoOrder c =
    let calls = c.args.calls.now in
    let places = c.args.places.now in
    let free : are_held places calls ≡ false =
    subst
    (λ (puts : List Operation). list_any (λ (b : Operation). has_number places b.inv && is_held puts (gone_of places calls) b) calls ≡ false)
    (c.deref.ensures.value ∙ c.in_ok-puts.ensures)
    (subst
    (λ (gone : List Operation). list_any (λ (b : Operation). has_number places b.inv && is_held c.deref.result.now gone b) calls ≡ false)
    (c.deref-2.ensures.value ∙ c.in_ok-gone.ensures) (sym c.are_held.ensures ∙ c.if-are_held.false)) in
    let found = subst (λ (f : SearchEnd). IsFound c.in_ok-start.start c.deref-5.result.now c.args.budget f) c.in-NoOrder.is
    c.in_ok-search_calls.ensures in
    rest_enough c.args.map.now calls places c.in_ok-rest.rest.items c.requires.rising c.requires.apart free
    c.in_ok-rest.ensures
    (subst (λ (start : Contents). IsLinearizable start c.in_ok-rest.rest.items → ⊥) (c.in_ok-start.ensures ∙ c.pairs.ensures.pairs)
    (subst (λ (l : List Operation). IsLinearizable c.in_ok-start.start l → ⊥) c.deref-5.ensures.value found))
