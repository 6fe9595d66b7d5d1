use Rattle.follow_pasts.proofs.Common.{◌≡◌, ◌∙◌, [], List, map, Option, None, Some, sym, ap, subst, arith, All, into_iter_items, nil_from_length}
use Rattle.follow_pasts.proofs.Common.{IsAfterAnswer, kept_of, Past, AreLeftAfter, kept_if}
use Rattle.follow_pasts.proofs.AnsweringLemmas.{AreAnswering, answering_begins, answering_goes_on, answering_ends, left_ends, map_push, map_same}
use Rattle.follow_pasts.proofs.AnsweringLemmas.{next_rises}
use Rattle.follow_pasts.proofs.pasts.answer_pasts.Goals as goal

pub loop-past-init : goal.loop-past-init
loop-past-init c =
    let operation = c.args.operation.now in
    let old = c.args.pasts.items in
    subst (λ (l : List Past). AreAnswering operation old c.new-left.result.items l) (sym c.into_iter-past-iterator.ensures.into_iter_gives.0)
    (subst (λ (all : List Past). AreAnswering operation old all old) (sym c.new-left.ensures.items) (answering_begins operation old))

pub answer_past-requires : goal.answer_past-requires
answer_past-requires c =
    next_rises c.args.operation.now c.args.pasts.items c.loop-past.left.items (into_iter_items c.next.new.self) c.in-Some.past c.requires
    (subst (λ (l : List Past). AreAnswering c.args.operation.now c.args.pasts.items c.loop-past.left.items l) c.in-Some.ensures.steps.0
    c.loop-past.invariant)

pub loop-past-preserved : goal.loop-past-preserved
loop-past-preserved c =
    let operation = c.args.operation.now in
    let left = c.loop-past.left.items in
    let past = c.in-Some.past in
    let so_far = subst (λ (l : List Past). AreAnswering operation c.args.pasts.items left l) c.in-Some.ensures.steps.0 c.loop-past.invariant in
    answering_goes_on operation c.args.pasts.items left left (into_iter_items c.next.new.self) past None (map_same left)
    (λ o response answer changes known.
    subst (λ (n : Option Past). IsAfterAnswer o response (kept_of past) (kept_if n)) c.in_default.is
    (c.in_ok-past.ensures.after o response answer changes known))
    (subst (λ (n : Option Past). All (λ p. AreLeftAfter operation past.calls.items p.left) (kept_if n)) c.in_default.is
    c.in_ok-past.ensures.left) so_far

pub loop-past-preserved-in-Continue-branch-3 : goal.loop-past-preserved-in-Continue-branch-3
loop-past-preserved-in-Continue-branch-3 c =
    let operation = c.args.operation.now in
    let left = c.loop-past.left.items in
    let past = c.in-Some.past in
    let next = c.in-Some-2.past in
    let so_far = subst (λ (l : List Past). AreAnswering operation c.args.pasts.items left l) c.in-Some.ensures.steps.0 c.loop-past.invariant in
    answering_goes_on operation c.args.pasts.items left c.push.new.self.items (into_iter_items c.next.new.self) past (Some next)
    (ap (map kept_of) c.in_ok-push.ensures.items ∙ map_push left next)
    (λ o response answer changes known.
    subst (λ (n : Option Past). IsAfterAnswer o response (kept_of past) (kept_if n)) c.in-Some-2.is
    (c.in_ok-past.ensures.after o response answer changes known))
    (subst (λ (n : Option Past). All (λ p. AreLeftAfter operation past.calls.items p.left) (kept_if n)) c.in-Some-2.is
    c.in_ok-past.ensures.left) so_far

pub returns-clause-after : goal.returns-clause-after
returns-clause-after c =
    let operation = c.args.operation.now in
    let old = c.args.pasts.items in
    let rest = into_iter_items c.loop-past.past-iterator in
    let none : rest ≡ [] = nil_from_length rest (omega (arith, c.in-None.ensures.steps.0, c.loop-past.past-iterator.rest.ok.0)) in
    answering_ends operation old c.loop-past.left.items
    (subst (λ (l : List Past). AreAnswering operation old c.loop-past.left.items l) none c.loop-past.invariant)

pub returns-clause-left : goal.returns-clause-left
returns-clause-left c =
    let operation = c.args.operation.now in
    let old = c.args.pasts.items in
    let rest = into_iter_items c.loop-past.past-iterator in
    let none : rest ≡ [] = nil_from_length rest (omega (arith, c.in-None.ensures.steps.0, c.loop-past.past-iterator.rest.ok.0)) in
    left_ends operation old c.loop-past.left.items
    (subst (λ (l : List Past). AreAnswering operation old c.loop-past.left.items l) none c.loop-past.invariant)
